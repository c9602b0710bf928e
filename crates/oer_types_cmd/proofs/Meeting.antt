-- How answers that are expected are put together.
use Rattle.std.proofs.Common.{◌≡◌, ◌∙◌, ℕ, ◌≤◌, List, [], ◌∷◌, ◌++◌, Option, Some, None, Result, Ok, Err, String, Global, refl, sym, ap, subst, arith, string_bytes}
use Rattle.std.specs.Borrow.{Bor}
use Rattle.std.specs.Prelude.{IfErr, IfOk}
use Rattle.oer_cmd.specs.Answer.{named_as, parsed, type_among}
use Rattle.oer_cmd.specs.Expected as expected
use Rattle.oer_cmd.specs.Expected.{Expected, refusal, unknown, value, ◌>>=◌}
use Rattle.oer_cmd.specs.declared.fault.Fault.{Fault}
use Rattle.oer_cmd.proofs.Meeting as meeting
use Rattle.oer_cmd.proofs.Meeting.{bytes}
use Rattle.oer_model.specs.AsnType.{AsnType}
use Rattle.oer_module_cmd.specs.Errors.{Error, Gives, Read, error_of, input, memory, not_text, options, refused, status_of as error_status}
use Rattle.oer_module_cmd.specs.Input.{text_or, with_input}
use Rattle.oer_module_cmd.specs.Given.{by_modules}
use Rattle.oer_module_cmd.specs.declared.error.Error.{Error as RawError}
use Rattle.oer_module_options.specs.Asked.{Listing, all, all_names, defined, one}
use Rattle.oer_module_options.specs.Words.{Text}
use Rattle.oer_modules.specs.Defined.{types_of_modules}
use Rattle.oer_modules.specs.Listed.{Printed}
use Rattle.oer_modules.specs.Modules.{ComesFirst, definitions_of_modules, type_of_modules}
use Rattle.oer_modules.specs.Refusals.{Refusal}
use Rattle.oer_notation.specs.Parsing.{parse_all}
use Rattle.oer_notation.specs.Reading.{Known, find}
use Rattle.oer_notation.specs.Views.{knowns}
use Rattle.oer_notation.specs.declared.types.Types.{Types}
use Rattle.oer_printer.specs.Printing.{printed}
use Rattle.oer_value_notation.specs.declared.fault.TextFault.{TextFault}
use Rattle.oer_types.specs.Schema.{the_type}
use Rattle.oer_types.specs.declared.schema.Schema.{Schema}
use Rattle.oer_types_cmd.specs.Answer.{Meets, defined_text, from_modules, given_for, listing_answer, on_a_line, printed_of, text_if}
use Rattle.oer_types_cmd.specs.Names.{names_text}
use Rattle.oer_types_cmd.specs.Stops.{by_error, stop_of}
use Rattle.oer_types_cmd.specs.declared.stop.Stop.{Stop}
use Rattle.oer_types_cmd.specs.declared.stop.Stop.TheVariants as raw

-- ---- steps

-- A failure of the machine is always allowed.
pub fails : {X Y : Type 0} (view : X → Y) (m : Expected Y) (e : Stop) → ((stop_of e).status ≤ 2 → ⊥) → Meets view m (Err e)
fails view unknown e high = tt
fails view (value y) e high = high
fails view (refusal r) e high = λ small. absurd (high small)

pub machine_fails : {X Y : Type 0} (view : X → Y) (m : Expected Y) (e : Stop) → (stop_of e).status ≡ 3 → Meets view m (Err e)
machine_fails view m e three = fails view m e (λ small. omega (arith, three, small))

-- Where a step is refused, what goes on from it is.
pub stops : {X Y Z W : Type 0} (view : X → Y) (view' : Z → W) (m : Expected Y) (next : Y → Expected W) (e : Stop)
    → Meets view m (Err e) → Meets view' (m >>= next) (Err e)
stops view view' unknown next e h = tt
stops view view' (value y) next e h = fails view' (next y) e h
stops view view' (refusal r) next e h = h

-- Where it is made, what goes on is next.
pub goes : {X Y Z W : Type 0} (view : X → Y) (view' : Z → W) (m : Expected Y) (next : Y → Expected W) (x : X)
    (r : Result Z Stop) → Meets view m (Ok x) → Meets view' (next (view x)) r → Meets view' (m >>= next) r
goes view view' unknown next x r h k = tt
goes view view' (value y) next x r h k = subst (λ z. Meets view' (next z) r) h k
goes view view' (refusal s) next x r h k = absurd h

-- ---- from definitions

pub types_met : {X Y : Type 0} (view : X → Y) (m : Expected Y) (x : X) → expected.Meets view m (Ok x) → Meets view m (Ok x)
types_met view unknown x h = tt
types_met view (refusal r) x h = h
types_met view (value y) x h = h

pub types_stopped : {X Y : Type 0} (view : X → Y) (m : Expected Y) (fault : Fault) → expected.Meets view m (Err fault)
    → Meets view m (Err (raw.Types fault))
types_stopped view unknown fault h = tt
types_stopped view (refusal r) fault h = h
types_stopped view (value y) fault h = h

-- ---- from modules

-- An error of words or modules has status 2.
pub two_of : (e : Error) → error_status e ≤ 2 → error_status e ≡ 2
two_of (options e) small = refl
two_of not_text small = refl
two_of (refused r) small = refl
two_of input small = absurd (omega (arith, small))
two_of memory small = absurd (omega (arith, small))

pub modules_met : {X Y : Type 0} (view : X → Y) (m : Read Y) (x : X) → m ≡ Ok (view x) → Meets view (from_modules m) (Ok x)
modules_met view (Ok y) x is = (cc)
modules_met view (Err e) x is = absurd (cc)

same_error : {Y : Type 0} (e f : Error) → (let r : Read Y = Err f in r) ≡ Err e → e ≡ f
same_error e f is = (cc)

pub modules_stopped : {X Y : Type 0} (view : X → Y) (m : Read Y) (e : RawError)
    → (error_status (error_of e) ≡ 2 → m ≡ Err (error_of e)) → Meets view (from_modules m) (Err (raw.Modules e))
modules_stopped view (Ok y) e h = λ small. let no = h (two_of (error_of e) small) in cc
modules_stopped {Y = Y} view (Err f) e h = λ small. ap by_error (same_error {Y = Y} (error_of e) f (h (two_of (error_of e) small)))

-- ---- the text of definitions

abbrev named : Text → List Known → Expected AsnType
named name ks = named_as name (find ks name)

abbrev type_text : AsnType → Expected Text
type_text T = text_if (printed T)

-- They are rejected.
pub undefined : (types name : Text) (fault : Fault) → expected.Meets {X = Types} knowns (parsed (parse_all types)) (Err fault)
    → Meets {X = String Global} bytes (defined_text types name) (Err (raw.Types fault))
undefined types name fault h =
    stops {X = Schema} {Z = String Global} the_type bytes (type_among None (Some types) (Some name)) type_text (raw.Types fault)
    (types_stopped {X = Schema} the_type (type_among None (Some types) (Some name)) fault
    (meeting.stops {X = Types} {Z = Schema} knowns the_type (parsed (parse_all types)) (named name) fault h))

-- None has the Name.
pub unnamed : (types name : Text) (ts : Types) (fault : Fault) → expected.Meets knowns (parsed (parse_all types)) (Ok ts)
    → expected.Meets {X = Bor Schema} (λ s. the_type s.now) (named_as name (find (knowns ts) name)) (Err fault)
    → Meets {X = String Global} bytes (defined_text types name) (Err (raw.Types fault))
unnamed types name ts fault h of =
    let view : Bor Schema → AsnType = λ s. the_type s.now in
    stops {X = Bor Schema} {Z = String Global} view bytes (type_among None (Some types) (Some name)) type_text (raw.Types fault)
    (types_stopped {X = Bor Schema} view (type_among None (Some types) (Some name)) fault
    (meeting.goes {Z = Bor Schema} knowns view (parsed (parse_all types)) (named name) ts (Err fault) h of))

-- One has it.
pub defined_met : (types name : Text) (ts : Types) (schema : Bor Schema) (r : Result (String Global) Stop)
    → expected.Meets knowns (parsed (parse_all types)) (Ok ts)
    → expected.Meets (λ s. the_type s.now) (named_as name (find (knowns ts) name)) (Ok schema)
    → Meets bytes (text_if (printed (the_type schema.now))) r → Meets bytes (defined_text types name) r
defined_met types name ts schema r h of made =
    let view : Bor Schema → AsnType = λ s. the_type s.now in
    goes view bytes (type_among None (Some types) (Some name)) type_text schema r
    (types_met view (type_among None (Some types) (Some name)) schema
    (meeting.goes knowns view (parsed (parse_all types)) (named name) ts (Ok schema) h of)) made

pub text_met : (o : Option Text) (s : String Global) → o ≡ Some (string_bytes s) → Meets bytes (text_if o) (Ok s)
text_met None s is = absurd (cc)
text_met (Some t) s is = (cc)

pub text_none : (o : Option Text) → o ≡ None → Meets {X = String Global} bytes (text_if o) (Err raw.NoNotation)
text_none None is = λ small. refl
text_none (Some t) is = absurd (cc)

-- ---- lines

-- a line feed behind a text
pub lined : (m : Expected Text) (text : String Global) (r : Result (String Global) Stop) → Meets bytes m (Ok text)
    → IfOk r (λ s. string_bytes s ≡ string_bytes text ++ 10 ∷ []) → IfErr r (λ e. (stop_of e).status ≡ 3)
    → Meets bytes (m >>= on_a_line) r
lined m text r h made failed = goes bytes bytes m on_a_line text r h (by r made failed) where
  by : (r : Result (String Global) Stop) → IfOk r (λ s. string_bytes s ≡ string_bytes text ++ 10 ∷ [])
      → IfErr r (λ e. (stop_of e).status ≡ 3) → Meets bytes (on_a_line (string_bytes text)) r
  by (Ok s) made failed = made
  by (Err e) made failed = λ small. omega (arith, failed, small)

abbrev pub both : Printed → Expected Text
both p = value (p.lines ++ p.comments)

-- definitions and comments
pub listed_all : (m : Result Printed Refusal) (s : String Global) → ComesFirst (string_bytes s) m
    → Meets bytes (from_modules (by_modules m) >>= both) (Ok s)
listed_all (Ok p) s h =
    let same : h.printed ≡ p = (let is = h.are in cc) in h.whole ∙ ap (λ (q : Printed). q.lines ++ q.comments) same
listed_all (Err r) s h = let is = h.are in absurd (cc)

abbrev pub names : List Known → Expected Text
names ks = value (names_text ks)

-- Names
pub names_met : (m : Result (List Known) Refusal) (ks : List Known) (s : String Global) → m ≡ Ok ks → string_bytes s ≡ names_text ks
    → Meets bytes (from_modules (by_modules m) >>= names) (Ok s)
names_met (Ok js) ks s is made = let same : ks ≡ js = (cc) in made ∙ ap names_text same
names_met (Err r) ks s is made = absurd (cc)

-- The modules can't be read, whatever is made of them.
pub unlisted_all : {A : Type 0} (next : A → Expected Text) (m : Result A Refusal) (e : RawError)
    → Gives {X = A} (λ x. x) (Err e) (by_modules m) → Meets {X = String Global} bytes (from_modules (by_modules m) >>= next) (Err (raw.Modules e))
unlisted_all {A = A} next m e h =
    let view : A → A = λ x. x in
    stops {X = A} {Z = String Global} view bytes (from_modules (by_modules m)) next (raw.Modules e)
    (modules_stopped {X = A} view (by_modules m) e h)

-- ---- a listing

-- what is made of the given text
pub listed : (told : Option (List ℕ)) (l : Listing) (ts : List Text) (given : String Global) (text : Text) (r : Result (String Global) Stop)
    → Meets bytes (given_for l ts told) (Ok given) → text ≡ string_bytes given → Meets bytes (printed_of l ts text) r
    → Meets bytes (listing_answer l ts told) r
listed told l ts given text r read same made = goes bytes bytes (given_for l ts told) (printed_of l ts) given r read
    (subst (λ (w : Text). Meets bytes (printed_of l ts w) r) same made)

-- There is none.
pub unlisted : (told : Option (List ℕ)) (l : Listing) (ts : List Text) (e : Stop)
    → Meets {X = String Global} bytes (given_for l ts told) (Err e) → Meets {X = String Global} bytes (listing_answer l ts told) (Err e)
unlisted told l ts e h = stops {X = String Global} {Z = String Global} bytes bytes (given_for l ts told) (printed_of l ts) e h

-- ---- what is printed is known

abbrev IsKnown : {A : Type 0} → Expected A → Type 0
IsKnown unknown = ⊥
IsKnown (refusal r) = Unit {0}
IsKnown (value x) = Unit {0}

known_next : {A B : Type 0} (m : Expected A) (next : A → Expected B) → IsKnown m → ((x : A) → IsKnown (next x)) → IsKnown (m >>= next)
known_next unknown next h k = absurd h
known_next (refusal r) next h k = tt
known_next (value x) next h k = k x

parsed_known : {A : Type 0} (r : Result A TextFault) → IsKnown (parsed r)
parsed_known (Ok x) = tt
parsed_known (Err e) = tt

named_known : (name : Text) (o : Option AsnType) → IsKnown (named_as name o)
named_known name None = tt
named_known name (Some T) = tt

text_known : (o : Option Text) → IsKnown (text_if o)
text_known None = tt
text_known (Some t) = tt

modules_known : {A : Type 0} (m : Read A) → IsKnown (from_modules m)
modules_known (Ok x) = tt
modules_known (Err e) = tt

defined_known : (types name : Text) → IsKnown (defined_text types name)
defined_known types name =
    known_next (type_among None (Some types) (Some name)) type_text
    (known_next (parsed (parse_all types)) (named name) (parsed_known (parse_all types)) (λ ks. named_known name (find ks name)))
    (λ T. text_known (printed T))

printed_known : (l : Listing) (ts : List Text) (given : Text) → IsKnown (printed_of l ts given)
printed_known (defined types name) ts given =
    known_next (defined_text (text_or given types) name) on_a_line (defined_known (text_or given types) name) (λ t. tt)
printed_known (one name n) ts given =
    let m = by_modules (type_of_modules (with_input given ts) name n) in
    known_next (from_modules m) on_a_line (modules_known m) (λ t. tt)
printed_known (all n) ts given =
    let m = by_modules (definitions_of_modules (with_input given ts) n) in
    known_next (from_modules m) both (modules_known m) (λ p. tt)
printed_known (all_names n) ts given =
    let m = by_modules (types_of_modules (with_input given ts) n) in
    known_next (from_modules m) names (modules_known m) (λ ks. tt)

abbrev pub printable : Text → Expected Text
printable t = value t

-- It is what a function gives.
pub is_printed : (l : Listing) (ts : List Text) (given : Text) (s : String Global) → Meets bytes (printed_of l ts given) (Ok s)
    → printed_of l ts given ≡ printable (string_bytes s)
is_printed l ts given s h = by (printed_of l ts given) (printed_known l ts given) h where
  by : (m : Expected Text) → IsKnown m → Meets bytes m (Ok s) → m ≡ printable (string_bytes s)
  by unknown k h = absurd k
  by (refusal r) k h = absurd h
  by (value t) k h = ap printable (sym h)
