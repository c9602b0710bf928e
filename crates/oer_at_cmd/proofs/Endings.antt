-- How `part --at` ends, step by step.
use Rattle.std.proofs.Common.{◌≡◌, ◌∙◌, ℕ, List, Bool, true, false, Option, Some, None, Result, Ok, Err, String, Global, Vec, inl, inr, option_map, refl, sym, ap, subst, arith, ⊎_elim}
use Rattle.std.specs.Prelude.{if◌then◌else◌, ◌⊎◌}
use Rattle.std.specs.Io.KnownBytes.{Keeps}
use Rattle.clap.specs.Words.{Text}
use Rattle.oer_model.specs.AsnType.{AsnType}
use Rattle.std.specs.Borrow.{Bor}
use Rattle.oer_types.specs.Schema.{the_type}
use Rattle.oer_types.specs.declared.schema.Schema.{Schema}
use Rattle.oer_notation.specs.Parsing.{parse_all}
use Rattle.oer_notation.specs.Reading.{find}
use Rattle.oer_notation.specs.Views.{knowns}
use Rattle.oer_notation.specs.declared.types.Types.{Types}
use Rattle.oer_options.specs.Words.{Texts, texts_of}
use Rattle.oer_options.specs.declared.options.Options.{Options}
use Rattle.oer_cmd.proofs.Endings.{refused_end}
use Rattle.oer_cmd.proofs.Meeting.{bytes, fails, goes, stops}
use Rattle.oer_cmd.specs.Answer.{expected_type, hex_octets, named_as, parsed, types_input}
use Rattle.oer_cmd.specs.Ending.{Streams}
use Rattle.oer_cmd.specs.Expected.{Expected, Meets, refusal, stop, unknown, value, ◌>>=◌}
use Rattle.oer_cmd.specs.Faults.{AppendsFront, Reports, error_line}
use Rattle.oer_cmd.specs.Octets.{octets_of}
use Rattle.oer_cmd.specs.Types.{reads_types}
use Rattle.oer_cmd.specs.declared.fault.Fault.{Fault}
use Rattle.oer_cmd.specs.declared.fault.Fault.TheVariants.{Memory}
use Rattle.oer_at_cmd.specs.Answer.{At, at_answer, at_input, expected_hops, named_answer, options_answer, or_misuse, or_no_name, texts_answer}
use Rattle.oer_at_cmd.specs.Errors.{name_line}
use Rattle.oer_at.specs.Hops.{hops_of}
use Rattle.oer_at.specs.Names.{names_in}
use Rattle.oer_at.specs.declared.hop.Hop.{Hop}
use Rattle.oer_at.specs.declared.hop.NameFault.{NameFault}
use Rattle.oer_ends_cmd.specs.declared.telling.Origin.{Origin}
use Rattle.oer_at_cmd.specs.Asking.{hex_of}
use Rattle.oer_at_cmd.specs.Ending.{IsAnswered}
use Rattle.oer_ends_cmd.specs.declared.telling.Origin.TheVariants.{Notation}

pub memory_end : (expected : Expected Text) (status : ℕ) (s : Streams) → Reports Memory status s.errors s.errors' → Keeps s.output s.output' → IsAnswered expected status s
memory_end expected status s told kept = refused_end expected Memory status s (fails {X = String Global} bytes expected Memory (λ small. omega arith)) told kept

-- a step is refused
pub refused_next : {X Y : Type 0} (view : X → Y) (m : Expected Y) (next : Y → Expected Text) (fault : Fault) (status : ℕ) (s : Streams)
    → Meets {X = X} view m (Err fault) → Reports fault status s.errors s.errors' → Keeps s.output s.output' → IsAnswered (m >>= next) status s
refused_next {X = X} view m next fault status s h told kept = refused_end (m >>= next) fault status s (stops {X = X} {Z = String Global} view bytes m next fault h) told kept

-- a step is made
pub answered_next : {X Y : Type 0} (view : X → Y) (m : Expected Y) (next : Y → Expected Text) (x : X) (status : ℕ) (s : Streams)
    → Meets view m (Ok x) → IsAnswered (next (view x)) status s → IsAnswered (m >>= next) status s
answered_next view unknown next x status s h k = inl tt
answered_next view (value y) next x status s h k = subst (λ z. IsAnswered (next z) status s) h k
answered_next view (refusal r) next x status s h k = absurd h

-- what is expected, by another name
pub answered_as : (m n : Expected Text) (status : ℕ) (s : Streams) → m ≡ n → IsAnswered m status s → IsAnswered n status s
answered_as m n status s e h = subst (λ o. IsAnswered o status s) e h

-- ---- the text of definitions

pub own_texts : (a : At) (t : Texts) (told : Option (List ℕ)) (status : ℕ) (s : Streams) → reads_types t ≡ false
    → IsAnswered (named_answer a told t) status s → IsAnswered (texts_answer a told t) status s
own_texts a t told status s own h =
    subst (λ (b : Bool). IsAnswered ((if b then (types_input a.hex told >>= λ text. value (record t { types = Some text })) else value t) >>= named_answer a told) status s) (sym own) h

by_text : (a : At) (t : Texts) (told : Option (List ℕ)) (text : String Global) (status : ℕ) (s : Streams) (m : Expected Text) → Meets bytes m (Ok text)
    → IsAnswered (named_answer a told (record t { types = Some (bytes text) })) status s
    → IsAnswered (m >>= (λ text. value (record t { types = Some text })) >>= named_answer a told) status s
by_text a t told text status s unknown h k = inl tt
by_text a t told text status s (value y) h k = subst (λ (z : Text). IsAnswered (named_answer a told (record t { types = Some z })) status s) h k
by_text a t told text status s (refusal r) h k = absurd h

pub texts_read : (a : At) (t : Texts) (told : Option (List ℕ)) (text : String Global) (status : ℕ) (s : Streams) → reads_types t ≡ true
    → Meets bytes (types_input a.hex told) (Ok text)
    → IsAnswered (named_answer a told (record t { types = Some (bytes text) })) status s → IsAnswered (texts_answer a told t) status s
texts_read a t told text status s own h k =
    subst (λ (b : Bool). IsAnswered ((if b then (types_input a.hex told >>= λ text. value (record t { types = Some text })) else value t) >>= named_answer a told) status s) (sym own)
    (by_text a t told text status s (types_input a.hex told) h k)

by_fault : (a : At) (t : Texts) (told : Option (List ℕ)) (fault : Fault) (status : ℕ) (s : Streams) (m : Expected Text) → Meets {X = String Global} bytes m (Err fault)
    → Reports fault status s.errors s.errors' → Keeps s.output s.output'
    → IsAnswered (m >>= (λ text. value (record t { types = Some text })) >>= named_answer a told) status s
by_fault a t told fault status s unknown h tells kept = inl tt
by_fault a t told fault status s (value y) h tells kept =
    let m = named_answer a told (record t { types = Some y }) in refused_end m fault status s (fails {X = String Global} bytes m fault h) tells kept
by_fault a t told fault status s (refusal r) h tells kept = refused_end (refusal r) fault status s h tells kept

pub texts_lost : (a : At) (t : Texts) (told : Option (List ℕ)) (fault : Fault) (status : ℕ) (s : Streams) → reads_types t ≡ true
    → Meets {X = String Global} bytes (types_input a.hex told) (Err fault)
    → Reports fault status s.errors s.errors' → Keeps s.output s.output' → IsAnswered (texts_answer a told t) status s
texts_lost a t told fault status s own h tells kept =
    subst (λ (b : Bool). IsAnswered ((if b then (types_input a.hex told >>= λ text. value (record t { types = Some text })) else value t) >>= named_answer a told) status s) (sym own)
    (by_fault a t told fault status s (types_input a.hex told) h tells kept)

-- the words name no type
pub lacking : (a : At) (t : Texts) (told : Option (List ℕ)) (fault : Fault) (status : ℕ) (s : Streams) → reads_types t ≡ false → expected_type t ≡ stop fault
    → Reports fault status s.errors s.errors' → Keeps s.output s.output' → IsAnswered (texts_answer a told t) status s
lacking a t told fault status s own is tells kept =
    own_texts a t told status s own
    (subst (λ (m : Expected AsnType). IsAnswered (m >>= at_answer Notation a told) status s) (sym is)
    (refused_end (stop fault) fault status s (λ small. refl) tells kept))

-- the name has no definition
pub named_lost : (a : At) (types name : Text) (told : Option (List ℕ)) (ts : Types) (fault : Fault) (status : ℕ) (s : Streams) → Meets knowns (parsed (parse_all types)) (Ok ts)
    → Meets {X = Bor Schema} (λ x. the_type x.now) (named_as name (find (knowns ts) name)) (Err fault)
    → Reports fault status s.errors s.errors' → Keeps s.output s.output'
    → IsAnswered (named_answer a told (record { one = None; types = Some types; name = Some name })) status s
named_lost a types name told ts fault status s h of tells kept =
    refused_next {X = Bor Schema} (λ x. the_type x.now) (parsed (parse_all types) >>= λ ks. named_as name (find ks name)) (at_answer Notation a told) fault status s
    (goes {Z = Bor Schema} knowns (λ x. the_type x.now) (parsed (parse_all types)) (λ ks. named_as name (find ks name)) ts (Err fault) h of) tells kept

pub named_found : (a : At) (types name : Text) (told : Option (List ℕ)) (ts : Types) (schema : Bor Schema) (status : ℕ) (s : Streams) → Meets knowns (parsed (parse_all types)) (Ok ts)
    → Meets (λ x. the_type x.now) (named_as name (find (knowns ts) name)) (Ok schema)
    → IsAnswered (at_answer Notation a told (the_type schema.now)) status s
    → IsAnswered (named_answer a told (record { one = None; types = Some types; name = Some name })) status s
named_found a types name told ts schema status s h of k =
    answered_next (λ x. the_type x.now) (parsed (parse_all types) >>= λ ks. named_as name (find ks name)) (at_answer Notation a told) schema status s
    (goes knowns (λ x. the_type x.now) (parsed (parse_all types)) (λ ks. named_as name (find ks name)) ts (Ok schema) h of) k

-- what is asked for is given to the option, or not
pub asked_answer : (names : Text) (o : Options) (hex : Option Text) (told : Option (List ℕ)) (status : ℕ) (s : Streams) → Ok hex ≡ hex_of o.task
    → IsAnswered (texts_answer (record { names = names; hex = hex; limit = o.limit }) told (texts_of o)) status s → IsAnswered (options_answer names o told) status s
asked_answer names o hex told status s is h =
    subst (λ r. IsAnswered (or_misuse r >>= λ x. texts_answer (record { names = names; hex = x; limit = o.limit }) told (texts_of o)) status s) is h

-- a name leads nowhere
pub name_lost : (origin : Origin) (a : At) (told : Option (List ℕ)) (T : AsnType) (spelt : Option (Vec ℕ Global)) (names : List Text) (fault own : NameFault)
    (status : ℕ) (s : Streams) → own ≡ fault
    → Meets (option_map octets_of) (hex_octets a.hex) (Ok spelt) → names ≡ names_in a.names → hops_of T names ≡ Err own → Keeps s.output s.output'
    → ((status ≡ 2) × AppendsFront s.errors s.errors' (name_line names fault)) ⊎ ((status ≡ 3) × AppendsFront s.errors s.errors' (error_line Memory))
    → IsAnswered (at_answer origin a told T) status s
name_lost origin a told T spelt names fault own status s own_is hex same lost kept tells =
    let err : NameFault → Result (List Hop) NameFault = λ f. Err f in
    answered_next (option_map octets_of) (hex_octets a.hex) (λ o. expected_hops T (names_in a.names) >>= λ hops. at_input origin T a.limit hops o told) spelt status s hex
    (subst (λ (l : List Text). IsAnswered (expected_hops T l >>= λ hops. at_input origin T a.limit hops (option_map octets_of spelt) told) status s) same
    (subst (λ r. IsAnswered (or_no_name names r >>= λ hops. at_input origin T a.limit hops (option_map octets_of spelt) told) status s) (sym (lost ∙ ap err own_is))
    (⊎_elim (λ (two, front). inl (two, kept, front)) (λ (three, front). inr (three, inl kept, (error_line Memory, inr (inr refl), front))) tells)))
