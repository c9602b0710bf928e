-- From the type of a tree to that of a Name in a module.
use Rattle.std.proofs.Common.{◌≡◌, ◌∙◌, ◌==◌, ◌≤◌, ℕ, zero, suc, List, [], ◌∷◌, ◌++◌, Bool, true, false, Option, Some, None, Result, Ok, Err, refl, sym, ap, subst, arith}
use Rattle.std.specs.Prelude.{map, slice_get}
use Rattle.std.specs.List.{All}
use Rattle.std.specs.Option.{option_map_or}
use Rattle.oer_model.specs.AsnType.{AsnType}
use Rattle.oer_model.specs.FaultTest.{first_fault}
use Rattle.oer_model.specs.Nodes.{type_nodes}
use Rattle.oer_model.specs.WellFormed.{IsWellFormed}
use Rattle.oer_model.specs.declared.fault.SchemaFault.{SchemaFault}
use Rattle.oer_model.specs.declared.fault.SchemaFault.TheVariants.{BoundOrder, SizeOrder}
use Rattle.oer_module_lexer.specs.Lexing.{lex}
use Rattle.oer_module_names.specs.Finding.{find_anywhere}
use Rattle.oer_module_names.specs.Tables.{assignments_in}
use Rattle.oer_module_names.specs.declared.error.Found.{Found}
use Rattle.oer_module_names.specs.declared.error.Place.{Place}
use Rattle.oer_module_places.specs.Laws.{PlacesRise}
use Rattle.oer_module_places.specs.Rising.{Rise}
use Rattle.oer_module_syntax.specs.Modules.{modules_of}
use Rattle.oer_module_syntax.specs.Tree.{Assignment, Module, Tree}
use Rattle.oer_module_text.specs.Errors.{Read, Why, error, place_in, too_long, unresolved}
use Rattle.oer_module_values.specs.Errors.{not_a_type}
use Rattle.oer_module_text.specs.Room.{Room, new}
use Rattle.oer_module_types.specs.Types.{type_at, typed}
use Rattle.oer_module_values.specs.Types.{type_in}
use Rattle.oer_modules.specs.Asked.{asked, is_qualified, type_at as assigned_type, type_by}
use Rattle.oer_modules.specs.Causes.{Cause, by_name, by_type}
use Rattle.oer_modules.specs.Causes.{◌>>=◌ as ◌>>=ᶜ◌}
use Rattle.oer_modules.specs.Words.{Text}
use Rattle.oer_modules.specs.Nesting.{Typed, else_less, is_over, most, typed_by, usual}
use Rattle.oer_modules.specs.Schemas.{NoType, refused, rejected, name_place, placed_type, schema_by, schema_of_modules, sound_by, sound_in}
use Rattle.oer_modules.specs.Texts.{Library, no_modules, read_each, with_modules, with_read, with_text}
use Rattle.oer_modules.specs.Texts.{◌>>=◌ as ◌>>=ᵗ◌}
use Rattle.oer_notation.specs.Grammar.{AreWellFormed, IsDefined, later_definition, this_definition}
use Rattle.oer_notation.specs.Laws.{ParseAllSound}
use Rattle.oer_notation.specs.Reading.{Known, find}
use Rattle.oer_notation.proofs.WordTable.{find_sound}
use Rattle.oer_same_items.specs.Told.{IsLimit, Tells}
use Rattle.oer_same_limits.proofs.Counted.{is_within}
use Rattle.oer_same_limits.proofs.Telling.{Gives, bind, choose}
use Rattle.oer_same_limits.specs.Laws.{TakesItsParts}
use Rattle.oer_same_limits.specs.Short.{AllShort}
use Rattle.oer_same_limits.specs.Takes.{IsOther, Takes}
use Rattle.oer_same_names.proofs.Found.{assignments_home}
use Rattle.oer_same_names.specs.Home.{IsFront, IsHome}
use Rattle.oer_same_names.specs.Laws.{FindsDefinition, NamesAreFoundAnywhere}
use Rattle.oer_same_names.specs.Meant.{Defines, IsTreeBehind}
use Rattle.oer_same_tokens.specs.Same.{has_odd_space}
use Rattle.oer_same_trees.specs.Defining.{AssignmentsSay, IsPlain}
use Rattle.oer_same_trees.specs.Laws.{AreRead, ReadsParsed, lexed}
use Rattle.oer_same_trees.specs.Says.{Says}
use Rattle.oer_same_types.specs.Laws.{SameType, UnsizedIsSound}
use Rattle.oer_same_types.specs.Ordinary.{IsOrdinary}
use Rattle.oer_same_types.specs.Unsized.{unsized}
use Rattle.oer_same_modules.proofs.Odd.{nothing_odd, only_long}
use Rattle.oer_same_modules.specs.Laws.{AreShortIn, IsModuleOf, IsOrdinaryIn, IsParsersLimit, OrdinaryAsParser, SameAsParser, SaysOf, ShortAsParser}

-- ---- a type that stands in none

-- the tree of a definition, with those before it, which says the type
record IsDefinition (ms : List Module) (ks : List Known) (home : IsHome ms ks) (T : AsnType) (t : Tree) : Type 0 where
  known : List Known
  front : IsFront known ks
  there : IsTreeBehind home.home.assignments known t
  says : Says known T t

-- the type without the sizes of its lists, or such a reason
abbrev GivesType : {B : Type 0} → (Why → Type 0) → AsnType → Read (AsnType × B) → Type 0
GivesType {B} R T r = Gives R (λ (y : AsnType × B). y.0 ≡ unsized T) r

typed_same : (R : Why → Type 0) (ms : List Module) (T : AsnType) (t : Tree) (n : ℕ) → GivesType R T (type_at ms n 32 [] (type_in 0 t) new)
    → GivesType R T (typed ms n (type_in 0 t))
unfolding typed
typed_same R ms T t n h = bind (λ (x : AsnType × Room). x.0 ≡ unsized T) (λ (y : Typed). y.0 ≡ unsized T) (type_at ms n 32 [] (type_in 0 t) new) _ h (λ x is.
    record { given = is })

-- the most that fits is written out to some nesting
less_told : (R : Why → Type 0) (T : AsnType) (r less : Read Typed) → GivesType R T r → GivesType R T less → GivesType R T (else_less r less)
less_told R T (Ok y) less h k = h
less_told R T (Err e) less h k = choose (λ (y : Typed). y.0 ≡ unsized T) (is_over e.why) less (Err e) (λ over. k) (λ other. record { given = h.given })

most_told : (R : Why → Type 0) (T : AsnType) (f : ℕ → Read Typed) (k : ℕ) → ((n : ℕ) → 1 ≤ n → GivesType R T (f n)) → GivesType R T (most f k)
unfolding most
most_told R T f zero all = all 1 (omega arith)
most_told R T f (suc k) all = less_told R T (f (suc (suc k))) (most f k) (all (suc (suc k)) (omega arith)) (most_told R T f k all)

some_nesting : (n : ℕ) → n == 0 ≡ false → 1 ≤ n
some_nesting zero h = absurd (cc)
some_nesting (suc n) h = omega arith

typed_by_same : (R : Why → Type 0) (ms : List Module) (T : AsnType) (t : Tree) (n : ℕ) → ((k : ℕ) → 1 ≤ k → GivesType R T (type_at ms k 32 [] (type_in 0 t) new))
    → GivesType R T (typed_by ms n (type_in 0 t))
unfolding usual
typed_by_same R ms T t n h =
    choose (λ (y : Typed). y.0 ≡ unsized T) (n == 0) _ _ (λ none. most_told R T (λ k. typed ms k (type_in 0 t)) 7 (λ k once. typed_same R ms T t k (h k once)))
    (λ some. typed_same R ms T t n (h n (some_nesting n some)))

-- ---- what a Name stands for

is_assigned : (ms : List Module) (ks : List Known) (w : List ℕ) (T : AsnType) (x : Found) (a : Assignment) (d : Defines ks w T a)
    → slice_get (assignments_in ms x.«module») x.assignment ≡ Some a → assigned_type ms x ≡ Ok (type_in x.«module» d.tree)
unfolding assigned_type
is_assigned ms ks w T x a d is =
    ap (λ o. option_map_or (λ (b : Assignment). type_by x.«module» b.at b.parameters b.body) o (error (place_in x.«module» 0) (unresolved not_a_type))) is
    ∙ ap (λ ps. type_by x.«module» a.at ps a.body) d.without ∙ ap (λ b. type_by x.«module» a.at [] b) d.body_is

-- what is found for a Name is the tree of its definition
assigned : (ms : List Module) (ks : List Known) (home : IsHome ms ks) (w : List ℕ) (T : AsnType) (x : Found) → FindsDefinition ms ks w T x
    → (t : Tree) × IsDefinition ms ks home T t × (assigned_type ms x ≡ Ok (type_in 0 t))
assigned ms ks home w T x (a, at_home, is, d, count) = (
  d.tree,
  record {
    known = d.says.known;
    front = d.says.front;
    there = record {
      assignment = a;
      is = ap (slice_get home.home.assignments) count
          ∙ ap (λ l. slice_get l x.assignment) (sym (assignments_home ms ks home x.«module» at_home)) ∙ is;
      body_is = d.body_is;
    };
    says = d.says.says;
  },
  is_assigned ms ks w T x a d is ∙ ap (λ k. Ok (type_in k d.tree)) at_home,
)

-- ---- step by step

asked_alone : (ms : List Module) (w : List ℕ) → is_qualified w ≡ false → asked ms w ≡ find_anywhere ms w
unfolding asked
asked_alone ms w alone = rw alone refl

-- what is told of a Name, with a place
abbrev TellsOf : (Why → Type 0) → AsnType → Result (Place × AsnType) Cause → Type 0
TellsOf R T (Ok y) = y.1 ≡ unsized T
TellsOf R T (Err c) = R c.why

with_place : (R : Why → Type 0) (T : AsnType) (p : Place) (r : Read Typed) → GivesType R T r → TellsOf R T (by_type r >>=ᶜ λ y. Ok (p, y.0))
with_place R T p (Ok y) h = h.given
with_place R T p (Err e) h = h.given

-- each tree of a definition of this type is given it, or there is such a reason
abbrev TreesGive : (Why → Type 0) → (ms : List Module) (ks : List Known) → IsHome ms ks → AsnType → Type 0
TreesGive R ms ks home T = (t : Tree) → IsDefinition ms ks home T t → (k : ℕ) → 1 ≤ k → GivesType R T (type_at ms k 32 [] (type_in 0 t) new)

placed_same : (R : Why → Type 0) (found : NamesAreFoundAnywhere) (ms : List Module) (ks : List Known) (w : List ℕ) (T : AsnType) (n : ℕ)
    (home : IsHome ms ks) → TreesGive R ms ks home T → IsDefined w T ks → is_qualified w ≡ false → TellsOf R T (placed_type ms w n)
unfolding placed_type
placed_same R found ms ks w T n home give defined alone =
    let there = found ms ks w T home defined in
    let x : Found = there.0 in
    let s = assigned ms ks home w T x there.2 in
    subst (λ r. TellsOf R T (by_name r >>=ᶜ λ x. by_type (assigned_type ms x) >>=ᶜ λ t. by_type (typed_by ms n t) >>=ᶜ λ y. Ok (name_place ms x, y.0)))
    (sym (asked_alone ms w alone ∙ there.1))
    (subst (λ r. TellsOf R T (by_type r >>=ᶜ λ t. by_type (typed_by ms n t) >>=ᶜ λ y. Ok (name_place ms x, y.0))) (sym s.2)
    (with_place R T (name_place ms x) (typed_by ms n (type_in 0 s.0)) (typed_by_same R ms T s.0 n (give s.0 s.1))))

-- ---- a text

-- a type without faults isn't rejected for one
sound_same : (R : Why → Type 0) (ts : List Text) (l : Library) (p : Place) (S U : AsnType) (f : Option SchemaFault) → S ≡ U → first_fault S ≡ f
    → first_fault U ≡ None → SaysOf R U (sound_by ts l p S f)
sound_same R ts l p S U None is h none = is
sound_same R ts l p S U (Some f) is h none = absurd (let some = sym (ap first_fault is) ∙ h in let e = sym none ∙ some in cc)

sounds : (R : Why → Type 0) (ts : List Text) (l : Library) (T : AsnType) (r : Result (Place × AsnType) Cause) → TellsOf R T r → first_fault (unsized T) ≡ None
    → SaysOf R (unsized T) (sound_in ts l r)
sounds R ts l T (Ok y) is none = sound_same R ts l y.0 y.1 (unsized T) (first_fault y.1) is refl none
sounds R ts l T (Err c) limit none = limit

text_read : (text : List ℕ) (m : Module) → modules_of 64 (lexed text) ≡ Ok (m ∷ [])
    → read_each 0 (map lex (text ∷ [])) no_modules ≡ Ok (with_modules 0 (m ∷ []) no_modules)
unfolding read_each with_text
text_read text m reads = ap (λ r. with_read 0 no_modules r >>=ᵗ read_each 1 []) reads

-- a law on each of one
of_one : (P : Module → Type 0) (m : Module) → All P (m ∷ []) → P m
of_one P m all = all 0 m (omega arith)

-- the module that is read, alone
abbrev home_of : (name : List ℕ) (ks : List Known) (m : Module) → IsPlain name m → AssignmentsSay [] ks m.assignments → IsHome (m ∷ []) ks
home_of name ks m plain says = record { name = name; home = m; alone = refl; plain = plain; says = says }

module_same : (R : Why → Type 0) (found : NamesAreFoundAnywhere) (text name : List ℕ) (ks : List Known) (w : List ℕ) (T : AsnType) (n : ℕ)
    (read : AreRead 64 name ks (lexed text)) → TreesGive R (read.0 ∷ []) ks (home_of name ks read.0 read.2 read.3) T → is_qualified w ≡ false
    → find ks w ≡ Some T → first_fault (unsized T) ≡ None → SaysOf R (unsized T) (schema_of_modules (text ∷ []) w n)
unfolding schema_of_modules
module_same R found text name ks w T n (m, reads, plain, says) give alone defined none =
    let ts : List Text = text ∷ [] in
    let l : Library = with_modules 0 (m ∷ []) no_modules in
    let home : IsHome (m ∷ []) ks = home_of name ks m plain says in
    subst (λ r. SaysOf R (unsized T) (schema_by ts w n r)) (sym (text_read text m reads))
    (sounds R ts l T (placed_type (m ∷ []) w n) (placed_same R found (m ∷ []) ks w T n home give (find_sound ks w T defined) alone) none)

module_read : ReadsParsed → (text name : List ℕ) (ks : List Known) → IsModuleOf text name ks → AreRead 64 name ks (lexed text)
module_read reads text name ks m =
    let plain : has_odd_space (m.start ++ 10 ∷ (m.body ++ 10 ∷ m.end)) ≡ false = ap has_odd_space (sym m.is) ∙ m.plain in
    subst (λ (t : List ℕ). AreRead 64 name ks (lexed t)) (sym m.is)
    (reads 64 name ks m.start m.body m.end m.header_is m.parsed m.end_is plain m.unreserved (omega arith) m.reference)

-- ---- the laws

-- the type of a Name that our parser reads is well-formed
defined_sound : (w : List ℕ) (T : AsnType) (ks : List Known) → AreWellFormed ks → IsDefined w T ks → IsWellFormed T
defined_sound w _ _ all (this_definition e) = all.0
defined_sound w T _ all (later_definition {ks = ks} other d) = defined_sound w T ks all.1 d

module _ (parsed : ParseAllSound) (reads : ReadsParsed) (found : NamesAreFoundAnywhere) (rise : PlacesRise) (type_same : SameType) (parts : TakesItsParts)
    (sound : UnsizedIsSound) (text name : List ℕ) (ks : List Known) (w : List ℕ) (T : AsnType) (n : ℕ) (is : IsModuleOf text name ks)
    (alone : is_qualified w ≡ false) (defined : find ks w ≡ Some T) where
  read : AreRead 64 name ks (lexed text)
  read = module_read reads text name ks is

  well_formed : IsWellFormed T
  well_formed = defined_sound w T ks (parsed is.body ks is.parsed).1 (find_sound ks w T defined)

  none : first_fault (unsized T) ≡ None
  none = sound T well_formed

  abbrev home : IsHome (read.0 ∷ []) ks
  home = home_of name ks read.0 read.2 read.3

  -- what two laws say of one type
  both_told : (R : Why → Type 0) (o short : Bool) (m : ℕ) (r : Room) (p : Read (AsnType × Room)) → ((why : Why) → IsLimit o why → IsOther short why → R why)
      → Tells o (λ (x : AsnType × Room). x.0 ≡ unsized T) p → Takes short m r p → GivesType R T p
  both_told R o short m r (Ok x) both h k = record { given = h }
  both_told R o short m r (Err e) both h k = record { given = both e.why h k }

  trees_give : (R : Why → Type 0) (o short : Bool) → ((why : Why) → IsLimit o why → IsOther short why → R why) → (o ≡ true → IsOrdinary (read.0 ∷ []) ks read.0.assignments T)
      → (short ≡ true → AllShort read.0.assignments) → TreesGive R (read.0 ∷ []) ks home T
  trees_give R o short both ordinary all t d k once =
      let rises : Rise 0 read.0.assignments = of_one (λ m. Rise 0 m.assignments) read.0 (rise 64 text (read.0 ∷ []) read.1) in
      let within = is_within T none in
      both_told R o short (type_nodes T) new (type_at (read.0 ∷ []) k 32 [] (type_in 0 t) new) both
      (type_same o (read.0 ∷ []) ks d.known T t k 32 new home rises d.front d.there d.says once ordinary)
      (parts short (read.0 ∷ []) ks d.known T t k 32 new home rises d.front d.there d.says once within.levels within.parts (omega arith)
      (λ on. (all on, well_formed.widths, omega arith)))

  pub parser_same : SaysOf IsParsersLimit (unsized T) (schema_of_modules (text ∷ []) w n)
  parser_same = module_same IsParsersLimit found text name ks w T n read
      (trees_give IsParsersLimit false false (λ why limit other. (limit, other)) (λ on. absurd (cc)) (λ on. absurd (cc))) alone defined none

  ordinary_of : IsOrdinaryIn text ks T → IsOrdinary (read.0 ∷ []) ks read.0.assignments T
  ordinary_of h = record {
    few = h.few;
    standard = h.standard read.0 read.1;
    sound = nothing_odd T (well_formed.faultless BoundOrder) (well_formed.faultless SizeOrder) h.no_last_end;
    widths = well_formed.widths;
  }

  pub ordinary_same : IsOrdinaryIn text ks T → SaysOf (λ why. why ≡ too_long) (unsized T) (schema_of_modules (text ∷ []) w n)
  ordinary_same h = module_same (λ why. why ≡ too_long) found text name ks w T n read
      (trees_give (λ why. why ≡ too_long) true false (λ why limit other. (only_long false why limit other).0) (λ on. ordinary_of h) (λ on. absurd (cc))) alone defined none

  -- what isn't rejected for any reason
  given : (p : Result AsnType NoType) → SaysOf (λ why. ⊥) (unsized T) p → p ≡ Ok (unsized T)
  given (Ok S) h = ap (λ S. Ok S) h
  given (Err (refused r)) h = absurd h
  given (Err (rejected q why)) h = absurd h

  pub short_same : IsOrdinaryIn text ks T → AreShortIn text → schema_of_modules (text ∷ []) w n ≡ Ok (unsized T)
  short_same h all = given (schema_of_modules (text ∷ []) w n) (module_same (λ why. ⊥) found text name ks w T n read
      (trees_give (λ why. ⊥) true true (λ why limit other. let long = (only_long true why limit other).1 in absurd (cc)) (λ on. ordinary_of h) (λ on. all read.0 read.1))
      alone defined none)

pub same_as_parser : ParseAllSound → ReadsParsed → NamesAreFoundAnywhere → PlacesRise → SameType → TakesItsParts → UnsizedIsSound → SameAsParser
same_as_parser parsed reads found rise type_same parts sound text name ks w T n is alone defined =
    parser_same parsed reads found rise type_same parts sound text name ks w T n is alone defined

pub ordinary_as_parser : ParseAllSound → ReadsParsed → NamesAreFoundAnywhere → PlacesRise → SameType → TakesItsParts → UnsizedIsSound → OrdinaryAsParser
ordinary_as_parser parsed reads found rise type_same parts sound text name ks w T n is alone defined h =
    ordinary_same parsed reads found rise type_same parts sound text name ks w T n is alone defined h

pub short_as_parser : ParseAllSound → ReadsParsed → NamesAreFoundAnywhere → PlacesRise → SameType → TakesItsParts → UnsizedIsSound → ShortAsParser
short_as_parser parsed reads found rise type_same parts sound text name ks w T n is alone defined h all =
    short_same parsed reads found rise type_same parts sound text name ks w T n is alone defined h all
