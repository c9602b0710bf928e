-- Each Name has the type that the programs take.
use Rattle.std.proofs.Common.{◌≡◌, ◌∷◌, ◌++◌, ℕ, zero, suc, List, [], map, Bool, true, false, cond, Option, Some, None, is_some, option_map, Result, Ok, Err, refl, sym, ap, ◌∙◌, subst, arith}
use Rattle.std.proofs.lemmas.Bool.{false≢true}
use Rattle.std.proofs.lemmas.List.Elements.{All-head, All-push, All-tail}
use Rattle.std.proofs.lemmas.Option.{slice_get-map}
use Rattle.std.proofs.lemmas.Slice.Eq.{bytes_eq-Decides}
use Rattle.std.specs.List.{All, slice_get}
use Rattle.std.specs.Option.{option_map_or}
use Rattle.std.specs.Str.{bytes_eq}
use Rattle.oer_model.specs.AsnType.{AsnType}
use Rattle.oer_model.specs.FaultTest.{first_fault}
use Rattle.oer_model.specs.declared.fault.SchemaFault.{SchemaFault}
use Rattle.oer_module_lexer.specs.Lexing.{lex}
use Rattle.oer_module_lexer.specs.Token.{Spot}
use Rattle.oer_module_names.specs.Finding.{Fault as NameFault, find_anywhere}
use Rattle.oer_module_names.specs.Laws.{FindsTheOnlyAssignment}
use Rattle.oer_module_names.specs.Standing.{Assigns, IsAt}
use Rattle.oer_module_names.specs.Tables.{assignment_names, assignments_in}
use Rattle.oer_module_names.specs.declared.error.Found.{Found}
use Rattle.oer_module_names.specs.declared.error.Place.{Place as RawPlace}
use Rattle.oer_module_syntax.specs.Tree.{Assignment, Body, Module, Tree, class_body, set_body, type_body, value_body}
use Rattle.oer_module_text.specs.Errors.{Read, error, place_in, unresolved}
use Rattle.oer_module_values.specs.Errors.{not_a_type}
use Rattle.oer_module_values.specs.Types.{TypeIn}
use Rattle.oer_modules.proofs.Definitions.{placed_by, same_ok, schema_answer}
use Rattle.oer_modules.specs.Asked.{asked, is_qualified, type_at, type_by}
use Rattle.oer_modules.specs.Causes.{Cause, ◌>>=◌, by_name, by_type}
use Rattle.oer_modules.specs.Defined.{GivesTypes, types_of_modules, with_body, with_definition, with_definitions, with_each, with_sound, with_typed}
use Rattle.oer_modules.specs.Modules.{or_misread}
use Rattle.oer_modules.specs.Named.{named_type}
use Rattle.oer_modules.specs.Nesting.{Typed, typed_by}
use Rattle.oer_modules.specs.Schemas.{name_place, placed_type, schema_by, schema_of_modules, sound_by, sound_in}
use Rattle.oer_modules.specs.Texts.{Library, no_modules, read_each}
use Rattle.oer_modules.specs.Words.{Text}
use Rattle.oer_modules.specs.declared.texts.Misread.{Misread}
use Rattle.oer_notation.specs.Reading.{Known, find}

same_some : {A : Type 0} {x y : A} → Some x ≡ Some y → x ≡ y
same_some h = cc

-- ---- each type is the one that the programs take

abbrev AreTaken : List Text → ℕ → List Known → Type 0
AreTaken ts n ks = All (λ (k : Known). schema_of_modules ts k.name n ≡ Ok k.type) ks

none_taken : (ts : List Text) (n : ℕ) → AreTaken ts n []
none_taken ts n = λ k d less. absurd (omega (arith, less))

module _ (ts : List Text) (n : ℕ) (l : Library) (h : read_each 0 (map lex ts) no_modules ≡ Ok l) where
  sound_taken : (w : Text) (x : Typed) (f : Option SchemaFault) (ks : List Known) → named_type l.modules w n ≡ Ok x → first_fault x.0 ≡ f → AreTaken ts n ks
      → AreTaken ts n (with_sound ks w x.0 f)
  sound_taken w x None ks named none are =
      let placed = placed_by l.modules w n x named in
      All-push (λ (k : Known). schema_of_modules ts k.name n ≡ Ok k.type) ks (record { name = w; type = x.0 }) are (schema_answer ts l w n placed.0 x.0 h placed.1 none)
  sound_taken w x (Some f) ks named found are = are

  typed_taken : (w : Text) (r : Result Typed Cause) (ks : List Known) → named_type l.modules w n ≡ r → AreTaken ts n ks → AreTaken ts n (with_typed ks w r)
  typed_taken w (Ok x) ks named are = sound_taken w x (first_fault x.0) ks named refl are
  typed_taken w (Err c) ks named are = are

  body_taken : (w : Text) (b : Body) (ks : List Known) → AreTaken ts n ks → AreTaken ts n (with_body l.modules n ks w b)
  body_taken w (type_body t) ks are = typed_taken w (named_type l.modules w n) ks refl are
  body_taken w (class_body fields syntax) ks are = are
  body_taken w (value_body governor value) ks are = are
  body_taken w (set_body governor set) ks are = are

  all_taken : (xs : List Assignment) (ks : List Known) → AreTaken ts n ks → AreTaken ts n (with_definitions l.modules n ks xs)
  unfolding with_definitions
  all_taken [] ks are = are
  all_taken (a ∷ xs) ks are = all_taken xs (with_definition l.modules n ks a) (body_taken a.name a.body ks are)

  each_taken : (ms : List Module) (ks : List Known) → AreTaken ts n ks → AreTaken ts n (with_each l.modules n ks ms)
  unfolding with_each
  each_taken [] ks are = are
  each_taken (m ∷ ms) ks are = each_taken ms (with_definitions l.modules n ks m.assignments) (all_taken m.assignments ks are)

-- a type that is found for a Name
found_taken : (ts : List Text) (n : ℕ) (ks : List Known) (w : Text) (T : AsnType) → AreTaken ts n ks → find ks w ≡ Some T → schema_of_modules ts w n ≡ Ok T
found_taken ts n [] w T are is = absurd (cc)
found_taken ts n (k ∷ ks) w T are is = by (bytes_eq k.name w) refl (λ found. found_taken ts n ks w T (All-tail (λ (k : Known). schema_of_modules ts k.name n ≡ Ok k.type) k ks are) found) is
  where
    by : (b : Bool) → bytes_eq k.name w ≡ b → (find ks w ≡ Some T → schema_of_modules ts w n ≡ Ok T) → cond b (Some k.type) (find ks w) ≡ Some T → schema_of_modules ts w n ≡ Ok T
    by true e more is =
        subst (λ v. schema_of_modules ts v n ≡ Ok T) ((bytes_eq-Decides k.name w).0 e)
        (All-head (λ (k : Known). schema_of_modules ts k.name n ≡ Ok k.type) k ks are ∙ ap Ok (same_some is))
    by false e more is = more is

-- ---- a Name that has a type keeps it

module _ (w : Text) where
  abbrev Has : List Known → Type 0
  Has ks = is_some (find ks w) ≡ true

  has_more : (ks : List Known) (k : Known) → Has ks → Has (ks ++ k ∷ [])
  has_more [] k h = absurd (false≢true h)
  has_more (j ∷ ks) k h = by (bytes_eq j.name w) h (has_more ks k)
    where
      by : (b : Bool) → is_some (cond b (Some j.type) (find ks w)) ≡ true → (Has ks → Has (ks ++ k ∷ [])) → is_some (cond b (Some j.type) (find (ks ++ k ∷ []) w)) ≡ true
      by true h f = refl
      by false h f = f h

  has_last : (ks : List Known) (k : Known) → k.name ≡ w → Has (ks ++ k ∷ [])
  has_last [] k is = ap (λ b. is_some (cond b (Some k.type) None)) ((bytes_eq-Decides k.name w).1 is)
  has_last (j ∷ ks) k is = by (bytes_eq j.name w) (has_last ks k is)
    where
      by : (b : Bool) → Has (ks ++ k ∷ []) → is_some (cond b (Some j.type) (find (ks ++ k ∷ []) w)) ≡ true
      by true h = refl
      by false h = h

  sound_has : (v : Text) (T : AsnType) (f : Option SchemaFault) (ks : List Known) → Has ks → Has (with_sound ks v T f)
  sound_has v T None ks h = has_more ks (record { name = v; type = T }) h
  sound_has v T (Some f) ks h = h

  typed_has : (v : Text) (r : Result Typed Cause) (ks : List Known) → Has ks → Has (with_typed ks v r)
  typed_has v (Ok x) ks h = sound_has v x.0 (first_fault x.0) ks h
  typed_has v (Err c) ks h = h

  module _ (ms : List Module) (n : ℕ) where
    body_has : (v : Text) (b : Body) (ks : List Known) → Has ks → Has (with_body ms n ks v b)
    body_has v (type_body t) ks h = typed_has v (named_type ms v n) ks h
    body_has v (class_body fields syntax) ks h = h
    body_has v (value_body governor value) ks h = h
    body_has v (set_body governor set) ks h = h

    all_have : (xs : List Assignment) (ks : List Known) → Has ks → Has (with_definitions ms n ks xs)
    unfolding with_definitions
    all_have [] ks h = h
    all_have (a ∷ xs) ks h = all_have xs (with_definition ms n ks a) (body_has a.name a.body ks h)

    each_has : (rest : List Module) (ks : List Known) → Has ks → Has (with_each ms n ks rest)
    unfolding with_each
    each_has [] ks h = h
    each_has (m ∷ rest) ks h = each_has rest (with_definitions ms n ks m.assignments) (all_have m.assignments ks h)

    -- ---- a well-formed type that is assigned is there

    module _ (x : Typed) (t : Tree) (named : named_type ms w n ≡ Ok x) (none : first_fault x.0 ≡ None) where
      given : (ks : List Known) (a : Assignment) → a.name ≡ w → a.body ≡ type_body t → Has (with_definition ms n ks a)
      given ks a is body =
          subst (λ b. Has (with_body ms n ks a.name b)) (sym body) (subst (λ v. Has (with_typed ks v (named_type ms v n))) (sym is)
          (subst (λ r. Has (with_typed ks w r)) (sym named) (subst (λ f. Has (with_sound ks w x.0 f)) (sym none)
          (has_last ks (record { name = w; type = x.0 }) refl))))

      in_list : (xs : List Assignment) (i : ℕ) (a : Assignment) (ks : List Known) → slice_get xs i ≡ Some a → a.name ≡ w → a.body ≡ type_body t → Has (with_definitions ms n ks xs)
      unfolding with_definitions
      in_list [] i a ks at is body = absurd (cc)
      in_list (b ∷ xs) zero a ks at is body =
          let same = same_some at in
          all_have xs (with_definition ms n ks b) (given ks b (ap (λ c. c.name) same ∙ is) (ap (λ c. c.body) same ∙ body))
      in_list (b ∷ xs) (suc i) a ks at is body = in_list xs i a (with_definition ms n ks b) at is body

      in_modules : (rest : List Module) (k : ℕ) (m : Module) (i : ℕ) (a : Assignment) (ks : List Known) → slice_get rest k ≡ Some m → slice_get m.assignments i ≡ Some a
          → a.name ≡ w → a.body ≡ type_body t → Has (with_each ms n ks rest)
      unfolding with_each
      in_modules [] k m i a ks at within is body = absurd (cc)
      in_modules (b ∷ rest) zero m i a ks at within is body =
          let same = same_some at in
          each_has rest (with_definitions ms n ks b.assignments) (in_list b.assignments i a ks (ap (λ c. slice_get c.assignments i) same ∙ within) is body)
      in_modules (b ∷ rest) (suc k) m i a ks at within is body = in_modules rest k m i a (with_definitions ms n ks b.assignments) at within is body

-- ---- what is taken is assigned

-- the assignment, the type that it gives, and what this comes to
record Taken (ms : List Module) (w : Text) (n : ℕ) (T : AsnType) : Type 0 where
  found : Found
  of : TypeIn
  typed : Typed
  is_found : asked ms w ≡ Ok found
  is_type : type_at ms found ≡ Ok of
  is_typed : named_type ms w n ≡ Ok typed
  none : first_fault typed.0 ≡ None
  same : typed.0 ≡ T

module _ (ts : List Text) (l : Library) (w : Text) (n : ℕ) (T : AsnType) where
  by_fault : (p : RawPlace) (U : AsnType) (f : Option SchemaFault) → first_fault U ≡ f → sound_by ts l p U f ≡ Ok T → (first_fault U ≡ None) × (U ≡ T)
  by_fault p U None found is = (found, same_ok is)
  by_fault p U (Some f) found is = absurd (cc)

  by_typed : (x : Found) (t : TypeIn) (r : Read Typed) → asked l.modules w ≡ Ok x → type_at l.modules x ≡ Ok t → typed_by l.modules n t ≡ r
      → sound_in ts l (by_type r >>= λ y. Ok (name_place l.modules x, y.0)) ≡ Ok T → Taken l.modules w n T
  unfolding named_type
  by_typed x t (Ok y) found type typed is =
      let sound = by_fault (name_place l.modules x) y.0 (first_fault y.0) refl is in record {
        found = x;
        of = t;
        typed = y;
        is_found = found;
        is_type = type;
        is_typed =
            ap (λ r. by_name r >>= λ x. by_type (type_at l.modules x) >>= λ t. by_type (typed_by l.modules n t)) found
            ∙ ap (λ r. by_type r >>= λ t. by_type (typed_by l.modules n t)) type ∙ ap by_type typed;
        none = sound.0;
        same = sound.1;
      }
  by_typed x t (Err e) found type typed is = absurd (cc)

  by_at : (x : Found) (r : Read TypeIn) → asked l.modules w ≡ Ok x → type_at l.modules x ≡ r
      → sound_in ts l (by_type r >>= λ t. by_type (typed_by l.modules n t) >>= λ y. Ok (name_place l.modules x, y.0)) ≡ Ok T → Taken l.modules w n T
  by_at x (Ok t) found type is = by_typed x t (typed_by l.modules n t) found type refl is
  by_at x (Err e) found type is = absurd (cc)

  by_found : (r : Result Found NameFault) → asked l.modules w ≡ r
      → sound_in ts l (by_name r >>= λ x. by_type (type_at l.modules x) >>= λ t. by_type (typed_by l.modules n t) >>= λ y. Ok (name_place l.modules x, y.0)) ≡ Ok T
      → Taken l.modules w n T
  by_found (Ok x) found is = by_at x (type_at l.modules x) found refl is
  by_found (Err e) found is = absurd (cc)

  taken_by : sound_in ts l (placed_type l.modules w n) ≡ Ok T → Taken l.modules w n T
  unfolding placed_type
  taken_by is = by_found (asked l.modules w) refl is

-- of a type that is given, what the assignment has
body_of : (k at : ℕ) (ps : List Spot) (b : Body) (t : TypeIn) → type_by k at ps b ≡ Ok t → (u : Tree) × (b ≡ type_body u)
body_of k at ps (type_body u) t is = (u, refl)
body_of k at ps (class_body fields syntax) t is = absurd (cc)
body_of k at ps (value_body governor value) t is = absurd (cc)
body_of k at ps (set_body governor set) t is = absurd (cc)

-- the assignment at a place that has a name
record Assigned (ms : List Module) (w : Text) : Type 0 where
  this : Module
  place : ℕ
  at : ℕ
  assignment : Assignment
  tree : Tree
  is_there : slice_get ms place ≡ Some this
  is_within : slice_get this.assignments at ≡ Some assignment
  is_named : assignment.name ≡ w
  is_type : assignment.body ≡ type_body tree

module _ (ms : List Module) (w : Text) (x : Found) (t : TypeIn) (type : type_at ms x ≡ Ok t) (m : Module) (there : slice_get ms x.«module» ≡ Some m) where
  by_assignment : (o : Option Assignment) → slice_get m.assignments x.assignment ≡ o → option_map (λ (a : Assignment). a.name) o ≡ Some w → Assigned ms w
  unfolding type_at assignments_in
  by_assignment (Some a) within named =
      let none : Read TypeIn = error (place_in x.«module» 0) (unresolved not_a_type) in
      let by = λ (a : Assignment). type_by x.«module» a.at a.parameters a.body in
      let of : by a ≡ Ok t = sym (ap (λ o. option_map_or by (slice_get (option_map_or (λ (m : Module). m.assignments) o []) x.assignment) none) there
      ∙ ap (λ o. option_map_or by o none) within) ∙ type in
      let body = body_of x.«module» a.at a.parameters a.body t of in record {
        this = m;
        place = x.«module»;
        at = x.assignment;
        assignment = a;
        tree = body.0;
        is_there = there;
        is_within = within;
        is_named = same_some named;
        is_type = body.1;
      }
  by_assignment None within named = absurd (cc)

  assigned : IsAt (assignment_names m.assignments) x.assignment w → Assigned ms w
  assigned named =
      by_assignment (slice_get m.assignments x.assignment) refl (sym (slice_get-map (λ (a : Assignment). a.name) m.assignments x.assignment) ∙ named)

-- a Name without a point is looked for in all modules
anywhere : (ms : List Module) (w : Text) (x : Found) → is_qualified w ≡ false → asked ms w ≡ Ok x → find_anywhere ms w ≡ Ok x
unfolding asked
anywhere ms w x plain is = rw plain at is

type_of_some : (o : Option AsnType) → is_some o ≡ true → (T : AsnType) × (o ≡ Some T)
type_of_some (Some T) h = (T, refl)
type_of_some None h = absurd (false≢true h)

module _ (only : FindsTheOnlyAssignment) (ts : List Text) (n : ℕ) (l : Library) (h : read_each 0 (map lex ts) no_modules ≡ Ok l) (w : Text) (T : AsnType)
    (plain : is_qualified w ≡ false) where
  taken_found : schema_of_modules ts w n ≡ Ok T → find (with_each l.modules n [] l.modules) w ≡ Some T
  unfolding schema_of_modules
  taken_found is =
      let ks = with_each l.modules n [] l.modules in
      let taken = taken_by ts l w n T (sym (ap (schema_by ts w n) h) ∙ is) in
      let here : Assigns l.modules taken.found w = ((only l.modules w taken.found).0 (anywhere l.modules w taken.found plain taken.is_found)).here in
      let a = assigned l.modules w taken.found taken.of taken.is_type here.0 here.1 here.2 in
      let has = in_modules w l.modules n taken.typed a.tree taken.is_typed taken.none l.modules a.place a.this a.at a.assignment [] a.is_there a.is_within a.is_named a.is_type in
      let some = type_of_some (find ks w) has in
      let same = found_taken ts n ks w some.0 (each_taken ts n l h l.modules [] (none_taken ts n)) some.1 in
      some.1 ∙ ap Some (same_ok (sym same ∙ is))

module _ (only : FindsTheOnlyAssignment) (ts : List Text) (n : ℕ) (ks : List Known) where
  by_read : (r : Result Library Misread) → read_each 0 (map lex ts) no_modules ≡ r → or_misread ts (λ l. Ok (with_each l.modules n [] l.modules)) r ≡ Ok ks
      → (w : Text) (T : AsnType) → is_qualified w ≡ false → (find ks w ≡ Some T → schema_of_modules ts w n ≡ Ok T) × (schema_of_modules ts w n ≡ Ok T → find ks w ≡ Some T)
  by_read (Ok l) h is w T plain =
      let same = same_ok is in (
        λ found. found_taken ts n ks w T (subst (AreTaken ts n) same (each_taken ts n l h l.modules [] (none_taken ts n))) found,
        λ taken. subst (λ js. find js w ≡ Some T) same (taken_found only ts n l h w T plain taken),
      )
  by_read (Err e) h is w T plain = absurd (cc)

pub gives_types : FindsTheOnlyAssignment → GivesTypes
unfolding types_of_modules
gives_types only ts n ks is w T plain = by_read only ts n ks (read_each 0 (map lex ts) no_modules) refl is w T plain
