-- From the type of a tree to that of a Name in texts.
use Rattle.std.proofs.Common.{◌≡◌, ◌∙◌, ◌==◌, ◌≤◌, ◌⊎◌, inl, inr, ℕ, zero, suc, List, [], ◌∷◌, Bool, true, false, Option, Some, None, Result, Ok, Err}
use Rattle.std.proofs.Common.{if◌then◌else◌, refl, sym, ap, subst, arith, slice_get}
use Rattle.std.proofs.lemmas.Bool.{eqb-true}
use Rattle.std.specs.List.{after_first, before_first}
use Rattle.std.specs.Prelude.{map}
use Rattle.std.specs.Option.{option_map_or}
use Rattle.oer_model.specs.AsnType.{AsnType}
use Rattle.oer_model.specs.FaultTest.{first_fault}
use Rattle.oer_model.specs.declared.fault.SchemaFault.{SchemaFault}
use Rattle.oer_module_lexer.specs.Lexing.{lex}
use Rattle.oer_module_lexer.specs.Token.{Spot}
use Rattle.oer_module_names.specs.Finding.{Fault, find, find_anywhere, find_module, ◌>>=◌}
use Rattle.oer_module_names.specs.Laws.{FindsTheOnlyAssignment, FindsTheOnlyModule, FindsWhatStands}
use Rattle.oer_module_names.specs.Tables.{assignments_in}
use Rattle.oer_module_names.specs.declared.error.Found.{Found}
use Rattle.oer_module_names.specs.declared.error.Place.{Place}
use Rattle.oer_module_syntax.specs.Tree.{Assignment, Body, Module, Tree, class_body, set_body, type_body, value_body}
use Rattle.oer_module_text.specs.Errors.{Error, Read, error, place_in, unresolved}
use Rattle.oer_module_types.specs.Types.{typed}
use Rattle.oer_module_values.specs.Errors.{not_a_type}
use Rattle.oer_module_values.specs.Types.{TypeIn, type_in}
use Rattle.oer_modules.specs.Asked.{asked, is_point, is_qualified, type_at, type_by, type_without}
use Rattle.oer_modules.specs.Causes.{Cause, by_name, by_type}
use Rattle.oer_modules.specs.Causes.{◌>>=◌ as ◌>>=ᶜ◌}
use Rattle.oer_modules.specs.Nesting.{Typed, else_less, is_over, most, typed_by, usual}
use Rattle.oer_modules.specs.Schemas.{name_place, placed_type, schema_by, schema_of_modules, sound_by, sound_in}
use Rattle.oer_modules.specs.Texts.{Library, no_modules, read_each}
use Rattle.oer_modules.specs.declared.texts.Misread.{Misread}
use Rattle.oer_meant_modules.specs.Laws.{Asks, HaveType, IsTypeOf, NamesAreMeant, alone, within}
use Rattle.oer_meant_types.specs.Laws.{TypesAreSound}
use Rattle.oer_meant_types.specs.Types.{IsType}

-- ---- what is asked for

told_name : {A : Type 0} (r : Result A Fault) (x : A) → by_name r ≡ Ok x → r ≡ Ok x
told_name (Ok y) x e = cc
told_name (Err y) x e = absurd (cc)

told_type : {A : Type 0} (r : Read A) (x : A) → by_type r ≡ Ok x → r ≡ Ok x
told_type (Ok y) x e = cc
told_type (Err y) x e = absurd (cc)

bind_ok : {A B : Type 0} (r : Result A Cause) (f : A → Result B Cause) (b : B) → (r >>=ᶜ f) ≡ Ok b → (a : A) × (r ≡ Ok a) × (f a ≡ Ok b)
bind_ok (Ok a) f b h = (a, refl, h)
bind_ok (Err e) f b h = absurd (cc)

module _ (only : FindsTheOnlyAssignment) (only_module : FindsTheOnlyModule) (stands : FindsWhatStands) (ms : List Module) (w : List ℕ) where
  qualified : (x : Found) (r : Result ℕ Fault) → is_qualified w ≡ true → find_module ms (before_first is_point w) ≡ r
      → (r >>= λ k. find ms k (after_first is_point w)) ≡ Ok x → Asks ms w x
  qualified x (Ok k) q is h =
      within k q ((only_module ms (before_first is_point w) k).0 is) ((stands ms (after_first is_point w) k x).0 h)
  qualified x (Err e) q is h = absurd (cc)

  asks_by : (b : Bool) (x : Found) → is_qualified w ≡ b
      → (if b then (find_module ms (before_first is_point w) >>= λ k. find ms k (after_first is_point w)) else find_anywhere ms w) ≡ Ok x → Asks ms w x
  asks_by true x q h = qualified x (find_module ms (before_first is_point w)) q refl h
  asks_by false x q h = alone q ((only ms w x).0 h)

  asks : (x : Found) → asked ms w ≡ Ok x → Asks ms w x
  unfolding asked
  asks x h = asks_by (is_qualified w) x refl h

-- ---- its type

-- an assignment without parameters of a type in a module
record Assigned (ms : List Module) (x : Found) (t : TypeIn) : Type 0 where
  assignment : Assignment
  is : slice_get (assignments_in ms x.«module») x.assignment ≡ Some assignment
  without : assignment.parameters ≡ []
  body : assignment.body ≡ type_body t.type
  module_is : x.«module» ≡ t.«module»

without_is : (k at : ℕ) (ps : List Spot) (u : Tree) (t : TypeIn) → type_without k at ps u ≡ Ok t → (ps ≡ []) × (type_in k u ≡ t)
without_is k at [] u t h = (refl, cc)
without_is k at (p ∷ ps) u t h = absurd (cc)

body_is : (k at : ℕ) (ps : List Spot) (b : Body) (t : TypeIn) → type_by k at ps b ≡ Ok t → (ps ≡ []) × (b ≡ type_body t.type) × (k ≡ t.«module»)
body_is k at ps (type_body u) t h =
    let is = without_is k at ps u t h in
    (is.0, ap (λ v. type_body v.type) is.1, ap (λ v. v.«module») is.1)
body_is k at ps (class_body f s) t h = absurd (cc)
body_is k at ps (value_body g v) t h = absurd (cc)
body_is k at ps (set_body g v) t h = absurd (cc)

assigned_by : (ms : List Module) (x : Found) (t : TypeIn) (o : Option Assignment) → slice_get (assignments_in ms x.«module») x.assignment ≡ o
    → option_map_or (λ a. type_by x.«module» a.at a.parameters a.body) o (error (place_in x.«module» 0) (unresolved not_a_type)) ≡ Ok t
    → Assigned ms x t
assigned_by ms x t None is h = absurd (cc)
assigned_by ms x t (Some a) is h =
    let b = body_is x.«module» a.at a.parameters a.body t h in
    record { assignment = a; is = is; without = b.0; body = b.1; module_is = b.2 }

assigned : (ms : List Module) (x : Found) (t : TypeIn) → type_at ms x ≡ Ok t → Assigned ms x t
unfolding type_at
assigned ms x t h = assigned_by ms x t _ refl h

-- ---- at the nesting

-- what is found at some nesting
record Somewhere (f : ℕ → Read Typed) (n : ℕ) (y : Typed) (top : ℕ) : Type 0 where
  nesting : ℕ
  as_asked : (n ≡ nesting) ⊎ ((n ≡ 0) × (1 ≤ nesting) × (nesting ≤ top))
  is : f nesting ≡ Ok y

one_more : (n m k : ℕ) → (n ≡ m) ⊎ ((n ≡ 0) × (1 ≤ m) × (m ≤ suc k)) → (n ≡ m) ⊎ ((n ≡ 0) × (1 ≤ m) × (m ≤ suc (suc k)))
one_more n m k (inl e) = inl e
one_more n m k (inr e) = let most : m ≤ suc k = e.2 in inr (e.0, e.1, omega (arith, most))

module _ (f : ℕ → Read Typed) (n : ℕ) (none : n ≡ 0) (y : Typed) where
  further : (k : ℕ) → Somewhere f n y (suc k) → Somewhere f n y (suc (suc k))
  further k s = record { nesting = s.nesting; as_asked = one_more n s.nesting k s.as_asked; is = s.is }

  over_is : (k : ℕ) (b : Bool) (less : Read Typed) (e : Error) → (if b then less else Err e) ≡ Ok y → (less ≡ Ok y → Somewhere f n y (suc k))
      → Somewhere f n y (suc (suc k))
  over_is k true less e h rest = further k (rest h)
  over_is k false less e h rest = absurd (cc)

  less_is : (k : ℕ) (less r : Read Typed) → f (suc (suc k)) ≡ r → else_less r less ≡ Ok y → (less ≡ Ok y → Somewhere f n y (suc k))
      → Somewhere f n y (suc (suc k))
  less_is k less (Ok z) is h rest = record { nesting = suc (suc k); as_asked = inr (none, omega arith, omega arith); is = is ∙ h }
  less_is k less (Err e) is h rest = over_is k (is_over e.why) less e h rest

  most_is : (k : ℕ) → most f k ≡ Ok y → Somewhere f n y (suc k)
  unfolding most
  most_is zero h = record { nesting = 1; as_asked = inr (none, omega arith, omega arith); is = h }
  most_is (suc k) h = less_is k (most f k) (f (suc (suc k))) refl h (most_is k)

nested_by : (ms : List Module) (n : ℕ) (t : TypeIn) (y : Typed) (b : Bool) → n == 0 ≡ b → (if b then usual ms t else typed ms n t) ≡ Ok y
    → Somewhere (λ k. typed ms k t) n y 8
unfolding usual
nested_by ms n t y true is h = most_is (λ k. typed ms k t) n (eqb-true n 0 is) y 7 h
nested_by ms n t y false is h = record { nesting = n; as_asked = inl refl; is = h }

-- ---- all of it

module _ (only : FindsTheOnlyAssignment) (only_module : FindsTheOnlyModule) (stands : FindsWhatStands) (types : TypesAreSound) where
  typed_is : (ms : List Module) (w : List ℕ) (x : Found) (t : TypeIn) (k : ℕ) (y : Typed) → asked ms w ≡ Ok x → type_at ms x ≡ Ok t
      → typed ms k t ≡ Ok y → IsTypeOf ms w k y.0
  typed_is ms w x t k y a is h =
      let there = assigned ms x t is in
      record {
        found = x;
        assignment = there.assignment;
        tree = t.type;
        asks = asks only only_module stands ms w x a;
        is = there.is;
        without = there.without;
        body = there.body;
        means = subst (λ m. IsType ms k [] m t.type y.0) (sym there.module_is) (types ms k t y.0 y.1 h);
      }

  -- what is placed, if it has no fault
  sound_is : (texts : List (List ℕ)) (l : Library) (p : Place) (S T : AsnType) (o : Option SchemaFault) → first_fault S ≡ o
      → sound_by texts l p S o ≡ Ok T → (S ≡ T) × (first_fault T ≡ None)
  sound_is texts l p S T None is h = let e : S ≡ T = cc in (e, subst (λ U. first_fault U ≡ None) e is)
  sound_is texts l p S T (Some f) is h = absurd (cc)

  placed : (ms : List Module) (w : List ℕ) (n : ℕ) (x : Place × AsnType) → placed_type ms w n ≡ Ok x
      → (k : ℕ) × ((n ≡ k) ⊎ ((n ≡ 0) × (1 ≤ k) × (k ≤ 8))) × IsTypeOf ms w k x.1
  unfolding placed_type
  placed ms w n x h =
      let a = bind_ok (by_name (asked ms w)) _ x h in
      let b = bind_ok (by_type (type_at ms a.0)) _ x a.2 in
      let c = bind_ok (by_type (typed_by ms n b.0)) _ x b.2 in
      let s = nested_by ms n b.0 c.0 (n == 0) refl (told_type (typed_by ms n b.0) c.0 c.1) in
      let same : c.0.0 ≡ x.1 = same_type c.0.0 (name_place ms a.0) x c.2 in (
        s.nesting,
        s.as_asked,
        subst (IsTypeOf ms w s.nesting) same
            (typed_is ms w a.0 b.0 s.nesting c.0 (told_name (asked ms w) a.0 a.1) (told_type (type_at ms a.0) b.0 b.1) s.is),
      )
    where
      same_type : (S : AsnType) (p : Place) (y : Place × AsnType) → ◌≡◌ {A = Result (Place × AsnType) Cause} (Ok (p, S)) (Ok y) → S ≡ y.1
      same_type S p y e = let f : (p, S) ≡ y = cc in ap (λ z. z.1) f

  in_library : (texts : List (List ℕ)) (w : List ℕ) (n : ℕ) (T : AsnType) (l : Library) (r : Result (Place × AsnType) Cause)
      → read_each 0 (map lex texts) no_modules ≡ Ok l → placed_type l.modules w n ≡ r → sound_in texts l r ≡ Ok T → HaveType texts w n T
  in_library texts w n T l (Ok x) read is h =
      let sound = sound_is texts l x.0 x.1 T (first_fault x.1) refl h in
      let there = placed l.modules w n x is in
      record {
        library = l;
        read = read;
        nesting = there.0;
        as_asked = there.1;
        is = subst (IsTypeOf l.modules w there.0) sound.0 there.2;
        sound = sound.1;
      }
  in_library texts w n T l (Err c) read is h = absurd (cc)

  in_texts : (texts : List (List ℕ)) (w : List ℕ) (n : ℕ) (T : AsnType) (r : Result Library Misread)
      → read_each 0 (map lex texts) no_modules ≡ r → schema_by texts w n r ≡ Ok T → HaveType texts w n T
  in_texts texts w n T (Ok l) read h = in_library texts w n T l (placed_type l.modules w n) read refl h
  in_texts texts w n T (Err e) read h = absurd (cc)

  pub names_meant : NamesAreMeant
  unfolding schema_of_modules
  names_meant texts w n T h = in_texts texts w n T (read_each 0 (map lex texts) no_modules) refl h
