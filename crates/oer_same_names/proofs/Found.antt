-- What is found for a Name in the one module.
use Rattle.std.proofs.Common.{◌≡◌, ◌+◌, ◌<◌, ℕ, zero, suc, List, [], ◌∷◌, ◌++◌, append_assoc, length, length-append, slice_get, Some, Ok, ◌⊎◌, inl, inr, refl, sym, ap, subst, ◌∙◌, arith}
use Rattle.std.specs.Option.{option_map_or}
use Rattle.oer_model.specs.AsnType.{AsnType}
use Rattle.oer_module_names.proofs.Asked.{only_finds}
use Rattle.oer_module_names.proofs.Stands.{stands_finds}
use Rattle.oer_module_names.specs.Finding.{find, find_anywhere}
use Rattle.oer_module_names.specs.Standing.{Assigns, ImportsFrom, IsAmong, IsAt, IsOnlyAssignment, StandsFor, imported, own}
use Rattle.oer_module_names.specs.Tables.{assignment_names, assignments_in}
use Rattle.oer_module_names.specs.declared.error.Found.{Found}
use Rattle.oer_module_syntax.specs.Tree.{Assignment, Module, Tree, type_body}
use Rattle.oer_model.specs.WellFormed.{AnyOf}
use Rattle.oer_notation.specs.Grammar.{IsDefined, IsNew, later_definition, this_definition}
use Rattle.oer_notation.specs.Reading.{Known}
use Rattle.oer_same_names.specs.Home.{IsFront, IsHome}
use Rattle.oer_same_names.specs.Laws.{FindsDefinition}
use Rattle.oer_same_names.specs.Meant.{Defines}
use Rattle.oer_same_trees.specs.Defining.{AssignmentsSay, an_assignment, no_assignments}
use Rattle.oer_same_trees.specs.Says.{Says}

-- ---- definitions

abbrev known_as : List ℕ → AsnType → Known
known_as w T = record { name = w; type = T }

-- a definition is the first of its Name, or defines after one of another Name
defined_by : (w : List ℕ) (T : AsnType) (k : Known) (ks : List Known) → IsDefined w T (k ∷ ks)
    → ((k.name ≡ w) × (T ≡ k.type)) ⊎ ((k.name ≡ w → ⊥) × IsDefined w T ks)
defined_by w _ k ks (this_definition e) = inl (e, refl)
defined_by w T k ks (later_definition n d) = inr (n, d)

-- what is defined where the definitions before it have other Names
defined_here : (known ks : List Known) (w : List ℕ) (S T : AsnType) → IsNew w known → IsDefined w T (known ++ known_as w S ∷ ks) → T ≡ S
defined_here [] ks w S T new d = first (defined_by w T (known_as w S) ks d)
  where
    first : ((w ≡ w) × (T ≡ S)) ⊎ ((w ≡ w → ⊥) × IsDefined w T ks) → T ≡ S
    first (inl p) = p.1
    first (inr p) = absurd (p.0 refl)
defined_here (k ∷ known) ks w S T new d =
    later (defined_by w T k (known ++ known_as w S ∷ ks) d) (defined_here known ks w S T (λ a. new (inr a)))
  where
    later : ((k.name ≡ w) × (T ≡ k.type)) ⊎ ((k.name ≡ w → ⊥) × IsDefined w T (known ++ known_as w S ∷ ks))
        → (IsDefined w T (known ++ known_as w S ∷ ks) → T ≡ S) → T ≡ S
    later (inl p) rest = absurd (new (inl p.0))
    later (inr p) rest = rest p.1

defined_behind : (w : List ℕ) (T : AsnType) (known rest : List Known) → IsDefined w T known → IsDefined w T (known ++ rest)
defined_behind w _ _ rest (this_definition {k} {ks} e) = this_definition {ks = ks ++ rest} e
defined_behind w T _ rest (later_definition {k = k} {ks = ks} n d) = later_definition n (defined_behind w T ks rest d)

-- what is defined by the first definitions is defined by all
pub defined_in : (w : List ℕ) (T : AsnType) (known ks : List Known) → IsFront known ks → IsDefined w T known → IsDefined w T ks
defined_in w T known ks front d = subst (IsDefined w T) (sym front.1) (defined_behind w T known front.0 d)

-- ---- assignments

-- the assignment at a place, in a list that has its Name there
named_at : (found : List Assignment) (i : ℕ) (w : List ℕ) → IsAt (assignment_names found) i w → (a : Assignment) × IsAt found i a × (a.name ≡ w)
named_at [] i w h = absurd (cc)
named_at (a ∷ found) zero w h = (a, refl, cc)
named_at (a ∷ found) (suc i) w h = named_at found i w h

-- the assignment defines the Name by so many definitions before it
abbrev pub DefinesBehind : ℕ → List Known → List ℕ → AsnType → Assignment → Type 0
DefinesBehind n all w T a = (d : Defines all w T a) × (length d.says.known ≡ n)

defines_here : (all known ks : List Known) (at : ℕ) (w : List ℕ) (S T : AsnType) (t : Tree) → all ≡ known ++ known_as w S ∷ ks → IsNew w known
    → Says known S t → IsDefined w T all → DefinesBehind (length known) all w T (record { at = at; name = w; parameters = []; body = type_body t })
defines_here all known ks at w S T t e new says d =
    let same : T ≡ S = defined_here known ks w S T new (subst (IsDefined w T) e d) in (
      record {
        tree = t;
        name_is = refl;
        without = refl;
        body_is = refl;
        says = record { known = known; front = (known_as w S ∷ ks, e); says = subst (λ U. Says known U t) (sym same) says };
      },
      refl,
    )

-- so many definitions and one more
one_more : (known : List Known) (k : Known) (i : ℕ) → length (known ++ k ∷ []) + i ≡ length known + suc i
one_more known k i = let e = length-append known (k ∷ []) in omega (arith, e)

-- an assignment that says a definition of these defines its Name, by those that stand before
defines_at : (all known ks : List Known) (found : List Assignment) (i : ℕ) (a : Assignment) (T : AsnType) → all ≡ known ++ ks
    → AssignmentsSay known ks found → IsAt found i a → IsDefined a.name T all → DefinesBehind (length known + i) all a.name T a
defines_at all known _ _ i a T e no_assignments at d = absurd (cc)
defines_at all known _ _ zero a T e (an_assignment {at = p} {ks = ks} {w = w} {T = S} {t = t} {found = found} name new says rest) at d =
    let same : record { at = p; name = w; parameters = []; body = type_body t } ≡ a = cc in
    let here : length known ≡ length known + 0 = omega arith in
    subst (λ b. IsDefined b.name T all → DefinesBehind (length known + 0) all b.name T b) same
    (λ d. subst (λ n. DefinesBehind n all w T (record { at = p; name = w; parameters = []; body = type_body t })) here
    (defines_here all known ks p w S T t e new says d)) d
defines_at all known _ _ (suc i) a T e (an_assignment {ks = ks} {w = w} {T = S} {found = found} name new says rest) at d =
    subst (λ n. DefinesBehind n all a.name T a) (one_more known (known_as w S) i)
    (defines_at all (known ++ known_as w S ∷ []) ks found i a T (e ∙ sym (append_assoc known (known_as w S ∷ []) ks)) rest at d)

-- of two lists with which one begins, that which defines a Name is longer than that to which it is new
new_before : (known ks first rest : List Known) (w : List ℕ) (T : AsnType) → known ++ ks ≡ first ++ rest → IsNew w known → IsDefined w T first
    → length known < length first
new_before [] ks _ rest w _ e new (this_definition {ks = more} is) = omega arith
new_before [] ks _ rest w T e new (later_definition {ks = more} n d) = omega arith
new_before (k ∷ known) ks _ rest w _ e new (this_definition {k = j} is) = let same : k ≡ j = cc in absurd (new (inl (ap (λ d. d.name) same ∙ is)))
new_before (k ∷ known) ks _ rest w T e new (later_definition {ks = more} n d) =
    let less = new_before known ks more rest w T (cc) (λ a. new (inr a)) d in omega (arith, less)

-- an assignment of a Name that the first definitions define is one of theirs
stands_before : (known ks : List Known) (found : List Assignment) (i : ℕ) (a : Assignment) (T : AsnType) (first rest : List Known)
    → known ++ ks ≡ first ++ rest → AssignmentsSay known ks found → IsAt found i a → IsDefined a.name T first
    → length known + i < length first
stands_before known _ _ i a T first rest e no_assignments at d = absurd (cc)
stands_before known _ _ zero a T first rest e (an_assignment {at = p} {ks = ks} {w = w} {T = S} {t = t} {found = found} name new says more) at d =
    let same : a.name ≡ w = cc in
    let less = new_before known (known_as w S ∷ ks) first rest w T e new (subst (λ v. IsDefined v T first) same d) in omega (arith, less)
stands_before known _ _ (suc i) a T first rest e (an_assignment {ks = ks} {w = w} {T = S} {found = found} name new says more) at d =
    let less = stands_before (known ++ known_as w S ∷ []) ks found i a T first rest (append_assoc known (known_as w S ∷ []) ks ∙ e) more at d in
    let same = one_more known (known_as w S) i in omega (arith, less, same)

-- ---- each Name is assigned once

any_before : (w : List ℕ) (known more : List Known) → AnyOf (λ k. k.name ≡ w) known → AnyOf (λ k. k.name ≡ w) (known ++ more)
any_before w [] more h = absurd h
any_before w (k ∷ known) more (inl e) = inl e
any_before w (k ∷ known) more (inr h) = inr (any_before w known more h)

any_last : (w : List ℕ) (known : List Known) (k : Known) → k.name ≡ w → AnyOf (λ k. k.name ≡ w) (known ++ k ∷ [])
any_last w [] k e = inl e
any_last w (j ∷ known) k e = inr (any_last w known k e)

-- a Name that isn't new isn't assigned any more
not_later : (known ks : List Known) (found : List Assignment) (i : ℕ) (w : List ℕ) → AssignmentsSay known ks found → AnyOf (λ k. k.name ≡ w) known
    → IsAt (assignment_names found) i w → ⊥
not_later known _ _ i w no_assignments any at = absurd (cc)
not_later known _ _ zero w (an_assignment {w = v} name new says more) any at =
    let same : v ≡ w = cc in new (subst (λ u. AnyOf (λ k. k.name ≡ u) known) (sym same) any)
not_later known _ _ (suc i) w (an_assignment {ks = ks} {w = v} {T = S} {found = found} name new says more) any at =
    not_later (known ++ known_as v S ∷ []) ks found i w more (any_before w known (known_as v S ∷ []) any) at

assigned_once : (known ks : List Known) (found : List Assignment) (i j : ℕ) (w : List ℕ) → AssignmentsSay known ks found
    → IsAt (assignment_names found) i w → IsAt (assignment_names found) j w → j ≡ i
assigned_once known _ _ i j w no_assignments at by = absurd (cc)
assigned_once known _ _ zero zero w (an_assignment name new says more) at by = refl
assigned_once known _ _ zero (suc j) w (an_assignment {ks = ks} {w = v} {T = S} {found = found} name new says more) at by =
    absurd (not_later (known ++ known_as v S ∷ []) ks found j w more (any_last w known (known_as v S) (cc)) by)
assigned_once known _ _ (suc i) zero w (an_assignment {ks = ks} {w = v} {T = S} {found = found} name new says more) at by =
    absurd (not_later (known ++ known_as v S ∷ []) ks found i w more (any_last w known (known_as v S) (cc)) at)
assigned_once known _ _ (suc i) (suc j) w (an_assignment {ks = ks} {w = v} {T = S} {found = found} name new says more) at by =
    ap suc (assigned_once (known ++ known_as v S ∷ []) ks found i j w more at by)

-- a Name that is defined is assigned
is_assigned : (known ks : List Known) (found : List Assignment) (w : List ℕ) (T : AsnType) → AssignmentsSay known ks found → IsDefined w T ks
    → (i : ℕ) × IsAt (assignment_names found) i w
is_assigned _ _ _ w T no_assignments d = elim d [ ]
is_assigned known _ _ w _ (an_assignment name new says more) (this_definition e) = (0, ap Some e)
is_assigned known _ _ w T (an_assignment {ks = ks} {w = v} {T = S} {found = found} name new says more) (later_definition n d) =
    let x = is_assigned (known ++ known_as v S ∷ []) ks found w T more d in (suc x.0, x.1)

same_found : (f g : Found) → f.«module» ≡ g.«module» → f.assignment ≡ g.assignment → f ≡ g
same_found f g m a = ap (λ k. record { «module» = k; assignment = f.assignment }) m ∙ ap (λ i. record { «module» = g.«module»; assignment = i }) a

-- ---- the one module

module _ (ms : List Module) (ks : List Known) (h : IsHome ms ks) where
  only_module : (k : ℕ) (m n : Module) → IsAt (n ∷ []) k m → (k ≡ 0) × (m ≡ n)
  only_module zero m n at = (refl, cc)
  only_module (suc k) m n at = absurd (cc)

  pub home_at : (k : ℕ) (m : Module) → IsAt ms k m → (k ≡ 0) × (m ≡ h.home)
  home_at k m at = only_module k m h.home (subst (λ l. IsAt l k m) h.alone at)

  assignments_at : (k : ℕ) (m : Module) → IsAt ms k m → assignments_in ms k ≡ m.assignments
  unfolding assignments_in
  assignments_at k m at = ap (λ o. option_map_or (λ x. x.assignments) o []) at

  pub assignments_home : (k : ℕ) → k ≡ 0 → assignments_in ms k ≡ h.home.assignments
  unfolding assignments_in
  assignments_home k e = ap (λ n. option_map_or (λ x. x.assignments) (slice_get ms n) []) e ∙ ap (λ l. option_map_or (λ x. x.assignments) (slice_get l 0) []) h.alone

  -- an assignment of a Name in one of the modules is its definition
  assigned_defines : (w : List ℕ) (T : AsnType) (f : Found) (m : Module) → IsDefined w T ks → IsAt ms f.«module» m
      → IsAt (assignment_names m.assignments) f.assignment w → FindsDefinition ms ks w T f
  assigned_defines w T f m d at among =
      let p = home_at f.«module» m at in
      let q = named_at m.assignments f.assignment w among in
      let says : AssignmentsSay [] ks m.assignments = subst (λ n. AssignmentsSay [] ks n.assignments) (sym p.1) h.says in
      let here : length {A = Known} [] + f.assignment ≡ f.assignment = omega arith in
      let defines = subst (λ v. DefinesBehind f.assignment ks v T q.0) q.2 (subst (λ n. DefinesBehind n ks q.0.name T q.0) here
      (defines_at ks [] ks m.assignments f.assignment q.0 T refl says q.1 (subst (λ v. IsDefined v T ks) (sym q.2) d))) in
      (q.0, p.0, ap (λ l. slice_get l f.assignment) (assignments_at f.«module» m at) ∙ q.1, defines.0, defines.1)

  -- where the first definitions have the Name, it is among their assignments
  assigned_before : (w : List ℕ) (T : AsnType) (f : Found) (m : Module) (known : List Known) → IsFront known ks → IsDefined w T known
      → IsAt ms f.«module» m → IsAt (assignment_names m.assignments) f.assignment w → f.assignment < length known
  assigned_before w T f m known front d at among =
      let p = home_at f.«module» m at in
      let q = named_at m.assignments f.assignment w among in
      let says : AssignmentsSay [] ks m.assignments = subst (λ n. AssignmentsSay [] ks n.assignments) (sym p.1) h.says in
      let less = stands_before [] ks m.assignments f.assignment q.0 T known front.0 front.1 says q.1 (subst (λ v. IsDefined v T known) (sym q.2) d) in
      omega (arith, less)

  -- the module imports nothing
  none_imported : (k : ℕ) (m : Module) (w f : List ℕ) → IsAt ms k m → ImportsFrom m w f → ⊥
  none_imported k m w f at i =
      let p = home_at k m at in
      let none : m.imports ≡ [] = ap (λ n. n.imports) p.1 ∙ h.plain.no_imports in
      let s = i.some in
      let among : IsAmong m.imports s.0 = s.1 in
      let here : IsAt [] among.0 s.0 = subst (λ l. IsAt l among.0 s.0) none among.1 in absurd (cc here)

  stands_defines : (w : List ℕ) (T : AsnType) (f : Found) (k : ℕ) (known : List Known) → IsFront known ks → IsDefined w T known → IsDefined w T ks
      → StandsFor ms w f k → FindsDefinition ms ks w T f × (f.assignment < length known)
  stands_defines w T f _ known front d e (own {m} at only) =
      (assigned_defines w T f m e at only.here, assigned_before w T f m known front d at only.here)
  stands_defines w T f k known front d e (imported {m = m} {f = g} at absent from only there fit may rest) = absurd (none_imported k m w g at from)

  -- the place of a Name that is defined
  pub place_of : (w : List ℕ) (T : AsnType) → IsDefined w T ks → (i : ℕ) × IsAt (assignment_names h.home.assignments) i w
  place_of w T d = is_assigned [] ks h.home.assignments w T h.says d

  home_here : IsAt ms 0 h.home
  home_here = ap (λ l. slice_get l 0) h.alone

  pub found_defines : (known : List Known) (w : List ℕ) (T : AsnType) → IsFront known ks → IsDefined w T known
      → (f : Found) × (find ms 0 w ≡ Ok f) × FindsDefinition ms ks w T f × (f.assignment < length known)
  found_defines known w T front d =
      let all = defined_in w T known ks front d in
      let i = place_of w T all in
      let f : Found = record { «module» = 0; assignment = i.0 } in
      let stands : StandsFor ms w f 0 = own home_here
      (record { here = i.1; only = λ j at. assigned_once [] ks h.home.assignments i.0 j w h.says i.1 at }) in
      let defines = stands_defines w T f 0 known front d all stands in
      (f, stands_finds ms w 0 f stands, defines.0, defines.1)

  only_one : (w : List ℕ) (i : ℕ) → IsAt (assignment_names h.home.assignments) i w → (y : Found) → Assigns ms y w
      → y ≡ record { «module» = 0; assignment = i }
  only_one w i here y (m, at, is) =
      let p = home_at y.«module» m at in
      same_found y (record { «module» = 0; assignment = i }) p.0
      (assigned_once [] ks h.home.assignments i y.assignment w h.says here
      (subst (λ n. IsAt (assignment_names n.assignments) y.assignment w) p.1 is))

  pub found_anywhere_defines : (w : List ℕ) (T : AsnType) → IsDefined w T ks
      → (f : Found) × (find_anywhere ms w ≡ Ok f) × FindsDefinition ms ks w T f
  found_anywhere_defines w T d =
      let i = place_of w T d in
      let f : Found = record { «module» = 0; assignment = i.0 } in
      let only : IsOnlyAssignment ms w f = record { here = (h.home, home_here, i.1); only = only_one w i.0 i.1 } in
      (f, only_finds ms w f only, assigned_defines w T f h.home d home_here i.1)
