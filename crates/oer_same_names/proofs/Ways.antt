-- The way from a tree that says a type of the notation.
use Rattle.std.proofs.Common.{◌≡◌, ◌<◌, ℕ, zero, suc, List, [], ◌∷◌, length, slice_get, Bool, Some, Result, Ok, Err, inl, inr, refl, sym, ap, subst, ◌∙◌, if◌then◌else◌, arith}
use Rattle.oer_model.specs.AsnType.{AsnType}
use Rattle.oer_module_names.specs.Finding.{find}
use Rattle.oer_module_names.specs.declared.error.Found.{Found}
use Rattle.oer_module_syntax.specs.Modules.{none_left}
use Rattle.oer_module_syntax.specs.Tree.{Module, Tree, named}
use Rattle.oer_module_values.specs.Errors.{Error, error, place_in, unsettled, ◌>>=◌}
use Rattle.oer_module_values.specs.Types.{Given, constraints, Meaning, type_in, held, entered_by, followed, after, answered, follow, step, walk}
use Rattle.oer_notation.specs.Grammar.{IsDefined}
use Rattle.oer_notation.specs.Reading.{Known}
use Rattle.oer_same_names.proofs.Found.{assignments_home, found_defines}
use Rattle.oer_same_names.specs.Home.{IsBare, IsFront, IsHome}
use Rattle.oer_same_names.specs.Laws.{FindsDefinition}
use Rattle.oer_same_names.specs.Meant.{IsBuilt, IsTreeBehind, LeadsIn, LeadsTo, untagged}
use Rattle.oer_same_trees.specs.Says.{Says, SaysTagged, says_choice, says_extensible_sequence, says_leaf, says_name, says_own_tag, says_sequence, says_sequence_of, says_tag_by_place}
use Rattle.oer_units.specs.declared.tagging.Tag.{Tag}

-- a tree that says a type has no tag before it
says_untagged : {known : List Known} {T : AsnType} {t : Tree} → Says known T t → untagged t ≡ t
says_untagged (says_leaf k l i c) = refl
says_untagged (says_name n d) = refl
says_untagged (says_sequence s) = refl
says_untagged (says_extensible_sequence s) = refl
says_untagged (says_sequence_of z s) = refl
says_untagged (says_choice s) = refl

module _ (ms : List Module) (ks : List Known) (h : IsHome ms ks) where
  abbrev Meets : ℕ → List Known → AsnType → Tree → Result Meaning Error → Type 0
  Meets n known T t r = LeadsIn n h.home.assignments ks known T t r

  -- fewer steps are too few where so many are
  fewer : (n : ℕ) (known : List Known) (T : AsnType) (t : Tree) (r : Result Meaning Error) → Meets (suc n) known T t r → Meets n known T t r
  fewer n known T t (Ok m) y = y
  fewer n known T t (Err e) y = let more = y.1 in (y.0, omega (arith, more))

  -- what is found in so many steps, where nothing was given by then but empty constraints
  abbrev Comes : ℕ → Type 0
  Comes k = (known : List Known) (T : AsnType) (t : Tree) (gs : List Given) → IsFront known ks → Says known T t → IsBare gs
      → Meets k known T t (walk ms k (type_in 0 t) gs)

  meant_here : (n : ℕ) (known : List Known) (T : AsnType) (t : Tree) (gs : List Given) → IsBuilt t → IsFront known ks → Says known T t → IsBare gs
      → Meets n known T t (Ok (record { of = type_in 0 t; given = gs }))
  meant_here n known T t gs built front says bare = record {
    meant = record { tree = t; of = refl; built = built; says = record { known = known; front = front; says = says }; bare = bare };
    leads = inl (refl, sym (says_untagged says));
  }

  -- the step from a Name leads to the tree of its definition
  name_leads : (at : ℕ) (w : List ℕ) (T : AsnType) (f : Found) (gs : List Given) → (d : FindsDefinition ms ks w T f)
      → (answered ms (place_in 0 at) w (Ok f) >>= followed (place_in 0 at) [] gs)
      ≡ Ok (Some (type_in 0 d.3.tree), constraints 0 [] ∷ gs)
  name_leads at w T f gs d =
      ap (λ o. held (place_in 0 at) w f.«module» o >>= followed (place_in 0 at) [] gs) d.2
      ∙ ap (λ l. if none_left l then entered_by (place_in 0 at) [] f.«module» d.0.body gs else error (place_in 0 at) unsettled) d.3.without
      ∙ ap (λ n. entered_by (place_in 0 at) [] n d.0.body gs) d.1
      ∙ ap (λ b. entered_by (place_in 0 at) [] 0 b gs) d.3.body_is

  -- its tree stands behind the definitions before it
  stands_there : (w : List ℕ) (T : AsnType) (f : Found) (d : FindsDefinition ms ks w T f) → IsTreeBehind h.home.assignments d.3.says.known d.3.tree
  stands_there w T f d = record {
    assignment = d.0;
    is = ap (λ n. slice_get h.home.assignments n) d.4 ∙ ap (λ l. slice_get l f.assignment) (sym (assignments_home ms ks h f.«module» d.1)) ∙ d.2;
    body_is = d.3.body_is;
  }

  module _ (known : List Known) (w : List ℕ) (T : AsnType) (t : Tree) (f : Found) (x : FindsDefinition ms ks w T f) (less : f.assignment < length known) where
    -- what the tree of a definition leads to is what each tree behind it leads to
    leads_behind : (by : List Known) (u : Tree) → LeadsTo h.home.assignments x.3.says.known x.3.tree by u → LeadsTo h.home.assignments known t by u
    leads_behind by u (inl (same, is)) =
        let count = ap (λ (l : List Known). length l) same ∙ x.4 in
        let there : IsTreeBehind h.home.assignments by x.3.tree =
        subst (λ l. IsTreeBehind h.home.assignments l x.3.tree) (sym same) (stands_there w T f x) in
        inr (omega (arith, count, less), subst (λ v. IsTreeBehind h.home.assignments by v) (sym (is ∙ says_untagged x.3.says.says)) there)
    leads_behind by u (inr (before, there)) = let count = x.4 in inr (omega (arith, count, less, before), there)

    meets_behind : (n : ℕ) (r : Result Meaning Error) → Meets n x.3.says.known T x.3.tree r → Meets (suc n) known T t r
    meets_behind n (Ok m) y = record { meant = y.meant; leads = leads_behind y.meant.says.known y.meant.tree y.leads }
    meets_behind n (Err e) y = let few = y.1 in let count = x.4 in (y.0, omega (arith, few, count, less))

  name_comes : (k at : ℕ) (known : List Known) (w : List ℕ) (T : AsnType) (gs : List Given) → Comes k → IsFront known ks → IsDefined w T known → IsBare gs
      → Meets (suc k) known T (named at w [] [] [])
      (answered ms (place_in 0 at) w (find ms 0 w) >>= followed (place_in 0 at) [] gs >>= after (walk ms k) (type_in 0 (named at w [] [] [])))
  name_comes k at known w T gs rest front d bare =
      let there = found_defines ms ks h known w T front d in
      let f : Found = there.0 in
      let x : FindsDefinition ms ks w T f = there.2 in
      let on = ap (λ r. answered ms (place_in 0 at) w r >>= followed (place_in 0 at) [] gs) there.1 ∙ name_leads at w T f gs x in
      subst (λ s. Meets (suc k) known T (named at w [] [] []) (s >>= after (walk ms k) (type_in 0 (named at w [] [] [])))) (sym on)
      (meets_behind known w T (named at w [] [] []) f x there.3 k (walk ms k (type_in 0 x.3.tree) (constraints 0 [] ∷ gs))
      (rest x.3.says.known T x.3.tree (constraints 0 [] ∷ gs) x.3.says.front x.3.says.says (refl, bare)))

  comes_by : (k : ℕ) (known : List Known) (T : AsnType) (t : Tree) (gs : List Given) → Comes k → IsFront known ks → Says known T t
      → IsBare gs → Meets (suc k) known T t (step ms (type_in 0 t) gs >>= after (walk ms k) (type_in 0 t))
  unfolding step follow
  comes_by k known _ _ gs rest front (says_leaf j l i c) bare = meant_here (suc k) known _ _ gs tt front (says_leaf j l i c) bare
  comes_by k known _ _ gs rest front (says_name {at = at} {w = w} {T = T} name d) bare = name_comes k at known w T gs rest front d bare
  comes_by k known _ _ gs rest front (says_sequence s) bare = meant_here (suc k) known _ _ gs tt front (says_sequence s) bare
  comes_by k known _ _ gs rest front (says_extensible_sequence s) bare = meant_here (suc k) known _ _ gs tt front (says_extensible_sequence s) bare
  comes_by k known _ _ gs rest front (says_sequence_of z s) bare = meant_here (suc k) known _ _ gs tt front (says_sequence_of z s) bare
  comes_by k known _ _ gs rest front (says_choice s) bare = meant_here (suc k) known _ _ gs tt front (says_choice s) bare

  comes : (k : ℕ) → Comes k
  unfolding walk
  comes zero known T t gs front says bare = (refl, omega arith)
  comes (suc k) known T t gs front says bare = comes_by k known T t gs (comes k) front says bare

  -- a tag before the tree leads nowhere else
  meets_tagged : (n : ℕ) (known : List Known) (T : AsnType) (t u : Tree) → untagged u ≡ t → untagged t ≡ t → (r : Result Meaning Error) → Meets n known T t r
      → Meets n known T u r
  meets_tagged n known T t u is plain (Ok m) y = record { meant = y.meant; leads = by y.leads } where
    by : LeadsTo h.home.assignments known t y.meant.says.known y.meant.tree → LeadsTo h.home.assignments known u y.meant.says.known y.meant.tree
    by (inl (same, here)) = inl (same, here ∙ plain ∙ sym is)
    by (inr there) = inr there
  meets_tagged n known T t u is plain (Err e) y = y

  -- The same of the type of an alternative: past a tag there is a step less.
  pub tagged_comes : (k : ℕ) (known : List Known) (is_tagged : Bool) (place : ℕ) (g : Tag) (T : AsnType) (t : Tree) (gs : List Given)
      → IsFront known ks → SaysTagged known is_tagged place g T t → IsBare gs → Meets k known T t (walk ms (suc k) (type_in 0 t) gs)
  unfolding walk step
  tagged_comes k known _ place g T t gs front (says_tag_by_place tag says) bare =
      fewer k known T t (walk ms (suc k) (type_in 0 t) gs) (comes (suc k) known T t gs front says bare)
  tagged_comes k known _ place g T _ gs front (says_own_tag {ss = ss} {tree = t} tag keeps says) bare =
      meets_tagged k known T t _ refl (says_untagged says) (walk ms k (type_in 0 t) gs) (comes k known T t gs front says bare)

  -- in the steps that the reader takes
  pub type_comes : (known : List Known) (T : AsnType) (t : Tree) → IsFront known ks → Says known T t → Meets 254 known T t (walk ms 255 (type_in 0 t) [])
  type_comes known T t front says = fewer 254 known T t (walk ms 255 (type_in 0 t) []) (comes 255 known T t [] front says tt)
