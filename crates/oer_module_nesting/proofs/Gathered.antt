-- Components and alternatives that are gathered with types of which the second are the first with some of their ends
-- replaced make such types.
use Rattle.std.proofs.Common.{◌≡◌, ℕ, List, [], ◌∷◌, ◌++◌, Bool, true, false, Option, Some, None, if◌then◌else◌, refl, subst, inr}
use Rattle.oer_model.specs.AsnType.{Alternatives, AsnType, Need, no_alternatives}
use Rattle.oer_module_types.specs.Gathered.{Gathered, choice_in, empty, sequence_in, with_addition, with_alternative, with_component, with_field}
use Rattle.oer_module_types.specs.Gathered.{with_later, with_marker, with_part, with_root}
use Rattle.oer_nesting.specs.Deeper.{Deeper, DeeperAdditions, DeeperAlternatives, DeeperFields}
use Rattle.oer_units.specs.declared.tagging.Tag.{Tag}
use Rattle.oer_values.specs.ShapeView.{SeenAddition, SeenAlternative, SeenField, additions_from, fields_from, later_from, root_from}

record FieldNests (f g : SeenField) : Type 0 where
  name : f.name ≡ g.name
  need : f.need ≡ g.need
  nests : Deeper f.type g.type

record AdditionNests (a b : SeenAddition) : Type 0 where
  name : a.name ≡ b.name
  nests : Deeper a.type b.type

record AlternativeNests (a b : SeenAlternative) : Type 0 where
  name : a.name ≡ b.name
  tag : a.tag ≡ b.tag
  nests : Deeper a.type b.type

-- there are as many in both lists, and R holds of those at the same place
abbrev Each : {A : Type 0} → (A → A → Type 0) → List A → List A → Type 0
Each R [] [] = Unit {0}
Each R [] (y ∷ ys) = ⊥
Each R (x ∷ xs) [] = ⊥
Each R (x ∷ xs) (y ∷ ys) = R x y × Each R xs ys

each_more : {A : Type 0} (R : A → A → Type 0) (xs ys : List A) (x y : A) → Each R xs ys → R x y → Each R (xs ++ x ∷ []) (ys ++ y ∷ [])
each_more R [] [] x y h r = (r, tt)
each_more R [] (z ∷ ys) x y h r = absurd h
each_more R (z ∷ xs) [] x y h r = absurd h
each_more R (z ∷ xs) (w ∷ ys) x y h r = (h.0, each_more R xs ys x y h.1 r)

pub record AreNested (g h : Gathered) : Type 0 where
  fields : Each FieldNests g.fields h.fields
  additions : Each AdditionNests g.additions h.additions
  alternatives : Each AlternativeNests g.alternatives h.alternatives
  later : Each AlternativeNests g.later h.later
  marked : g.marked ≡ h.marked

-- ---- as they come

pub none_yet : AreNested empty empty
unfolding empty
none_yet = record { fields = tt; additions = tt; alternatives = tt; later = tt; marked = refl }

pub marked_now : (g h : Gathered) → AreNested g h → AreNested (with_marker g) (with_marker h)
unfolding with_marker
marked_now g h n = record { fields = n.fields; additions = n.additions; alternatives = n.alternatives; later = n.later; marked = refl }

-- one way on both sides, of what is gathered
either : (b : Bool) (x x' y y' : Gathered) → AreNested x x' → AreNested y y' → AreNested (if b then x else y) (if b then x' else y')
either true x x' y y' a c = a
either false x x' y y' a c = c

module _ (g h : Gathered) (n : AreNested g h) where
  field_more : (e f : SeenField) → FieldNests e f → AreNested (with_field e g) (with_field f h)
  field_more e f is = record {
    fields = each_more FieldNests g.fields h.fields e f n.fields is;
    additions = n.additions;
    alternatives = n.alternatives;
    later = n.later;
    marked = n.marked;
  }

  addition_more : (a b : SeenAddition) → AdditionNests a b → AreNested (with_addition a g) (with_addition b h)
  addition_more a b is = record {
    fields = n.fields;
    additions = each_more AdditionNests g.additions h.additions a b n.additions is;
    alternatives = n.alternatives;
    later = n.later;
    marked = n.marked;
  }

  root_more : (a b : SeenAlternative) → AlternativeNests a b → AreNested (with_root a g) (with_root b h)
  root_more a b is = record {
    fields = n.fields;
    additions = n.additions;
    alternatives = each_more AlternativeNests g.alternatives h.alternatives a b n.alternatives is;
    later = n.later;
    marked = n.marked;
  }

  later_more : (a b : SeenAlternative) → AlternativeNests a b → AreNested (with_later a g) (with_later b h)
  later_more a b is = record {
    fields = n.fields;
    additions = n.additions;
    alternatives = n.alternatives;
    later = each_more AlternativeNests g.later h.later a b n.later is;
    marked = n.marked;
  }

  -- both are marked or neither is
  by_mark : (x x' y y' : Gathered) → AreNested x x' → AreNested y y' → AreNested (if g.marked then x else y) (if h.marked then x' else y')
  by_mark x x' y y' a c =
      subst (λ b. AreNested (if g.marked then x else y) (if b then x' else y')) n.marked (either g.marked x x' y y' a c)

  component_more : (name : List ℕ) (need need' : Need) (T U : AsnType) → need ≡ need' → Deeper T U
      → AreNested (with_component name need T g) (with_component name need' U h)
  unfolding with_component
  component_more name need need' T U same nests = by_mark _ _ _ _
      (addition_more _ _ (record { name = refl; nests = nests }))
      (field_more _ _ (record { name = refl; need = same; nests = nests }))

  alternative_more : (name : List ℕ) (tag : Tag) (T U : AsnType) → Deeper T U
      → AreNested (with_alternative name tag T g) (with_alternative name tag U h)
  unfolding with_alternative
  alternative_more name tag T U nests = by_mark _ _ _ _
      (later_more _ _ (record { name = refl; tag = refl; nests = nests }))
      (root_more _ _ (record { name = refl; tag = refl; nests = nests }))

  pub part_more : (tag : Option Tag) (name : List ℕ) (need need' : Need) (T U : AsnType) → need ≡ need' → Deeper T U
      → AreNested (with_part tag name need T g) (with_part tag name need' U h)
  unfolding with_part
  part_more None name need need' T U same nests = component_more name need need' T U same nests
  part_more (Some tag) name need need' T U same nests = alternative_more name tag T U nests

-- ---- all of them

fields_nest : (fs gs : List SeenField) → Each FieldNests fs gs → DeeperFields (fields_from fs) (fields_from gs)
fields_nest [] [] n = refl
fields_nest [] (g ∷ gs) n = absurd n
fields_nest (f ∷ fs) [] n = absurd n
fields_nest (f ∷ fs) (g ∷ gs) n = (g.type, fields_from gs, rw (n.0.name, n.0.need) refl, n.0.nests, fields_nest fs gs n.1)

additions_nest : (xs ys : List SeenAddition) → Each AdditionNests xs ys → DeeperAdditions (additions_from xs) (additions_from ys)
additions_nest [] [] n = refl
additions_nest [] (y ∷ ys) n = absurd n
additions_nest (x ∷ xs) [] n = absurd n
additions_nest (x ∷ xs) (y ∷ ys) n = (y.type, additions_from ys, rw n.0.name refl, n.0.nests, additions_nest xs ys n.1)

later_nest : (xs ys : List SeenAlternative) → Each AlternativeNests xs ys → DeeperAlternatives (later_from xs) (later_from ys)
later_nest [] [] n = refl
later_nest [] (y ∷ ys) n = absurd n
later_nest (x ∷ xs) [] n = absurd n
later_nest (x ∷ xs) (y ∷ ys) n = (y.type, later_from ys, rw (n.0.name, n.0.tag) refl, n.0.nests, later_nest xs ys n.1)

root_nests : (xs ys : List SeenAlternative) (more others : Alternatives) → Each AlternativeNests xs ys → DeeperAlternatives more others
    → DeeperAlternatives (root_from xs more) (root_from ys others)
root_nests [] [] more others n d = d
root_nests [] (y ∷ ys) more others n d = absurd n
root_nests (x ∷ xs) [] more others n d = absurd n
root_nests (x ∷ xs) (y ∷ ys) more others n d =
    (y.type, root_from ys others, rw (n.0.name, n.0.tag) refl, n.0.nests, root_nests xs ys more others n.1 d)

-- one way on both sides, of types
types_by : (b c : Bool) → b ≡ c → (T T' U U' : AsnType) → Deeper T T' → Deeper U U'
    → Deeper (if b then T else U) (if c then T' else U')
types_by true true e T T' U U' a d = a
types_by false false e T T' U U' a d = d
types_by true false e T T' U U' a d = absurd (cc)
types_by false true e T T' U U' a d = absurd (cc)

pub sequence_nests : (g h : Gathered) → AreNested g h → Deeper (sequence_in g) (sequence_in h)
unfolding sequence_in
sequence_nests g h n =
    let fs = fields_nest g.fields h.fields n.fields in
    types_by g.marked h.marked n.marked _ _ _ _
    (fields_from h.fields, additions_from h.additions, refl, fs, additions_nest g.additions h.additions n.additions)
    (fields_from h.fields, refl, fs)

pub choice_nests : (g h : Gathered) → AreNested g h → Deeper (choice_in g) (choice_in h)
unfolding choice_in
choice_nests g h n =
    types_by g.marked h.marked n.marked _ _ _ _
    (inr (
      root_from h.alternatives (later_from h.later),
      refl,
      root_nests g.alternatives h.alternatives _ _ n.alternatives (later_nest g.later h.later n.later),
    ))
    (inr (root_from h.alternatives no_alternatives, refl, root_nests g.alternatives h.alternatives _ _ n.alternatives refl))
