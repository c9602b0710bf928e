-- What a shape can be, and steps that it doesn't have.
use Rattle.std.proofs.Common.{◌≡◌, ◌⊎◌, inl, inr, ⊎_elim, ℕ, suc, ltb, length, List, [], ◌∷◌, false, Option, Some, None, Vec, Box, Global, refl, ap, sym, subst, ◌∙◌}
use Rattle.oer_model.specs.AsnType.{AsnType, choice, extensible_sequence, leaf, sequence, sequence_of}
use Rattle.oer_model.specs.Parts.{Step, field_count, knows, to_addition, to_chosen, to_component, to_item}
use Rattle.oer_values.specs.ShapeView.{SeenField, SeenAddition, SeenAlternative, addition_step, alt_step, choice_with, field_step, fields_of, sequence_with, shape_step, type_of}
use Rattle.oer_model.specs.declared.size.Size.{Size}
use Rattle.oer_values.specs.declared.shape.Addition.{Addition}
use Rattle.oer_values.specs.declared.shape.Alt.{Alt}
use Rattle.oer_values.specs.declared.shape.Field.{Field}
use Rattle.oer_values.specs.declared.shape.Shape.{Shape, Sequence, SequenceOf, Choice, fold-roll-Shape, out-Shape, roll-Shape, roll-out-Shape}
use Rattle.oer_values.specs.declared.shape.Shape.TheOpen.{Shape-F}
use Rattle.oer_values.specs.declared.shape.Shape.TheVariants.{rolls-Sequence, rolls-SequenceOf, rolls-Choice}
use Rattle.oer_values.proofs.Shapes.{type_of-Choice, type_of-Sequence, type_of-SequenceOf}
use Rattle.oer_checker.specs.Facts.{IsLeaf}
use Rattle.oer_checker.proofs.FieldSteps.{count_is}
use Rattle.oer_checker.proofs.PartSteps.{has_step}

abbrev Layer : Type 0
Layer = Shape-F Shape Addition Alt Field

IsSequence : Shape → Type 0
IsSequence shape = (root : Vec Field Global) × (more : Option (Vec Addition Global)) × (shape ≡ Sequence root more)

IsList : Shape → Type 0
IsList shape = (size : Size) × (item : Box Shape Global) × (shape ≡ SequenceOf size item)

IsChoice : Shape → Type 0
IsChoice shape = (root : Vec Alt Global) × (more : Option (Vec Alt Global)) × (shape ≡ Choice root more)

kinds : (o : Layer) (shape : Shape) → roll-Shape o ≡ shape → IsLeaf (type_of shape) ⊎ (IsSequence shape ⊎ (IsList shape ⊎ IsChoice shape))
unfolding IsSequence IsList IsChoice
kinds (Shape-F.Sequence root more) shape e = inr (inl (root, more, sym e ∙ rolls-Sequence root more))
kinds (Shape-F.SequenceOf size item) shape e = inr (inr (inl (size, item, sym e ∙ rolls-SequenceOf size item)))
kinds (Shape-F.Choice root more) shape e = inr (inr (inr (root, more, sym e ∙ rolls-Choice root more)))
kinds o shape e = inl (subst (λ (x : Shape). IsLeaf (type_of x)) e (subst IsLeaf (sym (fold-roll-Shape AsnType SeenAddition SeenAlternative SeenField shape_step addition_step alt_step field_step o)) tt))

known : (shape : Shape) → IsLeaf (type_of shape) ⊎ (IsSequence shape ⊎ (IsList shape ⊎ IsChoice shape))
known shape = kinds (out-Shape shape) shape (roll-out-Shape shape)

leaf_has : (T : AsnType) (st : Step) → IsLeaf T → has_step T st ≡ false
leaf_has (leaf kind) st h = refl
leaf_has (sequence fs) st h = absurd h
leaf_has (extensible_sequence fs more) st h = absurd h
leaf_has (sequence_of s T) st h = absurd h
leaf_has (choice x more) st h = absurd h

list_has : (shape : Shape) → IsList shape → (st : Step) → ((i : ℕ) → st ≡ to_item i → ⊥) → has_step (type_of shape) st ≡ false
unfolding IsList
list_has shape (size, item, e) st other = ap (λ (x : Shape). has_step (type_of x) st) e ∙ ap (λ T. has_step T st) (type_of-SequenceOf size item) ∙ by st other where
  by : (st : Step) → ((i : ℕ) → st ≡ to_item i → ⊥) → has_step (sequence_of size (type_of item.value)) st ≡ false
  by (to_component i) other = refl
  by (to_addition i) other = refl
  by (to_item i) other = absurd (other i refl)
  by to_chosen other = refl

choice_has : (shape : Shape) → IsChoice shape → (st : Step) → (st ≡ to_chosen → ⊥) → has_step (type_of shape) st ≡ false
unfolding IsChoice
choice_has shape (root, more, e) st other = ap (λ (x : Shape). has_step (type_of x) st) e ∙ ap (λ T. has_step T st) (type_of-Choice root more) ∙ by more st other where
  by : (more : Option (Vec Alt Global)) (st : Step) → (st ≡ to_chosen → ⊥) → has_step (choice_with root.items more) st ≡ false
  by None (to_component i) other = refl
  by None (to_addition i) other = refl
  by None (to_item i) other = refl
  by None to_chosen other = absurd (other refl)
  by (Some m) (to_component i) other = refl
  by (Some m) (to_addition i) other = refl
  by (Some m) (to_item i) other = refl
  by (Some m) to_chosen other = absurd (other refl)

sequence_has : (shape : Shape) → IsSequence shape → (st : Step) → ((i : ℕ) → st ≡ to_component i → ⊥) → ((i : ℕ) → st ≡ to_addition i → ⊥) → has_step (type_of shape) st ≡ false
unfolding IsSequence
sequence_has shape (root, more, e) st one two = ap (λ (x : Shape). has_step (type_of x) st) e ∙ ap (λ T. has_step T st) (type_of-Sequence root more) ∙ by more st one two where
  by : (more : Option (Vec Addition Global)) (st : Step) → ((i : ℕ) → st ≡ to_component i → ⊥) → ((i : ℕ) → st ≡ to_addition i → ⊥) → has_step (sequence_with root.items more) st ≡ false
  by None (to_component i) one two = absurd (one i refl)
  by None (to_addition i) one two = refl
  by None (to_item i) one two = refl
  by None to_chosen one two = refl
  by (Some m) (to_component i) one two = absurd (one i refl)
  by (Some m) (to_addition i) one two = absurd (two i refl)
  by (Some m) (to_item i) one two = refl
  by (Some m) to_chosen one two = refl

pub not_sequence : (shape : Shape) → ((root : Vec Field Global) (more : Option (Vec Addition Global)) → shape ≡ Sequence root more → ⊥) → (st : Step) → ((i : ℕ) → st ≡ to_item i → ⊥) → (st ≡ to_chosen → ⊥) → has_step (type_of shape) st ≡ false
unfolding IsSequence
not_sequence shape none st one two = ⊎_elim (leaf_has (type_of shape) st) (⊎_elim (λ (root, more, e). absurd (none root more e)) (⊎_elim (λ k. list_has shape k st one) (λ k. choice_has shape k st two))) (known shape)

pub not_list : (shape : Shape) → ((size : Size) (item : Box Shape Global) → shape ≡ SequenceOf size item → ⊥) → (i : ℕ) → has_step (type_of shape) (to_item i) ≡ false
unfolding IsList
not_list shape none i = ⊎_elim (leaf_has (type_of shape) (to_item i)) (⊎_elim (λ k. sequence_has shape k (to_item i) (λ j e. absurd (cc)) (λ j e. absurd (cc))) (⊎_elim (λ (size, item, e). absurd (none size item e)) (λ k. choice_has shape k (to_item i) (λ e. absurd (cc))))) (known shape)

pub not_choice : (shape : Shape) → ((root : Vec Alt Global) (more : Option (Vec Alt Global)) → shape ≡ Choice root more → ⊥) → has_step (type_of shape) to_chosen ≡ false
unfolding IsChoice
not_choice shape none = ⊎_elim (leaf_has (type_of shape) to_chosen) (⊎_elim (λ k. sequence_has shape k to_chosen (λ j e. absurd (cc)) (λ j e. absurd (cc))) (⊎_elim (λ k. list_has shape k to_chosen (λ j e. absurd (cc))) (λ (root, more, e). absurd (none root more e)))) (known shape)

-- what has no parts is a leaf
pub is_leaf : (shape : Shape) → ((root : Vec Field Global) (more : Option (Vec Addition Global)) → shape ≡ Sequence root more → ⊥) → ((size : Size) (item : Box Shape Global) → shape ≡ SequenceOf size item → ⊥) → ((root : Vec Alt Global) (more : Option (Vec Alt Global)) → shape ≡ Choice root more → ⊥) → IsLeaf (type_of shape)
unfolding IsSequence IsList IsChoice
is_leaf shape no_sequence no_list no_choice = ⊎_elim (λ k. k) (⊎_elim (λ (root, more, e). absurd (no_sequence root more e)) (⊎_elim (λ (size, item, e). absurd (no_list size item e)) (λ (root, more, e). absurd (no_choice root more e)))) (known shape)

-- ---- which steps name a component of the root or a known addition

known_has : (T : AsnType) (st : Step) → has_step T st ≡ false → false ≡ knows T st
known_has (sequence fs) (to_component i) e = absurd (cc)
known_has (sequence fs) (to_addition i) e = refl
known_has (sequence fs) (to_item i) e = refl
known_has (sequence fs) to_chosen e = refl
known_has (extensible_sequence fs more) (to_component i) e = absurd (cc)
known_has (extensible_sequence fs more) (to_addition i) e = absurd (cc)
known_has (extensible_sequence fs more) (to_item i) e = refl
known_has (extensible_sequence fs more) to_chosen e = refl
known_has (sequence_of s T) st e = refl
known_has (choice x more) st e = refl
known_has (leaf kind) st e = refl

never_item : (T : AsnType) (i : ℕ) → false ≡ knows T (to_item i)
never_item (sequence fs) i = refl
never_item (extensible_sequence fs more) i = refl
never_item (sequence_of s T) i = refl
never_item (choice x more) i = refl
never_item (leaf kind) i = refl

never_chosen : (T : AsnType) → false ≡ knows T to_chosen
never_chosen (sequence fs) = refl
never_chosen (extensible_sequence fs more) = refl
never_chosen (sequence_of s T) = refl
never_chosen (choice x more) = refl
never_chosen (leaf kind) = refl

pub not_known : (shape : Shape) → ((root : Vec Field Global) (more : Option (Vec Addition Global)) → shape ≡ Sequence root more → ⊥) → (st : Step) → false ≡ knows (type_of shape) st
not_known shape none (to_component i) = known_has (type_of shape) (to_component i) (not_sequence shape none (to_component i) (λ j e. absurd (cc)) (λ e. absurd (cc)))
not_known shape none (to_addition i) = known_has (type_of shape) (to_addition i) (not_sequence shape none (to_addition i) (λ j e. absurd (cc)) (λ e. absurd (cc)))
not_known shape none (to_item i) = never_item (type_of shape) i
not_known shape none to_chosen = never_chosen (type_of shape)

field_count_is : (xs : List Field) → field_count (fields_of xs) ≡ length xs
field_count_is [] = refl
field_count_is (x ∷ xs) = ap suc (field_count_is xs)

pub knows_component : (shape : Shape) (root : Vec Field Global) (more : Option (Vec Addition Global)) (i : ℕ) → shape ≡ Sequence root more → ltb i (length root.items) ≡ knows (type_of shape) (to_component i)
knows_component shape root more i e = by more ∙ ap (λ T. knows T (to_component i)) (sym (type_of-Sequence root more)) ∙ ap (λ (x : Shape). knows (type_of x) (to_component i)) (sym e) where
  by : (more : Option (Vec Addition Global)) → ltb i (length root.items) ≡ knows (sequence_with root.items more) (to_component i)
  by None = ap (ltb i) (sym (field_count_is root.items))
  by (Some m) = ap (ltb i) (sym (field_count_is root.items))

pub knows_addition : (shape : Shape) (root : Vec Field Global) (more : Option (Vec Addition Global)) (xs : Vec Addition Global) (i : ℕ) → shape ≡ Sequence root more → more ≡ Some xs → ltb i (length xs.items) ≡ knows (type_of shape) (to_addition i)
knows_addition shape root more xs i e some =
    ap (ltb i) (sym (count_is xs.items))
    ∙ ap (λ (m : Option (Vec Addition Global)). knows (sequence_with root.items m) (to_addition i)) (sym some)
    ∙ ap (λ T. knows T (to_addition i)) (sym (type_of-Sequence root more)) ∙ ap (λ (x : Shape). knows (type_of x) (to_addition i)) (sym e)
