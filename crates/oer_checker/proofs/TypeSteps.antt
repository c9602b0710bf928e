-- The checker of a shape, by what the shape is.
use Rattle.std.proofs.Common.{◌≡◌, Bool, true, false, List, Option, Some, None, Vec, Box, Global, refl, sym, ap, ap₂, ◌∙◌, subst}
use Rattle.oer_units.specs.Reader.{Outcome, Place}
use Rattle.oer_model.specs.AsnType.{Alternatives, AsnType, choice, extensible_sequence, no_alternatives, sequence, sequence_of}
use Rattle.oer_model.specs.Checking.{check_value}
use Rattle.oer_values.specs.ShapeView.{additions_of, fields_of, later_of, root_of, type_of}
use Rattle.oer_model.specs.declared.size.Size.{Size}
use Rattle.oer_values.specs.declared.shape.Field.{Field}
use Rattle.oer_values.specs.declared.shape.Addition.{Addition}
use Rattle.oer_values.specs.declared.shape.Alt.{Alt}
use Rattle.oer_values.specs.declared.shape.Shape.{Shape, Sequence, SequenceOf, Choice}
use Rattle.oer_model.specs.Constraints.{AlternativesKeepLimits, KeepsLimits}
use Rattle.oer_model.specs.Fits.{AlternativeDefaultsFit, DefaultsFit}
use Rattle.oer_checker.proofs.TagSteps.{after_defaults, after_limits, front_defaults, front_limits}
use Rattle.oer_values.proofs.Shapes.{type_of-Choice, type_of-Sequence, type_of-SequenceOf}

pub by_type : (S T : AsnType) (p : Place) (o : Outcome Bool) → S ≡ T → o ≡ check_value T p → o ≡ check_value S p
by_type S T p o is e = e ∙ ap (λ (U : AsnType). check_value U p) (sym is)

pub as_items : (shape : Shape) (size : Size) (item : Box Shape Global) → shape ≡ SequenceOf size item → type_of shape ≡ sequence_of size (type_of item.value)
as_items shape size item e = ap type_of e ∙ type_of-SequenceOf size item

pub as_sequence : (shape : Shape) (root : Vec Field Global) (more : Option (Vec Addition Global)) (fs : List Field) → shape ≡ Sequence root more → more ≡ None → fs ≡ root.items → type_of shape ≡ sequence (fields_of fs)
as_sequence shape root more fs e none is = ap type_of (e ∙ ap (λ (m : Option (Vec Addition Global)). Sequence root m) none) ∙ type_of-Sequence root None ∙ ap (λ (l : List Field). sequence (fields_of l)) (sym is)

pub as_extensible : (shape : Shape) (root : Vec Field Global) (more : Option (Vec Addition Global)) (adds : Vec Addition Global) (fs : List Field) (xs : List Addition) → shape ≡ Sequence root more → more ≡ Some adds → fs ≡ root.items → xs ≡ adds.items → type_of shape ≡ extensible_sequence (fields_of fs) (additions_of xs)
as_extensible shape root more adds fs xs e some is js = ap type_of (e ∙ ap (λ (m : Option (Vec Addition Global)). Sequence root m) some) ∙ type_of-Sequence root (Some adds) ∙ ap₂ (λ (l : List Field) (m : List Addition). extensible_sequence (fields_of l) (additions_of m)) (sym is) (sym js)

pub as_closed : (shape : Shape) (root : Vec Alt Global) (more : Option (Vec Alt Global)) (xs : List Alt) → shape ≡ Choice root more → more ≡ None → xs ≡ root.items → type_of shape ≡ choice false (root_of xs no_alternatives)
as_closed shape root more xs e none is = ap type_of (e ∙ ap (λ (m : Option (Vec Alt Global)). Choice root m) none) ∙ type_of-Choice root None ∙ ap (λ (l : List Alt). choice false (root_of l no_alternatives)) (sym is)

pub as_open : (shape : Shape) (root : Vec Alt Global) (more : Option (Vec Alt Global)) (later : Vec Alt Global) (xs ys : List Alt) → shape ≡ Choice root more → more ≡ Some later → xs ≡ root.items → ys ≡ later.items → type_of shape ≡ choice true (root_of xs (later_of ys))
as_open shape root more later xs ys e some is js = ap type_of (e ∙ ap (λ (m : Option (Vec Alt Global)). Choice root m) some) ∙ type_of-Choice root (Some later) ∙ ap₂ (λ (l m : List Alt). choice true (root_of l (later_of m))) (sym is) (sym js)

-- a root, and what follows it
pub record IsChoice (T : AsnType) (xs : List Alt) : Type 0 where
  pub extensible : Bool
  pub after : Alternatives
  pub is : T ≡ choice extensible (root_of xs after)

pub as_choice : (shape : Shape) (root : Vec Alt Global) (more : Option (Vec Alt Global)) (xs : List Alt) → shape ≡ Choice root more → xs ≡ root.items → IsChoice (type_of shape) xs
as_choice shape root None xs e is = record { extensible = false; after = no_alternatives; is = as_closed shape root None xs e refl is }
as_choice shape root (Some later) xs e is = record { extensible = true; after = later_of later.items; is = as_open shape root (Some later) later xs later.items e refl is refl }

-- ---- what is asked of alternatives

pub choice_limits : (shape : Shape) (root : Vec Alt Global) (more : Option (Vec Alt Global)) (xs : List Alt) → shape ≡ Choice root more → xs ≡ root.items → KeepsLimits (type_of shape) → AlternativesKeepLimits (root_of xs no_alternatives)
choice_limits shape root more xs e is k = let o = as_choice shape root more xs e is in front_limits xs o.after (subst KeepsLimits o.is k)

pub choice_defaults : (shape : Shape) (root : Vec Alt Global) (more : Option (Vec Alt Global)) (xs : List Alt) → shape ≡ Choice root more → xs ≡ root.items → DefaultsFit (type_of shape) → AlternativeDefaultsFit (root_of xs no_alternatives)
choice_defaults shape root more xs e is k = let o = as_choice shape root more xs e is in front_defaults xs o.after (subst DefaultsFit o.is k)

pub open_limits : (shape : Shape) (root : Vec Alt Global) (more : Option (Vec Alt Global)) (later : Vec Alt Global) (ys : List Alt) → shape ≡ Choice root more → more ≡ Some later → ys ≡ later.items → KeepsLimits (type_of shape) → AlternativesKeepLimits (later_of ys)
open_limits shape root more later ys e some is k = after_limits root.items (later_of ys) (subst KeepsLimits (as_open shape root more later root.items ys e some refl is) k)

pub open_defaults : (shape : Shape) (root : Vec Alt Global) (more : Option (Vec Alt Global)) (later : Vec Alt Global) (ys : List Alt) → shape ≡ Choice root more → more ≡ Some later → ys ≡ later.items → DefaultsFit (type_of shape) → AlternativeDefaultsFit (later_of ys)
open_defaults shape root more later ys e some is k = after_defaults root.items (later_of ys) (subst DefaultsFit (as_open shape root more later root.items ys e some refl is) k)
