-- What types are called, and the type of the last part of a way.
use Rattle.std.proofs.Common.{◌≡◌, ◌∙◌, ℕ, List, [], ◌∷◌, ◌++◌, map, Option, Some, None, Vec, Global, codes, refl, ap, ap₂, sym}
use Rattle.std.proofs.lemmas.List.{map-append}
use Rattle.oer_units.specs.declared.tagging.Tag.{Tag}
use Rattle.oer_model.specs.AsnType.{AsnType}
use Rattle.oer_model.specs.Parts as plain
use Rattle.oer_parts.specs.Walk.{step_of}
use Rattle.oer_values.specs.ShapeView.{choice_with, sequence_with}
use Rattle.oer_values.specs.declared.shape.Addition.{Addition}
use Rattle.oer_values.specs.declared.shape.Alt.{Alt}
use Rattle.oer_values.specs.declared.shape.Field.{Field}
use Rattle.oer_values.specs.declared.shape.Shape.{the_lemmas}
use Rattle.oer_values.proofs.Shapes.{shapes}
use Rattle.oer_entries.specs.Frames.{Seen, seen, type_at}
use Rattle.oer_entries.specs.Kinds.{kind_text}
use Rattle.oer_entries.specs.Trails.{last_type}
use Rattle.oer_entries.specs.declared.frame.Frame.{Frame}

pub kind_sequence : (fs : List Field) (additions : Option (Vec Addition Global)) → kind_text (Some (sequence_with fs additions)) ≡ codes "SEQUENCE"
kind_sequence fs None = refl
kind_sequence fs (Some more) = refl

pub kind_choice : (root : List Alt) (additions : Option (Vec Alt Global)) → kind_text (Some (choice_with root additions)) ≡ codes "CHOICE"
kind_choice root None = refl
kind_choice root (Some more) = refl

pub ruleset kinds = (shapes, the_lemmas, kind_sequence, kind_choice)

-- ---- the last part

last_snoc : (fs : List Seen) (f : Seen) → last_type (fs ++ f ∷ []) ≡ f.is.type
last_snoc [] f = refl
last_snoc (g ∷ []) f = refl
last_snoc (g ∷ h ∷ fs) f = last_snoc (h ∷ fs) f

pub last_seen : (items front : List Frame) (x : Frame) → items ≡ front ++ x ∷ [] → last_type (map seen items) ≡ type_at x
last_seen items front x is =
    ap (λ l. last_type (map seen l)) is ∙ ap last_type (map-append seen front (x ∷ [])) ∙ last_snoc (map seen front) (seen x)
