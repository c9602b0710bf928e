-- Texts that are put together.
use Rattle.std.proofs.Common.{◌≡◌, List, [], ◌∷◌, ◌++◌, codes, ap₂, ◌∙◌, append_assoc}
use Rattle.clap.specs.Words.{Text}
use Rattle.oer_cmd.specs.Ending.{refusal_line}
use Rattle.oer_compare.specs.Difference.{Difference, Part}
use Rattle.oer_compare_cmd.specs.Line.{aspect_text, differs, joined, located_text, name_text, place_text, step_text}

pub located : (parts : List Part) (steps names text : Text) → text ≡ codes " at " ++ (steps ++ (codes " (" ++ (names ++ codes ")")))
    → steps ≡ joined step_text [] parts → names ≡ joined name_text [] parts → text ≡ located_text parts
located parts steps names text is s n = is ∙ ap₂ (λ (a b : Text). codes " at " ++ (a ++ (codes " (" ++ (b ++ codes ")")))) s n ∙ simp append_assoc

pub lined : (d : Difference) (place aspect line : Text) → line ≡ codes "oer: differs" ++ (place ++ (codes ": " ++ (aspect ++ 10 ∷ [])))
    → place ≡ place_text d.0 → aspect ≡ aspect_text d.1 → line ≡ refusal_line (differs d).text
lined d place aspect line is p a =
    is ∙ ap₂ (λ (x y : Text). codes "oer: differs" ++ (x ++ (codes ": " ++ (y ++ 10 ∷ [])))) p a ∙ simp append_assoc
