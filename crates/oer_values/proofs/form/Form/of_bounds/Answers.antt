use Rattle.std.proofs.Common.{◌∙◌, refl, sym}
use Rattle.oer_model.specs.Constraints.{form_of}
use Rattle.oer_values.proofs.form.Form.of_bounds.Goals as goal

pub returns-then-is_from : goal.returns-then-is_from
unfolding form_of
returns-then-is_from c = c.unsigned_form.ensures ∙ (rw (sym (c.if-is_from.ensures)) refl)

pub returns-else-is_from : goal.returns-else-is_from
unfolding form_of
returns-else-is_from c = c.signed_form.ensures ∙ (rw (sym (c.if-is_from.ensures)) refl)
