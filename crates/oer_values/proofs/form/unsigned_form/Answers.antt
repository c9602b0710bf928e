use Rattle.std.proofs.Common.{refl, sym}
use Rattle.oer_values.proofs.form.unsigned_form.Goals as goal

pub returns-then-is_to : goal.returns-then-is_to
returns-then-is_to c = rw (sym (c.if-is_to.ensures)) refl

pub returns-then-is_to-2 : goal.returns-then-is_to-2
returns-then-is_to-2 c = rw (sym (c.if-is_to.ensures), sym (c.if-is_to-2.ensures)) refl

pub returns-then-is_to-3 : goal.returns-then-is_to-3
returns-then-is_to-3 c = rw (sym (c.if-is_to.ensures), sym (c.if-is_to-2.ensures), sym (c.if-is_to-3.ensures)) refl

pub returns-then-is_to-4 : goal.returns-then-is_to-4
returns-then-is_to-4 c = rw (sym (c.if-is_to.ensures), sym (c.if-is_to-2.ensures), sym (c.if-is_to-3.ensures), sym (c.if-is_to-4.ensures)) refl

pub returns-else-is_to-4 : goal.returns-else-is_to-4
returns-else-is_to-4 c = rw (sym (c.if-is_to.ensures), sym (c.if-is_to-2.ensures), sym (c.if-is_to-3.ensures), sym (c.if-is_to-4.ensures)) refl
