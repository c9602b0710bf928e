use Rattle.std.proofs.Common.{refl, sym}
use Rattle.oer_values.proofs.form.signed_form.Goals as goal

pub returns-then-is_within : goal.returns-then-is_within
returns-then-is_within c = rw (sym (c.if-is_within.ensures)) refl

pub returns-then-is_within-2 : goal.returns-then-is_within-2
returns-then-is_within-2 c = rw (sym (c.if-is_within.ensures), sym (c.if-is_within-2.ensures)) refl

pub returns-then-is_within-3 : goal.returns-then-is_within-3
returns-then-is_within-3 c = rw (sym (c.if-is_within.ensures), sym (c.if-is_within-2.ensures), sym (c.if-is_within-3.ensures)) refl

pub returns-then-is_within-4 : goal.returns-then-is_within-4
returns-then-is_within-4 c = rw (sym (c.if-is_within.ensures), sym (c.if-is_within-2.ensures), sym (c.if-is_within-3.ensures), sym (c.if-is_within-4.ensures)) refl

pub returns-else-is_within-4 : goal.returns-else-is_within-4
returns-else-is_within-4 c = rw (sym (c.if-is_within.ensures), sym (c.if-is_within-2.ensures), sym (c.if-is_within-3.ensures), sym (c.if-is_within-4.ensures)) refl
