-- How often a type that contains itself is written out.
use Rattle.std.specs.Prelude.{ℕ, zero, suc, List, ◌==◌, Bool, true, false, Ok, Err, if◌then◌else◌}
use Rattle.oer_model.specs.AsnType.{AsnType}
use Rattle.oer_module_syntax.specs.Tree.{Module}
use Rattle.oer_module_text.specs.Errors.{Read, Why, misnumbered, no_such_value, not_taken, tag_number, too_deep, too_long, too_many_parts, too_wide, unlimited, unresolved}
use Rattle.oer_module_types.specs.Types.{typed}
use Rattle.oer_module_values.specs.Types.{TypeIn}

-- the text is larger than it may be
abbrev pub is_over : Why → Bool
is_over (unresolved w) = false
is_over (unlimited w) = false
is_over (not_taken p) = false
is_over misnumbered = false
is_over tag_number = false
is_over no_such_value = false
is_over too_deep = true
is_over too_many_parts = true
is_over too_long = true
is_over too_wide = false

-- a type and its text
abbrev pub Typed : Type 0
Typed = AsnType × List ℕ

abbrev pub else_less : Read Typed → Read Typed → Read Typed
else_less (Ok t) less = Ok t
else_less (Err e) less = if is_over e.why then less else Err e

-- so often and once more, or less often where the text is larger than it may be; but at least once
unfoldable pub most : (ℕ → Read Typed) → ℕ → Read Typed
most f zero = f 1
most f (suc n) = else_less (f (suc (suc n))) (most f n)

unfoldable pub usual : List Module → TypeIn → Read Typed
usual ms of = most (λ n. typed ms n of) 7

-- so often; where nothing is said, at most 8 times
abbrev pub typed_by : List Module → ℕ → TypeIn → Read Typed
typed_by ms n of = if n == 0 then usual ms of else typed ms n of
