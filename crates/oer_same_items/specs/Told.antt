-- What the reader of modules tells of types of the notation; and why it may reject one.
use Rattle.std.specs.Prelude.{◌≡◌, Bool, false, Ok, Err}
use Rattle.oer_module_limits.specs.Errors as limits
use Rattle.oer_module_text.specs.Errors.{Read, Why, unresolved, unlimited, not_taken, misnumbered, tag_number, too_deep, too_many_parts, too_long, too_wide}
use Rattle.oer_module_text.specs.declared.error.Part.TheVariants.{Value}
use Rattle.oer_module_values.specs.Errors as values

-- The reasons that the reader of modules may give where it rejects a type that the notation has, which is ordinary or not: each law
-- says what that means. Levels, parts, octets of its text, and bits of the number of a tag are for any type. For one that isn't
-- ordinary there are also steps from Name to Name, bits of a number, alternatives; a range or size that holds no number or has an
-- outermost end; numbers of items that are repeated, or don't rise behind the marker; or a value after DEFAULT, for white space among
-- its bits, a control character in its text, or 2^62 hexadecimal digits.
abbrev pub IsLimit : Bool → Why → Type 0
IsLimit ordinary too_deep = Unit {0}
IsLimit ordinary too_many_parts = Unit {0}
IsLimit ordinary too_long = Unit {0}
IsLimit ordinary tag_number = Unit {0}
IsLimit ordinary too_wide = ordinary ≡ false
IsLimit ordinary misnumbered = ordinary ≡ false
IsLimit ordinary (not_taken Value) = ordinary ≡ false
IsLimit ordinary (unlimited limits.too_large) = ordinary ≡ false
IsLimit ordinary (unlimited limits.empty) = ordinary ≡ false
IsLimit ordinary (unresolved values.circular) = ordinary ≡ false
IsLimit ordinary (unresolved values.too_large) = ordinary ≡ false
IsLimit ordinary why = ⊥

-- What is read is such a thing; or it is rejected for one of these reasons.
abbrev pub Tells : {A : Type 0} → Bool → (A → Type 0) → Read A → Type 0
Tells ordinary P (Ok x) = P x
Tells ordinary P (Err e) = IsLimit ordinary e.why
