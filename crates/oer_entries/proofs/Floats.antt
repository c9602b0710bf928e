-- JSON without floats.
use Rattle.std.proofs.Common.{◌≡◌, ◌∙◌, ℤ, pos, negsuc, false, ap, refl, rules}
use Rattle.serde_json.specs.Data as json
use Rattle.serde_json.specs.Data.{Data}
use Rattle.serde_json.specs.Find.{of_integer}
use Rattle.serde_json.specs.View.{view}
use Rattle.serde_json.specs.Written.{has_float}
use Rattle.serde_json.specs.declared.value.Value as value

view-Null : view value.Null ≡ json.null
view-Null = search (rules, value.the_lemmas)

pub null_plain : has_float (view value.Null) ≡ false
null_plain = ap has_float view-Null

whole_plain : (z : ℤ) → has_float (json.number (of_integer z)) ≡ false
whole_plain (pos n) = refl
whole_plain (negsuc n) = refl

pub integer_plain : (z : ℤ) (d : Data) → d ≡ json.number (of_integer z) → has_float d ≡ false
integer_plain z d is = ap has_float is ∙ whole_plain z
