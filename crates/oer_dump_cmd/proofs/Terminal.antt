-- How wide lines are, from what COLUMNS says.
use Rattle.std.proofs.Common.{◌≡◌, ℕ, ◌<◌, ◌^◌, Bool, true, Option, Some, inl, subst, sym, arith}
use Rattle.std.specs.Str.Parse.{IsNumeral, digits_value, without_leading_plus}
use Rattle.clap.specs.Words.{Text}
use Rattle.oer_dump_cmd.specs.Words.{IsUsualWidth}

pub number_read : (is_terminal : Bool) (columns : Option Text) (text : Text) (n : ℕ) → columns ≡ Some text
    → (IsNumeral 10 (without_leading_plus text) × (digits_value 10 (without_leading_plus text) < 2 ^ 64)) × (n ≡ digits_value 10 (without_leading_plus text)) → is_terminal ≡ true
    → IsUsualWidth is_terminal columns n
number_read is_terminal columns text n is reads so =
    subst (λ t. IsUsualWidth t columns n) (sym so) (subst (λ c. IsUsualWidth true c n) (sym is) (inl (record { digits = reads.0.0; value = reads.1 }, omega (arith, reads.0.1, reads.1))))
