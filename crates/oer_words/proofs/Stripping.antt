-- What stands behind the front of a word.
use Rattle.std.proofs.Common.{◌≡◌, ◌≢◌, ◌+◌, ℕ, List, ◌++◌, length, take, drop, Bool, true, false, Option, Some, None, refl, sym, ap, ◌∙◌}
use Rattle.std.specs.Prelude.{MatchOption}
use Rattle.std.specs.Borrow.{Bor}
use Rattle.std.specs.Str.{bytes_eq}
use Rattle.std.specs.Str.Pattern.{FindsTextPrefix}
use Rattle.std.proofs.Math.Seq.{take_at}
use Rattle.std.proofs.Math.ListN.{take-append-drop}
use Rattle.std.proofs.lemmas.Slice.Eq.{bytes_eq-Decides}
use Rattle.oer_words.specs.Words.{Text, behind, value_behind}

itself : (a : Text) → bytes_eq a a ≡ true
itself a = (bytes_eq-Decides a a).1 refl

differs : (a b : Text) → a ≢ b → bytes_eq a b ≡ false
differs a b ne = by (bytes_eq a b) refl where
  by : (t : Bool) → bytes_eq a b ≡ t → bytes_eq a b ≡ false
  by true e = absurd (ne ((bytes_eq-Decides a b).0 e))
  by false e = e

pub stripped : (w p : Text) (r : Option (Bor Text))
    → MatchOption r (FindsTextPrefix p w None) (λ x. (n : ℕ) × FindsTextPrefix p w (Some n) × (x.now ≡ drop n w) × (length x.now + n ≡ length w))
    → behind r ≡ value_behind w p
stripped w p None h =
    rw (differs (take (length p) w) p (λ e. h (drop (length p) w) (sym (take-append-drop (length p) w) ∙ ap (λ (l : Text). l ++ drop (length p) w) e))) refl
stripped w p (Some x) (n, (is, split, at), rest, size) =
    let front : take (length p) w ≡ p = ap (take (length p)) split ∙ take_at p (drop n w) (length p) refl in
    rw (ap (λ (l : Text). bytes_eq l p) front ∙ itself p) (ap (λ (l : Text). Some l) (rest ∙ ap (λ (k : ℕ). drop k w) is))
