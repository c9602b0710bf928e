-- What is shown of a name is text.
use Rattle.std.proofs.Common.{◌≡◌, ◌<◌, ◌≤◌, ℕ, Bool, true, false, not, cond, ltb, ltb-false, Option, Some, None, List, length, take, get_or, refl, sym, ap, arith, IsUtf8}
use Rattle.std.specs.List.{before_first, position_or_len}
use Rattle.std.proofs.lemmas.Bool.Decides.{nat_tests}
use Rattle.std.proofs.lemmas.List.{get_or-take, length-take, take_all}
use Rattle.std.proofs.lemmas.List.Sums.{prefix_len_passes}
use Rattle.std.proofs.lemmas.Str.{IsUtf8-from_ascii}
use Rattle.std.proofs.lemmas.Str.Ascii.{IsAscii-from_reads}
use Rattle.oer_modules.specs.Words.{is_hidden}

shown_ascii : (c : ℕ) → not (is_hidden c) ≡ true → c < 128
shown_ascii c h = grind (arith, nat_tests)

pub shown_text : (bs : List ℕ) → IsUtf8 (before_first is_hidden bs)
shown_text bs =
    let n = position_or_len is_hidden bs in
    IsUtf8-from_ascii (take n bs) (IsAscii-from_reads (take n bs) (length (take n bs)) (omega arith) (λ k l.
    let within : k < n = omega (arith, length-take n bs) in
    let passes : not (is_hidden (get_or bs k 0)) ≡ true = prefix_len_passes (λ x. not (is_hidden x)) bs k 0 within in
    rw (get_or-take n bs k 0 within) (shown_ascii (get_or bs k 0) passes)))

-- ---- where the first byte of a kind is

some_at : (b : Bool) (n k : ℕ) → ◌≡◌ {A = Option ℕ} (Some n) (cond b (Some k) None) → n ≡ k
some_at true n k h = cc
some_at false n k h = absurd (cc)

pub some_before : (p : ℕ → Bool) (n : ℕ) (bs : List ℕ) → Some n ≡ cond (ltb (position_or_len p bs) (length bs)) (Some (position_or_len p bs)) None
    → take n bs ≡ before_first p bs
some_before p n bs h = ap (λ k. take k bs) (some_at (ltb (position_or_len p bs) (length bs)) n (position_or_len p bs) h)

none_at : (b : Bool) (k : ℕ) → ◌≡◌ {A = Option ℕ} None (cond b (Some k) None) → b ≡ false
none_at true k h = absurd (cc)
none_at false k h = refl

pub none_before : (p : ℕ → Bool) (bs : List ℕ) → None ≡ cond (ltb (position_or_len p bs) (length bs)) (Some (position_or_len p bs)) None → bs ≡ before_first p bs
none_before p bs h =
    let all : length bs ≤ position_or_len p bs = ltb-false _ _ (none_at (ltb (position_or_len p bs) (length bs)) (position_or_len p bs) h) in
    sym (take_all (position_or_len p bs) bs all)
