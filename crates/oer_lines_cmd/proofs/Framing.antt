-- The frames of octets, one after another.
use Rattle.std.proofs.Common.{◌≡◌, ◌∙◌, ℕ, zero, suc, ◌≤◌, ◌<◌, Bool, true, false, List, [], ◌∷◌, ◌++◌, length, take, drop, leb, cond, refl, sym, ap, arith, length-append, length-drop, le-leb, append_assoc}
use Rattle.std.proofs.lemmas.Bool.{leb-false, leb-true, lt-leb}
use Rattle.std.proofs.lemmas.List.{length-take-le, take-append-drop, take-append-le}
use Rattle.std.proofs.Math.Seq.{drop-append_seam, take-append_seam}
use Rattle.oer_units.specs.Numbers.{unsigned}
use Rattle.oer_lines_cmd.specs.Frames.{Frame, cut, first_frames, frame_size, frames, whole}
use Rattle.oer_lines_cmd.specs.Laws.{AreFrames}

-- what octets that begin with a frame are
abbrev split_by : ℕ → List ℕ → List Frame → List Frame
split_by n xs rest = cond (leb (frame_size n xs) (length xs)) (whole (drop n (take (frame_size n xs) xs)) ∷ rest) (cut (length xs) ∷ [])

-- More frames than there are octets are all.
enough : (k j n : ℕ) (xs : List ℕ) → 1 ≤ n → length xs ≤ k → length xs ≤ j → first_frames k n xs ≡ first_frames j n xs
enough zero zero n xs some a b = refl
enough zero (suc j) n [] some a b = refl
enough zero (suc j) n (x ∷ xs) some a b = absurd (omega (arith, a))
enough (suc k) zero n [] some a b = refl
enough (suc k) zero n (x ∷ xs) some a b = absurd (omega (arith, b))
enough (suc k) (suc j) n [] some a b = refl
enough (suc k) (suc j) n (x ∷ xs) some a b =
    let size = frame_size n (x ∷ xs) in
    let less = length-drop size (x ∷ xs) in
    ap (split_by n (x ∷ xs)) (enough k j n (drop size (x ∷ xs)) some (omega (arith, a, less, some)) (omega (arith, b, less, some)))

-- the first frame, and the rest
first : (n : ℕ) (xs : List ℕ) → 1 ≤ n → 1 ≤ length xs → frames n xs ≡ split_by n xs (frames n (drop (frame_size n xs) xs))
first n [] some has = absurd (omega (arith, has))
first n (x ∷ xs) some has =
    let size = frame_size n (x ∷ xs) in
    let less = length-drop size (x ∷ xs) in
    ap (split_by n (x ∷ xs)) (enough (length xs) (length (drop size (x ∷ xs))) n (drop size (x ∷ xs)) some (omega (arith, less, some)) (omega arith))

-- a whole frame, and those behind it
pub split_whole : (n : ℕ) (head b more : List ℕ) → 1 ≤ n → length head ≡ n → unsigned head ≡ length b
    → frames n ((head ++ b) ++ more) ≡ whole b ∷ frames n more
split_whole n head b more some long says =
    let xs = (head ++ b) ++ more in
    let front : take n xs ≡ head =
    ap (take n) (append_assoc head b more) ∙ ap (λ k. take k (head ++ (b ++ more))) (sym long) ∙ take-append_seam head (b ++ more) in
    let both = length-append head b in
    let said = ap unsigned front in
    let size : frame_size n xs ≡ length (head ++ b) = omega (arith, said, says, long, both) in
    let all = length-append (head ++ b) more in
    let fits : leb (frame_size n xs) (length xs) ≡ true = le-leb (frame_size n xs) (length xs) (omega (arith, size, all)) in
    let message : drop n (take (frame_size n xs) xs) ≡ b =
    ap (λ k. drop n (take k xs)) size ∙ ap (drop n) (take-append_seam (head ++ b) more) ∙ ap (λ k. drop k (head ++ b)) (sym long) ∙ drop-append_seam head b in
    let rest : drop (frame_size n xs) xs ≡ more = ap (λ k. drop k xs) size ∙ drop-append_seam (head ++ b) more in
    first n xs some (omega (arith, all, both, long, some))
    ∙ ap (λ c. cond c (whole (drop n (take (frame_size n xs) xs)) ∷ frames n (drop (frame_size n xs) xs)) (cut (length xs) ∷ [])) fits
    ∙ ap (λ l. whole l ∷ frames n (drop (frame_size n xs) xs)) message
    ∙ ap (λ l. whole b ∷ frames n l) rest

-- one that is cut
pub split_cut : (n : ℕ) (xs : List ℕ) → 1 ≤ n → 1 ≤ length xs → length xs < frame_size n xs → frames n xs ≡ cut (length xs) ∷ []
split_cut n xs some has short =
    first n xs some has ∙ ap (λ b. cond b (whole (drop n (take (frame_size n xs) xs)) ∷ frames n (drop (frame_size n xs) xs)) (cut (length xs) ∷ [])) (lt-leb (frame_size n xs) (length xs) short)

-- ---- the octets are their frames, and no others

pub are_frames : (k n : ℕ) (xs : List ℕ) → 1 ≤ n → length xs ≤ k → AreFrames n xs (first_frames k n xs)
are_frames zero n [] some few = refl
are_frames zero n (x ∷ xs) some few = absurd (omega (arith, few))
are_frames (suc k) n [] some few = refl
are_frames (suc k) n (x ∷ xs) some few =
    let size = frame_size n (x ∷ xs) in
    let left = length-drop size (x ∷ xs) in
    at (leb size (length (x ∷ xs))) refl (are_frames k n (drop size (x ∷ xs)) some (omega (arith, left, few, some))) where
      octets : List ℕ
      octets = x ∷ xs

      size : ℕ
      size = frame_size n octets

      at : (b : Bool) → leb size (length octets) ≡ b → AreFrames n (drop size octets) (first_frames k n (drop size octets))
          → AreFrames n octets (cond b (whole (drop n (take size octets)) ∷ first_frames k n (drop size octets)) (cut (length octets) ∷ []))
      at true fits more =
          let within = leb-true size (length octets) fits in
          let front = take size octets in
          let rest = drop size octets in
          let long = length-take-le size octets within in
          let both = take-append-drop size octets in
          let head : take n octets ≡ take n front = ap (take n) (sym both) ∙ take-append-le n front rest (omega (arith, long)) in
          let message = length-drop n front in (
            take n octets,
            rest,
            length-take-le n octets (omega (arith, within)),
            omega (arith, message, long),
            sym both ∙ ap (λ l. l ++ rest) (sym (take-append-drop n front)) ∙ ap (λ l. (l ++ drop n front) ++ rest) (sym head),
            more,
          )
      at false short more = (refl, omega arith, leb-false size (length octets) short, refl)

pub only_frames : (n : ℕ) (xs : List ℕ) (fs : List Frame) → 1 ≤ n → AreFrames n xs fs → fs ≡ frames n xs
only_frames n xs [] some none = sym (ap (frames n) none)
only_frames n xs (whole b ∷ fs) some (head, rest, long, says, is, more) =
    ap (λ l. whole b ∷ l) (only_frames n rest fs some more) ∙ sym (split_whole n head b rest some long says) ∙ ap (frames n) (sym is)
only_frames n xs (cut there ∷ fs) some (is, has, short, none) =
    ap (λ k. cut k ∷ fs) (sym is) ∙ ap (λ l. cut (length xs) ∷ l) none
    ∙ sym (split_cut n xs some (omega (arith, has, is)) (omega (arith, short, is)))
