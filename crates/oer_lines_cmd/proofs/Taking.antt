-- What is left of the input behind a line.
use Rattle.std.proofs.Common.{◌≡◌, ◌∙◌, ℕ, suc, ◌-◌, ◌<◌, Bool, true, false, List, [], ◌∷◌, ◌++◌, length, Ok, None, Some, Option, IfSome, cond, drop, refl, sym, ap, subst, arith, eqb}
use Rattle.std.specs.Prelude.{◌&&◌, nat_lt, slice_index}
use Rattle.std.proofs.lemmas.Bool.{lt-ltb}
use Rattle.std.specs.Io.{StopsAt}
use Rattle.std.specs.Io.BufRead.{DropsThrough, drop_through, ends_with_byte, strip_last, take_through}
use Rattle.std.specs.Io.KnownBytes.{Consumes, IsAtEnd}
use Rattle.oer_lines_cmd.specs.Lines.{HasNoFeed, TakesLine, TakesPiece}

-- the end of a list is that of its tail
ends_tail : (x : ℕ) (t : List ℕ) → 0 < length t → ends_with_byte 10 (x ∷ t) ≡ ends_with_byte 10 t
ends_tail x [] h = absurd (omega (arith, h))
ends_tail x (y ∷ ys) h =
    let m : length (x ∷ y ∷ ys) - 1 ≡ suc (length ys) = omega arith in
    let n : length (y ∷ ys) - 1 ≡ length ys = omega arith in
    let last : slice_index (x ∷ y ∷ ys) (length (x ∷ y ∷ ys) - 1) ≡ slice_index (y ∷ ys) (length (y ∷ ys) - 1) =
    ap (slice_index (x ∷ y ∷ ys)) m ∙ sym (ap (slice_index (y ∷ ys)) n) in
    let some : nat_lt 0 (length (x ∷ y ∷ ys)) ≡ nat_lt 0 (length (y ∷ ys)) = lt-ltb 0 (length (x ∷ y ∷ ys)) (omega arith) ∙ sym (lt-ltb 0 (length (y ∷ ys)) (omega arith)) in
    ap (λ b. b && eqb (slice_index (x ∷ y ∷ ys) (length (x ∷ y ∷ ys) - 1)) 10) some ∙ ap (λ k. nat_lt 0 (length (y ∷ ys)) && eqb k 10) last

-- Where no line feed ends the first line, nothing stands behind it.
none_behind : (xs : List ℕ) → ends_with_byte 10 (take_through 10 xs) ≡ false → drop_through 10 xs ≡ []
none_behind [] e = refl
none_behind (x ∷ []) e = at (eqb x 10) where
  at : (b : Bool) → cond {A = List ℕ} b [] [] ≡ []
  at true = refl
  at false = refl
none_behind (x ∷ y ∷ ys) e = at (eqb x 10) refl e (none_behind (y ∷ ys)) where
  some : (b : Bool) → 0 < length (cond b (y ∷ []) (y ∷ take_through 10 ys))
  some true = omega arith
  some false = omega arith

  at : (b : Bool) → eqb x 10 ≡ b → ends_with_byte 10 (cond b (x ∷ []) (x ∷ take_through 10 (y ∷ ys))) ≡ false
      → (ends_with_byte 10 (take_through 10 (y ∷ ys)) ≡ false → drop_through 10 (y ∷ ys) ≡ []) → cond b (y ∷ ys) (drop_through 10 (y ∷ ys)) ≡ []
  at true is h rest = let open_ : eqb x 10 ≡ false = h in cc
  at false is h rest = rest (sym (ends_tail x (take_through 10 (y ∷ ys)) (some (eqb y 10))) ∙ h)

pub at_end : (old new : Option (List ℕ)) (none piece : List ℕ) → none ≡ [] → IfSome old (λ xs. piece ≡ none ++ take_through 10 xs)
    → DropsThrough old new 10 → ends_with_byte 10 piece ≡ false → IfSome old (λ xs. IsAtEnd new)
at_end None new none piece empty is drops e = tt
at_end (Some xs) new none piece empty is drops e =
    let all : piece ≡ take_through 10 xs = is ∙ ap (λ l. l ++ take_through 10 xs) empty in
    subst IsAtEnd (sym drops) (none_behind xs (ap (ends_with_byte 10) (sym all) ∙ e))

-- a piece that a line feed ends
pub taken_ended : (old new : Option (List ℕ)) (piece q line : List ℕ) (ended : Bool) → TakesPiece old new piece → HasNoFeed q → piece ≡ q ++ 10 ∷ []
    → line ≡ strip_last 13 q → ended ≡ true → TakesLine old new line (Ok ended)
taken_ended old new piece q line true h free is cut e = (q, free, cut, subst (Consumes old new) is h.1)
taken_ended old new piece q line false h free is cut e = let differ : false ≡ true = e in cc

-- and the last one
pub taken_last : (old new : Option (List ℕ)) (piece line : List ℕ) (ended : Bool) → TakesPiece old new piece → HasNoFeed line → line ≡ piece
    → ended ≡ ends_with_byte 10 piece → ended ≡ false → TakesLine old new line (Ok ended)
taken_last old new piece line true h free is whether e = let differ : true ≡ false = e in cc
taken_last old new piece line false h free is whether e = (free, subst (Consumes old new) (sym is) h.1, h.2 (sym whether))

-- what was read into nothing
pub taken_piece : (old new : Option (List ℕ)) (none piece : List ℕ) → none ≡ [] → StopsAt (drop (length none) piece) 10 → Consumes old new (drop (length none) piece)
    → IfSome old (λ xs. piece ≡ none ++ take_through 10 xs) → DropsThrough old new 10 → TakesPiece old new piece
taken_piece old new none piece empty stops takes is drops =
    let all : drop (length none) piece ≡ piece = ap (λ (l : List ℕ). drop (length l) piece) empty in
    (subst (λ l. StopsAt l 10) all stops, subst (Consumes old new) all takes, at_end old new none piece empty is drops)
