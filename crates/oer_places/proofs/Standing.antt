-- Places stand where they are told.
use Rattle.std.proofs.Common.{◌≡◌, ◌∙◌, ℕ, ◌+◌, List, [], ◌∷◌, ◌++◌, Bool, true, false, refl, sym, ap, append_assoc, append-nil, inl, inr, arith, subst}
use Rattle.std.specs.Prelude.{◌⊎◌, ◌==◌, if◌then◌else◌}
use Rattle.std.proofs.lemmas.Bool.Decides.{nat_tests}
use Rattle.oer_places.specs.Place.{PlacesStand, last_line, line_feeds, line_from}

counted_on : (b : Bool) (n m : ℕ) → (if b then (n + m) + 1 else n + m) ≡ (if b then n + 1 else n) + m
counted_on true n m = omega arith
counted_on false n m = refl

feeds_append : (xs ys : List ℕ) → line_feeds (xs ++ ys) ≡ line_feeds xs + line_feeds ys
feeds_append [] ys = omega arith
feeds_append (x ∷ xs) ys = ap (λ n. if x == 10 then n + 1 else n) (feeds_append xs ys) ∙ counted_on (x == 10) (line_feeds xs) (line_feeds ys)

abbrev Ends : List ℕ → Type 0
Ends before = (before ≡ []) ⊎ ((most : List ℕ) × (before ≡ most ++ 10 ∷ []))

-- what is before the last line of these, which begin with such a front and a line so far
record Split (whole line : List ℕ) : Type 0 where
  before : List ℕ
  split : whole ≡ before ++ line
  ends : Ends before
  alone : line_feeds line ≡ 0

-- the next octet is a line feed, or not
next : (pre line cs : List ℕ) (c : ℕ) (b : Bool) → (c == 10) ≡ b → Ends pre → line_feeds line ≡ 0
    → ((pre line : List ℕ) → Ends pre → line_feeds line ≡ 0 → Split (pre ++ (line ++ cs)) (line_from line cs))
    → Split (pre ++ (line ++ c ∷ cs)) (if b then line_from [] cs else line_from (line ++ c ∷ []) cs)
next pre line cs c true e ends alone rest =
    let is : c ≡ 10 = grind (arith, nat_tests) in
    let all : pre ++ (line ++ c ∷ cs) ≡ ((pre ++ line) ++ 10 ∷ []) ++ cs =
    ap (λ (d : ℕ). pre ++ (line ++ d ∷ cs)) is ∙ sym (append_assoc pre line (10 ∷ cs)) ∙ sym (append_assoc (pre ++ line) (10 ∷ []) cs) in
    subst (λ (l : List ℕ). Split l (line_from [] cs)) (sym all) (rest ((pre ++ line) ++ 10 ∷ []) [] (inr (pre ++ line, refl)) refl)
next pre line cs c false e ends alone rest =
    let none : line_feeds (line ++ c ∷ []) ≡ 0 = feeds_append line (c ∷ []) ∙ ap (λ (b : Bool). line_feeds line + (if b then 0 + 1 else 0)) e ∙ ap (λ (n : ℕ). n + 0) alone in
    subst (λ (l : List ℕ). Split l (line_from (line ++ c ∷ []) cs)) (ap (λ (l : List ℕ). pre ++ l) (append_assoc line (c ∷ []) cs)) (rest pre (line ++ c ∷ []) ends none)

more : (cs pre line : List ℕ) → Ends pre → line_feeds line ≡ 0 → Split (pre ++ (line ++ cs)) (line_from line cs)
more [] pre line ends alone = record { before = pre; split = ap (λ (l : List ℕ). pre ++ l) (append-nil line); ends = ends; alone = alone }
more (c ∷ cs) pre line ends alone = next pre line cs c (c == 10) refl ends alone (more cs)

pub places_stand : PlacesStand
places_stand front =
    let s : Split front (last_line front) = more front [] [] (inl refl) refl in
    record {
      before = s.before;
      line = last_line front;
      split = s.split;
      lines = ap (λ n. n + 1) (ap line_feeds s.split ∙ feeds_append s.before (last_line front) ∙ ap (λ n. line_feeds s.before + n) s.alone ∙ omega arith);
      ends = s.ends;
      alone = s.alone;
      column = refl;
    }
