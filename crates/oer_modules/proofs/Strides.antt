-- Positions that are found from one before.
use Rattle.std.proofs.Common.{◌≡◌, ◌<◌, ◌≤◌, ◌+◌, ◌*◌, ℕ, zero, suc, List, [], ◌∷◌, ◌++◌, length, take, drop, map, get_or, length-append, length-drop, ◌==◌, false, refl, sym, ap, ◌∙◌, subst, arith}
use Rattle.std.proofs.lemmas.List.{get_or-map, drop-drop, drop-take, length-take, take-append-drop, take-take}
use denote.Ref.{Bor}
use Rattle.oer_modules.proofs.Walks.{beyond_within}
use Rattle.oer_modules.specs.Marks.{AreMarked, AreMarks, AreMarksBy, IsMarked}
use Rattle.oer_modules.specs.Places.{behind, beyond, first_position, position_at}
use Rattle.oer_modules.specs.declared.marks.Marks.{Marks}
use Rattle.oer_modules.specs.declared.place.Position.{Position}

behind_append : (xs ys : List ℕ) (p : Position) → behind (xs ++ ys) p ≡ behind ys (behind xs p)
unfolding behind
behind_append [] ys p = refl
behind_append (x ∷ xs) ys p = behind_append xs ys (beyond x p)

-- the same from a byte before
pub position_from : (t : List ℕ) (from at : ℕ) → from ≤ at → behind (drop from (take at t)) (position_at from t) ≡ position_at at t
position_from t from at h =
    ap (λ x. behind (drop from (take at t)) (behind x first_position)) (sym (take-take from at t h))
    ∙ sym (behind_append (take from (take at t)) (drop from (take at t)) first_position)
    ∙ ap (λ x. behind x first_position) (take-append-drop from (take at t))

-- how far a position goes
abbrev Within : Position → ℕ → Position → Type 0
Within p n q = (q.line ≤ p.line + n) × (q.column ≤ p.column + n)

behind_within : (xs : List ℕ) (p : Position) → Within p (length xs) (behind xs p)
unfolding behind
behind_within [] p = (omega arith, omega arith)
behind_within (x ∷ xs) p =
    let one = beyond_within x p in
    let more = behind_within xs (beyond x p) in
    let line : (beyond x p).line ≤ p.line + 1 = one.0 in
    let column : (beyond x p).column ≤ p.column + 1 = one.1 in
    let lines : (behind xs (beyond x p)).line ≤ (beyond x p).line + length xs = more.0 in
    let columns : (behind xs (beyond x p)).column ≤ (beyond x p).column + length xs = more.1 in
    (omega arith, omega arith)

whole_length : (t : List ℕ) (n : ℕ) → length (take n t) + length (drop n t) ≡ length t
whole_length t n = sym (length-append (take n t) (drop n t)) ∙ ap length (take-append-drop n t)

-- so no position is further than the text is long
pub position_within : (t : List ℕ) (at : ℕ) → ((position_at at t).line + length (drop at t) ≤ 1 + length t) × ((position_at at t).column + length (drop at t) ≤ 1 + length t)
position_within t at =
    let far = behind_within (take at t) first_position in
    let line : (position_at at t).line ≤ 1 + length (take at t) = far.0 in
    let column : (position_at at t).column ≤ 1 + length (take at t) = far.1 in
    let whole = whole_length t at in
    (omega arith, omega arith)

-- ---- marks

-- what holds of each element with its place, with one element more
each_more : {X : Type 0} (P : ℕ → X → Type 0) (xs : List X) (x : X) → ((k : ℕ) (d : X) → k < length xs → P k (get_or xs k d)) → P (length xs) x
    → (k : ℕ) (d : X) → k < length (xs ++ x ∷ []) → P k (get_or (xs ++ x ∷ []) k d)
each_more P [] x f h zero d l = h
each_more P [] x f h (suc k) d l = absurd (omega arith)
each_more P (y ∷ ys) x f h zero d l = f 0 d (omega arith)
each_more P (y ∷ ys) x f h (suc k) d l = each_more (λ j z. P (suc j) z) ys x (λ j e m. f (suc j) e (omega arith)) h k d (omega arith)

pub marks_none : (n : ℕ) (t : List ℕ) → AreMarksBy n t []
marks_none n t = λ k d h. absurd (omega arith)

pub marks_more : (n : ℕ) (t : List ℕ) (ps : List Position) (p : Position) → AreMarksBy n t ps → p ≡ position_at (length ps * n) t → AreMarksBy n t (ps ++ p ∷ [])
marks_more n t ps p marks is = each_more (λ k q. q ≡ position_at (k * n) t) ps p marks is

pub marked_more : (ts : List (List ℕ)) (ms : List Marks) (m : Marks) → AreMarked ts ms → AreMarks (get_or ts (length ms) []) m.positions.items → AreMarked ts (ms ++ m ∷ [])
marked_more ts ms m marked marks = each_more (λ k (x : Marks). AreMarks (get_or ts k []) x.positions.items) ms m marked marks

-- the marks of one text more
pub marked_step : (ts : List (Bor (List ℕ))) (ms : List Marks) (m : Marks) (i : ℕ) (t : Bor (List ℕ)) → AreMarked (map (λ t. t.now) ts) ms → length ms ≡ i → i < length ts
    → AreMarks (get_or ts i t).now m.positions.items → AreMarked (map (λ t. t.now) ts) (ms ++ m ∷ [])
marked_step ts ms m i t marked count less marks =
    let same = ap (λ j. get_or (map (λ t. t.now) ts) j []) count ∙ get_or-map (λ t. t.now) ts i t [] less in
    marked_more (map (λ t. t.now) ts) ms m marked (subst (λ x. AreMarks x m.positions.items) (sym same) marks)

-- the marks of one of the texts
pub one_marked : (ts : List (Bor (List ℕ))) (ms : List Marks) (k : ℕ) (t : Bor (List ℕ)) → AreMarked (map (λ t. t.now) ts) ms → k < length ts → IsMarked (get_or ts k t).now k ms
one_marked ts ms k t marked less = subst (λ x. IsMarked x k ms) (get_or-map (λ t. t.now) ts k t [] less) (marked k)

-- the position of the first mark
pub first_mark : (t : List ℕ) → first_position ≡ position_at 0 t
unfolding behind
first_mark t = refl

-- the position of the next mark
pub next_mark : (n k : ℕ) (t rest : List ℕ) (p : Position) → rest ≡ drop (k * n) t → p ≡ position_at (k * n) t → behind (take n rest) p ≡ position_at (suc k * n) t
next_mark n k t rest p left is =
    let next : k * n + n ≡ suc k * n = omega arith in
    let less : k * n ≤ k * n + n = omega arith in
    rw (left, is) (ap (λ x. behind x (position_at (k * n) t)) (sym (drop-take (k * n) n t)) ∙ position_from t (k * n) (k * n + n) less ∙ ap (λ m. position_at m t) next)

pub next_rest : (n k : ℕ) (t rest : List ℕ) → rest ≡ drop (k * n) t → drop n rest ≡ drop (suc k * n) t
next_rest n k t rest left =
    let next : k * n + n ≡ suc k * n = omega arith in
    ap (drop n) left ∙ drop-drop n (k * n) t ∙ ap (λ m. drop m t) next

-- what is passed from a mark on lies within the text
pub mark_within : (n m : ℕ) (t rest passed : List ℕ) (p : Position) → rest ≡ drop m t → p ≡ position_at m t → passed ≡ take n rest
    → (p.line + length passed ≤ 1 + length t) × (p.column + length passed ≤ 1 + length t)
mark_within n m t rest passed p left here is =
    let far = position_within t m in
    let line : p.line ≡ (position_at m t).line = ap (λ q. q.line) here in
    let column : p.column ≡ (position_at m t).column = ap (λ q. q.column) here in
    let some = ap length is ∙ length-take n rest in
    let whole : length rest ≡ length (drop m t) = ap length left in
    (omega (arith, far.0, line, some, whole), omega (arith, far.1, column, some, whole))

pub mark_reaches : (m at : ℕ) (t passed : List ℕ) (p : Position) → p ≡ position_at m t → passed ≡ drop m (take at t)
    → (p.line + length passed ≤ 1 + length t) × (p.column + length passed ≤ 1 + length t)
mark_reaches m at t passed p here is =
    let far = position_within t m in
    let line : p.line ≡ (position_at m t).line = ap (λ q. q.line) here in
    let column : p.column ≡ (position_at m t).column = ap (λ q. q.column) here in
    let some = ap length is ∙ length-drop m (take at t) in
    let most = length-take at t in
    let rest = length-drop m t in
    (omega (arith, far.0, line, some, most, rest), omega (arith, far.1, column, some, most, rest))

pub some_left : (xs : List ℕ) → length xs == 0 ≡ false → 0 < length xs
some_left [] h = absurd (cc)
some_left (x ∷ xs) h = omega arith
