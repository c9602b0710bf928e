-- Texts of a way, cut back to those of a way to an earlier part.
use Rattle.std.proofs.Common.{◌≡◌, ◌<◌, ℕ, zero, suc, List, [], ◌∷◌, ◌++◌, length, map, take, refl, sym, ap, subst, ◌∙◌, append_assoc, arith, length-append}
use Rattle.std.specs.String.Boundary.{IsSplitPoint}
use Rattle.std.specs.Prelude.{slice_index}
use Rattle.oer_entries.specs.Frames.{Seen}
use Rattle.oer_entries.specs.Trails.{Follow, names_to, path_to, text_to}
use Rattle.oer_entries.specs.Ways.{joined, pointed}

-- what the further texts add behind a text that isn't empty
abbrev behind : List (List ℕ) → List ℕ
behind [] = []
behind (t ∷ ts) = 46 ∷ (t ++ behind ts)

joined_behind : (x : ℕ) (xs : List ℕ) (ts : List (List ℕ)) → joined (x ∷ xs) ts ≡ (x ∷ xs) ++ behind ts
joined_behind x xs [] = sym (ap (λ (l : List ℕ). x ∷ l) (nil_end xs)) where
  nil_end : (l : List ℕ) → l ++ [] ≡ l
  nil_end [] = refl
  nil_end (y ∷ ys) = ap (λ (l : List ℕ). y ∷ l) (nil_end ys)
joined_behind x xs (t ∷ ts) =
    joined_behind x ((xs ++ 46 ∷ []) ++ t) ts
    ∙ ap (λ (l : List ℕ). x ∷ l) (append_assoc (xs ++ 46 ∷ []) t (behind ts) ∙ append_assoc xs (46 ∷ []) (t ++ behind ts))

-- the text that ends at n is `part`
pub record Cuts (whole : List ℕ) (n : ℕ) (part : List ℕ) : Type 0 where
  pub at : IsSplitPoint whole n
  pub is : take n whole ≡ part

take_front : (xs ys : List ℕ) → take (length xs) (xs ++ ys) ≡ xs
take_front [] ys = refl
take_front (x ∷ xs) ys = ap (λ (l : List ℕ). x ∷ l) (take_front xs ys)

point_after : (xs : List ℕ) (ts : List (List ℕ)) → length xs < length (xs ++ behind ts) → slice_index (xs ++ behind ts) (length xs) ≡ 46
point_after [] [] less = absurd (omega arith)
point_after [] (t ∷ ts) less = refl
point_after (x ∷ xs) ts less = point_after xs ts (omega arith)

cut_behind : (x : ℕ) (xs : List ℕ) (ts : List (List ℕ)) → Cuts ((x ∷ xs) ++ behind ts) (length (x ∷ xs)) (x ∷ xs)
cut_behind x xs ts = record {
  at = (
    omega (arith, length-append (x ∷ xs) (behind ts)),
    λ more less high. let is = point_after (x ∷ xs) ts less in omega (arith, is, high),
  );
  is = take_front (x ∷ xs) (behind ts);
}

pub cut_joined : (p : List ℕ) (ts : List (List ℕ)) → Cuts (joined p ts) (length p) p
cut_joined [] ts = record { at = (omega arith, λ more less high. absurd (omega arith)); is = refl }
cut_joined (x ∷ xs) ts =
    let P : List ℕ → Type 0 = λ l. Cuts l (length (x ∷ xs)) (x ∷ xs) in
    subst P (sym (joined_behind x xs ts)) (cut_behind x xs ts)

pub joined_append : (p : List ℕ) (ts us : List (List ℕ)) → joined p (ts ++ us) ≡ joined (joined p ts) us
joined_append p [] us = refl
joined_append p (t ∷ ts) us = joined_append (pointed p ++ t) ts us

-- ---- the texts of parts

abbrev pub steps_of : List Seen → List (List ℕ)
steps_of gs = map (λ (g : Seen). text_to g.step) gs

abbrev pub names_of : List Seen → List (List ℕ)
names_of gs = map (λ (g : Seen). g.is.name) gs

-- the last of the parts f and gs
abbrev pub last_of : Seen → List Seen → Seen
last_of f [] = f
last_of f (g ∷ gs) = last_of g gs

pub last_snoc : (f : Seen) (gs front : List Seen) (x : Seen) → f ∷ gs ≡ front ++ x ∷ [] → last_of f gs ≡ x
last_snoc f gs front x e = ap (λ (l : List Seen). last_in f l) e ∙ by front x f where
  last_in : Seen → List Seen → Seen
  last_in d [] = d
  last_in d (y ∷ ys) = last_of y ys

  by : (front : List Seen) (x d : Seen) → last_in d (front ++ x ∷ []) ≡ x
  by [] x d = refl
  by (y ∷ []) x d = refl
  by (y ∷ z ∷ ys) x d = by (z ∷ ys) x d

pub record BothCut (f : Seen) (gs : List Seen) (p n : List ℕ) (k : ℕ) : Type 0 where
  pub path : Cuts (joined p (steps_of gs)) (last_of f (take k gs)).path_end (joined p (steps_of (take k gs)))
  pub names : Cuts (joined n (names_of gs)) (last_of f (take k gs)).names_end (joined n (names_of (take k gs)))

both_here : (f : Seen) (gs : List Seen) (p n : List ℕ) → f.path_end ≡ length p → f.names_end ≡ length n → BothCut f gs p n 0
both_here f gs p n a b =
    let P : ℕ → Type 0 = λ k. Cuts (joined p (steps_of gs)) k p in
    let Q : ℕ → Type 0 = λ k. Cuts (joined n (names_of gs)) k n in
    record { path = subst P (sym a) (cut_joined p (steps_of gs)); names = subst Q (sym b) (cut_joined n (names_of gs)) }

pub cut_at : (f : Seen) (gs : List Seen) (p n : List ℕ) (k : ℕ) → Follow f p n gs → f.path_end ≡ length p → f.names_end ≡ length n → BothCut f gs p n k
cut_at f gs p n zero h a b = both_here f gs p n a b
cut_at f [] p n (suc k) h a b = let x = both_here f [] p n a b in record { path = x.path; names = x.names }
cut_at f (g ∷ gs) p n (suc k) (h, more) a b =
    let x = cut_at g gs (path_to p g) (names_to n g) k more h.path_end h.names_end in
    record { path = x.path; names = x.names }
