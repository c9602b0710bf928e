-- Numbers, bounds and sizes that are read are spelt so.
use Rattle.std.proofs.Common.{◌≡◌, ℕ, ◌^◌, ◌<◌, ℤ, List, [], ◌∷◌, ◌++◌, Bool, true, false, not, cond, ◌&&◌, inl, inr, Option, Some, None, Ok, refl, sym, subst, nat_lt}
use Rattle.std.specs.Prelude.{FitsSigned, int_le, codes}
use Rattle.std.specs.Int.{Width, w64, w128}
use Rattle.std.specs.Str.Parse.{digits_value, signed_digits_value, without_leading_sign, without_leading_plus}
use Rattle.std.proofs.lemmas.Bool.{ltb-true, and_parts}
use Rattle.oer_lexer.specs.Token.{Token, word, number, sign}
use Rattle.oer_lexer.specs.declared.token.Sign.TheVariants.{OpenParenthesis, CloseParenthesis, Range}
use Rattle.oer_model.specs.declared.size.Size.{Size}
use Rattle.oer_notation.specs.Grammar.{IsInteger, an_integer, IsNatural, a_natural, IsBound, no_bound, a_bound, AreBounds, no_bounds, one_number, range, IsSizeEnd, no_end, an_end, IsSize, one_size, sizes, IsBracketedSize, any_size, bracketed, IsListSize, in_brackets, bare}
use Rattle.oer_literals.specs.Numbers.{is_numeral, integer_within, natural_below, integer_of, item_number_of, size_of, tag_number_of, arc_of}
use Rattle.oer_literals.proofs.Numerals.{IsRange, range_128, range_64, true_numeral}
use Rattle.oer_value_notation.specs.Numbers.{number_at, end_at, is_given, high_at, bounds_at, size_high_at, size_at, bracketed_size_at, list_size_at}
use Rattle.oer_value_notation.specs.State.{State, bump, at_sign, at_word, skip_sign, skip_word}
use Rattle.oer_notation.proofs.Took.{bind_ok, chosen, Took, stay, both, turned, after, answered, One, one_is, sign_took, word_took, skip_sign_took, skip_word_took, number_took}

pub some_if : {A : Type 0} (b : Bool) (x y : A) → cond b (Some x) None ≡ Some y → (b ≡ true) × (x ≡ y)
some_if true x y h = (refl, cc)
some_if false x y h = absurd (cc)

integer_sound : (width : Width) (low high : ℤ) → IsRange width low high → (w : List ℕ) (z : ℤ) → integer_within low high w ≡ Some z → IsInteger width z (number w)
integer_sound width low high ends w z h =
    let p = some_if (is_numeral (without_leading_sign w) && (int_le low (signed_digits_value 10 w) && int_le (signed_digits_value 10 w) high)) (signed_digits_value 10 w) z h in
    let q = and_parts (is_numeral (without_leading_sign w)) (int_le low (signed_digits_value 10 w) && int_le (signed_digits_value 10 w) high) p.0 in
    an_integer (true_numeral (without_leading_sign w) q.0) p.1 (subst (FitsSigned width) p.1 (ends.tells (signed_digits_value 10 w) q.1))

pub bound_sound : (w : List ℕ) (z : ℤ) → integer_of w ≡ Some z → IsInteger w128 z (number w)
unfolding integer_of
bound_sound w z h = integer_sound w128 _ _ range_128 w z h

pub item_number_sound : (w : List ℕ) (z : ℤ) → item_number_of w ≡ Some z → IsInteger w64 z (number w)
unfolding item_number_of
item_number_sound w z h = integer_sound w64 _ _ range_64 w z h

natural_sound : (limit : ℕ) (w : List ℕ) (n : ℕ) → natural_below limit w ≡ Some n → IsNatural limit n (number w)
natural_sound limit w n h =
    let p = some_if (is_numeral (without_leading_plus w) && nat_lt (digits_value 10 (without_leading_plus w)) limit) (digits_value 10 (without_leading_plus w)) n h in
    let q = and_parts (is_numeral (without_leading_plus w)) (nat_lt (digits_value 10 (without_leading_plus w)) limit) p.0 in
    a_natural (true_numeral (without_leading_plus w) q.0) p.1 (subst (λ x. x < limit) p.1 (ltb-true _ _ q.1))

pub size_sound : (w : List ℕ) (n : ℕ) → size_of w ≡ Some n → IsNatural (2 ^ 64) n (number w)
unfolding size_of
size_sound w n h = natural_sound (2 ^ 64) w n h

pub tag_number_sound : (w : List ℕ) (n : ℕ) → tag_number_of w ≡ Some n → IsNatural (2 ^ 32) n (number w)
unfolding tag_number_of
tag_number_sound w n h = natural_sound (2 ^ 32) w n h

pub arc_sound : (w : List ℕ) (n : ℕ) → arc_of w ≡ Some n → IsNatural (2 ^ 128) n (number w)
unfolding arc_of
arc_sound w n h = natural_sound (2 ^ 128) w n h

-- ---- bounds

end_took : {A : Type 0} (parse : List ℕ → Option A) (v : List ℕ) (Q : Option A → Token → Type 0) → Q None (word v) → ((w : List ℕ) (x : A) → parse w ≡ Some x → Q (Some x) (number w)) → (s : State) (r : Option A × State)
    → end_at parse v s ≡ Ok r → Took s r.1 (One (Q r.0))
unfolding end_at
end_took parse v Q none some s r h = elim (chosen (at_word v s) _ _ _ h) [
  | inl p ↦ answered (λ o. One (Q o)) (None, bump s) r p.1 (turned (One (Q None)) (word_took v s p.0) (λ a e. (word v, e, none)))
  | inr p ↦ (
      let n = bind_ok (number_at parse s) _ r p.1 in
      answered (λ o. One (Q o)) (Some n.0.0, n.0.1) r n.2 (number_took parse (λ x. Q (Some x)) some s n.0 n.1))
]

bound_took : (v : List ℕ) (s : State) (r : Option ℤ × State) → end_at integer_of v s ≡ Ok r → Took s r.1 (One (IsBound v r.0))
bound_took v s r h = end_took integer_of v (IsBound v) no_bound (λ w x e. a_bound (bound_sound w x e)) s r h

-- behind the lower end
abbrev Higher : Option ℤ → Option ℤ → Token → List Token → Type 0
Higher low high t ts = AreBounds low high (sign OpenParenthesis ∷ t ∷ (ts ++ sign CloseParenthesis ∷ []))

single : (low : Option ℤ) (t : Token) → is_given low ≡ true → IsBound (codes "MIN") low t → AreBounds low low (sign OpenParenthesis ∷ t ∷ sign CloseParenthesis ∷ [])
single None t h d = absurd (cc)
single (Some z) t h (a_bound d) = one_number d

high_took : (low : Option ℤ) (t : Token) → IsBound (codes "MIN") low t → (s : State) (r : Option ℤ × State) → high_at low s ≡ Ok r → Took s r.1 (Higher low r.0 t)
unfolding high_at
high_took low t d s r h = elim (chosen (is_given low && not (at_sign Range s)) _ _ _ h) [
  | inl p ↦ answered (λ high. Higher low high t) (low, s) r p.1 (stay s (Higher low low t) (single low t (and_parts (is_given low) (not (at_sign Range s)) p.0).0 d))
  | inr p ↦ (
      let q = bind_ok (skip_sign Range s) _ r p.1 in
      let u = bound_took (codes "MAX") q.0.1 r q.2 in
      after (sign Range) (Higher low r.0 t) (skip_sign_took Range s q.0 q.1) u (λ b e. subst (λ b. Higher low r.0 t (sign Range ∷ b)) (sym e.1) (range d e.2)))
]

not_true : (b : Bool) → not b ≡ false → b ≡ true
not_true true h = refl
not_true false h = absurd (cc)

pub bounds_took : (s : State) (r : (Option ℤ × Option ℤ) × State) → bounds_at s ≡ Ok r → Took s r.1 (AreBounds r.0.0 r.0.1)
unfolding bounds_at
bounds_took s r h = elim (chosen (not (at_sign OpenParenthesis s)) _ _ _ h) [
  | inl p ↦ answered (λ b. AreBounds b.0 b.1) ((None, None), s) r p.1 (stay s (AreBounds None None) no_bounds)
  | inr p ↦ (
      let a = sign_took OpenParenthesis s (not_true _ p.0) in
      let low = bind_ok (end_at integer_of (codes "MIN") (bump s)) _ r p.1 in
      let high = bind_ok (high_at low.0.0 low.0.1) _ r low.2 in
      let over = bind_ok (skip_sign CloseParenthesis high.0.1) _ r high.2 in
      let l = bound_took (codes "MIN") (bump s) low.0 low.1 in
      let t = l.holds.0 in
      let u = high_took low.0.0 t l.holds.2 low.0.1 high.0 high.1 in
      let R : List Token → Type 0 = AreBounds low.0.0 high.0.0 in
      let z = both (λ ts. R (sign OpenParenthesis ∷ t ∷ ts)) u (skip_sign_took CloseParenthesis high.0.1 over.0 over.1) (λ x y e f. subst (λ y. R (sign OpenParenthesis ∷ t ∷ (x ++ y))) (sym f) e) in
      let y = after t (λ ts. R (sign OpenParenthesis ∷ ts)) (one_is l) z (λ b e. e) in
      answered (λ b. AreBounds b.0 b.1) ((low.0.0, high.0.0), over.0.1) r over.2 (after (sign OpenParenthesis) R a y (λ b e. e)))
]

-- ---- sizes

abbrev size_of_ends : ℕ → Option ℕ → Size
size_of_ends low high = record { low = low; high = high }

-- behind the lower end
abbrev Larger : ℕ → Option ℕ → Token → List Token → Type 0
Larger low high t ts = IsSize (size_of_ends low high) (word (codes "SIZE") ∷ sign OpenParenthesis ∷ t ∷ (ts ++ sign CloseParenthesis ∷ []))

size_high_took : (low : ℕ) (t : Token) → IsNatural (2 ^ 64) low t → (s : State) (r : Option ℕ × State) → size_high_at low s ≡ Ok r → Took s r.1 (Larger low r.0 t)
unfolding size_high_at
size_high_took low t d s r h = elim (chosen (at_sign Range s) _ _ _ h) [
  | inl p ↦ (
      let u = end_took size_of (codes "MAX") IsSizeEnd no_end (λ w x e. an_end (size_sound w x e)) (bump s) r p.1 in
      after (sign Range) (Larger low r.0 t) (sign_took Range s p.0) u (λ b e. subst (λ b. Larger low r.0 t (sign Range ∷ b)) (sym e.1) (sizes d e.2)))
  | inr p ↦ answered (λ high. Larger low high t) (Some low, s) r p.1 (stay s (Larger low (Some low) t) (one_size d))
]

pub size_took : (s : State) (r : Size × State) → size_at s ≡ Ok r → Took s r.1 (IsSize r.0)
unfolding size_at
size_took s r h =
    let start = bind_ok (skip_word (codes "SIZE") s) _ r h in
    let inside = bind_ok (skip_sign OpenParenthesis start.0.1) _ r start.2 in
    let low = bind_ok (number_at size_of inside.0.1) _ r inside.2 in
    let high = bind_ok (size_high_at low.0.0 low.0.1) _ r low.2 in
    let over = bind_ok (skip_sign CloseParenthesis high.0.1) _ r high.2 in
    let l = number_took size_of (IsNatural (2 ^ 64)) size_sound inside.0.1 low.0 low.1 in
    let t = l.holds.0 in
    let u = size_high_took low.0.0 t l.holds.2 low.0.1 high.0 high.1 in
    let R : List Token → Type 0 = IsSize (size_of_ends low.0.0 high.0.0) in
    let z = both (λ ts. R (word (codes "SIZE") ∷ sign OpenParenthesis ∷ t ∷ ts)) u (skip_sign_took CloseParenthesis high.0.1 over.0 over.1) (λ x y e f. subst (λ y. R (word (codes "SIZE") ∷ sign OpenParenthesis ∷ t ∷ (x ++ y))) (sym f) e) in
    let y = after t (λ ts. R (word (codes "SIZE") ∷ sign OpenParenthesis ∷ ts)) (one_is l) z (λ b e. e) in
    let x = after (sign OpenParenthesis) (λ ts. R (word (codes "SIZE") ∷ ts)) (skip_sign_took OpenParenthesis start.0.1 inside.0 inside.1) y (λ b e. e) in
    answered IsSize (size_of_ends low.0.0 high.0.0, over.0.1) r over.2 (after (word (codes "SIZE")) R (skip_word_took (codes "SIZE") s start.0 start.1) x (λ b e. e))

pub bracketed_took : (s : State) (r : Size × State) → bracketed_size_at s ≡ Ok r → Took s r.1 (IsBracketedSize r.0)
unfolding bracketed_size_at
bracketed_took s r h = elim (chosen (not (at_sign OpenParenthesis s)) _ _ _ h) [
  | inl p ↦ answered IsBracketedSize (size_of_ends 0 None, s) r p.1 (stay s (IsBracketedSize (size_of_ends 0 None)) any_size)
  | inr p ↦ (
      let size = bind_ok (size_at (bump s)) _ r p.1 in
      let over = bind_ok (skip_sign CloseParenthesis size.0.1) _ r size.2 in
      let R : List Token → Type 0 = IsBracketedSize size.0.0 in
      let z = both (λ ts. R (sign OpenParenthesis ∷ ts)) (size_took (bump s) size.0 size.1) (skip_sign_took CloseParenthesis size.0.1 over.0 over.1) (λ x y e f. subst (λ y. R (sign OpenParenthesis ∷ (x ++ y))) (sym f) (bracketed e)) in
      answered IsBracketedSize (size.0.0, over.0.1) r over.2 (after (sign OpenParenthesis) R (sign_took OpenParenthesis s (not_true _ p.0)) z (λ b e. e)))
]

pub list_size_took : (s : State) (r : Size × State) → list_size_at s ≡ Ok r → Took s r.1 (IsListSize r.0)
unfolding list_size_at
list_size_took s r h = elim (chosen (at_word (codes "SIZE") s) _ _ _ h) [
  | inl p ↦ turned (IsListSize r.0) (size_took s r p.1) (λ a e. bare e)
  | inr p ↦ turned (IsListSize r.0) (bracketed_took s r p.1) (λ a e. in_brackets e)
]

-- the word STRING and a size
