-- Numbers, bounds and sizes that are spelt are read.
use Rattle.std.proofs.Common.{◌≡◌, ℕ, ◌^◌, ◌<◌, ℤ, List, [], ◌∷◌, true, false, Option, Some, None, Ok, refl, sym, ap, subst, ◌∙◌, lt-ltb, arith}
use Rattle.std.specs.Prelude.{FitsSigned, codes}
use Rattle.std.specs.Str.{bytes_eq}
use Rattle.std.specs.Int.{Width, w64, w128}
use Rattle.std.specs.Str.Parse.{IsNumeral, digits_value, signed_digits_value, without_leading_sign, without_leading_plus}
use Rattle.oer_lexer.specs.Token.{Token, word, number, sign}
use Rattle.oer_lexer.specs.declared.token.Sign.TheVariants.{OpenParenthesis, CloseParenthesis, Range}
use Rattle.oer_model.specs.declared.size.Size.{Size}
use Rattle.oer_notation.specs.Grammar.{IsInteger, an_integer, IsNatural, a_natural, IsBound, no_bound, a_bound, AreBounds, no_bounds, one_number, range, IsSizeEnd, no_end, an_end, IsSize, one_size, sizes, IsBracketedSize, any_size, bracketed, IsListSize, in_brackets, bare}
use Rattle.oer_literals.specs.Numbers.{integer_within, natural_below, integer_of, item_number_of, size_of, tag_number_of, arc_of}
use Rattle.oer_literals.proofs.Numerals.{IsRange, range_128, range_64, numeral_true}
use Rattle.oer_value_notation.specs.Numbers.{number_at, end_at, high_at, bounds_at, size_high_at, size_at, bracketed_size_at, list_size_at}
use Rattle.oer_value_notation.specs.State.{State, first, bump, is_sign, at_sign, skip_sign, skip_word, number_text_at}
use Rattle.oer_notation.proofs.Comes.{Comes, done, front, sole, split}

integer_given : (width : Width) (low high : ℤ) → IsRange width low high → (w : List ℕ) (z : ℤ) → IsNumeral 10 (without_leading_sign w) → signed_digits_value 10 w ≡ z → FitsSigned width z → integer_within low high w ≡ Some z
integer_given width low high ends w z n e f =
    let a = numeral_true (without_leading_sign w) n in
    let b = ends.tests (signed_digits_value 10 w) (subst (FitsSigned width) (sym e) f) in
    rw (a, b) (ap Some e)

natural_given : (limit : ℕ) (w : List ℕ) (n : ℕ) → IsNumeral 10 (without_leading_plus w) → digits_value 10 (without_leading_plus w) ≡ n → n < limit → natural_below limit w ≡ Some n
natural_given limit w n d e l =
    let a = numeral_true (without_leading_plus w) d in
    let b = lt-ltb (digits_value 10 (without_leading_plus w)) limit (subst (λ x. x < limit) (sym e) l) in
    rw (a, b) (ap Some e)

-- a token that is a number, and what the reader of its text gives
abbrev pub Reads : {A : Type 0} → (List ℕ → Option A) → A → Token → Type 0
Reads parse x t = (w : List ℕ) × (t ≡ number w) × (parse w ≡ Some x)

pub bound_reads : {z : ℤ} {t : Token} → IsInteger w128 z t → Reads integer_of z t
unfolding integer_of
bound_reads {z} (an_integer {w = w} n e f) = (w, refl, integer_given w128 _ _ range_128 w z n e f)

pub item_number_reads : {z : ℤ} {t : Token} → IsInteger w64 z t → Reads item_number_of z t
unfolding item_number_of
item_number_reads {z} (an_integer {w = w} n e f) = (w, refl, integer_given w64 _ _ range_64 w z n e f)

pub size_reads : {n : ℕ} {t : Token} → IsNatural (2 ^ 64) n t → Reads size_of n t
unfolding size_of
size_reads {n} (a_natural {w = w} d e l) = (w, refl, natural_given (2 ^ 64) w n d e l)

pub tag_number_reads : {n : ℕ} {t : Token} → IsNatural (2 ^ 32) n t → Reads tag_number_of n t
unfolding tag_number_of
tag_number_reads {n} (a_natural {w = w} d e l) = (w, refl, natural_given (2 ^ 32) w n d e l)

pub arc_reads : {n : ℕ} {t : Token} → IsNatural (2 ^ 128) n t → Reads arc_of n t
unfolding arc_of
arc_reads {n} (a_natural {w = w} d e l) = (w, refl, natural_given (2 ^ 128) w n d e l)

pub number_given : {A : Type 0} (parse : List ℕ → Option A) (x : A) (t : Token) (s : State) → Reads parse x t → first s ≡ Some t → number_at parse s ≡ Ok (x, bump s)
unfolding number_at number_text_at
number_given parse x t s r e = rw (e ∙ ap Some r.1, r.2) refl

-- an end that is a number
end_number : {A : Type 0} (parse : List ℕ → Option A) (v : List ℕ) (x : A) (t : Token) (s : State) → Reads parse x t → first s ≡ Some t → end_at parse v s ≡ Ok (Some x, bump s)
unfolding end_at
end_number parse v x t s r e = rw (number_given parse x t s r e, e ∙ ap Some r.1) refl

bound_given : {v : List ℕ} {low : Option ℤ} {t : Token} → IsBound v low t → bytes_eq v v ≡ true → (s : State) → first s ≡ Some t → end_at integer_of v s ≡ Ok (low, bump s)
unfolding end_at
bound_given no_bound self s e = rw (e, self) refl
bound_given {v} (a_bound {z} {t} d) self s e = end_number integer_of v z t s (bound_reads d) e

high_single : (z : ℤ) (s : State) → first s ≡ Some (sign CloseParenthesis) → high_at (Some z) s ≡ Ok (Some z, s)
unfolding high_at
high_single z s e = rw e refl

high_range : (low high : Option ℤ) (l : Token) (s : State) → first s ≡ Some (sign Range) → IsBound (codes "MAX") high l → first (bump s) ≡ Some l → high_at low s ≡ Ok (high, bump (bump s))
unfolding high_at skip_sign
high_range None high l s e f h = rw e (bound_given f refl (bump s) h)
high_range (Some z) high l s e f h = rw e (bound_given f refl (bump s) h)

pub bounds_given : {low high : Option ℤ} {ts : List Token} → AreBounds low high ts → (s t : State) → Comes s t 0 ts → at_sign OpenParenthesis t ≡ false → bounds_at s ≡ Ok ((low, high), t)
unfolding bounds_at skip_sign
bounds_given no_bounds s t c clear = rw (done c, clear) refl
bounds_given (one_number {z} {t = k} d) s t c clear =
    let a = front c in
    let b = front a.1 in
    let e = sole b.1 in
    let x = end_number integer_of (codes "MIN") z k (bump s) (bound_reads d) b.0 in
    let y = high_single z (bump (bump s)) e.0 in
    rw (a.0, x, y, e.0) (ap (λ t. Ok ((Some z, Some z), t)) e.1)
bounds_given (range {low} {high} {s = k} {t = l} d f) s t c clear =
    let a = front c in
    let b = front a.1 in
    let m = front b.1 in
    let n = front m.1 in
    let e = sole n.1 in
    let x = bound_given d refl (bump s) b.0 in
    let y = high_range low high l (bump (bump s)) m.0 f n.0 in
    rw (a.0, x, y, e.0) (ap (λ t. Ok ((low, high), t)) e.1)

-- ---- sizes

size_end_given : {high : Option ℕ} {t : Token} → IsSizeEnd high t → (s : State) → first s ≡ Some t → end_at size_of (codes "MAX") s ≡ Ok (high, bump s)
unfolding end_at
size_end_given no_end s e = rw e refl
size_end_given (an_end {n} {t} d) s e = end_number size_of (codes "MAX") n t s (size_reads d) e

size_single : (n : ℕ) (s : State) → first s ≡ Some (sign CloseParenthesis) → size_high_at n s ≡ Ok (Some n, s)
unfolding size_high_at
size_single n s e = rw e refl

size_range : (n : ℕ) (high : Option ℕ) (l : Token) (s : State) → first s ≡ Some (sign Range) → IsSizeEnd high l → first (bump s) ≡ Some l → size_high_at n s ≡ Ok (high, bump (bump s))
unfolding size_high_at
size_range n high l s e f h = rw e (size_end_given f (bump s) h)

pub size_given : {z : Size} {ts : List Token} → IsSize z ts → (s t : State) → Comes s t 0 ts → size_at s ≡ Ok (z, t)
unfolding size_at skip_word skip_sign
size_given (one_size {n} {t = k} d) s t c =
    let a = front c in
    let b = front a.1 in
    let m = front b.1 in
    let e = sole m.1 in
    let x = number_given size_of n k (bump (bump s)) (size_reads d) m.0 in
    let y = size_single n (bump (bump (bump s))) e.0 in
    rw (a.0, b.0, x, y, e.0) (ap (λ t. Ok (record { low = n; high = Some n }, t)) e.1)
size_given (sizes {low} {high} {s = k} {t = l} d f) s t c =
    let a = front c in
    let b = front a.1 in
    let m = front b.1 in
    let p = front m.1 in
    let q = front p.1 in
    let e = sole q.1 in
    let x = number_given size_of low k (bump (bump s)) (size_reads d) m.0 in
    let y = size_range low high l (bump (bump (bump s))) p.0 f q.0 in
    rw (a.0, b.0, x, y, e.0) (ap (λ t. Ok (record { low = low; high = high }, t)) e.1)

pub bracketed_given : {z : Size} {ts : List Token} → IsBracketedSize z ts → (s t : State) → Comes s t 0 ts → at_sign OpenParenthesis t ≡ false → bracketed_size_at s ≡ Ok (z, t)
unfolding bracketed_size_at skip_sign
bracketed_given any_size s t c clear = rw (done c, clear) refl
bracketed_given (bracketed {size = z} {ts} d) s t c clear =
    let a = front c in
    let m = split 0 0 ts (sign CloseParenthesis ∷ []) refl a.1 in
    let e = sole m.right in
    rw (a.0, size_given d (bump s) m.middle m.left, e.0) (ap (λ t. Ok (z, t)) e.1)

size_first : {z : Size} {ts : List Token} → IsSize z ts → (us : List Token) × (ts ≡ word (codes "SIZE") ∷ us)
size_first (one_size d) = (_, refl)
size_first (sizes d f) = (_, refl)

pub list_size_given : {z : Size} {ts : List Token} → IsListSize z ts → (s t : State) → Comes s t 0 ts → first t ≡ Some (word (codes "OF")) → list_size_at s ≡ Ok (z, t)
unfolding list_size_at
list_size_given (in_brackets any_size) s t c e = rw (done c, e) (bracketed_given any_size t t (record { used = []; is = refl; are = refl; parts = omega arith; stop = refl }) (ap (is_sign OpenParenthesis) e))
list_size_given (in_brackets (bracketed d)) s t c e = rw (front c).0 (bracketed_given (bracketed d) s t c (ap (is_sign OpenParenthesis) e))
list_size_given (bare {size = z} {ts} d) s t c e =
    let p = size_first d in
    let f : first s ≡ Some (word (codes "SIZE")) = (front (subst (Comes s t 0) p.1 c)).0 in
    rw f (size_given d s t c)
