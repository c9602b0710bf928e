-- Values after DEFAULT, items and tags that are spelt are read.
use Rattle.std.proofs.Common.{◌≡◌, ℕ, zero, suc, ◌≤◌, ◌<◌, ℤ, List, [], ◌∷◌, ◌++◌, length, map, Bool, true, false, inl, inr, Some, Ok, refl, ap, ◌∙◌, append_assoc, append-nil, arith, lt-ltb, length-append}
use Rattle.std.specs.Prelude.{codes}
use Rattle.std.specs.Str.{bytes_eq}
use Rattle.std.proofs.lemmas.Slice.Eq.{bytes_eq-Decides}
use Rattle.oer_lexer.specs.Token.{Token, sign, Spot, tokens}
use Rattle.oer_lexer.specs.declared.token.Sign.{Sign}
use Rattle.oer_lexer.specs.declared.token.Sign.TheVariants.{CloseBrace, Comma}
use Rattle.oer_model.specs.AsnType.{Need, may, default, NamedNumber, AsnType}
use Rattle.oer_model.specs.AsnValue.{AsnValue, bool, nothing, int, enum, bit_list, octets, text as string, oid}
use Rattle.oer_model.specs.WellFormed.{IsMisfit}
use Rattle.oer_literals.specs.Bits.{is_one}
use Rattle.oer_literals.specs.Numbers.{integer_of, arc_of}
use Rattle.oer_literals.specs.Items.{number_named}
use Rattle.oer_notation.specs.Grammar.{IsId, an_id, IsItemNamed, this_item, later_item, between_quotes, text_of, AreArcs, no_arcs, an_arc, IsValue, true_value, false_value, null_value, number_value as a_number_value, item_value, octets_value, digit_bits_value, bits_value as a_bits_value, text_value, utf8_value, arcs_value, IsNeed, needed, optional, with_default}
use Rattle.oer_value_notation.specs.State.{State, first, bump, is_sign, is_word, at_sign, at_word, same_sign, skip_sign}
use Rattle.oer_value_notation.specs.Values.{arcs_more, arcs_at, truth_at, null_at, integer_at, oid_at, value_at, need_at}
use Rattle.oer_value_notation.specs.Words.{is_id}
use Rattle.oer_notation.proofs.Comes.{Comes, done, front, sole, split, Follows}
use Rattle.oer_notation.proofs.CompleteNumbers.{bound_reads, arc_reads, number_given}
use Rattle.oer_notation.proofs.Digits.{text_in_is}
use Rattle.oer_notation.proofs.DigitsGiven.{octets_in_given, digit_bits_given}

pub no_sign : (g : Sign) (s : State) → same_sign g Comma ≡ false → same_sign g CloseBrace ≡ false → Follows s → at_sign g s ≡ false
no_sign g s a b (inl e) = ap (is_sign g) e ∙ a
no_sign g s a b (inr e) = ap (is_sign g) e ∙ b

pub no_word : (v : List ℕ) (s : State) → Follows s → at_word v s ≡ false
no_word v s (inl e) = ap (is_word v) e
no_word v s (inr e) = ap (is_word v) e

-- ---- ids of items

pub not_word : (w v : List ℕ) → (w ≡ v → ⊥) → bytes_eq w v ≡ false
not_word w v h = by_test (bytes_eq w v) refl
  where
    by_test : (b : Bool) → bytes_eq w v ≡ b → b ≡ false
    by_test true e = absurd (h ((bytes_eq-Decides w v).0 e))
    by_test false e = refl

id_test : {w : List ℕ} → IsId w → is_id w ≡ true
id_test (an_id h) = h

named_given : {w : List ℕ} {z : ℤ} {is : List NamedNumber} → IsItemNamed w z is → number_named is w ≡ Some z
named_given {w} (this_item {i} {is} e) = rw ((bytes_eq-Decides i.name w).1 e) refl
named_given {w} (later_item {z} {i} {is} n d) = rw (not_word i.name w n) (named_given d)

-- ---- arcs

pub arcs_given : {arcs : List ℕ} {ts : List Token} → AreArcs arcs ts → (n : ℕ) → length arcs < n → (found : List ℕ) (s t : State) → Comes s t 0 ts → first t ≡ Some (sign CloseBrace) → arcs_more n found s ≡ Ok (found ++ arcs, t)
unfolding arcs_more
arcs_given d zero l found s t c e = absurd (omega arith)
arcs_given no_arcs (suc n) l found s t c e = rw (done c, e, append-nil found) refl
arcs_given (an_arc {n = a} {arcs} {t = k} {ts} d m) (suc n) l found s t c e =
    let f = front c in
    let r = arc_reads d in
    let g = number_given arc_of a k s r f.0 in
    let next = arcs_given m n (omega arith) (found ++ a ∷ []) (bump s) t f.1 e in
    rw (g, f.0 ∙ ap Some r.1, next) (ap (λ arcs. Ok (arcs, t)) (append_assoc found (a ∷ []) arcs))

arcs_count : {arcs : List ℕ} {ts : List Token} → AreArcs arcs ts → length arcs ≡ length ts
arcs_count no_arcs = refl
arcs_count (an_arc d m) = ap suc (arcs_count m)

tokens_count : (l : List Spot) → length (tokens l) ≡ length l
tokens_count [] = refl
tokens_count (x ∷ xs) = ap suc (tokens_count xs)

enough : {s t : State} {ts : List Token} → Comes s t 0 ts → length ts ≤ length s.left
enough {s} {t} {ts} c =
    let a = tokens_count c.used in
    let b = ap length c.are in
    let e = ap length c.is ∙ length-append c.used t.left in
    omega arith

brace_value : {a b : ℕ} {arcs : List ℕ} {ts : List Token} → AreArcs (a ∷ b ∷ arcs) ts → (s t : State) → Comes s t 0 (ts ++ sign CloseBrace ∷ []) → arcs_at s ≡ Ok (oid (a ∷ b ∷ arcs), t)
unfolding arcs_at skip_sign
brace_value {a} {b} {arcs} {ts} d s t c =
    let m = split 0 0 ts (sign CloseBrace ∷ []) refl c in
    let e = sole m.right in
    let n = enough m.left in
    let k = arcs_count d in
    let x = arcs_given d (suc (length s.left)) (omega arith) [] s m.middle m.left e.0 in
    rw (x, lt-ltb 1 (length (a ∷ b ∷ arcs)) (omega arith), e.0) (ap (λ t. Ok (oid (a ∷ b ∷ arcs), t)) e.1)

-- ---- values

pub value_given : {T : AsnType} {v : AsnValue} {ts : List Token} → IsValue T v ts → (IsMisfit T (default v) → ⊥) → (s t : State) → Comes s t 0 ts → value_at T s ≡ Ok (v, t)
unfolding value_at truth_at null_at integer_at oid_at
value_given true_value fits s t c = let e = sole c in rw e.0 (ap (λ t. Ok (bool true, t)) e.1)
value_given false_value fits s t c = let e = sole c in rw e.0 (ap (λ t. Ok (bool false, t)) e.1)
value_given null_value fits s t c = let e = sole c in rw e.0 (ap (λ t. Ok (nothing, t)) e.1)
value_given (a_number_value {low} {high} {z} {t = k} d) fits s t c =
    let e = sole c in
    let r = bound_reads d in
    rw (number_given integer_of z k s r e.0, e.0 ∙ ap Some r.1) (ap (λ t. Ok (int z, t)) e.1)
value_given (item_value {items} {marker} {w} {z} i d) fits s t c = let e = sole c in rw (e.0, id_test i, named_given d) (ap (λ t. Ok (enum z, t)) e.1)
value_given (octets_value {size} {w} {xs} d) fits s t c = let e = sole c in rw (e.0, octets_in_given d) (ap (λ t. Ok (octets xs, t)) e.1)
value_given (digit_bits_value {size} {w} {s = x} d) fits s t c = let e = sole c in rw (e.0, digit_bits_given size (between_quotes w) x d fits) (ap (λ t. Ok (bit_list x, t)) e.1)
value_given (a_bits_value {size} {w}) fits s t c = let e = sole c in rw e.0 (ap (λ t. Ok (bit_list (map is_one (between_quotes w)), t)) e.1)
value_given (text_value {letters} {size} {w}) fits s t c = let e = sole c in rw (e.0, text_in_is w) (ap (λ t. Ok (string (text_of w), t)) e.1)
value_given (utf8_value {size} {w}) fits s t c = let e = sole c in rw (e.0, text_in_is w) (ap (λ t. Ok (string (text_of w), t)) e.1)
value_given (arcs_value d) fits s t c = let f = front c in rw f.0 (brace_value d (bump s) t f.1)

pub need_given : {T : AsnType} {need : Need} {ts : List Token} → IsNeed T need ts → (IsMisfit T need → ⊥) → (s t : State) → Comes s t 0 ts → Follows t → need_at T s ≡ Ok (need, t)
unfolding need_at
need_given needed fits s t c f = rw (done c, no_word (codes "OPTIONAL") t f, no_word (codes "DEFAULT") t f) refl
need_given optional fits s t c f = let e = sole c in rw e.0 (ap (λ t. Ok (may, t)) e.1)
need_given (with_default {v} d) fits s t c f = let e = front c in rw (e.0, value_given d fits (bump s) t e.1) refl
