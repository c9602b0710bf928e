-- Bits, octets and texts in quotes.
use Rattle.std.proofs.Common.{◌≡◌, ℕ, suc, ◌+◌, ◌*◌, ◌-◌, ◌/◌, ◌%◌, ◌^◌, ◌<◌, List, [], ◌∷◌, ◌++◌, length, take, drop, Bool, true, false, cond, ◌==◌, eqb, ◌&&◌, inl, inr, Option, Some, None, Result, Ok, Err, refl, sym, ap, subst, ◌∙◌, arith, append_assoc, append-nil, nat_lt}
use Rattle.std.specs.Prelude.{nat_le}
use Rattle.std.specs.Char.{encode_utf8}
use Rattle.std.specs.Str.{chars, encode_utf8_all}
use Rattle.std.proofs.lemmas.Bool.{leb-true, and_parts}
use Rattle.hex.specs.Hex.{hex_digit_value, digit_or_error, value_at, pair_value, decode_pairs, decode_of, ◌>>=◌}
use Rattle.hex.specs.declared.error.FromHexError.{FromHexError}
use Rattle.oer_model.specs.Bits.{bit, bits_of, octets_for}
use Rattle.oer_notation.specs.Grammar.{AreOctets, no_octets, an_octet, AreBits, no_bits, four_bits, unquoted, text_of}
use Rattle.oer_value_notation.specs.Values.{ok_part, octets_in, bits_from, paired, digit_bits, text_step, text_after, text_in}
use Rattle.oer_value_notation.specs.declared.value.Quoting.TheVariants as quoting
use Rattle.oer_notation.proofs.Took.{chosen}
use Rattle.oer_notation.proofs.SoundNumbers.{some_if}

-- ---- hexadecimal digits

bind_ok : {A B : Type 0} (r : Result A FromHexError) (f : A → Result B FromHexError) (y : B) → (r >>= f) ≡ Ok y → (x : A) × (r ≡ Ok x) × (f x ≡ Ok y)
bind_ok (Ok x) f y h = (x, refl, h)
bind_ok (Err e) f y h = absurd (cc)

ok_is : {A : Type 0} (x y : A) → ◌≡◌ {A = Result A FromHexError} (Ok x) (Ok y) → x ≡ y
ok_is x y h = cc

digit_ok : (c i n : ℕ) (o : Option ℕ) → digit_or_error c i o ≡ Ok n → o ≡ Some n
digit_ok c i n (Some v) h = cc
digit_ok c i n None h = absurd (cc)

pub pairs_sound : (i : ℕ) (w xs : List ℕ) → decode_pairs i w ≡ Ok xs → AreOctets w xs
unfolding decode_pairs
pairs_sound i [] xs h = subst (AreOctets []) (ok_is [] xs h) no_octets
pairs_sound i (c ∷ []) xs h = absurd (cc)
pairs_sound i (c ∷ d ∷ w) xs h =
    let b = bind_ok (pair_value c d i) _ xs h in
    let r = bind_ok (decode_pairs (i + 2) w) _ xs b.2 in
    let hi = bind_ok (value_at c i) _ b.0 b.1 in
    let lo = bind_ok (value_at d (i + 1)) _ b.0 hi.2 in
    let o = an_octet (digit_ok c i hi.0 (hex_digit_value c) hi.1) (digit_ok d (i + 1) lo.0 (hex_digit_value d) lo.1) (pairs_sound (i + 2) w r.0 r.1) in
    subst (AreOctets (c ∷ d ∷ w)) (ok_is (b.0 ∷ r.0) xs r.2) (subst (λ x. AreOctets (c ∷ d ∷ w) (x ∷ r.0)) (ok_is (hi.0 * 16 + lo.0) b.0 lo.2) o)

part_ok : {A E : Type 0} (r : Result A E) (x : A) → ok_part r ≡ Some x → r ≡ Ok x
part_ok (Ok y) x h = cc
part_ok (Err e) x h = absurd (cc)

decoded : (b : Bool) (e : FromHexError) (r : Result (List ℕ) FromHexError) (xs : List ℕ) → cond b (Err e) r ≡ Ok xs → r ≡ Ok xs
decoded true e r xs h = absurd (cc)
decoded false e r xs h = h

pub octets_in_sound : (w xs : List ℕ) → octets_in w ≡ Some xs → AreOctets w xs
unfolding octets_in
octets_in_sound w xs h = pairs_sound 0 w xs (decoded (length w % 2 == 1) _ (decode_pairs 0 w) xs (part_ok (decode_of w) xs h))

pub digit_below : (c n : ℕ) → hex_digit_value c ≡ Some n → n < 16
digit_below c n h = elim (chosen (nat_le 65 c && nat_le c 70) _ _ _ h) [
  | inl p ↦ (let q = and_parts (nat_le 65 c) (nat_le c 70) p.0 in let a = leb-true 65 c q.0 in let b = leb-true c 70 q.1 in let e : c - 55 ≡ n = cc in omega arith)
  | inr p ↦ elim (chosen (nat_le 97 c && nat_le c 102) _ _ _ p.1) [
    | inl p ↦ (let q = and_parts (nat_le 97 c) (nat_le c 102) p.0 in let a = leb-true 97 c q.0 in let b = leb-true c 102 q.1 in let e : c - 87 ≡ n = cc in omega arith)
    | inr p ↦ elim (chosen (nat_le 48 c && nat_le c 57) _ _ _ p.1) [
      | inl p ↦ (let q = and_parts (nat_le 48 c) (nat_le c 57) p.0 in let a = leb-true 48 c q.0 in let b = leb-true c 57 q.1 in let e : c - 48 ≡ n = cc in omega arith)
      | inr p ↦ absurd (cc)
    ]
  ]
]

same_bit : (x y i j : ℕ) → (x / 2 ^ i) % 2 ≡ (y / 2 ^ j) % 2 → bit x i ≡ bit y j
unfolding bit
same_bit x y i j e = ap (λ n. eqb n 1) e

pub pair_bits : (high low : ℕ) (xs : List ℕ) → low < 16 → bit high 3 ∷ bit high 2 ∷ bit high 1 ∷ bit high 0 ∷ bit low 3 ∷ bit low 2 ∷ bit low 1 ∷ bit low 0 ∷ bits_of xs ≡ bits_of ((high * 16 + low) ∷ xs)
pair_bits high low xs l =
    let x = high * 16 + low in
    let b7 = same_bit high x 3 7 (omega arith) in
    let b6 = same_bit high x 2 6 (omega arith) in
    let b5 = same_bit high x 1 5 (omega arith) in
    let b4 = same_bit high x 0 4 (omega arith) in
    let b3 = same_bit low x 3 3 (omega arith) in
    let b2 = same_bit low x 2 2 (omega arith) in
    let b1 = same_bit low x 1 1 (omega arith) in
    let b0 = same_bit low x 0 0 (omega arith) in
    cc

pub octets_bits : {w xs : List ℕ} → AreOctets w xs → AreBits w (bits_of xs)
octets_bits no_octets = no_bits
octets_bits (an_octet {c} {d} {high} {low} {cs} {xs} h l m) = subst (AreBits (c ∷ d ∷ cs)) (pair_bits high low xs (digit_below d low l)) (four_bits h (four_bits l (octets_bits m)))

pub four_times : (n : ℕ) → 4 * suc n ≡ suc (suc (suc (suc (4 * n))))
four_times n = omega arith

pub bits_front : (w v : List ℕ) (s : List Bool) → AreBits (w ++ v) s → AreBits w (take (4 * length w) s)
bits_front [] v s m = no_bits
bits_front (c ∷ w) v _ (four_bits {n = n} {s = s} h m) =
    subst (λ k. AreBits (c ∷ w) (take k (bit n 3 ∷ bit n 2 ∷ bit n 1 ∷ bit n 0 ∷ s))) (sym (four_times (length w))) (four_bits h (bits_front w v s m))

with_pair : (b : Bool) (w : List ℕ) (s : List Bool) → AreBits (cond b (w ++ 48 ∷ []) w) s → AreBits w (take (4 * length w) s)
with_pair true w s m = bits_front w (48 ∷ []) s m
with_pair false w s m = bits_front w [] s (subst (λ v. AreBits v s) (sym (append-nil w)) m)

from_octets : (o : Option (List ℕ)) (n : ℕ) (s : List Bool) → bits_from o n ≡ Some s → (xs : List ℕ) × (o ≡ Some xs) × (take n (bits_of xs) ≡ s)
from_octets None n s h = absurd (cc)
from_octets (Some xs) n s h = (xs, refl, (some_if (length xs == octets_for n) (take n (bits_of xs)) s h).1)

guarded : {A : Type 0} (b : Bool) (o : Option A) (x : A) → cond b o None ≡ Some x → o ≡ Some x
guarded true o x h = h
guarded false o x h = absurd (cc)

pub digit_bits_sound : (w : List ℕ) (s : List Bool) → digit_bits w ≡ Some s → AreBits w s
unfolding digit_bits
digit_bits_sound w s h =
    let p = from_octets (octets_in (paired w)) (4 * length w) s (guarded (nat_lt (length w) 4611686018427387904) _ s h) in
    subst (AreBits w) p.2 (with_pair (length w % 2 == 1) w (bits_of p.0) (octets_bits (octets_in_sound (paired w) p.0 p.1)))

-- ---- texts

step_quote : (b : Bool) (c : ℕ) (out : List ℕ) → c == 34 ≡ b → text_step (quoting.Plain, out) c ≡ cond b (quoting.Quoted, out) (quoting.Plain, out ++ encode_utf8 c)
step_quote b c out e = ap (λ b. cond b (quoting.Quoted, out) (quoting.Plain, out ++ encode_utf8 c)) e

last_quote : (b : Bool) (c : ℕ) (out : List ℕ) → c == 34 ≡ b → (text_after (quoting.Plain, out) (c ∷ [])).1 ≡ out ++ encode_utf8_all (unquoted (c ∷ []))
last_quote true c out e = rw e (sym (append-nil out))
last_quote false c out e = rw e (ap (λ x. out ++ x) (sym (append-nil (encode_utf8 c))))

by_quote : (b : Bool) (c d : ℕ) (cs out : List ℕ) → c == 34 ≡ b → (text_after (quoting.Plain, out ++ encode_utf8 d) cs).1 ≡ (out ++ encode_utf8 d) ++ encode_utf8_all (unquoted cs)
    → (text_after (quoting.Plain, out ++ encode_utf8 c) (d ∷ cs)).1 ≡ (out ++ encode_utf8 c) ++ encode_utf8_all (unquoted (d ∷ cs)) → (text_after (quoting.Plain, out) (c ∷ d ∷ cs)).1 ≡ out ++ encode_utf8_all (unquoted (c ∷ d ∷ cs))
by_quote true c d cs out e h k =
    ap (λ p. (text_after p (d ∷ cs)).1) (step_quote true c out e) ∙ h ∙ append_assoc out (encode_utf8 d) (encode_utf8_all (unquoted cs))
    ∙ ap (λ b. out ++ encode_utf8_all (cond b (d ∷ unquoted cs) (c ∷ unquoted (d ∷ cs)))) (sym e)
by_quote false c d cs out e h k =
    ap (λ p. (text_after p (d ∷ cs)).1) (step_quote false c out e) ∙ k ∙ append_assoc out (encode_utf8 c) (encode_utf8_all (unquoted (d ∷ cs)))
    ∙ ap (λ b. out ++ encode_utf8_all (cond b (d ∷ unquoted cs) (c ∷ unquoted (d ∷ cs)))) (sym e)

plain_after : (cs out : List ℕ) → (text_after (quoting.Plain, out) cs).1 ≡ out ++ encode_utf8_all (unquoted cs)
plain_after [] out = sym (append-nil out)
plain_after (c ∷ []) out = last_quote (c == 34) c out refl
plain_after (c ∷ d ∷ cs) out = by_quote (c == 34) c d cs out refl (plain_after cs (out ++ encode_utf8 d)) (plain_after (d ∷ cs) (out ++ encode_utf8 c))

from_first : (cs : List ℕ) → (text_after (quoting.First, []) cs).1 ≡ encode_utf8_all (unquoted (drop 1 cs))
from_first [] = refl
from_first (c ∷ cs) = plain_after cs []

pub text_in_is : (w : List ℕ) → text_in w ≡ text_of w
unfolding text_in
text_in_is w = from_first (chars w)
