-- What stands for a value of a type without parts is taken.
use Rattle.std.proofs.Common.{◌≡◌, inl, inr, ℕ, ◌+◌, ◌*◌, ◌^◌, ◌<◌, leb, ltb, List, [], ◌∷◌, map, Bool, true, false, cond, ◌&&◌, ◌||◌, ℤ, pos, negsuc, int_le, Option, Some, Result, Ok, Err, refl, sym, ap, subst, ◌∙◌, arith}
use Rattle.std.specs.Str.{bytes_eq}
use Rattle.std.proofs.lemmas.Bool.{leb-true, lt-ltb, ltb-true}
use Rattle.std.proofs.lemmas.Slice.Eq.{bytes_eq-Decides}
use Rattle.hex.specs.Hex.{decode_of}
use Rattle.serde_json.specs.Data as json
use Rattle.serde_json.specs.Data.{Data, Num}
use Rattle.serde_json.specs.Find.{as_integer}
use Rattle.oer_units.specs.Reading.{is_int64}
use Rattle.oer_model.specs.AsnType.{AsnType, NamedNumber}
use Rattle.oer_model.specs.AsnValue.{AsnValue}
use Rattle.oer_model.specs.Constraints.{above, below, in_range}
use Rattle.oer_model.specs.Fits.{AllBelow}
use Rattle.oer_model.specs.FitTest.{all_below, arcs_fit, first_arcs, is_fit}
use Rattle.oer_model.specs.WellFormed.{AnyOf, Repeats, item_names}
use Rattle.oer_model.proofs.fitting.FitTests.{below_all, both}
use Rattle.oer_json.specs.Answer.{◌>>=◌, some_or}
use Rattle.oer_json.specs.Denotes.{DenotesInteger, DenotesItem, DenotesOctets, IsOneOf}
use Rattle.oer_json.specs.Made.{has_64_bits}
use Rattle.oer_json.specs.Take.{arcs_in, bits_in, bits_of_text, dotted_in, fitting, from_hex, held, held_small, in_64_bits, integer_in, item_in, octets_in, text_in}
use Rattle.oer_literals.specs.Bits.{bit_digit, is_one}
use Rattle.oer_literals.specs.Items.{number_named}
use Rattle.oer_json.specs.Texts.{are_bits, dotted}
use Rattle.oer_json.specs.declared.fault.JsonFault.{JsonFault}
use Rattle.oer_json.specs.declared.fault.JsonFault.TheVariants.{Kind, Misfit, Name, Range}
use Rattle.oer_json.proofs.Decimals.{text_read}
use Rattle.oer_json.proofs.Dots.{dotted_complete}
use Rattle.oer_json.proofs.Named.{stands_again}

-- what was read is answered, where it fits
pub fitting_is : (T : AsnType) (r : Result AsnValue JsonFault) (v : AsnValue) → r ≡ Ok v → is_fit T v ≡ true → (r >>= fitting T) ≡ Ok v
fitting_is T r v e h = ap (λ r. r >>= fitting T) e ∙ ap (λ b. cond b (Ok v) (Err Misfit)) h

held_is : (n : Num) (z : ℤ) → as_integer n ≡ Some z → held n ≡ Ok z
held_is n z h = ap (some_or Kind) h

pub integer_taken : (low high : Option ℤ) (z : ℤ) (j : Data) → DenotesInteger z j → in_range low high z ≡ true → integer_in j ≡ Ok z
unfolding in_range
integer_taken low high z j (inl (n, e, h)) f = ap integer_in e ∙ held_is n z h
integer_taken low high z j (inr e) f =
    let p = both (int_le (negsuc 170141183460469231731687303715884105727) z && int_le z (pos 170141183460469231731687303715884105727) && above low z) (below high z) f in
    let q = both (int_le (negsuc 170141183460469231731687303715884105727) z && int_le z (pos 170141183460469231731687303715884105727)) (above low z) p.0 in
    let r = both (int_le (negsuc 170141183460469231731687303715884105727) z) (int_le z (pos 170141183460469231731687303715884105727)) q.0 in
    ap integer_in e ∙ text_read z r.0 r.1

within_64 : (z : ℤ) → int_le (negsuc 9223372036854775807) z ≡ true → int_le z (pos 9223372036854775807) ≡ true → has_64_bits z ≡ true
within_64 (pos n) l h = lt-ltb n (2 ^ 63) (let k = leb-true n 9223372036854775807 h in omega arith)
within_64 (negsuc n) l h = lt-ltb n (2 ^ 63) (let k = leb-true n 9223372036854775807 l in omega arith)

pub is_small : (z : ℤ) → is_int64 z ≡ true → has_64_bits z ≡ true
unfolding is_int64
is_small z f = let p = both (int_le (negsuc 9223372036854775807) z) (int_le z (pos 9223372036854775807)) f in within_64 z p.0 p.1

small_is : (n : Num) (z : ℤ) → as_integer n ≡ Some z → has_64_bits z ≡ true → held_small n ≡ Ok z
unfolding held_small
small_is n z h f = ap (λ o. some_or Kind o >>= in_64_bits) h ∙ ap (λ b. cond b (Ok z) (Err Range)) f

abbrev HasItem : List ℕ → ℤ → NamedNumber → Type 0
HasItem name z i = (i.name ≡ name) × (i.number ≡ z)

names_of_items : (xs : List NamedNumber) (name : List ℕ) (z : ℤ) → AnyOf (HasItem name z) xs → IsOneOf (item_names xs) name
names_of_items [] name z h = absurd h
names_of_items (x ∷ xs) name z (inl h) = inl h.0
names_of_items (x ∷ xs) name z (inr h) = inr (names_of_items xs name z h)

number_is : (xs : List NamedNumber) (name : List ℕ) (z : ℤ) → (Repeats (item_names xs) → ⊥) → AnyOf (HasItem name z) xs → number_named xs name ≡ Some z
number_is [] name z apart h = absurd h
number_is (x ∷ xs) name z apart (inl h) = ap (λ b. cond b (Some x.number) (number_named xs name)) ((bytes_eq-Decides x.name name).1 h.0) ∙ ap Some h.1
number_is (x ∷ xs) name z apart (inr h) = by (bytes_eq x.name name) refl (number_is xs name z (λ r. apart (inr r)) h)
  where
    by : (b : Bool) → bytes_eq x.name name ≡ b → number_named xs name ≡ Some z → cond b (Some x.number) (number_named xs name) ≡ Some z
    by true e later = absurd (apart (stands_again x.name (item_names xs) (subst (IsOneOf (item_names xs)) (sym ((bytes_eq-Decides x.name name).0 e)) (names_of_items xs name z h))))
    by false e later = later

pub item_taken : (xs : List NamedNumber) (z : ℤ) (j : Data) → (Repeats (item_names xs) → ⊥) → DenotesItem xs z j → is_int64 z ≡ true → item_in xs j ≡ Ok z
item_taken xs z j apart (inl (n, e, h)) f = ap (item_in xs) e ∙ small_is n z h (is_small z f)
item_taken xs z j apart (inr (name, e, h)) f = ap (item_in xs) e ∙ ap (some_or Name) (number_is xs name z apart h)

pub text_taken : (s : List ℕ) (j : Data) → j ≡ json.string s → text_in j ≡ Ok s
text_taken s j e = ap text_in e

pub octets_taken : (w : List ℕ) (j : Data) → DenotesOctets w j → octets_in j ≡ Ok w
unfolding octets_in
octets_taken w j (s, e, h) = ap (λ j. text_in j >>= λ s. from_hex (decode_of s)) e ∙ ap from_hex h

bits_pass : (s : List Bool) → are_bits (map bit_digit s) ≡ true
bits_pass [] = refl
bits_pass (true ∷ s) = bits_pass s
bits_pass (false ∷ s) = bits_pass s

bits_back : (s : List Bool) → map is_one (map bit_digit s) ≡ s
bits_back [] = refl
bits_back (true ∷ s) = ap (λ s. true ∷ s) (bits_back s)
bits_back (false ∷ s) = ap (λ s. false ∷ s) (bits_back s)

pub bits_taken : (s : List Bool) (j : Data) → j ≡ json.string (map bit_digit s) → bits_in j ≡ Ok s
unfolding bits_in
bits_taken s j e = ap (λ j. text_in j >>= bits_of_text) e ∙ ap (λ b. cond b (Ok (map is_one (map bit_digit s))) (Err Kind)) (bits_pass s) ∙ ap Ok (bits_back s)

-- arcs that fit are each below 2^128
small_sum : (a b : ℕ) → 40 * a + b < 2 ^ 128 → (a < 2 ^ 128) × (b < 2 ^ 128)
small_sum a b h = (omega arith, omega arith)

arcs_below : (a b : ℕ) (rest : List ℕ) → arcs_fit (a ∷ b ∷ rest) ≡ true → AllBelow (2 ^ 128) (a ∷ b ∷ rest)
arcs_below a b rest h =
    let p = both (first_arcs a b) (all_below (2 ^ 128) rest) h in
    let q = both (leb a 2 && (leb 2 a || ltb b 40)) (ltb (40 * a + b) (2 ^ 128)) p.0 in
    let s = small_sum a b (ltb-true (40 * a + b) (2 ^ 128) q.1) in
    (s.0, (s.1, below_all (2 ^ 128) rest p.1))

pub arcs_taken : (arcs : List ℕ) (j : Data) → j ≡ json.string (dotted arcs) → arcs_fit arcs ≡ true → arcs_in j ≡ Ok arcs
unfolding arcs_in
arcs_taken [] j e f = absurd (cc)
arcs_taken (a ∷ []) j e f = absurd (cc)
arcs_taken (a ∷ b ∷ rest) j e f = ap (λ j. text_in j >>= dotted_in) e ∙ dotted_complete a b rest (arcs_below a b rest f)
