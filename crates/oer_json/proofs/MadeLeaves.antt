-- What is made of a value without parts stands for it; what is put into objects is found in them.
use Rattle.std.proofs.Common.{◌≡◌, inl, inr, ℕ, zero, suc, List, [], ◌∷◌, Bool, true, false, cond, nat_lt, ℤ, pos, negsuc, int_eq, Option, Some, None, Ordering, Less, Equal, Greater, nat_cmp, refl, arith}
use Rattle.std.specs.Ordering.{match_ordering}
use Rattle.std.specs.Cmp.Lexicographic.{slice_cmp}
use Rattle.std.specs.Fmt.{signed_decimal}
use Rattle.std.proofs.lemmas.Bool.{ltb-true}
use Rattle.std.proofs.lemmas.Bool.Decides.{Decides-int_eq}
use Rattle.hex.specs.Hex.{IsBytes, encode_lower}
use Rattle.hex.proofs.HexLemmas.{decode_of-encode_lower}
use Rattle.serde_json.specs.Data as json
use Rattle.serde_json.specs.Data.{Data, Members}
use Rattle.serde_json.specs.Find.{of_integer}
use Rattle.oer_model.specs.AsnType.{NamedNumber}
use Rattle.oer_model.specs.FitTest.{all_below}
use Rattle.oer_model.specs.WellFormed.{AnyOf}
use Rattle.oer_model.proofs.fitting.FitTests.{both}
use Rattle.oer_json.specs.Denotes.{DenotesInteger, DenotesItem, DenotesOctets, HoldsWhole}
use Rattle.oer_json.specs.Keys.{EachKey}
use Rattle.oer_json.specs.Made.{has_64_bits, made_integer, made_item, made_octets}
use Rattle.oer_literals.specs.Items.{name_of}
use Rattle.oer_json.proofs.Answered.{some_is}

holds_made : (z : ℤ) → HoldsWhole z (json.number (of_integer z))
holds_made (pos n) = (of_integer (pos n), refl, refl)
holds_made (negsuc n) = (of_integer (negsuc n), refl, refl)

integer_by : (b : Bool) (z : ℤ) → DenotesInteger z (cond b (json.number (of_integer z)) (json.string (signed_decimal z)))
integer_by true z = inl (holds_made z)
integer_by false z = inr refl

pub integer_made : (z : ℤ) → DenotesInteger z (made_integer z)
integer_made z = integer_by (has_64_bits z) z

name_has : (xs : List NamedNumber) (z : ℤ) (name : List ℕ) → name_of xs z ≡ Some name → AnyOf (λ (i : NamedNumber). (i.name ≡ name) × (i.number ≡ z)) xs
name_has [] z name h = absurd (cc)
name_has (i ∷ xs) z name h = by (int_eq i.number z) refl (name_has xs z name) h
  where
    by : (b : Bool) → int_eq i.number z ≡ b → (name_of xs z ≡ Some name → AnyOf (λ (i : NamedNumber). (i.name ≡ name) × (i.number ≡ z)) xs) → cond b (Some i.name) (name_of xs z) ≡ Some name → AnyOf (λ (i : NamedNumber). (i.name ≡ name) × (i.number ≡ z)) (i ∷ xs)
    by true e later h = inl (some_is i.name name h, (Decides-int_eq i.number z).0 e)
    by false e later h = inr (later h)

item_by : (xs : List NamedNumber) (z : ℤ) (o : Option (List ℕ)) → name_of xs z ≡ o → DenotesItem xs z (made_item o z)
item_by xs z None e = inl (holds_made z)
item_by xs z (Some name) e = inr (name, refl, name_has xs z name e)

pub item_made : (xs : List NamedNumber) (z : ℤ) → DenotesItem xs z (made_item (name_of xs z) z)
item_made xs z = item_by xs z (name_of xs z) refl

bytes_below : (w : List ℕ) → all_below 256 w ≡ true → IsBytes w
bytes_below [] h i = omega arith
bytes_below (x ∷ w) h zero = ltb-true x 256 (both (nat_lt x 256) (all_below 256 w) h).0
bytes_below (x ∷ w) h (suc i) = bytes_below w (both (nat_lt x 256) (all_below 256 w) h).1 i

pub octets_made : (w : List ℕ) → all_below 256 w ≡ true → DenotesOctets w (made_octets w)
octets_made w h = (encode_lower w, refl, decode_of-encode_lower w (bytes_below w h))

-- a key that is put has what each key has
put_by : (P : List ℕ → Type 0) (o : Ordering) (k l : List ℕ) (d e : Data) (ms : Members) → P k → P l → EachKey P ms → EachKey P (json.put k d ms) → EachKey P (match_ordering o (json.member k d (json.member l e ms)) (json.member l d ms) (json.member l e (json.put k d ms)))
put_by P Less k l d e ms p q h i = (p, (q, h))
put_by P Equal k l d e ms p q h i = (q, h)
put_by P Greater k l d e ms p q h i = (q, i)

pub each_put : (P : List ℕ → Type 0) (k : List ℕ) (d : Data) (ms : Members) → P k → EachKey P ms → EachKey P (json.put k d ms)
each_put P k d json.no_members p h = (p, tt)
each_put P k d (json.member l e ms) p h = put_by P (slice_cmp nat_cmp k l) k l d e ms p h.0 h.1 (each_put P k d ms p h.1)
