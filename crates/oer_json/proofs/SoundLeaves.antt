-- What is taken of types without parts stands for the value.
use Rattle.std.proofs.Common.{◌≡◌, ℕ, List, [], ◌∷◌, map, Bool, true, false, cond, ◌==◌, ◌||◌, ℤ, inl, inr, Some, Result, Ok, Err, refl, sym, ap, ap₂, subst, ◌∙◌}
use Rattle.std.specs.Prelude.{⊤}
use Rattle.std.specs.Str.{bytes_eq}
use Rattle.std.proofs.lemmas.Bool.{and_parts, eqb-true}
use Rattle.std.proofs.lemmas.Slice.Eq.{bytes_eq-Decides}
use Rattle.hex.specs.Hex.{decode_of}
use Rattle.hex.specs.declared.error.FromHexError.{FromHexError}
use Rattle.serde_json.specs.Data as json
use Rattle.serde_json.specs.Data.{Data, Items, Members, Num}
use Rattle.serde_json.specs.Find.{as_array, as_bool, as_integer, as_null, as_object, as_str}
use Rattle.oer_model.specs.AsnType.{AsnType, NamedNumber}
use Rattle.oer_model.specs.AsnValue.{AsnValue}
use Rattle.oer_model.specs.FitTest.{is_fit}
use Rattle.oer_model.specs.WellFormed.{AnyOf}
use Rattle.oer_json.specs.Answer.{◌>>=◌, some_or}
use Rattle.oer_json.specs.Denotes.{DenotesInteger, DenotesItem, DenotesOctets, only}
use Rattle.oer_json.specs.Made.{has_64_bits}
use Rattle.oer_json.specs.Take.{arcs_in, as_value, bits_in, bits_of_text, dotted_in, fitting, from_hex, held_small, integer_in, item_in, items_in, members_in, octets_in, one_member, only_member, text_in}
use Rattle.oer_literals.specs.Bits.{bit_digit, is_one}
use Rattle.oer_literals.specs.Items.{number_named}
use Rattle.oer_json.specs.Texts.{are_bits, dotted}
use Rattle.oer_json.specs.declared.fault.JsonFault.{JsonFault}
use Rattle.oer_json.specs.declared.fault.JsonFault.TheVariants.{Kind, Misfit, Name, Range}
use Rattle.oer_json.proofs.Answered.{bound_ok, given, if_ok, ok_is, some_is}
use Rattle.oer_json.proofs.Decimals.{text_spelt}
use Rattle.oer_json.proofs.Dots.{dotted_sound}

-- what is answered was read, and fits
pub fitting_ok : (T : AsnType) (r : Result AsnValue JsonFault) (v : AsnValue) → (r >>= fitting T) ≡ Ok v → (r ≡ Ok v) × (is_fit T v ≡ true)
fitting_ok T (Ok x) v h =
    let p = if_ok (is_fit T x) (Ok x) Misfit v h in
    (p.1, subst (λ v. is_fit T v ≡ true) (ok_is x v p.1) p.0)
fitting_ok T (Err e) v h = absurd (cc)

-- P holds of what is read, since it holds of what it is made of
pub read_as : {A : Type 0} (P : AsnValue → Data → Type 0) (make : A → AsnValue) (r : Result A JsonFault) (j : Data) (v : AsnValue) → as_value make r ≡ Ok v
    → ((x : A) → r ≡ Ok x → P (make x) j) → P v j
read_as P make (Ok x) j v h s = subst (λ v. P v j) (ok_is (make x) v h) (s x refl)
read_as P make (Err e) j v h s = absurd (cc)

-- ---- kinds of JSON

pub bool_is : (j : Data) (b : Bool) → as_bool j ≡ Some b → j ≡ json.boolean b
bool_is (json.boolean c) b h = ap json.boolean (some_is c b h)
bool_is j b h = absurd (cc)

pub null_is : (j : Data) (u : ⊤) → as_null j ≡ Some u → j ≡ json.null
null_is json.null u h = refl
null_is j u h = absurd (cc)

string_is : (j : Data) (s : List ℕ) → as_str j ≡ Some s → j ≡ json.string s
string_is (json.string t) s h = ap json.string (some_is t s h)
string_is j s h = absurd (cc)

object_is : (j : Data) (ms : Members) → as_object j ≡ Some ms → j ≡ json.object ms
object_is (json.object ns) ms h = ap json.object (some_is ns ms h)
object_is j ms h = absurd (cc)

array_is : (j : Data) (js : Items) → as_array j ≡ Some js → j ≡ json.array js
array_is (json.array ks) js h = ap json.array (some_is ks js h)
array_is j js h = absurd (cc)

pub text_is : (j : Data) (s : List ℕ) → text_in j ≡ Ok s → j ≡ json.string s
text_is j s h = string_is j s (given Kind (as_str j) s h)

pub members_is : (j : Data) (ms : Members) → members_in j ≡ Ok ms → j ≡ json.object ms
members_is j ms h = object_is j ms (given Kind (as_object j) ms h)

pub items_is : (j : Data) (js : Items) → items_in j ≡ Ok js → j ≡ json.array js
items_is j js h = array_is j js (given Kind (as_array j) js h)

only_is : (ms : Members) (m : List ℕ × Data) → only_member ms ≡ Ok m → ms ≡ json.member m.0 m.1 json.no_members
only_is json.no_members m h = absurd (cc)
only_is (json.member k d json.no_members) m h = ap (λ m. json.member m.0 m.1 json.no_members) (ok_is (k, d) m h)
only_is (json.member k d (json.member l e ms)) m h = absurd (cc)

pub one_is : (j : Data) (m : List ℕ × Data) → one_member j ≡ Ok m → j ≡ only m.0 m.1
unfolding one_member
one_is j m h = let p = bound_ok (members_in j) only_member m h in members_is j p.0 p.1 ∙ ap json.object (only_is p.0 m p.2)

-- ---- values

pub integer_denoted : (j : Data) (z : ℤ) → integer_in j ≡ Ok z → DenotesInteger z j
integer_denoted (json.number n) z h = inl (n, refl, given Kind (as_integer n) z h)
integer_denoted (json.string s) z h = inr (ap json.string (text_spelt s z h))
integer_denoted j z h = absurd (cc)

number_has : (xs : List NamedNumber) (name : List ℕ) (z : ℤ) → number_named xs name ≡ Some z → AnyOf (λ (i : NamedNumber). (i.name ≡ name) × (i.number ≡ z)) xs
number_has [] name z h = absurd (cc)
number_has (i ∷ xs) name z h = by (bytes_eq i.name name) refl (number_has xs name z) h
  where
    by : (b : Bool) → bytes_eq i.name name ≡ b → (number_named xs name ≡ Some z → AnyOf (λ (i : NamedNumber). (i.name ≡ name) × (i.number ≡ z)) xs) → cond b (Some i.number) (number_named xs name) ≡ Some z → AnyOf (λ (i : NamedNumber). (i.name ≡ name) × (i.number ≡ z)) (i ∷ xs)
    by true e later h = inl ((bytes_eq-Decides i.name name).0 e, some_is i.number z h)
    by false e later h = inr (later h)

small_held : (n : Num) (z : ℤ) → held_small n ≡ Ok z → as_integer n ≡ Some z
unfolding held_small
small_held n z h =
    let p = bound_ok (some_or Kind (as_integer n)) _ z h in
    let q = if_ok (has_64_bits p.0) (Ok p.0) Range z p.2 in
    given Kind (as_integer n) p.0 p.1 ∙ ap Some (ok_is p.0 z q.1)

pub item_denoted : (xs : List NamedNumber) (j : Data) (z : ℤ) → item_in xs j ≡ Ok z → DenotesItem xs z j
item_denoted xs (json.number n) z h = inl (n, refl, small_held n z h)
item_denoted xs (json.string s) z h = inr (s, refl, number_has xs s z (given Name (number_named xs s) z h))
item_denoted xs j z h = absurd (cc)

hex_is : (r : Result (List ℕ) FromHexError) (w : List ℕ) → from_hex r ≡ Ok w → r ≡ Ok w
hex_is (Ok x) w h = ap Ok (ok_is x w h)
hex_is (Err e) w h = absurd (cc)

pub octets_denoted : (j : Data) (w : List ℕ) → octets_in j ≡ Ok w → DenotesOctets w j
unfolding octets_in
octets_denoted j w h = let p = bound_ok (text_in j) _ w h in (p.0, text_is j p.0 p.1, hex_is (decode_of p.0) w p.2)

bit_is : (c : ℕ) → (c == 48 || c == 49) ≡ true → bit_digit (c == 49) ≡ c
bit_is c h = by (c == 49) refl h
  where
    zero_is : (b : Bool) → c == 48 ≡ b → (b || false) ≡ true → 48 ≡ c
    zero_is true e h = sym (eqb-true c 48 e)
    zero_is false e h = absurd (cc)

    by : (b : Bool) → c == 49 ≡ b → (c == 48 || b) ≡ true → bit_digit b ≡ c
    by true e h = sym (eqb-true c 49 e)
    by false e h = zero_is (c == 48) refl h

bits_are : (s : List ℕ) → are_bits s ≡ true → map bit_digit (map is_one s) ≡ s
bits_are [] h = refl
bits_are (c ∷ cs) h = let p = and_parts (c == 48 || c == 49) (are_bits cs) h in ap₂ (λ x xs. x ∷ xs) (bit_is c p.0) (bits_are cs p.1)

pub bits_denoted : (j : Data) (s : List Bool) → bits_in j ≡ Ok s → j ≡ json.string (map bit_digit s)
unfolding bits_in
bits_denoted j s h =
    let p = bound_ok (text_in j) bits_of_text s h in
    let q = if_ok (are_bits p.0) (Ok (map is_one p.0)) Kind s p.2 in
    text_is j p.0 p.1 ∙ ap json.string (sym (bits_are p.0 q.0) ∙ ap (map bit_digit) (ok_is (map is_one p.0) s q.1))

pub arcs_denoted : (j : Data) (arcs : List ℕ) → arcs_in j ≡ Ok arcs → j ≡ json.string (dotted arcs)
unfolding arcs_in
arcs_denoted j arcs h = let p = bound_ok (text_in j) dotted_in arcs h in text_is j p.0 p.1 ∙ ap json.string (dotted_sound p.0 arcs p.2)
