-- The checkers of types without parts.
use Rattle.std.proofs.Common.{◌≡◌, ℕ, zero, suc, ◌-◌, ◌*◌, ◌≤◌, List, [], ◌∷◌, ◌++◌, length, take, drop, Bool, true, false, not, ◌&&◌, ◌||◌, leb, eqb, refl, ap, ap₂, sym, ◌∙◌, subst, append-nil, append_assoc, arith, length-append, eqb-true, eq-eqb, take-append-drop, length-take-le, drop_at, ℤ, Option, Some, None}
use Rattle.std.specs.Str.{is_utf8, chars}
use Rattle.oer_units.specs.Lawful.{Lawful}
use Rattle.oer_units.specs.Least.{length_octets, counted, enumerated_octets, object_id_octets}
use Rattle.oer_units.specs.Numbers.{natural, signed}
use Rattle.oer_units.specs.Octets.{IsOctets, IsShortest}
use Rattle.oer_units.specs.Reader.{Outcome, Place, Reader, give, refuse, bind, then_read, got, refused, guard, choose, within}
use Rattle.oer_units.specs.Reading as unit
use Rattle.oer_units.specs.Reading.{determinant, is_int64, octet, counted_octets, subidentifier, subidentifiers, object_identifier, arcs_of, with_length}
use Rattle.oer_units.specs.Spelling.{IsLength, IsCounted, IsEnumerated, IsObjectId}
use Rattle.oer_units.specs.declared.fault.Why.TheVariants.{Character, End, ObjectId, UnknownEnum}
use Rattle.oer_units.specs.declared.fault.Why.TheVariants as reason
use Rattle.oer_units.proofs.Closure.{within_lawful, give_lawful, got_place, got_value, same_spellings}
use Rattle.oer_units.proofs.Counted.{counted_octets_lawful}
use Rattle.oer_units.proofs.EnumeratedNumbers.{enumeration_lawful}
use Rattle.oer_units.proofs.Leasts.{fixed_shortest, len_exists, len_small}
use Rattle.oer_units.proofs.Lengths.{determinant_lawful, octet_lawful}
use Rattle.oer_units.proofs.ObjectIds.{contents_lawful}
use Rattle.oer_units.proofs.OneSpelling.{octets_split}
use Rattle.oer_units.proofs.Units.{tested_lawful}
use Rattle.oer_model.proofs.checking.Checked.{front_same, and_checked, within_checked, Input, Checked, flag, with_value, read_spelt, judged_checked, checked_as, give_checked, bind_checked, made_checked, guard_checked, flag_checked}
use Rattle.oer_model.proofs.canonical.Bridge.{integer_exists, strict_counted_only}
use Rattle.oer_model.proofs.fitting.Forms.{FitsForm, form_fits}
use Rattle.oer_units.proofs.LeastDigits.{oid_only}
use Rattle.oer_model.proofs.reading.Parts.{size_goes_on, bits_lawful}
use Rattle.oer_model.proofs.canonical.StrictEnc.{bit_string_within}
use Rattle.std.proofs.lemmas.List.{length-drop}
use Rattle.oer_model.proofs.canonical.Computed.{bitmap_plain, value_plain}
use Rattle.oer_model.proofs.fitting.Fitting.{enc_fits}
use Rattle.oer_model.proofs.canonical.Given.{small_from, value_given}
use Rattle.oer_model.proofs.bits.LeastBits.{length-padded}
use Rattle.oer_model.proofs.reading.Parts.{OfSize, length-bits_of, form_lawful, octets_lawful}
use Rattle.oer_model.proofs.canonical.StrictEnc.{strict_within}
use Rattle.oer_model.proofs.fitting.Contents.{content_lawful, holds, with_characters, with_test, without_characters, without_test}
use Rattle.oer_model.specs.LeafType as leaf_type
use Rattle.oer_model.specs.AsnType.{Alphabet, AsnType, NamedNumber, bit_string, boolean, enumerated, integer, leaf, null, octet_string, restricted_string, utf8_string}
use Rattle.oer_model.specs.AsnValue.{AsnValue, nothing, bool, int, enum, bit_list, leaf_value}
use Rattle.oer_model.specs.Bits.{all_false, bits_of, octets_for, padded, spare_bits, IsPreamble, IsBits}
use Rattle.oer_model.specs.Canonical.{bit_octets, bitmap_octets, integer_octets, trimmed, plain_octets}
use Rattle.oer_model.specs.Checking.{judged, and_also, is_least, ends_in_zeros, are_least_bits, check_length, check_integer, check_enumerated, check_bits, check_content, check_subidentifiers, check_object_id, check_octet_string, check_text, check_utf8}
use Rattle.oer_model.specs.Constraints.{Form, unsigned_fixed, signed_fixed, unsigned_counted, signed_counted, form_of, in_range, has_number, all_characters, fixed, size_fits, KeepsLimits}
use Rattle.oer_model.specs.ContentType as kind
use Rattle.oer_model.specs.ContentType.{ContentType}
use Rattle.oer_model.specs.Contents.{Sized, SpellsContent, content_octets, content_value, fixed_content, read_content, read_octets, read_text, read_utf8, string_octets}
use Rattle.oer_model.specs.Encoding.{IsItself, IsSpelling, SpellsBits, SpellsInteger}
use Rattle.oer_model.specs.Reading.{read_bits, read_integer, read_value}
use Rattle.oer_model.specs.Strict.{IsStrictSpelling, StrictCounted, StrictBits, StrictBitString}
use Rattle.oer_model.specs.declared.size.Size.{Size}

-- what is as long as the shortest is shortest
pub by_length : (S : List ℕ → Type 0) (d b : List ℕ) → IsOctets b → S b → IsShortest S d → (eqb (length b) (length d) ≡ true → IsShortest S b) × (IsShortest S b → eqb (length b) (length d) ≡ true)
by_length S d b o s (od, sd, least) = (
  λ t. (let same : length b ≡ length d = eqb-true (length b) (length d) t in (o, s, λ c oc sc. (let i = least c oc sc in omega arith))),
  λ (o', s', least'). eq-eqb (length b) (length d) (let i = least b o s in let j = least' d od sd in omega arith),
)

-- what r reads, and what a test says of it
pub told_checked : {A : Type 0} (t : A → Bool) (r : Reader A) (S S' : A → List ℕ → Type 0) → Lawful r S → ((x : A) (b : List ℕ) → Input b → S x b → (t x ≡ true → S' x b) × (S' x b → t x ≡ true)) → Checked flag r (bind r (λ x. give (t x))) S'
unfolding bind give
told_checked t r S S' l f = record {
  refuses = λ p why rest e. ap (then_read (λ x. give (t x))) e;
  tells = λ p x q e. (t x, ap (then_read (λ x. give (t x))) e, λ b i split. f x b i (read_spelt r S l p x q b e split));
}

-- other words for what a checker tells, of octets
pub checked_where : {A D : Type 0} {g : A → Bool → D} {r : Reader A} {c : Reader D} {S S' : A → List ℕ → Type 0} → Checked g r c S → ((x : A) (b : List ℕ) → Input b → S x b → S' x b) → ((x : A) (b : List ℕ) → Input b → S' x b → S x b) → Checked g r c S'
checked_where k to from = record {
  refuses = k.refuses;
  tells = λ p x q e. (let t = k.tells p x q e in (t.0, t.1, λ b i split. (let u = t.2 b i split in (λ f. to x b i (u.0 f), λ s. u.1 (from x b i s)))));
}

-- what is read, and whether the test holds
whether_checked : {A : Type 0} (t : A → List ℕ → Bool) (r : Reader A) (S : A → List ℕ → Type 0) → Lawful r S → Checked with_value r (judged t r) (λ x b. S x b × (t x b ≡ true))
whether_checked t r S l = judged_checked t r S (λ x b. S x b × (t x b ≡ true)) l (λ x b i s. (λ f. (s, f), λ f. f.1))

and_true : (f : Bool) → (f && true) ≡ f
and_true true = refl
and_true false = refl

give_also : {A : Type 0} (x : A) (f : Bool) → Checked (λ y e. f && e) (give x) (give f) (λ y b. (y ≡ x) × (b ≡ []))
unfolding give
give_also x f = record {
  refuses = λ p why rest e. absurd (cc);
  tells = λ p y q e. (
    true,
    ap (λ p. got f p) (got_place x y p q e) ∙ ap (λ g. got g q) (sym (and_true f)),
    λ b i split. (λ g. (sym (got_value x y p q e), front_same b [] q.input (sym split ∙ ap (λ (p : Place). p.input) (got_place x y p q e))), λ s. refl),
  );
}

-- what is read by r, and then kept by k without further octets, P telling where
module _ {A B : Type 0} (t : A → List ℕ → Bool) (f : A → B) (P : A → Type 0) (r : Reader A) (S : A → List ℕ → Type 0) (l : Lawful r S) (k : A → Reader B) (m : A → Bool → Reader Bool)
    (lk : (x : A) → Lawful (k x) (λ y b. P x × ((y ≡ f x) × (b ≡ [])))) (ck : (x : A) (g : Bool) → Checked (λ y e. g && e) (k x) (m x g) (λ y b. P x × ((y ≡ f x) × (b ≡ [])))) where
  pub kept_checked : Checked flag (bind r k) (bind (judged t r) (λ y. m y.0 y.1)) (λ y b. (x : A) × (y ≡ f x) × P x × (S x b × (t x b ≡ true)))
  kept_checked = checked_as
      (bind_checked with_value flag r k (judged t r) (λ y. m y.0 y.1) S (λ x b. S x b × (t x b ≡ true)) (λ x y b. P x × ((y ≡ f x) × (b ≡ []))) (λ x y b. P x × ((y ≡ f x) × (b ≡ []))) l (λ x b s. s.0) (whether_checked t r S l) lk ck)
      (λ y b (x, b1, b2, s, (p, (is, none)), e). (let whole : b ≡ b1 = e ∙ ap (λ v. b1 ++ v) none ∙ append-nil b1 in (x, is, p, subst (λ c. S x c × (t x c ≡ true)) (sym whole) s)))
      (λ y b (x, is, p, s). (x, b, [], s, (p, (is, refl)), sym (append-nil b)))

-- the tests of a type whose strict spellings are its least ones
module _ (T : AsnType) (wf : KeepsLimits T) (stays : (v : AsnValue) → trimmed T v ≡ v) (down : (v : AsnValue) (b : List ℕ) → IsStrictSpelling T v b → IsShortest (IsSpelling T v) b) (up : (v : AsnValue) (b : List ℕ) → IsShortest (IsSpelling T v) b → IsStrictSpelling T v b) where
  least_strict : (v : AsnValue) (b : List ℕ) → Input b → IsSpelling T v b → eqb (length b) (length (plain_octets T v)) ≡ true → IsStrictSpelling T v b
  least_strict v b i s t =
      let same : length b ≡ length (plain_octets T v) = eqb-true (length b) (length (plain_octets T v)) t in
      let few = i.few in
      let fits = enc_fits T wf v b i.octs s in
      let given = value_given T wf v fits (small_from (plain_octets T (trimmed T v)) (omega (arith, ap (λ v. length (plain_octets T v)) (stays v)))) in
      up v b ((by_length (IsSpelling T v) (plain_octets T v) b i.octs s (down v (plain_octets T v) (subst (λ v. IsStrictSpelling T v (plain_octets T v)) (stays v) given))).0 t)

  pub leaf_checked : (c : Reader Bool) → Checked flag (read_value T) c (λ v b. IsSpelling T v b × (eqb (length b) (length (plain_octets T v)) ≡ true)) → Checked flag (read_value T) c (IsStrictSpelling T)
  leaf_checked c k = checked_where k
      (λ v b i s. least_strict v b i s.0 s.1)
      (λ v b i s. (strict_within T v b s, eq-eqb (length b) (length (plain_octets T v)) (ap length (value_plain T v b s).1)))

-- lengths
pub length_checked : Checked with_value determinant (judged (is_least length_octets) determinant) (λ n l. IsShortest (IsLength n) l)
length_checked = judged_checked (is_least length_octets) determinant IsLength (λ n l. IsShortest (IsLength n) l) determinant_lawful
    (λ n l i s. by_length (IsLength n) (length_octets n) l i.octs s (len_exists n (len_small n l i.octs s)))

module _ {A : Type 0} (k : ℕ → Reader A) (c : ℕ → Reader Bool) (S S' : A → List ℕ → Type 0) (lk : (n : ℕ) → Lawful (k n) (λ x b. S x b × (length b ≡ n))) (ck : (n : ℕ) → Checked flag (k n) (c n) (λ x b. S' x b × (length b ≡ n))) where
  pub with_length_checked : Checked flag (with_length k) (check_length c) (StrictCounted S')
  unfolding with_length check_length
  with_length_checked = checked_as
      (bind_checked with_value flag determinant (λ n. within n (k n)) (judged (is_least length_octets) determinant) (λ y. and_also y.1 (within y.0 (c y.0))) IsLength (λ n l. IsShortest (IsLength n) l) (λ n x b. S x b × (length b ≡ n)) (λ n x b. S' x b × (length b ≡ n))
      determinant_lawful (λ n l h. h.1) length_checked
      (λ n. within_lawful n (k n) (λ x b. S x b × (length b ≡ n)) (lk n) (λ x b s. (let e = s.1 in omega arith)))
      (λ n f. and_checked f (within n (k n)) (within n (c n)) (λ x b. S' x b × (length b ≡ n)) (within_checked n (k n) (c n) (λ x b. S' x b × (length b ≡ n)) (ck n))))
      (λ x b (n, l, d, s1, (s2, many), e). (l, d, e, subst (λ n. IsShortest (IsLength n) l) (sym many) s1, s2))
      (λ x b (l, d, e, s1, s2). (length d, l, d, s1, (s2, refl), e))

-- BOOLEAN and NULL
one_of : (x : ℕ) → (eqb x 0 || eqb x 255) ≡ true → IsStrictSpelling boolean (bool (not (eqb x 0))) (x ∷ [])
one_of x t = by_zero (eqb x 0) refl t
  where
    by_zero : (c : Bool) → eqb x 0 ≡ c → (c || eqb x 255) ≡ true → IsStrictSpelling boolean (bool (not (eqb x 0))) (x ∷ [])
    by_zero true e t = (false, ap (λ c. bool (not c)) e, ap (λ x. x ∷ []) (eqb-true x 0 e))
    by_zero false e t = (true, ap (λ c. bool (not c)) e, ap (λ x. x ∷ []) (eqb-true x 255 t))

of_one : (v : AsnValue) (x : ℕ) (b : List ℕ) → b ≡ x ∷ [] → IsStrictSpelling boolean v b → (eqb x 0 || eqb x 255) ≡ true
of_one v x b e (true, is, f) = let same : x ∷ [] ≡ 255 ∷ [] = sym e ∙ f in let one : x ≡ 255 = cc in ap (λ x. eqb x 0 || eqb x 255) one
of_one v x b e (false, is, f) = let same : x ∷ [] ≡ 0 ∷ [] = sym e ∙ f in let one : x ≡ 0 = cc in ap (λ x. eqb x 0 || eqb x 255) one

pub boolean_checked : Checked flag (read_value boolean) (bind octet (λ x. give (eqb x 0 || eqb x 255))) (IsStrictSpelling boolean)
boolean_checked = checked_as
    (made_checked (λ x. bool (not (eqb x 0))) (λ f. f) octet (bind octet (λ x. give (eqb x 0 || eqb x 255))) (λ x b. b ≡ x ∷ []) (λ x b. (b ≡ x ∷ []) × ((eqb x 0 || eqb x 255) ≡ true)) octet_lawful (λ x b s. s.0)
    (told_checked (λ x. eqb x 0 || eqb x 255) octet (λ x b. b ≡ x ∷ []) (λ x b. (b ≡ x ∷ []) × ((eqb x 0 || eqb x 255) ≡ true)) octet_lawful (λ x b i s. (λ t. (s, t), λ s. s.1))))
    (λ v b (x, is, (e, t)). subst (λ v. IsStrictSpelling boolean v b) (sym is) (subst (IsStrictSpelling boolean (bool (not (eqb x 0)))) (sym e) (one_of x t)))
    (λ v b s. (let w = strict_within boolean v b s in (w.0, w.2, (w.1, of_one v w.0 b w.1 s))))

pub null_checked : Checked flag (read_value null) (give true) (IsStrictSpelling null)
null_checked = give_checked nothing

-- INTEGER
module _ (low high : Option ℤ) where
  abbrev Reads : ℤ → List ℕ → Type 0
  Reads z b = (in_range low high z ≡ true) × SpellsInteger (form_of low high) z b

  counted_checked : (f : Form) → ((z : ℤ) → in_range low high z ≡ true → FitsForm f z) → Checked flag (read_integer f (in_range low high)) (bind (judged (is_least (integer_octets f)) (read_integer f (in_range low high))) (λ y. give y.1)) (λ z b. (in_range low high z ≡ true) × IsShortest (SpellsInteger f z) b)
  counted_checked f fits = flag_checked (read_integer f (in_range low high)) (judged (is_least (integer_octets f)) (read_integer f (in_range low high))) (λ z b. (in_range low high z ≡ true) × IsShortest (SpellsInteger f z) b)
      (judged_checked (is_least (integer_octets f)) (read_integer f (in_range low high)) (λ z b. (in_range low high z ≡ true) × SpellsInteger f z b) (λ z b. (in_range low high z ≡ true) × IsShortest (SpellsInteger f z) b) (form_lawful f (in_range low high))
      (λ z b i s. (let both = by_length (SpellsInteger f z) (integer_octets f z) b i.octs s.1 (integer_exists f z (fits z s.0)) in (λ t. (s.0, both.0 t), λ h. both.1 h.1))))

  number_checked : (f : Form) → ((z : ℤ) → in_range low high z ≡ true → FitsForm f z) → Checked flag (read_integer f (in_range low high)) (check_integer f (in_range low high)) (λ z b. (in_range low high z ≡ true) × IsShortest (SpellsInteger f z) b)
  number_checked (unsigned_fixed n) fits = told_checked (λ z. true) (read_integer (unsigned_fixed n) (in_range low high)) (λ z b. (in_range low high z ≡ true) × SpellsInteger (unsigned_fixed n) z b) (λ z b. (in_range low high z ≡ true) × IsShortest (SpellsInteger (unsigned_fixed n) z) b)
      (form_lawful (unsigned_fixed n) (in_range low high)) (λ z b i s. (λ t. (s.0, fixed_shortest (λ c. natural c ≡ z) n b i.octs s.1.0 s.1.1), λ h. refl))
  number_checked (signed_fixed n) fits = told_checked (λ z. true) (read_integer (signed_fixed n) (in_range low high)) (λ z b. (in_range low high z ≡ true) × SpellsInteger (signed_fixed n) z b) (λ z b. (in_range low high z ≡ true) × IsShortest (SpellsInteger (signed_fixed n) z) b)
      (form_lawful (signed_fixed n) (in_range low high)) (λ z b i s. (λ t. (s.0, fixed_shortest (λ c. signed c ≡ z) n b i.octs s.1.0 s.1.1), λ h. refl))
  number_checked unsigned_counted fits = counted_checked unsigned_counted fits
  number_checked signed_counted fits = counted_checked signed_counted fits

  one_int : (x y : ℤ) → int x ≡ int y → x ≡ y
  one_int x y e = cc

  pub integer_checked : Checked flag (read_value (integer low high)) (check_integer (form_of low high) (in_range low high)) (IsStrictSpelling (integer low high))
  integer_checked = checked_as
      (made_checked int (λ f. f) (read_integer (form_of low high) (in_range low high)) (check_integer (form_of low high) (in_range low high)) Reads (λ z b. (in_range low high z ≡ true) × IsShortest (SpellsInteger (form_of low high) z) b)
      (form_lawful (form_of low high) (in_range low high)) (λ z b s. (s.0, s.1.1)) (number_checked (form_of low high) (form_fits low high)))
      (λ v b (z, is, (ok, (o, s, least))). (o, (z, is, ok, s), λ c oc (y, is', ok', sc). least c oc (subst (λ y. SpellsInteger (form_of low high) y c) (one_int y z (sym is' ∙ is)) sc)))
      (λ v b (o, (z, is, ok, s), least). (z, is, (ok, (o, s, λ c oc sc. least c oc (z, is, ok, sc)))))

-- ENUMERATED
module _ (numbers : List NamedNumber) (extensible : Bool) where
  abbrev Listed : ℤ → Type 0
  Listed z = (extensible || has_number numbers z) ≡ true

  pub enumerated_checked : Checked flag (read_value (enumerated numbers extensible)) (check_enumerated (λ z. extensible || has_number numbers z)) (IsStrictSpelling (enumerated numbers extensible))
  unfolding check_enumerated
  enumerated_checked = leaf_checked (enumerated numbers extensible) tt (λ v. refl) (λ v b s. s) (λ v b s. s) _ (checked_as
      (kept_checked (is_least enumerated_octets) enum Listed unit.enumerated (λ z b. (is_int64 z ≡ true) × IsEnumerated z b) enumeration_lawful (λ z. guard (extensible || has_number numbers z) UnknownEnum (give (enum z))) (λ z f. guard (extensible || has_number numbers z) UnknownEnum (give f))
      (λ z. tested_lawful (extensible || has_number numbers z) UnknownEnum (give (enum z)) (λ y b. (y ≡ enum z) × (b ≡ [])) goes_on (give_lawful (enum z)))
      (λ z f. guard_checked (extensible || has_number numbers z) UnknownEnum (λ y e. f && e) (give (enum z)) (give f) (λ y b. (y ≡ enum z) × (b ≡ [])) (give_also (enum z) f)))
      (λ v b (z, is, p, ((ok, s), t)). ((z, is, ok, p, s), subst (λ v. eqb (length b) (length (plain_octets (enumerated numbers extensible) v)) ≡ true) (sym is) t))
      (λ v b ((z, is, ok, p, s), t). (z, is, p, ((ok, s), subst (λ v. eqb (length b) (length (plain_octets (enumerated numbers extensible) v)) ≡ true) is t))))
    where
      goes_on : UnknownEnum ≡ End → ⊥
      goes_on e = cc

-- object identifiers
no_values : {A B : Type 0} (f : A → B) (o : Outcome A) → then_read (λ y. give true) (then_read (λ x. give (f x)) o) ≡ then_read (λ x. give true) o
unfolding give
no_values f (got x q) = refl
no_values f (refused why rest) = refl

always_checked : {A : Type 0} (r : Reader A) (c : Reader Bool) (S : A → List ℕ → Type 0) → Lawful r S → ((p : Place) → c p ≡ then_read (λ x. give true) (r p)) → Checked flag r c S
unfolding give
always_checked r c S l same = record {
  refuses = λ p why rest e. same p ∙ ap (then_read (λ x. give true)) e;
  tells = λ p x q e. (true, same p ∙ ap (then_read (λ x. give true)) e, λ b i split. (λ f. read_spelt r S l p x q b e split, λ s. refl));
}

-- the first, and then those for which it is known
first_same : (fuel n : ℕ) → ((m : ℕ) (q : Place) → check_subidentifiers fuel m q ≡ then_read (λ xs. give true) (subidentifiers fuel m q)) → (o : Outcome (ℕ × ℕ))
    → then_read (λ x. check_subidentifiers fuel (n - x.1)) o ≡ then_read (λ xs. give true) (then_read (λ x. bind (subidentifiers fuel (n - x.1)) (λ xs. give (x.0 ∷ xs))) o)
unfolding bind
first_same fuel n f (got x q) = f (n - x.1) q ∙ sym (no_values (λ xs. x.0 ∷ xs) (subidentifiers fuel (n - x.1) q))
first_same fuel n f (refused why rest) = refl

choose_same : (t : Bool) (fuel n : ℕ) (p : Place) → ((m : ℕ) (q : Place) → check_subidentifiers fuel m q ≡ then_read (λ xs. give true) (subidentifiers fuel m q))
    → choose t (give true) (bind (subidentifier n) (λ x. check_subidentifiers fuel (n - x.1))) p ≡ then_read (λ xs. give true) (choose t (give []) (bind (subidentifier n) (λ x. bind (subidentifiers fuel (n - x.1)) (λ xs. give (x.0 ∷ xs)))) p)
unfolding give bind
choose_same true fuel n p f = refl
choose_same false fuel n p f = first_same fuel n f (subidentifier n p)

subidentifiers_same : (fuel n : ℕ) (p : Place) → check_subidentifiers fuel n p ≡ then_read (λ xs. give true) (subidentifiers fuel n p)
unfolding check_subidentifiers subidentifiers give
subidentifiers_same zero n p = refl
subidentifiers_same (suc fuel) n p = choose_same (eqb n 0) fuel n p (subidentifiers_same fuel)

contents_same : (n : ℕ) (t : Bool) (p : Place) → guard t ObjectId (check_subidentifiers n n) p ≡ then_read (λ x. give true) (guard t ObjectId (bind (subidentifiers n n) (λ xs. give (arcs_of xs))) p)
unfolding bind refuse
contents_same n true p = subidentifiers_same n n p ∙ sym (no_values arcs_of (subidentifiers n n p))
contents_same n false p = refl

id_checked : Checked flag object_identifier check_object_id (StrictCounted IsObjectId)
unfolding object_identifier check_object_id
id_checked = with_length_checked (λ n. guard (leb 1 n) ObjectId (bind (subidentifiers n n) (λ xs. give (arcs_of xs)))) (λ n. guard (leb 1 n) ObjectId (check_subidentifiers n n)) IsObjectId IsObjectId contents_lawful
    (λ n. always_checked _ _ (λ x b. IsObjectId x b × (length b ≡ n)) (contents_lawful n) (contents_same n (leb 1 n)))

-- a counted content, whose length is as short as it may be
counted_strict : {A : Type 0} (S : A → List ℕ → Type 0) (x : A) (b : List ℕ) → Input b → (l c : List ℕ) → b ≡ l ++ c → IsLength (length c) l → S x c → length b ≡ length (counted c) → StrictCounted S x b
counted_strict S x b i l c e len s same =
    let parts = octets_split l c (subst IsOctets e i.octs) in
    let long : length l ≡ length (length_octets (length c)) = omega (arith, ap length e, length-append l c, length-append (length_octets (length c)) c) in
    (l, c, e, (by_length (IsLength (length c)) (length_octets (length c)) l parts.0 len (len_exists (length c) (len_small (length c) l parts.0 len))).0 (eq-eqb (length l) (length (length_octets (length c))) long), s)

-- contents, as short as they may be
abbrev Shortest : ContentType → List ℕ → List ℕ → Type 0
Shortest kind w b = SpellsContent kind w b × (eqb (length b) (length (string_octets (fixed_content kind) (content_octets kind w))) ≡ true)

character_goes_on : Character ≡ End → ⊥
character_goes_on e = cc

octets_checked : (s : Size) → KeepsLimits (octet_string s) → Checked flag (read_octets (fixed s) s) (check_octet_string (fixed s) s) (Shortest (kind.octet_string s))
unfolding check_octet_string
octets_checked s wf = flag_checked (read_octets (fixed s) s) (judged (is_least (string_octets (fixed s))) (read_octets (fixed s) s)) (Shortest (kind.octet_string s))
    (whether_checked (is_least (string_octets (fixed s))) (read_octets (fixed s) s) (Sized (fixed s) (OfSize s)) (octets_lawful (fixed s) s refl wf))

text_checked : (letters : Alphabet) (s : Size) → KeepsLimits (restricted_string letters s) → Checked flag (read_text (all_characters letters) (fixed s) s) (check_text (all_characters letters) (fixed s) s) (Shortest (kind.restricted_string letters s))
unfolding check_text
text_checked letters s wf = checked_as
    (kept_checked (is_least (string_octets (fixed s))) (λ w. w) (λ w. all_characters letters w ≡ true) (read_octets (fixed s) s) (Sized (fixed s) (OfSize s)) (octets_lawful (fixed s) s refl wf) (λ w. guard (all_characters letters w) Character (give w)) (λ w f. guard (all_characters letters w) Character (give f))
    (λ w. tested_lawful (all_characters letters w) Character (give w) (λ y b. (y ≡ w) × (b ≡ [])) character_goes_on (give_lawful w))
    (λ w f. guard_checked (all_characters letters w) Character (λ y e. f && e) (give w) (give f) (λ y b. (y ≡ w) × (b ≡ [])) (give_also w f)))
    (λ w b (x, is, p, (h, t)). subst (λ w. Shortest (kind.restricted_string letters s) w b) (sym is) (with_test (all_characters letters) (fixed s) s x b (h, p), t))
    (λ w b (h, t). (let k = without_test (all_characters letters) (fixed s) s w b h in (w, refl, k.1, (k.0, t))))

abbrev Fitting : Size → List ℕ → Type 0
Fitting s w = (is_utf8 w ≡ true) × (size_fits s (length (chars w)) ≡ true)

utf8_checked : (s : Size) → KeepsLimits (utf8_string s) → Checked flag (read_utf8 s) (check_utf8 s) (Shortest (kind.utf8_string s))
unfolding check_utf8
utf8_checked s wf = checked_as
    (kept_checked (is_least counted) (λ w. w) (Fitting s) counted_octets (IsCounted IsItself) counted_octets_lawful (λ w. guard (is_utf8 w) Character (guard (size_fits s (length (chars w))) reason.Size (give w))) (λ w f. guard (is_utf8 w) Character (guard (size_fits s (length (chars w))) reason.Size (give f)))
    (λ w. same_spellings (tested_lawful (is_utf8 w) Character _ (λ y b. (size_fits s (length (chars w)) ≡ true) × ((y ≡ w) × (b ≡ []))) character_goes_on (tested_lawful (size_fits s (length (chars w))) reason.Size (give w) (λ y b. (y ≡ w) × (b ≡ [])) size_goes_on (give_lawful w)))
    (λ y b (p, (q, r)). ((p, q), r)) (λ y b ((p, q), r). (p, (q, r))))
    (λ w f. checked_as (guard_checked (is_utf8 w) Character (λ y e. f && e) _ _ (λ y b. (size_fits s (length (chars w)) ≡ true) × ((y ≡ w) × (b ≡ []))) (guard_checked (size_fits s (length (chars w))) reason.Size (λ y e. f && e) (give w) (give f) (λ y b. (y ≡ w) × (b ≡ [])) (give_also w f)))
    (λ y b (p, (q, r)). ((p, q), r)) (λ y b ((p, q), r). (p, (q, r)))))
    (λ w b (x, is, (p, q), (h, t)). subst (λ w. Shortest (kind.utf8_string s) w b) (sym is) (with_characters s x b (p, q, h), t))
    (λ w b (h, t). (let k = without_characters s w b h in (w, refl, (k.0, k.1), (k.2, t))))

id_least : Checked flag object_identifier check_object_id (Shortest kind.object_id)
id_least = checked_where id_checked
    (λ w b i (l, c, e, short, s). ((l, c, e, short.1, s), eq-eqb (length b) (length (counted (object_id_octets w))) (ap length (strict_counted_only IsObjectId w (object_id_octets w) (λ c. oid_only w c) b (l, c, e, short, s)))))
    (λ w b i ((l, c, e, len, s), t). counted_strict IsObjectId w b i l c e len s (eqb-true (length b) (length (counted (object_id_octets w))) t ∙ ap (λ c. length (counted c)) (sym (oid_only w c s))))

words_checked : (kind : ContentType) → KeepsLimits (leaf (leaf_type.content kind)) → Checked flag (read_content kind) (check_content kind) (Shortest kind)
words_checked (kind.octet_string s) wf = octets_checked s wf
words_checked kind.object_id wf = id_least
words_checked (kind.restricted_string letters s) wf = text_checked letters s wf
words_checked (kind.utf8_string s) wf = utf8_checked s wf

pub content_checked : (kind : ContentType) → KeepsLimits (leaf (leaf_type.content kind)) → Checked flag (read_value (leaf (leaf_type.content kind))) (check_content kind) (IsStrictSpelling (leaf (leaf_type.content kind)))
content_checked kind wf = leaf_checked (leaf (leaf_type.content kind)) wf (λ v. refl) (λ v b h. h) (λ v b h. h) (check_content kind) (checked_as
    (made_checked (λ w. leaf_value (content_value kind w)) (λ f. f) (read_content kind) (check_content kind) (SpellsContent kind) (Shortest kind) (content_lawful kind wf) (λ w b h. h.0) (words_checked kind wf))
    (λ v b (w, is, (h, t)). ((w, is, h), ap (λ d. eqb (length b) (length d)) (plain v w is) ∙ t))
    (λ v b ((w, is, h), t). (w, is, (h, ap (λ d. eqb (length b) (length d)) (sym (plain v w is)) ∙ t))))
  where
    plain : (v : AsnValue) (w : List ℕ) → v ≡ leaf_value (content_value kind w) → plain_octets (leaf (leaf_type.content kind)) v ≡ string_octets (fixed_content kind) (content_octets kind w)
    plain v w is = ap (plain_octets (leaf (leaf_type.content kind))) is ∙ holds kind [] (λ w. string_octets (fixed_content kind) (content_octets kind w)) w

-- bits
and_pair : (f g : Bool) → (f && g) ≡ true → (f ≡ true) × (g ≡ true)
and_pair true g e = (refl, e)
and_pair false g e = absurd (cc)

bits_of-append : (b c : List ℕ) → bits_of (b ++ c) ≡ bits_of b ++ bits_of c
bits_of-append [] c = refl
bits_of-append (x ∷ b) c = let h = bits_of-append b c in cc

drop_tail : (f g : List Bool) (u : ℕ) → u ≤ length g → drop (length (f ++ g) - u) (f ++ g) ≡ drop (length g - u) g
drop_tail [] g u l = refl
drop_tail (x ∷ f) g u l = ap (λ k. drop k (x ∷ f ++ g)) (let e : length (x ∷ f ++ g) - u ≡ suc (length (f ++ g) - u) = omega (arith, length-append f g) in e) ∙ drop_tail f g u l

spare_is : (k u : ℕ) → u ≤ 7 → (k ≡ 0 → u ≡ 0) → (spare_bits (8 * k - u) ≡ u) × (octets_for (8 * k - u) ≡ k) × (u ≤ 8 * k)
unfolding octets_for
spare_is zero u l none = let z = none refl in (omega arith, omega arith, omega arith)
spare_is (suc k) u l none = (omega arith, omega arith, omega arith)

-- the unused bits are the last ones
tail_is : (s : List Bool) (m l d : List ℕ) (u : ℕ) → m ≡ l ++ (u ∷ d) → u ≤ 7 → (length d ≡ 0 → u ≡ 0) → length s ≡ length (bits_of d) - u → drop (length (bits_of m) - spare_bits (length s)) (bits_of m) ≡ drop (length (bits_of d) - u) (bits_of d)
tail_is s m l d u e low none many =
    let three = spare_is (length d) u low none in
    let spare : spare_bits (length s) ≡ u = ap spare_bits (let h : length s ≡ 8 * length d - u = omega (arith, length-bits_of d) in h) ∙ three.0 in
    let split : bits_of m ≡ bits_of (l ++ (u ∷ [])) ++ bits_of d = ap bits_of (e ∙ sym (append_assoc l (u ∷ []) d)) ∙ bits_of-append (l ++ (u ∷ [])) d in
    ap (λ k. drop (length (bits_of m) - k) (bits_of m)) spare ∙ ap (λ w. drop (length w - u) w) split ∙ drop_tail (bits_of (l ++ (u ∷ []))) (bits_of d) u (let h = three.2 in omega (arith, length-bits_of d))

taken : (k : ℕ) (s : List Bool) (w : List Bool) → s ≡ take k w → k ≤ length w → length s ≡ k
taken k s w is l = ap length is ∙ length-take-le k w l

-- a counted bit string, by the test
counted_bits : (s : List Bool) (m : List ℕ) → Input m → IsCounted IsBits s m → (are_least_bits bitmap_octets s m ≡ true → StrictCounted StrictBits s m) × (StrictCounted StrictBits s m → are_least_bits bitmap_octets s m ≡ true)
unfolding bitmap_octets
counted_bits s m i (l, c, e, len, (u, d, is, low, none, front)) = (there, back)
  where
    three : (spare_bits (8 * length d - u) ≡ u) × (octets_for (8 * length d - u) ≡ length d) × (u ≤ 8 * length d)
    three = spare_is (length d) u low none

    many : length s ≡ length (bits_of d) - u
    many = taken (length (bits_of d) - u) s (bits_of d) front (omega arith)

    whole : m ≡ l ++ (u ∷ d)
    whole = e ∙ ap (λ c. l ++ c) is

    there : are_least_bits bitmap_octets s m ≡ true → StrictCounted StrictBits s m
    there t =
        let both = and_pair (is_least bitmap_octets s m) (ends_in_zeros s m) t in
        let bits : length s ≡ 8 * length d - u = omega (arith, many, length-bits_of d) in
        let size : length (padded s) ≡ length d = length-padded s ∙ ap octets_for bits ∙ three.1 in
        let content : length (spare_bits (length s) ∷ padded s) ≡ length c = omega (arith, size, ap length is) in
        let same : length m ≡ length (bitmap_octets s) = eqb-true (length m) (length (bitmap_octets s)) both.0 in
        let parts = octets_split l c (subst IsOctets e i.octs) in
        let counts : length (length_octets (length (spare_bits (length s) ∷ padded s))) ≡ length (length_octets (length c)) = ap (λ k. length (length_octets k)) content in
        let long : length m ≡ length (counted c) = omega (arith, same, length-append (length_octets (length (spare_bits (length s) ∷ padded s))) (spare_bits (length s) ∷ padded s), length-append (length_octets (length c)) c, content, counts) in
        let zeros : all_false (drop (length (bits_of d) - u) (bits_of d)) ≡ true = ap all_false (sym (tail_is s m l d u whole low none many)) ∙ both.1 in
        let room = three.2 in
        let unused : length (drop (length (bits_of d) - u) (bits_of d)) ≡ u = omega (arith, length-drop (length (bits_of d) - u) (bits_of d), length-bits_of d, room) in
        counted_strict StrictBits s m i l c e len (parts.1, (u, d, drop (length (bits_of d) - u) (bits_of d), is, low, none, unused, zeros, sym (take-append-drop (length (bits_of d) - u) (bits_of d)) ∙ ap (λ v. v ++ drop (length (bits_of d) - u) (bits_of d)) (sym front))) long

    back : StrictCounted StrictBits s m → are_least_bits bitmap_octets s m ≡ true
    back k = ap₂ (λ a b. a && b) (eq-eqb (length m) (length (bitmap_octets s)) (ap length (bitmap_plain s m k))) (last k)
      where
        last : StrictCounted StrictBits s m → ends_in_zeros s m ≡ true
        last (l', c', e', short', (o', (u', d', pad, is', low', none', n', zeros', halves))) =
            let whole' : m ≡ l' ++ (u' ∷ d') = e' ∙ ap (λ c. l' ++ c) is' in
            let many' : length s ≡ length (bits_of d') - u' = omega (arith, ap length halves, length-append s pad) in
            ap all_false (tail_is s m l' d' u' whole' low' none' many' ∙ ap (λ k. drop k (bits_of d')) (sym many') ∙ ap (drop (length s)) halves ∙ drop_at s pad (length s) refl) ∙ zeros'

-- a bit string of one size, by the test
fixed_bits : (n : ℕ) (s : List Bool) (b : List ℕ) → IsOctets b → length b ≡ octets_for n → s ≡ take n (bits_of b) → (are_least_bits padded s b ≡ true → (length s ≡ n) × (IsOctets b × IsPreamble s b)) × ((length s ≡ n) × (IsOctets b × IsPreamble s b) → are_least_bits padded s b ≡ true)
unfolding octets_for
fixed_bits n s b o l front = (
  λ t. (
      let both = and_pair (is_least padded s b) (ends_in_zeros s b) t in
      (exact, (o, (drop n (bits_of b), l ∙ ap octets_for (sym exact), sym (take-append-drop n (bits_of b)) ∙ ap (λ v. v ++ drop n (bits_of b)) (sym front), ap all_false (sym place) ∙ both.1)))),
  λ (i, (o', (pad, l', halves, zeros))). ap₂ (λ a b. a && b) (eq-eqb (length b) (length (padded s)) (l' ∙ sym (length-padded s))) (ap all_false (place ∙ ap (λ k. drop k (bits_of b)) (sym exact) ∙ ap (drop (length s)) halves ∙ drop_at s pad (length s) refl) ∙ zeros),
)
  where
    exact : length s ≡ n
    exact = taken n s (bits_of b) front (omega (arith, length-bits_of b))

    place : drop (length (bits_of b) - spare_bits (length s)) (bits_of b) ≡ drop n (bits_of b)
    place = ap (λ k. drop k (bits_of b)) (omega (arith, length-bits_of b, exact))

pub bits_by_test : (fix : Option ℕ) (z : Size) (s : List Bool) (b : List ℕ) → Input b → SpellsBits fix z s b → (are_least_bits (bit_octets fix) s b ≡ true → StrictBitString fix z s b) × (StrictBitString fix z s b → are_least_bits (bit_octets fix) s b ≡ true)
bits_by_test (Some n) z s b i (l, front) = fixed_bits n s b i.octs l front
bits_by_test None z s b i (l, c, e, len, (bits, ok)) =
    let both = counted_bits s b i (l, c, e, len, bits) in
    (λ t. (ok, both.0 t), λ h. both.1 h.1)

pub bit_string_checked : (z : Size) → Checked flag (read_value (bit_string z)) (check_bits (fixed z) z) (IsStrictSpelling (bit_string z))
unfolding check_bits
bit_string_checked z = made_checked bit_list (λ f. f) (read_bits (fixed z) z) _ (SpellsBits (fixed z) z) (StrictBitString (fixed z) z) (bits_lawful (fixed z) z) (bit_string_within (fixed z) z)
    (flag_checked (read_bits (fixed z) z) (judged (are_least_bits (bit_octets (fixed z))) (read_bits (fixed z) z)) (StrictBitString (fixed z) z)
    (judged_checked (are_least_bits (bit_octets (fixed z))) (read_bits (fixed z) z) (SpellsBits (fixed z) z) (StrictBitString (fixed z) z) (bits_lawful (fixed z) z) (bits_by_test (fixed z) z)))
