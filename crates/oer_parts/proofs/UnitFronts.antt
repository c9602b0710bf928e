-- Units of an encoding: what is read of one is a front, which spells what was read.
use Rattle.std.proofs.Common.{◌≡◌, ℕ, ◌+◌, ◌≤◌, ◌^◌, Bool, true, false, leb, ltb, List, ◌++◌, length, drop, refl, sym, ap, ◌∙◌, subst}
use Rattle.oer_units.specs.Least.{length_octets}
use Rattle.oer_units.specs.Numbers.{unsigned}
use Rattle.oer_units.specs.Reader.{Outcome, Place, Reader, bind, bounded, give, got, guard, refuse, refused, then_read, within}
use Rattle.oer_units.specs.Reading.{determinant}
use Rattle.oer_units.specs.Spelling.{IsCounted, IsLength}
use Rattle.oer_units.specs.declared.fault.Why.{Why}
use Rattle.oer_units.specs.declared.fault.Why.TheVariants as reason
use Rattle.oer_units.specs.declared.fault.Why.TheVariants.{UnknownAddition}
use Rattle.oer_units.proofs.Closure.{got_place, got_value}
use Rattle.oer_units.proofs.Lengths.{determinant_lawful}
use Rattle.oer_model.specs.AsnType.{AsnType}
use Rattle.oer_model.specs.AsnValue.{AsnValue}
use Rattle.oer_model.specs.Bits.{all_false}
use Rattle.oer_model.specs.Checking.{check_value, is_bitmap, is_least, judge, judged, quantity_octets}
use Rattle.oer_model.specs.Constraints.{KeepsLimits, size_fits}
use Rattle.oer_model.specs.Encoding.{IsSpelling, SpellsBitmap}
use Rattle.oer_model.specs.Fits.{DefaultsFit}
use Rattle.oer_model.specs.Reading.{bitmap, quantity, read_value}
use Rattle.oer_model.specs.declared.size.Size.{Size}
use Rattle.oer_model.proofs.checking.CheckedParts.{value_checked}
use Rattle.oer_model.proofs.reading.Main.{value_lawful}
use Rattle.oer_model.proofs.reading.Parts.{bitmap_lawful, quantity_lawful}
use Rattle.oer_checker.specs.Steps.{addition_map, sized_length, sized_quantity}

-- the octets from p to q spell x
abbrev pub Spelt : (List ℕ → Type 0) → Place → Place → Type 0
Spelt S p q = (b : List ℕ) × S b × (p.input ≡ b ++ q.input) × (p.left ≡ length b + q.left)

abbrev pub Sound : {A : Type 0} → Reader A → (A → List ℕ → Type 0) → Type 0
Sound {A} r S = (p : Place) (x : A) (q : Place) → r p ≡ got x q → Spelt (S x) p q

judged_sound : {A : Type 0} (test : A → List ℕ → Bool) (r : Reader A) (S : A → List ℕ → Type 0) → Sound r S → Sound (judged test r) (λ y b. S y.0 b)
unfolding judged
judged_sound {A} test r S f p y q e0 = cases (r p) refl e0 where
  cases : (o : Outcome A) → r p ≡ o → judge test p o ≡ got y q → Spelt (S y.0) p q
  cases (got x s) is e =
      let here : s ≡ q = got_place _ y s q e in
      let same : x ≡ y.0 = ap (λ (z : A × Bool). z.0) (got_value _ y s q e) in
      subst (λ (t : Place). Spelt (S y.0) p t) here (subst (λ (z : A). Spelt (S z) p s) same (f p x s is))
  cases (refused why rest) is e = absurd (cc)

-- what takes nothing, and answers what it was given, of which P holds
abbrev Keeps : {A : Type 0} → (A → Reader A) → (A → Type 0) → Type 0
Keeps {A} k P = (x : A) (p : Place) (y : A) (q : Place) → k x p ≡ got y q → (x ≡ y) × (p ≡ q) × P y

kept_sound : {A : Type 0} (r : Reader A) (k : A → Reader A) (S : A → List ℕ → Type 0) (P : A → Type 0) → Sound r S → Keeps k P → Sound (bind r k) (λ y b. S y b × P y)
unfolding bind
kept_sound {A} r k S P f g p y q e0 = cases (r p) refl e0 where
  cases : (o : Outcome A) → r p ≡ o → then_read k o ≡ got y q → Spelt (λ b. S y b × P y) p q
  cases (got x s) is e =
      let h = g x s y q e in
      let a = subst (λ (t : Place). Spelt (S y) p t) h.1 (subst (λ (z : A). Spelt (S z) p s) h.0 (f p x s is)) in
      (a.0, (a.1, h.2), a.2, a.3)
  cases (refused why rest) is e = absurd (cc)

give_keeps : {A : Type 0} (x : A) (p : Place) (y : A) (q : Place) → give x p ≡ got y q → (x ≡ y) × (p ≡ q)
unfolding give
give_keeps x p y q e = (got_value x y p q e, got_place x y p q e)

within_keeps : {A : Type 0} (n : A → ℕ) (x : A) (p : Place) (y : A) (q : Place) → within (n x) (give x) p ≡ got y q → (x ≡ y) × (p ≡ q)
unfolding within
within_keeps {A} n x p y q e0 = cases (leb (n x) p.left) e0 where
  cases : (b : Bool) → bounded b (give x) p ≡ got y q → (x ≡ y) × (p ≡ q)
  cases true e = give_keeps x p y q e
  cases false e = absurd (cc)

guard_keeps : {A : Type 0} (t : Bool) (why : Why) (x : A) (p : Place) (y : A) (q : Place) → guard t why (give x) p ≡ got y q → (x ≡ y) × (p ≡ q) × (t ≡ true)
unfolding refuse
guard_keeps true why x p y q e = let h = give_keeps x p y q e in (h.0, h.1, refl)
guard_keeps false why x p y q e = absurd (cc)

-- ---- the units

pub length_sound : Sound sized_length (λ y b. IsLength y.0 b × Unit {0})
unfolding sized_length
length_sound = kept_sound (judged (is_least length_octets) determinant) (λ y. within y.0 (give y)) (λ y b. IsLength y.0 b) (λ y. Unit {0}) (judged_sound (is_least length_octets) determinant IsLength determinant_lawful.sound)
    (λ y p z q e. (let h = within_keeps (λ (w : ℕ × Bool). w.0) y p z q e in (h.0, h.1, tt)))

abbrev IsNumber : ℕ → List ℕ → Type 0
IsNumber n w = (1 ≤ length w) × (unsigned w ≡ n) × (ltb n (2 ^ 127) ≡ true)

sized_keeps : (s : Size) (y : ℕ × Bool) (p : Place) (z : ℕ × Bool) (q : Place) → within y.0 (guard (size_fits s y.0) reason.Size (give y)) p ≡ got z q → (y ≡ z) × (p ≡ q) × (size_fits s z.0 ≡ true)
unfolding within
sized_keeps s y p z q e0 = cases (leb y.0 p.left) e0 where
  cases : (b : Bool) → bounded b (guard (size_fits s y.0) reason.Size (give y)) p ≡ got z q → (y ≡ z) × (p ≡ q) × (size_fits s z.0 ≡ true)
  cases true e = let h = guard_keeps (size_fits s y.0) reason.Size y p z q e in (h.0, h.1, ap (λ (w : ℕ × Bool). size_fits s w.0) (sym h.0) ∙ h.2)
  cases false e = absurd (cc)

pub quantity_sound : (s : Size) → Sound (sized_quantity s) (λ y b. IsCounted IsNumber y.0 b × (size_fits s y.0 ≡ true))
unfolding sized_quantity
quantity_sound s = kept_sound (judged (is_least quantity_octets) quantity) (λ y. within y.0 (guard (size_fits s y.0) reason.Size (give y))) (λ y b. IsCounted IsNumber y.0 b) (λ y. size_fits s y.0 ≡ true) (judged_sound (is_least quantity_octets) quantity (IsCounted IsNumber) quantity_lawful.sound) (sized_keeps s)

pub map_sound : (n : ℕ) → Sound (addition_map n) (λ y b. SpellsBitmap y.0 b × (all_false (drop 65536 y.0) ≡ true))
unfolding addition_map
map_sound n = kept_sound (judged (is_bitmap n) bitmap) (λ y. guard (all_false (drop 65536 y.0)) UnknownAddition (give y)) (λ y b. SpellsBitmap y.0 b) (λ y. all_false (drop 65536 y.0) ≡ true) (judged_sound (is_bitmap n) bitmap SpellsBitmap bitmap_lawful.sound)
    (λ y p z q e. (let h = guard_keeps (all_false (drop 65536 y.0)) UnknownAddition y p z q e in (h.0, h.1, ap (λ (w : List Bool × Bool). all_false (drop 65536 w.0)) (sym h.0) ∙ h.2)))

pub value_sound : (T : AsnType) → KeepsLimits T → DefaultsFit T → Sound (check_value T) (λ f b. (v : AsnValue) × IsSpelling T v b)
value_sound T wf d p f q e = cases (read_value T p) refl where
  cases : (o : Outcome AsnValue) → read_value T p ≡ o → Spelt (λ b. (v : AsnValue) × IsSpelling T v b) p q
  cases (got v s) is =
      let a = (value_lawful T wf).sound p v s is in
      let t = (value_checked T wf d).tells p v s is in
      let here : s ≡ q = got_place t.0 f s q (sym t.1 ∙ e) in
      subst (λ (r : Place). Spelt (λ b. (v : AsnValue) × IsSpelling T v b) p r) here (a.0, (v, a.1), a.2, a.3)
  cases (refused why rest) is = let same : refused why rest ≡ got f q = sym ((value_checked T wf d).refuses p why rest is) ∙ e in absurd (cc)
