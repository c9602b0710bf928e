-- Tests of equality decide it.
use Rattle.std.proofs.Common.{◌≡◌, ◌↔◌, ℕ, ℤ, pos, negsuc, Bool, true, false, IsTrue, ◌&&◌, eqb, Option, Some, None, refl, sym, ap, ap₂, subst, eqb-true, eq-eqb}
use Rattle.std.proofs.lemmas.Bool.{false≢true}
use Rattle.oer_model.proofs.filling.Same.{same-refl, same-true, same_list-refl, same_list-true}
use Rattle.oer_model.specs.AsnType.{Alphabet, NamedNumber, Need, default, ia5, may, must, numeric, printable, visible}
use Rattle.oer_model.specs.AsnValue.{AsnValue}
use Rattle.oer_model.specs.Canonical.{same, same_bool, same_int, same_list}
use Rattle.oer_model.specs.declared.size.Size.{Size}
use Rattle.oer_compare.specs.Difference.{same_alphabet, same_bound, same_end, same_item, same_need, same_size}

-- two answers that are true of the same
same_answer : (a b : Bool) → (a ≡ true → b ≡ true) → (b ≡ true → a ≡ true) → a ≡ b
same_answer true b f g = sym (f refl)
same_answer false true f g = g refl
same_answer false false f g = refl

pub is_same : (a : Bool) (v w : AsnValue) → IsTrue a ↔ (v ≡ w) → a ≡ same v w
is_same a v w (to, from) = same_answer a (same v w) (λ e. subst (λ x. same v x ≡ true) (to e) (same-refl v)) (λ e. from (same-true v w e))

pub and_parts : (a b : Bool) → (a && b) ≡ true → (a ≡ true) × (b ≡ true)
and_parts true b e = (refl, e)
and_parts false b e = absurd (false≢true e)

pub and_both : (a b : Bool) → a ≡ true → b ≡ true → (a && b) ≡ true
and_both true b p q = q
and_both false b p q = p

pub same_bool-true : (a b : Bool) → same_bool a b ≡ true → a ≡ b
same_bool-true true b e = sym e
same_bool-true false true e = absurd (false≢true e)
same_bool-true false false e = refl

pub same_bool-refl : (a : Bool) → same_bool a a ≡ true
same_bool-refl true = refl
same_bool-refl false = refl

pub same_int-true : (x y : ℤ) → same_int x y ≡ true → x ≡ y
same_int-true (pos n) (pos m) e = ap pos (eqb-true n m e)
same_int-true (negsuc n) (negsuc m) e = ap negsuc (eqb-true n m e)
same_int-true (pos n) (negsuc m) e = absurd (false≢true e)
same_int-true (negsuc n) (pos m) e = absurd (false≢true e)

pub same_int-refl : (x : ℤ) → same_int x x ≡ true
same_int-refl (pos n) = eq-eqb n n refl
same_int-refl (negsuc n) = eq-eqb n n refl

pub same_end-true : (x y : Option ℕ) → same_end x y ≡ true → x ≡ y
same_end-true None None e = refl
same_end-true (Some n) (Some m) e = ap Some (eqb-true n m e)
same_end-true None (Some m) e = absurd (false≢true e)
same_end-true (Some n) None e = absurd (false≢true e)

pub same_end-refl : (x : Option ℕ) → same_end x x ≡ true
same_end-refl None = refl
same_end-refl (Some n) = eq-eqb n n refl

pub same_bound-true : (x y : Option ℤ) → same_bound x y ≡ true → x ≡ y
same_bound-true None None e = refl
same_bound-true (Some n) (Some m) e = ap Some (same_int-true n m e)
same_bound-true None (Some m) e = absurd (false≢true e)
same_bound-true (Some n) None e = absurd (false≢true e)

pub same_bound-refl : (x : Option ℤ) → same_bound x x ≡ true
same_bound-refl None = refl
same_bound-refl (Some n) = same_int-refl n

pub same_size-true : (s t : Size) → same_size s t ≡ true → s ≡ t
same_size-true s t e =
    let p = and_parts (eqb s.low t.low) (same_end s.high t.high) e in
    let low = eqb-true s.low t.low p.0 in
    let high = same_end-true s.high t.high p.1 in
    ap₂ (λ l h. record { low = l; high = h }) low high

pub same_size-refl : (s : Size) → same_size s s ≡ true
same_size-refl s = and_both (eqb s.low s.low) (same_end s.high s.high) (eq-eqb s.low s.low refl) (same_end-refl s.high)

pub same_item-true : (x y : NamedNumber) → same_item x y ≡ true → x ≡ y
same_item-true x y e =
    let p = and_parts (same_list x.name y.name) (same_int x.number y.number) e in
    let name = same_list-true x.name y.name p.0 in
    let number = same_int-true x.number y.number p.1 in
    ap₂ (λ n i. record { name = n; number = i }) name number

pub same_item-refl : (x : NamedNumber) → same_item x x ≡ true
same_item-refl x = and_both (same_list x.name x.name) (same_int x.number x.number) (same_list-refl x.name) (same_int-refl x.number)

pub same_need-true : (x y : Need) → same_need x y ≡ true → x ≡ y
same_need-true must must e = refl
same_need-true may may e = refl
same_need-true (default v) (default w) e = ap default (same-true v w e)
same_need-true must may e = absurd (false≢true e)
same_need-true must (default w) e = absurd (false≢true e)
same_need-true may must e = absurd (false≢true e)
same_need-true may (default w) e = absurd (false≢true e)
same_need-true (default v) must e = absurd (false≢true e)
same_need-true (default v) may e = absurd (false≢true e)

pub same_need-refl : (x : Need) → same_need x x ≡ true
same_need-refl must = refl
same_need-refl may = refl
same_need-refl (default v) = same-refl v

pub same_alphabet-true : (x y : Alphabet) → same_alphabet x y ≡ true → x ≡ y
same_alphabet-true ia5 ia5 e = refl
same_alphabet-true visible visible e = refl
same_alphabet-true numeric numeric e = refl
same_alphabet-true printable printable e = refl
same_alphabet-true ia5 visible e = absurd (false≢true e)
same_alphabet-true ia5 numeric e = absurd (false≢true e)
same_alphabet-true ia5 printable e = absurd (false≢true e)
same_alphabet-true visible ia5 e = absurd (false≢true e)
same_alphabet-true visible numeric e = absurd (false≢true e)
same_alphabet-true visible printable e = absurd (false≢true e)
same_alphabet-true numeric ia5 e = absurd (false≢true e)
same_alphabet-true numeric visible e = absurd (false≢true e)
same_alphabet-true numeric printable e = absurd (false≢true e)
same_alphabet-true printable ia5 e = absurd (false≢true e)
same_alphabet-true printable visible e = absurd (false≢true e)
same_alphabet-true printable numeric e = absurd (false≢true e)

pub same_alphabet-refl : (x : Alphabet) → same_alphabet x x ≡ true
same_alphabet-refl ia5 = refl
same_alphabet-refl visible = refl
same_alphabet-refl numeric = refl
same_alphabet-refl printable = refl
