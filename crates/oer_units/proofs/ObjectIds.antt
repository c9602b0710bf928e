-- Object identifiers are read.
use Rattle.std.proofs.Common.{◌≡◌, ℕ, zero, suc, ◌+◌, ◌-◌, ◌*◌, ◌/◌, ◌%◌, ◌^◌, ◌<◌, ◌≤◌, min, ◌&&◌, not, List, [], ◌∷◌, ◌++◌, length, true, false, leb, ltb, eqb, refl, ap, ap₂, sym, ◌∙◌, subst, arith, length-append, le-leb, leb-true, ltb-true, ltb-false, lt-ltb, eq-eqb, eqb-true}
use Rattle.oer_units.specs.Lawful.{Lawful}
use Rattle.oer_units.specs.Reader.{Reader, give, bind, guard}
use Rattle.oer_units.specs.Reading.{octet, subidentifier_after, subidentifier_digits, first_subidentifier, subidentifier, subidentifiers, arcs_of, object_identifier}
use Rattle.oer_units.specs.Spelling.{IsCounted, IsDigits, IsJoined, IsSubidentifier, IsObjectId}
use Rattle.oer_units.specs.declared.fault.Why.TheVariants.{ObjectId, End}
use Rattle.oer_units.proofs.Closure.{Then, give_lawful, refuse_lawful, bind_lawful, bind_lawful_where, same_spellings}
use Rattle.oer_units.proofs.Counted.{every_long}
use Rattle.oer_units.proofs.Lengths.{both_true, true_both, octet_lawful, with_length_lawful}
use Rattle.oer_units.proofs.TagReaders.{next_le, byte, last_digit, further, more_digits, is_false, is_true}
use Rattle.oer_units.proofs.Units.{choose_lawful, guard_lawful, tested_lawful, mapped_lawful}

pub object_goes_on : ObjectId ≡ End → ⊥
object_goes_on e = cc

-- object identifiers
pub SubNumber : ℕ → ℕ → ℕ × ℕ → List ℕ → Type 0
SubNumber k high x w = IsDigits high x.0 w × (x.0 < 2 ^ 128) × (length w ≡ x.1) × (x.1 ≤ k)

pub end_to : (k high x : ℕ) (y : ℕ × ℕ) (w : List ℕ) → x < 128 → high * 128 + x % 128 < 2 ^ 128 → y ≡ (high * 128 + x % 128, 1) → w ≡ [] → SubNumber (suc k) high y (x ∷ w)
unfolding SubNumber
end_to k high x y w low small is none =
    subst (λ v. SubNumber (suc k) high y (x ∷ v)) (sym none) (subst (λ z. SubNumber (suc k) high z (x ∷ [])) (sym is) ((low, omega arith), small, refl, omega arith))

pub end_from : (k high x : ℕ) (y : ℕ × ℕ) (w : List ℕ) → x < 128 → SubNumber (suc k) high y (x ∷ w) → (y ≡ (high * 128 + x % 128, 1)) × (w ≡ [])
unfolding SubNumber
end_from k high x y w low (d, small, long, short) =
    let last = last_digit high x y.0 w low d in
    (ap₂ (λ (a b : ℕ). (a, b)) last.1 (sym long ∙ ap (λ v. suc (length v)) last.0), last.0)

pub on_to : (k high x : ℕ) (y z : ℕ × ℕ) (w : List ℕ) → 128 ≤ x → x ≤ 255 → y ≡ (z.0, suc z.1) → SubNumber k (high * 128 + x % 128) z w → SubNumber (suc k) high y (x ∷ w)
unfolding SubNumber
on_to k high x y z w up fits is (d, small, long, short) =
    subst (λ y. SubNumber (suc k) high y (x ∷ w)) (sym is) (more_digits high x z.0 w up fits d, small, ap suc long, omega arith)

pub on_from : (k high x : ℕ) (y : ℕ × ℕ) (w : List ℕ) → 128 ≤ x → SubNumber (suc k) high y (x ∷ w) → (z : ℕ × ℕ) × (y ≡ (z.0, suc z.1)) × SubNumber k (high * 128 + x % 128) z w
unfolding SubNumber
on_from k high x y w up (d, small, long, short) =
    ((y.0, length w), ap (λ (n : ℕ). (y.0, n)) (sym long), (further high x y.0 w up d, small, refl, omega arith))

pub sub_after_lawful : (k : ℕ) (next : ℕ → Reader (ℕ × ℕ)) (high x : ℕ) → Lawful (next (high * 128 + x % 128)) (SubNumber k (high * 128 + x % 128)) → Lawful (subidentifier_after next high x) (λ y w. SubNumber (suc k) high y (x ∷ w))
unfolding SubNumber
sub_after_lawful k next high x l = guard_lawful (leb x 255 && ltb (high * 128 + x % 128) (2 ^ 128)) ObjectId _ (λ y w. SubNumber (suc k) high y (x ∷ w)) object_goes_on
    (λ t. (let both = both_true (leb x 255) (ltb (high * 128 + x % 128) (2 ^ 128)) t in let fits = leb-true x 255 both.0 in let small = ltb-true (high * 128 + x % 128) (2 ^ 128) both.1 in
    choose_lawful (ltb x 128) _ _ (λ y w. SubNumber (suc k) high y (x ∷ w))
    (λ e. (let low = ltb-true x 128 e in
    same_spellings (give_lawful (high * 128 + x % 128, 1))
    (λ y w (is, none). end_to k high x y w low small is none)
    (λ y w s. end_from k high x y w low s)))
    (λ e. (let up = ltb-false x 128 e in
    same_spellings (mapped_lawful (λ y. (y.0, suc y.1)) (next (high * 128 + x % 128)) (SubNumber k (high * 128 + x % 128)) l)
    (λ y w (z, is, s). on_to k high x y z w up fits is s)
    (λ y w s. on_from k high x y w up s)))))
    (λ n w s. true_both _ _ (le-leb x 255 (byte high x n.0 w s.0)) (lt-ltb (high * 128 + x % 128) (2 ^ 128) (let i = next_le high x n.0 w s.0 in let j = s.1 in omega arith)))

pub no_digits : (high : ℕ) (x : ℕ × ℕ) (w : List ℕ) → SubNumber zero high x w → ⊥
unfolding SubNumber
no_digits high x [] (d, small, long, short) = d
no_digits high x (y ∷ w) (d, small, long, short) = omega arith

pub split_digits : (k high : ℕ) (y : ℕ × ℕ) (b : List ℕ) → SubNumber (suc k) high y b → Then (λ x b. b ≡ x ∷ []) (λ x y w. SubNumber (suc k) high y (x ∷ w)) y b
unfolding SubNumber
split_digits k high y [] s = absurd s.0
split_digits k high y (x ∷ w) s = (x, x ∷ [], w, refl, s, refl)

pub sub_digits_lawful : (k high : ℕ) → Lawful (subidentifier_digits k high) (SubNumber k high)
unfolding subidentifier_digits
sub_digits_lawful zero high = refuse_lawful ObjectId (SubNumber zero high) object_goes_on (no_digits high)
sub_digits_lawful (suc k) high = same_spellings
    (bind_lawful octet (subidentifier_after (subidentifier_digits k) high) (λ x b. b ≡ x ∷ []) (λ x y w. SubNumber (suc k) high y (x ∷ w)) octet_lawful
    (λ x. sub_after_lawful k (subidentifier_digits k) high x (sub_digits_lawful k (high * 128 + x % 128))))
    (λ y b (x, b1, w, e, s, f). subst (λ v. SubNumber (suc k) high y v) (sym (f ∙ ap (λ v. v ++ w) e)) s)
    (split_digits k high)

-- a subidentifier of at most k octets, with their number
unfoldable pub Sub : ℕ → ℕ × ℕ → List ℕ → Type 0
Sub k x w = IsSubidentifier x.0 w × (length w ≡ x.1) × (x.1 ≤ k)

pub no_sub : (x : ℕ × ℕ) (w : List ℕ) → Sub zero x w → ⊥
unfolding Sub
no_sub x [] (d, long, short) = d.0
no_sub x (y ∷ w) (d, long, short) = omega arith

-- after the first octet of a subidentifier
pub SubAfter : ℕ → ℕ → ℕ × ℕ → List ℕ → Type 0
SubAfter k x y w = (not (eqb x 128) ≡ true) × SubNumber (suc k) 0 y (x ∷ w)

pub split_sub : (k : ℕ) (y : ℕ × ℕ) (b : List ℕ) → Sub (suc k) y b → Then (λ x b. b ≡ x ∷ []) (SubAfter k) y b
unfolding Sub SubAfter SubNumber
split_sub k y [] s = absurd s.0.0
split_sub k y (x ∷ w) ((d, small), long, short) = (x, x ∷ [], w, refl, (is_true x 128 d.0, (d.1, small, long, short)), refl)

pub join_sub : (k : ℕ) (y : ℕ × ℕ) (b : List ℕ) (x : ℕ) (w : List ℕ) → b ≡ x ∷ w → SubAfter k x y w → Sub (suc k) y b
unfolding Sub SubAfter SubNumber
join_sub k y b x w e (t, (d, small, long, short)) = subst (λ v. Sub (suc k) y v) (sym e) (((is_false x 128 t, d), small), long, short)

pub sub_rest_lawful : (k x : ℕ) → Lawful (guard (not (eqb x 128)) ObjectId (subidentifier_after (subidentifier_digits k) 0 x)) (SubAfter k x)
unfolding SubAfter
sub_rest_lawful k x = tested_lawful (not (eqb x 128)) ObjectId (subidentifier_after (subidentifier_digits k) 0 x) (λ y w. SubNumber (suc k) 0 y (x ∷ w)) object_goes_on
    (sub_after_lawful k (subidentifier_digits k) 0 x (sub_digits_lawful k (0 * 128 + x % 128)))

pub sub_first_lawful : (k : ℕ) → Lawful (first_subidentifier k) (Sub k)
sub_first_lawful zero = refuse_lawful ObjectId (Sub zero) object_goes_on no_sub
sub_first_lawful (suc k) = same_spellings
    (bind_lawful octet (λ x. guard (not (eqb x 128)) ObjectId (subidentifier_after (subidentifier_digits k) 0 x)) (λ x b. b ≡ x ∷ []) (SubAfter k) octet_lawful (sub_rest_lawful k))
    (λ y b (x, b1, w, e, s, f). join_sub k y b x w (f ∙ ap (λ v. v ++ w) e) s)
    (split_sub k)

pub subidentifier_lawful : (k : ℕ) → Lawful (subidentifier k) (Sub k)
unfolding subidentifier
subidentifier_lawful k = sub_first_lawful k

pub sub_some : (n : ℕ) (w : List ℕ) → IsSubidentifier n w → 1 ≤ length w
sub_some n [] s = absurd s.0
sub_some n (x ∷ w) s = omega arith

abbrev pub Subs : ℕ → List ℕ → List ℕ → Type 0
Subs n xs c = IsJoined IsSubidentifier xs c × (length c ≡ n)

pub no_more : (n : ℕ) (xs c : List ℕ) → n ≡ 0 → Subs n xs c → (xs ≡ []) × (c ≡ [])
no_more n [] c none (s, l) = (refl, s)
no_more n (x ∷ xs) c none (s, l) = absurd (omega (arith, every_long IsSubidentifier sub_some (x ∷ xs) c s))

pub done_lawful : (n : ℕ) → n ≡ 0 → Lawful (give []) (Subs n)
done_lawful n none = same_spellings (give_lawful [])
    (λ xs c (e, f). subst (λ xs. Subs n xs c) (sym e) (f, ap length f ∙ sym none))
    (λ xs c s. no_more n xs c none s)

pub more_subs : (fuel n : ℕ) (xs c : List ℕ) → (n ≡ 0 → ⊥) → Subs n xs c → Then (Sub n) (λ x ys b. (zs : List ℕ) × (ys ≡ x.0 ∷ zs) × Subs (n - x.1) zs b) xs c
unfolding Sub
more_subs fuel n [] c some (s, l) = absurd (some (sym l ∙ ap length s))
more_subs fuel n (x ∷ xs) c some ((b1, b2, e, s, rest), l) =
    let whole : length b1 + length b2 ≡ n = omega (arith, length-append b1 b2, ap length e) in
    ((x, length b1), b1, b2, (s, refl, omega arith), (xs, refl, (rest, omega arith)), e)

pub first_sub : (n : ℕ) (x : ℕ × ℕ) (zs xs b1 b2 c : List ℕ) → Sub n x b1 → xs ≡ x.0 ∷ zs → Subs (n - x.1) zs b2 → c ≡ b1 ++ b2 → Subs n xs c
unfolding Sub
first_sub n x zs xs b1 b2 c (s, long, short) is (rest, l) e = subst (λ xs. Subs n xs c) (sym is) ((b1, b2, e, s, rest), omega (arith, length-append b1 b2, ap length e))

pub short_rest : (fuel n : ℕ) (x : ℕ × ℕ) (b : List ℕ) → n ≤ suc fuel → Sub n x b → n - x.1 ≤ fuel
unfolding Sub
short_rest fuel n x b l (s, long, short) = omega (arith, sub_some x.0 b s)

pub subidentifiers_lawful : (fuel n : ℕ) → n ≤ fuel → Lawful (subidentifiers fuel n) (Subs n)
unfolding subidentifiers
subidentifiers_lawful zero n l = done_lawful n (omega arith)
subidentifiers_lawful (suc fuel) n l = choose_lawful (eqb n 0) _ _ (Subs n)
    (λ e. done_lawful n (eqb-true n 0 e))
    (λ e. same_spellings
    (bind_lawful_where (subidentifier n) (λ x. bind (subidentifiers fuel (n - x.1)) (λ xs. give (x.0 ∷ xs))) (Sub n) (λ x ys b. (zs : List ℕ) × (ys ≡ x.0 ∷ zs) × Subs (n - x.1) zs b) (subidentifier_lawful n)
    (λ x b s. mapped_lawful (λ xs. x.0 ∷ xs) (subidentifiers fuel (n - x.1)) (Subs (n - x.1)) (subidentifiers_lawful fuel (n - x.1) (short_rest fuel n x b l s))))
    (λ xs c (x, b1, b2, s, (zs, is, rest), f). first_sub n x zs xs b1 b2 c s is rest f)
    (λ xs c s. more_subs fuel n xs c (not_zero n e) s))
  where
    not_zero : (n : ℕ) → eqb n 0 ≡ false → n ≡ 0 → ⊥
    not_zero n e z = let t = eq-eqb n 0 z in absurd (cc)

pub first_arc : (a b : ℕ) → a ≤ 2 → (a < 2 → b < 40) → a ≡ min 2 ((40 * a + b) / 40)
first_arc zero b low below = let h : b < 40 = below (omega arith) in omega arith
first_arc (suc zero) b low below = let h : b < 40 = below (omega arith) in omega arith
first_arc (suc (suc a)) b low below = omega arith

pub second_arc : (a b : ℕ) → a ≤ 2 → (a < 2 → b < 40) → b ≡ 40 * a + b - 40 * min 2 ((40 * a + b) / 40)
second_arc zero b low below = let h : b < 40 = below (omega arith) in omega arith
second_arc (suc zero) b low below = let h : b < 40 = below (omega arith) in omega arith
second_arc (suc (suc a)) b low below = omega arith

-- the contents of n octets
pub contents_lawful : (n : ℕ) → Lawful (guard (leb 1 n) ObjectId (bind (subidentifiers n n) (λ xs. give (arcs_of xs)))) (λ arcs c. IsObjectId arcs c × (length c ≡ n))
contents_lawful n = same_spellings (tested_lawful (leb 1 n) ObjectId _ (λ arcs c. (xs : List ℕ) × (arcs ≡ arcs_of xs) × (IsJoined IsSubidentifier xs c × (length c ≡ n))) object_goes_on
    (mapped_lawful arcs_of (subidentifiers n n) (λ xs c. IsJoined IsSubidentifier xs c × (length c ≡ n)) (subidentifiers_lawful n n (omega arith))))
    (λ arcs c (t, (xs, is, (s, l))). (to_form n arcs c xs (leb-true 1 n t) is s l, l))
    (λ arcs c ((a, b, rest, is, low, below, s), l). (le-leb 1 n (let i : suc (length rest) ≤ length c = every_long IsSubidentifier sub_some ((40 * a + b) ∷ rest) c s in omega arith), ((40 * a + b) ∷ rest, is ∙ ap₂ (λ x y. x ∷ y ∷ rest) (first_arc a b low below) (second_arc a b low below), (s, l))))
  where
    to_form : (n : ℕ) (arcs c xs : List ℕ) → 1 ≤ n → arcs ≡ arcs_of xs → IsJoined IsSubidentifier xs c → length c ≡ n → IsObjectId arcs c
    to_form n arcs c [] some is s l = absurd (omega (arith, ap length s))
    to_form n arcs c (x ∷ xs) some is s l = (min 2 (x / 40), x - 40 * min 2 (x / 40), xs, is, omega arith, (λ less. omega arith), subst (λ y. IsJoined IsSubidentifier (y ∷ xs) c) (omega arith) s)

pub object_identifier_lawful : Lawful object_identifier (IsCounted IsObjectId)
unfolding object_identifier
object_identifier_lawful = with_length_lawful _ IsObjectId contents_lawful
