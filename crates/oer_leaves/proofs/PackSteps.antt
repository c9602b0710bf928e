-- Bits that are taken one after another.
use Rattle.std.proofs.Common.{◌≡◌, ℕ, ◌+◌, List, [], ◌∷◌, ◌++◌, length, Bool, Option, Result, Ok, Err, arith, refl, sym, ap, ◌∙◌, append_assoc, append-nil, suc, ◌*◌, replicate, false, subst}
use Rattle.std.specs.Result.{IsErrAnd}
use Rattle.std.proofs.lemmas.Result.{err_from_is_err_and}
use Rattle.oer_units.specs.declared.fault.SinkFault.{SinkFault}
use Rattle.oer_leaves.specs.declared.packer.Packer.{Packer}
use Rattle.oer_leaves.specs.Packing.{packed_from, pending, IsReady, Packs}
use Rattle.oer_model.specs.Bits.{bit_value, packed, padded, spare_bits}
use Rattle.oer_leaves.specs.Wrote.{Wrote, Ahead}
use Rattle.oer_leaves.proofs.Steps.{ahead_start, ahead_then, ahead_stopped, ahead_last}

-- Through a loop: of the bits all but the rest were taken.
pub record Through (start : ℕ) (bits : List Bool) (p₀ : Packer) (old : Option (List ℕ)) (f : ℕ) (done : ℕ) (now : Option (List ℕ)) (f' : ℕ) (p : Packer) (rest : List Bool) : Type 0 where
  pub ready : IsReady p
  pub ahead : (t : List Bool) → Ahead start (pending p₀ (bits ++ t)) old f done now f' (pending p (rest ++ t))

pub through_start : (start : ℕ) (bits rest : List Bool) (p : Packer) (old : Option (List ℕ)) (f : ℕ) → IsReady p → bits ≡ rest → Through start bits p old f start old f p rest
through_start start bits rest p old f ready e = record { ready = ready; ahead = λ t. ahead_start start (pending p (bits ++ t)) (pending p (rest ++ t)) old f (ap (λ (s : List Bool). pending p (s ++ t)) e) }

split : (p : Packer) (part a rest t : List Bool) → part ≡ a ++ rest → pending p (part ++ t) ≡ pending p (a ++ (rest ++ t))
split p part a rest t e = ap (λ (s : List Bool). pending p (s ++ t)) e ∙ ap (λ (s : List Bool). pending p s) (append_assoc a rest t)

pub through_more : (start mid n : ℕ) (bits part a rest : List Bool) (p₀ p q : Packer) (old now new : Option (List ℕ)) (f f' f'' : ℕ) → Through start bits p₀ old f mid now f' p part → part ≡ a ++ rest → Packs a p q mid now f' (Ok n) new f'' → Through start bits p₀ old f n new f'' q rest
through_more start mid n bits part a rest p₀ p q old now new f f' f'' h e step = record {
  ready = (step []).0;
  ahead = λ t. ahead_then start mid n (pending p₀ (bits ++ t)) (pending p (a ++ (rest ++ t))) (pending q (rest ++ t)) old now new f f' f'' (subst (λ (l : List ℕ). Ahead start (pending p₀ (bits ++ t)) old f mid now f' l) (split p part a rest t e) (h.ahead t)) (step (rest ++ t)).1;
}

pub through_failed : (r : Result ℕ SinkFault) (e : SinkFault) (start mid : ℕ) (bits part a rest : List Bool) (p₀ p q q' : Packer) (old now new : Option (List ℕ)) (f f' f'' : ℕ) → Through start bits p₀ old f mid now f' p part → part ≡ a ++ rest → IsErrAnd r (λ y. y ≡ e) → Packs a p q mid now f' (Err e) new f'' → Packs bits p₀ q' start old f r new f''
through_failed r e start mid bits part a rest p₀ p q q' old now new f f' f'' h is exit step =
    let k = err_from_is_err_and r exit in
    subst (λ x. Packs bits p₀ q' start old f x new f'') (sym (k.1 ∙ ap (λ (y : SinkFault). Err y) k.2))
    (λ t. ahead_stopped e start mid (pending p₀ (bits ++ t)) (pending p (a ++ (rest ++ t))) old now new f f' f'' (subst (λ (l : List ℕ). Ahead start (pending p₀ (bits ++ t)) old f mid now f' l) (split p part a rest t is) (h.ahead t)) (step (rest ++ t)))

pub through_done : (start n : ℕ) (bits rest : List Bool) (p₀ p : Packer) (old now : Option (List ℕ)) (f f' : ℕ) → Through start bits p₀ old f n now f' p rest → rest ≡ [] → Packs bits p₀ p start old f (Ok n) now f'
through_done start n bits rest p₀ p old now f f' h e = λ t. (h.ready, subst (λ (s : List Bool). Ahead start (pending p₀ (bits ++ t)) old f n now f' (pending p (s ++ t))) e (h.ahead t))

pub through_last : (r : Result ℕ SinkFault) (start mid : ℕ) (bits part : List Bool) (p₀ p q : Packer) (old now new : Option (List ℕ)) (f f' f'' : ℕ) → Through start bits p₀ old f mid now f' p part → Packs part p q mid now f' r new f'' → Packs bits p₀ q start old f r new f''
through_last (Ok n) start mid bits part p₀ p q old now new f f' f'' h step = λ t. ((step t).0, ahead_then start mid n (pending p₀ (bits ++ t)) (pending p (part ++ t)) (pending q t) old now new f f' f'' (h.ahead t) (step t).1)
through_last (Err e) start mid bits part p₀ p q old now new f f' f'' h step = λ t. ahead_stopped e start mid (pending p₀ (bits ++ t)) (pending p (part ++ t)) old now new f f' f'' (h.ahead t) (step t)

pub through_same : (start mid : ℕ) (bits part part' : List Bool) (p₀ p : Packer) (old now : Option (List ℕ)) (f f' : ℕ) → part ≡ part' → Through start bits p₀ old f mid now f' p part → Through start bits p₀ old f mid now f' p part'
through_same start mid bits part part' p₀ p old now f f' e h = subst (λ s. Through start bits p₀ old f mid now f' p s) e h

-- the last octets
pub through_finish : (r : Result ℕ SinkFault) (start mid : ℕ) (bits : List Bool) (p₀ p : Packer) (whole : List ℕ) (old now new : Option (List ℕ)) (f f' f'' : ℕ) → whole ≡ pending p₀ bits → Through start bits p₀ old f mid now f' p [] → Wrote mid (pending p []) now f' r new f'' → Wrote start whole old f r new f''
through_finish r start mid bits p₀ p whole old now new f f' f'' is h last =
    ahead_last r start mid whole (pending p []) old now new f f' f'' (subst (λ l. Ahead start l old f mid now f' (pending p [])) (ap (pending p₀) (append-nil bits) ∙ sym is) (h.ahead [])) last

pub through_stopped : (r : Result ℕ SinkFault) (e : SinkFault) (start mid : ℕ) (bits part a rest : List Bool) (p₀ p q : Packer) (whole : List ℕ) (old now new : Option (List ℕ)) (f f' f'' : ℕ) → whole ≡ pending p₀ bits → Through start bits p₀ old f mid now f' p part → part ≡ a ++ rest → IsErrAnd r (λ y. y ≡ e) → Packs a p q mid now f' (Err e) new f'' → Wrote start whole old f r new f''
through_stopped r e start mid bits part a rest p₀ p q whole old now new f f' f'' is h split_is exit step =
    let k = err_from_is_err_and r exit in
    let t : List Bool = rest in
    let ahead : Ahead start whole old f mid now f' (pending p (part ++ [])) = subst (λ l. Ahead start l old f mid now f' (pending p (part ++ []))) (ap (pending p₀) (append-nil bits) ∙ sym is) (h.ahead []) in
    let ahead' : Ahead start whole old f mid now f' (pending p (a ++ rest)) = subst (λ (s : List Bool). Ahead start whole old f mid now f' (pending p s)) (append-nil part ∙ split_is) ahead in
    subst (λ x. Wrote start whole old f x new f'') (sym (k.1 ∙ ap (λ (y : SinkFault). Err y) k.2)) (ahead_stopped e start mid whole (pending p (a ++ rest)) old now new f f' f'' ahead' (step rest))

packed_is : (s : List Bool) → packed_from 128 0 s ≡ padded s
unfolding padded
packed_is (a ∷ b ∷ c ∷ d ∷ e ∷ f ∷ g ∷ h ∷ s) =
    let p = packed_is s in
    let spare : spare_bits (suc (suc (suc (suc (suc (suc (suc (suc (length s))))))))) ≡ spare_bits (length s) = omega arith in
    let o : 0 + 128 * bit_value a + 64 * bit_value b + 32 * bit_value c + 16 * bit_value d + 8 * bit_value e + 4 * bit_value f + 2 * bit_value g + bit_value h ≡ 128 * bit_value a + 64 * bit_value b + 32 * bit_value c + 16 * bit_value d + 8 * bit_value e + 4 * bit_value f + 2 * bit_value g + bit_value h = omega arith in
    ap (λ x. x ∷ packed_from 128 0 s) o ∙ ap (λ l. (128 * bit_value a + 64 * bit_value b + 32 * bit_value c + 16 * bit_value d + 8 * bit_value e + 4 * bit_value f + 2 * bit_value g + bit_value h) ∷ l) p
    ∙ ap (λ n. packed (a ∷ b ∷ c ∷ d ∷ e ∷ f ∷ g ∷ h ∷ (s ++ replicate n false))) (sym spare)
packed_is [] = refl
packed_is (a ∷ []) = ap (λ x. x ∷ []) (omega arith)
packed_is (a ∷ b ∷ []) = ap (λ x. x ∷ []) (omega arith)
packed_is (a ∷ b ∷ c ∷ []) = ap (λ x. x ∷ []) (omega arith)
packed_is (a ∷ b ∷ c ∷ d ∷ []) = ap (λ x. x ∷ []) (omega arith)
packed_is (a ∷ b ∷ c ∷ d ∷ e ∷ []) = ap (λ x. x ∷ []) (omega arith)
packed_is (a ∷ b ∷ c ∷ d ∷ e ∷ f ∷ []) = ap (λ x. x ∷ []) (omega arith)
packed_is (a ∷ b ∷ c ∷ d ∷ e ∷ f ∷ g ∷ []) = ap (λ x. x ∷ []) (omega arith)

-- with no bit so far
pub pending_new : (p : Packer) (s : List Bool) → p.octet ≡ 0 → p.weight ≡ 128 → padded s ≡ pending p s
pending_new p s b c = sym (ap (λ n. packed_from p.weight n s) b ∙ ap (λ n. packed_from n 0 s) c ∙ packed_is s)

-- two lists of bits, and the last octets
module _ (start : ℕ) (a b : List Bool) (p₀ : Packer) (whole : List ℕ) (old : Option (List ℕ)) (f : ℕ) (is : whole ≡ padded (a ++ b)) (octet : p₀.octet ≡ 0) (weight : p₀.weight ≡ 128) where
  begin : Through start (a ++ b) p₀ old f start old f p₀ (a ++ b)
  begin = through_start start (a ++ b) (a ++ b) p₀ old f (omega arith, omega arith, omega arith) refl

  are : whole ≡ pending p₀ (a ++ b)
  are = is ∙ pending_new p₀ (a ++ b) octet weight

  pub first_failed : (r : Result ℕ SinkFault) (e : SinkFault) (q : Packer) (new : Option (List ℕ)) (f' : ℕ) → IsErrAnd r (λ y. y ≡ e) → Packs a p₀ q start old f (Err e) new f' → Wrote start whole old f r new f'
  first_failed r e q new f' exit step = through_stopped r e start start (a ++ b) (a ++ b) a b p₀ p₀ q whole old old new f f f' are begin refl exit step

  module _ (mid : ℕ) (p : Packer) (now : Option (List ℕ)) (f₁ : ℕ) (one : Packs a p₀ p start old f (Ok mid) now f₁) where
    middle : Through start (a ++ b) p₀ old f mid now f₁ p b
    middle = through_more start start mid (a ++ b) (a ++ b) a b p₀ p₀ p old old now f f f₁ begin refl one

    pub second_failed : (r : Result ℕ SinkFault) (e : SinkFault) (q : Packer) (new : Option (List ℕ)) (f' : ℕ) → IsErrAnd r (λ y. y ≡ e) → Packs b p q mid now f₁ (Err e) new f' → Wrote start whole old f r new f'
    second_failed r e q new f' exit step = through_stopped r e start mid (a ++ b) b b [] p₀ p q whole old now new f f₁ f' are middle (sym (append-nil b)) exit step

    pub all_packed : (r : Result ℕ SinkFault) (n : ℕ) (q : Packer) (held new : Option (List ℕ)) (f₂ f' : ℕ) → Packs b p q mid now f₁ (Ok n) held f₂ → Wrote n (pending q []) held f₂ r new f' → Wrote start whole old f r new f'
    all_packed r n q held new f₂ f' two last = through_finish r start n (a ++ b) p₀ q whole old held new f f₂ f' are (through_more start mid n (a ++ b) b b [] p₀ p q old now held f f₁ f₂ middle (sym (append-nil b)) two) last
