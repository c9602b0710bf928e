-- From what the calls promise to what the octets are.
use Rattle.std.proofs.Common.{◌≡◌, ◌≤◌, ℕ, List, [], ◌∷◌, ◌++◌, length, Option, Some, None, Ok, Err, ap, ◌∙◌, subst, sym, arith, append-nil, length-append, ◌⊎◌, inl, inr, ◌≢◌}
use Rattle.std.specs.Io.KnownBytes.{Appends}
use Rattle.oer_units.specs.declared.fault.ReadFault.{ReadFault}
use Rattle.oer_units.specs.declared.fault.Why.TheVariants.{Device, Memory}
use Rattle.oer_model.specs.AsnType.{AsnType}
use Rattle.oer_model.specs.AsnValue.{AsnValue}
use Rattle.oer_model.specs.Encoding.{Encodes}
use Rattle.oer_model.specs.Strict.{IsCanonical}
use Rattle.oer_decoder.specs.Front.{IsTaken, ReadsWhatComes}

-- canonical octets that were appended to nothing are all that is there
pub appended : (T : AsnType) (v : AsnValue) (none d c : List ℕ) (n : ℕ) → (b : List ℕ) × IsCanonical T v b × (n ≡ length b) × Appends (Some none) (Some d) b → none ≡ [] → c ≡ d → IsCanonical T v c
appended T v none d c n h empty same =
    let made : c ≡ h.0 = same ∙ h.3 ∙ ap (λ (l : List ℕ). l ++ h.0) empty in
    subst (IsCanonical T v) (sym made) h.1

-- a front that is as long as the whole is the whole
pub front_is_whole : (xs b rest : List ℕ) → xs ≡ b ++ rest → length b ≡ length xs → b ≡ xs
front_is_whole xs b [] split same = sym (split ∙ append-nil b)
front_is_whole xs b (x ∷ rest) split same = absurd (omega (arith, ap length split, length-append b (x ∷ rest), same))

-- Where all the octets are an encoding they were all taken,
pub all_taken : (T : AsnType) (limit : ℕ) (octets : List ℕ) (known known' : Option (List ℕ)) (v w : AsnValue) (m : ℕ) → IsTaken T limit known known' (w, m) → ReadsWhatComes T limit known known' (Ok w) → known ≡ Some octets → length octets ≤ limit → Encodes T v octets → m ≡ length octets
all_taken T limit octets None known' v w m h comes is few enc = cc
all_taken T limit octets (Some xs) None v w m h comes is few enc = absurd h.1.0
all_taken T limit octets (Some xs) (Some ys) v w m h comes is few enc =
    let same : xs ≡ octets = cc in
    let end : ys ≡ [] = (comes v octets [] (is ∙ ap Some (sym (append-nil octets))) enc few).1 in
    let all : xs ≡ h.0 = h.1.0 ∙ ap (λ (l : List ℕ). h.0 ++ l) end ∙ append-nil h.0 in
    h.2 ∙ ap length (sym all) ∙ ap length same

either_not : (A B : Type 0) → A ⊎ B → (A → ⊥) × (B → ⊥) → ⊥
either_not A B (inl a) neither = neither.0 a
either_not A B (inr b) neither = neither.1 b

-- or it is for the device or for memory that they were not read.
pub not_read : (T : AsnType) (limit : ℕ) (octets : List ℕ) (known known' : Option (List ℕ)) (v : AsnValue) (e : ReadFault) → ReadsWhatComes T limit known known' (Err e) → known ≡ Some octets → length octets ≤ limit → Encodes T v octets → (e.why ≢ Device) × (e.why ≢ Memory) → ⊥
not_read T limit octets known None v e comes is few enc other = comes v octets [] (is ∙ ap Some (sym (append-nil octets))) enc few
not_read T limit octets known (Some ys) v e comes is few enc other = either_not (e.why ≡ Device) (e.why ≡ Memory) (comes v octets [] (is ∙ ap Some (sym (append-nil octets))) enc few) other
