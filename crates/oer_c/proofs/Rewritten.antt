-- From what `rewrite`, `read_with_length` and `write` answer to what the calls say.
use Rattle.std.proofs.Common.{◌≡◌, ◌≢◌, ◌≤◌, ℕ, ◌-◌, List, [], ◌++◌, length, Option, Some, Ok, Err, false, ◌⊎◌, inl, inr, refl, arith, sym, ap, ◌∙◌, subst}
use Rattle.std.specs.Io.KnownBytes.{Appends}
use Rattle.serde_json.specs.Data.{Data}
use Rattle.serde_json.specs.Written.{compact_text, has_float}
use Rattle.oer_units.specs.Reader.{Outcome, at, got, refused}
use Rattle.oer_units.specs.Reads.{ReadsFront, renamed}
use Rattle.oer_units.specs.declared.fault.ReadFault.{ReadFault}
use Rattle.oer_units.specs.declared.fault.Why.TheVariants.{Memory, Device}
use Rattle.oer_model.specs.AsnType.{AsnType}
use Rattle.oer_model.specs.AsnValue.{AsnValue}
use Rattle.oer_model.specs.Constraints.{KeepsLimits}
use Rattle.oer_model.specs.Encoding.{Encodes}
use Rattle.oer_model.specs.Reading.{read_value}
use Rattle.oer_model.specs.Strict.{IsCanonical}
use Rattle.oer_model.proofs.reading.Theorems.{reads_each}
use Rattle.oer_decoder.specs.Front.{IsTaken, Told}
use Rattle.oer_decoder.specs.Rewriting.{IsRefused, IsRewritten, ReadsAndWrites, RewritesWhatComes}
use Rattle.oer_decoder.specs.declared.fault.RewriteFault.{RewriteFault}
use Rattle.oer_decoder.specs.declared.fault.RewriteFault.TheVariants.{Read}
use Rattle.oer_json.specs.Made.{made}
use Rattle.oer_json.proofs.Floats.{made_none}
use Rattle.oer_c.specs.Buffers.{IsPut}
use Rattle.oer_c.specs.Making.{IsOctetsOf, Makes}
use Rattle.oer_c.specs.Rewriting.{IsMade, IsRejection, IsRejected}
use Rattle.oer_c.specs.Showing.{IsTextOf}
use Rattle.oer_c.specs.declared.buffer.Written.{Written}

-- ---- what the reader on lists answers

-- an encoding at the front of the octets is read
read_at : (T : AsnType) → KeepsLimits T → (limit : ℕ) (octets b rest : List ℕ) (v : AsnValue) → octets ≡ b ++ rest → Encodes T v b → length b ≤ limit
    → read_value T (at octets limit) ≡ got v (at rest (limit - length b))
read_at T wf limit octets b rest v is s le = ap (λ (l : List ℕ). read_value T (at l limit)) is ∙ reads_each T wf v b rest limit s le

plain : {A : Type 0} (o : Outcome A) → renamed false o ≡ o
plain (got x q) = refl
plain (refused why rest) = refl

less_none : (n : ℕ) → n - 0 ≡ n
less_none n = omega arith

-- an error of the reader, of octets that are there
refused_at : (T : AsnType) (limit failed failed' : ℕ) (xs ys : List ℕ) (e : ReadFault) → ReadsFront (read_value T) limit (Some xs) failed (Err e) (Some ys) failed' → e.why ≢ Device → e.why ≢ Memory
    → read_value T (at xs limit) ≡ refused e.why ys
refused_at T limit failed failed' xs ys e h device memory =
    ap (λ (n : ℕ). read_value T (at xs n)) (sym (less_none limit)) ∙ sym (plain (read_value T (at xs (limit - 0)))) ∙ h.reads.exact device memory

-- the error of `rewrite` is that of the reader
not_read : (T : AsnType) (limit failed failed' : ℕ) (known known' old new : Option (List ℕ)) (count count' : ℕ) (e : ReadFault)
    → ReadsAndWrites T limit known failed known' failed' old count (Err (Read e)) new count' → ReadsFront (read_value T) limit known failed (Err e) known' failed'
not_read T limit failed failed' known known' old new count count' e (Ok v, reads, follows) = absurd follows
not_read T limit failed failed' known known' old new count count' e (Err d, reads, follows) =
    let same : d ≡ e = cc in
    subst (λ (f : ReadFault). ReadsFront (read_value T) limit known failed (Err f) known' failed') same reads

-- ---- what the calls say

pub made_of : (T : AsnType) → KeepsLimits T → (limit m n : ℕ) (xs octets : List ℕ) (ys none d c : List ℕ)
    → IsRewritten T limit (Some xs) (Some ys) (Some none) (Some d) (m, n) → xs ≡ octets → none ≡ [] → c ≡ d → IsMade T limit octets m c
made_of T wf limit m n xs octets ys none d c h all empty same =
    let v = h.0 in
    let parts : octets ≡ h.1 ++ ys = sym all ∙ h.2.0 in
    let made : c ≡ h.4.0 = same ∙ h.4.3 ∙ ap (λ (l : List ℕ). l ++ h.4.0) empty in
    (v, h.1, ys, parts, h.3, h.2.1, h.2.2, subst (IsCanonical T v) (sym made) h.4.1, read_at T wf limit octets h.1 ys v parts h.2.2 h.2.1)

-- canonical octets that were appended to nothing are all that is there
pub appended : (T : AsnType) (v : AsnValue) (none d c : List ℕ) (n : ℕ) → (b : List ℕ) × IsCanonical T v b × (n ≡ length b) × Appends (Some none) (Some d) b → none ≡ [] → c ≡ d → IsCanonical T v c
appended T v none d c n h empty same =
    let made : c ≡ h.0 = same ∙ h.3 ∙ ap (λ (l : List ℕ). l ++ h.0) empty in
    subst (IsCanonical T v) (sym made) h.1

-- octets of a value that were put into a buffer
pub put_in : (T : AsnType) (text c s old new : List ℕ) (a : Written) → IsOctetsOf T text c → s ≡ c → IsPut s 0 old new a → Makes T text old new a
put_in T text c s old new a made same put = inl (c, made, subst (λ (l : List ℕ). IsPut l 0 old new a) same put)

-- the text of the JSON of a value that was read: it has no float
pub text_of : (T : AsnType) → KeepsLimits T → (limit m : ℕ) (xs octets ys : List ℕ) (v : AsnValue) (j : Data) (s : List ℕ) → IsTaken T limit (Some xs) (Some ys) (v, m) → xs ≡ octets
    → j ≡ made T v → (has_float j ≡ false → s ≡ compact_text j) → IsTextOf T limit octets m s
text_of T wf limit m xs octets ys v j s h all is text =
    let parts : octets ≡ h.0 ++ ys = sym all ∙ h.1.0 in
    let shown : s ≡ compact_text (made T v) = text (ap has_float is ∙ made_none T v) ∙ ap compact_text is in
    (v, h.0, ys, parts, h.2, h.1.1, h.1.2, shown, read_at T wf limit octets h.0 ys v parts h.1.2 h.1.1)

neither : {P Q : Type 0} → (P → ⊥) → (Q → ⊥) → P ⊎ Q → ⊥
neither p q (inl x) = p x
neither p q (inr x) = q x

-- an error of the reader, of octets that are there
pub unread : (T : AsnType) (limit failed failed' : ℕ) (xs octets ys : List ℕ) (e : ReadFault) (a : Written) → xs ≡ octets → Told T limit (Some xs) (Some ys) (Err e)
    → ((v : AsnValue) (b rest : List ℕ) → Some xs ≡ Some (b ++ rest) → Encodes T v b → length b ≤ limit → (e.why ≡ Device) ⊎ (e.why ≡ Memory))
    → ReadsFront (read_value T) limit (Some xs) failed (Err e) (Some ys) failed' → IsRejection e a → IsRejected T limit octets a
unread T limit failed failed' xs octets ys e a all told comes exact (inl memory) = inr memory
unread T limit failed failed' xs octets ys e a all told comes exact (inr rejected) =
    inl (
      e,
      told.0,
      ys,
      rejected.0,
      sym all ∙ told.1,
      told.3.0,
      told.3.1 rejected.2 rejected.1,
      λ v b rest parts encodes within. neither rejected.2 rejected.1 (comes v b rest (ap (λ (l : List ℕ). Some l) (all ∙ parts)) encodes within),
      ap (λ (l : List ℕ). read_value T (at l limit)) (sym all) ∙ refused_at T limit failed failed' xs ys e exact rejected.2 rejected.1,
    )

-- the same where octets are rewritten
pub unmade : (T : AsnType) (limit failed failed' : ℕ) (xs octets ys : List ℕ) (old new : Option (List ℕ)) (count count' : ℕ) (f : RewriteFault) (e : ReadFault) (a : Written)
    → f ≡ Read e → xs ≡ octets → IsRefused T limit (Some xs) (Some ys) old f new → RewritesWhatComes T limit (Some xs) (Some ys) old new (Err f)
    → ReadsAndWrites T limit (Some xs) failed (Some ys) failed' old count (Err f) new count' → IsRejection e a → IsRejected T limit octets a
unmade T limit failed failed' xs octets ys old new count count' f e a is all leaves comes exact r =
    let told = subst (λ f. IsRefused T limit (Some xs) (Some ys) old f new) is leaves in
    let none = subst (λ f. RewritesWhatComes T limit (Some xs) (Some ys) old new (Err f)) is comes in
    let reads = subst (λ f. ReadsAndWrites T limit (Some xs) failed (Some ys) failed' old count (Err f) new count') is exact in
    unread T limit failed failed' xs octets ys e a all told.0 none (not_read T limit failed failed' (Some xs) (Some ys) old new count count' e reads) r
