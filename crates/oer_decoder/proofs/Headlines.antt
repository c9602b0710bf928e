-- The headline, of the calls.
use Rattle.std.proofs.Common.{◌≡◌, ◌≢◌, ℕ, ◌-◌, ◌^◌, ◌<◌, ◌≤◌, ◌↔◌, List, [], ◌++◌, length, Some, None, Result, Ok, Err, IsOk, ◌⊎◌, inl, inr, refl, sym, ap, ◌∙◌, subst, arith, append-nil}
use Rattle.std.proofs.lemmas.Bool.{cases_lt}
use Rattle.std.specs.Io.KnownBytes.{Appends, Consumes}
use Rattle.oer_units.specs.Reads.{ReadsFront, TakesNoMemory, count_after}
use Rattle.oer_units.specs.Stream.{one_more}
use Rattle.oer_units.specs.declared.fault.Why.{Why}
use Rattle.oer_units.specs.declared.fault.Why.TheVariants.{Device, Memory}
use Rattle.oer_units.specs.declared.fault.ReadFault.{ReadFault}
use Rattle.oer_model.specs.AsnType.{AsnType}
use Rattle.oer_model.specs.AsnValue.{AsnValue}
use Rattle.oer_model.specs.Canonical.{canonical_octets}
use Rattle.oer_model.specs.Constraints.{KeepsLimits}
use Rattle.oer_model.specs.Encoding.{Encodes}
use Rattle.oer_model.specs.Reading.{read_value}
use Rattle.oer_model.specs.Strict.{IsCanonical}
use Rattle.oer_model.proofs.canonical.Again.{canonical_encodes, canonical_tells}
use Rattle.oer_model.proofs.canonical.Canonical.{canon_one}
use Rattle.oer_model.proofs.canonical.Computed.{canon_computed}
use Rattle.oer_model.proofs.canonical.Given.{canon_given}
use Rattle.oer_writer.specs.Write.{IsTooLong}
use Rattle.oer_writer.specs.declared.fault.WriteFault.TheVariants.{Device as SinkFailed, TooLong}
use Rattle.oer_writer.proofs.WholeValues.{too_long}
use Rattle.oer_decoder.specs.Front.{ReadsWhatComes, Takes, Told}
use Rattle.oer_decoder.specs.Rewriting.{Known, ReadsAndWrites}
use Rattle.oer_decoder.specs.declared.fault.RewriteFault.TheVariants.{Read, Write}
use Rattle.oer_decoder.specs.Headline.{Begins, BeginsWithEncoding, EachRun, Headline, IsRewrittenAs, ReadsExactly, RefusesTooLong, Rewrites, RewritesCanonically, TellsValues}
use Rattle.oer_decoder.proofs.Rewritten.{one_front}

-- ---- two values

tells_values : (T : AsnType) → KeepsLimits T → TellsValues T
tells_values T wf v w c f g s = (canonical_tells T wf v w c f g s, λ d t. canon_one T v d c t s)

-- ---- reading

-- where no call failed the reason is not the reader
no_device : (T : AsnType) (limit failed failed' : ℕ) (known known' : Known) (e : ReadFault) → ReadsFront (read_value T) limit known failed (Err e) known' failed' → (failed < 2 ^ 64 - 1) × (failed' ≡ failed) → e.why ≢ Device
no_device T limit failed failed' known known' e exact (low, still) is =
    let rose : failed' ≡ one_more failed = exact.reads.count ∙ ap (λ (w : Why). count_after failed w) is in
    omega (arith, low, still, rose)

given : (T : AsnType) (limit : ℕ) (xs : List ℕ) (known' : Known) (v : AsnValue) → Told T limit (Some xs) known' (Ok v) → (b : List ℕ) × (rest : List ℕ) × Begins T limit xs v b rest × (known' ≡ Some rest)
given T limit xs None v told = absurd told
given T limit xs (Some ys) v (t, is, le, speaks) = (t, ys, (is, le, speaks.0), refl)

-- an answer that is not Ok has a reason that it can't have
never_refused : (T : AsnType) (limit : ℕ) (xs : List ℕ) (known' : Known) (e : ReadFault) → ReadsWhatComes T limit (Some xs) known' (Err e) → e.why ≢ Device → e.why ≢ Memory → BeginsWithEncoding T limit xs → ⊥
never_refused T limit xs None e comes device memory (v, b, rest, (is, le, s)) = absurd (comes v b rest (ap (λ (l : List ℕ). Some l) is) s le)
never_refused T limit xs (Some ys) e comes device memory (v, b, rest, (is, le, s)) = either (comes v b rest (ap (λ (l : List ℕ). Some l) is) s le) where
  either : (e.why ≡ Device) ⊎ (e.why ≡ Memory) → ⊥
  either (inl h) = device h
  either (inr h) = memory h

accepted : (T : AsnType) (limit failed failed' : ℕ) (xs : List ℕ) (known' : Known) (answer : Result AsnValue ReadFault) → Told T limit (Some xs) known' answer → ReadsWhatComes T limit (Some xs) known' answer
    → ReadsFront (read_value T) limit (Some xs) failed answer known' failed' → (failed < 2 ^ 64 - 1) × (failed' ≡ failed) → TakesNoMemory answer → (IsOk answer ↔ BeginsWithEncoding T limit xs)
accepted T limit failed failed' xs known' (Ok v) told comes exact never memory = (λ ok. let g = given T limit xs known' v told in (v, g.0, g.1, g.2), λ begins. refl)
accepted T limit failed failed' xs known' (Err e) told comes exact never memory =
    (λ ok. absurd cc, λ begins. absurd (never_refused T limit xs known' e comes (no_device T limit failed failed' (Some xs) known' e exact never) memory begins))

reads_exactly : (T : AsnType) → KeepsLimits T → ReadsExactly T
reads_exactly T wf limit xs reader reader' answer tells run =
    let told : Told T limit (Some xs) reader'.octets answer = subst (λ (k : Known). Told T limit k reader'.octets answer) tells run.told in
    let comes : ReadsWhatComes T limit (Some xs) reader'.octets answer = subst (λ (k : Known). ReadsWhatComes T limit k reader'.octets answer) tells run.comes in
    let exact : ReadsFront (read_value T) limit (Some xs) reader.failed answer reader'.octets reader'.failed = subst (λ (k : Known). ReadsFront (read_value T) limit k reader.failed answer reader'.octets reader'.failed) tells run.exact in
    record {
      accepts = accepted T limit reader.failed reader'.failed xs reader'.octets answer told comes exact;
      refuses = λ e is. never_refused T limit xs reader'.octets e (subst (λ (r : Result AsnValue ReadFault). ReadsWhatComes T limit (Some xs) reader'.octets r) is comes);
      gives = λ v is. given T limit xs reader'.octets v (subst (λ (r : Result AsnValue ReadFault). Told T limit (Some xs) reader'.octets r) is told);
      one = λ v w b c rest more e f s u. let one = one_front T wf v w b c rest more s u (sym e ∙ f) in (one.0, sym one.2);
    }

-- ---- rewriting

-- where neither side failed and no growth was refused, the answer is Ok or TooLong
never_read : (T : AsnType) (limit failed failed' : ℕ) (known known' : Known) (old : Known) (count : ℕ) (e : ReadFault) (new : Known) (count' : ℕ) → ReadsAndWrites T limit known failed known' failed' old count (Err (Read e)) new count'
    → (failed < 2 ^ 64 - 1) × (failed' ≡ failed) → e.why ≢ Memory → (e.why ≡ Device) ⊎ (e.why ≡ Memory) → ⊥
never_read T limit failed failed' known known' old count e new count' exact never memory (inr h) = memory h
never_read T limit failed failed' known known' old count e new count' (Ok v, reads, follows) never memory (inl h) = follows
never_read T limit failed failed' known known' old count e new count' (Err d, reads, follows) never memory (inl h) =
    let same : e ≡ d = cc in
    no_device T limit failed failed' known known' d reads never (ap (λ (f : ReadFault). f.why) (sym same) ∙ h)

never_failed : (T : AsnType) (limit failed failed' : ℕ) (known known' : Known) (old : Known) (count written : ℕ) (new : Known) (count' : ℕ) → ReadsAndWrites T limit known failed known' failed' old count (Err (Write (SinkFailed written))) new count'
    → (count < 2 ^ 64 - 1) × (count' ≡ count) → ⊥
never_failed T limit failed failed' known known' old count written new count' (Ok v, reads, follows) (low, still) = let rose : count' ≡ one_more count = follows.3 in omega (arith, low, still, rose)
never_failed T limit failed failed' known known' old count written new count' (Err d, reads, follows) never = absurd cc

-- as many octets as are answered are fewer than 2 ^ 64
few : (T : AsnType) (limit failed failed' : ℕ) (known known' : Known) (old : Known) (count m n : ℕ) (new : Known) (count' : ℕ) → ReadsAndWrites T limit known failed known' failed' old count (Ok (m, n)) new count' → n < 2 ^ 64
few T limit failed failed' known known' old count m n new count' (Ok v, reads, follows) = follows.1
few T limit failed failed' known known' old count m n new count' (Err d, reads, follows) = absurd cc

appended : (old new : Known) (held d c : List ℕ) → old ≡ Some held → Appends old new d → d ≡ c → new ≡ Some (held ++ c)
appended None new held d c is h e = absurd cc
appended (Some xs) None held d c is h e = absurd h
appended (Some xs) (Some ys) held d c is h e =
    let same : xs ≡ held = cc in
    ap (λ (l : List ℕ). Some l) (h ∙ ap (λ (l : List ℕ). l ++ d) same ∙ ap (λ (l : List ℕ). held ++ l) e)

rewritten_as : (T : AsnType) → KeepsLimits T → (v : AsnValue) (b c : List ℕ) → Encodes T v b → IsCanonical T v c → length c < 2 ^ 64 → IsRewrittenAs T b c
rewritten_as T wf v b c s canonical short limit rest old reader reader' sink sink' (Ok (m, n)) tells le holds run reads writes memory =
    let (left, taken, (d, u, size, appends)) = run.comes v b rest tells s le in
    let same : d ≡ c = canon_one T v d c u canonical in
    let done : Ok (m, n) ≡ Ok (length b, length c) = rw (taken, size, same) refl in
    (done, left, appended sink.octets sink'.octets old d c holds appends same)
rewritten_as T wf v b c s canonical short limit rest old reader reader' sink sink' (Err (Read e)) tells le holds run reads writes memory =
    absurd (never_read T limit _ _ _ _ _ _ e _ _ run.exact reads memory (run.comes v b rest tells s le))
rewritten_as T wf v b c s canonical short limit rest old reader reader' sink sink' (Err (Write (SinkFailed written))) tells le holds run reads writes memory =
    absurd (never_failed T limit _ _ _ _ _ _ written _ _ run.exact writes)
rewritten_as T wf v b c s canonical short limit rest old reader reader' sink sink' (Err (Write TooLong)) tells le holds run reads writes memory =
    let (w, t, takes, (long, kept)) = run.refused in
    absurd (never_long w t takes long) where
      never_long : (w : AsnValue) (t : List ℕ) → Takes T limit reader.octets reader'.octets w t → IsTooLong T w → ⊥
      never_long w t takes long =
          let left : reader'.octets ≡ Some rest = run.comes v b rest tells s le in
          let before : Takes T limit (Some (b ++ rest)) reader'.octets w t = subst (λ (k : Known). Takes T limit k reader'.octets w t) tells takes in
          let (eq, le', u) : Consumes (Some (b ++ rest)) (Some rest) t × (length t ≤ limit) × Encodes T w t = subst (λ (k : Known). Takes T limit (Some (b ++ rest)) k w t) left before in
          let one = one_front T wf v w b t rest rest s u eq in
          let many : 2 ^ 64 ≤ length c = long c (subst (λ (x : AsnValue). IsCanonical T x c) one.0 canonical) in
          omega arith

refused_long : (T : AsnType) (v : AsnValue) (b : List ℕ) → Encodes T v b → IsTooLong T v → EachRun T b (Err (Write TooLong)) []
refused_long T v b s long limit rest old reader reader' sink sink' (Ok (m, n)) tells le holds run reads writes memory =
    let (left, taken, (d, u, size, appends)) = run.comes v b rest tells s le in
    let many : 2 ^ 64 ≤ length d = long d u in
    let less : n < 2 ^ 64 = few T limit _ _ _ _ _ _ m n _ _ run.exact in
    absurd (omega (arith, size))
refused_long T v b s long limit rest old reader reader' sink sink' (Err (Read e)) tells le holds run reads writes memory =
    absurd (never_read T limit _ _ _ _ _ _ e _ _ run.exact reads memory (run.comes v b rest tells s le))
refused_long T v b s long limit rest old reader reader' sink sink' (Err (Write (SinkFailed written))) tells le holds run reads writes memory =
    absurd (never_failed T limit _ _ _ _ _ _ written _ _ run.exact writes)
refused_long T v b s long limit rest old reader reader' sink sink' (Err (Write TooLong)) tells le holds run reads writes memory =
    let (w, t, takes, (long', kept)) = run.refused in
    (refl, run.comes v b rest tells s le, kept ∙ holds ∙ ap (λ (l : List ℕ). Some l) (sym (append-nil old)))

rewrites : (T : AsnType) → KeepsLimits T → Rewrites T
rewrites T wf v b s = by_length (cases_lt (length (canonical_octets T v)) (2 ^ 64)) where
  by_length : (length (canonical_octets T v) < 2 ^ 64) ⊎ (2 ^ 64 ≤ length (canonical_octets T v)) → RewritesCanonically T v b ⊎ RefusesTooLong T v b
  by_length (inl short) =
      let c = canonical_octets T v in
      let canonical : IsCanonical T v c = canon_given T wf v s.1 short in
      let again = canonical_encodes T v c canonical in
      inl (c, canonical, short, rewritten_as T wf v b c s canonical short, rewritten_as T wf again.0 c c again.1 again.2 short)
  by_length (inr many) =
      let long = too_long T v canon_computed many in
      inr (long, refused_long T v b s long)

pub headlines : Headline
headlines T w = (tells_values T w.limits, reads_exactly T w.limits, rewrites T w.limits)
