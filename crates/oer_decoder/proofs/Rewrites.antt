-- From what `rewrite` does to what its caller learns.
use Rattle.std.proofs.Common.{◌≡◌, ℕ, ◌+◌, List, ◌^◌, ◌<◌, length, Option, Result, Ok, Err, Vec, Global, refl, sym, ap, ◌∙◌, subst}
use Rattle.std.specs.Prelude.{IfErr, IfOk}
use Rattle.oer_units.specs.declared.fault.ReadFault.{ReadFault}
use Rattle.oer_units.specs.declared.fault.SinkFault.{SinkFault}
use Rattle.oer_model.specs.AsnType.{AsnType}
use Rattle.oer_model.specs.AsnValue.{AsnValue}
use Rattle.oer_model.specs.Canonical.{canonical_octets}
use Rattle.oer_model.specs.Constraints.{KeepsLimits}
use Rattle.oer_model.specs.Reading.{read_value}
use Rattle.oer_model.proofs.canonical.Computed.{canon_computed}
use Rattle.oer_model.proofs.canonical.Given.{canon_given}
use Rattle.oer_leaves.specs.Wrote.{Wrote}
use Rattle.oer_writer.specs.declared.fault.WriteFault.{WriteFault}
use Rattle.oer_writer.specs.declared.fault.WriteFault.TheVariants.{Device}
use Rattle.oer_writer.specs.Write.{Writes, WritesCanonical}
use Rattle.oer_writer.proofs.WholeValues.{from_err, from_ok, writes_canonical}
use Rattle.oer_decoder.specs.Front.{ReadsAndCounts, Told}
use Rattle.oer_decoder.specs.Recoding.{Completes, RecodesFront, Rewrites}
use Rattle.oer_decoder.specs.Rewriting.{IsRefused, IsRewritten, KeepsCanonical, Known, ReadsAndWrites, RewritesWhatComes}
use Rattle.oer_decoder.specs.declared.fault.RewriteFault.{RewriteFault}
use Rattle.oer_decoder.specs.declared.fault.RewriteFault.TheVariants.{Read, Write}
use Rattle.oer_decoder.proofs.FrontProof.{fits_of, front_of, tells_of}
use Rattle.oer_decoder.proofs.Rewritten.{comes_refused, comes_stopped, comes_written, rewritten, stays, stopped}

module _ (T : AsnType) (wf : KeepsLimits T) (limit failed failed' : ℕ) (known known' old new : Known) (count count' : ℕ) where
  canonical : (v : AsnValue) (m : ℕ) (r : Result ℕ WriteFault) → ReadsAndCounts (read_value T) limit known failed (Ok (v, m)) known' failed' → Writes (canonical_octets T v) old count r new count'
      → WritesCanonical T v old r new
  canonical v m r h w = writes_canonical T v canon_given canon_computed wf (fits_of T wf limit failed failed' known known' v m h) r old new count count' w

  pub is_rewritten : (result : Result (ℕ × ℕ) RewriteFault) → Rewrites T limit known failed known' failed' old count result new count'
      → IfOk result (λ done. IsRewritten T limit known known' old new done)
  is_rewritten (Ok (k, j)) (Err e, h, c) = absurd cc
  is_rewritten (Ok (k, j)) (Ok (v, m), h, c) = rw c.0 (rewritten T wf limit failed failed' known known' v m old new j h (canonical v m (Ok j) h c.1))
  is_rewritten (Err e) r = tt

  pub is_refused : (result : Result (ℕ × ℕ) RewriteFault) → Rewrites T limit known failed known' failed' old count result new count'
      → IfErr result (λ fault. IsRefused T limit known known' old fault new)
  is_refused (Ok done) r = tt
  is_refused (Err (Read e)) (Err f, h, c) =
      let same : f ≡ e = cc in
      (subst (λ (x : ReadFault). Told T limit known known' (Err x)) same (tells_of T wf limit failed failed' known known' (Err f) h), c.1)
  is_refused (Err (Read e)) (Ok (v, m), h, c) = absurd c
  is_refused (Err (Write e)) (Err f, h, c) = absurd cc
  is_refused (Err (Write e)) (Ok (v, m), h, c) = stopped T wf limit failed failed' known known' v m old new e h (canonical v m (Err e) h c)

  pub what_comes : (result : Result (ℕ × ℕ) RewriteFault) → Rewrites T limit known failed known' failed' old count result new count' → RewritesWhatComes T limit known known' old new result
  what_comes (Ok (k, j)) (Err e, h, c) = absurd cc
  what_comes (Ok (k, j)) (Ok (v, m), h, c) = rw c.0 (comes_written T wf limit failed failed' known known' v m old new j h (canonical v m (Ok j) h c.1))
  what_comes (Err (Read e)) (Err f, h, c) =
      let same : f ≡ e = cc in
      subst (λ (x : ReadFault). RewritesWhatComes T limit known known' old new (Err (Read x))) same (comes_refused T wf limit failed failed' known known' old new f h)
  what_comes (Err (Read e)) (Ok (v, m), h, c) = absurd c
  what_comes (Err (Write e)) (Err f, h, c) = absurd cc
  what_comes (Err (Write e)) (Ok (v, m), h, c) = comes_stopped T wf limit failed failed' known known' v m old new e h

  pub keeps : (result : Result (ℕ × ℕ) RewriteFault) → Rewrites T limit known failed known' failed' old count result new count' → KeepsCanonical T known known' old new result
  keeps (Ok (k, j)) (Err e, h, c) = absurd cc
  keeps (Ok (k, j)) (Ok (v, m), h, c) = rw c.0 (stays T wf limit failed failed' known known' v m old new j h (canonical v m (Ok j) h c.1))
  keeps (Err e) r = λ v b rest is canonical. tt

  pub exactly : (result : Result (ℕ × ℕ) RewriteFault) → Rewrites T limit known failed known' failed' old count result new count'
      → ReadsAndWrites T limit known failed known' failed' old count result new count'
  exactly result (Err e, h, c) = (Err e, front_of (read_value T) limit failed failed' known known' (Err e) h, c)
  exactly (Ok (k, j)) (Ok (v, m), h, c) = (Ok v, front_of (read_value T) limit failed failed' known known' (Ok (v, m)) h, c.1)
  exactly (Err (Read e)) (Ok (v, m), h, c) = absurd c
  exactly (Err (Write e)) (Ok (v, m), h, c) = (Ok v, front_of (read_value T) limit failed failed' known known' (Ok (v, m)) h, c)

-- ---- what was gathered is written

pub gathered_written : (T : AsnType) (v : AsnValue) (m n : ℕ) (octets : List ℕ) (limit failed failed' : ℕ) (known known' old new : Known) (count count' : ℕ)
    → ReadsAndCounts (read_value T) limit known failed (Ok (v, m)) known' failed' → octets ≡ canonical_octets T v
    → length octets < 2 ^ 64 → Wrote 0 octets old count (Ok n) new count' → Rewrites T limit known failed known' failed' old count (Ok (m, n)) new count'
gathered_written T v m n octets limit failed failed' known known' old new count count' h is few w =
    (Ok (v, m), h, (refl, subst (λ (l : List ℕ). Writes l old count (Ok n) new count') is (from_ok n octets old new count count' few w)))

pub gathered_stopped : (T : AsnType) (v : AsnValue) (m : ℕ) (e : SinkFault) (octets : List ℕ) (limit failed failed' : ℕ) (known known' old new : Known) (count count' : ℕ)
    → ReadsAndCounts (read_value T) limit known failed (Ok (v, m)) known' failed' → octets ≡ canonical_octets T v
    → length octets < 2 ^ 64 → Wrote 0 octets old count (Err e) new count' → Rewrites T limit known failed known' failed' old count (Err (Write (Device e.written))) new count'
gathered_stopped T v m e octets limit failed failed' known known' old new count count' h is few w =
    (Ok (v, m), h, subst (λ (l : List ℕ). Writes l old count (Err (Device e.written)) new count') is (from_err e octets old new count count' few w))
