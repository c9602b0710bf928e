-- From the start of a value to its end, and from the computed octets to the canonical ones.
use Rattle.std.proofs.Common.{inl, inr, ◌≡◌, ◌↔◌, ◌⊎◌, ℕ, ◌-◌, ◌<◌, ◌≤◌, ◌^◌, List, length, take, Option, Some, None, Result, Ok, Err, arith, refl, sym, ap, ◌∙◌, subst}
use Rattle.std.specs.Io.KnownBytes.{Appends}
use Rattle.oer_units.specs.Stream.{one_more}
use Rattle.oer_model.specs.AsnType.{AsnType}
use Rattle.oer_model.specs.AsnValue.{AsnValue}
use Rattle.oer_model.specs.Canonical.{canonical_octets}
use Rattle.oer_model.specs.Constraints.{KeepsLimits}
use Rattle.oer_model.specs.Fits.{Fits}
use Rattle.oer_model.specs.Laws.{CanonicalComputed, CanonicalGiven}
use Rattle.oer_values.specs.ShapeView.{type_of}
use Rattle.oer_values.specs.declared.shape.Shape.{Shape}
use Rattle.oer_units.specs.declared.fault.SinkFault.{SinkFault}
use Rattle.oer_writer.specs.declared.fault.WriteFault.{WriteFault}
use Rattle.oer_writer.specs.declared.fault.WriteFault.TheVariants.{Device, TooLong}
use Rattle.oer_writer.specs.Write.{Counts, HasLength, IsTooLong, TellsFailure, TellsLength, Writes, WritesAll, WritesCanonical}
use Rattle.oer_leaves.specs.Wrote.{Wrote}

pub from_ok : (n : ℕ) (octets : List ℕ) (old new : Option (List ℕ)) (f f' : ℕ) → length octets < 2 ^ 64 → Wrote 0 octets old f (Ok n) new f' → Writes octets old f (Ok n) new f'
from_ok n octets old new f f' few (is, app, same) = let e : n ≡ length octets = omega (arith, is) in (e, omega (arith, e, few), app, same)

pub from_err : (x : SinkFault) (octets : List ℕ) (old new : Option (List ℕ)) (f f' : ℕ) → length octets < 2 ^ 64 → Wrote 0 octets old f (Err x) new f' → Writes octets old f (Err (Device x.written)) new f'
from_err x octets old new f f' few (inl (j, is, less, app, count)) = let e : j ≡ x.written = omega (arith, is) in (few, omega (arith, is, less), subst (λ n. Appends old new (take n octets)) e app, count)
from_err x octets old new f f' few (inr h) = absurd (omega (arith, h, few))

-- ---- of the shape of a schema

pub limits_at : (s t : Shape) → s ≡ t → KeepsLimits (type_of s) → KeepsLimits (type_of t)
limits_at s t e h = subst (λ x. KeepsLimits (type_of x)) e h

pub counts_at : (s t : Shape) (v : AsnValue) (o : Option ℕ) → s ≡ t → Counts (canonical_octets (type_of s) v) o → Counts (canonical_octets (type_of t) v) o
counts_at s t v o e h = subst (λ x. Counts (canonical_octets (type_of x) v) o) e h

pub writes_at : (s t : Shape) (v : AsnValue) (r : Result ℕ WriteFault) (old new : Option (List ℕ)) (f f' : ℕ) → s ≡ t → Writes (canonical_octets (type_of s) v) old f r new f' → Writes (canonical_octets (type_of t) v) old f r new f'
writes_at s t v r old new f f' e h = subst (λ x. Writes (canonical_octets (type_of x) v) old f r new f') e h

-- ---- the length

-- the computed octets are too many
pub too_long : (T : AsnType) (v : AsnValue) → CanonicalComputed → 2 ^ 64 ≤ length (canonical_octets T v) → IsTooLong T v
too_long T v computed many b h = omega (arith, ap length (computed T v b h), many)

-- or few enough
pub has_length : (T : AsnType) (v : AsnValue) → CanonicalGiven → KeepsLimits T → Fits T v → (n : ℕ) → n ≡ length (canonical_octets T v) → n < 2 ^ 64 → HasLength T v n
has_length T v given limits fits n is few = (canonical_octets T v, given T limits v fits (omega (arith, is, few)), is, few)

pub only_length : (T : AsnType) (v : AsnValue) → CanonicalComputed → (n : ℕ) → HasLength T v n → n ≡ length (canonical_octets T v)
only_length T v computed n (b, h, is, few) = is ∙ ap length (computed T v b h)

length_below : (T : AsnType) (v : AsnValue) (n : ℕ) → HasLength T v n → n < 2 ^ 64
length_below T v n (b, h, is, few) = few

not_both : (T : AsnType) (v : AsnValue) (n : ℕ) → HasLength T v n → IsTooLong T v → ⊥
not_both T v n (b, h, is, few) long = omega (arith, is, few, long b h)

-- ---- what `length` says

pub tells_length : (T : AsnType) (v : AsnValue) → CanonicalGiven → CanonicalComputed → KeepsLimits T → Fits T v → (o : Option ℕ) → Counts (canonical_octets T v) o → TellsLength T v o
tells_length T v given computed limits fits (Some m) (is, few) n = (there, back)
  where
    there : Some m ≡ Some n → HasLength T v n
    there e = subst (λ k. HasLength T v k) (cc e) (has_length T v given limits fits m is few)

    back : HasLength T v n → Some m ≡ Some n
    back h = ap (λ (k : ℕ). Some k) (is ∙ sym (only_length T v computed n h))
tells_length T v given computed limits fits None many n = (there, back)
  where
    there : None ≡ Some n → HasLength T v n
    there e = absurd (cc e)

    back : HasLength T v n → None ≡ Some n
    back h = absurd (not_both T v n h (too_long T v computed many))

pub tells_none : (T : AsnType) (v : AsnValue) → CanonicalGiven → CanonicalComputed → KeepsLimits T → Fits T v → (o : Option ℕ) → Counts (canonical_octets T v) o → (o ≡ None) ↔ IsTooLong T v
tells_none T v given computed limits fits (Some m) (is, few) = (λ e. absurd (cc e), λ long. absurd (not_both T v m (has_length T v given limits fits m is few) long))
tells_none T v given computed limits fits None many = (λ e. too_long T v computed many, λ long. refl)

-- ---- what `write` says

pub writes_canonical : (T : AsnType) (v : AsnValue) → CanonicalGiven → CanonicalComputed → KeepsLimits T → Fits T v → (r : Result ℕ WriteFault) (old new : Option (List ℕ)) (f f' : ℕ) → Writes (canonical_octets T v) old f r new f' → WritesCanonical T v old r new
writes_canonical T v given computed limits fits (Ok n) old new f f' (is, few, app, same) = (canonical_octets T v, given T limits v fits (omega (arith, is, few)), is, app)
writes_canonical T v given computed limits fits (Err (Device k)) old new f f' (few, less, app, count) = (canonical_octets T v, given T limits v fits few, few, less, app)
writes_canonical T v given computed limits fits (Err TooLong) old new f f' (many, same, count) = (too_long T v computed many, same)

pub tells_too_long : (T : AsnType) (v : AsnValue) → CanonicalGiven → CanonicalComputed → KeepsLimits T → Fits T v → (r : Result ℕ WriteFault) (old new : Option (List ℕ)) (f f' : ℕ) → Writes (canonical_octets T v) old f r new f' → (r ≡ Err TooLong) ↔ IsTooLong T v
tells_too_long T v given computed limits fits (Ok n) old new f f' (is, few, app, same) = (λ e. absurd (cc e), λ long. absurd (not_both T v n (has_length T v given limits fits n is few) long))
tells_too_long T v given computed limits fits (Err (Device k)) old new f f' (few, less, app, count) = (λ e. absurd (cc e), λ long. absurd (not_both T v (length (canonical_octets T v)) (has_length T v given limits fits (length (canonical_octets T v)) refl few) long))
tells_too_long T v given computed limits fits (Err TooLong) old new f f' (many, same, count) = (λ e. too_long T v computed many, λ long. refl)

risen : (f f' : ℕ) → f' ≡ one_more f → (f < f') ⊎ (f' ≡ 2 ^ 64 - 1)
risen f f' count = grind (arith, count)

pub tells_failure : (octets : List ℕ) (r : Result ℕ WriteFault) (old new : Option (List ℕ)) (f f' : ℕ) → Writes octets old f r new f' → TellsFailure f r f'
tells_failure octets (Ok n) old new f f' (is, few, app, same) = (λ less. absurd (omega (arith, less, same)), λ h. absurd h)
tells_failure octets (Err (Device k)) old new f f' (few, less, app, count) = (λ rose. tt, λ h. risen f f' count)
tells_failure octets (Err TooLong) old new f f' (many, same, count) = (λ less. absurd (omega (arith, less, count)), λ h. absurd h)

pub writes_all : (T : AsnType) (v : AsnValue) → CanonicalComputed → (r : Result ℕ WriteFault) (old new : Option (List ℕ)) (f f' : ℕ) → Writes (canonical_octets T v) old f r new f' → WritesAll T v f r f'
writes_all T v computed (Ok m) old new f f' (is, few, app, same) n h below still = ap (λ (k : ℕ). Ok k) (is ∙ sym (only_length T v computed n h))
writes_all T v computed (Err (Device k)) old new f f' (few, less, app, count) n h below still = absurd (omega (arith, count, below, still))
writes_all T v computed (Err TooLong) old new f f' (many, same, count) n h below still = absurd (not_both T v n h (too_long T v computed many))
