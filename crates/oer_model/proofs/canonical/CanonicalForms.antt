-- Canonical octets, without what is said of fits and octets.
use Rattle.std.proofs.Common.{ℕ, List}
use Rattle.oer_units.specs.Octets.{IsOctets}
use Rattle.oer_model.proofs.fitting.Fitting.{enc_fits}
use Rattle.oer_model.proofs.canonical.StrictEnc.{HasCanonicalForm, strict_within}
use Rattle.oer_model.specs.AsnType.{AsnType}
use Rattle.oer_model.specs.AsnValue.{AsnValue}
use Rattle.oer_model.specs.Constraints.{KeepsLimits}
use Rattle.oer_model.specs.Encoding.{Encodes, IsSpelling}
use Rattle.oer_model.specs.Fits.{Fits}
use Rattle.oer_model.specs.Strict.{IsCanonical}

pub form_of_canonical : (T : AsnType) (v : AsnValue) (b : List ℕ) → IsCanonical T v b → HasCanonicalForm T v b
form_of_canonical T v b (f, w, e, (o, g, s)) = (w, e, s)

pub canonical_octets_are : (T : AsnType) (v : AsnValue) (b : List ℕ) → IsCanonical T v b → IsOctets b
canonical_octets_are T v b (f, w, e, (o, g, s)) = o

pub canonical_of_form : (T : AsnType) → KeepsLimits T → (v : AsnValue) (b : List ℕ) → Fits T v → IsOctets b → HasCanonicalForm T v b → IsCanonical T v b
canonical_of_form T wf v b f o (w, e, s) = (f, w, e, (o, enc_fits T wf w b o (strict_within T w b s), s))

pub encodes_from : (T : AsnType) → KeepsLimits T → (v : AsnValue) (b : List ℕ) → IsOctets b → IsSpelling T v b → Encodes T v b
encodes_from T wf v b o s = (o, enc_fits T wf v b o s, s)
