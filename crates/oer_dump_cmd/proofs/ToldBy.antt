-- What is told of octets that are rejected, by where the type is from.
use Rattle.std.proofs.Common.{◌≡◌, ◌∙◌, ℕ, ◌≤◌, Bool, true, false, List, Option, Some, None, Err, refl, ap}
use Rattle.std.specs.Prelude.{eqb, leb, length, ◌&&◌, if◌then◌else◌}
use Rattle.oer_model.specs.AsnType.{AsnType}
use Rattle.oer_parts.specs.declared.encoding.Encoding.{Encoding}
use Rattle.oer_cmd.specs.Answer.{checked}
use Rattle.oer_cmd.specs.Expected.{Meets, Refusal, refusal_of}
use Rattle.oer_cmd.specs.Faults.{status_of}
use Rattle.oer_ends.specs.Nests.{nests_at}
use Rattle.oer_ends_cmd.specs.Telling.{IsFaultTold, IsFaultToldBy, at_place, told}
use Rattle.oer_cmd.specs.declared.fault.Fault.{Fault}
use Rattle.oer_ends_cmd.proofs.Rejections.{lost_by}
use Rattle.oer_dump_cmd.proofs.Shown.{seen, unjudged}
use Rattle.oer_ends_cmd.specs.declared.telling.Origin.{Origin}
use Rattle.oer_ends_cmd.specs.declared.telling.Origin.TheVariants.{Modules, Notation}

-- Octets are rejected with status 1, also as it is told.
one_by : (t : Bool) (place : Option ℕ) (r : Refusal) → r.status ≡ 1 → (if t then at_place r place else r).status ≡ 1
one_by false place r one = one
one_by true None r one = one
one_by true (Some n) r one = refl

told_one : (T : AsnType) (limit : ℕ) (b : List ℕ) (fault other : Fault) → IsFaultTold T limit b fault other → Meets {X = Encoding} seen (checked T b) (Err fault)
    → status_of other ≤ 2 → status_of other ≡ 1
told_one T limit b fault other tells h small = ap (λ (r : Refusal). r.status) (tells.tells small)
    ∙ one_by (eqb (status_of fault) 1 && leb (length b) limit) (nests_at T b) (refusal_of fault) (unjudged T b fault h (tells.stays small))

pub unjudged_by : (origin : Origin) (limit : ℕ) (T : AsnType) (b : List ℕ) (fault other : Fault) → IsFaultToldBy origin T limit b fault other
    → Meets {X = Encoding} seen (checked T b) (Err fault) → status_of other ≤ 2 → status_of other ≡ 1
unjudged_by Notation limit T b fault other same h small = unjudged T b other (lost_by {X = Encoding} seen Notation T limit b (checked T b) fault other same h) small
unjudged_by Modules limit T b fault other tells h small = told_one T limit b fault other tells h small
