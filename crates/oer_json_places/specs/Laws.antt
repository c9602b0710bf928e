-- What holds of the place at which JSON is rejected.
use Rattle.std.specs.Prelude.{◌≡◌, Some, None, Err, Ok}
use Rattle.serde_json.specs.Data.{Data}
use Rattle.oer_model.specs.AsnType.{AsnType}
use Rattle.oer_model.specs.AsnValue.{AsnValue}
use Rattle.oer_model.specs.WellFormed.{IsWellFormed}
use Rattle.oer_json.specs.Take.{taken}
use Rattle.oer_json_places.specs.Leads.{IsWrong, Leads, LeadsBy}
use Rattle.oer_json_places.specs.Next.{Hop, itself}
use Rattle.oer_json_places.specs.Place.{Spot, place_of}

-- The way leads to a part. Its type rejects the part with the fault with which the whole is rejected, and what is said to be wrong is true.
pub record IsPlace (T : AsnType) (j : Data) (spot : Spot) : Type 0 where
  pub leads : Leads T j spot.path spot.type spot.json
  pub whole : taken T j ≡ Err spot.fault
  pub part : taken spot.type spot.json ≡ Err spot.fault
  pub wrong : IsWrong spot.fault spot.type spot.json spot.wrong

abbrev pub PlacesAreRejected : Type 0
PlacesAreRejected = (T : AsnType) (j : Data) (spot : Spot) → place_of T j ≡ Some spot → IsPlace T j spot

-- There is none only where the JSON is taken as a value.
abbrev pub NoneIsTaken : Type 0
NoneIsTaken = (T : AsnType) (j : Data) → place_of T j ≡ None → (v : AsnValue) × (taken T j ≡ Ok v)

-- Where nothing is said to be wrong but the part as it stands, no step leads on to a part that is rejected with the same fault.
abbrev pub PlacesAreInnermost : Type 0
PlacesAreInnermost = (T : AsnType) → IsWellFormed T → (j : Data) (spot : Spot) → place_of T j ≡ Some spot → spot.wrong ≡ itself
    → (hop : Hop) (U : AsnType) (d : Data) → LeadsBy hop spot.type spot.json U d → taken U d ≡ Err spot.fault → ⊥
