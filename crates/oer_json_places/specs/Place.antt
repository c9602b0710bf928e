-- The innermost part of JSON that is rejected.
use Rattle.std.specs.Prelude.{ℕ, zero, suc, List, [], ◌∷◌, ◌++◌, Option, Some, None}
use Rattle.serde_json.specs.Data.{Data}
use Rattle.oer_model.specs.AsnType.{AsnType}
use Rattle.oer_model.specs.Limits.{max_depth}
use Rattle.oer_json.specs.declared.fault.JsonFault.{JsonFault}
use Rattle.oer_json_places.specs.Next.{Hop, Next, Wrong, into, itself, next, stop}
use Rattle.oer_json_places.specs.Rejected.{fault_of}

-- a part, the way to it, the fault with which it is rejected, and what is wrong
pub record Spot : Type 0 where
  pub path : List Hop
  pub fault : JsonFault
  pub type : AsnType
  pub json : Data
  pub wrong : Wrong

abbrev pub here : JsonFault → AsnType → Data → Wrong → Spot
here fault T j w = record { path = []; fault = fault; type = T; json = j; wrong = w }

-- the way goes on behind these steps
abbrev pub behind : List Hop → Spot → Spot
behind hops spot = record { path = hops ++ spot.path; fault = spot.fault; type = spot.type; json = spot.json; wrong = spot.wrong }

abbrev pub onward : JsonFault → AsnType → Data → Next → (AsnType → Data → Spot) → Spot
onward fault T j (stop w) go = here fault T j w
onward fault T j (into hop U d) go = behind (hop ∷ []) (go U d)

-- down into the part that is at fault, and so on, n steps at most
unfoldable pub down : ℕ → JsonFault → AsnType → Data → Spot
down zero fault T j = here fault T j itself
down (suc n) fault T j = onward fault T j (next fault T j) (down n fault)

abbrev pub place_by : Option JsonFault → AsnType → Data → Option Spot
place_by None T j = None
place_by (Some fault) T j = Some (down max_depth fault T j)

-- The innermost part that is rejected, where the type rejects the JSON.
abbrev pub place_of : AsnType → Data → Option Spot
place_of T j = place_by (fault_of T j) T j
