-- The code's types, as the definitions see them.
use Rattle.std.specs.Prelude.{List, map, Option, Some, None, Vec}
use Rattle.std.specs.Global.{Global}
use Rattle.serde_json.specs.View.{view}
use Rattle.oer_model.specs.AsnType.{Alternatives, no_alternatives}
use Rattle.oer_values.specs.ShapeView.{later_of, root_of, type_of}
use Rattle.oer_values.specs.declared.shape.Alt.{Alt}
use Rattle.oer_json_places.specs.Next as plain
use Rattle.oer_json_places.specs.Next.{Hop, Wrong, element, into, itself, key, missing_key, stop, unknown_key}
use Rattle.oer_json_places.specs.Place.{Spot}
use Rattle.oer_json_places.specs.declared.part.Next.{Next}
use Rattle.oer_json_places.specs.declared.part.Next.TheVariants.{Into, Stop}
use Rattle.oer_json_places.specs.declared.part.Step.{Step}
use Rattle.oer_json_places.specs.declared.part.Step.TheVariants.{Element, Key}
use Rattle.oer_json_places.specs.declared.part.Trouble.{Trouble}
use Rattle.oer_json_places.specs.declared.part.Trouble.TheVariants.{Itself, MissingKey, UnknownKey}
use Rattle.oer_json_places.specs.declared.part.JsonPlace.{JsonPlace}

abbrev pub hop_of : Step → Hop
hop_of (Key k) = key k.now
hop_of (Element n) = element n

abbrev pub wrong_of : Trouble → Wrong
wrong_of (UnknownKey k) = unknown_key k.now
wrong_of (MissingKey k) = missing_key k.now
wrong_of Itself = itself

abbrev pub next_of : Next → plain.Next
next_of (Into part) = into (hop_of part.step) (type_of part.shape.now) (view part.json.now)
next_of (Stop trouble) = stop (wrong_of trouble)

abbrev pub hops_of : List Step → List Hop
hops_of steps = map hop_of steps

abbrev pub spot_of : JsonPlace → Spot
spot_of p = record { path = hops_of p.path.items; fault = p.fault; type = type_of p.shape.now; json = view p.json.now; wrong = wrong_of p.trouble }

-- the alternatives of a CHOICE
abbrev pub alternatives_with : List Alt → Option (Vec Alt Global) → Alternatives
alternatives_with root None = root_of root no_alternatives
alternatives_with root (Some more) = root_of root (later_of more.items)
