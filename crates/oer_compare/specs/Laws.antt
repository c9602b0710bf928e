-- The laws.
use Rattle.std.specs.Prelude.{◌≡◌, ◌↔◌, None}
use Rattle.oer_model.specs.AsnType.{AsnType}
use Rattle.oer_model.specs.Laws.{IsOlder, Relays}
use Rattle.oer_nesting.specs.Defaults.{HasLeafDefaults}
use Rattle.oer_compare.specs.Difference.{differ}
use Rattle.oer_compare.specs.Extends.{Extends}

-- No difference is found exactly where the second type only adds to the first.
abbrev pub NoDifferenceExtends : Type 0
NoDifferenceExtends = (T U : AsnType) → (differ T U ≡ None) ↔ Extends T U

-- What the second type encodes is an encoding of the first.
abbrev pub ExtendedIsRead : Type 0
ExtendedIsRead = (T U : AsnType) → Extends T U → IsOlder T U

-- What the first relays is read by the second as the sender's value, filled, where only components have defaults whose types
-- hold no other.
abbrev pub ExtendedIsRelayed : Type 0
ExtendedIsRelayed = (T U : AsnType) → Extends T U → HasLeafDefaults T → Relays T U

-- Types that only add to each other are the same, and each type only adds to itself.
abbrev pub ExtendsBothWays : Type 0
ExtendsBothWays = (T U : AsnType) → (Extends T U × Extends U T) ↔ (T ≡ U)

-- What only adds to a type that only adds to another, only adds to that other.
abbrev pub ExtendsOnward : Type 0
ExtendsOnward = (T U V : AsnType) → Extends T U → Extends U V → Extends T V
