-- Parts of JSON, and what may be wrong with one.
use Rattle.std.specs.Prelude.{◌≡◌, ◌⊎◌, ℕ, List, [], ◌∷◌, false, Some, None}
use Rattle.serde_json.specs.Data as json
use Rattle.serde_json.specs.Data.{Data, Members}
use Rattle.serde_json.specs.Find.{at, get, get_member}
use Rattle.oer_model.specs.AsnType.{Additions, AsnType, Fields, addition, choice, extensible_sequence, field, no_additions, no_fields, sequence, sequence_of}
use Rattle.oer_model.specs.FitTest.{may_be_absent}
use Rattle.oer_model.specs.WellFormed.{AnyOf, addition_names, field_names}
use Rattle.oer_json.specs.Keys.{is_among, keys_of}
use Rattle.oer_json.specs.Take.{is_key}
use Rattle.oer_json.specs.declared.fault.JsonFault.{JsonFault}
use Rattle.oer_json.specs.declared.fault.JsonFault.TheVariants.{Missing}
use Rattle.oer_json_places.specs.Next.{Hop, Wrong, alternative_named, element, itself, key, missing_key, unknown_key}

-- a component has the name and the type
abbrev pub HasField : Fields → List ℕ → AsnType → Type 0
HasField no_fields name U = ⊥
HasField (field n need T fs) name U = ((n ≡ name) × (T ≡ U)) ⊎ HasField fs name U

-- an addition has them
abbrev pub HasAddition : Additions → List ℕ → AsnType → Type 0
HasAddition no_additions name U = ⊥
HasAddition (addition n T more) name U = ((n ≡ name) × (T ≡ U)) ⊎ HasAddition more name U

-- a component, an addition or an alternative has them
abbrev pub HasPart : AsnType → List ℕ → AsnType → Type 0
HasPart (sequence fs) name U = HasField fs name U
HasPart (extensible_sequence fs more) name U = HasField fs name U ⊎ HasAddition more name U
HasPart (choice extensible more) name U = alternative_named more name ≡ Some U
HasPart T name U = ⊥

-- U is the type of elements
abbrev pub IsOfElements : AsnType → AsnType → Type 0
IsOfElements (sequence_of size T) U = T ≡ U
IsOfElements T U = ⊥

-- d is what a key of JSON of type T has; of a CHOICE it is the one key
abbrev pub Holds : AsnType → List ℕ → Data → Data → Type 0
Holds (choice extensible more) k j d = j ≡ json.object (json.member k d json.no_members)
Holds T k j d = get k j ≡ Some d

-- from JSON of type T the step leads to d, of type U: to what a key has, or to an element
abbrev pub LeadsBy : Hop → AsnType → Data → AsnType → Data → Type 0
LeadsBy (key k) T j U d = HasPart T k U × Holds T k j d
LeadsBy (element n) T j U d = IsOfElements T U × (at n j ≡ Some d)

-- so do these steps, one after another
abbrev pub Leads : AsnType → Data → List Hop → AsnType → Data → Type 0
Leads T j [] U d = (T ≡ U) × (j ≡ d)
Leads T j (hop ∷ hops) U d = (V : AsnType) × (e : Data) × LeadsBy hop T j V e × Leads V e hops U d

-- one of the keys of an object
abbrev pub HasKey : Members → List ℕ → Type 0
HasKey ms k = AnyOf (λ l. l ≡ k) (keys_of ms)

-- the type has no part with this key
abbrev pub HasNoKey : AsnType → List ℕ → Type 0
HasNoKey (sequence fs) k = is_among (field_names fs) k ≡ false
HasNoKey (extensible_sequence fs more) k = is_key (field_names fs) (addition_names more) k ≡ false
HasNoKey (choice extensible more) k = alternative_named more k ≡ None
HasNoKey T k = ⊥

-- a component with the name must be there
abbrev pub MustHave : Fields → List ℕ → Type 0
MustHave no_fields name = ⊥
MustHave (field n need T fs) name = ((n ≡ name) × (may_be_absent need ≡ false)) ⊎ MustHave fs name

abbrev pub Needs : AsnType → List ℕ → Type 0
Needs (sequence fs) name = MustHave fs name
Needs (extensible_sequence fs more) name = MustHave fs name
Needs T name = ⊥

-- What is said of JSON of a type is true: the object has a key that the type doesn't have; or it doesn't have that of a component that must be
-- there, and the fault is Missing; or nothing is said.
abbrev pub IsWrong : JsonFault → AsnType → Data → Wrong → Type 0
IsWrong fault T j (unknown_key k) = (ms : Members) × (j ≡ json.object ms) × HasKey ms k × HasNoKey T k
IsWrong fault T j (missing_key name) = (ms : Members) × (j ≡ json.object ms) × (get_member name ms ≡ None) × Needs T name × (fault ≡ Missing)
IsWrong fault T j itself = Unit {0}
