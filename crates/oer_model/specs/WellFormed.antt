-- Which types are well-formed: the faults of types, each by itself, and the one of least number.
use Rattle.std.specs.Prelude.{◌≡◌, ℕ, suc, ◌<◌, ◌⊎◌, max, List, [], ◌∷◌, ◌++◌, Bool, true, false, ◌&&◌, ◌||◌, eqb, ℤ, ◌<ℤ◌, Option, Some, None, IsSomeAnd}
use Rattle.oer_units.specs.declared.tagging.Tag.{Tag}
use Rattle.oer_model.specs.Limits.{max_depth, max_parts}
use Rattle.oer_model.specs.LeafType.{string_size}
use Rattle.oer_model.specs.AsnType.{Additions, Alternatives, AsnType, Fields, NamedNumber, Need, addition, alternative, choice, default, enumerated, extensible_sequence, field, integer, later, leaf, may, must, no_additions, no_alternatives, no_fields, sequence, sequence_of}
use Rattle.oer_model.specs.Constraints.{KeepsLimits, is_within, may_be_empty}
use Rattle.oer_model.specs.Fits.{Fits}
use Rattle.oer_model.specs.Nodes.{type_nodes}
use Rattle.oer_model.specs.Widths.{HasWidths}
use Rattle.oer_model.specs.declared.size.Size.{Size}
use Rattle.oer_model.specs.declared.fault.SchemaFault.{SchemaFault}
use Rattle.oer_model.specs.declared.fault.SchemaFault.TheVariants.{TooDeep, TooManyParts, BoundOrder, SizeOrder, BadName, RepeatedName, NoItems, RepeatedNumber, RepeatedTag, DefaultMisfit, EmptyElement}

-- how many levels of types there are; a type without parts has one
abbrev mutual
  pub depth : AsnType → ℕ
  depth (leaf kind) = 1
  depth (sequence fs) = suc (fields_depth fs)
  depth (extensible_sequence fs more) = suc (max (fields_depth fs) (additions_depth more))
  depth (sequence_of s T) = suc (depth T)
  depth (choice extensible more) = suc (alternatives_depth more)

  pub fields_depth : Fields → ℕ
  fields_depth no_fields = 0
  fields_depth (field name need T fs) = max (depth T) (fields_depth fs)

  pub additions_depth : Additions → ℕ
  additions_depth no_additions = 0
  additions_depth (addition name T more) = max (depth T) (additions_depth more)

  pub alternatives_depth : Alternatives → ℕ
  alternatives_depth no_alternatives = 0
  alternatives_depth (alternative name t T more) = max (depth T) (alternatives_depth more)
  alternatives_depth (later name t T more) = max (depth T) (alternatives_depth more)

-- Q holds of the type or of a type in it
abbrev mutual
  pub Somewhere : (AsnType → Type 0) → AsnType → Type 0
  Somewhere Q (leaf kind) = Q (leaf kind)
  Somewhere Q (sequence fs) = Q (sequence fs) ⊎ InFields Q fs
  Somewhere Q (extensible_sequence fs more) = Q (extensible_sequence fs more) ⊎ (InFields Q fs ⊎ InAdditions Q more)
  Somewhere Q (sequence_of s T) = Q (sequence_of s T) ⊎ Somewhere Q T
  Somewhere Q (choice extensible more) = Q (choice extensible more) ⊎ InAlternatives Q more

  pub InFields : (AsnType → Type 0) → Fields → Type 0
  InFields Q no_fields = ⊥
  InFields Q (field name need T fs) = Somewhere Q T ⊎ InFields Q fs

  pub InAdditions : (AsnType → Type 0) → Additions → Type 0
  InAdditions Q no_additions = ⊥
  InAdditions Q (addition name T more) = Somewhere Q T ⊎ InAdditions Q more

  pub InAlternatives : (AsnType → Type 0) → Alternatives → Type 0
  InAlternatives Q no_alternatives = ⊥
  InAlternatives Q (alternative name t T more) = Somewhere Q T ⊎ InAlternatives Q more
  InAlternatives Q (later name t T more) = Somewhere Q T ⊎ InAlternatives Q more

-- the number is above the upper end, if there is one
abbrev pub IsBelow : Option ℕ → ℕ → Type 0
IsBelow None n = ⊥
IsBelow (Some high) n = high < n

-- P holds of one of them
abbrev pub AnyOf : {A : Type 0} → (A → Type 0) → List A → Type 0
AnyOf P [] = ⊥
AnyOf P (x ∷ xs) = P x ⊎ AnyOf P xs

-- one of them stands again further on
abbrev pub Repeats : {A : Type 0} → List A → Type 0
Repeats [] = ⊥
Repeats (x ∷ xs) = AnyOf (λ y. x ≡ y) xs ⊎ Repeats xs

-- a letter or a digit
abbrev pub is_alphanumeric : ℕ → Bool
is_alphanumeric x = is_within 97 122 x || is_within 65 90 x || is_within 48 57 x

-- letters, digits and hyphens, no hyphen last and no two together
abbrev mutual
  pub goes_on : List ℕ → Bool
  goes_on [] = true
  goes_on (x ∷ xs) = (is_alphanumeric x && goes_on xs) || (eqb x 45 && follows_hyphen xs)

  pub follows_hyphen : List ℕ → Bool
  follows_hyphen [] = false
  follows_hyphen (x ∷ xs) = is_alphanumeric x && goes_on xs

-- An identifier (X.680, 12.3): a letter a to z, then letters, digits and hyphens, no hyphen last and no two together.
abbrev pub is_identifier : List ℕ → Bool
is_identifier [] = false
is_identifier (x ∷ xs) = is_within 97 122 x && goes_on xs

abbrev pub field_names : Fields → List (List ℕ)
field_names no_fields = []
field_names (field name need T fs) = name ∷ field_names fs

abbrev pub addition_names : Additions → List (List ℕ)
addition_names no_additions = []
addition_names (addition name T more) = name ∷ addition_names more

abbrev pub alternative_names : Alternatives → List (List ℕ)
alternative_names no_alternatives = []
alternative_names (alternative name t T more) = name ∷ alternative_names more
alternative_names (later name t T more) = name ∷ alternative_names more

abbrev pub item_names : List NamedNumber → List (List ℕ)
item_names [] = []
item_names (x ∷ xs) = x.name ∷ item_names xs

abbrev pub item_numbers : List NamedNumber → List ℤ
item_numbers [] = []
item_numbers (x ∷ xs) = x.number ∷ item_numbers xs

abbrev pub alternative_tags : Alternatives → List Tag
alternative_tags no_alternatives = []
alternative_tags (alternative name t T more) = t ∷ alternative_tags more
alternative_tags (later name t T more) = t ∷ alternative_tags more

-- the names of a type's items, components or alternatives, those after the extension marker too
abbrev pub names : AsnType → List (List ℕ)
names (enumerated xs extensible) = item_names xs
names (sequence fs) = field_names fs
names (extensible_sequence fs more) = field_names fs ++ addition_names more
names (choice extensible more) = alternative_names more
names T = []

-- an INTEGER's lower bound is above its upper bound
abbrev pub HasCrossedBounds : AsnType → Type 0
HasCrossedBounds (integer (Some low) (Some high)) = high <ℤ low
HasCrossedBounds T = ⊥

-- the lower end is above the upper end
abbrev pub IsCrossed : Size → Type 0
IsCrossed s = IsBelow s.high s.low

-- a size's lower end is above its upper end
abbrev pub HasCrossedSize : AsnType → Type 0
HasCrossedSize (leaf kind) = IsSomeAnd (string_size kind) IsCrossed
HasCrossedSize (sequence_of s T) = IsCrossed s
HasCrossedSize T = ⊥

-- an ENUMERATED without items, or a CHOICE without alternatives before the extension marker
abbrev pub HasNoItems : AsnType → Type 0
HasNoItems (enumerated [] extensible) = Unit {0}
HasNoItems (choice extensible no_alternatives) = Unit {0}
HasNoItems (choice extensible (later name t T more)) = Unit {0}
HasNoItems T = ⊥

-- two items of an ENUMERATED have one number
abbrev pub HasRepeatedNumber : AsnType → Type 0
HasRepeatedNumber (enumerated xs extensible) = Repeats (item_numbers xs)
HasRepeatedNumber T = ⊥

-- two alternatives of a CHOICE have one tag
abbrev pub HasRepeatedTag : AsnType → Type 0
HasRepeatedTag (choice extensible more) = Repeats (alternative_tags more)
HasRepeatedTag T = ⊥

-- a default that doesn't fit its component's type
abbrev pub IsMisfit : AsnType → Need → Type 0
IsMisfit T must = ⊥
IsMisfit T may = ⊥
IsMisfit T (default d) = Fits T d → ⊥

abbrev pub AnyMisfit : Fields → Type 0
AnyMisfit no_fields = ⊥
AnyMisfit (field name need T fs) = IsMisfit T need ⊎ AnyMisfit fs

abbrev pub HasMisfit : AsnType → Type 0
HasMisfit (sequence fs) = AnyMisfit fs
HasMisfit (extensible_sequence fs more) = AnyMisfit fs
HasMisfit T = ⊥

-- the elements of a SEQUENCE OF may take no octets
abbrev pub HasEmptyElement : AsnType → Type 0
HasEmptyElement (sequence_of s T) = may_be_empty T ≡ true
HasEmptyElement T = ⊥

-- Where each fault holds. Its depth and its number of parts are of the whole type; every other fault is of a type in it, or of itself.
abbrev pub HasFault : AsnType → SchemaFault → Type 0
HasFault T TooDeep = max_depth < depth T
HasFault T TooManyParts = max_parts < type_nodes T
HasFault T BoundOrder = Somewhere HasCrossedBounds T
HasFault T SizeOrder = Somewhere HasCrossedSize T
HasFault T BadName = Somewhere (λ U. AnyOf (λ name. is_identifier name ≡ false) (names U)) T
HasFault T RepeatedName = Somewhere (λ U. Repeats (names U)) T
HasFault T NoItems = Somewhere HasNoItems T
HasFault T RepeatedNumber = Somewhere HasRepeatedNumber T
HasFault T RepeatedTag = Somewhere HasRepeatedTag T
HasFault T DefaultMisfit = Somewhere HasMisfit T
HasFault T EmptyElement = Somewhere HasEmptyElement T

abbrev pub fault_number : SchemaFault → ℕ
fault_number TooDeep = 1
fault_number TooManyParts = 2
fault_number BoundOrder = 3
fault_number SizeOrder = 4
fault_number BadName = 5
fault_number RepeatedName = 6
fault_number NoItems = 7
fault_number RepeatedNumber = 8
fault_number RepeatedTag = 9
fault_number DefaultMisfit = 10
fault_number EmptyElement = 11

-- the fault holds, and none of a smaller number
pub record IsFirstFault (T : AsnType) (fault : SchemaFault) : Type 0 where
  pub holds : HasFault T fault
  pub first : (other : SchemaFault) → fault_number other < fault_number fault → HasFault T other → ⊥

-- No fault holds, and the numbers in the type have the widths of those in every `Shape`. The limits follow from both;
-- they are what the laws on encodings ask for.
pub record IsWellFormed (T : AsnType) : Type 0 where
  pub faultless : (fault : SchemaFault) → HasFault T fault → ⊥
  pub widths : HasWidths T
  pub limits : KeepsLimits T
