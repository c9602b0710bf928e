-- The faults of types, as tests.
use Rattle.std.specs.Prelude.{ℕ, List, [], ◌∷◌, Bool, true, false, not, ◌||◌, ltb, if◌then◌else◌, int_lt, Option, Some, None}
use Rattle.std.specs.Str.{bytes_eq}
use Rattle.oer_model.specs.Limits.{max_depth, max_parts}
use Rattle.oer_model.specs.LeafType.{string_size}
use Rattle.oer_model.specs.AsnType.{Additions, Alternatives, AsnType, Fields, NamedNumber, Need, addition, alternative, choice, default, enumerated, extensible_sequence, field, integer, later, leaf, may, must, no_additions, no_alternatives, no_fields, sequence, sequence_of}
use Rattle.oer_model.specs.Constraints.{has_number, has_tag, may_be_empty}
use Rattle.oer_model.specs.FitTest.{is_fit}
use Rattle.oer_model.specs.Nodes.{type_nodes}
use Rattle.oer_model.specs.WellFormed.{depth, follows_hyphen, goes_on, is_identifier, names}
use Rattle.oer_model.specs.declared.size.Size.{Size}
use Rattle.oer_model.specs.declared.fault.SchemaFault.{SchemaFault}
use Rattle.oer_model.specs.declared.fault.SchemaFault.TheVariants.{TooDeep, TooManyParts, BoundOrder, SizeOrder, BadName, RepeatedName, NoItems, RepeatedNumber, RepeatedTag, DefaultMisfit, EmptyElement}

abbrev mutual
  pub somewhere : (AsnType → Bool) → AsnType → Bool
  somewhere q (sequence fs) = q (sequence fs) || in_fields q fs
  somewhere q (extensible_sequence fs more) = q (extensible_sequence fs more) || (in_fields q fs || in_additions q more)
  somewhere q (sequence_of s T) = q (sequence_of s T) || somewhere q T
  somewhere q (choice extensible more) = q (choice extensible more) || in_alternatives q more
  somewhere q T = q T

  pub in_fields : (AsnType → Bool) → Fields → Bool
  in_fields q no_fields = false
  in_fields q (field name need T fs) = somewhere q T || in_fields q fs

  pub in_additions : (AsnType → Bool) → Additions → Bool
  in_additions q no_additions = false
  in_additions q (addition name T more) = somewhere q T || in_additions q more

  pub in_alternatives : (AsnType → Bool) → Alternatives → Bool
  in_alternatives q no_alternatives = false
  in_alternatives q (alternative name t T more) = somewhere q T || in_alternatives q more
  in_alternatives q (later name t T more) = somewhere q T || in_alternatives q more

-- what follows in a name, where a hyphen stands in front of it or none
abbrev pub rest_after : Bool → List ℕ → Bool
rest_after true xs = follows_hyphen xs
rest_after false xs = goes_on xs

abbrev pub any_bad_name : List (List ℕ) → Bool
any_bad_name [] = false
any_bad_name (x ∷ xs) = not (is_identifier x) || any_bad_name xs

abbrev pub contains_name : List ℕ → List (List ℕ) → Bool
contains_name name [] = false
contains_name name (x ∷ xs) = bytes_eq x name || contains_name name xs

abbrev pub names_repeat : List (List ℕ) → Bool
names_repeat [] = false
names_repeat (x ∷ xs) = contains_name x xs || names_repeat xs

abbrev pub numbers_repeat : List NamedNumber → Bool
numbers_repeat [] = false
numbers_repeat (x ∷ xs) = has_number xs x.number || numbers_repeat xs

abbrev pub tags_repeat : Alternatives → Bool
tags_repeat no_alternatives = false
tags_repeat (alternative name t T more) = has_tag t more || tags_repeat more
tags_repeat (later name t T more) = has_tag t more || tags_repeat more

abbrev pub has_crossed_bounds : AsnType → Bool
has_crossed_bounds (integer (Some low) (Some high)) = int_lt high low
has_crossed_bounds T = false

abbrev pub is_below : Option ℕ → ℕ → Bool
is_below None n = false
is_below (Some high) n = ltb high n

abbrev pub is_crossed : Size → Bool
is_crossed s = is_below s.high s.low

abbrev pub has_crossed_string_size : Option Size → Bool
has_crossed_string_size None = false
has_crossed_string_size (Some s) = is_crossed s

abbrev pub has_crossed_size : AsnType → Bool
has_crossed_size (leaf kind) = has_crossed_string_size (string_size kind)
has_crossed_size (sequence_of s T) = is_crossed s
has_crossed_size T = false

abbrev pub has_no_items : AsnType → Bool
has_no_items (enumerated [] extensible) = true
has_no_items (choice extensible no_alternatives) = true
has_no_items (choice extensible (later name t T more)) = true
has_no_items T = false

abbrev pub has_repeated_number : AsnType → Bool
has_repeated_number (enumerated xs extensible) = numbers_repeat xs
has_repeated_number T = false

abbrev pub has_repeated_tag : AsnType → Bool
has_repeated_tag (choice extensible more) = tags_repeat more
has_repeated_tag T = false

abbrev pub is_misfit : AsnType → Need → Bool
is_misfit T must = false
is_misfit T may = false
is_misfit T (default d) = not (is_fit T d)

abbrev pub any_misfit : Fields → Bool
any_misfit no_fields = false
any_misfit (field name need T fs) = is_misfit T need || any_misfit fs

abbrev pub has_misfit : AsnType → Bool
has_misfit (sequence fs) = any_misfit fs
has_misfit (extensible_sequence fs more) = any_misfit fs
has_misfit T = false

abbrev pub has_empty_element : AsnType → Bool
has_empty_element (sequence_of s T) = may_be_empty T
has_empty_element T = false

-- of the type itself, whatever the types in it have
abbrev pub has_fault_here : SchemaFault → AsnType → Bool
has_fault_here TooDeep T = false
has_fault_here TooManyParts T = false
has_fault_here BoundOrder T = has_crossed_bounds T
has_fault_here SizeOrder T = has_crossed_size T
has_fault_here BadName T = any_bad_name (names T)
has_fault_here RepeatedName T = names_repeat (names T)
has_fault_here NoItems T = has_no_items T
has_fault_here RepeatedNumber T = has_repeated_number T
has_fault_here RepeatedTag T = has_repeated_tag T
has_fault_here DefaultMisfit T = has_misfit T
has_fault_here EmptyElement T = has_empty_element T

-- of the type or of a type in it
abbrev pub has_fault : SchemaFault → AsnType → Bool
has_fault TooDeep T = ltb max_depth (depth T)
has_fault TooManyParts T = ltb max_parts (type_nodes T)
has_fault fault T = somewhere (has_fault_here fault) T

-- the faults after the first two, in the order of their numbers
abbrev pub later_faults : List SchemaFault
later_faults = BoundOrder ∷ SizeOrder ∷ BadName ∷ RepeatedName ∷ NoItems ∷ RepeatedNumber ∷ RepeatedTag ∷ DefaultMisfit ∷ EmptyElement ∷ []

-- the first of the list that the type has
abbrev pub first_in : AsnType → List SchemaFault → Option SchemaFault
first_in T [] = None
first_in T (f ∷ fs) = if has_fault f T then Some f else first_in T fs

abbrev pub first_fault : AsnType → Option SchemaFault
first_fault T = first_in T (TooDeep ∷ TooManyParts ∷ later_faults)
