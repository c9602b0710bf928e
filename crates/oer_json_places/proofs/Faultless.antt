-- No fault holds of the parts of a type of which none holds.
use Rattle.std.proofs.Common.{◌≡◌, ℕ, suc, ◌+◌, ◌<◌, ◌≤◌, max, Option, Some, None, IfSome, false, inl, inr, arith, List, Bool, true, cond, Vec, Global}
use Rattle.std.specs.Str.{bytes_eq}
use Rattle.oer_model.specs.AsnType.{Additions, Alternatives, AsnType, Fields, addition, alternative, choice, extensible_sequence, field, later, no_additions, no_alternatives, no_fields, sequence, sequence_of}
use Rattle.oer_model.specs.Nodes.{additions_nodes, alternatives_nodes, fields_nodes, type_nodes}
use Rattle.oer_model.specs.WellFormed.{AnyOf, HasCrossedBounds, HasCrossedSize, HasEmptyElement, HasFault, HasMisfit, HasNoItems, HasRepeatedNumber, HasRepeatedTag, InAdditions, InAlternatives, InFields, IsWellFormed, Repeats, Somewhere, additions_depth, alternatives_depth, depth, fields_depth, is_identifier, names}
use Rattle.oer_model.specs.declared.fault.SchemaFault.{SchemaFault}
use Rattle.oer_model.specs.declared.fault.SchemaFault.TheVariants.{TooDeep, TooManyParts, BoundOrder, SizeOrder, BadName, RepeatedName, NoItems, RepeatedNumber, RepeatedTag, DefaultMisfit, EmptyElement}
use Rattle.oer_json_places.specs.Faultless.{AdditionsAreFaultless, AlternativesAreFaultless, FieldsAreFaultless, IsFaultless}
use Rattle.oer_values.specs.ShapeView.{choice_with}
use Rattle.oer_values.specs.declared.shape.Alt.{Alt}
use Rattle.oer_json_places.specs.Next.{alternative_named}
use Rattle.oer_json_places.specs.Views.{alternatives_with}

-- what holds somewhere in U holds somewhere in T
lift : (T U : AsnType) → depth U ≤ depth T → type_nodes U ≤ type_nodes T → ((Q : AsnType → Type 0) → Somewhere Q U → Somewhere Q T)
    → (f : SchemaFault) → HasFault U f → HasFault T f
lift T U d n s TooDeep h = deeper (depth U) (depth T) d h where
  deeper : (a b : ℕ) → a ≤ b → 32 < a → 32 < b
  deeper a b e g = omega arith
lift T U d n s TooManyParts h = more (type_nodes U) (type_nodes T) n h where
  more : (a b : ℕ) → a ≤ b → 4096 < a → 4096 < b
  more a b e g = omega arith
lift T U d n s BoundOrder h = s HasCrossedBounds h
lift T U d n s SizeOrder h = s HasCrossedSize h
lift T U d n s BadName h = s (λ V. AnyOf (λ name. is_identifier name ≡ false) (names V)) h
lift T U d n s RepeatedName h = s (λ V. Repeats (names V)) h
lift T U d n s NoItems h = s HasNoItems h
lift T U d n s RepeatedNumber h = s HasRepeatedNumber h
lift T U d n s RepeatedTag h = s HasRepeatedTag h
lift T U d n s DefaultMisfit h = s HasMisfit h
lift T U d n s EmptyElement h = s HasEmptyElement h

within : (T U : AsnType) → IsFaultless T → depth U ≤ depth T → type_nodes U ≤ type_nodes T → ((Q : AsnType → Type 0) → Somewhere Q U
    → Somewhere Q T) → IsFaultless U
within T U w d n s = record { faultless = λ f h. w.faultless f (lift T U d n s f h) }

max_first : (a b c : ℕ) → max a b ≤ c → a ≤ c
max_first a b c h = omega arith

max_second : (a b c : ℕ) → max a b ≤ c → b ≤ c
max_second a b c h = omega arith

sum_first : (a b c : ℕ) → a + b ≤ c → a ≤ c
sum_first a b c h = omega arith

sum_second : (a b c : ℕ) → a + b ≤ c → b ≤ c
sum_second a b c h = omega arith

behind_max : (a b : ℕ) → a ≤ suc (max a b)
behind_max a b = omega arith

behind_max_second : (a b : ℕ) → b ≤ suc (max a b)
behind_max_second a b = omega arith

behind_sum : (a b : ℕ) → a ≤ suc (a + b)
behind_sum a b = omega arith

behind_sum_second : (a b : ℕ) → b ≤ suc (a + b)
behind_sum_second a b = omega arith

one_more : (a : ℕ) → a ≤ suc a
one_more a = omega arith

fields_within : (T : AsnType) → IsFaultless T → (fs : Fields) → fields_depth fs ≤ depth T → fields_nodes fs ≤ type_nodes T
    → ((Q : AsnType → Type 0) → InFields Q fs → Somewhere Q T) → FieldsAreFaultless fs
fields_within T w no_fields d n s = tt
fields_within T w (field name need U fs) d n s = (
  within T U w (max_first (depth U) (fields_depth fs) (depth T) d) (sum_first (type_nodes U) (fields_nodes fs) (type_nodes T) n)
      (λ Q h. s Q (inl h)),
  fields_within T w fs (max_second (depth U) (fields_depth fs) (depth T) d) (sum_second (type_nodes U) (fields_nodes fs)
      (type_nodes T) n) (λ Q h. s Q (inr h)),
)

additions_within : (T : AsnType) → IsFaultless T → (more : Additions) → additions_depth more ≤ depth T → additions_nodes more ≤ type_nodes T
    → ((Q : AsnType → Type 0) → InAdditions Q more → Somewhere Q T) → AdditionsAreFaultless more
additions_within T w no_additions d n s = tt
additions_within T w (addition name U more) d n s = (
  within T U w (max_first (depth U) (additions_depth more) (depth T) d) (sum_first (type_nodes U) (additions_nodes more)
      (type_nodes T) n) (λ Q h. s Q (inl h)),
  additions_within T w more (max_second (depth U) (additions_depth more) (depth T) d) (sum_second (type_nodes U) (additions_nodes more)
      (type_nodes T) n) (λ Q h. s Q (inr h)),
)

alternatives_within : (T : AsnType) → IsFaultless T → (more : Alternatives) → alternatives_depth more ≤ depth T
    → alternatives_nodes more ≤ type_nodes T
    → ((Q : AsnType → Type 0) → InAlternatives Q more → Somewhere Q T) → AlternativesAreFaultless more
alternatives_within T w no_alternatives d n s = tt
alternatives_within T w (alternative name t U more) d n s = (
  within T U w (max_first (depth U) (alternatives_depth more) (depth T) d) (sum_first (type_nodes U) (alternatives_nodes more)
      (type_nodes T) n) (λ Q h. s Q (inl h)),
  alternatives_within T w more (max_second (depth U) (alternatives_depth more) (depth T) d) (sum_second (type_nodes U)
      (alternatives_nodes more) (type_nodes T) n) (λ Q h. s Q (inr h)),
)
alternatives_within T w (later name t U more) d n s = (
  within T U w (max_first (depth U) (alternatives_depth more) (depth T) d) (sum_first (type_nodes U) (alternatives_nodes more)
      (type_nodes T) n) (λ Q h. s Q (inl h)),
  alternatives_within T w more (max_second (depth U) (alternatives_depth more) (depth T) d) (sum_second (type_nodes U)
      (alternatives_nodes more) (type_nodes T) n) (λ Q h. s Q (inr h)),
)

pub of_sequence : (fs : Fields) → IsFaultless (sequence fs) → FieldsAreFaultless fs
of_sequence fs w = fields_within (sequence fs) w fs (one_more (fields_depth fs)) (one_more (fields_nodes fs)) (λ Q h. inr h)

pub of_root : (fs : Fields) (more : Additions) → IsFaultless (extensible_sequence fs more) → FieldsAreFaultless fs
of_root fs more w = fields_within (extensible_sequence fs more) w fs (behind_max (fields_depth fs) (additions_depth more)) (behind_sum
    (fields_nodes fs) (additions_nodes more)) (λ Q h. inr (inl h))

pub of_additions : (fs : Fields) (more : Additions) → IsFaultless (extensible_sequence fs more) → AdditionsAreFaultless more
of_additions fs more w = additions_within (extensible_sequence fs more) w more (behind_max_second (fields_depth fs)
    (additions_depth more)) (behind_sum_second (fields_nodes fs) (additions_nodes more)) (λ Q h. inr (inr h))

pub of_choice : (extensible : Bool) (more : Alternatives) → IsFaultless (choice extensible more) → AlternativesAreFaultless more
of_choice extensible more w = alternatives_within (choice extensible more) w more (one_more (alternatives_depth more)) (one_more
    (alternatives_nodes more)) (λ Q h. inr h)

pub of_item : (s : _) (T : AsnType) → IsFaultless (sequence_of s T) → IsFaultless T
of_item s T w = within (sequence_of s T) T w (one_more (depth T)) (one_more (type_nodes T)) (λ Q h. inr h)

pub of_whole : (T : AsnType) → IsWellFormed T → IsFaultless T
of_whole T w = record { faultless = w.faultless }

of_either : (b : Bool) (U : AsnType) (o : Option AsnType) → IsFaultless U → IfSome o IsFaultless → IfSome (cond b (Some U) o) IsFaultless
of_either true U o h g = h
of_either false U o h g = g

-- that of the alternative with a name
pub of_named : (more : Alternatives) (name : List ℕ) → AlternativesAreFaultless more → IfSome (alternative_named more name) IsFaultless
of_named no_alternatives name h = tt
of_named (alternative n t U more) name h = of_either (bytes_eq n name) U (alternative_named more name) h.0 (of_named more name h.1)
of_named (later n t U more) name h = of_either (bytes_eq n name) U (alternative_named more name) h.0 (of_named more name h.1)

pub of_choice_with : (root : List Alt) (additions : Option (Vec Alt Global)) → IsFaultless (choice_with root additions)
    → AlternativesAreFaultless (alternatives_with root additions)
of_choice_with root None w = of_choice false (alternatives_with root None) w
of_choice_with root (Some more) w = of_choice true (alternatives_with root (Some more)) w
