-- A fault of a type without the sizes of its lists is one of the type.
use Rattle.std.proofs.Common.{◌≡◌, ◌∙◌, ◌<◌, ℕ, suc, ◌+◌, List, ◌++◌, ◌∷◌, Bool, true, false, ◌&&◌, inl, inr, refl, ap, subst}
use Rattle.std.specs.Prelude.{eqb, max}
use Rattle.oer_units.specs.declared.tagging.Tag.{Tag}
use Rattle.oer_model.specs.AsnType.{Additions, Alternatives, AsnType, Fields, Need, addition, alternative, choice, default, extensible_sequence}
use Rattle.oer_model.specs.AsnType.{field, later, leaf, may, must, no_additions, no_alternatives, no_fields, sequence, sequence_of}
use Rattle.oer_model.specs.Constraints.{may_all_be_empty, may_be_empty, optional, optional_with}
use Rattle.oer_model.specs.Laws.{NoFaultFound}
use Rattle.oer_model.specs.Limits.{max_depth, max_parts}
use Rattle.oer_model.specs.Nodes.{additions_nodes, alternatives_nodes, fields_nodes, type_nodes}
use Rattle.oer_model.specs.WellFormed.{AnyMisfit, AnyOf, HasCrossedBounds, HasCrossedSize, HasEmptyElement, HasFault, HasMisfit, HasNoItems, HasRepeatedNumber, HasRepeatedTag, InAdditions, InAlternatives, InFields}
use Rattle.oer_model.specs.WellFormed.{IsMisfit, Repeats, Somewhere, addition_names, additions_depth, alternative_names, alternative_tags, alternatives_depth, depth, field_names, fields_depth, is_identifier, names}
use Rattle.oer_model.specs.declared.fault.SchemaFault.{SchemaFault}
use Rattle.oer_model.specs.declared.fault.SchemaFault.TheVariants.{TooDeep, TooManyParts, BoundOrder, SizeOrder, BadName}
use Rattle.oer_model.specs.declared.fault.SchemaFault.TheVariants.{RepeatedName, NoItems, RepeatedNumber, RepeatedTag, DefaultMisfit, EmptyElement}
use Rattle.oer_same_types.specs.Laws.{UnsizedIsSound}
use Rattle.oer_same_types.specs.Unsized.{unsized, unsized_additions, unsized_alternatives, unsized_fields}
use Rattle.oer_same_types.proofs.SoundFits.{fits_unsized}

-- sizes are neither levels nor parts
mutual
  pub depth_same : (T : AsnType) → depth (unsized T) ≡ depth T
  depth_same (leaf L) = refl
  depth_same (sequence fs) = ap suc (fields_depth_same fs)
  depth_same (extensible_sequence fs more) =
      ap (λ n. suc (max n (additions_depth (unsized_additions more)))) (fields_depth_same fs) ∙ ap (λ n. suc (max (fields_depth fs) n)) (additions_depth_same more)
  depth_same (sequence_of size T) = ap suc (depth_same T)
  depth_same (choice marker more) = ap suc (alternatives_depth_same more)

  fields_depth_same : (fs : Fields) → fields_depth (unsized_fields fs) ≡ fields_depth fs
  fields_depth_same no_fields = refl
  fields_depth_same (field w need T fs) = ap (λ n. max n (fields_depth (unsized_fields fs))) (depth_same T) ∙ ap (max (depth T)) (fields_depth_same fs)

  additions_depth_same : (more : Additions) → additions_depth (unsized_additions more) ≡ additions_depth more
  additions_depth_same no_additions = refl
  additions_depth_same (addition w T more) =
      ap (λ n. max n (additions_depth (unsized_additions more))) (depth_same T) ∙ ap (max (depth T)) (additions_depth_same more)

  alternatives_depth_same : (more : Alternatives) → alternatives_depth (unsized_alternatives more) ≡ alternatives_depth more
  alternatives_depth_same no_alternatives = refl
  alternatives_depth_same (alternative w t T more) =
      ap (λ n. max n (alternatives_depth (unsized_alternatives more))) (depth_same T) ∙ ap (max (depth T)) (alternatives_depth_same more)
  alternatives_depth_same (later w t T more) =
      ap (λ n. max n (alternatives_depth (unsized_alternatives more))) (depth_same T) ∙ ap (max (depth T)) (alternatives_depth_same more)

mutual
  pub parts_same : (T : AsnType) → type_nodes (unsized T) ≡ type_nodes T
  parts_same (leaf L) = refl
  parts_same (sequence fs) = ap suc (fields_same fs)
  parts_same (extensible_sequence fs more) =
      ap (λ n. suc (n + additions_nodes (unsized_additions more))) (fields_same fs) ∙ ap (λ n. suc (fields_nodes fs + n)) (additions_same more)
  parts_same (sequence_of size T) = ap suc (parts_same T)
  parts_same (choice marker more) = ap suc (alternatives_same more)

  fields_same : (fs : Fields) → fields_nodes (unsized_fields fs) ≡ fields_nodes fs
  fields_same no_fields = refl
  fields_same (field w need T fs) = ap (λ n. n + fields_nodes (unsized_fields fs)) (parts_same T) ∙ ap (λ n. type_nodes T + n) (fields_same fs)

  additions_same : (more : Additions) → additions_nodes (unsized_additions more) ≡ additions_nodes more
  additions_same no_additions = refl
  additions_same (addition w T more) = ap (λ n. n + additions_nodes (unsized_additions more)) (parts_same T) ∙ ap (λ n. type_nodes T + n) (additions_same more)

  alternatives_same : (more : Alternatives) → alternatives_nodes (unsized_alternatives more) ≡ alternatives_nodes more
  alternatives_same no_alternatives = refl
  alternatives_same (alternative w t T more) =
      ap (λ n. n + alternatives_nodes (unsized_alternatives more)) (parts_same T) ∙ ap (λ n. type_nodes T + n) (alternatives_same more)
  alternatives_same (later w t T more) =
      ap (λ n. n + alternatives_nodes (unsized_alternatives more)) (parts_same T) ∙ ap (λ n. type_nodes T + n) (alternatives_same more)

-- ---- what is kept of each type is kept of the types in it

module _ (Q : AsnType → Type 0) (kept : (U : AsnType) → Q (unsized U) → Q U) where
  mutual
    somewhere_kept : (T : AsnType) → Somewhere Q (unsized T) → Somewhere Q T
    somewhere_kept (leaf kind) h = h
    somewhere_kept (sequence fs) (inl h) = inl (kept (sequence fs) h)
    somewhere_kept (sequence fs) (inr h) = inr (in_fields_kept fs h)
    somewhere_kept (extensible_sequence fs more) (inl h) = inl (kept (extensible_sequence fs more) h)
    somewhere_kept (extensible_sequence fs more) (inr (inl h)) = inr (inl (in_fields_kept fs h))
    somewhere_kept (extensible_sequence fs more) (inr (inr h)) = inr (inr (in_additions_kept more h))
    somewhere_kept (sequence_of size T) (inl h) = inl (kept (sequence_of size T) h)
    somewhere_kept (sequence_of size T) (inr h) = inr (somewhere_kept T h)
    somewhere_kept (choice extensible more) (inl h) = inl (kept (choice extensible more) h)
    somewhere_kept (choice extensible more) (inr h) = inr (in_alternatives_kept more h)

    in_fields_kept : (fs : Fields) → InFields Q (unsized_fields fs) → InFields Q fs
    in_fields_kept no_fields h = h
    in_fields_kept (field w need T fs) (inl h) = inl (somewhere_kept T h)
    in_fields_kept (field w need T fs) (inr h) = inr (in_fields_kept fs h)

    in_additions_kept : (more : Additions) → InAdditions Q (unsized_additions more) → InAdditions Q more
    in_additions_kept no_additions h = h
    in_additions_kept (addition w T more) (inl h) = inl (somewhere_kept T h)
    in_additions_kept (addition w T more) (inr h) = inr (in_additions_kept more h)

    in_alternatives_kept : (more : Alternatives) → InAlternatives Q (unsized_alternatives more) → InAlternatives Q more
    in_alternatives_kept no_alternatives h = h
    in_alternatives_kept (alternative w t T more) (inl h) = inl (somewhere_kept T h)
    in_alternatives_kept (alternative w t T more) (inr h) = inr (in_alternatives_kept more h)
    in_alternatives_kept (later w t T more) (inl h) = inl (somewhere_kept T h)
    in_alternatives_kept (later w t T more) (inr h) = inr (in_alternatives_kept more h)

-- ---- names and tags

field_names_same : (fs : Fields) → field_names (unsized_fields fs) ≡ field_names fs
field_names_same no_fields = refl
field_names_same (field w need T fs) = ap (λ (ws : List (List ℕ)). w ∷ ws) (field_names_same fs)

addition_names_same : (more : Additions) → addition_names (unsized_additions more) ≡ addition_names more
addition_names_same no_additions = refl
addition_names_same (addition w T more) = ap (λ (ws : List (List ℕ)). w ∷ ws) (addition_names_same more)

alternative_names_same : (more : Alternatives) → alternative_names (unsized_alternatives more) ≡ alternative_names more
alternative_names_same no_alternatives = refl
alternative_names_same (alternative w t T more) = ap (λ (ws : List (List ℕ)). w ∷ ws) (alternative_names_same more)
alternative_names_same (later w t T more) = ap (λ (ws : List (List ℕ)). w ∷ ws) (alternative_names_same more)

names_same : (T : AsnType) → names (unsized T) ≡ names T
names_same (leaf kind) = refl
names_same (sequence fs) = field_names_same fs
names_same (extensible_sequence fs more) =
    ap (λ ws. ws ++ addition_names (unsized_additions more)) (field_names_same fs) ∙ ap (λ ws. field_names fs ++ ws) (addition_names_same more)
names_same (sequence_of size T) = refl
names_same (choice extensible more) = alternative_names_same more

tags_same : (more : Alternatives) → alternative_tags (unsized_alternatives more) ≡ alternative_tags more
tags_same no_alternatives = refl
tags_same (alternative w t T more) = ap (λ (ts : List Tag). t ∷ ts) (tags_same more)
tags_same (later w t T more) = ap (λ (ts : List Tag). t ∷ ts) (tags_same more)

-- ---- what may take no octets

optional_same : (fs : Fields) → optional (unsized_fields fs) ≡ optional fs
optional_same no_fields = refl
optional_same (field w need T fs) = ap (optional_with need) (optional_same fs)

mutual
  empty_same : (T : AsnType) → may_be_empty (unsized T) ≡ may_be_empty T
  empty_same (leaf kind) = refl
  empty_same (sequence fs) =
      ap (λ n. eqb n 0 && may_all_be_empty (unsized_fields fs)) (optional_same fs) ∙ ap (λ b. eqb (optional fs) 0 && b) (all_empty_same fs)
  empty_same (extensible_sequence fs more) = refl
  empty_same (sequence_of size T) = refl
  empty_same (choice extensible more) = refl

  all_empty_same : (fs : Fields) → may_all_be_empty (unsized_fields fs) ≡ may_all_be_empty fs
  all_empty_same no_fields = refl
  all_empty_same (field w need T fs) =
      ap (λ b. b && may_all_be_empty (unsized_fields fs)) (empty_same T) ∙ ap (λ b. may_be_empty T && b) (all_empty_same fs)

-- ---- the faults of a type itself

bounds_kept : (T : AsnType) → HasCrossedBounds (unsized T) → HasCrossedBounds T
bounds_kept (leaf kind) h = h
bounds_kept _ h = h

-- any size is a size whose ends aren't crossed
sizes_kept : (T : AsnType) → HasCrossedSize (unsized T) → HasCrossedSize T
sizes_kept (sequence_of size T) h = absurd h
sizes_kept _ h = h

items_kept : (T : AsnType) → HasNoItems (unsized T) → HasNoItems T
items_kept (choice extensible no_alternatives) h = h
items_kept (choice extensible (alternative w t T more)) h = h
items_kept (choice extensible (later w t T more)) h = h
items_kept _ h = h

numbers_kept : (T : AsnType) → HasRepeatedNumber (unsized T) → HasRepeatedNumber T
numbers_kept (leaf kind) h = h
numbers_kept _ h = h

tags_kept : (T : AsnType) → HasRepeatedTag (unsized T) → HasRepeatedTag T
tags_kept (choice extensible more) h = subst (λ (ts : List Tag). Repeats ts) (tags_same more) h
tags_kept _ h = h

misfit_kept : (T : AsnType) (need : Need) → IsMisfit (unsized T) need → IsMisfit T need
misfit_kept T must h = h
misfit_kept T may h = h
misfit_kept T (default d) h = λ fits. h (fits_unsized T d fits)

any_misfit_kept : (fs : Fields) → AnyMisfit (unsized_fields fs) → AnyMisfit fs
any_misfit_kept no_fields h = h
any_misfit_kept (field w need T fs) (inl h) = inl (misfit_kept T need h)
any_misfit_kept (field w need T fs) (inr h) = inr (any_misfit_kept fs h)

misfits_kept : (T : AsnType) → HasMisfit (unsized T) → HasMisfit T
misfits_kept (sequence fs) h = any_misfit_kept fs h
misfits_kept (extensible_sequence fs more) h = any_misfit_kept fs h
misfits_kept _ h = h

elements_kept : (T : AsnType) → HasEmptyElement (unsized T) → HasEmptyElement T
elements_kept (sequence_of size T) h = subst (λ (b : Bool). b ≡ true) (empty_same T) h
elements_kept _ h = h

-- ---- all faults

fault_kept : (T : AsnType) (fault : SchemaFault) → HasFault (unsized T) fault → HasFault T fault
fault_kept T TooDeep h = subst (λ (n : ℕ). max_depth < n) (depth_same T) h
fault_kept T TooManyParts h = subst (λ (n : ℕ). max_parts < n) (parts_same T) h
fault_kept T BoundOrder h = somewhere_kept HasCrossedBounds bounds_kept T h
fault_kept T SizeOrder h = somewhere_kept HasCrossedSize sizes_kept T h
fault_kept T BadName h =
    somewhere_kept (λ U. AnyOf (λ name. is_identifier name ≡ false) (names U)) (λ U. subst (AnyOf (λ name. is_identifier name ≡ false)) (names_same U)) T h
fault_kept T RepeatedName h = somewhere_kept (λ U. Repeats (names U)) (λ U. subst (λ (ws : List (List ℕ)). Repeats ws) (names_same U)) T h
fault_kept T NoItems h = somewhere_kept HasNoItems items_kept T h
fault_kept T RepeatedNumber h = somewhere_kept HasRepeatedNumber numbers_kept T h
fault_kept T RepeatedTag h = somewhere_kept HasRepeatedTag tags_kept T h
fault_kept T DefaultMisfit h = somewhere_kept HasMisfit misfits_kept T h
fault_kept T EmptyElement h = somewhere_kept HasEmptyElement elements_kept T h

pub unsized_sound : NoFaultFound → UnsizedIsSound
unsized_sound law T sound = (law (unsized T)).1 (λ fault h. sound.faultless fault (fault_kept T fault h))
