-- A type that is well-formed without the sizes of its lists has no more levels and parts than modules allow.
use Rattle.std.proofs.Common.{◌≡◌, ◌≤◌, ◌∷◌, Bool, true, false, Option, Some, None, refl, subst, if◌then◌else◌}
use Rattle.std.specs.Prelude.{ltb}
use Rattle.std.proofs.lemmas.Bool.{ltb-false}
use Rattle.oer_model.specs.AsnType.{AsnType}
use Rattle.oer_model.specs.FaultTest.{first_fault, first_in, later_faults}
use Rattle.oer_model.specs.Limits.{max_depth, max_parts}
use Rattle.oer_model.specs.Nodes.{type_nodes}
use Rattle.oer_model.specs.WellFormed.{depth}
use Rattle.oer_model.specs.declared.fault.SchemaFault.{SchemaFault}
use Rattle.oer_model.specs.declared.fault.SchemaFault.TheVariants.{TooDeep, TooManyParts}
use Rattle.oer_same_types.specs.Unsized.{unsized}
use Rattle.oer_same_types.proofs.Sound.{depth_same, parts_same}

-- the first of the faults isn't there, and none of the others
not_first : (b : Bool) (f : SchemaFault) (o : Option SchemaFault) → (if b then Some f else o) ≡ None → (b ≡ false) × (o ≡ None)
not_first true f o e = absurd (cc)
not_first false f o e = (refl, e)

pub record IsWithin (T : AsnType) : Type 0 where
  pub levels : depth T ≤ 32
  pub parts : type_nodes T ≤ 4096

pub is_within : (T : AsnType) → first_fault (unsized T) ≡ None → IsWithin T
is_within T none =
    let deep = not_first (ltb max_depth (depth (unsized T))) TooDeep (first_in (unsized T) (TooManyParts ∷ later_faults)) none in
    let many = not_first (ltb max_parts (type_nodes (unsized T))) TooManyParts (first_in (unsized T) later_faults) deep.1 in
    let few_levels : depth (unsized T) ≤ max_depth = ltb-false max_depth (depth (unsized T)) deep.0 in
    let few_parts : type_nodes (unsized T) ≤ max_parts = ltb-false max_parts (type_nodes (unsized T)) many.0 in
    record {
      levels = subst (λ n. n ≤ 32) (depth_same T) few_levels;
      parts = subst (λ n. n ≤ 4096) (parts_same T) few_parts;
    }
