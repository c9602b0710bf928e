-- Names that stand for types, and types that are well-formed.
use Rattle.std.proofs.Common.{◌≡◌, ℕ, ◌+◌, ◌-◌, ◌≤◌, ◌<◌, List, Some, Ok, Err, zero, suc, ⊎_elim, refl, ap, ◌∙◌, arith, lt-ltb}
use Rattle.std.proofs.lemmas.Bool.{cases_lt, le-ltb}
use Rattle.oer_model.specs.AsnType.{AsnType}
use Rattle.oer_model.specs.Laws.{FirstFaultFound, NoFaultFound}
use Rattle.oer_model.specs.Nodes.{type_nodes}
use Rattle.oer_model.specs.WellFormed.{depth, IsFirstFault, IsWellFormed}
use Rattle.oer_model.specs.declared.fault.SchemaFault.{SchemaFault}
use Rattle.oer_model.specs.declared.fault.SchemaFault.TheVariants.{TooDeep}
use Rattle.oer_model.specs.Limits.{max_depth, max_parts}
use Rattle.oer_model.proofs.fitting.Leaves.{some_depth}
use Rattle.oer_notation.specs.Parsing.{faultless, checked, definition_at}
use Rattle.oer_notation.specs.Reading.{Known, entered, find, named_at, of_name, start_at, too_deep, type_at, type_by, with_parts, word_type}
use Rattle.oer_value_notation.specs.State.{State, fault, bump, full}
use Rattle.oer_value_notation.specs.declared.fault.TextWhy.TheVariants as why

pub named_deep : (levels : ℕ) (T : AsnType) (s : State) → levels < depth T → named_at levels (Some T) s ≡ Err (fault (why.Schema TooDeep) s)
unfolding named_at
named_deep levels T s h = rw (lt-ltb levels (depth T) h) refl

pub named_none : (T : AsnType) (s : State) → named_at 0 (Some T) s ≡ Err (fault (why.Schema TooDeep) s)
named_none T s = named_deep 0 T s (some_depth T)

pub named_full : (levels : ℕ) (T : AsnType) (s : State) → depth T ≤ levels → s.parts < type_nodes T → named_at levels (Some T) s ≡ Err (full s)
unfolding named_at
named_full levels T s d h = rw (le-ltb levels (depth T) d, lt-ltb s.parts (type_nodes T) h) refl

pub named_taken : (levels : ℕ) (T : AsnType) (s : State) (rest : ℕ) → depth T ≤ levels → rest + type_nodes T ≡ s.parts → named_at levels (Some T) s ≡ Ok (T, bump (with_parts rest s))
unfolding named_at
named_taken levels T s rest d h =
    let few : type_nodes T ≤ s.parts = omega arith in
    let left : s.parts - type_nodes T ≡ rest = omega arith in
    rw (le-ltb levels (depth T) d, le-ltb s.parts (type_nodes T) few, left) refl

pub checked_well : NoFaultFound → (T : AsnType) (at : ℕ) (s : State) → IsWellFormed T → checked T at s ≡ Ok (T, s)
unfolding checked
checked_well law T at s w = ap (λ o. faultless o T at s) ((law T).1 w.faultless)

pub checked_fault : FirstFaultFound → (T : AsnType) (at : ℕ) (s : State) (f : SchemaFault) → IsFirstFault T f → checked T at s ≡ Err (record { at = at; why = why.Schema f })
unfolding checked
checked_fault law T at s f h = ap (λ o. faultless o T at s) ((law T f).1 h)

pub definition_ok : NoFaultFound → (known : List Known) (s : State) (T : AsnType) (r : State) → type_at known max_depth (with_parts max_parts s) ≡ Ok (T, r) → IsWellFormed T → definition_at known s ≡ Ok (T, r)
unfolding definition_at
definition_ok law known s T r h w = rw h (checked_well law T (fault why.Syntax s).at r w)

pub definition_fault : FirstFaultFound → (known : List Known) (s : State) (T : AsnType) (r : State) (f : SchemaFault) → type_at known max_depth (with_parts max_parts s) ≡ Ok (T, r) → IsFirstFault T f → definition_at known s ≡ Err (record { at = (fault why.Syntax s).at; why = why.Schema f })
unfolding definition_at
definition_fault law known s T r f h w = rw h (checked_fault law T (fault why.Syntax s).at r f w)

pub type_named : (known : List Known) (levels : ℕ) (s : State) (w : List ℕ) → start_at s ≡ of_name w → type_at known levels s ≡ named_at levels (find known w) s
unfolding type_at
type_named known zero s w h = ap (λ b. type_by known (too_deep known) zero b s) h
type_named known (suc levels) s w h = ap (λ b. type_by known (entered known (word_type (type_at known levels))) (suc levels) b s) h

start_kept : (n : ℕ) (s : State) → start_at (with_parts n s) ≡ start_at s
unfolding start_at
start_kept n s = refl

-- a definition that is only the Name of a well-formed type has that type
pub definition_named : NoFaultFound → (known : List Known) (s : State) (w : List ℕ) (T : AsnType) (rest : ℕ) → start_at s ≡ of_name w → find known w ≡ Some T → IsWellFormed T → rest + type_nodes T ≡ max_parts → definition_at known s ≡ Ok (T, bump (with_parts rest s))
definition_named law known s w T rest at found well parts =
    let shallow : depth T ≤ max_depth = ⊎_elim (λ l. absurd (well.faultless TooDeep l)) (λ g. g) (cases_lt max_depth (depth T)) in
    let whole = with_parts max_parts s in
    definition_ok law known s T (bump (with_parts rest s))
    (type_named known max_depth whole w (start_kept max_parts s ∙ at) ∙ ap (λ o. named_at max_depth o whole) found ∙ named_taken max_depth T whole rest shallow parts)
    well
