-- The components of a SEQUENCE, or the alternatives of a CHOICE, as they come, with their types.
use Rattle.std.specs.Prelude.{ℕ, List, [], ◌∷◌, ◌++◌, map, Bool, true, false, Option, Some, None, if◌then◌else◌}
use Rattle.oer_model.specs.AsnType.{AsnType, Need, choice, extensible_sequence, no_alternatives, sequence}
use Rattle.oer_units.specs.declared.tagging.Tag.{Tag}
use Rattle.oer_values.specs.ShapeView.{SeenAddition, SeenAlternative, SeenField, additions_from, fields_from, later_from, root_from}
use Rattle.oer_values.specs.ShapeView.{seen_addition, seen_alternative, seen_field}
use Rattle.oer_module_types.specs.declared.gathered.Gathered.{Gathered as RawGathered}

-- What stands between braces so far, and whether the marker is among it. Behind the marker components are additions, and
-- alternatives come later.
pub record Gathered : Type 0 where
  pub fields : List SeenField
  pub additions : List SeenAddition
  pub alternatives : List SeenAlternative
  pub later : List SeenAlternative
  pub marked : Bool

unfoldable pub gathered_of : RawGathered → Gathered
gathered_of g = record {
  fields = map seen_field g.fields.items;
  additions = map seen_addition g.additions.items;
  alternatives = map seen_alternative g.alternatives.items;
  later = map seen_alternative g.later.items;
  marked = g.marked;
}

unfoldable pub empty : Gathered
empty = record { fields = []; additions = []; alternatives = []; later = []; marked = false }

unfoldable pub with_marker : Gathered → Gathered
with_marker g = record { fields = g.fields; additions = g.additions; alternatives = g.alternatives; later = g.later; marked = true }

-- ---- a component or an alternative more, behind all others

abbrev pub with_field : SeenField → Gathered → Gathered
with_field f g =
    record { fields = g.fields ++ f ∷ []; additions = g.additions; alternatives = g.alternatives; later = g.later; marked = g.marked }

abbrev pub with_addition : SeenAddition → Gathered → Gathered
with_addition a g =
    record { fields = g.fields; additions = g.additions ++ a ∷ []; alternatives = g.alternatives; later = g.later; marked = g.marked }

abbrev pub with_root : SeenAlternative → Gathered → Gathered
with_root a g =
    record { fields = g.fields; additions = g.additions; alternatives = g.alternatives ++ a ∷ []; later = g.later; marked = g.marked }

abbrev pub with_later : SeenAlternative → Gathered → Gathered
with_later a g =
    record { fields = g.fields; additions = g.additions; alternatives = g.alternatives; later = g.later ++ a ∷ []; marked = g.marked }

-- a component of the root, or an addition, which has no need of its own
unfoldable pub with_component : List ℕ → Need → AsnType → Gathered → Gathered
with_component name need type g =
    if g.marked then with_addition (record { name = name; type = type }) g
    else with_field (record { name = name; need = need; type = type }) g

unfoldable pub with_alternative : List ℕ → Tag → AsnType → Gathered → Gathered
with_alternative name tag type g =
    if g.marked then with_later (record { name = name; tag = tag; type = type }) g
    else with_root (record { name = name; tag = tag; type = type }) g

-- an alternative has a tag, and a component has none
unfoldable pub with_part : Option Tag → List ℕ → Need → AsnType → Gathered → Gathered
with_part None name need type g = with_component name need type g
with_part (Some tag) name need type g = with_alternative name tag type g

-- ---- all of them

unfoldable pub sequence_in : Gathered → AsnType
sequence_in g =
    if g.marked then extensible_sequence (fields_from g.fields) (additions_from g.additions) else sequence (fields_from g.fields)

unfoldable pub choice_in : Gathered → AsnType
choice_in g =
    if g.marked then choice true (root_from g.alternatives (later_from g.later))
    else choice false (root_from g.alternatives no_alternatives)
