-- What the types of the code stand for.
use Rattle.std.specs.Prelude.{◌<◌, ℕ, List, length, option_map}
use Rattle.oer_model.specs.AsnValue.{AsnValue}
use Rattle.oer_module_lexer.specs.Token.{spots_of}
use Rattle.oer_module_names.specs.Views.{modules_in}
use Rattle.oer_module_names.specs.declared.error.Place.{Place}
use Rattle.oer_module_syntax.specs.Tree.{Module, Tree, tree_of}
use Rattle.oer_module_terms.specs.Trees.{Value, value_of}
use Rattle.oer_module_text.specs.Errors.{Read}
use Rattle.oer_module_text.specs.Room.{Room}
use Rattle.oer_module_values.specs.Looks.{path_seen}
use Rattle.oer_module_values.specs.Types.{TypeIn}
use Rattle.oer_module_values.specs.Views.{type_in}
use Rattle.oer_module_defaults.specs.Alternatives.{Alternative}
use Rattle.oer_module_defaults.specs.Components.{Component, roots_at}
use Rattle.oer_module_defaults.specs.Defaults.{Target, value_at}
use Rattle.oer_module_defaults.specs.Governors.{governor_of}
use Rattle.oer_module_defaults.specs.Slots.{Entry, Slot}
use Rattle.oer_module_defaults.specs.Walks.{Source, Literal, Outcome, reached, goes, Name}
use Rattle.oer_module_defaults.specs.declared.alternative.Alternative.{Alternative as RawAlternative}
use Rattle.oer_module_defaults.specs.declared.component.Component.{Component as RawComponent}
use Rattle.oer_module_defaults.specs.declared.scope.Scope.{Scope}
use Rattle.oer_module_defaults.specs.declared.slot.Entry.{Entry as RawEntry}
use Rattle.oer_module_defaults.specs.declared.slot.Slot.{Slot as RawSlot}
use Rattle.oer_module_defaults.specs.declared.step.Name.{Name as RawName}
use Rattle.oer_module_defaults.specs.declared.step.Outcome as raw
use Rattle.oer_module_defaults.specs.declared.step.Outcome.TheVariants as raws
use Rattle.oer_module_defaults.specs.declared.step.Source.{Source as RawSource}
use Rattle.oer_module_defaults.specs.declared.walk.Literal.{Literal as RawLiteral}
use Rattle.oer_module_defaults.specs.declared.write.Given.{Given as RawGiven}
use Rattle.oer_module_defaults.specs.declared.write.Target.{Target as RawTarget}

abbrev pub source_of : RawSource → Source
source_of s = record { «module» = s.«module»; governor = governor_of s.governor; spots = spots_of s.spots.now }

abbrev pub literal_of : RawLiteral → Literal
literal_of l = record { place = l.place; governor = governor_of l.governor; value = value_of l.value }

abbrev pub outcome_of : raw.Outcome → Outcome
outcome_of (raws.Reached v) = reached (value_of v)
outcome_of (raws.Goes s) = goes (source_of s)

abbrev pub name_seen : RawName → Name
name_seen n = record { name = n.name.now; path = path_seen n.path }

abbrev pub component_of : RawComponent → Component
component_of c =
    record { «module» = c.«module»; name = c.name.now; type = tree_of c.from.now; optional = c.optional; added = c.added }

abbrev pub entry_of : RawEntry → Entry
entry_of e = record { at = e.at; name = e.name.now; value = value_of e.value.now }

abbrev pub slot_of : RawSlot → Slot
slot_of s = record { component = component_of s.component; value = option_map (λ v. value_of v.now) s.value }

abbrev pub alternative_of : RawAlternative → Alternative
alternative_of a = record { of = type_in a.of; tag = a.tag }

abbrev pub target_of : RawTarget → Target
target_of t = record { of = type_in t.of; governor = governor_of t.governor }

abbrev pub given_of : RawGiven → Literal
given_of g = record { place = g.place; governor = governor_of g.governor; value = value_of g.value.now }

abbrev pub modules_of : Scope → List Module
modules_of s = modules_in s.names.now

-- the components for which each COMPONENTS OF stands, in which so many levels of them may nest
abbrev pub roots_of : Scope → ℕ → Place → Tree → List Component → Room → Read (List Component × Room)
roots_of s levels = roots_at (modules_of s) levels

-- and each value in which so many levels of values may nest
abbrev pub values_at : Scope → ℕ → TypeIn → ℕ → Value → Room → Read (AsnValue × Room)
values_at s levels = value_at (modules_of s) levels

-- the modules that are named are among those given
abbrev pub IsSourceWithin : List Module → RawSource → Type 0
IsSourceWithin ms s = (s.«module» < length ms) × (s.governor.«module» < length ms)

abbrev pub IsLiteralWithin : List Module → RawLiteral → Type 0
IsLiteralWithin ms l = (l.place.«module» < length ms) × (l.governor.«module» < length ms)

abbrev pub IsOutcomeWithin : List Module → raw.Outcome → Type 0
IsOutcomeWithin ms (raws.Reached v) = Unit {0}
IsOutcomeWithin ms (raws.Goes s) = IsSourceWithin ms s

abbrev pub IsComponentWithin : List Module → RawComponent → Type 0
IsComponentWithin ms c = c.«module» < length ms

abbrev pub IsSlotWithin : List Module → RawSlot → Type 0
IsSlotWithin ms s = IsComponentWithin ms s.component

abbrev pub IsTargetWithin : List Module → RawTarget → Type 0
IsTargetWithin ms t = (t.of.«module» < length ms) × (t.governor.«module» < length ms)

abbrev pub IsGivenWithin : List Module → RawGiven → Type 0
IsGivenWithin ms g = (g.place.«module» < length ms) × (g.governor.«module» < length ms)
