-- What the types of the code stand for.
use Rattle.std.specs.Prelude.{◌<◌, List, length}
use Rattle.oer_module_syntax.specs.Tree.{Module}
use Rattle.oer_module_values.specs.Views.{type_in}
use Rattle.oer_module_tags.specs.Outermost.{Outcome, found, next}
use Rattle.oer_module_tags.specs.declared.outermost.Outcome as raw
use Rattle.oer_module_tags.specs.declared.outermost.Outcome.TheVariants as raws

abbrev pub outcome_of : raw.Outcome → Outcome
outcome_of (raws.Found t) = found t
outcome_of (raws.Next t) = next (type_in t)

-- the type that comes next stands in one of the modules
abbrev pub IsOutcomeWithin : List Module → raw.Outcome → Type 0
IsOutcomeWithin ms (raws.Found t) = Unit {0}
IsOutcomeWithin ms (raws.Next t) = t.«module» < length ms
