-- What the types of the code stand for.
use Rattle.std.specs.Prelude.{◌<◌, List, length, map, reverse}
use Rattle.oer_module_lexer.specs.Token.{spots_of}
use Rattle.oer_module_syntax.specs.Tree.{Module, tree_of, assignment_of}
use Rattle.oer_module_values.specs.Types.{TypeIn, Referent, Given, constraints, set, Meaning}
use Rattle.oer_module_terms.specs.Trees.{amount_of}
use Rattle.oer_module_values.specs.Numbers.{Governor, Wanted, Numeral, Outcome, reached, wants}
use Rattle.oer_module_values.specs.declared.governor.Governor.{Governor as RawGovernor}
use Rattle.oer_module_values.specs.declared.numbers.Wanted.{Wanted as RawWanted}
use Rattle.oer_module_values.specs.declared.numbers.Numeral.{Numeral as RawNumeral}
use Rattle.oer_module_values.specs.declared.numbers.Outcome as raw_outcome
use Rattle.oer_module_values.specs.declared.numbers.Outcome.TheVariants as raw_outcomes
use Rattle.oer_module_values.specs.declared.types.TypeIn.{TypeIn as RawTypeIn}
use Rattle.oer_module_values.specs.declared.types.Referent.{Referent as RawReferent}
use Rattle.oer_module_values.specs.declared.types.Given as raw_given
use Rattle.oer_module_values.specs.declared.types.Given.TheVariants as raw_givens
use Rattle.oer_module_values.specs.declared.types.Meaning.{Meaning as RawMeaning}

abbrev pub type_in : RawTypeIn → TypeIn
type_in t = record { «module» = t.«module»; type = tree_of t.syntax.now }

abbrev pub referent_of : RawReferent → Referent
referent_of r = record { «module» = r.«module»; assignment = assignment_of r.assignment.now }

abbrev pub given_of : raw_given.Given → Given
given_of (raw_givens.Constraints m ts) = constraints m (spots_of ts.now)
given_of (raw_givens.Set m ts) = set m (spots_of ts.now)

-- what is given on the way, where the nearest comes first
abbrev pub given_in : List raw_given.Given → List Given
given_in gs = reverse (map given_of gs)

abbrev pub meaning_of : RawMeaning → Meaning
meaning_of m = record { of = type_in m.of; given = map given_of m.given.items }

abbrev pub governor_of : RawGovernor → Governor
governor_of g = record { «module» = g.«module»; enumerated = g.enumerated; items = spots_of g.items.now }

abbrev pub wanted_of : RawWanted → Wanted
wanted_of q = record { place = q.place; governor = governor_of q.governor; amount = amount_of q.amount }

abbrev pub numeral_of : RawNumeral → Numeral
numeral_of n = record { place = n.place; negative = n.negative; digits = n.digits.now }

abbrev pub outcome_of : raw_outcome.Outcome → Outcome
outcome_of (raw_outcomes.Reached n) = reached (numeral_of n)
outcome_of (raw_outcomes.Wants q) = wants (wanted_of q)

-- the modules that are named are among those given
abbrev pub IsWantedWithin : List Module → RawWanted → Type 0
IsWantedWithin ms q = (q.place.«module» < length ms) × (q.governor.«module» < length ms)

abbrev pub IsOutcomeWithin : List Module → raw_outcome.Outcome → Type 0
IsOutcomeWithin ms (raw_outcomes.Reached n) = Unit {0}
IsOutcomeWithin ms (raw_outcomes.Wants q) = IsWantedWithin ms q
