-- What the types of the code stand for.
use Rattle.std.specs.Prelude.{◌<◌, ℕ, List, length, map, option_map}
use Rattle.oer_module_lexer.specs.Token.{spots_of}
use Rattle.std.specs.List.{All}
use Rattle.std.specs.Option.{ForSome}
use Rattle.oer_module_syntax.specs.Tree.{Module}
use Rattle.oer_module_values.specs.Types.{Given}
use Rattle.oer_module_values.specs.Types as values
use Rattle.oer_module_values.specs.Views.{given_of, type_in}
use Rattle.oer_module_values.specs.declared.types.Meaning.{Meaning as RawMeaning}
use Rattle.oer_module_limits.specs.Sets.{Measure, number, size}
use Rattle.oer_module_limits.specs.Written.{Written}
use Rattle.oer_module_limits.specs.declared.measure.Measure as raw
use Rattle.oer_module_limits.specs.declared.measure.Measure.TheVariants as raws
use Rattle.oer_module_limits.specs.declared.written.Written.{Written as RawWritten}

abbrev pub measure_seen : raw.Measure → Measure
measure_seen (raws.Number g) = number (option_map type_in g)
measure_seen raws.Size = size

-- the type that governs stands in one of so many modules
abbrev pub IsMeasureWithin : ℕ → raw.Measure → Type 0
IsMeasureWithin n (raws.Number g) = ForSome g (λ t. t.«module» < n)
IsMeasureWithin n raws.Size = Unit {0}

-- what is given stands in one of the modules
abbrev pub IsGivenWithin : List Module → Given → Type 0
IsGivenWithin ms (values.constraints m ts) = m < length ms
IsGivenWithin ms (values.set m ts) = m < length ms

-- a type that was resolved, with all that is given on the way
pub record IsWithin (ms : List Module) (r : RawMeaning) : Type 0 where
  pub of : r.of.«module» < length ms
  pub given : All (λ g. IsGivenWithin ms (given_of g)) r.given.items

abbrev pub written_of : RawWritten → Written
written_of w = record { «module» = w.«module»; own = spots_of w.own.now; given = map given_of w.given.now }
