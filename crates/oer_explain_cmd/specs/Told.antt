-- The reason that is told of octets which the type rejects, and what is said of them.
use Rattle.std.specs.Prelude.{ℕ, List, length, leb, Bool, true, false, not, ◌||◌, Option, Some, None, is_some, if◌then◌else◌}
use Rattle.clap.specs.Words.{Text}
use Rattle.oer_units.specs.Reader.{at}
use Rattle.oer_units.specs.declared.fault.Why.{Why}
use Rattle.oer_units.specs.declared.fault.Why.TheVariants.{Device, End, Memory}
use Rattle.oer_model.specs.AsnType.{AsnType}
use Rattle.oer_model.specs.Reading.{read_value}
use Rattle.oer_options.specs.declared.options.Options.{Options}
use Rattle.oer_options.specs.declared.options.Task.{Task}
use Rattle.oer_options.specs.declared.options.Task.TheVariants.{Canon, Check, Part, Show}
use Rattle.oer_ends.specs.Nests.{nests_at}
use Rattle.oer_ends_cmd.specs.declared.telling.Origin.{Origin}
use Rattle.oer_ends_cmd.specs.declared.telling.Origin.TheVariants.{Modules, Notation}
use Rattle.oer_explain.specs.Octets.{SaysOf, check_why, why_in}

-- `check` and `part` take no more than the limit.
abbrev pub limited_why : ℕ → AsnType → List ℕ → Option Why
limited_why limit T b = if leb (length b) limit then check_why T b else None

-- Others read under it.
abbrev pub read_why : ℕ → AsnType → List ℕ → Option Why
read_why limit T b = why_in (read_value T (at b limit))

-- why a task rejects the octets b as it reads them, if it does
abbrev pub why_of : Task → ℕ → AsnType → List ℕ → Option Why
why_of (Check hex) limit T b = limited_why limit T b
why_of (Part hex path) limit T b = limited_why limit T b
why_of (Canon hex) limit T b = read_why limit T b
why_of (Show hex style) limit T b = read_why limit T b
why_of task limit T b = None

-- The machine failed, and it isn't told that the octets are rejected.
abbrev pub is_machine : Why → Bool
is_machine Memory = true
is_machine Device = true
is_machine why = false

-- The reason may only be that there are more octets.
abbrev pub is_cut : Bool → Why → Bool
is_cut is_whole End = not is_whole
is_cut is_whole why = false

-- They are told to nest deeper than the type is written out.
abbrev pub is_nested : Origin → AsnType → List ℕ → Bool
is_nested Notation T b = false
is_nested Modules T b = is_some (nests_at T b)

abbrev pub told_by : Origin → Bool → AsnType → List ℕ → Why → Option Why
told_by origin is_whole T b why = if is_cut is_whole why || is_nested origin T b then None else Some why

abbrev pub told_among : Origin → Bool → AsnType → List ℕ → Option Why → Option Why
told_among origin is_whole T b None = None
told_among origin is_whole T b (Some why) = told_by origin is_whole T b why

-- The reason that is told of the octets b by a type that is from there. is_whole: they are all that the task reads, and not only a front of it.
abbrev pub told_why : Origin → Options → Bool → AsnType → List ℕ → Option Why
told_why origin o is_whole T b = told_among origin is_whole T b (why_of o.task o.limit T b)

-- What is said of octets that the task rejects as it reads them; nothing, where it doesn't.
abbrev pub Says : Origin → Options → Bool → AsnType → List ℕ → Text → Type 0
Says origin o is_whole T b text = SaysOf T b (told_why origin o is_whole T b) text
