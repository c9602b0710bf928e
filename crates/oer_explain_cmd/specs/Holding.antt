-- JSON or octets on the input, all of which the command reads, and which are held while it runs.
use Rattle.std.specs.Prelude.{◌≡◌, ◌⊎◌, ℕ, List, [], Bool, true, false, ◌&&◌, ◌||◌, Option, Some, None}
use Rattle.clap.specs.Words.{Text}
use Rattle.oer_model.specs.AsnType.{AsnType}
use Rattle.oer_ends.specs.Ends.{has_end}
use Rattle.oer_ends_cmd.specs.declared.telling.Origin.TheVariants.{Modules}
use Rattle.oer_explain.specs.Json.{json_notes, type_json_notes, types_json_notes}
use Rattle.oer_options.specs.Words.{Texts, texts_of}
use Rattle.oer_options.specs.declared.options.Options.{Options}
use Rattle.oer_options.specs.declared.options.Task.{Task}
use Rattle.oer_options.specs.declared.options.Task.TheVariants.{Check, Make}
use Rattle.oer_explain_cmd.specs.Adding.{Adds}
use Rattle.oer_explain_cmd.specs.Looking.{is_accepted, reads_octets}
use Rattle.oer_explain_cmd.specs.Told.{Says}
use Rattle.oer_explain_cmd.specs.Found.{type_by}
use Rattle.oer_explain_cmd.specs.Leading.{Leads, LeadsBy}
use Rattle.oer_explain_cmd.specs.Saying.{AddsSaid, HintsAt, SaysBy}
use Rattle.oer_explain_cmd.specs.declared.adding.Command.{Command}
use Rattle.oer_explain_cmd.specs.declared.adding.Command.TheVariants.{At, Canonical, Usual}

-- The task takes JSON from the input, or all octets before it looks at them.
abbrev pub takes_all : Task → Bool
takes_all (Make None) = true
takes_all (Check None) = true
takes_all _ = false

-- `part` comes to read octets only by its path or names.
abbrev pub reads_all : Command → Task → Bool
reads_all Usual task = takes_all task
reads_all Canonical task = takes_all task
reads_all (At names) task = false

-- By a type of modules that has an end `canon` and `show` do so, too.
abbrev pub reads_all_for : Command → AsnType → Task → Bool
reads_all_for command T task = reads_all command task || (reads_octets command task && has_end T)

abbrev pub holds_all : Command → Options → Bool
holds_all command o = reads_all command o.task && is_accepted (texts_of o)

-- The command comes to read all of the input: by a type that is accepted, or as `part` does.
abbrev pub HoldsAll : Command → Options → Type 0
HoldsAll command o = (holds_all command o ≡ true) ⊎ LeadsBy command (type_by (texts_of o) None) o.task

-- The same by a type of modules.
abbrev pub HoldsAllFor : Command → AsnType → Task → Type 0
HoldsAllFor command T task = (reads_all_for command T task ≡ true) ⊎ Leads command T task

abbrev pub read_among : ℕ → Option Text → Option Text → Option Text → List ℕ → Text
read_among at (Some text) None None octets = type_json_notes at text octets
read_among at None (Some text) (Some name) octets = types_json_notes at text name octets
read_among at one types name octets = []

-- What is added where the input had this JSON, by the type that the texts name; at: where the JSON reader stopped, if it is none.
abbrev pub read_notes : ℕ → Texts → List ℕ → Text
read_notes at t octets = read_among at t.one t.types t.name octets

-- What is added where the input had these octets, or this JSON, all of it. Nothing is said of the place at which the JSON reader stopped.
abbrev pub AddsHeld : Task → Options → List ℕ → ℕ → Option (List ℕ) → Option (List ℕ) → Type 0
AddsHeld (Make json) o octets status old new = (at : ℕ) × Adds (read_notes at (texts_of o) octets) status old new
AddsHeld task o octets status old new = AddsSaid (HintsAt (SaysBy o true (type_by (texts_of o) None)) octets) status old new

-- The same by a type of modules.
abbrev pub AddsHeldFor : Task → AsnType → Options → List ℕ → ℕ → Option (List ℕ) → Option (List ℕ) → Type 0
AddsHeldFor (Make json) T o octets status old new = (at : ℕ) × Adds (json_notes at T octets) status old new
AddsHeldFor task T o octets status old new = AddsSaid (HintsAt (Says Modules o true T) octets) status old new
