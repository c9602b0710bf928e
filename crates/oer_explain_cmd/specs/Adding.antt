-- What is added to the error of a command.
use Rattle.std.specs.Prelude.{ℕ, List, [], ◌∷◌, Bool, true, false, not, ◌||◌, ◌&&◌, leb, length, ltb, Option, Some, None, is_none, is_some, option_map, if◌then◌else◌}
use Rattle.std.specs.Borrow.{Bor}
use Rattle.clap.specs.Words.{Text}
use Rattle.oer_model.specs.AsnType.{AsnType}
use Rattle.oer_explain.specs.Digits.{digits_notes}
use Rattle.oer_explain.specs.Json.{json_notes, type_json_notes, types_json_notes}
use Rattle.oer_explain.specs.Types.{defines, type_notes, types_notes}
use Rattle.oer_options.specs.Words.{Texts, behind, source_text, texts_of}
use Rattle.oer_options.specs.declared.options.Options.{Options}
use Rattle.oer_options.specs.declared.options.Task.{Task}
use Rattle.oer_options.specs.declared.options.Task.TheVariants.{Make, Part}
use Rattle.oer_cmd.specs.Faults.{AppendsFront}
use Rattle.oer_cmd.specs.Types.{reads_types}
use Rattle.oer_explain_cmd.specs.declared.adding.Command.{Command}
use Rattle.oer_explain_cmd.specs.declared.adding.Command.TheVariants.{At, Canonical, Usual}

-- `part --at` has no path beside the names.
abbrev pub is_part : Task → Bool
is_part (Part hex None) = true
is_part _ = false

-- the task is one of the command, so that it looks at the type
abbrev pub asks : Command → Task → Bool
asks Usual task = true
asks Canonical task = true
asks (At names) task = is_part task

-- The text of definitions is read from the input.
abbrev pub is_held : Command → Options → Bool
is_held command o = asks command o.task && reads_types (texts_of o) && is_some (source_text o.task)

-- where the octets of the options are rejected by themselves: the digits of `--hex`
abbrev pub digits_among : Option Text → Text
digits_among (Some digits) = digits_notes digits
digits_among None = []

abbrev pub source_notes : Task → Text
source_notes (Make json) = []
source_notes task = digits_among (source_text task)

abbrev pub text_within : ℕ → Option Text → Option Text
text_within limit None = None
text_within limit (Some text) = if leb (length text) limit then Some text else None

abbrev pub json_of : ℕ → Task → Option Text
json_of limit (Make json) = text_within limit (behind json)
json_of limit task = None

-- the JSON of the options, unless it is longer than the limit
abbrev pub json_within : Options → Option Text
json_within o = json_of o.limit o.task

-- by what is said of JSON, if there is some
abbrev pub source_by : Option Text → (Text → Text) → Task → Text
source_by (Some json) notes task = notes json
source_by None notes task = source_notes task

-- the first of two notes, unless it is empty
abbrev pub or_else : Text → Text → Text
or_else [] rest = rest
or_else (c ∷ cs) rest = c ∷ cs

-- by the text of one type; at: where the JSON reader stopped, if the JSON is none
abbrev pub one_notes : ℕ → Text → Options → Text
one_notes at text o = or_else (type_notes text) (source_by (json_within o) (type_json_notes at text) o.task)

-- by the type that the Name has among the definitions of this text
abbrev pub named_notes : ℕ → List ℕ → Text → Options → Text
named_notes at octets name o =
    or_else (types_notes octets) (if defines octets name then source_by (json_within o) (types_json_notes at octets name) o.task else [])

-- held: what was held of the input, in place of the text of the option
abbrev pub notes_among : ℕ → Option Text → Option Text → Option Text → Options → Option (List ℕ) → Text
notes_among at (Some text) None None o held = one_notes at text o
notes_among at None (Some text) (Some name) o None = named_notes at text name o
notes_among at None (Some text) (Some name) o (Some octets) = named_notes at octets name o
notes_among at one types name o held = []

abbrev pub notes_by : ℕ → Texts → Options → Option (List ℕ) → Text
notes_by at t o held = notes_among at t.one t.types t.name o held

-- Nothing is said: the command doesn't look at the type, or has to read its text, and there are neither octets nor JSON.
abbrev pub is_silent : Command → Options → Option (List ℕ) → Bool
is_silent command o held = not (asks command o.task) || (reads_types (texts_of o) && is_none held)

-- What is added to the error of a command with these options, where this text of definitions was held.
abbrev pub notes_of : ℕ → Command → Options → Option (List ℕ) → Text
notes_of at command o held = if is_silent command o held then [] else notes_by at (texts_of o) o held

-- What is added by a type of modules.
abbrev pub own_notes : ℕ → Command → AsnType → Options → Text
own_notes at command T o = if asks command o.task then source_by (json_within o) (json_notes at T) o.task else []

abbrev pub items_behind : Option (Bor (List ℕ)) → Option (List ℕ)
items_behind = option_map (λ b. b.now)

-- the status of an error that isn't the machine's
abbrev pub is_rejection : ℕ → Bool
is_rejection status = ltb 0 status && ltb status 3

-- The errors grew by the notes, or by a front of them, if they fail or memory is refused; on success, and where the machine fails, by nothing.
abbrev pub Adds : Text → ℕ → Option (List ℕ) → Option (List ℕ) → Type 0
Adds notes status old new = AppendsFront old new (if is_rejection status then notes else [])
