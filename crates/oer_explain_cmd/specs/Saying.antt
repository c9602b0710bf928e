-- What is said of octets that the type of the options rejects, and how it is added.
use Rattle.std.specs.Prelude.{◌≡◌, ◌⊎◌, ℕ, List, [], ◌++◌, Bool, eqb, Option, Some, None, Vec, option_map, if◌then◌else◌}
use Rattle.std.specs.Global.{Global}
use Rattle.std.specs.Io.KnownBytes.{Keeps}
use Rattle.clap.specs.Words.{Text}
use Rattle.hex.specs.Hex.{decode_of}
use Rattle.oer_model.specs.AsnType.{AsnType}
use Rattle.oer_options.specs.Words.{source_text}
use Rattle.oer_options.specs.declared.options.Options.{Options}
use Rattle.oer_options.specs.declared.options.Task.{Task}
use Rattle.oer_options.specs.declared.options.Task.TheVariants.{Make}
use Rattle.oer_ends_cmd.specs.declared.telling.Origin.TheVariants.{Notation}
use Rattle.oer_places.specs.Looks.{seems_digits}
use Rattle.oer_explain_cmd.specs.Adding.{Adds}
use Rattle.oer_cmd.specs.Faults.{AppendsFront}
use Rattle.oer_explain_cmd.specs.Found.{ok_in}
use Rattle.oer_explain_cmd.specs.Looking.{digits_hint}
use Rattle.oer_explain_cmd.specs.Told.{Says}

-- ---- what is said

-- by a type of the notation, if there is one
abbrev pub SaysBy : Options → Bool → Option AsnType → List ℕ → Text → Type 0
SaysBy o is_whole None b text = text ≡ []
SaysBy o is_whole (Some T) b text = Says Notation o is_whole T b text

abbrev pub decoded_in : Option Text → Option (List ℕ)
decoded_in None = None
decoded_in (Some digits) = ok_in (decode_of digits)

-- the octets of `--hex`, if there are some
abbrev pub given_octets : Task → Option (List ℕ)
given_octets (Make json) = None
given_octets task = decoded_in (source_text task)

-- nothing, where there are no octets
abbrev pub SaysIf : (List ℕ → Text → Type 0) → Option (List ℕ) → Text → Type 0
SaysIf says None text = text ≡ []
SaysIf says (Some b) text = says b text

abbrev pub items_in : Option (Vec ℕ Global) → Option (List ℕ)
items_in = option_map (λ v. v.items)

-- what is said of octets that look like digits
abbrev pub hint_of : List ℕ → Text
hint_of b = digits_hint (seems_digits b)

-- what is said of octets of the input, and the hint behind it
abbrev pub HintsAt : (List ℕ → Text → Type 0) → List ℕ → Text → Type 0
HintsAt says b text = (said : Text) × says b said × (text ≡ said ++ hint_of b)

-- ---- how it is added

-- The errors grew by the notes, or by a front of them, if they fail: only on the status of octets that are rejected.
abbrev pub AddsNotes : Text → ℕ → Option (List ℕ) → Option (List ℕ) → Type 0
AddsNotes notes status old new = AppendsFront old new (if eqb status 1 then notes else [])

-- The errors grew by what is said, or by nothing, if memory is refused.
abbrev pub AddsSaid : (Text → Type 0) → ℕ → Option (List ℕ) → Option (List ℕ) → Type 0
AddsSaid says status old new = Keeps old new ⊎ ((text : Text) × says text × AddsNotes text status old new)

-- Nothing is added where there are no octets.
abbrev pub AddsIf : (List ℕ → Text → Type 0) → Option (List ℕ) → ℕ → Option (List ℕ) → Option (List ℕ) → Type 0
AddsIf says None status old new = Keeps old new
AddsIf says (Some b) status old new = AddsSaid (says b) status old new

-- The errors grew by these notes, and then by what is said of the octets of `--hex`.
abbrev pub AddsGiven : Text → (List ℕ → Text → Type 0) → Options → ℕ → Option (List ℕ) → Option (List ℕ) → Type 0
AddsGiven notes says o status old new =
    (between : Option (List ℕ)) × Adds notes status old between × AddsSaid (SaysIf says (given_octets o.task)) status between new
