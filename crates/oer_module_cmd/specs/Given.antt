-- The type that the options of modules ask for, and the words without these.
use Rattle.std.specs.Prelude.{◌≡◌, ℕ, List, [], ◌∷◌, map, Bool, false, Option, Some, None, Result, Ok, Err, String, string_bytes, Vec, if◌then◌else◌}
use Rattle.std.specs.Io.KnownBytes.{Keeps}
use Rattle.std.specs.declared.alloc.Global.{Global}
use Rattle.oer_module_options.specs.Asked.{TypeAsked, asked}
use Rattle.oer_module_options.specs.Errors.{Read as OptionRead}
use Rattle.oer_module_options.specs.Scan.{Item, Scan, place, scanned, word}
use Rattle.oer_module_options.specs.Words.{Text}
use Rattle.oer_module_options.specs.declared.words.Command.{Command}
use Rattle.oer_model.specs.AsnType.{AsnType}
use Rattle.oer_modules.specs.Refusals.{Refusal}
use Rattle.oer_modules.specs.Schemas.{NoType, schema_of_modules}
use Rattle.oer_modules.specs.Schemas as none
use Rattle.oer_types.specs.Schema.{the_type}
use Rattle.oer_module_cmd.specs.Errors.{Error, Read, Reports, ◌>>=◌, options, refused, status_of}
use Rattle.oer_module_cmd.specs.Input.{input_for, reads_input, with_input}
use Rattle.oer_module_cmd.specs.declared.given.TypeAndWords.{TypeAndWords}

abbrev pub by_options : {A : Type 0} → OptionRead A → Read A
by_options (Ok x) = Ok x
by_options (Err e) = Err (options e)

abbrev pub by_modules : {A : Type 0} → Result A Refusal → Read A
by_modules (Ok x) = Ok x
by_modules (Err r) = Err (refused (none.refused r))

abbrev pub by_types : {A : Type 0} → Result A NoType → Read A
by_types (Ok x) = Ok x
by_types (Err n) = Err (refused n)

-- the type that is asked for, where xs is what the input had left
unfoldable pub type_for : TypeAsked → List Text → List ℕ → Read AsnType
type_for a ts xs = input_for ts xs >>= λ given. by_types (schema_of_modules (with_input given ts) a.name a.nesting)

-- the words that stay
abbrev pub kept_words : List Item → List Text
kept_words [] = []
kept_words (word w ∷ is) = w ∷ kept_words is
kept_words (place ∷ is) = kept_words is

abbrev pub given_by : Text → Scan → List ℕ → Read (AsnType × List Text)
given_by program s xs =
    by_options (asked s) >>= λ a. type_for a s.modules xs >>= λ T. Ok (T, program ∷ kept_words s.kept)

abbrev pub given_from : Text → Scan → List ℕ → Read (Option (AsnType × List Text))
given_from program s xs = if s.has_modules then (given_by program s xs >>= λ x. Ok (Some x)) else Ok None

-- The type, and the words that stay, the program's name first; none where `--modules` isn't among them. xs is what the input
-- had left.
abbrev pub given : Command → List Text → List ℕ → Read (Option (AsnType × List Text))
given c [] xs = Ok None
given c (program ∷ ws) xs = given_from program (scanned c ws) xs

abbrev pub words_of : Vec (String Global) Global → List Text
words_of ws = map string_bytes ws.items

abbrev pub given_of : TypeAndWords → AsnType × List Text
given_of g = (the_type g.schema, words_of g.words)

-- Whether the text on standard input is read: the options are taken, and one of the texts is that.
abbrev pub reads_for : OptionRead TypeAsked → List Text → Bool
reads_for (Ok a) ts = reads_input ts
reads_for (Err e) ts = false

abbrev pub reads_by : Scan → Bool
reads_by s = reads_for (asked s) s.modules

abbrev pub asks_input : Command → List Text → Bool
asks_input c [] = false
asks_input c (program ∷ ws) = reads_by (scanned c ws)

-- What a function returned is what the plain function gives, and nothing is on the errors; or these tell of an error, and the
-- status is that of it: the one that the plain function gives, unless the machine failed.
abbrev pub Ends : {X Y : Type 0} → (X → Y) → Result X ℕ → Read Y → Option (List ℕ) → Option (List ℕ) → Type 0
Ends view (Ok x) plain old new = (plain ≡ Ok (view x)) × Keeps old new
Ends view (Err status) plain old new = (e : Error) × (status_of e ≡ 2 → plain ≡ Err e) × Reports e status old new
