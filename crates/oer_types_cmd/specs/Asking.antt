-- Which words ask for the types, which for help, and which for the text on standard input.
use Rattle.std.specs.Prelude.{List, [], ◌∷◌, ◌||◌, drop, Bool, false, Ok, Err, codes, if◌then◌else◌}
use Rattle.std.specs.Str.{bytes_eq}
use Rattle.oer_module_cmd.specs.Input.{reads_input}
use Rattle.oer_module_options.specs.Asked.{Listing, all, all_names, defined, listing_asked, one}
use Rattle.oer_module_options.specs.Errors.{Read as OptionRead}
use Rattle.oer_module_options.specs.Scan.{Item, Scan, place, scanned, word}
use Rattle.oer_module_options.specs.Words.{Text}
use Rattle.oer_module_options.specs.declared.words.Command.TheVariants.{Types}

-- The first word behind the program's name is `types`.
abbrev pub asks_types : List Text → Bool
asks_types [] = false
asks_types (program ∷ []) = false
asks_types (program ∷ w ∷ ws) = bytes_eq w (codes "types")

-- the words behind that one
abbrev pub words_behind : List Text → List Text
words_behind ws = drop 2 ws

abbrev pub is_help : Text → Bool
is_help w = bytes_eq w (codes "--help") || bytes_eq w (codes "-h")

-- The first word that no option takes asks for help.
abbrev pub asks_for_help : List Item → Bool
asks_for_help [] = false
asks_for_help (word w ∷ is) = is_help w
asks_for_help (place ∷ is) = asks_for_help is

-- ---- the text on standard input

-- the texts that are asked for, those of modules among them
abbrev pub texts_of : Listing → List Text → List Text
texts_of (defined types name) ts = types ∷ []
texts_of (one name n) ts = ts
texts_of (all n) ts = ts
texts_of (all_names n) ts = ts

abbrev pub reads_for : OptionRead Listing → List Text → Bool
reads_for (Ok l) ts = reads_input (texts_of l ts)
reads_for (Err e) ts = false

-- It is read where one of them is `-`, the words are taken, and they don't ask for help.
abbrev pub reads_by : Scan → Bool
reads_by s = if asks_for_help s.kept then false else reads_for (listing_asked s) s.modules

-- the same of the words behind `types`
abbrev pub reads_words : List Text → Bool
reads_words ws = reads_by (scanned Types ws)
