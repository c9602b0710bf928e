-- The steps to the type that is asked for, and the words that stay.
use Rattle.std.proofs.Common.{◌≡◌, List, ℕ, [], ◌∷◌, map, length, false, None, Ok, Err, String, Global, string_bytes, refl, sym, ap, ◌∙◌, arith}
use Rattle.oer_module_options.specs.Asked.{TypeAsked, asked}
use Rattle.oer_module_options.specs.Errors.{Error as OptionError}
use Rattle.oer_module_options.specs.Scan.{Scan, scanned}
use Rattle.oer_module_options.specs.Words.{Text}
use Rattle.oer_module_options.specs.declared.words.Command.{Command}
use Rattle.oer_model.specs.AsnType.{AsnType}
use Rattle.oer_modules.specs.Schemas.{schema_of_modules}
use Rattle.oer_module_cmd.specs.Errors.{Error, Read, options}
use Rattle.oer_module_cmd.specs.Input.{input_for, reads_input, with_input}
use Rattle.oer_module_cmd.specs.Given.{by_types, given, given_by, kept_words, reads_by, reads_for, type_for}

pub options_stop : (p : Text) (s : Scan) (xs : List ℕ) (e : OptionError) → asked s ≡ Err e → given_by p s xs ≡ Err (options e)
options_stop p s xs e is = rw is refl

pub input_stops : (p : Text) (s : Scan) (xs : List ℕ) (a : TypeAsked) (e : Error) → asked s ≡ Ok a → input_for s.modules xs ≡ Err e
    → given_by p s xs ≡ Err e
unfolding type_for
input_stops p s xs a e is stop = rw is (rw stop refl)

pub modules_stop : (p : Text) (s : Scan) (xs : List ℕ) (a : TypeAsked) (given : Text) (e : Error) → asked s ≡ Ok a → input_for s.modules xs ≡ Ok given
    → by_types (schema_of_modules (with_input given s.modules) a.name a.nesting) ≡ Err e → given_by p s xs ≡ Err e
unfolding type_for
modules_stop p s xs a given e is read stop = rw is (rw read (rw stop refl))

pub words_go : (p : Text) (s : Scan) (xs : List ℕ) (a : TypeAsked) (given : Text) (T : AsnType) → asked s ≡ Ok a → input_for s.modules xs ≡ Ok given
    → by_types (schema_of_modules (with_input given s.modules) a.name a.nesting) ≡ Ok T → given_by p s xs ≡ Ok (T, p ∷ kept_words s.kept)
unfolding type_for
words_go p s xs a given T is read made = rw is (rw read (rw made refl))

-- a type and words, as an answer
abbrev pub okay : AsnType → List Text → Read (AsnType × List Text)
okay T ws = Ok (T, ws)

-- There is no word.
pub no_words : (k : Command) (ws : List (String Global)) (xs : List ℕ) → length ws ≡ 0 → given k (map string_bytes ws) xs ≡ Ok None
no_words k [] xs h = refl
no_words k (w ∷ ws) xs h = absurd (omega (h, arith))

-- `--modules` isn't among the words.
pub unasked : (k : Command) (w : String Global) (ws : List (String Global)) (xs : List ℕ) → (scanned k (map string_bytes ws)).has_modules ≡ false
    → given k (map string_bytes (w ∷ ws)) xs ≡ Ok None
unasked k w ws xs none = rw none refl

-- Standard input isn't read where the options are taken.
pub unread_by : (s : Scan) (a : TypeAsked) → asked s ≡ Ok a → reads_by s ≡ false → reads_input s.modules ≡ false
unread_by s a is none = ap (λ r. reads_for r s.modules) (sym is) ∙ none
