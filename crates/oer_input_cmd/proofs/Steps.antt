-- What `--in` gives, step by step.
use Rattle.std.proofs.Common.{◌≡◌, List, ℕ, Option, None, Ok, Err, refl}
use Rattle.std.specs.Prelude.{codes}
use Rattle.oer_words.specs.Setting.{without_option}
use Rattle.oer_words.specs.Words.{Text}
use Rattle.oer_input_cmd.specs.Asked.{Asked, asked_by}
use Rattle.oer_input_cmd.specs.Errors.{Read}
use Rattle.oer_input_cmd.specs.Given.{given}
use Rattle.oer_input_cmd.specs.declared.asked.Program.{Program}
use Rattle.oer_input_cmd.specs.declared.error.Error.{Error}

abbrev pub none : Read (Option Asked)
none = Ok None

-- `--in` isn't among the words.
pub unasked : (p : Program) (ws : List Text) (xs : List ℕ) → asked_by p (without_option (codes "--in") ws) ≡ none → given p ws xs ≡ Ok None
unasked p ws xs e = rw e refl

-- The words are at fault.
pub at_fault : (p : Program) (ws : List Text) (xs : List ℕ) (error : Error) → asked_by p (without_option (codes "--in") ws) ≡ Err error → given p ws xs ≡ Err error
at_fault p ws xs error e = rw e refl
