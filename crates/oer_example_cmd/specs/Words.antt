-- What the words of `oer example` ask for.
use Rattle.std.specs.Prelude.{◌≡◌, ◌≢◌, ℕ, List, [], ◌∷◌, Bool, true, false, Option, Some, None, codes, option_and_then}
use Rattle.std.specs.Str.{bytes_eq}
use Rattle.clap.specs.Simple.{on_top}
use Rattle.clap.specs.Words.{App, Rule, Text, first_of, new_app, new_rule, one_of, subcommand_of, with_rule, with_subcommand}
use Rattle.clap.specs.declared.builder.action.ArgAction.TheVariants.{SetTrue}
use Rattle.clap.specs.declared.builder.value_parser.ValueParser.TheVariants as vp
use Rattle.oer_options.specs.Words.{NumberOf, behind, option_rule}
use Rattle.oer_skeleton.specs.declared.parts.Parts.{Parts}
use Rattle.oer_skeleton.specs.declared.parts.Parts.TheVariants.{All, Needed}
use Rattle.oer_example_cmd.specs.declared.asked.Asked.{Asked}

-- The first word behind the program's name is `example`.
abbrev pub asks_example : List Text → Bool
asks_example [] = false
asks_example (program ∷ []) = false
asks_example (program ∷ w ∷ ws) = bytes_eq w (codes "example")

-- the flag for a value with all parts
abbrev pub full_rule : Rule
full_rule = record (new_rule (codes "full")) { long = Some (codes "full"); action = Some SetTrue }

-- the option that has the seed of a value that is made up
abbrev pub random_rule : Rule
random_rule = record (option_rule (codes "random")) { parser = Some (vp.Unsigned 0 18446744073709551615) }

abbrev pub example_app : App
example_app = with_rule (with_rule (with_rule (with_rule (with_rule (new_app (codes "example"))
    (option_rule (codes "type"))) (option_rule (codes "types"))) (option_rule (codes "name"))) full_rule) random_rule

-- the whole command, of which this is the one task
abbrev pub app : App
app = with_subcommand (on_top (λ s. record s { subcommand_required = true }) (new_app (codes "oer"))) example_app.top

-- the value of an option, as it was written
abbrev pub given : List Text → Text → Option Text
given words id = option_and_then (λ p. first_of id p.1) (subcommand_of app words)

-- the same as a flag or a number is read from it
abbrev pub given_flag : List Text → Text → Option Text
given_flag words id = option_and_then (λ p. one_of id p.1) (subcommand_of app words)

-- whether the flag is given
abbrev pub AreParts : Option Text → Parts → Type 0
AreParts flag All = flag ≡ Some (codes "true")
AreParts flag Needed = flag ≢ Some (codes "true")

-- the seed, by the option's value as it was written, and as a number is read from it
abbrev pub IsSeed : Option Text → Option Text → Option ℕ → Type 0
IsSeed given read None = given ≡ None
IsSeed given read (Some n) = (text : Text) × (read ≡ Some text) × NumberOf text n

-- the words ask for this
pub record Asks (words : List Text) (a : Asked) : Type 0 where
  pub parts : AreParts (given_flag words (codes "full")) a.parts
  pub seed : IsSeed (given words (codes "random")) (given_flag words (codes "random")) a.seed
  pub type_text : given words (codes "type") ≡ behind a.options.type_text
  pub types : given words (codes "types") ≡ behind a.options.types
  pub name : given words (codes "name") ≡ behind a.options.name
