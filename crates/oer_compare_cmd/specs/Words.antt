-- What the words of `oer compare` ask for.
use Rattle.std.specs.Prelude.{◌≡◌, List, [], ◌∷◌, Bool, true, false, Option, codes, option_and_then}
use Rattle.std.specs.Str.{bytes_eq}
use Rattle.clap.specs.Simple.{on_top}
use Rattle.clap.specs.Words.{App, Text, first_of, new_app, subcommand_of, with_rule, with_subcommand}
use Rattle.oer_options.specs.Words.{behind, option_rule}
use Rattle.oer_compare_cmd.specs.declared.asked.Asked.{Asked}

-- The first word behind the program's name is `compare`.
abbrev pub asks_compare : List Text → Bool
asks_compare [] = false
asks_compare (program ∷ []) = false
asks_compare (program ∷ w ∷ ws) = bytes_eq w (codes "compare")

abbrev pub compare_app : App
compare_app = with_rule (with_rule (with_rule (with_rule (with_rule (new_app (codes "compare"))
    (option_rule (codes "type"))) (option_rule (codes "types"))) (option_rule (codes "name"))) (option_rule (codes "with")))
    (option_rule (codes "with-types"))

-- the whole command, of which this is the one task
abbrev pub app : App
app = with_subcommand (on_top (λ s. record s { subcommand_required = true }) (new_app (codes "oer"))) compare_app.top

-- the value of an option, as it was written
abbrev pub given : List Text → Text → Option Text
given words id = option_and_then (λ p. first_of id p.1) (subcommand_of app words)

-- the words ask for this
pub record Asks (words : List Text) (a : Asked) : Type 0 where
  pub type_text : given words (codes "type") ≡ behind a.options.type_text
  pub types : given words (codes "types") ≡ behind a.options.types
  pub name : given words (codes "name") ≡ behind a.options.name
  pub with : given words (codes "with") ≡ behind a.with
  pub with_types : given words (codes "with-types") ≡ behind a.with_types
