-- What the words of the command line ask for.
use Rattle.std.specs.Prelude.{◌≡◌, ◌≢◌, ◌<◌, ◌≤◌, ◌^◌, ◌⊎◌, ℕ, List, Bool, Option, None, Some, false, true, codes}
use Rattle.clap.specs.Words.{App, Rule, Text, first_of, matches_of, new_app, new_rule, one_of, with_rule}
use Rattle.clap.specs.Simple.{on_top}
use Rattle.clap.specs.declared.builder.action.ArgAction.TheVariants.{SetTrue}
use Rattle.clap.specs.declared.builder.value_parser.ValueParser.TheVariants as vp
use Rattle.oer_options.specs.Words.{NumberOf, Texts, behind, limit_rule, option_rule}
use Rattle.oer_dump_cmd.specs.declared.options.Form.{Form}
use Rattle.oer_dump_cmd.specs.declared.options.Form.TheVariants as form
use Rattle.oer_dump_cmd.specs.declared.options.Options.{Options}

abbrev pub width_rule : Rule
width_rule = record (option_rule (codes "width")) { parser = Some (vp.Unsigned 0 18446744073709551615) }

abbrev pub json_rule : Rule
json_rule = record (new_rule (codes "json")) { long = Some (codes "json"); action = Some SetTrue }

-- the command without options
abbrev pub bare : App
bare = on_top (λ s. record s { has_version = true }) (new_app (codes "oer-dump"))

-- the whole command
abbrev pub oer_dump : App
oer_dump = with_rule (with_rule (with_rule (with_rule (with_rule (with_rule (with_rule bare
    (option_rule (codes "type"))) (option_rule (codes "types"))) (option_rule (codes "name"))) limit_rule)
    (option_rule (codes "hex"))) width_rule) json_rule

-- the value of an option, as it was written, or its default
abbrev pub given : List Text → Text → Option Text
given words id = first_of id (matches_of oer_dump words)

-- the same as a number is read from it
abbrev pub given_number : List Text → Text → Option Text
given_number words id = one_of id (matches_of oer_dump words)

-- the number that the text writes, if that is below 2^64, and else the other one
abbrev pub IsNumberOr : ℕ → Text → ℕ → Type 0
IsNumberOr other text n = (NumberOf text n × (n < 2 ^ 64)) ⊎ ((n ≡ other) × ((m : ℕ) → NumberOf text m → 2 ^ 64 ≤ m))

-- How many characters a line may have, where the value of `--width` has this text; the usual number without it.
abbrev pub IsWidth : ℕ → Option Text → ℕ → Type 0
IsWidth usual None width = width ≡ usual
IsWidth usual (Some text) width = IsNumberOr usual text width

-- the array where the value of `--json` is true, and lines that are so wide where it is false
abbrev pub IsForm : Option Text → (ℕ → Type 0) → Form → Type 0
IsForm value wide form.Json = (value ≢ None) × (value ≢ Some (codes "false"))
IsForm value wide (form.Text width) = (value ≢ Some (codes "true")) × wide width

-- The options are those of the words. usual: how many characters a line may have if they don't say
pub record Asks (words : List Text) (usual : ℕ) (o : Options) : Type 0 where
  pub type_text : given words (codes "type") ≡ behind o.type_text
  pub types : given words (codes "types") ≡ behind o.types
  pub name : given words (codes "name") ≡ behind o.name
  pub hex : given words (codes "hex") ≡ behind o.hex
  -- the number that the value of `--limit` writes
  pub limit : (text : Text) × (given_number words (codes "limit") ≡ Some text) × NumberOf text o.limit
  pub form : IsForm (given_number words (codes "json")) (IsWidth usual (given_number words (codes "width"))) o.form

-- the texts of `--type`, `--types` and `--name` among the options
abbrev pub texts_asked : Options → Texts
texts_asked o = record { one = behind o.type_text; types = behind o.types; name = behind o.name }

-- those that the words give
abbrev pub texts_given : List Text → Texts
texts_given words = record { one = given words (codes "type"); types = given words (codes "types"); name = given words (codes "name") }

-- How many characters a line may have if the words don't say, where the variable COLUMNS has this text: the number that it writes, if
-- standard output is a terminal and the number is below 2^64; 100, if it is a terminal and there is no such number. Where it is no
-- terminal there is no bound: 0 stands for that.
abbrev pub IsUsualWidth : Bool → Option Text → ℕ → Type 0
IsUsualWidth false columns width = width ≡ 0
IsUsualWidth true None width = width ≡ 100
IsUsualWidth true (Some text) width = IsNumberOr 100 text width
