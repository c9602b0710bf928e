-- What the words of the command line ask for.
use Rattle.std.specs.Prelude.{◌≡◌, ◌↔◌, ⊤, ℕ, Bool, List, [], ◌∷◌, Option, None, Some, false, true, codes, option_map, option_and_then}
use Rattle.std.specs.Borrow.{Bor}
use Rattle.std.specs.Str.Parse.{IsNumeral, digits_value, without_leading_plus}
use Rattle.oer_options.specs.declared.options.Options.{Options}
use Rattle.oer_options.specs.declared.options.Style.{Style}
use Rattle.oer_options.specs.declared.options.Task.{Task}
use Rattle.oer_options.specs.declared.options.Task.TheVariants.{Canon, Check, Make, Part, Show}
use Rattle.clap.specs.Words.{App, Rule, Text, first_of, new_app, new_rule, one_of, subcommand_of, with_rule, with_subcommand}
use Rattle.clap.specs.Simple.{app_of, on_top}
use Rattle.clap.specs.declared.builder.action.ArgAction.TheVariants.{SetTrue}
use Rattle.clap.specs.declared.builder.command.Command.{Command}
use Rattle.clap.specs.declared.builder.command.Command.TheViews.{out-Command}
use Rattle.clap.specs.declared.builder.value_parser.ValueParser.TheVariants as vp

-- an option with a value, for which help has a name; the option is named by its id
abbrev pub option_rule : Text → Rule
option_rule id = record (new_rule id) { long = Some id; value_names = 1 }

-- how many octets a value may take where no limit is given
abbrev pub default_limit : Text
default_limit = codes "1048576"

abbrev pub limit_rule : Rule
limit_rule = record (option_rule (codes "limit")) {
  parser = Some (vp.Unsigned 0 18446744073709551615);
  defaults = default_limit ∷ [];
}

-- the command of a task, with the options that all tasks have
abbrev pub task_app : Text → App
task_app name = with_rule (with_rule (with_rule (with_rule (new_app name)
    (option_rule (codes "type"))) (option_rule (codes "types"))) (option_rule (codes "name"))) limit_rule

-- a task on octets
abbrev pub hex_app : Text → App
hex_app name = with_rule (task_app name) (option_rule (codes "hex"))

-- a flag, named by its id
abbrev pub flag_rule : Text → Rule
flag_rule id = record (new_rule id) { long = Some id; action = Some SetTrue }

abbrev pub show_app : App
show_app = with_rule (hex_app (codes "show")) (flag_rule (codes "ascii"))

abbrev pub make_app : App
make_app = with_rule (task_app (codes "make")) (option_rule (codes "json"))

abbrev pub part_app : App
part_app = with_rule (hex_app (codes "part")) (option_rule (codes "path"))

-- the whole command
abbrev pub oer : App
oer = with_subcommand (with_subcommand (with_subcommand (with_subcommand (with_subcommand
    (on_top (λ s. record s { has_version = true; subcommand_required = true }) (new_app (codes "oer")))
    show_app.top) (hex_app (codes "canon")).top) (hex_app (codes "check")).top) make_app.top) part_app.top

-- the task that the words name
abbrev pub asked : List Text → Option Text
asked words = option_map (λ p. p.0) (subcommand_of oer words)

-- the value of an option of the task, as it was written, or its default
abbrev pub given : List Text → Text → Option Text
given words id = option_and_then (λ p. first_of id p.1) (subcommand_of oer words)

-- the same as a number or a flag is read from it
abbrev pub given_number : List Text → Text → Option Text
given_number words id = option_and_then (λ p. one_of id p.1) (subcommand_of oer words)

-- the text writes n, in decimal digits after a plus at most
pub record NumberOf (text : Text) (n : ℕ) : Type 0 where
  pub digits : IsNumeral 10 (without_leading_plus text)
  pub value : n ≡ digits_value 10 (without_leading_plus text)

-- the text behind a reference
abbrev pub behind : Option (Bor Text) → Option Text
behind = option_map (λ s. s.now)

-- what a task is, but for its texts
pub data Kind : Type 0 where
  show : Style → Kind
  canon : Kind
  check : Kind
  make : Kind
  part : Kind

abbrev pub kind : Task → Kind
kind (Show hex style) = show style
kind (Canon hex) = canon
kind (Check hex) = check
kind (Make json) = make
kind (Part hex path) = part

-- the subcommand
abbrev pub name_of : Kind → Text
name_of (show style) = codes "show"
name_of canon = codes "canon"
name_of check = codes "check"
name_of make = codes "make"
name_of part = codes "part"

-- the option whose text is octets or JSON
abbrev pub source_option : Kind → Text
source_option make = codes "json"
source_option _ = codes "hex"

-- the text of a path, among these values of options
abbrev pub path_among : Kind → (Text → Option Text) → Option Text
path_among part value = value (codes "path")
path_among _ value = None

-- the text of octets or of JSON that the task has
abbrev pub source_text : Task → Option Text
source_text (Show hex style) = behind hex
source_text (Canon hex) = behind hex
source_text (Check hex) = behind hex
source_text (Make json) = behind json
source_text (Part hex text) = behind hex

-- the text of a path that the task has
abbrev pub path_text : Task → Option Text
path_text (Part hex text) = behind text
path_text _ = None

-- whether a flag is given, by the values of flags
abbrev pub IsFlag : (Text → Option Text) → Text → Bool → Type 0
IsFlag flag id is = (is ≡ true) ↔ (flag id ≡ Some (codes "true"))

-- JSON is printed as the flags say
pub record HasStyle (style : Style) (flag : Text → Option Text) : Type 0 where
  pub ascii : IsFlag flag (codes "ascii") style.ascii

-- The flags of the kind are those that are given.
abbrev pub HasFlags : Kind → (Text → Option Text) → Type 0
HasFlags (show style) flag = HasStyle style flag
HasFlags _ flag = ⊤

-- the task of that name, with the values of the options that not all tasks have, and of flags
abbrev pub IsTask : Option Text → (Text → Option Text) → (Text → Option Text) → Task → Type 0
IsTask name value flag task = (name ≡ Some (name_of (kind task))) × (value (source_option (kind task)) ≡ source_text task)
    × (path_among (kind task) value ≡ path_text task) × HasFlags (kind task) flag

-- the options are those of the words
pub record Asks (words : List Text) (o : Options) : Type 0 where
  pub task : IsTask (asked words) (given words) (given_number words) o.task
  pub type_text : given words (codes "type") ≡ behind o.type_text
  pub types : given words (codes "types") ≡ behind o.types
  pub name : given words (codes "name") ≡ behind o.name
  -- the number that the value of `--limit` writes
  pub limit : (text : Text) × (given_number words (codes "limit") ≡ Some text) × NumberOf text o.limit

-- the texts of `--type`, `--types` and `--name`
pub record Texts : Type 0 where
  pub one : Option Text
  pub types : Option Text
  pub name : Option Text

-- those of the options
abbrev pub texts_of : Options → Texts
texts_of o = record { one = behind o.type_text; types = behind o.types; name = behind o.name }

-- the texts that the words give to `--type`, `--types` and `--name`
abbrev pub texts_in : List Text → Texts
texts_in words = record { one = given words (codes "type"); types = given words (codes "types"); name = given words (codes "name") }

-- the command has the shape of a, and nothing in it is global
pub record HasShape (a : App) (c : Command) : Type 0 where
  pub app : app_of c ≡ a
  pub local : (out-Command c).has_globals ≡ false
