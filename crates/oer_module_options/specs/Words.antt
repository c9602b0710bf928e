-- What a word is where an option may stand.
use Rattle.std.specs.Prelude.{ℕ, ◌==◌, List, [], ◌∷◌, Bool, false, ◌||◌, Option, Some, None, codes, option_map, if◌then◌else◌}
use Rattle.std.specs.Borrow.{Bor}
use Rattle.std.specs.Str.{bytes_eq}
use Rattle.oer_module_options.specs.declared.words.Command.{Command}
use Rattle.oer_module_options.specs.declared.words.Command.TheVariants as command
use Rattle.oer_module_options.specs.declared.words.Key.{Key}
use Rattle.oer_module_options.specs.declared.words.Key.TheVariants as key
use Rattle.oer_module_options.specs.declared.words.Kept.TheVariants as kept
use Rattle.oer_module_options.specs.declared.words.Taken.{Taken}
use Rattle.oer_module_options.specs.declared.words.Taken.TheVariants as taken

abbrev pub Text : Type 0
Text = List ℕ

-- what stands before the first `=`, and behind it
abbrev pub name_in : Text → Text
name_in [] = []
name_in (c ∷ cs) = if c == 61 then [] else c ∷ name_in cs

abbrev pub value_in : Text → Option Text
value_in [] = None
value_in (c ∷ cs) = if c == 61 then Some cs else value_in cs

abbrev pub is_type : Text → Bool
is_type n = bytes_eq n (codes "--type") || bytes_eq n (codes "--types")

-- `--json` of `oer-dump` takes no value.
abbrev pub is_source : Command → Text → Bool
is_source command.Oer n = bytes_eq n (codes "--hex") || bytes_eq n (codes "--json")
is_source _ n = bytes_eq n (codes "--hex")

abbrev pub is_other : Text → Bool
is_other n = bytes_eq n (codes "--limit") || bytes_eq n (codes "--path") || bytes_eq n (codes "--width")

-- an option that stays among the words
abbrev pub kept_key : Command → Text → Option Key
kept_key c n =
    if is_type n then Some (key.Kept kept.Type)
    else if is_source c n then Some (key.Kept kept.Source)
    else if is_other n then Some (key.Kept kept.Other)
    else None

-- an option that only `oer types` has, or the others alone
abbrev pub own_key : Command → Text → Option Key
own_key command.Types n = if bytes_eq n (codes "--types") then Some (key.Taken taken.Types) else None
own_key c n = kept_key c n

-- the option of this name, if it takes a value
unfoldable pub key_of : Command → Text → Option Key
key_of c n =
    if bytes_eq n (codes "--modules") then Some (key.Taken taken.Modules)
    else if bytes_eq n (codes "--name") then Some (key.Taken taken.Name)
    else if bytes_eq n (codes "--nesting") then Some (key.Taken taken.Nesting)
    else own_key c n

-- the flag that asks for Names alone, which only `oer types` has
abbrev pub is_flag : Command → Text → Bool
is_flag command.Types w = bytes_eq w (codes "--names")
is_flag _ w = false

-- the name of an option that is taken out
abbrev pub option_text : Taken → Text
option_text taken.Modules = codes "--modules"
option_text taken.Name = codes "--name"
option_text taken.Nesting = codes "--nesting"
option_text taken.Types = codes "--types"

-- the text behind a reference
abbrev pub behind : Option (Bor Text) → Option Text
behind = option_map (λ s. s.now)
