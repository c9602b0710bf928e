-- What is said where `--at` or a name is rejected.
use Rattle.std.specs.Prelude.{List, [], ◌∷◌, ◌++◌, take, get_or, codes, if◌then◌else◌}
use Rattle.std.specs.List.{join_by}
use Rattle.clap.specs.Words.{Text}
use Rattle.oer_at.specs.Names.{is_word}
use Rattle.oer_at.specs.declared.hop.NameFault.{NameFault}
use Rattle.oer_at.specs.declared.hop.Wanted.{Wanted}
use Rattle.oer_at.specs.declared.hop.Wanted.TheVariants as wanted
use Rattle.oer_words.specs.Rejected.{line_of}
use Rattle.oer_at_cmd.specs.declared.misuse.Misuse.{Misuse}
use Rattle.oer_at_cmd.specs.declared.misuse.Misuse.TheVariants.{Path, Subcommand}

abbrev pub misuse_text : Misuse → Text
misuse_text Subcommand = codes "--at needs part"
misuse_text Path = codes "one of --at and --path"

abbrev pub misuse_line : Misuse → Text
misuse_line m = line_of (misuse_text m)

-- what a name has to be
abbrev pub kind_of : Wanted → Text
kind_of wanted.Component = codes "component"
kind_of wanted.Alternative = codes "alternative"
kind_of wanted.Element = codes "element"
kind_of wanted.Nothing = codes "part"

-- what isn't there: the name, unless it can be none
abbrev pub subject_of : Wanted → Text → Text
subject_of w name = if is_word name then kind_of w ++ codes " " ++ name else codes "name"

-- where it isn't: behind these names
abbrev pub place_of : List Text → Text
place_of [] = []
place_of (name ∷ names) = codes " at " ++ join_by (λ n. n) (codes ".") (name ∷ names)

-- the first name that leads nowhere, and those before it
abbrev pub name_text : List Text → NameFault → Text
name_text names f = codes "at: no " ++ subject_of f.wanted (get_or names f.before []) ++ place_of (take f.before names)

abbrev pub name_line : List Text → NameFault → Text
name_line names f = line_of (name_text names f)
