-- The Names of types, as `oer types --names` prints them.
use Rattle.std.specs.Prelude.{List, [], ◌∷◌, ◌++◌}
use Rattle.oer_module_options.specs.Words.{Text}
use Rattle.oer_notation.specs.Reading.{Known}

-- each on a line of its own
abbrev pub names_text : List Known → Text
names_text [] = []
names_text (k ∷ ks) = k.name ++ 10 ∷ names_text ks
