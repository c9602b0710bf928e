-- Types that are given to Names, and not read from a text.
use Rattle.std.specs.Prelude.{◌≡◌, List, [], ◌∷◌, ◌++◌, ℕ, is_some, if◌then◌else◌, string_bytes}
use Rattle.oer_notation.specs.Reading.{Known, find}
use Rattle.oer_notation.specs.declared.types.Definition.{Definition}
use Rattle.oer_types.specs.Schema.{the_type}

abbrev pub known_of : Definition → Known
known_of d = record { name = string_bytes d.name; type = the_type d.schema }

-- By both each Name has the same type, or none.
abbrev pub HaveSameTypes : List Known → List Known → Type 0
HaveSameTypes ks js = (w : List ℕ) → find ks w ≡ find js w

-- with a definition more, if its Name has no type yet
abbrev pub with_known : List Known → Known → List Known
with_known ks k = if is_some (find ks k.name) then ks else ks ++ k ∷ []
