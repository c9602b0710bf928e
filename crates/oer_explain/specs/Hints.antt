-- What may help where a text of types is rejected.
use Rattle.std.specs.Prelude.{ℕ, ◌+◌, List, [], ◌++◌, take, drop, Option, Some, None, codes, if◌then◌else◌}
use Rattle.std.specs.Fmt.{decimal}
use Rattle.oer_places.specs.Looks.{definition_behind, is_file_name, occurs, word_length}
use Rattle.oer_places.specs.Place.{place_of}
use Rattle.oer_value_notation.specs.declared.fault.TextWhy.{TextWhy}
use Rattle.oer_value_notation.specs.declared.fault.TextWhy.TheVariants.{Name, Syntax}

-- the Name is defined later, behind this front of the text
abbrev pub later_hint : List ℕ → List ℕ
later_hint front = codes "  It is defined at line " ++ decimal (place_of front).line ++ codes ". A definition may only refer to those before it.\n"

-- the Name is defined before, though no definition that ends there has it
abbrev pub own_hint : Option ℕ → List ℕ
own_hint (Some n) = codes "  It is being defined here. Only --modules takes a type that contains itself.\n"
own_hint None = []

abbrev pub by_later : Option ℕ → List ℕ → ℕ → List ℕ → List ℕ
by_later (Some n) text at name = later_hint (take (at + n) text)
by_later None text at name = own_hint (definition_behind name (take at text))

-- no earlier definition has the Name that begins at this place
abbrev pub name_hint : List ℕ → ℕ → List ℕ
name_hint text at =
    let rest : List ℕ = drop at text in
    let name : List ℕ = take (word_length rest) rest in
    by_later (definition_behind name rest) text at name

abbrev pub why_hint : TextWhy → List ℕ → ℕ → List ℕ
why_hint Syntax text at = if occurs (codes "DEFINITIONS") (drop at text) then codes "  DEFINITIONS follows, as in a module: give modules by --modules.\n" else []
why_hint Name text at = name_hint text at
why_hint _ text at = []

-- what may help where the text is rejected at this place
abbrev pub hint_of : TextWhy → List ℕ → ℕ → List ℕ
hint_of why text at =
    if is_file_name text
    then codes "  This looks like the name of a file, and no file is opened. --types=\"$(cat FILE)\" gives the text of one.\n"
    else why_hint why text at
