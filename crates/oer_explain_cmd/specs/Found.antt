-- The type that the texts of the options name.
use Rattle.std.specs.Prelude.{ℕ, List, Option, Some, None, Result, Ok, Err, if◌then◌else◌}
use Rattle.std.specs.Str.{is_utf8}
use Rattle.clap.specs.Words.{Text}
use Rattle.oer_model.specs.AsnType.{AsnType}
use Rattle.oer_types.specs.Schema.{the_type}
use Rattle.oer_notation.specs.Parsing.{parse, parse_all}
use Rattle.oer_notation.specs.Reading.{Known, find}
use Rattle.oer_notation.specs.Views.{knowns}
use Rattle.oer_options.specs.Words.{Texts}
use Rattle.oer_explain_cmd.specs.declared.found.Found.{Found}
use Rattle.oer_explain_cmd.specs.declared.found.Found.TheVariants.{Named, Nothing, One}

abbrev pub ok_in : {A E : Type 0} → Result A E → Option A
ok_in (Ok x) = Some x
ok_in (Err e) = None

-- the type that the Name has among definitions
abbrev pub named_in : {E : Type 0} → Result (List Known) E → Text → Option AsnType
named_in (Ok definitions) name = find definitions name
named_in (Err e) name = None

-- the same among those of which these are the octets of the text
abbrev pub type_in : List ℕ → Text → Option AsnType
type_in octets name = if is_utf8 octets then named_in (parse_all octets) name else None

abbrev pub type_among : Option Text → Option Text → Option Text → Option (List ℕ) → Option AsnType
type_among (Some text) None None held = ok_in (parse text)
type_among None (Some text) (Some name) None = type_in text name
type_among None (Some text) (Some name) (Some octets) = type_in octets name
type_among one types name held = None

-- The type that the texts name, if it is accepted. held: what was held of the input, in place of the text of definitions
abbrev pub type_by : Texts → Option (List ℕ) → Option AsnType
type_by t held = type_among t.one t.types t.name held

-- what was found
abbrev pub found_in : Found → Option AsnType
found_in Nothing = None
found_in (One schema) = Some (the_type schema)
found_in (Named types name) = find (knowns types) name.now
