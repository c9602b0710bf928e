-- Octets on the input that look like hexadecimal digits.
use Rattle.std.specs.Prelude.{Bool, true, false, ◌&&◌, [], Option, Some, None, codes, if◌then◌else◌}
use Rattle.clap.specs.Words.{Text}
use Rattle.oer_explain.specs.Types.{defines, is_type}
use Rattle.oer_options.specs.Words.{Texts, texts_of}
use Rattle.oer_options.specs.declared.options.Options.{Options}
use Rattle.oer_options.specs.declared.options.Task.{Task}
use Rattle.oer_options.specs.declared.options.Task.TheVariants.{Canon, Show}
use Rattle.oer_explain_cmd.specs.declared.adding.Command.{Command}
use Rattle.oer_explain_cmd.specs.declared.adding.Command.TheVariants.{At, Canonical, Usual}

-- The task reads a value from the input.
abbrev pub takes_octets : Task → Bool
takes_octets (Show None style) = true
takes_octets (Canon None) = true
takes_octets _ = false

abbrev pub reads_octets : Command → Task → Bool
reads_octets Usual task = takes_octets task
reads_octets Canonical task = takes_octets task
reads_octets (At names) task = false

-- The texts name a type, in a text that is accepted.
abbrev pub accepted_among : Option Text → Option Text → Option Text → Bool
accepted_among (Some text) None None = is_type text
accepted_among None (Some text) (Some name) = defines text name
accepted_among one types name = false

abbrev pub is_accepted : Texts → Bool
is_accepted t = accepted_among t.one t.types t.name

-- The command comes to read octets from the input.
abbrev pub looks_first : Command → Options → Bool
looks_first command o = reads_octets command o.task && is_accepted (texts_of o)

-- what is added where octets were rejected, and seem to be digits
abbrev pub digits_hint : Bool → Text
digits_hint seems = if seems then codes "  These octets look like hexadecimal digits. --in hex reads digits.\n" else []
