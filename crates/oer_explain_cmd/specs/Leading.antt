-- Whether `part` comes to read octets from the input.
use Rattle.std.specs.Prelude.{◌≡◌, List, Option, Some, None, Ok}
use Rattle.clap.specs.Words.{Text}
use Rattle.oer_model.specs.AsnType.{AsnType}
use Rattle.oer_at.specs.Hops.{hops_of}
use Rattle.oer_at.specs.Names.{names_in}
use Rattle.oer_at.specs.declared.hop.Hop.{Hop}
use Rattle.oer_options.specs.Words.{behind}
use Rattle.oer_options.specs.declared.options.Task.{Task}
use Rattle.oer_options.specs.declared.options.Task.TheVariants.{Part}
use Rattle.oer_cmd.specs.Answer.{HasPath}
use Rattle.oer_explain_cmd.specs.declared.adding.Command.{Command}
use Rattle.oer_explain_cmd.specs.declared.adding.Command.TheVariants.{At, Usual}

-- Each name leads to a part of what the names before it lead to.
abbrev pub HasHops : AsnType → Text → Type 0
HasHops T names = (hops : List Hop) × (hops_of T (names_in names) ≡ Ok hops)

-- No octets are given, and the text of `--path` spells a path, or the names of `--at` lead to a part.
abbrev pub Leads : Command → AsnType → Task → Type 0
Leads Usual T (Part None text) = HasPath (behind text)
Leads (At names) T (Part None None) = HasHops T names.now
Leads command T task = ⊥

-- by the type that the options name, if there is one
abbrev pub LeadsBy : Command → Option AsnType → Task → Type 0
LeadsBy command None task = ⊥
LeadsBy command (Some T) task = Leads command T task
