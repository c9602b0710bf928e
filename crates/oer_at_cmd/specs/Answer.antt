-- The answer of `part --at` as plain functions say it.
use Rattle.std.specs.Prelude.{ℕ, List, Option, Some, Result, Ok, Err, if◌then◌else◌}
use Rattle.clap.specs.Words.{Text}
use Rattle.oer_model.specs.AsnType.{AsnType}
use Rattle.oer_at.specs.Finding.{find_at}
use Rattle.oer_at.specs.Hops.{hops_of}
use Rattle.oer_at.specs.Names.{names_in}
use Rattle.oer_at.specs.declared.hop.Hop.{Hop}
use Rattle.oer_at.specs.declared.hop.NameFault.{NameFault}
use Rattle.oer_options.specs.Words.{Texts, behind, texts_of}
use Rattle.oer_options.specs.declared.options.Options.{Options}
use Rattle.oer_cmd.specs.Answer.{checked, expected_type, handed, hex_octets, limited_octets, texts_read}
use Rattle.oer_cmd.specs.Expected.{Expected, refusal, value, ◌>>=◌}
use Rattle.oer_ends_cmd.specs.Telling.{told_by}
use Rattle.oer_ends_cmd.specs.declared.telling.Origin.{Origin}
use Rattle.oer_ends_cmd.specs.declared.telling.Origin.TheVariants.{Modules, Notation}
use Rattle.oer_at_cmd.specs.Asking.{hex_of}
use Rattle.oer_at_cmd.specs.Errors.{misuse_text, name_text}
use Rattle.oer_at_cmd.specs.declared.misuse.Misuse.{Misuse}
use Rattle.oer_at_cmd.specs.declared.run.At.{At as RawAt}

-- what is asked for: the names, the digits of `--hex` if they are there, and the limit
pub record At : Type 0 where
  pub names : Text
  pub hex : Option Text
  pub limit : ℕ

abbrev pub at_of : RawAt → At
at_of a = record { names = a.names.now; hex = behind a.hex; limit = a.limit }

-- the part to which hops lead in octets that are all of one encoding, in digits
abbrev pub at_octets : AsnType → List Hop → List ℕ → Expected Text
at_octets T hops b = checked T b >>= λ canonical. handed (find_at (Some T) b hops)

-- the same of the octets in hand, else of those of the input: no more than the limit
abbrev pub at_input : Origin → AsnType → ℕ → List Hop → Option (List ℕ) → Option (List ℕ) → Expected Text
at_input origin T limit hops spelt told = limited_octets limit spelt told >>= λ b. told_by origin T limit b (at_octets T hops b)

abbrev pub or_no_name : List Text → Result (List Hop) NameFault → Expected (List Hop)
or_no_name names (Ok hops) = value hops
or_no_name names (Err fault) = refusal (record { status = 2; text = name_text names fault })

-- the hops of the names, by the type
abbrev pub expected_hops : AsnType → List Text → Expected (List Hop)
expected_hops T names = or_no_name names (hops_of T names)

-- The answer by a type that is from there, where the input had these octets left.
abbrev pub at_answer : Origin → At → Option (List ℕ) → AsnType → Expected Text
at_answer origin a told T = hex_octets a.hex >>= λ spelt. expected_hops T (names_in a.names) >>= λ hops.
    at_input origin T a.limit hops spelt told

-- the same by the type that the texts name
abbrev pub named_answer : At → Option (List ℕ) → Texts → Expected Text
named_answer a told t = expected_type t >>= at_answer Notation a told

-- the same where the text of the definitions may be read from the input
abbrev pub texts_answer : At → Option (List ℕ) → Texts → Expected Text
texts_answer a told t = texts_read t a.hex told >>= named_answer a told

-- what is asked for, or why `--at` is rejected
abbrev pub or_misuse : {A : Type 0} → Result A Misuse → Expected A
or_misuse (Ok x) = value x
or_misuse (Err m) = refusal (record { status = 2; text = misuse_text m })

-- The answer to the options, with these names, by the type that they name.
abbrev pub options_answer : Text → Options → Option (List ℕ) → Expected Text
options_answer names o told = or_misuse (hex_of o.task) >>= λ hex. texts_answer (record { names = names; hex = hex; limit = o.limit }) told (texts_of o)

-- The same by a type of modules.
abbrev pub modules_answer : AsnType → Text → Options → Option (List ℕ) → Expected Text
modules_answer T names o told = or_misuse (hex_of o.task) >>= λ hex. at_answer Modules (record { names = names; hex = hex; limit = o.limit }) told T
