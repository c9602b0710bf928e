use Rattle.std.proofs.Common.{List, ℕ, String, Global, Ok, Err, ap, map, refl, subst, ◌∙◌}
use Rattle.oer_cmd.proofs.Meeting.{bytes}
use Rattle.oer_module_cmd.specs.Input.{with_input}
use Rattle.oer_module_cmd.specs.declared.error.Error.TheVariants as error
use Rattle.oer_module_cmd.proofs.Left.{refuses}
use Rattle.oer_module_options.specs.Scan.{text_of}
use Rattle.oer_modules.specs.Listed.{Printed}
use Rattle.oer_modules.specs.Modules.{definitions_of_modules}
use Rattle.oer_types_cmd.specs.Answer.{Meets, all_lines}
use Rattle.oer_types_cmd.specs.declared.stop.Stop.TheVariants as raw
use Rattle.oer_types_cmd.proofs.Meeting.{both, listed_all, machine_fails, unlisted_all}
use Rattle.oer_types_cmd.proofs.listing.all_lines.Goals as goal

pub returns-in_default : goal.returns-in_default
returns-in_default c = machine_fails {X = String Global} bytes
    (all_lines (with_input c.args.given.now (map text_of c.args.texts.now)) c.args.nesting) (raw.Modules error.Memory) refl

pub returns-in-Ok-definitions_of_modules : goal.returns-in-Ok-definitions_of_modules
returns-in-Ok-definitions_of_modules c =
    subst (λ (ts : List (List ℕ)). Meets bytes (all_lines ts c.args.nesting) (Ok c.in-Ok-definitions_of_modules.text))
    (ap (map text_of) c.deref.ensures.value ∙ c.in-Ok.ensures)
    (listed_all (definitions_of_modules (map text_of c.deref.result.now) c.args.nesting) c.in-Ok-definitions_of_modules.text
    c.in-Ok-definitions_of_modules.ensures)

pub returns : goal.returns
returns c =
    let plain = definitions_of_modules (map text_of c.deref.result.now) c.args.nesting in
    subst (λ (ts : List (List ℕ)). Meets {X = String Global} bytes (all_lines ts c.args.nesting) (Err (raw.Modules c.from.result)))
    (ap (map text_of) c.deref.ensures.value ∙ c.in-Ok.ensures)
    (unlisted_all both plain c.from.result (refuses (λ (p : Printed). p) plain c.in-Err.refusal c.from.result c.from.ensures
    c.in-Err.ensures))
