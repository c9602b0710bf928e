use Rattle.std.proofs.Common.{List, ℕ, String, Global, Ok, Err, ap, map, refl, subst, ◌∙◌}
use Rattle.oer_cmd.proofs.Meeting.{bytes}
use Rattle.oer_module_cmd.specs.Input.{with_input}
use Rattle.oer_module_cmd.specs.declared.error.Error.TheVariants as error
use Rattle.oer_module_cmd.proofs.Left.{refuses}
use Rattle.oer_module_options.specs.Scan.{text_of}
use Rattle.oer_modules.specs.Defined.{types_of_modules}
use Rattle.oer_notation.specs.Defining.{known_of}
use Rattle.oer_notation.specs.Reading.{Known}
use Rattle.oer_types_cmd.specs.Answer.{Meets, name_lines}
use Rattle.oer_types_cmd.specs.Names.{names_text}
use Rattle.oer_types_cmd.specs.declared.stop.Stop.TheVariants as raw
use Rattle.oer_types_cmd.proofs.Meeting.{machine_fails, names, names_met, unlisted_all}
use Rattle.oer_types_cmd.proofs.names.name_lines.Goals as goal

pub returns-in_default : goal.returns-in_default
returns-in_default c = machine_fails {X = String Global} bytes
    (name_lines (with_input c.args.given.now (map text_of c.args.texts.now)) c.args.nesting) (raw.Modules error.Memory) refl

pub returns-in-Ok-names_text : goal.returns-in-Ok-names_text
returns-in-Ok-names_text c =
    subst (λ (ts : List (List ℕ)). Meets bytes (name_lines ts c.args.nesting) (Ok c.in-Ok-names_text.text))
    (ap (map text_of) c.deref.ensures.value ∙ c.in-Ok.ensures)
    (names_met (types_of_modules (map text_of c.deref.result.now) c.args.nesting) (map known_of c.in-Ok-types_of_modules.definitions.items)
    c.in-Ok-names_text.text c.in-Ok-types_of_modules.ensures
    (c.in-Ok-names_text.ensures ∙ ap (λ ds. names_text (map known_of ds)) c.deref-2.ensures.value))

pub returns-in-Err : goal.returns-in-Err
returns-in-Err c =
    let plain = types_of_modules (map text_of c.deref.result.now) c.args.nesting in
    subst (λ (ts : List (List ℕ)). Meets {X = String Global} bytes (name_lines ts c.args.nesting) (Err (raw.Modules c.from.result)))
    (ap (map text_of) c.deref.ensures.value ∙ c.in-Ok.ensures)
    (unlisted_all names plain c.from.result (refuses (λ (ks : List Known). ks) plain c.in-Err.refusal c.from.result c.from.ensures
    c.in-Err.ensures))

pub returns : goal.returns
returns c = machine_fails {X = String Global} bytes
    (name_lines (with_input c.args.given.now (map text_of c.args.texts.now)) c.args.nesting) (raw.Modules error.Memory) refl
