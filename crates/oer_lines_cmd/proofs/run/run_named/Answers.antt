use Rattle.std.proofs.Common.{refl, Ok}
use Rattle.std.specs.Borrow.{Bor}
use Rattle.oer_model.specs.AsnType.{AsnType}
use Rattle.oer_types.specs.Schema.{the_type}
use Rattle.oer_types.specs.declared.schema.Schema.{Schema}
use Rattle.oer_notation.specs.Parsing.{parse_all}
use Rattle.oer_notation.specs.Reading.{find}
use Rattle.oer_notation.specs.Views.{knowns}
use Rattle.oer_notation.specs.declared.types.Types.{Types}
use Rattle.oer_cmd.specs.Answer.{named_as, parsed}
use Rattle.oer_cmd.specs.Expected.{◌>>=◌}
use Rattle.oer_cmd.proofs.Meeting.{goes, stops}
use Rattle.oer_lines_cmd.proofs.Endings.{by_fault, by_type}
use Rattle.oer_lines_cmd.proofs.Knowing.{known_then, named_known, parsed_known}
use Rattle.oer_lines_cmd.proofs.run.run_named.Goals as goal

pub returns-in-Err-clause-runs : goal.returns-in-Err-clause-runs
returns-in-Err-clause-runs g c =
    let name = c.args.name.now in
    let defined = parsed (parse_all c.args.types.now) in
    by_fault c.args.asked.way c.args.asked.task c.args.asked.limit _ _ {X = Bor Schema} (λ s. the_type s.now) (defined >>= λ ks. named_as name (find ks name)) c.in-Err.fault
    c.report.result _ _ _ (known_then defined (λ ks. named_as name (find ks name)) (parsed_known (parse_all c.args.types.now)) (λ ks. named_known name (find ks name)))
    (stops {X = Types} {Z = Bor Schema} knowns (λ s. the_type s.now) defined (λ ks. named_as name (find ks name)) c.in-Err.fault c.in-Err.ensures.exact)
    c.report.ensures.line refl

pub returns-in-Ok-named_type-clause-runs : goal.returns-in-Ok-named_type-clause-runs
returns-in-Ok-named_type-clause-runs g c =
    let name = c.args.name.now in
    let defined = parsed (parse_all c.args.types.now) in
    let view : Bor Schema → AsnType = λ s. the_type s.now in
    by_type c.args.asked.way c.args.asked.task c.args.asked.limit _ _ view (defined >>= λ ks. named_as name (find ks name)) c.in-Ok-named_type.schema
    c.args.asked.tells_nesting c.run_all.result _ c.requires
    (known_then defined (λ ks. named_as name (find ks name)) (parsed_known (parse_all c.args.types.now)) (λ ks. named_known name (find ks name)))
    (goes knowns view defined (λ ks. named_as name (find ks name)) c.in-Ok.types (Ok c.in-Ok-named_type.schema) c.in-Ok.ensures.exact c.in-Ok-named_type.ensures.exact)
    c.run_all.ensures.runs
