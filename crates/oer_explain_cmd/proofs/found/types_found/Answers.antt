use Rattle.std.proofs.Common.{None}
use Rattle.std.proofs.lemmas.Str.{is_utf8-from_IsUtf8}
use Rattle.oer_notation.specs.Parsing.{parse_all}
use Rattle.oer_explain.proofs.Utf8.{of_none}
use Rattle.oer_explain_cmd.specs.Found.{named_in}
use Rattle.oer_explain_cmd.proofs.found.types_found.Goals as goal

pub returns-in-Ok : goal.returns-in-Ok
returns-in-Ok c =
    let u = is_utf8-from_IsUtf8 c.args.types.now c.in-Ok.ensures.cases.1 in
    rw u (rw c.in-Ok.ensures.cases.0 at c.named_found.ensures)

pub returns-in-Err : goal.returns-in-Err
returns-in-Err c = of_none c.args.types.now (named_in (parse_all c.args.types.now) c.args.name.now) None c.in-Err.ensures.cases.0
