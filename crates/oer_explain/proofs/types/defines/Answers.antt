use Rattle.std.proofs.Common.{Bool, List, ℕ, false}
use Rattle.oer_notation.specs.Parsing.{parse_all}
use Rattle.oer_explain.specs.Types.{have}
use Rattle.oer_explain.proofs.Utf8.{of_none, of_text}
use Rattle.oer_explain.proofs.types.defines.Goals as goal

pub returns-in-Ok : goal.returns-in-Ok
returns-in-Ok c = of_text (λ (b : Bool). b) c.args.octets.now c.in-Ok.text.now (λ (t : List ℕ). have (parse_all t) c.args.name.now) false c.definitions_have.result
    c.in-Ok.ensures.cases.0 c.in-Ok.ensures.cases.1 c.definitions_have.ensures

pub returns-in-Err : goal.returns-in-Err
returns-in-Err c = of_none c.args.octets.now (have (parse_all c.args.octets.now) c.args.name.now) false c.in-Err.ensures.cases.0
