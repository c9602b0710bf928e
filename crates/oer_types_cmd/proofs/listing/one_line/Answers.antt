use Rattle.std.proofs.Common.{List, ℕ, String, Global, map}
use Rattle.oer_cmd.proofs.Meeting.{bytes}
use Rattle.oer_module_cmd.specs.Input.{with_input}
use Rattle.oer_module_cmd.specs.Given.{by_modules}
use Rattle.oer_module_options.specs.Scan.{text_of}
use Rattle.oer_modules.specs.Modules.{type_of_modules}
use Rattle.oer_types_cmd.specs.Answer.{from_modules, on_a_line}
use Rattle.oer_types_cmd.specs.declared.stop.Stop.TheVariants as raw
use Rattle.oer_types_cmd.proofs.Meeting.{lined, modules_met, modules_stopped, stops}
use Rattle.oer_types_cmd.proofs.listing.one_line.Goals as goal

pub returns-in-Ok : goal.returns-in-Ok
returns-in-Ok c =
    let ts : List (List ℕ) = with_input c.args.given.now (map text_of c.args.texts.now) in
    let plain = by_modules (type_of_modules ts c.args.asked.name.now c.args.asked.nesting) in
    lined (from_modules plain) c.in-Ok.text c.line.result (modules_met bytes plain c.in-Ok.text c.in-Ok.ensures)
    c.line.ensures.made c.line.ensures.failed

pub returns-in-Err : goal.returns-in-Err
returns-in-Err c =
    let ts : List (List ℕ) = with_input c.args.given.now (map text_of c.args.texts.now) in
    let plain = by_modules (type_of_modules ts c.args.asked.name.now c.args.asked.nesting) in
    stops {X = String Global} {Z = String Global} bytes bytes (from_modules plain) on_a_line (raw.Modules c.in-Err.error)
    (modules_stopped bytes plain c.in-Err.error c.in-Err.ensures)
