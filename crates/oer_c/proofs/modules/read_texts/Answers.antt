use Rattle.std.proofs.Common.{◌≡◌, List, [], Ok, map, ap, ◌∙◌}
use Rattle.oer_notation.specs.Defining.{known_of}
use Rattle.oer_c.proofs.Stopping.{now_of, stop_told}
use Rattle.oer_c.proofs.modules.read_texts.Goals as goal

pub returns-in-Err-clause-stopped : goal.returns-in-Err-clause-stopped
returns-in-Err-clause-stopped c =
    stop_told (now_of c.args.texts.now) c.args.nesting c.in-Err.refusal c.stop_of.result c.stop_of.ensures c.in-Err.ensures
