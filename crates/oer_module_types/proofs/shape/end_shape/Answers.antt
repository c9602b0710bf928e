use Rattle.oer_module_types.proofs.Ends.{end_is}
use Rattle.oer_module_types.proofs.shape.end_shape.Goals as goal

pub returns : goal.returns
returns c = end_is c.push.new.self c.new-root.result.items c.in_ok-name.name c.new-root.ensures.items c.in_ok-push.ensures.items c.in_ok-name.ensures.ok
