use Rattle.std.proofs.Common.{map}
use Rattle.oer_module_names.specs.Views.{modules_in}
use Rattle.oer_modules.proofs.Rounds.{each_more, each_over}
use Rattle.oer_notation.specs.Defining.{known_of}
use Rattle.oer_modules.proofs.defined.of_each.Goals as goal

pub loop-module-preserved : goal.loop-module-preserved
loop-module-preserved c =
    let l = c.loop-module in
    each_more (modules_in c.args.names.now) c.args.nesting c.args.modules.now l.module-index c.module-item.result _ (map known_of l.found.items) _
    c.loop-module-test.true c.module-item.is l.invariant c.in_ok-add_module.ensures

pub returns : goal.returns
returns c =
    let l = c.loop-module in
    each_over (modules_in c.args.names.now) c.args.nesting c.args.modules.now l.module-index _ (map known_of l.found.items) c.loop-module-test.false l.invariant
