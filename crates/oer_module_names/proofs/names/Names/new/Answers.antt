use Rattle.std.proofs.Common.{map, refl}
use Rattle.oer_module_syntax.specs.Tree.{module_of}
use Rattle.oer_module_names.proofs.Parts.{indexed}
use Rattle.oer_module_names.specs.Views.{modules_in}
use Rattle.oer_module_names.proofs.names.Names.new.Goals as goal

pub invariant_of-result : goal.invariant_of-result
invariant_of-result c = record {
  indexed =
      indexed (map module_of c.args.modules.now) c.in_ok-by_name.by_name c.in_ok-parts.parts.items c.in_ok-assigners.assigners c.in_ok-others.others.items
      c.in_ok-by_name.ensures c.in_ok-parts.ensures c.in_ok-assigners.ensures c.in_ok-others.ensures;
}

pub returns : goal.returns
unfolding modules_in
returns c = refl
