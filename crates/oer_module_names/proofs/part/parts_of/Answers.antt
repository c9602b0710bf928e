use Rattle.std.proofs.Common.{◌+◌, ◌++◌, ◌∷◌, [], map, subst, sym, take}
use Rattle.oer_module_syntax.specs.Tree.{module_of}
use Rattle.oer_module_names.proofs.Parts.{modules_taken, parts_push}
use Rattle.oer_module_names.specs.Indexed.{ArePartsOf}
use Rattle.oer_module_names.proofs.part.parts_of.Goals as goal

pub loop-module-preserved : goal.loop-module-preserved
loop-module-preserved c =
    let l = c.loop-module in
    let modules = c.args.modules.now in
    let taken = modules_taken modules l.module-index c.module-item.result c.loop-module-test.true c.module-item.is in
    subst (λ ps. ArePartsOf ps (map module_of (take (l.module-index + 1) modules))) (sym c.in_ok-push.ensures.items)
    (subst (λ ms. ArePartsOf (l.parts.items ++ c.in_ok-part.part ∷ []) ms) (sym taken)
    (parts_push l.parts.items (map module_of (take l.module-index modules)) c.in_ok-part.part (module_of c.module-item.result) l.invariant c.in_ok-part.ensures))
