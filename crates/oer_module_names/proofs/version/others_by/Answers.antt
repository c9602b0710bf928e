use Rattle.std.proofs.Common.{◌+◌, ◌++◌, ◌∷◌, [], map, option_map, subst, sym, take}
use Rattle.oer_module_syntax.specs.Tree.{import_of, module_of}
use Rattle.oer_module_names.proofs.Parts.{modules_taken, others_push}
use Rattle.oer_module_names.specs.Indexed.{AreOthersOf, IsIndexOf, held}
use Rattle.oer_module_names.specs.Tables.{others_from}
use Rattle.oer_module_names.proofs.version.others_by.Goals as goal

pub loop-module-preserved : goal.loop-module-preserved
loop-module-preserved c =
    let l = c.loop-module in
    let modules = c.args.modules.now in
    let sources = held c.args.by_name.now in
    let ids = map (option_map (λ a. a.items)) c.args.found.now in
    let taken = modules_taken modules l.module-index c.module-item.result c.loop-module-test.true c.module-item.is in
    subst (λ xs. AreOthersOf sources ids xs (map module_of (take (l.module-index + 1) modules))) (sym c.in_ok-push.ensures.items)
    (subst (AreOthersOf sources ids (l.others.items ++ c.in_ok-index.index ∷ [])) (sym taken)
    (others_push sources ids l.others.items (map module_of (take l.module-index modules)) c.in_ok-index.index (module_of c.module-item.result) l.invariant
    (subst (λ xs. IsIndexOf c.in_ok-index.index (others_from sources ids 0 (map import_of xs))) c.deref.ensures.value c.in_ok-index.ensures)))
