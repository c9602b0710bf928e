use Rattle.std.proofs.Common.{◌++◌, ◌∷◌, [], map, option_map, take, ap, ap₂, sym, ◌∙◌}
use Rattle.std.proofs.lemmas.List.{map_push, map-append, take_all}
use Rattle.oer_module_syntax.specs.Tree.{module_of}
use Rattle.oer_module_names.proofs.Parts.{modules_taken}
use Rattle.oer_module_names.specs.Identifiers.{arcs}
use Rattle.oer_module_names.specs.Tables.{identifiers}
use Rattle.oer_module_names.proofs.version.identifiers_of.Goals as goal

pub loop-module-preserved : goal.loop-module-preserved
loop-module-preserved c =
    let l = c.loop-module in
    let modules = c.args.modules.now in
    let taken = modules_taken modules l.module-index c.module-item.result c.loop-module-test.true c.module-item.is in
    ap (map (option_map (λ a. a.items))) c.in_ok-push.ensures.items ∙ map_push (option_map (λ a. a.items)) l.found.items c.in_ok-arcs.arcs
    ∙ ap₂ (λ xs x. xs ++ x ∷ []) l.invariant c.in_ok-arcs.ensures
    ∙ sym (map-append (λ m. arcs m.id) (map module_of (take l.module-index modules)) (module_of c.module-item.result ∷ []))
    ∙ ap identifiers (sym taken)

pub returns : goal.returns
returns c =
    let l = c.loop-module in
    l.invariant ∙ ap (λ ms. identifiers (map module_of ms)) (take_all l.module-index c.args.modules.now c.loop-module-test.false)
