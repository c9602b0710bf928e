use Rattle.std.proofs.Common.{◌≡◌, ap, ◌∙◌, map}
use Rattle.oer_module_syntax.specs.Tree.{assignment_of, module_of}
use Rattle.oer_module_names.proofs.Indexing.{assigners_left, assigners_over, extends_as, index_of_all, leaves_all, leaves_less, texts}
use Rattle.oer_module_names.specs.Sole.{each}
use Rattle.oer_module_names.specs.Tables.{assignment_names}
use Rattle.oer_module_names.proofs.part.assigners_of.Goals as goal

pub loop-place-init : goal.loop-place-init
loop-place-init c = leaves_all _ _

pub loop-place-preserved : goal.loop-place-preserved
loop-place-preserved c =
    let l = c.loop-place in
    let modules = c.args.modules.now in
    let d = c.index-modules-place.result in
    let entries : each (texts c.deref-in-loop-place.result.now) l.place ≡ each (assignment_names (module_of d).assignments) l.place =
    ap (λ ws. each ws l.place) (ap texts c.deref-in-loop-place.ensures.value ∙ c.in_ok-names.ensures ∙ ap (λ xs. assignment_names (map assignment_of xs)) c.deref.ensures.value) in
    leaves_less _ _ _ _ _ _ _ l.invariant (assigners_left modules l.place d c.loop-place-test.true c.index-modules-place.is) (extends_as _ _ _ _ entries c.in_ok-add_each.ensures)

pub returns : goal.returns
returns c =
    let l = c.loop-place in
    index_of_all _ _ _ _ c.new-index.ensures l.invariant (assigners_over c.args.modules.now l.place c.loop-place-test.false)
