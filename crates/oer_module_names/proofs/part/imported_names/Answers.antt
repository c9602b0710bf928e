use Rattle.std.proofs.Common.{◌≡◌, ap, ap₂, ◌∙◌, map}
use Rattle.oer_module_syntax.specs.Tree.{import_of, symbol_of}
use Rattle.oer_module_names.proofs.Indexing.{extends_as, import_entries, imports_left, imports_over, index_of_all, leaves_all, leaves_less, texts}
use Rattle.oer_module_names.specs.Indexed.{held}
use Rattle.oer_module_names.specs.Sole.{each, first_of}
use Rattle.oer_module_names.specs.Tables.{symbol_names}
use Rattle.oer_module_names.proofs.part.imported_names.Goals as goal

pub loop-place-init : goal.loop-place-init
loop-place-init c = leaves_all _ _

pub loop-place-preserved : goal.loop-place-preserved
loop-place-preserved c =
    let l = c.loop-place in
    let imports = c.args.imports.now in
    let sources = held c.args.sources.now in
    let d = c.index-imports-place.result in
    let entries : each (texts c.deref-in-loop-place.result.now) c.first_of-source.result ≡ import_entries sources l.place (import_of d) =
    ap₂ each (ap texts c.deref-in-loop-place.ensures.value ∙ c.in_ok-symbols.ensures ∙ ap (λ xs. symbol_names (map symbol_of xs)) c.deref.ensures.value)
    (c.first_of-source.ensures ∙ ap (λ s. first_of s l.place) c.get.ensures) in
    leaves_less _ _ _ _ _ _ _ l.invariant (imports_left sources imports l.place d c.loop-place-test.true c.index-imports-place.is) (extends_as _ _ _ _ entries c.in_ok-add_each.ensures)

pub returns : goal.returns
returns c =
    let l = c.loop-place in
    index_of_all _ _ _ _ c.new-index.ensures l.invariant (imports_over (held c.args.sources.now) c.args.imports.now l.place c.loop-place-test.false)
