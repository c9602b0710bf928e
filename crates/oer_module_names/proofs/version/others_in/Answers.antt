use Rattle.std.proofs.Common.{◌≡◌, ap, map, option_map}
use Rattle.oer_module_syntax.specs.Tree.{import_of}
use Rattle.oer_module_names.proofs.Indexing.{extends_as, index_of_all, leaves_all, leaves_less}
use Rattle.oer_module_names.proofs.Parts.{others_left, others_over}
use Rattle.oer_module_names.specs.Indexed.{held}
use Rattle.oer_module_names.specs.Tables.{is_other, other_entries}
use Rattle.oer_module_names.proofs.version.others_in.Goals as goal

pub loop-place-init : goal.loop-place-init
loop-place-init c = leaves_all _ _

pub loop-place-preserved : goal.loop-place-preserved
loop-place-preserved c =
    let l = c.loop-place in
    let imports = c.args.imports.now in
    let sources = held c.args.by_name.now in
    let ids = map (option_map (λ v. v.items)) c.args.found.now in
    let d = c.index-imports-place.result in
    let entries : other_entries c.in_ok-other.other d.from.now l.place ≡ other_entries (is_other sources ids (import_of d)) d.from.now l.place =
    ap (λ b. other_entries b d.from.now l.place) c.in_ok-other.ensures in
    leaves_less _ _ _ _ _ _ _ l.invariant (others_left sources ids imports l.place d c.loop-place-test.true c.index-imports-place.is) (extends_as _ _ _ _ entries c.in_ok-add_other.ensures)

pub returns : goal.returns
returns c =
    let l = c.loop-place in
    index_of_all _ _ _ _ c.new-index.ensures l.invariant
    (others_over (held c.args.by_name.now) (map (option_map (λ v. v.items)) c.args.found.now) c.args.imports.now l.place c.loop-place-test.false)
