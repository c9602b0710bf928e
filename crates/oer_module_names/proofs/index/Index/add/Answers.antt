use Rattle.std.proofs.Common.{◌≡◌, Some, ap, ◌∙◌}
use Rattle.std.proofs.lemmas.Map.Text.{btree_map_updates_str}
use Rattle.std.specs.BTreeMap.{get_by}
use Rattle.std.specs.Cmp.Lexicographic.{slice_cmp}
use Rattle.std.specs.Map.{update}
use Rattle.std.specs.Ordering.{nat_cmp}
use Rattle.std.specs.Str.{bytes_eq}
use Rattle.oer_module_names.proofs.Indexing.{added}
use Rattle.oer_module_names.specs.Indexed.{held}
use Rattle.oer_module_names.specs.Sole.{with_number}
use Rattle.oer_module_names.proofs.index.Index.add.Goals as goal

pub returns : goal.returns
returns c =
    let old = c.args.self.now in
    let name = c.args.name.now in
    let same : c.with_number-numbers.result ≡ with_number (held old name) c.args.number = c.with_number-numbers.ensures ∙ ap (λ s. with_number s c.args.number) c.get.ensures in
    added old (record { slots = c.insert.new.self }) name c.args.number (λ w.
    btree_map_updates_str name old.slots c.insert.new.self _ c.in_ok-insert.ensures.updates w
    ∙ ap (λ s. update bytes_eq (λ v. get_by (λ k. slice_cmp nat_cmp v k.now) old.slots) name (Some s) w) same)
