use Rattle.std.proofs.Common.{◌≡◌, ◌++◌, replicate, OnOk, sym, ap, ◌∙◌}
use Rattle.std.proofs.lemmas.Iterator.Adapters.{YieldsList-from_repeat_n, YieldsList-from_vec, fact_from_extend, items_from_extend}
use Rattle.oer_modules.proofs.Readings.{library_grown, map_same, on_ok}
use Rattle.oer_modules.proofs.texts.Library.add.Goals as goal

pub returns : goal.returns
returns c =
    let found = c.args.found.items in
    let old = c.args.self.now.modules.items in
    let grown : OnOk c.extend.result (c.extend.new.self.items ≡ old ++ found) =
    fact_from_extend (λ x. x) c.extend.result c.extend.ensures.ran (λ it b. YieldsList-from_vec {s = it} found b.0 (b.1 ∙ c.args.found.ok.0))
    (λ xs e h. h.0 ∙ ap (λ ys. old ++ ys) (sym (map_same xs) ∙ e)) in
    let modules : c.extend.new.self.items ≡ old ++ found = rw c.in_ok-extend.was at grown in
    let homes = items_from_extend c.extend-2.result c.extend-2.ensures.ran
    (YieldsList-from_repeat_n (λ x y. y ≡ x) c.len-count.result c.args.text c.repeat_n.ensures.count c.repeat_n.ensures.item (λ y e. e)) in
    on_ok c.extend-2.result homes (λ h. library_grown c.args.self.now (record { modules = c.extend.new.self; homes = c.extend-2.new.self })
    found c.args.text c.len-count.result modules h.0 (c.len-count.ensures ∙ c.args.found.ok.0))
