use Rattle.std.proofs.Common.{◌∙◌, ap, refl, sym, Option, Some}
use Rattle.oer_units.specs.declared.tagging.Tag.{Tag}
use Rattle.oer_parts.specs.Walk.{step_of}
use Rattle.oer_values.specs.Lookup.{alternative_with}
use Rattle.oer_entries.specs.Frames.{fresh, type_at}
use Rattle.oer_entries.specs.Known.{Known, part_in}
use Rattle.oer_entries.proofs.Parts.{alternative_is, fresh_alternative}
use Rattle.oer_entries.proofs.frame.Frame.known.Goals as goal

pub returns-in_ok-tag-in-Choice : goal.returns-in_ok-tag-in-Choice
returns-in_ok-tag-in-Choice c =
    let b = c.in-Choice in
    let t = c.in_ok-tag-in-Choice.tag in
    let f = c.args.self.now in
    let step = c.args.step in
    let xs = c.deref-in-Choice.result.now in
    let o = alternative_with t xs b.additions in
    fresh_alternative _ step t c.find_alternative.result o c.find_alternative.ensures c.chosen.ensures
    ∙ ap (λ (k : Known). fresh (Some step) k 0 0)
    (alternative_is f c.in_ok-root.field-0 b.root b.additions t (step_of step) xs o c.in_ok-root.was b.is c.deref-in-Choice.ensures.value refl
    ∙ ap (λ (g : Option Tag). part_in (type_at f) g (step_of step)) (sym c.in_ok-tag-in-Choice.was))
