use Rattle.std.proofs.Common.{◌∙◌, ap, map, sym}
use Rattle.std.proofs.lemmas.List.{take-map}
use Rattle.oer_entries.specs.Frames.{seen}
use Rattle.oer_entries.proofs.Steps.{back_way}
use Rattle.oer_entries.proofs.way.Way.go_back.Goals as goal

pub returns-clause-parts : goal.returns-clause-parts
returns-clause-parts c = ap (map seen) c.truncate.ensures.items ∙ sym (take-map seen c.args.count c.args.self.now.frames.items)

pub returns-clause-way : goal.returns-clause-way
returns-clause-way c = λ T h.
    back_way T c.args.self.now _ c.args.count c.last-last.ensures.0 c.last-last.result.now h c.requires c.truncate.ensures.items c.last-last.ensures.1 c.cut.ensures c.cut-2.ensures
