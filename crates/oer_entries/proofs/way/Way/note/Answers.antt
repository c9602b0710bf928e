use Rattle.std.proofs.Common.{◌∙◌, ap, drop, length, refl, take, vec_len, List, ℕ}
use Rattle.oer_entries.specs.Frames.{noted, seen}
use Rattle.oer_entries.proofs.Chains.{noted_stays}
use Rattle.oer_entries.proofs.Steps.{noted_parts, noted_way}
use Rattle.oer_entries.proofs.way.Way.note.Goals as goal

pub returns-clause-parts : goal.returns-clause-parts
returns-clause-parts c =
    let row = c.args.row in
    let frames = c.args.self.now.frames in
    let octets = take (length row.octets.now) (drop row.offset c.args.self.now.octets.now) in
    noted_parts frames.items (vec_len frames) c.in-Some.frame.now c.note.new.self (noted row.role row.offset octets) frames.ok.0 c.args.self.now.has_whole c.in-Some.ensures.value
    (c.note.ensures ∙ ap (λ (b : List ℕ). noted row.role row.offset b (seen c.in-Some.frame.now)) c.octets_at-octets.ensures)

pub returns-clause-way : goal.returns-clause-way
returns-clause-way c = λ T h.
    let row = c.args.row in
    let octets = take (length row.octets.now) (drop row.offset c.args.self.now.octets.now) in
    noted_way T c.args.self.now _ (noted row.role row.offset octets) (noted_stays row.role row.offset octets) (returns-clause-parts c) refl refl h
