use Rattle.std.proofs.Common.{◌∙◌, ap, Bor, List, drop, length, take, ℕ}
use Rattle.oer_parts.specs.Walk.{path_of}
use Rattle.oer_entries.specs.Frames.{noted}
use Rattle.oer_entries.specs.Trails.{last_by, parts_of}
use Rattle.oer_entries.proofs.Tags.{noted_stands}
use Rattle.oer_entries.proofs.extents.MeasuringTakeRow.take.Goals as goal

pub returns : goal.returns
returns c = λ T before h.
    let row = c.args.row in
    let octets = c.args.self.now.way.octets.now in
    let v = c.enter.new.self.way in
    let w = c.note.new.self in
    let x = c.in_ok-enter.ensures T before h in
    let own : List ℕ = take (length row.octets.now) (drop row.offset octets) in (
      noted_stands T octets before row.offset (path_of row.path.now) row.role own v w x.0 (c.note.ensures.way T x.0.leads)
          (c.note.ensures.parts ∙ ap (λ (o : List ℕ). last_by (noted row.role row.offset (take (length row.octets.now) (drop row.offset o))) (parts_of v)) x.0.reads)
          (ap (λ (o : Bor (List ℕ)). o.now) c.note.ensures.octets),
      x.1,
    )
