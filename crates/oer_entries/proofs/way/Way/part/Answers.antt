use Rattle.std.proofs.Common.{◌∙◌, ap, sym}
use Rattle.oer_entries.specs.Kinds.{kind_text}
use Rattle.oer_entries.proofs.Called.{last_seen}
use Rattle.oer_entries.proofs.way.Way.part.Goals as goal

pub returns : goal.returns
returns c = (
  c.as_str.ensures.value,
  c.as_str-2.ensures.value,
  c.kind_of.ensures ∙ ap kind_text (sym (last_seen c.args.self.now.frames.items c.last.ensures.0 c.last.result.now c.last.ensures.1)),
)
