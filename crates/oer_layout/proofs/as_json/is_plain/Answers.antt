use Rattle.std.proofs.Common.{◌∙◌, sym, true≢false}
use Rattle.oer_layout.proofs.Pushed.{plain_more}
use Rattle.oer_layout.proofs.as_json.is_plain.Goals as goal
use Rattle.oer_layout.proofs.as_json.is_plain.Goals.{then-octet-lt32, else-octet-lt32+else-octet-eq34+else-octet-eq92}

pub loop-octet-preserved : goal.loop-octet-preserved
loop-octet-preserved c = elim c.if-octet-lt32.branch [
  | then-octet-lt32 w ↦ λ e. absurd (true≢false (sym e ∙ w.is_plain-is))
  | else-octet-lt32+else-octet-eq34+else-octet-eq92 w ↦ λ e. plain_more _ c.loop-octet.octet-index c.loop-octet-test.true w.if-octet-lt32.false w.if-octet-eq34.false w.if-octet-eq92.false
      (c.loop-octet.invariant (sym w.is_plain-is ∙ e))
]
