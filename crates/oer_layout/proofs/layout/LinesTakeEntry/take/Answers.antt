use Rattle.std.proofs.Common.{refl}
use Rattle.std.proofs.lemmas.Result.{on_ok_weaker}
use Rattle.oer_layout.proofs.Printed.{text_grows}
use Rattle.oer_layout.proofs.layout.LinesTakeEntry.take.Goals as goal

pub returns : goal.returns
returns g c = on_ok_weaker c.send_block.result
    (λ h. (refl, text_grows g.W.Write.contents _ _ c.send_block.new.self _ refl refl c.in_ok-push_entry.ensures h)) c.send_block.ensures
