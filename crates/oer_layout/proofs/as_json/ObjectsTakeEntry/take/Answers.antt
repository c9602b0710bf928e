use Rattle.std.proofs.Common.{refl}
use Rattle.std.proofs.lemmas.Result.{on_ok_weaker}
use Rattle.oer_layout.proofs.Printed.{object_added, text_grows}
use Rattle.oer_layout.proofs.as_json.ObjectsTakeEntry.take.Goals as goal

pub returns : goal.returns
returns g c = on_ok_weaker c.send_block.result (λ h. (
  refl,
  text_grows g.W.Write.contents _ _ c.send_block.new.self _ refl refl
      (object_added _ _ _ _ _ _ c.in_ok-push_str.ensures.bytes c.separator.ensures c.in_ok-push_line.ensures) h,
)) c.send_block.ensures
