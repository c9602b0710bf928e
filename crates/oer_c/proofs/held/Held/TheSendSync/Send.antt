use denote.Param.Send.{IsSend}
use Rattle.oer_c.specs.contracts.held.Held.{the_row}
use Rattle.oer_c.proofs.Sent.{held_send}

pub send : IsSend the_row
send = held_send
