use Rattle.std.proofs.Common.{◌≡◌, [], rules}
use Rattle.oer_explain_cmd.proofs.saying.octets_said.Goals as goal

pub returns-in-Some : goal.returns-in-Some
returns-in-Some c = rw (← c.in_ok-found.ensures, ← c.schema.ensures, c.in-Some.is) c.told_notes.ensures

pub returns : goal.returns
returns c =
    let empty : c.new.result.items ≡ [] = search rules in
    rw (← c.in_ok-found.ensures, ← c.schema.ensures, c.in-None.is) empty
