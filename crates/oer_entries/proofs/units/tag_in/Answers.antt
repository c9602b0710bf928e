use Rattle.std.proofs.Common.{Err, Ok}
use Rattle.oer_units.specs.Reading.{tag}
use Rattle.oer_checker.specs.Places.{same}
use Rattle.oer_entries.proofs.Spoken.{read_is}
use Rattle.oer_entries.proofs.units.tag_in.Goals as goal

pub returns-in-Ok : goal.returns-in-Ok
returns-in-Ok c = read_is same tag c.args.octets.now c.front.result c.tag_at.new.at (Ok c.in-Ok.tag) c.front.ensures c.in-Ok.ensures

pub returns-in-Err : goal.returns-in-Err
returns-in-Err c = read_is same tag c.args.octets.now c.front.result c.tag_at.new.at (Err c.in-Err.field-0) c.front.ensures c.in-Err.ensures
