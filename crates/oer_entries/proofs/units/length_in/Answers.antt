use Rattle.std.proofs.Common.{ap, option_map, Bool, Err, Ok, ℕ}
use Rattle.oer_checker.specs.Places.{counted_as}
use Rattle.oer_checker.specs.Steps.{sized_length}
use Rattle.oer_entries.proofs.Spoken.{read_is}
use Rattle.oer_entries.proofs.units.length_in.Goals as goal

pub returns-in-Ok : goal.returns-in-Ok
returns-in-Ok c = ap (option_map (λ (y : ℕ × Bool). y.0)) (read_is counted_as sized_length c.args.octets.now c.front.result c.sized_length_at.new.at (Ok c.in-Ok.counted)
    c.front.ensures c.in-Ok.ensures)

pub returns-in-Err : goal.returns-in-Err
returns-in-Err c = ap (option_map (λ (y : ℕ × Bool). y.0)) (read_is counted_as sized_length c.args.octets.now c.front.result c.sized_length_at.new.at (Err c.in-Err.field-0)
    c.front.ensures c.in-Err.ensures)
