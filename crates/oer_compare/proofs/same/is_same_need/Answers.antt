use Rattle.oer_values.specs.ValueView.{value_of}
use Rattle.oer_compare.proofs.Sames.{is_same}
use Rattle.oer_compare.proofs.same.is_same_need.Goals as goal

pub returns-in-Default-Default : goal.returns-in-Default-Default
returns-in-Default-Default c =
    rw (c.in-Default-Default.is-0, c.in-Default-Default.is-1) (is_same c.same.result (value_of c.in-Default-Default.one) (value_of c.in-Default-Default.other) c.same.ensures)
