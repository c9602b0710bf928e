use Rattle.std.proofs.Common.{◌-◌, ◌++◌, map}
use Rattle.oer_units.specs.Reader.{times}
use Rattle.oer_units.specs.Reads.{Leads, state}
use Rattle.oer_model.specs.AsnType.{boolean}
use Rattle.oer_model.specs.Reading.{read_value}
use Rattle.oer_values.specs.ValueView.{value_of}
use Rattle.oer_decoder.proofs.booleans.read_booleans.Given as goal

abbrev pub invariant-loop-i : goal.invariant-loop-i
invariant-loop-i g l =
    let now = state g.R.Source.loan g.R.Source.remaining g.R.Source.failed in
    Leads (times (l.count - l.i) (read_value boolean)) (now l.w) (λ w. map value_of l.values.items ++ w) (times l.count (read_value boolean)) (now l.fn.w)
