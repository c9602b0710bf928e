use Rattle.std.proofs.Common.{◌++◌, drop, map}
use Rattle.oer_model.specs.Reading.{read_unknown}
use Rattle.oer_values.specs.ValueView.{unknown_of}
use Rattle.oer_units.specs.Reads.{Leads, state}
use Rattle.oer_decoder.proofs.parts.read_unknown.Given as goal

abbrev pub invariant-loop-place : goal.invariant-loop-place
invariant-loop-place g l =
    let now = state g.R.Source.loan g.R.Source.remaining g.R.Source.failed in
    Leads (read_unknown l.place (drop l.place l.bits)) (now l.w) (λ us. map unknown_of l.unknown.items ++ us) (read_unknown l.known (drop l.known l.bits)) (now l.fn.w)
