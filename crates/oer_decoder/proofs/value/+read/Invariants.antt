use Rattle.std.proofs.Common.{◌≤◌, ◌+◌, ◌-◌, ◌++◌, drop, length, map, option_map}
use Rattle.std.specs.Prelude.{vec_capacity, vec_len}
use Rattle.oer_units.specs.Reader.{times}
use Rattle.oer_units.specs.Reads.{Leads, state}
use Rattle.oer_model.specs.Reading.{read_additions, read_fields, read_value}
use Rattle.oer_values.specs.ShapeView.{additions_of, fields_of, type_of}
use Rattle.oer_values.specs.ValueView.{value_of}
use Rattle.oer_decoder.specs.Places.{put_all}
use Rattle.oer_decoder.proofs.value.+read.Given as goal

abbrev pub invariant-read_additions-loop-addition : goal.invariant-read_additions-loop-addition
invariant-read_additions-loop-addition g l =
    let now = state g.R.Source.loan g.R.Source.remaining g.R.Source.failed in
    record {
      leads : Leads (read_additions (additions_of (drop l.addition-index l.additions)) l.left) (now l.w) (put_all (map (option_map value_of) l.places.items)) (read_additions (additions_of l.additions) l.bits) (now l.fn.w);
      room : vec_len l.places + (length l.additions - l.addition-index) ≤ vec_capacity l.places;
    }

abbrev pub invariant-read_elements-loop-i : goal.invariant-read_elements-loop-i
invariant-read_elements-loop-i g l =
    let now = state g.R.Source.loan g.R.Source.remaining g.R.Source.failed in
    Leads (times (l.count - l.i) (read_value (type_of l.item))) (now l.w) (λ w. map value_of l.values.items ++ w) (times l.count (read_value (type_of l.item))) (now l.fn.w)

abbrev pub invariant-read_fields-loop-field : goal.invariant-read_fields-loop-field
invariant-read_fields-loop-field g l =
    let now = state g.R.Source.loan g.R.Source.remaining g.R.Source.failed in
    record {
      leads : Leads (read_fields (fields_of (drop l.field-index l.fields)) l.left) (now l.w) (put_all (map (option_map value_of) l.places.items)) (read_fields (fields_of l.fields) l.bits) (now l.fn.w);
      room : vec_len l.places + (length l.fields - l.field-index) ≤ vec_capacity l.places;
    }
