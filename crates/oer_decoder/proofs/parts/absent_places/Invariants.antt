use Rattle.std.proofs.Common.{◌≡◌, ◌≤◌, ◌+◌, ◌-◌, drop, length, map, option_map}
use Rattle.std.specs.Prelude.{vec_capacity, vec_len}
use Rattle.oer_model.specs.Fits.{all_absent}
use Rattle.oer_values.specs.ShapeView.{additions_of}
use Rattle.oer_values.specs.ValueView.{value_of}
use Rattle.oer_decoder.specs.Places.{put_all}
use Rattle.oer_decoder.proofs.parts.absent_places.Given as goal

abbrev pub invariant-loop-addition : goal.invariant-loop-addition
invariant-loop-addition l = record {
  filled : put_all (map (option_map value_of) l.places.items) (all_absent (additions_of (drop l.addition-index l.additions))) ≡ all_absent (additions_of l.additions);
  room : vec_len l.places + (length l.additions - l.addition-index) ≤ vec_capacity l.places;
}
