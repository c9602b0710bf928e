use Rattle.std.proofs.Common.{arith, rules, drop, option_map, ◌+◌}
use Rattle.oer_values.specs.ShapeView.{fields_of, need_of, type_of}
use Rattle.oer_values.specs.ValueView.{places_of, value_of}
use Rattle.oer_leaves.specs.Parts.{field_bits, kept_place, place_bit}
use Rattle.oer_leaves.proofs.Places.{field_bits_step}
use Rattle.oer_leaves.proofs.Numbers.{more_bits}
use Rattle.oer_leaves.proofs.presence.count_root_bits.Goals as goal

pub loop-field-preserved : goal.loop-field-preserved
loop-field-preserved c =
    let x = c.field-item.result in
    let p = kept_place (need_of x.need) (type_of x.shape) (option_map value_of c.in-Some._place.now) in
    let step = field_bits_step c.args.fields.now c.loop-field.field-index x c.loop-field.rest.now c.in-Some.more.now c.in-Some._place.now c.loop-field-test.true c.field-item.is (search rules) in
    record {
      count = more_bits c.loop-field.count c.count_place_bits-count.result _ _ (place_bit (need_of x.need) p) (field_bits (fields_of (drop (c.loop-field.field-index + 1) c.args.fields.now)) (places_of c.in-Some.more.now)) step (c.count_place_bits-count.ensures.value p) c.loop-field.invariant.count;
      most = omega (arith, c.loop-field.invariant.most, c.count_place_bits-count.ensures.most);
    }
