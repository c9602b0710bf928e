use Rattle.std.proofs.Common.{◌∙◌, ◌<◌, arith, drop, take, length, rules, sym, ap, refl}
use Rattle.oer_model.specs.Constraints.{optional}
use Rattle.oer_values.specs.ShapeView.{fields_of, need_of, type_of}
use Rattle.oer_checker.specs.BitView.{bits_in}
use Rattle.oer_checker.specs.Places.{place_of}
use Rattle.oer_model.specs.SharedSteps.{is_there}
use Rattle.oer_checker.proofs.FieldSteps.{field_defaults, field_limits}
use Rattle.oer_parts.proofs.Finds.{field_defaults_front, field_found, field_missing, fields_front, is_read, is_unread, no_refusal, not_there, same_end}
use Rattle.oer_parts.proofs.Walks.{field_entry}
use Rattle.oer_parts.specs.Offsets.{AreFields}
use Rattle.oer_parts.proofs.Lasts.{field_rest}
use Rattle.oer_parts.proofs.Standing.{fields_stand, value_stands}
use Rattle.oer_parts.proofs.Zeros.{optional_parts}
use Rattle.oer_parts.proofs.walk.field_in.Goals as goal
use Rattle.oer_parts.proofs.walk.field_in.Goals.{else-is_all, then-is_all}

pub returns-then-index-fields-clause-found : goal.returns-then-index-fields-clause-found
returns-then-index-fields-clause-found c = let e = c.requires.checked in field_missing c.args.fields.now c.args.index (bits_in c.args.bits) (place_of c.args.cursor) e.1 e.0 e.2 (search rules)

pub returns-then-not-is_present-clause-found : goal.returns-then-not-is_present-clause-found
returns-then-not-is_present-clause-found c =
    let e = c.requires.checked in
    let xs = c.args.fields.now in
    let x = c.index-fields-index.result in
    let s = bits_in c.args.bits in
    let less : c.args.index < length xs = search rules in
    let o = field_found xs c.args.index s x (place_of c.args.cursor) e.1 e.0 e.2 less c.index-fields-index.is in
    let there = c.presence-is_present.ensures.there ∙ ap (is_there (need_of x.need)) (c.skip.ensures ∙ ap (λ k. drop k s) c.optional-passed.ensures.is) in
    not_there _ _ o.0 _ (sym c.if-not-is_present.true ∙ there) o.2

pub check_fields-requires-clause-limits : goal.check_fields-requires-clause-limits
check_fields-requires-clause-limits c = fields_front c.args.fields.now c.args.index c.requires.limits

pub check_fields-requires-clause-defaults : goal.check_fields-requires-clause-defaults
check_fields-requires-clause-defaults c = field_defaults_front c.args.fields.now c.args.index c.requires.defaults

pub returns-in_default-clause-found : goal.returns-in_default-clause-found
returns-in_default-clause-found c =
    let e = c.requires.checked in
    let less : c.args.index < length c.args.fields.now = search rules in
    let o = field_found c.args.fields.now c.args.index (bits_in c.args.bits) c.index-fields-index.result (place_of c.args.cursor) e.1 e.0 e.2 less c.index-fields-index.is in
    absurd (no_refusal _ o.0 _ _ o.1 c.in_default.ensures)

pub overflow_sub-left : goal.overflow_sub-left
overflow_sub-left c =
    let less : c.args.index < length c.args.fields.now = search rules in
    omega (arith, optional_parts c.args.fields.now c.args.index less, c.requires.count, c.optional-passed.ensures.is)

pub overflow_sub-left-2 : goal.overflow_sub-left-2
overflow_sub-left-2 c =
    let less : c.args.index < length c.args.fields.now = search rules in
    omega (arith, optional_parts c.args.fields.now c.args.index less, c.requires.count, c.optional-passed.ensures.is, c.optional.ensures.is)

pub none_there-is_last-requires : goal.none_there-is_last-requires
none_there-is_last-requires c =
    let less : c.args.index < length c.args.fields.now = search rules in
    omega (arith, optional_parts c.args.fields.now c.args.index less, c.requires.count, c.optional-passed.ensures.is, c.optional.ensures.is)

pub encoding_at-requires-clause-limits : goal.encoding_at-requires-clause-limits
encoding_at-requires-clause-limits c =
    let less : c.args.index < length c.args.fields.now = search rules in
    field_limits c.args.fields.now c.args.index c.index-fields-index.result less c.index-fields-index.is c.requires.limits

pub encoding_at-requires-clause-defaults : goal.encoding_at-requires-clause-defaults
encoding_at-requires-clause-defaults c =
    let less : c.args.index < length c.args.fields.now = search rules in
    field_defaults c.args.fields.now c.args.index c.index-fields-index.result less c.index-fields-index.is c.requires.defaults

pub encoding_at-requires-clause-last : goal.encoding_at-requires-clause-last
encoding_at-requires-clause-last c last =
    let xs = c.args.fields.now in
    let x = c.index-fields-index.result in
    let s = bits_in c.args.bits in
    let less : c.args.index < length xs = search rules in
    let bits = c.skip.ensures ∙ ap (λ k. drop k s) c.optional-passed.ensures.is in
    let there = sym c.presence-is_present.ensures.there ∙ c.if-not-is_present.false in
    elim c.if-is_all.branch [
      | then-is_all w ↦ (let none = sym (w.none_there-is_last.ensures (sym w.is_last-is ∙ last)) in
          field_rest xs c.args.index s x (place_of c.args.cursor) (place_of c.check_fields.new.at) _ _ _ (c.requires.all w.if-is_all.true) c.in-Ok.ensures less c.index-fields-index.is bits there c.presence-is_present.ensures.left none)
      | else-is_all w ↦ (let not_all = sym last ∙ w.is_last-is ∙ w.if-is_all.false in absurd (cc))
    ]

pub returns-in_default-encoding_at-clause-found : goal.returns-in_default-encoding_at-clause-found
returns-in_default-encoding_at-clause-found c =
    let e = c.requires.checked in
    let xs = c.args.fields.now in
    let x = c.index-fields-index.result in
    let s = bits_in c.args.bits in
    let less : c.args.index < length xs = search rules in
    let o = field_found xs c.args.index s x (place_of c.args.cursor) e.1 e.0 e.2 less c.index-fields-index.is in
    let there = c.presence-is_present.ensures.there ∙ ap (is_there (need_of x.need)) (c.skip.ensures ∙ ap (λ k. drop k s) c.optional-passed.ensures.is) in
    absurd (is_unread _ (field_entry x c.args.index (drop (optional (fields_of (take c.args.index xs))) s)) o.0 (place_of c.check_fields.new.at) _ (sym c.if-not-is_present.false ∙ there) o.2 (same_end _ o.0 _ _ o.1 c.in-Ok.ensures) c.in_default-encoding_at.ensures)

pub returns-clause-found : goal.returns-clause-found
returns-clause-found c =
    let e = c.requires.checked in
    let xs = c.args.fields.now in
    let x = c.index-fields-index.result in
    let s = bits_in c.args.bits in
    let less : c.args.index < length xs = search rules in
    let o = field_found xs c.args.index s x (place_of c.args.cursor) e.1 e.0 e.2 less c.index-fields-index.is in
    let there = c.presence-is_present.ensures.there ∙ ap (is_there (need_of x.need)) (c.skip.ensures ∙ ap (λ k. drop k s) c.optional-passed.ensures.is) in
    is_read _ (field_entry x c.args.index (drop (optional (fields_of (take c.args.index xs))) s)) o.0 (place_of c.check_fields.new.at) _ _ (sym c.if-not-is_present.false ∙ there) o.2 (same_end _ o.0 _ _ o.1 c.in-Ok.ensures) c.in-Some.ensures

pub returns-clause-stands : goal.returns-clause-stands
returns-clause-stands c =
    let xs = c.args.fields.now in
    let i = c.args.index in
    let x = c.index-fields-index.result in
    let less : i < length xs = search rules in
    let w = field_limits xs i x less c.index-fields-index.is c.requires.limits in
    let d = field_defaults xs i x less c.index-fields-index.is c.requires.defaults in
    let o = fields_stand xs i (bits_in c.args.bits) (place_of c.args.cursor) (place_of c.check_fields.new.at) _ c.requires.limits c.requires.defaults c.in-Ok.ensures in
    value_stands (type_of x.shape) w d (λ n a. AreFields (fields_of xs) i (bits_in c.args.bits) a) o.0 (place_of c.args.cursor) (place_of c.check_fields.new.at) _ _ o.2 (λ n. o.1) c.in-Some.ensures refl
