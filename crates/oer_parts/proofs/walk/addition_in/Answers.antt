use Rattle.std.proofs.Common.{◌∙◌, drop, length, refl, sym, ap}
use Rattle.oer_model.specs.Bits.{first_bit}
use Rattle.oer_model.specs.Checking.{check_additions, check_unknown}
use Rattle.oer_model.specs.Parts.{lookup, parts_in, to_addition, unknown_parts}
use Rattle.oer_values.specs.ShapeView.{additions_of, type_of}
use Rattle.oer_checker.specs.BitView.{bits_in}
use Rattle.oer_checker.specs.Places.{place_of}
use Rattle.oer_checker.proofs.FieldSteps.{addition_defaults, addition_limits}
use Rattle.oer_parts.proofs.Finds.{addition_absent, addition_defaults_front, addition_found, additions_front, is_checked, no_refusal, nth, parted, piece_found, same_end, unknown_look}
use Rattle.oer_parts.proofs.Walks.{addition_entry}
use Rattle.oer_parts.proofs.Standing.{addition_stands, beyond_stands, content_counted}
use Rattle.oer_parts.proofs.walk.addition_in.Goals as goal

pub returns-then-not-first-clause-found : goal.returns-then-not-first-clause-found
returns-then-not-first-clause-found c =
    let e = c.requires.checked in
    let s = bits_in c.args.bits in
    addition_absent c.args.additions.now (length c.args.additions.now) refl s (place_of c.args.cursor) e.1 e.0 e.2 c.args.index (sym c.if-not-first.true ∙ c.first.ensures ∙ ap first_bit c.skip.ensures)

pub returns-in_default-clause-found : goal.returns-in_default-clause-found
returns-in_default-clause-found c =
    let e = c.requires.checked in
    let xs = c.args.additions.now in
    let p = parted xs (length xs) refl (bits_in c.args.bits) (place_of c.args.cursor) e.1 e.0 e.2 in
    absurd (no_refusal _ p.1 _ _ (p.0, p.3) c.in_default.ensures)

pub unknown_in-requires-clause-checked : goal.unknown_in-requires-clause-checked
unknown_in-requires-clause-checked c =
    let e = c.requires.checked in
    let xs = c.args.additions.now in
    let s = bits_in c.args.bits in
    let p = parted xs (length xs) refl s (place_of c.args.cursor) e.1 e.0 e.2 in
    let ends = same_end (check_additions (additions_of xs) s (place_of c.args.cursor)) p.1 (place_of c.check_additions.new.at) _ (p.0, p.3) c.in-Ok.ensures in
    (p.2, e.1, p.4 ∙ ap (λ q. check_unknown (drop (length xs) s) q) (sym ends))

pub returns-then-index-additions-clause-found : goal.returns-then-index-additions-clause-found
returns-then-index-additions-clause-found c =
    let e = c.requires.checked in
    let xs = c.args.additions.now in
    let s = bits_in c.args.bits in
    let p = parted xs (length xs) refl s (place_of c.args.cursor) e.1 e.0 e.2 in
    let ends = same_end (check_additions (additions_of xs) s (place_of c.args.cursor)) p.1 (place_of c.check_additions.new.at) _ (p.0, p.3) c.in-Ok.ensures in
    λ o. c.unknown_in.ensures.found o
    ∙ ap (λ q. lookup o (to_addition c.args.index) (parts_in (unknown_parts (length xs) (drop (length xs) s) q))) ends
    ∙ unknown_look xs (length xs) refl s (place_of c.args.cursor) e.1 e.0 e.2 c.args.index c.if-index-additions.true o

pub check_additions-requires-2-clause-limits : goal.check_additions-requires-2-clause-limits
check_additions-requires-2-clause-limits c = additions_front c.args.additions.now c.args.index c.requires.limits

pub check_additions-requires-2-clause-defaults : goal.check_additions-requires-2-clause-defaults
check_additions-requires-2-clause-defaults c = addition_defaults_front c.args.additions.now c.args.index c.requires.defaults

pub returns-in_default-check_additions-clause-found : goal.returns-in_default-check_additions-clause-found
returns-in_default-check_additions-clause-found c =
    let e = c.requires.checked in
    let xs = c.args.additions.now in
    let y = nth xs c.args.index c.if-index-additions.false in
    let o = addition_found xs (length xs) refl (bits_in c.args.bits) (place_of c.args.cursor) e.1 e.0 e.2 c.args.index y.0 c.if-index-additions.false y.1 in
    absurd (no_refusal _ o.0 _ _ o.1 c.in_default-check_additions.ensures)

pub returns-clause-found : goal.returns-clause-found
returns-clause-found c =
    let e = c.requires.checked in
    let xs = c.args.additions.now in
    let i = c.args.index in
    let x = c.index-additions-index.result in
    let T = type_of x.shape in
    let s = bits_in c.args.bits in
    let start = place_of c.check_additions-2.new.at in
    let entry = addition_entry x i (first_bit (drop i s)) in
    let o = addition_found xs (length xs) refl s (place_of c.args.cursor) e.1 e.0 e.2 i x c.if-index-additions.false c.index-additions-index.is in
    let there = sym c.if-not-first.false ∙ c.first.ensures ∙ ap first_bit c.skip.ensures in
    let ends = same_end _ o.0 start _ o.1 c.in-Ok-check_additions.ensures in
    let w = addition_limits xs i x c.if-index-additions.false c.index-additions-index.is c.requires.limits in
    let d = addition_defaults xs i x c.if-index-additions.false c.index-additions-index.is c.requires.defaults in
    let content = content_counted T w d start (is_checked _ entry o.0 start _ there o.2 ends) in
    piece_found c.content_at.result _ entry o.0 start _ there o.2 ends (c.content_at.ensures.read ∙ content) c.content_at.ensures.kind

pub returns-then-index-additions-clause-stands : goal.returns-then-index-additions-clause-stands
returns-then-index-additions-clause-stands c =
    beyond_stands c.args.additions.now c.args.index (bits_in c.args.bits) (place_of c.args.cursor) (place_of c.check_additions.new.at) _ c.unknown_in.result c.requires.limits c.requires.defaults c.if-index-additions.true c.in-Ok.ensures c.unknown_in.ensures.stands

pub returns-clause-stands : goal.returns-clause-stands
returns-clause-stands c =
    addition_stands c.args.additions.now c.args.index (bits_in c.args.bits) (place_of c.args.cursor) (place_of c.check_additions-2.new.at) _ c.content_at.result c.requires.limits c.requires.defaults c.if-index-additions.false c.in-Ok-check_additions.ensures c.content_at.ensures.stands
