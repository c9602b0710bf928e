use Rattle.std.proofs.Common.{true, drop, refl, ap, ◌∙◌}
use Rattle.oer_model.specs.Checking.{check_unknown}
use Rattle.oer_checker.specs.BitView.{bits_in}
use Rattle.oer_checker.specs.Places.{place_of}
use Rattle.oer_parts.proofs.Finds.{no_refusal, piece_found, same_end, unknown_found}
use Rattle.oer_parts.proofs.Walks.{unknown_entry}
use Rattle.oer_parts.proofs.Standing.{unknown_stands}
use Rattle.oer_parts.proofs.walk.unknown_in.Goals as goal

pub returns-in_default-clause-found : goal.returns-in_default-clause-found
returns-in_default-clause-found c =
    let e = c.requires.checked in
    let s = bits_in c.args.bits in
    let o = unknown_found s c.args.known c.args.index (place_of c.args.cursor) e.1 e.0 e.2 c.requires.later c.requires.there in
    absurd (no_refusal _ o.0 _ _ o.1 (c.in_default.ensures ∙ ap (λ l. check_unknown (drop c.args.known l) (place_of c.args.cursor)) c.until.ensures.bits))

pub returns-clause-found : goal.returns-clause-found
returns-clause-found c =
    let e = c.requires.checked in
    let s = bits_in c.args.bits in
    let o = unknown_found s c.args.known c.args.index (place_of c.args.cursor) e.1 e.0 e.2 c.requires.later c.requires.there in
    let ends = same_end _ o.0 _ _ o.1 (c.in-Ok.ensures ∙ ap (λ l. check_unknown (drop c.args.known l) (place_of c.args.cursor)) c.until.ensures.bits) in
    piece_found c.content_at.result _ (unknown_entry c.args.index true) o.0 (place_of c.check_unknown.new.at) _ refl o.2 ends c.content_at.ensures.read c.content_at.ensures.kind

pub returns-clause-stands : goal.returns-clause-stands
returns-clause-stands c =
    let until = c.in-Ok.ensures ∙ ap (λ l. check_unknown (drop c.args.known l) (place_of c.args.cursor)) c.until.ensures.bits in
    unknown_stands c.args.known c.args.index (bits_in c.args.bits) (place_of c.args.cursor) (place_of c.check_unknown.new.at) _ c.content_at.result until c.content_at.ensures.stands
