use Rattle.std.proofs.Common.{ap, sym, ◌∙◌, option_map, refl}
use Rattle.oer_module_lexer.specs.Token.{token_of}
use Rattle.oer_modules.proofs.Orders.{token_absent, token_answer}
use Rattle.oer_modules.proofs.place.token_at.Goals as goal

pub returns-in_err-spot : goal.returns-in_err-spot
returns-in_err-spot c =
    let before = c.count_before.ensures in
    ap (option_map token_of) c.from_residual.ensures ∙ sym (token_absent c.args.at c.args.spots.now c.count_before.result before.within before.parted c.in_err-spot.ensures.lookup.3)

pub returns : goal.returns
returns c =
    let before = c.count_before.ensures in
    let found = c.in_ok-spot.ensures.lookup in
    ap (option_map token_of) c.then_some.ensures
    ∙ sym (token_answer c.args.at c.args.spots.now c.count_before.result before.within before.parted c.in_ok-spot.spot.now _ c.requires found.3.0 found.1 refl)
