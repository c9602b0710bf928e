use Rattle.std.proofs.Common.{ap, subst, sym, ◌∙◌}
use Rattle.oer_module_lexer.specs.Token.{spots_of}
use Rattle.oer_module_lexer.specs.declared.lexing.Tokens.{Tokens}
use Rattle.oer_modules.proofs.Orders.{tokens_in_order}
use Rattle.oer_modules.proofs.Strides.{one_marked}
use Rattle.oer_modules.proofs.Walks.{point_there}
use Rattle.oer_modules.specs.Places.{AreInOrder, token_at}
use Rattle.oer_modules.proofs.place.point_at.Goals as goal

pub position_in-position-requires : goal.position_in-position-requires
position_in-position-requires c = one_marked c.args.texts.now c.args.marks.now c.args.text _ c.requires.marked c.if-text-texts.false

pub token_at-requires : goal.token_at-requires
token_at-requires c =
    subst AreInOrder (sym c.deref.ensures.value)
    (subst (λ (k : Tokens). AreInOrder k.spots.items) c.index-tokens-text.is
    (tokens_in_order c.args.texts.now c.args.tokens.now c.args.text c.index-tokens-text.result c.requires.lexed c.if-text-texts.false c.if-text-tokens.false c.index-tokens-text.is))

pub returns : goal.returns
returns c =
    point_there c.args.texts.now c.args.tokens.now c.args.text c.args.at _ c.index-tokens-text.result c.position_in-position.result _ c.requires.lexed c.if-text-texts.false c.if-text-tokens.false
    c.index-tokens-text.is c.position_in-position.ensures
    (c.token_at.ensures ∙ ap (λ x. token_at c.args.at (spots_of x)) c.deref.ensures.value ∙ ap (λ k. token_at c.args.at (spots_of k.spots.items)) (sym c.index-tokens-text.is))
