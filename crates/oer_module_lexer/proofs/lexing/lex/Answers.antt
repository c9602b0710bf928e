use Rattle.std.proofs.Common.{◌≡◌, length, Some, None, sym, ap, ◌∙◌, subst}
use Rattle.std.proofs.lemmas.List.{map_push}
use Rattle.oer_module_lexer.specs.Token.{spots_of, token_of, spot_of}
use Rattle.oer_module_lexer.specs.Lexing.{Lexed, lex, front_at}
use Rattle.oer_module_lexer.proofs.Turns.{Keeps, keeps_token, keeps_skip, keeps_end, keeps_start, empty_over}
use Rattle.oer_module_lexer.proofs.lexing.lex.Goals as goal

pub tokens-init : goal.tokens-init
tokens-init c = record {
  keeps = let none = c.new-spots.ensures.items in subst (λ x. Keeps (lex c.args.text.now) x (length c.args.text.now) c.args.text.now) (ap spots_of (sym none)) (keeps_start c.args.text.now);
  utf8 = c.utf8.text;
}

pub tokens-preserved-in-Continue-1 : goal.tokens-preserved-in-Continue-1
tokens-preserved-in-Continue-1 c =
    let l = c.tokens in
    let rest = l.rest.now in
    let text = c.args.text.now in
    let f = c.in-Some.ensures in
    let e : front_at rest ≡ Some (Some (token_of c.in-Some-token.token), c.in-Some.len) = rw c.in-Some-token.is at (sym f.value) in
    let kept = keeps_token (lex text) (length text) rest c.in-Some.len f.some.0 f.some.1 (spots_of l.spots.items) (token_of c.in-Some-token.token) e l.invariant.keeps in
    let found = ap spots_of c.in_ok-push.ensures.items ∙ map_push spot_of l.spots.items _ in
    record { keeps = rw (c.after-rest.ensures, found) kept; utf8 = c.after-rest.utf8 }

pub tokens-preserved : goal.tokens-preserved
tokens-preserved c =
    let l = c.tokens in
    let rest = l.rest.now in
    let text = c.args.text.now in
    let f = c.in-Some.ensures in
    let e : front_at rest ≡ Some (None, c.in-Some.len) = rw c.in_default-token.is at (sym f.value) in
    record { keeps = rw c.after-rest.ensures (keeps_skip (lex text) (length text) rest c.in-Some.len f.some.0 f.some.1 (spots_of l.spots.items) e l.invariant.keeps); utf8 = c.after-rest.utf8 }

pub returns : goal.returns
returns c =
    let l = c.tokens in
    let rest = l.rest.now in
    let text = c.args.text.now in
    let e : front_at rest ≡ None = sym c.in_default.ensures.value in
    let all = sym (keeps_end (lex text) (spots_of l.spots.items) (length text) rest e l.invariant.keeps) in
    record {
      spots = ap (λ (l : Lexed). l.spots) all;
      end = ap (λ (l : Lexed). l.end) all;
      complete = c.is_empty-complete.ensures ∙ empty_over rest ∙ ap (λ (l : Lexed). l.complete) all;
    }
