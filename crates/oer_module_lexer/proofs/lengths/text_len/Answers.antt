use Rattle.std.proofs.Common.{◌≤◌, ◌∙◌, sym, ap, length, arith, None}
use Rattle.std.proofs.lemmas.Bool.{eqb-true, eqb-false}
use Rattle.oer_lexer.specs.Lexing.{plus}
use Rattle.oer_lexer.proofs.ByteSteps.{turn, two_long, drop_two, drop_one}
use Rattle.oer_module_lexer.proofs.ByteSteps.{text_twice, text_close, text_more, text_none}
use Rattle.oer_module_lexer.proofs.lengths.text_len.Goals as goal

pub loop-rest-preserved-then-starts_with_two : goal.loop-rest-preserved-then-starts_with_two
loop-rest-preserved-then-starts_with_two c =
    let l = c.loop-rest in
    let h = sym c.starts_with_two.ensures ∙ c.if-starts_with_two.true in
    let size = drop_two l.rest.now (two_long _ _ l.rest.now h) in
    let known = l.invariant.1 in
    rw (c.tail-rest.ensures, c.tail.ensures) (turn _ l.n 2 _ _ l.invariant.0 (text_twice l.rest.now h), omega arith)

pub loop-rest-preserved : goal.loop-rest-preserved
loop-rest-preserved c =
    let l = c.loop-rest in
    let n = sym c.starts_with.ensures ∙ c.if-starts_with.false in
    let other = eqb-false (length l.rest.now) 0 (sym c.is_empty.ensures ∙ c.loop-rest-test.true) in
    let some : 1 ≤ length l.rest.now = omega arith in
    let size = drop_one l.rest.now some in
    let known = l.invariant.1 in
    rw c.tail-rest-else-starts_with.ensures (turn _ l.n 1 _ _ l.invariant.0 (text_more l.rest.now n some), omega arith)

pub returns-then-starts_with-clause-value : goal.returns-then-starts_with-clause-value
returns-then-starts_with-clause-value c =
    let l = c.loop-rest in
    let n = sym c.starts_with_two.ensures ∙ c.if-starts_with_two.false in
    let h = sym c.starts_with.ensures ∙ c.if-starts_with.true in
    sym (l.invariant.0 ∙ ap (plus l.n) (text_close l.rest.now n h))

pub returns-clause-value : goal.returns-clause-value
returns-clause-value c =
    let l = c.loop-rest in
    let over = eqb-true (length l.rest.now) 0 (sym c.is_empty.ensures ∙ c.loop-rest-test.false) in
    sym (turn _ l.n 1 _ None l.invariant.0 (text_none l.rest.now (omega arith)))
