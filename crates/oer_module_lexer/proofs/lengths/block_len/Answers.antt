use Rattle.std.proofs.Common.{◌<◌, ◌∙◌, sym, ap, arith, None}
use Rattle.oer_lexer.specs.Lexing.{plus, block_len}
use Rattle.oer_lexer.proofs.ByteSteps.{turn, two_long, drop_two, drop_one, block_last, block_close, block_open, block_more, block_none}
use Rattle.oer_module_lexer.proofs.lengths.block_len.Goals as goal

pub returns-then-depth-eq0-clause-value : goal.returns-then-depth-eq0-clause-value
returns-then-depth-eq0-clause-value c =
    let l = c.loop-rest in
    let h = sym c.starts_with_two.ensures ∙ c.if-starts_with_two.true in
    sym (l.invariant.0 ∙ ap (λ o. plus l.n o) (ap (block_len l.rest.now) c.if-depth-eq0.true ∙ block_last l.rest.now h))

pub loop-rest-preserved-then-starts_with_two : goal.loop-rest-preserved-then-starts_with_two
loop-rest-preserved-then-starts_with_two c =
    let l = c.loop-rest in
    let h = sym c.starts_with_two.ensures ∙ c.if-starts_with_two.true in
    let size = drop_two l.rest.now (two_long _ _ l.rest.now h) in
    let known = l.invariant.1 in
    let deep = l.invariant.2 in
    let other = c.if-depth-eq0.false in
    let some : 0 < l.depth = omega arith in
    rw (c.tail-rest.ensures, c.tail.ensures) (turn _ l.n 2 _ _ l.invariant.0 (block_close l.rest.now l.depth h some), omega arith, omega arith)

pub loop-rest-preserved-then-starts_with_two-2 : goal.loop-rest-preserved-then-starts_with_two-2
loop-rest-preserved-then-starts_with_two-2 c =
    let l = c.loop-rest in
    let n = sym c.starts_with_two.ensures ∙ c.if-starts_with_two.false in
    let h = sym c.starts_with_two-else-starts_with_two.ensures ∙ c.if-starts_with_two-2.true in
    let size = drop_two l.rest.now (two_long _ _ l.rest.now h) in
    let known = l.invariant.1 in
    let deep = l.invariant.2 in
    rw (c.tail-rest-then-starts_with_two-2.ensures, c.tail-then-starts_with_two-2.ensures) (turn _ l.n 2 _ _ l.invariant.0 (block_open l.rest.now l.depth n h), omega arith, omega arith)

pub loop-rest-preserved : goal.loop-rest-preserved
loop-rest-preserved c =
    let l = c.loop-rest in
    let n = sym c.starts_with_two.ensures ∙ c.if-starts_with_two.false in
    let h = sym c.starts_with_two-else-starts_with_two.ensures ∙ c.if-starts_with_two-2.false in
    let some = c.loop-rest-test.true in
    let size = drop_one l.rest.now (omega arith) in
    let known = l.invariant.1 in
    let deep = l.invariant.2 in
    rw c.tail-rest-else-starts_with_two-2.ensures (turn _ l.n 1 _ _ l.invariant.0 (block_more l.rest.now l.depth n h some), omega arith, omega arith)

pub returns-clause-value : goal.returns-clause-value
returns-clause-value c =
    let l = c.loop-rest in
    sym (turn _ l.n 1 _ None l.invariant.0 (block_none l.rest.now l.depth c.loop-rest-test.false))
