use Rattle.std.proofs.Common.{◌+◌, drop, get_or, sym, ap, ◌∙◌, arith}
use Rattle.oer_modules.proofs.Walks.{behind_more, behind_over, beyond_within}
use Rattle.oer_modules.specs.Places.{behind}
use Rattle.oer_modules.proofs.place.behind.Goals as goal

pub loop-byte-preserved : goal.loop-byte-preserved
loop-byte-preserved c =
    let l = c.loop-byte in
    let bytes = c.args.bytes.now in
    let is = c.beyond-position.ensures in
    let far = beyond_within (get_or bytes l.byte-index 0) l.position in
    let line = ap (λ p. p.line) is in
    let column = ap (λ p. p.column) is in
    record {
      same = ap (behind (drop (l.byte-index + 1) bytes)) is ∙ sym (behind_more bytes l.byte-index 0 l.position c.loop-byte-test.true) ∙ l.invariant.same;
      line = omega (arith, line, far.0, l.invariant.line);
      column = omega (arith, column, far.1, l.invariant.column);
    }

pub returns : goal.returns
returns c =
    let l = c.loop-byte in
    sym (behind_over c.args.bytes.now l.byte-index l.position c.loop-byte-test.false) ∙ l.invariant.same
