use Rattle.std.proofs.Common.{◌<◌, ◌≤◌, ◌*◌, ◌/◌, ap, ◌∙◌, arith, drop, length, take}
use Rattle.oer_modules.proofs.Strides.{mark_reaches, position_from}
use Rattle.oer_modules.specs.Places.{behind}
use Rattle.oer_modules.proofs.marks.Marks.position_at.Goals as goal

pub behind-requires-clause-line : goal.behind-requires-clause-line
behind-requires-clause-line c =
    let mark = c.args.at / 4096 in
    let less : mark < length c.args.self.now.positions.items = omega (arith, c.len.ensures, c.if-mark-len.false) in
    let here = c.index.ensures ∙ c.requires mark c.index.result.now less in
    let passed = c.past.ensures ∙ ap (drop (mark * 4096)) (c.front-before.ensures ∙ ap (take c.args.at) c.as_bytes.ensures.value) in
    let far = mark_reaches (mark * 4096) c.args.at c.args.text.now c.past.result.now c.index.result.now here passed in
    omega (arith, far.0, c.as_bytes.ensures.len)

pub behind-requires-clause-column : goal.behind-requires-clause-column
behind-requires-clause-column c =
    let mark = c.args.at / 4096 in
    let less : mark < length c.args.self.now.positions.items = omega (arith, c.len.ensures, c.if-mark-len.false) in
    let here = c.index.ensures ∙ c.requires mark c.index.result.now less in
    let passed = c.past.ensures ∙ ap (drop (mark * 4096)) (c.front-before.ensures ∙ ap (take c.args.at) c.as_bytes.ensures.value) in
    let far = mark_reaches (mark * 4096) c.args.at c.args.text.now c.past.result.now c.index.result.now here passed in
    omega (arith, far.1, c.as_bytes.ensures.len)

pub returns : goal.returns
returns c =
    let mark = c.args.at / 4096 in
    let less : mark < length c.args.self.now.positions.items = omega (arith, c.len.ensures, c.if-mark-len.false) in
    let here = c.index.ensures ∙ c.requires mark c.index.result.now less in
    let passed = c.past.ensures ∙ ap (drop (mark * 4096)) (c.front-before.ensures ∙ ap (take c.args.at) c.as_bytes.ensures.value) in
    let before : mark * 4096 ≤ c.args.at = omega arith in
    c.behind.ensures ∙ ap (λ x. behind x c.index.result.now) passed ∙ ap (behind (drop (mark * 4096) (take c.args.at c.args.text.now))) here
    ∙ position_from c.args.text.now (mark * 4096) c.args.at before
