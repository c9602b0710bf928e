use Rattle.std.proofs.Common.{◌<◌, ◌≤◌, length, Ok, sym, ap, ◌∙◌, arith, rules}
use Rattle.std.proofs.lemmas.Result.{err_from_is_err_and}
use Rattle.oer_module_names.proofs.Follows.{turn_err, turn_here, turn_on, turns_over}
use Rattle.oer_module_names.specs.Views.{fault_of, modules_in}
use Rattle.oer_module_names.proofs.names.Names.follow.Goals as goal

pub returns-in_err-found-clause-answer : goal.returns-in_err-found-clause-answer
returns-in_err-found-clause-answer c =
    let l = c.loop-turn in
    let ms = modules_in c.args.self.now in
    let more : l.turn < length ms = omega (arith, c.modules-turn-end.ensures.len) in
    let p = err_from_is_err_and c.from_residual.result c.from_residual.ensures.1 in
    rw (p.1, p.2) (turn_err ms c.args.name.now (length ms) l.turn c.args.start l.way l.invariant.same more (fault_of c.in_err-found.field-0.0) c.in_err-found.ensures.answer)

pub returns-in-Here-clause-answer : goal.returns-in-Here-clause-answer
returns-in-Here-clause-answer c =
    let l = c.loop-turn in
    let ms = modules_in c.args.self.now in
    let more : l.turn < length ms = omega (arith, c.modules-turn-end.ensures.len) in
    turn_here ms c.args.name.now (length ms) l.turn c.args.start l.way l.invariant.same more c.in-Here.found (sym (ap Ok c.in-Here.is) ∙ c.in_ok-found.ensures.answer)

pub loop-turn-preserved : goal.loop-turn-preserved
loop-turn-preserved c =
    let l = c.loop-turn in
    let ms = modules_in c.args.self.now in
    let more : l.turn < length ms = omega (arith, c.modules-turn-end.ensures.len) in
    record {
      same = turn_on ms c.args.name.now (length ms) l.turn c.args.start l.way l.invariant.same more c.in-On.next (sym (ap Ok c.in-On.is) ∙ c.in_ok-found.ensures.answer);
      within = search rules;
    }

pub returns-clause-answer : goal.returns-clause-answer
returns-clause-answer c =
    let l = c.loop-turn in
    let ms = modules_in c.args.self.now in
    let over : length ms ≤ l.turn = omega (arith, c.modules-turn-end.ensures.len) in
    turns_over ms c.args.name.now (length ms) l.turn c.args.start l.way l.invariant.same over
