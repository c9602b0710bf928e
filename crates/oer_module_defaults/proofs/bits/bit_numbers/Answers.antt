use Rattle.std.proofs.Common.{map}
use Rattle.std.proofs.lemmas.Result.{err_from_is_err_and}
use Rattle.oer_module_defaults.proofs.Loops.{numbers_err, numbers_next}
use Rattle.oer_module_names.specs.Views.{modules_in}
use Rattle.oer_module_terms.specs.Trees.{item_of}
use Rattle.oer_module_defaults.proofs.bits.bit_numbers.Goals as goal

pub returns-in_err-number : goal.returns-in_err-number
returns-in_err-number c =
    let l = c.loop-member in
    let p = err_from_is_err_and c.from_residual.result c.from_residual.ensures.1 in
    rw (p.1, p.2) (λ not_memory. numbers_err (modules_in c.args.names.now) c.args.place c.args.«module» c.args.size (map item_of c.args.items.now)
    c.args.members.now l.member-index l.numbers.items _ l.invariant c.member-item.result c.loop-member-test.true c.member-item.is
    (c.in_err-number.ensures not_memory))

pub loop-member-preserved : goal.loop-member-preserved
loop-member-preserved c =
    let l = c.loop-member in
    numbers_next (modules_in c.args.names.now) c.args.place c.args.«module» c.args.size (map item_of c.args.items.now)
    c.args.members.now l.member-index l.numbers.items _ l.invariant c.member-item.result c.loop-member-test.true c.member-item.is
    c.in_ok-number.ensures c.in_ok-push.ensures.items
