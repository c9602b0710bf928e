use Rattle.std.proofs.Common.{◌+◌, ◌-◌, ◌%◌, ◌∙◌, ap, arith}
use Rattle.oer_random.proofs.Lengths.{length_below, length_is, size_is}
use Rattle.oer_random.proofs.words.of_length.Goals as goal

pub overflow_add-result : goal.overflow_add-result
overflow_add-result c =
    let e = size_is c.args.length c.requires in let l = length_below c.args.length c.args.number c.requires in rw e (omega (arith, l))

pub returns-clause-value : goal.returns-clause-value
returns-clause-value c = ap (λ k. k - 1 + c.args.number % k) (size_is c.args.length c.requires) ∙ length_is c.args.length c.args.number

pub returns-clause-bound : goal.returns-clause-bound
returns-clause-bound c =
    let e = size_is c.args.length c.requires in let l = length_below c.args.length c.args.number c.requires in rw e l
