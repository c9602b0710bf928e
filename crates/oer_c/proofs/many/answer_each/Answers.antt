use Rattle.std.proofs.Common.{◌<◌, length, rules, arith}
use Rattle.oer_types.specs.Schema.{the_type}
use Rattle.oer_c.proofs.Answered.{kept_after, one_more}
use Rattle.oer_c.proofs.many.answer_each.Goals as goal

pub loop-at-preserved : goal.loop-at-preserved
loop-at-preserved c =
    let room : c.loop-at.at < length c.loop-at.answers = search rules in
    record {
      done = one_more (the_type c.args.schema.now) c.args.octets.now c.args.messages.now c.loop-at.answers c.loop-at.at c.answer_of.result _ c.loop-at-test.true room c.answer_of.ensures c.loop-at.invariant.done;
      kept = kept_after c.loop-at.answers c.args.answers.now c.loop-at.at c.answer_of.result c.loop-at.invariant.kept;
    }

pub returns : goal.returns
returns c = (
  λ k m a less. c.loop-at.invariant.done k m a (let end = c.loop-at-test.false in omega arith),
  λ k a le. c.loop-at.invariant.kept k a (let end = c.loop-at.auto.at-end in omega arith),
)
