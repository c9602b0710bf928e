use Rattle.std.proofs.Common.{arith}
use Rattle.oer_values.specs.ValueView.{value_of}
use Rattle.oer_example.proofs.Components.{no_place, put}
use Rattle.oer_example.proofs.value.with_component.Goals as goal

pub returns-then-place-len : goal.returns-then-place-len
returns-then-place-len c = no_place c.args.place _ (value_of c.args.component) c.in-Seq.root c.in-Seq.added c.in-Seq.unknown c.in-Seq.is (omega arith)

pub returns-in-Seq : goal.returns-in-Seq
returns-in-Seq c = put c.args.place _ c.args.component c.in-Seq.root c.in-Seq.added c.in-Seq.unknown c.in-Seq.is (omega arith)
