use Rattle.std.proofs.Common.{ap, subst, [], ◌∷◌, ◌++◌}
use Rattle.std.specs.Io.KnownBytes.{Appends}
use Rattle.oer_lines_cmd.specs.Answering.{refusal_by}
use Rattle.oer_lines_cmd.specs.Answers.{rejection}
use Rattle.oer_lines_cmd.proofs.Fronts.{keeps_same, whole_front}
use Rattle.oer_lines_cmd.proofs.answer.reject.Goals as goal

pub returns-in_default-rejection_at : goal.returns-in_default-rejection_at
returns-in_default-rejection_at g c = (
  whole_front (g.W.Write.contents c.args.output.now) (g.W.Write.contents c.put_line.new.output) (rejection (refusal_by c.args.why).text)
      (subst (Appends (g.W.Write.contents c.args.output.now) (g.W.Write.contents c.put_line.new.output)) (ap (λ t. t ++ 10 ∷ []) c.in-Ok.ensures) c.in_default-put_line.ensures),
  keeps_same (g.E.Write.contents c.args.errors.now),
)
