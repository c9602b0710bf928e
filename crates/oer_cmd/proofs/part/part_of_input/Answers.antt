use Rattle.oer_model.specs.Parts.{Step}
use Rattle.oer_options.specs.Words.{behind}
use Rattle.oer_cmd.specs.Taking.{IsGathered}
use Rattle.oer_cmd.specs.Expected.{Expected, stop, unknown, value, ◌>>=◌}
use Rattle.oer_cmd.specs.declared.fault.Fault.TheVariants.{Path}
use Rattle.std.proofs.Common.{◌+◌, List, ap, refl}
use Rattle.oer_cmd.proofs.Meeting.{left}
use Rattle.oer_cmd.proofs.Taking.{untaken}
use Rattle.oer_cmd.proofs.Answered.{none_there, path_there}
use Rattle.oer_cmd.proofs.part.part_of_input.Goals as goal

pub returns-in_err-path-clause-takes : goal.returns-in_err-path-clause-takes
returns-in_err-path-clause-takes g c = rw (left c.from_residual.result _ c.from_residual.ensures.1) (λ has.
    let p = path_there (behind c.args.path) has in
    untaken (c.args.limit + 4096) _ (IsGathered c.args.limit) _ (λ small. let no = c.in_err-path.ensures.exact (value p.0) p.1 small in cc))

pub returns-in_err-path-clause-pathless : goal.returns-in_err-path-clause-pathless
returns-in_err-path-clause-pathless g c = rw (left c.from_residual.result _ c.from_residual.ensures.1) (λ lacks. (
  refl,
  λ small. ap (λ (o : Expected (List Step)). o >>= λ steps. unknown)
      (c.in_err-path.ensures.exact (stop Path) (none_there (behind c.args.path) lacks) small),
))
