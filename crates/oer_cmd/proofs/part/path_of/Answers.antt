use Rattle.std.proofs.Common.{ap, subst, sym}
use Rattle.oer_options.specs.Words.{behind}
use Rattle.oer_parts.specs.Walk.{path_of as steps_of}
use Rattle.oer_cmd.specs.Run.{IsPath}
use Rattle.oer_cmd.proofs.Exact.{no_path, path_is}
use Rattle.oer_cmd.proofs.part.path_of.Goals as goal

pub returns-in-Ok-clause-exact : goal.returns-in-Ok-clause-exact
returns-in-Ok-clause-exact c = path_is (behind c.args.text) (steps_of c.in-Ok.path.items) c.one_path.ensures
    (subst (λ t. IsPath (behind t) (steps_of c.in-Ok.path.items)) (sym c.in-Some.is) c.in-Ok.ensures.spelt)

pub returns-in_default-clause-exact : goal.returns-in_default-clause-exact
returns-in_default-clause-exact c = λ path of. no_path c.args.text (steps_of c.new.result.items) c.in_default.not-Some (ap steps_of c.new.ensures.items) path of
