use Rattle.std.proofs.Common.{ap, ◌∙◌}
use Rattle.oer_c.specs.Sharing.{types_in}
use Rattle.oer_c.proofs.Stopping.{now_of, read_there, stopped_there}
use Rattle.oer_c.proofs.modules.read_modules.Goals as goal

pub returns-clause-given : goal.returns-clause-given
returns-clause-given c =
    read_there c.args.octets.now c.args.places.now c.args.nesting _ c.in-Ok.ensures.within (ap now_of c.deref.ensures.value ∙ c.in-Ok.ensures.texts)
    c.read_texts.result (λ shared. types_in shared.value) c.read_texts.ensures.given

pub returns-clause-stopped : goal.returns-clause-stopped
returns-clause-stopped c =
    stopped_there c.args.octets.now c.args.places.now c.args.nesting _ c.in-Ok.ensures.within (ap now_of c.deref.ensures.value ∙ c.in-Ok.ensures.texts)
    c.read_texts.result c.read_texts.ensures.stopped
