use Rattle.oer_types.specs.Schema.{the_type}
use Rattle.oer_c.proofs.Rewritten.{put_in}
use Rattle.oer_c.proofs.make.make.Goals as goal

pub returns-in-Ok : goal.returns-in-Ok
returns-in-Ok c = put_in (the_type c.args.schema.now) c.args.text.now c.in-Ok.octets.items _ _ _ _ c.in-Ok.ensures.octets c.as_slice.ensures.value c.put.ensures
