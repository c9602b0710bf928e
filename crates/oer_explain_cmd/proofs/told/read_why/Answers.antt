use Rattle.std.proofs.Common.{◌∙◌, refl, sym}
use Rattle.oer_types.specs.Schema.{the_type}
use Rattle.oer_explain_cmd.proofs.Whys.{read_got, read_refused}
use Rattle.oer_explain_cmd.proofs.told.read_why.Goals as goal

pub returns-in-Ok : goal.returns-in-Ok
returns-in-Ok c =
    read_got (the_type c.args.schema.now) c.args.limit _ _ _ _ _ c.args.octets.now c.in-Ok.ensures.exact (rw c.new-reader.ensures.inner refl)

pub returns : goal.returns
returns c =
    read_refused (the_type c.args.schema.now) c.args.limit _ _ _ _ c.in-Err.fault c.args.octets.now c.in-Err.ensures.exact
    (rw c.new-reader.ensures.inner refl) (sym c.is_machine.ensures ∙ c.if-is_machine.false)
