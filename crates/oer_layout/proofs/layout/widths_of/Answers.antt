use Rattle.oer_types.specs.Schema.{the_type}
use Rattle.oer_layout.proofs.Measured.{bounded_widths}
use Rattle.oer_layout.proofs.layout.widths_of.Goals as goal

pub returns : goal.returns
returns c = bounded_widths c.args.width (the_type c.args.schema.now) c.args.octets.now c.in_ok-widths.widths _ c.if-width-eq0.false c.in_ok-widths.ensures c.within.ensures
