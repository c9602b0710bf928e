use Rattle.oer_types.specs.Schema.{the_type}
use Rattle.std.proofs.Common.{refl}
use Rattle.oer_layout.specs.declared.layout.Widest.{Widest}
use Rattle.oer_layout.proofs.Measured.{rows_measured}
use Rattle.oer_layout.proofs.layout.measured.Goals as goal

pub returns : goal.returns
returns c = rows_measured (λ (p : Widest). p.widths) (the_type c.args.schema.now) c.args.octets.now _ c.in_ok-widest.widest refl c.in_ok-widest.ensures.taken
