use Rattle.std.proofs.Common.{map}
use Rattle.oer_layout.specs.Cells.{cells_of}
use Rattle.oer_layout.proofs.Measured.{widest_made}
use Rattle.oer_layout.proofs.layout.uncut.Goals as goal

pub returns : goal.returns
returns c =
    let m = c.in_ok-widths.ensures in
    (m.0, m.1, widest_made c.in_ok-widths.widths (map cells_of m.0) _ _ m.2 c.digits_of.ensures c.digits_of-2.ensures)
