use Rattle.oer_layout.proofs.Laid.{cells_alone}
use Rattle.oer_layout.proofs.layout.cells_text.Goals as goal

pub returns : goal.returns
returns c = cells_alone _ _ _ c.in_ok-text.ensures.bytes c.in_ok-push_cells.ensures
