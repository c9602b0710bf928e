use Rattle.std.proofs.Common.{rules}
use Rattle.oer_explain.proofs.octets.rows_notes.Goals as goal

pub returns : goal.returns
returns c = (
  c.in_ok-rows.rows.items,
  c.in_ok-rows.place,
  c.in_ok-rows.ensures.rows,
  (c.in_ok-rows.ensures.place, c.in_ok-rows.ensures.rejected),
  search rules,
)
