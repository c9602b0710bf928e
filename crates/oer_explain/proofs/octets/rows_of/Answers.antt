use Rattle.std.proofs.Common.{◌≡◌, [], rules}
use Rattle.oer_types.specs.Schema.{the_type}
use Rattle.oer_explain.proofs.Rows.{rows_made}
use Rattle.oer_explain.proofs.octets.rows_of.Goals as goal

pub returns-clause-rows : goal.returns-clause-rows
returns-clause-rows c =
    let none : c.new-lines.result.items ≡ [] = search rules in
    rows_made (the_type c.args.schema.now) c.args.octets.now _ _ _ _ c.in-Ok.ensures.printed none c.as_slice.ensures.value c.in_ok-rows.ensures
