use Rattle.std.proofs.Common.{refl}
use Rattle.serde_json.specs.View.{view}
use Rattle.oer_types.specs.Schema.{the_type}
use Rattle.oer_values.specs.ValueView.{value_of}
use Rattle.oer_example_cmd.proofs.Lines.{line_is, line_taken}
use Rattle.oer_example_cmd.proofs.line.text_of.Goals as goal

pub returns-in-Ok-to_string-clause-line : goal.returns-in-Ok-to_string-clause-line
returns-in-Ok-to_string-clause-line c =
    let v = value_of c.args.value.now in
    line_is (the_type c.args.schema.now) v v (view c.in-Ok.json) _ c.in-Ok.ensures refl c.in-Ok-to_string.ensures.text

pub returns-in-Ok-to_string-clause-taken : goal.returns-in-Ok-to_string-clause-taken
returns-in-Ok-to_string-clause-taken c =
    let v = value_of c.args.value.now in
    line_taken (the_type c.args.schema.now) v v (view c.in-Ok.json) _ c.args.schema.now.well_formed c.requires c.in-Ok.ensures refl c.in-Ok-to_string.ensures.reads_back
