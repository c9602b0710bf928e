use Rattle.std.proofs.Common.{ap, Bor, Err, List, ℕ}
use Rattle.std.specs.Prelude.{string_bytes}
use Rattle.serde_json.specs.View.{view}
use Rattle.oer_types.specs.Schema.{the_type}
use Rattle.oer_values.specs.ValueView.{value_of}
use Rattle.oer_units.specs.Stream.{inner_of}
use Rattle.oer_model.specs.Reading.{read_value}
use Rattle.oer_decoder.proofs.FrontProof.{front_of}
use Rattle.oer_c.proofs.Rewritten.{text_of, unread}
use Rattle.oer_c.proofs.show.shown.Goals as goal

pub returns-in-Ok-to_string-clause-text : goal.returns-in-Ok-to_string-clause-text
returns-in-Ok-to_string-clause-text c =
    let before = (inner_of c.new-reader.result).now in
    let after = (inner_of c.read_with_length.new.reader).now in
    text_of (the_type c.args.schema.now) c.args.schema.now.well_formed.limits c.args.limit c.in-Ok.read.1 before c.args.octets.now after (value_of c.in-Ok.read.0)
    (view c.in-Ok-to_json.json) (string_bytes c.in-Ok-to_string.text)
    c.in-Ok.ensures.taken (ap (λ (b : Bor (List ℕ)). b.now) c.new-reader.ensures.inner) c.in-Ok-to_json.ensures c.in-Ok-to_string.ensures.text

pub returns-in-Err-clause-rejected : goal.returns-in-Err-clause-rejected
returns-in-Err-clause-rejected c =
    let before = (inner_of c.new-reader.result).now in
    let after = (inner_of c.read_with_length.new.reader).now in
    unread (the_type c.args.schema.now) c.args.limit _ _ before c.args.octets.now after c.in-Err.fault c.of_read.result
    (ap (λ (b : Bor (List ℕ)). b.now) c.new-reader.ensures.inner) c.in-Err.ensures.told c.in-Err.ensures.comes
    (front_of (read_value (the_type c.args.schema.now)) _ _ _ _ _ (Err c.in-Err.fault) c.in-Err.ensures.exact) c.of_read.ensures
