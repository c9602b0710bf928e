use Rattle.std.proofs.Common.{◌∙◌, ◌++◌, ap, sym, List, ℕ}
use Rattle.oer_model.specs.Canonical.{canonical_octets}
use Rattle.oer_types.specs.Schema.{the_type}
use Rattle.oer_values.specs.ValueView.{value_of}
use Rattle.oer_cmd.specs.Expected.{value}
use Rattle.oer_cmd.specs.Octets.{octets_of}
use Rattle.oer_cmd.proofs.make.written.Goals as goal

pub returns-in-Ok : goal.returns-in-Ok
returns-in-Ok c = ap (λ (l : List ℕ). value l) (sym (ap octets_of c.into_inner.ensures ∙ c.in-Ok.ensures.computed.2
    ∙ ap (λ (l : List ℕ). l ++ canonical_octets (the_type c.args.schema.now) (value_of c.args.value.now)) (ap octets_of c.new-sink.ensures.inner ∙ c.new.ensures.items)))
