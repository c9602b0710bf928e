use Rattle.oer_types.specs.Schema.{the_type}
use Rattle.oer_c.specs.Buffers.{IsUndone}
use Rattle.oer_c.specs.Showing.{Shows}
use Rattle.oer_c.proofs.Named.{by_name}
use Rattle.oer_c.proofs.show.named.Goals as goal

pub returns-in-Some : goal.returns-in-Some
returns-in-Some c =
    by_name c.in-Some.schema c.args.types.now c.args.name.now (the_type c.in-Some.schema.now) (λ T. Shows T c.args.limit c.args.octets.now c.args.out.now c.show.new.out c.show.result) (IsUndone c.args.out.now c.show.new.out c.show.result)
    c.in-Some.ensures.found c.in-Some.ensures.no_text c.show.ensures
