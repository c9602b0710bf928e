use Rattle.std.proofs.Common.{◌≡◌}
use Rattle.oer_types.specs.Schema.{the_type}
use Rattle.oer_c.specs.Checking.{IsWhole, only}
use Rattle.oer_c.proofs.Named.{by_name}
use Rattle.oer_c.proofs.whole.named.Goals as goal

pub returns-in-Some : goal.returns-in-Some
returns-in-Some c =
    by_name c.in-Some.schema c.args.types.now c.args.name.now (the_type c.in-Some.schema.now) (λ T. IsWhole T c.args.octets.now c.judged.result) (λ status. c.judged.result ≡ only status)
    c.in-Some.ensures.found c.in-Some.ensures.no_text c.judged.ensures
