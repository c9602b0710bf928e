use Rattle.std.proofs.Common.{ℕ, List, subst}
use Rattle.oer_model.specs.AsnType.{AsnType}
use Rattle.oer_types.specs.Schema.{the_type}
use Rattle.oer_parts.specs.Encoding.{octets_in}
use Rattle.oer_parts.specs.Handing.{Follows}
use Rattle.oer_parts.specs.Walk.{path_of}
use Rattle.oer_parts.proofs.handing.part.Goals as goal

pub returns-in-Ok-clause-comes : goal.returns-in-Ok-clause-comes
returns-in-Ok-clause-comes c =
    let e = c.in-Ok.encoding in
    let path = path_of c.args.path.now in
    let typed = subst (λ (T : AsnType). Follows (λ s. s.now) T (octets_in e) path c.part.result) c.in-Ok.ensures.kind c.part.ensures.comes in
    subst (λ (xs : List ℕ). Follows (λ s. s.now) (the_type c.args.schema.now) xs path c.part.result) c.in-Ok.ensures.octets typed
