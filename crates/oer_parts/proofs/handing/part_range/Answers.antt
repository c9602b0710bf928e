use Rattle.std.proofs.Common.{ℕ, List, subst}
use Rattle.oer_model.specs.AsnType.{AsnType}
use Rattle.oer_types.specs.Schema.{the_type}
use Rattle.oer_parts.specs.Encoding.{octets_in}
use Rattle.oer_parts.specs.Handing.{Follows}
use Rattle.oer_parts.specs.Ranges.{octets_in_range}
use Rattle.oer_parts.specs.Walk.{path_of}
use Rattle.oer_parts.proofs.handing.part_range.Goals as goal

pub returns-in-Ok-clause-comes : goal.returns-in-Ok-clause-comes
returns-in-Ok-clause-comes c =
    let e = c.in-Ok.encoding in
    let path = path_of c.args.path.now in
    let typed = subst (λ (T : AsnType). Follows (octets_in_range (octets_in e)) T (octets_in e) path c.part_range.result) c.in-Ok.ensures.kind c.part_range.ensures.comes in
    subst (λ (xs : List ℕ). Follows (octets_in_range xs) (the_type c.args.schema.now) xs path c.part_range.result) c.in-Ok.ensures.octets typed
