use Rattle.std.proofs.Common.{◌≡◌, Err}
use Rattle.oer_c.specs.Buffers.{IsUndone, only_written}
use Rattle.oer_c.specs.Found.{IsFound}
use Rattle.oer_c.specs.Parts.{IsCopiedByNames, IsNoPartByNames, IsPartByNames, IsPartByNamesAt}
use Rattle.oer_c.specs.Sharing.{types_of}
use Rattle.oer_c.specs.declared.find.Way.TheVariants.{Names}
use Rattle.oer_c.proofs.Locating.{copies, undone}
use Rattle.oer_c.proofs.Named.{by_name_then}
use Rattle.oer_c.proofs.part.oer_part_named.Goals as goal

pub returns-clause-copies : goal.returns-clause-copies
returns-clause-copies c =
    let octets = c.args.octets.now in
    let names = c.args.names.now in
    let found = c.find.result in
    let old = c.args.out.now in
    let new = c.copied.new.out in
    let answer = c.copied.result in
    by_name_then (types_of c.args.types.now.held.shared) c.args.name.now
    (λ T. IsFound (Names c.args.names) T octets found) (λ T. IsCopiedByNames T octets names old new answer)
    (λ status. found ≡ Err (only_written status)) (IsUndone old new answer)
    (λ T h. copies T octets (IsPartByNames T names) (IsPartByNamesAt T names) (IsNoPartByNames T octets names) (λ b s n there. there.0) found old new
    answer h c.copied.ensures)
    (λ status is. undone found old new answer status is c.copied.ensures) c.find.ensures.found
