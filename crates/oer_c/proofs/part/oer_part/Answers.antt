use Rattle.std.proofs.Common.{◌≡◌, Err}
use Rattle.oer_c.specs.Buffers.{IsUndone, only_written}
use Rattle.oer_c.specs.Found.{IsFound}
use Rattle.oer_c.specs.Parts.{IsCopied, IsNoPart, IsPart, IsPartAt}
use Rattle.oer_c.specs.Sharing.{types_of}
use Rattle.oer_c.specs.declared.find.Way.TheVariants.{Path}
use Rattle.oer_c.proofs.Locating.{copies, is_part, undone}
use Rattle.oer_c.proofs.Named.{by_name_then}
use Rattle.oer_c.proofs.part.oer_part.Goals as goal

pub returns-clause-copies : goal.returns-clause-copies
returns-clause-copies c =
    let octets = c.args.octets.now in
    let path = c.args.path.now in
    let found = c.find.result in
    let old = c.args.out.now in
    let new = c.copied.new.out in
    let answer = c.copied.result in
    by_name_then (types_of c.args.types.now.held.shared) c.args.name.now
    (λ T. IsFound (Path c.args.path) T octets found) (λ T. IsCopied T octets path old new answer)
    (λ status. found ≡ Err (only_written status)) (IsUndone old new answer)
    (λ T h. copies T octets (IsPart T path) (IsPartAt T path) (IsNoPart T octets path) (is_part T path) found old new answer h
    c.copied.ensures)
    (λ status is. undone found old new answer status is c.copied.ensures) c.find.ensures.found
