use Rattle.std.proofs.Common.{◌≡◌, ◌∙◌, Err, ap}
use Rattle.oer_c.specs.Buffers.{only_written}
use Rattle.oer_c.specs.Found.{IsFound, place_of}
use Rattle.oer_c.specs.Parts.{IsLocatedByNames, IsNoPartByNames, IsPartByNamesAt, nowhere}
use Rattle.oer_c.specs.Sharing.{types_of}
use Rattle.oer_c.specs.declared.find.Way.TheVariants.{Names}
use Rattle.oer_c.proofs.Locating.{locates}
use Rattle.oer_c.proofs.Named.{by_name_then}
use Rattle.oer_c.proofs.part_at.oer_part_named_at.Goals as goal

pub returns-clause-locates : goal.returns-clause-locates
returns-clause-locates c =
    let octets = c.args.octets.now in
    let names = c.args.names.now in
    let found = c.find.result in
    let answer = c.place_of.result in
    by_name_then (types_of c.args.types.now.held.shared) c.args.name.now
    (λ T. IsFound (Names c.args.names) T octets found) (λ T. IsLocatedByNames T octets names answer)
    (λ status. found ≡ Err (only_written status)) (λ status. answer ≡ nowhere status 0 0)
    (λ T h. locates T octets (IsPartByNamesAt T names) (IsNoPartByNames T octets names) found answer c.place_of.ensures h)
    (λ status is. c.place_of.ensures ∙ ap place_of is) c.find.ensures.found
