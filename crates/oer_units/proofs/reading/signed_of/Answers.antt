use Rattle.std.specs.Int.{w64}
use Rattle.std.proofs.lemmas.Int.{to_z-of_z}
use Rattle.oer_units.proofs.ReadFixed.{signed_few, signed_small}
use Rattle.oer_units.proofs.reading.signed_of.Goals as goal

pub narrow-requires : goal.narrow-requires
narrow-requires c = signed_small c.args.octets.now _ c.digit-start.result c.few_of-size.result c.requires.some c.requires.few (c.type_inv.octets 0).fits c.digit-start.ensures c.few_of-size.ensures.room

pub returns : goal.returns
returns c =
    let small = signed_small c.args.octets.now _ c.digit-start.result c.few_of-size.result c.requires.some c.requires.few (c.type_inv.octets 0).fits c.digit-start.ensures c.few_of-size.ensures.room in
    rw (to_z-of_z w64 c.narrow.result (record { sfits = c.narrow.type_inv }), c.narrow.ensures)
    (signed_few c.args.octets.now c.digit-start.result c.few_of-size.result c.requires.some (λ k. (c.type_inv.octets k).fits) c.digit-start.ensures c.few_of-size.ensures.value small)
