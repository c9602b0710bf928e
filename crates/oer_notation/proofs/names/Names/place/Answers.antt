use Rattle.std.proofs.Common.{map, string_bytes}
use Rattle.oer_notation.proofs.Places.{sorted_here, sorted_past}
use Rattle.oer_notation.proofs.names.Names.place.Goals as goal

pub returns-in-Some : goal.returns-in-Some
returns-in-Some c =
    let names = c.args.self.now in
    sorted_here names.places (map string_bytes names.others.items) c.args.name.now (names.exact c.args.name.now) c.in-Some.place.now c.in-Some.ensures.value

pub returns-in-None : goal.returns-in-None
returns-in-None c =
    let names = c.args.self.now in
    sorted_past names.places (map string_bytes names.others.items) c.args.name.now (names.exact c.args.name.now) c.other_place.result c.in-None.ensures.value c.other_place.ensures
