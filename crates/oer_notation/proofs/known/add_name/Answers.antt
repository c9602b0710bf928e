use Rattle.std.proofs.Common.{string_bytes}
use Rattle.oer_notation.specs.Views.{names_of}
use Rattle.oer_notation.proofs.Defining.{old_named}
use Rattle.oer_notation.proofs.Finding.{next_named}
use Rattle.oer_notation.proofs.known.add_name.Goals as goal

pub returns-clause-next : goal.returns-clause-next
returns-clause-next c =
    let types = c.args.types.now in
    next_named (names_of types.names) (names_of c.add.new.self) types.types.items (string_bytes c.args.name) c.add.result c.requires c.add.ensures

pub returns-clause-whole : goal.returns-clause-whole
returns-clause-whole c =
    let types = c.args.types.now in
    old_named (names_of types.names) (names_of c.add.new.self) types.types.items (string_bytes c.args.name) c.add.result c.requires c.add.ensures
