use Rattle.std.proofs.Common.{◌≡◌, ◌++◌, drop, map, string_bytes}
use Rattle.oer_notation.specs.Defining.{known_of}
use Rattle.oer_types_cmd.specs.Names.{names_text}
use Rattle.oer_types_cmd.proofs.names.names_text.Given as goal

-- what is there and what is left are the whole
abbrev pub invariant-loop-definition : goal.invariant-loop-definition
invariant-loop-definition l =
    names_text (map known_of l.definitions) ≡ string_bytes l.text ++ names_text (map known_of (drop l.definition-index l.definitions))
