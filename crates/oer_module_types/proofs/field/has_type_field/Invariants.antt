use Rattle.std.proofs.Common.{◌≡◌, ◌-◌, drop}
use Rattle.oer_module_lexer.specs.Token.{spots_of}
use Rattle.oer_module_types.specs.Fields.{has_type_field}
use Rattle.oer_module_types.proofs.field.has_type_field.Given as goal

-- none of those before is it
abbrev pub invariant-loop-index : goal.invariant-loop-index
invariant-loop-index l =
    has_type_field l.name (spots_of l.fields) ≡ has_type_field l.name (spots_of (drop (l.index - 2) l.fields))
