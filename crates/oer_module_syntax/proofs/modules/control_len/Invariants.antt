use Rattle.std.proofs.Common.{◌≡◌, ◌+◌, drop}
use Rattle.oer_module_lexer.specs.Token.{spots_of}
use Rattle.oer_module_syntax.specs.Modules.{control_len}
use Rattle.oer_module_syntax.proofs.modules.control_len.Given as goal

-- as many as so far and those of what is left
abbrev pub invariant-loop-n : goal.invariant-loop-n
invariant-loop-n l = l.n + control_len (spots_of (drop l.n l.spots)) ≡ control_len (spots_of l.spots)
