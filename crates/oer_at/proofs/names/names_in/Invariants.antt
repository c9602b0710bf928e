use Rattle.std.proofs.Common.{◌≡◌, ◌++◌, length, map}
use denote.Text.{Utf8}
use denote.Shadow.{shadow}
use Rattle.oer_at.specs.Names.{names_in, text_behind}
use Rattle.oer_at.proofs.names.names_in.Given as goal

-- the names so far, and those of the rest
abbrev pub invariant-loop-front : goal.invariant-loop-front
invariant-loop-front l = shadow (Utf8 l.rest) × (names_in l.text ≡ map text_behind l.names.items ++ names_in l.rest)

abbrev pub decreases-loop-front : goal.decreases-loop-front
decreases-loop-front l = length l.rest
