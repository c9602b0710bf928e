use Rattle.std.proofs.Common.{length}
use Rattle.oer_parts.proofs.Paths.{Leads}
use denote.Text.{Utf8}
use denote.Shadow.{shadow}
use Rattle.oer_parts.proofs.path.read_path.Given as goal

-- what the rest spells, behind the steps so far, is what the text spells
abbrev pub invariant-loop-front : goal.invariant-loop-front
invariant-loop-front l = shadow (Utf8 l.rest) × Leads l.path.items l.rest l.text

abbrev pub decreases-loop-front : goal.decreases-loop-front
decreases-loop-front l = length l.rest
