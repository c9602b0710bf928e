-- The tokens of a text stand at places that rise, since each takes some bytes.
use Rattle.std.proofs.Common.{ℕ, zero, suc, ◌+◌, ◌<◌, List, Option, Some, None, refl, arith}
use Rattle.oer_module_lexer.specs.Token.{Token}
use Rattle.oer_module_lexer.specs.Lexing.{Lexed, front_at, front_by, go, lex, lex_from, step_at}
use Rattle.oer_module_lexer.specs.declared.lexing.Step.{Step}
use Rattle.oer_module_lexer.specs.declared.lexing.Step.TheVariants as step
use Rattle.oer_module_lexer.proofs.Boundaries.{StepClean, step_clean}
use Rattle.oer_module_places.proofs.Spans.{Spans, widen}

-- what stands at the front takes some bytes, if anything stands there
abbrev Takes : Option (Option Token × ℕ) → Type 0
Takes None = Unit {0}
Takes (Some (t, k)) = 0 < k

step_takes : (s : Step) (bs : List ℕ) → StepClean s bs → Takes (front_by s bs)
step_takes (step.Skip k) bs c = c.some
step_takes (step.Take kind k) bs c = c.some
step_takes (step.Sign s) bs c = c.some
step_takes step.Bad bs c = tt

front_takes : (bs : List ℕ) → Takes (front_at bs)
unfolding front_at
front_takes bs = step_takes (step_at bs) bs (step_clean bs (step_at bs) refl)

-- the tokens from a place on
abbrev Rises : ℕ → Lexed → Type 0
Rises at l = Spans at l.end l.spots

-- a step, if the tokens behind it rise from where it ends
go_rises : (more : ℕ → List ℕ → Lexed) → ((at : ℕ) (bs : List ℕ) → Rises at (more at bs))
    → (at : ℕ) (bs : List ℕ) (o : Option (Option Token × ℕ)) → Takes o → Rises at (go more at bs o)
go_rises more rest at bs None some = record { rise = omega arith }
go_rises more rest at bs (Some (None, k)) some = widen at _ (omega arith) (omega arith) (rest (at + k) _)
go_rises more rest at bs (Some (Some t, k)) some =
    record { rise = (omega arith, (widen (suc at) _ (omega arith) (omega arith) (rest (at + k) _)).rise) }

from_rises : (n at : ℕ) (bs : List ℕ) → Rises at (lex_from n at bs)
unfolding lex_from
from_rises zero at bs = record { rise = omega arith }
from_rises (suc n) at bs = go_rises (lex_from n) (from_rises n) at bs (front_at bs) (front_takes bs)

pub lexed_rises : (text : List ℕ) → Spans 0 (lex text).end (lex text).spots
lexed_rises text = from_rises _ 0 text
