-- What the parser of the notation reads is read in a module.
use Rattle.std.proofs.Common.{ℕ, ◌*◌, ◌≤◌, List, [], ◌∷◌, ◌++◌, inl, inr, ◌<◌, arith}
use Rattle.std.specs.Prelude.{codes}
use Rattle.std.proofs.lemmas.Bool.{cases_lt}
use Rattle.oer_lexer.specs.FallsInto.{FallsInto}
use Rattle.oer_lexer.specs.Token.{Token, word}
use Rattle.oer_model.specs.Limits.{max_depth}
use Rattle.oer_model.specs.WellFormed.{depth}
use Rattle.oer_model.specs.declared.fault.SchemaFault.TheVariants.{TooDeep}
use Rattle.oer_notation.specs.Grammar.{AreWellFormed}
use Rattle.oer_notation.specs.Laws.{ParseAllSound}
use Rattle.oer_notation.specs.Reading.{Known}
use Rattle.oer_same_tokens.specs.Laws.{SameTokens}
use Rattle.oer_same_trees.specs.Defining.{AreWithin, header, in_module}
use Rattle.oer_same_trees.specs.Laws.{ReadsParsed}
use Rattle.oer_same_trees.proofs.Definitions.{reads_texts}
use Rattle.oer_same_trees.proofs.Lines.{falls_behind}

shallow : (l d : ℕ) → (32 < d → ⊥) → 64 ≤ l → d * 2 ≤ l
shallow l d n h = elim (cases_lt 32 d) [
  | inl l ↦ absurd (n l)
  | inr g ↦ omega arith
]

all_within : (l : ℕ) (ks : List Known) → AreWellFormed ks → max_depth * 2 ≤ l → AreWithin l ks
all_within l [] w h = tt
all_within l (k ∷ ks) w h = (shallow l (depth k.type) (λ d. w.0.faultless TooDeep d) h, all_within l ks w.1 h)

in_lines : (name start bs end : List ℕ) (ts : List Token) → FallsInto start (header name) → FallsInto bs ts → FallsInto end (word (codes "END") ∷ [])
    → FallsInto (start ++ 10 ∷ (bs ++ 10 ∷ end)) (in_module name ts)
in_lines name start bs end ts f g h = falls_behind f (bs ++ 10 ∷ end) (ts ++ word (codes "END") ∷ []) (falls_behind g end (word (codes "END") ∷ []) h)

pub reads_parsed : SameTokens → ParseAllSound → ReadsParsed
reads_parsed same sound l name ks start bs end f parsed h odd u deep known =
    let s = sound bs ks parsed in
    reads_texts same l name ks s.0.0 (start ++ 10 ∷ (bs ++ 10 ∷ end)) (in_lines name start bs end s.0.0 f s.0.1 h) odd s.0.2 u (all_within l ks s.1 deep) known
