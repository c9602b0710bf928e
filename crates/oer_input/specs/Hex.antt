-- Octets in hexadecimal digits.
use Rattle.std.specs.Prelude.{◌≡◌, ℕ, suc, ◌+◌, ◌*◌, ◌-◌, ◌<◌, ◌==◌, nat_lt, List, [], ◌∷◌, ◌++◌, Bool, true, false, ◌&&◌, ◌||◌, Option, Some, None, Ok, Err, ⊤, if◌then◌else◌}
use Rattle.oer_input.specs.Faults.{Read}
use Rattle.oer_input.specs.declared.fault.Fault.TheVariants.{Digit, Odd}
use Rattle.oer_input.specs.declared.hex.Next.{Next}
use Rattle.oer_input.specs.declared.hex.Next.TheVariants.{Free, Octet, First, SecondOrX, Second}
use Rattle.oer_input.specs.declared.hex.Step.{Step}
use Rattle.oer_input.specs.declared.hex.Step.TheVariants as does

-- what a digit stands for: 0 to 9, A to F, a to f
abbrev pub digit_of : ℕ → Option ℕ
digit_of c =
    if nat_lt 47 c && nat_lt c 58 then Some (c - 48)
    else if nat_lt 64 c && nat_lt c 71 then Some (c - 55)
    else if nat_lt 96 c && nat_lt c 103 then Some (c - 87)
    else None

-- space, tab, line feed, carriage return, `:`, `-` and `,`
abbrev pub is_separator : ℕ → Bool
is_separator c = c == 32 || c == 9 || c == 10 || c == 13 || c == 58 || c == 45 || c == 44

-- x and X
abbrev pub is_x : ℕ → Bool
is_x c = c == 120 || c == 88

-- The text stands for these octets. free says whether `0x` may stand at its front: a text begins there, or what separates
-- octets stands before it.
pub data SpellsHex : Bool → List ℕ → List ℕ → Type 0 where
  nothing_left : {free : Bool} → SpellsHex free [] []
  separator : {free : Bool} {c : ℕ} {cs os : List ℕ} → is_separator c ≡ true → SpellsHex true cs os → SpellsHex free (c ∷ cs) os
  octet : {free : Bool} {p q u v : ℕ} {cs os : List ℕ} → digit_of p ≡ Some u → digit_of q ≡ Some v → SpellsHex false cs os
      → SpellsHex free (p ∷ q ∷ cs) ((u * 16 + v) ∷ os)
  octet_behind_0x : {x p q u v : ℕ} {cs os : List ℕ} → is_x x ≡ true → digit_of p ≡ Some u → digit_of q ≡ Some v → SpellsHex false cs os
      → SpellsHex true (48 ∷ x ∷ p ∷ q ∷ cs) ((u * 16 + v) ∷ os)

-- ---- what the text is read as, from the left

abbrev pub first_by : Option ℕ → Step
first_by (Some u) = does.To (Second u)
first_by None = does.Stops

abbrev pub second_by : ℕ → Option ℕ → Step
second_by u (Some v) = does.Octet (u * 16 + v)
second_by u None = does.Stops

abbrev pub first : ℕ → Step
first c = first_by (digit_of c)

abbrev pub second : ℕ → ℕ → Step
second u c = second_by u (digit_of c)

abbrev pub at_octet : ℕ → Step
at_octet c = if is_separator c then does.To Free else first c

abbrev pub at_free : ℕ → Step
at_free c = if c == 48 then does.To SecondOrX else at_octet c

abbrev pub second_or_x : ℕ → Step
second_or_x c = if is_x c then does.To First else second 0 c

unfoldable pub step_at : Next → ℕ → Step
step_at Free c = at_free c
step_at Octet c = at_octet c
step_at First c = first c
step_at SecondOrX c = second_or_x c
step_at (Second u) c = second u c

-- what the octets are where the text ends, at this place
abbrev pub ended : Next → ℕ → List ℕ → Read
ended Free n os = Ok os
ended Octet n os = Ok os
ended _ n os = Err (Odd n)

abbrev pub by_step : Step → (Next → List ℕ → Read) → ℕ → List ℕ → Read
by_step (does.To next) more n os = more next os
by_step (does.Octet o) more n os = more Octet (os ++ o ∷ [])
by_step does.Stops more n os = Err (Digit n)

-- what the text that stands from this place on spells, behind the octets os
abbrev pub hex_from : List ℕ → ℕ → Next → List ℕ → Read
hex_from [] n next os = ended next n os
hex_from (c ∷ cs) n next os = by_step (step_at next c) (hex_from cs (suc n)) n os

-- the octets that the digits of a text spell
abbrev pub hex_of : List ℕ → Read
hex_of t = hex_from t 0 Free []

-- The digit that was read is one.
abbrev pub IsFit : Next → Type 0
IsFit (Second u) = u < 16
IsFit _ = ⊤

abbrev pub IsFitStep : Step → Type 0
IsFitStep (does.To next) = IsFit next
IsFitStep _ = ⊤
