-- Octets in base64 (RFC 4648).
use Rattle.std.specs.Prelude.{◌≡◌, ◌⊎◌, ℕ, suc, ◌+◌, ◌*◌, ◌-◌, ◌/◌, ◌%◌, ◌<◌, ◌==◌, nat_lt, List, [], ◌∷◌, ◌++◌, Bool, ◌&&◌, ◌||◌, Option, Some, None, Ok, Err, ⊤, if◌then◌else◌}
use Rattle.oer_input.specs.Faults.{Read}
use Rattle.oer_input.specs.declared.fault.Fault.TheVariants.{Character, Padding, Length, Bits}
use Rattle.oer_input.specs.declared.group.Next.{Next}
use Rattle.oer_input.specs.declared.group.Next.TheVariants as expects
use Rattle.oer_input.specs.declared.group.Step.{Step}
use Rattle.oer_input.specs.declared.group.Step.TheVariants as does

-- space, tab, line feed and carriage return
abbrev pub is_space : ℕ → Bool
is_space c = c == 32 || c == 9 || c == 10 || c == 13

-- what is no white space
abbrev pub without_space : List ℕ → List ℕ
without_space [] = []
without_space (c ∷ cs) = if is_space c then without_space cs else c ∷ without_space cs

-- the number below 64 that a character stands for: A to Z, a to z, 0 to 9, and then `+` and `/` (section 4), or `-` and `_`
-- (section 5)
abbrev pub sextet_of : ℕ → Option ℕ
sextet_of c =
    if nat_lt 64 c && nat_lt c 91 then Some (c - 65)
    else if nat_lt 96 c && nat_lt c 123 then Some (c - 71)
    else if nat_lt 47 c && nat_lt c 58 then Some (c + 4)
    else if c == 43 || c == 45 then Some 62
    else if c == 47 || c == 95 then Some 63
    else None

-- nothing, or all `=` that belong there
abbrev pub MayBe : List ℕ → List ℕ → Type 0
MayBe padding cs = (cs ≡ []) ⊎ (cs ≡ padding)

-- Four characters, of 6 bits each, are the 24 bits of three octets. Of two octets, or of one, the bits are filled up with as
-- few bits 0 as make characters.
pub data SpellsBase64 : List ℕ → List ℕ → Type 0 where
  nothing_left : SpellsBase64 [] []
  three_octets : {p q r s k l m n a b c : ℕ} {cs os : List ℕ}
      → sextet_of p ≡ Some k → sextet_of q ≡ Some l → sextet_of r ≡ Some m → sextet_of s ≡ Some n
      → a < 256 → b < 256 → c < 256 → ((k * 64 + l) * 64 + m) * 64 + n ≡ (a * 256 + b) * 256 + c
      → SpellsBase64 cs os → SpellsBase64 (p ∷ q ∷ r ∷ s ∷ cs) (a ∷ b ∷ c ∷ os)
  two_octets : {p q r k l m a b : ℕ} {cs : List ℕ} → sextet_of p ≡ Some k → sextet_of q ≡ Some l → sextet_of r ≡ Some m
      → a < 256 → b < 256 → (k * 64 + l) * 64 + m ≡ (a * 256 + b) * 4
      → MayBe (61 ∷ []) cs → SpellsBase64 (p ∷ q ∷ r ∷ cs) (a ∷ b ∷ [])
  one_octet : {p q k l a : ℕ} {cs : List ℕ} → sextet_of p ≡ Some k → sextet_of q ≡ Some l
      → a < 256 → k * 64 + l ≡ a * 16
      → MayBe (61 ∷ 61 ∷ []) cs → SpellsBase64 (p ∷ q ∷ cs) (a ∷ [])

-- ---- what the text is read as, from the left

-- a character that stands for this number
abbrev pub sextet_at : Next → ℕ → ℕ → Step
sextet_at expects.First at n = does.To (expects.Second n)
sextet_at (expects.Second k) at n = does.Octet (k * 4 + n / 16) (expects.Third (n % 16) at)
sextet_at (expects.Third left last) at n = does.Octet (left * 16 + n / 4) (expects.Fourth (n % 4) at)
sextet_at (expects.Fourth left last) at n = does.Octet (left * 64 + n) expects.First
sextet_at expects.Padding at n = does.Stops (Padding at)
sextet_at expects.End at n = does.Stops (Padding at)

-- No bits but 0 are left over.
abbrev pub if_no_bits : ℕ → ℕ → Next → Step
if_no_bits left last next = if left == 0 then does.To next else does.Stops (Bits last)

-- a `=`
abbrev pub padding_at : Next → ℕ → Step
padding_at (expects.Third left last) at = if_no_bits left last expects.Padding
padding_at (expects.Fourth left last) at = if_no_bits left last expects.End
padding_at expects.Padding at = does.To expects.End
padding_at expects.First at = does.Stops (Padding at)
padding_at (expects.Second k) at = does.Stops (Padding at)
padding_at expects.End at = does.Stops (Padding at)

abbrev pub by_sextet : Option ℕ → Next → ℕ → Step
by_sextet (Some n) next at = sextet_at next at n
by_sextet None next at = does.Stops (Character at)

-- what is neither white space nor `=`
abbrev pub at_character : Next → ℕ → ℕ → Step
at_character next at c = by_sextet (sextet_of c) next at

unfoldable pub step_at : Next → ℕ → ℕ → Step
step_at next at c =
    if is_space c then does.To next
    else if c == 61 then padding_at next at
    else at_character next at c

-- what the octets are where the text ends, at this place
abbrev pub ended : Next → ℕ → List ℕ → Read
ended expects.First at os = Ok os
ended (expects.Second k) at os = Err (Length at)
ended (expects.Third left last) at os = if left == 0 then Ok os else Err (Bits last)
ended (expects.Fourth left last) at os = if left == 0 then Ok os else Err (Bits last)
ended expects.Padding at os = Err (Padding at)
ended expects.End at os = Ok os

abbrev pub by_step : Step → (Next → List ℕ → Read) → List ℕ → Read
by_step (does.To next) more os = more next os
by_step (does.Octet o next) more os = more next (os ++ o ∷ [])
by_step (does.Stops fault) more os = Err fault

-- what the text that stands from this place on spells, behind the octets os
abbrev pub base64_from : List ℕ → ℕ → Next → List ℕ → Read
base64_from [] at next os = ended next at os
base64_from (c ∷ cs) at next os = by_step (step_at next at c) (base64_from cs (suc at)) os

-- the octets that a text in base64 spells
abbrev pub base64_of : List ℕ → Read
base64_of t = base64_from t 0 expects.First []

-- The bits that were read are as many as belong there.
abbrev pub IsFit : Next → Type 0
IsFit (expects.Second k) = k < 64
IsFit (expects.Third left last) = left < 16
IsFit (expects.Fourth left last) = left < 4
IsFit _ = ⊤

abbrev pub IsFitStep : Step → Type 0
IsFitStep (does.To next) = IsFit next
IsFitStep (does.Octet o next) = IsFit next
IsFitStep (does.Stops fault) = ⊤
