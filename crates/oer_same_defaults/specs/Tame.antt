-- Which tokens after DEFAULT are ordinary.
use Rattle.std.specs.Prelude.{◌≡◌, ℕ, ◌≤◌, ◌<◌, ◌^◌, List, [], ◌∷◌, length}
use Rattle.oer_model.specs.AsnType.{AsnType, enumerated}
use Rattle.oer_module_lexer.specs.Token.{Spot, Token, bits, digits, text}
use Rattle.oer_module_syntax.specs.Tree.{Module, plain}
use Rattle.oer_module_syntax.specs.declared.word.Builtin.TheVariants.{Enumerated}
use Rattle.oer_module_text.specs.Errors.{place_in}
use Rattle.oer_module_values.specs.Types.{TypeIn}
use Rattle.oer_same_items.specs.Ordinary.{AreOrdinary}

-- no octet is below the least
abbrev pub AllFrom : ℕ → List ℕ → Type 0
AllFrom least [] = Unit {0}
AllFrom least (c ∷ cs) = (least ≤ c) × AllFrom least cs

-- Bits without white space, a text without control characters, so on one line, and fewer than 2^62 hexadecimal digits.
abbrev pub IsTame : Token → Type 0
IsTame (bits w) = AllFrom 33 w
IsTame (text w) = AllFrom 32 w
IsTame (digits w) = length w < 2 ^ 62
IsTame t = Unit {0}

abbrev pub AreTame : List Spot → Type 0
AreTame [] = Unit {0}
AreTame (s ∷ ss) = IsTame s.token × AreTame ss

-- Where an ENUMERATED with these items stands for the type of a value, they are ordinary there.
abbrev pub HasOrdinaryItems : List Module → AsnType → TypeIn → Type 0
HasOrdinaryItems ms (enumerated items marker) u = (at : ℕ) (ss cs : List Spot) → u.type ≡ plain at Enumerated ss cs
    → AreOrdinary ms (place_in u.«module» at) ss items
HasOrdinaryItems ms T u = Unit {0}
