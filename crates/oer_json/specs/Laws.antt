-- Laws on the JSON form: what is taken is what stands for a value, and no more.
use Rattle.std.specs.Prelude.{◌≡◌, ℕ, ◌^◌, ℤ, pos, negsuc, int_le, List, ◌∷◌, true, Ok}
use Rattle.std.specs.Fmt.{signed_decimal}
use Rattle.serde_json.specs.Data.{Data}
use Rattle.oer_model.specs.AsnType.{AsnType}
use Rattle.oer_model.specs.AsnValue.{AsnValue}
use Rattle.oer_model.specs.Fits.{AllBelow, Fits}
use Rattle.oer_model.specs.WellFormed.{IsWellFormed}
use Rattle.oer_json.specs.Denotes.{IsJsonOf}
use Rattle.oer_json.specs.Made.{made}
use Rattle.oer_json.specs.Take.{decimal_in, dotted_in, taken}
use Rattle.oer_json.specs.Texts.{dotted}

-- A text that is read as an integer is the integer in decimal: no digit 0 in front of another, no plus, no minus in front of 0.
abbrev pub IntegersSpelt : Type 0
IntegersSpelt = (s : List ℕ) (z : ℤ) → decimal_in s ≡ Ok z → s ≡ signed_decimal z

-- An integer of 128 bits in decimal is read as this integer.
abbrev pub IntegersRead : Type 0
IntegersRead = (z : ℤ) → int_le (negsuc 170141183460469231731687303715884105727) z ≡ true
    → int_le z (pos 170141183460469231731687303715884105727) ≡ true → decimal_in (signed_decimal z) ≡ Ok z

-- A text that is read as arcs is the arcs in decimal with points between them.
abbrev pub ArcsSpelt : Type 0
ArcsSpelt = (s arcs : List ℕ) → dotted_in s ≡ Ok arcs → s ≡ dotted arcs

-- Two arcs or more, each below 2^128, with points between them are read as these arcs.
abbrev pub ArcsRead : Type 0
ArcsRead = (x y : ℕ) (rest : List ℕ) → AllBelow (2 ^ 128) (x ∷ y ∷ rest) → dotted_in (dotted (x ∷ y ∷ rest)) ≡ Ok (x ∷ y ∷ rest)

-- A value that is answered is one that the JSON stands for, and fits.
abbrev pub TakenSound : Type 0
TakenSound = (T : AsnType) (j : Data) (v : AsnValue) → taken T j ≡ Ok v → IsJsonOf T v j

-- A value that the JSON stands for, and that fits, is answered.
abbrev pub TakenComplete : Type 0
TakenComplete = (T : AsnType) → IsWellFormed T → (j : Data) (v : AsnValue) → IsJsonOf T v j → taken T j ≡ Ok v

-- JSON stands for one value at most that fits.
abbrev pub OneTaken : Type 0
OneTaken = (T : AsnType) → IsWellFormed T → (j : Data) (v w : AsnValue) → IsJsonOf T v j → IsJsonOf T w j → v ≡ w

-- What is made of a value that fits stands for the value.
abbrev pub MadeTaken : Type 0
MadeTaken = (T : AsnType) → IsWellFormed T → (v : AsnValue) → Fits T v → IsJsonOf T v (made T v)
