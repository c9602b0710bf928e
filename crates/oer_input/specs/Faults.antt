-- Why a text spells no octets, and what a function returned beside what the plain function gives.
use Rattle.std.specs.Prelude.{◌≡◌, ℕ, List, ◌++◌, Bool, true, false, codes, Result, Ok, Err, Vec}
use Rattle.std.specs.Fmt.{decimal}
use Rattle.std.specs.declared.alloc.Global.{Global}
use Rattle.oer_input.specs.declared.fault.Fault.{Fault}
use Rattle.oer_input.specs.declared.fault.Fault.TheVariants.{Digit, Odd, Character, Padding, Length, Bits, Memory}

abbrev pub text_of : Fault → List ℕ
text_of (Digit n) = codes "Digit at " ++ decimal n
text_of (Odd n) = codes "Odd at " ++ decimal n
text_of (Character n) = codes "Character at " ++ decimal n
text_of (Padding n) = codes "Padding at " ++ decimal n
text_of (Length n) = codes "Length at " ++ decimal n
text_of (Bits n) = codes "Bits at " ++ decimal n
text_of Memory = codes "out of memory"

-- the octets that a text spells, or why it spells none
abbrev pub Read : Type 0
Read = Result (List ℕ) Fault

abbrev pub is_memory : Fault → Bool
is_memory Memory = true
is_memory _ = false

-- What a function returned is what the plain function gives, unless an allocation failed.
abbrev pub Gives : Result (Vec ℕ Global) Fault → Read → Type 0
Gives (Ok v) plain = plain ≡ Ok v.items
Gives (Err fault) plain = is_memory fault ≡ false → plain ≡ Err fault
