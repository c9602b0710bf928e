-- How often a type that contains itself is written out.
use Rattle.std.specs.Prelude.{ℕ, ◌+◌, ◌*◌, ◌-◌, ◌==◌, ◌&&◌, nat_lt, [], ◌∷◌, Bool, Option, Some, None, if◌then◌else◌}
use Rattle.oer_module_options.specs.Words.{Text}

abbrev pub is_digit : ℕ → Bool
is_digit c = nat_lt 47 c && nat_lt c 58

-- the digit c behind those of n
abbrev pub with_digit : ℕ → ℕ → ℕ
with_digit n c = n * 10 + (c - 48)

abbrev pub is_taken : ℕ → ℕ → Bool
is_taken n c = is_digit c && nat_lt (with_digit n c) 256

-- the number that digits behind those of n write, where it is 255 at most
abbrev pub number_from : ℕ → Text → Option ℕ
number_from n [] = Some n
number_from n (c ∷ cs) = if is_taken n c then number_from (with_digit n c) cs else None

abbrev pub but_none : Option ℕ → Option ℕ
but_none None = None
but_none (Some n) = if n == 0 then None else Some n

-- a number from 1 to 255, in decimal digits
abbrev pub nesting_of : Text → Option ℕ
nesting_of t = but_none (number_from 0 t)
