-- Sets put together: the numbers that so many of them have.
use Rattle.std.specs.Prelude.{◌≡◌, ℕ, ◌+◌, List, [], ◌∷◌, Bool, true, false, not, ◌&&◌, if◌then◌else◌, nat_le, ℤ, int_le}
use Rattle.std.specs.List.{sum_by}
use Rattle.oer_module_bounds.specs.Steps.{numbers, toggled}
use Rattle.oer_module_bounds.specs.declared.ends.Cut.{Cut}
use Rattle.oer_module_bounds.specs.declared.tally.Sweep.{Sweep}
use Rattle.oer_module_bounds.specs.declared.tally.Tally.{Tally}
use Rattle.oer_module_bounds.specs.declared.tally.Turn.{Turn}

abbrev pub one_if : Bool → ℕ
one_if b = if b then 1 else 0

abbrev pub number_at : Turn → ℤ
number_at t = t.at.number

-- the turns of a set that has the numbers before its first cut or not
abbrev pub turns_of : Bool → List Cut → List Turn
turns_of inside [] = []
turns_of inside (c ∷ cs) = record { at = c; begins = not inside } ∷ turns_of (not inside) cs

-- how many sets begin up to n, and how many end
abbrev pub begun_by : ℤ → List Turn → ℕ
begun_by n ts = sum_by (λ t. one_if (t.begins && int_le t.at.number n)) ts

abbrev pub ended_by : ℤ → List Turn → ℕ
ended_by n ts = sum_by (λ t. one_if (not t.begins && int_le t.at.number n)) ts

-- so many sets have n
pub record Counts (t : Tally) (count : ℤ → ℕ) : Type 0 where
  pub is : (n : ℤ) → count n + ended_by n t.turns.items ≡ t.holding + begun_by n t.turns.items

-- whether at least so many have n
abbrev pub reached : ℕ → ℕ → List Turn → ℤ → Bool
reached least holding ts n = nat_le (least + ended_by n ts) (holding + begun_by n ts)

-- ---- one turn after the other

pub record Swept : Type 0 where
  pub begun : ℕ
  pub ended : ℕ
  pub inside : Bool
  pub cuts : List ℤ

abbrev pub sweep_of : Sweep → Swept
sweep_of s = record { begun = s.begun; ended = s.ended; inside = s.inside; cuts = numbers s.cuts.items }

abbrev pub changed : Bool → Bool → List ℤ → ℤ → List ℤ
changed true true cs n = cs
changed false false cs n = cs
changed true false cs n = toggled cs n
changed false true cs n = toggled cs n

abbrev pub passed : ℕ → Swept → Turn → Swept
passed least s t =
    let begun = s.begun + one_if t.begins in
    let ended = s.ended + one_if (not t.begins) in
    let inside = nat_le (least + ended) begun in
    record { begun = begun; ended = ended; inside = inside; cuts = changed s.inside inside s.cuts t.at.number }

abbrev pub sweep : ℕ → Swept → List Turn → Swept
sweep least s [] = s
sweep least s (t ∷ ts) = sweep least (passed least s t) ts
