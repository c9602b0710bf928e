-- Sets of whole numbers as the places at which they begin and end.
use Rattle.std.specs.Prelude.{◌≡◌, List, [], ◌∷◌, map, Bool, true, false, not, if◌then◌else◌, ⊤, ℤ, pos, ◌+ℤ◌, ◌-ℤ◌, ◌<ℤ◌, ◌≤ℤ◌}
use Rattle.std.specs.Prelude.{int_le, Option, Some, None}
use Rattle.std.specs.Ordering.{int_eq}
use Rattle.std.specs.Option.{option_map}
use Rattle.oer_module_bounds.specs.Sets.{Each, Span}
use Rattle.oer_module_bounds.specs.declared.ends.Cut.{Cut}
use Rattle.oer_module_bounds.specs.declared.steps.Steps.{Steps}

abbrev pub numbers : List Cut → List ℤ
numbers cs = map (λ c. c.number) cs

abbrev pub number_of : Option Cut → Option ℤ
number_of c = option_map (λ x. x.number) c

-- whether n is in a set that has the numbers before its first cut or not: each cut up to n changes that
abbrev pub at : Bool → List ℤ → ℤ → Bool
at inside [] n = inside
at inside (c ∷ cs) n = at (if int_le c n then not inside else inside) cs n

-- each is below those after it
abbrev pub Rises : List ℤ → Type 0
Rises [] = ⊤
Rises (c ∷ cs) = Each (λ d. c <ℤ d) cs × Rises cs

-- the steps are those of the set that p tells
pub record Gives (s : Steps) (p : ℤ → Bool) : Type 0 where
  pub rises : Rises (numbers s.cuts.items)
  pub says : (n : ℤ) → at s.lowest (numbers s.cuts.items) n ≡ p n
  pub ends : (n : ℤ) → Each (λ c. c ≤ℤ n) (numbers s.cuts.items) → p n ≡ s.highest

-- ---- the ends

abbrev pub past : Option ℤ → Option ℤ
past None = None
past (Some n) = Some (n +ℤ pos 1)

abbrev pub last_of : List ℤ → Option ℤ
last_of [] = None
last_of (c ∷ []) = Some c
last_of (c ∷ d ∷ cs) = last_of (d ∷ cs)

abbrev pub first_of : List ℤ → Option ℤ
first_of [] = None
first_of (c ∷ cs) = Some c

abbrev pub before : Option ℤ → Option ℤ
before None = None
before (Some n) = Some (n -ℤ pos 1)

abbrev pub low_end : Bool → List ℤ → Option ℤ
low_end lowest cs = if lowest then None else first_of cs

abbrev pub high_end : Bool → List ℤ → Option ℤ
high_end highest cs = if highest then None else before (last_of cs)

-- the ends, none where neither the lowest numbers are in the set nor a cut is there
abbrev pub ends_of : Bool → Bool → List ℤ → Option Span
ends_of false highest [] = None
ends_of false highest (c ∷ cs) = Some (record { low = Some c; high = high_end highest (c ∷ cs) })
ends_of true highest cs = Some (record { low = None; high = high_end highest cs })

-- ---- cuts that are added at the end

abbrev pub is_it : Option ℤ → ℤ → Bool
is_it None n = false
is_it (Some c) n = int_eq c n

abbrev pub ends_with : List ℤ → ℤ → Bool
ends_with cs n = is_it (last_of cs) n

-- one more, which is not below the others; two at one place are none
abbrev pub toggled : List ℤ → ℤ → List ℤ
toggled [] n = n ∷ []
toggled (c ∷ []) n = if int_eq c n then [] else c ∷ n ∷ []
toggled (c ∷ d ∷ cs) n = c ∷ toggled (d ∷ cs) n
