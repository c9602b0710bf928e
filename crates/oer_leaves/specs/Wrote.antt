-- What a writer of octets does to a sink.
use Rattle.std.specs.Prelude.{◌≡◌, ℕ, ◌+◌, ◌^◌, ◌<◌, ◌≤◌, ◌⊎◌, List, ◌++◌, length, take, Option, Result, MatchResult, MatchOption}
use Rattle.std.specs.Io.KnownBytes.{Appends}
use Rattle.oer_units.specs.declared.fault.SinkFault.{SinkFault}
use Rattle.oer_units.specs.Least.{counted, length_octets}
use Rattle.oer_units.specs.Stream.{one_more}
use Rattle.oer_units.specs.Writing.{Puts}

-- it failed: the sink, which took some of the octets; or they pass 2 ^ 64, with those done before
abbrev pub Stopped : ℕ → List ℕ → Option (List ℕ) → ℕ → SinkFault → Option (List ℕ) → ℕ → Type 0
Stopped done octets old failed e new failed' =
    ((j : ℕ) × (e.written ≡ done + j) × (j < length octets) × Appends old new (take j octets) × (failed' ≡ one_more failed))
    ⊎ (2 ^ 64 ≤ done + length octets)

-- The octets were written, after those done before: all of them, or some before it stopped. It answers how many are done.
abbrev pub Wrote : ℕ → List ℕ → Option (List ℕ) → ℕ → Result ℕ SinkFault → Option (List ℕ) → ℕ → Type 0
Wrote done octets old failed result new failed' =
    MatchResult result (λ n. (n ≡ done + length octets) × Appends old new octets × (failed' ≡ failed))
    (λ e. Stopped done octets old failed e new failed')

-- The length of the octets was written, or the octets can't be written, after those done before.
abbrev pub WroteHead : ℕ → List ℕ → Option (List ℕ) → ℕ → Result ℕ SinkFault → Option (List ℕ) → ℕ → Type 0
WroteHead done octets old failed result new failed' =
    MatchResult result (λ n. (n ≡ done + length (length_octets (length octets))) × Appends old new (length_octets (length octets))
    × (failed' ≡ failed)) (λ e. Stopped done (counted octets) old failed e new failed')

-- what became of a unit of count octets is told with the number done before
abbrev pub Settles : ℕ → ℕ → {A : Type 0} → Result A SinkFault → Result ℕ SinkFault → Type 0
Settles done count put result = (octets : List ℕ) (old : Option (List ℕ)) (failed : ℕ) (new : Option (List ℕ)) (failed' : ℕ)
    → count ≡ length octets → Puts octets old failed put new failed' → Wrote done octets old failed result new failed'

-- the number of octets after those done before, or none where it is 2 ^ 64 or more
abbrev pub Measures : ℕ → List ℕ → Option ℕ → Type 0
Measures done octets result = MatchOption result (2 ^ 64 ≤ done + length octets) (λ n. n ≡ done + length octets)

-- Through a loop: of the octets all but the rest were written.
pub record Ahead (start : ℕ) (octets : List ℕ) (old : Option (List ℕ)) (failed : ℕ) (done : ℕ) (now : Option (List ℕ))
    (failed' : ℕ) (rest : List ℕ) : Type 0 where
  pub front : List ℕ
  pub is : octets ≡ front ++ rest
  pub count : done ≡ start + length front
  pub appended : Appends old now front
  pub same : failed' ≡ failed
