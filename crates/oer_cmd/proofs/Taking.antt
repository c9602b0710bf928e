-- How much of the input is taken, step by step.
use Rattle.std.proofs.Common.{Result, Vec, Global, ℕ, ◌+◌, ◌<◌, ◌≤◌, List, [], length, Option, Some, None, refl, arith}
use Rattle.std.proofs.Math.Nat.{min-le_right}
use Rattle.std.specs.Io.KnownBytes.{Consumes}
use Rattle.oer_cmd.specs.Gathering.{TellsAll}
use Rattle.oer_cmd.specs.declared.gathering.GatherFault.{GatherFault}
use Rattle.oer_cmd.specs.Taking.{Amounts, GivesAll, GivesFront, IsGathered}

-- what holds of the front that was taken
front_to : (P Q : List ℕ → ℕ → Type 0) → ((b : List ℕ) (n : ℕ) → P b n → Q b n) → (told told' : Option (List ℕ)) → GivesFront told told' P
    → GivesFront told told' Q
front_to P Q to None told' h = tt
front_to P Q to (Some b) None h = h
front_to P Q to (Some b) (Some rest) (t, is, p) = (t, is, to b (length t) p)

-- what is left unsaid at a later status
pub later : (most status status' : ℕ) (P : List ℕ → ℕ → Type 0) (told told' : Option (List ℕ)) → (status' ≤ 2 → status ≤ 2)
    → GivesFront told told' (Amounts most status P) → GivesFront told told' (Amounts most status' P)
later most status status' P told told' less h =
    front_to (Amounts most status P) (Amounts most status' P) (λ b n p. (p.0, λ small. p.1 (less small))) told told' h

-- nothing, where the machine failed
pub untaken : (most status : ℕ) (P : List ℕ → ℕ → Type 0) (told : Option (List ℕ)) → (status ≤ 2 → ⊥)
    → GivesFront told told (Amounts most status P)
untaken most status P None high = tt
untaken most status P (Some b) high = ([], refl, (omega arith, λ small. absurd (high small)))

-- ---- all that there is

-- There is more than the limit.
pub more_gathered : (limit : ℕ) (told told' : Option (List ℕ)) (front : List ℕ) (P : Type 0) → Consumes told told' front
    → limit < length front → length front ≤ limit + 4096
    → GivesFront told told' (λ b n. (n ≤ limit + 4096) × (P → IsGathered limit b n))
more_gathered limit None told' t P h many few = tt
more_gathered limit (Some b) None t P h many few = absurd h
more_gathered limit (Some b) (Some rest) t P h many few = (t, h, (few, λ p. let m = min-le_right (length b) (limit + 1) in omega (arith, m, many)))

-- what was gathered, by the status of the answer
pub gave : (limit status : ℕ) (told told' : Option (List ℕ)) (result : Result (Vec ℕ Global) GatherFault) → (status ≤ 2 → TellsAll result)
    → GivesFront told told' (λ b n. (n ≤ limit + 4096) × (TellsAll result → IsGathered limit b n)) → GivesAll limit status told told'
gave limit status told told' result small h = front_to (λ b n. (n ≤ limit + 4096) × (TellsAll result → IsGathered limit b n))
    (Amounts (limit + 4096) status (IsGathered limit)) (λ b n p. (p.0, λ s. p.1 (small s))) told told' h
