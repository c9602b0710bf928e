-- Bits on their way into octets.
use Rattle.std.specs.Prelude.{ℕ, ◌+◌, ◌*◌, ◌/◌, ◌≤◌, List, [], ◌∷◌, ◌++◌, Bool, eqb, if◌then◌else◌, Option, Result, MatchResult}
use Rattle.oer_model.specs.Bits.{bit_value}
use Rattle.oer_units.specs.declared.fault.SinkFault.{SinkFault}
use Rattle.oer_leaves.specs.declared.packer.Packer.{Packer}
use Rattle.oer_leaves.specs.Wrote.{Ahead, Stopped}

-- the octets of bits, where an octet is begun, and what its next bit is worth
abbrev pub packed_from : ℕ → ℕ → List Bool → List ℕ
packed_from weight octet [] = if eqb weight 128 then [] else octet ∷ []
packed_from weight octet (b ∷ s) =
    if eqb weight 1 then (octet + bit_value b) ∷ packed_from 128 0 s else packed_from (weight / 2) (octet + weight * bit_value b) s

-- the octets that are still to be written, with further bits
abbrev pub pending : Packer → List Bool → List ℕ
pending p s = packed_from p.weight p.octet s

-- the octet that is begun has room
abbrev pub IsReady : Packer → Type 0
IsReady p = (1 ≤ p.weight) × (p.weight ≤ 128) × (p.octet + 2 * p.weight ≤ 256)

-- The bits were taken: of the octets with any bits after them all but those still pending were written.
abbrev pub Packs : List Bool → Packer → Packer → ℕ → Option (List ℕ) → ℕ → Result ℕ SinkFault → Option (List ℕ) → ℕ → Type 0
Packs s p p' done old failed result new failed' = (t : List Bool)
    → MatchResult result (λ n. IsReady p' × Ahead done (pending p (s ++ t)) old failed n new failed' (pending p' t))
    (λ e. Stopped done (pending p (s ++ t)) old failed e new failed')
