-- Octets put into a buffer of the caller's.
use Rattle.std.specs.Prelude.{◌≡◌, ◌<◌, ◌≤◌, ℕ, Bool, true, false, List, ◌++◌, drop, take, length, min, ◌⊎◌}
use Rattle.oer_units.specs.Faults.{why_number}
use Rattle.oer_units.specs.declared.fault.ReadFault.{ReadFault}
use Rattle.oer_c.specs.declared.buffer.Written.{Written}

-- a status and nothing else
abbrev pub only_written : ℕ → Written
only_written status = record { status = status; why = 0; octets = 0; written = 0 }

-- the octets are rejected
abbrev pub rejection : ReadFault → Written
rejection e = record { status = 1; why = why_number e.why; octets = e.taken; written = 0 }

abbrev pub wrote : ℕ → ℕ → ℕ → Written
wrote status taken n = record { status = status; why = 0; octets = taken; written = n }

-- The octets are at the front, and the rest is as before; or all is.
abbrev pub IsFilled : List ℕ → List ℕ → List ℕ → Bool → Type 0
IsFilled c old new true = new ≡ c ++ drop (length c) old
IsFilled c old new false = new ≡ old

-- The octets c are at the front of the buffer, and the rest is as before; or it has too little room for them, and all is as before.
abbrev pub IsPut : List ℕ → ℕ → List ℕ → List ℕ → Written → Type 0
IsPut c taken old new a = ((a ≡ wrote 0 taken (length c)) × (length c ≤ length old) × (new ≡ c ++ drop (length c) old))
    ⊎ ((a ≡ wrote 5 taken (length c)) × (length old < length c) × (new ≡ old))

-- nothing but this status is answered, and the buffer is as before
abbrev pub IsUndone : List ℕ → List ℕ → Written → ℕ → Type 0
IsUndone old new a status = (a ≡ only_written status) × (new ≡ old)

-- The first n octets of c are at the front of the buffer, as many as it has room for, and the rest is as before.
abbrev pub IsFront : List ℕ → List ℕ → List ℕ → ℕ → Type 0
IsFront c old new n = (n ≡ min (length c) (length old)) × (new ≡ take n c ++ drop n old)
