-- What gathering does to a source's count of failures, and which answers tell of the source.
use Rattle.std.specs.Prelude.{ℕ, Result, Ok, Err, ⊤}
use Rattle.oer_units.specs.Stream.{one_more}
use Rattle.oer_cmd.specs.declared.gathering.GatherFault.{GatherFault}
use Rattle.oer_cmd.specs.declared.gathering.GatherFault.TheVariants.{Device, Longer, Memory}

-- one more at `Device`, and none elsewhere
abbrev pub counted_by : {A : Type 0} → ℕ → Result A GatherFault → ℕ
counted_by n (Ok octets) = n
counted_by n (Err Device) = one_more n
counted_by n (Err Longer) = n
counted_by n (Err Memory) = n

-- The machine didn't fail: the source had all within the limit, or more.
abbrev pub TellsAll : {A : Type 0} → Result A GatherFault → Type 0
TellsAll (Ok octets) = ⊤
TellsAll (Err Device) = ⊥
TellsAll (Err Longer) = ⊤
TellsAll (Err Memory) = ⊥
