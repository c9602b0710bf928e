-- What a handle holds.
use Rattle.std.specs.Prelude.{ℕ, Option, None, Some}
use base.Fml.{Fml, ftrue}
use denote.RawPtr.{Ptr}
use Rattle.std.specs.Box.Ownership.{box_owns}
use Rattle.std.specs.Global.{Global}
use Rattle.std.specs.contracts.impls.GlobalAllocator.TheImpl.{ghosts}
use Rattle.oer_c.specs.contracts.shared.Shared.{the_row}
use Rattle.oer_c.specs.declared.shared.Shared.{Shared}

-- the heap, of which there is one
abbrev pub heap : Global
heap = record { memory = record { seal = tt } }

-- the types at p, with the right to free their block; or nothing
abbrev pub holds : Ptr → Option Shared → Fml
holds p None = ftrue
holds p (Some shared) = box_owns (ghosts.dealloc_token heap) the_row p shared

-- whether there are any, as a number
abbrev pub flag : Option Shared → ℕ
flag None = 0
flag (Some shared) = 1
