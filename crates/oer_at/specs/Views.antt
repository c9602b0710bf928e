-- The code's types, as the definitions see them.
use Rattle.std.specs.Prelude.{◌≡◌, ◌<◌, ℕ, List, Result, Err, ⊤}
use Rattle.oer_values.specs.ShapeView.{type_of}
use Rattle.oer_at.specs.Hops.{Lead}
use Rattle.oer_at.specs.declared.enter.Entered.{Entered}
use Rattle.oer_at.specs.declared.hop.Hop.{Hop}
use Rattle.oer_at.specs.declared.hop.NameFault.{NameFault}
use Rattle.oer_at.specs.declared.leading.HopsFault.{HopsFault}
use Rattle.oer_at.specs.declared.leading.HopsFault.TheVariants.{Memory, Name}

abbrev pub entered : Entered → Lead
entered e = (e.hop, type_of e.shape.now)

-- Memory was refused, or the fault is that of the plain function.
abbrev pub IsFaultOf : Result (List Hop) NameFault → HopsFault → Type 0
IsFaultOf plain Memory = ⊤
IsFaultOf plain (Name fault) = plain ≡ Err fault

-- the name at fault is one of so many
abbrev pub IsWithin : HopsFault → ℕ → Type 0
IsWithin Memory n = ⊤
IsWithin (Name fault) n = fault.before < n
