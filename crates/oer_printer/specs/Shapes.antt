-- Kinds of shapes with parts.
use Rattle.std.specs.Prelude.{◌≡◌, Option, Vec}
use Rattle.std.specs.declared.alloc.Global.{Global}
use Rattle.oer_values.specs.declared.shape.Addition.{Addition}
use Rattle.oer_values.specs.declared.shape.Alt.{Alt}
use Rattle.oer_values.specs.declared.shape.Field.{Field}
use Rattle.oer_values.specs.declared.shape.Shape.{Shape}
use Rattle.oer_values.specs.declared.shape.Shape.TheVariants.{Choice, Sequence}

-- a SEQUENCE
abbrev pub IsSequence : Shape → Type 0
IsSequence shape = (root : Vec Field Global) × (more : Option (Vec Addition Global)) × (shape ≡ Sequence root more)

-- a CHOICE
abbrev pub IsChoice : Shape → Type 0
IsChoice shape = (root : Vec Alt Global) × (more : Option (Vec Alt Global)) × (shape ≡ Choice root more)
