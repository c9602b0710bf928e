-- Kinds of shapes with parts.
use Rattle.std.specs.Prelude.{◌≡◌, Option, Some, Vec}
use Rattle.std.specs.declared.alloc.Global.{Global}
use Rattle.oer_values.specs.declared.shape.Addition.{Addition}
use Rattle.oer_values.specs.declared.shape.Alt.{Alt}
use Rattle.oer_values.specs.declared.shape.Field.{Field}
use Rattle.oer_values.specs.declared.shape.Shape.{Shape}
use Rattle.oer_values.specs.declared.shape.Shape.TheVariants.{Choice, Sequence}

-- a SEQUENCE with an extension marker
abbrev pub IsExtensible : Shape → Type 0
IsExtensible shape = (root : Vec Field Global) × (more : Vec Addition Global) × (shape ≡ Sequence root (Some more))

-- a CHOICE
abbrev pub IsChoice : Shape → Type 0
IsChoice shape = (root : Vec Alt Global) × (more : Option (Vec Alt Global)) × (shape ≡ Choice root more)
