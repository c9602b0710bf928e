-- A component of a SEQUENCE's root, with its default where it is absent.
use Rattle.std.specs.Prelude.{Option, Some, None}
use Rattle.oer_model.specs.AsnType.{Need, must, may, default}
use Rattle.oer_model.specs.AsnValue.{AsnValue, Places, absent, present}

abbrev pub default_of : Need → Option AsnValue
default_of must = None
default_of may = None
default_of (default d) = Some d

-- the value, or the default where there is none
abbrev pub with_default : Need → Option AsnValue → Option AsnValue
with_default need (Some v) = Some v
with_default need None = default_of need

-- a component's place, before those after it
abbrev pub place : Option AsnValue → Places → Places
place None ps = absent ps
place (Some v) ps = present v ps
