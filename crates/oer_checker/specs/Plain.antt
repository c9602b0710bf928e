-- The reasons that octets themselves give.
use Rattle.std.specs.Prelude.{Bool, true, false}
use Rattle.oer_units.specs.declared.fault.Why.{Why}
use Rattle.oer_units.specs.declared.fault.Why.TheVariants.{Memory, Device}

-- a reason other than memory or a device
abbrev pub is_plain : Why → Bool
is_plain Memory = false
is_plain Device = false
is_plain _ = true
