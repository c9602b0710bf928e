-- Octets as JSON.
use Rattle.std.specs.Prelude.{◌≡◌, ℕ, List}
use Rattle.serde_json.specs.Data.{Data}
use Rattle.oer_units.specs.Octets.{IsOctets}
use Rattle.oer_model.specs.AsnValue.{AsnValue, octets}
use Rattle.oer_json.specs.Made.{made_octets}

-- the value is that of an OCTET STRING
abbrev pub AreOctets : AsnValue → Type 0
AreOctets v = (w : List ℕ) × (v ≡ octets w)

-- The JSON is that of octets: a string with two hexadecimal digits for each.
abbrev pub AreDigits : Data → Type 0
AreDigits j = (w : List ℕ) × IsOctets w × (j ≡ made_octets w)
