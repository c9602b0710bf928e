-- What the call that makes octets of JSON answers.
use Rattle.std.specs.Prelude.{◌≡◌, ◌≤◌, ℕ, List, length, Some, None, Err, ◌⊎◌}
use Rattle.std.specs.Str.{IsUtf8, IsValidUpTo}
use Rattle.serde_json.specs.Data.{Data}
use Rattle.serde_json.specs.Read.{read}
use Rattle.oer_model.specs.AsnType.{AsnType}
use Rattle.oer_model.specs.AsnValue.{AsnValue}
use Rattle.oer_model.specs.Strict.{IsCanonical}
use Rattle.oer_json.specs.Denotes.{IsJsonOf}
use Rattle.oer_json.specs.Take.{taken}
use Rattle.oer_json.specs.declared.fault.JsonFault.{JsonFault}
use Rattle.oer_c.specs.Buffers.{IsPut, only_written}
use Rattle.oer_c.specs.Reasons.{json_number}
use Rattle.oer_c.specs.declared.buffer.Written.{Written}

-- these are the canonical octets of a value for which the text stands
abbrev pub IsOctetsOf : AsnType → List ℕ → List ℕ → Type 0
IsOctetsOf T text c = (j : Data) × (v : AsnValue) × (read text ≡ Some j) × IsJsonOf T v j × IsCanonical T v c

-- the JSON is rejected
abbrev pub json_rejection : JsonFault → Written
json_rejection fault = record { status = 1; why = json_number fault; octets = 0; written = 0 }

-- the text is not JSON, and reading it stopped at the place
abbrev pub no_json : ℕ → Written
no_json place = record { status = 9; why = 0; octets = place; written = 0 }

-- The text is not UTF-8, and so many octets are its longest front that is.
abbrev pub IsNotUtf8 : List ℕ → Written → Type 0
IsNotUtf8 text a = (place : ℕ) × (IsUtf8 text → ⊥) × IsValidUpTo text place × (a ≡ no_json place)

-- The text is UTF-8 and not JSON, and the place is in it or at its end.
abbrev pub IsNotJson : List ℕ → Written → Type 0
IsNotJson text a = (place : ℕ) × IsUtf8 text × (read text ≡ None) × (place ≤ length text) × (a ≡ no_json place)

-- The text is not UTF-8, or not JSON, or an allocation failed.
abbrev pub IsUnread : List ℕ → Written → Type 0
IsUnread text a = (a ≡ only_written 4) ⊎ (IsNotUtf8 text a ⊎ IsNotJson text a)

-- The JSON stands for no value, and this is its first fault; or an allocation failed.
abbrev pub IsUntaken : AsnType → Data → Written → Type 0
IsUntaken T j a = (a ≡ only_written 4)
    ⊎ ((fault : JsonFault) × (a ≡ json_rejection fault) × (taken T j ≡ Err fault) × ((v : AsnValue) → IsJsonOf T v j → ⊥))

-- The text is not JSON, or its JSON stands for no value, or an allocation failed.
abbrev pub IsUnmade : AsnType → List ℕ → Written → Type 0
IsUnmade T text a = IsUnread text a ⊎ ((j : Data) × (read text ≡ Some j) × IsUntaken T j a)

-- Such octets are put into the buffer; or it is as before.
abbrev pub Makes : AsnType → List ℕ → List ℕ → List ℕ → Written → Type 0
Makes T text old new a = ((c : List ℕ) × IsOctetsOf T text c × IsPut c 0 old new a) ⊎ ((new ≡ old) × IsUnmade T text a)
