-- What the calls that explain an error answer.
use Rattle.std.specs.Prelude.{ℕ, List, ◌⊎◌}
use Rattle.oer_model.specs.AsnType.{AsnType}
use Rattle.oer_explain.specs.Json.{json_notes}
use Rattle.oer_explain.specs.Octets.{SaysChecked}
use Rattle.oer_c.specs.Buffers.{IsPut, IsUndone}
use Rattle.oer_c.specs.declared.buffer.Written.{Written}

-- The notes are put into the buffer; or an allocation failed, and it is as before.
abbrev pub IsExplained : List ℕ → List ℕ → List ℕ → Written → Type 0
IsExplained notes old new a = IsPut notes 0 old new a ⊎ IsUndone old new a 4

-- The same of the notes on a text of JSON by the type, with some place where the JSON reader stopped, if the text isn't JSON.
abbrev pub ExplainsJson : AsnType → List ℕ → List ℕ → List ℕ → Written → Type 0
ExplainsJson T text old new a = (at : ℕ) × IsExplained (json_notes at T text) old new a

-- What is said of octets that the type rejects is put into the buffer; or an allocation failed, and it is as before.
abbrev pub ExplainsOctets : AsnType → List ℕ → List ℕ → List ℕ → Written → Type 0
ExplainsOctets T octets old new a = ((notes : List ℕ) × SaysChecked T octets notes × IsPut notes 0 old new a) ⊎ IsUndone old new a 4
