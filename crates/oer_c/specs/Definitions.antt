-- What reading definitions answers, and which types there are then.
use Rattle.std.specs.Prelude.{◌≡◌, ◌≢◌, ◌<◌, ◌≤◌, ℕ, List, length, Option, None, Some, Ok, Err, ◌⊎◌}
use Rattle.std.specs.Str.{IsUtf8, IsValidUpTo}
use Rattle.oer_notation.specs.Grammar.{AreWellFormed, SpellsAll}
use Rattle.oer_notation.specs.Parsing.{parse_all}
use Rattle.oer_notation.specs.Reading.{Known}
use Rattle.oer_notation.specs.Views.{knowns}
use Rattle.oer_notation.specs.Within.{heavy_in, parse_within, parts_of}
use Rattle.oer_notation.specs.declared.within.WithinFault.TheVariants.{Parts, Text}
use Rattle.oer_value_notation.specs.declared.fault.TextFault.{TextFault}
use Rattle.oer_value_notation.specs.declared.fault.TextWhy.TheVariants.{Memory}
use Rattle.oer_notation.specs.declared.types.Types.{Types}
use Rattle.oer_c.specs.Reasons.{text_number}
use Rattle.oer_c.specs.declared.definitions.Parsed.{Parsed}

abbrev pub answer : ℕ → ℕ → ℕ → Parsed
answer status why place = record { status = status; why = why; place = place }

-- what a fault comes to
abbrev pub IsFault : TextFault → Parsed → Type 0
IsFault fault p = (p ≡ answer 4 0 0) ⊎ ((p ≡ answer 1 (text_number fault.why) fault.at) × (fault.why ≢ Memory))

-- The text is not UTF-8, and so many octets are its longest front that is.
abbrev pub IsNotUtf8 : List ℕ → Parsed → Type 0
IsNotUtf8 text p = (place : ℕ) × (IsUtf8 text → ⊥) × IsValidUpTo text place × (p ≡ answer 1 0 place)

-- The text is not UTF-8; or it spells no well-formed types, and this is the first fault from
-- the left; or an allocation failed.
abbrev pub IsRejected : List ℕ → Parsed → Type 0
IsRejected text p = (p ≡ answer 4 0 0)
    ⊎ (IsNotUtf8 text p
    ⊎ ((fault : TextFault) × (p ≡ answer 1 (text_number fault.why) fault.at) × (parse_all text ≡ Err fault)
    × ((definitions : List Known) → SpellsAll definitions text → AreWellFormed definitions → ⊥)))

-- There are types that the text spells; or the text is rejected, and there are those from before.
abbrev pub IsRead : List ℕ → Option Types → Option Types → Parsed → Type 0
IsRead text old new p = ((t : Types) × (new ≡ Some t) × SpellsAll (knowns t) text × (p ≡ answer 0 0 (length text)))
    ⊎ ((new ≡ old) × IsRejected text p)

-- The text is not UTF-8; or it stands for more octets than types of so many parts have room for, and the definition with which it does begins at
-- the place; or it spells no well-formed types, however many parts they may have; or these have more parts together, and the definition with
-- which they do begins at the place. Of the last two it is the one that comes first from the left. Or an allocation failed.
abbrev pub IsRejectedWithin : ℕ → List ℕ → Parsed → Type 0
IsRejectedWithin most text p = (p ≡ answer 4 0 0)
    ⊎ (IsNotUtf8 text p
    ⊎ (((fault : TextFault) × (p ≡ answer 1 (text_number fault.why) fault.at) × (parse_within most text ≡ Err (Text fault)) × (parse_all text ≡ Err fault)
    × ((definitions : List Known) → SpellsAll definitions text → AreWellFormed definitions → ⊥))
    ⊎ ((place : ℕ) × (p ≡ answer 1 20 place) × (parse_within most text ≡ Err (Parts place))
    × ((heavy_in most text ≡ Some place) ⊎ ((definitions : List Known) → parse_all text ≡ Ok definitions → most < parts_of definitions)))))

-- There are types that the text spells, of no more parts together, and the text stands for no more octets; or it is rejected, and there are
-- the types from before.
abbrev pub IsReadWithin : ℕ → List ℕ → Option Types → Option Types → Parsed → Type 0
IsReadWithin most text old new p =
    ((t : Types) × (new ≡ Some t) × SpellsAll (knowns t) text × (parts_of (knowns t) ≤ most) × (heavy_in most text ≡ None) × (p ≡ answer 0 0 (length text)))
    ⊎ ((new ≡ old) × IsRejectedWithin most text p)
