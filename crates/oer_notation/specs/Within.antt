-- Reading the definitions of a text whose types may have so many parts together: the definitions, or the first fault.
use Rattle.std.specs.Prelude.{◌≡◌, ◌≢◌, ◌⊎◌, ◌<◌, ◌+◌, ◌-◌, ℕ, zero, suc, List, [], ◌∷◌, ◌++◌, length, leb, Option, Some, None, Result, Ok, Err, if◌then◌else◌}
use Rattle.oer_lexer.specs.Lexing.{lex}
use Rattle.oer_model.specs.Nodes.{type_nodes}
use Rattle.oer_notation.specs.Parsing.{end_of, entry_at, is_last, parse_all, start}
use Rattle.oer_notation.specs.Reading.{Known}
use Rattle.oer_notation.specs.Refusing.{AreNoTypes}
use Rattle.oer_notation.specs.Weight.{heavy_at, room_for}
use Rattle.oer_notation.specs.declared.within.WithinFault.{WithinFault}
use Rattle.oer_notation.specs.declared.within.WithinFault.TheVariants.{Parts, Text}
use Rattle.oer_value_notation.specs.State.{State, fault}
use Rattle.oer_value_notation.specs.declared.fault.TextFault.{TextFault}
use Rattle.oer_value_notation.specs.declared.fault.TextWhy.TheVariants as why

-- the parts of the types of all definitions
abbrev pub parts_of : List Known → ℕ
parts_of [] = 0
parts_of (k ∷ ks) = type_nodes k.type + parts_of ks

-- what is read of the text, and then what f makes of it
abbrev pub and_then : {A B : Type 0} → Result A TextFault → (A → Result B WithinFault) → Result B WithinFault
and_then (Ok x) f = f x
and_then (Err e) f = Err (Text e)

-- definitions up to the text's end, after those known, whose types may have so many parts more; n bounds the turns, as in entries_more
unfoldable pub entries_within : ℕ → ℕ → List Known → State → Result (List Known) WithinFault
entries_within zero left known s = Err (Text s.stop)
entries_within (suc n) left known s = and_then (entry_at known s) (λ e.
    if leb (type_nodes e.0.type) left
    then (if is_last e.1.left then and_then (end_of e.1) (λ _. Ok (known ++ e.0 ∷ []))
    else entries_within n (left - type_nodes e.0.type) (known ++ e.0 ∷ []) e.1)
    else Err (Parts (fault why.Syntax s).at))

-- the definitions that the text spells, whose types have no more parts together, or the first fault
unfoldable pub parse_parts : ℕ → List ℕ → Result (List Known) WithinFault
parse_parts most bs = entries_within (suc (length (lex bs).spots)) most [] (start (lex bs))

-- where the first definition begins with which the text stands for more octets than types of so many parts have room for
abbrev pub heavy_in : ℕ → List ℕ → Option ℕ
heavy_in most bs = heavy_at (room_for most) (lex bs).spots

abbrev pub unless_heavy : Option ℕ → Result (List Known) WithinFault → Result (List Known) WithinFault
unless_heavy (Some at) read = Err (Parts at)
unless_heavy None read = read

-- the same definitions, if the text doesn't stand for too many octets
unfoldable pub parse_within : ℕ → List ℕ → Result (List Known) WithinFault
parse_within most bs = unless_heavy (heavy_in most bs) (parse_parts most bs)

-- What a function returned, seen by view, is what this reading gives, unless memory ran out.
abbrev pub IsReadWithin : {A : Type 0} → (A → List Known) → Result A WithinFault → Result (List Known) WithinFault → Type 0
IsReadWithin view (Ok x) read = read ≡ Ok (view x)
IsReadWithin view (Err (Text e)) read = e.why ≢ why.Memory → read ≡ Err (Text e)
IsReadWithin view (Err (Parts at)) read = read ≡ Err (Parts at)

-- Memory ran out.
abbrev pub IsMemory : WithinFault → Type 0
IsMemory (Text e) = e.why ≡ why.Memory
IsMemory (Parts at) = ⊥

-- The fault is that of the text, whatever parts its types may have, unless memory ran out; or the text stands for too many octets with the
-- definition at the place; or it spells no definitions whose types have so few parts.
abbrev pub AreNotWithin : ℕ → List ℕ → WithinFault → Type 0
AreNotWithin most text (Text e) = (e.why ≢ why.Memory → parse_all text ≡ Err e) × AreNoTypes e text
AreNotWithin most text (Parts at) = (heavy_in most text ≡ Some at) ⊎ ((definitions : List Known) → parse_all text ≡ Ok definitions → most < parts_of definitions)
