-- Reading a text: its type or its definitions, or the first fault.
use Rattle.std.specs.Prelude.{ℕ, zero, suc, List, [], ◌∷◌, ◌++◌, length, Bool, true, false, Option, Some, None, Result, Ok, Err, if◌then◌else◌}
use Rattle.oer_lexer.specs.Lexing.{Lexed, lex}
use Rattle.oer_lexer.specs.Token.{Token, word, number, bits, digits, text, sign, Spot}
use Rattle.oer_lexer.specs.declared.token.Sign.TheVariants.{Assign}
use Rattle.oer_model.specs.AsnType.{AsnType}
use Rattle.oer_model.specs.Limits.{max_depth, max_parts}
use Rattle.oer_model.specs.FaultTest.{first_fault}
use Rattle.oer_model.specs.declared.fault.SchemaFault.{SchemaFault}
use Rattle.oer_notation.specs.Reading.{Known, find, with_parts, type_at}
use Rattle.oer_value_notation.specs.State.{State, Read, ◌>>=◌, first, fault, bump, skip_sign}
use Rattle.oer_value_notation.specs.Words.{is_name}
use Rattle.oer_value_notation.specs.declared.fault.TextFault.{TextFault}
use Rattle.oer_value_notation.specs.declared.fault.TextWhy.{TextWhy}
use Rattle.oer_value_notation.specs.declared.fault.TextWhy.TheVariants as why

-- before the first token
abbrev pub start : Lexed → State
start l = record { left = l.spots; parts = max_parts; stop = record { at = l.end; why = if l.complete then why.Syntax else why.Token } }

abbrev pub faultless : Option SchemaFault → AsnType → ℕ → State → Read AsnType
faultless None T at s = Ok (T, s)
faultless (Some f) T at s = Err (record { at = at; why = why.Schema f })

-- a well-formed type, which begins at the place
unfoldable pub checked : AsnType → ℕ → State → Read AsnType
checked T at s = faultless (first_fault T) T at s

-- the type of a definition, with all parts that a type may have
unfoldable pub definition_at : List Known → State → Read AsnType
definition_at known s = type_at known max_depth (with_parts max_parts s) >>= λ t. checked t.0 (fault why.Syntax s).at t.1

abbrev pub end_by : TextWhy → TextFault → Result (Unit {0}) TextFault
end_by why.Syntax stop = Ok tt
end_by why.Memory stop = Err stop
end_by why.Token stop = Err stop
end_by why.Number stop = Err stop
end_by why.Name stop = Err stop
end_by why.Repeated stop = Err stop
end_by why.Mixed stop = Err stop
end_by why.Default stop = Err stop
end_by (why.Schema f) stop = Err stop

abbrev pub end_among : List Spot → TextFault → Result (Unit {0}) TextFault
end_among [] stop = end_by stop.why stop
end_among (t ∷ ts) stop = Err (record { at = t.at; why = why.Syntax })

-- the text's end, or the fault there
abbrev pub end_of : State → Result (Unit {0}) TextFault
end_of s = end_among s.left s.stop

-- the type that the text spells, or the first fault
unfoldable pub parse : List ℕ → Result AsnType TextFault
parse bs = definition_at [] (start (lex bs)) >>= λ t. end_of t.1 >>= λ _. Ok t.0

abbrev pub is_known : Option AsnType → Bool
is_known None = false
is_known (Some T) = true

abbrev pub name_by : List Known → Option Token → State → Read (List ℕ)
name_by known None s = Err (fault why.Syntax s)
name_by known (Some (word w)) s =
    if is_name w then (if is_known (find known w) then Err (fault why.Repeated s) else Ok (w, bump s)) else Err (fault why.Syntax s)
name_by known (Some (number w)) s = Err (fault why.Syntax s)
name_by known (Some (bits w)) s = Err (fault why.Syntax s)
name_by known (Some (digits w)) s = Err (fault why.Syntax s)
name_by known (Some (text w)) s = Err (fault why.Syntax s)
name_by known (Some (sign u)) s = Err (fault why.Syntax s)

-- a Name that no earlier definition has
unfoldable pub name_at : List Known → State → Read (List ℕ)
name_at known s = name_by known (first s) s

-- a Name and its type
unfoldable pub entry_at : List Known → State → Read Known
entry_at known s = do
  name ← name_at known s
  assigned ← skip_sign Assign name.1
  t ← definition_at known assigned.1
  Ok (record { name = name.0; type = t.0 }, t.1)

abbrev pub is_last : List Spot → Bool
is_last [] = true
is_last (t ∷ ts) = false

-- definitions up to the text's end, after those known; the number bounds the turns, and the count of the tokens is always enough
unfoldable pub entries_more : ℕ → List Known → State → Result (List Known) TextFault
entries_more zero known s = Err s.stop
entries_more (suc n) known s =
    entry_at known s >>= λ e.
    if is_last e.1.left then (end_of e.1 >>= λ _. Ok (known ++ e.0 ∷ [])) else entries_more n (known ++ e.0 ∷ []) e.1

-- the definitions that the text spells, or the first fault
unfoldable pub parse_all : List ℕ → Result (List Known) TextFault
parse_all bs = entries_more (suc (length (lex bs).spots)) [] (start (lex bs))
