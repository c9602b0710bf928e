-- Reading a value from tokens (X.680, 17.7 and the notation of each type): what is read and what is left, or the first fault.
use Rattle.std.specs.Prelude.{ℕ, zero, suc, List, [], Bool, true, false, ◌&&◌, ◌||◌, Option, Some, None, Ok, Err, codes, if◌then◌else◌}
use Rattle.std.specs.Str.{bytes_eq}
use Rattle.oer_module_lexer.specs.Token.{Token, word, number as a_number, real as a_real, bits as some_bits, digits as some_digits}
use Rattle.oer_module_lexer.specs.Token.{text as a_text}
use Rattle.oer_module_lexer.specs.declared.token.Sign.TheVariants.{OpenBrace, CloseBrace, OpenParenthesis, CloseParenthesis, Comma, Colon}
use Rattle.oer_module_lexer.specs.declared.token.Sign.TheVariants.{Hyphen}
use Rattle.oer_module_syntax.specs.Looks.{names_value}
use Rattle.oer_module_syntax.specs.Ranges.{pairs_len, front_of}
use Rattle.oer_module_syntax.specs.State.{State, Read, ◌>>=◌, first, fault, expected, place, bump, at_sign, skip_sign, identifier_at}
use Rattle.oer_module_syntax.specs.declared.fault.Sought.TheVariants as sought
use Rattle.oer_module_syntax.specs.declared.fault.Why.TheVariants as why
use Rattle.oer_module_syntax.specs.declared.range.Pair.TheVariants.{Step}
use Rattle.oer_module_terms.specs.Looks.{series, no_comma, at_numbered}
use Rattle.oer_module_terms.specs.Trees.{Amount, number, named, Atom, amount, real, fixed, bits, digits, text, Value, atom, numbered}
use Rattle.oer_module_terms.specs.Trees.{choice, braces, Parts, parts_from, members_from}
use Rattle.oer_module_terms.specs.declared.tree.Fixed.{Fixed}
use Rattle.oer_module_terms.specs.declared.tree.Fixed.TheVariants as words

-- ---- values that hold no other

-- a value by its name, and the steps behind that (14.1; X.681, 15)
unfoldable pub named_at : List ℕ → State → Read Amount
named_at w s =
    if names_value w s then (front_of (pairs_len Step (bump s).left) (bump s) >>= λ path. Ok (named w path.0, path.1))
    else expected sought.Value s

-- digits behind a hyphen
abbrev pub negative_by : Option Token → State → Read Amount
negative_by (Some (a_number w)) s = Ok (number true w, bump s)
negative_by _ s = expected sought.Value s

abbrev pub amount_by : Option Token → State → Read Amount
amount_by (Some (a_number w)) s = Ok (number false w, bump s)
amount_by (Some (word w)) s = named_at w s
amount_by _ s = expected sought.Value s

-- a number (19.1, 22.1, 32.3), with a hyphen before it only where it is signed, or the name of a value
unfoldable pub amount_at : Bool → State → Read Amount
amount_at signed s = if signed && at_sign Hyphen s then negative_by (first (bump s)) (bump s) else amount_by (first s) s

-- in parentheses
unfoldable pub enclosed_at : Bool → State → Read Amount
enclosed_at signed s = do
  begun ← skip_sign OpenParenthesis s
  found ← amount_at signed begun.1
  ended ← skip_sign CloseParenthesis found.1
  Ok (found.0, ended.1)

-- BOOLEAN (18.3), NULL (24.3) and the special values of REAL (21.6)
unfoldable pub fixed_of : List ℕ → Option Fixed
fixed_of w =
    if bytes_eq w (codes "TRUE") then Some words.True
    else if bytes_eq w (codes "FALSE") then Some words.False
    else if bytes_eq w (codes "NULL") then Some words.Null
    else if bytes_eq w (codes "PLUS-INFINITY") then Some words.PlusInfinity
    else if bytes_eq w (codes "MINUS-INFINITY") then Some words.MinusInfinity
    else if bytes_eq w (codes "NOT-A-NUMBER") then Some words.NotANumber
    else None

abbrev pub worded_at : Option Fixed → List ℕ → State → Read Atom
worded_at (Some f) w s = Ok (fixed f, bump s)
worded_at None w s = named_at w s >>= λ n. Ok (amount n.0, n.1)

-- behind a hyphen (19.9, 21.6)
abbrev pub minus_by : Option Token → State → Read Atom
minus_by (Some (a_number w)) s = Ok (amount (number true w), bump s)
minus_by (Some (a_real w)) s = Ok (real true w, bump s)
minus_by _ s = expected sought.Value s

abbrev pub atom_by : Option Token → State → Read Atom
atom_by (Some (word w)) s = worded_at (fixed_of w) w s
atom_by (Some (a_number w)) s = Ok (amount (number false w), bump s)
atom_by (Some (a_real w)) s = Ok (real false w, bump s)
atom_by (Some (some_bits w)) s = Ok (bits w, bump s)
atom_by (Some (some_digits w)) s = Ok (digits w, bump s)
atom_by (Some (a_text w)) s = Ok (text w, bump s)
atom_by _ s = expected sought.Value s

unfoldable pub single_at : State → Read Atom
single_at s = if at_sign Hyphen s then minus_by (first (bump s)) (bump s) else atom_by (first s) s

abbrev pub atom_at : State → Read Value
atom_at s = single_at s >>= λ a. Ok (atom (place s) a.0, a.1)

-- a name and its number in parentheses (32.3)
unfoldable pub numbered_at : State → Read Value
numbered_at s = do
  name ← identifier_at s
  n ← enclosed_at false name.1
  Ok (numbered (place s) name.0 n.0, n.1)

-- ---- values that hold others

-- the word before a colon, if these are next
abbrev pub alternative_by : Option Token → State → Option (List ℕ)
alternative_by (Some (word w)) s = if at_sign Colon (bump s) then Some w else None
alternative_by _ s = None

-- a member of braces ends here
abbrev pub member_ends : State → Bool
member_ends s = at_sign Comma s || at_sign CloseBrace s

-- values where a value is read so
module _ (value : State → Read Value) where
  unfoldable pub part_at : State → Read Value
  part_at s = if at_numbered s then numbered_at s else value s

  -- what stands between commas
  unfoldable pub member_at : State → Read Parts
  member_at s = series member_ends part_at part_at s >>= λ ps. Ok (parts_from ps.0, ps.1)

  abbrev pub later_member_at : State → Read Parts
  later_member_at s = member_at (bump s)

  unfoldable pub some_members_at : State → Read (List Parts)
  some_members_at s = series no_comma member_at later_member_at s

  -- behind the opening brace
  unfoldable pub braces_at : ℕ → State → Read Value
  braces_at at s =
      if at_sign CloseBrace s then Ok (braces at (members_from []), bump s)
      else (some_members_at s >>= λ ms. skip_sign CloseBrace ms.1 >>= λ r. Ok (braces at (members_from ms.0), r.1))

  -- a word, a colon and a value (29; X.681, 14)
  unfoldable pub choice_at : List ℕ → State → Read Value
  choice_at w s = value (bump (bump s)) >>= λ v. Ok (choice (place s) w v.0, v.1)

  unfoldable pub unbraced_by : Option (List ℕ) → State → Read Value
  unbraced_by (Some w) s = choice_at w s
  unbraced_by None s = atom_at s

  unfoldable pub any_value_at : State → Read Value
  any_value_at s = if at_sign OpenBrace s then braces_at (place s) (bump s) else unbraced_by (alternative_by (first s) s) s

-- A value (17.7). The number is how many levels of values may nest.
unfoldable pub value_at : ℕ → State → Read Value
value_at zero s = Err (fault why.TooDeep s)
value_at (suc levels) s = any_value_at (value_at levels) s
