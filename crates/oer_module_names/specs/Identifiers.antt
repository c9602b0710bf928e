-- The arcs of a module's object identifier, where its tokens tell each as a number (X.680, 13.1 and 32.3).
use Rattle.std.specs.Prelude.{◌≡◌, ◌↔◌, ◌^◌, ◌-◌, ℕ, zero, suc, List, [], ◌∷◌, ◌++◌, length, map, true, nat_eq, nat_lt, ◌&&◌, ◌||◌, Option, Some, None, codes, if◌then◌else◌}
use Rattle.std.specs.Str.{all_ascii_digits, bytes_eq}
use Rattle.std.specs.Str.Parse.{digits_value, without_leading_plus}
use Rattle.oer_module_lexer.specs.Token.{Token, word, number, sign, Spot}
use Rattle.oer_module_lexer.specs.declared.token.Sign.TheVariants.{OpenBrace, CloseBrace, OpenParenthesis, CloseParenthesis}
use Rattle.oer_module_syntax.specs.State.{State, at_sign, bump, first}

-- ---- one arc

-- the number that digits write, if it has 128 bits; a plus before them means nothing, and no token has one (12.8)
abbrev pub written : List ℕ → Option ℕ
written w = if nat_lt 0 (length w) && all_ascii_digits w && nat_lt (digits_value 10 w) (2 ^ 128) then Some (digits_value 10 w) else None

unfoldable pub number_of : List ℕ → Option ℕ
number_of w = written (without_leading_plus w)

-- the arcs whose names need no number (32.3; X.660, annex A): at the root,
unfoldable pub root_arc : List ℕ → Option ℕ
root_arc w =
    if bytes_eq w (codes "itu-t") || bytes_eq w (codes "ccitt") then Some 0
    else if bytes_eq w (codes "iso") then Some 1
    else if bytes_eq w (codes "joint-iso-itu-t") || bytes_eq w (codes "joint-iso-ccitt") then Some 2
    else None

-- below itu-t,
unfoldable pub itu_arc : List ℕ → Option ℕ
itu_arc w =
    if bytes_eq w (codes "recommendation") then Some 0
    else if bytes_eq w (codes "question") then Some 1
    else if bytes_eq w (codes "administration") then Some 2
    else if bytes_eq w (codes "network-operator") then Some 3
    else if bytes_eq w (codes "identified-organization") then Some 4
    else if bytes_eq w (codes "r-recommendation") then Some 5
    else None

-- below iso,
unfoldable pub iso_arc : List ℕ → Option ℕ
iso_arc w =
    if bytes_eq w (codes "standard") then Some 0
    else if bytes_eq w (codes "registration-authority") then Some 1
    else if bytes_eq w (codes "member-body") then Some 2
    else if bytes_eq w (codes "identified-organization") then Some 3
    else None

-- and below recommendation the letters from a, which is 1, to z, which is 26
abbrev pub letter_number : ℕ → Option ℕ
letter_number c = if nat_lt c 97 || nat_lt 122 c then None else Some (c - 96)

abbrev pub letter_arc : List ℕ → Option ℕ
letter_arc [] = None
letter_arc (c ∷ []) = letter_number c
letter_arc (c ∷ d ∷ cs) = None

abbrev pub below_one : ℕ → List ℕ → Option ℕ
below_one a w = if nat_eq a 0 then itu_arc w else if nat_eq a 1 then iso_arc w else None

abbrev pub below_two : ℕ → ℕ → List ℕ → Option ℕ
below_two a b w = if nat_eq a 0 && nat_eq b 0 then letter_arc w else None

-- the arc that a name alone stands for behind these arcs
abbrev pub named_arc : List ℕ → List ℕ → Option ℕ
named_arc [] w = root_arc w
named_arc (a ∷ []) w = below_one a w
named_arc (a ∷ b ∷ []) w = below_two a b w
named_arc (a ∷ b ∷ c ∷ more) w = None

-- ---- all arcs, as a relation

-- The tokens behind an opening brace spell these arcs, of which the first stand before them: each arc is a number, a name
-- and its number in parentheses, or one of the names that need none (32.3).
pub data Spells : List ℕ → List Token → List ℕ → Type 0 where
  closed : {before : List ℕ} {ts : List Token} → Spells before (sign CloseBrace ∷ ts) before
  numbered : {before ns d : List ℕ} {ts : List Token} {n : ℕ} → number_of d ≡ Some n → Spells (before ++ n ∷ []) ts ns → Spells before (number d ∷ ts) ns
  both : {before ns d w : List ℕ} {ts : List Token} {n : ℕ} → number_of d ≡ Some n → Spells (before ++ n ∷ []) ts ns
      → Spells before (word w ∷ sign OpenParenthesis ∷ number d ∷ sign CloseParenthesis ∷ ts) ns
  named : {before ns w : List ℕ} {ts : List Token} {n : ℕ} → named_arc before w ≡ Some n → Spells (before ++ n ∷ []) ts ns → Spells before (word w ∷ ts) ns

abbrev pub tokens : List Spot → List Token
tokens ss = map (λ s. s.token) ss

-- an identifier in braces has these arcs
pub record Identifies (id : List Spot) (ns : List ℕ) : Type 0 where
  pub inner : List Token
  pub braced : tokens id ≡ sign OpenBrace ∷ inner
  pub arcs : Spells [] inner ns

-- ---- all arcs, as they are read

abbrev pub with_rest : Option ℕ → State → Option (ℕ × State)
with_rest None s = None
with_rest (Some n) s = Some (n, s)

-- behind the opening parenthesis
abbrev pub enclosed_by : Option Token → State → Option (ℕ × State)
enclosed_by (Some (number d)) s = if at_sign CloseParenthesis (bump s) then with_rest (number_of d) (bump (bump s)) else None
enclosed_by _ s = None

abbrev pub worded_by : List ℕ → List ℕ → State → Option (ℕ × State)
worded_by before w s = if at_sign OpenParenthesis s then enclosed_by (first (bump s)) (bump s) else with_rest (named_arc before w) s

abbrev pub arc_by : List ℕ → Option Token → State → Option (ℕ × State)
arc_by before (Some (number d)) s = with_rest (number_of d) (bump s)
arc_by before (Some (word w)) s = worded_by before w (bump s)
arc_by before _ s = None

-- the next arc, and what is left
unfoldable pub arc_at : List ℕ → State → Option (ℕ × State)
arc_at before s = arc_by before (first s) s

abbrev pub arcs_by : (List ℕ → State → Option (List ℕ)) → List ℕ → Option (ℕ × State) → Option (List ℕ)
arcs_by more before None = None
arcs_by more before (Some x) = more (before ++ x.0 ∷ []) x.1

-- up to the closing brace, in so many turns
unfoldable pub arcs_from : ℕ → List ℕ → State → Option (List ℕ)
arcs_from zero before s = None
arcs_from (suc n) before s = if at_sign CloseBrace s then Some before else arcs_by (arcs_from n) before (arc_at before s)

abbrev pub over : List Spot → State
over id = record { left = id; end = 0; complete = true }

abbrev pub arcs_in : State → Option (List ℕ)
arcs_in s = if at_sign OpenBrace s then arcs_from (length (bump s).left) [] (bump s) else None

-- the arcs of an identifier, if it tells all as numbers
unfoldable pub arcs : List Spot → Option (List ℕ)
arcs id = arcs_in (over id)

-- what is read is what an identifier tells
abbrev pub ArcsTold : Type 0
ArcsTold = (id : List Spot) (ns : List ℕ) → (arcs id ≡ Some ns) ↔ Identifies id ns
