-- For how many octets the definitions of a text stand: for those of their Names, and of the tokens behind these, where a number takes 16, and a
-- Name stands for what its definition does, too. So many may be held in memory, since a Name stands for a copy of its type, with the names and
-- defaults in it.
use Rattle.std.specs.Prelude.{ℕ, ◌+◌, ◌-◌, ◌*◌, List, [], ◌∷◌, ◌++◌, get_or, length, leb, Option, Some, None, is_some, if◌then◌else◌}
use Rattle.oer_lexer.specs.Token.{Token, word, number, bits, digits, text, sign, Spot}
use Rattle.oer_lexer.specs.declared.token.Sign.TheVariants.{Assign}
use Rattle.oer_notation.specs.Places.{place_in}
use Rattle.oer_notation.specs.Views.{names_of}
use Rattle.oer_notation.specs.declared.weight.Open.{Open}
use Rattle.oer_notation.specs.declared.weight.Scale.{Scale as RawScale}
use Rattle.oer_notation.specs.declared.weight.Step.{Step as RawStep}
use Rattle.oer_notation.specs.declared.weight.Step.TheVariants as raw
use Rattle.oer_value_notation.specs.State.{is_sign}

-- What was weighed so far: the Names of definitions, the octets of those that ended, the definition that goes on, and for how many octets
-- the rest may stand.
pub record Scale : Type 0 where
  pub names : List (List ℕ)
  pub octets : List ℕ
  pub current : Option Open
  pub left : ℕ

-- the octets of a token; of a number 128 bits are kept, and of a sign nothing
abbrev pub token_octets : Token → ℕ
token_octets (word w) = length w
token_octets (number w) = 16
token_octets (bits w) = length w
token_octets (digits w) = length w
token_octets (text w) = length w
token_octets (sign s) = 0

-- those of a definition that ended, by its place
abbrev pub octets_at : List ℕ → Option ℕ → ℕ
octets_at os None = 0
octets_at os (Some i) = get_or os i 0

-- for how many the definition of a Name stands
abbrev pub copied : Scale → Token → ℕ
copied c (word w) = octets_at c.octets (place_in c.names w)
copied c t = 0

-- ---- a token

-- The scale goes on; or the definition at a place stands for too many; or a Name stands twice, which is another error.
pub data Step : Type 0 where
  on : Scale → Step
  heavy : ℕ → Step
  over : Step

-- with the octets of the definition that goes on, if there is one
abbrev pub with_open : List ℕ → ℕ → Option Open → List ℕ
with_open os left None = os
with_open os left (Some o) = os ++ (o.before - left) ∷ []

-- The definition of a Name begins at a place, where the one before it ends. So many octets are left without the Name.
abbrev pub begun : ℕ → List ℕ → ℕ → Scale → Scale
begun at w left c = record {
  names = c.names ++ w ∷ [];
  octets = with_open c.octets c.left c.current;
  current = Some (record { at = at; before = left });
  left = left;
}

-- The octets of the Name count once, and with no copy of its type.
abbrev pub begin_at : ℕ → List ℕ → Scale → Step
begin_at at w c =
    if is_some (place_in c.names w) then over else (if leb (length w) c.left then on (begun at w (c.left - length w) c) else heavy at)

abbrev pub weigh_in : Option Open → ℕ → Scale → Step
weigh_in None n c = on c
weigh_in (Some o) n c = if leb n c.left then on (record { names = c.names; octets = c.octets; current = c.current; left = c.left - n }) else heavy o.at

-- Before the first definition there is nothing to weigh.
abbrev pub weigh : Token → Scale → Step
weigh t c = weigh_in c.current (token_octets t + copied c t) c

abbrev pub name_by : Token → Token → Option (List ℕ)
name_by (word w) t = if is_sign Assign (Some t) then Some w else None
name_by s t = None

-- the Name whose definition begins with the first token: a word, and `::=` behind it
abbrev pub named : List Spot → Option (List ℕ)
named [] = None
named (s ∷ []) = None
named (s ∷ t ∷ ss) = name_by s.token t.token

-- a token, and the Name whose definition begins with it, if one does
abbrev pub step_by : Option (List ℕ) → Spot → Scale → Step
step_by (Some w) s c = begin_at s.at w c
step_by None s c = weigh s.token c

-- ---- all tokens

abbrev pub after : (Scale → Option ℕ) → Step → Option ℕ
after next (on c) = next c
after next (heavy at) = Some at
after next over = None

-- where the first definition begins with which the tokens stand for too many octets
unfoldable pub heavy_from : List Spot → Scale → Option ℕ
heavy_from [] c = None
heavy_from (s ∷ ss) c = after (heavy_from ss) (step_by (named (s ∷ ss)) s c)

abbrev pub nothing : ℕ → Scale
nothing room = record { names = []; octets = []; current = None; left = room }

abbrev pub heavy_at : ℕ → List Spot → Option ℕ
heavy_at room ss = heavy_from ss (nothing room)

-- Types of so many parts have room for 65,536 octets, and 64 more for each part.
abbrev pub room_for : ℕ → ℕ
room_for parts = parts * 64 + 65536

-- ---- what the code's types stand for

abbrev pub scale_of : RawScale → Scale
scale_of c = record { names = names_of c.names; octets = c.octets.items; current = c.current; left = c.left }

abbrev pub step_of : RawStep → Scale → Step
step_of raw.On c = on c
step_of (raw.Heavy at) c = heavy at
step_of raw.Over c = over
