-- Which definitions are short: names have at most 60 octets, and so have the tokens after DEFAULT, with a space for each. Then no more than
-- 256 octets are written for each part of a type of theirs, which has at most 4,096 parts; and that is all that a text may have.
use Rattle.std.specs.Prelude.{◌≤◌, ℕ, List, [], ◌∷◌, length}
use Rattle.oer_module_lexer.specs.Token.{Spot}
use Rattle.oer_module_syntax.specs.Tree.{Assignment, Body, type_body, Element, marker, group, components_of, component, Elements, no_elements, element}
use Rattle.oer_module_syntax.specs.Tree.{Need, default, Tree, plain, tagged, structure, list_of}
use Rattle.oer_same_defaults.specs.Short.{token_len, tokens_len}

-- of the tokens in the braces of an ENUMERATED: the names of its items are among them
abbrev pub AreShortTokens : List Spot → Type 0
AreShortTokens [] = Unit {0}
AreShortTokens (s ∷ ss) = (token_len s.token ≤ 60) × AreShortTokens ss

abbrev pub IsShortNeed : Need → Type 0
IsShortNeed (default ss) = tokens_len ss ≤ 60
IsShortNeed need = Unit {0}

abbrev mutual
  pub IsShort : Tree → Type 0
  IsShort (plain at b items constraints) = AreShortTokens items
  IsShort (structure at b es constraints) = AreShort es
  IsShort (list_of at b sized size name t) = IsShort t
  IsShort (tagged at tag mode t) = IsShort t
  IsShort t = Unit {0}

  pub AreShort : Elements → Type 0
  AreShort no_elements = Unit {0}
  AreShort (element e es) = ElementIsShort e × AreShort es

  pub ElementIsShort : Element → Type 0
  ElementIsShort (component at name t need) = (length name ≤ 60) × IsShort t × IsShortNeed need
  ElementIsShort (components_of at t) = IsShort t
  ElementIsShort (group at es) = AreShort es
  ElementIsShort (marker at exception) = Unit {0}

-- of what stands for a Name, if it is a type
abbrev pub BodyIsShort : Body → Type 0
BodyIsShort (type_body t) = IsShort t
BodyIsShort b = Unit {0}

abbrev pub AllShort : List Assignment → Type 0
AllShort [] = Unit {0}
AllShort (a ∷ rest) = BodyIsShort a.body × AllShort rest
