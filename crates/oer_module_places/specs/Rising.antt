-- How the places of types lie in a text.
use Rattle.std.specs.Prelude.{ℕ, suc, ◌≤◌, ◌<◌, List, [], ◌∷◌}
use Rattle.oer_module_syntax.specs.Tree.{Assignment, Body, type_body, Element, marker, group, components_of, component, Elements, no_elements, element}
use Rattle.oer_module_syntax.specs.Tree.{Tree, tagged, structure, list_of}

-- The types in a tree that hold others lie between two places: from the first on, before the second, and each behind the one that
-- it stands in.
abbrev mutual
  pub Lies : ℕ → ℕ → Tree → Type 0
  Lies low high (structure at b es constraints) = (low ≤ at) × (at < high) × AllLie (suc at) high es
  Lies low high (list_of at b sized size name t) = (low ≤ at) × (at < high) × Lies (suc at) high t
  Lies low high (tagged at tag mode t) = Lies low high t
  Lies low high t = Unit {0}

  pub AllLie : ℕ → ℕ → Elements → Type 0
  AllLie low high no_elements = Unit {0}
  AllLie low high (element e es) = ElementLies low high e × AllLie low high es

  pub ElementLies : ℕ → ℕ → Element → Type 0
  ElementLies low high (component at name t need) = Lies low high t
  ElementLies low high (components_of at t) = Lies low high t
  ElementLies low high (group at es) = AllLie low high es
  ElementLies low high (marker at exception) = Unit {0}

-- the same of what stands for a Name, if it is a type
abbrev pub BodyLies : ℕ → ℕ → Body → Type 0
BodyLies low high (type_body t) = Lies low high t
BodyLies low high b = Unit {0}

-- From a place on, each assignment begins where the one before has ended, and its types lie between its beginning and its end.
abbrev pub Rise : ℕ → List Assignment → Type 0
Rise low [] = Unit {0}
Rise low (a ∷ rest) = (end : ℕ) × (low ≤ a.at) × (a.at ≤ end) × BodyLies a.at end a.body × Rise end rest
