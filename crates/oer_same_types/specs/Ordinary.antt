-- Which types of the notation are ordinary: the reader of modules rejects such a type for no other reason than its size.
use Rattle.std.specs.Prelude.{◌≡◌, ◌<◌, ◌⊎◌, List, [], ◌∷◌, length, true}
use Rattle.oer_model.specs.AsnType.{AsnType, integer}
use Rattle.oer_model.specs.WellFormed.{HasCrossedBounds, HasCrossedSize, Somewhere}
use Rattle.oer_model.specs.Widths.{HasWidths}
use Rattle.oer_module_syntax.specs.Tree.{Assignment, Body, type_body, Element, marker, group, components_of, component, Elements, no_elements, element}
use Rattle.oer_module_syntax.specs.Tree.{Module, Need, default, Tree, plain, tagged, structure, list_of}
use Rattle.oer_module_syntax.specs.declared.word.Builtin.TheVariants as bi
use Rattle.oer_notation.specs.Reading.{Known}
use Rattle.oer_same_bounds.specs.Bounds.{has_last_end}
use Rattle.oer_same_defaults.specs.Tame.{AreTame}
use Rattle.oer_same_items.specs.Ordinary.{HasItems}

-- ---- types

-- an end of a range is the least or the greatest number of 128 bits
abbrev pub HasLastEnd : AsnType → Type 0
HasLastEnd (integer low high) = has_last_end low high ≡ true
HasLastEnd T = ⊥

-- No well-formed type has the first two.
abbrev pub IsOdd : AsnType → Type 0
IsOdd T = HasCrossedBounds T ⊎ (HasCrossedSize T ⊎ HasLastEnd T)

-- ---- trees

-- what stands after DEFAULT is tame
abbrev pub IsTameNeed : Need → Type 0
IsTameNeed (default ss) = AreTame ss
IsTameNeed need = Unit {0}

-- The items of each ENUMERATED in a tree of module 0 are as X.680, 20 has them, and what stands after DEFAULT is tame.
module _ (ms : List Module) where
  abbrev mutual
    pub IsStandard : Tree → Type 0
    IsStandard (plain at bi.Enumerated items constraints) = HasItems ms 0 at items
    IsStandard (structure at b es constraints) = AreStandard es
    IsStandard (list_of at b sized size name t) = IsStandard t
    IsStandard (tagged at tag mode t) = IsStandard t
    IsStandard t = Unit {0}

    pub AreStandard : Elements → Type 0
    AreStandard no_elements = Unit {0}
    AreStandard (element e es) = ElementIsStandard e × AreStandard es

    pub ElementIsStandard : Element → Type 0
    ElementIsStandard (component at name t need) = IsStandard t × IsTameNeed need
    ElementIsStandard (components_of at t) = IsStandard t
    ElementIsStandard (group at es) = AreStandard es
    ElementIsStandard (marker at exception) = Unit {0}

  -- of what stands for a Name, if it is a type
  abbrev pub BodyIsStandard : Body → Type 0
  BodyIsStandard (type_body t) = IsStandard t
  BodyIsStandard b = Unit {0}

  abbrev pub AllStandard : List Assignment → Type 0
  AllStandard [] = Unit {0}
  AllStandard (a ∷ rest) = BodyIsStandard a.body × AllStandard rest

-- ---- both

-- There are fewer than 254 definitions, whose assignments are standard. The type has no odd type in it, and its numbers have the widths
-- of those in a `Shape`.
pub record IsOrdinary (ms : List Module) (ks : List Known) (found : List Assignment) (T : AsnType) : Type 0 where
  pub few : length ks < 254
  pub standard : AllStandard ms found
  pub sound : ¬ Somewhere IsOdd T
  pub widths : HasWidths T
