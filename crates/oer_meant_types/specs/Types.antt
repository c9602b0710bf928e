-- Which of our types a type of a module is (X.680; X.681, 9 and 14; X.696).
use Rattle.std.specs.Prelude.{◌≡◌, ◌≤◌, ◌<◌, ℕ, List, [], ◌∷◌, ◌++◌, Bool, true, false, Option, Some, codes, slice_get, if◌then◌else◌}
use Rattle.oer_model.specs.AsnType.{Additions, Alternatives, AsnType, Fields, addition, alternative, choice, extensible_sequence}
use Rattle.oer_model.specs.AsnType.{field, later}
use Rattle.oer_model.specs.AsnType.{no_additions, no_alternatives, no_fields, octet_string, sequence, sequence_of}
use Rattle.oer_model.specs.AsnType as asn
use Rattle.oer_model.specs.AsnValue.{AsnValue}
use Rattle.oer_model.specs.Constraints.{any_size}
use Rattle.oer_module_lexer.specs.Token.{Spot}
use Rattle.oer_module_names.specs.Tables.{assignments_in}
use Rattle.oer_module_names.specs.declared.error.Found.{Found}
use Rattle.oer_module_names.specs.declared.error.Place.{Place}
use Rattle.oer_module_syntax.specs.Tree.{Assignment, Elements, Module, Tree, default, list_of, may, must, named, structure}
use Rattle.oer_module_syntax.specs.Words.{is_useful_class}
use Rattle.oer_module_syntax.specs.declared.word.Builtin.TheVariants as bi
use Rattle.oer_module_tags.specs.Alternatives.{AreTags}
use Rattle.oer_module_text.specs.Errors.{place_in}
use Rattle.oer_module_types.specs.Fields.{field_of, has_field}
use Rattle.oer_module_types.specs.Levels.{end_type, times}
use Rattle.oer_module_values.specs.Looks.{own, place_of}
use Rattle.oer_module_values.specs.Types.{Given, Means, Names, TypeIn, type_in}
use Rattle.oer_units.specs.declared.tagging.Tag.{Tag}
use Rattle.oer_meant_leaves.specs.Leaves.{IsLeaf}
use Rattle.oer_meant_values.specs.Parts.{AreParts, Part}
use Rattle.oer_meant_values.specs.Values.{AreValue}

-- a component or an alternative as our types have it; an addition needs nothing
pub record Typed : Type 0 where
  pub added : Bool
  pub name : List ℕ
  pub need : asn.Need
  pub type : AsnType

-- the components of a root, and the additions
abbrev pub fields_of : List Typed → Fields
fields_of [] = no_fields
fields_of (c ∷ cs) = if c.added then fields_of cs else field c.name c.need c.type (fields_of cs)

abbrev pub additions_of : List Typed → Additions
additions_of [] = no_additions
additions_of (c ∷ cs) = if c.added then addition c.name c.type (additions_of cs) else additions_of cs

abbrev pub sequence_with : Bool → List Typed → AsnType
sequence_with marked cs = if marked then extensible_sequence (fields_of cs) (additions_of cs) else sequence (fields_of cs)

-- alternatives with their tags, in order: those of the root before others, and those behind the marker
abbrev pub root_of : List Typed → List Tag → Alternatives → Alternatives
root_of (c ∷ cs) (t ∷ ts) more = if c.added then root_of cs ts more else alternative c.name t c.type (root_of cs ts more)
root_of cs ts more = more

abbrev pub later_of : List Typed → List Tag → Alternatives
later_of (c ∷ cs) (t ∷ ts) = if c.added then later c.name t c.type (later_of cs ts) else later_of cs ts
later_of cs ts = no_alternatives

abbrev pub choice_with : Bool → List Typed → List Tag → AsnType
choice_with marked cs ts = choice marked (root_of cs ts (if marked then later_of cs ts else no_alternatives))

-- a type that holds others
abbrev pub HoldsOthers : Tree → Type 0
HoldsOthers (structure at b es cs) = Unit {0}
HoldsOthers (list_of at b sized ss w t) = Unit {0}
HoldsOthers t = ⊥

module _ (ms : List Module) where
  -- A class, by a name in a module, has a field of this name that is a type's; TYPE-IDENTIFIER and ABSTRACT-SYNTAX have one
  -- (X.681, 9.5, and annexes A and B).
  pub data HasTypeField (m : ℕ) (class w : List ℕ) : Type 0 where
    useful : is_useful_class class ≡ true → w ≡ codes "&Type" → HasTypeField m class w
    defined : (f : Found) (a : Assignment) → Names ms m class own f → slice_get (assignments_in ms f.«module») f.assignment ≡ Some a
        → has_field w a.body ≡ true → HasTypeField m class w

  -- what a component may be without; an addition is absent by itself
  pub data IsNeed (p : Part) : asn.Need → Type 0 where
    there : p.added ≡ false → p.need ≡ must → IsNeed p asn.must
    absent : p.added ≡ false → p.need ≡ may → IsNeed p asn.may
    by_default : (ts : List Spot) (x : AsnValue) → p.added ≡ false → p.need ≡ default ts → AreValue ms p.«module» p.type p.«module» ts x
        → IsNeed p (asn.default x)
    added : p.added ≡ true → IsNeed p asn.may

  -- The nesting is how often a type may stand in itself.
  module _ (nesting : ℕ) where
    mutual
      -- A type in a module, inside those at the places of a path, is this type of ours.
      pub data IsType : List Place → ℕ → Tree → AsnType → Type 0 where
        by_leaf : (path : List Place) (m : ℕ) (t : Tree) (u : TypeIn) (gs : List Given) (T : AsnType) → Means ms m t u gs → IsLeaf ms u gs T
            → IsType path m t T
        -- a field of a class that is a type's stands as octets, behind their number (X.696, 30)
        by_field : (path : List Place) (m n at : ℕ) (t : Tree) (class w : List ℕ) (steps cs : List Spot) (gs : List Given)
            → Means ms m t (type_in n (named at class steps [] cs)) gs → field_of steps ≡ Some w → HasTypeField n class w
            → IsType path m t (octet_string any_size)
        by_list : (path : List Place) (m n at : ℕ) (t item : Tree) (sized : Bool) (ss : List Spot) (w : Option (List ℕ))
            (gs : List Given) (T : AsnType) → Means ms m t (type_in n (list_of at bi.Sequence sized ss w item)) gs
            → times (place_in n at) path < nesting → IsType (path ++ place_in n at ∷ []) n item T → IsType path m t (sequence_of any_size T)
        by_sequence : (path : List Place) (m n at : ℕ) (t : Tree) (es : Elements) (cs : List Spot) (gs : List Given) (ps : List Part)
            (marked : Bool) (xs : List Typed) → Means ms m t (type_in n (structure at bi.Sequence es cs)) gs
            → times (place_in n at) path < nesting → AreParts ms n es ps marked → AreTyped (path ++ place_in n at ∷ []) ps xs
            → IsType path m t (sequence_with marked xs)
        by_choice : (path : List Place) (m n at : ℕ) (t : Tree) (es : Elements) (cs : List Spot) (gs : List Given) (ps : List Part)
            (marked : Bool) (xs : List Typed) (tags : List Tag) → Means ms m t (type_in n (structure at bi.Choice es cs)) gs
            → times (place_in n at) path < nesting → AreParts ms n es ps marked → AreTags ms n es tags
            → AreTyped (path ++ place_in n at ∷ []) ps xs → IsType path m t (choice_with marked xs tags)
        -- where it stands in itself as often as it may, a type that no octets encode
        by_end : (path : List Place) (m : ℕ) (t : Tree) (u : TypeIn) (gs : List Given) → Means ms m t u gs → HoldsOthers u.type
            → nesting ≤ times (place_in u.«module» (place_of u.type)) path → IsType path m t end_type

      -- components or alternatives, each with its type
      pub data AreTyped : List Place → List Part → List Typed → Type 0 where
        none_typed : (path : List Place) → AreTyped path [] []
        another_typed : (path : List Place) (p : Part) (ps : List Part) (need : asn.Need) (T : AsnType) (xs : List Typed)
            → IsType path p.«module» p.type T → IsNeed p need → AreTyped path ps xs
            → AreTyped path (p ∷ ps) (record { added = p.added; name = p.name; need = need; type = T } ∷ xs)
