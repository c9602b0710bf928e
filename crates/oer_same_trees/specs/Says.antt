-- What the tree of a module says of types in the notation, case by case as there. Places make no difference.
use Rattle.std.specs.Prelude.{◌≡◌, ℕ, ◌+◌, List, [], ◌∷◌, map, Bool, true, false, Option, Some, None, codes}
use Rattle.oer_lexer.specs.Token.{Token, word}
use Rattle.oer_lexer.specs.declared.leaf.LeafWord.{LeafWord}
use Rattle.oer_lexer.specs.declared.leaf.LeafWord.TheVariants as leaf_word
use Rattle.oer_model.specs.AsnType.{Additions, Alternatives, AsnType, Fields, addition, alternative, choice, extensible_sequence, field, later, leaf, no_additions, no_alternatives, no_fields, sequence, sequence_of}
use Rattle.oer_model.specs.AsnType as model
use Rattle.oer_model.specs.AsnValue.{AsnValue}
use Rattle.oer_model.specs.LeafType.{LeafType}
use Rattle.oer_model.specs.declared.size.Size.{Size}
use Rattle.oer_module_lexer.specs.Token as modules
use Rattle.oer_module_syntax.specs.Tree.{Tree, Elements, Need, must, may, default, plain, named, tagged, structure, list_of, marker, component, no_elements, element}
use Rattle.oer_module_syntax.specs.declared.tree.Mode.TheVariants.{Unsaid}
use Rattle.oer_module_syntax.specs.declared.word.Builtin.{Builtin}
use Rattle.oer_module_syntax.specs.declared.word.Builtin.TheVariants as bi
use Rattle.oer_notation.specs.Grammar.{IsBracketedSize, IsDefined, IsId, IsLeaf, IsName, IsSize, IsTag, IsValue}
use Rattle.oer_notation.specs.Reading.{Known}
use Rattle.oer_same_tokens.specs.Same.{same_tokens}
use Rattle.oer_units.specs.declared.tagging.Tag.{Tag}
use Rattle.oer_value_notation.specs.Leaves.{LeafForm, leaf_form, listed}

-- tokens without their places
abbrev pub kept : List modules.Spot → List modules.Token
kept ss = map (λ s. s.token) ss

-- The tree keeps these tokens of the notation.
abbrev pub Keeps : List Token → List modules.Spot → Type 0
Keeps ts ss = kept ss ≡ same_tokens ts

-- ---- types that hold no other

-- the type that begins with the same words
abbrev pub builtin : LeafWord → Builtin
builtin leaf_word.Boolean = bi.Boolean
builtin leaf_word.Null = bi.Null
builtin leaf_word.Integer = bi.Integer
builtin leaf_word.Enumerated = bi.Enumerated
builtin leaf_word.BitString = bi.BitString
builtin leaf_word.OctetString = bi.OctetString
builtin leaf_word.ObjectIdentifier = bi.ObjectIdentifier
builtin leaf_word.Ia5String = bi.Ia5String
builtin leaf_word.VisibleString = bi.VisibleString
builtin leaf_word.NumericString = bi.NumericString
builtin leaf_word.PrintableString = bi.PrintableString
builtin leaf_word.Utf8String = bi.Utf8String

-- What stands behind the words are items, or else constraints: bounds and sizes.
abbrev pub items_in : LeafForm → List Token → List Token
items_in (listed make) ts = ts
items_in form ts = []

abbrev pub constraints_in : LeafForm → List Token → List Token
constraints_in (listed make) ts = []
constraints_in form ts = ts

-- the size of a SEQUENCE OF: in brackets, or behind the word SIZE, which the tree tells by itself
pub data SaysSize : Size → Bool → List modules.Spot → Type 0 where
  in_brackets : {size : Size} {ts : List Token} {ss : List modules.Spot} → IsBracketedSize size ts → Keeps ts ss → SaysSize size false ss
  behind_word : {size : Size} {ts : List Token} {ss : List modules.Spot} → IsSize size (word (codes "SIZE") ∷ ts) → Keeps ts ss
      → SaysSize size true ss

-- ---- components

-- what makes a component of the type optional
pub data SaysNeed (T : AsnType) : model.Need → Need → Type 0 where
  needed : SaysNeed T model.must must
  optional : SaysNeed T model.may may
  with_default : {v : AsnValue} {ts : List Token} {ss : List modules.Spot} → IsValue T v ts → Keeps ts ss
      → SaysNeed T (model.default v) (default ss)

-- behind an addition the word OPTIONAL makes no difference
pub data MayBeOptional : Need → Type 0 where
  plain_addition : MayBeOptional must
  optional_addition : MayBeOptional may

-- ---- types

mutual
  -- a type; Names stand for the types that were defined before
  pub data Says (known : List Known) : AsnType → Tree → Type 0 where
    says_leaf : {at : ℕ} (k : LeafWord) {L : LeafType} {ts : List Token} {items constraints : List modules.Spot} → IsLeaf (leaf_form k) L ts
        → Keeps (items_in (leaf_form k) ts) items → Keeps (constraints_in (leaf_form k) ts) constraints
        → Says known (leaf L) (plain at (builtin k) items constraints)
    says_name : {at : ℕ} {w : List ℕ} {T : AsnType} → IsName w → IsDefined w T known → Says known T (named at w [] [] [])
    says_sequence : {at : ℕ} {fs : Fields} {es : Elements} → SaysComponents known fs None es
        → Says known (sequence fs) (structure at bi.Sequence es [])
    says_extensible_sequence : {at : ℕ} {fs : Fields} {more : Additions} {es : Elements} → SaysComponents known fs (Some more) es
        → Says known (extensible_sequence fs more) (structure at bi.Sequence es [])
    says_sequence_of : {at : ℕ} {size : Size} {T : AsnType} {sized : Bool} {ss : List modules.Spot} {t : Tree} → SaysSize size sized ss
        → Says known T t → Says known (sequence_of size T) (list_of at bi.Sequence sized ss None t)
    -- the first alternative stands before the marker
    says_choice : {at : ℕ} {tagged marker : Bool} {w : List ℕ} {t : Tag} {T : AsnType} {more : Alternatives} {es : Elements}
        → SaysAlternatives known tagged 0 (alternative w t T more) marker es
        → Says known (choice marker (alternative w t T more)) (structure at bi.Choice es [])

  -- components; then the marker and additions, if there are some
  pub data SaysComponents (known : List Known) : Fields → Option Additions → Elements → Type 0 where
    says_no_components : SaysComponents known no_fields None no_elements
    says_component : {at : ℕ} {w : List ℕ} {T : AsnType} {need : model.Need} {fs : Fields} {more : Option Additions} {t : Tree} {n : Need}
        {es : Elements} → IsId w → Says known T t → SaysNeed T need n → SaysComponents known fs more es
        → SaysComponents known (field w need T fs) more (element (component at w t n) es)
    says_components_marker : {at : ℕ} {more : Additions} {es : Elements} → SaysAdditions known more es
        → SaysComponents known no_fields (Some more) (element (marker at []) es)

  pub data SaysAdditions (known : List Known) : Additions → Elements → Type 0 where
    says_none_added : SaysAdditions known no_additions no_elements
    says_added : {at : ℕ} {w : List ℕ} {T : AsnType} {more : Additions} {t : Tree} {n : Need} {es : Elements} → IsId w → Says known T t
        → MayBeOptional n → SaysAdditions known more es → SaysAdditions known (addition w T more) (element (component at w t n) es)

  -- alternatives from a place on, and whether the marker and later ones follow
  pub data SaysAlternatives (known : List Known) : Bool → ℕ → Alternatives → Bool → Elements → Type 0 where
    says_none_left : {tagged : Bool} {place : ℕ} → SaysAlternatives known tagged place no_alternatives false no_elements
    says_alternative : {tagged : Bool} {place at : ℕ} {w : List ℕ} {t : Tag} {T : AsnType} {more : Alternatives} {marker : Bool}
        {tree : Tree} {es : Elements} → IsId w → SaysTagged known tagged place t T tree
        → SaysAlternatives known tagged (place + 1) more marker es
        → SaysAlternatives known tagged place (alternative w t T more) marker (element (component at w tree must) es)
    says_alternatives_marker : {tagged : Bool} {place at : ℕ} {more : Alternatives} {es : Elements} → SaysLater known tagged place more es
        → SaysAlternatives known tagged place more true (element (marker at []) es)

  -- alternatives behind the marker
  pub data SaysLater (known : List Known) : Bool → ℕ → Alternatives → Elements → Type 0 where
    says_none_later : {tagged : Bool} {place : ℕ} → SaysLater known tagged place no_alternatives no_elements
    says_later : {tagged : Bool} {place at : ℕ} {w : List ℕ} {t : Tag} {T : AsnType} {more : Alternatives} {tree : Tree} {es : Elements}
        → IsId w → SaysTagged known tagged place t T tree → SaysLater known tagged (place + 1) more es
        → SaysLater known tagged place (later w t T more) (element (component at w tree must) es)

  -- the type of the alternative at a place, with its tag in brackets where alternatives are tagged
  pub data SaysTagged (known : List Known) : Bool → ℕ → Tag → AsnType → Tree → Type 0 where
    says_own_tag : {place at : ℕ} {t : Tag} {T : AsnType} {ts : List Token} {ss : List modules.Spot} {tree : Tree} → IsTag true place t ts
        → Keeps ts ss → Says known T tree → SaysTagged known true place t T (tagged at ss Unsaid tree)
    says_tag_by_place : {place : ℕ} {t : Tag} {T : AsnType} {tree : Tree} → IsTag false place t [] → Says known T tree
        → SaysTagged known false place t T tree
