-- Modules that hold definitions of the notation.
use Rattle.std.specs.Prelude.{◌≡◌, ℕ, ◌*◌, ◌≤◌, List, [], ◌∷◌, ◌++◌, drop, false, ◌&&◌, None, codes}
use Rattle.oer_lexer.specs.Token.{Token, word, sign}
use Rattle.oer_lexer.specs.declared.token.Sign.TheVariants.{Assign}
use Rattle.oer_model.specs.AsnType.{AsnType}
use Rattle.oer_model.specs.WellFormed.{depth}
use Rattle.oer_module_lexer.specs.Token.{Spot}
use Rattle.oer_module_lexer.specs.declared.token.Sign.TheVariants.{OpenBrace, OpenParenthesis, Point}
use Rattle.oer_module_syntax.specs.Ranges.{starts_sign}
use Rattle.oer_module_syntax.specs.State.{first_of, is_word}
use Rattle.oer_module_syntax.specs.Tree.{Assignment, Module, all, type_body}
use Rattle.oer_module_syntax.specs.Tree as tree
use Rattle.oer_module_syntax.specs.Words.{is_reserved, keyword_text}
use Rattle.oer_module_syntax.specs.declared.tree.Tags.TheVariants.{Automatic}
use Rattle.oer_module_syntax.specs.declared.word.Keyword.TheVariants as kw
use Rattle.oer_notation.specs.Grammar.{IsName, IsNew}
use Rattle.oer_notation.specs.Reading.{Known}
use Rattle.oer_same_trees.specs.Says.{Says}

-- ---- the text

-- up to the first definition
abbrev pub header : List ℕ → List Token
header name =
    word name ∷ word (codes "DEFINITIONS") ∷ word (codes "AUTOMATIC") ∷ word (codes "TAGS") ∷ sign Assign ∷ word (codes "BEGIN") ∷ []

-- a module with this name and these definitions
abbrev pub in_module : List ℕ → List Token → List Token
in_module name ts = header name ++ (ts ++ word (codes "END") ∷ [])

-- ---- what is asked of the definitions

-- No Name is a reserved word of X.680: the notation reserves only those that it has itself.
abbrev pub AreUnreserved : List Known → Type 0
AreUnreserved [] = Unit {0}
AreUnreserved (k ∷ ks) = (is_reserved k.name ≡ false) × AreUnreserved ks

-- How many levels of types may nest in a module. Each level of a type takes two at most: one for a tag in brackets.
abbrev pub AreWithin : ℕ → List Known → Type 0
AreWithin levels [] = Unit {0}
AreWithin levels (k ∷ ks) = (depth k.type * 2 ≤ levels) × AreWithin levels ks

-- ---- the tree

-- In order, each assignment has the Name of its definition, no parameters, and a tree that says its type by the definitions before it.
pub data AssignmentsSay : List Known → List Known → List Assignment → Type 0 where
  no_assignments : {known : List Known} → AssignmentsSay known [] []
  an_assignment : {at : ℕ} {known ks : List Known} {w : List ℕ} {T : AsnType} {t : tree.Tree} {found : List Assignment} → IsName w
      → IsNew w known → Says known T t → AssignmentsSay (known ++ record { name = w; type = T } ∷ []) ks found
      → AssignmentsSay known (record { name = w; type = T } ∷ ks)
      (record { at = at; name = w; parameters = []; body = type_body t } ∷ found)

-- The header gives the name and automatic tags, and nothing else stands there or before the definitions; all of these are exported.
pub record IsPlain (name : List ℕ) (m : Module) : Type 0 where
  pub named : m.name ≡ name
  pub no_id : m.id ≡ []
  pub no_instructions : m.instructions ≡ None
  pub automatic : m.tags ≡ Automatic
  pub not_extensible : m.extensible ≡ false
  pub exports_all : m.exports ≡ all
  pub no_imports : m.imports ≡ []
  pub no_control : m.control ≡ []

-- ---- a type alone

-- What stands behind a type and doesn't go on with it: no constraint, no items, no step, and no words that follow ANY (X.208, 28).
pub record EndsType (rest : List Spot) : Type 0 where
  pub no_parenthesis : starts_sign OpenParenthesis rest ≡ false
  pub no_brace : starts_sign OpenBrace rest ≡ false
  pub no_point : starts_sign Point rest ≡ false
  pub not_defined_by : is_word (keyword_text kw.Defined) (first_of rest) && is_word (keyword_text kw.By) (first_of (drop 1 rest)) ≡ false
