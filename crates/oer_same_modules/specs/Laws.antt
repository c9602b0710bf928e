-- A module whose body is definitions of the notation, and what our own parser reads of these.
use Rattle.std.specs.Prelude.{◌≡◌, ◌<◌, ℕ, List, [], ◌∷◌, ◌++◌, length, false, true, Some, Result, Ok, Err, codes}
use Rattle.oer_lexer.specs.FallsInto.{FallsInto}
use Rattle.oer_lexer.specs.Token.{word}
use Rattle.oer_model.specs.AsnType.{AsnType}
use Rattle.oer_model.specs.WellFormed.{Somewhere}
use Rattle.oer_module_syntax.specs.Modules.{modules_of}
use Rattle.oer_module_syntax.specs.Tree.{Module}
use Rattle.oer_module_syntax.specs.Words.{is_reference}
use Rattle.oer_module_text.specs.Errors.{Why, too_long}
use Rattle.oer_modules.specs.Asked.{is_qualified}
use Rattle.oer_modules.specs.Schemas.{NoType, refused, rejected, schema_of_modules}
use Rattle.oer_notation.specs.Parsing.{parse_all}
use Rattle.oer_notation.specs.Reading.{Known, find}
use Rattle.oer_same_items.specs.Told.{IsLimit}
use Rattle.oer_same_limits.specs.Short.{AllShort}
use Rattle.oer_same_limits.specs.Takes.{IsOther}
use Rattle.oer_same_tokens.specs.Same.{has_odd_space}
use Rattle.oer_same_trees.specs.Defining.{AreUnreserved, header}
use Rattle.oer_same_trees.specs.Laws.{lexed}
use Rattle.oer_same_types.specs.Ordinary.{AllStandard, HasLastEnd}
use Rattle.oer_same_types.specs.Unsized.{unsized}

-- The text is a module with this name, whose body, on lines of its own, is a text that our own parser reads as these definitions.
-- No Name of theirs is a reserved word of X.680, and there is no space that means something else in modules.
pub record IsModuleOf (text : List ℕ) (name : List ℕ) (ks : List Known) : Type 0 where
  pub start : List ℕ
  pub body : List ℕ
  pub end : List ℕ
  pub is : text ≡ start ++ 10 ∷ (body ++ 10 ∷ end)
  pub header_is : FallsInto start (header name)
  pub parsed : parse_all body ≡ Ok ks
  pub end_is : FallsInto end (word (codes "END") ∷ [])
  pub plain : has_odd_space text ≡ false
  pub unreserved : AreUnreserved ks
  pub reference : is_reference name ≡ true

-- What is said of a Name is the type T, or that it is rejected for such a reason.
abbrev pub SaysOf : (Why → Type 0) → AsnType → Result AsnType NoType → Type 0
SaysOf IsReason T (Ok S) = S ≡ T
SaysOf IsReason T (Err (refused r)) = IsReason r.why
SaysOf IsReason T (Err (rejected p why)) = ⊥

-- A limit, but not of levels, parts, or bits of the number of a tag: the reader of modules takes as many as a type may have that our
-- parser gives, since that is well-formed.
abbrev pub IsParsersLimit : Why → Type 0
IsParsersLimit why = IsLimit false why × IsOther false why

-- In such a module a Name has the type that the parser gives it, but for the sizes of lists, which types of modules leave out; or it is
-- rejected for a limit. How deep types may nest makes no difference, since none contains itself.
abbrev pub SameAsParser : Type 0
SameAsParser = (text name : List ℕ) (ks : List Known) (w : List ℕ) (T : AsnType) (n : ℕ) → IsModuleOf text name ks → is_qualified w ≡ false
    → find ks w ≡ Some T → SaysOf IsParsersLimit (unsized T) (schema_of_modules (text ∷ []) w n)

-- ---- ordinary types

-- There are fewer than 254 definitions. In what is read of the text the items of each ENUMERATED are as X.680, 20 has them, so that those
-- behind the marker rise, and what stands after DEFAULT is tame (`oer_same_defaults`), as bits without white space and texts without
-- control characters. The type has no range with an outermost number of 128 bits.
pub record IsOrdinaryIn (text : List ℕ) (ks : List Known) (T : AsnType) : Type 0 where
  pub few : length ks < 254
  pub standard : (m : Module) → modules_of 64 (lexed text) ≡ Ok (m ∷ []) → AllStandard (m ∷ []) m.assignments
  pub no_last_end : ¬ Somewhere HasLastEnd T

-- Then the Name has the type that the parser gives it, or is rejected as too long: for its text.
abbrev pub OrdinaryAsParser : Type 0
OrdinaryAsParser = (text name : List ℕ) (ks : List Known) (w : List ℕ) (T : AsnType) (n : ℕ) → IsModuleOf text name ks
    → is_qualified w ≡ false → find ks w ≡ Some T → IsOrdinaryIn text ks T
    → SaysOf (λ why. why ≡ too_long) (unsized T) (schema_of_modules (text ∷ []) w n)

-- In what is read of the text names have at most 60 octets, and so have the tokens after DEFAULT, with a space for each.
abbrev pub AreShortIn : List ℕ → Type 0
AreShortIn text = (m : Module) → modules_of 64 (lexed text) ≡ Ok (m ∷ []) → AllShort m.assignments

-- Then nothing is too long, and the Name has the type that the parser gives it.
abbrev pub ShortAsParser : Type 0
ShortAsParser = (text name : List ℕ) (ks : List Known) (w : List ℕ) (T : AsnType) (n : ℕ) → IsModuleOf text name ks
    → is_qualified w ≡ false → find ks w ≡ Some T → IsOrdinaryIn text ks T → AreShortIn text
    → schema_of_modules (text ∷ []) w n ≡ Ok (unsized T)
