-- Laws of types and definitions in the notation, read as a module.
use Rattle.std.specs.Prelude.{◌≡◌, ℕ, ◌*◌, ◌≤◌, List, [], ◌∷◌, ◌++◌, Bool, true, false, Ok, codes}
use Rattle.oer_lexer.specs.FallsInto.{FallsInto}
use Rattle.oer_lexer.specs.Token.{Token, word}
use Rattle.oer_model.specs.AsnType.{AsnType}
use Rattle.oer_model.specs.Limits.{max_depth}
use Rattle.oer_model.specs.WellFormed.{depth}
use Rattle.oer_module_lexer.specs.Lexing.{lex}
use Rattle.oer_module_lexer.specs.Token.{Spot}
use Rattle.oer_module_syntax.specs.Modules.{modules_of}
use Rattle.oer_module_syntax.specs.State.{State}
use Rattle.oer_module_syntax.specs.Tree.{Assignment, Module, Tree}
use Rattle.oer_module_syntax.specs.Types.{type_at}
use Rattle.oer_module_syntax.specs.Words.{is_reference}
use Rattle.oer_notation.specs.Grammar.{AreDefinitions, IsType}
use Rattle.oer_notation.specs.Parsing.{parse_all}
use Rattle.oer_notation.specs.Reading.{Known}
use Rattle.oer_same_tokens.specs.Same.{has_odd_space, has_pair, same_tokens}
use Rattle.oer_same_trees.specs.Defining.{AreUnreserved, AreWithin, AssignmentsSay, EndsType, IsPlain, header, in_module}
use Rattle.oer_same_trees.specs.Says.{Keeps, Says, kept}

-- A type of the notation is read as a type of a module, whole, and its tree says the same.
abbrev pub ReadsType : Type 0
ReadsType = (levels : ℕ) (known : List Known) (T : AsnType) (ts : List Token) (ss rest : List Spot) (end : ℕ) (complete : Bool)
    → IsType known T ts → AreUnreserved known → depth T * 2 ≤ levels → Keeps ts ss → EndsType rest
    → (t : Tree) × (type_at levels (record { left = ss ++ rest; end = end; complete = complete })
    ≡ Ok (t, record { left = rest; end = end; complete = complete })) × Says known T t

-- The tokens are read as one module with this name, whose tree says these definitions.
abbrev pub AreRead : ℕ → List ℕ → List Known → State → Type 0
AreRead levels name ks s = (m : Module) × (modules_of levels s ≡ Ok (m ∷ [])) × IsPlain name m × AssignmentsSay [] ks m.assignments

-- Definitions of the notation in a module with a header and nothing else are read so.
abbrev pub ReadsDefinitions : Type 0
ReadsDefinitions = (levels : ℕ) (name : List ℕ) (ks : List Known) (ts : List Token) (s : State) → AreDefinitions [] ks ts
    → AreUnreserved ks → AreWithin levels ks → is_reference name ≡ true → kept s.left ≡ same_tokens (in_module name ts)
    → s.complete ≡ true → AreRead levels name ks s

-- the tokens of a text
abbrev pub lexed : List ℕ → State
lexed bs = record { left = (lex bs).spots; end = (lex bs).end; complete = (lex bs).complete }

-- The text of such a module is read so, too, if it has no space that means something else in modules.
abbrev pub ReadsTexts : Type 0
ReadsTexts = (levels : ℕ) (name : List ℕ) (ks : List Known) (ts : List Token) (bs : List ℕ) → FallsInto bs (in_module name ts)
    → has_odd_space bs ≡ false → AreDefinitions [] ks ts → AreUnreserved ks → AreWithin levels ks → is_reference name ≡ true
    → AreRead levels name ks (lexed bs)

-- What our own parser reads of a text is read so in a module: the text stands between a header and END, on lines of its own.
abbrev pub ReadsParsed : Type 0
ReadsParsed = (levels : ℕ) (name : List ℕ) (ks : List Known) (start bs end : List ℕ) → FallsInto start (header name)
    → parse_all bs ≡ Ok ks → FallsInto end (word (codes "END") ∷ []) → has_odd_space (start ++ 10 ∷ (bs ++ 10 ∷ end)) ≡ false
    → AreUnreserved ks → max_depth * 2 ≤ levels → is_reference name ≡ true → AreRead levels name ks (lexed (start ++ 10 ∷ (bs ++ 10 ∷ end)))

-- In definitions no square bracket stands behind one of its kind, and so in a module that holds nothing else.
abbrev pub BracketsApart : Type 0
BracketsApart = (known ks : List Known) (ts : List Token) → AreDefinitions known ks ts
    → (has_pair ts ≡ false) × ((name : List ℕ) → has_pair (in_module name ts) ≡ false)

-- A tree says one type at most, and so assignments say one list of definitions.
abbrev pub OneType : Type 0
OneType = (known : List Known) (T U : AsnType) (t : Tree) → Says known T t → Says known U t → T ≡ U

abbrev pub OneList : Type 0
OneList = (known ks js : List Known) (found : List Assignment) → AssignmentsSay known ks found → AssignmentsSay known js found → ks ≡ js
