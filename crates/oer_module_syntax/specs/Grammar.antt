-- The grammar of modules (X.680, X.681, X.683): which tokens spell which tree, with a line for each production. `P ▹ Q` are
-- tokens that split into those of P and those of Q behind them. What a tree keeps as tokens stands in the text as these.
-- A tree doesn't keep keywords, signs, the text in a header, braces behind a symbol, and the number of a group.
use Rattle.std.specs.Prelude.{◌≡◌, ℕ, List, [], ◌∷◌, ◌++◌, drop, Bool, true, false, ◌⊎◌, Option, Some, None, Ok}
use Rattle.std.specs.List.{All}
use Rattle.oer_module_lexer.specs.Token.{Token, word, field, number, real, bits, digits, text, sign, Spot}
use Rattle.oer_module_lexer.specs.declared.token.Sign.{Sign}
use Rattle.oer_module_lexer.specs.declared.token.Sign.TheVariants.{OpenBrace, CloseBrace, OpenParenthesis, CloseParenthesis, OpenBracket, CloseBracket, OpenGroup, CloseGroup}
use Rattle.oer_module_lexer.specs.declared.token.Sign.TheVariants.{Less, Comma, Semicolon, Point, Ellipsis, Colon, Hyphen, Assign, Exclamation}
use Rattle.oer_module_syntax.specs.Looks.{is_field}
use Rattle.oer_module_syntax.specs.Matched.{brackets_in, brackets, Closes, Matched}
use Rattle.oer_module_syntax.specs.Modules.{is_end, modules_of}
use Rattle.oer_module_syntax.specs.Ranges.{group_at, starts_sign, is_step, is_any_word, is_amount, is_value_word, ends_prefix}
use Rattle.oer_module_syntax.specs.State.{State, first_of, is_sign, same_sign, is_word}
use Rattle.oer_module_syntax.specs.Tree.{Need, must, may, default, Tree, plain, named, tagged, structure, list_of, selection, instance_of, any_defined_by}
use Rattle.oer_module_syntax.specs.Tree.{Element, marker, group, components_of, component, Elements, no_elements, element}
use Rattle.oer_module_syntax.specs.Tree.{Symbol, Exports, all, these, Import, Body, type_body, class_body, value_body, set_body, Assignment, Module}
use Rattle.oer_module_syntax.specs.Types.{form_of, is_class}
use Rattle.oer_module_syntax.specs.Words.{keyword_text, builtin_first, builtin_second, is_identifier, is_reference, is_reserved}
use Rattle.oer_module_syntax.specs.declared.tree.Mode.{Mode}
use Rattle.oer_module_syntax.specs.declared.tree.Mode.TheVariants.{Unsaid, Implicit, Explicit}
use Rattle.oer_module_syntax.specs.declared.tree.Tags.{Tags}
use Rattle.oer_module_syntax.specs.declared.tree.Tags.TheVariants as tags
use Rattle.oer_module_syntax.specs.declared.tree.Versions.{Versions}
use Rattle.oer_module_syntax.specs.declared.tree.Versions.TheVariants as versions
use Rattle.oer_module_syntax.specs.declared.types.Form.{Form}
use Rattle.oer_module_syntax.specs.declared.types.Form.TheVariants as form
use Rattle.oer_module_syntax.specs.declared.word.Builtin.{Builtin}
use Rattle.oer_module_syntax.specs.declared.word.Keyword.{Keyword}
use Rattle.oer_module_syntax.specs.declared.word.Keyword.TheVariants as kw

-- ---- parts

-- some of P, then the others of Q
pub record Splits (P Q : List Spot → Type 0) (ts : List Spot) : Type 0 where
  pub front : List Spot
  pub behind : List Spot
  pub is : ts ≡ front ++ behind
  pub first : P front
  pub last : Q behind

infixr 5 ◌▹◌
abbrev pub ◌▹◌ : (List Spot → Type 0) → (List Spot → Type 0) → List Spot → Type 0
P ▹ Q = Splits P Q

abbrev pub Nothing : List Spot → Type 0
Nothing ts = ts ≡ []

-- each of these in turn
abbrev pub Each : {A : Type 0} → (A → List Spot → Type 0) → List A → List Spot → Type 0
Each P [] = Nothing
Each P (x ∷ xs) = P x ▹ Each P xs

-- this sign, which begins at a place
abbrev pub SignAt : ℕ → Sign → List Spot → Type 0
SignAt at g ts = ts ≡ record { at = at; token = sign g } ∷ []

abbrev pub ASign : Sign → List Spot → Type 0
ASign g ts = (at : ℕ) × SignAt at g ts

abbrev pub ANumber : List Spot → Type 0
ANumber ts = (at : ℕ) × (w : List ℕ) × (ts ≡ record { at = at; token = number w } ∷ [])

abbrev pub AText : List Spot → Type 0
AText ts = (at : ℕ) × (w : List ℕ) × (ts ≡ record { at = at; token = text w } ∷ [])

-- one or more of these, joined by commas
abbrev pub Listed : {A : Type 0} → (A → List Spot → Type 0) → List A → List Spot → Type 0
Listed P [] ts = ⊥
Listed P (x ∷ xs) ts = (P x ▹ Each (λ y. ASign Comma ▹ P y) xs) ts

-- this word, which begins at a place
abbrev pub WordAt : ℕ → List ℕ → List Spot → Type 0
WordAt at w ts = ts ≡ record { at = at; token = word w } ∷ []

abbrev pub AWord : List ℕ → List Spot → Type 0
AWord w ts = (at : ℕ) × WordAt at w ts

abbrev pub AKeyword : Keyword → List Spot → Type 0
AKeyword k = AWord (keyword_text k)

-- a word that the test allows
abbrev pub NameAt : (List ℕ → Bool) → ℕ → List ℕ → List Spot → Type 0
NameAt allows at w ts = WordAt at w ts × (allows w ≡ true)

-- a word that isn't reserved (12.38)
abbrev pub UnreservedAt : ℕ → List ℕ → List Spot → Type 0
UnreservedAt at w ts = WordAt at w ts × (is_reserved w ≡ false)

abbrev pub AName : (List ℕ → Bool) → List ℕ → List Spot → Type 0
AName allows w ts = (at : ℕ) × NameAt allows at w ts

abbrev pub BeginsAt : ℕ → List Spot → Type 0
BeginsAt at [] = ⊥
BeginsAt at (t ∷ ts) = t.at ≡ at

-- points, each with a word or field behind it
abbrev pub AreSteps : List Spot → Type 0
AreSteps [] = Unit {0}
AreSteps (t ∷ []) = ⊥
AreSteps (t ∷ u ∷ us) = (is_sign Point (Some t.token) ≡ true) × (is_step u.token ≡ true) × AreSteps us

abbrev pub Path : List Spot → List Spot → Type 0
Path path ts = (ts ≡ path) × AreSteps ts

-- the first token is a bracket
abbrev pub BeginsInBracket : List Spot → Type 0
BeginsInBracket [] = ⊥
BeginsInBracket (t ∷ ts) = brackets_in t.token ≡ [] → ⊥

-- the last token is a bracket
abbrev pub EndsInBracket : List Spot → Type 0
EndsInBracket ts = (front : List Spot) × (t : Spot) × (ts ≡ front ++ t ∷ []) × (brackets_in t.token ≡ [] → ⊥)

-- what begins with a bracket and ends with the one that closes it; the brackets between them match
pub record Enclosed (o c : Sign) (ts : List Spot) : Type 0 where
  pub opens : BeginsInBracket ts
  pub closes : EndsInBracket ts
  pub inner : List Sign
  pub pairs : brackets ts ≡ o ∷ (inner ++ (c ∷ []))
  pub matched : Matched inner

-- any number of parts, each in parentheses
pub data InParentheses : List Spot → Type 0 where
  nothing_enclosed : InParentheses []
  one_enclosed : {ts us : List Spot} → Enclosed OpenParenthesis CloseParenthesis ts → InParentheses us → InParentheses (ts ++ us)

-- something in braces, or nothing
abbrev pub MaybeEnclosed : List Spot → Type 0
MaybeEnclosed ts = Nothing ts ⊎ Enclosed OpenBrace CloseBrace ts

-- these tokens, which stand in braces
abbrev pub Braced : List Spot → List Spot → Type 0
Braced kept ts = (ts ≡ kept) × Enclosed OpenBrace CloseBrace ts

-- the same, or nothing
abbrev pub MaybeBraced : List Spot → List Spot → Type 0
MaybeBraced kept ts = (ts ≡ kept) × MaybeEnclosed ts

-- these tokens, which are constraints (49.6)
abbrev pub Constraints : List Spot → List Spot → Type 0
Constraints kept ts = (ts ≡ kept) × InParentheses ts

-- ---- values, which the tree keeps as tokens (17.7; X.681, 14.6)

-- the names of alternatives, each with a colon behind it (29.11)
abbrev pub AreChoices : List Spot → Type 0
AreChoices [] = Unit {0}
AreChoices (t ∷ []) = ⊥
AreChoices (t ∷ u ∷ us) = (is_any_word t.token ≡ true) × (is_sign Colon (Some u.token) ≡ true) × AreChoices us

-- tokens, and groups in brackets; none outside of brackets is a comma, a colon, `::=` or a semicolon
pub data Outside : List Spot → Type 0 where
  nothing_outside : Outside []
  a_token : {t : Spot} {ts : List Spot} → brackets_in t.token ≡ [] → ends_prefix (t ∷ []) ≡ false → Outside ts → Outside (t ∷ ts)
  a_group : {o c : Sign} {ts us : List Spot} → Closes o c → Enclosed o c ts → Outside us → Outside (ts ++ us)

-- a type and a colon, or nothing (X.681, 14.6)
abbrev pub MaybePrefix : List Spot → Type 0
MaybePrefix ts = Nothing ts ⊎ (Outside ▹ ASign Colon) ts

-- a value of one token, of a name with steps, or of a hyphen and an amount
abbrev pub AtomBy : Token → List Spot → Type 0
AtomBy (word w) ts = (is_value_word w ≡ true) × AreSteps ts
AtomBy (field w) ts = ⊥
AtomBy (number w) ts = Nothing ts
AtomBy (real w) ts = Nothing ts
AtomBy (bits w) ts = Nothing ts
AtomBy (digits w) ts = Nothing ts
AtomBy (text w) ts = Nothing ts
AtomBy (sign g) ts = (same_sign Hyphen g ≡ true) × (t : Spot) × (ts ≡ t ∷ []) × (is_amount (Some t.token) ≡ true)

abbrev pub IsAtom : List Spot → Type 0
IsAtom [] = ⊥
IsAtom (t ∷ ts) = AtomBy t.token ts

-- what stands in braces, or an atom, perhaps with actual parameters (X.683, 9.1)
abbrev pub Base : List Spot → Type 0
Base ts = Enclosed OpenBrace CloseBrace ts ⊎ (IsAtom ▹ MaybeEnclosed) ts

abbrev pub SpelledValue : List Spot → List Spot → Type 0
SpelledValue kept ts = (ts ≡ kept) × (AreChoices ▹ MaybePrefix ▹ Base) ts

-- ---- types

-- the words of a type (17.2, 17.3)
abbrev pub SecondWord : Option Keyword → List Spot → Type 0
SecondWord None = Nothing
SecondWord (Some k) = AKeyword k

abbrev pub TypeWords : ℕ → Builtin → List Spot → Type 0
TypeWords at b = WordAt at (builtin_first b) ▹ SecondWord (builtin_second b)

-- what stands in the braces of ENUMERATED (20.1), INTEGER (19.1) and BIT STRING (22.1); no other type has items
abbrev pub Items : Form → List Spot → List Spot → Type 0
Items form.Items items ts = Braced items ts
Items form.MaybeItems items ts = MaybeBraced items ts
Items form.Nothing items ts = (items ≡ []) × Nothing ts
Items form.Components items ts = ⊥
Items form.Alternatives items ts = ⊥

-- the types with elements in braces (25.1, 27.1, 29.1), and whether these are alternatives of a CHOICE
abbrev pub HasElements : Form → Bool → Type 0
HasElements form.Components alternatives = alternatives ≡ false
HasElements form.Alternatives alternatives = alternatives ≡ true
HasElements _ alternatives = ⊥

-- how a tag is applied (31.2)
abbrev pub TagMode : Mode → List Spot → Type 0
TagMode Unsaid = Nothing
TagMode Implicit = AKeyword kw.Implicit
TagMode Explicit = AKeyword kw.Explicit

-- a tag, which begins at a place (31.2)
abbrev pub TagAt : ℕ → List Spot → List Spot → Type 0
TagAt at tag ts = (ts ≡ tag) × Enclosed OpenBracket CloseBracket ts × (starts_sign OpenBracket ts ≡ true) × BeginsAt at ts

-- before OF: SIZE and a constraint, a constraint alone, or nothing (49: TypeWithConstraint)
abbrev pub Size : Bool → List Spot → List Spot → Type 0
Size true size = AKeyword kw.Size ▹ Constraints size
Size false size = Constraints size

-- the name of the elements, if they have one (26.1, 28.1)
abbrev pub ItemName : Option (List ℕ) → List Spot → Type 0
ItemName None = Nothing
ItemName (Some w) = AName is_identifier w

-- a component is optional or has a default (25.1), and an alternative is neither (29.1)
abbrev pub IsNeed : Bool → Need → List Spot → Type 0
IsNeed alternatives must ts = Nothing ts
IsNeed alternatives may ts = (alternatives ≡ false) × AKeyword kw.Optional ts
IsNeed alternatives (default value) ts = (alternatives ≡ false) × (AKeyword kw.Default ▹ SpelledValue value) ts

-- an exception (53.1)
abbrev pub Exception : List Spot → List Spot → Type 0
Exception exception ts = ((exception ≡ []) × Nothing ts) ⊎ (ASign Exclamation ▹ SpelledValue exception) ts

-- the number of a group, if it has one (25.1)
abbrev pub Version : List Spot → Type 0
Version ts = Nothing ts ⊎ (ANumber ▹ ASign Colon) ts

-- A type's name, with the steps behind it: of a type or class (14.1; X.681, 14), or of an object and its field (X.681, 15).
abbrev pub NamesType : List ℕ → List Spot → Type 0
NamesType w path =
    (is_class w ≡ true) ⊎ ((is_identifier w ≡ true) × (starts_sign Point path ≡ true) × (is_field (first_of (drop 1 path)) ≡ true))

abbrev mutual
  -- a type (17.1)
  pub SpelledType : Tree → List Spot → Type 0
  -- words, perhaps items, and constraints (17.2, 17.3)
  SpelledType (plain at b items constraints) = TypeWords at b ▹ Items (form_of b) items ▹ Constraints constraints
  -- a name, perhaps actual parameters (X.683, 9.1), and constraints
  SpelledType (named at name path parameters constraints) = λ ts. NamesType name path
      × (WordAt at name ▹ Path path ▹ MaybeBraced parameters ▹ Constraints constraints) ts
  -- a tag and a type (31.1)
  SpelledType (tagged at tag mode inner) = TagAt at tag ▹ TagMode mode ▹ SpelledType inner
  -- SEQUENCE (25.1), SET (27.1) or CHOICE (29.1)
  SpelledType (structure at b elements constraints) = λ ts. (alternatives : Bool) × HasElements (form_of b) alternatives
      × (WordAt at (builtin_first b) ▹ ASign OpenBrace ▹ MaybeElements alternatives elements ▹ ASign CloseBrace ▹ Constraints constraints) ts
  -- SEQUENCE OF (26.1) or SET OF (28.1)
  SpelledType (list_of at b sized size name item) = λ ts. (form_of b ≡ form.Components)
      × (WordAt at (builtin_first b) ▹ Size sized size ▹ AKeyword kw.Of ▹ ItemName name ▹ SpelledType item) ts
  -- the type of an alternative (30.1)
  SpelledType (selection at name inner) = NameAt is_identifier at name ▹ ASign Less ▹ SpelledType inner
  -- INSTANCE OF (X.681, annex C)
  SpelledType (instance_of at class path constraints) =
      WordAt at (keyword_text kw.Instance) ▹ AKeyword kw.Of ▹ AName is_class class ▹ Path path ▹ Constraints constraints
  -- ANY DEFINED BY (X.208, 28)
  SpelledType (any_defined_by at by) = WordAt at (keyword_text kw.Any) ▹ AKeyword kw.Defined ▹ AKeyword kw.By ▹ AName is_identifier by

  -- What stands between the commas (25.1, 29.1), of a CHOICE or not, in a group or not. How many markers there may be, and on
  -- which side of them a group, isn't asked here.
  pub SpelledElement : Bool → Bool → Element → List Spot → Type 0
  SpelledElement alternatives grouped (marker at exception) = λ ts. (grouped ≡ false) × (SignAt at Ellipsis ▹ Exception exception) ts
  SpelledElement alternatives grouped (group at elements) = λ ts. (grouped ≡ false)
      × (SignAt at OpenGroup ▹ Version ▹ SpelledElements alternatives true elements ▹ ASign CloseGroup) ts
  SpelledElement alternatives grouped (components_of at from) = λ ts. (alternatives ≡ false)
      × (WordAt at (keyword_text kw.Components) ▹ AKeyword kw.Of ▹ SpelledType from) ts
  SpelledElement alternatives grouped (component at name from need) = NameAt is_identifier at name ▹ SpelledType from ▹ IsNeed alternatives need

  -- one or more, joined by commas
  pub SpelledElements : Bool → Bool → Elements → List Spot → Type 0
  SpelledElements alternatives grouped no_elements = λ ts. ⊥
  SpelledElements alternatives grouped (element e es) = SpelledElement alternatives grouped e ▹ MoreElements alternatives grouped es

  -- each behind a comma
  pub MoreElements : Bool → Bool → Elements → List Spot → Type 0
  MoreElements alternatives grouped no_elements = Nothing
  MoreElements alternatives grouped (element e es) = (ASign Comma ▹ SpelledElement alternatives grouped e) ▹ MoreElements alternatives grouped es

  -- none or more
  pub MaybeElements : Bool → Elements → List Spot → Type 0
  MaybeElements alternatives no_elements = Nothing
  MaybeElements alternatives (element e es) = SpelledElement alternatives false e ▹ MoreElements alternatives false es

-- ---- EXPORTS and IMPORTS

-- a name, perhaps with braces behind it (13.1)
abbrev pub SpelledSymbol : Symbol → List Spot → Type 0
SpelledSymbol s = UnreservedAt s.at s.name ▹ MaybeEnclosed

-- none or more, joined by commas
abbrev pub Symbols : List Symbol → List Spot → Type 0
Symbols [] = Nothing
Symbols (x ∷ xs) = Listed SpelledSymbol (x ∷ xs)

abbrev pub SpelledExports : Exports → List Spot → Type 0
SpelledExports all ts = Nothing ts ⊎ (AKeyword kw.Exports ▹ AKeyword kw.All ▹ ASign Semicolon) ts
SpelledExports (these symbols) ts = (AKeyword kw.Exports ▹ Symbols symbols ▹ ASign Semicolon) ts

-- which versions of a module (13.1: SelectionOption)
abbrev pub SpelledVersions : Versions → List Spot → Type 0
SpelledVersions versions.Same = Nothing
SpelledVersions versions.Successors = AKeyword kw.With ▹ AKeyword kw.Successors
SpelledVersions versions.Descendants = AKeyword kw.With ▹ AKeyword kw.Descendants

-- the identifier of a module (13.1: AssignedIdentifier): braces, the name of a value, or nothing
abbrev pub AssignedIdentifier : List Spot → List Spot → Type 0
AssignedIdentifier id ts = MaybeBraced id ts ⊎ ((ts ≡ id) × (w : List ℕ) × (path : List Spot) × (AWord w ▹ Path path) ts)

-- SymbolsFromModule (13.1)
abbrev pub SpelledImport : Import → List Spot → Type 0
SpelledImport i = Listed SpelledSymbol i.symbols ▹ AKeyword kw.From ▹ NameAt is_reference i.at i.from ▹ AssignedIdentifier i.id ▹ SpelledVersions i.versions

abbrev pub SpelledImports : List Import → List Spot → Type 0
SpelledImports imports ts = ((imports ≡ []) × Nothing ts) ⊎ (AKeyword kw.Imports ▹ Each SpelledImport imports ▹ ASign Semicolon) ts

-- ---- assignments

-- the syntax of a class, if it has one (X.681, 10.5)
abbrev pub ClassSyntax : List Spot → List Spot → Type 0
ClassSyntax syntax ts = ((syntax ≡ []) × Nothing ts) ⊎ (AKeyword kw.With ▹ AKeyword kw.Syntax ▹ Braced syntax) ts

-- What stands behind the name of a type or class, of a set, or of a value. A name with a small letter is of a value.
abbrev pub SpelledBody : Bool → Body → List Spot → Type 0
SpelledBody small (type_body t) ts = (small ≡ false) × (ASign Assign ▹ SpelledType t) ts
SpelledBody small (class_body fields syntax) ts = (small ≡ false) × (ASign Assign ▹ AKeyword kw.Class ▹ Braced fields ▹ ClassSyntax syntax) ts
SpelledBody small (value_body governor value) ts = (small ≡ true) × (SpelledType governor ▹ ASign Assign ▹ SpelledValue value) ts
SpelledBody small (set_body governor set) ts = (small ≡ false) × (SpelledType governor ▹ ASign Assign ▹ Braced set) ts

-- a name, its parameters, and what it stands for (13.1; X.683, 8.1)
abbrev pub SpelledAssignment : Assignment → List Spot → Type 0
SpelledAssignment a = UnreservedAt a.at a.name ▹ MaybeBraced a.parameters ▹ SpelledBody (is_identifier a.name) a.body

-- ---- modules

-- what instructions in brackets are for (13.1: EncodingReferenceDefault)
abbrev pub Instructions : Option (List ℕ) → List Spot → Type 0
Instructions None = Nothing
Instructions (Some w) = AWord w ▹ AKeyword kw.Instructions

-- how tags are applied (13.2)
abbrev pub TagDefault : Tags → List Spot → Type 0
TagDefault tags.Explicit ts = Nothing ts ⊎ (AKeyword kw.Explicit ▹ AKeyword kw.Tags) ts
TagDefault tags.Implicit ts = (AKeyword kw.Implicit ▹ AKeyword kw.Tags) ts
TagDefault tags.Automatic ts = (AKeyword kw.Automatic ▹ AKeyword kw.Tags) ts

-- whether extensibility is implied (13.4)
abbrev pub ExtensionDefault : Bool → List Spot → Type 0
ExtensionDefault false = Nothing
ExtensionDefault true = AKeyword kw.Extensibility ▹ AKeyword kw.Implied

-- the name of a module in the tree of the world, which the tree of tokens doesn't keep (13.1)
abbrev pub MaybeText : List Spot → Type 0
MaybeText ts = Nothing ts ⊎ AText ts

-- The sections for encodings, if there are any: they begin with ENCODING-CONTROL, and no word END is among their tokens (54.1).
abbrev pub Control : List Spot → List Spot → Type 0
Control control ts =
    (ts ≡ control) × (Nothing ts ⊎ (is_word (keyword_text kw.EncodingControl) (first_of ts) ≡ true)) × All (λ t. is_end t.token ≡ false) ts

-- up to BEGIN (13.1)
abbrev pub Header : ℕ → List ℕ → List Spot → Option (List ℕ) → Tags → Bool → List Spot → Type 0
Header at name id instructions tags extensible =
    NameAt is_reference at name ▹ MaybeBraced id ▹ MaybeText ▹ AKeyword kw.Definitions ▹ Instructions instructions ▹ TagDefault tags
    ▹ ExtensionDefault extensible ▹ ASign Assign ▹ AKeyword kw.Begin

-- a module (13.1)
abbrev pub SpelledModule : Module → List Spot → Type 0
SpelledModule m =
    Header m.at m.name m.id m.instructions m.tags m.extensible ▹ SpelledExports m.exports ▹ SpelledImports m.imports
    ▹ Each SpelledAssignment m.assignments ▹ Control m.control ▹ AKeyword kw.End

-- one module or more, and no token beside theirs
abbrev pub SpelledModules : List Module → List Spot → Type 0
SpelledModules [] ts = ⊥
SpelledModules (m ∷ ms) ts = Each SpelledModule (m ∷ ms) ts

-- The modules that are read of a text are spelled by its tokens, by all of them, and the text goes on behind none.
abbrev pub ModulesSound : Type 0
ModulesSound = (levels : ℕ) (s : State) (ms : List Module) → modules_of levels s ≡ Ok ms → SpelledModules ms s.left × (s.complete ≡ true)

-- What stands in brackets is taken whole, and nothing behind it.
abbrev pub GroupsWhole : Type 0
GroupsWhole =
    (o c : Sign) (s : State) (rest ts : List Spot) → Closes o c → starts_sign o ts ≡ true → Enclosed o c ts → s.left ≡ ts ++ rest
    → group_at o s ≡ Ok (ts, record { left = rest; end = s.end; complete = s.complete })
