-- Reading modules from tokens (X.680, clauses 13 and 16): what is read and what is left, or the first fault.
use Rattle.std.specs.Prelude.{ℕ, zero, suc, ◌+◌, List, [], ◌∷◌, ◌++◌, length, take, Bool, true, false, not, ◌&&◌, ◌||◌, Option, Some, None, Result, Ok, Err, if◌then◌else◌}
use Rattle.oer_module_lexer.specs.Token.{Token, word, text, Spot}
use Rattle.oer_module_lexer.specs.declared.token.Sign.TheVariants.{OpenBrace, Comma, Semicolon, Assign}
use Rattle.oer_module_syntax.specs.Looks.{names_value}
use Rattle.oer_module_syntax.specs.Ranges.{front_of, group_at, pairs_len, value_at}
use Rattle.oer_module_syntax.specs.State.{State, Read, ◌>>=◌, first, expected, fault, end_fault, place, past, bump, at_sign, at_keyword, is_word, skip_sign, skip_keyword, reference_at}
use Rattle.oer_module_syntax.specs.Tree.{Symbol, Exports, Import, Body, Assignment, Module, all, these, type_body, class_body, value_body, set_body}
use Rattle.oer_module_syntax.specs.Types.{listed, type_at}
use Rattle.oer_module_syntax.specs.Words.{is_identifier, is_reserved, keyword_text}
use Rattle.oer_module_syntax.specs.declared.fault.Fault.{Fault}
use Rattle.oer_module_syntax.specs.declared.fault.Sought.TheVariants as sought
use Rattle.oer_module_syntax.specs.declared.fault.Why.TheVariants as why
use Rattle.oer_module_syntax.specs.declared.range.Pair.TheVariants.{Step}
use Rattle.oer_module_syntax.specs.declared.tree.Tags.{Tags}
use Rattle.oer_module_syntax.specs.declared.tree.Tags.TheVariants as tags
use Rattle.oer_module_syntax.specs.declared.tree.Versions.{Versions}
use Rattle.oer_module_syntax.specs.declared.tree.Versions.TheVariants as versions
use Rattle.oer_module_syntax.specs.declared.word.Keyword.TheVariants as kw

-- one after another, up to where it is done; the number bounds the turns, and the count of the tokens is always enough
unfoldable pub many : {A : Type 0} → (State → Bool) → (State → Read A) → ℕ → List A → State → Read (List A)
many done one zero found s = expected sought.Closing s
many done one (suc n) found s = if done s then Ok (found, s) else (one s >>= λ x. many done one n (found ++ x.0 ∷ []) x.1)

-- all up to where it is done
abbrev pub all_of : {A : Type 0} → (State → Bool) → (State → Read A) → State → Read (List A)
all_of done one s = many done one (suc (length s.left)) [] s

-- ---- the header

abbrev pub is_text : Option Token → Bool
is_text (Some (text w)) = true
is_text _ = false

-- past the name of a module in the tree of the world, if it is there (13.1)
abbrev pub past_text : State → State
past_text s = if is_text (first s) then bump s else s

-- the word TAGS behind how they are applied
unfoldable pub tags_behind : Tags → State → Read Tags
tags_behind t s = skip_keyword kw.Tags s >>= λ r. Ok (t, r.1)

-- how tags are applied (13.2)
unfoldable pub tags_at : State → Read Tags
tags_at s =
    if at_keyword kw.Explicit s then tags_behind tags.Explicit (bump s)
    else if at_keyword kw.Implicit s then tags_behind tags.Implicit (bump s)
    else if at_keyword kw.Automatic s then tags_behind tags.Automatic (bump s)
    else Ok (tags.Explicit, s)

-- whether extensibility is implied (13.4)
unfoldable pub extensible_at : State → Read Bool
extensible_at s = if at_keyword kw.Extensibility s then (skip_keyword kw.Implied (bump s) >>= λ r. Ok (true, r.1)) else Ok (false, s)

-- what instructions in brackets are for (13.1: EncodingReferenceDefault)
abbrev pub instructions_by : Option Token → State → Option (List ℕ) × State
instructions_by (Some (word w)) s = if at_keyword kw.Instructions (bump s) then (Some w, past 2 s) else (None, s)
instructions_by _ s = (None, s)

abbrev pub instructions_at : State → Option (List ℕ) × State
instructions_at s = instructions_by (first s) s

-- ---- EXPORTS and IMPORTS

-- a word that isn't reserved; braces may follow it (13.1)
abbrev pub symbol_by : Option Token → State → Read Symbol
symbol_by (Some (word w)) s =
    if is_reserved w then expected sought.Symbol s else (group_at OpenBrace (bump s) >>= λ g. Ok (record { at = place s; name = w }, g.1))
symbol_by _ s = expected sought.Symbol s

unfoldable pub symbol_at : State → Read Symbol
symbol_at s = symbol_by (first s) s

-- behind EXPORTS, up to the semicolon
unfoldable pub exported_at : State → Read Exports
exported_at s =
    if at_sign Semicolon s then Ok (these [], s)
    else if at_keyword kw.All s then Ok (all, bump s)
    else (listed symbol_at s >>= λ x. Ok (these x.0, x.1))

unfoldable pub exports_at : State → Read Exports
exports_at s = if at_keyword kw.Exports s then (exported_at (bump s) >>= λ x. skip_sign Semicolon x.1 >>= λ r. Ok (x.0, r.1)) else Ok (all, s)

-- A list of symbols goes on behind its first, or that has braces: what stands before isn't the identifier of a module (13.1).
abbrev pub goes_on_symbols : State → Bool
goes_on_symbols s = at_sign Comma s || at_keyword kw.From s || at_sign OpenBrace s

-- how many tokens the name of a value has
abbrev pub name_len : State → ℕ
name_len s = 1 + pairs_len Step (bump s).left

-- the name of a value, if it is next and what stands behind it belongs to no list of symbols
abbrev pub id_name_by : Option Token → State → Option (List Spot) × State
id_name_by (Some (word w)) s =
    if names_value w s && not (goes_on_symbols (past (name_len s) s)) then (Some (take (name_len s) s.left), past (name_len s) s)
    else (None, s)
id_name_by _ s = (None, s)

abbrev pub id_name_at : State → Option (List Spot) × State
id_name_at s = id_name_by (first s) s

abbrev pub id_by : Option (List Spot) × State → Read (List Spot)
id_by (Some name, s) = Ok (name, s)
id_by (None, s) = group_at OpenBrace s

-- the identifier of a module, if it is there: the name of a value, or in braces (13.1: AssignedIdentifier)
unfoldable pub id_at : State → Read (List Spot)
id_at s = id_by (id_name_at s)

-- behind WITH
unfoldable pub versions_behind : State → Read Versions
versions_behind s =
    if at_keyword kw.Successors s then Ok (versions.Successors, bump s)
    else (skip_keyword kw.Descendants s >>= λ r. Ok (versions.Descendants, r.1))

-- which versions of a module names may come from (13.1: SelectionOption)
unfoldable pub versions_at : State → Read Versions
versions_at s = if at_keyword kw.With s then versions_behind (bump s) else Ok (versions.Same, s)

-- names, FROM, and a module
unfoldable pub import_at : State → Read Import
import_at s = do
  symbols ← listed symbol_at s
  behind ← skip_keyword kw.From symbols.1
  from ← reference_at sought.Reference behind.1
  id ← id_at from.1
  versions ← versions_at id.1
  Ok (record { symbols = symbols.0; at = place behind.1; from = from.0; id = id.0; versions = versions.0 }, versions.1)

unfoldable pub imports_at : State → Read (List Import)
imports_at s = if at_keyword kw.Imports s then (all_of (at_sign Semicolon) import_at (bump s) >>= λ x. Ok (x.0, bump x.1)) else Ok ([], s)

-- ---- assignments

-- assignments end here
abbrev pub ends_assignments : State → Bool
ends_assignments s = at_keyword kw.End s || at_keyword kw.EncodingControl s

abbrev pub is_end : Token → Bool
is_end t = is_word (keyword_text kw.End) (Some t)

-- how many tokens stand before END (54.1)
unfoldable pub control_len : List Spot → ℕ
control_len [] = 0
control_len (t ∷ ts) = if is_end t.token then 0 else suc (control_len ts)

-- what stands in braces, with these
abbrev pub braced_at : State → Read (List Spot)
braced_at s = if at_sign OpenBrace s then group_at OpenBrace s else expected (sought.Sign OpenBrace) s

-- the syntax of a class, if it has one (X.681, 10.5)
unfoldable pub syntax_at : State → Read (List Spot)
syntax_at s = if at_keyword kw.With s then (skip_keyword kw.Syntax (bump s) >>= λ r. braced_at r.1) else Ok ([], s)

-- behind CLASS (X.681, 9.3)
unfoldable pub class_at : State → Read Body
class_at s = do
  fields ← braced_at s
  syntax ← syntax_at fields.1
  Ok (class_body fields.0 syntax.0, syntax.1)

module _ (levels : ℕ) where
  -- behind `::=`, where no governor stands before it: a class (X.681, 9.1) or a type (16.1)
  unfoldable pub defined_at : State → Read Body
  defined_at s = if at_keyword kw.Class s then class_at (bump s) else (type_at levels s >>= λ t. Ok (type_body t.0, t.1))

  -- a type or class and a set (16.6; X.681, 12.1)
  unfoldable pub set_at : State → Read Body
  set_at s = do
    governor ← type_at levels s
    assign ← skip_sign Assign governor.1
    set ← braced_at assign.1
    Ok (set_body governor.0 set.0, set.1)

  -- a type or class and a value or object (16.2; X.681, 11.1)
  unfoldable pub valued_at : State → Read Body
  valued_at s = do
    governor ← type_at levels s
    assign ← skip_sign Assign governor.1
    value ← value_at assign.1
    Ok (value_body governor.0 value.0, value.1)

  -- behind a name, which is small or not, and its parameters
  unfoldable pub body_at : Bool → State → Read Body
  body_at small s = if small then valued_at s else if at_sign Assign s then defined_at (bump s) else set_at s

  -- behind the name at a place
  unfoldable pub assigned_at : ℕ → List ℕ → State → Read Assignment
  assigned_at at w s = do
    parameters ← group_at OpenBrace s
    body ← body_at (is_identifier w) parameters.1
    Ok (record { at = at; name = w; parameters = parameters.0; body = body.0 }, body.1)

  abbrev pub assignment_by : Option Token → State → Read Assignment
  assignment_by (Some (word w)) s = if is_reserved w then expected sought.Symbol s else assigned_at (place s) w (bump s)
  assignment_by _ s = expected sought.Symbol s

  -- a name and what it stands for (13.1)
  unfoldable pub assignment_at : State → Read Assignment
  assignment_at s = assignment_by (first s) s

  -- ---- modules

  -- behind BEGIN, with what the header says
  unfoldable pub content_at : ℕ → List ℕ → List Spot → Option (List ℕ) → Tags → Bool → State → Read Module
  content_at at name id instructions tags extensible s = do
    exports ← exports_at s
    imports ← imports_at exports.1
    assignments ← all_of ends_assignments assignment_at imports.1
    control ← front_of (control_len assignments.1.left) assignments.1
    end ← skip_keyword kw.End control.1
    Ok (
      record {
        at = at;
        name = name;
        id = id;
        instructions = instructions;
        tags = tags;
        extensible = extensible;
        exports = exports.0;
        imports = imports.0;
        assignments = assignments.0;
        control = control.0;
      },
      end.1,
    )

  -- a module (13.1)
  unfoldable pub module_at : State → Read Module
  module_at s = do
    name ← reference_at sought.Reference s
    id ← group_at OpenBrace name.1
    definitions ← skip_keyword kw.Definitions (past_text id.1)
    tags ← tags_at (instructions_at definitions.1).1
    extensible ← extensible_at tags.1
    assign ← skip_sign Assign extensible.1
    begin ← skip_keyword kw.Begin assign.1
    content_at (place s) name.0 id.0 (instructions_at definitions.1).0 tags.0 extensible.0 begin.1

abbrev pub none_left : List Spot → Bool
none_left [] = true
none_left (t ∷ ts) = false

abbrev pub is_last : State → Bool
is_last s = none_left s.left

-- the text's end, or the fault there
abbrev pub ended : List Module → State → Result (List Module) Fault
ended ms s = if s.complete then Ok ms else Err (end_fault why.Token s)

-- the modules of a text, in which so many levels of types may nest, or the first fault
unfoldable pub modules_of : ℕ → State → Result (List Module) Fault
modules_of levels s = module_at levels s >>= λ m. many is_last (module_at levels) (suc (length m.1.left)) (m.0 ∷ []) m.1 >>= λ ms. ended ms.0 ms.1
