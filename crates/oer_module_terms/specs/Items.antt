-- Reading items from tokens (X.680, 19.1, 20.1 and 22.1): what is read and what is left, or the first fault.
use Rattle.std.specs.Prelude.{List, [], Bool, true, false, not, ◌&&◌, ◌||◌, Option, Some, None, Ok, if◌then◌else◌}
use Rattle.oer_module_lexer.specs.declared.token.Sign.TheVariants.{OpenBrace, CloseBrace, OpenParenthesis, Comma, Ellipsis}
use Rattle.oer_module_syntax.specs.Ranges.{exception_at}
use Rattle.oer_module_syntax.specs.State.{State, Read, ◌>>=◌, place, bump, at_sign, skip_sign, identifier_at}
use Rattle.oer_module_terms.specs.Looks.{series}
use Rattle.oer_module_terms.specs.Trees.{Amount, Item, More, Enumeration}
use Rattle.oer_module_terms.specs.Values.{enclosed_at}
use Rattle.oer_module_terms.specs.declared.item.Numbering.{Numbering}
use Rattle.oer_module_terms.specs.declared.item.Numbering.TheVariants.{Signed, Unsigned, Optional}

abbrev pub some_number_at : Bool → State → Read (Option Amount)
some_number_at signed s = enclosed_at signed s >>= λ n. Ok (Some n.0, n.1)

-- the number in parentheses: of INTEGER, of BIT STRING, and of ENUMERATED, where it may be left out
abbrev pub number_at : Numbering → State → Read (Option Amount)
number_at Signed s = some_number_at true s
number_at Unsigned s = some_number_at false s
number_at Optional s = if at_sign OpenParenthesis s then some_number_at true s else Ok (None, s)

unfoldable pub item_at : Numbering → State → Read Item
item_at k s = do
  name ← identifier_at s
  n ← number_at k name.1
  Ok (record { at = place s; name = name.0; number = n.0 }, n.1)

-- No comma follows; or, in a root, the marker stands behind it.
abbrev pub items_end : Bool → State → Bool
items_end root s = not (at_sign Comma s) || root && at_sign Ellipsis (bump s)

-- items joined by commas
abbrev pub some_items_at : Numbering → Bool → State → Read (List Item)
some_items_at k root s = series (items_end root) (item_at k) (λ r. item_at k (bump r)) s

-- the items of INTEGER (19.1) or BIT STRING (22.1), in braces
unfoldable pub items_at : Numbering → State → Read (List Item)
items_at k s = do
  begun ← skip_sign OpenBrace s
  found ← some_items_at k false begun.1
  ended ← skip_sign CloseBrace found.1
  Ok (found.0, ended.1)

-- behind an exception
abbrev pub later_items_at : State → Read (List Item)
later_items_at s = if at_sign Comma s then some_items_at Optional false (bump s) else Ok ([], s)

-- behind the root: nothing, or a comma, the marker, an exception, and perhaps items
unfoldable pub more_at : State → Read (Option More)
more_at s = if not (at_sign Comma s) then Ok (None, s) else do
  marker ← skip_sign Ellipsis (bump s)
  exception ← exception_at marker.1
  items ← later_items_at exception.1
  Ok (Some (record { exception = exception.0; items = items.0 }), items.1)

-- the items of ENUMERATED, in braces (20.1)
unfoldable pub enumeration_at : State → Read Enumeration
enumeration_at s = do
  begun ← skip_sign OpenBrace s
  root ← some_items_at Optional true begun.1
  more ← more_at root.1
  ended ← skip_sign CloseBrace more.1
  Ok (record { root = root.0; more = more.0 }, ended.1)
