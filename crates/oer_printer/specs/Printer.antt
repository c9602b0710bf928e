-- What a printer has written, and what tokens add to it.
use Rattle.std.specs.Prelude.{◌≡◌, ℕ, Result, OnOk, List, [], ◌∷◌, ◌++◌, Bool, true, false, ◌||◌, if◌then◌else◌, string_bytes}
use Rattle.std.specs.declared.alloc.AllocError.{AllocError}
use Rattle.oer_lexer.specs.Token.{Token, word, number, bits, digits, text, sign}
use Rattle.oer_lexer.specs.declared.token.Sign.{Sign}
use Rattle.oer_lexer.specs.declared.token.Sign.TheVariants.{OpenBrace, CloseBrace, OpenParenthesis, CloseParenthesis, OpenBracket, CloseBracket, Comma, Range, Ellipsis, Assign}
use Rattle.oer_values.specs.ShapeView.{SeenField, SeenAlternative}
use Rattle.oer_literals.specs.Items.{items_of}
use Rattle.oer_printer.specs.Printing.{after_commas, alternative_tokens, component_tokens, is_tight, joined, marker, need_tokens, space_if, token_text, type_tokens}
use Rattle.oer_printer.specs.declared.printer.Edge.{Edge}
use Rattle.oer_printer.specs.declared.printer.Edge.TheVariants as edge
use Rattle.oer_printer.specs.declared.printer.Printer.{Printer}

-- the text, and what its last token was
abbrev pub Written : Type 0
Written = List ℕ × Edge

abbrev pub written : Printer → Written
written p = (string_bytes p.out, p.last)

abbrev pub edge_of_sign : Sign → Edge
edge_of_sign OpenBrace = edge.Opening
edge_of_sign CloseBrace = edge.Closing
edge_of_sign OpenParenthesis = edge.Parenthesis
edge_of_sign CloseParenthesis = edge.Closing
edge_of_sign OpenBracket = edge.Opening
edge_of_sign CloseBracket = edge.Closing
edge_of_sign Comma = edge.Comma
edge_of_sign Range = edge.Other
edge_of_sign Ellipsis = edge.Other
edge_of_sign Assign = edge.Other

abbrev pub edge_of : Token → Edge
edge_of (word w) = if is_tight (word w) then edge.Tight else edge.Word
edge_of (number w) = edge.Value
edge_of (bits w) = edge.Value
edge_of (digits w) = edge.Value
edge_of (text w) = edge.Value
edge_of (sign s) = edge_of_sign s

abbrev pub is_word_edge : Edge → Bool
is_word_edge edge.Tight = true
is_word_edge edge.Word = true
is_word_edge edge.Value = false
is_word_edge edge.Parenthesis = false
is_word_edge edge.Opening = false
is_word_edge edge.Closing = false
is_word_edge edge.Comma = false
is_word_edge edge.Other = false

abbrev pub is_plain_edge : Edge → Bool
is_plain_edge edge.Tight = true
is_plain_edge edge.Word = true
is_plain_edge edge.Value = true
is_plain_edge edge.Parenthesis = false
is_plain_edge edge.Opening = false
is_plain_edge edge.Closing = false
is_plain_edge edge.Comma = false
is_plain_edge edge.Other = false

abbrev pub is_opening_edge : Edge → Bool
is_opening_edge edge.Tight = false
is_opening_edge edge.Word = false
is_opening_edge edge.Value = false
is_opening_edge edge.Parenthesis = false
is_opening_edge edge.Opening = true
is_opening_edge edge.Closing = false
is_opening_edge edge.Comma = false
is_opening_edge edge.Other = false

abbrev pub is_parenthesis_edge : Edge → Bool
is_parenthesis_edge edge.Tight = false
is_parenthesis_edge edge.Word = false
is_parenthesis_edge edge.Value = false
is_parenthesis_edge edge.Parenthesis = true
is_parenthesis_edge edge.Opening = false
is_parenthesis_edge edge.Closing = false
is_parenthesis_edge edge.Comma = false
is_parenthesis_edge edge.Other = false

-- whether a space stands between two tokens
abbrev pub are_apart : Edge → Edge → Bool
are_apart edge.Tight next = is_plain_edge next || is_opening_edge next
are_apart edge.Word next = is_plain_edge next || is_opening_edge next || is_parenthesis_edge next
are_apart edge.Value next = is_plain_edge next
are_apart edge.Parenthesis next = false
are_apart edge.Opening next = false
are_apart edge.Closing next = is_word_edge next
are_apart edge.Comma next = true
are_apart edge.Other next = false

-- one token more
abbrev pub step : Written → Token → Written
step w t = ((w.0 ++ space_if (are_apart w.1 (edge_of t))) ++ token_text t, edge_of t)

-- tokens more
abbrev pub run : Written → List Token → Written
run w [] = w
run w (t ∷ ts) = run (step w t) ts

-- at Ok the printer has put out these tokens
abbrev pub Puts : List Token → Printer → Result (Unit {0}) AllocError → Printer → Type 0
Puts ts old result new = OnOk result (written new ≡ run (written old) ts)

abbrev pub field_part : SeenField → List Token
field_part f = component_tokens f.name (type_tokens f.type) (need_tokens (items_of f.type) f.need)

abbrev pub alternative_part : SeenAlternative → List Token
alternative_part a = alternative_tokens a.name a.tag (type_tokens a.type)

abbrev pub comma_unless : Bool → List Token
comma_unless true = []
comma_unless false = sign Comma ∷ []

-- the marker, behind a comma unless it stands first
abbrev pub marker_behind : Bool → List Token
marker_behind first = comma_unless first ++ marker

-- parts with commas between them, and one before them unless they stand first
abbrev pub joined_from : Bool → List (List Token) → List Token
joined_from true ps = joined ps
joined_from false ps = after_commas ps
