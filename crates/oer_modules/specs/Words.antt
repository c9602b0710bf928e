-- What is told of a refusal, in words.
use Rattle.std.specs.Prelude.{ℕ, List, [], ◌++◌, length, take, nat_lt, ◌||◌, Bool, Option, Some, None, codes, if◌then◌else◌}
use Rattle.std.specs.Fmt.{decimal}
use Rattle.std.specs.List.{before_first}
use Rattle.oer_module_lexer.specs.Token.{Token, word, field, number, real, bits, digits, text, sign}
use Rattle.oer_module_lexer.specs.declared.token.Sign.{Sign}
use Rattle.oer_module_lexer.specs.declared.token.Sign.TheVariants.{OpenBrace, CloseBrace, OpenParenthesis, CloseParenthesis, OpenBracket, CloseBracket, OpenGroup, CloseGroup, Less, Greater, Comma, Semicolon, Point, Range, Ellipsis, Colon, Assign, Equals, Hyphen, At, Bar, Exclamation, Caret}
use Rattle.oer_module_limits.specs.Errors as limit
use Rattle.oer_module_names.specs.declared.error.Why.{Why as NameWhy}
use Rattle.oer_module_names.specs.declared.error.Why.TheVariants as name
use Rattle.oer_module_syntax.specs.Words.{keyword_text}
use Rattle.oer_module_syntax.specs.declared.fault.Sought.{Sought}
use Rattle.oer_module_syntax.specs.declared.fault.Sought.TheVariants as sought
use Rattle.oer_module_syntax.specs.declared.fault.Why.{Why as SyntaxWhy}
use Rattle.oer_module_syntax.specs.declared.fault.Why.TheVariants as fault
use Rattle.oer_module_text.specs.Errors.{Why, misnumbered, no_such_value, not_taken, tag_number, too_deep, too_long, too_many_parts, too_wide, unlimited, unresolved}
use Rattle.oer_module_text.specs.declared.error.Part.{Part}
use Rattle.oer_module_text.specs.declared.error.Part.TheVariants as part
use Rattle.oer_module_values.specs.Errors as told
use Rattle.oer_modules.specs.Places.{Point as Place}
use Rattle.oer_modules.specs.Refusals.{Refusal}

abbrev pub Text : Type 0
Text = List ℕ

-- ---- names and tokens

-- a byte that isn't a printable character of ASCII
abbrev pub is_hidden : ℕ → Bool
is_hidden c = nat_lt c 32 || nat_lt 126 c

-- the front of a name, as far as it is printable, but 60 characters at most
unfoldable pub front : Text → Text
front w = before_first is_hidden (take 60 w)

-- a name, with `..` behind it where it is cut
abbrev pub dots : Text → Text → Text
dots shown w = if nat_lt (length shown) (length w) then codes ".." else []

abbrev pub plain : Text → Text
plain w = front w ++ dots (front w) w

abbrev pub quoted : Text → Text
quoted w = codes "\"" ++ w ++ codes "\""

abbrev pub sign_text : Sign → Text
sign_text OpenBrace = codes "{"
sign_text CloseBrace = codes "}"
sign_text OpenParenthesis = codes "("
sign_text CloseParenthesis = codes ")"
sign_text OpenBracket = codes "["
sign_text CloseBracket = codes "]"
sign_text OpenGroup = codes "[["
sign_text CloseGroup = codes "]]"
sign_text Less = codes "<"
sign_text Greater = codes ">"
sign_text Comma = codes ","
sign_text Semicolon = codes ";"
sign_text Point = codes "."
sign_text Range = codes ".."
sign_text Ellipsis = codes "..."
sign_text Colon = codes ":"
sign_text Assign = codes "::="
sign_text Equals = codes "="
sign_text Hyphen = codes "-"
sign_text At = codes "@"
sign_text Bar = codes "|"
sign_text Exclamation = codes "!"
sign_text Caret = codes "^"

-- what stands in a text: a token, or its end
abbrev pub found_words : Option Token → Text
found_words (Some (word w)) = quoted (plain w)
found_words (Some (field w)) = quoted (plain w)
found_words (Some (number w)) = quoted (plain w)
found_words (Some (real w)) = quoted (plain w)
found_words (Some (bits w)) = codes "bits in quotes"
found_words (Some (digits w)) = codes "digits in quotes"
found_words (Some (text w)) = codes "a text in quotes"
found_words (Some (sign s)) = quoted (sign_text s)
found_words None = codes "the end of the text"

-- what the grammar has in place of a token
abbrev pub sought_words : Sought → Text
sought_words (sought.Sign s) = quoted (sign_text s)
sought_words (sought.Keyword k) = keyword_text k
sought_words sought.Type = codes "a type"
sought_words sought.Value = codes "a value"
sought_words sought.Identifier = codes "a name that begins with a small letter"
sought_words sought.Reference = codes "a name that begins with a capital letter"
sought_words sought.Symbol = codes "a name"
sought_words sought.Closing = codes "the sign that closes what this opens"

-- ---- reasons that are the same wherever they show

abbrev pub told_words : told.Why → Text
told_words (told.unread w) = codes "this can't be read"
told_words (told.unnamed e) = codes "the name stands for nothing"
told_words told.circular = codes "the references go round, or are more than 255 one after another"
told_words told.not_a_type = codes "this isn't a type"
told_words told.not_a_value = codes "this isn't a value"
told_words told.not_a_number = codes "this isn't the value of a number"
told_words told.unnumbered = codes "this item has no number in parentheses"
told_words told.unsettled = codes "this depends on parameters, or on a field of a class"
told_words told.too_large = codes "the number doesn't fit 128 bits"

abbrev pub limit_words : limit.Why → Text
limit_words (limit.unresolved w) = told_words w
limit_words limit.too_deep = codes "sets nest too deep"
limit_words limit.inapplicable = codes "the type has no such constraint"
limit_words limit.not_a_number = codes "a bound isn't a whole number"
limit_words limit.open_end = codes "< at MIN or MAX isn't read"
limit_words limit.too_large = codes "a bound is at the end of 128 bits"
limit_words limit.value_set = codes "a set of values by its name isn't read"
limit_words limit.contained = codes "a contained type isn't read"
limit_words limit.empty = codes "the constraints allow no value"
limit_words limit.differs = codes "readers differ on this constraint"

abbrev pub part_words : Part → Text
part_words part.Word = codes "this type isn't taken"
part_words part.Set = codes "SET isn't taken"
part_words part.SetOf = codes "SET OF isn't taken"
part_words part.Group = codes "[[ ]] isn't taken"
part_words part.SecondMarker = codes "a second ... isn't taken"
part_words part.Implied = codes "EXTENSIBILITY IMPLIED isn't taken"
part_words part.ComponentsOf = codes "COMPONENTS OF isn't taken"
part_words part.Parameters = codes "parameters aren't taken"
part_words part.Field = codes "a field that isn't a type's isn't taken"
part_words part.Selection = codes "the type of an alternative isn't taken"
part_words part.InstanceOf = codes "INSTANCE OF isn't taken"
part_words part.AnyDefinedBy = codes "ANY DEFINED BY isn't taken"
part_words part.NamedBits = codes "named bits without a fixed SIZE aren't taken"
part_words part.AddedDefault = codes "DEFAULT behind ... isn't taken"
part_words part.Value = codes "this default isn't taken"
part_words part.Untagged = codes "a CHOICE without a tag as alternative isn't taken"
part_words part.Instructions = codes "instructions in brackets aren't taken"

-- ---- the line of a refusal

-- a place before what is said of it
abbrev pub place_words : Option Place → Text
place_words None = []
place_words (Some p) = codes "text " ++ decimal p.text ++ codes ", line " ++ decimal p.line ++ codes ", column " ++ decimal p.column ++ codes ": "

-- the token that shows a reason, if there is one
abbrev pub token_words : Option Token → Text
token_words None = []
token_words (Some t) = codes ", at " ++ found_words (Some t)

abbrev pub token_in : Option Place → Option Token
token_in None = None
token_in (Some p) = p.token

-- the name of two modules that assign what was asked for, where they are known
abbrev pub both_words : Text → Option (Text × Text) → Text
both_words w None = codes "two modules assign " ++ w
both_words w (Some x) = codes "two modules assign " ++ w ++ codes ": " ++ plain x.0 ++ codes " and " ++ plain x.1

abbrev pub missing_words : Text → Option Place → Text
missing_words w None = codes "no module assigns " ++ w
missing_words w (Some p) = w ++ codes " is neither assigned nor imported here"

module _ (r : Refusal) where
  -- words, and the token that shows the reason
  abbrev pub with_token : Text → Text
  with_token ws = ws ++ token_words (token_in r.point)

  -- a name that stands for nothing
  abbrev pub name_words : NameWhy → Text → Text
  name_words name.Missing w = missing_words w r.point
  name_words name.NoModule w = codes "no module has the name " ++ w
  name_words name.NotImported w = codes "nothing is imported from " ++ w ++ codes " here"
  name_words name.OtherVersion w = codes "the import asks for another version of " ++ w
  name_words name.NotExported w = codes "the module doesn't export " ++ w
  name_words name.Circular w = codes "the imports of " ++ w ++ codes " go round"
  name_words (name.AssignedTwice a b) w = codes "the module assigns " ++ w ++ codes " twice"
  name_words (name.ImportedTwice a b) w = w ++ codes " is imported from two modules"
  name_words (name.ModuleTwice a b) w = codes "two modules have the name " ++ w
  name_words (name.InTwoModules a b) w = both_words w r.modules

  -- tokens that can't be read
  abbrev pub fault_words : SyntaxWhy → Text
  fault_words fault.Memory = codes "out of memory"
  fault_words fault.Token = codes "no token begins here, or it has no end"
  fault_words fault.TooDeep = with_token (codes "types or values nest too deep")
  fault_words (fault.Expected s) = codes "expected " ++ sought_words s ++ codes ", found " ++ found_words (token_in r.point)

  -- a reference that stands for nothing
  abbrev pub reference_words : told.Why → Text
  reference_words (told.unread w) = fault_words w
  reference_words (told.unnamed e) = name_words e.why (plain e.name)
  reference_words w = with_token (told_words w)

  abbrev pub reason_words : Why → Text
  reason_words (unresolved w) = reference_words w
  reason_words (unlimited w) = with_token (limit_words w)
  reason_words (not_taken p) = with_token (part_words p)
  reason_words misnumbered = with_token (codes "this item's number is taken, or below one before it, or too large")
  reason_words tag_number = with_token (codes "the number of a tag isn't between 0 and 4294967295")
  reason_words no_such_value = with_token (codes "the default is no value of the type")
  reason_words too_deep = with_token (codes "the type nests deeper than 32 levels")
  reason_words too_many_parts = with_token (codes "the type has more than 4096 parts")
  reason_words too_long = with_token (codes "the text of the type is too long")
  reason_words too_wide = with_token (codes "the size or the number of an item is larger than our types have")

  -- text, line and column, the reason, and the token that shows it
  abbrev pub refusal_words : Text
  refusal_words = place_words r.point ++ reason_words r.why
