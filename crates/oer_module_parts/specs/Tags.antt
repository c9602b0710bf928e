-- Reading a tag from tokens (X.680, 31.2): what is read and what is left, or the first fault.
use Rattle.std.specs.Prelude.{Bool, false, ◌&&◌, Ok, codes, if◌then◌else◌}
use Rattle.oer_module_lexer.specs.declared.token.Sign.TheVariants.{OpenBracket, CloseBracket, Colon}
use Rattle.oer_module_parts.specs.declared.tag.WrittenTag.{WrittenTag}
use Rattle.oer_module_syntax.specs.State.{State, Read, ◌>>=◌, first, bump, is_word, at_sign, at_keyword, skip_sign}
use Rattle.oer_module_syntax.specs.declared.word.Keyword.TheVariants as kw
use Rattle.oer_module_terms.specs.Trees.{Amount, amount_of}
use Rattle.oer_module_terms.specs.Values.{amount_at}
use Rattle.oer_units.specs.declared.tagging.Class.{Class}
use Rattle.oer_units.specs.declared.tagging.Class.TheVariants as cl

-- a class, and a number or the name of that
pub record Tag : Type 0 where
  pub class : Class
  pub number : Amount

abbrev pub tag_of : WrittenTag → Tag
tag_of t = record { class = t.class; number = amount_of t.number }

-- the word TAG and a colon: what follows is a tag, and no instruction for another encoding
abbrev pub at_reference : State → Bool
at_reference s = is_word (codes "TAG") (first s) && at_sign Colon (bump s)

abbrev pub behind_reference : State → State
behind_reference s = if at_reference s then bump (bump s) else s

-- the class that is written; else that of the context
abbrev pub class_at : State → Class
class_at s =
    if at_keyword kw.Universal s then cl.Universal
    else if at_keyword kw.Application s then cl.Application
    else if at_keyword kw.Private s then cl.Private
    else cl.Context

-- behind the class that is written
abbrev pub behind_class : State → State
behind_class s =
    if at_keyword kw.Universal s then bump s
    else if at_keyword kw.Application s then bump s
    else if at_keyword kw.Private s then bump s
    else s

-- behind the opening bracket and the word TAG
unfoldable pub classed_at : State → Read Tag
classed_at s = do
  number ← amount_at false (behind_class s)
  ended ← skip_sign CloseBracket number.1
  Ok (record { class = class_at s; number = number.0 }, ended.1)

unfoldable pub tag_at : State → Read Tag
tag_at s = skip_sign OpenBracket s >>= λ begun. classed_at (behind_reference begun.1)
