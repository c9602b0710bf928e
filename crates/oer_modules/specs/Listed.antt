-- What is printed of the definitions of modules.
use Rattle.std.specs.Prelude.{ℕ, suc, List, [], ◌∷◌, ◌++◌, map, Option, Some, None, Result, Ok, Err, codes, string_bytes}
use Rattle.oer_module_names.specs.declared.error.Place.{Place as RawPlace}
use Rattle.oer_module_syntax.specs.Tree.{Assignment, Body, Module, class_body, set_body, type_body, value_body}
use Rattle.oer_module_text.specs.Errors.{place_in}
use Rattle.oer_modules.specs.Causes.{Cause}
use Rattle.oer_modules.specs.Named.{named_type}
use Rattle.oer_modules.specs.Nesting.{Typed}
use Rattle.oer_modules.specs.Places.{Point as Place}
use Rattle.oer_modules.specs.Refusals.{point_place, refuse}
use Rattle.oer_modules.specs.Texts.{Library}
use Rattle.oer_modules.specs.Unlisted.{unlisted_in}
use Rattle.oer_modules.specs.Words.{Text, place_words, refusal_words}
use Rattle.oer_modules.specs.declared.listing.Listing.{Listing}
use Rattle.oer_modules.specs.declared.unlisted.Unlisted.{Unlisted}
use Rattle.oer_modules.specs.declared.unlisted.Unlisted.TheVariants.{Rejected, Unspelled}
use Rattle.oer_notation.specs.Parsing.{parse}
use Rattle.oer_value_notation.specs.Faults.{text_why_name}
use Rattle.oer_value_notation.specs.declared.fault.TextWhy.{TextWhy}

-- ---- what is printed

-- of one definition
pub data Entry : Type 0 where
  -- the Name of a type, and its text
  as_line : Text → Text → Entry
  -- the Name of a type that is refused, and why
  as_comment : Text → Text → Entry
  -- nothing, since it is no type's
  left_out : Entry

-- of all: the definitions, and the comments on those that are refused
pub record Printed : Type 0 where
  pub lines : Text
  pub comments : Text

abbrev pub printed_of : Listing → Printed
printed_of l = record { lines = string_bytes l.taken; comments = string_bytes l.refused }

abbrev pub nothing : Printed
nothing = record { lines = []; comments = [] }

abbrev pub one_line : Text → Text → Text
one_line w t = w ++ (codes " ::= " ++ (t ++ codes "\n"))

abbrev pub comment : Text → Text → Text
comment w why = codes "-- " ++ (w ++ (codes ": " ++ (why ++ codes "\n")))

-- each on a line of its own
abbrev pub with_entry : Printed → Entry → Printed
with_entry p (as_line w t) = record { lines = p.lines ++ one_line w t; comments = p.comments }
with_entry p (as_comment w why) = record { lines = p.lines; comments = p.comments ++ comment w why }
with_entry p left_out = p

unfoldable pub printed_after : Printed → List Entry → Printed
printed_after p [] = p
printed_after p (e ∷ es) = printed_after (with_entry p e) es

-- ---- which definitions are refused

abbrev pub why_words : TextWhy → Text
why_words why = codes "the type is rejected: " ++ text_why_name why

-- why a type is refused that isn't well-formed; the place is that of its Name
abbrev pub rejected_words : Option Place → TextWhy → Text
rejected_words p why = place_words p ++ why_words why

abbrev pub unspelled_words : Option Place → Text
unspelled_words p = place_words p ++ codes "the notation has no text for the type"

module _ (ts : List Text) (l : Library) where
  abbrev pub entry_unless : RawPlace → Text → Text → Option Unlisted → Entry
  entry_unless p w t None = as_line w t
  entry_unless p w t (Some (Rejected why)) = as_comment w (rejected_words (point_place ts l.homes p) why)
  entry_unless p w t (Some Unspelled) = as_comment w (unspelled_words (point_place ts l.homes p))

  -- of a type and its text
  abbrev pub entry_by_type : RawPlace → Text → Typed → Entry
  entry_by_type p w x = entry_unless p w x.1 (unlisted_in x.0 (parse x.1))

  abbrev pub entry_if_typed : RawPlace → Text → Result Typed Cause → Entry
  entry_if_typed p w (Ok x) = entry_by_type p w x
  entry_if_typed p w (Err c) = as_comment w (refusal_words (refuse ts l c))

  module _ (ms : List Module) (n : ℕ) where
    abbrev pub entry_by_body : RawPlace → Text → Body → Entry
    entry_by_body p w (type_body t) = entry_if_typed p w (named_type ms w n)
    entry_by_body p w (class_body fields syntax) = left_out
    entry_by_body p w (value_body governor value) = left_out
    entry_by_body p w (set_body governor set) = left_out

    -- an assignment of module k
    abbrev pub entry_of : ℕ → Assignment → Entry
    entry_of k a = entry_by_body (place_in k a.at) a.name a.body

    abbrev pub entries_of : ℕ → List Assignment → List Entry
    entries_of k xs = map (entry_of k) xs

    -- all assignments of modules, of which the first is module k
    unfoldable pub entries_from : ℕ → List Module → List Entry
    entries_from k [] = []
    entries_from k (m ∷ rest) = entries_of k m.assignments ++ entries_from (suc k) rest
