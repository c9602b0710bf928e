-- The words of a command line, with the options of modules taken out.
use Rattle.std.specs.Prelude.{List, [], ◌∷◌, ◌++◌, map, Bool, true, false, Option, Some, None, codes, if◌then◌else◌}
use Rattle.std.specs.Borrow.{Bor}
use Rattle.std.specs.Str.{bytes_eq}
use Rattle.oer_module_options.specs.Words.{Text, is_flag, key_of, name_in, value_in}
use Rattle.oer_module_options.specs.declared.words.Command.{Command}
use Rattle.oer_module_options.specs.declared.words.Key.{Key}
use Rattle.oer_module_options.specs.declared.words.Key.TheVariants as key
use Rattle.oer_module_options.specs.declared.words.Kept.{Kept}
use Rattle.oer_module_options.specs.declared.words.Kept.TheVariants as kept
use Rattle.oer_module_options.specs.declared.words.Taken.{Taken}
use Rattle.oer_module_options.specs.declared.words.Taken.TheVariants as taken
use Rattle.oer_module_options.specs.declared.scan.Flag.{Flag}
use Rattle.oer_module_options.specs.declared.scan.Flag.TheVariants as flag
use Rattle.oer_module_options.specs.declared.scan.Item.{Item as RawItem}
use Rattle.oer_module_options.specs.declared.scan.Item.TheVariants as item
use Rattle.oer_module_options.specs.declared.scan.Next.{Next}
use Rattle.oer_module_options.specs.declared.scan.Next.TheVariants as next
use Rattle.oer_module_options.specs.declared.scan.Scan.{Scan as RawScan}

-- a word that stays, or the place of the type
pub data Item : Type 0 where
  word : Text → Item
  place : Item

pub record Scan : Type 0 where
  pub next : Next
  pub modules : List Text
  pub names : List Text
  pub nestings : List Text
  pub types : List Text
  pub kept : List Item
  pub flag : Flag
  pub has_modules : Bool
  pub has_type : Bool
  pub has_source : Bool

abbrev pub item_of : RawItem → Item
item_of (item.Word w) = word w.now
item_of item.Type = place

abbrev pub text_of : Bor Text → Text
text_of t = t.now

abbrev pub scan_of : RawScan → Scan
scan_of s = record {
  next = s.next;
  modules = map text_of s.modules.items;
  names = map text_of s.names.items;
  nestings = map text_of s.nestings.items;
  types = map text_of s.types.items;
  kept = map item_of s.kept.items;
  flag = s.flag;
  has_modules = s.has_modules;
  has_type = s.has_type;
  has_source = s.has_source;
}

-- before the first word
abbrev pub start : Scan
start = record {
  next = next.Option;
  modules = [];
  names = [];
  nestings = [];
  types = [];
  kept = [];
  flag = flag.Missing;
  has_modules = false;
  has_type = false;
  has_source = false;
}

-- a word stays
abbrev pub keep : Text → Scan → Scan
keep w s = record s { kept = s.kept ++ word w ∷ [] }

-- the value of an option that is taken out
abbrev pub add : Taken → Text → Scan → Scan
add taken.Modules v s = record s { modules = s.modules ++ v ∷ [] }
add taken.Name v s = record s { names = s.names ++ v ∷ [] }
add taken.Nesting v s = record s { nestings = s.nestings ++ v ∷ [] }
add taken.Types v s = record s { types = s.types ++ v ∷ [] }

-- The type gets the place of the first `--modules`.
abbrev pub mark_place : Scan → Scan
mark_place s = if s.has_modules then s else record s { has_modules = true; kept = s.kept ++ place ∷ [] }

abbrev pub mark : Taken → Scan → Scan
mark taken.Modules s = mark_place s
mark _ s = s

-- an option stays
abbrev pub note : Kept → Scan → Scan
note kept.Type s = record s { has_type = true }
note kept.Source s = record s { has_source = true }
note kept.Other s = s

-- how often the flag is given, with once more
abbrev pub once_more : Flag → Flag
once_more flag.Missing = flag.Once
once_more flag.Once = flag.Twice
once_more flag.Twice = flag.Twice

abbrev pub count : Scan → Scan
count s = record s { flag = once_more s.flag }

abbrev pub taken_option : Taken → Option Text → Scan → Scan
taken_option t (Some v) s = add t v (mark t s)
taken_option t None s = record (mark t s) { next = next.Value t }

abbrev pub kept_option : Kept → Text → Option Text → Scan → Scan
kept_option k w (Some v) s = keep w (note k s)
kept_option k w None s = keep w (record (note k s) { next = next.KeptValue })

-- a word, whose name this option has, and its value behind `=`
abbrev pub word_of : Option Key → Text → Option Text → Scan → Scan
word_of None w v s = keep w s
word_of (Some (key.Taken t)) w v s = taken_option t v s
word_of (Some (key.Kept k)) w v s = kept_option k w v s

-- a word where an option may stand
abbrev pub at_option : Command → Text → Scan → Scan
at_option c w s =
    if bytes_eq w (codes "--") then keep w (record s { next = next.Rest })
    else if is_flag c w then count s
    else word_of (key_of c (name_in w)) w (value_in w) s

abbrev pub at_next : Next → Command → Text → Scan → Scan
at_next next.Option c w s = at_option c w s
at_next (next.Value t) c w s = add t w (record s { next = next.Option })
at_next next.KeptValue c w s = keep w (record s { next = next.Option })
at_next next.Rest c w s = keep w s

unfoldable pub step : Command → Text → Scan → Scan
step c w s = at_next s.next c w s

-- what the words are, behind those of the scan s
abbrev pub scanned_from : Command → Scan → List Text → Scan
scanned_from c s [] = s
scanned_from c s (w ∷ ws) = scanned_from c (step c w s) ws

abbrev pub scanned : Command → List Text → Scan
scanned c ws = scanned_from c start ws
