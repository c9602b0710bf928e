-- Tags in our notation.
use Rattle.std.specs.Prelude.{ℕ, pos, List, [], codes}
use Rattle.oer_module_text.specs.Room.{Room, put, put_number}
use Rattle.oer_units.specs.declared.tagging.Class.{Class}
use Rattle.oer_units.specs.declared.tagging.Class.TheVariants.{Universal, Application, Context, Private}
use Rattle.oer_units.specs.declared.tagging.Tag.{Tag}

-- the word of a class, and a space; context has none
abbrev pub class_word : Class → List ℕ
class_word Universal = codes "UNIVERSAL "
class_word Application = codes "APPLICATION "
class_word Context = []
class_word Private = codes "PRIVATE "

-- a tag in brackets
abbrev pub put_tag : Tag → Room → Room
put_tag t r = put (codes "]") (put_number (pos t.number) (put (class_word t.class) (put (codes "[") r)))
