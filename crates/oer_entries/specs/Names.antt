-- The texts of names.
use Rattle.std.specs.Prelude.{ℕ, List, []}
use Rattle.std.specs.Fmt.{decimal}
use Rattle.oer_json.specs.Keys.{place_key, tag_key}
use Rattle.oer_entries.specs.declared.frame.Name.{Name}
use Rattle.oer_entries.specs.declared.frame.Name.TheVariants.{Addition, Alternative, Item, Text, Whole}

-- the name, or the number of an element; what the type doesn't know has the key that it has in JSON
abbrev pub text_of : Name → List ℕ
text_of Whole = []
text_of (Text text) = text.now
text_of (Item index) = decimal index
text_of (Addition index) = place_key index
text_of (Alternative tag) = tag_key tag
