-- The alternative with a tag.
use Rattle.std.specs.Prelude.{◌≡◌, ◌<◌, ℕ, List, [], ◌∷◌, length, take, get_or, true, false, Option, Some, None, Vec, if◌then◌else◌}
use Rattle.std.specs.declared.alloc.Global.{Global}
use Rattle.oer_units.specs.declared.tagging.Tag.{Tag}
use Rattle.oer_model.specs.AsnType.{no_alternatives}
use Rattle.oer_model.specs.Constraints.{has_tag, same_tag}
use Rattle.oer_values.specs.ShapeView.{known_later, root_of}
use Rattle.oer_values.specs.declared.shape.Alt.{Alt}

-- the first of these
abbrev pub first_with : Tag → List Alt → Option Alt
first_with t [] = None
first_with t (x ∷ xs) = if same_tag x.tag t then Some x else first_with t xs

-- the first of the alternatives that has the tag, and where it stands; or none
abbrev pub IsFirst : List Alt → Tag → Option Alt → Type 0
IsFirst xs t None = has_tag t (root_of xs no_alternatives) ≡ false
IsFirst xs t (Some a) = (i : ℕ) × (i < length xs) × (a ≡ get_or xs i a) × (same_tag a.tag t ≡ true)
    × (has_tag t (root_of (take i xs) no_alternatives) ≡ false)

abbrev pub or_else : Option Alt → Option Alt → Option Alt
or_else None b = b
or_else (Some x) b = Some x

-- in the root, or else after the extension marker
abbrev pub alternative_with : Tag → List Alt → Option (Vec Alt Global) → Option Alt
alternative_with t root additions = or_else (first_with t root) (first_with t (known_later additions))
