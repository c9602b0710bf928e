-- What the header of a module says of tags (X.680, 13.1 and 13.2).
use Rattle.std.specs.Prelude.{ℕ, List, Bool, true, false, Option, Some, None, codes, slice_get}
use Rattle.std.specs.Option.{option_map_or}
use Rattle.std.specs.Str.{bytes_eq}
use Rattle.oer_module_syntax.specs.Tree.{Module}
use Rattle.oer_module_syntax.specs.declared.tree.Tags.{Tags}
use Rattle.oer_module_syntax.specs.declared.tree.Tags.TheVariants.{Explicit, Implicit, Automatic}

-- instructions in brackets are tags, as they are where the header says nothing
abbrev pub are_for_tags : Option (List ℕ) → Bool
are_for_tags None = true
are_for_tags (Some w) = bytes_eq w (codes "TAG")

unfoldable pub has_tags_in_brackets : List Module → ℕ → Bool
has_tags_in_brackets ms k = option_map_or (λ m. are_for_tags m.instructions) (slice_get ms k) false

abbrev pub is_automatic : Tags → Bool
is_automatic Automatic = true
is_automatic Explicit = false
is_automatic Implicit = false

unfoldable pub tags_automatically : List Module → ℕ → Bool
tags_automatically ms k = option_map_or (λ m. is_automatic m.tags) (slice_get ms k) false
