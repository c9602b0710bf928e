-- The names of one type in an order in which equal names are neighbours.
use Rattle.std.specs.Prelude.{◌≡◌, ℕ, ◌<◌, List, [], ◌∷◌, ◌++◌, Bool, true, ◌&&◌, length, map, slice_index_or}
use Rattle.std.specs.Ordering.{is_lt, nat_cmp, ordering_then}
use Rattle.std.specs.declared.cmp.Ordering.{Ordering}
use Rattle.std.specs.Cmp.Lexicographic.{slice_cmp}
use Rattle.oer_model.specs.AsnType.{no_alternatives}
use Rattle.oer_model.specs.WellFormed.{addition_names, alternative_names, field_names, item_names}
use Rattle.oer_types.specs.declared.order.Names.{Names}
use Rattle.oer_types.specs.declared.order.Names.TheVariants.{Items, Components, Alternatives}
use Rattle.oer_values.specs.ShapeView.{additions_of, fields_of, named_number, root_of}

-- by their length, and those of one length by their octets
abbrev pub name_cmp : List ℕ → List ℕ → Ordering
name_cmp x y = ordering_then (nat_cmp (length x) (length y)) (slice_cmp nat_cmp x y)

abbrev pub names_in : Names → List (List ℕ)
names_in (Items xs) = item_names (map named_number xs.now)
names_in (Components fs xs) = field_names (fields_of fs.now) ++ addition_names (additions_of xs.now)
names_in (Alternatives xs ys) = alternative_names (root_of xs.now no_alternatives) ++ alternative_names (root_of ys.now no_alternatives)

-- the name of a number
abbrev pub name_at : Names → ℕ → List ℕ
name_at names n = slice_index_or (names_in names) n []

-- which of two numbers has the lesser name
abbrev pub stands_before : Names → ℕ → ℕ → Bool
stands_before names n m = is_lt (name_cmp (name_at names n) (name_at names m))

-- the numbers from 0 on, at so many places
abbrev pub AreNumbered : List ℕ → ℕ → Type 0
AreNumbered order high = (k : ℕ) → k < high → slice_index_or order k 0 ≡ k

-- the name of each number stands before that of the next, the first after this one
abbrev pub ascend_after : Names → List ℕ → List ℕ → Bool
ascend_after names x [] = true
ascend_after names x (n ∷ ns) = is_lt (name_cmp x (name_at names n)) && ascend_after names (name_at names n) ns

-- the name of each number stands before that of the next
abbrev pub ascend : Names → List ℕ → Bool
ascend names [] = true
ascend names (n ∷ ns) = ascend_after names (name_at names n) ns
