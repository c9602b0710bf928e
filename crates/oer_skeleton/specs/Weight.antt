-- How many parts a skeleton has.
use Rattle.std.specs.Prelude.{◌≡◌, ◌<◌, ◌≤◌, ℕ, suc, ◌+◌, ◌*◌, Bool, true, false, Option, Some, None, MatchOption, if◌then◌else◌}
use Rattle.oer_model.specs.LeafType.{string_size}
use Rattle.oer_model.specs.AsnType.{Additions, Alternatives, AsnType, Fields, Need, addition, alternative, choice, default, extensible_sequence, field, later, leaf, may, must, no_additions, no_alternatives, no_fields, sequence, sequence_of}
use Rattle.oer_model.specs.declared.size.Size.{Size}
use Rattle.oer_skeleton.specs.declared.fault.SkeletonFault.{SkeletonFault}
use Rattle.oer_skeleton.specs.declared.fault.SkeletonFault.TheVariants.{Memory, TooLong}
use Rattle.oer_skeleton.specs.Skeleton.{any_legal, elements, is_legal, is_taken}
use Rattle.oer_skeleton.specs.declared.parts.Parts.{Parts}
use Rattle.oer_skeleton.specs.declared.parts.Parts.TheVariants.{Needed, All}

-- the most
abbrev pub max_weight : ℕ
max_weight = 65536

-- the characters, octets or bits
abbrev pub low_of : Option Size → ℕ
low_of None = 0
low_of (Some size) = size.low

-- a component that may be absent, by the weight that it would have
abbrev pub optional_weight : Parts → Bool → ℕ → ℕ
optional_weight Needed legal w = 1
optional_weight All true w = w
optional_weight All false w = 1

abbrev pub part_weight : Parts → Need → Bool → ℕ → ℕ
part_weight parts must legal w = w
part_weight parts may legal w = optional_weight parts legal w
part_weight parts (default d) legal w = 1

-- Each value in it, itself included, each absent component, each character, octet and bit. A default is one part.
abbrev mutual
  pub weight : Parts → AsnType → ℕ
  weight parts (leaf kind) = suc (low_of (string_size kind))
  weight parts (sequence fs) = suc (weight_fields parts fs)
  weight parts (extensible_sequence fs more) = suc (weight_fields parts fs + weight_additions parts more)
  weight parts (sequence_of size T) = suc (elements parts (is_legal T) size * weight parts T)
  weight parts (choice extensible more) = suc (weight_chosen parts (any_legal more) more)

  pub weight_fields : Parts → Fields → ℕ
  weight_fields parts no_fields = 0
  weight_fields parts (field name need T fs) = part_weight parts need (is_legal T) (weight parts T) + weight_fields parts fs

  pub weight_additions : Parts → Additions → ℕ
  weight_additions parts no_additions = 0
  weight_additions parts (addition name T more) = optional_weight parts (is_legal T) (weight parts T) + weight_additions parts more

  pub weight_chosen : Parts → Bool → Alternatives → ℕ
  weight_chosen parts any no_alternatives = 0
  weight_chosen parts any (alternative name t T more) =
      if is_taken any t (is_legal T) then weight parts T else weight_chosen parts any more
  weight_chosen parts any (later name t T more) = 0

-- of so much that may be left, what is left after this; none where it is more
abbrev pub Leaves : Option ℕ → ℕ → ℕ → Type 0
Leaves result left w = MatchOption result (left < w) (λ rest. rest + w ≡ left)

-- when each fault comes, of a skeleton with so many parts
abbrev pub Refuses : SkeletonFault → ℕ → Type 0
Refuses TooLong w = max_weight < w
Refuses Memory w = w ≤ max_weight
