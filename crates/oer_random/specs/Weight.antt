-- How many parts the value has that a seed gives, counted as those of a skeleton.
use Rattle.std.specs.Prelude.{ℕ, suc, ◌-◌, ◌+◌, ◌%◌, List, [], ◌∷◌, Bool, ◌&&◌, eqb, if◌then◌else◌, Option, Some, None}
use Rattle.oer_model.specs.LeafType.{string_size}
use Rattle.oer_model.specs.AsnType.{Additions, Alternatives, AsnType, Fields, Need, addition, alternative, choice, default, extensible_sequence, field, later, leaf, may, must, no_additions, no_alternatives, no_fields, sequence, sequence_of}
use Rattle.oer_model.specs.declared.size.Size.{Size}
use Rattle.oer_skeleton.specs.Skeleton.{any_legal, is_legal, is_taken}
use Rattle.oer_random.specs.Drawn.{most_room, elements, pick, taken_count}
use Rattle.oer_random.specs.Leaves.{count_in, more_letters}
use Rattle.oer_random.specs.Words.{after, turned, word, words}

-- the characters, octets or bits
abbrev pub letters_in : Option Size → ℕ → ℕ
letters_in None seed = 0
letters_in (Some size) seed = count_in size more_letters seed

-- a component that may be absent, by the weight that it would have
abbrev pub optional_weight : Bool → ℕ → ℕ → ℕ
optional_weight legal seed w = if legal && eqb (seed % 2) 0 then w else 1

-- one with a default, which is one part
abbrev pub default_weight : Bool → ℕ → ℕ → ℕ
default_weight legal seed w = if eqb (seed % 3) 0 then 1 else if eqb (seed % 3) 1 then 1 else if legal then w else 1

abbrev pub part_weight : Need → Bool → ℕ → ℕ → ℕ
part_weight must legal seed w = w
part_weight may legal seed w = optional_weight legal seed w
part_weight (default d) legal seed w = default_weight legal seed w

-- of all elements
abbrev pub total : (ℕ → ℕ) → List ℕ → ℕ
total f [] = 0
total f (x ∷ xs) = f x + total f xs

-- Each value in it, itself included, each absent component, each character, octet and bit. A default is one part.
abbrev mutual
  pub weight : ℕ → ℕ → AsnType → ℕ
  weight room seed (leaf kind) = suc (letters_in (string_size kind) seed)
  weight room seed (sequence fs) = suc (weight_fields room seed fs)
  weight room seed (extensible_sequence fs more) = suc (weight_fields room seed fs + weight_additions room (turned seed) more)
  weight room seed (sequence_of size T) = suc (total (λ x. weight (room - 1) x T) (words (elements room (is_legal T) size seed) seed))
  weight room seed (choice extensible more) = suc (weight_chosen room (word seed) (any_legal more) (seed % taken_count (any_legal more) more) more)

  pub weight_fields : ℕ → ℕ → Fields → ℕ
  weight_fields room seed no_fields = 0
  weight_fields room seed (field name need T fs) =
      part_weight need (is_legal T) (word seed) (weight room (word (word seed)) T) + weight_fields room (after seed) fs

  pub weight_additions : ℕ → ℕ → Additions → ℕ
  weight_additions room seed no_additions = 0
  weight_additions room seed (addition name T more) =
      optional_weight (is_legal T) (word seed) (weight room (word (word seed)) T) + weight_additions room (after seed) more

  pub weight_chosen : ℕ → ℕ → Bool → ℕ → Alternatives → ℕ
  weight_chosen room seed any k no_alternatives = 0
  weight_chosen room seed any k (alternative name t T more) =
      pick (is_taken any t (is_legal T)) k (weight room seed T) (λ l. weight_chosen room seed any l more)
  weight_chosen room seed any k (later name t T more) =
      pick (is_taken any t (is_legal T)) k (weight room seed T) (λ l. weight_chosen room seed any l more)

-- the same for a seed that a user gives
abbrev pub random_weight : ℕ → AsnType → ℕ
random_weight seed T = weight most_room (word seed) T
