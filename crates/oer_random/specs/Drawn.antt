-- The value of a type that a seed gives.
use Rattle.std.specs.Prelude.{ℕ, suc, ◌-◌, ◌%◌, [], map, Bool, ◌&&◌, eqb, if◌then◌else◌, Option, Some, None}
use Rattle.oer_model.specs.AsnType.{Additions, Alternatives, AsnType, Fields, Need, addition, alternative, choice, default, extensible_sequence, field, later, leaf, may, must, no_additions, no_alternatives, no_fields, sequence, sequence_of}
use Rattle.oer_model.specs.AsnValue.{AsnValue, Places, chosen, items, leaf_value, no_places, nothing, seq}
use Rattle.oer_model.specs.Fits.{listed}
use Rattle.oer_model.specs.declared.size.Size.{Size}
use Rattle.oer_values.specs.DefaultView.{place}
use Rattle.oer_skeleton.specs.Skeleton.{any_legal, is_legal, is_taken}
use Rattle.oer_random.specs.Leaves.{count_in, drawn_leaf}
use Rattle.oer_random.specs.Words.{after, turned, word, words}

-- how many elements a list may have above the least; one fewer in each list within it
abbrev pub most_room : ℕ
most_room = 3

-- how many elements: as few as may be where each needs the end of a nesting
abbrev pub elements : ℕ → Bool → Size → ℕ → ℕ
elements room legal size seed = if legal then count_in size room seed else size.low

-- a component that may be absent is there for every other seed, where it needs no end; v: what it would be
abbrev pub optional_part : Bool → ℕ → AsnValue → Option AsnValue
optional_part legal seed v = if legal && eqb (seed % 2) 0 then Some v else None

-- one with a default: it is absent, has the default, or a value of its own where that needs no end
abbrev pub default_part : AsnValue → Bool → ℕ → AsnValue → Option AsnValue
default_part d legal seed v = if eqb (seed % 3) 0 then None else if eqb (seed % 3) 1 then Some d else if legal then Some v else None

abbrev pub part : Need → Bool → ℕ → AsnValue → Option AsnValue
part must legal seed v = Some v
part may legal seed v = optional_part legal seed v
part (default d) legal seed v = default_part d legal seed v

-- one more where the test holds
abbrev pub one_if : Bool → ℕ → ℕ
one_if b n = if b then suc n else n

-- how many alternatives may be taken, on both sides of the extension marker; any: one before it needs no end
abbrev pub taken_count : Bool → Alternatives → ℕ
taken_count any no_alternatives = 0
taken_count any (alternative name t T more) = one_if (is_taken any t (is_legal T)) (taken_count any more)
taken_count any (later name t T more) = one_if (is_taken any t (is_legal T)) (taken_count any more)

-- of the alternatives that may be taken the one at k: this one, if it may, or one of the others
abbrev pub pick : {A : Type 0} → Bool → ℕ → A → (ℕ → A) → A
pick taken k this others = if taken then (if eqb k 0 then this else others (k - 1)) else others k

-- The value of the type for the seed. room: how many elements a list may have above the least.
abbrev mutual
  pub drawn : ℕ → ℕ → AsnType → AsnValue
  drawn room seed (leaf kind) = leaf_value (drawn_leaf kind seed)
  drawn room seed (sequence fs) = seq (drawn_fields room seed fs) no_places []
  drawn room seed (extensible_sequence fs more) = seq (drawn_fields room seed fs) (drawn_additions room (turned seed) more) []
  drawn room seed (sequence_of size T) = items (listed (map (λ x. drawn (room - 1) x T) (words (elements room (is_legal T) size seed) seed)))
  drawn room seed (choice extensible more) = drawn_chosen room (word seed) (any_legal more) (seed % taken_count (any_legal more) more) more

  -- each component by the seed's next number
  pub drawn_fields : ℕ → ℕ → Fields → Places
  drawn_fields room seed no_fields = no_places
  drawn_fields room seed (field name need T fs) =
      place (part need (is_legal T) (word seed) (drawn room (word (word seed)) T)) (drawn_fields room (after seed) fs)

  pub drawn_additions : ℕ → ℕ → Additions → Places
  drawn_additions room seed no_additions = no_places
  drawn_additions room seed (addition name T more) =
      place (optional_part (is_legal T) (word seed) (drawn room (word (word seed)) T)) (drawn_additions room (after seed) more)

  -- of the alternatives that may be taken the one at k; there is one in each type that is well-formed
  pub drawn_chosen : ℕ → ℕ → Bool → ℕ → Alternatives → AsnValue
  drawn_chosen room seed any k no_alternatives = nothing
  drawn_chosen room seed any k (alternative name t T more) =
      pick (is_taken any t (is_legal T)) k (chosen t (drawn room seed T)) (λ l. drawn_chosen room seed any l more)
  drawn_chosen room seed any k (later name t T more) =
      pick (is_taken any t (is_legal T)) k (chosen t (drawn room seed T)) (λ l. drawn_chosen room seed any l more)

-- the same for a seed that a user gives: its first number is taken, since seeds that are near each other differ in few bits
abbrev pub random_value : ℕ → AsnType → AsnValue
random_value seed T = drawn most_room (word seed) T
