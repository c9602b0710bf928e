-- Rows of octets: the plain function that walks through them.
use Rattle.std.specs.Prelude.{◌≡◌, ℕ, zero, suc, ◌-◌, List, [], ◌∷◌, ◌++◌, length, drop, take, map, Bool, true, false, Result, Ok, Err, Vec}
use Rattle.std.specs.List.{FoldsTo}
use Rattle.std.specs.declared.alloc.Global.{Global}
use Rattle.oer_units.specs.Reader.{Outcome, Place, Reader, at, got, group, refused}
use Rattle.oer_units.specs.Reading.{tag}
use Rattle.oer_units.specs.declared.tagging.Tag.{Tag}
use Rattle.oer_model.specs.AsnType.{Additions, Alternatives, AsnType, Fields, addition, alternative, choice, extensible_sequence, field, later, leaf, no_additions, no_alternatives, no_fields, sequence, sequence_of}
use Rattle.oer_model.specs.Bits.{first_bit, later_bits}
use Rattle.oer_model.specs.Checking.{check_value}
use Rattle.oer_model.specs.Constraints.{addition_count, has_tag, optional, same_tag}
use Rattle.oer_model.specs.Parts.{Step, to_addition, to_chosen, to_component, to_item}
use Rattle.oer_model.specs.Reading.{preamble}
use Rattle.oer_checker.specs.Places.{place_of}
use Rattle.oer_model.specs.SharedSteps.{bits_left, is_there}
use Rattle.oer_checker.specs.Steps.{addition_map, between, sized_length, sized_quantity}
use Rattle.oer_parts.specs.Walk.{path_of}
use Rattle.oer_checker.specs.declared.cursor.Cursor.{Cursor}
use Rattle.oer_rows.specs.declared.row.Halt.{Halt}
use Rattle.oer_rows.specs.declared.row.Halt.TheVariants.{Refused, Stopped}
use Rattle.oer_rows.specs.declared.row.Role.{Role}
use Rattle.oer_rows.specs.declared.row.Role.TheVariants.{Preamble, Bitmap, Quantity, Tag as TagRole, Length, Contents, Unknown}
use Rattle.oer_rows.specs.declared.row.Row.{Row}
use Rattle.oer_rows.specs.declared.row.RowRef.{RowRef}
use Rattle.oer_rows.specs.declared.spot.Spot.{Spot}
use Rattle.oer_parts.specs.declared.step.Step as rust_step
use Rattle.oer_checker.specs.declared.stop.Stop.{Stop}

-- octets: how many are before them, the path to the part of which they are a piece, what they are, and they themselves
pub data Line : Type 0 where
  line : ℕ → List Step → Role → List ℕ → Line

-- the lines up to a place; or up to where the octets are refused
pub data Walk : Type 0 where
  went : List Line → Place → Walk
  halted : List Line → Walk

-- what is added to the lines so far from a place on
abbrev pub Walker : Type 0
Walker = List Line → Place → Walk

abbrev pub go_on : Walker → Walk → Walk
go_on d (went ls q) = d ls q
go_on d (halted ls) = halted ls

-- c, and then d
unfoldable pub walk_both : Walker → Walker → Walker
walk_both c d ls p = go_on d (c ls p)

unfoldable pub stay : Walker
stay ls p = went ls p

unfoldable pub stuck : Walker
stuck ls p = halted ls

abbrev pub walk_if : Bool → Walker → Walker
walk_if true c = c
walk_if false c = stay

-- c where the test holds, else d
abbrev pub walk_choose : Bool → Walker → Walker → Walker
walk_choose true c d = c
walk_choose false c d = d

-- the octets from p to q, of a walk that began with so many octets
abbrev pub line_at : ℕ → List Step → Role → Place → Place → Line
line_at total path role p q = line (total - length p.input) path role (between p q)

abbrev pub add_line : {A : Type 0} → ℕ → List Step → Role → (A → Walker) → List Line → Place → Outcome A → Walk
add_line total path role k ls p (got x q) = k x (ls ++ (line_at total path role p q ∷ [])) q
add_line total path role k ls p (refused why rest) = halted ls

-- a line of what r takes, and then what its value asks for
unfoldable pub row : {A : Type 0} → ℕ → List Step → Role → Reader A → (A → Walker) → Walker
row total path role r k ls p = add_line total path role k ls p (r p)

-- an open type ends where its octets do
abbrev pub leave_at : List Line → List ℕ → ℕ → ℕ → Walk
leave_at ls rest outer zero = went ls (at rest outer)
leave_at ls rest outer (suc k) = halted ls

abbrev pub leave : ℕ → Walk → Walk
leave outer (went ls q) = leave_at ls q.input outer q.left
leave outer (halted ls) = halted ls

-- c in an open type of n octets
unfoldable pub inside : ℕ → Walker → Walker
inside n c ls p = leave (p.left - n) (c ls (at p.input n))

-- c in an open type (X.696, 30), after its length
abbrev pub walk_open : ℕ → List Step → Walker → Walker
walk_open total path c = row total path Length sized_length (λ y. inside y.0 c)

-- an open type of which the type isn't known
abbrev pub walk_unknown : ℕ → List Step → Walker
walk_unknown total path = row total path Length sized_length (λ y. row total path Unknown (group y.0) (λ w. stay))

-- the additions that the type doesn't know, from the one with the number i on
abbrev pub walk_rest : ℕ → List Step → ℕ → List Bool → Walker
walk_rest total path i [] = stay
walk_rest total path i (x ∷ s) =
    walk_both (walk_if x (walk_unknown total (path ++ (to_addition i ∷ [])))) (walk_rest total path (suc i) s)

-- n elements from the one with the number i on
abbrev pub walk_times : (ℕ → Walker) → ℕ → ℕ → Walker
walk_times c i zero = stay
walk_times c i (suc n) = walk_both (c i) (walk_times c (suc i) n)

abbrev pub walk_extension : Bool → Additions → ℕ → List Step → (List Bool → Walker) → Walker
walk_extension false more total path c = stay
walk_extension true more total path c = row total path Bitmap (addition_map (addition_count more))
    (λ y. walk_both (c y.0) (walk_rest total path (addition_count more) (drop (addition_count more) y.0)))

-- what follows a tag
abbrev pub walk_chosen : Bool → Alternatives → Walker → Walker → Tag → Walker
walk_chosen extensible more c d t = walk_choose (has_tag t more) c (walk_choose extensible d stuck)

-- The rows of the encoding of a value, which is the part to which the path leads.
abbrev mutual
  pub walk_value : AsnType → ℕ → List Step → Walker
  walk_value (sequence fs) total path = row total path Preamble (preamble (optional fs)) (walk_fields fs total path 0)
  walk_value (extensible_sequence fs more) total path = row total path Preamble (preamble (suc (optional fs)))
      (λ s. walk_both (walk_fields fs total path 0 (later_bits s))
      (walk_extension (first_bit s) more total path (walk_additions more total path 0)))
  walk_value (sequence_of size T) total path = row total path Quantity (sized_quantity size)
      (λ y. walk_times (λ i. walk_value T total (path ++ (to_item i ∷ []))) 0 y.0)
  walk_value (choice extensible more) total path = row total path TagRole tag
      (λ t. walk_chosen extensible more (walk_alternative more total (path ++ (to_chosen ∷ [])) t)
      (walk_unknown total (path ++ (to_chosen ∷ []))) t)
  walk_value (leaf kind) total path = row total path Contents (check_value (leaf kind)) (λ f. stay)

  -- components of a root, from the one with the number i on, by their presence bits
  pub walk_fields : Fields → ℕ → List Step → ℕ → List Bool → Walker
  walk_fields no_fields total path i s = stay
  walk_fields (field name need T fs) total path i s =
      walk_both (walk_if (is_there need s) (walk_value T total (path ++ (to_component i ∷ []))))
      (walk_fields fs total path (suc i) (bits_left need s))

  -- additions, from the one with the number i on, by the bits of the bitmap
  pub walk_additions : Additions → ℕ → List Step → ℕ → List Bool → Walker
  walk_additions no_additions total path i s = stay
  walk_additions (addition name T more) total path i s =
      walk_both (walk_if (first_bit s) (walk_open total (path ++ (to_addition i ∷ [])) (walk_value T total (path ++ (to_addition i ∷ [])))))
      (walk_additions more total path (suc i) (later_bits s))

  -- the first alternative that has the tag
  pub walk_alternative : Alternatives → ℕ → List Step → Tag → Walker
  walk_alternative no_alternatives total path t = stuck
  walk_alternative (alternative name u T more) total path t =
      walk_choose (same_tag u t) (walk_value T total path) (walk_alternative more total path t)
  walk_alternative (later name u T more) total path t =
      walk_choose (same_tag u t) (walk_open total path (walk_value T total path)) (walk_alternative more total path t)

-- ---- what the code does

-- a row of the program
abbrev pub line_of : Row → Line
line_of r = line r.offset (path_of r.path.items) r.role r.octets.now

abbrev pub lines_of : List Row → List Line
lines_of rows = map line_of rows

-- the path to the part that a walk of the program is in
abbrev pub path_in : Spot → List Step
path_in spot = path_of spot.path.items

-- what follows a tag that no alternative of the root has, where there is an extension marker
abbrev pub walk_later : Alternatives → ℕ → List Step → Tag → Walker
walk_later more total path t = walk_choose (has_tag t more) (walk_alternative more total path t) (walk_unknown total path)

-- a row that is handed over
abbrev pub line_in : RowRef → Line
line_in r = line r.offset (path_of r.path.now) r.role r.octets.now

-- the line with its octets read again, from where it says that they stand
abbrev pub again : List ℕ → Line → Line
again octets (line offset path role b) = line offset path role (take (length b) (drop offset octets))

-- The taker came from s to t by taking the lines that `new` has behind `old`.
pub record Took {T : Type 0} (takes : T → Line → T → Type 0) (s t : T) (old new : List Line) : Type 0 where
  pub lines : List Line
  pub is : new ≡ old ++ lines
  pub each : FoldsTo takes s lines t

-- From s to t the taker took lines of the walk c from p, of which d from q is left.
pub record Comes {T : Type 0} (takes : T → Line → T → Type 0) (s t : T) (d : Walker) (q : Place) (c : Walker) (p : Place) : Type 0 where
  pub by : (ls : List Line) → (new : List Line) × Took takes s t ls new × (d new q ≡ c ls p)

-- The program went the whole walk c from p, and the taker took its lines; nothing is said where a row isn't taken.
abbrev pub Walks : {T : Type 0} → Result Cursor Halt → (T → Line → T → Type 0) → T → T → Walker → Place → Type 0
Walks (Ok q) takes s t c p = Comes takes s t stay (place_of q) c p
Walks (Err Refused) takes s t c p = (q : Place) × Comes takes s t stuck q c p
Walks (Err (Stopped why)) takes s t c p = Unit {0}

-- the same path, unless an allocation fails
abbrev pub Copies : List rust_step.Step → Result (Vec rust_step.Step Global) Halt → Type 0
Copies path (Ok v) = v.items ≡ path
Copies path (Err Refused) = ⊥
Copies path (Err (Stopped why)) = Unit {0}

-- the part to which the step leads, unless an allocation fails
abbrev pub Reaches : Spot → Step → Result Spot Halt → Type 0
Reaches spot step (Ok inner) = (inner.total ≡ spot.total) × (path_in inner ≡ path_in spot ++ (step ∷ []))
Reaches spot step (Err Refused) = ⊥
Reaches spot step (Err (Stopped why)) = Unit {0}

-- a line of the octets from one cursor to another was taken
abbrev pub Adds : {A T : Type 0} → (T → Line → T → Type 0) → Spot → Role → T → Cursor → Cursor → T → Result A Halt → Type 0
Adds takes spot role s p q t (Ok u) = takes s (line_at spot.total (path_in spot) role (place_of p) (place_of q)) t
Adds takes spot role s p q t (Err Refused) = ⊥
Adds takes spot role s p q t (Err (Stopped why)) = Unit {0}

-- what was read, after a line of its octets was taken
abbrev pub ReadsRow : {A T : Type 0} → (T → Line → T → Type 0) → Spot → Role → T → Cursor → Cursor → Result A Stop → T
    → Result A Halt → Type 0
ReadsRow takes spot role s p q answer t (Ok y) = (answer ≡ Ok y)
    × takes s (line_at spot.total (path_in spot) role (place_of p) (place_of q)) t
ReadsRow takes spot role s p q answer t (Err Refused) = ((stop : Stop) × (answer ≡ Err stop)) × (t ≡ s)
ReadsRow takes spot role s p q answer t (Err (Stopped why)) = Unit {0}
