-- Walks, one step after another.
use Rattle.std.proofs.Common.{◌≡◌, ℕ, zero, suc, ◌+◌, ◌-◌, ◌<◌, ◌≤◌, ◌||◌, Bool, true, false, List, [], ◌∷◌, ◌++◌, length, drop, get_or, Result, Ok, Err, arith, refl, sym, ap, ap₂, ◌∙◌, subst, drop-cons, add-one, if◌then◌else◌, Option, Some, None}
use Rattle.std.proofs.lemmas.List.{append-nil, append_assoc, drop_all}
use Rattle.oer_units.specs.declared.tagging.Tag.{Tag}
use Rattle.oer_units.specs.Reader.{Place, Reader, at}
use Rattle.oer_model.specs.AsnType.{Additions, Alternatives, AsnType, Fields, choice, extensible_sequence, leaf, no_alternatives, sequence, sequence_of}
use Rattle.oer_model.specs.Bits.{first_bit, later_bits}
use Rattle.oer_model.specs.Constraints.{has_tag, optional, same_tag}
use Rattle.oer_model.specs.Parts.{Step, to_addition, to_chosen, to_component}
use Rattle.oer_model.specs.Reading.{preamble}
use Rattle.oer_units.specs.Reading.{tag}
use Rattle.oer_values.specs.Lookup.{first_with}
use Rattle.oer_values.specs.ShapeView.{additions_of, fields_of, later_of, need_of, root_of, type_of}
use Rattle.oer_values.specs.declared.shape.Addition.{Addition}
use Rattle.oer_values.specs.declared.shape.Alt.{Alt}
use Rattle.oer_values.specs.declared.shape.Field.{Field}
use Rattle.oer_checker.specs.Places.{outcome, place_of}
use Rattle.oer_model.specs.Checking.{check_value}
use Rattle.oer_rows.specs.declared.row.Role.TheVariants.{Bitmap, Contents, Preamble, Tag as TagRole}
use Rattle.oer_rows.specs.Rows.{Comes, Line, Reaches, ReadsRow, Took, Walker, Walks, add_line, go_on, halted, inside, leave, leave_at, line_at, path_in, row, stay, stuck, walk_additions, walk_alternative, walk_both, walk_choose, walk_chosen, walk_extension, walk_fields, walk_if, walk_later, walk_open, walk_rest, walk_times, walk_unknown, walk_value, went}
use Rattle.oer_checker.specs.BitView.{bits_in}
use Rattle.oer_checker.specs.Facts.{IsLeaf}
use Rattle.oer_model.specs.SharedSteps.{bits_left, is_there}
use Rattle.oer_checker.specs.Steps.{addition_map}
use Rattle.oer_checker.specs.declared.bits.Bits.{Bits}
use Rattle.oer_checker.specs.declared.bit_strings.Map.{Map}
use Rattle.oer_checker.proofs.FieldSteps.{count_is}
use Rattle.oer_checker.specs.declared.cursor.Cursor.{Cursor}
use Rattle.oer_rows.specs.declared.row.Halt.{Halt}
use Rattle.oer_rows.specs.declared.row.Halt.TheVariants.{Refused, Stopped}
use Rattle.oer_rows.specs.declared.row.Role.{Role}
use Rattle.oer_rows.specs.declared.spot.Spot.{Spot}
use Rattle.oer_checker.specs.declared.stop.Stop.{Stop}
use Rattle.oer_checker.proofs.BitLists.{drop_next, drop_past}
use Rattle.oer_checker.proofs.TagSteps.{in_root, not_in_root}
use Rattle.oer_rows.proofs.Folds.{folds_on}

-- ---- what was taken

module _ {T : Type 0} (takes : T → Line → T → Type 0) where
  took_none : (s : T) (ls : List Line) → Took takes s s ls ls
  took_none s ls = record { lines = []; is = sym (append-nil ls); each = refl }

  took_one : (s t : T) (l : Line) (ls : List Line) → takes s l t → Took takes s t ls (ls ++ (l ∷ []))
  took_one s t l ls h = record { lines = l ∷ []; is = refl; each = (t, h, refl) }

  took_on : (s t u : T) (ls ms new : List Line) → Took takes s t ls ms → Took takes t u ms new → Took takes s u ls new
  took_on s t u ls ms new h k = record {
    lines = h.lines ++ k.lines;
    is = k.is ∙ ap (λ (l : List Line). l ++ k.lines) h.is ∙ append_assoc ls h.lines k.lines;
    each = folds_on takes s t u h.lines k.lines h.each k.each;
  }

  -- ---- a walk and what is left of it

  -- nothing was taken, and the walks are the same
  pub here : (s : T) (d : Walker) (q : Place) (c : Walker) (p : Place) → ((ls : List Line) → d ls q ≡ c ls p) → Comes takes s s d q c p
  here s d q c p e = record { by = λ ls. (ls, took_none s ls, e ls) }

  pub comes_on : (s t u : T) (e : Walker) (r : Place) (d : Walker) (q : Place) (c : Walker) (p : Place)
      → Comes takes s t d q c p → Comes takes t u e r d q → Comes takes s u e r c p
  comes_on s t u e r d q c p h k = record {
    by = λ ls.
        let x = h.by ls in let y = k.by x.0 in (y.0, took_on s t u ls x.0 y.0 x.1 y.1, y.2 ∙ x.2);
  }

  -- the same walk, written otherwise
  pub comes_as : (s t : T) (d : Walker) (q : Place) (b : Walker) (o : Place) (c : Walker) (p : Place) → ((ls : List Line) → b ls o ≡ c ls p)
      → Comes takes s t d q b o → Comes takes s t d q c p
  comes_as s t d q b o c p e h = record { by = λ ls. let x = h.by ls in (x.0, x.1, x.2 ∙ e ls) }

  pub then_walks : (result : Result Cursor Halt) (s t u : T) (d : Walker) (q : Place) (c : Walker) (p : Place) → Comes takes s t d q c p
      → Walks result takes t u d q → Walks result takes s u c p
  then_walks (Ok x) s t u d q c p h k = comes_on s t u stay (place_of x) d q c p h k
  then_walks (Err Refused) s t u d q c p h k = (k.0, comes_on s t u stuck k.0 d q c p h k.1)
  then_walks (Err (Stopped why)) s t u d q c p h k = tt

  pub walks_as : (result : Result Cursor Halt) (s t : T) (b : Walker) (o : Place) (c : Walker) (p : Place) → ((ls : List Line) → b ls o ≡ c ls p)
      → Walks result takes s t b o → Walks result takes s t c p
  walks_as (Ok x) s t b o c p e h = comes_as s t stay (place_of x) b o c p e h
  walks_as (Err Refused) s t b o c p e h = (h.0, comes_as s t stuck h.0 b o c p e h.1)
  walks_as (Err (Stopped why)) s t b o c p e h = tt

  pub same_walks : (result : Result Cursor Halt) (s t : T) (b c : Walker) (p : Place) → b ≡ c → Walks result takes s t b p → Walks result takes s t c p
  same_walks result s t b c p e h = subst (λ (w : Walker). Walks result takes s t w p) e h

  pub stays : (s : T) (q : Cursor) → Walks (Ok q) takes s s stay (place_of q)
  stays s q = here s stay (place_of q) stay (place_of q) (λ ls. refl)

  pub sticks : (s : T) (p : Place) → Walks (Err Refused) takes s s stuck p
  sticks s p = (p, here s stuck p stuck p (λ ls. refl))

  -- ---- a unit and its line

  module _ {A B : Type 0} (f : A → B) (spot : Spot) (role : Role) (s t : T) (p q : Cursor) (answer : Result A Stop) (r : Reader B)
      (k : B → Walker) (e : outcome f answer q ≡ r (place_of p)) where
    pub row_then : (y : A) → ReadsRow takes spot role s p q answer t (Ok y)
        → Comes takes s t (k (f y)) (place_of q) (row spot.total (path_in spot) role r k) (place_of p)
    unfolding row
    row_then y h = record {
      by = λ ls. (
        ls ++ (line_at spot.total (path_in spot) role (place_of p) (place_of q) ∷ []),
        took_one s t (line_at spot.total (path_in spot) role (place_of p) (place_of q)) ls h.1,
        is ls,
      );
    }
      where
        is : (ls : List Line) → k (f y) (ls ++ (line_at spot.total (path_in spot) role (place_of p) (place_of q) ∷ [])) (place_of q)
            ≡ row spot.total (path_in spot) role r k ls (place_of p)
        is ls = ap (add_line spot.total (path_in spot) role k ls (place_of p)) (sym (ap (λ (x : Result A Stop). outcome f x q) h.0) ∙ e)

    pub row_stop : (h : Halt) → ReadsRow takes spot role s p q answer t (Err h)
        → Walks (Err h) takes s t (row spot.total (path_in spot) role r k) (place_of p)
    unfolding row stuck
    row_stop Refused ((stop, is), same) = (
      place_of p,
      subst (λ (x : T). Comes takes s x stuck (place_of p) (row spot.total (path_in spot) role r k) (place_of p)) (sym same)
          (here s stuck (place_of p) (row spot.total (path_in spot) role r k) (place_of p) halts),
    ) where
      halts : (ls : List Line) → stuck ls (place_of p) ≡ row spot.total (path_in spot) role r k ls (place_of p)
      halts ls = ap (add_line spot.total (path_in spot) role k ls (place_of p)) (sym (ap (λ (x : Result A Stop). outcome f x q) is) ∙ e)
    row_stop (Stopped why) h = tt

-- a value of a type without parts
pub leaf_row : (T : AsnType) (total : ℕ) (path : List Step) → IsLeaf T → walk_value T total path ≡ row total path Contents (check_value T) (λ f. stay)
leaf_row (leaf kind) total path h = refl
leaf_row (sequence fs) total path h = absurd h
leaf_row (extensible_sequence fs more) total path h = absurd h
leaf_row (sequence_of size T) total path h = absurd h
leaf_row (choice extensible more) total path h = absurd h

-- ---- one after another

module _ {T : Type 0} (takes : T → Line → T → Type 0) where
  pub type_arm : (S U : AsnType) (spot : Spot) (result : Result Cursor Halt) (s t : T) (p : Place) → S ≡ U
      → Walks result takes s t (walk_value U spot.total (path_in spot)) p → Walks result takes s t (walk_value S spot.total (path_in spot)) p
  type_arm S U spot result s t p is h = same_walks takes result s t _ _ p (ap (λ (V : AsnType). walk_value V spot.total (path_in spot)) (sym is)) h

  pub both_then : (c d : Walker) (s t : T) (p : Place) (q : Cursor) → Walks (Ok q) takes s t c p → Comes takes s t d (place_of q) (walk_both c d) p
  unfolding stay walk_both
  both_then c d s t p q h = record { by = λ ls. let x = h.by ls in (x.0, x.1, is ls x.0 x.2) } where
    is : (ls new : List Line) → stay new (place_of q) ≡ c ls p → d new (place_of q) ≡ walk_both c d ls p
    is ls new e = ap (go_on d) e

  pub both_stop : (c d : Walker) (s t : T) (p : Place) (h : Halt) → Walks (Err h) takes s t c p → Walks (Err h) takes s t (walk_both c d) p
  unfolding stuck walk_both
  both_stop c d s t p Refused (q, w) = (q, record { by = λ ls. let x = w.by ls in (x.0, x.1, is ls x.0 x.2) }) where
    is : (ls new : List Line) → stuck new q ≡ c ls p → stuck new q ≡ walk_both c d ls p
    is ls new e = ap (go_on d) e
  both_stop c d s t p (Stopped why) w = tt

  pub no_inner : (spot : Spot) (step : Step) (h : Halt) (s t : T) (c : Walker) (p : Place) → Reaches spot step (Err h) → Walks (Err h) takes s t c p
  no_inner spot step Refused s t c p e = absurd e
  no_inner spot step (Stopped why) s t c p e = tt

  -- at the part to which a step leads
  pub at_inner : (c : ℕ → List Step → Walker) (spot inner : Spot) (step : Step) (result : Result Cursor Halt) (s t : T) (p : Place)
      → Reaches spot step (Ok inner) → Walks result takes s t (c inner.total (path_in inner)) p
      → Walks result takes s t (c spot.total (path_in spot ++ (step ∷ []))) p
  at_inner c spot inner step result s t p h w = same_walks takes result s t _ _ p (ap₂ c h.0 h.1) w

  pub if_not : (b : Bool) (c : Walker) (s : T) (q : Cursor) → b ≡ false → Walks (Ok q) takes s s (walk_if b c) (place_of q)
  if_not b c s q is = same_walks takes (Ok q) s s _ _ (place_of q) (ap (λ (x : Bool). walk_if x c) (sym is)) (stays takes s q)

  pub if_so : (b : Bool) (c : Walker) (s t : T) (p : Place) (result : Result Cursor Halt) → b ≡ true → Walks result takes s t c p
      → Walks result takes s t (walk_if b c) p
  if_so b c s t p result is w = same_walks takes result s t _ _ p (ap (λ (x : Bool). walk_if x c) (sym is)) w

-- ---- open types

left_none : (rest : List ℕ) (outer left : ℕ) (ls : List Line) → left ≤ 0 → leave_at ls rest outer left ≡ went ls (at rest outer)
left_none rest outer zero ls e = refl
left_none rest outer (suc k) ls e = absurd (omega arith)

left_some : (rest : List ℕ) (outer left : ℕ) (ls : List Line) → 0 < left → leave_at ls rest outer left ≡ halted ls
left_some rest outer zero ls e = absurd (omega arith)
left_some rest outer (suc k) ls e = refl

module _ {T : Type 0} (takes : T → Line → T → Type 0) where
  pub inside_ends : (n : ℕ) (c : Walker) (s t : T) (p : Place) (q : Cursor) → Walks (Ok q) takes s t c (at p.input n) → q.left ≤ 0
      → Comes takes s t stay (at q.rest.now (p.left - n)) (inside n c) p
  unfolding inside stay
  inside_ends n c s t p q w none = record { by = λ ls. let x = w.by ls in (x.0, x.1, is ls x.0 x.2) } where
    is : (ls new : List Line) → stay new (place_of q) ≡ c ls (at p.input n) → stay new (at q.rest.now (p.left - n)) ≡ inside n c ls p
    is ls new e = sym (left_none q.rest.now (p.left - n) q.left new none) ∙ ap (leave (p.left - n)) e

  pub inside_left : (n : ℕ) (c : Walker) (s t : T) (p : Place) (q : Cursor) → Walks (Ok q) takes s t c (at p.input n) → 0 < q.left
      → Walks (Err Refused) takes s t (inside n c) p
  unfolding inside stay stuck
  inside_left n c s t p q w some = (p, record { by = λ ls. let x = w.by ls in (x.0, x.1, is ls x.0 x.2) }) where
    is : (ls new : List Line) → stay new (place_of q) ≡ c ls (at p.input n) → stuck new p ≡ inside n c ls p
    is ls new e = sym (left_some q.rest.now (p.left - n) q.left new some) ∙ ap (leave (p.left - n)) e

  pub inside_stop : (n : ℕ) (c : Walker) (s t : T) (p : Place) (h : Halt) → Walks (Err h) takes s t c (at p.input n) → Walks (Err h) takes s t (inside n c) p
  unfolding inside stuck
  inside_stop n c s t p Refused (q, w) = (q, record { by = λ ls. let x = w.by ls in (x.0, x.1, is ls x.0 x.2) }) where
    is : (ls new : List Line) → stuck new q ≡ c ls (at p.input n) → stuck new q ≡ inside n c ls p
    is ls new e = ap (leave (p.left - n)) e
  inside_stop n c s t p (Stopped why) w = tt

  -- ---- one more in a loop, of which `left` is left of the whole

  pub loop_next : (s t u : T) (c d left whole : Walker) (p o : Place) (q : Cursor) → ((ls : List Line) → walk_both c d ls p ≡ left ls p)
      → Comes takes s t left p whole o → Walks (Ok q) takes t u c p → Comes takes s u d (place_of q) whole o
  loop_next s t u c d left whole p o q is inv w =
      comes_on takes s t u d (place_of q) left p whole o inv (comes_as takes t u d (place_of q) (walk_both c d) p left p is (both_then takes c d t u p q w))

  pub loop_stop : (s t u : T) (c d left whole : Walker) (p o : Place) (h : Halt) → ((ls : List Line) → walk_both c d ls p ≡ left ls p)
      → Comes takes s t left p whole o → Walks (Err h) takes t u c p → Walks (Err h) takes s u whole o
  loop_stop s t u c d left whole p o h is inv w =
      then_walks takes (Err h) s t u left p whole o inv (walks_as takes (Err h) t u (walk_both c d) p left p is (both_stop takes c d t u p h w))

  pub loop_end : (s t : T) (left whole : Walker) (q : Cursor) (o : Place) → ((ls : List Line) → stay ls (place_of q) ≡ left ls (place_of q))
      → Comes takes s t left (place_of q) whole o → Walks (Ok q) takes s t whole o
  loop_end s t left whole q o is inv =
      then_walks takes (Ok q) s t t left (place_of q) whole o inv (walks_as takes (Ok q) t t stay (place_of q) left (place_of q) is (stays takes t q))

-- ---- in a loop

field_here : (xs : List Field) (i : ℕ) (f : Field) → i < length xs → f ≡ get_or xs i f → drop i xs ≡ f ∷ drop (i + 1) xs
field_here xs i f less is = drop-cons xs i f less ∙ ap (λ (x : Field). x ∷ drop (suc i) xs) (sym is) ∙ ap (λ (k : ℕ). f ∷ drop k xs) (sym (add-one i))

addition_here : (xs : List Addition) (i : ℕ) (a : Addition) → i < length xs → a ≡ get_or xs i a → drop i xs ≡ a ∷ drop (i + 1) xs
addition_here xs i a less is = drop-cons xs i a less ∙ ap (λ (x : Addition). x ∷ drop (suc i) xs) (sym is) ∙ ap (λ (k : ℕ). a ∷ drop k xs) (sym (add-one i))

-- the components from this one on
abbrev fields_from : List Field → ℕ → List Step → ℕ → List Bool → Walker
fields_from xs total path i s = walk_fields (fields_of (drop i xs)) total path i s

abbrev a_field : Field → ℕ → List Step → ℕ → Bool → Walker
a_field f total path i there = walk_if there (walk_value (type_of f.shape) total (path ++ (to_component i ∷ [])))

fields_at : (xs : List Field) (i : ℕ) (f : Field) (total : ℕ) (path : List Step) (s s' : List Bool) (there : Bool) (ls : List Line) (p : Place) → i < length xs → f ≡ get_or xs i f → there ≡ is_there (need_of f.need) s → s' ≡ bits_left (need_of f.need) s
    → walk_both (a_field f total path i there) (fields_from xs total path (i + 1) s') ls p ≡ fields_from xs total path i s ls p
fields_at xs i f total path s s' there ls p less is t b =
    ap₂ (λ (x : Bool) (r : List Bool). walk_both (a_field f total path i x) (fields_from xs total path (i + 1) r) ls p) t b
    ∙ ap (λ (k : ℕ). walk_both (a_field f total path i (is_there (need_of f.need) s)) (walk_fields (fields_of (drop (i + 1) xs)) total path k (bits_left (need_of f.need) s)) ls p) (add-one i)
    ∙ ap (λ (l : List Field). walk_fields (fields_of l) total path i s ls p) (sym (field_here xs i f less is))

module _ {T : Type 0} (takes : T → Line → T → Type 0) (xs : List Field) (i : ℕ) (total : ℕ) (path : List Step) (bits : List Bool) (s t : T) (whole : Walker) (o : Place) where
  module _ (f : Field) (after : List Bool) (there : Bool) (u : T) (p : Place) (less : i < length xs) (is : f ≡ get_or xs i f)
      (known : there ≡ is_there (need_of f.need) bits) (left : after ≡ bits_left (need_of f.need) bits)
      (inv : Comes takes s t (fields_from xs total path i bits) p whole o) where
    pub fields_next : (q : Cursor) → Walks (Ok q) takes t u (a_field f total path i there) p
        → Comes takes s u (fields_from xs total path (i + 1) after) (place_of q) whole o
    fields_next q w = loop_next takes s t u (a_field f total path i there) (fields_from xs total path (i + 1) after) (fields_from xs total path i bits) whole p o q
        (λ ls. fields_at xs i f total path bits after there ls p less is known left) inv w

    pub fields_stop : (h : Halt) → Walks (Err h) takes t u (a_field f total path i there) p → Walks (Err h) takes s u whole o
    fields_stop h w = loop_stop takes s t u (a_field f total path i there) (fields_from xs total path (i + 1) after) (fields_from xs total path i bits) whole p o h
        (λ ls. fields_at xs i f total path bits after there ls p less is known left) inv w

  pub fields_end : (q : Cursor) → length xs ≤ i → Comes takes s t (fields_from xs total path i bits) (place_of q) whole o → Walks (Ok q) takes s t whole o
  fields_end q le inv = loop_end takes s t (fields_from xs total path i bits) whole q o
      (λ ls. ap (λ (l : List Field). walk_fields (fields_of l) total path i bits ls (place_of q)) (sym (drop_all i xs le))) inv

abbrev additions_from : List Addition → ℕ → List Step → ℕ → List Bool → Walker
additions_from xs total path i s = walk_additions (additions_of (drop i xs)) total path i s

abbrev an_addition : Addition → ℕ → List Step → ℕ → Bool → Walker
an_addition a total path i there = walk_if there (walk_open total (path ++ (to_addition i ∷ [])) (walk_value (type_of a.shape) total (path ++ (to_addition i ∷ []))))

additions_at : (xs : List Addition) (i : ℕ) (a : Addition) (total : ℕ) (path : List Step) (s s' : List Bool) (there : Bool) (ls : List Line) (p : Place) → i < length xs → a ≡ get_or xs i a → there ≡ first_bit s → s' ≡ later_bits s
    → walk_both (an_addition a total path i there) (additions_from xs total path (i + 1) s') ls p ≡ additions_from xs total path i s ls p
additions_at xs i a total path s s' there ls p less is t b =
    ap₂ (λ (x : Bool) (r : List Bool). walk_both (an_addition a total path i x) (additions_from xs total path (i + 1) r) ls p) t b
    ∙ ap (λ (k : ℕ). walk_both (an_addition a total path i (first_bit s)) (walk_additions (additions_of (drop (i + 1) xs)) total path k (later_bits s)) ls p) (add-one i)
    ∙ ap (λ (l : List Addition). walk_additions (additions_of l) total path i s ls p) (sym (addition_here xs i a less is))

module _ {T : Type 0} (takes : T → Line → T → Type 0) (xs : List Addition) (i : ℕ) (total : ℕ) (path : List Step) (bits : List Bool) (s t : T) (whole : Walker) (o : Place) where
  module _ (a : Addition) (after : List Bool) (there : Bool) (u : T) (p : Place) (less : i < length xs) (is : a ≡ get_or xs i a)
      (known : there ≡ first_bit bits) (left : after ≡ later_bits bits) (inv : Comes takes s t (additions_from xs total path i bits) p whole o) where
    pub additions_next : (q : Cursor) → Walks (Ok q) takes t u (an_addition a total path i there) p
        → Comes takes s u (additions_from xs total path (i + 1) after) (place_of q) whole o
    additions_next q w = loop_next takes s t u (an_addition a total path i there) (additions_from xs total path (i + 1) after) (additions_from xs total path i bits) whole p o q
        (λ ls. additions_at xs i a total path bits after there ls p less is known left) inv w

    pub additions_stop : (h : Halt) → Walks (Err h) takes t u (an_addition a total path i there) p → Walks (Err h) takes s u whole o
    additions_stop h w = loop_stop takes s t u (an_addition a total path i there) (additions_from xs total path (i + 1) after) (additions_from xs total path i bits) whole p o h
        (λ ls. additions_at xs i a total path bits after there ls p less is known left) inv w

  pub additions_end : (q : Cursor) → length xs ≤ i → Comes takes s t (additions_from xs total path i bits) (place_of q) whole o → Walks (Ok q) takes s t whole o
  additions_end q le inv = loop_end takes s t (additions_from xs total path i bits) whole q o
      (λ ls. ap (λ (l : List Addition). walk_additions (additions_of l) total path i bits ls (place_of q)) (sym (drop_all i xs le))) inv

times_at : (c : ℕ → Walker) (n m i : ℕ) (ls : List Line) (p : Place) → n ≡ suc m → walk_both (c i) (walk_times c (i + 1) m) ls p ≡ walk_times c i n ls p
times_at c n m i ls p is =
    ap (λ (k : ℕ). walk_both (c i) (walk_times c k m) ls p) (add-one i) ∙ ap (λ (k : ℕ). walk_times c i k ls p) (sym is)

-- n elements are left, of which the first has the number i
module _ {T : Type 0} (takes : T → Line → T → Type 0) (c : ℕ → Walker) (n i : ℕ) (s t : T) (whole : Walker) (o : Place) where
  pub times_next : (m : ℕ) (u : T) (p : Place) (q : Cursor) → n ≡ suc m → Comes takes s t (walk_times c i n) p whole o → Walks (Ok q) takes t u (c i) p
      → Comes takes s u (walk_times c (i + 1) m) (place_of q) whole o
  times_next m u p q is inv w = loop_next takes s t u (c i) (walk_times c (i + 1) m) (walk_times c i n) whole p o q (λ ls. times_at c n m i ls p is) inv w

  pub times_stop : (m : ℕ) (u : T) (p : Place) (h : Halt) → n ≡ suc m → Comes takes s t (walk_times c i n) p whole o → Walks (Err h) takes t u (c i) p
      → Walks (Err h) takes s u whole o
  times_stop m u p h is inv w = loop_stop takes s t u (c i) (walk_times c (i + 1) m) (walk_times c i n) whole p o h (λ ls. times_at c n m i ls p is) inv w

  pub times_end : (q : Cursor) → n ≡ 0 → Comes takes s t (walk_times c i n) (place_of q) whole o → Walks (Ok q) takes s t whole o
  times_end q is inv = loop_end takes s t (walk_times c i n) whole q o (λ ls. ap (λ (k : ℕ). walk_times c i k ls (place_of q)) (sym is)) inv

pub times_start : {T : Type 0} (takes : T → Line → T → Type 0) (s : T) (c : ℕ → Walker) (n : ℕ) (p : Place)
    → Comes takes s s (walk_times c 0 (n - 0)) p (walk_times c 0 n) p
times_start takes s c n p = let e : n - 0 ≡ n = omega arith in here takes s (walk_times c 0 (n - 0)) p (walk_times c 0 n) p (λ ls. ap (λ (k : ℕ). walk_times c 0 k ls p) e)

-- ---- alternatives

value_step : (b x : Bool) (c r s : Walker) → (true ≡ x → r ≡ s) → true ≡ (b || x) → walk_choose b c r ≡ walk_choose b c s
value_step true x c r s more e = refl
value_step false x c r s more e = more e

root_value : (xs : List Alt) (after : Alternatives) (total : ℕ) (path : List Step) (t : Tag) → true ≡ has_tag t (root_of xs no_alternatives) → walk_alternative (root_of xs no_alternatives) total path t ≡ walk_alternative (root_of xs after) total path t
root_value [] after total path t e = absurd (cc)
root_value (a ∷ xs) after total path t e = value_step (same_tag a.tag t) (has_tag t (root_of xs no_alternatives)) (walk_value (type_of a.shape) total path) (walk_alternative (root_of xs no_alternatives) total path t) (walk_alternative (root_of xs after) total path t) (root_value xs after total path t) e

later_step : (b x : Bool) (c r s : Walker) → (false ≡ x → r ≡ s) → false ≡ (b || x) → r ≡ walk_choose b c s
later_step true x c r s more e = absurd (cc)
later_step false x c r s more e = more e

later_value : (xs : List Alt) (after : Alternatives) (total : ℕ) (path : List Step) (t : Tag) → false ≡ has_tag t (root_of xs no_alternatives) → walk_alternative after total path t ≡ walk_alternative (root_of xs after) total path t
later_value [] after total path t e = refl
later_value (a ∷ xs) after total path t e = later_step (same_tag a.tag t) (has_tag t (root_of xs no_alternatives)) (walk_value (type_of a.shape) total path) (walk_alternative after total path t) (walk_alternative (root_of xs after) total path t) (later_value xs after total path t) e

-- what follows the tag
abbrev after_tag : Bool → Alternatives → ℕ → List Step → Tag → Walker
after_tag extensible more total path t = walk_chosen extensible more (walk_alternative more total path t) (walk_unknown total path) t

pub choice_later : (xs more : List Alt) (total : ℕ) (path : List Step) (t : Tag) → false ≡ has_tag t (root_of xs no_alternatives) → walk_later (later_of more) total path t ≡ after_tag true (root_of xs (later_of more)) total path t
choice_later xs more total path t none =
    ap₂ (λ (b : Bool) (c : Walker). walk_choose b c (walk_unknown total path)) (sym (not_in_root xs (later_of more) t none)) (later_value xs (later_of more) total path t none)

none_is : (b : Bool) (c d : Walker) → false ≡ b → stuck ≡ walk_choose b c (walk_choose false d stuck)
none_is b c d e = ap (λ (x : Bool). walk_choose x c stuck) e

pub choice_none : (xs : List Alt) (total : ℕ) (path : List Step) (t : Tag) → false ≡ has_tag t (root_of xs no_alternatives) → stuck ≡ after_tag false (root_of xs no_alternatives) total path t
choice_none xs total path t none = none_is (has_tag t (root_of xs no_alternatives)) (walk_alternative (root_of xs no_alternatives) total path t) (walk_unknown total path) none

abbrev root_or : ℕ → List Step → Option Alt → Walker
root_or total path None = stuck
root_or total path (Some a) = walk_value (type_of a.shape) total path

root_step : (b : Bool) (a : Alt) (total : ℕ) (path : List Step) (rest : Walker) (p : Option Alt) → rest ≡ root_or total path p → walk_choose b (walk_value (type_of a.shape) total path) rest ≡ root_or total path (if b then Some a else p)
root_step true a total path rest p e = refl
root_step false a total path rest p e = e

root_first : (xs : List Alt) (total : ℕ) (path : List Step) (t : Tag) → walk_alternative (root_of xs no_alternatives) total path t ≡ root_or total path (first_with t xs)
root_first [] total path t = refl
root_first (a ∷ xs) total path t = root_step (same_tag a.tag t) a total path (walk_alternative (root_of xs no_alternatives) total path t) (first_with t xs) (root_first xs total path t)

root_found : (xs : List Alt) (a : Alt) (total : ℕ) (path : List Step) (t : Tag) → Some a ≡ first_with t xs → walk_value (type_of a.shape) total path ≡ walk_alternative (root_of xs no_alternatives) total path t
root_found xs a total path t is = ap (root_or total path) is ∙ sym (root_first xs total path t)

has_step : (b x : Bool) (y a : Alt) (p : Option Alt) → (Some a ≡ p → true ≡ x) → Some a ≡ (if b then Some y else p) → true ≡ (b || x)
has_step true x y a p f e = refl
has_step false x y a p f e = f e

has_first : (xs : List Alt) (a : Alt) (t : Tag) → Some a ≡ first_with t xs → true ≡ has_tag t (root_of xs no_alternatives)
has_first [] a t e = absurd (cc)
has_first (x ∷ xs) a t e = has_step (same_tag x.tag t) (has_tag t (root_of xs no_alternatives)) x a (first_with t xs) (has_first xs a t) e

pub choice_root : (extensible : Bool) (xs : List Alt) (after : Alternatives) (a : Alt) (total : ℕ) (path : List Step) (t : Tag) → Some a ≡ first_with t xs → walk_value (type_of a.shape) total path ≡ after_tag extensible (root_of xs after) total path t
choice_root extensible xs after a total path t is =
    let has = has_first xs a t is in
    root_found xs a total path t is
    ∙ root_value xs after total path t has
    ∙ ap (λ (b : Bool). walk_choose b (walk_alternative (root_of xs after) total path t) (walk_choose extensible (walk_unknown total path) stuck)) (sym (in_root xs after t has))

abbrev later_or : ℕ → List Step → Option Alt → Walker
later_or total path None = walk_unknown total path
later_or total path (Some a) = walk_open total path (walk_value (type_of a.shape) total path)

last_step : (b c : Bool) (a : Alt) (total : ℕ) (path : List Step) (rest : Walker) (p : Option Alt) → walk_choose c rest (walk_unknown total path) ≡ later_or total path p
    → walk_choose (b || c) (walk_choose b (walk_open total path (walk_value (type_of a.shape) total path)) rest) (walk_unknown total path) ≡ later_or total path (if b then Some a else p)
last_step true c a total path rest p e = refl
last_step false c a total path rest p e = e

later_first : (xs : List Alt) (total : ℕ) (path : List Step) (t : Tag) → walk_later (later_of xs) total path t ≡ later_or total path (first_with t xs)
later_first [] total path t = refl
later_first (a ∷ xs) total path t = last_step (same_tag a.tag t) (has_tag t (later_of xs)) a total path (walk_alternative (later_of xs) total path t) (first_with t xs) (later_first xs total path t)

pub later_found : (xs : List Alt) (a : Alt) (total : ℕ) (path : List Step) (t : Tag) → Some a ≡ first_with t xs → walk_open total path (walk_value (type_of a.shape) total path) ≡ walk_later (later_of xs) total path t
later_found xs a total path t is = ap (later_or total path) is ∙ sym (later_first xs total path t)

pub later_none : (xs : List Alt) (total : ℕ) (path : List Step) (t : Tag) → None ≡ first_with t xs → walk_unknown total path ≡ walk_later (later_of xs) total path t
later_none xs total path t is = ap (later_or total path) is ∙ sym (later_first xs total path t)

-- ---- additions that the type doesn't know

rest_unmarked : (total : ℕ) (path : List Step) (i : ℕ) (s : List Bool) (ls : List Line) (p : Place) → first_bit s ≡ false → walk_rest total path (suc i) (later_bits s) ls p ≡ walk_rest total path i s ls p
unfolding walk_both stay
rest_unmarked total path i [] ls p e = refl
rest_unmarked total path i (true ∷ s) ls p e = absurd (cc)
rest_unmarked total path i (false ∷ s) ls p e = refl

rest_marked : (total : ℕ) (path : List Step) (i : ℕ) (s : List Bool) (ls : List Line) (p : Place) → first_bit s ≡ true → walk_both (walk_unknown total (path ++ (to_addition i ∷ []))) (walk_rest total path (suc i) (later_bits s)) ls p ≡ walk_rest total path i s ls p
rest_marked total path i [] ls p e = absurd (cc)
rest_marked total path i (true ∷ s) ls p e = refl
rest_marked total path i (false ∷ s) ls p e = absurd (cc)

abbrev rest_from : ℕ → List Step → ℕ → List Bool → Walker
rest_from total path i s = walk_rest total path i (drop i s)

one_more : (total : ℕ) (path : List Step) (i : ℕ) (s : List Bool) (ls : List Line) (p : Place) → walk_rest total path (i + 1) (drop (i + 1) s) ls p ≡ walk_rest total path (suc i) (later_bits (drop i s)) ls p
one_more total path i s ls p = ap₂ (λ (k : ℕ) (r : List Bool). walk_rest total path k r ls p) (add-one i) (drop_next i s)

module _ {T : Type 0} (takes : T → Line → T → Type 0) (total : ℕ) (path : List Step) (i : ℕ) (bits : List Bool) (s t : T) (whole : Walker) (o : Place) where
  pub unmarked_next : (p : Place) → first_bit (drop i bits) ≡ false → Comes takes s t (rest_from total path i bits) p whole o
      → Comes takes s t (rest_from total path (i + 1) bits) p whole o
  unmarked_next p e inv = comes_on takes s t t (rest_from total path (i + 1) bits) p (rest_from total path i bits) p whole o inv
      (here takes t (rest_from total path (i + 1) bits) p (rest_from total path i bits) p
      (λ ls. one_more total path i bits ls p ∙ rest_unmarked total path i (drop i bits) ls p e))

  marked_at : (ls : List Line) (p : Place) → first_bit (drop i bits) ≡ true
      → walk_both (walk_unknown total (path ++ (to_addition i ∷ []))) (rest_from total path (i + 1) bits) ls p ≡ rest_from total path i bits ls p
  marked_at ls p e =
      ap₂ (λ (k : ℕ) (r : List Bool). walk_both (walk_unknown total (path ++ (to_addition i ∷ []))) (walk_rest total path k r) ls p) (add-one i) (drop_next i bits)
      ∙ rest_marked total path i (drop i bits) ls p e

  pub marked_next : (u : T) (p : Place) (q : Cursor) → first_bit (drop i bits) ≡ true → Comes takes s t (rest_from total path i bits) p whole o
      → Walks (Ok q) takes t u (walk_unknown total (path ++ (to_addition i ∷ []))) p → Comes takes s u (rest_from total path (i + 1) bits) (place_of q) whole o
  marked_next u p q e inv w = loop_next takes s t u (walk_unknown total (path ++ (to_addition i ∷ []))) (rest_from total path (i + 1) bits) (rest_from total path i bits) whole p o q
      (λ ls. marked_at ls p e) inv w

  pub marked_stop : (u : T) (p : Place) (h : Halt) → first_bit (drop i bits) ≡ true → Comes takes s t (rest_from total path i bits) p whole o
      → Walks (Err h) takes t u (walk_unknown total (path ++ (to_addition i ∷ []))) p → Walks (Err h) takes s u whole o
  marked_stop u p h e inv w = loop_stop takes s t u (walk_unknown total (path ++ (to_addition i ∷ []))) (rest_from total path (i + 1) bits) (rest_from total path i bits) whole p o h
      (λ ls. marked_at ls p e) inv w

  pub marked_end : (q : Cursor) → length bits ≤ i → Comes takes s t (rest_from total path i bits) (place_of q) whole o → Walks (Ok q) takes s t whole o
  marked_end q le inv = loop_end takes s t (rest_from total path i bits) whole q o
      (λ ls. ap (λ (r : List Bool). walk_rest total path i r ls (place_of q)) (sym (drop_past i bits le))) inv

-- ---- the additions of a SEQUENCE

abbrev extended : List Addition → Spot → (List Bool → Walker) → List Bool → Walker
extended xs spot c s = walk_both (c s) (walk_rest spot.total (path_in spot) (length xs) (drop (length xs) s))

abbrev seen : Map → List Bool × Bool
seen y = (bits_in y.bits, y.is_canonical)

extension_is : (xs : List Addition) (x : Bool) (spot : Spot) (c : List Bool → Walker) (ls : List Line) (p : Place) → x ≡ true
    → row spot.total (path_in spot) Bitmap (addition_map (length xs)) (λ y. extended xs spot c y.0) ls p
    ≡ walk_extension x (additions_of xs) spot.total (path_in spot) c ls p
extension_is xs x spot c ls p is =
    ap (λ (n : ℕ). row spot.total (path_in spot) Bitmap (addition_map n) (λ y. walk_both (c y.0) (walk_rest spot.total (path_in spot) n (drop n y.0))) ls p) (sym (count_is xs))
    ∙ ap (λ (b : Bool). walk_extension b (additions_of xs) spot.total (path_in spot) c ls p) (sym is)

module _ {T : Type 0} (takes : T → Line → T → Type 0) where
  pub extension_none : (more : Additions) (x : Bool) (total : ℕ) (path : List Step) (c : List Bool → Walker) (s : T) (q : Cursor) → x ≡ false
      → Walks (Ok q) takes s s (walk_extension x more total path c) (place_of q)
  extension_none more x total path c s q is =
      same_walks takes (Ok q) s s _ _ (place_of q) (ap (λ (b : Bool). walk_extension b more total path c) (sym is)) (stays takes s q)

  module _ (xs : List Addition) (x : Bool) (spot : Spot) (c : List Bool → Walker) (s t : T) (p q : Cursor) (answer : Result Map Stop) (is : x ≡ true)
      (e : outcome seen answer q ≡ addition_map (length xs) (place_of p)) where
    pub extension_then : (y : Map) → ReadsRow takes spot Bitmap s p q answer t (Ok y)
        → Comes takes s t (extended xs spot c (bits_in y.bits)) (place_of q) (walk_extension x (additions_of xs) spot.total (path_in spot) c) (place_of p)
    extension_then y h = comes_as takes s t _ _ _ _ _ _ (λ ls. extension_is xs x spot c ls (place_of p) is)
        (row_then takes seen spot Bitmap s t p q answer (addition_map (length xs)) (λ z. extended xs spot c z.0) e y h)

    pub extension_stop : (h : Halt) → ReadsRow takes spot Bitmap s p q answer t (Err h)
        → Walks (Err h) takes s t (walk_extension x (additions_of xs) spot.total (path_in spot) c) (place_of p)
    extension_stop h k = walks_as takes (Err h) s t _ _ _ _ (λ ls. extension_is xs x spot c ls (place_of p) is)
        (row_stop takes seen spot Bitmap s t p q answer (addition_map (length xs)) (λ z. extended xs spot c z.0) e h k)

-- ---- a SEQUENCE with an extension marker

abbrev after_bits : Fields → Additions → Spot → List Bool → Walker
after_bits fs more spot s = walk_both (walk_fields fs spot.total (path_in spot) 0 (later_bits s))
    (walk_extension (first_bit s) more spot.total (path_in spot) (walk_additions more spot.total (path_in spot) 0))

module _ {T : Type 0} (takes : T → Line → T → Type 0) (fs : Fields) (more : Additions) (spot : Spot) (k : ℕ) (s t : T) (p q : Cursor)
    (answer : Result Bits Stop) (many : k ≡ suc (optional fs)) (e : outcome bits_in answer q ≡ preamble k (place_of p)) where
  read : outcome bits_in answer q ≡ preamble (suc (optional fs)) (place_of p)
  read = e ∙ ap (λ (i : ℕ). preamble i (place_of p)) many

  pub bits_stop : (h : Halt) → ReadsRow takes spot Preamble s p q answer t (Err h)
      → Walks (Err h) takes s t (walk_value (extensible_sequence fs more) spot.total (path_in spot)) (place_of p)
  bits_stop h r = row_stop takes bits_in spot Preamble s t p q answer (preamble (suc (optional fs))) (after_bits fs more spot) read h r

  module _ (y : Bits) (r : ReadsRow takes spot Preamble s p q answer t (Ok y)) (bits : List Bool) (later : bits ≡ later_bits (bits_in y)) where
    run : Comes takes s t (after_bits fs more spot (bits_in y)) (place_of q) (walk_value (extensible_sequence fs more) spot.total (path_in spot)) (place_of p)
    run = row_then takes bits_in spot Preamble s t p q answer (preamble (suc (optional fs))) (after_bits fs more spot) read y r

    abbrev root : List Bool → Walker
    root l = walk_fields fs spot.total (path_in spot) 0 l

    abbrev others : Bool → Walker
    others b = walk_extension b more spot.total (path_in spot) (walk_additions more spot.total (path_in spot) 0)

    pub root_stop : (h : Halt) (u : T) → Walks (Err h) takes t u (root bits) (place_of q)
        → Walks (Err h) takes s u (walk_value (extensible_sequence fs more) spot.total (path_in spot)) (place_of p)
    root_stop h u w =
        then_walks takes (Err h) s t u _ (place_of q) _ (place_of p) run
        (both_stop takes (root (later_bits (bits_in y))) (others (first_bit (bits_in y))) t u (place_of q) h (same_walks takes (Err h) t u _ _ (place_of q) (ap root later) w))

    pub root_then : (end : Cursor) (u v : T) (x : Bool) (result : Result Cursor Halt) → Walks (Ok end) takes t u (root bits) (place_of q) → x ≡ first_bit (bits_in y)
        → Walks result takes u v (others x) (place_of end)
        → Walks result takes s v (walk_value (extensible_sequence fs more) spot.total (path_in spot)) (place_of p)
    root_then end u v x result w first z =
        then_walks takes result s t v _ (place_of q) _ (place_of p) run
        (then_walks takes result t u v _ (place_of end) _ (place_of q)
        (both_then takes (root (later_bits (bits_in y))) (others (first_bit (bits_in y))) t u (place_of q) end (same_walks takes (Ok end) t u _ _ (place_of q) (ap root later) w))
        (same_walks takes result u v _ _ (place_of end) (ap others first) z))

-- ---- a CHOICE

module _ {T : Type 0} (takes : T → Line → T → Type 0) (extensible : Bool) (more : Alternatives) (spot : Spot) (s t : T) (p q : Cursor)
    (answer : Result Tag Stop) (e : outcome (λ x. x) answer q ≡ tag (place_of p)) where
  pub tag_stop : (h : Halt) → ReadsRow takes spot TagRole s p q answer t (Err h)
      → Walks (Err h) takes s t (walk_value (choice extensible more) spot.total (path_in spot)) (place_of p)
  tag_stop h r = row_stop takes (λ x. x) spot TagRole s t p q answer tag (after_tag extensible more spot.total (path_in spot ++ (to_chosen ∷ []))) e h r

  -- c: what follows the tag, of an alternative
  pub tag_then : (y : Tag) (inner : Spot) (c : ℕ → List Step → Walker) (result : Result Cursor Halt) (u : T) → ReadsRow takes spot TagRole s p q answer t (Ok y)
      → Reaches spot to_chosen (Ok inner)
      → c spot.total (path_in spot ++ (to_chosen ∷ [])) ≡ after_tag extensible more spot.total (path_in spot ++ (to_chosen ∷ [])) y
      → Walks result takes t u (c inner.total (path_in inner)) (place_of q)
      → Walks result takes s u (walk_value (choice extensible more) spot.total (path_in spot)) (place_of p)
  tag_then y inner c result u r at_it is w =
      then_walks takes result s t u _ (place_of q) _ (place_of p)
      (row_then takes (λ x. x) spot TagRole s t p q answer tag (after_tag extensible more spot.total (path_in spot ++ (to_chosen ∷ []))) e y r)
      (same_walks takes result t u _ _ (place_of q) is (at_inner takes c spot inner to_chosen result t u (place_of q) at_it w))
