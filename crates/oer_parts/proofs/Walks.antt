-- Components, additions and elements as parts that follow one another.
use Rattle.std.proofs.Common.{◌≡◌, arith, ℕ, zero, suc, ◌+◌, ◌<◌, ◌≤◌, Bool, true, false, eqb, List, [], ◌∷◌, ◌++◌, length, take, drop, get_or, Option, Some, None, refl, sym, ap, ap₂, ◌∙◌, string_bytes}
use Rattle.std.proofs.lemmas.Bool.{eq-eqb, ne_eqb}
use Rattle.oer_units.specs.Reader.{Outcome, Place, Reader, give, got}
use Rattle.oer_units.specs.Reading.{counted_octets, open_type}
use Rattle.oer_units.proofs.Closure.{got_place}
use Rattle.oer_model.specs.AsnType.{AsnType, Need, default, may, must}
use Rattle.oer_model.specs.Bits.{first_bit, later_bits}
use Rattle.oer_model.specs.Checking.{both, check_additions, check_fields, check_octets, check_open, check_times, check_unknown, check_value}
use Rattle.oer_model.specs.Constraints.{optional, optional_with}
use Rattle.oer_model.specs.Parts.{Part, Step, addition_parts, field_parts, first_by_bit, first_by_need, item_parts, octets_of, same_step, to_addition, to_component, to_item, unknown_parts}
use Rattle.oer_values.specs.ShapeView.{additions_of, fields_of, need_of, type_of}
use Rattle.oer_values.specs.declared.shape.Addition.{Addition}
use Rattle.oer_values.specs.declared.shape.Field.{Field}
use Rattle.oer_model.specs.SharedSteps.{bits_left, is_there}
use Rattle.oer_checker.specs.Steps.{check_if, check_there}
use Rattle.oer_checker.proofs.BitLists.{drop_none}
use Rattle.oer_parts.proofs.Entries.{Ends, Entry, NotIn, Passes, ends_next, parts_next, passes_next, walked}
use Rattle.oer_checker.proofs.FieldSteps.{by_bit, field_is, give_both}
use Rattle.oer_parts.proofs.Pairs.{counted_got, open_octets, there_octets, value_octets}

other : (i j : ℕ) → i < j → eqb i j ≡ false
other i j less = ne_eqb i j (λ e. absurd (omega (arith, e)))

other_back : (i j : ℕ) → j < i → eqb i j ≡ false
other_back i j less = ne_eqb i j (λ e. absurd (omega (arith, e)))

pub itself : (i : ℕ) → eqb i i ≡ true
itself i = eq-eqb i i refl

pub nothing : (p q : Place) (f : Bool) → got f q ≡ give true p → p ≡ q
unfolding give
nothing p q f e = sym (got_place f true q p e)

no_ends : (p q : Place) → p ≡ q → Ends (give true p) q
unfolding give
no_ends p q e = (true, ap (λ (r : Place). got true r) (sym e))

abbrev none_read : Place → Outcome (List Part)
none_read q = got [] q

no_parts : (p q : Place) → p ≡ q → none_read q ≡ give [] p
unfolding give
no_parts p q e = ap none_read (sym e)

-- ---- components

abbrev pub field_entry : Field → ℕ → List Bool → Entry
field_entry x k s = record { step = to_component k; type = Some (type_of x.shape); check = check_there (need_of x.need) (type_of x.shape); octets = octets_of (check_value (type_of x.shape)); there = is_there (need_of x.need) s }

abbrev pub field_entries : List Field → ℕ → List Bool → List Entry
field_entries [] k s = []
field_entries (x ∷ xs) k s = field_entry x k s ∷ field_entries xs (suc k) (bits_left (need_of x.need) s)

pub fields_pass : (xs : List Field) (k : ℕ) (s : List Bool) (p q : Place) (f : Bool) → got f q ≡ check_fields (fields_of xs) s p → Passes (field_entries xs k s) p q
fields_pass [] k s p q f e = nothing p q f e
fields_pass (x ∷ xs) k s p q f e =
    let s' = bits_left (need_of x.need) s in
    passes_next (field_entry x k s) (field_entries xs (suc k) s') (check_fields (fields_of xs) s') (is_there (need_of x.need) s) p q f refl
    (λ p q f e. there_octets (need_of x.need) (type_of x.shape) p q f e)
    (λ r h e. fields_pass xs (suc k) s' r q h e)
    (e ∙ sym (field_is (string_bytes x.name) (need_of x.need) (type_of x.shape) (fields_of xs) s p))

pub fields_ends : (xs : List Field) (k : ℕ) (s : List Bool) (p q : Place) → Passes (field_entries xs k s) p q → Ends (check_fields (fields_of xs) s p) q
fields_ends [] k s p q w = no_ends p q w
fields_ends (x ∷ xs) k s p q w =
    let s' = bits_left (need_of x.need) s in
    let m = ends_next (field_entry x k s) (field_entries xs (suc k) s') (check_fields (fields_of xs) s') (is_there (need_of x.need) s) p q (λ r w. fields_ends xs (suc k) s' r q w) w in
    (m.0, m.1 ∙ field_is (string_bytes x.name) (need_of x.need) (type_of x.shape) (fields_of xs) s p)

by_need : (need : Need) (step : Step) (V : Option AsnType) (r : Reader (List ℕ)) (rest : List Bool → Reader (List Part)) (s : List Bool) (p : Place) → first_by_bit (is_there need s) step V r (rest (bits_left need s)) p ≡ first_by_need need step V r rest s p
by_need must step V r rest s p = refl
by_need may step V r rest s p = refl
by_need (default d) step V r rest s p = refl

pub fields_read : (xs : List Field) (k : ℕ) (s : List Bool) (p q : Place) (w : Passes (field_entries xs k s) p q) → got (walked (field_entries xs k s) p q w) q ≡ field_parts (fields_of xs) k s p
fields_read [] k s p q w = no_parts p q w
fields_read (x ∷ xs) k s p q w =
    let s' = bits_left (need_of x.need) s in
    let T = type_of x.shape in
    parts_next (field_entry x k s) (field_entries xs (suc k) s') (field_parts (fields_of xs) (suc k) s') (is_there (need_of x.need) s) p q w (λ r w. fields_read xs (suc k) s' r q w)
    ∙ by_need (need_of x.need) (to_component k) (Some T) (octets_of (check_value T)) (field_parts (fields_of xs) (suc k)) s p

pub fields_miss : (xs : List Field) (k : ℕ) (s : List Bool) (step : Step) → ((i : ℕ) → same_step (to_component i) step ≡ false) → NotIn step (field_entries xs k s)
fields_miss [] k s step none = tt
fields_miss (x ∷ xs) k s step none = (none k, fields_miss xs (suc k) (bits_left (need_of x.need) s) step none)

pub fields_before : (xs : List Field) (k : ℕ) (s : List Bool) (n : ℕ) → k + length xs ≤ n → NotIn (to_component n) (field_entries xs k s)
fields_before [] k s n le = tt
fields_before (x ∷ xs) k s n le = (other k n (omega arith), fields_before xs (suc k) (bits_left (need_of x.need) s) n (omega arith))

fields_after : (xs : List Field) (k : ℕ) (s : List Bool) (n : ℕ) → n < k → NotIn (to_component n) (field_entries xs k s)
fields_after [] k s n less = tt
fields_after (x ∷ xs) k s n less = (other_back k n less, fields_after xs (suc k) (bits_left (need_of x.need) s) n (omega arith))

pub bits_after : (need : Need) (n : ℕ) (s : List Bool) → drop (optional_with need n) s ≡ drop n (bits_left need s)
bits_after must n s = refl
bits_after may n [] = sym (drop_none Bool n)
bits_after may n (b ∷ s) = refl
bits_after (default d) n [] = sym (drop_none Bool n)
bits_after (default d) n (b ∷ s) = refl

-- the entries before e, e, and those after it, among which its step isn't
abbrev pub CutAt : List Entry → List Entry → Entry → Type 0
CutAt es front e = (later : List Entry) × (es ≡ front ++ (e ∷ later)) × NotIn e.step later

pub fields_cut : (xs : List Field) (i k n : ℕ) (s : List Bool) (x : Field) → n ≡ k + i → i < length xs → x ≡ get_or xs i x → CutAt (field_entries xs k s) (field_entries (take i xs) k s) (field_entry x n (drop (optional (fields_of (take i xs))) s))
fields_cut [] i k n s x at less is = absurd (omega arith)
fields_cut (y ∷ xs) zero k n s x at less is =
    let here : k ≡ n = omega arith in
    let s' = bits_left (need_of y.need) s in
    (field_entries xs (suc k) s', ap₂ (λ (z : Field) (j : ℕ). field_entry z j s ∷ field_entries xs (suc k) s') (sym is) here, fields_after xs (suc k) s' n (omega arith))
fields_cut (y ∷ xs) (suc i) k n s x at less is =
    let s' = bits_left (need_of y.need) s in
    let o = fields_cut xs i (suc k) n s' x (omega arith) (omega arith) is in
    (o.0, ap (λ (l : List Entry). field_entry y k s ∷ l) (o.1 ∙ ap (λ (b : List Bool). field_entries (take i xs) (suc k) s' ++ (field_entry x n b ∷ o.0)) (sym (bits_after (need_of y.need) (optional (fields_of (take i xs))) s))), o.2)

-- ---- known additions

abbrev pub addition_entry : Addition → ℕ → Bool → Entry
addition_entry x k there = record { step = to_addition k; type = Some (type_of x.shape); check = check_open (check_value (type_of x.shape)); octets = open_type (octets_of (check_value (type_of x.shape))); there = there }

abbrev pub addition_entries : List Addition → ℕ → List Bool → List Entry
addition_entries [] k s = []
addition_entries (x ∷ xs) k s = addition_entry x k (first_bit s) ∷ addition_entries xs (suc k) (later_bits s)

pub additions_pass : (xs : List Addition) (k : ℕ) (s : List Bool) (p q : Place) (f : Bool) → got f q ≡ check_additions (additions_of xs) s p → Passes (addition_entries xs k s) p q
additions_pass [] k s p q f e = nothing p q f e
additions_pass (x ∷ xs) k s p q f e =
    let C = check_open (check_value (type_of x.shape)) in
    passes_next (addition_entry x k (first_bit s)) (addition_entries xs (suc k) (later_bits s)) (check_additions (additions_of xs) (later_bits s)) (first_bit s) p q f refl
    (λ p q f e. open_octets (check_value (type_of x.shape)) p q f e)
    (λ r h e. additions_pass xs (suc k) (later_bits s) r q h e)
    (e ∙ sym (by_bit (first_bit s) C (check_additions (additions_of xs) (later_bits s)) p))

pub additions_ends : (xs : List Addition) (k : ℕ) (s : List Bool) (p q : Place) → Passes (addition_entries xs k s) p q → Ends (check_additions (additions_of xs) s p) q
additions_ends [] k s p q w = no_ends p q w
additions_ends (x ∷ xs) k s p q w =
    let C = check_open (check_value (type_of x.shape)) in
    let m = ends_next (addition_entry x k (first_bit s)) (addition_entries xs (suc k) (later_bits s)) (check_additions (additions_of xs) (later_bits s)) (first_bit s) p q (λ r w. additions_ends xs (suc k) (later_bits s) r q w) w in
    (m.0, m.1 ∙ by_bit (first_bit s) C (check_additions (additions_of xs) (later_bits s)) p)

pub additions_read : (xs : List Addition) (k : ℕ) (s : List Bool) (p q : Place) (w : Passes (addition_entries xs k s) p q) → got (walked (addition_entries xs k s) p q w) q ≡ addition_parts (additions_of xs) k s p
additions_read [] k s p q w = no_parts p q w
additions_read (x ∷ xs) k s p q w =
    parts_next (addition_entry x k (first_bit s)) (addition_entries xs (suc k) (later_bits s)) (addition_parts (additions_of xs) (suc k) (later_bits s)) (first_bit s) p q w (λ r w. additions_read xs (suc k) (later_bits s) r q w)

pub additions_miss : (xs : List Addition) (k : ℕ) (s : List Bool) (step : Step) → ((i : ℕ) → same_step (to_addition i) step ≡ false) → NotIn step (addition_entries xs k s)
additions_miss [] k s step none = tt
additions_miss (x ∷ xs) k s step none = (none k, additions_miss xs (suc k) (later_bits s) step none)

pub additions_before : (xs : List Addition) (k : ℕ) (s : List Bool) (n : ℕ) → k + length xs ≤ n → NotIn (to_addition n) (addition_entries xs k s)
additions_before [] k s n le = tt
additions_before (x ∷ xs) k s n le = (other k n (omega arith), additions_before xs (suc k) (later_bits s) n (omega arith))

additions_after : (xs : List Addition) (k : ℕ) (s : List Bool) (n : ℕ) → n < k → NotIn (to_addition n) (addition_entries xs k s)
additions_after [] k s n less = tt
additions_after (x ∷ xs) k s n less = (other_back k n less, additions_after xs (suc k) (later_bits s) n (omega arith))

bit_after : (n : ℕ) (s : List Bool) → drop (suc n) s ≡ drop n (later_bits s)
bit_after n [] = sym (drop_none Bool n)
bit_after n (b ∷ s) = refl

pub additions_cut : (xs : List Addition) (i k n : ℕ) (s : List Bool) (x : Addition) → n ≡ k + i → i < length xs → x ≡ get_or xs i x → CutAt (addition_entries xs k s) (addition_entries (take i xs) k s) (addition_entry x n (first_bit (drop i s)))
additions_cut [] i k n s x at less is = absurd (omega arith)
additions_cut (y ∷ xs) zero k n s x at less is =
    let here : k ≡ n = omega arith in
    (addition_entries xs (suc k) (later_bits s), ap₂ (λ (z : Addition) (j : ℕ). addition_entry z j (first_bit s) ∷ addition_entries xs (suc k) (later_bits s)) (sym is) here, additions_after xs (suc k) (later_bits s) n (omega arith))
additions_cut (y ∷ xs) (suc i) k n s x at less is =
    let o = additions_cut xs i (suc k) n (later_bits s) x (omega arith) (omega arith) is in
    (o.0, ap (λ (l : List Entry). addition_entry y k (first_bit s) ∷ l) (o.1 ∙ ap (λ (b : List Bool). addition_entries (take i xs) (suc k) (later_bits s) ++ (addition_entry x n (first_bit b) ∷ o.0)) (sym (bit_after i s))), o.2)

-- ---- unknown additions

abbrev pub unknown_entry : ℕ → Bool → Entry
unknown_entry k there = record { step = to_addition k; type = None; check = check_octets; octets = counted_octets; there = there }

abbrev pub unknown_entries : List Bool → ℕ → List Entry
unknown_entries [] k = []
unknown_entries (b ∷ s) k = unknown_entry k b ∷ unknown_entries s (suc k)

one_unknown : (b : Bool) (s : List Bool) (p : Place) → both (check_if b check_octets) (check_unknown s) p ≡ check_unknown (b ∷ s) p
one_unknown true s p = refl
one_unknown false s p = give_both (check_unknown s) p

pub unknown_pass : (s : List Bool) (k : ℕ) (p q : Place) (f : Bool) → got f q ≡ check_unknown s p → Passes (unknown_entries s k) p q
unknown_pass [] k p q f e = nothing p q f e
unknown_pass (b ∷ s) k p q f e =
    passes_next (unknown_entry k b) (unknown_entries s (suc k)) (check_unknown s) b p q f refl
    (λ p q f e. counted_got p q f e)
    (λ r h e. unknown_pass s (suc k) r q h e)
    (e ∙ sym (one_unknown b s p))

pub unknown_ends : (s : List Bool) (k : ℕ) (p q : Place) → Passes (unknown_entries s k) p q → Ends (check_unknown s p) q
unknown_ends [] k p q w = no_ends p q w
unknown_ends (b ∷ s) k p q w =
    let m = ends_next (unknown_entry k b) (unknown_entries s (suc k)) (check_unknown s) b p q (λ r w. unknown_ends s (suc k) r q w) w in
    (m.0, m.1 ∙ one_unknown b s p)

one_read : (b : Bool) (s : List Bool) (k : ℕ) (p : Place) → first_by_bit b (to_addition k) None counted_octets (unknown_parts (suc k) s) p ≡ unknown_parts k (b ∷ s) p
one_read true s k p = refl
one_read false s k p = refl

pub unknown_read : (s : List Bool) (k : ℕ) (p q : Place) (w : Passes (unknown_entries s k) p q) → got (walked (unknown_entries s k) p q w) q ≡ unknown_parts k s p
unknown_read [] k p q w = no_parts p q w
unknown_read (b ∷ s) k p q w =
    parts_next (unknown_entry k b) (unknown_entries s (suc k)) (unknown_parts (suc k) s) b p q w (λ r w. unknown_read s (suc k) r q w)
    ∙ one_read b s k p

pub unknown_miss : (s : List Bool) (k : ℕ) (step : Step) → ((i : ℕ) → same_step (to_addition i) step ≡ false) → NotIn step (unknown_entries s k)
unknown_miss [] k step none = tt
unknown_miss (b ∷ s) k step none = (none k, unknown_miss s (suc k) step none)

pub unknown_before : (s : List Bool) (k n : ℕ) → k + length s ≤ n → NotIn (to_addition n) (unknown_entries s k)
unknown_before [] k n le = tt
unknown_before (b ∷ s) k n le = (other k n (omega arith), unknown_before s (suc k) n (omega arith))

pub unknown_after : (s : List Bool) (k n : ℕ) → n < k → NotIn (to_addition n) (unknown_entries s k)
unknown_after [] k n less = tt
unknown_after (b ∷ s) k n less = (other_back k n less, unknown_after s (suc k) n (omega arith))

pub unknown_cut : (s : List Bool) (i k n : ℕ) → n ≡ k + i → i < length s → CutAt (unknown_entries s k) (unknown_entries (take i s) k) (unknown_entry n (first_bit (drop i s)))
unknown_cut [] i k n at less = absurd (omega arith)
unknown_cut (b ∷ s) zero k n at less =
    let here : k ≡ n = omega arith in
    (unknown_entries s (suc k), ap (λ (j : ℕ). unknown_entry j b ∷ unknown_entries s (suc k)) here, unknown_after s (suc k) n (omega arith))
unknown_cut (b ∷ s) (suc i) k n at less =
    let o = unknown_cut s i (suc k) n (omega arith) (omega arith) in
    (o.0, ap (λ (l : List Entry). unknown_entry k b ∷ l) o.1, o.2)

-- ---- elements

abbrev pub item_entry : AsnType → ℕ → Entry
item_entry T k = record { step = to_item k; type = Some T; check = check_value T; octets = octets_of (check_value T); there = true }

abbrev pub item_entries : AsnType → ℕ → ℕ → List Entry
item_entries T k zero = []
item_entries T k (suc n) = item_entry T k ∷ item_entries T (suc k) n

pub items_pass : (T : AsnType) (k n : ℕ) (p q : Place) (f : Bool) → got f q ≡ check_times n (check_value T) p → Passes (item_entries T k n) p q
items_pass T k zero p q f e = nothing p q f e
items_pass T k (suc n) p q f e =
    passes_next (item_entry T k) (item_entries T (suc k) n) (check_times n (check_value T)) true p q f refl
    (λ p q f e. (_, value_octets (check_value T) p q f e))
    (λ r h e. items_pass T (suc k) n r q h e)
    e

pub items_ends : (T : AsnType) (k n : ℕ) (p q : Place) → Passes (item_entries T k n) p q → Ends (check_times n (check_value T) p) q
items_ends T k zero p q w = no_ends p q w
items_ends T k (suc n) p q w = ends_next (item_entry T k) (item_entries T (suc k) n) (check_times n (check_value T)) true p q (λ r w. items_ends T (suc k) n r q w) w

pub items_read : (T : AsnType) (k n : ℕ) (p q : Place) (w : Passes (item_entries T k n) p q) → got (walked (item_entries T k n) p q w) q ≡ item_parts T k n p
items_read T k zero p q w = no_parts p q w
items_read T k (suc n) p q w = parts_next (item_entry T k) (item_entries T (suc k) n) (item_parts T (suc k) n) true p q w (λ r w. items_read T (suc k) n r q w)

pub items_miss : (T : AsnType) (k n : ℕ) (step : Step) → ((i : ℕ) → same_step (to_item i) step ≡ false) → NotIn step (item_entries T k n)
items_miss T k zero step none = tt
items_miss T k (suc n) step none = (none k, items_miss T (suc k) n step none)

pub items_before : (T : AsnType) (k n i : ℕ) → k + n ≤ i → NotIn (to_item i) (item_entries T k n)
items_before T k zero i le = tt
items_before T k (suc n) i le = (other k i (omega arith), items_before T (suc k) n i (omega arith))

items_after : (T : AsnType) (k n i : ℕ) → i < k → NotIn (to_item i) (item_entries T k n)
items_after T k zero i less = tt
items_after T k (suc n) i less = (other_back k i less, items_after T (suc k) n i (omega arith))

pub items_cut : (T : AsnType) (i k n j : ℕ) → j ≡ k + i → i < n → CutAt (item_entries T k n) (item_entries T k i) (item_entry T j)
items_cut T i k zero j at less = absurd (omega arith)
items_cut T zero k (suc n) j at less =
    let here : k ≡ j = omega arith in
    (item_entries T (suc k) n, ap (λ (m : ℕ). item_entry T m ∷ item_entries T (suc k) n) here, items_after T (suc k) n j (omega arith))
items_cut T (suc i) k (suc n) j at less =
    let o = items_cut T i (suc k) n j (omega arith) (omega arith) in
    (o.0, ap (λ (l : List Entry). item_entry T k ∷ l) o.1, o.2)
