-- What a step finds among the parts that were read.
use Rattle.std.proofs.Common.{◌≡◌, ⊎_elim, arith, ℕ, zero, suc, ◌+◌, ◌-◌, ◌<◌, ◌≤◌, Bool, true, false, List, [], ◌∷◌, ◌++◌, length, take, drop, get_or, Option, Some, None, IfSome, option_map, refl, sym, ap, ◌∙◌, subst, if◌then◌else◌}
use Rattle.std.proofs.lemmas.Bool.{cases_lt}
use Rattle.std.proofs.lemmas.List.{drop-take, length-take}
use Rattle.oer_units.specs.declared.fault.Why.{Why}
use Rattle.oer_units.specs.Reader.{Outcome, Place, Reader, bind, give, got, refused}
use Rattle.oer_units.proofs.Closure.{got_place}
use Rattle.oer_model.specs.AsnType.{AsnType}
use Rattle.oer_model.specs.Bits.{first_bit}
use Rattle.oer_model.specs.Checking.{both, check_additions, check_fields, check_times, check_unknown, check_value}
use Rattle.oer_model.specs.Constraints.{AdditionsKeepLimits, FieldsKeepLimits, optional}
use Rattle.oer_model.specs.Fits.{AdditionDefaultsFit, FieldDefaultsFit}
use Rattle.oer_model.specs.Parts.{Answer, Part, Step, addition_parts, field_parts, found, item_parts, join_parts, lookup, part, parts_in, same_step, to_addition, to_component, to_item, unknown_parts}
use Rattle.oer_values.specs.ShapeView.{additions_of, fields_of, need_of}
use Rattle.oer_values.specs.declared.shape.Addition.{Addition}
use Rattle.oer_values.specs.declared.shape.Field.{Field}
use Rattle.oer_model.specs.SharedSteps.{is_there}
use Rattle.oer_parts.specs.Walk.{IsGot, found_or, read_in, type_in}
use Rattle.oer_parts.specs.declared.walk.Piece.{Piece}
use Rattle.oer_checker.proofs.BitLists.{drop_sum}
use Rattle.oer_parts.proofs.Entries.{Ends, Entry, FoundBy, FoundBy_same, NotIn, Passes, both_ends, found_there, missed, walked}
use Rattle.oer_checker.proofs.Joins.{bind_got, give_got}
use Rattle.oer_parts.proofs.Walks.{addition_entries, addition_entry, additions_before, additions_cut, additions_ends, additions_pass, additions_read, field_entries, field_entry, fields_before, fields_cut, fields_ends, fields_pass, fields_read, item_entries, item_entry, items_before, items_cut, items_ends, items_pass, items_read, itself, unknown_after, unknown_before, unknown_cut, unknown_ends, unknown_entries, unknown_entry, unknown_pass, unknown_read}

-- ---- what the program met

pub no_refusal : {A : Type 0} (o : Outcome A) (r : Place) (why : Why) (rest : List ℕ) → Ends o r → refused why rest ≡ o → ⊥
no_refusal {A} o r why rest (x, is) e = let same : got x r ≡ refused why rest = is ∙ sym e in absurd (cc)

pub same_end : {A : Type 0} (o : Outcome A) (r s : Place) (x : A) → Ends o r → got x s ≡ o → s ≡ r
same_end o r s x (y, is) e = got_place x y s r (e ∙ sym is)

pub not_there : (there : Bool) (e : Entry) (r : Place) (look : Answer → Answer) → false ≡ there → FoundBy there e r look → (o : Answer) → o ≡ look o
not_there false e r look is f = f
not_there true e r look is f = absurd (cc)

pub is_read : (there : Bool) (e : Entry) (r s : Place) (look : Answer → Answer) (w : List ℕ) → true ≡ there → FoundBy there e r look → s ≡ r → Some w ≡ read_in (e.octets s) → (o : Answer) → found e.type w ≡ look o
is_read true e r s look w is (c, t, ends, g, f) same h =
    let here : Some w ≡ Some c = h ∙ ap (λ (p : Place). read_in (e.octets p)) same ∙ ap read_in (sym g) in
    let words : w ≡ c = cc in
    λ o. ap (found e.type) words ∙ f o
is_read false e r s look w is f same h = absurd (cc)

pub is_unread : (there : Bool) (e : Entry) (r s : Place) (look : Answer → Answer) → true ≡ there → FoundBy there e r look → s ≡ r → None ≡ read_in (e.octets s) → ⊥
is_unread true e r s look is (c, t, ends, g, f) same h =
    let here : None ≡ Some c = h ∙ ap (λ (p : Place). read_in (e.octets p)) same ∙ ap read_in (sym g) in
    absurd (cc)
is_unread false e r s look is f same h = absurd (cc)

-- what an open type holds, as it was found
pub piece_found : (x : Option Piece) (there : Bool) (e : Entry) (r s : Place) (look : Answer → Answer) → true ≡ there → FoundBy there e r look → s ≡ r → option_map (λ p. p.octets.now) x ≡ read_in (e.octets s) → IfSome x (λ p. type_in p ≡ e.type)
    → (o : Answer) → found_or o x ≡ look o
piece_found None there e r s look is f same h kind = absurd (is_unread there e r s look is f same h)
piece_found (Some p) there e r s look is f same h kind = λ o. ap (λ (V : Option AsnType). found V p.octets.now) kind ∙ is_read there e r s look p.octets.now is f same h o

-- it was checked where it begins
pub is_checked : (there : Bool) (e : Entry) (r s : Place) (look : Answer → Answer) → true ≡ there → FoundBy there e r look → s ≡ r → IsGot (e.check s)
is_checked true e r s look is (c, t, (x, ends), g, f) same = (x, t, ends ∙ ap e.check (sym same))
is_checked false e r s look is f same = absurd (cc)

-- ---- what is asked of the types

pub fields_front : (xs : List Field) (i : ℕ) → FieldsKeepLimits (fields_of xs) → FieldsKeepLimits (fields_of (take i xs))
fields_front xs zero k = tt
fields_front [] (suc i) k = k
fields_front (x ∷ xs) (suc i) k = (k.0, fields_front xs i k.1)

pub field_defaults_front : (xs : List Field) (i : ℕ) → FieldDefaultsFit (fields_of xs) → FieldDefaultsFit (fields_of (take i xs))
field_defaults_front xs zero k = tt
field_defaults_front [] (suc i) k = k
field_defaults_front (x ∷ xs) (suc i) k = (k.0, k.1, field_defaults_front xs i k.2)

pub additions_front : (xs : List Addition) (i : ℕ) → AdditionsKeepLimits (additions_of xs) → AdditionsKeepLimits (additions_of (take i xs))
additions_front xs zero k = tt
additions_front [] (suc i) k = k
additions_front (x ∷ xs) (suc i) k = (k.0, additions_front xs i k.1)

pub addition_defaults_front : (xs : List Addition) (i : ℕ) → AdditionDefaultsFit (additions_of xs) → AdditionDefaultsFit (additions_of (take i xs))
addition_defaults_front xs zero k = tt
addition_defaults_front [] (suc i) k = k
addition_defaults_front (x ∷ xs) (suc i) k = (k.0, addition_defaults_front xs i k.1)

-- ---- a component

-- found where the reader of those before it ends
abbrev pub FoundAfter : Outcome Bool → Bool → Entry → (Answer → Answer) → Type 0
FoundAfter before there e look = (r : Place) × Ends before r × FoundBy there e r look

pub field_found : (xs : List Field) (i : ℕ) (s : List Bool) (x : Field) (p q : Place) (f : Bool) → got f q ≡ check_fields (fields_of xs) s p → i < length xs → x ≡ get_or xs i x
    → FoundAfter (check_fields (fields_of (take i xs)) s p) (is_there (need_of x.need) (drop (optional (fields_of (take i xs))) s)) (field_entry x i (drop (optional (fields_of (take i xs))) s)) (λ o. lookup o (to_component i) (parts_in (field_parts (fields_of xs) 0 s p)))
field_found xs i s x p q f e less is =
    let w = fields_pass xs 0 s p q f e in
    let bits = drop (optional (fields_of (take i xs))) s in
    let cut = fields_cut xs i 0 i s x (omega arith) less is in
    let front = field_entries (take i xs) 0 s in
    let none : NotIn (to_component i) front = fields_before (take i xs) 0 s i (let short = length-take i xs in omega arith) in
    let o = found_there (field_entries xs 0 s) front (field_entry x i bits) cut.0 cut.1 p q w (itself i) none cut.2 in
    (o.0, fields_ends (take i xs) 0 s p o.0 o.1, FoundBy_same (is_there (need_of x.need) bits) (field_entry x i bits) o.0 (λ a. lookup a (to_component i) (walked (field_entries xs 0 s) p q w)) _ (λ a. ap (λ (l : Outcome (List Part)). lookup a (to_component i) (parts_in l)) (fields_read xs 0 s p q w)) o.2)

pub field_missing : (xs : List Field) (i : ℕ) (s : List Bool) (p q : Place) (f : Bool) → got f q ≡ check_fields (fields_of xs) s p → length xs ≤ i → (o : Answer) → o ≡ lookup o (to_component i) (parts_in (field_parts (fields_of xs) 0 s p))
field_missing xs i s p q f e le o =
    let w = fields_pass xs 0 s p q f e in
    missed (field_entries xs 0 s) p q w (to_component i) o (fields_before xs 0 s i (omega arith)) ∙ ap (λ (l : Outcome (List Part)). lookup o (to_component i) (parts_in l)) (fields_read xs 0 s p q w)

-- ---- an element

pub item_found : (T : AsnType) (n i : ℕ) (p q : Place) (f : Bool) → got f q ≡ check_times n (check_value T) p → i < n
    → FoundAfter (check_times i (check_value T) p) true (item_entry T i) (λ o. lookup o (to_item i) (parts_in (item_parts T 0 n p)))
item_found T n i p q f e less =
    let w = items_pass T 0 n p q f e in
    let cut = items_cut T i 0 n i (omega arith) less in
    let o = found_there (item_entries T 0 n) (item_entries T 0 i) (item_entry T i) cut.0 cut.1 p q w (itself i) (items_before T 0 i i (omega arith)) cut.2 in
    (o.0, items_ends T 0 i p o.0 o.1, FoundBy_same true (item_entry T i) o.0 (λ a. lookup a (to_item i) (walked (item_entries T 0 n) p q w)) _ (λ a. ap (λ (l : Outcome (List Part)). lookup a (to_item i) (parts_in l)) (items_read T 0 n p q w)) o.2)

pub item_missing : (T : AsnType) (n i : ℕ) (p q : Place) (f : Bool) → got f q ≡ check_times n (check_value T) p → n ≤ i → (o : Answer) → o ≡ lookup o (to_item i) (parts_in (item_parts T 0 n p))
item_missing T n i p q f e le o =
    let w = items_pass T 0 n p q f e in
    missed (item_entries T 0 n) p q w (to_item i) o (items_before T 0 n i (omega arith)) ∙ ap (λ (l : Outcome (List Part)). lookup o (to_item i) (parts_in l)) (items_read T 0 n p q w)

-- ---- an addition

lookup_join : (o : Answer) (step : Step) (ps qs : List Part) → lookup o step (ps ++ qs) ≡ lookup (lookup o step qs) step ps
lookup_join o step [] qs = refl
lookup_join o step (part s V c ∷ ps) qs = ap (λ (a : Answer). if same_step s step then found V c else a) (lookup_join o step ps qs)

pub joined : (r q : Reader (List Part)) (p s t : Place) (ps qs : List Part) → got ps s ≡ r p → got qs t ≡ q s → got (ps ++ qs) t ≡ join_parts r q p
unfolding join_parts
joined r q p s t ps qs e h =
    bind_got r (λ ps. bind q (λ parts. give (ps ++ parts))) p s ps (got (ps ++ qs) t) e
    (bind_got q (λ parts. give (ps ++ parts)) s t qs (got (ps ++ qs) t) h (give_got (ps ++ qs) t))

-- known additions, and then n unknown ones
abbrev pub added : List Addition → ℕ → List Bool → Place → List Part
added xs n s p = parts_in (join_parts (addition_parts (additions_of xs) 0 s) (unknown_parts n (drop n s)) p)

abbrev pub checks : List Addition → ℕ → List Bool → Reader Bool
checks xs n s = both (check_additions (additions_of xs) s) (check_unknown (drop n s))

module _ (xs : List Addition) (n : ℕ) (many : n ≡ length xs) (s : List Bool) (p q : Place) (f : Bool) (e : got f q ≡ checks xs n s p) where
  pub parted : (g : Bool) × (r : Place) × (h : Bool) × (got g r ≡ check_additions (additions_of xs) s p) × (got h q ≡ check_unknown (drop n s) r)
  parted = both_ends (check_additions (additions_of xs) s) (check_unknown (drop n s)) p q f e

  middle : Place
  middle = parted.1

  known_walk : Passes (addition_entries xs 0 s) p parted.1
  known_walk = additions_pass xs 0 s p parted.1 parted.0 parted.3

  unknown_walk : Passes (unknown_entries (drop n s) n) parted.1 q
  unknown_walk = unknown_pass (drop n s) n parted.1 q parted.2 parted.4

  knowns : List Part
  knowns = walked (addition_entries xs 0 s) p parted.1 known_walk

  unknowns : List Part
  unknowns = walked (unknown_entries (drop n s) n) parted.1 q unknown_walk

  all : (step : Step) (o : Answer) → lookup (lookup o step unknowns) step knowns ≡ lookup o step (added xs n s p)
  unfolding knowns unknowns known_walk unknown_walk
  all step o =
      sym (lookup_join o step knowns unknowns)
      ∙ ap (λ (l : Outcome (List Part)). lookup o step (parts_in l)) (joined (addition_parts (additions_of xs) 0 s) (unknown_parts n (drop n s)) p parted.1 q knowns unknowns (additions_read xs 0 s p parted.1 known_walk) (unknown_read (drop n s) n parted.1 q unknown_walk))

  pub addition_found : (i : ℕ) (x : Addition) → i < length xs → x ≡ get_or xs i x
      → FoundAfter (check_additions (additions_of (take i xs)) s p) (first_bit (drop i s)) (addition_entry x i (first_bit (drop i s))) (λ o. lookup o (to_addition i) (added xs n s p))
  unfolding knowns unknowns known_walk unknown_walk
  addition_found i x less is =
      let cut = additions_cut xs i 0 i s x (omega arith) less is in
      let front = addition_entries (take i xs) 0 s in
      let none : NotIn (to_addition i) front = additions_before (take i xs) 0 s i (let short = length-take i xs in omega arith) in
      let o = found_there (addition_entries xs 0 s) front (addition_entry x i (first_bit (drop i s))) cut.0 cut.1 p parted.1 known_walk (itself i) none cut.2 in
      let look : (a : Answer) → lookup a (to_addition i) knowns ≡ lookup a (to_addition i) (added xs n s p) = λ a.
      ap (λ (b : Answer). lookup b (to_addition i) knowns) (missed (unknown_entries (drop n s) n) parted.1 q unknown_walk (to_addition i) a (unknown_after (drop n s) n i (omega arith)))
      ∙ all (to_addition i) a in
      (o.0, additions_ends (take i xs) 0 s p o.0 o.1, FoundBy_same (first_bit (drop i s)) (addition_entry x i (first_bit (drop i s))) o.0 (λ a. lookup a (to_addition i) knowns) (λ a. lookup a (to_addition i) (added xs n s p)) look o.2)

  pub known_ends : Ends (check_additions (additions_of xs) s p) parted.1
  known_ends = (parted.0, parted.3)

  -- what is looked up past the known ones
  pub unknown_look : (i : ℕ) → n ≤ i → (o : Answer) → lookup o (to_addition i) (parts_in (unknown_parts n (drop n s) parted.1)) ≡ lookup o (to_addition i) (added xs n s p)
  unfolding knowns unknowns known_walk unknown_walk
  unknown_look i le o =
      ap (λ (l : Outcome (List Part)). lookup o (to_addition i) (parts_in l)) (sym (unknown_read (drop n s) n parted.1 q unknown_walk))
      ∙ missed (addition_entries xs 0 s) p parted.1 known_walk (to_addition i) (lookup o (to_addition i) unknowns) (additions_before xs 0 s i (omega arith))
      ∙ all (to_addition i) o

-- ---- an unknown addition, by the bits s from the place n on

pub unknown_found : (s : List Bool) (n i : ℕ) (p q : Place) (f : Bool) → got f q ≡ check_unknown (drop n s) p → n ≤ i → first_bit (drop i s) ≡ true
    → FoundAfter (check_unknown (drop n (take i s)) p) true (unknown_entry i true) (λ o. lookup o (to_addition i) (parts_in (unknown_parts n (drop n s) p)))
unknown_found s n i p q f e le set =
    let t = drop n s in
    let k = i - n in
    let at : i ≡ n + k = omega arith in
    let there : drop k t ≡ drop i s = sym (drop_sum n k i s at) in
    let bit : first_bit (drop k t) ≡ true = ap first_bit there ∙ set in
    let less : k < length t = within k t bit in
    let w = unknown_pass t n p q f e in
    let cut = unknown_cut t k n i at less in
    let front = unknown_entries (take k t) n in
    let none : NotIn (to_addition i) front = unknown_before (take k t) n i (let short = length-take k t in omega arith) in
    let o = found_there (unknown_entries t n) front (unknown_entry i (first_bit (drop k t))) cut.0 cut.1 p q w (itself i) none cut.2 in
    let fronts : take k t ≡ drop n (take i s) = sym (drop-take n k s) ∙ ap (λ (j : ℕ). drop n (take j s)) (sym at) in
    let ends : Ends (check_unknown (drop n (take i s)) p) o.0 = subst (λ (l : List Bool). Ends (check_unknown l p) o.0) fronts (unknown_ends (take k t) n p o.0 o.1) in
    let here : FoundBy true (unknown_entry i true) o.0 (λ a. lookup a (to_addition i) (walked (unknown_entries t n) p q w)) = subst (λ (b : Bool). FoundBy b (unknown_entry i b) o.0 (λ a. lookup a (to_addition i) (walked (unknown_entries t n) p q w))) bit o.2 in
    (o.0, ends, FoundBy_same true (unknown_entry i true) o.0 (λ a. lookup a (to_addition i) (walked (unknown_entries t n) p q w)) _ (λ a. ap (λ (l : Outcome (List Part)). lookup a (to_addition i) (parts_in l)) (unknown_read t n p q w)) here)
  where
    within : (k : ℕ) (t : List Bool) → first_bit (drop k t) ≡ true → k < length t
    within zero [] e = absurd (cc)
    within zero (b ∷ t) e = omega arith
    within (suc k) [] e = absurd (cc)
    within (suc k) (b ∷ t) e = let more = within k t e in omega arith

-- by the bits t from there on
absent_from : (t : List Bool) (n k i : ℕ) (p q : Place) → i ≡ n + k → (w : Passes (unknown_entries t n) p q) → false ≡ first_bit (drop k t) → (o : Answer) → o ≡ lookup o (to_addition i) (walked (unknown_entries t n) p q w)
absent_from t n k i p q at w none o = ⊎_elim inside beyond (cases_lt k (length t))
  where
    inside : k < length t → o ≡ lookup o (to_addition i) (walked (unknown_entries t n) p q w)
    inside less =
        let cut = unknown_cut t k n i at less in
        let front = unknown_entries (take k t) n in
        let before : NotIn (to_addition i) front = unknown_before (take k t) n i (let short = length-take k t in omega arith) in
        let r = found_there (unknown_entries t n) front (unknown_entry i (first_bit (drop k t))) cut.0 cut.1 p q w (itself i) before cut.2 in
        not_there (first_bit (drop k t)) (unknown_entry i (first_bit (drop k t))) r.0 (λ a. lookup a (to_addition i) (walked (unknown_entries t n) p q w)) none r.2 o

    beyond : length t ≤ k → o ≡ lookup o (to_addition i) (walked (unknown_entries t n) p q w)
    beyond more = missed (unknown_entries t n) p q w (to_addition i) o (unknown_before t n i (omega arith))

unknown_absent : (s : List Bool) (n i : ℕ) (p q : Place) (f : Bool) → got f q ≡ check_unknown (drop n s) p → n ≤ i → false ≡ first_bit (drop i s) → (o : Answer) → o ≡ lookup o (to_addition i) (parts_in (unknown_parts n (drop n s) p))
unknown_absent s n i p q f e le none o =
    let w = unknown_pass (drop n s) n p q f e in
    let at : i ≡ n + (i - n) = omega arith in
    absent_from (drop n s) n (i - n) i p q at w (none ∙ ap first_bit (drop_sum n (i - n) i s at)) o
    ∙ ap (λ (l : Outcome (List Part)). lookup o (to_addition i) (parts_in l)) (unknown_read (drop n s) n p q w)

pub nth : {A : Type 0} (xs : List A) (i : ℕ) → i < length xs → (x : A) × (x ≡ get_or xs i x)
nth [] i less = absurd (omega arith)
nth (x ∷ xs) zero less = (x, refl)
nth (y ∷ xs) (suc i) less = nth xs i (omega arith)

-- none is found where the bit isn't set
pub addition_absent : (xs : List Addition) (n : ℕ) (many : n ≡ length xs) (s : List Bool) (p q : Place) (f : Bool) (e : got f q ≡ checks xs n s p) (i : ℕ) → false ≡ first_bit (drop i s) → (o : Answer) → o ≡ lookup o (to_addition i) (added xs n s p)
addition_absent xs n many s p q f e i none o = ⊎_elim inside beyond (cases_lt i n)
  where
    inside : i < n → o ≡ lookup o (to_addition i) (added xs n s p)
    inside less =
        let x = nth xs i (omega arith) in
        let r = addition_found xs n many s p q f e i x.0 (omega arith) x.1 in
        not_there (first_bit (drop i s)) (addition_entry x.0 i (first_bit (drop i s))) r.0 (λ a. lookup a (to_addition i) (added xs n s p)) none r.2 o

    beyond : n ≤ i → o ≡ lookup o (to_addition i) (added xs n s p)
    beyond le =
        let parts = parted xs n many s p q f e in
        unknown_absent s n i parts.1 q parts.2 parts.4 le none o ∙ unknown_look xs n many s p q f e i le o
