-- The loops over the members of braces, over bits and over arcs, and how many members there are.
use Rattle.std.proofs.Common.{◌≡◌, ℕ, zero, suc, ◌+◌, ◌-◌, ◌≤◌, ◌<◌, List, [], ◌∷◌, ◌++◌, append_assoc, append-nil, length, drop}
use Rattle.std.proofs.Common.{get_or, drop-cons, map, Bool, Ok, Err, None, ap, sym, refl, ◌∙◌, arith, add-one, sub-one}
use Rattle.std.proofs.lemmas.List.{map-append}
use Rattle.oer_literals.specs.Bits.{is_one}
use Rattle.oer_module_defaults.specs.Arcs.{arc_at, braced, only_member, part_arcs, some_arcs}
use Rattle.oer_module_defaults.specs.Atoms.{none_such}
use Rattle.oer_module_defaults.specs.Bits.{bit_name, bit_named, bit_numbers, bits_from, is_named}
use Rattle.oer_module_names.specs.declared.error.Place.{Place}
use Rattle.oer_module_syntax.specs.Tree.{Module}
use Rattle.oer_module_terms.specs.Trees.{Item, members_from, member_of, parts_from, value_of}
use Rattle.oer_module_terms.specs.declared.tree.Member.{Member as RawMember}
use Rattle.oer_module_terms.specs.declared.tree.Value.{Value as RawValue}
use Rattle.oer_module_text.specs.Errors.{Error, Read, ◌>>=◌}
use Rattle.oer_module_text.specs.Room.{Room}

-- a number beside those found
number_found : (found : List ℕ) (n : ℕ) (r : Read (List ℕ))
    → ((r >>= λ ns. Ok (n ∷ ns)) >>= λ ns. Ok (found ++ ns)) ≡ (r >>= λ ns. Ok ((found ++ n ∷ []) ++ ns))
number_found found n (Ok ns) = ap (λ zs. let r : Read (List ℕ) = Ok zs in r) (sym (append_assoc found (n ∷ []) ns))
number_found found n (Err e) = refl

-- those found and those of what is left are all of them
module _ (ms : List Module) (p : Place) (m size : ℕ) (is : List Item) (xs : List RawMember) (i : ℕ) (found : List ℕ) (whole : Read (List ℕ))
    (h : whole ≡ (bit_numbers ms p m size is (members_from (map member_of (drop i xs))) >>= λ ns. Ok (found ++ ns))) where
  abbrev left : List RawMember → Read (List ℕ)
  left l = bit_numbers ms p m size is (members_from (map member_of l))

  at_turn : (x : RawMember) {q : Read ℕ} → i < length xs → x ≡ get_or xs i x → bit_named ms p m size is (member_of x) ≡ q
      → whole ≡ ((q >>= λ n. left (drop (suc i) xs) >>= λ ns. Ok (n ∷ ns)) >>= λ ns. Ok (found ++ ns))
  at_turn x less e gives =
      h ∙ ap (λ l. bit_numbers ms p m size is (members_from (map member_of l)) >>= λ ns. Ok (found ++ ns)) (drop-cons xs i x less)
      ∙ ap (λ q. (q >>= λ n. left (drop (suc i) xs) >>= λ ns. Ok (n ∷ ns)) >>= λ ns. Ok (found ++ ns))
      (ap (λ y. bit_named ms p m size is (member_of y)) (sym e) ∙ gives)

  pub numbers_err : (x : RawMember) {e : Error} → i < length xs → x ≡ get_or xs i x → bit_named ms p m size is (member_of x) ≡ Err e → whole ≡ Err e
  numbers_err x less e fails = at_turn x less e fails

  pub numbers_next : (x : RawMember) {n : ℕ} {more : List ℕ} → i < length xs → x ≡ get_or xs i x
      → bit_named ms p m size is (member_of x) ≡ Ok n → more ≡ found ++ n ∷ []
      → whole ≡ (bit_numbers ms p m size is (members_from (map member_of (drop (i + 1) xs))) >>= λ ns. Ok (more ++ ns))
  numbers_next x {n} {more} less e gives pushed =
      at_turn x less e gives ∙ number_found found n (left (drop (suc i) xs))
      ∙ ap (λ zs. left (drop (suc i) xs) >>= λ ns. Ok (zs ++ ns)) (sym pushed)
      ∙ ap (λ j. left (drop j xs) >>= λ ns. Ok (more ++ ns)) (sym (add-one i))

-- the bits of the digits found, and those that are left, at a turn
module _ (ns : List ℕ) where
  some_left : (i k : ℕ) → 0 < k → bits_from ns i k ≡ is_named ns i ∷ bits_from ns (suc i) (k - 1)
  some_left i zero h = absurd (omega arith)
  some_left i (suc k) h = rw sub-one refl

  none_left : (i k : ℕ) → k ≤ 0 → bits_from ns i k ≡ []
  none_left i zero h = refl
  none_left i (suc k) h = absurd (omega arith)

  module _ (n i : ℕ) (ds : List ℕ) (whole : List Bool) (is : whole ≡ map is_one ds ++ bits_from ns i (n - i)) where
    one_more : (d : ℕ) (es : List ℕ) → es ≡ ds ++ d ∷ [] → is_one d ≡ is_named ns i → map is_one es ≡ map is_one ds ++ is_named ns i ∷ []
    one_more d es pushed digit =
        ap (map is_one) pushed ∙ map-append is_one ds (d ∷ []) ∙ ap (λ b. map is_one ds ++ b ∷ []) digit

    pub bits_next : (d : ℕ) (es : List ℕ) → i < n → is_one d ≡ is_named ns i → es ≡ ds ++ d ∷ []
        → whole ≡ map is_one es ++ bits_from ns (i + 1) (n - (i + 1))
    bits_next d es some digit pushed =
        let e : n - i - 1 ≡ n - (i + 1) = omega arith in
        is ∙ ap (λ bs. map is_one ds ++ bs) (some_left i (n - i) (omega arith))
        ∙ sym (append_assoc (map is_one ds) (is_named ns i ∷ []) (bits_from ns (suc i) (n - i - 1)))
        ∙ ap (λ bs. bs ++ bits_from ns (suc i) (n - i - 1)) (sym (one_more d es pushed digit))
        ∙ ap (λ k. map is_one es ++ bits_from ns (suc i) k) e ∙ ap (λ j. map is_one es ++ bits_from ns j (n - (i + 1))) (sym (add-one i))

    pub bits_over : n ≤ i → whole ≡ map is_one ds
    bits_over h = is ∙ ap (λ bs. map is_one ds ++ bs) (none_left i (n - i) (omega arith)) ∙ append-nil (map is_one ds)

-- an arc before others, and others behind those found
abbrev with_arc : ℕ → Read (List ℕ × Room) → Read (List ℕ × Room)
with_arc n r = r >>= λ s. Ok (n ∷ s.0, s.1)

abbrev pub behind : List ℕ → Read (List ℕ × Room) → Read (List ℕ × Room)
behind found r = r >>= λ s. Ok (found ++ s.0, s.1)

arc_found : (found : List ℕ) (n : ℕ) (r : Read (List ℕ × Room)) → behind found (with_arc n r) ≡ behind (found ++ n ∷ []) r
arc_found found n (Ok s) = ap (λ ns. let r : Read (List ℕ × Room) = Ok (ns, s.1) in r) (sym (append_assoc found (n ∷ []) s.0))
arc_found found n (Err e) = refl

-- those found and those of what is left, written into a room, are all of them
module _ (p : Place) (xs : List RawValue) (i : ℕ) (found : List ℕ) (r : Room) (whole : Read (List ℕ × Room))
    (h : whole ≡ behind found (some_arcs p (parts_from (map value_of (drop i xs))) r)) where
  abbrev arcs_left : List RawValue → Room → Read (List ℕ × Room)
  arcs_left l s = some_arcs p (parts_from (map value_of l)) s

  -- where that is what writing one gives
  abbrev behind_one : Read (ℕ × Room) → Read (List ℕ × Room)
  behind_one q = behind found (q >>= λ a. with_arc a.0 (arcs_left (drop (suc i) xs) a.1))

  at_arc : (x : RawValue) {q : Read (ℕ × Room)} → i < length xs → x ≡ get_or xs i x → arc_at p (value_of x) r ≡ q → whole ≡ behind_one q
  at_arc x less e gives =
      h ∙ ap (λ l. behind found (arcs_left l r)) (drop-cons xs i x less)
      ∙ ap behind_one (ap (λ y. arc_at p (value_of y) r) (sym e) ∙ gives)

  pub arcs_err : (x : RawValue) {e : Error} → i < length xs → x ≡ get_or xs i x → arc_at p (value_of x) r ≡ Err e → whole ≡ Err e
  arcs_err x less e fails = at_arc x less e fails

  pub arcs_next : (x : RawValue) {n : ℕ} {s : Room} {more : List ℕ} → i < length xs → x ≡ get_or xs i x
      → arc_at p (value_of x) r ≡ Ok (n, s) → more ≡ found ++ n ∷ []
      → whole ≡ behind more (some_arcs p (parts_from (map value_of (drop (i + 1) xs))) s)
  arcs_next x {n} {s} {more} less e gives pushed =
      at_arc x less e gives ∙ arc_found found n (arcs_left (drop (suc i) xs) s)
      ∙ ap (λ ns. behind ns (arcs_left (drop (suc i) xs) s)) (sym pushed)
      ∙ ap (λ j. behind more (arcs_left (drop j xs) s)) (sym (add-one i))

-- how many there are
pub no_two : (p : Place) (xs : List RawValue) (r : Room) → length xs < 2 → part_arcs p (parts_from (map value_of xs)) r ≡ none_such p
no_two p [] r h = refl
no_two p (x ∷ []) r h = refl
no_two p (x ∷ y ∷ xs) r h = absurd (omega arith)

pub two : (p : Place) (xs : List RawValue) (r : Room) → 2 ≤ length xs
    → part_arcs p (parts_from (map value_of xs)) r ≡ braced p (parts_from (map value_of xs)) r
two p [] r h = absurd (omega arith)
two p (x ∷ []) r h = absurd (omega arith)
two p (x ∷ y ∷ xs) r h = refl

pub no_member : (xs : List RawMember) → (length xs ≡ 1 → ⊥) → only_member (members_from (map member_of xs)) ≡ None
no_member [] h = refl
no_member (x ∷ []) h = absurd (h refl)
no_member (x ∷ y ∷ xs) h = refl

pub no_name : (xs : List RawValue) → (length xs ≡ 1 → ⊥) → bit_name (parts_from (map value_of xs)) ≡ None
no_name [] h = refl
no_name (x ∷ []) h = absurd (h refl)
no_name (x ∷ y ∷ xs) h = refl
