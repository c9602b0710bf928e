-- Names and their places.
use Rattle.std.proofs.Common.{◌≡◌, ◌<◌, ◌+◌, ℕ, zero, suc, Bool, true, false, cond, List, [], ◌∷◌, ◌++◌, append-nil, Option, None, Some, option_map, unwrap_or, length, nat_eq, Result, Ok, Err, IfOk, OnErr, IsSome, nat_cmp, String, string_bytes, refl, sym, subst, ap, ap₂, ◌∙◌, arith}
use Rattle.std.proofs.lemmas.List.Elements.{All-head, All-tail}
use Rattle.std.proofs.lemmas.Map.Text.{btree_map_updates_text}
use Rattle.std.proofs.lemmas.Map.Views.{All-values-insert_entry}
use Rattle.std.proofs.lemmas.Slice.Eq.{bytes_eq-Decides}
use Rattle.std.specs.Cmp.Lexicographic.{slice_cmp}
use Rattle.std.specs.BTreeMap.{BTreeMap, btree_map_len, get_by_text, insert_entry, is_at, values, IsUnchanged, get}
use Rattle.std.specs.List.{All}
use Rattle.std.specs.Map.{lookup, values_of}
use Rattle.std.specs.Ordering.{is_eq, match_ordering}
use Rattle.std.specs.Str.{bytes_eq}
use Rattle.std.specs.String.{string_cmp}
use Rattle.std.specs.declared.cmp.Ordering.{Ordering}
use Rattle.std.specs.declared.cmp.Ordering.TheVariants.{Less, Equal, Greater}
use Rattle.oer_notation.specs.Places.{IsAdded, IsGrown, name_at, names_from, names_in, place_in}

-- the first, or where there is none the second
abbrev pub or_else : {A : Type 0} → Option A → Option A → Option A
or_else None o = o
or_else (Some x) o = Some x

pub place_append : (vs us : List (List ℕ)) (w : List ℕ) → place_in (vs ++ us) w ≡ or_else (place_in vs w) (option_map (λ k. length vs + k) (place_in us w))
place_append [] us w = by (place_in us w)
  where
    by : (o : Option ℕ) → o ≡ option_map (λ k. 0 + k) o
    by None = refl
    by (Some k) = ap Some (omega arith)
place_append (v ∷ vs) us w = by (bytes_eq v w) (place_append vs us w)
  where
    past : (o p : Option ℕ) → option_map suc (or_else o (option_map (λ k. length vs + k) p)) ≡ or_else (option_map suc o) (option_map (λ k. suc (length vs) + k) p)
    past None None = refl
    past None (Some k) = ap Some (omega arith)
    past (Some j) p = refl

    by : (b : Bool) → place_in (vs ++ us) w ≡ or_else (place_in vs w) (option_map (λ k. length vs + k) (place_in us w)) → cond b (Some 0) (option_map suc (place_in (vs ++ us) w)) ≡ or_else (cond b (Some 0) (option_map suc (place_in vs w))) (option_map (λ k. suc (length vs) + k) (place_in us w))
    by true h = refl
    by false h = ap (option_map suc) h ∙ past (place_in vs w) (place_in us w)

-- an entry more, at a place that no other has
name_kept : {Y : Type 0} (es : List (String Y × ℕ)) (k : String Y) (m j : ℕ) → lookup (is_at (string_cmp k)) es ≡ None → nat_eq m j ≡ false → name_at j (insert_entry string_cmp es k m) ≡ name_at j es
name_kept [] k m j new apart = rw apart refl
name_kept (e ∷ es) k m j new apart = by (string_cmp k e.0) new (name_kept es k m j)
  where
    by : (o : Ordering) → cond (is_eq o) (Some e.1) (lookup (is_at (string_cmp k)) es) ≡ None → (lookup (is_at (string_cmp k)) es ≡ None → nat_eq m j ≡ false → name_at j (insert_entry string_cmp es k m) ≡ name_at j es) → name_at j (match_ordering o ((k, m) ∷ e ∷ es) ((e.0, m) ∷ es) (e ∷ insert_entry string_cmp es k m)) ≡ name_at j (e ∷ es)
    by Less n h = rw apart refl
    by Equal n h = cc
    by Greater n h = ap (λ r. cond (nat_eq e.1 j) (string_bytes e.0) r) (h n apart)

-- its own place is its Name's
name_placed : {Y : Type 0} (es : List (String Y × ℕ)) (k : String Y) (m : ℕ) → lookup (is_at (string_cmp k)) es ≡ None → All (λ n. n < m) (values_of es) → name_at m (insert_entry string_cmp es k m) ≡ string_bytes k
name_placed [] k m new below = rw (same m) refl
  where
    same : (n : ℕ) → nat_eq n n ≡ true
    same n = grind (arith)
name_placed (e ∷ es) k m new below = by (string_cmp k e.0) new (name_placed es k m)
  where
    same : (n : ℕ) → nat_eq n n ≡ true
    same n = grind (arith)

    less : e.1 < m
    less = All-head (λ n. n < m) e.1 (values_of es) below

    other : nat_eq e.1 m ≡ false
    other = grind (arith, less)

    by : (o : Ordering) → cond (is_eq o) (Some e.1) (lookup (is_at (string_cmp k)) es) ≡ None → (lookup (is_at (string_cmp k)) es ≡ None → All (λ n. n < m) (values_of es) → name_at m (insert_entry string_cmp es k m) ≡ string_bytes k) → name_at m (match_ordering o ((k, m) ∷ e ∷ es) ((e.0, m) ∷ es) (e ∷ insert_entry string_cmp es k m)) ≡ string_bytes k
    by Less n h = rw (same m) refl
    by Equal n h = cc
    by Greater n h = rw other (h n (All-tail (λ n. n < m) e.1 (values_of es) below))

names_kept : {Y : Type 0} (n i : ℕ) (es fs : List (String Y × ℕ)) → ((j : ℕ) → j < i + n → name_at j fs ≡ name_at j es) → names_from i n fs ≡ names_from i n es
names_kept zero i es fs same = refl
names_kept (suc n) i es fs same = ap₂ (λ v vs. v ∷ vs) (same i (omega arith)) (names_kept n (suc i) es fs (λ j l. same j (omega (arith, l))))

names_push : {Y : Type 0} (n i : ℕ) (es : List (String Y × ℕ)) → names_from i (suc n) es ≡ names_from i n es ++ name_at (i + n) es ∷ []
names_push zero i es = let here : i ≡ i + 0 = omega arith in ap (λ j. name_at j es ∷ []) here
names_push (suc n) i es =
    let last : suc i + n ≡ i + suc n = omega arith in
    ap (λ vs. name_at i es ∷ vs) (names_push n (suc i) es) ∙ ap (λ j. name_at i es ∷ names_from (suc i) n es ++ name_at j es ∷ []) last

pub names_length : {Y : Type 0} (n i : ℕ) (es : List (String Y × ℕ)) → length (names_from i n es) ≡ n
names_length zero i es = refl
names_length (suc n) i es = ap suc (names_length n (suc i) es)

module _ {Y : Type 0} (m n : BTreeMap (String Y) ℕ) (k : String Y) (below : All (λ i. i < btree_map_len m) (values m)) (grown : IsGrown m n k) where
  pub names_grown : names_in n ≡ names_in m ++ string_bytes k ∷ []
  names_grown =
      let kept : names_from 0 (btree_map_len m) n.entries ≡ names_in m =
      names_kept (btree_map_len m) 0 m.entries n.entries (λ j l. ap (name_at j) grown.entries ∙ name_kept m.entries k (btree_map_len m) j grown.absent (grind (arith, l))) in
      let last : 0 + btree_map_len m ≡ btree_map_len m = omega arith in
      ap (λ l. names_from 0 l n.entries) grown.len ∙ names_push (btree_map_len m) 0 n.entries
      ∙ ap₂ (λ vs v. vs ++ v ∷ []) kept (ap (λ j. name_at j n.entries) last ∙ ap (name_at (btree_map_len m)) grown.entries ∙ name_placed m.entries k (btree_map_len m) grown.absent below)

  pub below_grown : All (λ i. i < btree_map_len n) (values n)
  below_grown =
      let more : All (λ i. i < btree_map_len n) (values m) = λ j d l. let b = below j d l in omega (arith, b, grown.len) in
      let here : btree_map_len m < btree_map_len n = omega (arith, grown.len) in
      subst (λ es. All (λ i. i < btree_map_len n) (values_of es)) (sym grown.entries) (All-values-insert_entry string_cmp k (btree_map_len m) (λ i. i < btree_map_len n) m.entries more here)

  pub exact_grown : ((w : List ℕ) → get_by_text m w ≡ place_in (names_in m) w) → (w : List ℕ) → get_by_text n w ≡ place_in (names_in n) w
  exact_grown exact w =
      btree_map_updates_text (string_bytes k) m n (Some (btree_map_len m)) grown.updates w
      ∙ by (bytes_eq (string_bytes k) w) refl
      ∙ sym (ap (λ vs. place_in vs w) names_grown ∙ place_append (names_in m) (string_bytes k ∷ []) w)
    where
      alone : (o : Option ℕ) → o ≡ or_else o None
      alone None = refl
      alone (Some j) = refl

      by : (b : Bool) → bytes_eq (string_bytes k) w ≡ b → cond b (Some (btree_map_len m)) (get_by_text m w) ≡ or_else (place_in (names_in m) w) (option_map (λ j. length (names_in m) + j) (cond b (Some 0) None))
      by true h =
          let same : string_bytes k ≡ w = (bytes_eq-Decides (string_bytes k) w).0 h in
          let none : place_in (names_in m) w ≡ None = sym (exact w) ∙ ap (get_by_text m) (sym same) ∙ grown.absent in
          let size : length (names_in m) + 0 ≡ btree_map_len m = omega (arith, names_length (btree_map_len m) 0 m.entries) in
          rw (none, size) refl
      by false h = exact w ∙ alone (place_in (names_in m) w)

-- what the fields of `Names` keep
abbrev pub Kept : {Y : Type 0} → BTreeMap (String Y) ℕ → Type 0
Kept m = All (λ i. i < btree_map_len m) (values m) × ((w : List ℕ) → get_by_text m w ≡ place_in (names_in m) w)

pub kept_unchanged : {Y : Type 0} (m n : BTreeMap (String Y) ℕ) → IsUnchanged m n → Kept m → Kept n
kept_unchanged m n same kept =
    (subst (λ es. All (λ i. i < length es) (values_of es)) (sym same) kept.0, λ w. subst (λ es. lookup (is_at (λ k. slice_cmp nat_cmp w (string_bytes k))) es ≡ place_in (names_from 0 (length es) es) w) (sym same) (kept.1 w))

pub kept_after : {Y E : Type 0} (m n : BTreeMap (String Y) ℕ) (k : String Y) (r : Result Bool E) → IfOk r (λ new. new ≡ true → IsGrown m n k) → IfOk r (λ new. new ≡ false → IsSome (get string_cmp m k) × IsUnchanged m n) → OnErr r (IsUnchanged m n) → Kept m → Kept n
kept_after m n k (Ok true) grown same err kept = (below_grown m n k kept.0 (grown refl), exact_grown m n k kept.0 (grown refl) kept.1)
kept_after m n k (Ok false) grown same err kept = kept_unchanged m n (same refl).1 kept
kept_after m n k (Err e) grown same err kept = kept_unchanged m n err kept

pub place_here : (vs us : List (List ℕ)) (w : List ℕ) (i : ℕ) → place_in vs w ≡ Some i → place_in (vs ++ us) w ≡ Some i
place_here vs us w i h = place_append vs us w ∙ rw h refl

pub place_past : (vs us : List (List ℕ)) (w : List ℕ) (n : ℕ) → length vs ≡ n → place_in vs w ≡ None → place_in (vs ++ us) w ≡ option_map (λ k. n + k) (place_in us w)
place_past vs us w n size h = place_append vs us w ∙ rw (h, size) refl

pub place_below : (vs : List (List ℕ)) (w : List ℕ) (i : ℕ) → place_in vs w ≡ Some i → i < length vs
place_below [] w i h = cc
place_below (v ∷ vs) w i h = by (bytes_eq v w) (place_below vs w) h
  where
    inner : (o : Option ℕ) → place_in vs w ≡ o → ((j : ℕ) → place_in vs w ≡ Some j → j < length vs) → option_map suc o ≡ Some i → i < suc (length vs)
    inner None e below g = cc
    inner (Some j) e below g = let b = below j e in let same : suc j ≡ i = ap (λ o. unwrap_or o 0) g in omega (arith, b, same)

    by : (b : Bool) → ((j : ℕ) → place_in vs w ≡ Some j → j < length vs) → cond b (Some 0) (option_map suc (place_in vs w)) ≡ Some i → i < suc (length vs)
    by true below g = let same : 0 ≡ i = ap (λ o. unwrap_or o 0) g in omega (arith, same)
    by false below g = inner (place_in vs w) refl below g

module _ {Y : Type 0} (m : BTreeMap (String Y) ℕ) (us : List (List ℕ)) (w : List ℕ) (exact : get_by_text m w ≡ place_in (names_in m) w) where
  pub sorted_here : (i : ℕ) → Some i ≡ get_by_text m w → Some i ≡ place_in (names_in m ++ us) w
  sorted_here i h = sym (place_here (names_in m) us w i (sym (h ∙ exact)))

  pub sorted_past : (o : Option ℕ) → None ≡ get_by_text m w → o ≡ option_map (λ k. btree_map_len m + k) (place_in us w) → o ≡ place_in (names_in m ++ us) w
  sorted_past o h e = e ∙ sym (place_past (names_in m) us w (btree_map_len m) (names_length (btree_map_len m) 0 m.entries) (sym (h ∙ exact)))

pub empty : {A : Type 0} (xs : List A) → length xs ≡ 0 → xs ≡ []
empty [] h = refl
empty (x ∷ xs) h = cc

-- what an addition to the map is to all Names, of which no others stand behind it
pub added_sorted : {Y E : Type 0} (m n : BTreeMap (String Y) ℕ) (k : String Y) (us : List (List ℕ)) (r : Result Bool E) → us ≡ []
    → IfOk r (λ new. new ≡ true → IsGrown m n k) → IfOk r (λ new. new ≡ false → IsSome (get string_cmp m k) × IsUnchanged m n) → Kept m
    → IfOk r (λ new. IsAdded new (names_in m ++ us) (string_bytes k) (names_in n ++ us))
added_sorted m n k us (Ok b) none grown same kept =
    subst (λ l. IsAdded b (names_in m ++ l) (string_bytes k) (names_in n ++ l)) (sym none)
    (subst (λ l. IsAdded b l (string_bytes k) (names_in n ++ [])) (sym (append-nil (names_in m)))
    (subst (λ l. IsAdded b (names_in m) (string_bytes k) l) (sym (append-nil (names_in n))) (by b grown same)))
  where
    by : (b : Bool) → (b ≡ true → IsGrown m n k) → (b ≡ false → IsSome (get string_cmp m k) × IsUnchanged m n) → IsAdded b (names_in m) (string_bytes k) (names_in n)
    by true grown same = let g = grown refl in (sym (kept.1 (string_bytes k)) ∙ g.absent, names_grown m n k kept.0 g)
    by false grown same = let s = same refl in (subst (λ o. IsSome o) (kept.1 (string_bytes k)) s.0, ap (λ es. names_from 0 (length es) es) s.1)
added_sorted m n k us (Err e) none grown same kept = tt
