-- The keys of an object: those that are among names, and the places that they tell.
use Rattle.std.proofs.Common.{◌≡◌, ◌⊎◌, inl, inr, ⊎_elim, ℕ, List, [], ◌∷◌, Bool, true, false, ◌||◌, Option, Some, None, Less, Equal, Greater, Ordering, is_eq, nat_cmp, refl, sym, ap, subst, ◌∙◌, arith}
use Rattle.std.specs.Str.{bytes_eq}
use Rattle.std.specs.Ordering.{match_ordering}
use Rattle.std.specs.Cmp.Lexicographic.{slice_cmp}
use Rattle.std.proofs.lemmas.Bool.{and_from, and_parts, or_left, or_right}
use Rattle.std.proofs.lemmas.Map.Text.{is_eq-slice_cmp}
use Rattle.std.proofs.lemmas.Slice.Eq.{bytes_eq-Decides}
use Rattle.serde_json.specs.Data.{Data, Members, member, no_members}
use Rattle.serde_json.specs.Find.{get_member}
use Rattle.oer_json.specs.Denotes.{IsOneOf}
use Rattle.oer_json.specs.Keys.{EachKey, all_pass, beyond_in, high_key, is_among, keys_of, low_place, places_in, smaller, with_key, with_place}
use Rattle.oer_json.proofs.Rising.{IsIn, Rises, insert_adds, insert_has, insert_keeps, insert_rises}

-- ---- each key

pub each_by : (P Q : List ℕ → Type 0) → ((key : List ℕ) → P key → Q key) → (ms : Members) → EachKey P ms → EachKey Q ms
each_by P Q f no_members h = tt
each_by P Q f (member k d ms) h = (f k h.0, each_by P Q f ms h.1)

pub each_both : (P Q R : List ℕ → Type 0) → ((key : List ℕ) → P key → Q key → R key) → (ms : Members) → EachKey P ms → EachKey Q ms → EachKey R ms
each_both P Q R f no_members h k = tt
each_both P Q R f (member l d ms) h k = (f l h.0 k.0, each_both P Q R f ms h.1 k.1)

pub each_passed : (f : List ℕ → Bool) (ms : Members) → all_pass f (keys_of ms) ≡ true → EachKey (λ key. f key ≡ true) ms
each_passed f no_members h = tt
each_passed f (member k d ms) h = let p = and_parts (f k) (all_pass f (keys_of ms)) h in (p.0, each_passed f ms p.1)

pub all_passed : (f : List ℕ → Bool) (ms : Members) → EachKey (λ key. f key ≡ true) ms → all_pass f (keys_of ms) ≡ true
all_passed f no_members h = refl
all_passed f (member k d ms) h = and_from (f k) (all_pass f (keys_of ms)) h.0 (all_passed f ms h.1)

same_key : (k l : List ℕ) → slice_cmp nat_cmp k l ≡ Equal → l ≡ k
same_key k l e = sym ((bytes_eq-Decides k l).0 (sym (is_eq-slice_cmp k l) ∙ ap is_eq e))

-- what holds of each key holds of one that is found
pub key_has : (P : List ℕ → Type 0) (key : List ℕ) (ms : Members) (j : Data) → get_member key ms ≡ Some j → EachKey P ms → P key
key_has P key no_members j h p = absurd (cc)
key_has P key (member l e ms) j h p = by (slice_cmp nat_cmp key l) refl (λ h. key_has P key ms j h p.1) h
  where
    by : (o : Ordering) → slice_cmp nat_cmp key l ≡ o → (get_member key ms ≡ Some j → P key) → match_ordering o (get_member key ms) (Some e) (get_member key ms) ≡ Some j → P key
    by Less is later h = later h
    by Equal is later h = subst P (same_key key l is) p.0
    by Greater is later h = later h

-- ---- names

pub or_either : (a b : Bool) → (a || b) ≡ true → (a ≡ true) ⊎ (b ≡ true)
or_either true b h = inl refl
or_either false b h = inr h

pub among_is : (ns : List (List ℕ)) (key : List ℕ) → is_among ns key ≡ true → IsOneOf ns key
among_is [] key h = absurd (cc)
among_is (n ∷ ns) key h = ⊎_elim (λ e. inl ((bytes_eq-Decides n key).0 e)) (λ e. inr (among_is ns key e)) (or_either (bytes_eq n key) (is_among ns key) h)

pub is_among_them : (ns : List (List ℕ)) (key : List ℕ) → IsOneOf ns key → is_among ns key ≡ true
is_among_them [] key h = absurd h
is_among_them (n ∷ ns) key (inl e) = or_left (bytes_eq n key) (is_among ns key) ((bytes_eq-Decides n key).1 e)
is_among_them (n ∷ ns) key (inr h) = or_right (bytes_eq n key) (is_among ns key) (is_among_them ns key h)

pub first_of_three : (a b c : Bool) → a ≡ true → (a || (b || c)) ≡ true
first_of_three a b c h = or_left a (b || c) h

pub second_of_three : (a b c : Bool) → b ≡ true → (a || (b || c)) ≡ true
second_of_three a b c h = or_right a (b || c) (or_left b c h)

pub third_of_three : (a b c : Bool) → c ≡ true → (a || (b || c)) ≡ true
third_of_three a b c h = or_right a (b || c) (or_right b c h)

-- ---- places

place_rises : (o : Option ℕ) (found : List ℕ) → Rises 0 found → Rises 0 (with_place o found)
place_rises None found h = h
place_rises (Some n) found h = insert_rises 0 found n (omega arith) h

pub places_rise : (found : List ℕ) (ks : List (List ℕ)) → Rises 0 found → Rises 0 (places_in found ks)
places_rise found [] h = h
places_rise found (k ∷ ks) h = places_rise (with_place (low_place k) found) ks (place_rises (low_place k) found h)

place_kept : (o : Option ℕ) (found : List ℕ) (n : ℕ) → IsIn n found → IsIn n (with_place o found)
place_kept None found n i = i
place_kept (Some m) found n i = insert_keeps found m n i

places_kept : (found : List ℕ) (ks : List (List ℕ)) (n : ℕ) → IsIn n found → IsIn n (places_in found ks)
places_kept found [] n i = i
places_kept found (k ∷ ks) n i = places_kept (with_place (low_place k) found) ks n (place_kept (low_place k) found n i)

place_put : (o : Option ℕ) (found : List ℕ) (n : ℕ) → o ≡ Some n → IsIn n (with_place o found)
place_put o found n e = rw e (insert_has found n)

-- the place of each key is found
pub places_of_keys : (found : List ℕ) (ms : Members) → EachKey (λ key. (n : ℕ) → low_place key ≡ Some n → IsIn n (places_in found (keys_of ms))) ms
places_of_keys found no_members = tt
places_of_keys found (member k d ms) = (
  λ n e. places_kept (with_place (low_place k) found) (keys_of ms) n (place_put (low_place k) found n e),
  places_of_keys (with_place (low_place k) found) ms,
)

place_added : (o : Option ℕ) (found : List ℕ) (n : ℕ) → IsIn n (with_place o found) → (o ≡ Some n) ⊎ IsIn n found
place_added None found n i = inr i
place_added (Some m) found n i = ⊎_elim (λ e. inl (ap Some e)) (λ k. inr k) (insert_adds found m n i)

-- what is found is the place of a key
pub places_have : (Q : ℕ → Type 0) (found : List ℕ) (ms : Members) → ((n : ℕ) → IsIn n found → Q n) → EachKey (λ key. (n : ℕ) → low_place key ≡ Some n → Q n) ms → (n : ℕ) → IsIn n (places_in found (keys_of ms)) → Q n
places_have Q found no_members f h n i = f n i
places_have Q found (member k d ms) f h n i =
    places_have Q (with_place (low_place k) found) ms (λ m a. ⊎_elim (λ e. h.0 m e) (λ b. f m b) (place_added (low_place k) found m a)) h.1 n i

-- ---- places beyond

data Found : Option (List ℕ) → Type 0 where
  found : {key : List ℕ} → Found (Some key)

still : (o before : Option (List ℕ)) → Found before → Found (with_key o before)
still None before h = h
still (Some w) before h = found

beyond_found : (before : Option (List ℕ)) (ks : List (List ℕ)) → Found before → Found (beyond_in before ks)
beyond_found before [] h = h
beyond_found before (k ∷ ks) h = beyond_found (with_key (high_key k) before) ks (still (high_key k) before h)

not_found : (o : Option (List ℕ)) → Found o → o ≡ None → ⊥
not_found _ found e = cc

none_high : (o : Option (List ℕ)) (ks : List (List ℕ)) → beyond_in (with_key o None) ks ≡ None → o ≡ None
none_high None ks h = refl
none_high (Some w) ks h = absurd (not_found (beyond_in (Some (smaller None w)) ks) (beyond_found (Some (smaller None w)) ks found) h)

after_none : (o : Option (List ℕ)) (ks : List (List ℕ)) → o ≡ None → beyond_in (with_key o None) ks ≡ beyond_in None ks
after_none o ks e = ap (λ o. beyond_in (with_key o None) ks) e

pub none_beyond : (ms : Members) → beyond_in None (keys_of ms) ≡ None → EachKey (λ key. high_key key ≡ None) ms
none_beyond no_members h = tt
none_beyond (member k d ms) h =
    let e = none_high (high_key k) (keys_of ms) h in
    (e, none_beyond ms (sym (after_none (high_key k) (keys_of ms) e) ∙ h))

pub nothing_beyond : (ms : Members) → EachKey (λ key. high_key key ≡ None) ms → beyond_in None (keys_of ms) ≡ None
nothing_beyond no_members h = refl
nothing_beyond (member k d ms) h = after_none (high_key k) (keys_of ms) h.0 ∙ nothing_beyond ms h.1
