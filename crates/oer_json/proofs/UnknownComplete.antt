-- The additions that an object has beyond those that a type knows are taken.
use Rattle.std.proofs.Common.{◌≡◌, inl, inr, ℕ, suc, ◌^◌, ◌<◌, ◌≤◌, List, [], ◌∷◌, map, true, cond, nat_lt, ◌&&◌, leb, Option, Some, None, is_some, Result, Ok, Err, refl, sym, ap, subst, ◌∙◌, arith}
use Rattle.std.proofs.lemmas.Bool.{le-ltb, leb-true}
use Rattle.serde_json.specs.Data.{Data, Members}
use Rattle.serde_json.specs.Find.{get_member}
use Rattle.oer_model.specs.AsnType.{Additions, Fields, extensible_sequence}
use Rattle.oer_model.specs.AsnValue.{Unknown, unknown}
use Rattle.oer_model.specs.FitTest.{all_below, unknown_fit}
use Rattle.oer_model.specs.WellFormed.{addition_names, field_names}
use Rattle.oer_model.proofs.fitting.FitTests.{both}
use Rattle.oer_json.specs.Answer.{◌>>=◌}
use Rattle.oer_json.specs.Denotes.{DenoteUnknown, DenotesOctets, IsOneOf, IsPart, unknown_key}
use Rattle.oer_json.specs.Keys.{EachKey, all_pass, beyond_in, high_key, is_among, keys_of, low_place, place_digits, place_key, places_in}
use Rattle.oer_json.specs.Take.{is_key, octets_at, take_unknown, unknown_at, unknown_from, unless_beyond}
use Rattle.oer_json.specs.declared.fault.JsonFault.{JsonFault}
use Rattle.oer_json.specs.declared.fault.JsonFault.TheVariants.{Misfit}
use Rattle.oer_json.proofs.Answered.{some_is}
use Rattle.oer_json.proofs.CompleteLeaves.{octets_taken}
use Rattle.oer_json.proofs.KeysOf.{all_passed, each_by, first_of_three, is_among_them, key_has, nothing_beyond, places_have, places_of_keys, places_rise, second_of_three, third_of_three}
use Rattle.oer_json.proofs.Named.{IsNamed, added_names, root_names}
use Rattle.oer_json.proofs.PlaceKeys.{high_made, high_nowhere, low_made, low_nowhere, name_no_place, place_made}
use Rattle.oer_json.proofs.Rising.{IsIn, Rises, rises_from, same_rising}
use Rattle.oer_json.proofs.UnknownSound.{place_of_unknown}

-- what fits of the first
pub first_fits : (lowest n : ℕ) (w : List ℕ) (us : List Unknown) → unknown_fit lowest (unknown n w ∷ us) ≡ true → (lowest ≤ n) × (n < 2 ^ 16) × (all_below 256 w ≡ true) × (unknown_fit (suc n) us ≡ true)
first_fits lowest n w us h =
    let p = both (leb lowest n && leb n 65535 && all_below 256 w) (unknown_fit (suc n) us) h in
    let q = both (leb lowest n && leb n 65535) (all_below 256 w) p.0 in
    let r = both (leb lowest n) (leb n 65535) q.0 in
    (leb-true lowest n r.0, (let l = leb-true n 65535 r.1 in omega arith), q.1, p.1)

pub fit_rises : (lowest : ℕ) (us : List Unknown) → unknown_fit lowest us ≡ true → Rises lowest (map place_of_unknown us)
fit_rises lowest [] h = tt
fit_rises lowest (unknown n w ∷ us) h = let p = first_fits lowest n w us h in (p.0, fit_rises (suc n) us p.3)

-- ---- each addition

one_taken : (known n : ℕ) (w : List ℕ) (o : Option Data) (j : Data) → known ≤ n → o ≡ Some j → DenotesOctets w j → unknown_at known n o ≡ Ok (unknown n w)
unfolding unknown_at
one_taken known n w o j l e d = ap (λ o. octets_at o >>= λ w. cond (nat_lt n known) (Err Misfit) (Ok (unknown n w))) e ∙ ap (λ r. r >>= λ w. cond (nat_lt n known) (Err Misfit) (Ok (unknown n w))) (octets_taken w j d)
    ∙ ap (λ b. cond b (Err Misfit) (Ok (unknown n w))) (le-ltb n known l)

joined : (r : Result Unknown JsonFault) (s : Result (List Unknown) JsonFault) (u : Unknown) (us : List Unknown) → r ≡ Ok u → s ≡ Ok us → (r >>= λ u. s >>= λ us. Ok (u ∷ us)) ≡ Ok (u ∷ us)
joined r s u us e f = rw (e, f) refl

pub found_taken : (known lowest : ℕ) (us : List Unknown) (ms : Members) → known ≤ lowest → unknown_fit lowest us ≡ true → DenoteUnknown us ms → unknown_from known (map place_of_unknown us) ms ≡ Ok us
found_taken known lowest [] ms l h d = refl
found_taken known lowest (unknown n w ∷ us) ms l h ((j, e, o), d) =
    let p = first_fits lowest n w us h in
    joined (unknown_at known n (get_member (place_key n) ms)) (unknown_from known (map place_of_unknown us) ms) (unknown n w) us
    (one_taken known n w (get_member (place_key n) ms) j (let k = p.0 in omega arith) e o)
    (found_taken known (suc n) us ms (let k = p.0 in omega arith) p.3 d)

-- ---- their places

-- the key of an addition is that of a place
pub place_of_key : (lowest : ℕ) (us : List Unknown) (key : List ℕ) → unknown_fit lowest us ≡ true → IsOneOf (map unknown_key us) key → (n : ℕ) × (n < 2 ^ 16) × IsIn n (map place_of_unknown us) × (place_key n ≡ key)
place_of_key lowest [] key h i = absurd i
place_of_key lowest (unknown n w ∷ us) key h (inl e) = let p = first_fits lowest n w us h in (n, p.1, inl refl, e)
place_of_key lowest (unknown n w ∷ us) key h (inr i) =
    let p = first_fits lowest n w us h in
    let q = place_of_key (suc n) us key p.3 i in
    (q.0, q.1, inr q.2, q.3)

-- each place has its key in the object
there : (lowest : ℕ) (us : List Unknown) (ms : Members) → unknown_fit lowest us ≡ true → DenoteUnknown us ms → (n : ℕ) → IsIn n (map place_of_unknown us) → (n < 2 ^ 16) × ((j : Data) × (get_member (place_key n) ms ≡ Some j))
there lowest [] ms h d n i = absurd i
there lowest (unknown m w ∷ us) ms h ((j, e, o), d) n (inl s) = let p = first_fits lowest m w us h in (subst (λ n. n < 2 ^ 16) s p.1, (j, subst (λ n. get_member (place_key n) ms ≡ Some j) s e))
there lowest (unknown m w ∷ us) ms h (o, d) n (inr i) = let p = first_fits lowest m w us h in there (suc m) us ms p.3 d n i

module _ (fs : Fields) (more : Additions) (us : List Unknown) (ms : Members) (named : IsNamed (extensible_sequence fs more)) (lowest : ℕ) (fit : unknown_fit lowest us ≡ true) (keys : EachKey (IsPart fs more us) ms) where
  -- a key is no place's, or that of an addition
  by_part : (P : List ℕ → Type 0) → ((key : List ℕ) → place_digits key ≡ None → P key) → ((n : ℕ) → n < 2 ^ 16 → IsIn n (map place_of_unknown us) → P (place_key n)) → EachKey P ms
  by_part P name place = each_by (IsPart fs more us) P part ms keys
    where
      part : (key : List ℕ) → IsPart fs more us key → P key
      part key (inl i) = name key (name_no_place key (root_names fs more named key i))
      part key (inr (inl i)) = name key (name_no_place key (added_names fs more named key i))
      part key (inr (inr i)) = let q = place_of_key lowest us key fit i in subst P q.3 (place q.0 q.1 q.2)

  nothing_high : beyond_in None (keys_of ms) ≡ None
  nothing_high = nothing_beyond ms (by_part (λ key. high_key key ≡ None) high_nowhere (λ n l i. high_made n l))

  none_some : (o : Option ℕ) (n : ℕ) → o ≡ None → o ≡ Some n → ⊥
  none_some o n e f = cc

  only_those : (n : ℕ) → IsIn n (places_in [] (keys_of ms)) → IsIn n (map place_of_unknown us)
  only_those = places_have (λ n. IsIn n (map place_of_unknown us)) [] ms (λ n i. absurd i)
      (by_part (λ key. (n : ℕ) → low_place key ≡ Some n → IsIn n (map place_of_unknown us))
      (λ key e n f. absurd (none_some (low_place key) n (low_nowhere key e) f))
      (λ m l i n f. subst (λ n. IsIn n (map place_of_unknown us)) (some_is m n (sym (low_made m l) ∙ f)) i))

  module _ (denoted : DenoteUnknown us ms) where
    all_those : (n : ℕ) → IsIn n (map place_of_unknown us) → IsIn n (places_in [] (keys_of ms))
    all_those n i =
        let p = there lowest us ms fit denoted n i in
        key_has (λ key. (n : ℕ) → low_place key ≡ Some n → IsIn n (places_in [] (keys_of ms))) (place_key n) ms p.1.0 p.1.1 (places_of_keys [] ms) n (low_made n p.0)

    the_places : places_in [] (keys_of ms) ≡ map place_of_unknown us
    the_places = same_rising 0 (places_in [] (keys_of ms)) (map place_of_unknown us) (places_rise [] (keys_of ms) tt) (rises_from lowest 0 (map place_of_unknown us) (omega arith) (fit_rises lowest us fit)) only_those all_those

    pub all_unknown_taken : (known : ℕ) → known ≤ lowest → take_unknown known ms ≡ Ok us
    unfolding take_unknown
    all_unknown_taken known l =
        ap (λ ns. unknown_from known ns ms >>= λ us. unless_beyond us (beyond_in None (keys_of ms)) ms) the_places
        ∙ ap (λ r. r >>= λ us. unless_beyond us (beyond_in None (keys_of ms)) ms) (found_taken known lowest us ms l fit denoted)
        ∙ ap (λ o. unless_beyond us o ms) nothing_high

  pub keys_pass : all_pass (is_key (field_names fs) (addition_names more)) (keys_of ms) ≡ true
  keys_pass = all_passed (is_key (field_names fs) (addition_names more)) ms (each_by (IsPart fs more us) (λ key. is_key (field_names fs) (addition_names more) key ≡ true) part ms keys)
    where
      part : (key : List ℕ) → IsPart fs more us key → is_key (field_names fs) (addition_names more) key ≡ true
      part key (inl i) = first_of_three (is_among (field_names fs) key) (is_among (addition_names more) key) (is_some (place_digits key)) (is_among_them (field_names fs) key i)
      part key (inr (inl i)) = second_of_three (is_among (field_names fs) key) (is_among (addition_names more) key) (is_some (place_digits key)) (is_among_them (addition_names more) key i)
      part key (inr (inr i)) =
          let q = place_of_key lowest us key fit i in
          third_of_three (is_among (field_names fs) key) (is_among (addition_names more) key) (is_some (place_digits key)) (subst (λ key. is_some (place_digits key) ≡ true) q.3 (place_made q.0 q.1))
