-- The additions that are taken beyond those that a type knows are those that the object has.
use Rattle.std.proofs.Common.{◌≡◌, inl, inr, ⊎_elim, ℕ, List, [], ◌∷◌, map, Bool, true, false, cond, nat_lt, ◌||◌, Option, Some, None, is_some, Result, Ok, Err, refl, sym, ap, subst, ◌∙◌}
use Rattle.std.specs.Prelude.{⊤}
use Rattle.serde_json.specs.Data.{Data, Members}
use Rattle.serde_json.specs.Find.{get_member}
use Rattle.oer_model.specs.AsnType.{Additions, Fields}
use Rattle.oer_model.specs.AsnValue.{Unknown, unknown}
use Rattle.oer_model.specs.WellFormed.{addition_names, field_names}
use Rattle.oer_json.specs.Answer.{◌>>=◌}
use Rattle.oer_json.specs.Denotes.{DenoteUnknown, DenotesOctets, IsOneOf, IsPart, unknown_key}
use Rattle.oer_json.specs.Keys.{EachKey, all_pass, beyond_in, high_key, is_among, keys_of, low_place, place_digits, place_key, places_in}
use Rattle.oer_json.specs.Take.{beyond_at, is_key, octets_at, take_unknown, unknown_at, unknown_from, unless_beyond}
use Rattle.oer_json.specs.declared.fault.JsonFault.{JsonFault}
use Rattle.oer_json.specs.declared.fault.JsonFault.TheVariants.{Misfit, Range}
use Rattle.oer_json.proofs.Answered.{bound_ok, ok_is}
use Rattle.oer_json.proofs.KeysOf.{among_is, each_both, each_passed, none_beyond, or_either, places_of_keys}
use Rattle.oer_json.proofs.PlaceKeys.{low_is, low_or_high}
use Rattle.oer_json.proofs.Rising.{IsIn}
use Rattle.oer_json.proofs.SoundLeaves.{octets_denoted}

abbrev pub place_of_unknown : Unknown → ℕ
place_of_unknown (unknown n w) = n

octets_there : (o : Option Data) (w : List ℕ) → octets_at o ≡ Ok w → (j : Data) × (o ≡ Some j) × DenotesOctets w j
octets_there None w h = absurd (cc)
octets_there (Some j) w h = (j, refl, octets_denoted j w h)

-- one addition
IsThis : ℕ → Unknown → Members → Type 0
IsThis n u ms = (w : List ℕ) × (unknown n w ≡ u) × ((j : Data) × (get_member (place_key n) ms ≡ Some j) × DenotesOctets w j)

one_denoted : (known n : ℕ) (ms : Members) (u : Unknown) → unknown_at known n (get_member (place_key n) ms) ≡ Ok u → IsThis n u ms
unfolding unknown_at IsThis
one_denoted known n ms u h =
    let p = bound_ok (octets_at (get_member (place_key n) ms)) _ u h in
    let e = unless (nat_lt n known) p.0 p.2 in
    (p.0, e, octets_there (get_member (place_key n) ms) p.0 p.1)
  where
    unless : (b : Bool) (w : List ℕ) → cond b (Err Misfit) (Ok (unknown n w)) ≡ Ok u → unknown n w ≡ u
    unless true w h = absurd (cc)
    unless false w h = ok_is (unknown n w) u h

-- the places are those of the additions, which the object has
pub found_denoted : (known : ℕ) (ns : List ℕ) (ms : Members) (us : List Unknown) → unknown_from known ns ms ≡ Ok us → (map place_of_unknown us ≡ ns) × DenoteUnknown us ms
unfolding IsThis
found_denoted known [] ms us h = subst (λ us. (map place_of_unknown us ≡ []) × DenoteUnknown us ms) (ok_is [] us h) (refl, tt)
found_denoted known (n ∷ ns) ms us h =
    let p = bound_ok (unknown_at known n (get_member (place_key n) ms)) _ us h in
    let q = bound_ok (unknown_from known ns ms) _ us p.2 in
    let r = one_denoted known n ms p.0 p.1 in
    let s = found_denoted known ns ms q.0 q.1 in
    let e = ap (λ u. u ∷ q.0) r.1 ∙ ok_is (p.0 ∷ q.0) us q.2 in
    subst (λ us. (map place_of_unknown us ≡ n ∷ ns) × DenoteUnknown us ms) e (ap (λ ns. n ∷ ns) s.0, (r.2, s.1))

beyond_never : (o : Option Data) (us vs : List Unknown) → (beyond_at o >>= λ _. Ok us) ≡ Ok vs → ⊥
beyond_never o us vs h =
    let p = bound_ok (beyond_at o) (λ _. Ok us) vs h in
    let q = bound_ok (octets_at o) (λ _. Err Range) p.0 p.1 in
    let f : ◌≡◌ {A = Result ⊤ JsonFault} (Err Range) (Ok p.0) = q.2 in
    cc

not_beyond : (o : Option (List ℕ)) (ms : Members) (us vs : List Unknown) → unless_beyond us o ms ≡ Ok vs → (o ≡ None) × (us ≡ vs)
not_beyond None ms us vs h = (refl, ok_is us vs h)
not_beyond (Some key) ms us vs h = absurd (beyond_never (get_member key ms) us vs h)

-- what taking them tells
pub record Taken (ms : Members) (us : List Unknown) : Type 0 where
  pub places : map place_of_unknown us ≡ places_in [] (keys_of ms)
  pub denoted : DenoteUnknown us ms
  pub none_beyond : beyond_in None (keys_of ms) ≡ None

pub unknown_taken : (known : ℕ) (ms : Members) (us : List Unknown) → take_unknown known ms ≡ Ok us → Taken ms us
unfolding take_unknown
unknown_taken known ms us h =
    let p = bound_ok (unknown_from known (places_in [] (keys_of ms)) ms) _ us h in
    let q = not_beyond (beyond_in None (keys_of ms)) ms p.0 us p.2 in
    let r = found_denoted known (places_in [] (keys_of ms)) ms p.0 p.1 in
    subst (λ us. Taken ms us) q.1 (record { places = r.0; denoted = r.1; none_beyond = q.0 })

-- the key of a place among those of the additions is that of an addition
key_of_place : (us : List Unknown) (n : ℕ) → IsIn n (map place_of_unknown us) → IsOneOf (map unknown_key us) (place_key n)
key_of_place [] n i = absurd i
key_of_place (unknown m w ∷ us) n (inl e) = inl (ap place_key e)
key_of_place (unknown m w ∷ us) n (inr i) = inr (key_of_place us n i)

-- each key is that of a part
pub keys_denoted : (fs : Fields) (more : Additions) (ms : Members) (us : List Unknown) → Taken ms us → all_pass (is_key (field_names fs) (addition_names more)) (keys_of ms) ≡ true → EachKey (IsPart fs more us) ms
keys_denoted fs more ms us t h =
    let low = each_both (λ key. high_key key ≡ None) (λ key. (n : ℕ) → low_place key ≡ Some n → IsIn n (places_in [] (keys_of ms))) (λ key. is_some (place_digits key) ≡ true → IsOneOf (map unknown_key us) key)
    (λ key high found is. (let p = low_or_high key is high in let i = found p.0 p.1 in
    subst (IsOneOf (map unknown_key us)) (sym (low_is key p.0 p.1).0) (key_of_place us p.0 (subst (IsIn p.0) (sym t.places) i))))
    ms (none_beyond ms t.none_beyond) (places_of_keys [] ms) in
    each_both (λ key. is_key (field_names fs) (addition_names more) key ≡ true) (λ key. is_some (place_digits key) ≡ true → IsOneOf (map unknown_key us) key) (IsPart fs more us)
    (λ key e f. ⊎_elim (λ a. inl (among_is (field_names fs) key a)) (λ b. inr (⊎_elim (λ c. inl (among_is (addition_names more) key c)) (λ d. inr (f d)) (or_either (is_among (addition_names more) key) (is_some (place_digits key)) b)))
    (or_either (is_among (field_names fs) key) (is_among (addition_names more) key || is_some (place_digits key)) e))
    ms (each_passed (is_key (field_names fs) (addition_names more)) ms h) low
