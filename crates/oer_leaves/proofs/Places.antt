-- Components, one after another.
use Rattle.std.proofs.Common.{◌≡◌, ℕ, zero, suc, ◌+◌, ◌-◌, ◌<◌, ◌≤◌, List, [], ◌∷◌, ◌++◌, length, drop, get_or, map, replicate, Bool, true, false, not, if◌then◌else◌, is_some, Option, Some, None, option_map, arith, refl, sym, ap, ◌∙◌, append_assoc, length-append, min}
use Rattle.std.proofs.lemmas.List.{drop_more, drop_all, length-replicate}
use Rattle.oer_model.specs.AsnType.{AsnType, Need, must, may, default, Fields, Additions, field, addition}
use Rattle.oer_model.specs.AsnValue.{AsnValue, no_places, present}
use Rattle.oer_units.specs.Least.{counted}
use Rattle.oer_model.proofs.filling.Same.{same-true, same-refl}
use Rattle.oer_model.specs.Constraints.{addition_count}
use Rattle.std.proofs.lemmas.Bool.{false≢true}
use Rattle.oer_model.specs.Canonical.{any_present, same, unknown_marks, unknown_octets}
use Rattle.oer_model.specs.Filling.{filled}
use Rattle.oer_values.specs.ShapeView.{additions_of, fields_of, seen_field, seen_addition, need_of, type_of}
use Rattle.oer_values.specs.ValueView.{places_of, places_from, unknown_of, value_of}
use Rattle.oer_values.specs.declared.shape.Addition.{Addition}
use Rattle.oer_values.specs.declared.shape.Field.{Field}
use Rattle.oer_values.specs.declared.shape.Need as rust_need
use Rattle.oer_values.specs.declared.shape.Need.TheVariants.{Default}
use Rattle.oer_values.specs.declared.value.Unknown as rust_unknown
use Rattle.oer_values.specs.declared.value.Value.{Value}
use Rattle.oer_leaves.specs.Parts.{field_bits, kept_place, known_bits, place_bit}

-- ---- additions

known_bits_first : (n : List ℕ) (T : AsnType) (more : Additions) (p : Option AsnValue) (ps : List (Option AsnValue)) → known_bits (addition n T more) (places_from (p ∷ ps)) ≡ is_some p ∷ known_bits more (places_from ps)
known_bits_first n T more None ps = refl
known_bits_first n T more (Some v) ps = refl

some_seen : (p : Option Value) → is_some (option_map value_of p) ≡ is_some p
some_seen None = refl
some_seen (Some v) = refl

drop_some : (xs : List Addition) (i : ℕ) → i < length xs → (y : Addition) × (drop i xs ≡ y ∷ drop (i + 1) xs)
drop_some [] i h = absurd (omega arith)
drop_some (x ∷ xs) zero h = (x, refl)
drop_some (x ∷ xs) (suc i) h = let k = drop_some xs i (omega arith) in let e : suc (i + 1) ≡ suc i + 1 = omega arith in (k.0, k.1 ∙ ap (λ n. k.0 ∷ drop n (x ∷ xs)) e)

pub known_bits_step : (xs : List Addition) (i : ℕ) (ps qs : List (Option Value)) (p : Option Value) (b : Bool) → i < length xs → ps ≡ p ∷ qs → b ≡ is_some p → known_bits (additions_of (drop i xs)) (places_of ps) ≡ (b ∷ []) ++ known_bits (additions_of (drop (i + 1) xs)) (places_of qs)
known_bits_step xs i ps qs p b h e is =
    let k = drop_some xs i h in
    let x = k.0 in
    let rest = drop (i + 1) xs in
    ap (λ l. known_bits (additions_of l) (places_of ps)) k.1 ∙ ap (λ l. known_bits (additions_of (x ∷ rest)) (places_of l)) e
    ∙ known_bits_first (seen_addition x).name (seen_addition x).type (additions_of rest) (option_map value_of p) (map (option_map value_of) qs)
    ∙ ap (λ b. b ∷ known_bits (additions_of rest) (places_of qs)) (some_seen p ∙ sym is)

pub known_bits_none : (xs : List Addition) (ps : List (Option Value)) → ps ≡ [] → known_bits (additions_of xs) (places_of ps) ≡ []
known_bits_none xs ps e = ap (λ l. known_bits (additions_of xs) (places_of l)) e ∙ none xs
  where
    none : (xs : List Addition) → known_bits (additions_of xs) no_places ≡ []
    none [] = refl
    none (x ∷ xs) = refl

pub known_bits_end : (xs : List Addition) (i : ℕ) (ps : List (Option Value)) → length xs ≤ i → known_bits (additions_of (drop i xs)) (places_of ps) ≡ []
known_bits_end xs i ps h = ap (λ l. known_bits (additions_of l) (places_of ps)) (drop_all i xs h)

-- ---- the root

pub field_bits_first : (n : List ℕ) (need : Need) (T : AsnType) (fs : Fields) (p : Option AsnValue) (ps : List (Option AsnValue)) → field_bits (field n need T fs) (places_from (p ∷ ps)) ≡ place_bit need (kept_place need T p) ++ field_bits fs (places_from ps)
field_bits_first n must T fs None ps = refl
field_bits_first n may T fs None ps = refl
field_bits_first n (default d) T fs None ps = refl
field_bits_first n must T fs (Some v) ps = refl
field_bits_first n may T fs (Some v) ps = refl
field_bits_first n (default d) T fs (Some v) ps = by (same (filled T v) (filled T d)) refl
  where
    by : (b : Bool) → same (filled T v) (filled T d) ≡ b → field_bits (field n (default d) T fs) (present v (places_from ps)) ≡ place_bit (default d) (kept_place (default d) T (Some v)) ++ field_bits fs (places_from ps)
    by true e = rw (e) refl
    by false e = rw (e) refl

pub field_bits_step : (xs : List Field) (i : ℕ) (x : Field) (ps qs : List (Option Value)) (p : Option Value) → i < length xs → x ≡ get_or xs i x → ps ≡ p ∷ qs → field_bits (fields_of (drop i xs)) (places_of ps) ≡ place_bit (need_of x.need) (kept_place (need_of x.need) (type_of x.shape) (option_map value_of p)) ++ field_bits (fields_of (drop (i + 1) xs)) (places_of qs)
field_bits_step xs i x ps qs p h is e =
    let rest = drop (i + 1) xs in
    ap (λ l. field_bits (fields_of l) (places_of ps)) (drop_more xs i x h ∙ ap (λ y. y ∷ rest) (sym is)) ∙ ap (λ l. field_bits (fields_of (x ∷ rest)) (places_of l)) e
    ∙ field_bits_first (seen_field x).name (seen_field x).need (seen_field x).type (fields_of rest) (option_map value_of p) (map (option_map value_of) qs)

pub field_bits_none : (xs : List Field) (ps : List (Option Value)) → ps ≡ [] → field_bits (fields_of xs) (places_of ps) ≡ []
field_bits_none xs ps e = ap (λ l. field_bits (fields_of xs) (places_of l)) e ∙ none xs
  where
    none : (xs : List Field) → field_bits (fields_of xs) no_places ≡ []
    none [] = refl
    none (x ∷ xs) = refl

pub field_bits_end : (xs : List Field) (i : ℕ) (ps : List (Option Value)) → length xs ≤ i → field_bits (fields_of (drop i xs)) (places_of ps) ≡ []
field_bits_end xs i ps h = ap (λ l. field_bits (fields_of l) (places_of ps)) (drop_all i xs h)

-- ---- unknown additions

pub marks_step : (xs : List rust_unknown.Unknown) (i next : ℕ) (d : rust_unknown.Unknown) → i < length xs → unknown_marks next (map unknown_of (drop i xs)) ≡ (replicate ((get_or xs i d).place - next) false ++ (true ∷ [])) ++ unknown_marks (suc (get_or xs i d).place) (map unknown_of (drop (i + 1) xs))
marks_step xs i next d h =
    let x = get_or xs i d in
    ap (λ l. unknown_marks next (map unknown_of l)) (drop_more xs i d h) ∙ sym (append_assoc (replicate (x.place - next) false) (true ∷ []) (unknown_marks (suc x.place) (map unknown_of (drop (i + 1) xs))))

pub mark_step : (xs : List rust_unknown.Unknown) (i next gap after : ℕ) (x : rust_unknown.Unknown) → i < length xs → x ≡ get_or xs i x → gap ≡ x.place - next → after ≡ suc x.place → unknown_marks next (map unknown_of (drop i xs)) ≡ (replicate gap false ++ (true ∷ [])) ++ unknown_marks after (map unknown_of (drop (i + 1) xs))
mark_step xs i next gap after x h is g a =
    let rest = drop (i + 1) xs in
    let y = get_or xs i x in
    marks_step xs i next x h
    ∙ ap (λ (z : rust_unknown.Unknown). (replicate (z.place - next) false ++ (true ∷ [])) ++ unknown_marks (suc z.place) (map unknown_of rest)) (sym is)
    ∙ ap (λ n. (replicate n false ++ (true ∷ [])) ++ unknown_marks (suc x.place) (map unknown_of rest)) (sym g)
    ∙ ap (λ n. (replicate gap false ++ (true ∷ [])) ++ unknown_marks n (map unknown_of rest)) (sym a)

pub marks_end : (xs : List rust_unknown.Unknown) (i next : ℕ) → length xs ≤ i → unknown_marks next (map unknown_of (drop i xs)) ≡ []
marks_end xs i next h = ap (λ l. unknown_marks next (map unknown_of l)) (drop_all i xs h)

pub marks_length : (xs : List rust_unknown.Unknown) (i next : ℕ) (d : rust_unknown.Unknown) → i < length xs → length (unknown_marks next (map unknown_of (drop i xs))) ≡ ((get_or xs i d).place - next) + suc (length (unknown_marks (suc (get_or xs i d).place) (map unknown_of (drop (i + 1) xs))))
marks_length xs i next d h =
    let x = get_or xs i d in
    let rest = unknown_marks (suc x.place) (map unknown_of (drop (i + 1) xs)) in
    omega (arith, ap length (marks_step xs i next d h), length-append (replicate (x.place - next) false ++ (true ∷ [])) rest, length-append (replicate (x.place - next) false) (true ∷ []), length-replicate (x.place - next) false)

pub zeros_step : (count counter : ℕ) → counter < count → replicate (count - counter) false ++ (true ∷ []) ≡ (false ∷ []) ++ (replicate (count - (counter + 1)) false ++ (true ∷ []))
zeros_step count counter h = let e : count - counter ≡ suc (count - (counter + 1)) = omega arith in ap (λ n. replicate n false ++ (true ∷ [])) e

pub zeros_end : (count counter : ℕ) → count ≤ counter → replicate (count - counter) false ++ (true ∷ []) ≡ true ∷ []
zeros_end count counter h = let e : count - counter ≡ 0 = omega arith in ap (λ n. replicate n false ++ (true ∷ [])) e

-- ---- what is kept

pub kept_dropped : (need : rust_need.Need) (T : AsnType) (place : Option Value) (v d : Value) → need ≡ Default d → place ≡ Some v → filled T (value_of v) ≡ filled T (value_of d) → None ≡ kept_place (need_of need) T (option_map value_of place)
kept_dropped need T place v d n p e =
    let same_is : same (filled T (value_of v)) (filled T (value_of d)) ≡ true = ap (λ x. same (filled T (value_of v)) x) (sym e) ∙ same-refl (filled T (value_of v)) in
    sym (ap (λ x. kept_place (need_of x) T (option_map value_of place)) n ∙ ap (λ x. kept_place (default (value_of d)) T (option_map value_of x)) p ∙ ap (λ b. if not b then Some (value_of v) else None) same_is)

pub kept_there : (need : rust_need.Need) (T : AsnType) (place : Option Value) (v d : Value) → need ≡ Default d → place ≡ Some v → (filled T (value_of v) ≡ filled T (value_of d) → ⊥) → Some (value_of v) ≡ kept_place (need_of need) T (option_map value_of place)
kept_there need T place v d n p e = by (same (filled T (value_of v)) (filled T (value_of d))) refl
  where
    by : (b : Bool) → same (filled T (value_of v)) (filled T (value_of d)) ≡ b → Some (value_of v) ≡ kept_place (need_of need) T (option_map value_of place)
    by true s = absurd (e (same-true (filled T (value_of v)) (filled T (value_of d)) s))
    by false s = sym (ap (λ x. kept_place (need_of x) T (option_map value_of place)) n ∙ ap (λ x. kept_place (default (value_of d)) T (option_map value_of x)) p ∙ ap (λ b. if not b then Some (value_of v) else None) s)

-- ---- counts

pub known_count : (xs : List Addition) (ps : List (Option Value)) → length (known_bits (additions_of xs) (places_of ps)) ≡ min (length xs) (length ps)
known_count [] ps = omega arith
known_count (x ∷ xs) [] = omega arith
known_count (x ∷ xs) (p ∷ ps) = omega (arith, ap length (known_bits_first (seen_addition x).name (seen_addition x).type (additions_of xs) (option_map value_of p) (map (option_map value_of) ps)), known_count xs ps)

pub counted_additions : (xs : List Addition) → addition_count (additions_of xs) ≡ length xs
counted_additions [] = refl
counted_additions (x ∷ xs) = ap suc (counted_additions xs)

-- ---- octets of unknown additions

pub unknown_step : (xs : List rust_unknown.Unknown) (i : ℕ) (x : rust_unknown.Unknown) (w : List ℕ) → i < length xs → x ≡ get_or xs i x → w ≡ x.octets.items → unknown_octets (map unknown_of (drop i xs)) ≡ counted w ++ unknown_octets (map unknown_of (drop (i + 1) xs))
unknown_step xs i x w h is e = ap (λ l. unknown_octets (map unknown_of l)) (drop_more xs i x h ∙ ap (λ y. y ∷ drop (i + 1) xs) (sym is)) ∙ ap (λ l. counted l ++ unknown_octets (map unknown_of (drop (i + 1) xs))) (sym e)

pub bits_count : (xs : List Addition) (ps : List (Option Value)) (us : List Bool) (known extra : ℕ) → known ≡ min (length xs) (length ps) → extra ≡ length us → known + extra ≡ length (known_bits (additions_of xs) (places_of ps) ++ us)
bits_count xs ps us known extra k u = omega (arith, k, u, known_count xs ps, length-append (known_bits (additions_of xs) (places_of ps)) us)

-- ---- whether one is there

pub none_yet : (ps : List (Option Value)) (i : ℕ) (d : Option Value) → i < length ps → is_some (get_or ps i d) ≡ false → any_present (places_of (drop i ps)) ≡ any_present (places_of (drop (i + 1) ps))
none_yet ps i d h e = ap (λ l. any_present (places_of l)) (drop_more ps i d h) ∙ absent_first (get_or ps i d) (drop (i + 1) ps) e
  where
    absent_first : (p : Option Value) (qs : List (Option Value)) → is_some p ≡ false → any_present (places_of (p ∷ qs)) ≡ any_present (places_of qs)
    absent_first None qs e = refl
    absent_first (Some v) qs e = absurd (false≢true (sym e))

pub one_there : (ps : List (Option Value)) (i : ℕ) (d : Option Value) → i < length ps → is_some (get_or ps i d) ≡ true → any_present (places_of (drop i ps)) ≡ true
one_there ps i d h e = ap (λ l. any_present (places_of l)) (drop_more ps i d h) ∙ present_first (get_or ps i d) (drop (i + 1) ps) e
  where
    present_first : (p : Option Value) (qs : List (Option Value)) → is_some p ≡ true → any_present (places_of (p ∷ qs)) ≡ true
    present_first None qs e = absurd (false≢true e)
    present_first (Some v) qs e = refl
