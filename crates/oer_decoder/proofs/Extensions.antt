-- The additions of a SEQUENCE: known ones by their bits, and unknown ones.
use Rattle.std.proofs.Common.{◌≡◌, ℕ, zero, suc, ◌+◌, ◌-◌, ◌*◌, ◌≤◌, ◌<◌, Bool, true, false, leb, List, [], ◌∷◌, ◌++◌, length, take, drop, map, get_or, Result, Ok, Err, refl, sym, ap, ◌∙◌, subst, append-nil, drop-cons, add-one}
use Rattle.std.proofs.lemmas.Bool.{false≢true}
use Rattle.std.proofs.lemmas.List.{drop_all}
use Rattle.oer_units.specs.declared.fault.Why.TheVariants.{BitUnused, Memory, Size, UnknownAddition}
use Rattle.oer_units.specs.declared.fault.ReadFault.{ReadFault}
use Rattle.oer_units.specs.Reader.{bind, bounded, give, got, group, guard, Outcome, Place, Reader, refuse, refused, then_read, within}
use Rattle.oer_units.specs.Reading.{counted_octets, determinant, octet, open_type, with_length}
use Rattle.oer_units.specs.Reads.{Leads, place, Reads, seen, State}
use Rattle.oer_units.proofs.ReadSteps.{Reads-give, Reads-map, Reads-memory_after, Reads-same, Reads-stop, Reads-then}
use Rattle.oer_model.specs.AsnType.{addition, Additions, extensible_sequence, Fields, no_additions}
use Rattle.oer_model.specs.AsnValue.{AsnValue, Places, seq, Unknown, unknown}
use Rattle.oer_model.specs.Bits.{all_false, later_bits}
use Rattle.oer_model.specs.Constraints.{addition_count, any_size, optional, size_fits}
use Rattle.oer_model.specs.Fits.{all_absent}
use Rattle.oer_model.specs.Reading.{bitmap, bits_sized, preamble, read_additions, read_both, read_by_bit, read_extensible, read_extension, read_fields, read_unknown, read_value}
use Rattle.oer_values.specs.ValueView.{unknown_of}
use Rattle.oer_values.specs.declared.value.Unknown as rust_unknown
use Rattle.oer_model.specs.SharedSteps.{unused_fits}
use Rattle.oer_decoder.specs.BitReading.{addition_map_at, initial_octet_at, kept_map, sized_octet_at, used}
use Rattle.oer_decoder.specs.Places.{rest_at, root_at, Started, started}
use Rattle.oer_decoder.proofs.BitReads.{sized_after}
use Rattle.oer_decoder.proofs.Joins.{seen_twice}

-- ---- bits that are missing are as those that are not set

none_left : (x : Bool) (s : List Bool) → all_false (x ∷ s) ≡ true → (x ≡ false) × (all_false s ≡ true)
none_left true s e = absurd (false≢true e)
none_left false s e = (refl, e)

absent_all : (more : Additions) (f : List Bool) → all_false f ≡ true → read_additions more f ≡ read_additions more []
absent_all no_additions f e = refl
absent_all (addition name T more) [] e = refl
absent_all (addition name T more) (x ∷ f) e =
    let both = none_left x f e in
    ap (λ (b : Bool). read_by_bit b (open_type (read_value T)) (read_additions more f)) both.0
    ∙ ap (λ (r : Reader Places). read_by_bit false (open_type (read_value T)) r) (absent_all more f both.1)

additions_more : (more : Additions) (s f : List Bool) → all_false f ≡ true → read_additions more (s ++ f) ≡ read_additions more s
additions_more more [] f e = absent_all more f e
additions_more no_additions (x ∷ s) f e = refl
additions_more (addition name T more) (x ∷ s) f e = ap (λ (r : Reader Places). read_by_bit x (open_type (read_value T)) r) (additions_more more s f e)

unknown_none : (n : ℕ) (f : List Bool) → all_false f ≡ true → read_unknown n f ≡ give []
unknown_none n [] e = refl
unknown_none n (true ∷ f) e = absurd (false≢true e)
unknown_none n (false ∷ f) e = unknown_none (suc n) f e

abbrev one_unknown : ℕ → Reader (List Unknown) → Reader (List Unknown)
one_unknown n r = bind counted_octets (λ w. bind r (λ us. give (unknown n w ∷ us)))

unknown_more : (n : ℕ) (s f : List Bool) → all_false f ≡ true → read_unknown n (s ++ f) ≡ read_unknown n s
unknown_more n [] f e = unknown_none n f e
unknown_more n (true ∷ s) f e = ap (λ (r : Reader (List Unknown)). one_unknown n r) (unknown_more (suc n) s f e)
unknown_more n (false ∷ s) f e = unknown_more (suc n) s f e

drop_split : (k : ℕ) (s f : List Bool) → (g : List Bool) × (drop k (s ++ f) ≡ drop k s ++ g) × (all_false f ≡ true → all_false g ≡ true)
drop_split zero s f = (f, refl, λ e. e)
drop_split (suc k) [] f = (drop (suc k) f, refl, λ e. drop_false (suc k) f e) where
  drop_false : (k : ℕ) (f : List Bool) → all_false f ≡ true → all_false (drop k f) ≡ true
  drop_false zero f e = e
  drop_false (suc k) [] e = refl
  drop_false (suc k) (x ∷ f) e = drop_false k f (none_left x f e).1
drop_split (suc k) (x ∷ s) f = drop_split k s f

-- known additions and unknown ones, by the bits s
abbrev pub both_by : Additions → List Bool → Reader (Places × List Unknown)
both_by more s = read_both (read_additions more s) (read_unknown (addition_count more) (drop (addition_count more) s))

both_more : (more : Additions) (s f : List Bool) → all_false f ≡ true → both_by more (s ++ f) ≡ both_by more s
both_more more s f e =
    let cut = drop_split (addition_count more) s f in
    ap (λ (r : Reader Places). read_both r (read_unknown (addition_count more) (drop (addition_count more) (s ++ f)))) (additions_more more s f e)
    ∙ ap (λ (r : Reader (List Unknown)). read_both (read_additions more s) r)
    (ap (λ (l : List Bool). read_unknown (addition_count more) l) cut.1 ∙ unknown_more (addition_count more) (drop (addition_count more) s) cut.0 (cut.2 e))

front_back : (k : ℕ) (s : List Bool) → take k s ++ drop k s ≡ s
front_back zero s = refl
front_back (suc k) [] = refl
front_back (suc k) (x ∷ s) = ap (λ (l : List Bool). x ∷ l) (front_back k s)

-- ---- the bitmap

abbrev map_by : Additions → List Bool → Reader (Places × List Unknown)
map_by more s = guard (all_false (drop 65536 s)) UnknownAddition (both_by more s)

kept_is : (more : Additions) (s : List Bool) (q : Place) (b : Bool) → all_false (drop 65536 s) ≡ b → guard b UnknownAddition (both_by more s) q ≡ then_read (both_by more) (guard b UnknownAddition (give (take 65536 s)) q)
unfolding give refuse
kept_is more s q true e =
    let same : both_by more s ≡ both_by more (take 65536 s) = ap (λ (l : List Bool). both_by more l) (sym (front_back 65536 s)) ∙ both_more more (take 65536 s) (drop 65536 s) e in
    ap (λ (r : Reader (Places × List Unknown)). r q) same
kept_is more s q false e = refl

-- u, where so many bits are allowed
abbrev allowed : ℕ → ℕ → Reader ℕ
allowed n u = guard (size_fits any_size (8 * (n - 1) - u)) Size (give u)

abbrev by_standard : ℕ → Reader (List Bool)
by_standard n = guard (leb 1 n) BitUnused (bind octet (bits_sized any_size n))

extension_is : (more : Additions) (p : Place) → bind addition_map_at (both_by more) p ≡ bind bitmap (map_by more) p
unfolding addition_map_at sized_octet_at initial_octet_at bitmap with_length within bind give refuse
extension_is more p = cases (determinant p) where
  last : (u : ℕ) (o : Outcome (List ℕ)) → then_read (both_by more) (then_read (λ d. kept_map u d) o) ≡ then_read (map_by more) (then_read (λ d q. got (used u d) q) o)
  last u (got d q) = sym (kept_is more (used u d) q (all_false (drop 65536 (used u d))) refl)
  last u (refused why rest) = refl

  sized : (c : Bool) (n u : ℕ) (q : Place) → then_read (both_by more) (then_read (λ u. bind (group (n - 1)) (kept_map u)) (guard c Size (give u) q)) ≡ then_read (map_by more) (guard c Size (bind (group (n - 1)) (λ d. give (used u d))) q)
  sized true n u q = last u (group (n - 1) q)
  sized false n u q = refl

  unused : (c : Bool) (n u : ℕ) (q : Place) → then_read (both_by more) (then_read (λ u. bind (group (n - 1)) (kept_map u)) (then_read (allowed n) (guard c BitUnused (give u) q))) ≡ then_read (map_by more) (guard c BitUnused (sized_after any_size n u) q)
  unused true n u q = sized (size_fits any_size (8 * (n - 1) - u)) n u q
  unused false n u q = refl

  first : (n : ℕ) (o : Outcome ℕ) → then_read (both_by more) (then_read (λ u. bind (group (n - 1)) (kept_map u)) (then_read (allowed n) (then_read (λ u. guard (unused_fits n u) BitUnused (give u)) o))) ≡ then_read (map_by more) (then_read (bits_sized any_size n) o)
  first n (got u q) = unused (unused_fits n u) n u q
  first n (refused why rest) = refl

  some : (c : Bool) (n : ℕ) (q : Place) → then_read (both_by more) (then_read (λ u. bind (group (n - 1)) (kept_map u)) (then_read (allowed n) (guard c BitUnused (bind octet (λ u. guard (unused_fits n u) BitUnused (give u))) q))) ≡ then_read (map_by more) (guard c BitUnused (bind octet (bits_sized any_size n)) q)
  some true n q = first n (octet q)
  some false n q = refl

  room : (c : Bool) (n : ℕ) (q : Place) → then_read (both_by more) (bounded c (bind (sized_octet_at any_size n) (λ u. bind (group (n - 1)) (kept_map u))) q) ≡ then_read (map_by more) (bounded c (by_standard n) q)
  room true n q = some (leb 1 n) n q
  room false n q = refl

  cases : (o : Outcome ℕ) → then_read (both_by more) (then_read (λ n q. bounded (leb n q.left) (bind (sized_octet_at any_size n) (λ u. bind (group (n - 1)) (kept_map u))) q) o) ≡ then_read (map_by more) (then_read (λ n q. bounded (leb n q.left) (by_standard n) q) o)
  cases (got n q) = room (leb n q.left) n q
  cases (refused why rest) = refl

-- ---- with the extension bit, and without it

pub extension_none : (x : Bool) (more : Additions) (ps : Places) (us : List Unknown) (s : State) → x ≡ false → ps ≡ all_absent more → us ≡ [] → Reads (read_extension x more (read_additions more)) s (Ok (ps, us)) s
extension_none x more ps us s isnt is none = rw (isnt, is, none) (Reads-give (all_absent more, []) s)

by_map : (more : Additions) (x : Bool) (s s' : State) (result : Result (Places × List Unknown) ReadFault) → x ≡ true → Reads (bind addition_map_at (both_by more)) s result s' → Reads (read_extension x more (read_additions more)) s result s'
by_map more x s s' result does h = rw does (Reads-same (bind addition_map_at (both_by more)) (bind bitmap (map_by more)) s s' result (λ xs. extension_is more (place xs s.bound)) h)

pub extension_stop : (x : Bool) (more : Additions) (s s' : State) (e : ReadFault) → x ≡ true → Reads addition_map_at s (Err e) s' → Reads (read_extension x more (read_additions more)) s (Err e) s'
extension_stop x more s s' e does h = by_map more x s s' (Err e) does (Reads-stop addition_map_at (both_by more) s s' e h)

pub extension_known : (x : Bool) (more : Additions) (s s' s'' : State) (bits : List Bool) (e : ReadFault) → x ≡ true → Reads addition_map_at s (Ok bits) s' → Reads (read_additions more bits) s' (Err e) s'' → Reads (read_extension x more (read_additions more)) s (Err e) s''
unfolding read_both
extension_known x more s s' s'' bits e does h k =
    let unknown_by : Reader (List Unknown) = read_unknown (addition_count more) (drop (addition_count more) bits) in
    by_map more x s s'' (Err e) does (Reads-then addition_map_at (both_by more) s s' s'' bits (Err e) h (Reads-stop (read_additions more bits) (λ added. bind unknown_by (λ us. give (added, us))) s' s'' e k))

pub extension_then : (x : Bool) (more : Additions) (n : ℕ) (s s' s'' s3 : State) (bits : List Bool) (ps : Places) (result : Result (List Unknown) ReadFault) → x ≡ true → addition_count more ≡ n → Reads addition_map_at s (Ok bits) s' → Reads (read_additions more bits) s' (Ok ps) s'' → Reads (read_unknown n (drop n bits)) s'' result s3 → Reads (read_extension x more (read_additions more)) s (seen (λ us. (ps, us)) result) s3
unfolding read_both
extension_then x more n s s' s'' s3 bits ps result does count h k r =
    let unknown_by : Reader (List Unknown) = read_unknown (addition_count more) (drop (addition_count more) bits) in
    let rest : Reads unknown_by s'' result s3 = subst (λ (i : ℕ). Reads (read_unknown i (drop i bits)) s'' result s3) (sym count) r in
    by_map more x s s3 (seen (λ us. (ps, us)) result) does (Reads-then addition_map_at (both_by more) s s' s3 bits (seen (λ us. (ps, us)) result) h
    (Reads-then (read_additions more bits) (λ added. bind unknown_by (λ us. give (added, us))) s' s'' s3 ps (seen (λ us. (ps, us)) result) k (Reads-map unknown_by (λ us. (ps, us)) s'' s3 result rest)))

-- ---- a sequence with an extension marker

extensible_is : (fs : Fields) (more : Additions) (p : Place) → bind (root_at fs) (rest_at more) p ≡ read_value (extensible_sequence fs more) p
unfolding read_extensible bind give
extensible_is fs more p = cases (preamble (suc (optional fs)) p) where
  inner : (s : List Bool) (o : Outcome Places) → then_read (rest_at more) (then_read (λ root q. got (started s root) q) o) ≡ then_read (λ root. rest_at more (started s root)) o
  inner s (got x q) = refl
  inner s (refused w l) = refl

  cases : (o : Outcome (List Bool)) → then_read (rest_at more) (then_read (λ s q. then_read (λ root t. got (started s root) t) (read_fields fs (later_bits s) q)) o) ≡ then_read (λ s q. then_read (λ root. rest_at more (started s root)) (read_fields fs (later_bits s) q)) o
  cases (got s q) = inner s (read_fields fs (later_bits s) q)
  cases (refused w l) = refl

pub extensible_stop : (fs : Fields) (more : Additions) (s s' : State) (e : ReadFault) → Reads (root_at fs) s (Err e) s' → Reads (read_value (extensible_sequence fs more)) s (Err e) s'
extensible_stop fs more s s' e h = Reads-same (bind (root_at fs) (rest_at more)) (read_value (extensible_sequence fs more)) s s' (Err e) (λ xs. extensible_is fs more (place xs s.bound)) (Reads-stop (root_at fs) (rest_at more) s s' e h)

pub extensible_then : (fs : Fields) (more : Additions) (s s' s'' : State) (x : Started) (result : Result AsnValue ReadFault) → Reads (root_at fs) s (Ok x) s'
    → Reads (rest_at more x) s' result s'' → Reads (read_value (extensible_sequence fs more)) s result s''
extensible_then fs more s s' s'' x result h k =
    Reads-same (bind (root_at fs) (rest_at more)) (read_value (extensible_sequence fs more)) s s'' result (λ xs. extensible_is fs more (place xs s.bound)) (Reads-then (root_at fs) (rest_at more) s s' s'' x result h k)

pub rest_then : (more : Additions) (x : Started) (s s' : State) (result : Result (Places × List Unknown) ReadFault) → Reads (read_extension x.extended more (read_additions more)) s result s'
    → Reads (rest_at more x) s (seen (λ added. seq x.root added.0 added.1) result) s'
rest_then more x s s' result h = Reads-map (read_extension x.extended more (read_additions more)) (λ added. seq x.root added.0 added.1) s s' result h

-- ---- unknown additions, one after another

bits_at : (bits : List Bool) (i : ℕ) → i < length bits → drop i bits ≡ get_or bits i false ∷ drop (i + 1) bits
bits_at bits i less = drop-cons bits i false less ∙ ap (λ (k : ℕ). get_or bits i false ∷ drop k bits) (sym (add-one i))

unset_at : (bits : List Bool) (i : ℕ) → i < length bits → get_or bits i false ≡ false → read_unknown i (drop i bits) ≡ read_unknown (i + 1) (drop (i + 1) bits)
unset_at bits i less isnt =
    ap (λ (l : List Bool). read_unknown i l) (bits_at bits i less ∙ ap (λ (b : Bool). b ∷ drop (i + 1) bits) isnt)
    ∙ ap (λ (k : ℕ). read_unknown k (drop (i + 1) bits)) (sym (add-one i))

set_at : (bits : List Bool) (i : ℕ) → i < length bits → get_or bits i false ≡ true → read_unknown i (drop i bits) ≡ one_unknown i (read_unknown (i + 1) (drop (i + 1) bits))
set_at bits i less is =
    ap (λ (l : List Bool). read_unknown i l) (bits_at bits i less ∙ ap (λ (b : Bool). b ∷ drop (i + 1) bits) is)
    ∙ ap (λ (k : ℕ). one_unknown i (read_unknown k (drop (i + 1) bits))) (sym (add-one i))

pub unknown_skip : (bits : List Bool) (i : ℕ) (f : List Unknown → List Unknown) (whole : Reader (List Unknown)) (s old : State) → i < length bits → get_or bits i false ≡ false → Leads (read_unknown i (drop i bits)) s f whole old → Leads (read_unknown (i + 1) (drop (i + 1) bits)) s f whole old
unknown_skip bits i f whole s old less isnt p result then h = p result then (subst (λ (r : Reader (List Unknown)). Reads r s result then) (sym (unset_at bits i less isnt)) h)

pub unknown_stop : (bits : List Bool) (i : ℕ) (f : List Unknown → List Unknown) (whole : Reader (List Unknown)) (s s' old : State) (e : ReadFault) → i < length bits → get_or bits i false ≡ true → Leads (read_unknown i (drop i bits)) s f whole old → Reads counted_octets s (Err e) s' → Reads whole old (Err e) s'
unknown_stop bits i f whole s s' old e less is p h =
    p (Err e) s' (subst (λ (r : Reader (List Unknown)). Reads r s (Err e) s') (sym (set_at bits i less is)) (Reads-stop counted_octets (λ w. bind (read_unknown (i + 1) (drop (i + 1) bits)) (λ us. give (unknown i w ∷ us))) s s' e h))

map_push : (xs : List rust_unknown.Unknown) (u : rust_unknown.Unknown) (us : List Unknown) → map unknown_of xs ++ unknown_of u ∷ us ≡ map unknown_of (xs ++ u ∷ []) ++ us
map_push [] u us = refl
map_push (x ∷ xs) u us = ap (λ (l : List Unknown). unknown_of x ∷ l) (map_push xs u us)

pub unknown_next : (bits : List Bool) (i : ℕ) (xs ys : List rust_unknown.Unknown) (u : rust_unknown.Unknown) (whole : Reader (List Unknown)) (s s' old : State) → i < length bits → get_or bits i false ≡ true → u.place ≡ i → ys ≡ xs ++ u ∷ [] → Leads (read_unknown i (drop i bits)) s (λ us. map unknown_of xs ++ us) whole old → Reads counted_octets s (Ok u.octets.items) s' → Leads (read_unknown (i + 1) (drop (i + 1) bits)) s' (λ us. map unknown_of ys ++ us) whole old
unknown_next bits i xs ys u whole s s' old less is at_i more p h result then k =
    let step : Reads (one_unknown i (read_unknown (i + 1) (drop (i + 1) bits))) s (seen (λ us. unknown i u.octets.items ∷ us) result) then =
    Reads-then counted_octets (λ w. bind (read_unknown (i + 1) (drop (i + 1) bits)) (λ us. give (unknown i w ∷ us))) s s' then u.octets.items (seen (λ us. unknown i u.octets.items ∷ us) result) h (Reads-map (read_unknown (i + 1) (drop (i + 1) bits)) (λ us. unknown i u.octets.items ∷ us) s' then result k) in
    let here : Reads (read_unknown i (drop i bits)) s (seen (λ us. unknown i u.octets.items ∷ us) result) then = subst (λ (r : Reader (List Unknown)). Reads r s (seen (λ us. unknown i u.octets.items ∷ us) result) then) (sym (set_at bits i less is)) step in
    seen_twice (λ us. unknown i u.octets.items ∷ us) (λ us. map unknown_of xs ++ us) (λ us. map unknown_of ys ++ us) whole old then result
    (λ us. ap (λ (n : ℕ). map unknown_of xs ++ unknown n u.octets.items ∷ us) (sym at_i) ∙ map_push xs u us ∙ ap (λ (l : List rust_unknown.Unknown). map unknown_of l ++ us) (sym more))
    (p (seen (λ us. unknown i u.octets.items ∷ us) result) then here)

pub unknown_memory : (bits : List Bool) (i : ℕ) (w : List ℕ) (f : List Unknown → List Unknown) (whole : Reader (List Unknown)) (s s' old : State) (e : ReadFault) → e.why ≡ Memory → e.taken ≡ s'.bound.taken → Leads (read_unknown i (drop i bits)) s f whole old → Reads counted_octets s (Ok w) s' → Reads whole old (Err e) s'
unknown_memory bits i w f whole s s' old e why taken p h = p (Err e) s' (Reads-memory_after counted_octets (read_unknown i (drop i bits)) s s' w e h why taken)

pub unknown_end : (bits : List Bool) (i : ℕ) (xs : List rust_unknown.Unknown) (whole : Reader (List Unknown)) (s old : State) → length bits ≤ i → Leads (read_unknown i (drop i bits)) s (λ us. map unknown_of xs ++ us) whole old → Reads whole old (Ok (map unknown_of xs)) s
unknown_end bits i xs whole s old le p =
    let none : drop i bits ≡ [] = drop_all i bits le in
    let here : Reads (read_unknown i (drop i bits)) s (Ok []) s = subst (λ (l : List Bool). Reads (read_unknown i l) s (Ok []) s) (sym none) (Reads-give [] s) in
    subst (λ (l : List Unknown). Reads whole old (Ok l) s) (append-nil (map unknown_of xs)) (p (Ok []) s here)
