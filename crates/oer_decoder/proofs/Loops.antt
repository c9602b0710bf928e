-- Parts one after another.
use Rattle.std.proofs.Common.{◌≡◌, ℕ, ℤ, pos, suc, ◌+◌, ◌-◌, ◌^◌, ◌<◌, ◌≤◌, Bool, true, false, ltb, leb, List, [], ◌∷◌, ◌++◌, length, map, drop, get_or, Option, Some, None, option_map, Result, Ok, Err, arith, refl, sym, ap, ◌∙◌, subst, set, append_assoc, append-nil, drop-cons, add-one, string_bytes, inl, inr}
use Rattle.std.specs.Prelude.{unsigned_abs}
use Rattle.std.proofs.lemmas.Bool.{cases_lt, le-leb, le-ltb, lt-leb, lt-ltb}
use Rattle.std.proofs.lemmas.List.{drop_all}
use Rattle.std.proofs.Math.Seq.{get_or-append_seam, set-append_seam}
use Rattle.oer_units.specs.declared.fault.Why.TheVariants as reason
use Rattle.oer_units.specs.declared.fault.Why.TheVariants.{EmptyNumber, IntegerRange, Memory}
use Rattle.oer_units.specs.declared.fault.ReadFault.{ReadFault}
use Rattle.oer_units.specs.Numbers.{natural, unsigned}
use Rattle.oer_units.specs.Reader.{bind, bounded, give, got, group, guard, Outcome, Place, Reader, refuse, refused, then_read, times, within}
use Rattle.oer_units.specs.Reading.{counted_number, determinant, is_int128, number, open_type, with_length}
use Rattle.oer_units.specs.ReadingSteps.{allow_at}
use Rattle.oer_units.specs.Reads.{Leads, place, Reads, seen, State}
use Rattle.oer_units.proofs.ReadSteps.{Reads-give, Reads-map, Reads-memory, Reads-same, Reads-stop, Reads-then}
use Rattle.oer_model.specs.AsnType.{AsnType, default, field, Fields, may, must, Need, sequence}
use Rattle.oer_model.specs.AsnValue.{absent, AsnValue, items, no_places, Places, present, seq, value}
use Rattle.oer_model.specs.Bits.{first_bit, later_bits}
use Rattle.oer_model.specs.Constraints.{addition_count, optional, size_fits}
use Rattle.oer_model.specs.Fits.{all_absent, listed}
use Rattle.oer_model.specs.Reading.{preamble, quantity, read_additions, read_absent, read_by_bit, read_fields, read_items, read_present, read_sequence, read_value}
use Rattle.oer_values.specs.ShapeView.{additions_of, fields_of, need_of, type_of}
use Rattle.oer_values.specs.ValueView.{places_from, places_of, value_of, values_of}
use Rattle.oer_model.specs.declared.size.Size.{Size}
use Rattle.oer_values.specs.declared.value.Value.{Value}
use Rattle.oer_values.specs.declared.shape.Field.{Field}
use Rattle.oer_values.specs.declared.shape.Addition.{Addition}
use Rattle.oer_model.specs.SharedSteps.{bits_left, is_there}
use Rattle.oer_decoder.specs.Places.{count_at, place_by, put, put_all, root_at, started}
use Rattle.oer_decoder.proofs.Joins.{guard_no, guard_yes, seen_twice, size_plain}

-- ---- one part more

pub leads_step : {A B D : Type 0} (m : Reader A) (rest r : Reader B) (join : A → B → B) (f g : B → D) (whole : Reader D) (s s' old : State) (x : A) → ((p : Place) → bind m (λ o. bind rest (λ b. give (join o b))) p ≡ r p) → ((b : B) → f (join x b) ≡ g b) → Leads r s f whole old → Reads m s (Ok x) s' → Leads rest s' g whole old
leads_step m rest r join f g whole s s' old x same more p h result then k =
    let here : Reads r s (seen (join x) result) then = Reads-same (bind m (λ o. bind rest (λ b. give (join o b)))) r s then (seen (join x) result) (λ xs. same (place xs s.bound))
    (Reads-then m (λ o. bind rest (λ b. give (join o b))) s s' then x (seen (join x) result) h (Reads-map rest (join x) s' then result k)) in
    seen_twice (join x) f g whole old then result more (p (seen (join x) result) then here)

pub leads_stop : {A B D : Type 0} (m : Reader A) (rest r : Reader B) (join : A → B → B) (f : B → D) (whole : Reader D) (s s' old : State) (e : ReadFault) → ((p : Place) → bind m (λ o. bind rest (λ b. give (join o b))) p ≡ r p) → Leads r s f whole old → Reads m s (Err e) s' → Reads whole old (Err e) s'
leads_stop m rest r join f whole s s' old e same p h =
    p (Err e) s' (Reads-same (bind m (λ o. bind rest (λ b. give (join o b)))) r s s' (Err e) (λ xs. same (place xs s.bound)) (Reads-stop m (λ o. bind rest (λ b. give (join o b))) s s' e h))

pub leads_memory : {B D : Type 0} (r : Reader B) (f : B → D) (whole : Reader D) (s old : State) (e : ReadFault) → e.why ≡ Memory → e.taken ≡ s.bound.taken → Leads r s f whole old → Reads whole old (Err e) s
leads_memory r f whole s old e is taken p = p (Err e) s (Reads-memory r e s is taken)

pub leads_same : {B : Type 0} (r : Reader B) (f : B → B) (s : State) → ((b : B) → f b ≡ b) → Leads r s f r s
leads_same {B} r f s same (Ok x) then h = subst (λ (y : B). Reads r s (Ok y) then) (sym (same x)) h
leads_same r f s same (Err e) then h = h

pub leads_end : {B D : Type 0} (b : B) (f : B → D) (d : D) (whole : Reader D) (s old : State) → f b ≡ d → Leads (give b) s f whole old → Reads whole old (Ok d) s
leads_end {B} {D} b f d whole s old same p = subst (λ (y : D). Reads whole old (Ok y) s) same (p (Ok b) s (Reads-give b s))

-- what stands last in a list, after another value was stored there
pub found_last : {A : Type 0} (xs ys : List A) (a d : A) {n : ℕ} → n ≡ length xs → ys ≡ xs ++ a ∷ [] → get_or ys n d ≡ a
found_last {A} xs ys a d {n} last is = ap (λ (l : List A). get_or l n d) is ∙ ap (λ (k : ℕ). get_or (xs ++ a ∷ []) k d) last ∙ get_or-append_seam xs a [] d

pub stored_last : {A : Type 0} (xs ys : List A) (a b : A) {n : ℕ} → n ≡ length xs → ys ≡ xs ++ a ∷ [] → set ys n b ≡ xs ++ b ∷ []
stored_last {A} xs ys a b {n} last is = ap (λ (l : List A). set l n b) is ∙ ap (λ (k : ℕ). set (xs ++ a ∷ []) k b) last ∙ set-append_seam xs a [] b

-- ---- components

by_bit_is : (b : Bool) (r : Reader AsnValue) (rest : Reader Places) (p : Place) → bind (place_by b r) (λ o. bind rest (λ ps. give (put o ps))) p ≡ read_by_bit b r rest p
unfolding read_present read_absent bind give
by_bit_is false r rest p = refl
by_bit_is true r rest p = cases (r p) where
  cases : (o : Outcome AsnValue) → then_read (λ x. λ q. then_read (λ ps. λ t. got (put x ps) t) (rest q)) (then_read (λ v q. got (Some v) q) o) ≡ then_read (λ v q. then_read (λ ps t. got (present v ps) t) (rest q)) o
  cases (got v q) = refl
  cases (refused w l) = refl

field_is : (name : List ℕ) (need : Need) (T : AsnType) (fs : Fields) (s : List Bool) (p : Place) → bind (place_by (is_there need s) (read_value T)) (λ o. bind (read_fields fs (bits_left need s)) (λ ps. give (put o ps))) p ≡ read_fields (field name need T fs) s p
field_is name must T fs s p = by_bit_is true (read_value T) (read_fields fs s) p
field_is name may T fs s p = by_bit_is (first_bit s) (read_value T) (read_fields fs (later_bits s)) p
field_is name (default d) T fs s p = by_bit_is (first_bit s) (read_value T) (read_fields fs (later_bits s)) p

put_all_end : (os : List (Option AsnValue)) → put_all os no_places ≡ places_from os
put_all_end [] = refl
put_all_end (None ∷ os) = ap (λ (p : Places). absent p) (put_all_end os)
put_all_end (Some v ∷ os) = ap (λ (p : Places). present v p) (put_all_end os)

put_all_more : (os : List (Option Value)) (o : Option Value) (ps : Places) → put_all (map (option_map value_of) os) (put (option_map value_of o) ps) ≡ put_all (map (option_map value_of) (os ++ o ∷ [])) ps
put_all_more [] o ps = refl
put_all_more (None ∷ os) o ps = ap (λ (p : Places). absent p) (put_all_more os o ps)
put_all_more (Some v ∷ os) o ps = ap (λ (p : Places). present (value_of v) p) (put_all_more os o ps)

-- the components from this one on
pub fields_at : (fields : List Field) (i : ℕ) (f : Field) (bits : List Bool) (p : Place) → i < length fields → f ≡ get_or fields i f → bind (place_by (is_there (need_of f.need) bits) (read_value (type_of f.shape))) (λ o. bind (read_fields (fields_of (drop (i + 1) fields)) (bits_left (need_of f.need) bits)) (λ ps. give (put o ps))) p ≡ read_fields (fields_of (drop i fields)) bits p
fields_at fields i f bits p less is =
    let e : drop i fields ≡ f ∷ drop (i + 1) fields = drop-cons fields i f less ∙ ap (λ (x : Field). x ∷ drop (suc i) fields) (sym is) ∙ ap (λ (k : ℕ). f ∷ drop k fields) (sym (add-one i)) in
    field_is (string_bytes f.name) (need_of f.need) (type_of f.shape) (fields_of (drop (i + 1) fields)) bits p
    ∙ ap (λ (l : List Field). read_fields (fields_of l) bits p) (sym e)

pub fields_next : (fields : List Field) (i : ℕ) (f : Field) (bits bits' : List Bool) (there : Bool) (os os' : List (Option Value)) (o : Option Value) (s s' old : State) (whole : Reader Places)
    → i < length fields → f ≡ get_or fields i f → there ≡ is_there (need_of f.need) bits → bits' ≡ bits_left (need_of f.need) bits → os' ≡ os ++ o ∷ []
    → Leads (read_fields (fields_of (drop i fields)) bits) s (put_all (map (option_map value_of) os)) whole old
    → Reads (place_by there (read_value (type_of f.shape))) s (Ok (option_map value_of o)) s'
    → Leads (read_fields (fields_of (drop (i + 1) fields)) bits') s' (put_all (map (option_map value_of) os')) whole old
fields_next fields i f bits bits' there os os' o s s' old whole less is t b more p h =
    rw (b, more) (leads_step (place_by (is_there (need_of f.need) bits) (read_value (type_of f.shape))) (read_fields (fields_of (drop (i + 1) fields)) (bits_left (need_of f.need) bits)) (read_fields (fields_of (drop i fields)) bits) put (put_all (map (option_map value_of) os)) (put_all (map (option_map value_of) (os ++ o ∷ []))) whole s s' old (option_map value_of o)
    (λ q. fields_at fields i f bits q less is) (λ ps. put_all_more os o ps) p (subst (λ (x : Bool). Reads (place_by x (read_value (type_of f.shape))) s (Ok (option_map value_of o)) s') t h))

pub fields_stop : (fields : List Field) (i : ℕ) (f : Field) (bits : List Bool) (there : Bool) (os : List (Option Value)) (e : ReadFault) (s s' old : State) (whole : Reader Places)
    → i < length fields → f ≡ get_or fields i f → there ≡ is_there (need_of f.need) bits
    → Leads (read_fields (fields_of (drop i fields)) bits) s (put_all (map (option_map value_of) os)) whole old
    → Reads (place_by there (read_value (type_of f.shape))) s (Err e) s'
    → Reads whole old (Err e) s'
fields_stop fields i f bits there os e s s' old whole less is t p h =
    leads_stop (place_by (is_there (need_of f.need) bits) (read_value (type_of f.shape))) (read_fields (fields_of (drop (i + 1) fields)) (bits_left (need_of f.need) bits)) (read_fields (fields_of (drop i fields)) bits) put (put_all (map (option_map value_of) os)) whole s s' old e
    (λ q. fields_at fields i f bits q less is) p (subst (λ (x : Bool). Reads (place_by x (read_value (type_of f.shape))) s (Err e) s') t h)

pub fields_none : (fields : List Field) (bits : List Bool) (os : List (Option Value)) (s : State) → os ≡ [] → Leads (read_fields (fields_of (drop 0 fields)) bits) s (put_all (map (option_map value_of) os)) (read_fields (fields_of fields) bits) s
fields_none fields bits os s none = rw none (leads_same (read_fields (fields_of fields) bits) (λ ps. ps) s (λ ps. refl))

pub fields_end : (fields : List Field) (i : ℕ) (bits : List Bool) (os : List (Option Value)) (s old : State) (whole : Reader Places) → length fields ≤ i
    → Leads (read_fields (fields_of (drop i fields)) bits) s (put_all (map (option_map value_of) os)) whole old → Reads whole old (Ok (places_of os)) s
fields_end fields i bits os s old whole le p =
    let none : drop i fields ≡ [] = drop_all i fields le in
    leads_end no_places (put_all (map (option_map value_of) os)) (places_of os) whole s old (put_all_end (map (option_map value_of) os)) (rw none at p)

-- ---- additions

pub adds_at : (adds : List Addition) (i : ℕ) (a : Addition) (bits : List Bool) (p : Place) → i < length adds → a ≡ get_or adds i a → bind (place_by (first_bit bits) (open_type (read_value (type_of a.shape)))) (λ o. bind (read_additions (additions_of (drop (i + 1) adds)) (later_bits bits)) (λ ps. give (put o ps))) p ≡ read_additions (additions_of (drop i adds)) bits p
adds_at adds i a bits p less is =
    let e : drop i adds ≡ a ∷ drop (i + 1) adds = drop-cons adds i a less ∙ ap (λ (x : Addition). x ∷ drop (suc i) adds) (sym is) ∙ ap (λ (k : ℕ). a ∷ drop k adds) (sym (add-one i)) in
    by_bit_is (first_bit bits) (open_type (read_value (type_of a.shape))) (read_additions (additions_of (drop (i + 1) adds)) (later_bits bits)) p
    ∙ ap (λ (l : List Addition). read_additions (additions_of l) bits p) (sym e)

pub adds_next : (adds : List Addition) (i : ℕ) (a : Addition) (bits bits' : List Bool) (there : Bool) (os os' : List (Option Value)) (o : Option Value) (s s' old : State) (whole : Reader Places)
    → i < length adds → a ≡ get_or adds i a → there ≡ first_bit bits → bits' ≡ later_bits bits → os' ≡ os ++ o ∷ []
    → Leads (read_additions (additions_of (drop i adds)) bits) s (put_all (map (option_map value_of) os)) whole old
    → Reads (place_by there (open_type (read_value (type_of a.shape)))) s (Ok (option_map value_of o)) s'
    → Leads (read_additions (additions_of (drop (i + 1) adds)) bits') s' (put_all (map (option_map value_of) os')) whole old
adds_next adds i a bits bits' there os os' o s s' old whole less is t b more p h =
    rw (b, more) (leads_step (place_by (first_bit bits) (open_type (read_value (type_of a.shape)))) (read_additions (additions_of (drop (i + 1) adds)) (later_bits bits)) (read_additions (additions_of (drop i adds)) bits) put (put_all (map (option_map value_of) os)) (put_all (map (option_map value_of) (os ++ o ∷ []))) whole s s' old (option_map value_of o)
    (λ q. adds_at adds i a bits q less is) (λ ps. put_all_more os o ps) p (subst (λ (x : Bool). Reads (place_by x (open_type (read_value (type_of a.shape)))) s (Ok (option_map value_of o)) s') t h))

pub adds_stop : (adds : List Addition) (i : ℕ) (a : Addition) (bits : List Bool) (there : Bool) (os : List (Option Value)) (e : ReadFault) (s s' old : State) (whole : Reader Places)
    → i < length adds → a ≡ get_or adds i a → there ≡ first_bit bits
    → Leads (read_additions (additions_of (drop i adds)) bits) s (put_all (map (option_map value_of) os)) whole old
    → Reads (place_by there (open_type (read_value (type_of a.shape)))) s (Err e) s'
    → Reads whole old (Err e) s'
adds_stop adds i a bits there os e s s' old whole less is t p h =
    leads_stop (place_by (first_bit bits) (open_type (read_value (type_of a.shape)))) (read_additions (additions_of (drop (i + 1) adds)) (later_bits bits)) (read_additions (additions_of (drop i adds)) bits) put (put_all (map (option_map value_of) os)) whole s s' old e
    (λ q. adds_at adds i a bits q less is) p (subst (λ (x : Bool). Reads (place_by x (open_type (read_value (type_of a.shape)))) s (Err e) s') t h)

pub adds_none : (adds : List Addition) (bits : List Bool) (os : List (Option Value)) (s : State) → os ≡ [] → Leads (read_additions (additions_of (drop 0 adds)) bits) s (put_all (map (option_map value_of) os)) (read_additions (additions_of adds) bits) s
adds_none adds bits os s none = rw none (leads_same (read_additions (additions_of adds) bits) (λ ps. ps) s (λ ps. refl))

pub adds_end : (adds : List Addition) (i : ℕ) (bits : List Bool) (os : List (Option Value)) (s old : State) (whole : Reader Places) → length adds ≤ i
    → Leads (read_additions (additions_of (drop i adds)) bits) s (put_all (map (option_map value_of) os)) whole old → Reads whole old (Ok (places_of os)) s
adds_end adds i bits os s old whole le p =
    let none : drop i adds ≡ [] = drop_all i adds le in
    leads_end no_places (put_all (map (option_map value_of) os)) (places_of os) whole s old (put_all_end (map (option_map value_of) os)) (rw none at p)

-- ---- elements

map_push : (vs : List Value) (v : Value) → map value_of (vs ++ v ∷ []) ≡ map value_of vs ++ value_of v ∷ []
map_push [] v = refl
map_push (x ∷ vs) v = ap (λ (l : List AsnValue). value_of x ∷ l) (map_push vs v)

pub elements_next : (k n : ℕ) (r : Reader AsnValue) (vs vs' : List Value) (v : Value) (s s' old : State) (whole : Reader (List AsnValue)) → k ≡ suc n → vs' ≡ vs ++ v ∷ []
    → Leads (times k r) s (λ w. map value_of vs ++ w) whole old → Reads r s (Ok (value_of v)) s' → Leads (times n r) s' (λ w. map value_of vs' ++ w) whole old
elements_next k n r vs vs' v s s' old whole is more p h =
    rw more (leads_step r (times n r) (times (suc n) r) (λ x w. x ∷ w) (λ w. map value_of vs ++ w) (λ w. map value_of (vs ++ v ∷ []) ++ w) whole s s' old (value_of v) (λ q. refl)
    (λ w. sym (ap (λ (l : List AsnValue). l ++ w) (map_push vs v) ∙ append_assoc (map value_of vs) (value_of v ∷ []) w)) (subst (λ (j : ℕ). Leads (times j r) s (λ w. map value_of vs ++ w) whole old) is p) h)

pub elements_stop : (k n : ℕ) (r : Reader AsnValue) (vs : List Value) (e : ReadFault) (s s' old : State) (whole : Reader (List AsnValue)) → k ≡ suc n
    → Leads (times k r) s (λ w. map value_of vs ++ w) whole old → Reads r s (Err e) s' → Reads whole old (Err e) s'
elements_stop k n r vs e s s' old whole is p h =
    leads_stop r (times n r) (times (suc n) r) (λ x w. x ∷ w) (λ w. map value_of vs ++ w) whole s s' old e (λ q. refl) (subst (λ (j : ℕ). Leads (times j r) s (λ w. map value_of vs ++ w) whole old) is p) h

pub elements_none : (n : ℕ) (r : Reader AsnValue) (vs : List Value) (s : State) → vs ≡ [] → Leads (times (n - 0) r) s (λ w. map value_of vs ++ w) (times n r) s
elements_none n r vs s none = let e : n - 0 ≡ n = omega arith in rw (e, none) (leads_same (times n r) (λ w. w) s (λ w. refl))

pub elements_end : (k : ℕ) (r : Reader AsnValue) (vs : List Value) (s old : State) (whole : Reader (List AsnValue)) → k ≡ 0
    → Leads (times k r) s (λ w. map value_of vs ++ w) whole old → Reads whole old (Ok (map value_of vs)) s
elements_end k r vs s old whole is p = leads_end [] (λ w. map value_of vs ++ w) (map value_of vs) whole s old (append-nil (map value_of vs)) (subst (λ (j : ℕ). Leads (times j r) s (λ w. map value_of vs ++ w) whole old) is p)

-- ---- the number of elements, and the elements

items_is : (z : Size) (r : Reader AsnValue) (p : Place) → bind (count_at z) (λ n. bind (times n r) (λ vs. give (items (listed vs)))) p ≡ read_items z r p
unfolding read_items bind within give refuse
items_is z r p = cases (quantity p) where
  rest : ℕ → Reader AsnValue
  rest n q = then_read (λ vs t. got (items (listed vs)) t) (times n r q)

  sized : (c : Bool) (n : ℕ) (q : Place) → then_read rest (guard c reason.Size (give n) q) ≡ guard c reason.Size (rest n) q
  sized true n q = refl
  sized false n q = refl

  inner : (c : Bool) (n : ℕ) (q : Place) → then_read rest (bounded c (guard (size_fits z n) reason.Size (give n)) q) ≡ bounded c (guard (size_fits z n) reason.Size (rest n)) q
  inner true n q = sized (size_fits z n) n q
  inner false n q = refl

  cases : (o : Outcome ℕ) → then_read rest (then_read (λ n q. bounded (leb n q.left) (guard (size_fits z n) reason.Size (give n)) q) o) ≡ then_read (λ n q. bounded (leb n q.left) (guard (size_fits z n) reason.Size (rest n)) q) o
  cases (got n q) = inner (leb n q.left) n q
  cases (refused w l) = refl

pub items_stop : (z : Size) (r : Reader AsnValue) (s s' : State) (e : ReadFault) → Reads (count_at z) s (Err e) s' → Reads (read_items z r) s (Err e) s'
items_stop z r s s' e h = Reads-same (bind (count_at z) (λ n. bind (times n r) (λ vs. give (items (listed vs))))) (read_items z r) s s' (Err e) (λ xs. items_is z r (place xs s.bound)) (Reads-stop (count_at z) (λ n. bind (times n r) (λ vs. give (items (listed vs)))) s s' e h)

pub items_then : (z : Size) (r : Reader AsnValue) (s s' s'' : State) (n : ℕ) (result : Result (List AsnValue) ReadFault) → Reads (count_at z) s (Ok n) s' → Reads (times n r) s' result s'' → Reads (read_items z r) s (seen (λ vs. items (listed vs)) result) s''
items_then z r s s' s'' n result h k = Reads-same (bind (count_at z) (λ n. bind (times n r) (λ vs. give (items (listed vs))))) (read_items z r) s s'' (seen (λ vs. items (listed vs)) result) (λ xs. items_is z r (place xs s.bound))
    (Reads-then (count_at z) (λ n. bind (times n r) (λ vs. give (items (listed vs)))) s s' s'' n (seen (λ vs. items (listed vs)) result) h (Reads-map (times n r) (λ vs. items (listed vs)) s' s'' result k))

-- ---- a place

pub place_none : (b : Bool) (r : Reader AsnValue) (s : State) → b ≡ false → Reads (place_by b r) s (Ok None) s
place_none b r s is = rw is (Reads-give None s)

pub place_then : (b : Bool) (r : Reader AsnValue) (s s' : State) (result : Result AsnValue ReadFault) → b ≡ true → Reads r s result s' → Reads (place_by b r) s (seen (λ v. Some v) result) s'
place_then b r s s' result is h = rw is (Reads-map r (λ v. Some v) s s' result h)

-- ---- sequences

pub sequence_stop : (fs : Fields) (s s' : State) (e : ReadFault) → Reads (preamble (optional fs)) s (Err e) s' → Reads (read_value (sequence fs)) s (Err e) s'
unfolding read_sequence
sequence_stop fs s s' e h = Reads-stop (preamble (optional fs)) (λ bits. bind (read_fields fs bits) (λ root. give (seq root no_places []))) s s' e h

pub sequence_then : (fs : Fields) (s s' s'' : State) (bits : List Bool) (result : Result Places ReadFault) → Reads (preamble (optional fs)) s (Ok bits) s' → Reads (read_fields fs bits) s' result s'' → Reads (read_value (sequence fs)) s (seen (λ root. seq root no_places []) result) s''
unfolding read_sequence
sequence_then fs s s' s'' bits result h k = Reads-then (preamble (optional fs)) (λ bits. bind (read_fields fs bits) (λ root. give (seq root no_places []))) s s' s'' bits (seen (λ root. seq root no_places []) result) h (Reads-map (read_fields fs bits) (λ root. seq root no_places []) s' s'' result k)

pub root_stop : (fs : Fields) (s s' : State) (e : ReadFault) → Reads (preamble (suc (optional fs))) s (Err e) s' → Reads (root_at fs) s (Err e) s'
root_stop fs s s' e h = Reads-stop (preamble (suc (optional fs))) (λ bits. bind (read_fields fs (later_bits bits)) (λ root. give (started bits root))) s s' e h

pub root_then : (fs : Fields) (s s' s'' : State) (bits : List Bool) (result : Result Places ReadFault) → Reads (preamble (suc (optional fs))) s (Ok bits) s' → Reads (read_fields fs (later_bits bits)) s' result s'' → Reads (root_at fs) s (seen (started bits) result) s''
root_then fs s s' s'' bits result h k = Reads-then (preamble (suc (optional fs))) (λ bits. bind (read_fields fs (later_bits bits)) (λ root. give (started bits root))) s s' s'' bits (seen (started bits) result) h (Reads-map (read_fields fs (later_bits bits)) (started bits) s' s'' result k)

-- ---- what the bound allows

within_is : {A : Type 0} (n : ℕ) (r : Reader A) (p : Place) → bind (allow_at n) (λ m. r) p ≡ within n r p
unfolding within bind give
within_is {A} n r p = cases (leb n p.left) where
  cases : (c : Bool) → then_read (λ m. r) (bounded c (λ q. got n q) p) ≡ bounded c r p
  cases true = refl
  cases false = refl

pub within_stop : {A : Type 0} (n : ℕ) (r : Reader A) (s s' : State) (e : ReadFault) → Reads (allow_at n) s (Err e) s' → Reads (within n r) s (Err e) s'
within_stop n r s s' e h = Reads-same (bind (allow_at n) (λ m. r)) (within n r) s s' (Err e) (λ xs. within_is n r (place xs s.bound)) (Reads-stop (allow_at n) (λ m. r) s s' e h)

pub within_then : {A : Type 0} (n : ℕ) (r : Reader A) (s s' s'' : State) (m : ℕ) (result : Result A ReadFault) → Reads (allow_at n) s (Ok m) s' → Reads r s' result s'' → Reads (within n r) s result s''
within_then n r s s' s'' m result h k = Reads-same (bind (allow_at n) (λ m. r)) (within n r) s s'' result (λ xs. within_is n r (place xs s.bound)) (Reads-then (allow_at n) (λ m. r) s s' s'' m result h k)

abbrev sized : Size → ℕ → Reader ℕ
sized z n = within n (guard (size_fits z n) reason.Size (give n))

pub count_stop : (z : Size) (s s' : State) (e : ReadFault) → Reads quantity s (Err e) s' → Reads (count_at z) s (Err e) s'
count_stop z s s' e h = Reads-stop quantity (sized z) s s' e h

pub count_over : (z : Size) (s s' s'' : State) (n : ℕ) (e : ReadFault) → Reads quantity s (Ok n) s' → Reads (allow_at n) s' (Err e) s'' → Reads (count_at z) s (Err e) s''
count_over z s s' s'' n e h k = Reads-then quantity (sized z) s s' s'' n (Err e) h (within_stop n (guard (size_fits z n) reason.Size (give n)) s' s'' e k)

pub count_misfit : (z : Size) (s s' s'' : State) (n m : ℕ) (e : ReadFault) → Reads quantity s (Ok n) s' → Reads (allow_at n) s' (Ok m) s'' → m ≡ n → size_fits z m ≡ false → e.why ≡ reason.Size → e.taken ≡ s''.bound.taken → Reads (count_at z) s (Err e) s''
count_misfit z s s' s'' n m e h k same isnt why taken =
    Reads-then quantity (sized z) s s' s'' n (Err e) h (within_then n (guard (size_fits z n) reason.Size (give n)) s' s'' s'' m (Err e) k (guard_no (size_fits z n) reason.Size (give n) s'' e (ap (λ (j : ℕ). size_fits z j) (sym same) ∙ isnt) size_plain why taken))

pub count_got : (z : Size) (s s' s'' : State) (n m : ℕ) → Reads quantity s (Ok n) s' → Reads (allow_at n) s' (Ok m) s'' → m ≡ n → size_fits z m ≡ true → Reads (count_at z) s (Ok m) s''
count_got z s s' s'' n m h k same does =
    Reads-then quantity (sized z) s s' s'' n (Ok m) h (within_then n (guard (size_fits z n) reason.Size (give n)) s' s'' s'' m (Ok m) k
    (guard_yes (size_fits z n) reason.Size (give n) s'' s'' (Ok m) (ap (λ (j : ℕ). size_fits z j) (sym same) ∙ does) (subst (λ (j : ℕ). Reads (give n) s'' (Ok j) s'') (sym same) (Reads-give n s''))))

-- ---- no additions

pub absent_next : (adds : List Addition) (i : ℕ) (a : Addition) (os os' : List (Option Value)) (whole : Places) → i < length adds → os' ≡ os ++ None ∷ [] → put_all (map (option_map value_of) os) (all_absent (additions_of (drop i adds))) ≡ whole → put_all (map (option_map value_of) os') (all_absent (additions_of (drop (i + 1) adds))) ≡ whole
absent_next adds i a os os' whole less more p =
    let e : drop i adds ≡ get_or adds i a ∷ drop (i + 1) adds = drop-cons adds i a less ∙ ap (λ (k : ℕ). get_or adds i a ∷ drop k adds) (sym (add-one i)) in
    ap (λ (l : List (Option Value)). put_all (map (option_map value_of) l) (all_absent (additions_of (drop (i + 1) adds)))) more
    ∙ sym (put_all_more os None (all_absent (additions_of (drop (i + 1) adds))))
    ∙ ap (λ (l : List Addition). put_all (map (option_map value_of) os) (all_absent (additions_of l))) (sym e)
    ∙ p

pub absent_end : (adds : List Addition) (i : ℕ) (os : List (Option Value)) (whole : Places) → length adds ≤ i → put_all (map (option_map value_of) os) (all_absent (additions_of (drop i adds))) ≡ whole → places_of os ≡ whole
absent_end adds i os whole le p =
    let none : drop i adds ≡ [] = drop_all i adds le in
    sym (put_all_end (map (option_map value_of) os)) ∙ (rw none at p)

pub addition_count_is : (adds : List Addition) → addition_count (additions_of adds) ≡ length adds
addition_count_is [] = refl
addition_count_is (a ∷ adds) = ap suc (addition_count_is adds)

-- ---- a quantity

quantity_test : (n : ℕ) → is_int128 (pos n) ≡ ltb n (2 ^ 127)
unfolding is_int128
quantity_test n = elim (cases_lt n (2 ^ 127)) [
  | inl less ↦ le-leb n (2 ^ 127 - 1) (omega arith) ∙ sym (lt-ltb n (2 ^ 127) less)
  | inr more ↦ lt-leb n (2 ^ 127 - 1) (omega arith) ∙ sym (le-ltb n (2 ^ 127) more)
]

quantity_is : (p : Place) → bind (counted_number natural is_int128) (λ z. give (unsigned_abs z)) p ≡ quantity p
unfolding quantity counted_number with_length within bind number give refuse
quantity_is p = cases (determinant p) where
  size : ℤ → Reader ℕ
  size z = give (unsigned_abs z)

  last : (m : ℕ) (q : Place) (b : Bool) → then_read size (guard b IntegerRange (give (pos m)) q) ≡ guard b IntegerRange (give m) q
  last m q true = refl
  last m q false = refl

  inner : (o : Outcome (List ℕ)) → then_read size (then_read (λ w. guard (is_int128 (natural w)) IntegerRange (give (natural w))) o) ≡ then_read (λ w. guard (ltb (unsigned w) (2 ^ 127)) IntegerRange (give (unsigned w))) o
  inner (got w q) = last (unsigned w) q (is_int128 (pos (unsigned w))) ∙ ap (λ (b : Bool). guard b IntegerRange (give (unsigned w)) q) (quantity_test (unsigned w))
  inner (refused why rest) = refl

  some : (c : Bool) (n : ℕ) (q : Place) → then_read size (guard c EmptyNumber (number IntegerRange natural is_int128 n) q) ≡ guard c EmptyNumber (number IntegerRange unsigned (λ k. ltb k (2 ^ 127)) n) q
  some true n q = inner (group n q)
  some false n q = refl

  room : (c : Bool) (n : ℕ) (q : Place) → then_read size (bounded c (guard (leb 1 n) EmptyNumber (number IntegerRange natural is_int128 n)) q) ≡ bounded c (guard (leb 1 n) EmptyNumber (number IntegerRange unsigned (λ k. ltb k (2 ^ 127)) n)) q
  room true n q = some (leb 1 n) n q
  room false n q = refl

  cases : (o : Outcome ℕ) → then_read size (then_read (λ n q. bounded (leb n q.left) (guard (leb 1 n) EmptyNumber (number IntegerRange natural is_int128 n)) q) o) ≡ then_read (λ n q. bounded (leb n q.left) (guard (leb 1 n) EmptyNumber (number IntegerRange unsigned (λ k. ltb k (2 ^ 127)) n)) q) o
  cases (got n q) = room (leb n q.left) n q
  cases (refused why rest) = refl

pub quantity_any : (s s' : State) (result : Result ℤ ReadFault) → Reads (counted_number natural is_int128) s result s' → Reads quantity s (seen unsigned_abs result) s'
quantity_any s s' result h = Reads-same (bind (counted_number natural is_int128) (λ z. give (unsigned_abs z))) quantity s s' (seen unsigned_abs result) (λ xs. quantity_is (place xs s.bound)) (Reads-map (counted_number natural is_int128) unsigned_abs s s' result h)

-- ---- the list of a SEQUENCE OF

pub listed_is : (vs : List Value) → listed (map value_of vs) ≡ values_of vs
listed_is [] = refl
listed_is (v ∷ vs) = ap (λ l. value (value_of v) l) (listed_is vs)
