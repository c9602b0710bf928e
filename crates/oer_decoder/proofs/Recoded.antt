-- What is recoded, part by part: what was read, and the octets that stand for it.
use Rattle.std.proofs.Common.{◌≡◌, ℕ, suc, ◌+◌, ◌-◌, ◌<◌, ◌≤◌, Bool, true, false, ◌||◌, List, [], ◌∷◌, ◌++◌, length, drop, take, get_or, map, Option, Some, None, is_some, Result, Ok, Err, Vec, Global, arith, refl, sym, ap, ◌∙◌, subst, append_assoc, append-nil, drop-cons, add-one, string_bytes}
use Rattle.std.specs.Prelude.{MatchResult}
use Rattle.std.proofs.lemmas.Bool.{false≢true}
use Rattle.std.proofs.lemmas.List.{drop_all, drop-append-le, length-append, length-drop, take-append-le}
use Rattle.oer_units.specs.Least.{counted, length_octets, unsigned_octets}
use Rattle.oer_units.specs.Reader.{bind, give, Place, Reader, times}
use Rattle.oer_units.specs.Reading.{open_type}
use Rattle.oer_units.specs.Reads.{Leads, Reads, seen, State}
use Rattle.oer_units.specs.declared.fault.SinkFault.{SinkFault}
use Rattle.oer_units.specs.declared.fault.Why.TheVariants.{Memory}
use Rattle.oer_units.specs.declared.fault.ReadFault.{ReadFault}
use Rattle.oer_units.proofs.ReadSteps.{Reads-memory_after}
use Rattle.oer_model.specs.AsnType.{AsnType, choice, extensible_sequence, leaf, no_additions, sequence, sequence_of, Additions, Fields, Need, addition, default, field, may, must}
use Rattle.oer_model.specs.AsnValue.{absent, AsnValue, items, no_places, Places, present, seq, Unknown}
use Rattle.oer_model.specs.Bits.{first_bit, later_bits, padded}
use Rattle.oer_model.specs.Constraints.{optional}
use Rattle.oer_model.specs.Canonical.{any_present, any_unknown, bitmap_octets, canonical_octets, count, extension_octets, trimmed, unknown_marks, unknown_octets}
use Rattle.oer_model.specs.Filling.{map_values}
use Rattle.oer_model.specs.Fits.{all_absent, listed}
use Rattle.oer_model.specs.Reading.{preamble, read_additions, read_extension, read_fields, read_value}
use Rattle.oer_model.specs.SharedSteps.{bits_left, is_there}
use Rattle.oer_model.specs.declared.size.Size.{Size}
use Rattle.oer_values.specs.ShapeView.{additions_of, fields_of, need_of, seen_addition, seen_field, type_of}
use Rattle.oer_values.specs.ValueView.{places_from, unknown_of}
use Rattle.oer_values.specs.declared.value.Unknown as code
use Rattle.oer_values.specs.declared.shape.Addition.{Addition}
use Rattle.oer_values.specs.declared.shape.Field.{Field}
use Rattle.oer_leaves.specs.Parts.{addition_octets, counted_place, field_bits, field_octets, kept_place, known_bits, known_octets, leaf_octets, place_bit, place_octets_of, root_octets, values_octets}
use Rattle.oer_leaves.specs.Wrote.{Wrote}
use Rattle.oer_leaves.proofs.Components.{addition_parts, extended_is, field_first}
use Rattle.oer_leaves.proofs.Places.{field_bits_first}
use Rattle.oer_decoder.specs.Parts.{HasNoParts}
use Rattle.oer_decoder.specs.Places.{count_at, place_by, put, put_all, root_at, Started}
use Rattle.oer_decoder.specs.Recoding.{after_tag, Grows, ReadsOne, Recodes, RecodesValue}
use Rattle.oer_decoder.specs.declared.stop.Stop.{Stop}
use Rattle.oer_decoder.proofs.Loops.{adds_at, fields_at, items_then, leads_end, leads_step, leads_stop, sequence_then}
use Rattle.oer_decoder.proofs.Extensions.{extensible_then, rest_then}

-- ---- what is gathered

pub grows_of : (octets old new : List ℕ) (f f' : ℕ) (put : Result ℕ SinkFault) (result : Result (Unit {0}) Stop)
    → MatchResult put (λ _. result ≡ Ok tt) (λ _. result ≡ Err (record { why = Memory })) → Wrote 0 octets (Some old) f put (Some new) f' → Grows octets old result new
grows_of octets old new f f' (Ok n) result is w = rw is w.1
grows_of octets old new f f' (Err e) result is w = rw is refl

pub grows_then : {A B : Type 0} (a b old mid new : List A) (result : Result B Stop) → mid ≡ old ++ a → Grows b mid result new → Grows (a ++ b) old result new
grows_then a b old mid new (Ok x) h g = g ∙ ap (λ l. l ++ b) h ∙ append_assoc old a b
grows_then a b old mid new (Err e) h g = g

-- ---- what was read, and then memory ran out or what stands for it was gathered

pub read_memory : {A B C : Type 0} (m : Reader C) (r : Reader A) (s s' : State) (x : C) (e : Stop) (P : B → A → Type 0) → Reads m s (Ok x) s' → e.why ≡ Memory → ReadsOne r s (Err e) s' P
read_memory m r s s' x e P h is = Reads-memory_after m r s s' x (record { taken = s'.bound.taken; why = e.why }) h is refl

pub read_grown : {A B : Type 0} (r : Reader A) (f : A → List ℕ) (s s' : State) (v : A) (octets old new : List ℕ) (result : Result B Stop) → Reads r s (Ok v) s' → Grows octets old result new
    → octets ≡ f v → Recodes r f s old result new s'
read_grown r f s s' v octets old new (Ok x) h g is = (v, h, g ∙ ap (λ l. old ++ l) is)
read_grown {A} {B} r f s s' v octets old new (Err e) h g is = read_memory {B = B} r r s s' v e (λ _ w. new ≡ old ++ f w) h g

-- a value that holds no other stands as it is
pub leaf_same : (T : AsnType) (v : AsnValue) → HasNoParts T → leaf_octets T v ≡ canonical_octets T v
leaf_same (leaf kind) v h = refl
leaf_same (sequence fs) v h = absurd h
leaf_same (extensible_sequence fs more) v h = absurd h
leaf_same (sequence_of size T) v h = absurd h
leaf_same (choice extensible more) v h = absurd h

-- ---- elements

pub each_more : (T : AsnType) (vs : List AsnValue) (v : AsnValue) → values_octets T (listed (vs ++ v ∷ [])) ≡ values_octets T (listed vs) ++ canonical_octets T v
each_more T [] v = append-nil (canonical_octets T v)
each_more T (x ∷ vs) v = ap (λ l. canonical_octets T x ++ l) (each_more T vs v) ∙ sym (append_assoc (canonical_octets T x) (values_octets T (listed vs)) (canonical_octets T v))

-- so many elements were read, and what stands for them was gathered
pub record ElementsSoFar (T : AsnType) (n i : ℕ) (old now : State) (out out' : List ℕ) : Type 0 where
  pub vs : List AsnValue
  pub many : length vs ≡ i
  pub leads : Leads (times (n - i) (read_value T)) now (λ w. vs ++ w) (times n (read_value T)) old
  pub grown : out' ≡ out ++ values_octets T (listed vs)

pub elements_start : (T : AsnType) (n : ℕ) (s : State) (out : List ℕ) → ElementsSoFar T n 0 s s out out
elements_start T n s out =
    let all : n - 0 ≡ n = omega arith in
    record { vs = []; many = refl; leads = λ result then h. same result then (subst (λ k. Reads (times k (read_value T)) s result then) all h); grown = sym (append-nil out) } where
      same : (result : Result (List AsnValue) ReadFault) (then : State) → Reads (times n (read_value T)) s result then → Reads (times n (read_value T)) s (seen (λ w. w) result) then
      same (Ok x) then h = h
      same (Err e) then h = h

pub elements_more : (T : AsnType) (n i : ℕ) (old now now' : State) (out out' out'' : List ℕ) (v : AsnValue) → i < n → ElementsSoFar T n i old now out out' → Reads (read_value T) now (Ok v) now'
    → out'' ≡ out' ++ canonical_octets T v → ElementsSoFar T n (i + 1) old now' out out''
elements_more T n i old now now' out out' out'' v less before h is =
    let left : n - i ≡ suc (n - (i + 1)) = omega arith in
    let r = read_value T in
    record {
      vs = before.vs ++ v ∷ [];
      many = length-append before.vs (v ∷ []) ∙ ap (λ k. k + 1) before.many;
      leads = leads_step r (times (n - (i + 1)) r) (times (suc (n - (i + 1))) r) (λ x w. x ∷ w) (λ w. before.vs ++ w) (λ w. (before.vs ++ v ∷ []) ++ w) (times n r) now now' old v (λ q. refl)
          (λ w. sym (append_assoc before.vs (v ∷ []) w)) (subst (λ j. Leads (times j r) now (λ w. before.vs ++ w) (times n r) old) left before.leads) h;
      grown = is ∙ ap (λ l. l ++ canonical_octets T v) before.grown ∙ append_assoc out (values_octets T (listed before.vs)) (canonical_octets T v) ∙ ap (λ l. out ++ l) (sym (each_more T before.vs v));
    }

pub elements_stop : (T : AsnType) (n i : ℕ) (old now now' : State) (out out' : List ℕ) (e : ReadFault) → i < n → ElementsSoFar T n i old now out out' → Reads (read_value T) now (Err e) now'
    → Reads (times n (read_value T)) old (Err e) now'
elements_stop T n i old now now' out out' e less before h =
    let left : n - i ≡ suc (n - (i + 1)) = omega arith in
    let r = read_value T in
    leads_stop r (times (n - (i + 1)) r) (times (suc (n - (i + 1))) r) (λ x w. x ∷ w) (λ w. before.vs ++ w) (times n r) now now' old e (λ q. refl)
    (subst (λ j. Leads (times j r) now (λ w. before.vs ++ w) (times n r) old) left before.leads) h

pub elements_memory : (T : AsnType) (n i : ℕ) (old now now' : State) (out out' : List ℕ) (v : AsnValue) (e : ReadFault) → ElementsSoFar T n i old now out out' → Reads (read_value T) now (Ok v) now'
    → e.why ≡ Memory → e.taken ≡ now'.bound.taken → Reads (times n (read_value T)) old (Err e) now'
elements_memory T n i old now now' out out' v e before h why taken =
    before.leads (Err e) now' (Reads-memory_after (read_value T) (times (n - i) (read_value T)) now now' v e h why taken)

pub elements_end : (T : AsnType) (n i : ℕ) (old now : State) (out out' : List ℕ) → i ≡ n → ElementsSoFar T n i old now out out'
    → (vs : List AsnValue) × Reads (times n (read_value T)) old (Ok vs) now × ((length vs ≡ n) × (out' ≡ out ++ values_octets T (listed vs)))
elements_end T n i old now out out' is before =
    let none : n - i ≡ 0 = omega (arith, is) in (
      before.vs,
      leads_end [] (λ w. before.vs ++ w) before.vs (times n (read_value T)) now old (append-nil before.vs)
          (subst (λ j. Leads (times j (read_value T)) now (λ w. before.vs ++ w) (times n (read_value T)) old) none before.leads),
      (before.many ∙ is, before.grown),
    )

-- ---- a SEQUENCE OF

count_listed : (f : AsnValue → AsnValue) (vs : List AsnValue) → count (map_values f (listed vs)) ≡ length vs
count_listed f [] = refl
count_listed f (v ∷ vs) = ap suc (count_listed f vs)

pub items_recoded : {B : Type 0} (z : Size) (T : AsnType) (s s' s'' : State) (n : ℕ) (old mid new : List ℕ) (result : Result B Stop) → Reads (count_at z) s (Ok n) s'
    → mid ≡ old ++ counted (unsigned_octets n)
    → ReadsOne (times n (read_value T)) s' result s'' (λ _ vs. (length vs ≡ n) × (new ≡ mid ++ values_octets T (listed vs))) → RecodesValue (sequence_of z T) s old result new s''
items_recoded z T s s' s'' n old mid new (Ok x) h m (vs, k, (many, g)) =
    let head : count (map_values (trimmed T) (listed vs)) ≡ n = count_listed (trimmed T) vs ∙ many in (
      items (listed vs),
      items_then z (read_value T) s s' s'' n (Ok vs) h k,
      g ∙ ap (λ l. l ++ values_octets T (listed vs)) m ∙ append_assoc old (counted (unsigned_octets n)) (values_octets T (listed vs))
          ∙ ap (λ i. old ++ (counted (unsigned_octets i) ++ values_octets T (listed vs))) (sym head),
    )
items_recoded z T s s' s'' n old mid new (Err e) h m k = items_then z (read_value T) s s' s'' n (Err (record { taken = s''.bound.taken; why = e.why })) h k

-- ---- components

places_put : (os : List (Option AsnValue)) (o : Option AsnValue) (ps : Places) → put_all os (put o ps) ≡ put_all (os ++ o ∷ []) ps
places_put [] o ps = refl
places_put (None ∷ os) o ps = ap absent (places_put os o ps)
places_put (Some v ∷ os) o ps = ap (λ p. present v p) (places_put os o ps)

places_all : (os : List (Option AsnValue)) → put_all os no_places ≡ places_from os
places_all [] = refl
places_all (None ∷ os) = ap absent (places_all os)
places_all (Some v ∷ os) = ap (λ p. present v p) (places_all os)

-- the components before the i-th were read, and their bits and octets were gathered
pub record FieldsSoFar (xs : List Field) (i : ℕ) (bits left : List Bool) (old now : State) (marks marks' : List Bool) (out out' : List ℕ) : Type 0 where
  pub os : List (Option AsnValue)
  pub leads : Leads (read_fields (fields_of (drop i xs)) left) now (put_all os) (read_fields (fields_of xs) bits) old
  pub front : List Bool
  pub marked : marks' ≡ marks ++ front
  pub firsts : (qs : List (Option AsnValue)) → field_bits (fields_of xs) (places_from (os ++ qs)) ≡ front ++ field_bits (fields_of (drop i xs)) (places_from qs)
  pub octets : List ℕ
  pub grown : out' ≡ out ++ octets
  pub are : (qs : List (Option AsnValue)) → field_octets (fields_of xs) (places_from (os ++ qs)) ≡ octets ++ field_octets (fields_of (drop i xs)) (places_from qs)

same_seen : {A : Type 0} (r : Reader A) (s : State) (result : Result A ReadFault) (then : State) → Reads r s result then → Reads r s (seen (λ w. w) result) then
same_seen r s (Ok x) then h = h
same_seen r s (Err e) then h = h

pub fields_start : (xs : List Field) (bits : List Bool) (s : State) (marks : List Bool) (out : List ℕ) → FieldsSoFar xs 0 bits bits s s marks marks out out
fields_start xs bits s marks out = record {
  os = [];
  leads = λ result then h. same_seen (read_fields (fields_of xs) bits) s result then h;
  front = [];
  marked = sym (append-nil marks);
  firsts = λ qs. refl;
  octets = [];
  grown = sym (append-nil out);
  are = λ qs. refl;
}

-- the components from this one on
from_here : (xs : List Field) (i : ℕ) (f : Field) → i < length xs → f ≡ get_or xs i f → drop i xs ≡ f ∷ drop (i + 1) xs
from_here xs i f less is = drop-cons xs i f less ∙ ap (λ (x : Field). x ∷ drop (suc i) xs) (sym is) ∙ ap (λ (k : ℕ). f ∷ drop k xs) (sym (add-one i))

pub fields_more : (xs : List Field) (i : ℕ) (f : Field) (bits left left' : List Bool) (there : Bool) (o : Option AsnValue) (old now now' : State) (marks marks' marks'' : List Bool)
    (out out' out'' : List ℕ)
    → i < length xs → f ≡ get_or xs i f → there ≡ is_there (need_of f.need) left → left' ≡ bits_left (need_of f.need) left → FieldsSoFar xs i bits left old now marks marks' out out'
    → Reads (place_by there (read_value (type_of f.shape))) now (Ok o) now' → marks'' ≡ marks' ++ place_bit (need_of f.need) (kept_place (need_of f.need) (type_of f.shape) o)
    → out'' ≡ out' ++ place_octets_of (type_of f.shape) (kept_place (need_of f.need) (type_of f.shape) o) → FieldsSoFar xs (i + 1) bits left' old now' marks marks'' out out''
fields_more xs i f bits left left' there o old now now' marks marks' marks'' out out' out'' less is t b before h m g =
    let kept = kept_place (need_of f.need) (type_of f.shape) o in
    let bit = place_bit (need_of f.need) kept in
    let piece = place_octets_of (type_of f.shape) kept in
    let rest = drop (i + 1) xs in
    let here = from_here xs i f less is in
    record {
      os = before.os ++ o ∷ [];
      leads = field_leads xs i f left left' there before.os o now now' old (read_fields (fields_of xs) bits) less is t b before.leads h;
      front = before.front ++ bit;
      marked = m ∙ ap (λ l. l ++ bit) before.marked ∙ append_assoc marks before.front bit;
      firsts = λ qs. ap (λ l. field_bits (fields_of xs) (places_from l)) (append_assoc before.os (o ∷ []) qs) ∙ before.firsts (o ∷ qs)
          ∙ ap (λ l. before.front ++ field_bits (fields_of l) (places_from (o ∷ qs))) here
          ∙ ap (λ l. before.front ++ l) (field_bits_first (seen_field f).name (seen_field f).need (seen_field f).type (fields_of rest) o qs)
          ∙ sym (append_assoc before.front bit (field_bits (fields_of rest) (places_from qs)));
      octets = before.octets ++ piece;
      grown = g ∙ ap (λ l. l ++ piece) before.grown ∙ append_assoc out before.octets piece;
      are = λ qs. ap (λ l. field_octets (fields_of xs) (places_from l)) (append_assoc before.os (o ∷ []) qs) ∙ before.are (o ∷ qs)
          ∙ ap (λ l. before.octets ++ field_octets (fields_of l) (places_from (o ∷ qs))) here
          ∙ ap (λ l. before.octets ++ l) (field_first (seen_field f).name (seen_field f).need (seen_field f).type (fields_of rest) o qs)
          ∙ sym (append_assoc before.octets piece (field_octets (fields_of rest) (places_from qs)));
    }
  where
    field_leads : (xs : List Field) (i : ℕ) (f : Field) (left left' : List Bool) (there : Bool) (os : List (Option AsnValue)) (o : Option AsnValue) (s s' old : State) (whole : Reader Places)
        → i < length xs → f ≡ get_or xs i f → there ≡ is_there (need_of f.need) left
        → left' ≡ bits_left (need_of f.need) left → Leads (read_fields (fields_of (drop i xs)) left) s (put_all os) whole old → Reads (place_by there (read_value (type_of f.shape))) s (Ok o) s'
        → Leads (read_fields (fields_of (drop (i + 1) xs)) left') s' (put_all (os ++ o ∷ [])) whole old
    field_leads xs i f left left' there os o s s' old whole less is t b p h =
        rw b (leads_step (place_by (is_there (need_of f.need) left) (read_value (type_of f.shape))) (read_fields (fields_of (drop (i + 1) xs)) (bits_left (need_of f.need) left))
        (read_fields (fields_of (drop i xs)) left) put (put_all os) (put_all (os ++ o ∷ [])) whole s s' old o
        (λ q. fields_at xs i f left q less is) (λ ps. places_put os o ps) p (subst (λ (x : Bool). Reads (place_by x (read_value (type_of f.shape))) s (Ok o) s') t h))

pub fields_stop : (xs : List Field) (i : ℕ) (f : Field) (bits left : List Bool) (there : Bool) (old now now' : State) (marks marks' : List Bool) (out out' : List ℕ) (e : ReadFault)
    → i < length xs → f ≡ get_or xs i f → there ≡ is_there (need_of f.need) left → FieldsSoFar xs i bits left old now marks marks' out out'
    → Reads (place_by there (read_value (type_of f.shape))) now (Err e) now' → Reads (read_fields (fields_of xs) bits) old (Err e) now'
fields_stop xs i f bits left there old now now' marks marks' out out' e less is t before h =
    leads_stop (place_by (is_there (need_of f.need) left) (read_value (type_of f.shape))) (read_fields (fields_of (drop (i + 1) xs)) (bits_left (need_of f.need) left))
    (read_fields (fields_of (drop i xs)) left) put (put_all before.os) (read_fields (fields_of xs) bits) now now' old e
    (λ q. fields_at xs i f left q less is) before.leads (subst (λ (x : Bool). Reads (place_by x (read_value (type_of f.shape))) now (Err e) now') t h)

pub fields_memory : (xs : List Field) (i : ℕ) (f : Field) (bits left : List Bool) (there : Bool) (o : Option AsnValue) (old now now' : State) (marks marks' : List Bool) (out out' : List ℕ)
    (e : ReadFault)
    → FieldsSoFar xs i bits left old now marks marks' out out' → Reads (place_by there (read_value (type_of f.shape))) now (Ok o) now' → e.why ≡ Memory → e.taken ≡ now'.bound.taken
    → Reads (read_fields (fields_of xs) bits) old (Err e) now'
fields_memory xs i f bits left there o old now now' marks marks' out out' e before h why taken =
    before.leads (Err e) now' (Reads-memory_after (place_by there (read_value (type_of f.shape))) (read_fields (fields_of (drop i xs)) left) now now' o e h why taken)

pub fields_end : (xs : List Field) (i : ℕ) (bits left : List Bool) (old now : State) (marks marks' : List Bool) (out out' : List ℕ) → length xs ≤ i
    → FieldsSoFar xs i bits left old now marks marks' out out'
    → (ps : Places) × Reads (read_fields (fields_of xs) bits) old (Ok ps) now × ((marks' ≡ marks ++ field_bits (fields_of xs) ps) × (out' ≡ out ++ field_octets (fields_of xs) ps))
fields_end xs i bits left old now marks marks' out out' le before =
    let none : drop i xs ≡ [] = drop_all i xs le in
    let all = append-nil before.os in
    let lasts : field_bits (fields_of xs) (places_from before.os) ≡ before.front =
    ap (λ l. field_bits (fields_of xs) (places_from l)) (sym all) ∙ before.firsts [] ∙ ap (λ l. before.front ++ field_bits (fields_of l) no_places) none ∙ append-nil before.front in
    let octets : field_octets (fields_of xs) (places_from before.os) ≡ before.octets =
    ap (λ l. field_octets (fields_of xs) (places_from l)) (sym all) ∙ before.are [] ∙ ap (λ l. before.octets ++ field_octets (fields_of l) no_places) none ∙ append-nil before.octets in (
      places_from before.os,
      leads_end no_places (put_all before.os) (places_from before.os) (read_fields (fields_of xs) bits) now old (places_all before.os) (rw none at before.leads),
      (before.marked ∙ ap (λ l. marks ++ l) (sym lasts), before.grown ∙ ap (λ l. out ++ l) (sym octets)),
    )

-- ---- additions

known_bits_first : (n : List ℕ) (T : AsnType) (more : Additions) (p : Option AsnValue) (ps : List (Option AsnValue))
    → known_bits (addition n T more) (places_from (p ∷ ps)) ≡ is_some p ∷ known_bits more (places_from ps)
known_bits_first n T more None ps = refl
known_bits_first n T more (Some v) ps = refl

known_first : (n : List ℕ) (T : AsnType) (more : Additions) (p : Option AsnValue) (ps : List (Option AsnValue))
    → known_octets (addition n T more) (places_from (p ∷ ps)) ≡ counted_place T p ++ known_octets more (places_from ps)
known_first n T more None ps = refl
known_first n T more (Some v) ps = refl

present_first : (b any : Bool) (p : Option AsnValue) (ps : List (Option AsnValue)) → b ≡ is_some p → (any || any_present (places_from (p ∷ ps))) ≡ ((any || b) || any_present (places_from ps))
present_first b true p ps is = refl
present_first b false None ps is = rw is refl
present_first b false (Some v) ps is = rw is refl

-- the additions before the i-th were read, and their bits and octets were gathered
pub record AdditionsSoFar (xs : List Addition) (i : ℕ) (bits left : List Bool) (any : Bool) (old now : State) (marks marks' : List Bool) (out out' : List ℕ) : Type 0 where
  pub os : List (Option AsnValue)
  pub leads : Leads (read_additions (additions_of (drop i xs)) left) now (put_all os) (read_additions (additions_of xs) bits) old
  pub present : (qs : List (Option AsnValue)) → any_present (places_from (os ++ qs)) ≡ (any || any_present (places_from qs))
  pub front : List Bool
  pub marked : marks' ≡ marks ++ front
  pub firsts : (qs : List (Option AsnValue)) → known_bits (additions_of xs) (places_from (os ++ qs)) ≡ front ++ known_bits (additions_of (drop i xs)) (places_from qs)
  pub octets : List ℕ
  pub grown : out' ≡ out ++ octets
  pub are : (qs : List (Option AsnValue)) → known_octets (additions_of xs) (places_from (os ++ qs)) ≡ octets ++ known_octets (additions_of (drop i xs)) (places_from qs)

pub additions_start : (xs : List Addition) (bits : List Bool) (s : State) (marks : List Bool) (out : List ℕ) → AdditionsSoFar xs 0 bits bits false s s marks marks out out
additions_start xs bits s marks out = record {
  os = [];
  leads = λ result then h. same_seen (read_additions (additions_of xs) bits) s result then h;
  present = λ qs. refl;
  front = [];
  marked = sym (append-nil marks);
  firsts = λ qs. refl;
  octets = [];
  grown = sym (append-nil out);
  are = λ qs. refl;
}

addition_here : (xs : List Addition) (i : ℕ) (a : Addition) → i < length xs → a ≡ get_or xs i a → drop i xs ≡ a ∷ drop (i + 1) xs
addition_here xs i a less is = drop-cons xs i a less ∙ ap (λ (x : Addition). x ∷ drop (suc i) xs) (sym is) ∙ ap (λ (k : ℕ). a ∷ drop k xs) (sym (add-one i))

pub additions_more : (xs : List Addition) (i : ℕ) (a : Addition) (bits left left' : List Bool) (there any any' : Bool) (o : Option AsnValue) (old now now' : State)
    (marks marks' marks'' : List Bool) (out out' out'' : List ℕ)
    → i < length xs → a ≡ get_or xs i a → there ≡ first_bit left → left' ≡ later_bits left → any' ≡ (any || there) → AdditionsSoFar xs i bits left any old now marks marks' out out'
    → Reads (place_by there (open_type (read_value (type_of a.shape)))) now (Ok o) now' → there ≡ is_some o → marks'' ≡ marks' ++ there ∷ [] → out'' ≡ out' ++ counted_place (type_of a.shape) o
    → AdditionsSoFar xs (i + 1) bits left' any' old now' marks marks'' out out''
additions_more xs i a bits left left' there any any' o old now now' marks marks' marks'' out out' out'' less is t b more before h some m g =
    let piece = counted_place (type_of a.shape) o in
    let rest = drop (i + 1) xs in
    let here = addition_here xs i a less is in
    record {
      os = before.os ++ o ∷ [];
      leads = addition_leads xs i a left left' there before.os o now now' old (read_additions (additions_of xs) bits) less is t b before.leads h;
      present = λ qs. ap (λ l. any_present (places_from l)) (append_assoc before.os (o ∷ []) qs) ∙ before.present (o ∷ qs) ∙ present_first there any o qs some
          ∙ ap (λ x. x || any_present (places_from qs)) (sym more);
      front = before.front ++ there ∷ [];
      marked = m ∙ ap (λ l. l ++ there ∷ []) before.marked ∙ append_assoc marks before.front (there ∷ []);
      firsts = λ qs. ap (λ l. known_bits (additions_of xs) (places_from l)) (append_assoc before.os (o ∷ []) qs) ∙ before.firsts (o ∷ qs)
          ∙ ap (λ l. before.front ++ known_bits (additions_of l) (places_from (o ∷ qs))) here
          ∙ ap (λ l. before.front ++ l) (known_bits_first (seen_addition a).name (seen_addition a).type (additions_of rest) o qs
          ∙ ap (λ x. x ∷ known_bits (additions_of rest) (places_from qs)) (sym some))
          ∙ sym (append_assoc before.front (there ∷ []) (known_bits (additions_of rest) (places_from qs)));
      octets = before.octets ++ piece;
      grown = g ∙ ap (λ l. l ++ piece) before.grown ∙ append_assoc out before.octets piece;
      are = λ qs. ap (λ l. known_octets (additions_of xs) (places_from l)) (append_assoc before.os (o ∷ []) qs) ∙ before.are (o ∷ qs)
          ∙ ap (λ l. before.octets ++ known_octets (additions_of l) (places_from (o ∷ qs))) here
          ∙ ap (λ l. before.octets ++ l) (known_first (seen_addition a).name (seen_addition a).type (additions_of rest) o qs)
          ∙ sym (append_assoc before.octets piece (known_octets (additions_of rest) (places_from qs)));
    }
  where
    addition_leads : (xs : List Addition) (i : ℕ) (a : Addition) (left left' : List Bool) (there : Bool) (os : List (Option AsnValue)) (o : Option AsnValue) (s s' old : State)
        (whole : Reader Places) → i < length xs → a ≡ get_or xs i a → there ≡ first_bit left
        → left' ≡ later_bits left → Leads (read_additions (additions_of (drop i xs)) left) s (put_all os) whole old → Reads (place_by there (open_type (read_value (type_of a.shape)))) s (Ok o) s'
        → Leads (read_additions (additions_of (drop (i + 1) xs)) left') s' (put_all (os ++ o ∷ [])) whole old
    addition_leads xs i a left left' there os o s s' old whole less is t b p h =
        rw b (leads_step (place_by (first_bit left) (open_type (read_value (type_of a.shape)))) (read_additions (additions_of (drop (i + 1) xs)) (later_bits left))
        (read_additions (additions_of (drop i xs)) left) put (put_all os) (put_all (os ++ o ∷ [])) whole s s' old o
        (λ q. adds_at xs i a left q less is) (λ ps. places_put os o ps) p (subst (λ (x : Bool). Reads (place_by x (open_type (read_value (type_of a.shape)))) s (Ok o) s') t h))

pub additions_stop : (xs : List Addition) (i : ℕ) (a : Addition) (bits left : List Bool) (there any : Bool) (old now now' : State) (marks marks' : List Bool) (out out' : List ℕ) (e : ReadFault)
    → i < length xs → a ≡ get_or xs i a → there ≡ first_bit left → AdditionsSoFar xs i bits left any old now marks marks' out out'
    → Reads (place_by there (open_type (read_value (type_of a.shape)))) now (Err e) now' → Reads (read_additions (additions_of xs) bits) old (Err e) now'
additions_stop xs i a bits left there any old now now' marks marks' out out' e less is t before h =
    leads_stop (place_by (first_bit left) (open_type (read_value (type_of a.shape)))) (read_additions (additions_of (drop (i + 1) xs)) (later_bits left))
    (read_additions (additions_of (drop i xs)) left) put (put_all before.os) (read_additions (additions_of xs) bits) now now' old e
    (λ q. adds_at xs i a left q less is) before.leads (subst (λ (x : Bool). Reads (place_by x (open_type (read_value (type_of a.shape)))) now (Err e) now') t h)

pub additions_memory : (xs : List Addition) (i : ℕ) (a : Addition) (bits left : List Bool) (there any : Bool) (o : Option AsnValue) (old now now' : State) (marks marks' : List Bool)
    (out out' : List ℕ) (e : ReadFault)
    → AdditionsSoFar xs i bits left any old now marks marks' out out' → Reads (place_by there (open_type (read_value (type_of a.shape)))) now (Ok o) now' → e.why ≡ Memory
    → e.taken ≡ now'.bound.taken → Reads (read_additions (additions_of xs) bits) old (Err e) now'
additions_memory xs i a bits left there any o old now now' marks marks' out out' e before h why taken =
    before.leads (Err e) now' (Reads-memory_after (place_by there (open_type (read_value (type_of a.shape)))) (read_additions (additions_of (drop i xs)) left) now now' o e h why taken)

or_false : (b : Bool) → (b || false) ≡ b
or_false true = refl
or_false false = refl

pub additions_end : (xs : List Addition) (i : ℕ) (bits left : List Bool) (any : Bool) (old now : State) (marks marks' : List Bool) (out out' : List ℕ) → length xs ≤ i
    → AdditionsSoFar xs i bits left any old now marks marks' out out'
    → (ps : Places) × Reads (read_additions (additions_of xs) bits) old (Ok ps) now
    × ((any ≡ any_present ps) × (marks' ≡ marks ++ known_bits (additions_of xs) ps) × (out' ≡ out ++ known_octets (additions_of xs) ps))
additions_end xs i bits left any old now marks marks' out out' le before =
    let none : drop i xs ≡ [] = drop_all i xs le in
    let all = append-nil before.os in
    let lasts : known_bits (additions_of xs) (places_from before.os) ≡ before.front =
    ap (λ l. known_bits (additions_of xs) (places_from l)) (sym all) ∙ before.firsts [] ∙ ap (λ l. before.front ++ known_bits (additions_of l) no_places) none ∙ append-nil before.front in
    let octets : known_octets (additions_of xs) (places_from before.os) ≡ before.octets =
    ap (λ l. known_octets (additions_of xs) (places_from l)) (sym all) ∙ before.are [] ∙ ap (λ l. before.octets ++ known_octets (additions_of l) no_places) none ∙ append-nil before.octets in
    let present : any ≡ any_present (places_from before.os) = sym (or_false any) ∙ sym (before.present []) ∙ ap (λ l. any_present (places_from l)) all in (
      places_from before.os,
      leads_end no_places (put_all before.os) (places_from before.os) (read_additions (additions_of xs) bits) now old (places_all before.os) (rw none at before.leads),
      (present, before.marked ∙ ap (λ l. marks ++ l) (sym lasts), before.grown ∙ ap (λ l. out ++ l) (sym octets)),
    )

-- ---- what is put before what was gathered

take_front : {A : Type 0} (a b : List A) → take (length a) (a ++ b) ≡ a
take_front [] b = refl
take_front (x ∷ a) b = ap (λ l. x ∷ l) (take_front a b)

drop_front : {A : Type 0} (a b : List A) → drop (length a) (a ++ b) ≡ b
drop_front [] b = refl
drop_front (x ∷ a) b = drop_front a b

pub cut : {A : Type 0} (at : ℕ) (old b mid : List A) → at ≡ length old → mid ≡ old ++ b → (take at mid ≡ old) × (drop at mid ≡ b)
cut {A} at old b mid is e =
    (ap (λ n. take n mid) is ∙ ap (λ (l : List A). take (length old) l) e ∙ take_front old b, ap (λ n. drop n mid) is ∙ ap (λ (l : List A). drop (length old) l) e ∙ drop_front old b)

-- the head, which was appended, and then put before what stands from the place on
pub moved : (at from : ℕ) (old head mid new : List ℕ) → at ≤ length old → from ≡ length old → mid ≡ old ++ head
    → new ≡ take at mid ++ (drop (from - at) (drop at mid) ++ take (from - at) (drop at mid)) → new ≡ take at old ++ (head ++ drop at old)
moved at from old head mid new le is e moves =
    let front : take at mid ≡ take at old = ap (take at) e ∙ take-append-le at old head le in
    let behind : drop at mid ≡ drop at old ++ head = ap (drop at) e ∙ drop-append-le at old head le in
    let many : from - at ≡ length (drop at old) = ap (λ n. n - at) is ∙ sym (length-drop at old) in
    let both = cut (from - at) (drop at old) head (drop at mid) many behind in
    moves ∙ ap (λ l. l ++ (drop (from - at) (drop at mid) ++ take (from - at) (drop at mid))) front ∙ ap (λ l. take at old ++ (l ++ take (from - at) (drop at mid))) both.1
    ∙ ap (λ l. take at old ++ (head ++ l)) both.0

pub counted_before : (at from : ℕ) (old mid new : List ℕ) → at ≤ length old → from ≡ length old → mid ≡ old ++ length_octets (from - at)
    → new ≡ take at mid ++ (drop (from - at) (drop at mid) ++ take (from - at) (drop at mid)) → new ≡ take at old ++ counted (drop at old)
counted_before at from old mid new le is e moves =
    let many : from - at ≡ length (drop at old) = ap (λ n. n - at) is ∙ sym (length-drop at old) in
    moved at from old (length_octets (from - at)) mid new le is e moves ∙ ap (λ n. take at old ++ (length_octets n ++ drop at old)) many

-- ---- an open type

pub open_recoded : {B : Type 0} (T : AsnType) (s s' : State) (v : AsnValue) (at : ℕ) (old mid new : List ℕ) (result : Result B Stop) → Reads (open_type (read_value T)) s (Ok v) s'
    → at ≡ length old → mid ≡ old ++ canonical_octets T v
    → Grows (counted (drop at mid)) (take at mid) result new → Recodes (open_type (read_value T)) (λ v. counted (canonical_octets T v)) s old result new s'
open_recoded T s s' v at old mid new result h is m g =
    let both = cut at old (canonical_octets T v) mid is m in
    read_grown (open_type (read_value T)) (λ v. counted (canonical_octets T v)) s s' v (counted (drop at mid)) old new result h (rw both.0 at g) (ap (λ l. counted l) both.1)

-- ---- a sequence without an extension marker

pub sequence_recoded : {B : Type 0} (fs : Fields) (s s' s'' : State) (bits marks : List Bool) (ps : Places) (at : ℕ) (old mid new : List ℕ) (result : Result B Stop)
    → Reads (preamble (optional fs)) s (Ok bits) s' → Reads (read_fields fs bits) s' (Ok ps) s''
    → marks ≡ field_bits fs ps → at ≡ length old → mid ≡ old ++ field_octets fs ps → Grows (padded marks ++ drop at mid) (take at mid) result new → RecodesValue (sequence fs) s old result new s''
sequence_recoded fs s s' s'' bits marks ps at old mid new result h k marked is m g =
    let both = cut at old (field_octets fs ps) mid is m in
    read_grown (read_value (sequence fs)) (canonical_octets (sequence fs)) s s'' (seq ps no_places []) (padded marks ++ drop at mid) old new result (sequence_then fs s s' s'' bits (Ok ps) h k)
    (rw both.0 at g)
    (ap (λ l. padded l ++ drop at mid) marked ∙ ap (λ l. padded (field_bits fs ps) ++ l) both.1)

-- ---- a sequence with an extension marker

no_known : (more : Additions) (ps : Places) → false ≡ any_present ps → known_octets more ps ≡ []
no_known no_additions ps is = refl
no_known (addition name T more) no_places is = refl
no_known (addition name T more) (absent ps) is = no_known more ps is
no_known (addition name T more) (present v ps) is = absurd (false≢true is)

pub no_present : (more : Additions) → (any_present (all_absent more) || any_unknown []) ≡ false
no_present no_additions = refl
no_present (addition name T more) = no_present more

pub no_items : (xs : List code.Unknown) → length xs ≡ 0 → map unknown_of xs ≡ []
no_items [] none = refl
no_items (x ∷ xs) none = absurd (omega arith)

-- where no addition is there
pub none_there : (more : Additions) (ps : Places) (us : List Unknown) (any : Bool) (old new : List ℕ) → any ≡ any_present ps → any ≡ false → us ≡ [] → new ≡ old ++ known_octets more ps
    → (false ≡ (any_present ps || any_unknown us)) × (new ≡ old ++ extension_octets false (addition_octets more ps us))
none_there more ps us any old new is isnt none g =
    let no : false ≡ any_present ps = sym isnt ∙ is in
    (no ∙ sym (or_false (any_present ps)) ∙ ap (λ l. any_present ps || any_unknown l) (sym none), g ∙ ap (λ l. old ++ l) (no_known more ps no))

-- where one is
pub some_there : (xs : List Addition) (ps : Places) (us : List Unknown) (any : Bool) (marks marks' : List Bool) (at : ℕ) (old one two new : List ℕ) → any ≡ any_present ps
    → (any ≡ false → us ≡ [] → ⊥) → marks ≡ known_bits (additions_of xs) ps
    → marks' ≡ marks ++ unknown_marks (length xs) us → at ≡ length old → one ≡ old ++ known_octets (additions_of xs) ps → two ≡ one ++ unknown_octets us
    → new ≡ take at two ++ (bitmap_octets marks' ++ drop at two)
    → (true ≡ (any_present ps || any_unknown us)) × (new ≡ old ++ extension_octets true (addition_octets (additions_of xs) ps us))
some_there xs ps us any marks marks' at old one two new is some m m' place a b g =
    let more = additions_of xs in
    let pieces = known_octets more ps ++ unknown_octets us in
    let whole : two ≡ old ++ pieces = b ∙ ap (λ l. l ++ unknown_octets us) a ∙ append_assoc old (known_octets more ps) (unknown_octets us) in
    let both = cut at old pieces two place whole in
    let bits : marks' ≡ known_bits more ps ++ unknown_marks (length xs) us = m' ∙ ap (λ l. l ++ unknown_marks (length xs) us) m in (
      sym (ap (λ x. x || any_unknown us) (sym is) ∙ there any us some),
      g ∙ ap (λ l. l ++ (bitmap_octets marks' ++ drop at two)) both.0 ∙ ap (λ l. old ++ (bitmap_octets marks' ++ l)) both.1 ∙ ap (λ l. old ++ (bitmap_octets l ++ pieces)) bits
          ∙ ap (λ l. old ++ l) (sym (addition_parts xs ps us)),
    )
  where
    there : (any : Bool) (us : List Unknown) → (any ≡ false → us ≡ [] → ⊥) → (any || any_unknown us) ≡ true
    there true us some = refl
    there false [] some = absurd (some refl refl)
    there false (u ∷ us) some = refl

pub extensible_recoded : {B : Type 0} (fs : Fields) (more : Additions) (s s' s'' : State) (start : Started) (added : Places × List Unknown) (extended x : Bool) (marks marks' : List Bool) (at : ℕ)
    (old one two new : List ℕ) (result : Result B Stop)
    → Reads (root_at fs) s (Ok start) s' → extended ≡ start.extended → Reads (read_extension extended more (read_additions more)) s' (Ok added) s'' → marks ≡ false ∷ field_bits fs start.root
    → ((y : Bool) (l : List Bool) → marks ≡ y ∷ l → marks' ≡ x ∷ l)
    → at ≡ length old → one ≡ old ++ field_octets fs start.root → x ≡ (any_present added.0 || any_unknown added.1) → two ≡ one ++ extension_octets x (addition_octets more added.0 added.1)
    → Grows (padded marks' ++ drop at two) (take at two) result new → RecodesValue (extensible_sequence fs more) s old result new s''
extensible_recoded fs more s s' s'' start added extended x marks marks' at old one two new result h e k m first place a is b g =
    let T = extensible_sequence fs more in
    let root = field_octets fs start.root in
    let rest = extension_octets x (addition_octets more added.0 added.1) in
    let v = seq start.root added.0 added.1 in
    let reads = extensible_then fs more s s' s'' start (Ok v) h (rest_then more start s' s'' (Ok added) (subst (λ b. Reads (read_extension b more (read_additions more)) s' (Ok added) s'') e k)) in
    let whole : two ≡ old ++ (root ++ rest) = b ∙ ap (λ l. l ++ rest) a ∙ append_assoc old root rest in
    let both = cut at old (root ++ rest) two place whole in
    let octets : padded marks' ++ drop at two ≡ canonical_octets T v =
    ap (λ l. padded l ++ drop at two) (first false (field_bits fs start.root) m) ∙ ap (λ l. padded (x ∷ field_bits fs start.root) ++ l) both.1
    ∙ sym (append_assoc (padded (x ∷ field_bits fs start.root)) root rest) ∙ sym (extended_is fs more start.root added.0 added.1 x is) in
    read_grown (read_value T) (canonical_octets T) s s'' v (padded marks' ++ drop at two) old new result reads (rw both.0 at g) octets

pub extensible_refused : (fs : Fields) (more : Additions) (s s' s'' : State) (start : Started) (extended : Bool) (e : ReadFault) → Reads (root_at fs) s (Ok start) s' → extended ≡ start.extended
    → Reads (read_extension extended more (read_additions more)) s' (Err e) s'' → Reads (read_value (extensible_sequence fs more)) s (Err e) s''
extensible_refused fs more s s' s'' start extended e h is k =
    extensible_then fs more s s' s'' start (Err e) h (rest_then more start s' s'' (Err e) (subst (λ b. Reads (read_extension b more (read_additions more)) s' (Err e) s'') is k))
