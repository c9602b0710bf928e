-- Components, additions and elements, one after another.
use Rattle.std.proofs.Common.{◌≡◌, ◌↔◌, arith, ℕ, zero, suc, ◌+◌, ◌-◌, ◌^◌, ◌<◌, ◌≤◌, Bool, true, false, not, ◌&&◌, leb, List, [], ◌∷◌, length, drop, get_or, refl, sym, ap, ap₂, ◌∙◌, subst, drop-cons, add-one, string_bytes, IsTrue}
use Rattle.std.proofs.lemmas.List.{drop_all}
use Rattle.oer_units.specs.declared.fault.Why.{Why}
use Rattle.oer_units.specs.declared.fault.Why.TheVariants as reason
use Rattle.oer_units.specs.declared.fault.Why.TheVariants.{UnknownAddition}
use Rattle.oer_units.specs.Reader.{Outcome, Place, Reader, bind, bounded, give, got, guard, refuse, refused, then_read, within}
use Rattle.oer_units.proofs.Closure.{got_place, got_value}
use Rattle.oer_model.specs.AsnType.{Additions, AsnType, Fields, Need, default, extensible_sequence, field, may, must, sequence, sequence_of}
use Rattle.oer_model.specs.AsnValue.{AsnValue}
use Rattle.oer_model.specs.Bits.{all_false, first_bit, later_bits}
use Rattle.oer_model.specs.Canonical.{canonical_octets, same_list}
use Rattle.oer_model.specs.Checking.{and_also, both, check_additions, check_octets, check_bit, check_extensible, check_extension, check_fields, check_items, check_open, check_sequence, check_times, check_unknown, check_value, is_bitmap, is_least, judged, quantity_octets, unlike}
use Rattle.oer_model.specs.Constraints.{AdditionsKeepLimits, FieldsKeepLimits, KeepsLimits, addition_count, optional, size_fits}
use Rattle.oer_model.specs.Fits.{AdditionDefaultsFit, DefaultFits, DefaultsFit, FieldDefaultsFit, Fits}
use Rattle.oer_model.specs.Laws.{CanonicalComputed, CanonicalGiven}
use Rattle.oer_model.specs.Reading.{bitmap, preamble, quantity}
use Rattle.oer_values.specs.ShapeView.{additions_of, fields_of, need_of, type_of}
use Rattle.oer_model.specs.Strict.{IsCanonical}
use Rattle.oer_model.specs.declared.size.Size.{Size}
use Rattle.oer_values.specs.declared.shape.Field.{Field}
use Rattle.oer_values.specs.declared.shape.Addition.{Addition}
use Rattle.oer_model.proofs.filling.Same.{same_list-refl, same_list-true}
use Rattle.oer_model.specs.SharedSteps.{bits_left, is_there}
use Rattle.oer_checker.specs.Steps.{addition_map, and_after, between, check_if, check_there, got_both, is_default, sized_quantity}
use Rattle.oer_checker.proofs.BitLists.{drop_next, drop_past}
use Rattle.oer_checker.proofs.Joins.{also_is, and_all, and_true, bind_got, bind_stop, both_got, both_stop, give_got, judged_got, judged_stop, kept_at, more_got, more_stop, no_more}

abbrev no : Why → List ℕ → Outcome Bool
no why rest = refused why rest

pub give_both : (r : Reader Bool) (p : Place) → both (give true) r p ≡ r p
unfolding both bind give
give_both r p = also_is true r p ∙ and_all (r p)

pub by_bit : (b : Bool) (c r : Reader Bool) (p : Place) → both (check_if b c) r p ≡ check_bit b c r p
by_bit true c r p = refl
by_bit false c r p = give_both r p

-- ---- components

pub field_is : (name : List ℕ) (need : Need) (T : AsnType) (fs : Fields) (s : List Bool) (p : Place) → both (check_if (is_there need s) (check_there need T)) (check_fields fs (bits_left need s)) p ≡ check_fields (field name need T fs) s p
field_is name must T fs s p = refl
field_is name may T fs s p = by_bit (first_bit s) (check_value T) (check_fields fs (later_bits s)) p
field_is name (default d) T fs s p = by_bit (first_bit s) (unlike (canonical_octets T d) (check_value T)) (check_fields fs (later_bits s)) p

field_here : (xs : List Field) (i : ℕ) (f : Field) → i < length xs → f ≡ get_or xs i f → drop i xs ≡ f ∷ drop (i + 1) xs
field_here xs i f less is = drop-cons xs i f less ∙ ap (λ (x : Field). x ∷ drop (suc i) xs) (sym is) ∙ ap (λ (k : ℕ). f ∷ drop k xs) (sym (add-one i))

-- one component, and those after it
abbrev first_field : Field → List Field → List Bool → List Bool → Bool → Reader Bool
first_field f rest bits bits' there = both (check_if there (check_there (need_of f.need) (type_of f.shape))) (check_fields (fields_of rest) bits')

fields_at : (xs : List Field) (i : ℕ) (f : Field) (bits bits' : List Bool) (there : Bool) (p : Place) → i < length xs → f ≡ get_or xs i f → there ≡ is_there (need_of f.need) bits → bits' ≡ bits_left (need_of f.need) bits → first_field f (drop (i + 1) xs) bits bits' there p ≡ check_fields (fields_of (drop i xs)) bits p
fields_at xs i f bits bits' there p less is t b =
    ap₂ (λ (x : Bool) (s : List Bool). both (check_if x (check_there (need_of f.need) (type_of f.shape))) (check_fields (fields_of (drop (i + 1) xs)) s) p) t b
    ∙ field_is (string_bytes f.name) (need_of f.need) (type_of f.shape) (fields_of (drop (i + 1) xs)) bits p
    ∙ ap (λ (l : List Field). check_fields (fields_of l) bits p) (sym (field_here xs i f less is))

pub fields_start : (o : Outcome Bool) → and_after true o ≡ o
fields_start o = and_all o

pub fields_next : (xs : List Field) (i : ℕ) (f : Field) (bits bits' : List Bool) (there acc g : Bool) (p q : Place) (whole : Outcome Bool) → i < length xs → f ≡ get_or xs i f → there ≡ is_there (need_of f.need) bits → bits' ≡ bits_left (need_of f.need) bits
    → and_after acc (check_fields (fields_of (drop i xs)) bits p) ≡ whole → got g q ≡ check_if there (check_there (need_of f.need) (type_of f.shape)) p → and_after (acc && g) (check_fields (fields_of (drop (i + 1) xs)) bits' q) ≡ whole
fields_next xs i f bits bits' there acc g p q whole less is t b inv e =
    more_got (check_if there (check_there (need_of f.need) (type_of f.shape))) (check_fields (fields_of (drop (i + 1) xs)) bits') p q acc g whole (ap (and_after acc) (fields_at xs i f bits bits' there p less is t b) ∙ inv) e

pub fields_stop : (xs : List Field) (i : ℕ) (f : Field) (bits bits' : List Bool) (there acc : Bool) (p : Place) (why : Why) (rest : List ℕ) (whole : Outcome Bool) → i < length xs → f ≡ get_or xs i f → there ≡ is_there (need_of f.need) bits → bits' ≡ bits_left (need_of f.need) bits
    → and_after acc (check_fields (fields_of (drop i xs)) bits p) ≡ whole → refused why rest ≡ check_if there (check_there (need_of f.need) (type_of f.shape)) p → refused why rest ≡ whole
fields_stop xs i f bits bits' there acc p why rest whole less is t b inv e =
    more_stop (check_if there (check_there (need_of f.need) (type_of f.shape))) (check_fields (fields_of (drop (i + 1) xs)) bits') p acc why rest whole (ap (and_after acc) (fields_at xs i f bits bits' there p less is t b) ∙ inv) e

pub fields_end : (xs : List Field) (i : ℕ) (bits : List Bool) (acc : Bool) (p : Place) (whole : Outcome Bool) → length xs ≤ i → and_after acc (check_fields (fields_of (drop i xs)) bits p) ≡ whole → got acc p ≡ whole
fields_end xs i bits acc p whole le inv = no_more p acc whole (ap (λ (l : List Field). and_after acc (check_fields (fields_of l) bits p)) (sym (drop_all i xs le)) ∙ inv)

-- ---- additions

addition_here : (xs : List Addition) (i : ℕ) (a : Addition) → i < length xs → a ≡ get_or xs i a → drop i xs ≡ a ∷ drop (i + 1) xs
addition_here xs i a less is = drop-cons xs i a less ∙ ap (λ (x : Addition). x ∷ drop (suc i) xs) (sym is) ∙ ap (λ (k : ℕ). a ∷ drop k xs) (sym (add-one i))

additions_at : (xs : List Addition) (i : ℕ) (a : Addition) (bits bits' : List Bool) (there : Bool) (p : Place) → i < length xs → a ≡ get_or xs i a → there ≡ first_bit bits → bits' ≡ later_bits bits → both (check_if there (check_open (check_value (type_of a.shape)))) (check_additions (additions_of (drop (i + 1) xs)) bits') p ≡ check_additions (additions_of (drop i xs)) bits p
additions_at xs i a bits bits' there p less is t b =
    ap₂ (λ (x : Bool) (s : List Bool). both (check_if x (check_open (check_value (type_of a.shape)))) (check_additions (additions_of (drop (i + 1) xs)) s) p) t b
    ∙ by_bit (first_bit bits) (check_open (check_value (type_of a.shape))) (check_additions (additions_of (drop (i + 1) xs)) (later_bits bits)) p
    ∙ ap (λ (l : List Addition). check_additions (additions_of l) bits p) (sym (addition_here xs i a less is))

pub additions_next : (xs : List Addition) (i : ℕ) (a : Addition) (bits bits' : List Bool) (there acc g : Bool) (p q : Place) (whole : Outcome Bool) → i < length xs → a ≡ get_or xs i a → there ≡ first_bit bits → bits' ≡ later_bits bits
    → and_after acc (check_additions (additions_of (drop i xs)) bits p) ≡ whole → got g q ≡ check_if there (check_open (check_value (type_of a.shape))) p → and_after (acc && g) (check_additions (additions_of (drop (i + 1) xs)) bits' q) ≡ whole
additions_next xs i a bits bits' there acc g p q whole less is t b inv e =
    more_got (check_if there (check_open (check_value (type_of a.shape)))) (check_additions (additions_of (drop (i + 1) xs)) bits') p q acc g whole (ap (and_after acc) (additions_at xs i a bits bits' there p less is t b) ∙ inv) e

pub additions_stop : (xs : List Addition) (i : ℕ) (a : Addition) (bits bits' : List Bool) (there acc : Bool) (p : Place) (why : Why) (rest : List ℕ) (whole : Outcome Bool) → i < length xs → a ≡ get_or xs i a → there ≡ first_bit bits → bits' ≡ later_bits bits
    → and_after acc (check_additions (additions_of (drop i xs)) bits p) ≡ whole → refused why rest ≡ check_if there (check_open (check_value (type_of a.shape))) p → refused why rest ≡ whole
additions_stop xs i a bits bits' there acc p why rest whole less is t b inv e =
    more_stop (check_if there (check_open (check_value (type_of a.shape)))) (check_additions (additions_of (drop (i + 1) xs)) bits') p acc why rest whole (ap (and_after acc) (additions_at xs i a bits bits' there p less is t b) ∙ inv) e

pub additions_end : (xs : List Addition) (i : ℕ) (bits : List Bool) (acc : Bool) (p : Place) (whole : Outcome Bool) → length xs ≤ i → and_after acc (check_additions (additions_of (drop i xs)) bits p) ≡ whole → got acc p ≡ whole
additions_end xs i bits acc p whole le inv = no_more p acc whole (ap (λ (l : List Addition). and_after acc (check_additions (additions_of l) bits p)) (sym (drop_all i xs le)) ∙ inv)

-- ---- elements

pub times_next : (k k' : ℕ) (c : Reader Bool) (acc g : Bool) (p q : Place) (whole : Outcome Bool) → k ≡ suc k' → and_after acc (check_times k c p) ≡ whole → got g q ≡ c p → and_after (acc && g) (check_times k' c q) ≡ whole
times_next k k' c acc g p q whole is inv e = more_got c (check_times k' c) p q acc g whole (ap (λ (i : ℕ). and_after acc (check_times i c p)) (sym is) ∙ inv) e

pub times_stop : (k k' : ℕ) (c : Reader Bool) (acc : Bool) (p : Place) (why : Why) (rest : List ℕ) (whole : Outcome Bool) → k ≡ suc k' → and_after acc (check_times k c p) ≡ whole → refused why rest ≡ c p → refused why rest ≡ whole
times_stop k k' c acc p why rest whole is inv e = more_stop c (check_times k' c) p acc why rest whole (ap (λ (i : ℕ). and_after acc (check_times i c p)) (sym is) ∙ inv) e

pub times_end : (k : ℕ) (c : Reader Bool) (acc : Bool) (p : Place) (whole : Outcome Bool) → k ≡ 0 → and_after acc (check_times k c p) ≡ whole → got acc p ≡ whole
times_end k c acc p whole is inv = no_more p acc whole (ap (λ (i : ℕ). and_after acc (check_times i c p)) (sym is) ∙ inv)

items_by : (size : Size) (c : Reader Bool) (p q : Place) (n : ℕ) (f : Bool) (o : Outcome (ℕ × Bool)) → got_both n f q ≡ then_read (λ y. within y.0 (guard (size_fits size y.0) reason.Size (give y))) o
    → and_after f (check_times n c q) ≡ then_read (λ y. and_also y.1 (within y.0 (guard (size_fits size y.0) reason.Size (check_times y.0 c)))) o
unfolding within give refuse
items_by size c p q n f (refused why rest) e = absurd (cc)
items_by size c p q n f (got y s) e0 = step (leb y.0 s.left) (size_fits size y.0) refl refl e0 where
  last : (a b : Bool) → leb y.0 s.left ≡ a → size_fits size y.0 ≡ b → bounded a (guard b reason.Size (check_times y.0 c)) s ≡ within y.0 (guard (size_fits size y.0) reason.Size (check_times y.0 c)) s
  last a b ea eb = ap₂ (λ (i j : Bool). bounded i (guard j reason.Size (check_times y.0 c)) s) (sym ea) (sym eb)

  step : (a b : Bool) → leb y.0 s.left ≡ a → size_fits size y.0 ≡ b → got_both n f q ≡ bounded a (guard b reason.Size (λ t. got y t)) s → and_after f (check_times n c q) ≡ and_also y.1 (within y.0 (guard (size_fits size y.0) reason.Size (check_times y.0 c))) s
  step true true ea eb e =
      ap₂ (λ (i : ℕ × Bool) (t : Place). and_after i.1 (check_times i.0 c t)) (got_value (n, f) y q s e) (got_place (n, f) y q s e)
      ∙ ap (and_after y.1) (last true true ea eb)
      ∙ sym (also_is y.1 (within y.0 (guard (size_fits size y.0) reason.Size (check_times y.0 c))) s)
  step true false ea eb e = absurd (cc)
  step false b ea eb e = absurd (cc)

pub items_then : (size : Size) (T : AsnType) (p q : Place) (n : ℕ) (f : Bool) → got_both n f q ≡ sized_quantity size p → and_after f (check_times n (check_value T) q) ≡ check_value (sequence_of size T) p
unfolding sized_quantity check_items bind
items_then size T p q n f e = items_by size (check_value T) p q n f (judged (is_least quantity_octets) quantity p) e

items_refused : (size : Size) (c : Reader Bool) (why : Why) (rest : List ℕ) (o : Outcome (ℕ × Bool)) → refused why rest ≡ then_read (λ y. within y.0 (guard (size_fits size y.0) reason.Size (give y))) o
    → refused why rest ≡ then_read (λ y. and_also y.1 (within y.0 (guard (size_fits size y.0) reason.Size (check_times y.0 c)))) o
unfolding within give refuse
items_refused size c why rest (refused w l) e = cc
items_refused size c why rest (got y s) e0 = step (leb y.0 s.left) (size_fits size y.0) refl refl e0 where
  last : (a b : Bool) → leb y.0 s.left ≡ a → size_fits size y.0 ≡ b → bounded a (guard b reason.Size (check_times y.0 c)) s ≡ within y.0 (guard (size_fits size y.0) reason.Size (check_times y.0 c)) s
  last a b ea eb = ap₂ (λ (i j : Bool). bounded i (guard j reason.Size (check_times y.0 c)) s) (sym ea) (sym eb)

  step : (a b : Bool) → leb y.0 s.left ≡ a → size_fits size y.0 ≡ b → refused why rest ≡ bounded a (guard b reason.Size (λ t. got y t)) s → refused why rest ≡ and_also y.1 (within y.0 (guard (size_fits size y.0) reason.Size (check_times y.0 c))) s
  step true true ea eb e = absurd (cc)
  step true false ea eb e = let f : no why rest ≡ no reason.Size s.input = cc in ap (and_after y.1) (f ∙ last true false ea eb) ∙ sym (also_is y.1 (within y.0 (guard (size_fits size y.0) reason.Size (check_times y.0 c))) s)
  step false b ea eb e = let f : no why rest ≡ no reason.Limit s.input = cc in ap (and_after y.1) (f ∙ last false b ea eb) ∙ sym (also_is y.1 (within y.0 (guard (size_fits size y.0) reason.Size (check_times y.0 c))) s)

pub items_stop : (size : Size) (T : AsnType) (p : Place) (why : Why) (rest : List ℕ) → refused why rest ≡ sized_quantity size p → refused why rest ≡ check_value (sequence_of size T) p
unfolding sized_quantity check_items bind
items_stop size T p why rest e = items_refused size (check_value T) why rest (judged (is_least quantity_octets) quantity p) e

-- ---- sequences

pub sequence_then : (fs : Fields) (p q : Place) (s : List Bool) (o : Outcome Bool) → got s q ≡ preamble (optional fs) p → o ≡ check_fields fs s q → o ≡ check_value (sequence fs) p
unfolding check_sequence
sequence_then fs p q s o e h = bind_got (preamble (optional fs)) (check_fields fs) p q s o e h

pub sequence_stop : (fs : Fields) (p : Place) (why : Why) (rest : List ℕ) → refused why rest ≡ preamble (optional fs) p → refused why rest ≡ check_value (sequence fs) p
unfolding check_sequence
sequence_stop fs p why rest e = bind_stop (preamble (optional fs)) (check_fields fs) p why rest e

abbrev extension : Additions → Bool → Reader Bool
extension more x = check_extension x more (check_additions more)

abbrev after_bits : Fields → Additions → List Bool → Reader Bool
after_bits fs more s = both (check_fields fs (later_bits s)) (extension more (first_bit s))

pub extensible_then : (fs : Fields) (more : Additions) (k : ℕ) (p q : Place) (s : List Bool) (o : Outcome Bool) → k ≡ suc (optional fs) → got s q ≡ preamble k p → o ≡ after_bits fs more s q → o ≡ check_value (extensible_sequence fs more) p
unfolding check_extensible
extensible_then fs more k p q s o is e h = bind_got (preamble (suc (optional fs))) (after_bits fs more) p q s o (e ∙ ap (λ (i : ℕ). preamble i p) is) h

pub extensible_stop : (fs : Fields) (more : Additions) (k : ℕ) (p : Place) (why : Why) (rest : List ℕ) → k ≡ suc (optional fs) → refused why rest ≡ preamble k p → refused why rest ≡ check_value (extensible_sequence fs more) p
unfolding check_extensible
extensible_stop fs more k p why rest is e = bind_stop (preamble (suc (optional fs))) (after_bits fs more) p why rest (e ∙ ap (λ (i : ℕ). preamble i p) is)

pub root_stop : (fs : Fields) (more : Additions) (k : ℕ) (p q : Place) (s bits : List Bool) (why : Why) (rest : List ℕ) → k ≡ suc (optional fs) → got s q ≡ preamble k p → bits ≡ later_bits s → refused why rest ≡ check_fields fs bits q → refused why rest ≡ check_value (extensible_sequence fs more) p
root_stop fs more k p q s bits why rest is e b h = extensible_then fs more k p q s (refused why rest) is e (both_stop (check_fields fs (later_bits s)) (extension more (first_bit s)) q why rest (h ∙ ap (λ (l : List Bool). check_fields fs l q) b))

pub later_stop : (fs : Fields) (more : Additions) (k : ℕ) (p q r : Place) (s bits : List Bool) (x f : Bool) (why : Why) (rest : List ℕ) → k ≡ suc (optional fs) → got s q ≡ preamble k p → bits ≡ later_bits s → x ≡ first_bit s → got f r ≡ check_fields fs bits q → refused why rest ≡ extension more x r → refused why rest ≡ check_value (extensible_sequence fs more) p
later_stop fs more k p q r s bits x f why rest is e b fb h j =
    extensible_then fs more k p q s (refused why rest) is e
    (ap (and_after f) (j ∙ ap (λ (y : Bool). extension more y r) fb) ∙ both_got (check_fields fs (later_bits s)) (extension more (first_bit s)) q r f (h ∙ ap (λ (l : List Bool). check_fields fs l q) b))

pub later_got : (fs : Fields) (more : Additions) (k : ℕ) (p q r end : Place) (s bits : List Bool) (x f g : Bool) → k ≡ suc (optional fs) → got s q ≡ preamble k p → bits ≡ later_bits s → x ≡ first_bit s → got f r ≡ check_fields fs bits q → got g end ≡ extension more x r → got (f && g) end ≡ check_value (extensible_sequence fs more) p
later_got fs more k p q r end s bits x f g is e b fb h j =
    extensible_then fs more k p q s (got (f && g) end) is e
    (ap (and_after f) (j ∙ ap (λ (y : Bool). extension more y r) fb) ∙ both_got (check_fields fs (later_bits s)) (extension more (first_bit s)) q r f (h ∙ ap (λ (l : List Bool). check_fields fs l q) b))

-- ---- a bitmap, and what it marks

pub count_is : (xs : List Addition) → addition_count (additions_of xs) ≡ length xs
count_is [] = refl
count_is (a ∷ xs) = ap suc (count_is xs)

abbrev marked : Additions → List Bool → Reader Bool
marked more s = both (check_additions more s) (check_unknown (drop (addition_count more) s))

map_by : (more : Additions) (q : Place) (s : List Bool) (f : Bool) (o : Outcome (List Bool × Bool)) → got_both s f q ≡ then_read (λ y. guard (all_false (drop 65536 y.0)) UnknownAddition (give y)) o
    → and_after f (marked more s q) ≡ then_read (λ y. guard (all_false (drop 65536 y.0)) UnknownAddition (and_also y.1 (marked more y.0))) o
unfolding give refuse
map_by more q s f (refused why rest) e = absurd (cc)
map_by more q s f (got y r) e0 = step (all_false (drop 65536 y.0)) e0 where
  step : (b : Bool) → got_both s f q ≡ guard b UnknownAddition (λ t. got y t) r → and_after f (marked more s q) ≡ guard b UnknownAddition (and_also y.1 (marked more y.0)) r
  step true e = ap₂ (λ (i : List Bool × Bool) (t : Place). and_after i.1 (marked more i.0 t)) (got_value (s, f) y q r e) (got_place (s, f) y q r e) ∙ sym (also_is y.1 (marked more y.0) r)
  step false e = absurd (cc)

pub map_then : (more : Additions) (n : ℕ) (p q : Place) (s : List Bool) (f : Bool) → n ≡ addition_count more → got_both s f q ≡ addition_map n p → and_after f (marked more s q) ≡ extension more true p
unfolding addition_map bind
map_then more n p q s f is e = map_by more q s f (judged (is_bitmap (addition_count more)) bitmap p) (e ∙ ap (λ (i : ℕ). addition_map i p) is)

map_refused : (more : Additions) (why : Why) (rest : List ℕ) (o : Outcome (List Bool × Bool)) → refused why rest ≡ then_read (λ y. guard (all_false (drop 65536 y.0)) UnknownAddition (give y)) o
    → refused why rest ≡ then_read (λ y. guard (all_false (drop 65536 y.0)) UnknownAddition (and_also y.1 (marked more y.0))) o
unfolding give refuse
map_refused more why rest (refused w l) e = cc
map_refused more why rest (got y r) e0 = step (all_false (drop 65536 y.0)) e0 where
  step : (b : Bool) → refused why rest ≡ guard b UnknownAddition (λ t. got y t) r → refused why rest ≡ guard b UnknownAddition (and_also y.1 (marked more y.0)) r
  step true e = absurd (cc)
  step false e = cc

pub map_stop : (more : Additions) (n : ℕ) (x : Bool) (p : Place) (why : Why) (rest : List ℕ) → true ≡ x → n ≡ addition_count more → refused why rest ≡ addition_map n p → refused why rest ≡ extension more x p
unfolding addition_map bind
map_stop more n x p why rest there is e = map_refused more why rest (judged (is_bitmap (addition_count more)) bitmap p) (e ∙ ap (λ (i : ℕ). addition_map i p) is) ∙ ap (λ (b : Bool). extension more b p) there

pub known_stop : (more : Additions) (n : ℕ) (x : Bool) (p q : Place) (s : List Bool) (f : Bool) (why : Why) (rest : List ℕ) → true ≡ x → n ≡ addition_count more → got_both s f q ≡ addition_map n p → refused why rest ≡ check_additions more s q → refused why rest ≡ extension more x p
known_stop more n x p q s f why rest there is e h =
    ap (and_after f) (both_stop (check_additions more s) (check_unknown (drop (addition_count more) s)) q why rest h) ∙ map_then more n p q s f is e ∙ ap (λ (b : Bool). extension more b p) there

pub unknown_stop : (more : Additions) (n : ℕ) (x : Bool) (p q r : Place) (s : List Bool) (f g : Bool) (why : Why) (rest : List ℕ) → true ≡ x → n ≡ addition_count more → got_both s f q ≡ addition_map n p → got g r ≡ check_additions more s q → refused why rest ≡ check_unknown (drop n s) r → refused why rest ≡ extension more x p
unknown_stop more n x p q r s f g why rest there is e h j =
    ap (λ (o : Outcome Bool). and_after f (and_after g o)) (j ∙ ap (λ (i : ℕ). check_unknown (drop i s) r) is)
    ∙ ap (and_after f) (both_got (check_additions more s) (check_unknown (drop (addition_count more) s)) q r g h) ∙ map_then more n p q s f is e ∙ ap (λ (b : Bool). extension more b p) there

pub unknown_got : (more : Additions) (n : ℕ) (x : Bool) (p q r end : Place) (s : List Bool) (f g u : Bool) → true ≡ x → n ≡ addition_count more → got_both s f q ≡ addition_map n p → got g r ≡ check_additions more s q → got u end ≡ check_unknown (drop n s) r → got (f && (g && u)) end ≡ extension more x p
unknown_got more n x p q r end s f g u there is e h j =
    ap (λ (o : Outcome Bool). and_after f (and_after g o)) (j ∙ ap (λ (i : ℕ). check_unknown (drop i s) r) is)
    ∙ ap (and_after f) (both_got (check_additions more s) (check_unknown (drop (addition_count more) s)) q r g h) ∙ map_then more n p q s f is e ∙ ap (λ (b : Bool). extension more b p) there

pub no_extension : (more : Additions) (x : Bool) (p : Place) → false ≡ x → got true p ≡ extension more x p
no_extension more x p is = give_got true p ∙ ap (λ (b : Bool). extension more b p) is

-- ---- a component that is there

pub there_got : (need : Need) (T : AsnType) (p q : Place) (f b : Bool) → got f q ≡ check_value T p → b ≡ is_default need T (between p q) → got (f && not b) q ≡ check_there need T p
unfolding unlike
there_got must T p q f b e is = ap (λ (d : Bool). got (f && not d) q) is ∙ ap (λ (g : Bool). got g q) (and_true f) ∙ e
there_got may T p q f b e is = ap (λ (d : Bool). got (f && not d) q) is ∙ ap (λ (g : Bool). got g q) (and_true f) ∙ e
there_got (default v) T p q f b e is =
    let test : Bool → List ℕ → Bool = λ (g : Bool) (w : List ℕ). not (same_list w (canonical_octets T v)) in
    ap (λ (d : Bool). got (f && not d) q) is
    ∙ bind_got (judged test (check_value T)) (λ y. give (y.0 && y.1)) p q (f, test f (between p q)) (got (f && test f (between p q)) q) (judged_got test (check_value T) p q f e) (give_got (f && test f (between p q)) q)

pub there_stop : (need : Need) (T : AsnType) (p : Place) (why : Why) (rest : List ℕ) → refused why rest ≡ check_value T p → refused why rest ≡ check_there need T p
unfolding unlike
there_stop must T p why rest e = e
there_stop may T p why rest e = e
there_stop (default v) T p why rest e =
    let test : Bool → List ℕ → Bool = λ (g : Bool) (w : List ℕ). not (same_list w (canonical_octets T v)) in
    bind_stop (judged test (check_value T)) (λ y. give (y.0 && y.1)) p why rest (judged_stop test (check_value T) p why rest e)

pub default_is : (T : AsnType) (d : AsnValue) (b : List ℕ) (r : Bool) → CanonicalGiven → CanonicalComputed → KeepsLimits T → Fits T d → length b < 2 ^ 64 → IsTrue r ↔ IsCanonical T d b → r ≡ same_list b (canonical_octets T d)
default_is T d b r given computed k fits few told = cases r (same_list b (canonical_octets T d)) refl told where
  cases : (r s : Bool) → same_list b (canonical_octets T d) ≡ s → IsTrue r ↔ IsCanonical T d b → r ≡ s
  cases true true e t = refl
  cases false false e t = refl
  cases true false e t = sym (same_list-refl (canonical_octets T d)) ∙ ap (λ (l : List ℕ). same_list l (canonical_octets T d)) (sym (computed T d b (t.0 refl))) ∙ e
  cases false true e t =
      let same : b ≡ canonical_octets T d = same_list-true b (canonical_octets T d) e in
      t.1 (subst (λ (l : List ℕ). IsCanonical T d l) (sym same) (given T k d fits (subst (λ (l : List ℕ). length l < 2 ^ 64) same few)))

-- ---- what the bits mark beyond the known additions

nothing_here : (s : List Bool) (p : Place) → first_bit s ≡ false → check_unknown (later_bits s) p ≡ check_unknown s p
nothing_here [] p e = refl
nothing_here (true ∷ s) p e = absurd (cc)
nothing_here (false ∷ s) p e = refl

something_here : (s : List Bool) (p : Place) → first_bit s ≡ true → both check_octets (check_unknown (later_bits s)) p ≡ check_unknown s p
something_here [] p e = absurd (cc)
something_here (true ∷ s) p e = refl
something_here (false ∷ s) p e = absurd (cc)

pub unmarked_next : (s : List Bool) (i : ℕ) (acc : Bool) (p : Place) (whole : Outcome Bool) → first_bit (drop i s) ≡ false → and_after acc (check_unknown (drop i s) p) ≡ whole → and_after acc (check_unknown (drop (i + 1) s) p) ≡ whole
unmarked_next s i acc p whole e inv = ap (λ (l : List Bool). and_after acc (check_unknown l p)) (drop_next i s) ∙ ap (and_after acc) (nothing_here (drop i s) p e) ∙ inv

marked_at : (s : List Bool) (i : ℕ) (p : Place) → first_bit (drop i s) ≡ true → both check_octets (check_unknown (drop (i + 1) s)) p ≡ check_unknown (drop i s) p
marked_at s i p e = ap (λ (l : List Bool). both check_octets (check_unknown l) p) (drop_next i s) ∙ something_here (drop i s) p e

pub marked_next : (s : List Bool) (i : ℕ) (acc g : Bool) (p q : Place) (whole : Outcome Bool) → first_bit (drop i s) ≡ true → and_after acc (check_unknown (drop i s) p) ≡ whole → got g q ≡ check_octets p → and_after (acc && g) (check_unknown (drop (i + 1) s) q) ≡ whole
marked_next s i acc g p q whole e inv h = more_got check_octets (check_unknown (drop (i + 1) s)) p q acc g whole (ap (and_after acc) (marked_at s i p e) ∙ inv) h

pub marked_stop : (s : List Bool) (i : ℕ) (acc : Bool) (p : Place) (why : Why) (rest : List ℕ) (whole : Outcome Bool) → first_bit (drop i s) ≡ true → and_after acc (check_unknown (drop i s) p) ≡ whole → refused why rest ≡ check_octets p → refused why rest ≡ whole
marked_stop s i acc p why rest whole e inv h = more_stop check_octets (check_unknown (drop (i + 1) s)) p acc why rest whole (ap (and_after acc) (marked_at s i p e) ∙ inv) h

pub marked_end : (s : List Bool) (i : ℕ) (acc : Bool) (p : Place) (whole : Outcome Bool) → length s ≤ i → and_after acc (check_unknown (drop i s) p) ≡ whole → got acc p ≡ whole
marked_end s i acc p whole le inv = no_more p acc whole (ap (λ (l : List Bool). and_after acc (check_unknown l p)) (sym (drop_past i s le)) ∙ inv)

-- ---- what is asked of the types

pub field_limits : (xs : List Field) (i : ℕ) (f : Field) → i < length xs → f ≡ get_or xs i f → FieldsKeepLimits (fields_of xs) → KeepsLimits (type_of f.shape)
field_limits xs i f less is k = (kept_at (λ (l : List Field). FieldsKeepLimits (fields_of l)) (λ g l k. k.1) xs i (field_here xs i f less is) k).0

pub field_defaults : (xs : List Field) (i : ℕ) (f : Field) → i < length xs → f ≡ get_or xs i f → FieldDefaultsFit (fields_of xs) → DefaultsFit (type_of f.shape)
field_defaults xs i f less is k = (kept_at (λ (l : List Field). FieldDefaultsFit (fields_of l)) (λ g l k. k.2) xs i (field_here xs i f less is) k).0

pub field_default : (xs : List Field) (i : ℕ) (f : Field) → i < length xs → f ≡ get_or xs i f → FieldDefaultsFit (fields_of xs) → DefaultFits (need_of f.need) (Fits (type_of f.shape))
field_default xs i f less is k = (kept_at (λ (l : List Field). FieldDefaultsFit (fields_of l)) (λ g l k. k.2) xs i (field_here xs i f less is) k).1

pub addition_limits : (xs : List Addition) (i : ℕ) (a : Addition) → i < length xs → a ≡ get_or xs i a → AdditionsKeepLimits (additions_of xs) → KeepsLimits (type_of a.shape)
addition_limits xs i a less is k = (kept_at (λ (l : List Addition). AdditionsKeepLimits (additions_of l)) (λ b l k. k.1) xs i (addition_here xs i a less is) k).0

pub addition_defaults : (xs : List Addition) (i : ℕ) (a : Addition) → i < length xs → a ≡ get_or xs i a → AdditionDefaultsFit (additions_of xs) → DefaultsFit (type_of a.shape)
addition_defaults xs i a less is k = (kept_at (λ (l : List Addition). AdditionDefaultsFit (additions_of l)) (λ b l k. k.1) xs i (addition_here xs i a less is) k).0

pub if_absent : (b : Bool) (c : Reader Bool) (p : Place) → b ≡ false → got true p ≡ check_if b c p
if_absent b c p is = rw is (give_got true p)

pub times_start : (n : ℕ) (c : Reader Bool) (p : Place) → and_after true (check_times (n - 0) c p) ≡ check_times n c p
times_start n c p = let e : n - 0 ≡ n = omega arith in and_all (check_times (n - 0) c p) ∙ ap (λ (i : ℕ). check_times i c p) e
