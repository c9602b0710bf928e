-- From a type to what it is made of: what is checked, and where its parts are looked up.
use Rattle.std.proofs.Common.{◌≡◌, ℕ, suc, Bool, true, false, ◌&&◌, leb, List, [], ◌++◌, length, drop, refl, sym, ap, ap₂, ◌∙◌}
use Rattle.oer_units.specs.declared.fault.Why.{Why}
use Rattle.oer_units.specs.declared.fault.Why.TheVariants as reason
use Rattle.oer_units.specs.declared.fault.Why.TheVariants.{UnknownAddition}
use Rattle.oer_units.specs.Reader.{Outcome, Place, Reader, bind, bounded, give, got, guard, refuse, refused, then_read, within}
use Rattle.oer_units.proofs.Closure.{got_place, got_value}
use Rattle.oer_model.specs.AsnType.{Additions, AsnType, Fields, extensible_sequence, sequence, sequence_of}
use Rattle.oer_model.specs.Bits.{all_false, first_bit, later_bits}
use Rattle.oer_model.specs.Checking.{and_also, both, check_additions, check_extension, check_fields, check_times, check_unknown, check_value, is_bitmap, is_least, judge, judged, quantity_octets}
use Rattle.oer_model.specs.Constraints.{addition_count, optional, size_fits}
use Rattle.oer_model.specs.Parts.{Answer, Part, Step, addition_parts, extension_parts, field_parts, item_parts, join_parts, lookup, parts_in, read_parts, to_addition, to_component, unknown_parts}
use Rattle.oer_model.specs.Reading.{bitmap, preamble, quantity}
use Rattle.oer_values.specs.ShapeView.{additions_of, fields_of}
use Rattle.oer_values.specs.declared.shape.Addition.{Addition}
use Rattle.oer_values.specs.declared.shape.Field.{Field}
use Rattle.oer_model.specs.declared.size.Size.{Size}
use Rattle.oer_checker.specs.Steps.{addition_map, and_after, got_both, sized_quantity}
use Rattle.oer_parts.specs.Walk.{IsGot}
use Rattle.oer_parts.proofs.Entries.{Ends, both_ends, walked}
use Rattle.oer_checker.proofs.FieldSteps.{count_is, extensible_then, items_then, map_then, sequence_then}
use Rattle.oer_parts.proofs.Finds.{added, checks, joined}
use Rattle.oer_checker.proofs.Joins.{also_is, bind_got}
use Rattle.oer_checker.proofs.PartSteps.{extension_none, fields_none, lookup_both}
use Rattle.oer_parts.proofs.Walks.{addition_entries, additions_pass, additions_read, field_entries, fields_pass, fields_read, nothing, unknown_entries, unknown_pass, unknown_read}

pub not_got : {A : Type 0} (o : Outcome A) (why : Why) (rest : List ℕ) → IsGot o → refused why rest ≡ o → ⊥
not_got {A} o why rest (x, q, is) e = let same : got x q ≡ refused why rest = is ∙ sym e in absurd (cc)

after_got : (f : Bool) (o : Outcome Bool) → IsGot (and_after f o) → IsGot o
after_got f (got g q) k = (g, q, refl)
after_got f (refused why rest) (x, q, e) = absurd (cc)

-- ---- a SEQUENCE without extension marker

pub closed_checked : (T : AsnType) (fs : Fields) (is : T ≡ sequence fs) (p q : Place) (s : List Bool) → IsGot (check_value T p) → got s q ≡ preamble (optional fs) p → IsGot (check_fields fs s q)
closed_checked T fs is p q s (x, r, e) h = (x, r, e ∙ ap (λ (U : AsnType). check_value U p) is ∙ sym (sequence_then fs p q s (check_fields fs s q) h refl))

pub closed_look : (T : AsnType) (fs : Fields) (is : T ≡ sequence fs) (p q : Place) (s : List Bool) → got s q ≡ preamble (optional fs) p → (step : Step) (o : Answer) → lookup o step (parts_in (field_parts fs 0 s q)) ≡ lookup o step (parts_in (read_parts T p))
closed_look T fs is p q s h step o =
    ap (λ (l : Outcome (List Part)). lookup o step (parts_in l)) (bind_got (preamble (optional fs)) (field_parts fs 0) p q s (field_parts fs 0 s q) h refl)
    ∙ ap (λ (U : AsnType). lookup o step (parts_in (read_parts U p))) (sym is)

-- ---- with it

bitmap_by : (more : Additions) (p u : Place) (h : Bool) (o : Outcome (List Bool)) → bitmap p ≡ o → got h u ≡ then_read (λ y. guard (all_false (drop 65536 y.0)) UnknownAddition (and_also y.1 (both (check_additions more y.0) (check_unknown (drop (addition_count more) y.0))))) (judge (is_bitmap (addition_count more)) p o)
    → (s : List Bool) × (q : Place) × (g : Bool) × (got s q ≡ bitmap p) × (got g u ≡ both (check_additions more s) (check_unknown (drop (addition_count more) s)) q)
unfolding refuse
bitmap_by more p u h (refused why rest) is e = absurd (cc)
bitmap_by more p u h (got s q) is e = by (all_false (drop 65536 s)) _ e where
  by : (b : Bool) (f : Bool) → got h u ≡ guard b UnknownAddition (and_also f (both (check_additions more s) (check_unknown (drop (addition_count more) s)))) q
      → (s : List Bool) × (q : Place) × (g : Bool) × (got s q ≡ bitmap p) × (got g u ≡ both (check_additions more s) (check_unknown (drop (addition_count more) s)) q)
  by true f e =
      let o = ended (both (check_additions more s) (check_unknown (drop (addition_count more) s)) q) f (e ∙ also_is f (both (check_additions more s) (check_unknown (drop (addition_count more) s))) q) in
      (s, q, o.0, sym is, o.1)
    where
      ended : (o : Outcome Bool) (f : Bool) → got h u ≡ and_after f o → (g : Bool) × (got g u ≡ o)
      ended (got g r) f e = (g, ap (λ (t : Place). got g t) (got_place h (f && g) u r e))
      ended (refused why rest) f e = absurd (cc)
  by false f e = absurd (cc)

bitmap_got : (more : Additions) (p u : Place) (h : Bool) → got h u ≡ check_extension true more (check_additions more) p
    → (s : List Bool) × (q : Place) × (g : Bool) × (got s q ≡ bitmap p) × (got g u ≡ both (check_additions more s) (check_unknown (drop (addition_count more) s)) q)
unfolding bind judged
bitmap_got more p u h e = bitmap_by more p u h (bitmap p) refl e

extension_got : (ys : List Addition) (x : Bool) (p u : Place) (h : Bool) → got h u ≡ check_extension x (additions_of ys) (check_additions (additions_of ys)) p → (added : List Part) × (got added u ≡ extension_parts x (additions_of ys) p)
unfolding give
extension_got ys false p u h e = ([], ap (λ (t : Place). got [] t) (got_place h true u p e))
extension_got ys true p u h e =
    let n = addition_count (additions_of ys) in
    let o = bitmap_got (additions_of ys) p u h e in
    let b = both_ends (check_additions (additions_of ys) o.0) (check_unknown (drop n o.0)) o.1 u o.2 o.4 in
    let w = additions_pass ys 0 o.0 o.1 b.1 b.0 b.3 in
    let v = unknown_pass (drop n o.0) n b.1 u b.2 b.4 in (
      walked (addition_entries ys 0 o.0) o.1 b.1 w ++ walked (unknown_entries (drop n o.0) n) b.1 u v,
      bind_got bitmap (λ s. join_parts (addition_parts (additions_of ys) 0 s) (unknown_parts n (drop n s))) p o.1 o.0 _ o.3
          (joined (addition_parts (additions_of ys) 0 o.0) (unknown_parts n (drop n o.0)) o.1 b.1 u _ _ (additions_read ys 0 o.0 o.1 b.1 w) (unknown_read (drop n o.0) n b.1 u v)),
    )

abbrev extension : Additions → Bool → Reader Bool
extension more x = check_extension x more (check_additions more)

module _ (T : AsnType) (xs : List Field) (ys : List Addition) (is : T ≡ extensible_sequence (fields_of xs) (additions_of ys)) (k : ℕ) (p q : Place) (s bits : List Bool) (many : k ≡ suc (optional (fields_of xs))) (ok : IsGot (check_value T p)) (h : got s q ≡ preamble k p) (b : bits ≡ later_bits s) where
  split : (f : Bool) × (r : Place) × (g : Bool) × (got f r ≡ check_fields (fields_of xs) bits q) × (got g ok.1 ≡ extension (additions_of ys) (first_bit s) r)
  split =
      let whole : got ok.0 ok.1 ≡ both (check_fields (fields_of xs) (later_bits s)) (extension (additions_of ys) (first_bit s)) q = ok.2 ∙ ap (λ (U : AsnType). check_value U p) is ∙ sym (extensible_then (fields_of xs) (additions_of ys) k p q s _ many h refl) in
      let o = both_ends (check_fields (fields_of xs) (later_bits s)) (extension (additions_of ys) (first_bit s)) q ok.1 ok.0 whole in
      (o.0, o.1, o.2, o.3 ∙ ap (λ (l : List Bool). check_fields (fields_of xs) l q) (sym b), o.4)

  pub root_checked : IsGot (check_fields (fields_of xs) bits q)
  root_checked = (split.0, split.1, split.3)

  -- it ends where the SEQUENCE does, if the extension bit isn't set
  pub root_ends : first_bit s ≡ false → Ends (check_fields (fields_of xs) bits q) ok.1
  root_ends none =
      let end : split.1 ≡ ok.1 = nothing split.1 ok.1 split.2 (split.4 ∙ ap (λ (x : Bool). extension (additions_of ys) x split.1) none) in
      (split.0, ap (λ (t : Place). got split.0 t) (sym end) ∙ split.3)

  root : List Part
  root = walked (field_entries xs 0 bits) q split.1 (fields_pass xs 0 bits q split.1 split.0 split.3)

  root_read : got root split.1 ≡ field_parts (fields_of xs) 0 bits q
  unfolding root
  root_read = fields_read xs 0 bits q split.1 (fields_pass xs 0 bits q split.1 split.0 split.3)

  whole_look : (step : Step) (o : Answer) → lookup (lookup o step (parts_in (extension_parts (first_bit s) (additions_of ys) split.1))) step root ≡ lookup o step (parts_in (read_parts T p))
  whole_look step o =
      let a = extension_got ys (first_bit s) split.1 ok.1 split.2 split.4 in
      let front : got root split.1 ≡ field_parts (fields_of xs) 0 (later_bits s) q = root_read ∙ ap (λ (l : List Bool). field_parts (fields_of xs) 0 l q) b in
      ap (λ (l : Outcome (List Part)). lookup (lookup o step (parts_in l)) step root) (sym a.1)
      ∙ sym (lookup_both o step root a.0)
      ∙ ap (λ (l : Outcome (List Part)). lookup o step (parts_in l))
      (bind_got (preamble (suc (optional (fields_of xs)))) (λ s. join_parts (field_parts (fields_of xs) 0 (later_bits s)) (extension_parts (first_bit s) (additions_of ys))) p q s _ (h ∙ ap (λ (i : ℕ). preamble i p) many)
      (joined (field_parts (fields_of xs) 0 (later_bits s)) (extension_parts (first_bit s) (additions_of ys)) q split.1 ok.1 root a.0 front a.1))
      ∙ ap (λ (U : AsnType). lookup o step (parts_in (read_parts U p))) (sym is)

  pub root_look : (i : ℕ) (o : Answer) → lookup o (to_component i) (parts_in (field_parts (fields_of xs) 0 bits q)) ≡ lookup o (to_component i) (parts_in (read_parts T p))
  root_look i o =
      ap (λ (l : Outcome (List Part)). lookup o (to_component i) (parts_in l)) (sym root_read)
      ∙ ap (λ (a : Answer). lookup a (to_component i) root) (extension_none (first_bit s) (additions_of ys) split.1 (to_component i) (λ k. refl) o)
      ∙ whole_look (to_component i) o

  -- r: where the root ends
  pub extension_checked : (r : Place) (f : Bool) → got f r ≡ check_fields (fields_of xs) bits q → IsGot (extension (additions_of ys) (first_bit s) r)
  extension_checked r f e = (split.2, ok.1, split.4 ∙ ap (λ (t : Place). extension (additions_of ys) (first_bit s) t) (got_place split.0 f split.1 r (split.3 ∙ sym e)))

  pub extension_look : (r : Place) (f : Bool) → got f r ≡ check_fields (fields_of xs) bits q → (i : ℕ) (o : Answer) → lookup o (to_addition i) (parts_in (extension_parts (first_bit s) (additions_of ys) r)) ≡ lookup o (to_addition i) (parts_in (read_parts T p))
  extension_look r f e i o =
      ap (λ (t : Place). lookup o (to_addition i) (parts_in (extension_parts (first_bit s) (additions_of ys) t))) (got_place f split.0 r split.1 (e ∙ sym split.3))
      ∙ fields_none (fields_of xs) 0 bits q (to_addition i) (λ k. refl) (lookup o (to_addition i) (parts_in (extension_parts (first_bit s) (additions_of ys) split.1)))
      ∙ ap (λ (l : Outcome (List Part)). lookup (lookup o (to_addition i) (parts_in (extension_parts (first_bit s) (additions_of ys) split.1))) (to_addition i) (parts_in l)) (sym root_read)
      ∙ whole_look (to_addition i) o

  pub no_extension_look : (i : ℕ) → first_bit s ≡ false → (o : Answer) → o ≡ lookup o (to_addition i) (parts_in (read_parts T p))
  unfolding give
  no_extension_look i none o =
      ap (λ (x : Bool). lookup o (to_addition i) (parts_in (extension_parts x (additions_of ys) split.1))) (sym none)
      ∙ extension_look split.1 split.0 split.3 i o

-- ---- the bitmap

map_read : (n : ℕ) (p q : Place) (s : List Bool) (f : Bool) → got_both s f q ≡ addition_map n p → got s q ≡ bitmap p
unfolding addition_map bind judged give refuse
map_read n p q s f e0 = cases (bitmap p) e0 where
  by : (b : Bool) (t : List Bool) (g : Bool) (r : Place) → got_both s f q ≡ guard b UnknownAddition (give (t, g)) r → got s q ≡ got t r
  by true t g r e = ap₂ (λ (y : List Bool × Bool) (u : Place). got y.0 u) (got_value (s, f) (t, g) q r e) (got_place (s, f) (t, g) q r e)
  by false t g r e = absurd (cc)

  cases : (o : Outcome (List Bool)) → got_both s f q ≡ then_read (λ y. guard (all_false (drop 65536 y.0)) UnknownAddition (give y)) (judge (is_bitmap n) p o) → got s q ≡ o
  cases (got t r) e = by (all_false (drop 65536 t)) t _ r e
  cases (refused why rest) e = absurd (cc)

pub marks_checked : (ys : List Addition) (x : Bool) (p q : Place) (s : List Bool) (f : Bool) → x ≡ true → IsGot (check_extension x (additions_of ys) (check_additions (additions_of ys)) p) → got_both s f q ≡ addition_map (length ys) p → IsGot (checks ys (length ys) s q)
marks_checked ys x p q s f is ok e =
    let n : length ys ≡ addition_count (additions_of ys) = sym (count_is ys) in
    let here = map_then (additions_of ys) (length ys) p q s f n e ∙ ap (λ (b : Bool). check_extension b (additions_of ys) (check_additions (additions_of ys)) p) (sym is) in
    let o = after_got f _ (ok.0, ok.1, ok.2 ∙ sym here) in
    (o.0, o.1, o.2 ∙ ap (λ (i : ℕ). both (check_additions (additions_of ys) s) (check_unknown (drop i s)) q) (sym n))

pub marks_look : (ys : List Addition) (x : Bool) (p q : Place) (s : List Bool) (f : Bool) → x ≡ true → got_both s f q ≡ addition_map (length ys) p → (step : Step) (o : Answer) → lookup o step (added ys (length ys) s q) ≡ lookup o step (parts_in (extension_parts x (additions_of ys) p))
marks_look ys x p q s f is e step o =
    let n : length ys ≡ addition_count (additions_of ys) = sym (count_is ys) in
    let c = addition_count (additions_of ys) in
    ap (λ (i : ℕ). lookup o step (added ys i s q)) n
    ∙ ap (λ (l : Outcome (List Part)). lookup o step (parts_in l)) (bind_got bitmap (λ s. join_parts (addition_parts (additions_of ys) 0 s) (unknown_parts c (drop c s))) p q s _ (map_read (length ys) p q s f e) refl)
    ∙ ap (λ (b : Bool). lookup o step (parts_in (extension_parts b (additions_of ys) p))) (sym is)

-- ---- a SEQUENCE OF

quantity_read : (size : Size) (p q : Place) (n : ℕ) (f : Bool) → got_both n f q ≡ sized_quantity size p → got n q ≡ quantity p
unfolding sized_quantity bind judged within give refuse
quantity_read size p q n f e0 = cases (quantity p) e0 where
  by : (a b : Bool) (m : ℕ) (g : Bool) (r : Place) → got_both n f q ≡ bounded a (guard b reason.Size (give (m, g))) r → got n q ≡ got m r
  by true true m g r e = ap₂ (λ (y : ℕ × Bool) (u : Place). got y.0 u) (got_value (n, f) (m, g) q r e) (got_place (n, f) (m, g) q r e)
  by true false m g r e = absurd (cc)
  by false b m g r e = absurd (cc)

  cases : (o : Outcome ℕ) → got_both n f q ≡ then_read (λ y. within y.0 (guard (size_fits size y.0) reason.Size (give y))) (judge (is_least quantity_octets) p o) → got n q ≡ o
  cases (got m r) e = by (leb m r.left) (size_fits size m) m _ r e
  cases (refused why rest) e = absurd (cc)

pub list_checked : (U : AsnType) (size : Size) (T : AsnType) (is : U ≡ sequence_of size T) (p q : Place) (n : ℕ) (f : Bool) → IsGot (check_value U p) → got_both n f q ≡ sized_quantity size p → IsGot (check_times n (check_value T) q)
list_checked U size T is p q n f (x, r, e) h = after_got f _ (x, r, e ∙ ap (λ (V : AsnType). check_value V p) is ∙ sym (items_then size T p q n f h))

pub list_look : (U : AsnType) (size : Size) (T : AsnType) (is : U ≡ sequence_of size T) (p q : Place) (n : ℕ) (f : Bool) → got_both n f q ≡ sized_quantity size p → (step : Step) (o : Answer) → lookup o step (parts_in (item_parts T 0 n q)) ≡ lookup o step (parts_in (read_parts U p))
list_look U size T is p q n f h step o =
    ap (λ (l : Outcome (List Part)). lookup o step (parts_in l)) (bind_got quantity (item_parts T 0) p q n _ (quantity_read size p q n f h) refl)
    ∙ ap (λ (V : AsnType). lookup o step (parts_in (read_parts V p))) (sym is)
