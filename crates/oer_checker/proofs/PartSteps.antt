-- Which steps lead nowhere in a type, and parts of the kinds of types.
use Rattle.std.proofs.Common.{◌≡◌, ℕ, zero, suc, Bool, true, false, List, [], ◌∷◌, ◌++◌, drop, Option, Some, None, refl, sym, ap, ◌∙◌, if◌then◌else◌}
use Rattle.oer_units.specs.declared.tagging.Tag.{Tag}
use Rattle.oer_units.specs.Reader.{Outcome, Place, Reader, bind, choose, give, got, refuse, refused, then_read}
use Rattle.oer_units.specs.Reading.{counted_octets, open_type, tag}
use Rattle.oer_model.specs.AsnType.{Additions, Alternatives, AsnType, Fields, Need, addition, alternative, choice, default, extensible_sequence, field, later, leaf, may, must, no_additions, no_alternatives, no_fields, sequence, sequence_of}
use Rattle.oer_model.specs.Bits.{first_bit, later_bits}
use Rattle.oer_model.specs.Checking.{check_value}
use Rattle.oer_model.specs.Constraints.{addition_count, has_tag, optional, same_tag}
use Rattle.oer_model.specs.Parts.{Answer, Part, Step, addition_parts, alone_by_tag, alternative_parts, extension_parts, field_parts, first_by_bit, first_by_need, found, item_parts, join_parts, lookup, octets_of, part, parts_in, read_alone, read_first, read_parts, same_step, to_addition, to_chosen, to_component, to_item, unknown_parts}
use Rattle.oer_model.specs.Reading.{bitmap, preamble, quantity}
use Rattle.oer_model.specs.declared.size.Size.{Size}

-- ---- what is not among the parts that are read

-- the step leads to none of the parts that were read
abbrev pub Misses : Step → Outcome (List Part) → Type 0
Misses step o = (a : Answer) → a ≡ lookup a step (parts_in o)

miss_first : (step : Step) (V : Option AsnType) (r : Reader (List ℕ)) (rest : Reader (List Part)) (p : Place) (st : Step) → same_step step st ≡ false → ((q : Place) → Misses st (rest q)) → Misses st (read_first step V r rest p)
unfolding read_first bind give
miss_first step V r rest p st other more a = outer (r p) where
  inner : (c : List ℕ) (o : Outcome (List Part)) → a ≡ lookup a st (parts_in o) → a ≡ lookup a st (parts_in (then_read (λ parts. give (part step V c ∷ parts)) o))
  inner c (got parts q) e = rw other e
  inner c (refused why l) e = refl

  outer : (o : Outcome (List ℕ)) → a ≡ lookup a st (parts_in (then_read (λ c. bind rest (λ parts. give (part step V c ∷ parts))) o))
  outer (got c q) = inner c (rest q) (more q a)
  outer (refused why l) = refl

miss_bit : (b : Bool) (step : Step) (V : Option AsnType) (r : Reader (List ℕ)) (rest : Reader (List Part)) (p : Place) (st : Step) → same_step step st ≡ false → ((q : Place) → Misses st (rest q)) → Misses st (first_by_bit b step V r rest p)
miss_bit true step V r rest p st other more = miss_first step V r rest p st other more
miss_bit false step V r rest p st other more = more p

miss_need : (need : Need) (step : Step) (V : Option AsnType) (r : Reader (List ℕ)) (rest : List Bool → Reader (List Part)) (s : List Bool) (p : Place) (st : Step) → same_step step st ≡ false → ((s : List Bool) (q : Place) → Misses st (rest s q)) → Misses st (first_by_need need step V r rest s p)
miss_need must step V r rest s p st other more = miss_first step V r (rest s) p st other (more s)
miss_need may step V r rest s p st other more = miss_bit (first_bit s) step V r (rest (later_bits s)) p st other (more (later_bits s))
miss_need (default d) step V r rest s p st other more = miss_bit (first_bit s) step V r (rest (later_bits s)) p st other (more (later_bits s))

pub fields_none : (fs : Fields) (i : ℕ) (s : List Bool) (p : Place) (st : Step) → ((k : ℕ) → same_step (to_component k) st ≡ false) → Misses st (field_parts fs i s p)
unfolding give
fields_none no_fields i s p st none a = refl
fields_none (field name need T fs) i s p st none a = miss_need need (to_component i) (Some T) (octets_of (check_value T)) (field_parts fs (suc i)) s p st (none i) (λ s q. fields_none fs (suc i) s q st none) a

additions_none : (more : Additions) (i : ℕ) (s : List Bool) (p : Place) (st : Step) → ((k : ℕ) → same_step (to_addition k) st ≡ false) → Misses st (addition_parts more i s p)
unfolding give
additions_none no_additions i s p st none a = refl
additions_none (addition name T more) i s p st none a = miss_bit (first_bit s) (to_addition i) (Some T) (open_type (octets_of (check_value T))) (addition_parts more (suc i) (later_bits s)) p st (none i) (λ q. additions_none more (suc i) (later_bits s) q st none) a

unknown_none : (i : ℕ) (s : List Bool) (p : Place) (st : Step) → ((k : ℕ) → same_step (to_addition k) st ≡ false) → Misses st (unknown_parts i s p)
unfolding give
unknown_none i [] p st none a = refl
unknown_none i (true ∷ s) p st none a = miss_first (to_addition i) None counted_octets (unknown_parts (suc i) s) p st (none i) (λ q. unknown_none (suc i) s q st none) a
unknown_none i (false ∷ s) p st none a = unknown_none (suc i) s p st none a

pub lookup_both : (o : Answer) (step : Step) (ps qs : List Part) → lookup o step (ps ++ qs) ≡ lookup (lookup o step qs) step ps
lookup_both o step [] qs = refl
lookup_both o step (part s V c ∷ ps) qs = ap (λ (a : Answer). if same_step s step then found V c else a) (lookup_both o step ps qs)

miss_join : (r q : Reader (List Part)) (p : Place) (st : Step) → ((p : Place) → Misses st (r p)) → ((p : Place) → Misses st (q p)) → Misses st (join_parts r q p)
unfolding join_parts bind give
miss_join r q p st one other a = outer (r p) (one p) where
  inner : (ps : List Part) (o : Outcome (List Part)) → ((a : Answer) → a ≡ lookup a st ps) → Misses st o → a ≡ lookup a st (parts_in (then_read (λ parts. give (ps ++ parts)) o))
  inner ps (got qs t) first second = second a ∙ first (lookup a st qs) ∙ sym (lookup_both a st ps qs)
  inner ps (refused why l) first second = refl

  outer : (o : Outcome (List Part)) → Misses st o → a ≡ lookup a st (parts_in (then_read (λ ps. bind q (λ parts. give (ps ++ parts))) o))
  outer (got ps t) first = inner ps (q t) first (other t)
  outer (refused why l) first = refl

miss_bind : {A : Type 0} (r : Reader A) (k : A → Reader (List Part)) (p : Place) (st : Step) → ((x : A) (q : Place) → Misses st (k x q)) → Misses st (bind r k p)
unfolding bind
miss_bind {A} r k p st more a = outer (r p) where
  outer : (o : Outcome A) → a ≡ lookup a st (parts_in (then_read k o))
  outer (got x q) = more x q a
  outer (refused why l) = refl

pub extension_none : (x : Bool) (more : Additions) (p : Place) (st : Step) → ((k : ℕ) → same_step (to_addition k) st ≡ false) → Misses st (extension_parts x more p)
unfolding give
extension_none false more p st none a = refl
extension_none true more p st none a = miss_bind bitmap (λ s. join_parts (addition_parts more 0 s) (unknown_parts (addition_count more) (drop (addition_count more) s))) p st
    (λ s q. miss_join (addition_parts more 0 s) (unknown_parts (addition_count more) (drop (addition_count more) s)) q st (λ r. additions_none more 0 s r st none) (λ r. unknown_none (addition_count more) (drop (addition_count more) s) r st none)) a

items_none : (T : AsnType) (i n : ℕ) (p : Place) (st : Step) → ((k : ℕ) → same_step (to_item k) st ≡ false) → Misses st (item_parts T i n p)
unfolding give
items_none T i zero p st none a = refl
items_none T i (suc n) p st none a = miss_first (to_item i) (Some T) (octets_of (check_value T)) (item_parts T (suc i) n) p st (none i) (λ q. items_none T (suc i) n q st none) a

alone_none : (V : Option AsnType) (r : Reader (List ℕ)) (p : Place) (st : Step) → same_step to_chosen st ≡ false → Misses st (read_alone V r p)
unfolding read_alone bind give
alone_none V r p st other a = outer (r p) where
  outer : (o : Outcome (List ℕ)) → a ≡ lookup a st (parts_in (then_read (λ c. give (part to_chosen V c ∷ [])) o))
  outer (got c q) = rw other refl
  outer (refused why l) = refl

tag_none : (b : Bool) (r s : Reader (List Part)) (p : Place) (st : Step) → Misses st (r p) → Misses st (s p) → Misses st (alone_by_tag b r s p)
tag_none true r s p st one two = one
tag_none false r s p st one two = two

alternatives_none : (more : Alternatives) (t : Tag) (p : Place) (st : Step) → same_step to_chosen st ≡ false → Misses st (alternative_parts more t p)
unfolding refuse
alternatives_none no_alternatives t p st other a = refl
alternatives_none (alternative name u T more) t p st other a = tag_none (same_tag u t) (read_alone (Some T) (octets_of (check_value T))) (alternative_parts more t) p st (alone_none (Some T) (octets_of (check_value T)) p st other) (alternatives_none more t p st other) a
alternatives_none (later name u T more) t p st other a = tag_none (same_tag u t) (read_alone (Some T) (open_type (octets_of (check_value T)))) (alternative_parts more t) p st (alone_none (Some T) (open_type (octets_of (check_value T))) p st other) (alternatives_none more t p st other) a

choose_none : (b : Bool) (r s : Reader (List Part)) (p : Place) (st : Step) → Misses st (r p) → Misses st (s p) → Misses st (choose b r s p)
choose_none true r s p st one two = one
choose_none false r s p st one two = two

-- the steps that a type has
abbrev pub has_step : AsnType → Step → Bool
has_step (sequence fs) (to_component i) = true
has_step (extensible_sequence fs more) (to_component i) = true
has_step (extensible_sequence fs more) (to_addition i) = true
has_step (sequence_of s T) (to_item i) = true
has_step (choice e more) to_chosen = true
has_step _ _ = false

sequence_none : (fs : Fields) (p : Place) (st : Step) → ((k : ℕ) → same_step (to_component k) st ≡ false) → Misses st (read_parts (sequence fs) p)
sequence_none fs p st none = miss_bind (preamble (optional fs)) (field_parts fs 0) p st (λ s q. fields_none fs 0 s q st none)

extensible_none : (fs : Fields) (more : Additions) (p : Place) (st : Step) → ((k : ℕ) → same_step (to_component k) st ≡ false) → ((k : ℕ) → same_step (to_addition k) st ≡ false) → Misses st (read_parts (extensible_sequence fs more) p)
extensible_none fs more p st one two = miss_bind (preamble (suc (optional fs))) (λ s. join_parts (field_parts fs 0 (later_bits s)) (extension_parts (first_bit s) more)) p st
    (λ s q. miss_join (field_parts fs 0 (later_bits s)) (extension_parts (first_bit s) more) q st (λ r. fields_none fs 0 (later_bits s) r st one) (λ r. extension_none (first_bit s) more r st two))

list_none : (s : Size) (T : AsnType) (p : Place) (st : Step) → ((k : ℕ) → same_step (to_item k) st ≡ false) → Misses st (read_parts (sequence_of s T) p)
list_none s T p st none = miss_bind quantity (item_parts T 0) p st (λ n q. items_none T 0 n q st none)

choice_none_of : (e : Bool) (more : Alternatives) (p : Place) (st : Step) → same_step to_chosen st ≡ false → Misses st (read_parts (choice e more) p)
choice_none_of e more p st other = miss_bind tag (λ t. choose (has_tag t more) (alternative_parts more t) (read_alone None counted_octets)) p st
    (λ t q. choose_none (has_tag t more) (alternative_parts more t) (read_alone None counted_octets) q st (alternatives_none more t q st other) (alone_none None counted_octets q st other))

pub no_such : (T : AsnType) (st : Step) (p : Place) → has_step T st ≡ false → Misses st (read_parts T p)
unfolding give
no_such (sequence fs) (to_component i) p e a = absurd (cc)
no_such (sequence fs) (to_addition i) p e a = sequence_none fs p (to_addition i) (λ k. refl) a
no_such (sequence fs) (to_item i) p e a = sequence_none fs p (to_item i) (λ k. refl) a
no_such (sequence fs) to_chosen p e a = sequence_none fs p to_chosen (λ k. refl) a
no_such (extensible_sequence fs more) (to_component i) p e a = absurd (cc)
no_such (extensible_sequence fs more) (to_addition i) p e a = absurd (cc)
no_such (extensible_sequence fs more) (to_item i) p e a = extensible_none fs more p (to_item i) (λ k. refl) (λ k. refl) a
no_such (extensible_sequence fs more) to_chosen p e a = extensible_none fs more p to_chosen (λ k. refl) (λ k. refl) a
no_such (sequence_of s T) (to_component i) p e a = list_none s T p (to_component i) (λ k. refl) a
no_such (sequence_of s T) (to_addition i) p e a = list_none s T p (to_addition i) (λ k. refl) a
no_such (sequence_of s T) (to_item i) p e a = absurd (cc)
no_such (sequence_of s T) to_chosen p e a = list_none s T p to_chosen (λ k. refl) a
no_such (choice x more) (to_component i) p e a = choice_none_of x more p (to_component i) refl a
no_such (choice x more) (to_addition i) p e a = choice_none_of x more p (to_addition i) refl a
no_such (choice x more) (to_item i) p e a = choice_none_of x more p (to_item i) refl a
no_such (choice x more) to_chosen p e a = absurd (cc)
no_such (leaf kind) st p e a = refl
