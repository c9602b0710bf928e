-- The lines of a walk are those of the encoding that it went through.
use Rattle.std.proofs.Common.{◌≡◌, ℕ, zero, suc, ◌+◌, ◌-◌, ◌≤◌, Bool, true, false, List, [], ◌∷◌, ◌++◌, length, drop, take, arith, refl, sym, ap, ◌∙◌, subst, append_assoc, append-nil, length-append, take_at, leb-true}
use Rattle.oer_units.specs.Reader.{Outcome, Place, Reader, at, got, group, refused}
use Rattle.oer_units.specs.Reading.{tag}
use Rattle.oer_units.specs.Spelling.{IsCounted, IsLength, IsTag, StandsFor}
use Rattle.oer_units.specs.Numbers.{unsigned}
use Rattle.oer_units.specs.declared.tagging.Tag.{Tag}
use Rattle.oer_units.proofs.TagReaders.{tag_lawful}
use Rattle.oer_units.proofs.Units.{group_lawful}
use Rattle.oer_model.specs.AsnType.{Additions, Alternatives, AsnType, Fields, addition, alternative, choice, extensible_sequence, field, later, leaf, no_additions, no_alternatives, no_fields, sequence, sequence_of}
use Rattle.oer_model.specs.AsnValue.{AsnValue}
use Rattle.oer_model.specs.Bits.{IsPreamble, all_false, first_bit, later_bits}
use Rattle.oer_model.specs.Checking.{check_value}
use Rattle.oer_model.specs.Constraints.{AdditionsKeepLimits, AlternativesKeepLimits, FieldsKeepLimits, KeepsLimits, addition_count, has_tag, optional, same_tag, size_fits}
use Rattle.oer_model.specs.Encoding.{IsSpelling, SpellsBitmap}
use Rattle.oer_model.specs.Fits.{AdditionDefaultsFit, AlternativeDefaultsFit, DefaultsFit, FieldDefaultsFit}
use Rattle.oer_model.specs.Parts.{Step, to_addition, to_chosen, to_component, to_item}
use Rattle.oer_model.specs.Reading.{preamble}
use Rattle.oer_model.specs.declared.size.Size.{Size}
use Rattle.oer_model.proofs.reading.Parts.{preamble_lawful}
use Rattle.oer_rows.specs.Lines.{AreAdditions, AreAlternative, AreBoth, AreEither, AreExtension, AreFields, AreIf, AreLines, AreNever, AreNone, AreOpen, AreRest, AreTimes, IsOne, StartWith}
use Rattle.oer_rows.specs.Rows.{Line, Walk, Walker, add_line, go_on, halted, inside, leave, leave_at, line, line_at, row, stay, stuck, walk_additions, walk_alternative, walk_both, walk_choose, walk_chosen, walk_extension, walk_fields, walk_if, walk_open, walk_rest, walk_times, walk_unknown, walk_value, went}
use Rattle.oer_model.specs.SharedSteps.{bits_left, is_there}
use Rattle.oer_checker.specs.Steps.{addition_map, between, sized_length, sized_quantity}
use Rattle.oer_rows.specs.declared.row.Role.{Role}
use Rattle.oer_rows.specs.declared.row.Role.TheVariants.{Bitmap, Contents, Length, Preamble, Quantity, Tag as TagRole, Unknown}
use Rattle.oer_checker.proofs.LengthSteps.{sized_room}
use Rattle.oer_parts.proofs.UnitFronts.{Sound, length_sound, map_sound, quantity_sound, value_sound}

-- from p to q lines were added, and they are those by S of the octets between
abbrev pub Gives : ℕ → (ℕ → List Line → List ℕ → Type 0) → List Line → Place → List Line → Place → Type 0
Gives total S old p new q = (es : List Line) × (b : List ℕ) × (new ≡ old ++ es) × (p.input ≡ b ++ q.input) × (p.left ≡ length b + q.left)
    × S (total - length p.input) es b

abbrev pub YieldsAt : ℕ → Walker → (ℕ → List Line → List ℕ → Type 0) → Place → Type 0
YieldsAt total c S p = (old new : List Line) (q : Place) → length p.input ≤ total → c old p ≡ went new q → Gives total S old p new q

abbrev pub Yields : ℕ → Walker → (ℕ → List Line → List ℕ → Type 0) → Type 0
Yields total c S = (p : Place) → YieldsAt total c S p

went_rows : (old new : List Line) (p q : Place) → went old p ≡ went new q → old ≡ new
went_rows old new p q e = cc

went_place : (old new : List Line) (p q : Place) → went old p ≡ went new q → p ≡ q
went_place old new p q e = cc

yields_as : (total : ℕ) (c : Walker) (S R : ℕ → List Line → List ℕ → Type 0) (p : Place) → ((n : ℕ) (ls : List Line) (b : List ℕ) → S n ls b → R n ls b) → YieldsAt total c S p → YieldsAt total c R p
yields_as total c S R p f g old new q le e = let h = g old new q le e in (h.0, h.1, h.2, h.3, h.4, f (total - length p.input) h.0 h.1 h.5)

yields_stay : (total : ℕ) → Yields total stay AreNone
unfolding stay
yields_stay total p old new q le e =
    let same = went_rows old new p q e in
    let here = went_place old new p q e in
    ([], [], sym same ∙ sym (append-nil old), ap (λ (t : Place). t.input) here, (let l : p.left ≡ q.left = ap (λ (t : Place). t.left) here in omega (arith, l)), (refl, refl))

further : (total : ℕ) (p r : Place) (b : List ℕ) → length p.input ≤ total → p.input ≡ b ++ r.input → total - length r.input ≡ (total - length p.input) + length b
further total p r b le e = omega (arith, le, ap length e, length-append b r.input)

still : (total : ℕ) (p r : Place) (b : List ℕ) → length p.input ≤ total → p.input ≡ b ++ r.input → length r.input ≤ total
still total p r b le e = omega (arith, le, ap length e, length-append b r.input)

yields_both : (total : ℕ) (c d : Walker) (S R : ℕ → List Line → List ℕ → Type 0) → Yields total c S → Yields total d R → Yields total (walk_both c d) (AreBoth S R)
unfolding walk_both
yields_both total c d S R f g p old new q le e0 = cases (c old p) refl e0 where
  cases : (w : Walk) → c old p ≡ w → go_on d w ≡ went new q → Gives total (AreBoth S R) old p new q
  cases (went mid r) is e =
      let h = f p old mid r le is in
      let k = g r mid new q (still total p r h.1 le h.3) e in (
        h.0 ++ k.0,
        h.1 ++ k.1,
        k.2 ∙ ap (λ (l : List Line). l ++ k.0) h.2 ∙ append_assoc old h.0 k.0,
        h.3 ∙ ap (λ (l : List ℕ). h.1 ++ l) k.3 ∙ sym (append_assoc h.1 k.1 q.input),
        (let x = h.4 in let y = k.4 in omega (arith, x, y, length-append h.1 k.1)),
        (h.1, k.1, h.0, k.0, refl, refl, h.5, subst (λ (n : ℕ). R n k.0 k.1) (further total p r h.1 le h.3) k.5),
      )
  cases (halted mid) is e = absurd (cc)

between_is : (p q : Place) (b : List ℕ) → p.input ≡ b ++ q.input → between p q ≡ b
between_is p q b e = ap (take (length p.input - length q.input)) e ∙ take_at b q.input (length p.input - length q.input) (omega (arith, ap length e, length-append b q.input))

yields_row : {A X : Type 0} (f : A → X) (total : ℕ) (path : List Step) (role : Role) (r : Reader A) (k : A → Walker) (Spells : X → List ℕ → Type 0) (R : X → ℕ → List Line → List ℕ → Type 0) → Sound r (λ y b. Spells (f y) b)
    → ((y : A) (p q : Place) → r p ≡ got y q → YieldsAt total (k y) (R (f y)) q) → Yields total (row total path role r k) (StartWith path role Spells R)
unfolding row
yields_row {A} f total path role r k Spells R sound g p old new q le e0 = cases (r p) refl e0 where
  cases : (o : Outcome A) → r p ≡ o → add_line total path role k old p o ≡ went new q → Gives total (StartWith path role Spells R) old p new q
  cases (got y s) is e =
      let a = sound p y s is in
      let l = line_at total path role p s in
      let h = g y p s is (old ++ (l ∷ [])) new q (still total p s a.0 le a.2) e in (
        l ∷ h.0,
        a.0 ++ h.1,
        h.2 ∙ append_assoc old (l ∷ []) h.0,
        a.2 ∙ ap (λ (w : List ℕ). a.0 ++ w) h.3 ∙ sym (append_assoc a.0 h.1 q.input),
        (let x = a.3 in let z = h.4 in omega (arith, x, z, length-append a.0 h.1)),
        (f y, a.0, h.1, h.0, refl, ap (λ (w : List ℕ). line (total - length p.input) path role w ∷ h.0) (between_is p s a.0 a.2), a.1, subst (λ (n : ℕ). R (f y) n h.0 h.1) (further total p s a.0 le a.2) h.5),
      )
  cases (refused why rest) is e = absurd (cc)

yields_last : {A : Type 0} (total : ℕ) (path : List Step) (role : Role) (r : Reader A) (S : List ℕ → Type 0) → Sound r (λ x b. S b) → Yields total (row total path role r (λ x. stay)) (λ n ls b. IsOne path role n ls b × S b)
unfolding row stay
yields_last {A} total path role r S sound p old new q le e0 = cases (r p) refl e0 where
  cases : (o : Outcome A) → r p ≡ o → add_line total path role (λ x. stay) old p o ≡ went new q → Gives total (λ n ls b. IsOne path role n ls b × S b) old p new q
  cases (got x s) is e =
      let a = sound p x s is in
      let l = line_at total path role p s in
      let same = went_rows (old ++ (l ∷ [])) new s q e in
      let here = went_place (old ++ (l ∷ [])) new s q e in (
        l ∷ [],
        a.0,
        sym same,
        a.2 ∙ ap (λ (t : Place). a.0 ++ t.input) here,
        a.3 ∙ ap (λ (t : Place). length a.0 + t.left) here,
        (ap (λ (w : List ℕ). line (total - length p.input) path role w ∷ []) (between_is p s a.0 a.2), a.1),
      )
  cases (refused why rest) is e = absurd (cc)

yields_if : (total : ℕ) (b : Bool) (c : Walker) (S : ℕ → List Line → List ℕ → Type 0) → Yields total c S → Yields total (walk_if b c) (AreIf b S)
yields_if total true c S h = h
yields_if total false c S h = yields_stay total

leave_end : (new mid : List Line) (q : Place) (rest : List ℕ) (outer left : ℕ) → leave_at mid rest outer left ≡ went new q → (mid ≡ new) × (at rest outer ≡ q) × (left ≡ 0)
leave_end new mid q rest outer zero e = (went_rows mid new (at rest outer) q e, went_place mid new (at rest outer) q e, refl)
leave_end new mid q rest outer (suc k) e = absurd (cc)

yields_inside : (total n : ℕ) (c : Walker) (S : ℕ → List Line → List ℕ → Type 0) → Yields total c S → (p : Place) → n ≤ p.left → YieldsAt total (inside n c) (λ m ls b. (length b ≡ n) × S m ls b) p
unfolding inside
yields_inside total n c S f p room old new q le e0 = cases (c old (at p.input n)) refl e0 where
  cases : (w : Walk) → c old (at p.input n) ≡ w → leave (p.left - n) w ≡ went new q → Gives total (λ m ls b. (length b ≡ n) × S m ls b) old p new q
  cases (went mid s) is e =
      let h = f (at p.input n) old mid s le is in
      let k = leave_end new mid q s.input (p.left - n) s.left e in
      let many : length h.1 ≡ n = (let x = h.4 in let y = k.2 in omega (arith, x, y)) in (
        h.0,
        h.1,
        sym k.0 ∙ h.2,
        h.3 ∙ ap (λ (t : Place). h.1 ++ t.input) k.1,
        (let x : p.left - n ≡ q.left = ap (λ (t : Place). t.left) k.1 in omega (arith, x, many, room)),
        (many, h.5),
      )
  cases (halted mid) is e = absurd (cc)

room_of : (p q : Place) (y : ℕ × Bool) → sized_length p ≡ got y q → y.0 ≤ q.left
room_of p q y e = leb-true y.0 q.left (sized_room p q y.0 y.1 (sym e))

lengths : Sound sized_length (λ y b. IsLength y.0 b)
lengths p y q e = let a = length_sound p y q e in (a.0, a.1.0, a.2, a.3)

yields_open : (total : ℕ) (path : List Step) (c : Walker) (S : ℕ → List Line → List ℕ → Type 0) → Yields total c S → Yields total (walk_open total path c) (AreOpen path S)
yields_open total path c S h = yields_row (λ (y : ℕ × Bool). y.0) total path Length sized_length (λ y. inside y.0 c) IsLength (λ k n ls b. (length b ≡ k) × S n ls b) lengths (λ y p q e. yields_inside total y.0 c S h q (room_of p q y e))

yields_unknown : (total : ℕ) (path : List Step) → Yields total (walk_unknown total path) (AreOpen path (IsOne path Unknown))
yields_unknown total path = yields_row (λ (y : ℕ × Bool). y.0) total path Length sized_length (λ y. row total path Unknown (group y.0) (λ w. stay)) IsLength (λ k n ls b. (length b ≡ k) × IsOne path Unknown n ls b) lengths
    (λ y p q e. yields_as total (row total path Unknown (group y.0) (λ w. stay)) (λ n ls b. IsOne path Unknown n ls b × (length b ≡ y.0)) (λ n ls b. (length b ≡ y.0) × IsOne path Unknown n ls b) q (λ n ls b s. (s.1, s.0))
    (yields_last total path Unknown (group y.0) (λ b. length b ≡ y.0) (λ s w t f. (let a = (group_lawful y.0).sound s w t f in (a.0, a.1.1, a.2, a.3))) q))

yields_times : (total : ℕ) (c : ℕ → Walker) (S : ℕ → ℕ → List Line → List ℕ → Type 0) → ((i : ℕ) → Yields total (c i) (S i)) → (i n : ℕ) → Yields total (walk_times c i n) (AreTimes S i n)
yields_times total c S h i zero = yields_stay total
yields_times total c S h i (suc n) = yields_both total (c i) (walk_times c (suc i) n) (S i) (AreTimes S (suc i) n) (h i) (yields_times total c S h (suc i) n)

yields_rest : (total : ℕ) (path : List Step) (i : ℕ) (s : List Bool) → Yields total (walk_rest total path i s) (AreRest path i s)
yields_rest total path i [] = yields_stay total
yields_rest total path i (x ∷ s) = yields_both total _ (walk_rest total path (suc i) s) (AreIf x (AreOpen (path ++ (to_addition i ∷ [])) (IsOne (path ++ (to_addition i ∷ [])) Unknown))) (AreRest path (suc i) s)
    (yields_if total x (walk_unknown total (path ++ (to_addition i ∷ []))) (AreOpen (path ++ (to_addition i ∷ [])) (IsOne (path ++ (to_addition i ∷ [])) Unknown)) (yields_unknown total (path ++ (to_addition i ∷ [])))) (yields_rest total path (suc i) s)

yields_choose : (total : ℕ) (b : Bool) (c d : Walker) (S R : ℕ → List Line → List ℕ → Type 0) → Yields total c S → Yields total d R → Yields total (walk_choose b c d) (AreEither b S R)
yields_choose total true c d S R h k = h
yields_choose total false c d S R h k = k

yields_stuck : (total : ℕ) (S : ℕ → List Line → List ℕ → Type 0) → Yields total stuck S
unfolding stuck
yields_stuck total S p old new q le e = absurd (cc)

yields_allowed : (total : ℕ) (x : Bool) (c : Walker) (S : ℕ → List Line → List ℕ → Type 0) → Yields total c S → Yields total (walk_choose x c stuck) (AreEither x S AreNever)
yields_allowed total true c S h = h
yields_allowed total false c S h = yields_stuck total AreNever

yields_extension : (total : ℕ) (path : List Step) (x : Bool) (more : Additions) (c : List Bool → Walker) (S : List Bool → ℕ → List Line → List ℕ → Type 0) → ((s : List Bool) → Yields total (c s) (S s)) → Yields total (walk_extension x more total path c) (AreExtension x more path S)
yields_extension total path false more c S h = yields_stay total
yields_extension total path true more c S h = yields_row (λ (y : List Bool × Bool). y.0) total path Bitmap (addition_map n) (λ y. walk_both (c y.0) (walk_rest total path n (drop n y.0))) (λ s m. SpellsBitmap s m × (all_false (drop 65536 s) ≡ true)) (λ s. AreBoth (S s) (AreRest path n (drop n s)))
    (map_sound n)
    (λ y p q e. yields_both total (c y.0) (walk_rest total path n (drop n y.0)) (S y.0) (AreRest path n (drop n y.0)) (h y.0) (yields_rest total path n (drop n y.0)) q)
  where
    n : ℕ
    n = addition_count more

preamble_sound : (k : ℕ) → Sound (preamble k) (λ s p. (length s ≡ k) × IsPreamble s p)
preamble_sound k = (preamble_lawful k).sound

quantity_spells : (size : Size) → Sound (sized_quantity size) (λ y q. IsCounted (StandsFor unsigned) y.0 q × (size_fits size y.0 ≡ true))
quantity_spells size p y q e =
    let a = quantity_sound size p y q e in
    let c = a.1.0 in
    (a.0, ((c.0, c.1, c.2, c.3, (c.4.0, c.4.1)), a.1.1), a.2, a.3)

mutual
  pub value_yields : (T : AsnType) → KeepsLimits T → DefaultsFit T → (total : ℕ) (path : List Step) → Yields total (walk_value T total path) (AreLines T path)
  value_yields (sequence fs) wf d total path = yields_row (λ (s : List Bool). s) total path Preamble (preamble (optional fs)) (walk_fields fs total path 0) (λ s p. (length s ≡ optional fs) × IsPreamble s p) (AreFields fs path 0) (preamble_sound (optional fs)) (λ s p q e. fields_yield fs wf d total path 0 s q)
  value_yields (extensible_sequence fs more) wf d total path = yields_row (λ (s : List Bool). s) total path Preamble (preamble (suc (optional fs))) (λ s. walk_both (walk_fields fs total path 0 (later_bits s)) (walk_extension (first_bit s) more total path (walk_additions more total path 0))) (λ s p. (length s ≡ suc (optional fs)) × IsPreamble s p)
      (λ s. AreBoth (AreFields fs path 0 (later_bits s)) (AreExtension (first_bit s) more path (AreAdditions more path 0))) (preamble_sound (suc (optional fs)))
      (λ s p q e. yields_both total (walk_fields fs total path 0 (later_bits s)) _ (AreFields fs path 0 (later_bits s)) (AreExtension (first_bit s) more path (AreAdditions more path 0)) (fields_yield fs wf.0 d.0 total path 0 (later_bits s)) (yields_extension total path (first_bit s) more (walk_additions more total path 0) (AreAdditions more path 0) (λ u. additions_yield more wf.1 d.1 total path 0 u)) q)
  value_yields (sequence_of size T) wf d total path = yields_row (λ (y : ℕ × Bool). y.0) total path Quantity (sized_quantity size) (λ y. walk_times (λ i. walk_value T total (path ++ (to_item i ∷ []))) 0 y.0) (λ k q. IsCounted (StandsFor unsigned) k q × (size_fits size k ≡ true))
      (AreTimes (λ i. AreLines T (path ++ (to_item i ∷ []))) 0) (quantity_spells size)
      (λ y p q e. yields_times total (λ i. walk_value T total (path ++ (to_item i ∷ []))) (λ i. AreLines T (path ++ (to_item i ∷ []))) (λ i. value_yields T wf.1 d total (path ++ (to_item i ∷ []))) 0 y.0 q)
  value_yields (choice extensible more) wf d total path = yields_row (λ (t : Tag). t) total path TagRole tag (λ t. walk_chosen extensible more (walk_alternative more total (path ++ (to_chosen ∷ [])) t) (walk_unknown total (path ++ (to_chosen ∷ []))) t) IsTag
      (λ t. AreEither (has_tag t more) (AreAlternative more (path ++ (to_chosen ∷ [])) t) (AreEither extensible (AreOpen (path ++ (to_chosen ∷ [])) (IsOne (path ++ (to_chosen ∷ [])) Unknown)) AreNever)) (tag_lawful.sound)
      (λ t p q e. yields_choose total (has_tag t more) _ _ (AreAlternative more (path ++ (to_chosen ∷ [])) t) (AreEither extensible (AreOpen (path ++ (to_chosen ∷ [])) (IsOne (path ++ (to_chosen ∷ [])) Unknown)) AreNever) (alternative_yields more wf d total (path ++ (to_chosen ∷ [])) t) (yields_allowed total extensible _ (AreOpen (path ++ (to_chosen ∷ [])) (IsOne (path ++ (to_chosen ∷ [])) Unknown)) (yields_unknown total (path ++ (to_chosen ∷ [])))) q)
  value_yields (leaf kind) wf d total path = yields_last total path Contents (check_value (leaf kind)) (λ b. (v : AsnValue) × IsSpelling (leaf kind) v b) (value_sound (leaf kind) wf d)

  fields_yield : (fs : Fields) → FieldsKeepLimits fs → FieldDefaultsFit fs → (total : ℕ) (path : List Step) (i : ℕ) (s : List Bool) → Yields total (walk_fields fs total path i s) (AreFields fs path i s)
  fields_yield no_fields wf d total path i s = yields_stay total
  fields_yield (field name need T fs) wf d total path i s = yields_both total _ (walk_fields fs total path (suc i) (bits_left need s)) (AreIf (is_there need s) (AreLines T (path ++ (to_component i ∷ [])))) (AreFields fs path (suc i) (bits_left need s))
      (yields_if total (is_there need s) (walk_value T total (path ++ (to_component i ∷ []))) (AreLines T (path ++ (to_component i ∷ []))) (value_yields T wf.0 d.0 total (path ++ (to_component i ∷ [])))) (fields_yield fs wf.1 d.2 total path (suc i) (bits_left need s))

  additions_yield : (more : Additions) → AdditionsKeepLimits more → AdditionDefaultsFit more → (total : ℕ) (path : List Step) (i : ℕ) (s : List Bool) → Yields total (walk_additions more total path i s) (AreAdditions more path i s)
  additions_yield no_additions wf d total path i s = yields_stay total
  additions_yield (addition name T more) wf d total path i s = yields_both total _ (walk_additions more total path (suc i) (later_bits s)) (AreIf (first_bit s) (AreOpen (path ++ (to_addition i ∷ [])) (AreLines T (path ++ (to_addition i ∷ []))))) (AreAdditions more path (suc i) (later_bits s))
      (yields_if total (first_bit s) (walk_open total (path ++ (to_addition i ∷ [])) (walk_value T total (path ++ (to_addition i ∷ [])))) (AreOpen (path ++ (to_addition i ∷ [])) (AreLines T (path ++ (to_addition i ∷ [])))) (yields_open total (path ++ (to_addition i ∷ [])) (walk_value T total (path ++ (to_addition i ∷ []))) (AreLines T (path ++ (to_addition i ∷ []))) (value_yields T wf.0 d.0 total (path ++ (to_addition i ∷ [])))))
      (additions_yield more wf.1 d.1 total path (suc i) (later_bits s))

  alternative_yields : (more : Alternatives) → AlternativesKeepLimits more → AlternativeDefaultsFit more → (total : ℕ) (path : List Step) (t : Tag) → Yields total (walk_alternative more total path t) (AreAlternative more path t)
  alternative_yields no_alternatives wf d total path t = yields_stuck total (AreAlternative no_alternatives path t)
  alternative_yields (alternative name u T more) wf d total path t = yields_choose total (same_tag u t) (walk_value T total path) (walk_alternative more total path t) (AreLines T path) (AreAlternative more path t) (value_yields T wf.0 d.0 total path) (alternative_yields more wf.1 d.1 total path t)
  alternative_yields (later name u T more) wf d total path t = yields_choose total (same_tag u t) (walk_open total path (walk_value T total path)) (walk_alternative more total path t) (AreOpen path (AreLines T path)) (AreAlternative more path t) (yields_open total path (walk_value T total path) (AreLines T path) (value_yields T wf.0 d.0 total path)) (alternative_yields more wf.1 d.1 total path t)
