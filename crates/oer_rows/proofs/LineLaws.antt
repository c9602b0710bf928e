-- A walk goes as far as the check of the same octets, and its lines cover them.
use Rattle.std.proofs.Common.{◌≡◌, ℕ, zero, suc, ◌-◌, Bool, true, false, ◌&&◌, List, [], ◌∷◌, ◌++◌, length, drop, take, arith, refl, sym, ap, ◌∙◌, subst, append_assoc, append-nil, length-append, take_at, not}
use Rattle.oer_units.specs.Reader.{Outcome, Place, Reader, at, bind, bounded, choose, give, got, group, guard, refuse, refused, then_read, within}
use Rattle.oer_units.specs.Reader as reader
use Rattle.oer_units.specs.Reading.{tag}
use Rattle.oer_units.specs.declared.fault.Why.{Why}
use Rattle.oer_units.specs.declared.fault.Why.TheVariants.{UnknownAlternative}
use Rattle.oer_units.specs.declared.tagging.Tag.{Tag}
use Rattle.oer_units.proofs.TagReaders.{tag_lawful}
use Rattle.oer_units.proofs.Units.{group_lawful}
use Rattle.oer_model.specs.AsnType.{Additions, Alternatives, AsnType, Fields, Need, addition, alternative, choice, default, extensible_sequence, field, later, leaf, may, must, no_additions, no_alternatives, no_fields, sequence, sequence_of}
use Rattle.oer_model.specs.Bits.{first_bit, later_bits}
use Rattle.oer_model.specs.Canonical.{canonical_octets, same_list}
use Rattle.oer_model.specs.Checking.{and_also, both, check_additions, check_alternative, check_by_tag, check_chosen, check_extension, check_fields, check_group, check_octets, check_open, check_times, check_unknown, check_value, judge, judged, unlike}
use Rattle.oer_model.specs.Constraints.{AdditionsKeepLimits, AlternativesKeepLimits, FieldsKeepLimits, KeepsLimits, addition_count, has_tag, optional, same_tag}
use Rattle.oer_model.specs.Fits.{AdditionDefaultsFit, AlternativeDefaultsFit, DefaultsFit, FieldDefaultsFit}
use Rattle.oer_model.specs.Parts.{Step, to_addition, to_chosen, to_component, to_item}
use Rattle.oer_model.specs.Reading.{preamble}
use Rattle.oer_model.proofs.reading.Parts.{preamble_lawful}
use Rattle.oer_rows.specs.Listing.{Cover}
use Rattle.oer_rows.specs.Rows.{Line, Walk, Walker, add_line, go_on, halted, inside, leave, leave_at, line, line_at, row, stay, stuck, walk_additions, walk_alternative, walk_both, walk_choose, walk_chosen, walk_extension, walk_fields, walk_if, walk_open, walk_rest, walk_times, walk_unknown, walk_value, went}
use Rattle.oer_model.specs.SharedSteps.{bits_left, is_there}
use Rattle.oer_checker.specs.Steps.{addition_map, and_after, between, check_if, check_there, sized_length, sized_quantity}
use Rattle.oer_rows.specs.declared.row.Role.{Role}
use Rattle.oer_rows.specs.declared.row.Role.TheVariants.{Bitmap, Contents, Length, Preamble, Quantity, Tag as TagRole, Unknown}
use Rattle.oer_checker.proofs.FieldSteps.{by_bit, extensible_stop, extensible_then, field_is, items_stop, items_then, map_stop, map_then, sequence_stop, sequence_then}
use Rattle.oer_checker.proofs.Joins.{and_all, bind_got, bind_stop, give_got}
use Rattle.oer_parts.proofs.UnitFronts.{Sound, length_sound, map_sound, quantity_sound, value_sound}
use Rattle.oer_checker.proofs.LengthSteps.{length_then, octets_stop, open_stop, open_then}
use Rattle.oer_checker.proofs.TagSteps.{choice_stop, choice_then}

-- ---- what a reader takes is a front

abbrev pub Fronts : {A : Type 0} → Reader A → Type 0
Fronts {A} r = (p : Place) (x : A) (q : Place) → r p ≡ got x q → (b : List ℕ) × (p.input ≡ b ++ q.input)

sound_fronts : {A : Type 0} (r : Reader A) (S : A → List ℕ → Type 0) → Sound r S → Fronts r
sound_fronts r S f p x q e = let a = f p x q e in (a.0, a.2)

-- ---- lines

cover_append : (total : ℕ) (a b c : List ℕ) (xs ys : List Line) → Cover total a xs b → Cover total b ys c → Cover total a (xs ++ ys) c
cover_append total a b c [] ys e h = subst (λ (l : List ℕ). Cover total l ys c) (sym e) h
cover_append total a b c (line offset path role w ∷ xs) ys (more, e, o, rest) h = (more, e, o, cover_append total more b c xs ys rest h)

-- lines were added, which cover the octets from one list to another
abbrev pub Grew : ℕ → List Line → List ℕ → List Line → List ℕ → Type 0
Grew total old a new b = (es : List Line) × (new ≡ old ++ es) × Cover total a es b

grew_none : (total : ℕ) (old : List Line) (a : List ℕ) → Grew total old a old a
grew_none total old a = ([], sym (append-nil old), refl)

grew_more : (total : ℕ) (old mid new : List Line) (a b c : List ℕ) → Grew total old a mid b → Grew total mid b new c → Grew total old a new c
grew_more total old mid new a b c (xs, e, h) (ys, f, k) =
    (xs ++ ys, f ∙ ap (λ (l : List Line). l ++ ys) e ∙ append_assoc old xs ys, cover_append total a b c xs ys h k)

grew_line : (total : ℕ) (path : List Step) (role : Role) (old : List Line) (p q : Place) → ((b : List ℕ) × (p.input ≡ b ++ q.input)) → Grew total old p.input (old ++ (line_at total path role p q ∷ [])) q.input
grew_line total path role old p q (b, e) =
    (line_at total path role p q ∷ [], refl, (q.input, e ∙ ap (λ (l : List ℕ). l ++ q.input) (sym (front_is p q b e)), refl, refl))
  where
    front_is : (p q : Place) (b : List ℕ) → p.input ≡ b ++ q.input → between p q ≡ b
    front_is p q b e = ap (take (length p.input - length q.input)) e ∙ take_front b q.input (length p.input - length q.input) (omega (arith, ap length e, length-append b q.input))
      where
        take_front : (b rest : List ℕ) (n : ℕ) → n ≡ length b → take n (b ++ rest) ≡ b
        take_front b rest n is = take_at b rest n (sym is)

-- A walk goes as far as a check, and its lines cover the octets up to there.
abbrev pub Agree : ℕ → List Line → Place → Outcome Bool → Walk → Type 0
Agree total old p (got f q) (went new r) = (r ≡ q) × Grew total old p.input new q.input
Agree total old p (got f q) (halted new) = ⊥
Agree total old p (refused why rest) (went new r) = ⊥
Agree total old p (refused why rest) (halted new) = (more : List ℕ) × Grew total old p.input new more

abbrev pub Agrees : ℕ → Reader Bool → Walker → Type 0
Agrees total r c = (old : List Line) (p : Place) → Agree total old p (r p) (c old p)

agree_and : (total : ℕ) (old : List Line) (p : Place) (f : Bool) (o : Outcome Bool) (w : Walk) → Agree total old p o w → Agree total old p (and_after f o) w
agree_and total old p f (got g q) (went new r) h = h
agree_and total old p f (got g q) (halted new) h = absurd h
agree_and total old p f (refused why rest) (went new r) h = absurd h
agree_and total old p f (refused why rest) (halted new) h = h

agree_after : (total : ℕ) (old mid : List Line) (p q : Place) (o : Outcome Bool) (w : Walk) → Grew total old p.input mid q.input → Agree total mid q o w → Agree total old p o w
agree_after total old mid p q (got g s) (went new r) k h = (h.0, grew_more total old mid new p.input q.input s.input k h.1)
agree_after total old mid p q (got g s) (halted new) k h = absurd h
agree_after total old mid p q (refused why rest) (went new r) k h = absurd h
agree_after total old mid p q (refused why rest) (halted new) k h = (h.0, grew_more total old mid new p.input q.input h.0 k h.1)

agree_stay : (total : ℕ) → Agrees total (give true) stay
unfolding give stay
agree_stay total old p = (refl, grew_none total old p.input)

both_by : (total : ℕ) (old : List Line) (p : Place) (s : Reader Bool) (d : Walker) (o : Outcome Bool) (w : Walk) → Agree total old p o w → Agrees total s d → Agree total old p (then_read (λ f t. and_after f (s t)) o) (go_on d w)
both_by total old p s d (got f q) (went mid r) (same, grew) k =
    subst (λ (t : Place). Agree total old p (and_after f (s q)) (d mid t)) (sym same) (agree_after total old mid p q _ _ grew (agree_and total mid q f (s q) (d mid q) (k mid q)))
both_by total old p s d (got f q) (halted mid) h k = absurd h
both_by total old p s d (refused why rest) (went mid r) h k = absurd h
both_by total old p s d (refused why rest) (halted mid) h k = h

both_is : (s : Reader Bool) (o : Outcome Bool) → then_read (λ f t. and_after f (s t)) o ≡ then_read (λ f. bind s (λ g. give (f && g))) o
unfolding bind give
both_is s (got f q) = sym (also_value f s q) where
  also_value : (f : Bool) (s : Reader Bool) (q : Place) → then_read (λ g t. got (f && g) t) (s q) ≡ and_after f (s q)
  also_value f s q = cases (s q) where
    cases : (o : Outcome Bool) → then_read (λ g t. got (f && g) t) o ≡ and_after f o
    cases (got g t) = refl
    cases (refused why rest) = refl
both_is s (refused why rest) = refl

agree_both : (total : ℕ) (r s : Reader Bool) (c d : Walker) → Agrees total r c → Agrees total s d → Agrees total (both r s) (walk_both c d)
unfolding both bind and_also walk_both
agree_both total r s c d h k old p = subst (λ (o : Outcome Bool). Agree total old p o (go_on d (c old p))) (both_is s (r p)) (both_by total old p s d (r p) (c old p) (h old p) k)

agree_if : (total : ℕ) (b : Bool) (r : Reader Bool) (c : Walker) → Agrees total r c → Agrees total (check_if b r) (walk_if b c)
agree_if total true r c h = h
agree_if total false r c h = agree_stay total

agrees_as : (total : ℕ) (r s : Reader Bool) (c : Walker) → ((p : Place) → r p ≡ s p) → Agrees total r c → Agrees total s c
agrees_as total r s c e h old p = subst (λ (o : Outcome Bool). Agree total old p o (c old p)) (e p) (h old p)

-- what a check answers where the unit x was read up to q: as o does, but for a flag
abbrev GoesOn : Outcome Bool → Outcome Bool → Type 0
GoesOn whole o = (f : Bool) × (and_after f o ≡ whole)

abbrev Stopped : Outcome Bool → Type 0
Stopped whole = (why : Why) × (rest : List ℕ) × (refused why rest ≡ whole)

-- a unit and its line, and what follows
agree_row : {A : Type 0} (total : ℕ) (path : List Step) (role : Role) (r : Reader A) (k : A → Walker) (old : List Line) (p : Place) (whole : Outcome Bool) → Fronts r
    → ((x : A) (q : Place) → got x q ≡ r p → (o : Outcome Bool) × GoesOn whole o × ((new : List Line) → Agree total new q o (k x new q)))
    → ((why : Why) (rest : List ℕ) → refused why rest ≡ r p → Stopped whole) → Agree total old p whole (row total path role r k old p)
unfolding row
agree_row {A} total path role r k old p whole front goes stops = cases (r p) refl where
  cases : (o : Outcome A) → r p ≡ o → Agree total old p whole (add_line total path role k old p o)
  cases (got x q) is =
      let new = old ++ (line_at total path role p q ∷ []) in
      let h = goes x q (sym is) in
      subst (λ (o : Outcome Bool). Agree total old p o (k x new q)) h.1.1
      (agree_after total old new p q (and_after h.1.0 h.0) (k x new q) (grew_line total path role old p q (front p x q is)) (agree_and total new q h.1.0 h.0 (k x new q) (h.2 new)))
  cases (refused why rest) is =
      let h = stops why rest (sym is) in
      subst (λ (o : Outcome Bool). Agree total old p o (halted old)) h.2 (p.input, grew_none total old p.input)

leaf_agrees : (T : AsnType) → KeepsLimits T → DefaultsFit T → (total : ℕ) (path : List Step) → Agrees total (check_value T) (row total path Contents (check_value T) (λ f. stay))
unfolding stay
leaf_agrees T wf d total path old p = agree_row total path Contents (check_value T) (λ f. stay) old p (check_value T p) (sound_fronts (check_value T) _ (value_sound T wf d))
    (λ f q e. (got true q, (f, and_one f q ∙ e), λ new. (refl, grew_none total new q.input)))
    (λ why rest e. (why, rest, e))
  where
    and_one : (f : Bool) (q : Place) → and_after f (got true q) ≡ got f q
    and_one true q = refl
    and_one false q = refl

-- ---- open types

open_by : (total : ℕ) (ls : List Line) (q : Place) (outer n : ℕ) (o : Outcome Bool) (w : Walk) → Agree total ls (at q.input n) o w → Agree total ls q (reader.leave outer o) (leave outer w)
open_by total ls q outer n (got f s) (went new r) (same, grew) =
    subst (λ (t : Place). Agree total ls q (reader.leave_at f s.input outer s.left) (leave_at new t.input outer t.left)) (sym same) (left_by s.left)
  where
    left_by : (k : ℕ) → Agree total ls q (reader.leave_at f s.input outer k) (leave_at new s.input outer k)
    left_by zero = (refl, grew)
    left_by (suc k) = (s.input, grew)
open_by total ls q outer n (got f s) (halted new) h = absurd h
open_by total ls q outer n (refused why rest) (went new r) h = absurd h
open_by total ls q outer n (refused why rest) (halted new) h = h

agree_open : (total : ℕ) (path : List Step) (r : Reader Bool) (c : Walker) → Agrees total r c → Agrees total (check_open r) (walk_open total path c)
unfolding inside
agree_open total path r c h old p = agree_row total path Length sized_length (λ y. inside y.0 c) old p (check_open r p) (sound_fronts sized_length _ length_sound)
    (λ y q e. (reader.leave (q.left - y.0) (r (at q.input y.0)), (y.1, open_then r p q y.0 y.1 e), λ new. open_by total new q (q.left - y.0) y.0 (r (at q.input y.0)) (c new (at q.input y.0)) (h new (at q.input y.0))))
    (λ why rest e. (why, rest, open_stop r p why rest e))

agree_octets : (total : ℕ) (path : List Step) → Agrees total check_octets (walk_unknown total path)
unfolding check_octets check_group stay
agree_octets total path old p = agree_row total path Length sized_length (λ y. row total path Unknown (group y.0) (λ w. stay)) old p (check_octets p) (sound_fronts sized_length _ length_sound)
    (λ y q e. (check_group y.0 q, (y.1, length_then check_group p q y.0 y.1 e), λ new. content y.0 q new))
    (λ why rest e. (why, rest, octets_stop p why rest e))
  where
    content : (n : ℕ) (q : Place) (new : List Line) → Agree total new q (check_group n q) (row total path Unknown (group n) (λ w. stay) new q)
    content n q new = agree_row total path Unknown (group n) (λ w. stay) new q (check_group n q) (sound_fronts (group n) _ (group_lawful n).sound)
        (λ w s e. (got true s, (true, bind_got (group n) (λ x. give true) q s w (got true s) e (give_got true s)), λ later. (refl, grew_none total later s.input)))
        (λ why rest e. (why, rest, bind_stop (group n) (λ x. give true) q why rest e))

-- ---- parts

agree_times : (total : ℕ) (r : Reader Bool) (c : ℕ → Walker) → ((i : ℕ) → Agrees total r (c i)) → (i n : ℕ) → Agrees total (check_times n r) (walk_times c i n)
agree_times total r c h i zero = agree_stay total
agree_times total r c h i (suc n) = agree_both total r (check_times n r) (c i) (walk_times c (suc i) n) (h i) (agree_times total r c h (suc i) n)

unknown_is : (x : Bool) (s : List Bool) (p : Place) → both (check_if x check_octets) (check_unknown s) p ≡ check_unknown (x ∷ s) p
unknown_is true s p = by_bit true check_octets (check_unknown s) p
unknown_is false s p = by_bit false check_octets (check_unknown s) p

agree_rest : (total : ℕ) (path : List Step) (i : ℕ) (s : List Bool) → Agrees total (check_unknown s) (walk_rest total path i s)
agree_rest total path i [] = agree_stay total
agree_rest total path i (x ∷ s) = agrees_as total _ (check_unknown (x ∷ s)) _ (unknown_is x s)
    (agree_both total (check_if x check_octets) (check_unknown s) _ (walk_rest total path (suc i) s) (agree_if total x check_octets _ (agree_octets total (path ++ (to_addition i ∷ [])))) (agree_rest total path (suc i) s))

unlike_by : (total : ℕ) (old : List Line) (p : Place) (d : List ℕ) (o : Outcome Bool) (w : Walk) → Agree total old p o w → Agree total old p (then_read (λ (y : Bool × Bool). give (y.0 && y.1)) (judge (λ f b. not (same_list b d)) p o)) w
unfolding give
unlike_by total old p d (got f q) (went new r) h = h
unlike_by total old p d (got f q) (halted new) h = absurd h
unlike_by total old p d (refused why rest) (went new r) h = absurd h
unlike_by total old p d (refused why rest) (halted new) h = h

agree_unlike : (total : ℕ) (d : List ℕ) (r : Reader Bool) (c : Walker) → Agrees total r c → Agrees total (unlike d r) c
unfolding unlike bind judged
agree_unlike total d r c h old p = unlike_by total old p d (r p) (c old p) (h old p)

agree_there : (total : ℕ) (need : Need) (T : AsnType) (c : Walker) → Agrees total (check_value T) c → Agrees total (check_there need T) c
agree_there total must T c h = h
agree_there total may T c h = h
agree_there total (default d) T c h = agree_unlike total (canonical_octets T d) (check_value T) c h

agree_by_tag : (total : ℕ) (b : Bool) (r s : Reader Bool) (c d : Walker) → Agrees total r c → Agrees total s d → Agrees total (check_by_tag b r s) (walk_choose b c d)
agree_by_tag total true r s c d h k = h
agree_by_tag total false r s c d h k = k

agree_stuck : (total : ℕ) (why : Why) → Agrees total (refuse why) stuck
unfolding refuse stuck
agree_stuck total why old p = (p.input, grew_none total old p.input)

agree_chosen : (total : ℕ) (extensible : Bool) (more : Alternatives) (r : Tag → Reader Bool) (c d : Walker) (t : Tag) → Agrees total (r t) c → Agrees total check_octets d → Agrees total (check_chosen extensible more r t) (walk_chosen extensible more c d t)
agree_chosen total extensible more r c d t h k = by (has_tag t more) extensible where
  by : (b x : Bool) → Agrees total (choose b (r t) (guard x UnknownAlternative check_octets)) (walk_choose b c (walk_choose x d stuck))
  by true x = h
  by false true = k
  by false false = agree_stuck total UnknownAlternative

agree_extension : (total : ℕ) (path : List Step) (x : Bool) (more : Additions) (c : List Bool → Walker) → ((s : List Bool) → Agrees total (check_additions more s) (c s)) → Agrees total (check_extension x more (check_additions more)) (walk_extension x more total path c)
agree_extension total path false more c h old p = agree_stay total old p
agree_extension total path true more c h old p =
    agree_row total path Bitmap (addition_map n) (λ y. walk_both (c y.0) (walk_rest total path n (drop n y.0))) old p (check_extension true more (check_additions more) p) (sound_fronts (addition_map n) _ (map_sound n))
    (λ y q e. (both (check_additions more y.0) (check_unknown (drop n y.0)) q, (y.1, map_then more n p q y.0 y.1 refl e), λ new. agree_both total (check_additions more y.0) (check_unknown (drop n y.0)) (c y.0) (walk_rest total path n (drop n y.0)) (h y.0) (agree_rest total path n (drop n y.0)) new q))
    (λ why rest e. (why, rest, map_stop more n true p why rest refl refl e))
  where
    n : ℕ
    n = addition_count more

mutual
  pub value_agrees : (T : AsnType) → KeepsLimits T → DefaultsFit T → (total : ℕ) (path : List Step) → Agrees total (check_value T) (walk_value T total path)
  value_agrees (sequence fs) wf d total path old p = agree_row total path Preamble (preamble (optional fs)) (walk_fields fs total path 0) old p (check_value (sequence fs) p) (sound_fronts (preamble (optional fs)) _ (preamble_lawful (optional fs)).sound)
      (λ s q e. (check_fields fs s q, (true, and_all (check_fields fs s q) ∙ sequence_then fs p q s (check_fields fs s q) e refl), λ new. fields_agree fs wf d total path 0 s new q))
      (λ why rest e. (why, rest, sequence_stop fs p why rest e))
  value_agrees (extensible_sequence fs more) wf d total path old p = agree_row total path Preamble (preamble (suc (optional fs))) (λ s. walk_both (walk_fields fs total path 0 (later_bits s)) (walk_extension (first_bit s) more total path (walk_additions more total path 0))) old p (check_value (extensible_sequence fs more) p) (sound_fronts (preamble (suc (optional fs))) _ (preamble_lawful (suc (optional fs))).sound)
      (λ s q e. (both (check_fields fs (later_bits s)) (check_extension (first_bit s) more (check_additions more)) q, (true, and_all _ ∙ extensible_then fs more (suc (optional fs)) p q s _ refl e refl), λ new. agree_both total (check_fields fs (later_bits s)) (check_extension (first_bit s) more (check_additions more)) _ _ (fields_agree fs wf.0 d.0 total path 0 (later_bits s)) (agree_extension total path (first_bit s) more (walk_additions more total path 0) (λ u. additions_agree more wf.1 d.1 total path 0 u)) new q))
      (λ why rest e. (why, rest, extensible_stop fs more (suc (optional fs)) p why rest refl e))
  value_agrees (sequence_of size T) wf d total path old p = agree_row total path Quantity (sized_quantity size) (λ y. walk_times (λ i. walk_value T total (path ++ (to_item i ∷ []))) 0 y.0) old p (check_value (sequence_of size T) p) (sound_fronts (sized_quantity size) _ (quantity_sound size))
      (λ y q e. (check_times y.0 (check_value T) q, (y.1, items_then size T p q y.0 y.1 e), λ new. agree_times total (check_value T) (λ i. walk_value T total (path ++ (to_item i ∷ []))) (λ i. value_agrees T wf.1 d total (path ++ (to_item i ∷ []))) 0 y.0 new q))
      (λ why rest e. (why, rest, items_stop size T p why rest e))
  value_agrees (choice extensible more) wf d total path old p = agree_row total path TagRole tag (λ t. walk_chosen extensible more (walk_alternative more total (path ++ (to_chosen ∷ [])) t) (walk_unknown total (path ++ (to_chosen ∷ []))) t) old p (check_value (choice extensible more) p) (sound_fronts tag _ tag_lawful.sound)
      (λ t q e. (check_chosen extensible more (check_alternative more) t q, (true, and_all _ ∙ choice_then extensible more p q t _ e refl), λ new. agree_chosen total extensible more (check_alternative more) _ _ t (alternative_agrees more wf d total (path ++ (to_chosen ∷ [])) t) (agree_octets total (path ++ (to_chosen ∷ []))) new q))
      (λ why rest e. (why, rest, choice_stop extensible more p why rest e))
  value_agrees (leaf kind) wf d total path old p = leaf_agrees (leaf kind) wf d total path old p

  fields_agree : (fs : Fields) → FieldsKeepLimits fs → FieldDefaultsFit fs → (total : ℕ) (path : List Step) (i : ℕ) (s : List Bool) → Agrees total (check_fields fs s) (walk_fields fs total path i s)
  fields_agree no_fields wf d total path i s = agree_stay total
  fields_agree (field name need T fs) wf d total path i s = agrees_as total _ (check_fields (field name need T fs) s) _ (field_is name need T fs s)
      (agree_both total (check_if (is_there need s) (check_there need T)) (check_fields fs (bits_left need s)) _ _ (agree_if total (is_there need s) (check_there need T) _ (agree_there total need T _ (value_agrees T wf.0 d.0 total (path ++ (to_component i ∷ []))))) (fields_agree fs wf.1 d.2 total path (suc i) (bits_left need s)))

  additions_agree : (more : Additions) → AdditionsKeepLimits more → AdditionDefaultsFit more → (total : ℕ) (path : List Step) (i : ℕ) (s : List Bool) → Agrees total (check_additions more s) (walk_additions more total path i s)
  additions_agree no_additions wf d total path i s = agree_stay total
  additions_agree (addition name T more) wf d total path i s = agrees_as total _ (check_additions (addition name T more) s) _ (by_bit (first_bit s) (check_open (check_value T)) (check_additions more (later_bits s)))
      (agree_both total (check_if (first_bit s) (check_open (check_value T))) (check_additions more (later_bits s)) _ _ (agree_if total (first_bit s) (check_open (check_value T)) _ (agree_open total (path ++ (to_addition i ∷ [])) (check_value T) _ (value_agrees T wf.0 d.0 total (path ++ (to_addition i ∷ []))))) (additions_agree more wf.1 d.1 total path (suc i) (later_bits s)))

  alternative_agrees : (more : Alternatives) → AlternativesKeepLimits more → AlternativeDefaultsFit more → (total : ℕ) (path : List Step) (t : Tag) → Agrees total (check_alternative more t) (walk_alternative more total path t)
  alternative_agrees no_alternatives wf d total path t = agree_stuck total UnknownAlternative
  alternative_agrees (alternative name u T more) wf d total path t = agree_by_tag total (same_tag u t) (check_value T) (check_alternative more t) _ _ (value_agrees T wf.0 d.0 total path) (alternative_agrees more wf.1 d.1 total path t)
  alternative_agrees (later name u T more) wf d total path t = agree_by_tag total (same_tag u t) (check_open (check_value T)) (check_alternative more t) _ _ (agree_open total path (check_value T) _ (value_agrees T wf.0 d.0 total path)) (alternative_agrees more wf.1 d.1 total path t)
