-- An older type reads what a newer one encodes: what it doesn't know it keeps as octets.
use Rattle.std.proofs.Common.{◌≡◌, ℕ, zero, suc, ◌+◌, ◌⊎◌, inl, inr, ◌||◌, List, [], ◌∷◌, ◌++◌, drop, Bool, true, false, refl, ap, sym, ◌∙◌, subst, arith, append_assoc}
use Rattle.std.proofs.lemmas.List.{drop-drop}
use Rattle.oer_units.specs.Spelling.{IsCounted}
use Rattle.oer_units.specs.declared.tagging.Tag.{Tag}
use Rattle.oer_model.proofs.canonical.CanonicalForms.{encodes_from}
use Rattle.oer_model.specs.AsnType.{choice, extensible_sequence, Additions, no_additions, addition, Alternatives, no_alternatives, alternative, later}
use Rattle.oer_model.specs.AsnValue.{Unknown, unknown, AsnValue, seq, chosen, foreign, Places, no_places, absent, present}
use Rattle.oer_model.specs.Bits.{first_bit, later_bits}
use Rattle.oer_model.specs.Constraints.{has_tag, same_tag, addition_count}
use Rattle.oer_model.specs.Encoding.{IsItself, SpellsUnknown, ByBit, ByTag, SpellsChosen, SpellsExtension, IsSpelling, SpellsAdditions, SpellsAlternative}
use Rattle.oer_model.specs.Fits.{all_absent}
use Rattle.oer_model.specs.Widths.{AreLater}
use Rattle.oer_model.specs.Laws.{with_additions, with_alternatives, OlderSequence, OlderChoice}

-- octets that are counted, whatever they spell
counted_octets_of : {A : Type 0} (S : A → List ℕ → Type 0) (x : A) (b : List ℕ) → IsCounted S x b → (c : List ℕ) × IsCounted IsItself c b
counted_octets_of S x b (l, c, e, len, s) = (c, (l, c, e, len, refl))

-- the further additions and those that both don't know
unknown_more : (extra : Additions) (n : ℕ) (z : List Bool) (ps : Places) (us : List Unknown) (a u : List ℕ) → SpellsAdditions extra z ps a → SpellsUnknown (IsCounted IsItself) (n + addition_count extra) (drop (addition_count extra) z) us u → (vs : List Unknown) × SpellsUnknown (IsCounted IsItself) n z vs (a ++ u)
unknown_more no_additions n z ps us a u (is, e) p =
    (us, subst (λ w. SpellsUnknown (IsCounted IsItself) n z us (w ++ u)) (sym e) (subst (λ m. SpellsUnknown (IsCounted IsItself) m z us u) (let i : n + 0 ≡ n = omega arith in i) p))
unknown_more (addition name T extra) n [] ps us a u (rest, is, r) p =
    let o = unknown_more extra (suc n) [] rest us a u r (nothing extra (n + suc (addition_count extra)) (suc n + addition_count extra) us u p) in (o.0, o.1)
  where
    nothing : (extra : Additions) (m k : ℕ) (us : List Unknown) (u : List ℕ) → SpellsUnknown (IsCounted IsItself) m [] us u → SpellsUnknown (IsCounted IsItself) k (drop (addition_count extra) []) us u
    nothing no_additions m k us u p = p
    nothing (addition name T extra) m k us u p = p
unknown_more (addition name T extra) n (true ∷ z) ps us a u (v, rest, b1, b2, is, e, k, r) p =
    let o = unknown_more extra (suc n) z rest us b2 u r (subst (λ m. SpellsUnknown (IsCounted IsItself) m (drop (addition_count extra) z) us u) (let i : n + suc (addition_count extra) ≡ suc n + addition_count extra = omega arith in i) p) in
    let c = counted_octets_of (IsSpelling T) v b1 k in
    (unknown n c.0 ∷ o.0, (c.0, o.0, b1, b2 ++ u, refl, ap (λ w. w ++ u) e ∙ append_assoc b1 b2 u, c.1, o.1))
unknown_more (addition name T extra) n (false ∷ z) ps us a u (rest, is, r) p =
    unknown_more extra (suc n) z rest us a u r (subst (λ m. SpellsUnknown (IsCounted IsItself) m (drop (addition_count extra) z) us u) (let i : n + suc (addition_count extra) ≡ suc n + addition_count extra = omega arith in i) p)

pub count_with : (more extra : Additions) → addition_count (with_additions more extra) ≡ addition_count more + addition_count extra
count_with no_additions extra = omega arith
count_with (addition name T more) extra = omega (arith, count_with more extra)

pub drop_after : (n : ℕ) (z : List Bool) → drop n (later_bits z) ≡ drop (suc n) z
drop_after zero [] = refl
drop_after (suc n) [] = refl
drop_after n (x ∷ z) = refl

-- the additions of both, and the rest
abbrev Split : (List Bool → Places → List ℕ → Type 0) → (List Bool → Places → List ℕ → Type 0) → ℕ → List Bool → List ℕ → Type 0
Split S R n s a = (qs : Places) × (rest : Places) × (b : List ℕ) × (c : List ℕ) × (a ≡ b ++ c) × S s qs b × R (drop n s) rest c

bit_split : (x : Bool) (C : AsnValue → List ℕ → Type 0) (W S : List Bool → Places → List ℕ → Type 0) (R : List Bool → Places → List ℕ → Type 0) (n : ℕ) (s : List Bool) (ps : Places) (a : List ℕ)
    → ((ps : Places) (a : List ℕ) → W (later_bits s) ps a → Split S R n (later_bits s) a) → ByBit x C (W (later_bits s)) ps a → (qs : Places) × (rest : Places) × (b : List ℕ) × (c : List ℕ) × (a ≡ b ++ c) × ByBit x C (S (later_bits s)) qs b × R (drop (suc n) s) rest c
bit_split true C W S R n s ps a f (v, rest, b1, b2, is, e, k, r) =
    let o = f rest b2 r in
    (present v o.0, o.1, b1 ++ o.2, o.3, e ∙ ap (λ w. b1 ++ w) o.4 ∙ sym (append_assoc b1 o.2 o.3), (v, o.0, b1, o.2, refl, refl, k, o.5), subst (λ z. R z o.1 o.3) (drop_after n s) o.6)
bit_split false C W S R n s ps a f (rest, is, r) =
    let o = f rest a r in
    (absent o.0, o.1, o.2, o.3, o.4, (o.0, refl, o.5), subst (λ z. R z o.1 o.3) (drop_after n s) o.6)

adds_split : (more extra : Additions) (s : List Bool) (ps : Places) (a : List ℕ) → SpellsAdditions (with_additions more extra) s ps a → Split (SpellsAdditions more) (SpellsAdditions extra) (addition_count more) s a
adds_split no_additions extra s ps a p = (no_places, ps, [], a, refl, (refl, refl), p)
adds_split (addition name T more) extra s ps a p = bit_split (first_bit s) (IsCounted (IsSpelling T)) (SpellsAdditions (with_additions more extra)) (SpellsAdditions more) (SpellsAdditions extra) (addition_count more) s ps a (adds_split more extra (later_bits s)) p

extension_older : (x : Bool) (more extra : Additions) (ps : Places) (us : List Unknown) (b : List ℕ) → SpellsExtension x (with_additions more extra) (SpellsAdditions (with_additions more extra)) ps us b → (qs : Places) × (vs : List Unknown) × SpellsExtension x more (SpellsAdditions more) qs vs b
extension_older false more extra ps us b (is, none, e) = (all_absent more, [], (refl, refl, e))
extension_older true more extra ps us b (s, m, a, u, e, k, low, p, r) =
    let o = adds_split more extra s ps a p in
    let counts = count_with more extra in
    let rest : SpellsUnknown (IsCounted IsItself) (addition_count more + addition_count extra) (drop (addition_count extra) (drop (addition_count more) s)) us u
    = subst (λ z. SpellsUnknown (IsCounted IsItself) (addition_count more + addition_count extra) z us u) (sym (drop-drop (addition_count extra) (addition_count more) s)) (subst (λ n. SpellsUnknown (IsCounted IsItself) n (drop n s) us u) counts r) in
    let q = unknown_more extra (addition_count more) (drop (addition_count more) s) o.1 us o.3 u o.6 rest in
    (o.0, q.0, (s, m, o.2, o.3 ++ u, e ∙ ap (λ w. m ++ w) (ap (λ w. w ++ u) o.4 ∙ append_assoc o.2 o.3 u), k, low, o.5, q.1))

pub older_sequence : OlderSequence
older_sequence fs more extra wf v b (octs, fits, (root, added, us, x, s, p, r, a, is, e, i, pre, f, ext)) =
    let o = extension_older x more extra added us a ext in
    (seq root o.0 o.1, encodes_from (extensible_sequence fs more) wf (seq root o.0 o.1) b octs (root, o.0, o.1, x, s, p, r, a, refl, e, i, pre, f, o.2))

-- the alternative is one of the older type, or its octets are counted
abbrev Older : Alternatives → Tag → List ℕ → Type 0
Older more t c = ((x : AsnValue) × SpellsAlternative more t x c) ⊎ ((has_tag t more ≡ false) × ((w : List ℕ) × IsCounted IsItself w c))

further : (extra : Alternatives) → AreLater extra → (t : Tag) (x : AsnValue) (c : List ℕ) → SpellsAlternative extra t x c → (w : List ℕ) × IsCounted IsItself w c
further no_alternatives l t x c p = absurd p
further (alternative name u T extra) l t x c p = absurd l
further (later name u T extra) l t x c p = by_tag (same_tag u t) (IsCounted (IsSpelling T)) (SpellsAlternative extra t) x c (counted_octets_of (IsSpelling T) x c) (further extra l t x c) p
  where
    by_tag : (same : Bool) (S R : AsnValue → List ℕ → Type 0) (x : AsnValue) (c : List ℕ) → (S x c → (w : List ℕ) × IsCounted IsItself w c) → (R x c → (w : List ℕ) × IsCounted IsItself w c) → ByTag same S R x c → (w : List ℕ) × IsCounted IsItself w c
    by_tag true S R x c f g p = f p
    by_tag false S R x c f g p = g p

tag_older : (same other : Bool) (S R R' : AsnValue → List ℕ → Type 0) (x : AsnValue) (c : List ℕ) → (R x c → ((x : AsnValue) × R' x c) ⊎ ((other ≡ false) × ((w : List ℕ) × IsCounted IsItself w c))) → ByTag same S R x c → ((x : AsnValue) × ByTag same S R' x c) ⊎ (((same || other) ≡ false) × ((w : List ℕ) × IsCounted IsItself w c))
tag_older true other S R R' x c f p = inl (x, p)
tag_older false other S R R' x c f p = f p

alts_older : (more extra : Alternatives) → AreLater extra → (t : Tag) (x : AsnValue) (c : List ℕ) → SpellsAlternative (with_alternatives more extra) t x c → Older more t c
alts_older no_alternatives extra l t x c p = inr (refl, further extra l t x c p)
alts_older (alternative name u T more) extra l t x c p = tag_older (same_tag u t) (has_tag t more) (IsSpelling T) (SpellsAlternative (with_alternatives more extra) t) (SpellsAlternative more t) x c (alts_older more extra l t x c) p
alts_older (later name u T more) extra l t x c p = tag_older (same_tag u t) (has_tag t more) (IsCounted (IsSpelling T)) (SpellsAlternative (with_alternatives more extra) t) (SpellsAlternative more t) x c (alts_older more extra l t x c) p

or_false : (a b : Bool) → (a || b) ≡ false → (a ≡ false) × (b ≡ false)
or_false true b e = absurd (cc)
or_false false b e = (refl, e)

false_or : (a b : Bool) → a ≡ false → b ≡ false → (a || b) ≡ false
false_or true b e f = e
false_or false b e f = f

pub none_older : (more extra : Alternatives) (t : Tag) → has_tag t (with_alternatives more extra) ≡ false → has_tag t more ≡ false
none_older no_alternatives extra t e = refl
none_older (alternative name u T more) extra t e = let both = or_false (same_tag u t) (has_tag t (with_alternatives more extra)) e in false_or (same_tag u t) (has_tag t more) both.0 (none_older more extra t both.1)
none_older (later name u T more) extra t e = let both = or_false (same_tag u t) (has_tag t (with_alternatives more extra)) e in false_or (same_tag u t) (has_tag t more) both.0 (none_older more extra t both.1)

chosen_older : (more : Alternatives) (t : Tag) (c : List ℕ) → Older more t c → (w : AsnValue) × SpellsChosen true more (SpellsAlternative more t) t w c
chosen_older more t c (inl (x, p)) = (chosen t x, inl (x, refl, p))
chosen_older more t c (inr (none, (w, p))) = (foreign t w, inr (w, refl, refl, none, p))

pub choice_older : (more extra : Alternatives) → AreLater extra → (v : AsnValue) (b : List ℕ) → IsSpelling (choice true (with_alternatives more extra)) v b → (w : AsnValue) × IsSpelling (choice true more) w b
choice_older more extra l v b (t, p, c, e, tag, inl (x, is, k)) =
    let o = chosen_older more t c (alts_older more extra l t x c k) in
    (o.0, (t, p, c, e, tag, o.1))
choice_older more extra l v b (t, p, c, e, tag, inr (w, is, may_be, none, k)) =
    (foreign t w, (t, p, c, e, tag, inr (w, refl, refl, none_older more extra t none, k)))

pub older_choice : OlderChoice
older_choice more extra l wf v b (octs, fits, s) = let o = choice_older more extra l v b s in (o.0, encodes_from (choice true more) wf o.0 b octs o.1)
