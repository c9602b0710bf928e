-- What an older type relays is read by the newer one as the sender's value.
use Rattle.std.proofs.Common.{◌≡◌, ℕ, suc, ◌+◌, ◌⊎◌, inl, inr, List, [], ◌∷◌, ◌++◌, drop, Bool, true, false, refl, ap, ap₂, sym, ◌∙◌, subst, arith, append_assoc}
use Rattle.std.proofs.lemmas.List.{drop-drop}
use Rattle.oer_units.specs.Spelling.{IsCounted}
use Rattle.oer_units.proofs.Closure.{is_one}
use Rattle.oer_model.proofs.reading.Main.{value_lawful}
use Rattle.oer_model.proofs.relaying.Older.{drop_after, count_with}
use Rattle.oer_model.proofs.canonical.StrictEnc.{strict_within}
use Rattle.oer_model.proofs.bits.UnknownBits.{Rises}
use Rattle.oer_model.proofs.canonical.CanonicalForms.{encodes_from}
use Rattle.oer_model.specs.AsnType.{AsnType, extensible_sequence, Additions, no_additions, addition}
use Rattle.oer_model.specs.AsnValue.{Unknown, unknown, AsnValue, seq, Places, no_places, absent, present}
use Rattle.oer_model.specs.Bits.{first_bit, later_bits}
use Rattle.oer_model.specs.Constraints.{addition_count}
use Rattle.oer_model.specs.Encoding.{Encodes, IsItself, SpellsUnknown, ByBit, SpellsExtension, IsSpelling, SpellsAdditions}
use Rattle.oer_model.specs.Filling.{filled, filled_fields, filled_additions}
use Rattle.oer_model.specs.Fits.{all_absent}
use Rattle.oer_model.specs.Laws.{with_additions, RelayedSequence}

rises : (n : ℕ) (z : List Bool) (us : List Unknown) (u : List ℕ) → SpellsUnknown (IsCounted IsItself) n z us u → Rises n us
rises n [] us u (is, e) = subst (Rises n) (sym is) tt
rises n (true ∷ z) us u (w, rest, b1, b2, is, e, k, r) = subst (Rises n) (sym is) (omega arith, rises (suc n) z rest b2 r)
rises n (false ∷ z) us u p = lower n us (rises (suc n) z us u p)
  where
    lower : (n : ℕ) (us : List Unknown) → Rises (suc n) us → Rises n us
    lower n [] r = tt
    lower n (unknown m w ∷ us) (l, r) = (omega arith, r)

-- vs: the octets of the further additions that are there, and then us
abbrev Carries : Additions → ℕ → Places → List Unknown → List Unknown → Type 0
Carries no_additions n rest vs us = (rest ≡ no_places) × (vs ≡ us)
Carries (addition name T extra) n rest vs us = ((v : AsnValue) × (ps : Places) × (c : List ℕ) × (ws : List Unknown) × (rest ≡ present v ps) × (vs ≡ unknown n c ∷ ws) × IsSpelling T v c × Carries extra (suc n) ps ws us)
    ⊎ ((ps : Places) × (rest ≡ absent ps) × Rises (suc n) vs × Carries extra (suc n) ps vs us)

no_bits : (extra : Additions) (m k : ℕ) (us : List Unknown) (u : List ℕ) → SpellsUnknown (IsCounted IsItself) m [] us u → SpellsUnknown (IsCounted IsItself) k (drop (addition_count extra) []) us u
no_bits no_additions m k us u p = p
no_bits (addition name T extra) m k us u p = p

no_bits_back : (extra : Additions) (m k : ℕ) (us : List Unknown) (u : List ℕ) → SpellsUnknown (IsCounted IsItself) m (drop (addition_count extra) []) us u → SpellsUnknown (IsCounted IsItself) k [] us u
no_bits_back no_additions m k us u p = p
no_bits_back (addition name T extra) m k us u p = p

at_place : (n k : ℕ) (z : List Bool) (us : List Unknown) (u : List ℕ) → SpellsUnknown (IsCounted IsItself) (n + suc k) z us u → SpellsUnknown (IsCounted IsItself) (suc n + k) z us u
at_place n k z us u p = subst (λ m. SpellsUnknown (IsCounted IsItself) m z us u) (let i : n + suc k ≡ suc n + k = omega arith in i) p

to_place : (n k : ℕ) (z : List Bool) (us : List Unknown) (u : List ℕ) → SpellsUnknown (IsCounted IsItself) (suc n + k) z us u → SpellsUnknown (IsCounted IsItself) (n + suc k) z us u
to_place n k z us u p = subst (λ m. SpellsUnknown (IsCounted IsItself) m z us u) (let i : suc n + k ≡ n + suc k = omega arith in i) p

carried : (extra : Additions) (n : ℕ) (z : List Bool) (ps : Places) (us : List Unknown) (a u : List ℕ) → SpellsAdditions extra z ps a → SpellsUnknown (IsCounted IsItself) (n + addition_count extra) (drop (addition_count extra) z) us u
    → (vs : List Unknown) × SpellsUnknown (IsCounted IsItself) n z vs (a ++ u) × Carries extra n ps vs us
carried no_additions n z ps us a u (is, e) p =
    (us, subst (λ w. SpellsUnknown (IsCounted IsItself) n z us (w ++ u)) (sym e) (subst (λ m. SpellsUnknown (IsCounted IsItself) m z us u) (let i : n + 0 ≡ n = omega arith in i) p), (is, refl))
carried (addition name T extra) n [] ps us a u (rest, is, r) p =
    let o = carried extra (suc n) [] rest us a u r (no_bits extra (n + suc (addition_count extra)) (suc n + addition_count extra) us u p) in
    (o.0, o.1, inr (rest, is, rises (suc n) [] o.0 (a ++ u) o.1, o.2))
carried (addition name T extra) n (true ∷ z) ps us a u (v, rest, b1, b2, is, e, (l, c, f, len, s), r) p =
    let o = carried extra (suc n) z rest us b2 u r (at_place n (addition_count extra) (drop (addition_count extra) z) us u p) in
    (unknown n c ∷ o.0, (c, o.0, b1, b2 ++ u, refl, ap (λ w. w ++ u) e ∙ append_assoc b1 b2 u, (l, c, f, len, refl), o.1), inl (v, rest, c, o.0, is, refl, s, o.2))
carried (addition name T extra) n (false ∷ z) ps us a u (rest, is, r) p =
    let o = carried extra (suc n) z rest us a u r (at_place n (addition_count extra) (drop (addition_count extra) z) us u p) in
    (o.0, o.1, inr (rest, is, rises (suc n) z o.0 (a ++ u) o.1, o.2))

not_here : (n : ℕ) (w : List ℕ) (ws vs : List Unknown) → vs ≡ unknown n w ∷ ws → Rises (suc n) vs → ⊥
not_here n w ws vs e r = let l = (subst (Rises (suc n)) e r).0 in omega arith

delivered : (extra : Additions) (n : ℕ) (z : List Bool) (ps : Places) (vs us : List Unknown) (u : List ℕ) → Carries extra n ps vs us → SpellsUnknown (IsCounted IsItself) n z vs u
    → (a : List ℕ) × (d : List ℕ) × (u ≡ a ++ d) × SpellsAdditions extra z ps a × SpellsUnknown (IsCounted IsItself) (n + addition_count extra) (drop (addition_count extra) z) us d
delivered no_additions n z ps vs us u (is, e) p =
    ([], u, refl, (is, refl), subst (λ m. SpellsUnknown (IsCounted IsItself) m z us u) (let i : n ≡ n + 0 = omega arith in i) (subst (λ vs. SpellsUnknown (IsCounted IsItself) n z vs u) e p))
delivered (addition name T extra) n [] ps vs us u (inl (v, rest, c, ws, is, e, s, k)) (none, f) = absurd (cc)
delivered (addition name T extra) n (false ∷ z) ps vs us u (inl (v, rest, c, ws, is, e, s, k)) p = absurd (not_here n c ws vs e (rises (suc n) z vs u p))
delivered (addition name T extra) n (true ∷ z) ps vs us u (inl (v, rest, c, ws, is, e, s, k)) (w, xs, b1, b2, g, f, (l, d, h, len, same), r) =
    let both : unknown n c ∷ ws ≡ unknown n w ∷ xs = sym e ∙ g in
    let heads : unknown n c ≡ unknown n w = cc in
    let words : c ≡ w = cc in
    let rests : ws ≡ xs = cc in
    let o = delivered extra (suc n) z rest ws us b2 k (subst (λ xs. SpellsUnknown (IsCounted IsItself) (suc n) z xs b2) (sym rests) r) in
    (b1 ++ o.0, o.1, f ∙ ap (λ x. b1 ++ x) o.2 ∙ sym (append_assoc b1 o.0 o.1), (v, rest, b1, o.0, is, refl, (l, d, h, len, subst (IsSpelling T v) (words ∙ sym same) s), o.3), to_place n (addition_count extra) (drop (addition_count extra) z) us o.1 o.4)
delivered (addition name T extra) n [] ps vs us u (inr (rest, is, rise, k)) p =
    let o = delivered extra (suc n) [] rest vs us u k p in
    (o.0, o.1, o.2, (rest, is, o.3), no_bits_back extra (suc n + addition_count extra) (n + suc (addition_count extra)) us o.1 o.4)
delivered (addition name T extra) n (false ∷ z) ps vs us u (inr (rest, is, rise, k)) p =
    let o = delivered extra (suc n) z rest vs us u k p in
    (o.0, o.1, o.2, (rest, is, o.3), to_place n (addition_count extra) (drop (addition_count extra) z) us o.1 o.4)
delivered (addition name T extra) n (true ∷ z) ps vs us u (inr (rest, is, rise, k)) (w, xs, b1, b2, g, f, t, r) = absurd (not_here n w xs vs g rise)

carries_none : (extra : Additions) (n : ℕ) (ps : Places) (vs us : List Unknown) → vs ≡ [] → Carries extra n ps vs us → (ps ≡ all_absent extra) × (us ≡ [])
carries_none no_additions n ps vs us none (is, e) = (is, sym e ∙ none)
carries_none (addition name T extra) n ps vs us none (inl (v, rest, c, ws, is, e, s, k)) = absurd (cc)
carries_none (addition name T extra) n ps vs us none (inr (rest, is, rise, k)) = let o = carries_none extra (suc n) rest vs us none k in (is ∙ ap absent o.0, o.1)

none_carried : (extra : Additions) (n : ℕ) → Carries extra n (all_absent extra) [] []
none_carried no_additions n = (refl, refl)
none_carried (addition name T extra) n = inr (all_absent extra, refl, tt, none_carried extra (suc n))

abbrev join : Places → Places → Places
join no_places rest = rest
join (absent qs) rest = absent (join qs rest)
join (present v qs) rest = present v (join qs rest)

-- a place for each addition
abbrev HasShape : Additions → Places → Type 0
HasShape no_additions ps = ps ≡ no_places
HasShape (addition name T more) no_places = ⊥
HasShape (addition name T more) (absent ps) = HasShape more ps
HasShape (addition name T more) (present v ps) = HasShape more ps

bit_shape : (x : Bool) (name : List ℕ) (T : AsnType) (more : Additions) (C : AsnValue → List ℕ → Type 0) (R : Places → List ℕ → Type 0) (ps : Places) (b : List ℕ) → ((ps : Places) (b : List ℕ) → R ps b → HasShape more ps) → ByBit x C R ps b → HasShape (addition name T more) ps
bit_shape true name T more C R ps b f (v, rest, b1, b2, is, e, k, r) = subst (HasShape (addition name T more)) (sym is) (f rest b2 r)
bit_shape false name T more C R ps b f (rest, is, r) = subst (HasShape (addition name T more)) (sym is) (f rest b r)

shape : (more : Additions) (s : List Bool) (ps : Places) (b : List ℕ) → SpellsAdditions more s ps b → HasShape more ps
shape no_additions s ps b (is, e) = is
shape (addition name T more) s ps b p = bit_shape (first_bit s) name T more (IsCounted (IsSpelling T)) (SpellsAdditions more (later_bits s)) ps b (shape more (later_bits s)) p

absent_shape : (more : Additions) → HasShape more (all_absent more)
absent_shape no_additions = refl
absent_shape (addition name T more) = absent_shape more

join_absent : (more extra : Additions) → join (all_absent more) (all_absent extra) ≡ all_absent (with_additions more extra)
join_absent no_additions extra = refl
join_absent (addition name T more) extra = ap absent (join_absent more extra)

fill_join : (more extra : Additions) (qs rs rest : Places) → HasShape more qs → HasShape more rs → filled_additions more qs ≡ filled_additions more rs → filled_additions (with_additions more extra) (join qs rest) ≡ filled_additions (with_additions more extra) (join rs rest)
fill_join no_additions extra qs rs rest i j e = ap (λ q. filled_additions extra (join q rest)) (i ∙ sym j)
fill_join (addition name T more) extra no_places rs rest i j e = absurd i
fill_join (addition name T more) extra (absent qs) no_places rest i j e = absurd j
fill_join (addition name T more) extra (present v qs) no_places rest i j e = absurd j
fill_join (addition name T more) extra (absent qs) (present w rs) rest i j e = absurd (cc)
fill_join (addition name T more) extra (present v qs) (absent rs) rest i j e = absurd (cc)
fill_join (addition name T more) extra (absent qs) (absent rs) rest i j e = ap absent (fill_join more extra qs rs rest i j (cc))
fill_join (addition name T more) extra (present v qs) (present w rs) rest i j e = ap₂ present (let f : filled T v ≡ filled T w = cc in f) (fill_join more extra qs rs rest i j (cc))

bit_split : (x : Bool) (C : AsnValue → List ℕ → Type 0) (W S R : List Bool → Places → List ℕ → Type 0) (n : ℕ) (s : List Bool) (ps : Places) (a : List ℕ)
    → ((ps : Places) (a : List ℕ) → W (later_bits s) ps a → (qs : Places) × (rest : Places) × (b : List ℕ) × (c : List ℕ) × (a ≡ b ++ c) × (ps ≡ join qs rest) × S (later_bits s) qs b × R (drop n (later_bits s)) rest c)
    → ByBit x C (W (later_bits s)) ps a → (qs : Places) × (rest : Places) × (b : List ℕ) × (c : List ℕ) × (a ≡ b ++ c) × (ps ≡ join qs rest) × ByBit x C (S (later_bits s)) qs b × R (drop (suc n) s) rest c
bit_split true C W S R n s ps a f (v, rest, b1, b2, is, e, k, r) =
    let o = f rest b2 r in
    (present v o.0, o.1, b1 ++ o.2, o.3, e ∙ ap (λ w. b1 ++ w) o.4 ∙ sym (append_assoc b1 o.2 o.3), is ∙ ap (present v) o.5, (v, o.0, b1, o.2, refl, refl, k, o.6), subst (λ z. R z o.1 o.3) (drop_after n s) o.7)
bit_split false C W S R n s ps a f (rest, is, r) =
    let o = f rest a r in
    (absent o.0, o.1, o.2, o.3, o.4, is ∙ ap absent o.5, (o.0, refl, o.6), subst (λ z. R z o.1 o.3) (drop_after n s) o.7)

split : (more extra : Additions) (s : List Bool) (ps : Places) (a : List ℕ) → SpellsAdditions (with_additions more extra) s ps a
    → (qs : Places) × (rest : Places) × (b : List ℕ) × (c : List ℕ) × (a ≡ b ++ c) × (ps ≡ join qs rest) × SpellsAdditions more s qs b × SpellsAdditions extra (drop (addition_count more) s) rest c
split no_additions extra s ps a p = (no_places, ps, [], a, refl, refl, (refl, refl), p)
split (addition name T more) extra s ps a p = bit_split (first_bit s) (IsCounted (IsSpelling T)) (SpellsAdditions (with_additions more extra)) (SpellsAdditions more) (SpellsAdditions extra) (addition_count more) s ps a (split more extra (later_bits s)) p

bit_join : (x : Bool) (C : AsnValue → List ℕ → Type 0) (W S R : List Bool → Places → List ℕ → Type 0) (n : ℕ) (s : List Bool) (qs rest : Places) (b c : List ℕ)
    → ((qs : Places) (b : List ℕ) → S (later_bits s) qs b → R (drop n (later_bits s)) rest c → W (later_bits s) (join qs rest) (b ++ c))
    → ByBit x C (S (later_bits s)) qs b → R (drop (suc n) s) rest c → ByBit x C (W (later_bits s)) (join qs rest) (b ++ c)
bit_join true C W S R n s qs rest b c f (v, q, b1, b2, is, e, k, r) t =
    (v, join q rest, b1, b2 ++ c, ap (λ q. join q rest) is, ap (λ w. w ++ c) e ∙ append_assoc b1 b2 c, k, f q b2 r (subst (λ z. R z rest c) (sym (drop_after n s)) t))
bit_join false C W S R n s qs rest b c f (q, is, r) t = (join q rest, ap (λ q. join q rest) is, f q b r (subst (λ z. R z rest c) (sym (drop_after n s)) t))

joined : (more extra : Additions) (s : List Bool) (qs rest : Places) (b c : List ℕ) → SpellsAdditions more s qs b → SpellsAdditions extra (drop (addition_count more) s) rest c → SpellsAdditions (with_additions more extra) s (join qs rest) (b ++ c)
joined no_additions extra s qs rest b c (is, e) t = subst (λ q. SpellsAdditions extra s (join q rest) (b ++ c)) (sym is) (subst (λ b. SpellsAdditions extra s rest (b ++ c)) (sym e) t)
joined (addition name T more) extra s qs rest b c p t = bit_join (first_bit s) (IsCounted (IsSpelling T)) (SpellsAdditions (with_additions more extra)) (SpellsAdditions more) (SpellsAdditions extra) (addition_count more) s qs rest b c (λ q d x y. joined more extra (later_bits s) q rest d c x y) p t

-- the older type's reading of the extension, and what it carries
sent : (x : Bool) (more extra : Additions) (ps : Places) (us : List Unknown) (b : List ℕ) → SpellsExtension x (with_additions more extra) (SpellsAdditions (with_additions more extra)) ps us b
    → (qs : Places) × (rest : Places) × (vs : List Unknown) × SpellsExtension x more (SpellsAdditions more) qs vs b × (ps ≡ join qs rest) × HasShape more qs × Carries extra (addition_count more) rest vs us
sent false more extra ps us b (is, none, e) =
    (all_absent more, all_absent extra, [], (refl, refl, e), is ∙ sym (join_absent more extra), absent_shape more, subst (Carries extra (addition_count more) (all_absent extra) []) (sym none) (none_carried extra (addition_count more)))
sent true more extra ps us b (s, m, a, u, e, k, low, p, r) =
    let o = split more extra s ps a p in
    let rest : SpellsUnknown (IsCounted IsItself) (addition_count more + addition_count extra) (drop (addition_count extra) (drop (addition_count more) s)) us u
    = subst (λ z. SpellsUnknown (IsCounted IsItself) (addition_count more + addition_count extra) z us u) (sym (drop-drop (addition_count extra) (addition_count more) s)) (subst (λ n. SpellsUnknown (IsCounted IsItself) n (drop n s) us u) (count_with more extra) r) in
    let q = carried extra (addition_count more) (drop (addition_count more) s) o.1 us o.3 u o.7 rest in
    (o.0, o.1, q.0, (s, m, o.2, o.3 ++ u, e ∙ ap (λ w. m ++ w) (ap (λ w. w ++ u) o.4 ∙ append_assoc o.2 o.3 u), k, low, o.6, q.1), o.5, shape more s o.0 o.2 o.6, q.2)

-- read by the newer type
arrived : (x : Bool) (more extra : Additions) (qs rest : Places) (vs us : List Unknown) (b : List ℕ) → Carries extra (addition_count more) rest vs us → SpellsExtension x more (SpellsAdditions more) qs vs b
    → SpellsExtension x (with_additions more extra) (SpellsAdditions (with_additions more extra)) (join qs rest) us b × HasShape more qs
arrived false more extra qs rest vs us b k (is, none, e) =
    let o = carries_none extra (addition_count more) rest vs us none k in
    ((ap₂ join is o.0 ∙ join_absent more extra, o.1, e), subst (HasShape more) (sym is) (absent_shape more))
arrived true more extra qs rest vs us b k (s, m, a, u, e, c, low, p, r) =
    let o = delivered extra (addition_count more) (drop (addition_count more) s) rest vs us u k r in
    let last : SpellsUnknown (IsCounted IsItself) (addition_count (with_additions more extra)) (drop (addition_count (with_additions more extra)) s) us o.1
    = subst (λ n. SpellsUnknown (IsCounted IsItself) n (drop n s) us o.1) (sym (count_with more extra)) (subst (λ z. SpellsUnknown (IsCounted IsItself) (addition_count more + addition_count extra) z us o.1) (drop-drop (addition_count extra) (addition_count more) s) o.4) in
    ((s, m, a ++ o.0, o.1, e ∙ ap (λ w. m ++ w) (ap (λ w. a ++ w) o.2 ∙ sym (append_assoc a o.0 o.1)), c, low, joined more extra s qs rest a o.0 p o.3, last), shape more s qs a p)

pub relayed_sequence : RelayedSequence
relayed_sequence fs more extra wf wf' v w b c (o1, f1, (root, added, us, x, s, p, r, a, is, e, i, pre, f, ext)) (o2, f2, old) (g, y, same, (octs, h, strict)) =
    let o = sent x more extra added us a ext in
    let mine : IsSpelling (extensible_sequence fs more) (seq root o.0 o.2) b = (root, o.0, o.2, x, s, p, r, a, refl, e, i, pre, f, o.3) in
    let one = is_one (value_lawful (extensible_sequence fs more) wf) w (seq root o.0 o.2) b b [] [] old mine refl in
    back y (strict_within (extensible_sequence fs more) y c strict) (same ∙ ap (filled (extensible_sequence fs more)) one.0)
  where
    back : (y : AsnValue) → IsSpelling (extensible_sequence fs more) y c → filled (extensible_sequence fs more) y ≡ filled (extensible_sequence fs more) (seq root (sent x more extra added us a ext).0 (sent x more extra added us a ext).2)
        → (z : AsnValue) × Encodes (extensible_sequence fs (with_additions more extra)) z c × (filled (extensible_sequence fs (with_additions more extra)) z ≡ filled (extensible_sequence fs (with_additions more extra)) v)
    back y (root', qs', vs', x', s', p', r', a', is', e', i', pre', f', ext') same' =
        let o = sent x more extra added us a ext in
        let both : seq (filled_fields fs root') (filled_additions more qs') vs' ≡ seq (filled_fields fs root) (filled_additions more o.0) o.2 = sym (ap (filled (extensible_sequence fs more)) is') ∙ same' in
        let roots : filled_fields fs root' ≡ filled_fields fs root = cc in
        let adds : filled_additions more qs' ≡ filled_additions more o.0 = cc in
        let others : vs' ≡ o.2 = cc in
        let t = arrived x' more extra qs' o.1 vs' us a' (subst (λ vs. Carries extra (addition_count more) o.1 vs us) (sym others) o.6) ext' in (
          seq root' (join qs' o.1) us,
          encodes_from (extensible_sequence fs (with_additions more extra)) wf' (seq root' (join qs' o.1) us) c octs (root', join qs' o.1, us, x', s', p', r', a', refl, e', i', pre', f', t.0),
          ap₂ (λ a b. seq a b us) roots (fill_join more extra qs' o.0 o.1 t.1 o.5 adds ∙ ap (filled_additions (with_additions more extra)) (sym o.4)) ∙ sym (ap (filled (extensible_sequence fs (with_additions more extra))) is),
        )
