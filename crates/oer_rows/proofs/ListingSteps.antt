-- From a walk to what the caller of `rows` learns.
use Rattle.std.proofs.Common.{◌≡◌, ℕ, ◌-◌, ◌≤◌, Bool, List, [], ◌++◌, ◌+◌, ◌∷◌, ap₂, append-nil, length, drop, drop-drop, drop_at, map, take, Result, Ok, Err, arith, refl, sym, ap, ◌∙◌, subst, length-append, length-drop, take_at}
use Rattle.std.proofs.lemmas.List.{append_assoc}
use Rattle.std.specs.List.{FoldsTo}
use Rattle.oer_rows.specs.declared.keep.Kept.{Kept}
use Rattle.oer_rows.specs.declared.row.Row.{Row}
use Rattle.oer_units.specs.declared.fault.ReadFault.{ReadFault}
use Rattle.oer_units.specs.Reader.{Outcome, Place, at, got, refused}
use Rattle.oer_model.specs.AsnType.{AsnType}
use Rattle.oer_model.specs.Checking.{check_value}
use Rattle.oer_model.specs.Constraints.{KeepsLimits}
use Rattle.oer_model.specs.Fits.{DefaultsFit}
use Rattle.oer_checker.specs.Check.{Answers, Tells, most}
use Rattle.oer_rows.specs.Lines.{AreLines}
use Rattle.oer_rows.specs.Listing.{AreListed, Cover, Covers, lines_in, rows_of}
use Rattle.oer_rows.specs.Rows.{Line, Walk, Walker, Walks, again, halted, line, lines_of, stay, stuck, walk_value, went}
use Rattle.oer_checker.specs.declared.cursor.Cursor.{Cursor}
use Rattle.oer_rows.specs.declared.row.Halt.TheVariants.{Refused}
use Rattle.oer_checker.specs.declared.verdict.Verdict.{Verdict}
use Rattle.oer_rows.proofs.LineForms.{value_yields}
use Rattle.oer_rows.proofs.LineLaws.{Agree, value_agrees}

-- The taker took the lines of the whole walk.
pub went_lines : {T : Type 0} (takes : T → Line → T → Type 0) (q : Cursor) (s t : T) (c : Walker) (p : Place)
    → Walks (Ok q) takes s t c p → FoldsTo takes s (lines_in (c [] p)) t
unfolding stay
went_lines takes q s t c p h =
    let x = h.by [] in
    subst (λ (l : List Line). FoldsTo takes s l t) (sym x.1.is ∙ ap lines_in x.2) x.1.each

pub halted_lines : {T : Type 0} (takes : T → Line → T → Type 0) (s t : T) (c : Walker) (p : Place)
    → Walks (Err Refused) takes s t c p → FoldsTo takes s (lines_in (c [] p)) t
unfolding stuck
halted_lines takes s t c p (q, h) =
    let x = h.by [] in
    subst (λ (l : List Line). FoldsTo takes s l t) (sym x.1.is ∙ ap lines_in x.2) x.1.each

covers_by : (octets : List ℕ) (o : Outcome Bool) (w : Walk) (verdict : Result Verdict ReadFault) → Agree (length octets) [] (at octets most) o w
    → ((v : Verdict) → verdict ≡ Ok v → o ≡ got v.canonical (at (drop v.octets octets) (most - v.octets)))
    → ((e : ReadFault) → verdict ≡ Err e → o ≡ refused e.why (drop e.taken octets)) → Covers octets (lines_in w) verdict
covers_by octets (got f q) (went ls r) (Ok v) (same, (es, is, cover)) good bad =
    let h = good v refl in
    subst (λ (l : List Line). Cover (length octets) octets l (drop v.octets octets)) (sym is) (subst (λ (p : Place). Cover (length octets) octets es p.input) (place_is f v.canonical q _ h) cover)
  where
    place_is : (f g : Bool) (q r : Place) → got f q ≡ got g r → q ≡ r
    place_is f g q r e = cc
covers_by octets (got f q) (went ls r) (Err e) h good bad = let k = bad e refl in absurd (cc)
covers_by octets (got f q) (halted ls) verdict h good bad = absurd h
covers_by octets (refused why rest) (went ls r) verdict h good bad = absurd h
covers_by octets (refused why rest) (halted ls) (Ok v) h good bad = let k = good v refl in absurd (cc)
covers_by octets (refused why rest) (halted ls) (Err e) (more, (es, is, cover)) good bad = (more, subst (λ (l : List Line). Cover (length octets) octets l more) (sym is) cover)

pub listing_covers : (T : AsnType) → KeepsLimits T → DefaultsFit T → (octets : List ℕ) (verdict : Result Verdict ReadFault) (ls : List Line) → Answers T octets verdict → ls ≡ rows_of T octets → Covers octets ls verdict
listing_covers T wf d octets verdict ls e is =
    subst (λ (l : List Line). Covers octets l verdict) (sym is)
    (covers_by octets (check_value T (at octets most)) (walk_value T (length octets) [] [] (at octets most)) verdict (value_agrees T wf d (length octets) [] [] (at octets most)) (good verdict e) (bad verdict e))
  where
    good : (verdict : Result Verdict ReadFault) → Answers T octets verdict → (v : Verdict) → verdict ≡ Ok v → check_value T (at octets most) ≡ got v.canonical (at (drop v.octets octets) (most - v.octets))
    good (Ok u) e v is = let same : u ≡ v = cc in e ∙ ap (λ (w : Verdict). got w.canonical (at (drop w.octets octets) (most - w.octets))) same
    good (Err u) e v is = absurd (cc)

    bad : (verdict : Result Verdict ReadFault) → Answers T octets verdict → (f : ReadFault) → verdict ≡ Err f → check_value T (at octets most) ≡ refused f.why (drop f.taken octets)
    bad (Ok u) e f is = absurd (cc)
    bad (Err u) e f is = let same : u ≡ f = cc in e ∙ ap (λ (w : ReadFault). refused w.why (drop w.taken octets)) same

-- ---- in the terms of the encoding rules

front_of : (octets b rest : List ℕ) (n : ℕ) → octets ≡ b ++ rest → rest ≡ drop n octets → n ≤ length octets → take n octets ≡ b
front_of octets b rest n e is le = ap (take n) e ∙ take_at b rest n (omega (arith, le, ap length e, length-append b rest, ap length is, length-drop n octets))

listed_by : (T : AsnType) → KeepsLimits T → DefaultsFit T → (octets : List ℕ) (o : Outcome Bool) (w : Walk) (verdict : Result Verdict ReadFault) → walk_value T (length octets) [] [] (at octets most) ≡ w → Agree (length octets) [] (at octets most) o w
    → ((v : Verdict) → verdict ≡ Ok v → (o ≡ got v.canonical (at (drop v.octets octets) (most - v.octets))) × (v.octets ≤ length octets)) → AreListed T octets (lines_in w) verdict
listed_by T wf d octets o w (Err e) run h good = tt
listed_by T wf d octets (refused why rest) w (Ok v) run h good = let k = (good v refl).0 in absurd (cc)
listed_by T wf d octets (got f q) (halted ls) (Ok v) run h good = absurd h
listed_by T wf d octets (got f q) (went ls r) (Ok v) run h good =
    let k = good v refl in
    let y = value_yields T wf d (length octets) [] (at octets most) [] ls r (omega arith) run in
    let here : r.input ≡ drop v.octets octets = ap (λ (p : Place). p.input) (h.0 ∙ place_of_got f v.canonical q _ k.0) in
    let n : length octets - length octets ≡ 0 = omega arith in
    let b : y.1 ≡ take v.octets octets = sym (front_of octets y.1 r.input v.octets y.3 here k.1) in
    subst (λ (l : List Line). AreLines T [] 0 l (take v.octets octets)) (sym y.2) (subst (λ (s : List ℕ). AreLines T [] 0 y.0 s) b (subst (λ (i : ℕ). AreLines T [] i y.0 y.1) n y.5))
  where
    place_of_got : (f g : Bool) (q r : Place) → got f q ≡ got g r → q ≡ r
    place_of_got f g q r e = cc

pub listing_listed : (T : AsnType) → KeepsLimits T → DefaultsFit T → (octets : List ℕ) (verdict : Result Verdict ReadFault) (ls : List Line) → Answers T octets verdict → Tells T octets verdict → ls ≡ rows_of T octets → AreListed T octets ls verdict
listing_listed T wf d octets verdict ls e told is =
    subst (λ (l : List Line). AreListed T octets l verdict) (sym is)
    (listed_by T wf d octets (check_value T (at octets most)) (walk_value T (length octets) [] [] (at octets most)) verdict refl (value_agrees T wf d (length octets) [] [] (at octets most)) (good verdict e told))
  where
    good : (verdict : Result Verdict ReadFault) → Answers T octets verdict → Tells T octets verdict → (v : Verdict) → verdict ≡ Ok v → (check_value T (at octets most) ≡ got v.canonical (at (drop v.octets octets) (most - v.octets))) × (v.octets ≤ length octets)
    good (Ok u) e told v is =
        let same : u ≡ v = cc in (
          e ∙ ap (λ (w : Verdict). got w.canonical (at (drop w.octets octets) (most - w.octets))) same,
          (let split = told.2 in let long = told.3 in let z : u.octets ≤ length octets = omega (arith, long, ap length split, length-append told.0 told.1) in subst (λ (w : Verdict). w.octets ≤ length octets) same z),
        )
    good (Err u) e told v is = absurd (cc)

-- ---- rows that are kept

again_all : (whole octets : List ℕ) (k : ℕ) (ls : List Line) (rest : List ℕ) → octets ≡ drop k whole → k ≤ length whole
    → Cover (length whole) octets ls rest → map (again whole) ls ≡ ls
again_all whole octets k [] rest is le h = refl
again_all whole octets k (line offset path role b ∷ ls) rest is le (more, split, at_it, h) =
    let long : length octets ≡ length whole - k = ap length is ∙ length-drop k whole in
    let here : offset ≡ k = omega (arith, at_it, long, le) in
    let parts : length octets ≡ length b + length more = ap length split ∙ length-append b more in
    let own : take (length b) (drop offset whole) ≡ b =
    ap (λ n. take (length b) (drop n whole)) here ∙ ap (take (length b)) (sym is ∙ split) ∙ take_at b more (length b) refl in
    let next : more ≡ drop (k + length b) whole = sym (ap (drop (length b)) split ∙ drop_at b more (length b) refl)
    ∙ ap (drop (length b)) is ∙ drop-drop (length b) k whole in
    ap₂ (λ (l : Line) (xs : List Line). l ∷ xs) (ap (line offset path role) own)
    (again_all whole more (k + length b) ls rest next (omega (arith, parts, long, le)) h)

pub kept_all : (octets : List ℕ) (verdict : Result Verdict ReadFault) (ls : List Line) → Covers octets ls verdict → map (again octets) ls ≡ ls
kept_all octets (Ok v) ls h = again_all octets octets 0 ls (drop v.octets octets) refl (omega arith) h
kept_all octets (Err e) ls h = again_all octets octets 0 ls h.0 refl (omega arith) h.1

-- rows that were taken one after another
pub kept_lines : (ls : List Line) (s t : Kept)
    → FoldsTo (λ p l q. (q.octets.now ≡ p.octets.now) × (lines_of q.rows.items ≡ lines_of p.rows.items ++ (again p.octets.now l ∷ []))) s ls t
    → lines_of t.rows.items ≡ lines_of s.rows.items ++ map (again s.octets.now) ls
kept_lines [] s t is = ap (λ (k : Kept). lines_of k.rows.items) (sym is) ∙ sym (append-nil (lines_of s.rows.items))
kept_lines (l ∷ ls) s t (j, (same, one), more) =
    kept_lines ls j t more
    ∙ ap₂ (λ (a : List Line) (o : List ℕ). a ++ map (again o) ls) one same
    ∙ append_assoc (lines_of s.rows.items) (again s.octets.now l ∷ []) (map (again s.octets.now) ls)

pub kept_rows : (rows : List Line) (octets : List ℕ) (verdict : Result Verdict ReadFault) (s t : Kept) → s.rows.items ≡ [] → s.octets.now ≡ octets
    → FoldsTo (λ p l q. (q.octets.now ≡ p.octets.now) × (lines_of q.rows.items ≡ lines_of p.rows.items ++ (again p.octets.now l ∷ []))) s rows t
    → Covers octets rows verdict → lines_of t.rows.items ≡ rows
kept_rows rows octets verdict s t none own h covers =
    kept_lines rows s t h
    ∙ ap₂ (λ (r : List Row) (o : List ℕ). lines_of r ++ map (again o) rows) none own
    ∙ kept_all octets verdict rows covers
