-- What is found by a path is what the path leads to.
use Rattle.std.proofs.Common.{◌≡◌, ◌⊎◌, inl, inr, ℕ, List, [], ◌∷◌, ◌++◌, Bool, true, false, Option, Some, None, refl, ap, ap₂, sym, ◌∙◌, subst}
use Rattle.oer_model.proofs.paths.Pieces.{Child, KeptChild, Led, child_in, child_kept, kept, led, nothing_there, pieces, splits, typed, untyped}
use Rattle.oer_model.proofs.paths.Splitting.{split_read}
use Rattle.oer_model.specs.AsnType.{AsnType}
use Rattle.oer_model.specs.AsnValue.{AsnValue}
use Rattle.oer_model.specs.Constraints.{KeepsLimits}
use Rattle.oer_model.specs.Encoding.{IsSpelling}
use Rattle.oer_model.specs.Fits.{DefaultsFit}
use Rattle.oer_model.specs.Laws.{FindsParts, MissesParts}
use Rattle.oer_model.specs.Parts.{Answer, IsSplit, LeadsTo, Part, Step, StopsAt, Within, find_part, found, go_on, lookup, knows, knows_in, no_such_step, nothing_at}

-- octets whose parts can be found
abbrev pub Whole : Option AsnType → List ℕ → Type 0
Whole None b = Unit {0}
Whole (Some T) b = (KeepsLimits T × DefaultsFit T) × ((v : AsnValue) × IsSpelling T v b)

-- A list splits in one way.
pub one_split : (T : AsnType) → KeepsLimits T → DefaultsFit T → (b : List ℕ) (p q : List Part) → IsSplit T p b → IsSplit T q b → p ≡ q
one_split T w d b p q s t = sym (split_read T w d p b s) ∙ split_read T w d q b t

pub same_found : (V W : Option AsnType) (b c : List ℕ) → found V b ≡ found W c → (V ≡ W) × (b ≡ c)
same_found V W b c e = (cc, cc)

-- what one step leads to
abbrev Leads : AsnType → List ℕ → Step → List Part → Type 0
Leads T b step parts = ((V : Option AsnType) × (c : List ℕ) × ((o : Answer) → lookup o step parts ≡ found V c) × Whole V c) ⊎ ((o : Answer) → lookup o step parts ≡ o)

leads : (T : AsnType) → KeepsLimits T → DefaultsFit T → (v : AsnValue) (b : List ℕ) → IsSpelling T v b → (step : Step) → (parts : List Part) × IsSplit T parts b × Leads T b step parts
leads T w d v b s step =
    let o = splits T v b s in
    (o.0, o.1, by_child (child_in step (pieces T v)) (led (pieces T v) o.0 o.2 step) (child_kept step (pieces T v) (kept T w d v)))
  where
    by_child : (c : Child) → Led c (λ o. lookup o step (splits T v b s).0) → KeptChild c → Leads T b step (splits T v b s).0
    by_child (typed need U x) (c, e, y) k = inl (Some U, c, e, (k, (x, y)))
    by_child (untyped u) e k = inl (None, u, e, tt)
    by_child nothing_there e k = inr e

find_is : (T : AsnType) → KeepsLimits T → DefaultsFit T → (b : List ℕ) (parts : List Part) → IsSplit T parts b → (step : Step) (path : List Step) (a : Answer) → lookup (nothing_at (knows T step)) step parts ≡ a → find_part (Some T) b (step ∷ path) ≡ go_on a (λ V c. find_part V c path)
find_is T w d b parts s step path a e = ap (λ p. go_on (lookup (nothing_at (knows T step)) step p) (λ V c. find_part V c path)) (split_read T w d parts b s) ∙ ap (λ a. go_on a (λ V c. find_part V c path)) e

-- what a step leads to is what is looked up in the split
pub led_to : (T : AsnType) → KeepsLimits T → DefaultsFit T → (b : List ℕ) (parts : List Part) → IsSplit T parts b → (step : Step) (V : Option AsnType) (c : List ℕ) → LeadsTo T b step V c → lookup no_such_step step parts ≡ found V c
led_to T w d b parts s step V c (other, t, e) = ap (lookup no_such_step step) (one_split T w d b parts other s t) ∙ e

not_found : (k : Bool) (V : Option AsnType) (c : List ℕ) → nothing_at k ≡ found V c → ⊥
not_found true V c e = cc
not_found false V c e = cc

goes_nowhere : (k : Bool) (f : Option AsnType → List ℕ → Answer) → go_on (nothing_at k) f ≡ nothing_at k
goes_nowhere true f = refl
goes_nowhere false f = refl

pub found_is : (path : List Step) (V : Option AsnType) (b : List ℕ) → Whole V b → (U : Option AsnType) (s : List ℕ) → (find_part V b path ≡ found U s → Within V b path U s) × (Within V b path U s → find_part V b path ≡ found U s)
found_is [] V b x U s = (λ e. (let both = same_found V U b s e in (sym both.0, sym both.1)), λ (p, q). ap₂ found (sym p) (sym q))
found_is (step ∷ path) None b x U s = (λ e. absurd (not_found false U s e), λ e. absurd e)
found_is (step ∷ path) (Some T) b ((w, d), (v, x)) U s =
    let o = leads T w d v b x step in
    by_step o.0 o.1 (found_is path) o.2
  where
    by_step : (parts : List Part) → IsSplit T parts b → ((V : Option AsnType) (b : List ℕ) → Whole V b → (U : Option AsnType) (s : List ℕ) → (find_part V b path ≡ found U s → Within V b path U s) × (Within V b path U s → find_part V b path ≡ found U s))
        → Leads T b step parts → (find_part (Some T) b (step ∷ path) ≡ found U s → Within (Some T) b (step ∷ path) U s) × (Within (Some T) b (step ∷ path) U s → find_part (Some T) b (step ∷ path) ≡ found U s)
    by_step parts t next (inl (V, c, e, y)) =
        let here = find_is T w d b parts t step path (found V c) (e (nothing_at (knows T step))) in
        let then = next V c y U s in (
          λ f. (V, c, (parts, t, e no_such_step), then.0 (sym here ∙ f)),
          λ (V', c', l, r). (
              let both = same_found V V' c c' (sym (e no_such_step) ∙ led_to T w d b parts t step V' c' l) in
              here ∙ then.1 (subst (λ c. Within V c path U s) (sym both.1) (subst (λ V. Within V c' path U s) (sym both.0) r))),
        )
    by_step parts t next (inr e) =
        let here = find_is T w d b parts t step path (nothing_at (knows T step)) (e (nothing_at (knows T step))) in (
          λ f. absurd (not_found (knows T step) U s (sym (goes_nowhere (knows T step) (λ V c. find_part V c path)) ∙ sym here ∙ f)),
          λ (V', c', l, r). absurd (not_found false V' c' (sym (e no_such_step) ∙ led_to T w d b parts t step V' c' l)),
        )

pub finds_parts : FindsParts
finds_parts T w d v b x path U s = found_is path (Some T) b ((w, d), (v, x.2)) U s

same_head : (x y : Step) (xs ys : List Step) → x ∷ xs ≡ y ∷ ys → (x ≡ y) × (xs ≡ ys)
same_head x y xs ys e = (cc, cc)

same_answer : (j k : Bool) → nothing_at j ≡ nothing_at k → j ≡ k
same_answer true true e = refl
same_answer false false e = refl
same_answer true false e = absurd (cc)
same_answer false true e = absurd (cc)

-- a path from an unknown part stops there
stops_none : (step : Step) (path : List Step) (b : List ℕ) (k : Bool) → StopsAt None b (step ∷ path) k → false ≡ k
stops_none step path b k (W, c, at_step, [], rest, e, (p, q), none, known) = sym (ap (λ W. knows_in W at_step) p) ∙ known
stops_none step path b k (W, c, at_step, first ∷ front, rest, e, within, none, known) = absurd within

pub stops_is : (path : List Step) (V : Option AsnType) (b : List ℕ) → Whole V b → (k : Bool) → (find_part V b path ≡ nothing_at k → StopsAt V b path k) × (StopsAt V b path k → find_part V b path ≡ nothing_at k)
stops_is [] V b x k = (λ e. absurd (not_found k V b (sym e)), λ s. absurd (no_path s))
  where
    no_path : StopsAt V b [] k → ⊥
    no_path (W, c, step, [], rest, e, p, q, r) = cc
    no_path (W, c, step, first ∷ front, rest, e, p, q, r) = cc
stops_is (step ∷ path) None b x k = (
  λ e. (None, b, step, [], path, refl, (refl, refl), (λ U s w. w), same_answer false k e),
  λ s. ap nothing_at (stops_none step path b k s),
)
stops_is (step ∷ path) (Some T) b ((w, d), (v, x)) k =
    let o = leads T w d v b x step in
    by_step o.0 o.1 (stops_is path) o.2
  where
    by_step : (parts : List Part) → IsSplit T parts b → ((V : Option AsnType) (b : List ℕ) → Whole V b → (k : Bool) → (find_part V b path ≡ nothing_at k → StopsAt V b path k) × (StopsAt V b path k → find_part V b path ≡ nothing_at k))
        → Leads T b step parts → (find_part (Some T) b (step ∷ path) ≡ nothing_at k → StopsAt (Some T) b (step ∷ path) k) × (StopsAt (Some T) b (step ∷ path) k → find_part (Some T) b (step ∷ path) ≡ nothing_at k)
    by_step parts t next (inl (V, c, e, y)) =
        let here = find_is T w d b parts t step path (found V c) (e (nothing_at (knows T step))) in
        let then = next V c y k in
        (λ f. further (then.0 (sym here ∙ f)), λ s. here ∙ then.1 (shorter s))
      where
        further : StopsAt V c path k → StopsAt (Some T) b (step ∷ path) k
        further (W, c', last, front, rest, f, within, none, known) = (W, c', last, step ∷ front, rest, ap (λ p. step ∷ p) f, (V, c, (parts, t, e no_such_step), within), none, known)

        shorter : StopsAt (Some T) b (step ∷ path) k → StopsAt V c path k
        shorter (W, c', last, [], rest, f, (p, q), none, known) =
            let one = same_head step last path rest f in
            absurd (none V c (subst (λ W. Within W c' (last ∷ []) V c) (sym p) (subst (λ c'. Within (Some T) c' (last ∷ []) V c) (sym q) (subst (λ s. Within (Some T) b (s ∷ []) V c) one.0 (V, c, (parts, t, e no_such_step), (refl, refl))))))
        shorter (W, c', last, first ∷ front, rest, f, (V', c'', l, within), none, known) =
            let one = same_head step first path (front ++ (last ∷ rest)) f in
            let both = same_found V V' c c'' (sym (e no_such_step) ∙ led_to T w d b parts t step V' c'' (subst (λ s. LeadsTo T b s V' c'') (sym one.0) l)) in
            (W, c', last, front, rest, one.1, subst (λ c. Within V c front W c') (sym both.1) (subst (λ V. Within V c'' front W c') (sym both.0) within), none, known)
    by_step parts t next (inr e) =
        let here = find_is T w d b parts t step path (nothing_at (knows T step)) (e (nothing_at (knows T step))) ∙ goes_nowhere (knows T step) (λ V c. find_part V c path) in (
          λ f. (Some T, b, step, [], path, refl, (refl, refl), (λ U s (V, c, l, r). not_found false V c (sym (e no_such_step) ∙ led_to T w d b parts t step V c l)), same_answer (knows T step) k (sym here ∙ f)),
          λ s. here ∙ ap nothing_at (stopped s),
        )
      where
        stopped : StopsAt (Some T) b (step ∷ path) k → knows T step ≡ k
        stopped (W, c', last, [], rest, f, (p, q), none, known) =
            let one = same_head step last path rest f in
            ap (knows T) one.0 ∙ sym (ap (λ W. knows_in W last) p) ∙ known
        stopped (W, c', last, first ∷ front, rest, f, (V', c'', l, within), none, known) =
            let one = same_head step first path (front ++ (last ∷ rest)) f in
            absurd (not_found false V' c'' (sym (e no_such_step) ∙ led_to T w d b parts t step V' c'' (subst (λ s. LeadsTo T b s V' c'') (sym one.0) l)))

pub misses_parts : MissesParts
misses_parts T w d v b x path k = stops_is path (Some T) b ((w, d), (v, x.2)) k
