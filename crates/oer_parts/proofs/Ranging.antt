-- Where that stands to which a path leads: from one step to the whole path, and to the octets of the caller.
use Rattle.std.proofs.Common.{◌≡◌, arith, add-one, ℕ, ◌+◌, ◌-◌, ◌<◌, ◌≤◌, Bool, List, [], ◌∷◌, ◌++◌, length, take, drop, get_or, slice_range, Option, Some, None, Result, Ok, Err, IfOk, refl, sym, ap, ap₂, ◌∙◌, subst, append_assoc, length-append, append-nil, drop-cons}
use Rattle.std.proofs.lemmas.List.{take_at}
use Rattle.oer_units.specs.Reader.{Outcome, at, got, refused}
use Rattle.oer_model.specs.AsnType.{AsnType}
use Rattle.oer_model.specs.Parts as plain
use Rattle.oer_model.specs.Parts.{Answer, LeadsTo, absent_part, find_part, found, go_on, knows, lookup, no_such_step, nothing_at, parts_in, read_parts}
use Rattle.oer_model.proofs.paths.Finding.{found_is, same_found}
use Rattle.oer_checker.specs.Check.{Tells}
use Rattle.oer_parts.specs.Handing.{AgreesWith}
use Rattle.oer_parts.specs.Offsets.{IsBefore, StandsAt}
use Rattle.oer_parts.specs.Ranges.{LeadsFrom}
use Rattle.oer_parts.specs.Walk.{CanSplit, IsAfter, IsWithin, StandsBy, path_of, step_of, type_in}
use Rattle.oer_parts.specs.declared.fault.PartFault.{PartFault}
use Rattle.oer_parts.specs.declared.step.Step.{Step}
use Rattle.oer_checker.specs.declared.verdict.Verdict.{Verdict}
use Rattle.oer_parts.specs.declared.walk.Piece.{Piece}
use Rattle.oer_checker.proofs.BitLists.{drop_past}

-- one step
pub step_stands : (V : Option AsnType) (T : AsnType) (b : List ℕ) (step : plain.Step) (p : Piece) → V ≡ Some T → CanSplit V b → find_part V b (step ∷ []) ≡ found (type_in p) p.octets.now → IsAfter (IsBefore T step) (at b (length b)) p.octets.now p.rest → StandsBy V b step p
step_stands V T b step p is k e (a, d, split, n, before) =
    let s = p.octets.now in
    let (W, c, leads, (same, words)) = (found_is (step ∷ []) (Some T) b (subst (λ (U : Option AsnType). CanSplit U b) is k) (type_in p) s).0 (ap (λ (U : Option AsnType). find_part U b (step ∷ [])) (sym is) ∙ e) in
    let here : LeadsTo T b step (type_in p) s = subst (λ (x : List ℕ). LeadsTo T b step (type_in p) x) (sym words) (subst (λ (U : Option AsnType). LeadsTo T b step U c) (sym same) leads) in
    let size : length b - p.rest ≡ length a + 0 = omega (arith, ap length split, length-append a (s ++ d), n) in
    let there : StandsAt (Some T) b (step ∷ []) (type_in p) s (length b - p.rest) = (type_in p, a, s, d, 0, split, here, before, size, (refl, refl, refl)) in (
      subst (λ (U : Option AsnType). StandsAt U b (step ∷ []) (type_in p) s (length b - p.rest)) (sym is) there,
      omega (arith, length-append s d, n),
      omega (arith, ap length split, length-append a (s ++ d), n),
    )

-- a step, and those after it
then_stands : (V : Option AsnType) (b : List ℕ) (step : plain.Step) (p : Piece) (path : List plain.Step) (U : Option AsnType) (s : List ℕ) (k : ℕ) → StandsBy V b step p → StandsAt (type_in p) p.octets.now path U s k → StandsAt V b (step ∷ path) U s ((length b - p.rest) + k)
then_stands None b step p path U s k (h, short, few) w = absurd h
then_stands (Some T) b step p path U s k ((W, a, c, d, j, split, leads, before, n, (same, words, none)), short, few) w =
    let more : StandsAt W c path U s k = subst (λ (x : List ℕ). StandsAt W x path U s k) words (subst (λ (X : Option AsnType). StandsAt X p.octets.now path U s k) same w) in
    (W, a, c, d, k, split, leads, before, omega (arith, n, none), more)

-- what stands in a piece that was found, after n octets of the whole
abbrev pub Reached : Option AsnType → List ℕ → List plain.Step → ℕ → Option AsnType → List ℕ → List plain.Step → Type 0
Reached V whole path n W b rest = (U : Option AsnType) (s : List ℕ) (k : ℕ) → StandsAt W b rest U s k → StandsAt V whole path U s (n + k)

next_path : (path : List Step) (i : ℕ) (o : Step) → i < length path → path_of (drop i path) ≡ step_of (get_or path i o) ∷ path_of (drop (i + 1) path)
next_path path i o less = ap path_of (drop-cons path i o less) ∙ ap (λ (k : ℕ). step_of (get_or path i o) ∷ path_of (drop k path)) (sym (add-one i))

pub reached_next : (V : Option AsnType) (whole : List ℕ) (all : List plain.Step) (path : List Step) (i n : ℕ) (o : Step) (W : Option AsnType) (b : List ℕ) (p : Piece) → i < length path → StandsBy W b (step_of (get_or path i o)) p → Reached V whole all n W b (path_of (drop i path))
    → Reached V whole all (n + (length b - p.rest)) (type_in p) p.octets.now (path_of (drop (i + 1) path))
reached_next V whole all path i n o W b p less by reached U s k w =
    let one = then_stands W b (step_of (get_or path i o)) p (path_of (drop (i + 1) path)) U s k by w in
    let sum : n + ((length b - p.rest) + k) ≡ (n + (length b - p.rest)) + k = omega arith in
    subst (λ (j : ℕ). StandsAt V whole all U s j) sum (reached U s ((length b - p.rest) + k) (subst (λ (l : List plain.Step). StandsAt W b l U s ((length b - p.rest) + k)) (sym (next_path path i o less)) one))

-- at the end of the path
pub reached_end : (V : Option AsnType) (whole : List ℕ) (all : List plain.Step) (path : List Step) (i n : ℕ) (W : Option AsnType) (b : List ℕ) → length path ≤ i → Reached V whole all n W b (path_of (drop i path)) → (U : Option AsnType) × StandsAt V whole all U b n
reached_end V whole all path i n W b more reached =
    let none : drop i path ≡ [] = drop_past i path more in
    let here : StandsAt W b (path_of (drop i path)) W b 0 = subst (λ (l : List Step). StandsAt W b (path_of l) W b 0) (sym none) (refl, refl, refl) in
    (W, subst (λ (j : ℕ). StandsAt V whole all W b j) (let e : n + 0 ≡ n = omega arith in e) (reached W b 0 here))

-- what is found from there on
found_then : (W : Option AsnType) (b : List ℕ) (step : plain.Step) (V : Option AsnType) (c : List ℕ) (path : List plain.Step) → find_part W b (step ∷ []) ≡ found V c → find_part V c path ≡ find_part W b (step ∷ path)
found_then None b step V c path e = absurd (cc)
found_then (Some T) b step V c path e0 = cases (lookup (nothing_at (knows T step)) step (parts_in (read_parts T (at b (length b))))) e0 where
  cases : (a : Answer) → go_on a (λ V c. found V c) ≡ found V c → find_part V c path ≡ go_on a (λ V c. find_part V c path)
  cases (found X x) e = let same = same_found X V x c e in ap₂ (λ (U : Option AsnType) (l : List ℕ). find_part U l path) (sym same.0) (sym same.1)
  cases absent_part e = absurd (cc)
  cases no_such_step e = absurd (cc)

pub found_next : (path : List Step) (i : ℕ) (o : Step) (W : Option AsnType) (b : List ℕ) (p : Piece) (whole : Answer) → i < length path → find_part W b (step_of (get_or path i o) ∷ []) ≡ found (type_in p) p.octets.now → find_part W b (path_of (drop i path)) ≡ whole → find_part (type_in p) p.octets.now (path_of (drop (i + 1) path)) ≡ whole
found_next path i o W b p whole less e before = found_then W b (step_of (get_or path i o)) (type_in p) p.octets.now (path_of (drop (i + 1) path)) e ∙ ap (λ (l : List plain.Step). find_part W b l) (sym (next_path path i o less)) ∙ before

-- where it stands, the octets are
pub stands_there : (path : List plain.Step) (V : Option AsnType) (b : List ℕ) (U : Option AsnType) (s : List ℕ) (n : ℕ) → StandsAt V b path U s n → (a : List ℕ) × (d : List ℕ) × (b ≡ a ++ (s ++ d)) × (n ≡ length a)
stands_there [] V b U s n (same, words, none) = ([], [], sym words ∙ sym (append-nil s), none)
stands_there (step ∷ path) None b U s n h = absurd h
stands_there (step ∷ path) (Some T) b U s n (W, a, c, d, k, split, leads, before, size, more) =
    let (x, y, e, m) = stands_there path W c U s k more in
    let inner : c ++ d ≡ x ++ (s ++ (y ++ d)) = ap (λ (l : List ℕ). l ++ d) e ∙ append_assoc x (s ++ y) d ∙ ap (λ (l : List ℕ). x ++ l) (append_assoc s y d) in
    (a ++ x, y ++ d, split ∙ ap (λ (l : List ℕ). a ++ l) inner ∙ sym (append_assoc a x (s ++ (y ++ d))), omega (arith, size, m, length-append a x))

-- ---- the octets of the caller

-- what stands in a front of them stands in them
pub leads_from : (T : AsnType) (octets : List ℕ) (verdict : Verdict) (path : List plain.Step) (s : List ℕ) (n : ℕ) → Tells T octets (Ok verdict) → IsWithin (Some T) (take verdict.octets octets) path s n → LeadsFrom T octets path s n
leads_from T octets verdict path s n (b, rest, split, size, encoded, flags) (U, h) =
    let front : take verdict.octets octets ≡ b = ap (λ (l : List ℕ). take verdict.octets l) split ∙ take_at b rest verdict.octets (sym size) in
    (b, rest, split, encoded, (U, subst (λ (l : List ℕ). StandsAt (Some T) l path U s n) front h))

pub leads_if : {A : Type 0} (f : A → List ℕ) (n : A → ℕ) (T : AsnType) (octets : List ℕ) (verdict : Verdict) (path : List plain.Step) (result : Result A PartFault) → Tells T octets (Ok verdict) → IfOk result (λ r. IsWithin (Some T) (take verdict.octets octets) path (f r) (n r)) → IfOk result (λ r. LeadsFrom T octets path (f r) (n r))
leads_if f n T octets verdict path (Ok r) told h = leads_from T octets verdict path (f r) (n r) told h
leads_if f n T octets verdict path (Err e) told h = tt

-- the same octets, seen in another way
pub agrees_other : {A B : Type 0} (f : A → List ℕ) (g : B → List ℕ) (T : AsnType) (octets : List ℕ) (path : List plain.Step) (a : A) (b : B) → g b ≡ f a → (o : Outcome Bool) → AgreesWith f octets path T o (Ok a) → AgreesWith g octets path T o (Ok b)
agrees_other f g T octets path a b same (got canonical q) (U, e) = (U, e ∙ ap (found U) (sym same))
agrees_other f g T octets path a b same (refused why rest) h = absurd h

-- the range names what stands there
module _ (T : AsnType) (octets : List ℕ) (path : List plain.Step) (s : List ℕ) (n : ℕ) (leads : LeadsFrom T octets path s n) where
  there : (a : List ℕ) × (d : List ℕ) × (octets ≡ a ++ (s ++ d)) × (n ≡ length a)
  there =
      let (b, rest, split, encoded, (U, h)) = leads in
      let (a, d, e, size) = stands_there path (Some T) b U s n h in
      (a, d ++ rest, split ∙ ap (λ (l : List ℕ). l ++ rest) e ∙ append_assoc a (s ++ d) rest ∙ ap (λ (l : List ℕ). a ++ l) (append_assoc s d rest), size)

  pub range_fits : n + length s ≤ length octets
  range_fits = let (a, d, e, size) = there in omega (arith, ap length e, length-append a (s ++ d), length-append s d, size)

  pub range_names : slice_range octets n (n + length s) ≡ s
  range_names =
      let (a, d, e, size) = there in
      let many : (n + length s) - n ≡ length s = omega arith in
      let rest : drop n octets ≡ s ++ d = ap₂ (λ (k : ℕ) (l : List ℕ). drop k l) size e ∙ dropped a (s ++ d) in
      ap₂ (λ (k : ℕ) (l : List ℕ). take k l) many rest ∙ take_at s d (length s) refl
    where
      dropped : (a l : List ℕ) → drop (length a) (a ++ l) ≡ l
      dropped [] l = refl
      dropped (x ∷ a) l = dropped a l
