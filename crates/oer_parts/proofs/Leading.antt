-- Steps one after another, and from them to what the caller of `part` learns.
use Rattle.std.proofs.Common.{◌≡◌, ◌⊎◌, inl, inr, ◌<◌, ◌+◌, arith, ℕ, suc, Bool, true, false, List, [], ◌∷◌, ◌++◌, length, take, drop, get_or, Option, Some, None, Result, Ok, Err, refl, sym, ap, ap₂, ◌∙◌, subst, append-nil, drop-cons}
use Rattle.std.proofs.lemmas.List.{take_at}
use Rattle.oer_units.specs.Reader.{at, got}
use Rattle.oer_model.specs.AsnType.{AsnType}
use Rattle.oer_model.specs.Checking.{check_value}
use Rattle.oer_model.specs.Constraints.{KeepsLimits}
use Rattle.oer_model.specs.Encoding.{Encodes, IsSpelling}
use Rattle.oer_model.specs.Fits.{DefaultsFit}
use Rattle.oer_model.specs.Parts as plain
use Rattle.oer_model.specs.Parts.{Answer, StopsAt, Within, absent_part, find_part, found, go_on, knows, lookup, no_such_step, nothing_at, parts_in, read_parts}
use Rattle.oer_model.specs.Reading.{read_value}
use Rattle.oer_model.proofs.checking.CheckedParts.{value_checked}
use Rattle.oer_model.proofs.paths.Finding.{finds_parts, misses_parts, same_found}
use Rattle.oer_model.proofs.reading.Main.{value_lawful}
use Rattle.oer_model.proofs.paths.Pieces.{Child, KeptChild, Led, child_in, child_kept, kept, led, nothing_there, pieces, splits, typed, untyped}
use Rattle.oer_model.proofs.paths.Splitting.{split_read}
use Rattle.oer_checker.specs.Check.{Finds, Tells}
use Rattle.oer_parts.specs.Handing.{Agrees, Follows, Hands, IsHanded, IsMissed}
use Rattle.oer_parts.specs.Last.{TakesAll}
use Rattle.oer_parts.specs.Walk.{CanSplit, Enters, path_of, step_of}
use Rattle.oer_parts.specs.declared.fault.PartFault.{PartFault}
use Rattle.oer_parts.specs.declared.fault.PartFault.TheVariants.{Read, NoSuchStep, Absent}
use Rattle.oer_parts.specs.declared.step.Step.{Step}
use Rattle.oer_checker.specs.declared.verdict.Verdict.{Verdict}

-- the steps of what was found lead to what is there
pub front_splits : (T : AsnType) → KeepsLimits T → DefaultsFit T → (input : List ℕ) (verdict : Verdict) → Tells T input (Ok verdict) → CanSplit (Some T) (take verdict.octets input)
front_splits T wf d input verdict (b, rest, split, size, (v, e), flags) =
    let front : take verdict.octets input ≡ b = ap (λ (l : List ℕ). take verdict.octets l) split ∙ take_at b rest verdict.octets (sym size) in
    ((wf, d), (v, subst (λ (s : List ℕ). IsSpelling T v s) (sym front) e.2))

-- what is spelt is checked, to its end
pub spelt_checked : (T : AsnType) (b : List ℕ) → CanSplit (Some T) b → TakesAll (check_value T (at b (length b)))
spelt_checked T b ((w, d), (v, s)) =
    let e = (value_lawful T w).complete v b [] 0 s in
    let whole : read_value T (at b (length b)) ≡ got v (at [] 0) = ap₂ (λ (l : List ℕ) (n : ℕ). read_value T (at l n)) (sym (append-nil b)) (let n : length b ≡ length b + 0 = omega arith in n) ∙ e in
    let t = (value_checked T w d).tells (at b (length b)) v (at [] 0) whole in
    (t.0, sym t.1)

-- ---- one step

Led_to : AsnType → List ℕ → plain.Step → List plain.Part → Type 0
Led_to T b step parts = ((V : Option AsnType) × (c : List ℕ) × ((o : Answer) → lookup o step parts ≡ found V c) × CanSplit V c) ⊎ ((o : Answer) → lookup o step parts ≡ o)

one_step : (T : AsnType) (b : List ℕ) → CanSplit (Some T) b → (step : plain.Step) → (parts : List plain.Part) × (parts_in (read_parts T (at b (length b))) ≡ parts) × Led_to T b step parts
unfolding Led_to
one_step T b ((w, d), (v, s)) step =
    let o = splits T v b s in
    (o.0, split_read T w d o.0 b o.1, by_child (child_in step (pieces T v)) (led (pieces T v) o.0 o.2 step) (child_kept step (pieces T v) (kept T w d v)))
  where
    by_child : (c : Child) → Led c (λ o. lookup o step (splits T v b s).0) → KeptChild c → Led_to T b step (splits T v b s).0
    by_child (typed need U x) (c, e, y) k = inl (Some U, c, e, (k, (x, y)))
    by_child (untyped u) e k = inl (None, u, e, tt)
    by_child nothing_there e k = inr e

not_nothing : (k : Bool) (V : Option AsnType) (c : List ℕ) → nothing_at k ≡ found V c → ⊥
not_nothing true V c e = cc
not_nothing false V c e = cc

abbrev as_found : Option AsnType → List ℕ → Answer
as_found V c = found V c

stays : (k : Bool) → go_on (nothing_at k) as_found ≡ nothing_at k
stays true = refl
stays false = refl

-- what is found in octets that can be split can be split
pub found_splits : (V : Option AsnType) (b : List ℕ) (step : plain.Step) (U : Option AsnType) (c : List ℕ) → CanSplit V b → find_part V b (step ∷ []) ≡ found U c → CanSplit U c
unfolding Led_to
found_splits None b step U c k e = absurd (cc)
found_splits (Some T) b step U c k e0 =
    let o = one_step T b k step in
    cases o.0 o.2 (ap (λ (ps : List plain.Part). go_on (lookup (nothing_at (knows T step)) step ps) as_found) (sym o.1) ∙ e0)
  where
    cases : (parts : List plain.Part) → Led_to T b step parts → go_on (lookup (nothing_at (knows T step)) step parts) as_found ≡ found U c → CanSplit U c
    cases parts (inl (V, d, e, y)) f =
        let same = same_found V U d c (ap (λ (a : Answer). go_on a as_found) (sym (e (nothing_at (knows T step)))) ∙ f) in
        subst (λ (x : List ℕ). CanSplit U x) same.1 (subst (λ (W : Option AsnType). CanSplit W d) same.0 y)
    cases parts (inr e) f = absurd (not_nothing (knows T step) U c (sym (stays (knows T step)) ∙ ap (λ (a : Answer). go_on a as_found) (sym (e (nothing_at (knows T step)))) ∙ f))

pub found_step : (V : Option AsnType) (T : AsnType) (b : List ℕ) (step : plain.Step) (U : Option AsnType) (c : List ℕ) → V ≡ Some T → found U c ≡ lookup (nothing_at (knows T step)) step (parts_in (read_parts T (at b (length b)))) → find_part V b (step ∷ []) ≡ found U c
found_step V T b step U c is e = ap (λ (W : Option AsnType). find_part W b (step ∷ [])) is ∙ ap (λ (a : Answer). go_on a as_found) (sym e)

-- ---- further steps

then_nothing : (k : Bool) (V : Option AsnType) (b : List ℕ) (step : plain.Step) (path : List plain.Step) → find_part V b (step ∷ []) ≡ nothing_at k → find_part V b (step ∷ path) ≡ nothing_at k
then_nothing k None b step path e = e
then_nothing k (Some T) b step path e0 = cases k (lookup (nothing_at (knows T step)) step (parts_in (read_parts T (at b (length b))))) e0 where
  cases : (k : Bool) (a : Answer) → go_on a as_found ≡ nothing_at k → go_on a (λ V c. find_part V c path) ≡ nothing_at k
  cases k (found V d) e = absurd (not_nothing k V d (sym e))
  cases k absent_part e = e
  cases k no_such_step e = e

-- where a step leads nowhere, the path does
pub path_stop : (k : Bool) (path : List Step) (i : ℕ) (o : Step) (V : Option AsnType) (b : List ℕ) (whole : Answer) → i < length path → find_part V b (path_of (drop i path)) ≡ whole → find_part V b (step_of (get_or path i o) ∷ []) ≡ nothing_at k → whole ≡ nothing_at k
path_stop k path i o V b whole less inv e =
    sym inv ∙ ap (λ (l : List Step). find_part V b (path_of l)) (drop-cons path i o less) ∙ then_nothing k V b (step_of (get_or path i o)) (path_of (drop (suc i) path)) e

pub stop_agrees : {A : Type 0} (f : A → List ℕ) (r : Result A PartFault) (e : PartFault) (V : Option AsnType) (b : List ℕ) (step : plain.Step) (whole : Answer) → r ≡ Err e → Enters V b step (Err e) → ((k : Bool) → find_part V b (step ∷ []) ≡ nothing_at k → whole ≡ nothing_at k) → Agrees f r whole
stop_agrees f r (Read e) V b step whole is x stop = absurd x
stop_agrees f r NoSuchStep V b step whole is x stop = subst (λ q. Agrees f q whole) (sym is) (stop false x)
stop_agrees f r Absent V b step whole is x stop = subst (λ q. Agrees f q whole) (sym is) (stop true x)

-- ---- the whole

front_is : (octets b rest : List ℕ) (n : ℕ) → octets ≡ b ++ rest → n ≡ length b → take n octets ≡ b
front_is octets b rest n e is = ap (take n) e ∙ take_at b rest n (sym is)

one_front : (octets b c rest more : List ℕ) → octets ≡ b ++ rest → octets ≡ c ++ more → length b ≡ length c → c ≡ b
one_front octets b c rest more e f same = sym (front_is octets c more (length c) f refl) ∙ ap (λ (n : ℕ). take n octets) (sym same) ∙ front_is octets b rest (length b) e refl

module _ {A : Type 0} (f : A → List ℕ) (T : AsnType) (w : KeepsLimits T) (d : DefaultsFit T) (octets : List ℕ) (path : List plain.Step) (verdict : Verdict) (told : Tells T octets (Ok verdict)) where
  abbrev whole : List ℕ
  whole = take verdict.octets octets

  is_front : whole ≡ told.0
  is_front = front_is octets told.0 told.1 verdict.octets told.2 told.3

  pub whole_splits : CanSplit (Some T) whole
  whole_splits = subst (λ (b : List ℕ). CanSplit (Some T) b) (sym is_front) ((w, d), (told.4.0, told.4.1.2))

  in_front : (result : Result A PartFault) → Agrees f result (find_part (Some T) whole path) → Agrees f result (find_part (Some T) told.0 path)
  in_front result = subst (λ (b : List ℕ). Agrees f result (find_part (Some T) b path)) is_front

  hands_by : (result : Result A PartFault) → Agrees f result (find_part (Some T) told.0 path) → Hands f T octets path result
  hands_by (Ok s) (U, e) = (told.0, told.1, told.2, told.4, (U, (finds_parts T w d told.4.0 told.0 told.4.1 path U (f s)).0 e))
  hands_by (Err (Read e)) a = absurd a
  hands_by (Err NoSuchStep) a = (told.0, told.1, told.2, told.4, (misses_parts T w d told.4.0 told.0 told.4.1 path false).0 a)
  hands_by (Err Absent) a = (told.0, told.1, told.2, told.4, (misses_parts T w d told.4.0 told.0 told.4.1 path true).0 a)

  pub hands : (result : Result A PartFault) → Agrees f result (find_part (Some T) whole path) → Hands f T octets path result
  hands result a = hands_by result (in_front result a)

  handed : (result : Result A PartFault) (U : Option AsnType) (s : List ℕ) → Agrees f result (found U s) → IsHanded f s result
  handed (Ok r) U s (V, e) = (let same = same_found U V s (f r) e in sym same.1)
  handed (Err (Read e)) U s a = a
  handed (Err NoSuchStep) U s a = absurd (cc)
  handed (Err Absent) U s a = absurd (cc)

  missed_by : (known : Bool) (result : Result A PartFault) → Agrees f result (nothing_at known) → IsMissed known result
  missed_by known (Ok r) (V, e) = not_nothing known V (f r) e
  missed_by known (Err (Read e)) a = absurd a
  missed_by true (Err NoSuchStep) a = absurd (cc)
  missed_by false (Err NoSuchStep) a = refl
  missed_by true (Err Absent) a = refl
  missed_by false (Err Absent) a = absurd (cc)

  pub follows : (result : Result A PartFault) → Finds T octets (Ok verdict) → Agrees f result (find_part (Some T) whole path) → Follows f T octets path result
  follows result comes a v b rest e s =
      let long : verdict.octets ≡ length b = comes v b rest e s in
      let same : b ≡ told.0 = one_front octets told.0 b told.1 rest told.2 e (sym told.3 ∙ long) in
      let here = in_front result a in
      let enc : Encodes T v told.0 = subst (λ (c : List ℕ). Encodes T v c) same s in (
        λ U c within. handed result U c (subst (Agrees f result) ((finds_parts T w d v told.0 enc path U c).1 (subst (λ (x : List ℕ). Within (Some T) x path U c) same within)) here),
        λ known stops. missed_by known result (subst (Agrees f result) ((misses_parts T w d v told.0 enc path known).1 (subst (λ (x : List ℕ). StopsAt (Some T) x path known) same stops)) here),
      )
