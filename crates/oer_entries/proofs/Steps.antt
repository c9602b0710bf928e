-- What the methods of a way do to its parts.
use Rattle.std.proofs.Common.{◌≡◌, ◌<◌, ◌≤◌, ◌+◌, ◌-◌, ℕ, zero, suc, Bool, true, false, List, [], ◌∷◌, ◌++◌, length, map, take, drop, get_or, slice_set, Option, Some, None, string_bytes, vec_len, refl, sym, ap, ap₂, subst, ◌∙◌, append_assoc, add-one, arith, drop-cons, length-append, length-drop, if◌then◌else◌}
use Rattle.std.specs.Option.{option_eq}
use Rattle.std.specs.String.Boundary.{IsSplitPoint}
use Rattle.std.proofs.Math.Seq.{take-append_seam}
use Rattle.std.proofs.lemmas.List.{drop-map, length-map, length-take-le, map-append, take-map, take_all}
use Rattle.oer_model.specs.AsnType.{AsnType}
use Rattle.oer_model.specs.Parts.{same_step}
use Rattle.oer_parts.specs.Walk.{step_of}
use Rattle.oer_parts.specs.declared.step.Step.{Step}
use Rattle.oer_checker.proofs.BitLists.{drop_past}
use Rattle.oer_entries.specs.Frames.{Seen, fresh, seen}
use Rattle.oer_entries.specs.Known.{Known}
use Rattle.oer_entries.specs.Names.{text_of}
use Rattle.oer_entries.specs.Next.{gone, gone_on, next_in, through}
use Rattle.oer_entries.specs.Trails.{AreParts, IsWay, common, entered, grown_from, inner_of, known_from, last_by, leads_to, names_in, parts_of, path_in, reached}
use Rattle.oer_entries.specs.Ways.{pointed, step_text}
use Rattle.oer_entries.specs.declared.frame.Frame.{Frame}
use Rattle.oer_entries.specs.declared.next.Next.{Next}
use Rattle.oer_entries.specs.declared.way.Way.{Way}
use Rattle.oer_entries.proofs.Chains.{Stays, entered_snoc, gone_back, gone_here, gone_whole, grown_step, grown_whole, last_by_snoc, names_last, names_snoc, parts_entered, parts_last, parts_take, path_last, path_snoc}
use Rattle.oer_entries.proofs.Texts.{Cuts, cut_at, last_of, last_snoc}

-- ---- the last of the frames

-- x is the last of xs, at place m
pub record Ends (xs : List Frame) (m : ℕ) (x : Frame) : Type 0 where
  pub front : List Frame
  pub is : xs ≡ front ++ x ∷ []
  pub set : (y : Frame) → slice_set xs m y ≡ front ++ y ∷ []

ends_at : (xs : List Frame) (m : ℕ) (x : Frame) → suc m ≡ length xs → x ≡ get_or xs m x → Ends xs m x
ends_at [] m x long is = absurd (omega arith)
ends_at (y ∷ []) zero x long is = record { front = []; is = ap (λ (z : Frame). z ∷ []) (sym is); set = λ z. refl }
ends_at (y ∷ []) (suc m) x long is = absurd (omega arith)
ends_at (y ∷ z ∷ zs) zero x long is = absurd (omega arith)
ends_at (y ∷ z ∷ zs) (suc m) x long is =
    let r = ends_at (z ∷ zs) m x (omega arith) is in
    record { front = y ∷ r.front; is = ap (λ (l : List Frame). y ∷ l) r.is; set = λ w. ap (λ (l : List Frame). y ∷ l) (r.set w) }

pub ends : (xs : List Frame) (n : ℕ) (x : Frame) → n ≡ length xs → 1 ≤ n → x ≡ get_or xs (n - 1) x → Ends xs (n - 1) x
ends xs n x long some is = ends_at xs (n - 1) x (omega arith) is

seen_snoc : (front : List Frame) (x : Frame) → map seen (front ++ x ∷ []) ≡ map seen front ++ seen x ∷ []
seen_snoc front x = map-append seen front (x ∷ [])

-- ---- note

pub noted_parts : (items : List Frame) (n : ℕ) (x y : Frame) (g : Seen → Seen) → n ≡ length items → 1 ≤ n → x ≡ get_or items (n - 1) x → seen y ≡ g (seen x)
    → map seen (slice_set items (n - 1) y) ≡ last_by g (map seen items)
noted_parts items n x y g long some is new =
    let e = ends items n x long some is in
    ap (map seen) (e.set y) ∙ seen_snoc e.front y ∙ ap (λ (z : Seen). map seen e.front ++ z ∷ []) new
    ∙ sym (last_by_snoc g (map seen e.front) (seen x)) ∙ ap (last_by g) (sym (seen_snoc e.front x)) ∙ ap (λ (l : List Frame). last_by g (map seen l)) (sym e.is)

pub noted_way : (T : AsnType) (old new : Way) (g : Seen → Seen) → ((f : Seen) → Stays g f) → parts_of new ≡ last_by g (parts_of old)
    → string_bytes new.path ≡ string_bytes old.path → string_bytes new.names ≡ string_bytes old.names → IsWay T old → IsWay T new
noted_way T old new g stays is path names h =
    let P : List Seen → Type 0 = AreParts T in record {
      parts = subst P (sym is) (parts_last T g (parts_of old) stays h.parts);
      path = path ∙ h.path ∙ sym (path_last g (parts_of old) stays) ∙ ap path_in (sym is);
      names = names ∙ h.names ∙ sym (names_last g (parts_of old) stays) ∙ ap names_in (sym is);
    }

-- ---- go_back

record BothCut (fs : List Seen) (x : Seen) (k : ℕ) : Type 0 where
  pub path : Cuts (path_in fs) x.path_end (path_in (take k fs))
  pub names : Cuts (names_in fs) x.names_end (names_in (take k fs))

back_at : (T : AsnType) (fs : List Seen) (k : ℕ) (front : List Seen) (x : Seen) → AreParts T fs → 1 ≤ k → take k fs ≡ front ++ x ∷ [] → BothCut fs x k
back_at T fs zero front x h some is = absurd (omega arith)
back_at T [] (suc k) front x h some is = absurd h
back_at T (f ∷ fs) (suc k) front x (whole, more) some is =
    let c = cut_at f fs [] [] k more whole.path_end whole.names_end in
    let e : last_of f (take k fs) ≡ x = last_snoc f (take k fs) front x is in
    record {
      path = subst (λ (y : Seen). Cuts (path_in (f ∷ fs)) y.path_end (path_in (f ∷ take k fs))) e c.path;
      names = subst (λ (y : Seen). Cuts (names_in (f ∷ fs)) y.names_end (names_in (f ∷ take k fs))) e c.names;
    }

pub back_way : (T : AsnType) (old new : Way) (k : ℕ) (front : List Frame) (x : Frame) → IsWay T old → 1 ≤ k → new.frames.items ≡ take k old.frames.items → new.frames.items ≡ front ++ x ∷ []
    → (IsSplitPoint (string_bytes old.path) x.path_end → string_bytes new.path ≡ take x.path_end (string_bytes old.path))
    → (IsSplitPoint (string_bytes old.names) x.names_end → string_bytes new.names ≡ take x.names_end (string_bytes old.names))
    → IsWay T new
back_way T old new k front x h some is split path names =
    let fs = parts_of old in
    let kept : parts_of new ≡ take k fs = ap (map seen) is ∙ sym (take-map seen k old.frames.items) in
    let ends : take k fs ≡ map seen front ++ seen x ∷ [] = sym kept ∙ ap (map seen) split ∙ seen_snoc front x in
    let c = back_at T fs k (map seen front) (seen x) h.parts some ends in
    let P : List Seen → Type 0 = AreParts T in
    let A : List ℕ → Type 0 = λ l. IsSplitPoint l x.path_end in
    let B : List ℕ → Type 0 = λ l. IsSplitPoint l x.names_end in
    record {
      parts = subst P (sym kept) (parts_take T fs k some h.parts);
      path = path (subst A (sym h.path) c.path.at) ∙ ap (take x.path_end) h.path ∙ c.path.is ∙ ap path_in (sym kept);
      names = names (subst B (sym h.names) c.names.at) ∙ ap (take x.names_end) h.names ∙ c.names.is ∙ ap names_in (sym kept);
    }

-- ---- enter

ended_as : (f : Frame) (s : Step) (k : Known) (a b : ℕ) → seen f ≡ fresh (Some s) k 0 0 → seen (record f { path_end = a; names_end = b }) ≡ fresh (Some s) k a b
ended_as f s k a b e = ap (λ (g : Seen). record g { path_end = a; names_end = b }) e

-- the frames after the step into the last of them
pub enter_parts : (items new : List Frame) (n : ℕ) (x inner : Frame) (s : Step) (path names path' names' : List ℕ) (a b : ℕ)
    → n ≡ length items → 1 ≤ n → x ≡ get_or items (n - 1) x → seen inner ≡ fresh (Some s) (known_from (seen x) s) 0 0
    → path ≡ path_in (map seen items) → names ≡ names_in (map seen items) → path' ≡ pointed path ++ step_text s → names' ≡ pointed names ++ text_of inner.name
    → a ≡ length path' → b ≡ length names'
    → new ≡ slice_set items (n - 1) (record x { last = Some s }) ++ record inner { path_end = a; names_end = b } ∷ []
    → map seen new ≡ entered s (map seen items)
enter_parts items new n x inner s path names path' names' a b long some is fresh_is path_is names_is path_new names_new a_is b_is new_is =
    let e = ends items n x long some is in
    let x' : Frame = record x { last = Some s } in
    let y : Frame = record inner { path_end = a; names_end = b } in
    let k = known_from (seen x) s in
    let parts : map seen items ≡ map seen e.front ++ seen x ∷ [] = ap (map seen) e.is ∙ seen_snoc e.front x in
    let long_path : a ≡ length (pointed (path_in (map seen items)) ++ step_text s) =
    a_is ∙ ap length path_new ∙ ap (λ (l : List ℕ). length (pointed l ++ step_text s)) path_is in
    let long_names : b ≡ length (pointed (names_in (map seen items)) ++ k.name) =
    b_is ∙ ap length names_new ∙ ap₂ (λ (l : List ℕ) (m : List ℕ). length (pointed l ++ m)) names_is (ap (λ (g : Seen). g.is.name) fresh_is) in
    let inside : seen y ≡ inner_of (seen x) (path_in (map seen items)) (names_in (map seen items)) s =
    ended_as inner s k a b fresh_is ∙ ap₂ (fresh (Some s) k) long_path long_names in
    ap (map seen) (new_is ∙ ap (λ (l : List Frame). l ++ y ∷ []) (e.set x')) ∙ map-append seen (e.front ++ x' ∷ []) (y ∷ [])
    ∙ ap (λ (l : List Seen). l ++ seen y ∷ []) (seen_snoc e.front x') ∙ append_assoc (map seen e.front) (seen x' ∷ []) (seen y ∷ [])
    ∙ ap (λ (z : Seen). map seen e.front ++ (seen x' ∷ z ∷ [])) inside
    ∙ ap (λ (l : List Seen). map seen e.front ++ (seen x' ∷ inner_of (seen x) (path_in l) (names_in l) s ∷ [])) parts
    ∙ sym (entered_snoc s (map seen e.front) (seen x)) ∙ ap (entered s) (sym parts)

pub enter_way : (T : AsnType) (old new : Way) (x inner : Frame) (s : Step) → IsWay T old → vec_len old.frames ≡ length old.frames.items → 1 ≤ vec_len old.frames
    → x ≡ get_or old.frames.items (vec_len old.frames - 1) x → seen inner ≡ fresh (Some s) (known_from (seen x) s) 0 0
    → string_bytes new.path ≡ pointed (string_bytes old.path) ++ step_text s → string_bytes new.names ≡ pointed (string_bytes old.names) ++ text_of inner.name
    → parts_of new ≡ entered s (parts_of old) → IsWay T new
enter_way T old new x inner s h long some is fresh_is path names new_is =
    let fs = parts_of old in
    let e = ends old.frames.items (vec_len old.frames) x long some is in
    let parts : fs ≡ map seen e.front ++ seen x ∷ [] = ap (map seen) e.is ∙ seen_snoc e.front x in
    let P : List Seen → Type 0 = AreParts T in
    record {
      parts = subst P (sym new_is) (parts_entered T s fs h.parts);
      path = path ∙ ap (λ (l : List ℕ). pointed l ++ step_text s) (h.path ∙ ap path_in parts)
          ∙ sym (path_snoc s (map seen e.front) (seen x)) ∙ ap (λ (l : List Seen). path_in (entered s l)) (sym parts) ∙ ap path_in (sym new_is);
      names = names ∙ ap₂ (λ (l : List ℕ) (m : List ℕ). pointed l ++ m) (h.names ∙ ap names_in parts) (ap (λ (g : Seen). g.is.name) fresh_is)
          ∙ sym (names_snoc s (map seen e.front) (seen x)) ∙ ap (λ (l : List Seen). names_in (entered s l)) (sym parts) ∙ ap names_in (sym new_is);
    }

-- ---- go_on

-- the last part isn't through
pub on_here : (read : ℕ) (fs : List Frame) (front : List Frame) (x : Frame) (m : Next) → fs ≡ front ++ x ∷ [] → m ≡ next_in (seen x) → through read x.end m ≡ false
    → gone_on read (map seen fs) ≡ gone m (map seen fs)
on_here read fs front x m is next rest =
    let parts : map seen fs ≡ map seen front ++ seen x ∷ [] = ap (map seen) is ∙ seen_snoc front x in
    ap (gone_on read) parts ∙ gone_here read (map seen front) (seen x) (ap (through read x.end) (sym next) ∙ rest)
    ∙ ap₂ gone (sym next) (sym parts)

-- it is, and it is the whole
pub on_whole : (read : ℕ) (fs : List Frame) (front : List Frame) (x : Frame) (m : Next) → fs ≡ front ++ x ∷ [] → length fs < 2 → m ≡ next_in (seen x) → through read x.end m ≡ true
    → gone_on read (map seen fs) ≡ map seen fs
on_whole read fs [] x m is few next all =
    ap (λ (l : List Frame). gone_on read (map seen l)) is ∙ gone_whole read (seen x) (ap (through read x.end) (sym next) ∙ all) ∙ ap (map seen) (sym is)
on_whole read fs (f ∷ front) x m is few next all =
    let long : length fs ≡ suc (length front + 1) = ap length is ∙ ap suc (length-append front (x ∷ [])) in absurd (omega (arith, long, few))

-- it is, and there are others
pub on_back : (read : ℕ) (fs : List Frame) (front : List Frame) (x : Frame) (m : Next) (k : ℕ) → fs ≡ front ++ x ∷ [] → k + 1 ≡ length fs → 1 ≤ k → m ≡ next_in (seen x)
    → through read x.end m ≡ true
    → gone_on read (take k (map seen fs)) ≡ gone_on read (map seen fs)
on_back read fs [] x m k is long some next all = let one : length fs ≡ 1 = ap length is in absurd (omega (arith, long, some, one))
on_back read fs (f ∷ front) x m k is long some next all =
    let size : length fs ≡ suc (length front + 1) = ap length is ∙ ap suc (length-append front (x ∷ [])) in
    let k_is : k ≡ length (map seen (f ∷ front)) = omega (arith, long, size, length-map (f ∷ front) seen) in
    let parts : map seen fs ≡ map seen (f ∷ front) ++ seen x ∷ [] = ap (map seen) is ∙ seen_snoc (f ∷ front) x in
    ap₂ (λ (i : ℕ) (l : List Seen). gone_on read (take i l)) k_is parts
    ∙ ap (gone_on read) (take-append_seam (map seen (f ∷ front)) (seen x ∷ []))
    ∙ sym (gone_back read (seen f) (map seen front) (seen x) (ap (through read x.end) (sym next) ∙ all))
    ∙ ap (gone_on read) (sym parts)

pub back_length : (new old : List Frame) (k : ℕ) → map seen new ≡ take k (map seen old) → k ≤ length old → length new ≡ k
back_length new old k is le =
    sym (length-map new seen) ∙ ap length is ∙ length-take-le k (map seen old) (let e : length (map seen old) ≡ length old = length-map old seen in omega (arith, e, le))

-- ---- shared

none_common : (gs : List Seen) → common gs [] ≡ 0
none_common [] = refl
none_common (g ∷ gs) = refl

frame_here : (fs : List Frame) (k : ℕ) (x : Frame) → k < length fs → x ≡ get_or fs k x → drop k (map seen fs) ≡ seen x ∷ drop (suc k) (map seen fs)
frame_here fs k x less is =
    drop-map seen k fs ∙ ap (map seen) (drop-cons fs k x less ∙ ap (λ (y : Frame). y ∷ drop (suc k) fs) (sym is))
    ∙ ap (λ (l : List Seen). seen x ∷ l) (sym (drop-map seen (suc k) fs))

step_here : (path : List Step) (i : ℕ) (d : Step) → i < length path → drop i path ≡ get_or path i d ∷ drop (suc i) path
step_here path i d less = drop-cons path i d less

-- the next frame is on the path
pub common_more : (fs : List Frame) (path : List Step) (k i : ℕ) (x : Frame) (d : Step) → k < length fs → x ≡ get_or fs k x → i < length path
    → leads_to (get_or path i d) x.step ≡ true → common (drop (k + 1) (map seen fs)) (drop (i + 1) path) + (k + 1) ≡ common (drop k (map seen fs)) (drop i path) + k
common_more fs path k i x d less is inside on =
    let one : common (drop k (map seen fs)) (drop i path) ≡ suc (common (drop (suc k) (map seen fs)) (drop (suc i) path)) =
    ap₂ common (frame_here fs k x less is) (step_here path i d inside)
    ∙ ap (λ (b : Bool). if b then suc (common (drop (suc k) (map seen fs)) (drop (suc i) path)) else 0) on in
    let two : common (drop (k + 1) (map seen fs)) (drop (i + 1) path) ≡ common (drop (suc k) (map seen fs)) (drop (suc i) path) =
    ap₂ (λ (a b : ℕ). common (drop a (map seen fs)) (drop b path)) (add-one k) (add-one i) in
    omega (arith, one, two)

-- it isn't
pub common_less : (fs : List Frame) (path : List Step) (k i : ℕ) (x : Frame) (d : Step) → k < length fs → x ≡ get_or fs k x → i < length path
    → leads_to (get_or path i d) x.step ≡ false → common (drop k (map seen fs)) (drop i path) ≡ 0
common_less fs path k i x d less is inside off =
    ap₂ common (frame_here fs k x less is) (step_here path i d inside)
    ∙ ap (λ (b : Bool). if b then suc (common (drop (suc k) (map seen fs)) (drop (suc i) path)) else 0) off

-- there is none
pub common_past : (fs : List Frame) (path : List Step) (k i : ℕ) → length fs ≤ k → common (drop k (map seen fs)) (drop i path) ≡ 0
common_past fs path k i le =
    ap (λ (l : List Seen). common l (drop i path)) (drop_past k (map seen fs) (let e : length (map seen fs) ≡ length fs = length-map fs seen in omega (arith, e, le)))

-- the path ends
pub common_end : (fs : List Frame) (path : List Step) (k i : ℕ) → length path ≤ i → common (drop k (map seen fs)) (drop i path) ≡ 0
common_end fs path k i le = ap (common (drop k (map seen fs))) (drop_past i path le) ∙ none_common (drop k (map seen fs))

pub eq_leads : (E : Step → Step → Bool) → ((a b : Step) → E a b ≡ same_step (step_of a) (step_of b)) → (o : Option Step) (s : Step) → option_eq E o (Some s) ≡ leads_to s o
eq_leads E law None s = refl
eq_leads E law (Some t) s = law t s

-- ---- go_to

rest_is : (path : List Step) (k : ℕ) → take (length path - k) (drop k path) ≡ drop k path
rest_is path k = take_all (length path - k) (drop k path) (let e = length-drop k path in omega (arith, e))

-- where the steps begin that are left to go
pub reached_init : (path : List Step) (parts : List Seen) (count : ℕ) → count ≡ common (drop 1 parts) path + 1
    → grown_from (take (length path - (count - 1)) (drop (count - 1) path)) [] [] (take count parts) ≡ reached path parts
reached_init path parts count is =
    let kept = common (drop 1 parts) path in
    let less : count - 1 ≡ kept = omega (arith, is) in
    let more : count ≡ suc kept = omega (arith, is) in
    ap₂ (λ (l : List Step) (k : ℕ). grown_from l [] [] (take k parts)) (rest_is path (count - 1) ∙ ap (λ (k : ℕ). drop k path) less) more

pub grown_round : (items : List Step) (i : ℕ) (d : Step) (fs new : List Seen) → i < length items → new ≡ entered (get_or items i d) fs
    → grown_from (drop (i + 1) items) [] [] new ≡ grown_from (drop i items) [] [] fs
grown_round items i d fs new less new_is =
    ap₂ (λ (k : ℕ) (l : List Seen). grown_from (drop k items) [] [] l) (add-one i) new_is
    ∙ sym (grown_step (get_or items i d) (drop (suc i) items) fs) ∙ ap (λ (l : List Step). grown_from l [] [] fs) (sym (step_here items i d less))

pub grown_end : (items : List Step) (i : ℕ) (fs : List Seen) → length items ≤ i → fs ≡ grown_from (drop i items) [] [] fs
grown_end items i fs le = sym (grown_whole fs) ∙ ap (λ (l : List Step). grown_from l [] [] fs) (sym (drop_past i items le))
