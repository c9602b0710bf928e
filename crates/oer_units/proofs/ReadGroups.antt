-- A group of octets that is read one octet after another.
use Rattle.std.proofs.Common.{◌≡◌, ◌≢◌, ℕ, zero, suc, ◌+◌, ◌-◌, ◌<◌, ◌≤◌, Bool, true, false, List, [], ◌∷◌, ◌++◌, length, take, drop, get_or, Option, Some, None, Result, Ok, Err, arith, refl, sym, take_all, append_assoc, is_err, OnOk, ap, ◌∙◌, inl, inr, subst}
use Rattle.std.proofs.lemmas.Bool.{le-leb, lt-leb}
use Rattle.std.proofs.lemmas.Bool.{cases_lt, true≢false}
use Rattle.std.proofs.lemmas.List.{length-append, length-drop, length-take-le, drop-drop, take-append-le, take-append-drop}
use Rattle.std.proofs.lemmas.Slice.{take-put_mid}
use borrow.Rule.Slice.PartMut.{put_mid, post_of}
use Rattle.std.proofs.Math.Seq.{take-append_seam, drop-append_seam, take-add, take-append-add}
use Rattle.std.specs.List.{AllByRecursion}
use Rattle.oer_units.specs.declared.fault.Why.{Why}
use Rattle.oer_units.specs.declared.fault.Why.TheVariants.{Device, Memory, End, Limit, Window}
use Rattle.oer_units.specs.declared.fault.ReadFault.{ReadFault}
use Rattle.oer_units.specs.Reader.{Place, at, Outcome, got, refused, Reader, bind, give, refuse, group, within, then_read}
use Rattle.oer_units.specs.Reading.{octet}
use Rattle.std.specs.Io.KnownBytes.{Consumes, IsAtEnd}
use Rattle.oer_units.specs.Fixed.{group_as}
use Rattle.oer_units.specs.ReadingSteps.{allow_at}
use Rattle.oer_units.specs.Reads.{Took, Span, place, named, seen, Exactly, Made, State, Reads, Leads}
use Rattle.oer_units.proofs.ReadSteps.{Reads-then, Reads-stop, Reads-give, Reads-map, Reads-same, Reads-refused, Reads-memory}

pub group_over : (n : ℕ) (xs : List ℕ) (left : ℕ) → left < n → group n (at xs left) ≡ refused Limit xs
unfolding group
group_over n xs left less = rw (lt-leb n left less) refl

pub group_short : (n : ℕ) (xs : List ℕ) (left : ℕ) → n ≤ left → length xs < n → group n (at xs left) ≡ refused End []
unfolding group
group_short n xs left le less = rw (le-leb n left le, lt-leb n (length xs) less) refl

pub group_there : (n : ℕ) (xs : List ℕ) (left : ℕ) → n ≤ left → n ≤ length xs → group n (at xs left) ≡ got (take n xs) (at (drop n xs) (left - n))
unfolding group
group_there n xs left le there = rw (le-leb n left le, le-leb n (length xs) there) refl

pub octet_some : (x : ℕ) (xs : List ℕ) (left : ℕ) → 1 ≤ left → octet (at (x ∷ xs) left) ≡ got x (at xs (left - 1))
unfolding octet bind give
octet_some x xs left le = rw (group_there 1 (x ∷ xs) left le (omega arith)) refl

pub octet_none : (left : ℕ) → 1 ≤ left → octet (at [] left) ≡ refused End []
unfolding octet bind
octet_none left le = rw (group_short 1 [] left le (omega arith)) refl

bind_is : {A B : Type 0} (m : Reader A) (f : A → Reader B) (p : Place) (x : A) (q : Place) → m p ≡ got x q → bind m f p ≡ f x q
unfolding bind
bind_is m f p x q e = ap (λ o. then_read f o) e

bind_no : {A B : Type 0} (m : Reader A) (f : A → Reader B) (p : Place) (why : Why) (rest : List ℕ) → m p ≡ refused why rest → bind m f p ≡ refused why rest
unfolding bind
bind_no m f p why rest e = ap (λ o. then_read f o) e

-- the first octet, and then the others
abbrev pub first_and : ℕ → Reader (List ℕ)
first_and k = bind octet (λ x. bind (group k) (λ w. give (x ∷ w)))

one_and : (k : ℕ) (x : ℕ) (w : List ℕ) (q : Place) → give (x ∷ w) q ≡ got (x ∷ w) q
unfolding give
one_and k x w q = refl

pub group_step : (k : ℕ) (xs : List ℕ) (left : ℕ) → suc k ≤ left → first_and k (at xs left) ≡ group (suc k) (at xs left)
group_step k [] left le = bind_no octet _ (at [] left) End [] (octet_none left (omega arith)) ∙ sym (group_short (suc k) [] left le (omega arith))
group_step k (x ∷ xs) left le =
    elim (cases_lt (length xs) k) [
      | inl less ↦
          bind_is octet _ (at (x ∷ xs) left) x (at xs (left - 1)) (octet_some x xs left (omega arith))
          ∙ bind_no (group k) (λ w. give (x ∷ w)) (at xs (left - 1)) End [] (group_short k xs (left - 1) (omega arith) less)
          ∙ sym (group_short (suc k) (x ∷ xs) left le (omega arith))
      | inr there ↦
          bind_is octet _ (at (x ∷ xs) left) x (at xs (left - 1)) (octet_some x xs left (omega arith))
          ∙ bind_is (group k) (λ w. give (x ∷ w)) (at xs (left - 1)) (take k xs) (at (drop k xs) (left - 1 - k)) (group_there k xs (left - 1) (omega arith) there)
          ∙ one_and k x (take k xs) (at (drop k xs) (left - 1 - k))
          ∙ ap (λ (l : ℕ). got (x ∷ take k xs) (at (drop k xs) l)) (omega arith)
          ∙ sym (group_there (suc k) (x ∷ xs) left le (omega arith))
    ]

-- seen as it is
pub seen_same : {A : Type 0} (f : A → A) (r : Reader A) (s s' : State) (result : Result A ReadFault) → ((x : A) → f x ≡ x) → Reads r s result s' → Reads r s (seen f result) s'
seen_same {A} f r s s' (Ok x) same h = subst (λ (y : A). Reads r s (Ok y) s') (sym (same x)) h
seen_same f r s s' (Err e) same h = h

-- none of n octets is read yet
pub none_yet : (n : ℕ) (s : State) → n ≤ s.bound.end - s.bound.taken → Leads (group (n - 0)) s (λ w. [] ++ w) (group n) s
none_yet n s le result then h =
    let same : n - 0 ≡ n = omega arith in
    seen_same (λ w. w) (group n) s then result (λ x. refl) (subst (λ (k : ℕ). Reads (group k) s result then) same h)

pub seen_twice : {A B C : Type 0} (f : A → B) (g : B → C) (h : A → C) (r : Reader C) (s s' : State) (result : Result A ReadFault) → ((x : A) → g (f x) ≡ h x) → Reads r s (seen g (seen f result)) s' → Reads r s (seen h result) s'
seen_twice {A} {B} {C} f g h r s s' (Ok x) same p = subst (λ (y : C). Reads r s (Ok y) s') (same x) p
seen_twice f g h r s s' (Err e) same p = p

-- one octet more was read
pub one_more_read : {A : Type 0} (k n : ℕ) (s s' old : State) (x : ℕ) (f g : List ℕ → A) (whole : Reader A) → k ≡ suc n → k ≤ s.bound.end - s.bound.taken → ((w : List ℕ) → f (x ∷ w) ≡ g w) → Leads (group k) s f whole old → Reads octet s (Ok x) s' → Leads (group n) s' g whole old
one_more_read k n s s' old x f g whole is le same p r result then h =
    let step : Reads (first_and n) s (seen (λ w. x ∷ w) result) then = Reads-then octet _ s s' then x (seen (λ w. x ∷ w) result) r (Reads-map (group n) (λ w. x ∷ w) s' then result h) in
    let here : Reads (group (suc n)) s (seen (λ w. x ∷ w) result) then = Reads-same (first_and n) (group (suc n)) s then (seen (λ w. x ∷ w) result) (λ xs. group_step n xs (s.bound.end - s.bound.taken) (omega arith)) step in
    seen_twice (λ w. x ∷ w) f g whole old then result same (p (seen (λ w. x ∷ w) result) then (subst (λ (j : ℕ). Reads (group j) s (seen (λ w. x ∷ w) result) then) (sym is) here))

-- the next octet is refused
pub next_refused : {A : Type 0} (k n : ℕ) (s s' old : State) (e : ReadFault) (f : List ℕ → A) (whole : Reader A) → k ≡ suc n → k ≤ s.bound.end - s.bound.taken → Leads (group k) s f whole old → Reads octet s (Err e) s' → Reads whole old (Err e) s'
next_refused k n s s' old e f whole is le p r =
    let step : Reads (first_and n) s (Err e) s' = Reads-stop octet _ s s' e r in
    let here : Reads (group (suc n)) s (Err e) s' = Reads-same (first_and n) (group (suc n)) s s' (Err e) (λ xs. group_step n xs (s.bound.end - s.bound.taken) (omega arith)) step in
    p (Err e) s' (subst (λ (j : ℕ). Reads (group j) s (Err e) s') (sym is) here)

pub group_zero : (xs : List ℕ) (left : ℕ) → give [] (at xs left) ≡ group 0 (at xs left)
unfolding give
group_zero xs left = sym (group_there 0 xs left (omega arith) (omega arith) ∙ ap (λ (l : ℕ). got [] (at xs l)) (omega arith))

-- all was read
pub all_read : {A : Type 0} (k : ℕ) (s old : State) (f : List ℕ → A) (v : A) (whole : Reader A) → k ≡ 0 → f [] ≡ v → Leads (group k) s f whole old → Reads whole old (Ok v) s
all_read {A} k s old f v whole is same p =
    let here : Reads (group 0) s (Ok []) s = Reads-same (give []) (group 0) s s (Ok []) (λ xs. group_zero xs (s.bound.end - s.bound.taken)) (Reads-give [] s) in
    subst (λ (y : A). Reads whole old (Ok y) s) same (p (Ok []) s (subst (λ (j : ℕ). Reads (group j) s (Ok []) s) (sym is) here))

-- memory ran out meanwhile
pub memory_out : {A : Type 0} (k : ℕ) (s old : State) (e : ReadFault) (f : List ℕ → A) (whole : Reader A) → e.why ≡ Memory → e.taken ≡ s.bound.taken → Leads (group k) s f whole old → Reads whole old (Err e) s
memory_out k s old e f whole is taken p = p (Err e) s (Reads-memory (group k) e s is taken)

-- the bound does not allow n octets
over_same : (n : ℕ) (xs : List ℕ) (b : Span) (o : Outcome ℕ) → allow_at n (place xs b) ≡ o → n ≤ b.end - b.taken → o ≡ got n (place xs b)
unfolding within give
over_same n xs b o e le = sym e ∙ rw (le-leb n (b.end - b.taken) le) refl

allow_over : {A : Type 0} (n : ℕ) (r : Reader A) (xs : List ℕ) (left : ℕ) → left < n → bind (allow_at n) (λ m. r) (at xs left) ≡ refused Limit xs
unfolding within bind give
allow_over n r xs left less = rw (lt-leb n left less) refl

allow_under : {A : Type 0} (n : ℕ) (r : Reader A) (xs : List ℕ) (left : ℕ) → n ≤ left → bind (allow_at n) (λ m. r) (at xs left) ≡ r (at xs left)
unfolding within bind give
allow_under n r xs left le = rw (le-leb n left le) refl

allow_group : (n : ℕ) (xs : List ℕ) (left : ℕ) → bind (allow_at n) (λ m. group n) (at xs left) ≡ group n (at xs left)
allow_group n xs left = elim (cases_lt left n) [
  | inl less ↦ allow_over n (group n) xs left less ∙ sym (group_over n xs left less)
  | inr le ↦ allow_under n (group n) xs left le
]

pub group_refused : (n : ℕ) (s : State) (e : ReadFault) → Reads (allow_at n) s (Err e) s → Reads (group n) s (Err e) s
group_refused n s e r = Reads-same (bind (allow_at n) (λ m. group n)) (group n) s s (Err e) (λ xs. allow_group n xs (s.bound.end - s.bound.taken)) (Reads-stop (allow_at n) (λ m. group n) s s e r)

pub group_as_refused : {A : Type 0} (n : ℕ) (f : List ℕ → A) (s : State) (e : ReadFault) → Reads (allow_at n) s (Err e) s → Reads (group_as n f) s (Err e) s
group_as_refused n f s e r = Reads-stop (group n) (λ w. give (f w)) s s e (group_refused n s e r)

-- what f makes of none so far
pub none_as : {A : Type 0} (n : ℕ) (f : List ℕ → A) (s : State) → Leads (group (n - 0)) s f (group_as n f) s
none_as n f s result then h =
    let same : n - 0 ≡ n = omega arith in
    Reads-map (group n) f s then result (subst (λ (k : ℕ). Reads (group k) s result then) same h)

-- ---- the bound

allow_is : (n : ℕ) (xs : List ℕ) (left : ℕ) → n ≤ left → give n (at xs left) ≡ allow_at n (at xs left)
unfolding within give
allow_is n xs left le = rw (le-leb n left le) refl

pub allow_ok : (n m : ℕ) (s : State) → n ≤ s.bound.end - s.bound.taken → m ≡ n → Reads (allow_at n) s (Ok m) s
allow_ok n m s le is = subst (λ (k : ℕ). Reads (allow_at n) s (Ok k) s) (sym is) (Reads-same (give n) (allow_at n) s s (Ok n) (λ xs. allow_is n xs (s.bound.end - s.bound.taken) le) (Reads-give n s))

allow_isnt : (n : ℕ) (xs : List ℕ) (left : ℕ) → left < n → refuse Limit (at xs left) ≡ allow_at n (at xs left)
unfolding within refuse
allow_isnt n xs left less = rw (lt-leb n left less) refl

pub allow_no : (n : ℕ) (s : State) (e : ReadFault) → s.bound.end - s.bound.taken < n → e.why ≢ Device → named s.bound.inside Limit ≡ e.why → e.taken ≡ s.bound.taken → Reads (allow_at n) s (Err e) s
allow_no n s e less other is taken = Reads-same (refuse Limit) (allow_at n) s s (Err e) (λ xs. allow_isnt n xs (s.bound.end - s.bound.taken) less) (Reads-refused ℕ Limit e s other is taken)

pub allow_window : (n : ℕ) (s : State) (e : ReadFault) → s.bound.end - s.bound.taken < n → s.bound.inside ≡ true → e.why ≡ Window → e.taken ≡ s.bound.taken → Reads (allow_at n) s (Err e) s
allow_window n s e less inside is taken = allow_no n s e less (λ (d : e.why ≡ Device). cc) (rw inside (sym is)) taken

pub allow_limit : (n : ℕ) (s : State) (e : ReadFault) → s.bound.end - s.bound.taken < n → s.bound.inside ≡ false → e.why ≡ Limit → e.taken ≡ s.bound.taken → Reads (allow_at n) s (Err e) s
allow_limit n s e less inside is taken = allow_no n s e less (λ (d : e.why ≡ Device). cc) (rw inside (sym is)) taken

-- ---- octets that the reader gave

-- all that was given was taken
pub fill_took : (known new : Option (List ℕ)) (here there : ℕ) (t : List ℕ) → AllByRecursion (λ x. x < 256) t → here + length t ≡ there → Consumes known new t → Took known new (λ u. here + length u ≡ there)
fill_took None new here there t fits e h = tt
fill_took (Some xs) None here there t fits e h = absurd h
fill_took (Some xs) (Some ys) here there t fits e h = (t, h, fits, e)

group_front : (t ys : List ℕ) (left : ℕ) → length t ≤ left → group (length t) (at (t ++ ys) left) ≡ got t (at ys (left - length t))
group_front t ys left le = group_there (length t) (t ++ ys) left le (omega (arith, length-append t ys)) ∙ simp (take-append_seam, drop-append_seam) refl

exact_at : (known new : Option (List ℕ)) (t : List ℕ) (b b' : Span) → length t ≤ b.end - b.taken → Consumes known new t → b'.end ≡ b.end → b'.taken ≡ b.taken + length t → Exactly (group (length t)) known b (Ok t) new b'
exact_at None new t b b' room h end taken = tt
exact_at (Some xs) None t b b' room h end taken = absurd h
exact_at (Some xs) (Some ys) t b b' room h end taken =
    let e : group (length t) (place xs b) ≡ got t (at ys (b.end - b.taken - length t)) = rw h (group_front t ys (b.end - b.taken) room) in
    let l : b.end - b.taken - length t ≡ b'.end - b'.taken = omega arith in
    rw (e, l) refl

pub fill_exact : (known new : Option (List ℕ)) (t : List ℕ) (n : ℕ) (b b' : Span) → length t ≡ n → n ≤ b.end - b.taken → Consumes known new t → b'.end ≡ b.end → b'.taken ≡ b.taken + n → Exactly (group n) known b (Ok t) new b'
fill_exact known new t n b b' e room h end taken =
    subst (λ (k : ℕ). Exactly (group k) known b (Ok t) new b') e (exact_at known new t b b' (omega arith) h end (omega arith))

-- so they are a group, whatever follows them
pub fill_made : (t : List ℕ) (n : ℕ) (b b' : Span) → AllByRecursion (λ x. x < 256) t → length t ≡ n → n ≤ b.end - b.taken → b'.end ≡ b.end → b'.taken ≡ b.taken + n → Made (group n) b (Ok t) b'
fill_made t n b b' fits e room end taken = (t, fits, omega arith, λ rest. fill_exact (Some (t ++ rest)) (Some rest) t n b b' e room refl end taken)

-- the first n of these octets are octets
pub fits_take : (n : ℕ) (xs : List ℕ) → ((k : ℕ) → get_or xs k 0 < 256) → AllByRecursion (λ x. x < 256) (take n xs)
fits_take zero xs all = tt
fits_take (suc n) [] all = tt
fits_take (suc n) (x ∷ xs) all = (all 0, fits_take n xs (λ k. all (suc k)))

-- the reader ended
end_named : (i : Bool) → named i End ≡ End
end_named true = refl
end_named false = refl

pub end_exact : (known new : Option (List ℕ)) (b b' : Span) (e : ReadFault) (n : ℕ) (into : List ℕ) → e.why ≡ End → b.taken < b.end → n ≡ 0 → 0 < length into → Consumes known new (take n into) → (n ≡ 0 → 0 < length into → IsAtEnd new) → Exactly octet known b (Err e) new b'
end_exact None new b b' e n into is less none room h end = tt
end_exact (Some xs) None b b' e n into is less none room h end = absurd h
end_exact (Some xs) (Some ys) b b' e (suc n) into is less none room h end = absurd (omega arith)
end_exact (Some xs) (Some ys) b b' e zero into is less none room h end = λ d m.
    let empty : ys ≡ [] = end refl room in
    let all : xs ≡ [] = h ∙ empty in
    rw (all, empty, octet_none (b.end - b.taken) (omega arith)) (ap (λ (w : Why). refused w []) (end_named b.inside ∙ sym is))

pub end_took : (known new : Option (List ℕ)) (here n : ℕ) (into : List ℕ) → n ≡ 0 → Consumes known new (take n into) → Took known new (λ t. here + length t ≡ here)
end_took None new here n into none h = tt
end_took (Some xs) None here n into none h = absurd h
end_took (Some xs) (Some ys) here (suc n) into none h = absurd (omega arith)
end_took (Some xs) (Some ys) here zero into none h = ([], h, tt, omega arith)

pub octet_refused : (s : State) (e : ReadFault) → Reads (allow_at 1) s (Err e) s → Reads octet s (Err e) s
unfolding octet
octet_refused s e r = Reads-stop (group 1) (λ w. give (get_or w 0 0)) s s e (group_refused 1 s e r)

-- of one octet of room, one was filled
pub one_filled : (s s' : State) (into : List ℕ) (x n : ℕ) → n ≤ s.bound.end - s.bound.taken → 1 ≤ n → n ≤ 1 → length into ≡ 1 → x ≡ get_or into 0 0 → Reads (group n) s (Ok (take n into)) s' → Reads octet s (Ok x) s'
unfolding octet
one_filled s s' [] x n room some most one is p = absurd (omega arith)
one_filled s s' (y ∷ into) x zero room some most one is p = absurd (omega arith)
one_filled s s' (y ∷ into) x (suc zero) room some most one is p = subst (λ (z : ℕ). Reads octet s (Ok z) s') (sym is) (Reads-then (group 1) (λ w. give (get_or w 0 0)) s s' s' (y ∷ []) (Ok y) p (Reads-give y s'))
one_filled s s' (y ∷ into) x (suc (suc n)) room some most one is p = absurd (omega arith)

-- ---- several octets at once

-- a group, and then the others
abbrev group_and : ℕ → ℕ → Reader (List ℕ)
group_and a n = bind (group a) (λ t. bind (group n) (λ w. give (t ++ w)))

joined : (t w : List ℕ) (q : Place) → give (t ++ w) q ≡ got (t ++ w) q
unfolding give
joined t w q = refl

group_split : (a n : ℕ) (xs : List ℕ) (left : ℕ) → a + n ≤ left → group_and a n (at xs left) ≡ group (a + n) (at xs left)
group_split a n xs left le = elim (cases_lt (length xs) a) [
  | inl less ↦ bind_no (group a) _ (at xs left) End [] (group_short a xs left (omega arith) less) ∙ sym (group_short (a + n) xs left le (omega arith))
  | inr there ↦
      let here = bind_is (group a) (λ t. bind (group n) (λ w. give (t ++ w))) (at xs left) (take a xs) (at (drop a xs) (left - a)) (group_there a xs left (omega arith) there) in
      elim (cases_lt (length xs) (a + n)) [
        | inl less ↦
            here
            ∙ bind_no (group n) (λ w. give (take a xs ++ w)) (at (drop a xs) (left - a)) End [] (group_short n (drop a xs) (left - a) (omega arith) (omega (arith, length-drop a xs)))
            ∙ sym (group_short (a + n) xs left le less)
        | inr all ↦
            here
            ∙ bind_is (group n) (λ w. give (take a xs ++ w)) (at (drop a xs) (left - a)) (take n (drop a xs)) (at (drop n (drop a xs)) (left - a - n)) (group_there n (drop a xs) (left - a) (omega arith) (omega (arith, length-drop a xs)))
            ∙ joined (take a xs) (take n (drop a xs)) (at (drop n (drop a xs)) (left - a - n))
            ∙ ap (λ (l : List ℕ). got l (at (drop n (drop a xs)) (left - a - n))) (sym (take-add a n xs))
            ∙ ap (λ (l : List ℕ). got (take (a + n) xs) (at l (left - a - n))) (drop-drop n a xs)
            ∙ ap (λ (l : ℕ). got (take (a + n) xs) (at (drop (a + n) xs) l)) (omega arith)
            ∙ sym (group_there (a + n) xs left le all)
      ]
]

-- a group was read
pub group_more : {A : Type 0} (a n k : ℕ) (s s' old : State) (t : List ℕ) (f g : List ℕ → A) (whole : Reader A) → k ≡ a + n → k ≤ s.bound.end - s.bound.taken → ((w : List ℕ) → f (t ++ w) ≡ g w) → Leads (group k) s f whole old → Reads (group a) s (Ok t) s' → Leads (group n) s' g whole old
group_more a n k s s' old t f g whole is le same p r result then h =
    let step : Reads (group_and a n) s (seen (λ w. t ++ w) result) then = Reads-then (group a) _ s s' then t (seen (λ w. t ++ w) result) r (Reads-map (group n) (λ w. t ++ w) s' then result h) in
    let here : Reads (group (a + n)) s (seen (λ w. t ++ w) result) then = Reads-same (group_and a n) (group (a + n)) s then (seen (λ w. t ++ w) result) (λ xs. group_split a n xs (s.bound.end - s.bound.taken) (omega arith)) step in
    seen_twice (λ w. t ++ w) f g whole old then result same (p (seen (λ w. t ++ w) result) then (subst (λ (j : ℕ). Reads (group j) s (seen (λ w. t ++ w) result) then) (sym is) here))

-- a group is refused
pub group_more_refused : {A : Type 0} (a n k : ℕ) (s s' old : State) (e : ReadFault) (f : List ℕ → A) (whole : Reader A) → k ≡ a + n → k ≤ s.bound.end - s.bound.taken → Leads (group k) s f whole old → Reads (group a) s (Err e) s' → Reads whole old (Err e) s'
group_more_refused a n k s s' old e f whole is le p r =
    let step : Reads (group_and a n) s (Err e) s' = Reads-stop (group a) _ s s' e r in
    let here : Reads (group (a + n)) s (Err e) s' = Reads-same (group_and a n) (group (a + n)) s s' (Err e) (λ xs. group_split a n xs (s.bound.end - s.bound.taken) (omega arith)) step in
    p (Err e) s' (subst (λ (j : ℕ). Reads (group j) s (Err e) s') (sym is) here)

-- ---- what a list holds whose part was filled

pub front_put : (a k c : ℕ) (xs ys : List ℕ) → a ≤ length xs → c ≤ length ys → take (a + c) (put_mid a k xs ys) ≡ take a xs ++ take c ys
front_put a k c xs ys le small =
    let after = post_of a k xs in
    let count : length (take a xs) ≡ a = length-take-le a xs le in
    ap (λ (n : ℕ). take (n + c) (take a xs ++ (ys ++ after))) (sym count) ∙ take-append-add (take a xs) (ys ++ after) c ∙ ap (λ (l : List ℕ). take a xs ++ l) (take-append-le c ys after small)

length_put : (a k : ℕ) (xs ys : List ℕ) → a ≤ length xs → length ys ≡ k → k ≤ length xs - a → length (put_mid a k xs ys) ≡ length xs
length_put a k xs ys le count small =
    let front : length (take a xs) ≡ a = length-take-le a xs le in
    let after : length (drop k (drop a xs)) ≡ length xs - a - k = length-drop k (drop a xs) ∙ ap (λ (n : ℕ). n - k) (length-drop a xs) in
    let joined : length (take a xs ++ (ys ++ drop k (drop a xs))) ≡ length (take a xs) + (length ys + length (drop k (drop a xs))) = length-append (take a xs) (ys ++ drop k (drop a xs)) ∙ ap (λ (n : ℕ). length (take a xs) + n) (length-append ys (drop k (drop a xs))) in
    let sum : length (take a xs) + (length ys + length (drop k (drop a xs))) ≡ length xs = omega arith in
    joined ∙ sum

pub rest_put : (a : ℕ) (xs ys : List ℕ) → a ≤ length xs → length ys ≡ length xs - a → put_mid a (length xs - a) xs ys ≡ take a xs ++ ys
rest_put a xs ys le count =
    let k = length xs - a in
    let same : length (put_mid a k xs ys) ≡ length xs = length_put a k xs ys le count (omega arith) in
    sym (take_all (length xs) (put_mid a k xs ys) (omega arith)) ∙ take-put_mid a k xs ys (length xs) (omega arith) le

-- ---- a list of octets that grows

pub nothing_yet : (n k : ℕ) (u : List ℕ) (s : State) → n ≤ s.bound.end - s.bound.taken → k ≡ n → u ≡ [] → Leads (group k) s (λ w. u ++ w) (group n) s
nothing_yet n k u s le same empty = rw (empty, same) (λ result then h. seen_same (λ w. w) (group n) s then result (λ x. refl) h)

-- a part of the group is refused
pub part_refused : {A : Type 0} (a k : ℕ) (s s' old : State) (e : ReadFault) (f : List ℕ → A) (whole : Reader A) → a ≤ k → k ≤ s.bound.end - s.bound.taken → Leads (group k) s f whole old → Reads (group a) s (Err e) s' → Reads whole old (Err e) s'
part_refused a k s s' old e f whole part le p r = group_more_refused a (k - a) k s s' old e f whole (omega arith) le p r

pub on_ok : {A E : Type 0} (r : Result A E) (P : Type 0) → is_err r ≡ false → OnOk r P → P
on_ok (Ok x) P e p = p
on_ok (Err x) P e p = absurd (true≢false e)

pub part_length : (a : ℕ) (xs : List ℕ) → a ≤ length xs → length (take (length xs - a) (drop a xs)) ≡ length xs - a
part_length a xs le = let rest = length-drop a xs in length-take-le (length xs - a) (drop a xs) (omega arith)

-- what a vector holds whose octets from the a-th on were filled with ys
abbrev pub filled : ℕ → ℕ → List ℕ → List ℕ → List ℕ → List ℕ
filled n a xs ys items = take n (put_mid a (length xs - a) xs ys ++ drop (length (put_mid a (length xs - a) xs ys)) items)

filled_is : (n a : ℕ) (xs ys items : List ℕ) → a ≤ length xs → length xs ≡ n → length ys ≡ length xs - a → filled n a xs ys items ≡ take a xs ++ ys
filled_is n a xs ys items le size count =
    let whole = put_mid a (length xs - a) xs ys in
    let all : length whole ≡ length xs = length_put a (length xs - a) xs ys le count (omega arith) in
    take-append-le n whole (drop (length whole) items) (omega arith) ∙ take_all n whole (omega arith) ∙ rest_put a xs ys le count

pub filled_front : (n a : ℕ) (xs ys items : List ℕ) → a ≤ length xs → length xs ≡ n → length ys ≡ length xs - a → take a (filled n a xs ys items) ≡ take a xs
filled_front n a xs ys items le size count =
    let front : length (take a xs) ≡ a = length-take-le a xs le in
    ap (λ (l : List ℕ). take a l) (filled_is n a xs ys items le size count) ∙ ap (λ (k : ℕ). take k (take a xs ++ ys)) (sym front) ∙ take-append_seam (take a xs) ys

pub filled_rest : (n a : ℕ) (xs ys items : List ℕ) → a ≤ length xs → length xs ≡ n → length ys ≡ length xs - a → drop a (filled n a xs ys items) ≡ ys
filled_rest n a xs ys items le size count =
    let front : length (take a xs) ≡ a = length-take-le a xs le in
    ap (λ (l : List ℕ). drop a l) (filled_is n a xs ys items le size count) ∙ ap (λ (k : ℕ). drop k (take a xs ++ ys)) (sym front) ∙ drop-append_seam (take a xs) ys

pub filled_reads : {A : Type 0} (k m : ℕ) (s s' : State) (result : Result A ReadFault) (ys zs : List ℕ) → k ≡ m → zs ≡ ys → Reads (group k) s (seen (λ _. ys) result) s' → Reads (group m) s (seen (λ _. zs) result) s'
filled_reads k m s s' result ys zs same rest p = subst (λ (j : ℕ). Reads (group j) s (seen (λ _. zs) result) s') same (subst (λ (l : List ℕ). Reads (group k) s (seen (λ _. l) result) s') (sym rest) p)

-- the rest of a list was filled
pub chunk_more : (k n m a : ℕ) (s s' old : State) (before grown new : List ℕ) (all : ℕ) → take a grown ≡ before → take a new ≡ take a grown → k ≡ m + n → k ≤ s.bound.end - s.bound.taken → Leads (group k) s (λ w. before ++ w) (group all) old → Reads (group m) s (Ok (drop a new)) s' → Leads (group n) s' (λ w. new ++ w) (group all) old
chunk_more k n m a s s' old before grown new all front kept is room p r =
    let joined : before ++ drop a new ≡ new = ap (λ (l : List ℕ). l ++ drop a new) (sym (kept ∙ front)) ∙ take-append-drop a new in
    group_more m n k s s' old (drop a new) (λ w. before ++ w) (λ w. new ++ w) (group all) is room (λ w. sym (append_assoc before (drop a new) w) ∙ ap (λ (l : List ℕ). l ++ w) joined) p r
