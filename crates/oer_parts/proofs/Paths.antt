-- What texts spell, piece by piece.
use Rattle.std.proofs.Common.{◌≡◌, ◌≢◌, ◌<◌, ◌^◌, ℕ, zero, suc, List, [], ◌∷◌, ◌++◌, length, take, drop, map, false, eqb, refl, sym, ap, ap₂, ◌∙◌, subst, arith, eqb-true, eq-eqb, true≢false, length-append, length-take-le, append-nil, codes}
use Rattle.std.specs.Fmt.{decimal}
use Rattle.std.specs.List.{after_first, before_first, position_or_len}
use Rattle.std.proofs.Math.ListN.{get_or}
use Rattle.std.proofs.Math.Seq.{get_or-append_seam}
use Rattle.std.proofs.lemmas.Fmt.{decimal_injective}
use Rattle.std.proofs.lemmas.List.{get_or-take}
use Rattle.std.proofs.lemmas.List.Sums.{split_at_first, fails_before_first, passes_at_first}
use Rattle.oer_model.specs.Parts.{Step, to_component, to_addition, to_item, to_chosen}
use Rattle.oer_parts.specs.Walk.{step_of}
use Rattle.oer_parts.specs.declared.step.Step as rust
use Rattle.oer_parts.specs.Path.{IsNumbered, OnePath, SpellsPath, SpellsStep}
use Rattle.oer_parts.proofs.Digits.{no_other}

-- there is no point in the text
abbrev pub Lacks : List ℕ → Type 0
Lacks xs = (k : ℕ) → k < length xs → get_or xs k 0 ≢ 46

pub later : (x : ℕ) (xs : List ℕ) → Lacks (x ∷ xs) → Lacks xs
later x xs h k lt = h (suc k) (omega (arith, lt))

numbered_lacks : (letter n : ℕ) → n < 2 ^ 64 → letter ≢ 46 → Lacks (letter ∷ decimal n)
numbered_lacks letter n h other zero lt = other
numbered_lacks letter n h other (suc k) lt = no_other n 46 k h (λ r. omega (arith, r.0, r.1)) (omega (arith, lt))

one_letter : Lacks (118 ∷ [])
one_letter zero lt e = omega (arith, e)
one_letter (suc k) lt e = absurd (omega (arith, lt))

step_lacks : (text : List ℕ) (s : Step) → SpellsStep text s → Lacks text
step_lacks text (to_component i) h = subst Lacks (sym h.0) (numbered_lacks 99 i h.1 (λ e. omega (arith, e)))
step_lacks text (to_addition i) h = subst Lacks (sym h.0) (numbered_lacks 97 i h.1 (λ e. omega (arith, e)))
step_lacks text (to_item i) h = subst Lacks (sym h.0) (numbered_lacks 105 i h.1 (λ e. omega (arith, e)))
step_lacks text to_chosen h = subst Lacks (sym h) one_letter

-- a text without a point has none where one stands
no_point : (xs front rest : List ℕ) → Lacks xs → xs ≡ front ++ 46 ∷ rest → ⊥
no_point xs front rest h e =
    let here : length front < length xs = let size = ap length e ∙ length-append front (46 ∷ rest) in omega (arith, size) in
    h (length front) here (ap (λ (l : List ℕ). get_or l (length front) 0) e ∙ get_or-append_seam front 46 rest 0)

-- a text falls in one way at its first point
cut : (a b x y : List ℕ) → Lacks a → Lacks b → a ++ 46 ∷ x ≡ b ++ 46 ∷ y → (a ≡ b) × (x ≡ y)
cut [] [] x y la lb e = (refl, cc)
cut [] (d ∷ b) x y la lb e = absurd (lb 0 (omega arith) (let first : 46 ≡ d = cc in sym first))
cut (c ∷ a) [] x y la lb e = absurd (la 0 (omega arith) (let first : c ≡ 46 = cc in first))
cut (c ∷ a) (d ∷ b) x y la lb e =
    let first : c ≡ d = cc in
    let rest : a ++ 46 ∷ x ≡ b ++ 46 ∷ y = cc in
    let both = cut a b x y (later c a la) (later d b lb) rest in
    (ap₂ (λ (z : ℕ) (l : List ℕ). z ∷ l) first both.0, both.1)

-- where no point is found
pub none_found : (xs : List ℕ) → position_or_len (λ b. eqb b 46) xs ≡ length xs → Lacks xs
none_found xs e k lt is =
    let fails : eqb (get_or xs k 0) 46 ≡ false = fails_before_first (λ b. eqb b 46) xs k 0 (omega (arith, e, lt)) in
    true≢false (sym (eq-eqb _ 46 is) ∙ fails)

-- the text before the first point, and after it
pub record Falls (xs front rest : List ℕ) : Type 0 where
  pub all : xs ≡ front ++ 46 ∷ rest
  pub lacks : Lacks front

pub found : (xs front rest : List ℕ) → front ≡ before_first (λ b. eqb b 46) xs → rest ≡ after_first (λ b. eqb b 46) xs → position_or_len (λ b. eqb b 46) xs < length xs → Falls xs front rest
found xs front rest f r lt =
    let at = position_or_len (λ b. eqb b 46) xs in
    let point : get_or xs at 0 ≡ 46 = eqb-true _ 46 (passes_at_first (λ b. eqb b 46) xs 0 lt) in
    let whole : xs ≡ before_first (λ b. eqb b 46) xs ++ (get_or xs at 0 ∷ after_first (λ b. eqb b 46) xs) = split_at_first (λ b. eqb b 46) xs 0 lt in
    let before : Lacks (take at xs) = λ k less is.
    let inside : k < at = let most : length (take at xs) ≡ at = length-take-le at xs (omega (arith, lt)) in omega (arith, less, most) in
    let fails : eqb (get_or xs k 0) 46 ≡ false = fails_before_first (λ b. eqb b 46) xs k 0 inside in
    true≢false (sym (eq-eqb _ 46 (sym (get_or-take at xs k 0 inside) ∙ is)) ∙ fails) in
    record {
      all = whole ∙ ap₂ (λ (a b : List ℕ). a ++ b) (sym f) (ap₂ (λ (z : ℕ) (l : List ℕ). z ∷ l) point (sym r));
      lacks = subst Lacks (sym f) before;
    }

-- ---- steps

pub no_step : (text : List ℕ) → ((r : List ℕ) → text ≢ 99 ∷ r) → ((r : List ℕ) → text ≢ 97 ∷ r) → ((r : List ℕ) → text ≢ 105 ∷ r) → text ≢ codes "v" → (s : Step) → SpellsStep text s → ⊥
no_step text c a i v (to_component n) h = c _ h.0
no_step text c a i v (to_addition n) h = a _ h.0
no_step text c a i v (to_item n) h = i _ h.0
no_step text c a i v to_chosen h = v h

same_number : (c m n : ℕ) (text : List ℕ) → IsNumbered text (c ∷ []) m → IsNumbered text (c ∷ []) n → m ≡ n
same_number c m n text h k =
    let both : c ∷ decimal m ≡ c ∷ decimal n = sym h.0 ∙ k.0 in
    decimal_injective m n h.1 k.1 (ap (drop 1) both)

other_letter : (c d m n : ℕ) (text : List ℕ) → c ≢ d → IsNumbered text (c ∷ []) m → IsNumbered text (d ∷ []) n → ⊥
other_letter c d m n text ne h k = let both : c ∷ decimal m ≡ d ∷ decimal n = sym h.0 ∙ k.0 in ne (ap (λ (l : List ℕ). get_or l 0 0) both)

other_word : (c m : ℕ) (text : List ℕ) → c ≢ 118 → IsNumbered text (c ∷ []) m → text ≡ codes "v" → ⊥
other_word c m text ne h k = let both : c ∷ decimal m ≡ 118 ∷ [] = sym h.0 ∙ k in ne (ap (λ (l : List ℕ). get_or l 0 0) both)

-- a text spells one step at most
one_step : (text : List ℕ) (s t : Step) → SpellsStep text s → SpellsStep text t → s ≡ t
one_step text (to_component i) (to_component j) h k = ap to_component (same_number 99 i j text h k)
one_step text (to_component i) (to_addition j) h k = absurd (other_letter 99 97 i j text (λ e. omega (arith, e)) h k)
one_step text (to_component i) (to_item j) h k = absurd (other_letter 99 105 i j text (λ e. omega (arith, e)) h k)
one_step text (to_component i) to_chosen h k = absurd (other_word 99 i text (λ e. omega (arith, e)) h k)
one_step text (to_addition i) (to_component j) h k = absurd (other_letter 97 99 i j text (λ e. omega (arith, e)) h k)
one_step text (to_addition i) (to_addition j) h k = ap to_addition (same_number 97 i j text h k)
one_step text (to_addition i) (to_item j) h k = absurd (other_letter 97 105 i j text (λ e. omega (arith, e)) h k)
one_step text (to_addition i) to_chosen h k = absurd (other_word 97 i text (λ e. omega (arith, e)) h k)
one_step text (to_item i) (to_component j) h k = absurd (other_letter 105 99 i j text (λ e. omega (arith, e)) h k)
one_step text (to_item i) (to_addition j) h k = absurd (other_letter 105 97 i j text (λ e. omega (arith, e)) h k)
one_step text (to_item i) (to_item j) h k = ap to_item (same_number 105 i j text h k)
one_step text (to_item i) to_chosen h k = absurd (other_word 105 i text (λ e. omega (arith, e)) h k)
one_step text to_chosen (to_component j) h k = absurd (other_word 99 j text (λ e. omega (arith, e)) k h)
one_step text to_chosen (to_addition j) h k = absurd (other_word 97 j text (λ e. omega (arith, e)) k h)
one_step text to_chosen (to_item j) h k = absurd (other_word 105 j text (λ e. omega (arith, e)) k h)
one_step text to_chosen to_chosen h k = refl

-- ---- paths

-- the step at the front, and the path behind it
pub put_step : (text front rest : List ℕ) (s : Step) (q : List Step) → Falls text front rest → SpellsStep front s → SpellsPath rest q → SpellsPath text (s ∷ q)
put_step text front rest s [] falls step path = absurd path
put_step text front rest s (t ∷ q) falls step path = (front, rest, falls.all, step, path)

-- what a text with a point spells begins with a step that its front spells
front_step : (text front rest : List ℕ) (p : List Step) → Falls text front rest → SpellsPath text p → (s : Step) × (q : List Step) × (p ≡ s ∷ q) × SpellsStep front s × SpellsPath rest q
front_step text front rest [] falls h = absurd h
front_step text front rest (s ∷ []) falls h = absurd (no_point text front rest (step_lacks text s h) falls.all)
front_step text front rest (s ∷ t ∷ q) falls h =
    let same = cut h.0 front h.1 rest (step_lacks h.0 s h.3) falls.lacks (sym h.2 ∙ falls.all) in
    (s, t ∷ q, refl, subst (λ x. SpellsStep x s) same.0 h.3, subst (λ x. SpellsPath x (t ∷ q)) same.1 h.4)

-- what a text without a point spells is one step
last_step : (text : List ℕ) (p : List Step) → Lacks text → SpellsPath text p → (s : Step) × (p ≡ s ∷ []) × SpellsStep text s
last_step text [] lacks h = absurd h
last_step text (s ∷ []) lacks h = (s, refl, h)
last_step text (s ∷ t ∷ q) lacks h = absurd (no_point text h.0 h.1 lacks h.2)

pub one_path : OnePath
one_path text [] q h k = absurd h
one_path text (s ∷ []) q h k =
    let last = last_step text q (step_lacks text s h) k in
    ap (λ (t : Step). t ∷ []) (one_step text s last.0 h last.2) ∙ sym last.1
one_path text (s ∷ t ∷ p) q h k =
    let falls : Falls text h.0 h.1 = record { all = h.2; lacks = step_lacks h.0 s h.3 } in
    let next = front_step text h.0 h.1 q falls k in
    ap₂ (λ (x : Step) (l : List Step). x ∷ l) (one_step h.0 s next.0 h.3 next.3) (one_path h.1 (t ∷ p) next.1 h.4 next.4) ∙ sym next.2

-- What the rest spells, behind these steps, is what the text spells.
pub record Leads (steps : List rust.Step) (rest text : List ℕ) : Type 0 where
  pub sound : (q : List Step) → SpellsPath rest q → SpellsPath text (map step_of steps ++ q)
  pub complete : (p : List Step) → SpellsPath text p → (q : List Step) × (p ≡ map step_of steps ++ q) × SpellsPath rest q

pub begins : (text : List ℕ) → Leads [] text text
begins text = record { sound = λ q h. h; complete = λ p h. (p, refl, h) }

mapped : (steps : List rust.Step) (s : rust.Step) (q : List Step) → map step_of (steps ++ s ∷ []) ++ q ≡ map step_of steps ++ (step_of s ∷ q)
mapped [] s q = refl
mapped (t ∷ steps) s q = ap (λ (l : List Step). step_of t ∷ l) (mapped steps s q)

pub goes_on : (steps : List rust.Step) (rest text front more : List ℕ) (s : rust.Step) → Leads steps rest text → Falls rest front more → SpellsStep front (step_of s) → Leads (steps ++ s ∷ []) more text
goes_on steps rest text front more s leads falls is = record {
  sound = λ q h. subst (SpellsPath text) (sym (mapped steps s q)) (leads.sound (step_of s ∷ q) (put_step rest front more (step_of s) q falls is h));
  complete = λ p h.
      let at = leads.complete p h in
      let next = front_step rest front more at.0 falls at.2 in
      let same : next.0 ≡ step_of s = one_step front next.0 (step_of s) next.3 is in
      (next.1, at.1 ∙ ap (λ (l : List Step). map step_of steps ++ l) (next.2 ∙ ap (λ (x : Step). x ∷ next.1) same) ∙ sym (mapped steps s next.1), next.4);
}

-- the last step
pub ends : (steps : List rust.Step) (rest text : List ℕ) (s : rust.Step) → Leads steps rest text → SpellsStep rest (step_of s) → SpellsPath text (map step_of (steps ++ s ∷ []))
ends steps rest text s leads is =
    subst (SpellsPath text) (sym (mapped steps s []) ∙ append-nil (map step_of (steps ++ s ∷ []))) (leads.sound (step_of s ∷ []) is)

-- a piece that spells no step
pub wrong_front : (steps : List rust.Step) (rest text front more : List ℕ) → Leads steps rest text → Falls rest front more → ((s : Step) → SpellsStep front s → ⊥) → (p : List Step) → SpellsPath text p → ⊥
wrong_front steps rest text front more leads falls none p h =
    let at = leads.complete p h in
    let next = front_step rest front more at.0 falls at.2 in
    none next.0 next.3

pub wrong_last : (steps : List rust.Step) (rest text : List ℕ) → Leads steps rest text → Lacks rest → ((s : Step) → SpellsStep rest s → ⊥) → (p : List Step) → SpellsPath text p → ⊥
wrong_last steps rest text leads lacks none p h =
    let at = leads.complete p h in
    let last = last_step rest at.0 lacks at.2 in
    none last.0 last.2
