-- Paths that go on from others, and the lines of a part.
use Rattle.std.proofs.Common.{◌≡◌, ℕ, ◌+◌, Bool, true, false, not, ◌&&◌, List, [], ◌∷◌, ◌++◌, refl, sym, ap, ap₂, ◌∙◌, append_assoc, append-nil, cond, length, length-append}
use Rattle.std.proofs.lemmas.Bool.{eqb-true, eq-eqb}
use Rattle.std.proofs.lemmas.List.{append_cancel_left}
use Rattle.std.specs.List.{AllByRecursion}
use Rattle.oer_model.specs.Parts.{Step, same_step, to_addition, to_chosen, to_component, to_item}
use Rattle.oer_rows.specs.Naming.{starts_with, is_length, is_of, lines_of_part, octets_of_lines}
use Rattle.oer_rows.specs.Rows.{Line, line}
use Rattle.oer_rows.specs.declared.row.Role.{Role}

abbrev pub Every : {A : Type 0} → (A → Type 0) → List A → Type 0
Every P xs = AllByRecursion P xs

pub every_map : {A : Type 0} (P Q : A → Type 0) (xs : List A) → ((x : A) → P x → Q x) → Every P xs → Every Q xs
every_map P Q [] f h = tt
every_map P Q (x ∷ xs) f h = (f x h.0, every_map P Q xs f h.1)

pub every_with : {A : Type 0} (P R Q : A → Type 0) (xs : List A) → ((x : A) → P x → R x → Q x) → Every P xs → Every R xs → Every Q xs
every_with P R Q [] f h k = tt
every_with P R Q (x ∷ xs) f h k = (f x h.0 k.0, every_with P R Q xs f h.1 k.1)

pub every_both : {A : Type 0} (P : A → Type 0) (xs ys : List A) → Every P xs → Every P ys → Every P (xs ++ ys)
every_both P [] ys h k = k
every_both P (x ∷ xs) ys h k = (h.0, every_both P xs ys h.1 k)

-- ---- steps and paths

pub same_is : (x y : Step) → same_step x y ≡ true → x ≡ y
same_is (to_component i) (to_component j) e = ap to_component (eqb-true i j e)
same_is (to_addition i) (to_addition j) e = ap to_addition (eqb-true i j e)
same_is (to_item i) (to_item j) e = ap to_item (eqb-true i j e)
same_is to_chosen to_chosen e = refl
same_is _ _ e = absurd (cc)

pub same_self : (x : Step) → same_step x x ≡ true
same_self (to_component i) = eq-eqb i i refl
same_self (to_addition i) = eq-eqb i i refl
same_self (to_item i) = eq-eqb i i refl
same_self to_chosen = refl

and_left : (a b : Bool) → (a && b) ≡ true → a ≡ true
and_left true b e = refl
and_left false b e = absurd (cc)

and_right : (a b : Bool) → (a && b) ≡ true → b ≡ true
and_right true b e = e
and_right false b e = absurd (cc)

and_no : (a : Bool) → (a && false) ≡ false
and_no true = refl
and_no false = refl

-- what two paths have in front makes no difference
goes_past : (path xs ys : List Step) → starts_with (path ++ xs) (path ++ ys) ≡ starts_with xs ys
goes_past [] xs ys = refl
goes_past (x ∷ path) xs ys = ap (λ b. b && starts_with (path ++ xs) (path ++ ys)) (same_self x) ∙ goes_past path xs ys

goes_here : (path ys : List Step) → starts_with path (path ++ ys) ≡ true
goes_here [] ys = refl
goes_here (x ∷ path) ys = ap (λ b. b && starts_with path (path ++ ys)) (same_self x) ∙ goes_here path ys

goes_back : (path : List Step) (x : Step) (xs : List Step) → starts_with (path ++ (x ∷ xs)) path ≡ false
goes_back [] x xs = refl
goes_back (y ∷ path) x xs = ap (λ b. same_step y y && b) (goes_back path x xs) ∙ and_no (same_step y y)

goes_rest : (front path : List Step) → starts_with front path ≡ true → (rest : List Step) × (path ≡ front ++ rest)
goes_rest [] path e = (path, refl)
goes_rest (x ∷ front) [] e = absurd (cc)
goes_rest (x ∷ front) (y ∷ path) e =
    let h = goes_rest front path (and_right (same_step x y) (starts_with front path) e) in
    (h.0, ap₂ (λ (s : Step) (l : List Step). s ∷ l) (sym (same_is x y (and_left (same_step x y) (starts_with front path) e))) h.1)

pub step_on : (path : List Step) (step : Step) (rest : List Step) → (path ++ (step ∷ [])) ++ rest ≡ path ++ (step ∷ rest)
step_on path step rest = append_assoc path (step ∷ []) rest

-- ---- lines

abbrev pub path_at : Line → List Step
path_at (line n path role c) = path

abbrev pub role_at : Line → Role
role_at (line n path role c) = role

-- a line of the part itself
abbrev pub IsOwn : List Step → Line → Type 0
IsOwn path l = (path_at l ≡ path) × (is_length (role_at l) ≡ false)

-- the length of an open type that holds the part
abbrev pub IsFront : List Step → Line → Type 0
IsFront path l = (path_at l ≡ path) × (is_length (role_at l) ≡ true)

abbrev pub IsIn : List Step → Line → Type 0
IsIn path l = is_of path l ≡ true

abbrev pub IsOut : List Step → Line → Type 0
IsOut path l = is_of path l ≡ false

pub own_in : (path : List Step) (l : Line) → IsOwn path l → IsIn path l
own_in path (line n at role c) (e, f) =
    ap (λ (b : Bool). starts_with path at && not (b && starts_with at path)) f ∙ and_yes (starts_with path at) (ap (starts_with path) (e ∙ sym (append-nil path)) ∙ goes_here path [])
  where
    and_yes : (b : Bool) → b ≡ true → (b && true) ≡ true
    and_yes true g = refl
    and_yes false g = g

pub not_on : (path : List Step) (l : Line) → starts_with path (path_at l) ≡ false → IsOut path l
not_on path (line n at role c) e = ap (λ (b : Bool). b && not (is_length role && starts_with at path)) e

pub own_out : (path : List Step) (step : Step) (rest : List Step) (l : Line) → IsOwn path l → IsOut (path ++ (step ∷ rest)) l
own_out path step rest l (e, f) = not_on (path ++ (step ∷ rest)) l (ap (starts_with (path ++ (step ∷ rest))) e ∙ goes_back path step rest)

-- a line of a part that a step leads to
pub below_in : (path : List Step) (step : Step) (rest : List Step) (l : Line) → path_at l ≡ path ++ (step ∷ rest) → IsIn path l
below_in path step rest (line n at role c) e =
    ap (λ (b : Bool). b && not (is_length role && starts_with at path)) (ap (starts_with path) e ∙ goes_here path (step ∷ rest))
    ∙ ap (λ (b : Bool). not (is_length role && b)) (ap (λ (p : List Step). starts_with p path) e ∙ goes_back path step rest)
    ∙ ap not (and_no (is_length role))

pub in_at : (path : List Step) (l : Line) → IsIn path l → (rest : List Step) × (path_at l ≡ path ++ rest)
in_at path (line n at role c) e = goes_rest path at (and_left (starts_with path at) (not (is_length role && starts_with at path)) e)

pub inner_at : (path : List Step) (step : Step) (l : Line) → IsIn (path ++ (step ∷ [])) l → (rest : List Step) × (path_at l ≡ path ++ (step ∷ rest))
inner_at path step l e = let h = in_at (path ++ (step ∷ [])) l e in (h.0, h.1 ∙ step_on path step h.0)

pub inner_in : (path : List Step) (step : Step) (l : Line) → IsIn (path ++ (step ∷ [])) l → IsIn path l
inner_in path step l e = let h = inner_at path step l e in below_in path step h.0 l h.1

pub other_out : (path : List Step) (step other : Step) (rest more : List Step) (l : Line) → path_at l ≡ path ++ (step ∷ more) → same_step other step ≡ false → IsOut (path ++ (other ∷ rest)) l
other_out path step other rest more l e f = not_on (path ++ (other ∷ rest)) l (ap (starts_with (path ++ (other ∷ rest))) e ∙ goes_past path (other ∷ rest) (step ∷ more) ∙ ap (λ (b : Bool). b && starts_with rest more) f)

pub front_out : (path : List Step) (step other : Step) (rest : List Step) (l : Line) → IsFront (path ++ (step ∷ [])) l → IsOut (path ++ (other ∷ rest)) l
front_out path step other rest l (e, f) = by (same_step other step) refl
  where
    longer : (tail : List Step) (m : Line) → IsFront (path ++ (other ∷ [])) m → IsOut (path ++ (other ∷ tail)) m
    longer [] (line n at role c) (g, h) =
        ap (λ (p : List Step). starts_with (path ++ (other ∷ [])) p && not (is_length role && starts_with p (path ++ (other ∷ [])))) g
        ∙ ap (λ (b : Bool). starts_with (path ++ (other ∷ [])) (path ++ (other ∷ [])) && not (b && starts_with (path ++ (other ∷ [])) (path ++ (other ∷ [])))) h
        ∙ ap (λ (b : Bool). b && not b) (goes_past path (other ∷ []) (other ∷ []) ∙ ap (λ (b : Bool). b && true) (same_self other))
    longer (x ∷ tail) m (g, h) = not_on (path ++ (other ∷ (x ∷ tail))) m (ap (starts_with (path ++ (other ∷ (x ∷ tail)))) g ∙ goes_past path (other ∷ (x ∷ tail)) (other ∷ []) ∙ and_no (same_step other other))

    by : (b : Bool) → same_step other step ≡ b → IsOut (path ++ (other ∷ rest)) l
    by true is = longer rest l (e ∙ ap (λ (s : Step). path ++ (s ∷ [])) (sym (same_is other step is)), f)
    by false is = other_out path step other rest [] l e is

-- ---- the lines of a part among others

none_of : (path : List Step) (ls : List Line) → Every (IsOut path) ls → lines_of_part path ls ≡ []
none_of path [] h = refl
none_of path (l ∷ ls) h = ap (λ (b : Bool). cond b (l ∷ lines_of_part path ls) (lines_of_part path ls)) h.0 ∙ none_of path ls h.1

all_of : (path : List Step) (ls : List Line) → Every (IsIn path) ls → lines_of_part path ls ≡ ls
all_of path [] h = refl
all_of path (l ∷ ls) h = ap (λ (b : Bool). cond b (l ∷ lines_of_part path ls) (lines_of_part path ls)) h.0 ∙ ap (λ (k : List Line). l ∷ k) (all_of path ls h.1)

of_both : (path : List Step) (xs ys : List Line) → lines_of_part path (xs ++ ys) ≡ lines_of_part path xs ++ lines_of_part path ys
of_both path [] ys = refl
of_both path (l ∷ xs) ys = by (is_of path l) (of_both path xs ys)
  where
    by : (b : Bool) → lines_of_part path (xs ++ ys) ≡ lines_of_part path xs ++ lines_of_part path ys → cond b (l ∷ lines_of_part path (xs ++ ys)) (lines_of_part path (xs ++ ys)) ≡ cond b (l ∷ lines_of_part path xs) (lines_of_part path xs) ++ lines_of_part path ys
    by true e = ap (λ (k : List Line). l ∷ k) e
    by false e = e

pub picked : (path : List Step) (front mine after : List Line) → Every (IsOut path) front → Every (IsIn path) mine → Every (IsOut path) after → lines_of_part path (front ++ (mine ++ after)) ≡ mine
picked path front mine after f m a =
    of_both path front (mine ++ after)
    ∙ ap₂ (λ (x y : List Line). x ++ y) (none_of path front f) (of_both path mine after ∙ ap₂ (λ (x y : List Line). x ++ y) (all_of path mine m) (none_of path after a) ∙ append-nil mine)

pub octets_both : (xs ys : List Line) → octets_of_lines (xs ++ ys) ≡ octets_of_lines xs ++ octets_of_lines ys
octets_both [] ys = refl
octets_both (line n path role c ∷ xs) ys = ap (λ (w : List ℕ). c ++ w) (octets_both xs ys) ∙ sym (append_assoc c (octets_of_lines xs) (octets_of_lines ys))

pub counted_both : (xs ys : List Line) → length (octets_of_lines (xs ++ ys)) ≡ length (octets_of_lines xs) + length (octets_of_lines ys)
counted_both xs ys = ap length (octets_both xs ys) ∙ length-append (octets_of_lines xs) (octets_of_lines ys)

-- a path isn't longer than itself
pub not_longer : (path : List Step) (step : Step) (rest : List Step) → path ≡ path ++ (step ∷ rest) → ⊥
not_longer path step rest e = let h : [] ≡ step ∷ rest = append_cancel_left path [] (step ∷ rest) (append-nil path ∙ e) in cc

pub next_is : (path : List Step) (x y : Step) (xs ys : List Step) → path ++ (x ∷ xs) ≡ path ++ (y ∷ ys) → (x ≡ y) × (xs ≡ ys)
next_is path x y xs ys e = let h = append_cancel_left path (x ∷ xs) (y ∷ ys) e in (cc, cc)
