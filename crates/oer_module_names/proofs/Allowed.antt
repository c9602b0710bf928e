-- What is tested of versions is what the relation says.
use Rattle.std.proofs.Common.{◌≡◌, ◌<◌, ◌↔◌, ℕ, Bool, true, false, cond, List, [], ◌∷◌, ◌++◌, append-nil, nat_eq, eqb-true, eq-eqb, ltb-true, lt-ltb, Option, None, Some, refl, sym, subst, ap, ap₂, ◌∙◌, arith}
use Rattle.std.proofs.lemmas.Bool.{false_from_ne_true}
use Rattle.oer_module_syntax.specs.Tree.{Import, Module}
use Rattle.oer_module_syntax.specs.declared.tree.Versions.{Versions}
use Rattle.oer_module_syntax.specs.declared.tree.Versions.TheVariants.{Same, Successors, Descendants}
use Rattle.oer_module_names.proofs.Spelled.{arcs_told}
use Rattle.oer_module_names.specs.Identifiers.{arcs}
use Rattle.oer_module_names.specs.Versions.{Allows, Fits, allows, apart, descendant, fits, is_allowed, same, successor}

-- ---- what is tested holds

-- both begin with what they share
record Shared (xs ys : List ℕ) (p : List ℕ × List ℕ) : Type 0 where
  pub front : List ℕ
  pub asked : front ++ p.0 ≡ xs
  pub has : front ++ p.1 ≡ ys

shared : (xs ys : List ℕ) → Shared xs ys (apart xs ys)
shared [] ys = record { front = []; asked = refl; has = refl }
shared (x ∷ xs) [] = record { front = []; asked = refl; has = refl }
shared (x ∷ xs) (y ∷ ys) = by (nat_eq x y) refl (shared xs ys)
  where
    by : (b : Bool) → nat_eq x y ≡ b → Shared xs ys (apart xs ys) → Shared (x ∷ xs) (y ∷ ys) (cond b (apart xs ys) (x ∷ xs, y ∷ ys))
    by true e s = record { front = x ∷ s.front; asked = ap (λ l. x ∷ l) s.asked; has = ap (λ l. x ∷ l) s.has ∙ ap (λ z. z ∷ ys) (eqb-true x y e) }
    by false e s = record { front = []; asked = refl; has = refl }

allowed_allows : (v : Versions) (front xs ys : List ℕ) → is_allowed v xs ys ≡ true → Allows v (front ++ xs) (front ++ ys)
allowed_allows Same front [] [] h = same
allowed_allows Same front [] (y ∷ ys) h = cc
allowed_allows Same front (x ∷ xs) ys h = cc
allowed_allows Successors front [] [] h = same
allowed_allows Successors front [] (y ∷ ys) h = cc
allowed_allows Successors front (x ∷ []) [] h = cc
allowed_allows Successors front (x ∷ []) (y ∷ []) h = successor front x y (ltb-true x y h)
allowed_allows Successors front (x ∷ []) (y ∷ z ∷ ys) h = cc
allowed_allows Successors front (x ∷ z ∷ xs) ys h = cc
allowed_allows Descendants front [] ys h = subst (λ l. Allows Descendants l (front ++ ys)) (sym (append-nil front)) (descendant front ys)
allowed_allows Descendants front (x ∷ xs) ys h = cc

tested_allows : (v : Versions) (asked has : List ℕ) → allows v asked has ≡ true → Allows v asked has
unfolding allows
tested_allows v asked has h =
    let s = shared asked has in
    subst (λ l. Allows v l has) s.asked (subst (Allows v (s.front ++ (apart asked has).0)) s.has (allowed_allows v s.front (apart asked has).0 (apart asked has).1 h))

-- ---- what holds is tested

apart_behind : (front xs ys : List ℕ) → apart (front ++ xs) (front ++ ys) ≡ apart xs ys
apart_behind [] xs ys = refl
apart_behind (z ∷ front) xs ys =
    ap (λ b. cond b (apart (front ++ xs) (front ++ ys)) (z ∷ (front ++ xs), z ∷ (front ++ ys))) (eq-eqb z z refl) ∙ apart_behind front xs ys

none_left : (v : Versions) → is_allowed v [] [] ≡ true
none_left Same = refl
none_left Successors = refl
none_left Descendants = refl

apart_same : (xs : List ℕ) → apart xs xs ≡ ([], [])
apart_same xs = ap₂ apart (sym (append-nil xs)) (sym (append-nil xs)) ∙ apart_behind xs [] []

apart_one : (a b : ℕ) → a < b → apart (a ∷ []) (b ∷ []) ≡ (a ∷ [], b ∷ [])
apart_one a b l =
    ap (λ t. cond t ([], []) (a ∷ [], b ∷ [])) (false_from_ne_true (nat_eq a b) (λ e. let equal = eqb-true a b e in absurd (omega (arith, l, equal))))

allows_tested : (v : Versions) (asked has : List ℕ) → Allows v asked has → allows v asked has ≡ true
unfolding allows
allows_tested v asked _ same = ap (λ p. is_allowed v p.0 p.1) (apart_same asked) ∙ none_left v
allows_tested _ _ _ (successor front a b l) =
    ap (λ p. is_allowed Successors p.0 p.1) (apart_behind front (a ∷ []) (b ∷ []) ∙ apart_one a b l) ∙ lt-ltb a b l
allows_tested _ _ _ (descendant asked more) =
    ap (λ p. is_allowed Descendants p.0 p.1) (ap (λ l. apart l (asked ++ more)) (sym (append-nil asked)) ∙ apart_behind asked [] more)

pub fits_tested : (i : Import) (m : Module) → (fits i.versions (arcs i.id) (arcs m.id) ≡ true) ↔ Fits i m
fits_tested i m = (to, λ h. from h (arcs i.id) (arcs m.id) refl refl)
  where
    to : fits i.versions (arcs i.id) (arcs m.id) ≡ true → Fits i m
    to h asked has a b =
        let p = (arcs_told i.id asked).1 a in
        let q = (arcs_told m.id has).1 b in
        tested_allows i.versions asked has (sym (ap₂ (fits i.versions) p q) ∙ h)

    from : Fits i m → (o p : Option (List ℕ)) → arcs i.id ≡ o → arcs m.id ≡ p → fits i.versions o p ≡ true
    from h None p a b = refl
    from h (Some asked) None a b = refl
    from h (Some asked) (Some has) a b = allows_tested i.versions asked has (h asked has ((arcs_told i.id asked).0 a) ((arcs_told m.id has).0 b))

-- ---- where the arcs of a module end

pub apart_none : (xs : List ℕ) → apart xs [] ≡ (xs, [])
apart_none [] = refl
apart_none (x ∷ xs) = refl
