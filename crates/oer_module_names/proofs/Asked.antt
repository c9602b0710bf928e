-- What is found for a Name behind that of a module, and for a Name in all modules.
use Rattle.std.proofs.Common.{◌≡◌, ◌+◌, ◌<◌, ◌⊎◌, inl, inr, ℕ, zero, suc, Bool, true, false, cond, List, [], ◌∷◌, length, Option}
use Rattle.std.proofs.Common.{None, Some, slice_get, Result, Ok, Err, refl, sym, subst, ap, ap₂, ◌∙◌, arith}
use Rattle.std.proofs.lemmas.Bool.{false_from_ne_true}
use Rattle.std.proofs.lemmas.Slice.Eq.{bytes_eq-Decides}
use Rattle.std.specs.Option.{option_map_or}
use Rattle.std.specs.Str.{bytes_eq}
use Rattle.oer_module_syntax.specs.Tree.{Import, Module}
use Rattle.oer_module_names.proofs.Among.{Gives, Tells, among_either, among_left, among_right, same_some, tells}
use Rattle.oer_module_names.proofs.Stands.{follow_stands, finds_stands, stands_finds, stands_follow, stands_within}
use Rattle.oer_module_names.proofs.Others.{fit_where_none}
use Rattle.oer_module_names.proofs.Steps.{name_here, other_here, through_crosses, through_is}
use Rattle.oer_module_names.proofs.Tellings.{among_is_there, at_from, each_given, each_gives, first_at, there_is_among}
use Rattle.oer_module_names.specs.Finding.{Fault, ◌>>=◌, find, find_anywhere, find_by_assigner, find_from, find_in, follow, from_name, from_place, own_name, through}
use Rattle.oer_module_names.specs.Sole.{each, first_of, is_there, sole}
use Rattle.oer_module_names.specs.Standing.{Has, IsAmong, IsAt, IsOnlyAssignment, IsOnlyAt, IsImportedFrom, IsVersion, MayLeave, StandsFor, StandsForIn, imported, itself, other, own}
use Rattle.oer_module_names.specs.Tables.{assigner, assigners_from, assignment_names, identifiers, module_names, named, other as others_of, other_in, source, source_in, source_names}
use Rattle.oer_module_names.specs.declared.error.Found.{Found}
use Rattle.oer_module_names.specs.declared.index.Sole.{Sole}
use Rattle.oer_module_names.specs.declared.index.Sole.TheVariants.{Nothing, One, Two}
use Rattle.oer_module_names.specs.declared.way.Way.{Way}

some_at : {A : Type 0} (xs : List A) (k : ℕ) → k < length xs → (x : A) × IsAt xs k x
some_at [] k l = absurd (omega (arith, l))
some_at (x ∷ xs) zero l = (x, refl)
some_at (x ∷ xs) (suc k) l = some_at xs k (omega (arith, l))

-- ---- a Name behind that of a module

module _ (ms : List Module) (f w : List ℕ) (k : ℕ) (x : Found) where
  name_of_own : (m : Module) → IsAt ms k m → own_name ms k ≡ m.name
  unfolding own_name
  name_of_own m at = ap (λ o. option_map_or (λ y. y.name) o []) at

  source_of : (m : Module) → IsAt ms k m → source_in ms k f ≡ source m.imports f
  unfolding source_in
  source_of m at = ap (λ o. option_map_or (λ y. source y.imports f) o Nothing) at

  source_some : (s : Sole) → source_in ms k f ≡ s → is_there s ≡ true → (m : Module) × IsAt ms k m × (source m.imports f ≡ s)
  unfolding source_in
  source_some s h there = by (slice_get ms k) refl h
    where
      by : (o : Option Module) → slice_get ms k ≡ o → option_map_or (λ y. source y.imports f) o Nothing ≡ s → (m : Module) × IsAt ms k m × (source m.imports f ≡ s)
      by None e g = let no : is_there s ≡ false = ap is_there (sym g) in cc
      by (Some m) e g = (m, e, g)

  -- the first import from a module of the name has it
  first_named : (m : Module) (i : ℕ) → IsAt ms k m → IsAmong (source_names m.imports) f → first_of (source m.imports f) 0 ≡ i → from_name ms k i ≡ f
  first_named m i at among first =
      let here : IsAt (source_names m.imports) i f = subst (λ j. IsAt (source_names m.imports) j f) first (first_at (source_names m.imports) f 0 among) in
      let y = at_from m w i f here in
      name_here ms k m at i y.0 y.1 ∙ y.2

  other_stands : (m : Module) (i : ℕ) → IsAt ms k m → ¬ (f ≡ m.name) → IsAmong (source_names m.imports) f → first_of (source m.imports f) 0 ≡ i
      → (through ms w k i >>= follow ms w (length ms)) ≡ Ok x → StandsForIn ms f w x k
  other_stands m i at apart among first h = by (through ms w k i) refl h
    where
      by : (r : Result Way Fault) → through ms w k i ≡ r → (r >>= follow ms w (length ms)) ≡ Ok x → StandsForIn ms f w x k
      by (Err e) t g = cc
      by (Ok way) t g =
          let c = through_crosses ms w k i way t in
          let name = first_named m i at among first in
          let only = subst (λ v. IsOnlyAt (module_names ms) way.«module» v) name c.only in
          let none : others_of (named ms) (identifiers ms) m f ≡ Nothing = sym (other_here ms k m at f) ∙ sym (ap (other_in ms k) name) ∙ c.none in
          other at apart among only c.at (fit_where_none ms f way.«module» c.next only c.at m none) c.may (follow_stands ms w (length ms) way x g)

  source_stands : (s : Sole) → source_in ms k f ≡ s → (f ≡ own_name ms k → ⊥) → find_from ms k f w s ≡ Ok x → StandsForIn ms f w x k
  source_stands Nothing e apart h = cc
  source_stands (One i) e apart h =
      let m = source_some (One i) e refl in
      let among = there_is_among (source_names m.0.imports) f (ap is_there m.2) in
      other_stands m.0 i m.1 (λ same. apart (same ∙ sym (name_of_own m.0 m.1))) among (ap (λ s. first_of s 0) m.2) h
  source_stands (Two i j) e apart h =
      let m = source_some (Two i j) e refl in
      let among = there_is_among (source_names m.0.imports) f (ap is_there m.2) in
      other_stands m.0 i m.1 (λ same. apart (same ∙ sym (name_of_own m.0 m.1))) among (ap (λ s. first_of s 0) m.2) h

  pub finds_stands_in : find_in ms k f w ≡ Ok x → StandsForIn ms f w x k
  unfolding find_in
  finds_stands_in h = by (bytes_eq f (own_name ms k)) refl h
    where
      by : (b : Bool) → bytes_eq f (own_name ms k) ≡ b → cond b (find ms k w) (find_from ms k f w (source_in ms k f)) ≡ Ok x → StandsForIn ms f w x k
      by true e g =
          let s = finds_stands ms w k x g in
          let m = some_at ms k (stands_within ms w k x s) in
          itself m.1 ((bytes_eq-Decides f (own_name ms k)).0 e ∙ name_of_own m.0 m.1) s
      by false e g = source_stands (source_in ms k f) refl (λ same. let yes : bytes_eq f (own_name ms k) ≡ true = (bytes_eq-Decides f (own_name ms k)).1 same in cc) g

  -- through import i, which is from that module
  import_finds : (m : Module) (i j : ℕ) (n : Module) → IsAt ms k m → from_name ms k i ≡ f → IsOnlyAt (module_names ms) j f → IsAt ms j n → IsVersion m f n → MayLeave n.exports w → StandsFor ms w x j
      → (through ms w k i >>= follow ms w (length ms)) ≡ Ok x
  import_finds m i j n at name only there fit may rest =
      ap (λ r. r >>= follow ms w (length ms)) (through_is ms w k i j f m n at name only there fit may) ∙ stands_follow ms w j (from_place ms k i) x rest

  source_finds : (m : Module) (s : Sole) → IsAt ms k m → source m.imports f ≡ s → IsAmong (source_names m.imports) f
      → ((i : ℕ) → from_name ms k i ≡ f → (through ms w k i >>= follow ms w (length ms)) ≡ Ok x) → find_from ms k f w s ≡ Ok x
  source_finds m Nothing at e among found = let no : is_there (source m.imports f) ≡ false = ap is_there e in let yes = among_is_there (source_names m.imports) f among in cc
  source_finds m (One i) at e among found = found i (first_named m i at among (ap (λ s. first_of s 0) e))
  source_finds m (Two i j) at e among found = found i (first_named m i at among (ap (λ s. first_of s 0) e))

  pub stands_finds_in : StandsForIn ms f w x k → find_in ms k f w ≡ Ok x
  unfolding find_in
  stands_finds_in (itself {m = m} at same rest) =
      let yes : bytes_eq f (own_name ms k) ≡ true = (bytes_eq-Decides f (own_name ms k)).1 (same ∙ sym (name_of_own m at)) in
      ap (λ b. cond b (find ms k w) (find_from ms k f w (source_in ms k f))) yes ∙ stands_finds ms w k x rest
  stands_finds_in (other {j = j} {m = m} {n = n} at apart among only there fit may rest) =
      let no : bytes_eq f (own_name ms k) ≡ false = false_from_ne_true (bytes_eq f (own_name ms k)) (λ yes. apart ((bytes_eq-Decides f (own_name ms k)).0 yes ∙ name_of_own m at)) in
      ap (λ b. cond b (find ms k w) (find_from ms k f w (source_in ms k f))) no
      ∙ ap (find_from ms k f w) (source_of m at)
      ∙ source_finds m (source m.imports f) at refl among (λ i name. import_finds m i j n at name only there fit may rest)

-- ---- a Name in all modules

assigners_give : (n : ℕ) (ms : List Module) (w : List ℕ) (k : ℕ) (m : Module) → IsAt ms k m → IsAmong (assignment_names m.assignments) w → Gives (assigners_from n ms) w (n + k)
assigners_give n [] w k m at h = cc
assigners_give n (x ∷ ms) w zero m at h =
    let here : n ≡ n + 0 = omega arith in
    among_left (each (assignment_names x.assignments) n) (assigners_from (suc n) ms) (record { name = w; number = n + 0 })
    (subst (Gives (each (assignment_names x.assignments) n) w) here
    (each_gives (assignment_names x.assignments) w n (subst (λ y. IsAmong (assignment_names y.assignments) w) (sym (same_some x m at)) h)))
assigners_give n (x ∷ ms) w (suc k) m at h =
    let next : suc n + k ≡ n + suc k = omega arith in
    among_right (each (assignment_names x.assignments) n) (assigners_from (suc n) ms) (record { name = w; number = n + suc k })
    (subst (Gives (assigners_from (suc n) ms) w) next (assigners_give (suc n) ms w k m at h))

record IsAssigner (n : ℕ) (ms : List Module) (w : List ℕ) (b : ℕ) : Type 0 where
  pub place : ℕ
  pub this : Module
  pub at : IsAt ms place this
  pub among : IsAmong (assignment_names this.assignments) w
  pub number : b ≡ n + place

assigners_given : (n : ℕ) (ms : List Module) (w : List ℕ) (b : ℕ) → Gives (assigners_from n ms) w b → IsAssigner n ms w b
assigners_given n [] w b (i, h) = cc
assigners_given n (x ∷ ms) w b g = by (among_either (each (assignment_names x.assignments) n) (assigners_from (suc n) ms) (record { name = w; number = b }) g) (assigners_given (suc n) ms w b)
  where
    by : Gives (each (assignment_names x.assignments) n) w b ⊎ Gives (assigners_from (suc n) ms) w b → (Gives (assigners_from (suc n) ms) w b → IsAssigner (suc n) ms w b) → IsAssigner n (x ∷ ms) w b
    by (inl l) rest = let r = each_given (assignment_names x.assignments) w n b l in record { place = 0; this = x; at = refl; among = r.0; number = let e = r.1 in omega (arith, e) }
    by (inr l) rest = let r = rest l in record { place = suc r.place; this = r.this; at = r.at; among = r.among; number = let e = r.number in omega (arith, e) }

module _ (ms : List Module) (w : List ℕ) (x : Found) where
  -- which module assigns w
  assigner_at : (b : ℕ) → Gives (assigners_from 0 ms) w b → (m : Module) × IsAt ms b m × IsAmong (assignment_names m.assignments) w
  assigner_at b g =
      let r = assigners_given 0 ms w b g in
      let same : r.place ≡ b = let e = r.number in omega (arith, e) in
      (r.this, subst (λ k. IsAt ms k r.this) same r.at, r.among)

  gives_assigner : (k : ℕ) (m : Module) → IsAt ms k m → IsAmong (assignment_names m.assignments) w → Gives (assigners_from 0 ms) w k
  gives_assigner k m at among = let same : 0 + k ≡ k = omega arith in subst (Gives (assigners_from 0 ms) w) same (assigners_give 0 ms w k m at among)

  -- a module that assigns the Name has it from no other
  own_only : (k : ℕ) (m : Module) → IsAt ms k m → IsAmong (assignment_names m.assignments) w → StandsFor ms w x k → (k ≡ x.«module») × IsOnlyAt (assignment_names m.assignments) x.assignment w
  own_only k m at among (own {m = n} there only) = (refl, subst (λ y. IsOnlyAt (assignment_names y.assignments) x.assignment w) (same_some n m (sym there ∙ at)) only)
  own_only k m at among (imported {m = n} there absent from only next fit may rest) =
      absurd (absent (subst (λ y. IsAmong (assignment_names y.assignments) w) (same_some m n (sym at ∙ there)) among))

  pub finds_only : find_anywhere ms w ≡ Ok x → IsOnlyAssignment ms w x
  unfolding assigner find_anywhere
  finds_only h = by (sole (assigners_from 0 ms) w) (tells (assigners_from 0 ms) w) h
    where
      by : (s : Sole) → Tells (assigners_from 0 ms) w s → find_by_assigner ms w s ≡ Ok x → IsOnlyAssignment ms w x
      by Nothing t g = cc
      by (Two a b) t g = cc
      by (One k) t g =
          let a = assigner_at k t.0 in
          let o = own_only k a.0 a.1 a.2 (finds_stands ms w k x g) in
          let at : IsAt ms x.«module» a.0 = subst (λ i. IsAt ms i a.0) o.0 a.1 in
          record {
            here = (a.0, at, o.1.here);
            only = λ y assigns.
                let same : y.«module» ≡ x.«module» = t.1 y.«module» (gives_assigner y.«module» assigns.0 assigns.1 (y.assignment, assigns.2)) ∙ o.0 in
                let this : assigns.0 ≡ a.0 = same_some assigns.0 a.0 (sym assigns.1 ∙ ap (slice_get ms) same ∙ at) in
                ap₂ (λ i n. record { «module» = i; assignment = n }) same (o.1.only y.assignment (subst (λ m. IsAt (assignment_names m.assignments) y.assignment w) this assigns.2));
          }

  pub only_finds : IsOnlyAssignment ms w x → find_anywhere ms w ≡ Ok x
  unfolding assigner find_anywhere
  only_finds h = by (sole (assigners_from 0 ms) w) (tells (assigners_from 0 ms) w)
    where
      is_here : (k : ℕ) → Gives (assigners_from 0 ms) w k → k ≡ x.«module»
      is_here k g = let a = assigner_at k g in ap (λ y. y.«module») (h.only (record { «module» = k; assignment = a.2.0 }) (a.0, a.1, a.2.1))

      alone : StandsFor ms w x x.«module»
      alone = own h.here.1 (record {
        here = h.here.2;
        only = λ j at. ap (λ y. y.assignment) (h.only (record { «module» = x.«module»; assignment = j }) (h.here.0, h.here.1, at));
      })

      by : (s : Sole) → Tells (assigners_from 0 ms) w s → find_by_assigner ms w s ≡ Ok x
      by Nothing t = absurd (t x.«module» (gives_assigner x.«module» h.here.0 h.here.1 (x.assignment, h.here.2)))
      by (Two a b) t = absurd (t.2 (is_here a t.0 ∙ sym (is_here b t.1)))
      by (One k) t = ap (λ i. find ms i w) (is_here k t.0) ∙ stands_finds ms w x.«module» x alone

-- ---- the versions

pub finds_version : (ms : List Module) (w : List ℕ) (k : ℕ) (x : Found) (m : Module) (i : Import) → find ms k w ≡ Ok x → IsAt ms k m → ¬ IsAmong (assignment_names m.assignments) w
    → IsAmong m.imports i → Has i w → IsImportedFrom ms w x i
finds_version ms w k x m i h at absent among has = by k (finds_stands ms w k x h) at
  where
    by : (c : ℕ) → StandsFor ms w x c → IsAt ms c m → IsImportedFrom ms w x i
    by c (own {m = o} there only) here =
        let same : o ≡ m = same_some o m (sym there ∙ here) in
        absurd (absent (subst (λ y. IsAmong (assignment_names y.assignments) w) same (x.assignment, only.here)))
    by c (imported {j = j} {m = o} {n = n} {f = f} there gone from only next fit may rest) here =
        let same : o ≡ m = same_some o m (sym there ∙ here) in
        let those = subst (λ y. IsAmong y.imports i) (sym same) among in
        let name : i.from ≡ f = from.only i those has in
        record {
          place = j;
          this = n;
          only = subst (λ v. IsOnlyAt (module_names ms) j v) (sym name) only;
          at = next;
          fit = fit i those name;
          found = stands_finds ms w j x rest;
        }
