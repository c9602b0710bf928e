-- What is found is what Names stand for.
use Rattle.std.proofs.Common.{◌≡◌, ◌<◌, ℕ, zero, suc, List, length, Some, Result, Ok, Err, refl, sym, subst, ap, ◌∙◌}
use Rattle.std.proofs.lemmas.Option.{slice_get_within}
use Rattle.oer_module_syntax.specs.Tree.{Module}
use Rattle.oer_module_names.proofs.Rounds.{Turn, chain, chain_within, done, on, stuck, turned}
use Rattle.oer_module_names.proofs.Steps.{Leads, Owns, leads_step, owns_step, step_leads, step_owns}
use Rattle.oer_module_names.specs.Finding.{Fault, ◌>>=◌, after, find, follow, module_place, step}
use Rattle.oer_module_names.specs.Standing.{IsAt, StandsFor, imported, own}
use Rattle.oer_module_names.specs.declared.error.Found.{Found}
use Rattle.oer_module_names.specs.declared.error.Place.{Place}
use Rattle.oer_module_names.specs.declared.way.Step.{Step}
use Rattle.oer_module_names.specs.declared.way.Step.TheVariants.{Here, On}
use Rattle.oer_module_names.specs.declared.way.Way.{Way}

module _ (ms : List Module) (w : List ℕ) where
  abbrev way_at : ℕ → Place → Way
  way_at k p = record { «module» = k; place = p }

  -- ---- what is found stands

  pub follow_stands : (n : ℕ) (way : Way) (x : Found) → follow ms w n way ≡ Ok x → StandsFor ms w x way.«module»
  unfolding follow
  follow_stands zero way x h = cc
  follow_stands (suc n) way x h = by (step ms w way) refl h (follow_stands n)
    where
      by : (r : Result Step Fault) → step ms w way ≡ r → (r >>= after ms w (follow ms w n)) ≡ Ok x
          → ((next : Way) (y : Found) → follow ms w n next ≡ Ok y → StandsFor ms w y next.«module») → StandsFor ms w x way.«module»
      by (Err e) s g rest = cc
      by (Ok (Here y)) s g rest =
          let same : y ≡ x = cc in
          let o = step_owns ms w way x (s ∙ ap (λ z. Ok (Here z)) same) in
          subst (λ k. StandsFor ms w x k) (sym o.same) (own (subst (λ k. IsAt ms k o.this) o.same o.at) o.only)
      by (Ok (On next)) s g rest = let l = step_leads ms w way next s in imported l.at l.absent l.from l.only l.there l.fit l.may (rest next x g)

  -- ---- what stands is found, within so many turns

  abbrev turn_of : Result Step Fault → Turn Found
  turn_of (Ok (Here x)) = done x
  turn_of (Ok (On way)) = on way.«module»
  turn_of (Err e) = stuck

  -- the step from module k
  next : ℕ → Turn Found
  next k = turn_of (step ms w (way_at k (module_place ms k)))

  owns_next : (k : ℕ) (x : Found) → Owns ms w k x → next k ≡ done x
  unfolding next
  owns_next k x h = ap turn_of (owns_step ms w k (module_place ms k) x h)

  leads_next : (k j : ℕ) → Leads ms w k j → next k ≡ on j
  unfolding next
  leads_next k j h = ap turn_of ((leads_step ms w k j h).1 (module_place ms k))

  next_within : (k j : ℕ) → next k ≡ on j → j < length ms
  unfolding next
  next_within k j h = by (step ms w (way_at k (module_place ms k))) refl h
    where
      by : (r : Result Step Fault) → step ms w (way_at k (module_place ms k)) ≡ r → turn_of r ≡ on j → j < length ms
      by (Err e) s g = cc
      by (Ok (Here x)) s g = cc
      by (Ok (On way)) s g =
          let l = step_leads ms w (way_at k (module_place ms k)) way s in
          let same : way.«module» ≡ j = cc in
          slice_get_within ms j l.next (subst (λ i. IsAt ms i l.next) same l.there)

  stands_chain : (x : Found) (k : ℕ) → StandsFor ms w x k → (n : ℕ) × (chain next n k ≡ Some x)
  stands_chain x k (own {m} at only) = (1, ap (turned (chain next 0)) (owns_next x.«module» x (record { this = m; at = at; only = only; same = refl })))
  stands_chain x k (imported {j = j} {m = m} {n = n} {f = f} at absent from only there fit may rest) =
      let r = stands_chain x j rest in
      (suc r.0, ap (turned (chain next r.0)) (leads_next k j (record { this = m; next = n; name = f; at = at; absent = absent; from = from; only = only; there = there; fit = fit; may = may })) ∙ r.1)

  chain_follow : (n k : ℕ) (p : Place) (x : Found) → chain next n k ≡ Some x → follow ms w n (way_at k p) ≡ Ok x
  unfolding follow next
  chain_follow zero k p x h = cc
  chain_follow (suc n) k p x h = by (step ms w (way_at k (module_place ms k))) refl h (chain_follow n)
    where
      by : (r : Result Step Fault) → step ms w (way_at k (module_place ms k)) ≡ r → turned (chain next n) (turn_of r) ≡ Some x
          → ((j : ℕ) (q : Place) (y : Found) → chain next n j ≡ Some y → follow ms w n (way_at j q) ≡ Ok y) → (step ms w (way_at k p) >>= after ms w (follow ms w n)) ≡ Ok x
      by (Err e) s g rest = cc
      by (Ok (Here y)) s g rest =
          let same : y ≡ x = cc in
          ap (λ r. r >>= after ms w (follow ms w n)) (owns_step ms w k p y (step_owns ms w (way_at k (module_place ms k)) y s)) ∙ ap Ok same
      by (Ok (On way)) s g rest =
          let l = leads_step ms w k way.«module» (step_leads ms w (way_at k (module_place ms k)) way s) in
          ap (λ r. r >>= after ms w (follow ms w n)) (l.1 p) ∙ rest way.«module» l.0 x g

  pub stands_within : (k : ℕ) (x : Found) → StandsFor ms w x k → k < length ms
  stands_within k x (own {m} at only) = slice_get_within ms x.«module» m at
  stands_within k x (imported {m = m} at absent from only there fit may rest) = slice_get_within ms k m at

  pub stands_follow : (k : ℕ) (p : Place) (x : Found) → StandsFor ms w x k → follow ms w (length ms) (way_at k p) ≡ Ok x
  stands_follow k p x h =
      let c = stands_chain x k h in
      chain_follow (length ms) k p x (chain_within next (length ms) (λ i j l e. next_within i j e) c.0 k x (stands_within k x h) c.1)

pub finds_stands : (ms : List Module) (w : List ℕ) (k : ℕ) (x : Found) → find ms k w ≡ Ok x → StandsFor ms w x k
unfolding find
finds_stands ms w k x h = follow_stands ms w (length ms) (way_at ms w k (module_place ms k)) x h

pub stands_finds : (ms : List Module) (w : List ℕ) (k : ℕ) (x : Found) → StandsFor ms w x k → find ms k w ≡ Ok x
unfolding find
stands_finds ms w k x h = stands_follow ms w k (module_place ms k) x h

pub stand_for_one : (ms : List Module) (w : List ℕ) (k : ℕ) (x y : Found) → StandsFor ms w x k → StandsFor ms w y k → x ≡ y
stand_for_one ms w k x y a b = let p = stands_finds ms w k x a in let q = stands_finds ms w k y b in cc
