-- The way from a type to what it stands for.
use Rattle.std.proofs.Common.{◌≡◌, ℕ, zero, suc, List, [], ◌∷◌, ◌++◌, append_assoc, append-nil, Option, Some, None, Result, Ok, Err}
use Rattle.std.proofs.Common.{refl, sym, ap, subst, ◌∙◌, Bool, true, false, if◌then◌else◌}
use Rattle.oer_module_lexer.specs.Token.{Spot}
use Rattle.oer_module_syntax.specs.Modules.{none_left}
use Rattle.oer_module_syntax.specs.Tree.{Module, Body, type_body, set_body, value_body, class_body}
use Rattle.oer_module_syntax.specs.Tree.{Tree, plain, named, tagged, structure, list_of, selection, instance_of, any_defined_by}
use Rattle.oer_module_syntax.specs.declared.tree.Mode.{Mode}
use Rattle.oer_module_values.proofs.References.{none_left-nil, refers, only_fields, is_referred}
use Rattle.oer_module_values.specs.Errors.{Error, error, place_in, unsettled, ◌>>=◌}
use Rattle.oer_module_values.specs.Looks.{fields, path_of}
use Rattle.oer_module_values.specs.Types.{TypeIn, type_in, Referent, Given, constraints, set, Meaning, IsFinal, Refers, Means, itself}
use Rattle.oer_module_values.specs.Types.{tag, type, values}
use Rattle.oer_module_values.specs.Types.{Step, entered_by, entered, followed, after, referred, follow, step_by, step, walk}

-- ---- what one step says

-- there is no way on; or there is one, on which more is given
abbrev pub IsStep : (ms : List Module) → ℕ → Tree → List Given → Step → Type 0
IsStep ms m t before (None, gs) = (gs ≡ before) × IsFinal t
IsStep ms m t before (Some u, gs) =
    (more : List Given) × (gs ≡ more ++ before) × ((v : TypeIn) (hs : List Given) → Means ms u.«module» u.type v hs → Means ms m t v (hs ++ more))

module _ (ms : List Module) (m : ℕ) (before : List Given) where
  is_step : (t : Tree) (s r : Step) → IsStep ms m t before r → ◌≡◌ {A = Result Step Error} (Ok r) (Ok s) → IsStep ms m t before s
  is_step t s r h e = subst (IsStep ms m t before) (let d : r ≡ s = cc in d) h

  body_step : (at n : ℕ) (w : List ℕ) (steps cs : List Spot) (b : Body) (s : Step) → Refers ms m w steps n b
      → entered_by (place_in m at) cs n b before ≡ Ok s → IsStep ms m (named at w steps [] cs) before s
  body_step at n w steps cs (type_body t) s r h =
      is_step (named at w steps [] cs) s _ (constraints m cs ∷ [], refl, λ v hs g. type m at w steps cs n t v hs r g) h
  body_step at n w steps cs (set_body t ts) s r h =
      is_step (named at w steps [] cs) s _ (set n ts ∷ constraints m cs ∷ [], refl, λ v hs g. values m at w steps cs ts n t v hs r g) h
  body_step at n w steps cs (class_body fs ts) s r h = absurd (cc)
  body_step at n w steps cs (value_body t ts) s r h = absurd (cc)

  referent_step : (at : ℕ) (w : List ℕ) (steps cs : List Spot) (r : Referent) (b : Bool) (s : Step) → none_left r.assignment.parameters ≡ b
      → referred ms (place_in m at) w (path_of steps) ≡ Ok (Some r)
      → (if b then entered (place_in m at) cs r before else error (place_in m at) unsettled) ≡ Ok s
      → IsStep ms m (named at w steps [] cs) before s
  referent_step at w steps cs r true s e g h =
      body_step at r.«module» w steps cs r.assignment.body s (refers ms (place_in m at) w steps r g (none_left-nil _ e)) h
  referent_step at w steps cs r false s e g h = absurd (cc)

  referred_step : (at : ℕ) (w : List ℕ) (steps cs : List Spot) (o : Result (Option Referent) Error) (s : Step)
      → referred ms (place_in m at) w (path_of steps) ≡ o → (o >>= followed (place_in m at) cs before) ≡ Ok s
      → IsStep ms m (named at w steps [] cs) before s
  referred_step at w steps cs (Err e) s g h = absurd (cc)
  referred_step at w steps cs (Ok None) s g h =
      is_step (named at w steps [] cs) s (None, before) (refl, only_fields ms (place_in m at) w (path_of steps) g) h
  referred_step at w steps cs (Ok (Some r)) s g h = referent_step at w steps cs r (none_left r.assignment.parameters) s refl g h

  named_step : (at : ℕ) (w : List ℕ) (steps ps cs : List Spot) (s : Step)
      → step_by ms m (named at w steps ps cs) before ≡ Ok s → IsStep ms m (named at w steps ps cs) before s
  unfolding follow
  named_step at w steps [] cs s h = referred_step at w steps cs _ s refl h
  named_step at w steps (p ∷ ps) cs s h = is_step (named at w steps (p ∷ ps) cs) s (None, before) (refl, tt) h

  tagged_step : (at : ℕ) (ts : List Spot) (mode : Mode) (t : Tree) → IsStep ms m (tagged at ts mode t) before (Some (type_in m t), before)
  tagged_step at ts mode t =
      ([], refl, λ v hs g. subst (λ gs. Means ms m (tagged at ts mode t) v gs) (sym (append-nil hs)) (tag m at ts mode t v hs g))

  any_step : (t : Tree) (s : Step) → step_by ms m t before ≡ Ok s → IsStep ms m t before s
  any_step (tagged at ts mode t) s h = is_step (tagged at ts mode t) s _ (tagged_step at ts mode t) h
  any_step (named at w steps ps cs) s h = named_step at w steps ps cs s h
  any_step (plain at b is cs) s h = is_step (plain at b is cs) s (None, before) (refl, tt) h
  any_step (structure at b es cs) s h = is_step (structure at b es cs) s (None, before) (refl, tt) h
  any_step (list_of at b z ss n t) s h = is_step (list_of at b z ss n t) s (None, before) (refl, tt) h
  any_step (selection at n t) s h = is_step (selection at n t) s (None, before) (refl, tt) h
  any_step (instance_of at c p cs) s h = is_step (instance_of at c p cs) s (None, before) (refl, tt) h
  any_step (any_defined_by at b) s h = is_step (any_defined_by at b) s (None, before) (refl, tt) h

-- ---- the whole way

-- what is found from here on
abbrev pub IsFound : (ms : List Module) → TypeIn → List Given → Meaning → Type 0
IsFound ms t before r = (gs : List Given) × (r.given ≡ gs ++ before) × Means ms t.«module» t.type r.of gs

found_ends : (ms : List Module) (t : TypeIn) (before gs : List Given) (r : Meaning) → gs ≡ before → IsFinal t.type
    → ◌≡◌ {A = Result Meaning Error} (Ok (record { of = t; given = gs })) (Ok r) → IsFound ms t before r
found_ends ms t before gs r e final h =
    let d : record { of = t; given = gs } ≡ r = cc in
    subst (IsFound ms t before) d ([], e, itself t.«module» t.type final)

found_on : (ms : List Module) (t u : TypeIn) (before gs : List Given) (r : Meaning) → IsStep ms t.«module» t.type before (Some u, gs)
    → IsFound ms u gs r → IsFound ms t before r
found_on ms t u before gs r p q =
    (q.0 ++ p.0, q.1 ∙ ap (λ l. q.0 ++ l) p.1 ∙ sym (append_assoc q.0 p.0 before), p.2 r.of q.0 q.2)

module _ (ms : List Module) where
  found_by : (k : ℕ) (t : TypeIn) (before : List Given) (r : Meaning) (s : Result Step Error)
      → ((u : TypeIn) (gs : List Given) → walk ms k u gs ≡ Ok r → IsFound ms u gs r) → step ms t before ≡ s
      → (s >>= after (walk ms k) t) ≡ Ok r → IsFound ms t before r
  unfolding step
  found_by k t before r (Err e) on is h = absurd (cc)
  found_by k t before r (Ok (None, gs)) on is h =
      let p = any_step ms t.«module» before t.type (None, gs) is in found_ends ms t before gs r p.0 p.1 h
  found_by k t before r (Ok (Some u, gs)) on is h =
      found_on ms t u before gs r (any_step ms t.«module» before t.type (Some u, gs) is) (on u gs h)

  pub found : (k : ℕ) (t : TypeIn) (before : List Given) (r : Meaning) → walk ms k t before ≡ Ok r → IsFound ms t before r
  unfolding walk
  found zero t before r h = absurd (cc)
  found (suc k) t before r h = found_by k t before r (step ms t before) (λ u gs g. found k u gs r g) refl h

  walk_ends : (t : TypeIn) (before gs : List Given) → step ms t before ≡ Ok (None, gs)
      → walk ms 1 t before ≡ Ok (record { of = t; given = gs })
  unfolding walk
  walk_ends t before gs h = rw h refl

  walk_on : (k : ℕ) (t u : TypeIn) (before gs : List Given) → step ms t before ≡ Ok (Some u, gs)
      → walk ms (suc k) t before ≡ walk ms k u gs
  unfolding walk
  walk_on k t u before gs h = rw h refl

  named_ends : (m at : ℕ) (w : List ℕ) (steps cs : List Spot) (before : List Given) → path_of steps ≡ fields
      → step_by ms m (named at w steps [] cs) before ≡ Ok (None, before)
  unfolding follow
  named_ends m at w steps cs before h = rw h refl

  final_ends : (m : ℕ) (t : Tree) (before : List Given) → IsFinal t → step_by ms m t before ≡ Ok (None, before)
  final_ends m (tagged at ts mode t) before h = absurd h
  final_ends m (named at w steps [] cs) before h = named_ends m at w steps cs before h
  final_ends m (named at w steps (p ∷ ps) cs) before h = refl
  final_ends m (plain at b is cs) before h = refl
  final_ends m (structure at b es cs) before h = refl
  final_ends m (list_of at b z ss n t) before h = refl
  final_ends m (selection at n t) before h = refl
  final_ends m (instance_of at c p cs) before h = refl
  final_ends m (any_defined_by at b) before h = refl

  module _ (m at : ℕ) (w : List ℕ) (steps cs : List Spot) (n : ℕ) (before : List Given) where
    body_goes : (b : Body) (s : Step) → Refers ms m w steps n b → entered_by (place_in m at) cs n b before ≡ Ok s
        → step_by ms m (named at w steps [] cs) before ≡ Ok s
    unfolding follow
    body_goes b s r h =
        ap (λ o. o >>= followed (place_in m at) cs before) (is_referred ms (place_in m at) w steps n b r)
        ∙ ap (λ l. if none_left l then entered_by (place_in m at) cs r.found.«module» r.assignment.body before else error (place_in m at) unsettled) r.without
        ∙ ap (λ k. entered_by (place_in m at) cs k r.assignment.body before) r.module_is
        ∙ ap (λ c. entered_by (place_in m at) cs n c before) r.body_is ∙ h

  -- a number of steps in which this is found
  abbrev pub Comes : ℕ → Tree → TypeIn → List Given → Type 0
  Comes m t u gs = (k : ℕ) × ((before : List Given) → walk ms k (type_in m t) before ≡ Ok (record { of = u; given = gs ++ before }))

  comes_on : (m n : ℕ) (t v : Tree) (u : TypeIn) (gs more : List Given)
      → ((before : List Given) → step ms (type_in m t) before ≡ Ok (Some (type_in n v), more ++ before))
      → Comes n v u gs → Comes m t u (gs ++ more)
  comes_on m n t v u gs more h c = (
    suc c.0,
    λ before. walk_on c.0 (type_in m t) (type_in n v) before (more ++ before) (h before) ∙ c.1 (more ++ before)
        ∙ ap (λ l. Ok (record { of = u; given = l })) (sym (append_assoc gs more before)),
  )

  pub comes : (m : ℕ) (t : Tree) (u : TypeIn) (gs : List Given) → Means ms m t u gs → Comes m t u gs
  unfolding step
  comes _ _ _ _ (itself m t final) = (1, λ before. walk_ends (type_in m t) before before (final_ends m t before final))
  comes _ _ _ _ (tag m at ts mode t u gs h) =
      subst (Comes m (tagged at ts mode t) u) (append-nil gs)
      (comes_on m m (tagged at ts mode t) t u gs [] (λ before. refl) (comes m t u gs h))
  comes _ _ _ _ (type m at w steps cs n t u gs r h) =
      comes_on m n (named at w steps [] cs) t u gs (constraints m cs ∷ [])
      (λ before. body_goes m at w steps cs n before (type_body t) _ r refl) (comes n t u gs h)
  comes _ _ _ _ (values m at w steps cs ts n t u gs r h) =
      comes_on m n (named at w steps [] cs) t u gs (set n ts ∷ constraints m cs ∷ [])
      (λ before. body_goes m at w steps cs n before (set_body t ts) _ r refl) (comes n t u gs h)

  same_by : (k n : ℕ) (t : TypeIn) (before : List Given) (r s : Meaning) (o : Result Step Error)
      → ((u : TypeIn) (gs : List Given) → walk ms k u gs ≡ Ok r → walk ms n u gs ≡ Ok s → r ≡ s)
      → (o >>= after (walk ms k) t) ≡ Ok r → (o >>= after (walk ms n) t) ≡ Ok s → r ≡ s
  same_by k n t before r s (Err e) on h g = absurd (cc)
  same_by k n t before r s (Ok (None, gs)) on h g = cc
  same_by k n t before r s (Ok (Some u, gs)) on h g = on u gs h g

  -- two ways that begin at one type come to one
  same : (k n : ℕ) (t : TypeIn) (before : List Given) (r s : Meaning) → walk ms k t before ≡ Ok r → walk ms n t before ≡ Ok s → r ≡ s
  unfolding walk
  same zero n t before r s h g = absurd (cc)
  same (suc k) zero t before r s h g = absurd (cc)
  same (suc k) (suc n) t before r s h g = same_by k n t before r s (step ms t before) (λ u gs. same k n u gs r s) h g

  pub sole : (m : ℕ) (t : Tree) (u v : TypeIn) (gs hs : List Given) → Means ms m t u gs → Means ms m t v hs → (u ≡ v) × (gs ≡ hs)
  sole m t u v gs hs h g =
      let a = comes m t u gs h in
      let b = comes m t v hs g in
      let e = same a.0 b.0 (type_in m t) [] _ _ (a.1 []) (b.1 []) in
      (ap (λ r. r.of) e, sym (append-nil gs) ∙ ap (λ r. r.given) e ∙ append-nil hs)
