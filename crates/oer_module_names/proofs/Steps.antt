-- One step from a module, in the words of the relation.
use Rattle.std.proofs.Common.{◌≡◌, ℕ, Bool, true, false, cond, List, [], Option, None, Some, slice_get, Result, Ok, Err, refl, sym, subst, ap, ◌∙◌}
use Rattle.std.specs.Option.{option_map_or}
use Rattle.oer_module_syntax.specs.Tree.{Import, Module}
use Rattle.oer_module_names.proofs.Others.{fit_where_none, none_where_fit}
use Rattle.oer_module_names.proofs.Tellings.{absent_is_nothing, leaves_may, may_leave, nothing_is_absent, one_is_only, one_is_source, only_is_one, source_is_one}
use Rattle.oer_module_names.specs.Finding.{Fault, ◌>>=◌, fault, fitting, from_name, from_place, import_of_name, into, module_at, one_assignment, one_import, one_module, one_version, own, step, step_by, through, version_at}
use Rattle.oer_module_names.specs.Sole.{numbered, sole}
use Rattle.oer_module_names.specs.Standing.{ImportsFrom, IsAmong, IsAt, IsOnlyAt, IsVersion, MayLeave}
use Rattle.oer_module_names.specs.Tables.{assigned, assigned_in, assignment_names, identifiers, imported, imported_in, imports_in, is_exported, is_exported_in, module_names, named, other, other_in}
use Rattle.oer_module_names.specs.declared.error.Found.{Found}
use Rattle.oer_module_names.specs.declared.error.Place.{Place}
use Rattle.oer_module_names.specs.declared.error.Why.TheVariants.{NotExported}
use Rattle.oer_module_names.specs.declared.index.Sole.{Sole}
use Rattle.oer_module_names.specs.declared.index.Sole.TheVariants.{Nothing, One, Two}
use Rattle.oer_module_names.specs.declared.way.Step.TheVariants.{Here, On}
use Rattle.oer_module_names.specs.declared.way.Way.{Way}

module _ (ms : List Module) where
  module _ (k : ℕ) (m : Module) (at : IsAt ms k m) where
    pub assigned_here : (w : List ℕ) → assigned_in ms k w ≡ assigned m w
    unfolding assigned_in
    assigned_here w = ap (λ o. option_map_or (λ x. assigned x w) o Nothing) at

    pub imported_here : (w : List ℕ) → imported_in ms k w ≡ imported m w
    unfolding imported_in
    imported_here w = ap (λ o. option_map_or (λ x. imported x w) o Nothing) at

    pub exported_here : (w : List ℕ) → is_exported_in ms k w ≡ is_exported m.exports w
    unfolding is_exported_in
    exported_here w = ap (λ o. option_map_or (λ x. is_exported x.exports w) o false) at

    pub other_here : (f : List ℕ) → other_in ms k f ≡ other (named ms) (identifiers ms) m f
    unfolding other_in
    other_here f = ap (λ o. option_map_or (λ x. other (named ms) (identifiers ms) x f) o Nothing) at

    imports_here : imports_in ms k ≡ m.imports
    unfolding imports_in
    imports_here = ap (λ o. option_map_or (λ x. x.imports) o []) at

    pub name_here : (i : ℕ) (x : Import) → IsAt m.imports i x → from_name ms k i ≡ x.from
    unfolding from_name
    name_here i x h = ap (λ o. option_map_or (λ y. y.from) o []) (ap (λ is. slice_get is i) imports_here ∙ h)

  -- what a module exports stands in a module
  exports_some : (j : ℕ) (w : List ℕ) → is_exported_in ms j w ≡ true → (n : Module) × IsAt ms j n × MayLeave n.exports w
  unfolding is_exported_in
  exports_some j w h = by (slice_get ms j) refl h
    where
      by : (o : Option Module) → slice_get ms j ≡ o → option_map_or (λ x. is_exported x.exports w) o false ≡ true → (n : Module) × IsAt ms j n × MayLeave n.exports w
      by None e g = cc
      by (Some n) e g = (n, e, leaves_may n.exports w g)

  -- ---- a module by its name

  pub module_is_only : (p : Option Place) (f : List ℕ) (j : ℕ) → module_at ms p f ≡ Ok j → IsOnlyAt (module_names ms) j f
  unfolding module_at named
  module_is_only p f j h = by (sole (numbered 0 (module_names ms)) f) refl h
    where
      by : (s : Sole) → sole (numbered 0 (module_names ms)) f ≡ s → one_module ms p f s ≡ Ok j → IsOnlyAt (module_names ms) j f
      by Nothing e g = cc
      by (One i) e g = let same : i ≡ j = cc in one_is_only (module_names ms) f j (e ∙ ap One same)
      by (Two a b) e g = cc

  pub only_is_module : (p : Option Place) (f : List ℕ) (j : ℕ) → IsOnlyAt (module_names ms) j f → module_at ms p f ≡ Ok j
  unfolding module_at named
  only_is_module p f j h = ap (one_module ms p f) (only_is_one (module_names ms) f j h)

  module _ (w : List ℕ) where
    -- ---- through an import

    pub record Crosses (k : ℕ) (f : List ℕ) (way : Way) : Type 0 where
      pub next : Module
      pub only : IsOnlyAt (module_names ms) way.«module» f
      pub at : IsAt ms way.«module» next
      pub none : other_in ms k f ≡ Nothing
      pub may : MayLeave next.exports w

    into_crosses : (k : ℕ) (p : Place) (f : List ℕ) (j : ℕ) (way : Way) → IsOnlyAt (module_names ms) j f → other_in ms k f ≡ Nothing → into ms w p j ≡ Ok way → Crosses k f way
    into_crosses k p f j way only none h = by (is_exported_in ms j w) refl h
      where
        by : (b : Bool) → is_exported_in ms j w ≡ b → cond b (Ok (record { «module» = j; place = p })) (fault NotExported w (Some p)) ≡ Ok way → Crosses k f way
        by true e g =
            let x = exports_some j w e in
            let same : j ≡ way.«module» = cc in
            record { next = x.0; only = subst (λ i. IsOnlyAt (module_names ms) i f) same only; at = subst (λ i. IsAt ms i x.0) same x.1; none = none; may = x.2 }
        by false e g = cc

    version_none : (k : ℕ) (f : List ℕ) (u : Unit {0}) → version_at ms k f ≡ Ok u → other_in ms k f ≡ Nothing
    unfolding version_at
    version_none k f u h = by (other_in ms k f) refl h
      where
        by : (s : Sole) → other_in ms k f ≡ s → one_version ms k f s ≡ Ok u → other_in ms k f ≡ Nothing
        by Nothing e g = e
        by (One a) e g = cc
        by (Two a b) e g = cc

    pub through_crosses : (k i : ℕ) (way : Way) → through ms w k i ≡ Ok way → Crosses k (from_name ms k i) way
    unfolding through
    through_crosses k i way h = by (module_at ms (Some (from_place ms k i)) (from_name ms k i)) refl h
      where
        on : (j : ℕ) → IsOnlyAt (module_names ms) j (from_name ms k i) → (r : Result (Unit {0}) Fault) → version_at ms k (from_name ms k i) ≡ r
            → (r >>= λ _. into ms w (from_place ms k i) j) ≡ Ok way → Crosses k (from_name ms k i) way
        on j only (Ok u) e g = into_crosses k (from_place ms k i) (from_name ms k i) j way only (version_none k (from_name ms k i) u e) g
        on j only (Err x) e g = cc

        by : (r : Result ℕ Fault) → module_at ms (Some (from_place ms k i)) (from_name ms k i) ≡ r → (r >>= fitting ms w k i) ≡ Ok way → Crosses k (from_name ms k i) way
        by (Ok j) e g = on j (module_is_only (Some (from_place ms k i)) (from_name ms k i) j e) (version_at ms k (from_name ms k i)) refl g
        by (Err x) e g = cc

    pub through_is : (k i j : ℕ) (f : List ℕ) (m n : Module) → IsAt ms k m → from_name ms k i ≡ f → IsOnlyAt (module_names ms) j f → IsAt ms j n → IsVersion m f n → MayLeave n.exports w
        → through ms w k i ≡ Ok (record { «module» = j; place = from_place ms k i })
    unfolding through version_at
    through_is k i j f m n at name only there fit may =
        let p = from_place ms k i in
        let out : is_exported_in ms j w ≡ true = exported_here j n there w ∙ may_leave n.exports w may in
        let none : other_in ms k (from_name ms k i) ≡ Nothing = ap (other_in ms k) name ∙ other_here k m at f ∙ none_where_fit ms f j n only there m fit in
        ap (λ r. r >>= fitting ms w k i) (only_is_module (Some p) (from_name ms k i) j (subst (λ v. IsOnlyAt (module_names ms) j v) (sym name) only))
        ∙ ap (λ s. one_version ms k (from_name ms k i) s >>= λ _. into ms w p j) none
        ∙ ap (λ b. cond b (Ok (record { «module» = j; place = p })) (fault NotExported w (Some p))) out

    -- ---- a step

    -- module k has x
    pub record Owns (k : ℕ) (x : Found) : Type 0 where
      pub this : Module
      pub at : IsAt ms k this
      pub only : IsOnlyAt (assignment_names this.assignments) x.assignment w
      pub same : k ≡ x.«module»

    -- from module k the way goes on to module j
    pub record Leads (k j : ℕ) : Type 0 where
      pub this : Module
      pub next : Module
      pub name : List ℕ
      pub at : IsAt ms k this
      pub absent : ¬ IsAmong (assignment_names this.assignments) w
      pub from : ImportsFrom this w name
      pub only : IsOnlyAt (module_names ms) j name
      pub there : IsAt ms j next
      pub fit : IsVersion this name next
      pub may : MayLeave next.exports w

    imported_some : (k i : ℕ) → imported_in ms k w ≡ One i → (m : Module) × IsAt ms k m × (imported m w ≡ One i)
    unfolding imported_in
    imported_some k i h = by (slice_get ms k) refl h
      where
        by : (o : Option Module) → slice_get ms k ≡ o → option_map_or (λ x. imported x w) o Nothing ≡ One i → (m : Module) × IsAt ms k m × (imported m w ≡ One i)
        by None e g = cc
        by (Some m) e g = (m, e, g)

    assigned_some : (k n : ℕ) → assigned_in ms k w ≡ One n → (m : Module) × IsAt ms k m × (assigned m w ≡ One n)
    unfolding assigned_in
    assigned_some k n h = by (slice_get ms k) refl h
      where
        by : (o : Option Module) → slice_get ms k ≡ o → option_map_or (λ x. assigned x w) o Nothing ≡ One n → (m : Module) × IsAt ms k m × (assigned m w ≡ One n)
        by None e g = cc
        by (Some m) e g = (m, e, g)

    import_is_one : (way : Way) (i : ℕ) → import_of_name ms w way ≡ Ok i → imported_in ms way.«module» w ≡ One i
    unfolding import_of_name
    import_is_one way i h = by (imported_in ms way.«module» w) h
      where
        by : (s : Sole) → one_import ms w way s ≡ Ok i → s ≡ One i
        by Nothing g = cc
        by (One j) g = cc
        by (Two a b) g = cc

    -- an import never ends the way
    goes_on : (way : Way) (r : Result ℕ Fault) (x : Found) → (r >>= λ i. through ms w way.«module» i >>= λ next. Ok (On next)) ≡ Ok (Here x) → ⊥
    goes_on way (Err e) x h = cc
    goes_on way (Ok i) x h = by (through ms w way.«module» i) h
      where
        by : (r : Result Way Fault) → (r >>= λ next. Ok (On next)) ≡ Ok (Here x) → ⊥
        by (Ok next) g = cc
        by (Err e) g = cc

    pub step_owns : (way : Way) (x : Found) → step ms w way ≡ Ok (Here x) → Owns way.«module» x
    unfolding step own
    step_owns way x h = by (assigned_in ms way.«module» w) refl h
      where
        by : (s : Sole) → assigned_in ms way.«module» w ≡ s → (one_assignment ms w way.«module» s >>= step_by ms w way) ≡ Ok (Here x) → Owns way.«module» x
        by Nothing e g = absurd (goes_on way (import_of_name ms w way) x g)
        by (One n) e g =
            let m = assigned_some way.«module» n e in
            let is : record { «module» = way.«module»; assignment = n } ≡ x = cc in
            record {
              this = m.0;
              at = m.1;
              only = subst (λ i. IsOnlyAt (assignment_names m.0.assignments) i w) (ap (λ y. y.assignment) is) (one_is_only (assignment_names m.0.assignments) w n m.2);
              same = ap (λ y. y.«module») is;
            }
        by (Two a b) e g = cc

    step_leads_by : (k : ℕ) (way : Way) (m : Module) → IsAt ms k m → assigned m w ≡ Nothing → (i : ℕ) → imported m w ≡ One i → through ms w k i ≡ Ok way → Leads k way.«module»
    step_leads_by k way m at none i one h =
        let s = one_is_source m w i one in
        let c = through_crosses k i way h in
        let name : from_name ms k i ≡ s.import.from = name_here k m at i s.import s.at in
        let only = subst (λ f. IsOnlyAt (module_names ms) way.«module» f) name c.only in
        let alike : other (named ms) (identifiers ms) m s.import.from ≡ Nothing = sym (other_here k m at s.import.from) ∙ sym (ap (other_in ms k) name) ∙ c.none in
        record {
          this = m;
          next = c.next;
          name = s.import.from;
          at = at;
          absent = nothing_is_absent (assignment_names m.assignments) w none;
          from = s.from;
          only = only;
          there = c.at;
          fit = fit_where_none ms s.import.from way.«module» c.next only c.at m alike;
          may = c.may;
        }

    pub step_leads : (way next : Way) → step ms w way ≡ Ok (On next) → Leads way.«module» next.«module»
    unfolding step own
    step_leads way next h = by (assigned_in ms way.«module» w) refl h
      where
        last : assigned_in ms way.«module» w ≡ Nothing → (i : ℕ) → import_of_name ms w way ≡ Ok i → through ms w way.«module» i ≡ Ok next → Leads way.«module» next.«module»
        last e i f g =
            let m = imported_some way.«module» i (import_is_one way i f) in
            step_leads_by way.«module» next m.0 m.1 (sym (assigned_here way.«module» m.0 m.1 w) ∙ e) i m.2 g

        across : assigned_in ms way.«module» w ≡ Nothing → (i : ℕ) → import_of_name ms w way ≡ Ok i → (r : Result Way Fault) → through ms w way.«module» i ≡ r → (r >>= λ n. Ok (On n)) ≡ Ok (On next)
            → Leads way.«module» next.«module»
        across e i f (Ok n) g h = let same : n ≡ next = cc in last e i f (g ∙ ap Ok same)
        across e i f (Err x) g h = cc

        on : assigned_in ms way.«module» w ≡ Nothing → (r : Result ℕ Fault) → import_of_name ms w way ≡ r → (r >>= λ i. through ms w way.«module» i >>= λ n. Ok (On n)) ≡ Ok (On next)
            → Leads way.«module» next.«module»
        on e (Ok i) f h = across e i f (through ms w way.«module» i) refl h
        on e (Err x) f h = cc

        by : (s : Sole) → assigned_in ms way.«module» w ≡ s → (one_assignment ms w way.«module» s >>= step_by ms w way) ≡ Ok (On next) → Leads way.«module» next.«module»
        by Nothing e g = on e (import_of_name ms w way) refl g
        by (One n) e g = cc
        by (Two a b) e g = cc

    pub owns_step : (k : ℕ) (p : Place) (x : Found) → Owns k x → step ms w (record { «module» = k; place = p }) ≡ Ok (Here x)
    unfolding step own
    owns_step k p x h =
        ap (λ s. one_assignment ms w k s >>= step_by ms w (record { «module» = k; place = p }))
        (assigned_here k h.this h.at w ∙ only_is_one (assignment_names h.this.assignments) w x.assignment h.only)
        ∙ ap (λ i. Ok (Here (record { «module» = i; assignment = x.assignment }))) h.same

    -- the place by which the way goes on
    pub leads_step : (k j : ℕ) → Leads k j → (q : Place) × ((p : Place) → step ms w (record { «module» = k; place = p }) ≡ Ok (On (record { «module» = j; place = q })))
    unfolding step own import_of_name
    leads_step k j h =
        let m = h.this in
        let s = source_is_one m w h.name h.from in
        let crosses = through_is k s.0 j h.name m h.next h.at (name_here k m h.at s.0 s.1 s.3 ∙ s.4) h.only h.there h.fit h.may in (
          from_place ms k s.0,
          λ p.
              let way : Way = record { «module» = k; place = p } in
              ap (λ s. one_assignment ms w k s >>= step_by ms w way) (assigned_here k m h.at w ∙ absent_is_nothing (assignment_names m.assignments) w h.absent)
              ∙ ap (λ s. one_import ms w way s >>= λ i. through ms w k i >>= λ n. Ok (On n)) (imported_here k m h.at w ∙ s.2)
              ∙ ap (λ r. r >>= λ n. Ok (On n)) crosses,
        )
