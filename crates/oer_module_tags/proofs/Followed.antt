-- The type that a name leads to, where it is followed.
use Rattle.std.proofs.Common.{◌≡◌, ℕ, List, Option, Some, None, Result, Ok, Err, ◌⊎◌, inl, inr, refl, ap, subst, Bool, true, false, if◌then◌else◌}
use Rattle.oer_module_lexer.specs.Token.{Spot}
use Rattle.oer_module_syntax.specs.Modules.{none_left}
use Rattle.oer_module_syntax.specs.Tree.{Module, Body, type_body, set_body, value_body, class_body}
use Rattle.oer_module_values.proofs.References.{none_left-nil, refers}
use Rattle.oer_module_values.specs.Errors.{Error, error, place_in, unsettled, ◌>>=◌}
use Rattle.oer_module_values.specs.Looks.{path_of}
use Rattle.oer_module_values.specs.Types.{TypeIn, type_in, Referent, Given, Refers, Step, entered_by, entered, followed, follow, referred}

-- the name stands for a type, or for a set of values, of which this is the governor
abbrev pub Leads : List Module → ℕ → List ℕ → List Spot → TypeIn → Type 0
Leads ms m w steps u = Refers ms m w steps u.«module» (type_body u.type) ⊎ ((ts : List Spot) × Refers ms m w steps u.«module» (set_body u.type ts))

-- the type that is come to
abbrev to_type : Result Step Error → Option TypeIn
to_type (Ok s) = s.0
to_type (Err e) = None

module _ (ms : List Module) (m at : ℕ) (w : List ℕ) (steps cs : List Spot) (u : TypeIn) (gs hs : List Given) where
  body_leads : (n : ℕ) (b : Body) → Refers ms m w steps n b → entered_by (place_in m at) cs n b gs ≡ Ok (Some u, hs) → Leads ms m w steps u
  body_leads n (type_body t) r h = let e : Some (type_in n t) ≡ Some u = ap to_type h in let same : type_in n t ≡ u = cc in subst (Leads ms m w steps) same (inl r)
  body_leads n (set_body t ts) r h = let e : Some (type_in n t) ≡ Some u = ap to_type h in let same : type_in n t ≡ u = cc in subst (Leads ms m w steps) same (inr (ts, r))
  body_leads n (class_body fs ts) r h = absurd (cc)
  body_leads n (value_body t ts) r h = absurd (cc)

  referent_leads : (r : Referent) (b : Bool) → none_left r.assignment.parameters ≡ b → referred ms (place_in m at) w (path_of steps) ≡ Ok (Some r)
      → (if b then entered (place_in m at) cs r gs else error (place_in m at) unsettled) ≡ Ok (Some u, hs) → Leads ms m w steps u
  referent_leads r true e is h = body_leads r.«module» r.assignment.body (refers ms (place_in m at) w steps r is (none_left-nil _ e)) h
  referent_leads r false e is h = absurd (cc)

  referred_leads : (o : Result (Option Referent) Error) → referred ms (place_in m at) w (path_of steps) ≡ o
      → (o >>= followed (place_in m at) cs gs) ≡ Ok (Some u, hs) → Leads ms m w steps u
  referred_leads (Err e) is h = absurd (cc)
  referred_leads (Ok None) is h = let e : None ≡ Some u = ap to_type h in absurd (cc)
  referred_leads (Ok (Some r)) is h = referent_leads r (none_left r.assignment.parameters) refl is h

  pub leads : follow ms (place_in m at) w (path_of steps) cs gs ≡ Ok (Some u, hs) → Leads ms m w steps u
  unfolding follow
  leads h = referred_leads (referred ms (place_in m at) w (path_of steps)) refl h
