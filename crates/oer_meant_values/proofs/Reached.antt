-- Which values names stand for, as they are found.
use Rattle.std.proofs.Common.{◌≡◌, ℕ, zero, suc, List, [], Bool, true, false, Option, Some, None, Ok, if◌then◌else◌, refl, sym, ap, subst, ◌∙◌}
use Rattle.std.proofs.lemmas.Bool.{eqb-true}
use Rattle.oer_module_defaults.specs.Governors.{Governor, governed, governor_at, kind_number, of_kind, or_refused, same_kind}
use Rattle.oer_module_defaults.specs.Items.{is_own}
use Rattle.oer_module_defaults.specs.Values.{alone, value_in}
use Rattle.oer_module_defaults.specs.Walks.{Literal, Outcome, Source, after, defined_by, outcome_by, reference_at, source_place, step, valued, valued_by, walk}
use Rattle.oer_module_defaults.specs.declared.governor.Kind.{Kind}
use Rattle.oer_module_defaults.specs.declared.governor.Kind.TheVariants.{Boolean, Null, Integer, Enumerated, Octets, Bits, Text, Arcs}
use Rattle.oer_module_defaults.specs.declared.governor.Kind.TheVariants.{Sequence, SequenceOf, Choice}
use Rattle.oer_module_lexer.specs.Token.{Spot}
use Rattle.oer_module_names.specs.declared.error.Place.{Place}
use Rattle.oer_module_syntax.specs.Modules.{none_left}
use Rattle.oer_module_syntax.specs.State.{State}
use Rattle.oer_module_syntax.specs.Tree.{Module, Tree, Body, type_body, set_body, value_body, class_body}
use Rattle.oer_module_terms.specs.Trees.{named, amount, Value, atom}
use Rattle.oer_module_terms.specs.Values.{value_at}
use Rattle.oer_module_text.specs.Errors.{in_module, told_by, ◌>>=◌}
use Rattle.oer_module_values.proofs.References.{none_left-nil, refers}
use Rattle.oer_module_values.proofs.Walks.{found}
use Rattle.oer_module_values.specs.Kept.{kept}
use Rattle.oer_module_values.specs.Looks.{path_of}
use Rattle.oer_module_values.specs.Numbers.{place_of_first}
use Rattle.oer_module_values.specs.Types.{Given, Means, Referent, Refers, TypeIn, meaning, referred, type_in}
use Rattle.oer_meant_values.specs.Reaching.{Governs, Reaches, Writes, no_name, own_name, through}
use Rattle.oer_meant_leaves.proofs.Results.{text_read, text_step, text_told}
use Rattle.oer_meant_values.proofs.Apart.{same_ok, then_ok}

-- ---- kinds

-- the kind that has a number
abbrev kind_by : ℕ → Kind
kind_by zero = Boolean
kind_by (suc zero) = Null
kind_by (suc (suc zero)) = Integer
kind_by (suc (suc (suc zero))) = Enumerated
kind_by (suc (suc (suc (suc zero)))) = Octets
kind_by (suc (suc (suc (suc (suc zero))))) = Bits
kind_by (suc (suc (suc (suc (suc (suc zero)))))) = Text
kind_by (suc (suc (suc (suc (suc (suc (suc zero))))))) = Arcs
kind_by (suc (suc (suc (suc (suc (suc (suc (suc zero)))))))) = Sequence
kind_by (suc (suc (suc (suc (suc (suc (suc (suc (suc zero))))))))) = SequenceOf
kind_by _ = Choice

kind_back : (k : Kind) → kind_by (kind_number k) ≡ k
kind_back Boolean = refl
kind_back Null = refl
kind_back Integer = refl
kind_back Enumerated = refl
kind_back Octets = refl
kind_back Bits = refl
kind_back Text = refl
kind_back Arcs = refl
kind_back Sequence = refl
kind_back SequenceOf = refl
kind_back Choice = refl

kinds_same : (k l : Kind) → same_kind k l ≡ true → k ≡ l
kinds_same k l h = sym (kind_back k) ∙ ap kind_by (eqb-true (kind_number k) (kind_number l) h) ∙ kind_back l

-- ---- governors

module _ (ms : List Module) where
  governs_by : (p : Place) (m : ℕ) (t : Tree) (u : TypeIn) (gs : List Given) (g : Governor) (o : Option Governor) → Means ms m t u gs
      → governed u.«module» u.type ≡ o → or_refused p o ≡ Ok g → Governs ms m t g
  governs_by p m t u gs g None means is h = absurd (cc)
  governs_by p m t u gs g (Some x) means is h =
      record { of = u; given = gs; means = means; is = is ∙ ap Some (same_ok x g h) }

  -- what is found to govern does
  pub governs : (p : Place) (m : ℕ) (t : Tree) (g : Governor) → governor_at ms p (type_in m t) ≡ Ok g → Governs ms m t g
  unfolding governor_at
  governs p m t g h =
      let b = text_step (told_by (meaning ms (type_in m t))) _ g h in
      let f = found ms 255 (type_in m t) [] b.0 (text_told _ b.0 b.1) in
      governs_by p m t b.0.of f.0 g (governed b.0.of.«module» b.0.of.type) f.2 refl b.2

-- ---- the value that tokens are

writes_by : (ts : List Spot) (p : Place) (v w : Value) (s : State) → value_at 64 (kept ts) ≡ Ok (v, s) → alone p (v, s) ≡ Ok w → Writes ts w
writes_by ts p v w s is h =
    let e = then_ok (none_left s.left) (Ok v) _ w h in
    record { rest = s; is = is ∙ ap (λ u. Ok (u, s)) (same_ok v w e.1); done = none_left-nil s.left e.0 }

writes : (m : ℕ) (ts : List Spot) (v : Value) → value_in m ts ≡ Ok v → Writes ts v
unfolding value_in
writes m ts v h =
    let b = text_step (in_module m (value_at 64 (kept ts))) _ v h in
    writes_by ts (place_of_first m ts) b.0.0 v b.0.1 (text_read m (value_at 64 (kept ts)) b.0 b.1) b.2

-- ---- the value for which a name stands

-- it refers to the value of an assignment in a module, which these tokens are, and of which this is the governor
record Stands (ms : List Module) (m : ℕ) (w : List ℕ) (steps : List Spot) (k : Kind) (s : Source) : Type 0 where
  pub from : Tree
  pub refer : Refers ms m w steps s.«module» (value_body from s.spots)
  pub governed_by : Governs ms s.«module» from s.governor
  pub same : s.governor.kind ≡ k

module _ (ms : List Module) where
  body_stands : (p : Place) (m n : ℕ) (w : List ℕ) (steps : List Spot) (k : Kind) (b : Body) (s : Source) → Refers ms m w steps n b
      → defined_by ms p k n b ≡ Ok s → Stands ms m w steps k s
  body_stands p m n w steps k (type_body t) s refer h = absurd (cc)
  body_stands p m n w steps k (set_body t ts) s refer h = absurd (cc)
  body_stands p m n w steps k (class_body fs ts) s refer h = absurd (cc)
  body_stands p m n w steps k (value_body t ts) s refer h =
      let b = text_step (governor_at ms p (type_in n t) >>= of_kind p k) _ s h in
      let c = text_step (governor_at ms p (type_in n t)) _ b.0 b.1 in
      let e = then_ok (same_kind k c.0.kind) (Ok c.0) _ b.0 c.2 in
      let g = same_ok c.0 b.0 e.1 in
      subst (Stands ms m w steps k) (same_ok _ s b.2) (record {
        from = t;
        refer = refer;
        governed_by = governs ms p n t b.0 (c.1 ∙ ap Ok g);
        same = sym (kinds_same k c.0.kind e.0 ∙ ap (λ x. x.kind) g);
      })

  referent_stands : (p : Place) (w : List ℕ) (steps : List Spot) (k : Kind) (o : Option Referent) (s : Source)
      → referred ms p w (path_of steps) ≡ Ok o → valued_by ms p k o ≡ Ok s → Stands ms p.«module» w steps k s
  referent_stands p w steps k None s is h = absurd (cc)
  referent_stands p w steps k (Some r) s is h =
      let e = then_ok (none_left r.assignment.parameters) (defined_by ms p k r.«module» r.assignment.body) _ s h in
      body_stands p p.«module» r.«module» w steps k r.assignment.body s (refers ms p w steps r is (none_left-nil _ e.0)) e.1

  stands : (p : Place) (w : List ℕ) (steps : List Spot) (k : Kind) (s : Source) → valued ms p k w (path_of steps) ≡ Ok s
      → Stands ms p.«module» w steps k s
  unfolding valued
  stands p w steps k s h =
      let b = text_step (told_by (referred ms p w (path_of steps))) _ s h in
      referent_stands p w steps k b.0 s (text_told _ b.0 b.1) b.2

  -- what is reached from the tokens to which a value leads is reached from it; it is reached itself where it leads to none
  abbrev pub Leads : ℕ → Governor → Value → Option Source → Type 0
  Leads m g v None = Reaches ms m g v m g v
  Leads m g v (Some u) = (w x : Value) (k : ℕ) (i : Governor) → Writes u.spots w → Reaches ms u.«module» u.governor w k i x
      → Reaches ms m g v k i x

  named_leads : (at : ℕ) (w : List ℕ) (steps : List Spot) (p : Place) (g : Governor) (b : Bool) (o : Option Source)
      → is_own g w (path_of steps) ≡ Ok b
      → (if b then Ok None else (valued ms p g.kind w (path_of steps) >>= λ s. Ok (Some s))) ≡ Ok o
      → Leads p.«module» g (atom at (amount (named w steps))) o
  named_leads at w steps p g true o is h =
      subst (Leads p.«module» g (atom at (amount (named w steps)))) (same_ok None o h) (own_name p.«module» at g w steps is)
  named_leads at w steps p g false o is h =
      let b = text_step (valued ms p g.kind w (path_of steps)) _ o h in
      let s = stands p w steps g.kind b.0 b.1 in
      let onto : Leads p.«module» g (atom at (amount (named w steps))) (Some b.0) =
      λ v x k i wrote on. through p.«module» at b.0.«module» k g b.0.governor i w steps b.0.spots s.from v x is s.refer s.governed_by s.same wrote on in
      subst (Leads p.«module» g (atom at (amount (named w steps)))) (same_ok (Some b.0) o b.2) onto

  pub leads : (p : Place) (g : Governor) (v : Value) (o : Option Source) → reference_at ms p g v ≡ Ok o → Leads p.«module» g v o
  leads p g (atom at (amount (named w steps))) o h =
      let b = text_step (is_own g w (path_of steps)) _ o h in named_leads at w steps p g b.0 o b.1 b.2
  leads p g v o h = subst (Leads p.«module» g v) (same_ok None o h) (no_name p.«module» g v refl)

-- ---- the whole way

-- a value that tokens are, and from which one is reached
pub record Walked (ms : List Module) (s : Source) (l : Literal) : Type 0 where
  pub read : Value
  pub written : Writes s.spots read
  pub reaches : Reaches ms s.«module» s.governor read l.place.«module» l.governor l.value

module _ (ms : List Module) where
  walked_on : (n : ℕ) (s : Source) (l : Literal) (v : Value) (o : Option Source)
      → ((u : Source) → walk ms n u ≡ Ok l → Walked ms u l) → Writes s.spots v → Leads ms s.«module» s.governor v o
      → after (walk ms n) s (outcome_by v o) ≡ Ok l → Walked ms s l
  walked_on n s l v None more wrote on h =
      subst (Walked ms s) (same_ok _ l h) (record { read = v; written = wrote; reaches = on })
  walked_on n s l v (Some u) more wrote on h =
      let w = more u h in
      record { read = v; written = wrote; reaches = on w.read l.value l.place.«module» l.governor w.written w.reaches }

  walked_by : (n : ℕ) (s : Source) (l : Literal) (o : Outcome) → ((u : Source) → walk ms n u ≡ Ok l → Walked ms u l)
      → step ms s ≡ Ok o → after (walk ms n) s o ≡ Ok l → Walked ms s l
  unfolding step
  walked_by n s l o more is h =
      let v = text_step (value_in s.«module» s.spots) _ o is in
      let r = text_step (reference_at ms (source_place s) s.governor v.0) _ o v.2 in
      walked_on n s l v.0 r.0 more (writes s.«module» s.spots v.0 v.1) (leads ms (source_place s) s.governor v.0 r.0 r.1)
      (ap (λ x. after (walk ms n) s x) (same_ok _ o r.2) ∙ h)

  -- the way that is found is one
  pub walked : (n : ℕ) (s : Source) (l : Literal) → walk ms n s ≡ Ok l → Walked ms s l
  unfolding walk
  walked zero s l h = absurd (cc)
  walked (suc n) s l h = let b = text_step (step ms s) _ l h in walked_by n s l b.0 (λ u is. walked n u l is) b.1 b.2
