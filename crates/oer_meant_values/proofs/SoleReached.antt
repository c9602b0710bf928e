-- A type governs by one governor, tokens are one value, and one value is reached from it.
use Rattle.std.proofs.Common.{◌≡◌, ℕ, Bool, true, false, List, Option, Some, Ok, refl, sym, ap, subst, ◌∙◌}
use Rattle.oer_module_defaults.specs.Governors.{Governor, governed}
use Rattle.oer_module_defaults.specs.Items.{is_own}
use Rattle.oer_module_lexer.specs.Token.{Spot}
use Rattle.oer_module_syntax.specs.Tree.{Module, Tree, Body, value_body}
use Rattle.oer_module_terms.specs.Trees.{Value}
use Rattle.oer_module_text.specs.Errors.{Read}
use Rattle.oer_module_values.proofs.References.{is_referred}
use Rattle.oer_module_values.specs.Errors.{place_in}
use Rattle.oer_module_values.specs.Laws.{TypesAreSole}
use Rattle.oer_module_values.specs.Looks.{path_of}
use Rattle.oer_module_values.specs.Types.{Referent, Refers}
use Rattle.oer_meant_leaves.proofs.Results.{first_same}
use Rattle.oer_meant_values.specs.Reaching.{Governs, Reaches, Writes, no_name, own_name, through}

governor_same : (o : Option Governor) (g h : Governor) → o ≡ Some g → o ≡ Some h → g ≡ h
governor_same o g h e f = cc

own_or_not : {A : Type 0} (r : Read Bool) → r ≡ Ok true → r ≡ Ok false → A
own_or_not r e f = absurd (cc)

pub writes_sole : (ts : List Spot) (v w : Value) → Writes ts v → Writes ts w → v ≡ w
writes_sole ts v w h k = first_same v w h.rest k.rest (sym h.is ∙ k.is)

-- a type and tokens in a module
record SameBody (n k : ℕ) (t u : Tree) (ts us : List Spot) : Type 0 where
  pub modules : n ≡ k
  pub types : t ≡ u
  pub tokens : ts ≡ us

body_same : (n k : ℕ) (t u : Tree) (ts us : List Spot) → n ≡ k → value_body t ts ≡ value_body u us → SameBody n k t u ts us
body_same n k t u ts us e f = record { modules = e; types = cc; tokens = cc }

-- a value, what governs it, and its module
pub record SameLiteral (n k : ℕ) (g h : Governor) (v w : Value) : Type 0 where
  pub modules : n ≡ k
  pub governors : g ≡ h
  pub values : v ≡ w

module _ (ms : List Module) where
  refers_sole : (m : ℕ) (w : List ℕ) (steps : List Spot) (n k : ℕ) (b c : Body) → Refers ms m w steps n b → Refers ms m w steps k c
      → (n ≡ k) × (b ≡ c)
  refers_sole m w steps n k b c r s =
      let one : Referent = record { «module» = r.found.«module»; assignment = r.assignment } in
      let other : Referent = record { «module» = s.found.«module»; assignment = s.assignment } in
      let e = sym (is_referred ms (place_in m 0) w steps n b r) ∙ is_referred ms (place_in m 0) w steps k c s in
      let same : one ≡ other = cc in
      (sym r.module_is ∙ ap (λ x. x.«module») same ∙ s.module_is, sym r.body_is ∙ ap (λ x. x.assignment.body) same ∙ s.body_is)

  -- the value for which a name stands
  named_same : (m : ℕ) (w : List ℕ) (steps : List Spot) (n k : ℕ) (t u : Tree) (ts us : List Spot) → Refers ms m w steps n (value_body t ts)
      → Refers ms m w steps k (value_body u us) → SameBody n k t u ts us
  named_same m w steps n k t u ts us r s =
      let e = refers_sole m w steps n k (value_body t ts) (value_body u us) r s in body_same n k t u ts us e.0 e.1

  module _ (types : TypesAreSole) where
    pub governs_sole : (m : ℕ) (t : Tree) (g h : Governor) → Governs ms m t g → Governs ms m t h → g ≡ h
    governs_sole m t g h p q =
        let e = (types ms m t p.of q.of p.given q.given p.means q.means).0 in
        governor_same (governed q.of.«module» q.of.type) g h (subst (λ u. governed u.«module» u.type ≡ Some g) e p.is) q.is

    -- the same governor and value, by other words
    source_same : (n k : ℕ) (t u : Tree) (ts us : List Spot) (g h : Governor) (v w : Value) → SameBody n k t u ts us → Governs ms n t g
        → Governs ms k u h → Writes ts v → Writes us w → SameLiteral n k g h v w
    source_same n k t u ts us g h v w e p q a b = record {
      modules = e.modules;
      governors = governs_sole n t g h p (subst (λ x. Governs ms n x h) (sym e.types) (subst (λ x. Governs ms x u h) (sym e.modules) q));
      values = writes_sole ts v w a (subst (λ x. Writes x w) (sym e.tokens) b);
    }

    from_same : (n k : ℕ) (g h : Governor) (v w : Value) (j : ℕ) (i : Governor) (x : Value) → SameLiteral n k g h v w
        → Reaches ms k h w j i x → Reaches ms n g v j i x
    from_same n k g h v w j i x e r =
        subst (λ y. Reaches ms n g y j i x) (sym e.values)
        (subst (λ y. Reaches ms n y w j i x) (sym e.governors) (subst (λ y. Reaches ms y h w j i x) (sym e.modules) r))

    pub reached_sole : (m : ℕ) (g : Governor) (v : Value) (k j : ℕ) (h i : Governor) (x y : Value) → Reaches ms m g v k h x
        → Reaches ms m g v j i y → SameLiteral k j h i x y
    reached_sole _ _ _ _ _ _ _ _ _ (no_name m g v e) (no_name _ _ _ f) = record { modules = refl; governors = refl; values = refl }
    reached_sole _ _ _ _ _ _ _ _ _ (no_name m g v e) (own_name _ at _ w steps f) = absurd (cc)
    reached_sole _ _ _ _ _ _ _ _ _ (no_name m g v e) (through _ at n k _ h i w steps ts t u x f r p s a d) = absurd (cc)
    reached_sole _ _ _ _ _ _ _ _ _ (own_name m at g w steps e) (no_name _ _ _ f) = absurd (cc)
    reached_sole _ _ _ _ _ _ _ _ _ (own_name m at g w steps e) (own_name _ _ _ _ _ f) =
        record { modules = refl; governors = refl; values = refl }
    reached_sole _ _ _ _ _ _ _ _ _ (own_name m at g w steps e) (through _ _ n k _ h i _ _ ts t u x f r p s a d) =
        own_or_not (is_own g w (path_of steps)) e f
    reached_sole _ _ _ _ _ _ _ _ _ (through m at n k g h i w steps ts t u x e r p s a d) (no_name _ _ _ f) = absurd (cc)
    reached_sole _ _ _ _ _ _ _ _ _ (through m at n k g h i w steps ts t u x e r p s a d) (own_name _ _ _ _ _ f) =
        own_or_not (is_own g w (path_of steps)) f e
    reached_sole _ _ _ _ _ _ _ _ _ (through m at n k g h i w steps ts t u x e r p s a d) (through _ _ o l _ q z _ _ us b c y f r2 p2 s2 a2 d2) =
        let same = source_same n o t b ts us h q u c (named_same m w steps n o t b ts us r r2) p p2 a a2 in
        reached_sole n h u k l i z x y d (from_same n o h q u c l z y same d2)
