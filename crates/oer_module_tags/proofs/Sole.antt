-- A type has one outermost tag.
use Rattle.std.proofs.Common.{◌≡◌, ℕ, pos, List, Option, Some, Result, Ok, Err, sym, ap, ap₂, subst, ◌∙◌}
use Rattle.oer_module_lexer.specs.Token.{Spot}
use Rattle.oer_module_parts.specs.Tags as written
use Rattle.oer_module_syntax.specs.State.{State}
use Rattle.oer_module_syntax.specs.Tree.{Module, Tree, Body, type_body, set_body}
use Rattle.oer_module_syntax.specs.declared.fault.Fault.{Fault}
use Rattle.oer_module_values.proofs.Denoted.{denoted_sole}
use Rattle.oer_module_values.proofs.References.{is_referred}
use Rattle.oer_module_values.specs.Errors.{place_in}
use Rattle.oer_module_values.specs.Numbers.{bare, Denotes}
use Rattle.oer_module_values.specs.Types.{Referent, Refers}
use Rattle.oer_units.specs.declared.tagging.Class.TheVariants.{Universal}
use Rattle.oer_units.specs.declared.tagging.Tag.{Tag}
use Rattle.oer_module_tags.specs.Outermost.{tag, Writes, HasTag, by_tag, by_word, by_structure, by_list, by_type, by_set}

-- what was read
abbrev read_or : written.Tag → Result (written.Tag × State) Fault → written.Tag
read_or t (Ok r) = r.0
read_or t (Err e) = t

module _ (ms : List Module) where
  refers_sole : (m : ℕ) (w : List ℕ) (steps : List Spot) (n k : ℕ) (b c : Body) → Refers ms m w steps n b → Refers ms m w steps k c
      → (n ≡ k) × (b ≡ c)
  refers_sole m w steps n k b c r s =
      let one : Referent = record { «module» = r.found.«module»; assignment = r.assignment } in
      let other : Referent = record { «module» = s.found.«module»; assignment = s.assignment } in
      let e = sym (is_referred ms (place_in m 0) w steps n b r) ∙ is_referred ms (place_in m 0) w steps k c s in
      let same : one ≡ other = cc in
      (sym r.module_is ∙ ap (λ x. x.«module») same ∙ s.module_is, sym r.body_is ∙ ap (λ x. x.assignment.body) same ∙ s.body_is)

  writes_sole : (m at : ℕ) (ts : List Spot) (g h : Tag) → Writes ms m at ts g → Writes ms m at ts h → g ≡ h
  writes_sole m at ts g h x y =
      let e = sym x.is ∙ y.is in
      let same : x.read ≡ y.read = ap (read_or x.read) e in
      let d = denoted_sole ms m (bare m) x.read.number (pos g.number) (pos h.number) x.number
      (subst (λ t. Denotes ms m (bare m) t.number (pos h.number)) (sym same) y.number) in
      let number : g.number ≡ h.number = cc in
      ap₂ tag (sym x.class ∙ ap (λ t. t.class) same ∙ y.class) number

  number_sole : (o : Option ℕ) (n k : ℕ) → o ≡ Some n → o ≡ Some k → tag Universal n ≡ tag Universal k
  number_sole o n k e f = let d = sym e ∙ f in let same : n ≡ k = cc in ap (tag Universal) same

  pub sole : (m : ℕ) (t : Tree) (g h : Tag) → HasTag ms m t g → HasTag ms m t h → g ≡ h
  sole _ _ _ _ (by_tag m at ts mode t g x) (by_tag _ _ _ _ _ h y) = writes_sole m at ts g h x y
  sole _ _ _ _ (by_word m at b is cs n e) (by_word _ _ _ _ _ k f) = number_sole _ n k e f
  sole _ _ _ _ (by_structure m at b es cs n e) (by_structure _ _ _ _ _ k f) = number_sole _ n k e f
  sole _ _ _ _ (by_list m at b z ss w t n e) (by_list _ _ _ _ _ _ _ k f) = number_sole _ n k e f
  sole _ _ _ _ (by_type m at w steps cs n t g r x) (by_type _ _ _ _ _ k u h s y) =
      let p = refers_sole m w steps n k (type_body t) (type_body u) r s in
      let e : type_body t ≡ type_body u = p.1 in
      let same : t ≡ u = cc in
      sole n t g h x (subst (λ j. HasTag ms j t h) (sym p.0) (subst (λ v. HasTag ms k v h) (sym same) y))
  sole _ _ _ _ (by_set m at w steps cs ts n t g r x) (by_set _ _ _ _ _ us k u h s y) =
      let p = refers_sole m w steps n k (set_body t ts) (set_body u us) r s in
      let e : set_body t ts ≡ set_body u us = p.1 in
      let same : t ≡ u = cc in
      sole n t g h x (subst (λ j. HasTag ms j t h) (sym p.0) (subst (λ v. HasTag ms k v h) (sym same) y))
  sole _ _ _ _ (by_type m at w steps cs n t g r x) (by_set _ _ _ _ _ us k u h s y) =
      let p = refers_sole m w steps n k (type_body t) (set_body u us) r s in
      let e : type_body t ≡ set_body u us = p.1 in
      absurd (cc)
  sole _ _ _ _ (by_set m at w steps cs ts n t g r x) (by_type _ _ _ _ _ k u h s y) =
      let p = refers_sole m w steps n k (set_body t ts) (type_body u) r s in
      let e : set_body t ts ≡ type_body u = p.1 in
      absurd (cc)
