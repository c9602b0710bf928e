-- Braces have one list of components.
use Rattle.std.proofs.Common.{◌≡◌, ℕ, List, ◌∷◌, ◌++◌, Bool, true, false, refl, sym, ap, ap₂, subst}
use Rattle.oer_module_lexer.specs.Token.{Spot}
use Rattle.oer_module_syntax.specs.Tree.{Module, Tree, structure, Elements}
use Rattle.oer_module_syntax.specs.declared.word.Builtin.TheVariants as bi
use Rattle.oer_module_values.specs.Laws.{TypesAreSole}
use Rattle.oer_module_values.specs.Types.{Given, Means, type_in}
use Rattle.oer_meant_values.specs.Parts.{AreAdded, AreParts, IsRoot, Part, another, another_added, another_part, behind_marker, included, included_parts, no_more}
use Rattle.oer_meant_values.specs.Parts.{no_parts, none_added, part, up_to_marker}

added_sole : (m : ℕ) (es : Elements) (ps qs : List Part) → AreAdded m es ps → AreAdded m es qs → ps ≡ qs
added_sole m _ _ _ none_added none_added = refl
added_sole m _ _ _ (another_added at w t need es ps h) (another_added _ _ _ _ _ qs k) =
    ap (λ xs. part m true w t need ∷ xs) (added_sole m es ps qs h k)

-- the braces of the SEQUENCE that a type means
record Same (n k : ℕ) (fs es : Elements) : Type 0 where
  pub modules : n ≡ k
  pub elements : fs ≡ es

elements_in_both : (a b : ℕ) (fs es : Elements) (cs ds : List Spot) → structure a bi.Sequence fs cs ≡ structure b bi.Sequence es ds → fs ≡ es
elements_in_both a b fs es cs ds e = cc

module _ (sole : TypesAreSole) (ms : List Module) where
  same_braces : (m n k a b : ℕ) (t : Tree) (fs es : Elements) (cs ds : List Spot) (gs hs : List Given)
      → Means ms m t (type_in n (structure a bi.Sequence fs cs)) gs → Means ms m t (type_in k (structure b bi.Sequence es ds)) hs → Same n k fs es
  same_braces m n k a b t fs es cs ds gs hs p q =
      let e = (sole ms m t (type_in n (structure a bi.Sequence fs cs)) (type_in k (structure b bi.Sequence es ds)) gs hs p q).0 in
      record { modules = ap (λ u. u.«module») e; elements = elements_in_both a b fs es cs ds (ap (λ u. u.type) e) }

  -- the same root, by other words
  same_root : (n k : ℕ) (fs es : Elements) (ps : List Part) → Same n k fs es → IsRoot ms k es ps → IsRoot ms n fs ps
  same_root n k fs es ps e h = subst (λ f. IsRoot ms n f ps) (sym e.elements) (subst (λ j. IsRoot ms j es ps) (sym e.modules) h)

  root_sole : (m : ℕ) (es : Elements) (ps qs : List Part) → IsRoot ms m es ps → IsRoot ms m es qs → ps ≡ qs
  root_sole _ _ _ _ (no_more m) (no_more _) = refl
  root_sole _ _ _ _ (up_to_marker m at x es) (up_to_marker _ _ _ _) = refl
  root_sole _ _ _ _ (another m at w t need es ps h) (another _ _ _ _ _ _ qs k) =
      ap (λ xs. part m false w t need ∷ xs) (root_sole m es ps qs h k)
  root_sole _ _ _ _ (included m at n a t fs es cs gs ps qs p h i) (included _ _ k b _ us _ ds hs rs ss q j l) =
      let e = same_braces m n k a b t fs us cs ds gs hs p q in
      ap₂ (λ x y. x ++ y) (root_sole n fs ps rs h (same_root n k fs us rs e j)) (root_sole m es qs ss i l)

  pub parts_sole : (m : ℕ) (es : Elements) (ps qs : List Part) (a b : Bool) → AreParts ms m es ps a → AreParts ms m es qs b → (ps ≡ qs) × (a ≡ b)
  parts_sole m _ _ _ _ _ no_parts no_parts = (refl, refl)
  parts_sole m _ _ _ _ _ (behind_marker at x es ps h) (behind_marker _ _ _ qs k) = (added_sole m es ps qs h k, refl)
  parts_sole m _ _ _ _ _ (another_part at w t need es ps a h) (another_part _ _ _ _ _ qs b k) =
      let rest = parts_sole m es ps qs a b h k in (ap (λ xs. part m false w t need ∷ xs) rest.0, rest.1)
  parts_sole m _ _ _ _ _ (included_parts at n a t fs es cs gs ps qs c p h i) (included_parts _ k b _ us _ ds hs rs ss d q j l) =
      let e = same_braces m n k a b t fs us cs ds gs hs p q in
      let rest = parts_sole m es qs ss c d i l in
      (ap₂ (λ x y. x ++ y) (root_sole n fs ps rs h (same_root n k fs us rs e j)) rest.0, rest.1)
