-- A type of a module is one type.
use Rattle.std.proofs.Common.{◌≡◌, ◌∙◌, ◌≤◌, ◌<◌, ℕ, Option, List, [], ◌∷◌, ◌++◌, Bool, refl, sym, ap, subst, arith}
use Rattle.oer_model.specs.AsnType.{AsnType, sequence_of}
use Rattle.oer_model.specs.AsnType as asn
use Rattle.oer_model.specs.Constraints.{any_size}
use Rattle.oer_module_lexer.specs.Token.{Spot}
use Rattle.oer_module_names.specs.declared.error.Place.{Place}
use Rattle.oer_module_syntax.specs.Tree.{Elements, Module, Need, Tree, plain, named, tagged, structure, list_of, selection, instance_of, any_defined_by}
use Rattle.oer_module_syntax.specs.Tree.{default, may, must}
use Rattle.oer_module_syntax.specs.declared.word.Builtin.{Builtin}
use Rattle.oer_module_syntax.specs.declared.word.Builtin.TheVariants as bi
use Rattle.oer_module_tags.specs.Alternatives.{AreTags}
use Rattle.oer_module_tags.specs.Laws.{TagsAreSole}
use Rattle.oer_module_text.specs.Errors.{place_in}
use Rattle.oer_module_types.specs.Levels.{times}
use Rattle.oer_module_values.specs.Laws.{TypesAreSole as MeaningsAreSole}
use Rattle.oer_module_values.specs.Looks.{place_of}
use Rattle.oer_module_values.specs.Types.{Given, Means, TypeIn, type_in}
use Rattle.oer_meant_leaves.specs.Laws.{LeavesAreSole}
use Rattle.oer_meant_leaves.specs.Leaves.{IsLeaf, is_bit_string, is_boolean, is_enumerated, is_integer, is_null, is_object_id, is_string}
use Rattle.oer_meant_values.proofs.SoleParts.{parts_sole}
use Rattle.oer_meant_values.proofs.SoleTags.{tags_sole}
use Rattle.oer_meant_types.proofs.Holding.{not_both}
use Rattle.oer_meant_types.specs.Laws.{TypesAreSole}
use Rattle.oer_meant_types.specs.Types.{AreTyped, HoldsOthers, IsNeed, IsType, Typed, absent, added, another_typed, by_choice, by_default, by_end, by_field, by_leaf}
use Rattle.oer_meant_types.specs.Types.{by_list, by_sequence, none_typed, there}
use Rattle.oer_meant_values.specs.Laws.{ValuesAreSole}
use Rattle.oer_meant_values.specs.Parts.{AreParts, Part}
use Rattle.oer_meant_values.specs.Values.{AreValue}

-- a number for each form of types
abbrev shape : Tree → ℕ
shape (plain at b items cs) = 0
shape (named at w steps ps cs) = 1
shape (list_of at b sized ss w t) = 2
shape (structure at bi.Sequence es cs) = 3
shape (structure at bi.Choice es cs) = 4
shape t = 5

braces_large : (at : ℕ) (b : Builtin) (es : Elements) (cs : List Spot) → 2 ≤ shape (structure at b es cs)
braces_large at bi.Sequence es cs = omega arith
braces_large at bi.Choice es cs = omega arith
braces_large at b es cs = omega arith

others_large : (t : Tree) → HoldsOthers t → 2 ≤ shape t
others_large (structure at b es cs) h = braces_large at b es cs
others_large (list_of at b sized ss w t) h = omega arith
others_large (plain at b items cs) h = absurd h
others_large (named at w steps ps cs) h = absurd h
others_large (tagged at ts mode t) h = absurd h
others_large (selection at w t) h = absurd h
others_large (instance_of at c steps cs) h = absurd h
others_large (any_defined_by at w) h = absurd h

leaf_shape : (ms : List Module) (u : TypeIn) (gs : List Given) (T : AsnType) → IsLeaf ms u gs T → shape u.type ≡ 0
leaf_shape ms _ gs _ (is_boolean m at items ts _) = refl
leaf_shape ms _ gs _ (is_null m at items ts _) = refl
leaf_shape ms _ gs _ (is_object_id m at items ts _) = refl
leaf_shape ms _ gs _ (is_integer m at items ts _ r h) = refl
leaf_shape ms _ gs _ (is_enumerated m at items ts _ is marked h) = refl
leaf_shape ms _ gs _ (is_string m at b items ts _ r s _ h k l) = refl
leaf_shape ms _ gs _ (is_bit_string m at items ts _ r s h k l) = refl

needs_apart : (n k : Need) (o : Need) → o ≡ n → o ≡ k → (n ≡ k → ⊥) → ⊥
needs_apart n k o e f h = h (sym e ∙ f)

module _ (means_one : MeaningsAreSole) (leaves_one : LeavesAreSole) (values_one : ValuesAreSole) (tags_one : TagsAreSole) (ms : List Module) where
  need_sole : (p : Part) (n k : asn.Need) → IsNeed ms p n → IsNeed ms p k → n ≡ k
  need_sole p _ _ (there a e) (there b f) = refl
  need_sole p _ _ (there a e) (absent b f) = absurd (needs_apart must may p.need e f (λ h. cc))
  need_sole p _ _ (there a e) (by_default ts x b f v) = absurd (needs_apart must (default ts) p.need e f (λ h. cc))
  need_sole p _ _ (there a e) (added b) = absurd (not_both p.added b a)
  need_sole p _ _ (absent a e) (there b f) = absurd (needs_apart may must p.need e f (λ h. cc))
  need_sole p _ _ (absent a e) (absent b f) = refl
  need_sole p _ _ (absent a e) (by_default ts x b f v) = absurd (needs_apart may (default ts) p.need e f (λ h. cc))
  need_sole p _ _ (absent a e) (added b) = refl
  need_sole p _ _ (by_default ts x a e v) (there b f) = absurd (needs_apart (default ts) must p.need e f (λ h. cc))
  need_sole p _ _ (by_default ts x a e v) (absent b f) = absurd (needs_apart (default ts) may p.need e f (λ h. cc))
  need_sole p _ _ (by_default ts x a e v) (by_default us y b f w) =
      let same : default ts ≡ default us = sym e ∙ f in
      let tokens : ts ≡ us = cc in
      ap asn.default (values_one ms p.«module» p.type p.«module» us x y (subst (λ l. AreValue ms p.«module» p.type p.«module» l x) tokens v) w)
  need_sole p _ _ (by_default ts x a e v) (added b) = absurd (not_both p.added b a)
  need_sole p _ _ (added a) (there b f) = absurd (not_both p.added a b)
  need_sole p _ _ (added a) (absent b f) = refl
  need_sole p _ _ (added a) (by_default ts x b f v) = absurd (not_both p.added a b)
  need_sole p _ _ (added a) (added b) = refl

  -- two types that one means are of one form
  same_meant : (m : ℕ) (t : Tree) (u v : TypeIn) (gs hs : List Given) → Means ms m t u gs → Means ms m t v hs → u ≡ v
  same_meant m t u v gs hs p q = (means_one ms m t u v gs hs p q).0

  forms : (m : ℕ) (t : Tree) (u v : TypeIn) (gs hs : List Given) → Means ms m t u gs → Means ms m t v hs → shape u.type ≡ shape v.type
  forms m t u v gs hs p q = ap (λ w. shape w.type) (same_meant m t u v gs hs p q)

  differ : (m : ℕ) (t : Tree) (u v : TypeIn) (gs hs : List Given) → Means ms m t u gs → Means ms m t v hs → (shape u.type ≡ shape v.type → ⊥) → ⊥
  differ m t u v gs hs p q apart = apart (forms m t u v gs hs p q)

  -- an end stands where a type would stand too often, and this where it doesn't
  module _ (nesting : ℕ) (path : List Place) where
    not_ended : (m n at : ℕ) (t v : Tree) (u : TypeIn) (gs hs : List Given) → place_of v ≡ at → Means ms m t (type_in n v) gs
        → times (place_in n at) path < nesting → Means ms m t u hs → nesting ≤ times (place_in u.«module» (place_of u.type)) path → ⊥
    not_ended m n at t v u gs hs here p less q full =
        let same : type_in n v ≡ u = same_meant m t (type_in n v) u gs hs p q in
        let place : place_in n (place_of v) ≡ place_in u.«module» (place_of u.type) = ap (λ w. place_in w.«module» (place_of w.type)) same in
        let at_place : place_in n at ≡ place_in u.«module» (place_of u.type) = ap (place_in n) (sym here) ∙ place in
        let less' : times (place_in u.«module» (place_of u.type)) path < nesting = subst (λ p. times p path < nesting) at_place less in
        omega (arith, less', full)

  -- the parts of two types that are one
  list_parts : (n k a b : ℕ) (s z : Bool) (ss zs : List Spot) (v w : Option (List ℕ)) (t u : Tree)
      → type_in n (list_of a bi.Sequence s ss v t) ≡ type_in k (list_of b bi.Sequence z zs w u) → (n ≡ k) × (a ≡ b) × (t ≡ u)
  list_parts n k a b s z ss zs v w t u e =
      let f : list_of a bi.Sequence s ss v t ≡ list_of b bi.Sequence z zs w u = ap (λ x. x.type) e in
      (ap (λ x. x.«module») e, cc, cc)

  braces_parts : (n k a b : ℕ) (c : Builtin) (es fs : Elements) (cs ds : List Spot)
      → type_in n (structure a c es cs) ≡ type_in k (structure b c fs ds) → (n ≡ k) × (a ≡ b) × (es ≡ fs)
  braces_parts n k a b c es fs cs ds e =
      let f : structure a c es cs ≡ structure b c fs ds = ap (λ x. x.type) e in
      (ap (λ x. x.«module») e, cc, cc)

  module _ (nesting : ℕ) where
    mutual
      pub type_sole : (path : List Place) (m : ℕ) (t : Tree) (T U : AsnType) → IsType ms nesting path m t T → IsType ms nesting path m t U → T ≡ U
      type_sole path m t _ _ (by_leaf _ _ _ u gs T p l) (by_leaf _ _ _ u1 gs1 U p1 l1) =
          let both = means_one ms m t u u1 gs gs1 p p1 in
          leaves_one ms u1 gs1 T U (subst (λ g. IsLeaf ms u1 g T) both.1 (subst (λ w. IsLeaf ms w gs T) both.0 l)) l1
      type_sole path m t _ _ (by_leaf _ _ _ u gs T p l) (by_field _ _ n1 at1 _ c1 w1 st1 cs1 gs1 p1 e1 f1) =
          absurd (differ m t _ _ gs gs1 p p1 (λ e. let k : shape u.type ≡ 0 = leaf_shape ms u gs T l in omega (arith, e, k)))
      type_sole path m t _ _ (by_leaf _ _ _ u gs T p l) (by_list _ _ n1 at1 _ item1 sized1 ss1 w1 gs1 of1 p1 less1 h1) =
          absurd (differ m t _ _ gs gs1 p p1 (λ e. let k : shape u.type ≡ 0 = leaf_shape ms u gs T l in omega (arith, e, k)))
      type_sole path m t _ _ (by_leaf _ _ _ u gs T p l) (by_sequence _ _ n1 at1 _ es1 cs1 gs1 ps1 k1 xs1 p1 less1 are1 h1) =
          absurd (differ m t _ _ gs gs1 p p1 (λ e. let k : shape u.type ≡ 0 = leaf_shape ms u gs T l in omega (arith, e, k)))
      type_sole path m t _ _ (by_leaf _ _ _ u gs T p l) (by_choice _ _ n1 at1 _ es1 cs1 gs1 ps1 k1 xs1 tags1 p1 less1 are1 outer1 h1) =
          absurd (differ m t _ _ gs gs1 p p1 (λ e. let k : shape u.type ≡ 0 = leaf_shape ms u gs T l in omega (arith, e, k)))
      type_sole path m t _ _ (by_leaf _ _ _ u gs T p l) (by_end _ _ _ u1 gs1 p1 o1 full1) =
          absurd (differ m t _ _ gs gs1 p p1 (λ e. let k : shape u.type ≡ 0 = leaf_shape ms u gs T l in let k1 = others_large u1.type o1 in omega (arith, e, k, k1)))
      type_sole path m t _ _ (by_field _ _ n at _ c w st cs gs p e f) (by_leaf _ _ _ u1 gs1 U p1 l1) =
          absurd (differ m t _ _ gs gs1 p p1 (λ e. let k1 : shape u1.type ≡ 0 = leaf_shape ms u1 gs1 U l1 in omega (arith, e, k1)))
      type_sole path m t _ _ (by_field _ _ n at _ c w st cs gs p e f) (by_field _ _ n1 at1 _ c1 w1 st1 cs1 gs1 p1 e1 f1) =
          refl
      type_sole path m t _ _ (by_field _ _ n at _ c w st cs gs p e f) (by_list _ _ n1 at1 _ item1 sized1 ss1 w1 gs1 of1 p1 less1 h1) =
          absurd (differ m t _ _ gs gs1 p p1 (λ e. omega (arith, e)))
      type_sole path m t _ _ (by_field _ _ n at _ c w st cs gs p e f) (by_sequence _ _ n1 at1 _ es1 cs1 gs1 ps1 k1 xs1 p1 less1 are1 h1) =
          absurd (differ m t _ _ gs gs1 p p1 (λ e. omega (arith, e)))
      type_sole path m t _ _ (by_field _ _ n at _ c w st cs gs p e f) (by_choice _ _ n1 at1 _ es1 cs1 gs1 ps1 k1 xs1 tags1 p1 less1 are1 outer1 h1) =
          absurd (differ m t _ _ gs gs1 p p1 (λ e. omega (arith, e)))
      type_sole path m t _ _ (by_field _ _ n at _ c w st cs gs p e f) (by_end _ _ _ u1 gs1 p1 o1 full1) =
          absurd (differ m t _ _ gs gs1 p p1 (λ e. let k1 = others_large u1.type o1 in omega (arith, e, k1)))
      type_sole path m t _ _ (by_list _ _ n at _ item sized ss w gs of p less h) (by_leaf _ _ _ u1 gs1 U p1 l1) =
          absurd (differ m t _ _ gs gs1 p p1 (λ e. let k1 : shape u1.type ≡ 0 = leaf_shape ms u1 gs1 U l1 in omega (arith, e, k1)))
      type_sole path m t _ _ (by_list _ _ n at _ item sized ss w gs of p less h) (by_field _ _ n1 at1 _ c1 w1 st1 cs1 gs1 p1 e1 f1) =
          absurd (differ m t _ _ gs gs1 p p1 (λ e. omega (arith, e)))
      type_sole path m t _ _ (by_list _ _ n at _ item sized ss w gs of p less h) (by_list _ _ n1 at1 _ item1 sized1 ss1 w1 gs1 of1 p1 less1 h1) =
          let e = list_parts n n1 at at1 sized sized1 ss ss1 w w1 item item1 (same_meant m t _ _ gs gs1 p p1) in
          let path_is : path ++ place_in n at ∷ [] ≡ path ++ place_in n1 at1 ∷ [] = rw (e.0, e.1) refl in
          let h2 : IsType ms nesting (path ++ place_in n at ∷ []) n item of1 =
          subst (λ q. IsType ms nesting q n item of1) (sym path_is)
          (subst (λ j. IsType ms nesting (path ++ place_in n1 at1 ∷ []) j item of1) (sym e.0)
          (subst (λ v. IsType ms nesting (path ++ place_in n1 at1 ∷ []) n1 v of1) (sym e.2) h1)) in
          ap (sequence_of any_size) (type_sole (path ++ place_in n at ∷ []) n item of of1 h h2)
      type_sole path m t _ _ (by_list _ _ n at _ item sized ss w gs of p less h) (by_sequence _ _ n1 at1 _ es1 cs1 gs1 ps1 k1 xs1 p1 less1 are1 h1) =
          absurd (differ m t _ _ gs gs1 p p1 (λ e. omega (arith, e)))
      type_sole path m t _ _ (by_list _ _ n at _ item sized ss w gs of p less h) (by_choice _ _ n1 at1 _ es1 cs1 gs1 ps1 k1 xs1 tags1 p1 less1 are1 outer1 h1) =
          absurd (differ m t _ _ gs gs1 p p1 (λ e. omega (arith, e)))
      type_sole path m t _ _ (by_list _ _ n at _ item sized ss w gs of p less h) (by_end _ _ _ u1 gs1 p1 o1 full1) =
          absurd (not_ended nesting path m n at t (list_of at bi.Sequence sized ss w item) u1 gs gs1 refl p less p1 full1)
      type_sole path m t _ _ (by_sequence _ _ n at _ es cs gs ps k xs p less are h) (by_leaf _ _ _ u1 gs1 U p1 l1) =
          absurd (differ m t _ _ gs gs1 p p1 (λ e. let k1 : shape u1.type ≡ 0 = leaf_shape ms u1 gs1 U l1 in omega (arith, e, k1)))
      type_sole path m t _ _ (by_sequence _ _ n at _ es cs gs ps k xs p less are h) (by_field _ _ n1 at1 _ c1 w1 st1 cs1 gs1 p1 e1 f1) =
          absurd (differ m t _ _ gs gs1 p p1 (λ e. omega (arith, e)))
      type_sole path m t _ _ (by_sequence _ _ n at _ es cs gs ps k xs p less are h) (by_list _ _ n1 at1 _ item1 sized1 ss1 w1 gs1 of1 p1 less1 h1) =
          absurd (differ m t _ _ gs gs1 p p1 (λ e. omega (arith, e)))
      type_sole path m t _ _ (by_sequence _ _ n at _ es cs gs ps k xs p less are h) (by_sequence _ _ n1 at1 _ es1 cs1 gs1 ps1 k1 xs1 p1 less1 are1 h1) =
          let e = braces_parts n n1 at at1 bi.Sequence es es1 cs cs1 (same_meant m t _ _ gs gs1 p p1) in
          let path_is : path ++ place_in n at ∷ [] ≡ path ++ place_in n1 at1 ∷ [] = rw (e.0, e.1) refl in
          let are2 : AreParts ms n es ps1 k1 = subst (λ v. AreParts ms n v ps1 k1) (sym e.2) (subst (λ j. AreParts ms j es1 ps1 k1) (sym e.0) are1) in
          let parts = parts_sole means_one ms n es ps ps1 k k1 are are2 in
          let h2 : AreTyped ms nesting (path ++ place_in n at ∷ []) ps xs1 =
          subst (λ qs. AreTyped ms nesting (path ++ place_in n at ∷ []) qs xs1) (sym parts.0) (subst (λ q. AreTyped ms nesting q ps1 xs1) (sym path_is) h1) in
          let types = all_sole (path ++ place_in n at ∷ []) ps xs xs1 h h2 in
          rw (parts.1, types) refl
      type_sole path m t _ _ (by_sequence _ _ n at _ es cs gs ps k xs p less are h) (by_choice _ _ n1 at1 _ es1 cs1 gs1 ps1 k1 xs1 tags1 p1 less1 are1 outer1 h1) =
          absurd (differ m t _ _ gs gs1 p p1 (λ e. omega (arith, e)))
      type_sole path m t _ _ (by_sequence _ _ n at _ es cs gs ps k xs p less are h) (by_end _ _ _ u1 gs1 p1 o1 full1) =
          absurd (not_ended nesting path m n at t (structure at bi.Sequence es cs) u1 gs gs1 refl p less p1 full1)
      type_sole path m t _ _ (by_choice _ _ n at _ es cs gs ps k xs tags p less are outer h) (by_leaf _ _ _ u1 gs1 U p1 l1) =
          absurd (differ m t _ _ gs gs1 p p1 (λ e. let k1 : shape u1.type ≡ 0 = leaf_shape ms u1 gs1 U l1 in omega (arith, e, k1)))
      type_sole path m t _ _ (by_choice _ _ n at _ es cs gs ps k xs tags p less are outer h) (by_field _ _ n1 at1 _ c1 w1 st1 cs1 gs1 p1 e1 f1) =
          absurd (differ m t _ _ gs gs1 p p1 (λ e. omega (arith, e)))
      type_sole path m t _ _ (by_choice _ _ n at _ es cs gs ps k xs tags p less are outer h) (by_list _ _ n1 at1 _ item1 sized1 ss1 w1 gs1 of1 p1 less1 h1) =
          absurd (differ m t _ _ gs gs1 p p1 (λ e. omega (arith, e)))
      type_sole path m t _ _ (by_choice _ _ n at _ es cs gs ps k xs tags p less are outer h) (by_sequence _ _ n1 at1 _ es1 cs1 gs1 ps1 k1 xs1 p1 less1 are1 h1) =
          absurd (differ m t _ _ gs gs1 p p1 (λ e. omega (arith, e)))
      type_sole path m t _ _ (by_choice _ _ n at _ es cs gs ps k xs tags p less are outer h) (by_choice _ _ n1 at1 _ es1 cs1 gs1 ps1 k1 xs1 tags1 p1 less1 are1 outer1 h1) =
          let e = braces_parts n n1 at at1 bi.Choice es es1 cs cs1 (same_meant m t _ _ gs gs1 p p1) in
          let path_is : path ++ place_in n at ∷ [] ≡ path ++ place_in n1 at1 ∷ [] = rw (e.0, e.1) refl in
          let are2 : AreParts ms n es ps1 k1 = subst (λ v. AreParts ms n v ps1 k1) (sym e.2) (subst (λ j. AreParts ms j es1 ps1 k1) (sym e.0) are1) in
          let parts = parts_sole means_one ms n es ps ps1 k k1 are are2 in
          let h2 : AreTyped ms nesting (path ++ place_in n at ∷ []) ps xs1 =
          subst (λ qs. AreTyped ms nesting (path ++ place_in n at ∷ []) qs xs1) (sym parts.0) (subst (λ q. AreTyped ms nesting q ps1 xs1) (sym path_is) h1) in
          let types = all_sole (path ++ place_in n at ∷ []) ps xs xs1 h h2 in
          let outer2 : AreTags ms n es tags1 = subst (λ v. AreTags ms n v tags1) (sym e.2) (subst (λ j. AreTags ms j es1 tags1) (sym e.0) outer1) in
          rw (parts.1, types, tags_sole tags_one ms n es tags tags1 outer outer2) refl
      type_sole path m t _ _ (by_choice _ _ n at _ es cs gs ps k xs tags p less are outer h) (by_end _ _ _ u1 gs1 p1 o1 full1) =
          absurd (not_ended nesting path m n at t (structure at bi.Choice es cs) u1 gs gs1 refl p less p1 full1)
      type_sole path m t _ _ (by_end _ _ _ u gs p o full) (by_leaf _ _ _ u1 gs1 U p1 l1) =
          absurd (differ m t _ _ gs gs1 p p1 (λ e. let k = others_large u.type o in let k1 : shape u1.type ≡ 0 = leaf_shape ms u1 gs1 U l1 in omega (arith, e, k, k1)))
      type_sole path m t _ _ (by_end _ _ _ u gs p o full) (by_field _ _ n1 at1 _ c1 w1 st1 cs1 gs1 p1 e1 f1) =
          absurd (differ m t _ _ gs gs1 p p1 (λ e. let k = others_large u.type o in omega (arith, e, k)))
      type_sole path m t _ _ (by_end _ _ _ u gs p o full) (by_list _ _ n1 at1 _ item1 sized1 ss1 w1 gs1 of1 p1 less1 h1) =
          absurd (not_ended nesting path m n1 at1 t (list_of at1 bi.Sequence sized1 ss1 w1 item1) u gs1 gs refl p1 less1 p full)
      type_sole path m t _ _ (by_end _ _ _ u gs p o full) (by_sequence _ _ n1 at1 _ es1 cs1 gs1 ps1 k1 xs1 p1 less1 are1 h1) =
          absurd (not_ended nesting path m n1 at1 t (structure at1 bi.Sequence es1 cs1) u gs1 gs refl p1 less1 p full)
      type_sole path m t _ _ (by_end _ _ _ u gs p o full) (by_choice _ _ n1 at1 _ es1 cs1 gs1 ps1 k1 xs1 tags1 p1 less1 are1 outer1 h1) =
          absurd (not_ended nesting path m n1 at1 t (structure at1 bi.Choice es1 cs1) u gs1 gs refl p1 less1 p full)
      type_sole path m t _ _ (by_end _ _ _ u gs p o full) (by_end _ _ _ u1 gs1 p1 o1 full1) =
          refl

      all_sole : (path : List Place) (ps : List Part) (xs ys : List Typed) → AreTyped ms nesting path ps xs → AreTyped ms nesting path ps ys → xs ≡ ys
      all_sole path _ _ _ (none_typed _) (none_typed _) = refl
      all_sole path _ _ _ (another_typed _ p ps need T xs' i a h) (another_typed _ _ _ need1 U ys' j b k) =
          rw (need_sole p need need1 a b, type_sole path p.«module» p.type T U i j, all_sole path ps xs' ys' h k) refl

pub types_sole : MeaningsAreSole → LeavesAreSole → ValuesAreSole → TagsAreSole → TypesAreSole
types_sole meanings leaves values tags ms nesting path m t T U = type_sole meanings leaves values tags ms nesting path m t T U
