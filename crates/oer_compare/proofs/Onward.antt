-- What only adds to a type that only adds to another, only adds to that other.
use Rattle.std.proofs.Common.{List, ◌++◌, Bool, true, false, ap, sym, ◌∙◌, subst, append_assoc}
use Rattle.oer_model.specs.LeafType.{LeafType, NamedNumber, bit_string, boolean, content, enumerated, integer, null}
use Rattle.oer_model.specs.AsnType.{Additions, Alternatives, AsnType, Fields, addition, alternative, choice, extensible_sequence, field, later, leaf, no_additions, no_alternatives, no_fields, sequence, sequence_of}
use Rattle.oer_model.specs.Widths.{AreLater}
use Rattle.oer_compare.specs.Extends.{AdditionsExtend, AlternativesExtend, AreFurther, Extends, ExtendsLeaf, FieldsExtend}
use Rattle.oer_compare.specs.Laws.{ExtendsOnward}

more_items : (xs f : List NamedNumber) (m : LeafType) → ExtendsLeaf (enumerated (xs ++ f) true) m → ExtendsLeaf (enumerated xs true) m
more_items xs f m (g, is) = (f ++ g, is ∙ ap (λ is. enumerated is true) (append_assoc xs f g))

leaf_onward : (k l m : LeafType) → ExtendsLeaf k l → ExtendsLeaf l m → ExtendsLeaf k m
leaf_onward (enumerated xs true) l m (f, is) y = more_items xs f m (subst (λ z. ExtendsLeaf z m) is y)
leaf_onward (enumerated xs false) l m is y = subst (λ z. ExtendsLeaf z m) is y
leaf_onward boolean l m is y = subst (λ z. ExtendsLeaf z m) is y
leaf_onward null l m is y = subst (λ z. ExtendsLeaf z m) is y
leaf_onward (integer low high) l m is y = subst (λ z. ExtendsLeaf z m) is y
leaf_onward (bit_string size) l m is y = subst (λ z. ExtendsLeaf z m) is y
leaf_onward (content kind) l m is y = subst (λ z. ExtendsLeaf z m) is y

later_onward : (others last : Alternatives) → AreLater others → AlternativesExtend true others last → AreLater last
later_onward no_alternatives last l x = x
later_onward (alternative name t T others) last l x = absurd l
later_onward (later name t T others) last l (X, rest, is, x, y) = subst AreLater (sym is) (later_onward others rest l y)

further_onward : (marker : Bool) (others last : Alternatives) → AreFurther marker others → AlternativesExtend marker others last → AreFurther marker last
further_onward true others last l x = later_onward others last l x
further_onward false others last is x = subst (λ hs. AlternativesExtend false hs last) is x

leaf_next : (k l : LeafType) (V : AsnType) → ExtendsLeaf k l → Extends (leaf l) V → Extends (leaf k) V
leaf_next k l V x (m, is, y) = (m, is, leaf_onward k l m x y)

mutual
  onward : (T U V : AsnType) → Extends T U → Extends U V → Extends T V
  onward (leaf k) U V (l, is, x) y = leaf_next k l V x (subst (λ X. Extends X V) is y)
  onward (sequence fs) U V (gs, is, x) y =
      let o = subst (λ X. Extends X V) is y in
      (o.0, o.1, fields_onward fs gs o.0 x o.2)
  onward (extensible_sequence fs more) U V (gs, others, is, x, y) z =
      let o = subst (λ X. Extends X V) is z in
      (o.0, o.1, o.2, fields_onward fs gs o.0 x o.3, additions_onward more others o.1 y o.4)
  onward (sequence_of size T) U V (X, is, x) y =
      let o = subst (λ Y. Extends Y V) is y in
      (o.0, o.1, onward T X o.0 x o.2)
  onward (choice marker more) U V (others, is, x) y =
      let o = subst (λ X. Extends X V) is y in
      (o.0, o.1, alternatives_onward marker more others o.0 x o.2)

  fields_onward : (fs gs hs : Fields) → FieldsExtend fs gs → FieldsExtend gs hs → FieldsExtend fs hs
  fields_onward no_fields gs hs is y = subst (λ ks. FieldsExtend ks hs) is y
  fields_onward (field name need T fs) gs hs (X, rest, is, x, y) z =
      let o = subst (λ ks. FieldsExtend ks hs) is z in
      (o.0, o.1, o.2, onward T X o.0 x o.3, fields_onward fs rest o.1 y o.4)

  additions_onward : (more others last : Additions) → AdditionsExtend more others → AdditionsExtend others last → AdditionsExtend more last
  additions_onward no_additions others last x y = tt
  additions_onward (addition name T more) others last (X, rest, is, x, y) z =
      let o = subst (λ ks. AdditionsExtend ks last) is z in
      (o.0, o.1, o.2, onward T X o.0 x o.3, additions_onward more rest o.1 y o.4)

  alternatives_onward : (marker : Bool) (more others last : Alternatives) → AlternativesExtend marker more others
      → AlternativesExtend marker others last → AlternativesExtend marker more last
  alternatives_onward marker no_alternatives others last x y = further_onward marker others last x y
  alternatives_onward marker (alternative name t T more) others last (X, rest, is, x, y) z =
      let o = subst (λ ks. AlternativesExtend marker ks last) is z in
      (o.0, o.1, o.2, onward T X o.0 x o.3, alternatives_onward marker more rest o.1 y o.4)
  alternatives_onward marker (later name t T more) others last (X, rest, is, x, y) z =
      let o = subst (λ ks. AlternativesExtend marker ks last) is z in
      (o.0, o.1, o.2, onward T X o.0 x o.3, alternatives_onward marker more rest o.1 y o.4)

pub extends_onward : ExtendsOnward
extends_onward = onward
