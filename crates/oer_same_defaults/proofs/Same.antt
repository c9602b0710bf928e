-- The value that tokens after DEFAULT stand for in a module is that of the notation, or it is rejected for a limit.
use Rattle.std.proofs.Common.{◌≡◌, List, [], Bool, true, Ok, refl, sym, subst}
use Rattle.oer_model.specs.AsnType.{leaf}
use Rattle.oer_model.specs.AsnValue.{AsnValue}
use Rattle.oer_model.specs.LeafType.{LeafType, enumerated}
use Rattle.oer_module_defaults.specs.Defaults.{default_at, kind_at, value_at}
use Rattle.oer_module_defaults.specs.Governors.{Governor}
use Rattle.oer_module_lexer.specs.Token.{Spot}
use Rattle.oer_module_names.specs.declared.error.Place.{Place}
use Rattle.oer_module_syntax.specs.Tree.{Module, Tree}
use Rattle.oer_module_terms.specs.Trees.{Value}
use Rattle.oer_module_text.specs.Errors.{place_in}
use Rattle.oer_module_text.specs.Room.{Room}
use Rattle.oer_module_values.specs.Numbers.{place_of_first}
use Rattle.oer_module_values.specs.Types.{Meaning, meaning, type_in}
use Rattle.oer_notation.specs.Reading.{Known}
use Rattle.oer_same_names.specs.Meant.{IsMeant}
use Rattle.oer_same_tokens.specs.Same.{same_tokens}
use Rattle.oer_same_trees.proofs.Placed.{placed_as}
use Rattle.oer_same_items.specs.Laws.{HasItem, SameItem}
use Rattle.oer_same_items.specs.Ordinary.{AreOrdinary}
use Rattle.oer_same_defaults.specs.Laws.{SameDefault}
use Rattle.oer_same_defaults.specs.Tame.{AreTame, HasOrdinaryItems}
use Rattle.oer_same_defaults.proofs.Leaves.{Governs, enumerated_tree, leaf_kind, number_governed}
use Rattle.oer_same_defaults.proofs.Literals.{Settles, Stands, stands_arcs, stands_bits, stands_digit_bits, stands_false, stands_item, stands_null}
use Rattle.oer_same_defaults.proofs.Literals.{stands_number, stands_octets, stands_text, stands_true, stands_utf8, value_settles}
use Rattle.oer_same_defaults.proofs.Single.{Finds, finds_arcs, finds_bits, finds_digit_bits, finds_number, finds_octets, finds_text}

module _ (o : Bool) (same_item : SameItem) (ms : List Module) (ks : List Known) (t : Tree) (m : Meaning) (means : meaning ms (type_in 0 t) ≡ Ok m) where
  -- what the kind finds that governs the value
  found : {L : LeafType} {v : AsnValue} {ss : List Spot} {value : Value} → Stands L v ss value → IsMeant ks (leaf L) m → (g : Governor) → Governs L g
      → type_in g.«module» g.type ≡ m.of → (o ≡ true → HasOrdinaryItems ms (leaf L) m.of) → (o ≡ true → AreTame ss) → (p : Place) (r : Room)
      → Finds o (kind_at (value_at ms 31) ms (leaf_kind L) (record { of = type_in 0 t; governor = g }) (record { place = p; governor = g; value = value }) r) v
  found stands_true i g k same ordinary tame p r = record { given = refl }
  found stands_false i g k same ordinary tame p r = record { given = refl }
  found stands_null i g k same ordinary tame p r = record { given = refl }
  found (stands_number {z} {minus} {w} n fits) i g k same ordinary tame p r =
      let q = number_governed ms ks t m means i in
      finds_number o ms (type_in 0 t) q.0 p minus w z r q.1 n fits
  found (stands_item {items} {marker} {w} {z} n) i g k same ordinary tame p r =
      let e = enumerated_tree k.tree in
      let there : o ≡ true → HasOrdinaryItems ms (leaf (enumerated items marker)) (type_in g.«module» g.type) =
      λ on. subst (HasOrdinaryItems ms (leaf (enumerated items marker))) (sym same) (ordinary on) in
      let here : o ≡ true → AreOrdinary ms (place_in g.«module» e.at) k.tree.items items = λ on. there on e.at k.tree.items e.constraints e.is in
      record {
        given = same_item o items marker e.behind e.spelt w z n g g e.at e.at k.tree.items k.tree.items e.constraints e.constraints
            e.is e.keeps e.is e.keeps ms here here p [] r;
      }
  found (stands_octets {w} {xs} a) i g k same ordinary tame p r = finds_octets o p w xs r a
  found (stands_digit_bits {w} {s} a) i g k same ordinary tame p r = finds_digit_bits o p w s r a (λ on. (tame on).0)
  found (stands_bits {w}) i g k same ordinary tame p r = finds_bits o p w r (λ on. (tame on).0)
  found (stands_text {w}) i g k same ordinary tame p r = finds_text o p w r (λ on. (tame on).0)
  found (stands_utf8 {w}) i g k same ordinary tame p r = finds_text o p w r (λ on. (tame on).0)
  found (stands_arcs {a} {b} {arcs} {vs} {at} says few) i g k same ordinary tame p r = finds_arcs o p at a b arcs vs r says

  settled_found : (L : LeafType) (v : AsnValue) (ss : List Spot) → Settles ms ks t m L v ss → (o ≡ true → HasOrdinaryItems ms (leaf L) m.of)
      → (o ≡ true → AreTame ss) → (r : Room) → Finds o (default_at ms (type_in 0 t) 0 ss r) v
  settled_found L v ss s ordinary tame r =
      rw (s.is r) (found s.stands s.meant s.governor s.governs s.of_is ordinary tame (place_of_first 0 ss) r)

pub same_default : HasItem → SameItem → SameDefault
same_default there same_item o ms ks T t m means i v ts ss r value keeps ordinary tame =
    let s = value_settles there ms ks t m means value i ss (placed_as (same_tokens ts) ss keeps) in
    let here : o ≡ true → HasOrdinaryItems ms (leaf s.0) m.of = λ on. subst (λ T. HasOrdinaryItems ms T m.of) s.1 (ordinary on) in
    let found = settled_found o same_item ms ks t m means s.0 v ss s.2 here tame r in
    found.given
