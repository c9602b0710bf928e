-- A type that holds no other doesn't depend on the room that its text has.
use Rattle.std.proofs.Common.{◌≡◌, ℕ, List, Bool, true, false, not, ◌&&◌, is_none, refl}
use Rattle.oer_module_lexer.specs.Token.{Spot}
use Rattle.oer_module_leaves.specs.Leaves.{bits_at, counted_at, enumerated_at, integer_at, lacks_marker, leaf_at, leaf_by}
use Rattle.oer_module_leaves.specs.Leaves.{listed_at, plain_at, sized_at, sizes_at}
use Rattle.oer_module_leaves.specs.Numbered.{Numbered, numbered_at}
use Rattle.oer_module_leaves.specs.Shapes.{enumerated_type, size_at}
use Rattle.oer_module_leaves.specs.Texts.{Sizes, fixed, items_at}
use Rattle.oer_module_leaves.specs.declared.shape.Counted.{Counted}
use Rattle.oer_module_leaves.specs.declared.shape.Counted.TheVariants.{Bits, Octets, Ia5, Visible, Numeric, Printable, Utf8}
use Rattle.oer_module_limits.specs.Limits.{integer_range}
use Rattle.oer_module_names.specs.declared.error.Place.{Place}
use Rattle.oer_module_syntax.specs.Modules.{none_left}
use Rattle.oer_module_syntax.specs.Tree.{Module, Tree, plain}
use Rattle.oer_module_syntax.specs.declared.word.Builtin.{Builtin}
use Rattle.oer_module_syntax.specs.declared.word.Builtin.TheVariants as bi
use Rattle.oer_module_text.specs.Errors.{limited_by, place_in}
use Rattle.oer_module_text.specs.Room.{Room}
use Rattle.oer_module_types.specs.Fields.{field_at, field_of, if_open, open_at}
use Rattle.oer_module_values.specs.Types.{Meaning}
use Rattle.oer_module_limits.specs.Written.{Written}
use Rattle.oer_module_nesting.proofs.Alike.{Alike, Same, behind, bind, choose, once}

counted : (p : Place) (c : Counted) (z : Sizes) (r s : Room) → Alike Same (counted_at p c r z) (counted_at p c s z)
counted p c z r s = once Same (size_at p z) _ _ (λ size is. record { related = refl })

listed : (m : ℕ) (e : Numbered) (r s : Room) → Alike Same (listed_at m e r) (listed_at m e s)
unfolding listed_at
listed m e r s = behind Same (items_at m e r) (items_at m e s) _ _ (λ r' s'.
    once Same (enumerated_type m e) _ _ (λ T is. record { related = refl }))

open_type : (p : Place) (w : Written) (o : Bool) (r s : Room) → Alike Same (if_open p w r o) (if_open p w s o)
open_type p w true r s = record { related = refl }
open_type p w false r s = record { related = tt }

module _ (ms : List Module) where
  integer : (p : Place) (m : Meaning) (r s : Room) → Alike Same (integer_at ms p m r) (integer_at ms p m s)
  integer p m r s = once Same (limited_by (integer_range ms p m)) _ _ (λ z is. record { related = refl })

  sized : (c : Counted) (p : Place) (m : Meaning) (q : Place) (r s : Room) → Alike Same (sized_at ms c p m q r) (sized_at ms c p m q s)
  sized c p m q r s = once Same (sizes_at ms p m) _ _ (λ z is. counted q c z r s)

  bits : (p : Place) (m : Meaning) (q : Place) (ts : List Spot) (r s : Room) → Alike Same (bits_at ms p m q ts r) (bits_at ms p m q ts s)
  bits p m q ts r s = once Same (sizes_at ms p m) _ _ (λ z is.
      choose Same (not (none_left ts) && is_none (fixed z)) _ _ _ _ (record { related = tt }) (counted q Bits z r s))

  enumerated : (p : Place) (ts : List Spot) (r s : Room) → Alike Same (enumerated_at ms p ts r) (enumerated_at ms p ts s)
  enumerated p ts r s = once Same (numbered_at ms p ts) _ _ (λ e is.
      choose Same (lacks_marker ms p.«module» e) _ _ _ _ (record { related = tt }) (listed p.«module» e _ _))

  plainly : (p : Place) (m : Meaning) (q : Place) (b : Builtin) (ts : List Spot) (r s : Room) → Alike Same (plain_at ms p m q b ts r) (plain_at ms p m q b ts s)
  plainly p m q bi.Boolean ts r s = record { related = refl }
  plainly p m q bi.Null ts r s = record { related = refl }
  plainly p m q bi.ObjectIdentifier ts r s = record { related = refl }
  plainly p m q bi.Integer ts r s = integer p m r s
  plainly p m q bi.Enumerated ts r s = enumerated q ts r s
  plainly p m q bi.BitString ts r s = bits p m q ts r s
  plainly p m q bi.OctetString ts r s = sized Octets p m q r s
  plainly p m q bi.Ia5String ts r s = sized Ia5 p m q r s
  plainly p m q bi.VisibleString ts r s = sized Visible p m q r s
  plainly p m q bi.Iso646String ts r s = sized Visible p m q r s
  plainly p m q bi.NumericString ts r s = sized Numeric p m q r s
  plainly p m q bi.PrintableString ts r s = sized Printable p m q r s
  plainly p m q bi.Utf8String ts r s = sized Utf8 p m q r s
  plainly p m q b ts r s = record { related = tt }

  leaf_of : (p : Place) (m : Meaning) (k : ℕ) (u : Tree) (r s : Room) → Alike Same (leaf_by ms p m k u r) (leaf_by ms p m k u s)
  leaf_of p m k (plain at b ts cs) r s =
      bind Same Same _ _ _ _ (plainly p m (place_in k at) b ts r s) (λ x y same. record { related = same })
  leaf_of p m k u r s = record { related = tt }

  pub leaf : (p : Place) (m : Meaning) (r s : Room) → Alike Same (leaf_at ms p m r) (leaf_at ms p m s)
  unfolding leaf_at
  leaf p m r s = leaf_of p m m.of.«module» m.of.type r s

  pub field_type : (p : Place) (name : List ℕ) (steps ps : List Spot) (w : Written) (r s : Room)
      → Alike Same (field_at ms p name steps ps w r) (field_at ms p name steps ps w s)
  unfolding field_at
  field_type p name steps ps w r s =
      choose Same (none_left ps) _ _ _ _ (once Same (open_at ms p.«module» p.at name (field_of steps)) _ _ (λ o is. open_type p w o r s))
      (record { related = tt })
