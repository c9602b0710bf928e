-- The trees of constraints, values and items.
use Rattle.std.specs.Prelude.{ℕ, List, [], ◌∷◌, map, Bool, Option}
use Rattle.std.specs.Option.{option_map}
use Rattle.oer_module_lexer.specs.Token.{Spot, spots_of}
use Rattle.oer_module_syntax.specs.Tree.{Tree, tree_of}
use Rattle.oer_module_terms.specs.declared.tree.Amount as raw_amount
use Rattle.oer_module_terms.specs.declared.tree.Amount.TheVariants as raw_amounts
use Rattle.oer_module_terms.specs.declared.tree.Atom as raw_atom
use Rattle.oer_module_terms.specs.declared.tree.Atom.TheVariants as raw_atoms
use Rattle.oer_module_terms.specs.declared.tree.Bound.{Bound as RawBound}
use Rattle.oer_module_terms.specs.declared.tree.Constraint.{Constraint as RawConstraint, fold-Constraint}
use Rattle.oer_module_terms.specs.declared.tree.Constraint.TheOpen.{Constraint-F, Elements-F, Extension-F}
use Rattle.oer_module_terms.specs.declared.tree.Elements.{Elements as RawElements, fold-Elements}
use Rattle.oer_module_terms.specs.declared.tree.Enumeration.{Enumeration as RawEnumeration}
use Rattle.oer_module_terms.specs.declared.tree.Extension.{Extension as RawExtension, fold-Extension}
use Rattle.oer_module_terms.specs.declared.tree.Fixed.{Fixed}
use Rattle.oer_module_terms.specs.declared.tree.General.{General}
use Rattle.oer_module_terms.specs.declared.tree.Item.{Item as RawItem}
use Rattle.oer_module_terms.specs.declared.tree.Member.{Member as RawMember, fold-Member}
use Rattle.oer_module_terms.specs.declared.tree.More.{More as RawMore}
use Rattle.oer_module_terms.specs.declared.tree.Narrowing.{Narrowing}
use Rattle.oer_module_terms.specs.declared.tree.Simple as raw_simple
use Rattle.oer_module_terms.specs.declared.tree.Simple.TheVariants as raw_simples
use Rattle.oer_module_terms.specs.declared.tree.Value.{Value as RawValue, fold-Value}
use Rattle.oer_module_terms.specs.declared.tree.Value.TheOpen.{Member-F, Value-F}

-- ---- values

-- a number, which is negative or not, or a name and the steps behind it
pub data Amount : Type 0 where
  number : Bool → List ℕ → Amount
  named : List ℕ → List Spot → Amount

-- a value that holds no other
pub data Atom : Type 0 where
  amount : Amount → Atom
  real : Bool → List ℕ → Atom
  fixed : Fixed → Atom
  bits digits text : List ℕ → Atom

-- values that begin at a place; braces hold members, and a member has parts
mutual
  pub data Value : Type 0 where
    atom : ℕ → Atom → Value
    numbered : ℕ → List ℕ → Amount → Value
    choice : ℕ → List ℕ → Value → Value
    braces : ℕ → Members → Value

  pub data Parts : Type 0 where
    no_parts : Parts
    part : Value → Parts → Parts

  pub data Members : Type 0 where
    no_members : Members
    member : Parts → Members → Members

abbrev pub parts_from : List Value → Parts
parts_from [] = no_parts
parts_from (v ∷ vs) = part v (parts_from vs)

abbrev pub members_from : List Parts → Members
members_from [] = no_members
members_from (m ∷ ms) = member m (members_from ms)

abbrev pub amount_of : raw_amount.Amount → Amount
amount_of (raw_amounts.Number negative w) = number negative w.now
amount_of (raw_amounts.Named name path) = named name.now (spots_of path.now)

abbrev pub atom_of : raw_atom.Atom → Atom
atom_of (raw_atoms.Amount a) = amount (amount_of a)
atom_of (raw_atoms.Real negative s) = real negative s.now
atom_of (raw_atoms.Fixed f) = fixed f
atom_of (raw_atoms.Bits s) = bits s.now
atom_of (raw_atoms.Digits s) = digits s.now
atom_of (raw_atoms.Text s) = text s.now

-- one level, with each part already seen as what it stands for
abbrev pub value_step : Value-F Value Parts → Value
value_step (Value-F.Atom at a) = atom at (atom_of a)
value_step (Value-F.Numbered at name n) = numbered at name.now (amount_of n)
value_step (Value-F.Choice at name v) = choice at name.now v.value
value_step (Value-F.Braces at members) = braces at (members_from members.items)

abbrev pub member_step : Member-F Value Parts → Parts
member_step m = parts_from m.parts.items

abbrev pub value_of : RawValue → Value
value_of = fold-Value Value Parts value_step member_step

abbrev pub member_of : RawMember → Parts
member_of = fold-Member Value Parts value_step member_step

-- ---- constraints

-- an end of a range; none stands for MIN or MAX
pub record Bound : Type 0 where
  pub limit : Option Value
  pub excluded : Bool

abbrev pub bound_of : RawBound → Bound
bound_of b = record { limit = option_map value_of b.limit; excluded = b.excluded }

-- elements that hold no other set
pub data Simple : Type 0 where
  value : Value → Simple
  range : ℕ → Bound → Bound → Simple
  type : Tree → Simple
  narrowing : ℕ → Narrowing → List Spot → Simple

abbrev pub simple_of : raw_simple.Simple → Simple
simple_of (raw_simples.Value v) = value (value_of v)
simple_of (raw_simples.Range at lower upper) = range at (bound_of lower) (bound_of upper)
simple_of (raw_simples.Type t) = type (tree_of t)
simple_of (raw_simples.Narrowing at kind spots) = narrowing at kind (spots_of spots.now)

-- sets of values; a constraint begins at a place, and the tokens of a subtype are its exception
mutual
  pub data Constraint : Type 0 where
    subtype : ℕ → Elements → Extension → List Spot → Constraint
    general : ℕ → General → List Spot → Constraint

  pub data Extension : Type 0 where
    closed opened : Extension
    extended : Elements → Extension

  pub data Elements : Type 0 where
    union intersection : Sets → Elements
    except : Elements → Elements → Elements
    all_except : Elements → Elements
    size alphabet : ℕ → Constraint → Elements
    simple : Simple → Elements

  pub data Sets : Type 0 where
    no_sets : Sets
    set : Elements → Sets → Sets

abbrev pub sets_from : List Elements → Sets
sets_from [] = no_sets
sets_from (e ∷ es) = set e (sets_from es)

abbrev pub constraint_step : Constraint-F Constraint Elements Extension → Constraint
constraint_step (Constraint-F.Subtype at root extension exception) = subtype at root extension (spots_of exception.now)
constraint_step (Constraint-F.General at kind spots) = general at kind (spots_of spots.now)

abbrev pub extension_step : Extension-F Constraint Elements Extension → Extension
extension_step Extension-F.Closed = closed
extension_step Extension-F.Open = opened
extension_step (Extension-F.Extended more) = extended more.value

abbrev pub elements_step : Elements-F Constraint Elements Extension → Elements
elements_step (Elements-F.Union es) = union (sets_from es.items)
elements_step (Elements-F.Intersection es) = intersection (sets_from es.items)
elements_step (Elements-F.Except e x) = except e.value x.value
elements_step (Elements-F.AllExcept e) = all_except e.value
elements_step (Elements-F.Size at c) = size at c.value
elements_step (Elements-F.Alphabet at c) = alphabet at c.value
elements_step (Elements-F.Simple e) = simple (simple_of e.value)

abbrev pub constraint_of : RawConstraint → Constraint
constraint_of = fold-Constraint Constraint Elements Extension constraint_step elements_step extension_step

abbrev pub extension_of : RawExtension → Extension
extension_of = fold-Extension Constraint Elements Extension constraint_step elements_step extension_step

abbrev pub elements_of : RawElements → Elements
elements_of = fold-Elements Constraint Elements Extension constraint_step elements_step extension_step

-- ---- items

pub record Item : Type 0 where
  pub at : ℕ
  pub name : List ℕ
  pub number : Option Amount

-- what stands behind the marker of an ENUMERATED
pub record More : Type 0 where
  pub exception : List Spot
  pub items : List Item

pub record Enumeration : Type 0 where
  pub root : List Item
  pub more : Option More

abbrev pub item_of : RawItem → Item
item_of i = record { at = i.at; name = i.name.now; number = option_map amount_of i.number }

abbrev pub more_of : RawMore → More
more_of m = record { exception = spots_of m.exception.now; items = map item_of m.items.items }

abbrev pub enumeration_of : RawEnumeration → Enumeration
enumeration_of e = record { root = map item_of e.root.items; more = option_map more_of e.more }
