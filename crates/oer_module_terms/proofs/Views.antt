-- A tree, level by level, beside what it stands for.
use Rattle.std.proofs.Common.{◌≡◌, ℕ, List, map, Vec, Box, Global, Bor, rules}
use Rattle.oer_module_lexer.specs.Token.{spots_of}
use Rattle.oer_module_lexer.specs.declared.token.Spot.{Spot as RawSpot}
use Rattle.oer_module_terms.specs.Trees.{amount_of, atom_of, atom, numbered, choice, braces, members_from, value_of, member_of}
use Rattle.oer_module_terms.specs.Trees.{subtype, general, closed, opened, extended, union, intersection, except, all_except}
use Rattle.oer_module_terms.specs.Trees.{simple, simple_of, size, alphabet, sets_from, constraint_of, extension_of, elements_of}
use Rattle.oer_module_terms.specs.declared.tree.Amount.{Amount}
use Rattle.oer_module_terms.specs.declared.tree.Atom.{Atom}
use Rattle.oer_module_terms.specs.declared.tree.Constraint as raw_constraint
use Rattle.oer_module_terms.specs.declared.tree.Constraint.{the_lemmas as of_sets}
use Rattle.oer_module_terms.specs.declared.tree.Elements as raw
use Rattle.oer_module_terms.specs.declared.tree.Extension as raw_extension
use Rattle.oer_module_terms.specs.declared.tree.General.{General}
use Rattle.oer_module_terms.specs.declared.tree.Member as raw_member
use Rattle.oer_module_terms.specs.declared.tree.Simple as raw_simple
use Rattle.oer_module_terms.specs.declared.tree.Value.{the_lemmas as of_values}
use Rattle.oer_module_terms.specs.declared.tree.Value as raw_value

pub value_of-Atom : (at : ℕ) (a : Atom) → value_of (raw_value.Atom at a) ≡ atom at (atom_of a)
value_of-Atom at a = search (rules, of_values)

pub value_of-Numbered : (at : ℕ) (name : Bor (List ℕ)) (n : Amount)
    → value_of (raw_value.Numbered at name n) ≡ numbered at name.now (amount_of n)
value_of-Numbered at name n = search (rules, of_values)

pub value_of-Choice : (at : ℕ) (name : Bor (List ℕ)) (v : Box raw_value.Value Global)
    → value_of (raw_value.Choice at name v) ≡ choice at name.now (value_of v.value)
value_of-Choice at name v = search (rules, of_values)

pub value_of-Braces : (at : ℕ) (ms : Vec raw_member.Member Global)
    → value_of (raw_value.Braces at ms) ≡ braces at (members_from (map member_of ms.items))
value_of-Braces at ms = search (rules, of_values)

pub extension_of-Closed : extension_of raw_extension.Closed ≡ closed
extension_of-Closed = search (rules, of_sets)

pub extension_of-Open : extension_of raw_extension.Open ≡ opened
extension_of-Open = search (rules, of_sets)

pub extension_of-Extended : (e : Box raw.Elements Global) → extension_of (raw_extension.Extended e) ≡ extended (elements_of e.value)
extension_of-Extended e = search (rules, of_sets)

pub constraint_of-Subtype : (at : ℕ) (root : raw.Elements) (x : raw_extension.Extension) (ts : Bor (List RawSpot))
    → constraint_of (raw_constraint.Subtype at root x ts) ≡ subtype at (elements_of root) (extension_of x) (spots_of ts.now)
constraint_of-Subtype at root x ts = search (rules, of_sets)

pub constraint_of-General : (at : ℕ) (k : General) (ts : Bor (List RawSpot))
    → constraint_of (raw_constraint.General at k ts) ≡ general at k (spots_of ts.now)
constraint_of-General at k ts = search (rules, of_sets)

pub elements_of-Union : (es : Vec raw.Elements Global) → elements_of (raw.Union es) ≡ union (sets_from (map elements_of es.items))
elements_of-Union es = search (rules, of_sets)

pub elements_of-Intersection : (es : Vec raw.Elements Global)
    → elements_of (raw.Intersection es) ≡ intersection (sets_from (map elements_of es.items))
elements_of-Intersection es = search (rules, of_sets)

pub elements_of-Except : (e x : Box raw.Elements Global) → elements_of (raw.Except e x) ≡ except (elements_of e.value) (elements_of x.value)
elements_of-Except e x = search (rules, of_sets)

pub elements_of-AllExcept : (e : Box raw.Elements Global) → elements_of (raw.AllExcept e) ≡ all_except (elements_of e.value)
elements_of-AllExcept e = search (rules, of_sets)

pub elements_of-Size : (at : ℕ) (c : Box raw_constraint.Constraint Global) → elements_of (raw.Size at c) ≡ size at (constraint_of c.value)
elements_of-Size at c = search (rules, of_sets)

pub elements_of-Alphabet : (at : ℕ) (c : Box raw_constraint.Constraint Global)
    → elements_of (raw.Alphabet at c) ≡ alphabet at (constraint_of c.value)
elements_of-Alphabet at c = search (rules, of_sets)

pub elements_of-Simple : (e : Box raw_simple.Simple Global) → elements_of (raw.Simple e) ≡ simple (simple_of e.value)
elements_of-Simple e = search (rules, of_sets)

-- each level
pub ruleset views = (value_of-Atom, value_of-Numbered, value_of-Choice, value_of-Braces)

pub ruleset sets = (
  extension_of-Closed,
  extension_of-Open,
  extension_of-Extended,
  constraint_of-Subtype,
  constraint_of-General,
  elements_of-Union,
  elements_of-Intersection,
  elements_of-Except,
  elements_of-AllExcept,
  elements_of-Size,
  elements_of-Alphabet,
  elements_of-Simple,
)
