-- The kinds of constraints, and which of them narrow the values of a type (X.680, 51; X.682, 8 to 11).
use Rattle.std.specs.Prelude.{ℕ, List, [], ◌∷◌, ◌==◌, Bool, true, false, not, ◌&&◌, ◌||◌, if◌then◌else◌}
use Rattle.oer_module_limits.specs.Marks.{is_extensible}
use Rattle.oer_module_limits.specs.declared.kinds.Kind.{Kind}
use Rattle.oer_module_limits.specs.declared.kinds.Kind.TheVariants.{Size, Alphabet, Pattern, Settings, Inner, Values, UserDefined, Contents, Table}
use Rattle.oer_module_terms.specs.Trees.{Constraint, subtype, general, Simple, value, range, type, narrowing, Sets, no_sets, set}
use Rattle.oer_module_terms.specs.Trees.{Elements, union, intersection, except, all_except, size, alphabet, simple}
use Rattle.oer_module_terms.specs.declared.tree.General.{General}
use Rattle.oer_module_terms.specs.declared.tree.General.TheVariants as of_general
use Rattle.oer_module_terms.specs.declared.tree.Narrowing.{Narrowing}
use Rattle.oer_module_terms.specs.declared.tree.Narrowing.TheVariants as of_narrowing

-- a number for each kind, by which kinds are compared
abbrev pub kind_number : Kind → ℕ
kind_number Size = 0
kind_number Alphabet = 1
kind_number Pattern = 2
kind_number Settings = 3
kind_number Inner = 4
kind_number Values = 5
kind_number UserDefined = 6
kind_number Contents = 7
kind_number Table = 8

abbrev pub same_kind : Kind → Kind → Bool
same_kind k l = kind_number k == kind_number l

abbrev pub general_kind : General → Kind
general_kind of_general.UserDefined = UserDefined
general_kind of_general.Table = Table
general_kind of_general.Contents = Contents

abbrev pub narrowing_kind : Narrowing → Kind
narrowing_kind of_narrowing.Inner = Inner
narrowing_kind of_narrowing.Pattern = Pattern
narrowing_kind of_narrowing.Settings = Settings

abbrev pub simple_kind : Simple → Kind
simple_kind (value v) = Values
simple_kind (range at low high) = Values
simple_kind (type t) = Values
simple_kind (narrowing at k ts) = narrowing_kind k

-- elements of the kind stand in a set
abbrev mutual
  pub stands_in : Kind → Elements → Bool
  stands_in k (union es) = stands_in_some k es
  stands_in k (intersection es) = stands_in_some k es
  stands_in k (except e x) = stands_in k e || stands_in k x
  stands_in k (all_except x) = stands_in k x
  stands_in k (size at c) = same_kind k Size
  stands_in k (alphabet at c) = same_kind k Alphabet
  stands_in k (simple e) = same_kind k (simple_kind e)

  pub stands_in_some : Kind → Sets → Bool
  stands_in_some k no_sets = false
  stands_in_some k (set e es) = stands_in k e || stands_in_some k es

abbrev pub stands_in_one : Kind → Constraint → Bool
stands_in_one k (subtype at root more exception) = stands_in k root
stands_in_one k (general at g ts) = same_kind k (general_kind g)

-- a constraint that may stand behind the word SIZE
abbrev pub stands_behind : Kind → Bool → Constraint → Bool
stands_behind k sized c = if sized then same_kind k Size else stands_in_one k c

-- The last bounds nothing if it has a marker (X.696, 8.2); one that another follows loses it (X.680, 50.8).
abbrev pub bounds : Constraint → List Constraint → Bool
bounds c [] = not (is_extensible c)
bounds c (d ∷ ds) = true

-- constraints in a row, the nearest last; SIZE may stand before the first
abbrev pub narrows : Kind → Bool → List Constraint → Bool
narrows k sized [] = false
narrows k sized (c ∷ cs) = (bounds c cs && stands_behind k sized c) || narrows k false cs
