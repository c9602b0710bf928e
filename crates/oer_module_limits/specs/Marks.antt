-- Extension markers of constraints (X.680, 50.1), also of those behind SIZE.
use Rattle.std.specs.Prelude.{Bool, true, false, ◌||◌}
use Rattle.oer_module_terms.specs.Trees.{Constraint, subtype, general, Extension, closed, opened, extended, Sets, no_sets, set}
use Rattle.oer_module_terms.specs.Trees.{Elements, union, intersection, except, all_except, size, alphabet, simple}

abbrev pub has_marker : Extension → Bool
has_marker closed = false
has_marker opened = true
has_marker (extended e) = true

-- whether a constraint has a marker, or SIZE in its set has one
abbrev mutual
  pub is_extensible : Constraint → Bool
  is_extensible (subtype at root more exception) = has_marker more || is_marked root
  is_extensible (general at kind ts) = false

  pub is_marked : Elements → Bool
  is_marked (union es) = are_marked es
  is_marked (intersection es) = are_marked es
  is_marked (except e x) = is_marked e || is_marked x
  is_marked (all_except x) = is_marked x
  is_marked (size at c) = is_extensible c
  is_marked (alphabet at c) = false
  is_marked (simple e) = false

  -- whether some are
  pub are_marked : Sets → Bool
  are_marked no_sets = false
  are_marked (set e es) = is_marked e || are_marked es

-- whether SIZE with a marker stands beside other elements, of which the whole may have a marker or not
abbrev mutual
  pub is_mixed : Elements → Bool
  is_mixed (union es) = are_mixed es
  is_mixed (intersection es) = are_mixed es
  is_mixed (except e x) = is_marked e || is_marked x
  is_mixed (all_except x) = is_marked x
  is_mixed (size at c) = false
  is_mixed (alphabet at c) = false
  is_mixed (simple e) = false

  pub are_mixed : Sets → Bool
  are_mixed no_sets = false
  are_mixed (set e no_sets) = is_mixed e
  are_mixed (set e (set x es)) = are_marked (set e (set x es))
