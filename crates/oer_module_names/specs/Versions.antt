-- Which version of a module an import asks for (X.680, 13.1: SelectionOption).
use Rattle.std.specs.Prelude.{◌≡◌, ◌↔◌, ◌<◌, ℕ, List, [], ◌∷◌, ◌++◌, Bool, true, false, ◌&&◌, nat_eq, nat_lt, Option, Some, None, if◌then◌else◌}
use Rattle.oer_module_syntax.specs.Tree.{Import, Module}
use Rattle.oer_module_syntax.specs.declared.tree.Versions.{Versions}
use Rattle.oer_module_syntax.specs.declared.tree.Versions.TheVariants.{Same, Successors, Descendants}
use Rattle.oer_module_names.specs.Identifiers.{Identifies, arcs}

-- ---- as a relation

-- An import that has the arcs `asked` may take its names from a module that has the arcs of the second list: the same; by
-- WITH SUCCESSORS also those that end in a greater arc; by WITH DESCENDANTS also those with more arcs behind them.
pub data Allows : Versions → List ℕ → List ℕ → Type 0 where
  same : {v : Versions} {asked : List ℕ} → Allows v asked asked
  successor : (before : List ℕ) (a b : ℕ) → a < b → Allows Successors (before ++ a ∷ []) (before ++ b ∷ [])
  descendant : (asked more : List ℕ) → Allows Descendants asked (asked ++ more)

-- A module fits an import: where both tell the arcs of an identifier, the import allows those of the module.
abbrev pub Fits : Import → Module → Type 0
Fits i m = (asked has : List ℕ) → Identifies i.id asked → Identifies m.id has → Allows i.versions asked has

-- ---- as it is tested

-- what is left of both behind the arcs that they share
abbrev pub apart : List ℕ → List ℕ → List ℕ × List ℕ
apart [] ys = ([], ys)
apart (x ∷ xs) [] = (x ∷ xs, [])
apart (x ∷ xs) (y ∷ ys) = if nat_eq x y then apart xs ys else (x ∷ xs, y ∷ ys)

abbrev pub is_over : List ℕ → Bool
is_over [] = true
is_over (x ∷ xs) = false

abbrev pub is_one_above : ℕ → List ℕ → Bool
is_one_above a [] = false
is_one_above a (b ∷ []) = nat_lt a b
is_one_above a (b ∷ c ∷ ys) = false

abbrev pub is_later : List ℕ → List ℕ → Bool
is_later [] ys = is_over ys
is_later (a ∷ []) ys = is_one_above a ys
is_later (a ∷ b ∷ xs) ys = false

abbrev pub is_allowed : Versions → List ℕ → List ℕ → Bool
is_allowed Same xs ys = is_over xs && is_over ys
is_allowed Successors xs ys = is_later xs ys
is_allowed Descendants xs ys = is_over xs

unfoldable pub allows : Versions → List ℕ → List ℕ → Bool
allows v asked has = is_allowed v (apart asked has).0 (apart asked has).1

-- where one of both tells no arcs, the name alone decides
abbrev pub fits : Versions → Option (List ℕ) → Option (List ℕ) → Bool
fits v None has = true
fits v (Some asked) None = true
fits v (Some asked) (Some has) = allows v asked has

-- what is tested is what the relation says
abbrev pub FitsAreTested : Type 0
FitsAreTested = (i : Import) (m : Module) → (fits i.versions (arcs i.id) (arcs m.id) ≡ true) ↔ Fits i m
