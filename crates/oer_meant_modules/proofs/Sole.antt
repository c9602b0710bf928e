-- A Name in modules has one type.
use Rattle.std.proofs.Common.{◌≡◌, ◌∙◌, ℕ, List, [], Bool, true, false, Option, Some, sym, subst, slice_get}
use Rattle.std.specs.List.{after_first}
use Rattle.oer_module_names.specs.Laws.{StandsForOne}
use Rattle.oer_module_names.specs.Standing.{StandsFor}
use Rattle.oer_module_names.specs.Tables.{assignments_in}
use Rattle.oer_module_names.specs.declared.error.Found.{Found}
use Rattle.oer_module_syntax.specs.Tree.{Assignment, Body, Module, Tree, type_body}
use Rattle.oer_modules.specs.Asked.{is_point, is_qualified}
use Rattle.oer_meant_modules.specs.Laws.{Asks, NamesAreSole, alone, within}
use Rattle.oer_meant_types.specs.Laws.{TypesAreSole}
use Rattle.oer_meant_types.specs.Types.{IsType}

not_both : (b : Bool) → b ≡ true → b ≡ false → ⊥
not_both b e f = let c : true ≡ false = sym e ∙ f in cc

asks_sole : StandsForOne → (ms : List Module) (w : List ℕ) (x y : Found) → Asks ms w x → Asks ms w y → x ≡ y
asks_sole one ms w x y (alone q p) (alone r o) = o.only x p.here
asks_sole one ms w x y (alone q p) (within k r o s) = absurd (not_both (is_qualified w) r q)
asks_sole one ms w x y (within k q p s) (alone r o) = absurd (not_both (is_qualified w) q r)
asks_sole one ms w x y (within k q p s) (within j r o t) =
    let same : k ≡ j = o.only k p.here in
    one ms (after_first is_point w) j x y (subst (StandsFor ms (after_first is_point w) x) same s) t

one_assignment : (o : Option Assignment) (a b : Assignment) → o ≡ Some a → o ≡ Some b → a ≡ b
one_assignment o a b e f = let same : Some a ≡ Some b = sym e ∙ f in cc

one_tree : (b : Body) (t u : Tree) → b ≡ type_body t → b ≡ type_body u → t ≡ u
one_tree b t u e f = let same : type_body t ≡ type_body u = sym e ∙ f in cc

pub names_sole : StandsForOne → TypesAreSole → NamesAreSole
names_sole one types ms w nesting T U a b =
    let found : a.found ≡ b.found = asks_sole one ms w a.found b.found a.asks b.asks in
    let there : slice_get (assignments_in ms b.found.«module») b.found.assignment ≡ Some a.assignment =
    subst (λ x. slice_get (assignments_in ms x.«module») x.assignment ≡ Some a.assignment) found a.is in
    let assignment : a.assignment ≡ b.assignment = one_assignment _ a.assignment b.assignment there b.is in
    let tree : a.tree ≡ b.tree = one_tree b.assignment.body a.tree b.tree (subst (λ c. c.body ≡ type_body a.tree) assignment a.body) b.body in
    let means : IsType ms nesting [] b.found.«module» b.tree T =
    subst (λ x. IsType ms nesting [] x.«module» b.tree T) found (subst (λ t. IsType ms nesting [] a.found.«module» t T) tree a.means) in
    types ms nesting [] b.found.«module» b.tree T U means b.means
