-- The parts of a shape are smaller.
use Rattle.std.proofs.Common.{◌≡◌, ℕ, ◌+◌, ◌*◌, ◌<◌, ◌≤◌, List, Option, Some, Vec, Global, length, get_or, arith, refl, sym, subst, rules}
use borrow.Author.Sizes.{Under, under, sizes, deeper, same_size}
use denote.Param.Weighed.{most}
use Rattle.oer_values.specs.declared.shape.Addition.{Addition}
use Rattle.oer_values.specs.declared.shape.Alt.{Alt}
use Rattle.oer_values.specs.declared.shape.Field.{Field}
use Rattle.oer_values.specs.declared.shape.Shape.{Shape, Sequence, Choice, the_lemmas}
use Rattle.oer_values.proofs.shape.Shape.TheLaws.{the_size}
use Rattle.oer_values.proofs.shape.Field.TheLaws as field
use Rattle.oer_values.proofs.shape.Addition.TheLaws as addition
use Rattle.oer_values.proofs.shape.Alt.TheLaws as alt

four_times : (m n r s t : ℕ) → r ≤ 3 → Under m n → 4 * n + s ≡ t → 4 * m + r < t
four_times m n r s t small (under h) e = omega arith

root_under : (shape : Shape) (root : Vec Field Global) (additions : Option (Vec Addition Global)) → shape ≡ Sequence root additions → Under (most (λ x. field.the_size x) root.items) (the_size shape)
root_under shape root additions e = search (rules, the_lemmas, sizes, same_size the_size)

pub fields_fall : (shape : Shape) (root : Vec Field Global) (more : Vec Addition Global) (fs : List Field) (r s t : ℕ) → shape ≡ Sequence root (Some more) → fs ≡ root.items → r ≤ 3 → 4 * the_size shape + s ≡ t → 4 * most (λ x. field.the_size x) fs + r < t
fields_fall shape root more fs r s t e is small d = subst (λ (l : List Field). 4 * most (λ x. field.the_size x) l + r < t) (sym is) (four_times _ (the_size shape) r s t small (root_under shape root (Some more) e) d)

additions_under : (shape : Shape) (root : Vec Field Global) (additions : Option (Vec Addition Global)) (more : Vec Addition Global) → shape ≡ Sequence root additions → additions ≡ Some more → Under (most (λ x. addition.the_size x) more.items) (the_size shape)
additions_under shape root additions more e f = search (rules, the_lemmas, sizes, deeper, same_size the_size)

pub additions_fall : (shape : Shape) (root : Vec Field Global) (more : Vec Addition Global) (xs : List Addition) (r s t : ℕ) → shape ≡ Sequence root (Some more) → xs ≡ more.items → r ≤ 3 → 4 * the_size shape + s ≡ t → 4 * most (λ x. addition.the_size x) xs + r < t
additions_fall shape root more xs r s t e is small d = subst (λ (l : List Addition). 4 * most (λ x. addition.the_size x) l + r < t) (sym is) (four_times _ (the_size shape) r s t small (additions_under shape root (Some more) more e refl) d)

alternatives_under : (shape : Shape) (root : Vec Alt Global) (more : Option (Vec Alt Global)) → shape ≡ Choice root more → Under (most (λ x. alt.the_size x) root.items) (the_size shape)
alternatives_under shape root more e = search (rules, the_lemmas, sizes, same_size the_size)

alternative_under : (xs : List Alt) (i : ℕ) (a : Alt) → i < length xs → a ≡ get_or xs i a → Under (the_size a.shape) (most (λ x. alt.the_size x) xs)
alternative_under xs i a less is = search (rules, the_lemmas, sizes, deeper, same_size the_size)

pub alternative_falls : (shape : Shape) (root : Vec Alt Global) (more : Option (Vec Alt Global)) (xs : List Alt) (i : ℕ) (a : Alt) (r s t : ℕ) → shape ≡ Choice root more → xs ≡ root.items → i < length xs → a ≡ get_or xs i a → r ≤ 3 → 4 * the_size shape + s ≡ t → 4 * the_size a.shape + r < t
alternative_falls shape root more xs i a r s t e is less at small d = four_times _ (the_size shape) r s t small (both_under (alternative_under xs i a less at) (subst (λ (l : List Alt). Under (most (λ x. alt.the_size x) l) (the_size shape)) (sym is) (alternatives_under shape root more e))) d
  where
    both_under : {m n k : ℕ} → Under m n → Under n k → Under m k
    both_under (under h) (under g) = under (omega arith)

later_under : (shape : Shape) (root : Vec Alt Global) (more : Option (Vec Alt Global)) (later : Vec Alt Global) → shape ≡ Choice root more → more ≡ Some later → Under (most (λ x. alt.the_size x) later.items) (the_size shape)
later_under shape root more later e f = search (rules, the_lemmas, sizes, deeper, same_size the_size)

pub later_fall : (shape : Shape) (root : Vec Alt Global) (more : Option (Vec Alt Global)) (later : Vec Alt Global) (ys : List Alt) (r s t : ℕ) → shape ≡ Choice root more → more ≡ Some later → ys ≡ later.items → r ≤ 3 → 4 * the_size shape + s ≡ t → 4 * most (λ x. alt.the_size x) ys + r < t
later_fall shape root more later ys r s t e some is small d = subst (λ (l : List Alt). 4 * most (λ x. alt.the_size x) l + r < t) (sym is) (four_times _ (the_size shape) r s t small (later_under shape root more later e some) d)
