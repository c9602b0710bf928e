-- The parts of a shape are smaller.
use Rattle.std.proofs.Common.{◌≡◌, ℕ, ◌+◌, ◌*◌, ◌<◌, Option, Some, Vec, Global, arith, sym, rules}
use borrow.Author.Sizes.{Under, under, sizes, deeper, same_size}
use denote.Param.Weighed.{most}
use Rattle.oer_values.specs.declared.shape.Addition.{Addition}
use Rattle.oer_values.specs.declared.shape.Alt.{Alt}
use Rattle.oer_values.specs.declared.shape.Field.{Field}
use Rattle.oer_values.specs.declared.shape.Shape.{Shape, Sequence, Choice, the_lemmas}
use Rattle.oer_values.proofs.shape.Shape.TheLaws.{the_size}
use Rattle.oer_values.proofs.shape.Field.TheLaws as field
use Rattle.oer_values.proofs.shape.Addition.TheLaws as addition
use Rattle.oer_values.proofs.shape.Alt.TheLaws as alt

thrice : (m n t : ℕ) → Under m n → t ≡ 3 * n + 0 → 3 * m + 2 < t
thrice m n t (under h) e = omega arith

root_under : (shape : Shape) (root : Vec Field Global) (additions : Option (Vec Addition Global)) → shape ≡ Sequence root additions → Under (most (λ x. field.the_size x) root.items) (the_size shape)
root_under shape root additions e = search (rules, the_lemmas, sizes, same_size the_size)

pub fields_fall : (shape : Shape) (root : Vec Field Global) (additions : Option (Vec Addition Global)) (t : ℕ) → shape ≡ Sequence root additions → 3 * the_size shape + 0 ≡ t → 3 * most (λ x. field.the_size x) root.items + 2 < t
fields_fall shape root additions t e d = thrice _ (the_size shape) t (root_under shape root additions e) (sym d)

additions_under : (shape : Shape) (root : Vec Field Global) (additions : Option (Vec Addition Global)) (more : Vec Addition Global) → shape ≡ Sequence root additions → additions ≡ Some more → Under (most (λ x. addition.the_size x) more.items) (the_size shape)
additions_under shape root additions more e f = search (rules, the_lemmas, sizes, deeper, same_size the_size)

pub additions_fall : (shape : Shape) (root : Vec Field Global) (additions : Option (Vec Addition Global)) (more : Vec Addition Global) (t : ℕ) → shape ≡ Sequence root additions → additions ≡ Some more → 3 * the_size shape + 0 ≡ t → 3 * most (λ x. addition.the_size x) more.items + 2 < t
additions_fall shape root additions more t e f d = thrice _ (the_size shape) t (additions_under shape root additions more e f) (sym d)

later_under : (shape : Shape) (root : Vec Alt Global) (additions : Option (Vec Alt Global)) (more : Vec Alt Global) → shape ≡ Choice root additions → additions ≡ Some more → Under (most (λ x. alt.the_size x) more.items) (the_size shape)
later_under shape root additions more e f = search (rules, the_lemmas, sizes, deeper, same_size the_size)

pub later_fall : (shape : Shape) (root : Vec Alt Global) (additions : Option (Vec Alt Global)) (more : Vec Alt Global) (t : ℕ) → shape ≡ Choice root additions → additions ≡ Some more → 3 * the_size shape + 0 ≡ t → 3 * most (λ x. alt.the_size x) more.items + 2 < t
later_fall shape root additions more t e f d = thrice _ (the_size shape) t (later_under shape root additions more e f) (sym d)
