use Rattle.std.proofs.Common.{arith, ℤ, pos, ◌+ℤ◌, ◌-ℤ◌, to_z, of_z}
use Rattle.std.specs.Int.{w128}
use Rattle.std.proofs.lemmas.Int.{ints}
use Rattle.oer_units.proofs.Needed.{size_up, size_down}
use Rattle.oer_units.proofs.writing.signed_needed.Goals as goal

-- a number, as a variable of 128 bits holds it
abbrev held : ℤ → ℤ
held x = to_z w128 (of_z w128 x)

pub returns-then-z-lt0-clause-value : goal.returns-then-z-lt0-clause-value
returns-then-z-lt0-clause-value c = size_down c.args.z (held (pos 0 -ℤ held (held c.args.z +ℤ pos 1))) _ c.needed.ensures.value (omega (arith, ints)) (grind (arith, ints))

pub returns-else-z-lt0-clause-value : goal.returns-else-z-lt0-clause-value
returns-else-z-lt0-clause-value c = size_up c.args.z (held c.args.z) _ c.needed-else-z-lt0.ensures.value (omega (arith, ints)) (grind (arith, ints))
