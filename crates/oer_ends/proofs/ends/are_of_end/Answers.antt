use Rattle.std.proofs.Common.{◌≡◌, ◌≤◌, List, [], ◌∷◌, length, false, refl, sym, arith}
use Rattle.oer_model.specs.AsnType.{no_alternatives}
use Rattle.oer_values.specs.ShapeView.{root_of}
use Rattle.oer_values.specs.declared.shape.Alt.{Alt}
use Rattle.oer_ends.specs.Ends.{are_of_end}
use Rattle.oer_ends.proofs.ends.are_of_end.Goals as goal

-- two alternatives or more are of no end
several : (xs : List Alt) → 2 ≤ length xs → are_of_end (root_of xs no_alternatives) ≡ false
several [] two = absurd (omega (arith, two))
several (x ∷ []) two = absurd (omega (arith, two))
several (x ∷ y ∷ xs) two = refl

pub returns-in-len2-up : goal.returns-in-len2-up
returns-in-len2-up c = sym (several c.args.root.now c.in-len2-up.len_at_least)
