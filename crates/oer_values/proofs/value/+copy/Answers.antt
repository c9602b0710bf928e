use Rattle.std.proofs.Common.{arith}
use Rattle.std.proofs.lemmas.Grind.{common_steps}
use Rattle.oer_values.proofs.Values.{values}
use Rattle.oer_values.proofs.value.+copy.Goals as goal

-- the tactic that proves each, so that no other is tried before it
pub copy-returns-in_ok-clone_in-in-Bits : goal.copy-returns-in_ok-clone_in-in-Bits
copy-returns-in_ok-clone_in-in-Bits t c = grind (arith, values)

pub copy-returns-in_ok-from_slice-in-Octets : goal.copy-returns-in_ok-from_slice-in-Octets
copy-returns-in_ok-from_slice-in-Octets t c = grind (arith, values)

pub copy-returns-in_ok-copy_unknown-in-Seq : goal.copy-returns-in_ok-copy_unknown-in-Seq
copy-returns-in_ok-copy_unknown-in-Seq t c = grind (arith, values)

pub copy-returns-in_ok-copy_values-in-List : goal.copy-returns-in_ok-copy_values-in-List
copy-returns-in_ok-copy_values-in-List t c = grind (arith, values)

pub copy-returns-in_ok-new-in-Chosen : goal.copy-returns-in_ok-new-in-Chosen
copy-returns-in_ok-new-in-Chosen t c = grind (arith, values)

pub copy-returns-in_ok-from_slice-in-Foreign : goal.copy-returns-in_ok-from_slice-in-Foreign
copy-returns-in_ok-from_slice-in-Foreign t c = grind (arith, values)

pub copy_places-loop-place-preserved : goal.copy_places-loop-place-preserved
copy_places-loop-place-preserved t c = grind (arith, common_steps)

pub copy_places-returns : goal.copy_places-returns
copy_places-returns t c = grind (arith, common_steps)

pub copy_values-loop-value-preserved : goal.copy_values-loop-value-preserved
copy_values-loop-value-preserved t c = grind (arith, common_steps)

pub copy_values-returns : goal.copy_values-returns
copy_values-returns t c = grind (arith, common_steps)
