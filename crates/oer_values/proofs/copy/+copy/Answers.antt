use Rattle.std.proofs.Common.{arith}
use Rattle.std.proofs.lemmas.Grind.{common_steps}
use Rattle.oer_values.proofs.Shapes.{shapes}
use Rattle.oer_values.proofs.copy.+copy.Goals as goal

-- the tactic that proves each, so that no other is tried before it
pub copy-returns-in-Boolean : goal.copy-returns-in-Boolean
copy-returns-in-Boolean t c = grind (arith, shapes)

pub copy-returns-in-Null : goal.copy-returns-in-Null
copy-returns-in-Null t c = grind (arith, shapes)

pub copy-returns-in-Integer : goal.copy-returns-in-Integer
copy-returns-in-Integer t c = grind (arith, shapes)

pub copy-returns-in_ok-copy_items-in-Enumerated : goal.copy-returns-in_ok-copy_items-in-Enumerated
copy-returns-in_ok-copy_items-in-Enumerated t c = grind (arith, shapes)

pub copy-returns-in-ObjectId : goal.copy-returns-in-ObjectId
copy-returns-in-ObjectId t c = grind (arith, shapes)

pub copy-returns-in-BitString : goal.copy-returns-in-BitString
copy-returns-in-BitString t c = grind (arith, shapes)

pub copy-returns-in-OctetString : goal.copy-returns-in-OctetString
copy-returns-in-OctetString t c = grind (arith, shapes)

pub copy-returns-in-Ia5 : goal.copy-returns-in-Ia5
copy-returns-in-Ia5 t c = grind (arith, shapes)

pub copy-returns-in-Visible : goal.copy-returns-in-Visible
copy-returns-in-Visible t c = grind (arith, shapes)

pub copy-returns-in-Numeric : goal.copy-returns-in-Numeric
copy-returns-in-Numeric t c = grind (arith, shapes)

pub copy-returns-in-Printable : goal.copy-returns-in-Printable
copy-returns-in-Printable t c = grind (arith, shapes)

pub copy-returns-in-Utf8 : goal.copy-returns-in-Utf8
copy-returns-in-Utf8 t c = grind (arith, shapes)

pub copy-returns-in_ok-new-in-SequenceOf : goal.copy-returns-in_ok-new-in-SequenceOf
copy-returns-in_ok-new-in-SequenceOf t c = grind (arith, shapes)

pub copy_additions-loop-addition-preserved : goal.copy_additions-loop-addition-preserved
copy_additions-loop-addition-preserved t c = grind (arith, common_steps)

pub copy_additions-returns : goal.copy_additions-returns
copy_additions-returns t c = grind (arith, common_steps)

pub copy_alternatives-loop-alt-preserved : goal.copy_alternatives-loop-alt-preserved
copy_alternatives-loop-alt-preserved t c = grind (arith, common_steps)

pub copy_alternatives-returns : goal.copy_alternatives-returns
copy_alternatives-returns t c = grind (arith, common_steps)

pub copy_fields-loop-field-preserved : goal.copy_fields-loop-field-preserved
copy_fields-loop-field-preserved t c = grind (arith, common_steps)

pub copy_fields-returns : goal.copy_fields-returns
copy_fields-returns t c = grind (arith, common_steps)
