-- Types and values, level by level.
use Rattle.oer_values.proofs.Shapes.{shapes}
use Rattle.oer_values.proofs.Values.{values}

pub ruleset levels = (shapes, values)
