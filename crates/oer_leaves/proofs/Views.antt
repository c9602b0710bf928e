-- What shapes and values stand for, level by level.
use Rattle.oer_values.proofs.Shapes.{shapes}
use Rattle.oer_values.proofs.Values.{values}

pub ruleset views = (shapes, values)
