-- What shapes and values stand for, level by level.
use Rattle.oer_values.proofs.Shapes.{shapes}

pub ruleset levels = (shapes)
