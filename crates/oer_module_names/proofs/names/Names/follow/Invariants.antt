use Rattle.std.proofs.Common.{◌≡◌, ◌<◌, ◌-◌, length}
use Rattle.oer_module_names.specs.Finding.{follow}
use Rattle.oer_module_names.specs.Views.{modules_in}
use Rattle.oer_module_names.proofs.names.Names.follow.Given as goal

-- the turns that are left find the same
abbrev pub invariant-loop-turn : goal.invariant-loop-turn
invariant-loop-turn l = record {
  same : follow (modules_in l.self) l.name (length (modules_in l.self)) l.fn.start ≡ follow (modules_in l.self) l.name (length (modules_in l.self) - l.turn) l.way;
  within : l.way.«module» < length (modules_in l.self);
}
