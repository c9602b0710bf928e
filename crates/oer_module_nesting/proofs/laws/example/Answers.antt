use Rattle.oer_module_nesting.proofs.Example.{once, twice}
use Rattle.oer_module_nesting.proofs.laws.example.Goals as goal

pub returns-clause-once : goal.returns-clause-once
returns-clause-once c = once

pub returns-clause-twice : goal.returns-clause-twice
returns-clause-twice c = twice
