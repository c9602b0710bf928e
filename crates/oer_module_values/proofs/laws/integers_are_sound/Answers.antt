use Rattle.oer_module_values.specs.Numbers.{bare}
use Rattle.oer_module_values.proofs.Denoted.{counted}
use Rattle.oer_module_values.proofs.laws.integers_are_sound.Goals as goal

pub returns : goal.returns
returns c = λ ms p a z h. counted ms (record { place = p; governor = bare p.«module»; amount = a }) z h
