-- Octets in memory.
use Rattle.std.specs.Prelude.{ℕ, List}
use Rattle.oer_decoder.specs.declared.octets.Octets.{Octets}

-- those that were gathered
abbrev pub gathered : Octets → List ℕ
gathered o = o.held.items

-- how many calls failed
abbrev pub failures_of : Octets → ℕ
failures_of o = o.failures
