-- A sink with room for a few octets.
use Rattle.std.specs.Prelude.{ℕ, List, take, Option, Some}
use Rattle.oer_writer.specs.declared.small.Small.{Small}

-- the octets that it took
abbrev pub gathered : Small → Option (List ℕ)
gathered s = Some (take s.at s.octets)
