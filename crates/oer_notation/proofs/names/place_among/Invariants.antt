use Rattle.std.proofs.Common.{◌≡◌, ◌+◌, map, drop, string_bytes, option_map}
use Rattle.oer_notation.specs.Places.{place_in}
use Rattle.oer_notation.proofs.names.place_among.Given as goal

-- the Name isn't among those before
abbrev pub invariant-loop-place : goal.invariant-loop-place
invariant-loop-place l = place_in (map string_bytes l.names) l.name ≡ option_map (λ k. l.place + k) (place_in (map string_bytes (drop l.place l.names)) l.name)
