-- Steps in which bits are read.
use Rattle.std.specs.Prelude.{ℕ, ◌-◌, ◌*◌, List, length, take, drop, Bool, leb}
use Rattle.oer_units.specs.Reader.{Reader, bind, give, group, guard}
use Rattle.oer_units.specs.Reading.{octet, with_length}
use Rattle.oer_units.specs.declared.fault.Why.TheVariants.{BitUnused, Size, UnknownAddition}
use Rattle.oer_model.specs.Bits.{all_false, bits_of, octets_for}
use Rattle.oer_model.specs.Constraints.{any_size, size_fits}
use Rattle.oer_model.specs.Limits.{addition_places}
use Rattle.oer_model.specs.SharedSteps.{unused_fits}
use Rattle.oer_model.specs.declared.size.Size as constraint

-- n bits, and any bits to the octet's end
abbrev pub fixed_bits_at : ℕ → Reader (List Bool)
fixed_bits_at n = bind (group (octets_for n)) (λ w. give (take n (bits_of w)))

-- the number of unused bits
unfoldable pub initial_octet_at : ℕ → Reader ℕ
initial_octet_at n = guard (leb 1 n) BitUnused (bind octet (λ u. guard (unused_fits n u) BitUnused (give u)))

-- the number of unused bits, where the size allows as many bits as are used
unfoldable pub sized_octet_at : constraint.Size → ℕ → Reader ℕ
sized_octet_at z n = bind (initial_octet_at n) (λ u. guard (size_fits z (8 * (n - 1) - u)) Size (give u))

-- the bits of d without the last u
abbrev pub used : ℕ → List ℕ → List Bool
used u d = take (length (bits_of d) - u) (bits_of d)

-- of the bits of d without the last u, those for the additions that are kept
abbrev pub kept_map : ℕ → List ℕ → Reader (List Bool)
kept_map u d = guard (all_false (drop addition_places (used u d))) UnknownAddition (give (take addition_places (used u d)))

-- the presence bitmap of additions, up to place 65,535
unfoldable pub addition_map_at : Reader (List Bool)
addition_map_at = with_length (λ n. bind (sized_octet_at any_size n) (λ u. bind (group (n - 1)) (kept_map u)))
