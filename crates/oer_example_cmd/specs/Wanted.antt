-- Which value of a type is wanted.
use Rattle.std.specs.Prelude.{ℕ, Option, Some, None}
use Rattle.oer_skeleton.specs.declared.parts.Parts.{Parts}
use Rattle.oer_skeleton.specs.declared.parts.Parts.TheVariants.{All, Needed}
use Rattle.oer_example_cmd.specs.declared.wanted.Wanted.{Wanted}
use Rattle.oer_example_cmd.specs.declared.wanted.Wanted.TheVariants.{Random, Skeleton}

-- by the flag for all parts, and the seed; none where both are given
abbrev pub wanted_of : Parts → Option ℕ → Option Wanted
wanted_of parts None = Some (Skeleton parts)
wanted_of Needed (Some seed) = Some (Random seed)
wanted_of All (Some seed) = None
