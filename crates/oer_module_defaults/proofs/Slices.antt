-- How many elements a slice has, whatever they are seen as.
use Rattle.std.proofs.lemmas.List.{length-map}

pub ruleset slices = (length-map)
