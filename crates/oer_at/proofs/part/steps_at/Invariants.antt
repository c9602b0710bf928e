use Rattle.std.proofs.Common.{◌≡◌, Some, drop, map, take}
use Rattle.oer_model.specs.Parts.{find_part, go_on}
use Rattle.oer_parts.specs.Encoding.{type_of_encoding}
use Rattle.oer_parts.specs.Walk.{path_of}
use Rattle.oer_at.specs.Finding.{find_at, octets_at_front}
use Rattle.oer_at.specs.Meaning.{step_behind}
use Rattle.oer_at.proofs.part.steps_at.Given as goal

-- what the path leads to, and what is found there by the hops that are left; and the steps of the hops so far
abbrev pub invariant-loop-hop : goal.invariant-loop-hop
invariant-loop-hop l = record {
  found : find_at (Some (type_of_encoding l.encoding)) (octets_at_front l.encoding) l.hops
      ≡ go_on (find_part (Some (type_of_encoding l.encoding)) (octets_at_front l.encoding) (path_of l.path.items)) (λ V c. find_at V c (drop l.hop-index l.hops));
  steps : path_of l.path.items ≡ map step_behind (take l.hop-index l.hops);
}
