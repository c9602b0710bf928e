use Rattle.std.proofs.Common.{◌∙◌, ap}
use Rattle.std.proofs.lemmas.Int.{to_z-of_z}
use Rattle.std.specs.Int.{w128}
use Rattle.oer_module_parts.specs.Numbering.{is_among}
use Rattle.oer_module_parts.proofs.numbering.is_among.Goals as goal

pub returns : goal.returns
unfolding is_among
returns c = c.contains.ensures ∙ ap (λ n. is_among n c.args.numbers.now.keys) (to_z-of_z w128 c.args.number c.ranges.number)
