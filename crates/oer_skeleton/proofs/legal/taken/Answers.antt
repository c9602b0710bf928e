use Rattle.std.proofs.Common.{◌∙◌, ap}
use Rattle.std.proofs.lemmas.List.{drop_all}
use Rattle.oer_skeleton.specs.Seen.{first_taken}
use Rattle.oer_skeleton.proofs.Taken.{is_one_taken}
use Rattle.oer_skeleton.proofs.legal.taken.Goals as goal

pub unreachable-requires : goal.unreachable-requires
unreachable-requires c =
    let xs = c.args.root.now in
    let none = rw (drop_all c.loop-alt.alt-index xs c.loop-alt-test.false) at c.loop-alt.invariant in
    is_one_taken xs c.requires (none ∙ ap (λ b. first_taken b xs) c.any_legal-any.ensures)
