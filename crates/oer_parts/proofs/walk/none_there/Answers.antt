use Rattle.std.proofs.Common.{◌≡◌, ◌∙◌, length, rules, sym}
use Rattle.oer_checker.specs.BitView.{bits_in}
use Rattle.oer_parts.proofs.Zeros.{none_clear}
use Rattle.oer_parts.proofs.walk.none_there.Goals as goal

pub returns-then-count-most : goal.returns-then-count-most
returns-then-count-most c = λ e.
    let each : c.args.count ≡ length c.args.fields.now = search rules in
    none_clear c.args.fields.now (bits_in c.args.bits) (sym c.requires ∙ each) (c.are_clear.ensures e)
