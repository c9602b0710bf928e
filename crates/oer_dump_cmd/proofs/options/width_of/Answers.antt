use Rattle.std.proofs.Common.{sym, subst, codes}
use Rattle.std.specs.Str.Parse.{ParsesUnsigned, ExplainsUnsignedError, HasUnsignedDigitsIfOk}
use Rattle.clap.specs.Words.{found_of, one_text}
use Rattle.oer_dump_cmd.specs.Words.{IsWidth}
use Rattle.oer_dump_cmd.proofs.Asked.{width_read}
use Rattle.oer_dump_cmd.proofs.options.width_of.Goals as goal

pub returns : goal.returns
returns c =
    let text = one_text (found_of c.args.found.now) (codes "width") in
    let width = width_read c.args.usual text c.get_one.result
    (λ bs r. ParsesUnsigned 64 10 bs r × ExplainsUnsignedError 10 bs r × HasUnsignedDigitsIfOk bs r) (λ t x g. g.0) c.get_one.ensures.none
    c.get_one.ensures.value in
    subst (IsWidth c.args.usual text) (sym c.unwrap_or.ensures) width
