use Rattle.std.proofs.Common.{arith, ap, sym, ◌∙◌, slice_get}
use Rattle.oer_module_names.proofs.Readings.{item_read}
use Rattle.oer_module_syntax.specs.Tree.{module_of}
use Rattle.oer_module_tags.proofs.header.module_at.Goals as goal

pub returns : goal.returns
returns c =
    ap (λ ms. slice_get ms c.args.«module») (sym c.modules.ensures.value)
    ∙ item_read module_of c.modules.result.now c.args.«module» c.index-modules-module.result
    (omega (arith, c.requires, c.modules.ensures.len)) c.index-modules-module.is
