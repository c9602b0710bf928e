use Rattle.std.proofs.Common.{ap, sym, ◌∙◌}
use Rattle.oer_module_syntax.specs.Modules.{modules_of}
use Rattle.oer_modules.proofs.Readings.{text_err, text_ok}
use Rattle.oer_modules.specs.Places.{lexed_of}
use Rattle.oer_modules.specs.Texts.{library_of}
use Rattle.oer_modules.proofs.texts.Library.read.Goals as goal

pub returns-in_ok-add-in-Ok : goal.returns-in_ok-add-in-Ok
returns-in_ok-add-in-Ok c =
    text_ok c.args.text (lexed_of c.args.tokens.now) (library_of c.args.self.now) _ _ (ap (modules_of 64) (sym c.new.ensures) ∙ c.in-Ok.ensures) c.in_ok-add-in-Ok.ensures

pub returns-in-Err : goal.returns-in-Err
returns-in-Err c =
    λ not_memory. text_err c.args.text (lexed_of c.args.tokens.now) (library_of c.args.self.now) c.in-Err.fault (ap (modules_of 64) (sym c.new.ensures) ∙ c.in-Err.ensures not_memory)
