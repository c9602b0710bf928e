use Rattle.std.proofs.Common.{map, string_bytes, sym, ◌∙◌}
use Rattle.oer_module_options.specs.Scan.{text_of}
use Rattle.oer_module_cmd.proofs.Left.{for_any, unread}
use Rattle.oer_module_cmd.proofs.input.input_for.Goals as goal

pub returns-clause-exact : goal.returns-clause-exact
returns-clause-exact g c = for_any (g.R.Read.remaining c.args.input.now)
    (λ xs. unread (map text_of c.args.texts.now) xs (string_bytes c.new.result) (sym c.reads_input.ensures ∙ c.if-reads_input.false) c.new.ensures.bytes)
