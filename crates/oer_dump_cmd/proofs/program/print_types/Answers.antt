use Rattle.std.proofs.Common.{◌≡◌, true, false, arith, codes}
use Rattle.std.proofs.lemmas.Grind.{common_steps}
use Rattle.std.proofs.lemmas.Result.{err_from_is_err_and}
use Rattle.std.specs.Str.{bytes_eq}
use Rattle.oer_options.specs.Words.{behind}
use Rattle.oer_cmd.specs.Answer.{checked}
use Rattle.oer_cmd.specs.Types.{texts_at}
use Rattle.oer_cmd.specs.declared.type_text.TypeText.TheVariants.{Named}
use Rattle.oer_dump_cmd.specs.Showing.{Displays, Shows, judged_octets, octets_at}
use Rattle.oer_dump_cmd.proofs.Shown.{both, displays, shows}
use Rattle.oer_dump_cmd.proofs.TypesRead.{lost_shown, own_one, own_shown, read_one, read_shown}
use Rattle.oer_dump_cmd.proofs.program.print_types.Goals as goal

pub returns-then-ne-clause-shown : goal.returns-then-ne-clause-shown
returns-then-ne-clause-shown g c =
    let own : bytes_eq c.args.types.now (codes "-") ≡ false = grind (arith, common_steps) in
    own_shown Shows (judged_octets (behind c.args.options.hex) c.args.options.limit (g.R.Read.remaining c.args.input.now)) (texts_at (Named c.args.types c.args.name))
    (behind c.args.options.hex) (g.R.Read.remaining c.args.input.now) c.print_named.result own c.print_named.ensures.shown

pub returns-then-ne-clause-displayed : goal.returns-then-ne-clause-displayed
returns-then-ne-clause-displayed g c =
    let own : bytes_eq c.args.types.now (codes "-") ≡ false = grind (arith, common_steps) in
    own_shown (λ m r. Displays c.args.options.form m r (g.W.Write.contents c.args.output.now) (g.W.Write.contents c.print_named.new.output)) (octets_at
    (behind c.args.options.hex) c.args.options.limit (g.R.Read.remaining c.args.input.now)) (texts_at (Named c.args.types c.args.name)) (behind c.args.options.hex)
    (g.R.Read.remaining c.args.input.now) c.print_named.result own c.print_named.ensures.displayed

pub returns-then-ne-clause-accepted : goal.returns-then-ne-clause-accepted
returns-then-ne-clause-accepted g c =
    let own : bytes_eq c.args.types.now (codes "-") ≡ false = grind (arith, common_steps) in
    own_one (texts_at (Named c.args.types c.args.name)) (behind c.args.options.hex) c.args.options.limit
    (g.R.Read.remaining c.args.input.now) c.print_named.result own c.print_named.ensures.accepted

pub returns-in_err-text-clause-shown : goal.returns-in_err-text-clause-shown
returns-in_err-text-clause-shown g c =
    let p = err_from_is_err_and c.from_residual.result c.from_residual.ensures.1 in
    let mark : bytes_eq c.args.types.now (codes "-") ≡ true = grind (arith, common_steps) in
    rw (p.1, p.2) (lost_shown Shows shows (judged_octets (behind c.args.options.hex) c.args.options.limit
    (g.R.Read.remaining c.args.input.now)) c.args.types.now c.args.name.now (behind c.args.options.hex)
    (g.R.Read.remaining c.args.input.now) _ mark c.in_err-text.ensures.exact)

pub returns-in_err-text-clause-displayed : goal.returns-in_err-text-clause-displayed
returns-in_err-text-clause-displayed g c =
    let p = err_from_is_err_and c.from_residual.result c.from_residual.ensures.1 in
    let mark : bytes_eq c.args.types.now (codes "-") ≡ true = grind (arith, common_steps) in
    rw (p.1, p.2) (lost_shown (λ m r. Displays c.args.options.form m r (g.W.Write.contents c.args.output.now) (g.W.Write.contents c.args.output.now))
    (displays c.args.options.form (g.W.Write.contents c.args.output.now) (g.W.Write.contents c.args.output.now))
    (octets_at (behind c.args.options.hex) c.args.options.limit (g.R.Read.remaining c.args.input.now)) c.args.types.now c.args.name.now (behind c.args.options.hex)
    (g.R.Read.remaining c.args.input.now) _ mark c.in_err-text.ensures.exact)

pub returns-clause-shown : goal.returns-clause-shown
returns-clause-shown g c =
    let mark : bytes_eq c.args.types.now (codes "-") ≡ true = grind (arith, common_steps) in
    read_shown Shows shows checked c.args.types.now c.args.name.now _ c.in_ok-text.text (behind c.args.options.hex) c.args.options.limit
    (g.R.Read.remaining c.args.input.now) _ c.print_named-2.result
    mark c.as_str.ensures.value c.in_ok-text.ensures.exact c.print_named-2.ensures.shown

pub returns-clause-displayed : goal.returns-clause-displayed
returns-clause-displayed g c =
    let mark : bytes_eq c.args.types.now (codes "-") ≡ true = grind (arith, common_steps) in
    read_shown (λ m r. Displays c.args.options.form m r (g.W.Write.contents c.args.output.now) (g.W.Write.contents c.print_named-2.new.output))
    (displays c.args.options.form (g.W.Write.contents c.args.output.now) (g.W.Write.contents c.print_named-2.new.output))
    both c.args.types.now c.args.name.now _ c.in_ok-text.text (behind c.args.options.hex) c.args.options.limit (g.R.Read.remaining c.args.input.now) _ c.print_named-2.result
    mark c.as_str.ensures.value c.in_ok-text.ensures.exact c.print_named-2.ensures.displayed

pub returns-clause-accepted : goal.returns-clause-accepted
returns-clause-accepted g c =
    let mark : bytes_eq c.args.types.now (codes "-") ≡ true = grind (arith, common_steps) in
    read_one c.args.types.now c.args.name.now _ c.in_ok-text.text (behind c.args.options.hex) c.args.options.limit (g.R.Read.remaining c.args.input.now) _ c.print_named-2.result
    mark c.as_str.ensures.value c.in_ok-text.ensures.exact c.print_named-2.ensures.accepted
