use Rattle.std.proofs.Common.{map, false, true, sym, ap, refl, ◌∙◌}
use Rattle.oer_cmd.specs.Ending.{Streams}
use Rattle.oer_cmd.specs.Expected.{refusal, value}
use Rattle.oer_module_cmd.specs.Errors.{options}
use Rattle.oer_module_cmd.specs.declared.error.Error.TheVariants as error
use Rattle.oer_module_options.specs.Asked.{listing_of}
use Rattle.oer_module_options.specs.Errors.{error_of}
use Rattle.oer_module_options.specs.Scan.{item_of, scan_of}
use Rattle.oer_types_cmd.specs.Asking.{asks_for_help}
use Rattle.oer_types_cmd.specs.Stops.{by_error}
use Rattle.oer_types_cmd.specs.declared.help.TheConstants.{HELP as the_help}
use Rattle.oer_types_cmd.specs.declared.stop.Stop.TheVariants as raw
use Rattle.oer_types_cmd.proofs.Ends.{kept, not_between, printed_end, told_end}
use Rattle.oer_types_cmd.proofs.Scans.{help_ends, help_printed, helped_unread, listing_ends, listing_printed, read_by, rejected_ends, rejected_unread}
use Rattle.oer_types_cmd.proofs.types.run_scanned.Goals as goal

pub returns-then-asks_for_help-clause-quiet : goal.returns-then-asks_for_help-clause-quiet
returns-then-asks_for_help-clause-quiet g c = λ some small. absurd (not_between c.print.result c.print.ensures.failed some small)

pub returns-then-asks_for_help-clause-printed : goal.returns-then-asks_for_help-clause-printed
returns-then-asks_for_help-clause-printed g c = λ zero.
    let asks = ap (λ is. asks_for_help (map item_of is)) (sym c.deref.ensures.value) ∙ sym c.asks_for_help.ensures ∙ c.if-asks_for_help.true in
    help_printed the_help.now (g.R.Read.remaining c.args.input.now) (scan_of c.args.scan.now) (g.W.Write.contents c.args.output.now) _ asks
    (c.print.ensures.printed zero)

pub returns-then-asks_for_help-clause-exact : goal.returns-then-asks_for_help-clause-exact
returns-then-asks_for_help-clause-exact g c =
    let asks = ap (λ is. asks_for_help (map item_of is)) (sym c.deref.ensures.value) ∙ sym c.asks_for_help.ensures ∙ c.if-asks_for_help.true in
    let s : Streams = record {
      output = g.W.Write.contents c.args.output.now;
      output' = g.W.Write.contents c.print.new.output;
      errors = g.E.Write.contents c.args.errors.now;
      errors' = g.E.Write.contents c.print.new.errors;
    } in
    help_ends the_help.now (scan_of c.args.scan.now) (g.R.Read.remaining c.args.input.now) c.print.result s asks
    (printed_end (value the_help.now) the_help.now c.print.result s refl c.print.ensures.printed c.print.ensures.alone
    c.print.ensures.failed c.print.ensures.front c.print.ensures.machine)

pub returns-then-asks_for_help-clause-takes : goal.returns-then-asks_for_help-clause-takes
returns-then-asks_for_help-clause-takes g c = λ yes.
    let asks = ap (λ is. asks_for_help (map item_of is)) (sym c.deref.ensures.value) ∙ sym c.asks_for_help.ensures ∙ c.if-asks_for_help.true in
    absurd (helped_unread (scan_of c.args.scan.now) asks yes)

pub returns-in-Ok-clause-printed : goal.returns-in-Ok-clause-printed
returns-in-Ok-clause-printed g c = λ zero.
    let asks = ap (λ is. asks_for_help (map item_of is)) (sym c.deref.ensures.value) ∙ sym c.asks_for_help.ensures ∙ c.if-asks_for_help.false in
    let told = g.R.Read.remaining c.args.input.now in
    let l = listing_of c.in-Ok.listing in
    listing_printed the_help.now told (scan_of c.args.scan.now) (g.W.Write.contents c.args.output.now) _ l asks (sym c.in-Ok.ensures)
    (c.print_listing.ensures.printed zero)

pub returns-in-Ok-clause-exact : goal.returns-in-Ok-clause-exact
returns-in-Ok-clause-exact g c =
    let asks = ap (λ is. asks_for_help (map item_of is)) (sym c.deref.ensures.value) ∙ sym c.asks_for_help.ensures ∙ c.if-asks_for_help.false in
    let told = g.R.Read.remaining c.args.input.now in
    let l = listing_of c.in-Ok.listing in
    let s : Streams = record {
      output = g.W.Write.contents c.args.output.now;
      output' = g.W.Write.contents c.print_listing.new.output;
      errors = g.E.Write.contents c.args.errors.now;
      errors' = g.E.Write.contents c.print_listing.new.errors;
    } in
    listing_ends the_help.now (scan_of c.args.scan.now) told c.print_listing.result s l asks (sym c.in-Ok.ensures) c.print_listing.ensures.exact

pub returns-in-Ok-clause-untouched : goal.returns-in-Ok-clause-untouched
returns-in-Ok-clause-untouched g c = λ none.
    let asks = ap (λ is. asks_for_help (map item_of is)) (sym c.deref.ensures.value) ∙ sym c.asks_for_help.ensures ∙ c.if-asks_for_help.false in
    c.print_listing.ensures.untouched (read_by (scan_of c.args.scan.now) (listing_of c.in-Ok.listing) false asks (sym c.in-Ok.ensures) none)

pub returns-in-Ok-clause-takes : goal.returns-in-Ok-clause-takes
returns-in-Ok-clause-takes g c = λ yes.
    let asks = ap (λ is. asks_for_help (map item_of is)) (sym c.deref.ensures.value) ∙ sym c.asks_for_help.ensures ∙ c.if-asks_for_help.false in
    c.print_listing.ensures.takes (read_by (scan_of c.args.scan.now) (listing_of c.in-Ok.listing) true asks (sym c.in-Ok.ensures) yes)

pub returns-in-Err-clause-exact : goal.returns-in-Err-clause-exact
returns-in-Err-clause-exact g c =
    let asks = ap (λ is. asks_for_help (map item_of is)) (sym c.deref.ensures.value) ∙ sym c.asks_for_help.ensures ∙ c.if-asks_for_help.false in
    let e = error_of c.in-Err.error in
    let s : Streams = record {
      output = g.W.Write.contents c.args.output.now;
      output' = g.W.Write.contents c.args.output.now;
      errors = g.E.Write.contents c.args.errors.now;
      errors' = g.E.Write.contents c.tell.new.errors;
    } in
    rejected_ends the_help.now (scan_of c.args.scan.now) (g.R.Read.remaining c.args.input.now) c.tell.result s e asks (sym c.in-Err.ensures)
    (told_end (refusal (by_error (options e))) (raw.Modules (error.Options c.in-Err.error)) c.tell.result s (λ small. refl)
    c.tell.ensures.status c.tell.ensures.line c.tell.ensures.machine c.tell.ensures.most (kept (g.W.Write.contents c.args.output.now)))

pub returns-in-Err-clause-takes : goal.returns-in-Err-clause-takes
returns-in-Err-clause-takes g c = λ yes.
    let asks = ap (λ is. asks_for_help (map item_of is)) (sym c.deref.ensures.value) ∙ sym c.asks_for_help.ensures ∙ c.if-asks_for_help.false in
    absurd (rejected_unread (scan_of c.args.scan.now) (error_of c.in-Err.error) asks (sym c.in-Err.ensures) yes)
