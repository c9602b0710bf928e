use Rattle.std.proofs.Common.{List, ℕ, ◌∷◌, map, string_bytes, sym, ap, ◌∙◌}
use Rattle.oer_module_options.specs.Asked.{asked_of}
use Rattle.oer_module_options.specs.Errors.{error_of as option_error_of}
use Rattle.oer_module_options.specs.Scan.{item_of, scan_of, text_of}
use Rattle.oer_modules.specs.Schemas.{schema_of_modules}
use Rattle.oer_types.specs.Schema.{the_type}
use Rattle.oer_module_cmd.specs.Errors.{error_of, options}
use Rattle.oer_module_cmd.specs.Input.{input_for, reads_input, with_input}
use Rattle.oer_module_cmd.specs.Given.{by_types, kept_words}
use Rattle.oer_module_cmd.proofs.Left.{for_any, kept}
use Rattle.oer_module_cmd.proofs.Steps.{input_stops, modules_stop, okay, options_stop, unread_by, words_go}
use Rattle.oer_module_cmd.proofs.given.given_by.Goals as goal

pub returns-in-Err-clause-exact : goal.returns-in-Err-clause-exact
returns-in-Err-clause-exact g c = for_any (g.R.Read.remaining c.args.input.now) (λ xs.
    (options (option_error_of c.in-Err.error), (λ two. options_stop c.args.program.now (scan_of c.args.scan.now) xs _ (sym c.in-Err.ensures)), c.report.ensures.line))

pub returns-in-Err-input_for-clause-exact : goal.returns-in-Err-input_for-clause-exact
returns-in-Err-input_for-clause-exact g c =
    let x = c.in-Err-input_for.ensures.exact in
    let read = ap (λ ts. input_for (map text_of ts) x.0) (sym c.deref.ensures.value) in (
      x.0,
      x.1,
      (
        error_of c.in-Err-input_for.error,
        (λ two. input_stops c.args.program.now (scan_of c.args.scan.now) x.0 (asked_of c.in-Ok.asked) _ (sym c.in-Ok.ensures) (read ∙ x.2 two)),
        c.report-in-Err-input_for.ensures.line,
      ),
    )

pub returns-in-Err-type_asked-clause-exact : goal.returns-in-Err-type_asked-clause-exact
returns-in-Err-type_asked-clause-exact g c =
    let x = c.in-Ok-input_for.ensures.exact in
    let a = c.in-Ok.asked in
    let given : List ℕ = string_bytes c.in-Ok-input_for.given in
    let read = ap (λ ts. input_for (map text_of ts) x.0) (sym c.deref.ensures.value) in
    let texts = ap (λ ts. by_types (schema_of_modules (with_input given (map text_of ts)) a.name.now a.nesting)) (sym c.deref-2.ensures.value) in
    let text = ap (λ w. by_types (schema_of_modules (with_input w (map text_of c.deref-2.result.now)) a.name.now a.nesting)) (sym c.as_str.ensures.value) in (
      x.0,
      x.1,
      (
        error_of c.in-Err-type_asked.error,
        (λ two. modules_stop c.args.program.now (scan_of c.args.scan.now) x.0 (asked_of a) given _ (sym c.in-Ok.ensures) (read ∙ x.2)
            (texts ∙ text ∙ c.in-Err-type_asked.ensures two)),
        c.report-in-Err-type_asked.ensures.line,
      ),
    )

pub returns-in-Ok-kept_words-clause-exact : goal.returns-in-Ok-kept_words-clause-exact
returns-in-Ok-kept_words-clause-exact g c =
    let x = c.in-Ok-input_for.ensures.exact in
    let a = c.in-Ok.asked in
    let p : List ℕ = c.args.program.now in
    let given : List ℕ = string_bytes c.in-Ok-input_for.given in
    let T = the_type c.in-Ok-type_asked.schema in
    let read = ap (λ ts. input_for (map text_of ts) x.0) (sym c.deref.ensures.value) in
    let texts = ap (λ ts. by_types (schema_of_modules (with_input given (map text_of ts)) a.name.now a.nesting)) (sym c.deref-2.ensures.value) in
    let text = ap (λ w. by_types (schema_of_modules (with_input w (map text_of c.deref-2.result.now)) a.name.now a.nesting)) (sym c.as_str.ensures.value) in
    let stays = ap (λ is. p ∷ kept_words (map item_of is)) (sym c.deref-3.ensures.value) in
    let go = words_go p (scan_of c.args.scan.now) x.0 (asked_of a) given T (sym c.in-Ok.ensures) (read ∙ x.2) (texts ∙ text ∙ c.in-Ok-type_asked.ensures) in
    (x.0, x.1, (go ∙ ap (okay T) (stays ∙ sym c.in-Ok-kept_words.ensures), kept (g.E.Write.contents c.args.errors.now)))

pub returns-in-Err-input_for-clause-untouched : goal.returns-in-Err-input_for-clause-untouched
returns-in-Err-input_for-clause-untouched g c none =
    c.in-Err-input_for.ensures.untouched (ap (λ ts. reads_input (map text_of ts)) c.deref.ensures.value
    ∙ unread_by (scan_of c.args.scan.now) (asked_of c.in-Ok.asked) (sym c.in-Ok.ensures) none)

pub returns-in-Err-type_asked-clause-untouched : goal.returns-in-Err-type_asked-clause-untouched
returns-in-Err-type_asked-clause-untouched g c none =
    c.in-Ok-input_for.ensures.untouched (ap (λ ts. reads_input (map text_of ts)) c.deref.ensures.value
    ∙ unread_by (scan_of c.args.scan.now) (asked_of c.in-Ok.asked) (sym c.in-Ok.ensures) none)

pub returns-in-Ok-kept_words-clause-untouched : goal.returns-in-Ok-kept_words-clause-untouched
returns-in-Ok-kept_words-clause-untouched g c none =
    c.in-Ok-input_for.ensures.untouched (ap (λ ts. reads_input (map text_of ts)) c.deref.ensures.value
    ∙ unread_by (scan_of c.args.scan.now) (asked_of c.in-Ok.asked) (sym c.in-Ok.ensures) none)

pub returns-clause-untouched : goal.returns-clause-untouched
returns-clause-untouched g c none =
    c.in-Ok-input_for.ensures.untouched (ap (λ ts. reads_input (map text_of ts)) c.deref.ensures.value
    ∙ unread_by (scan_of c.args.scan.now) (asked_of c.in-Ok.asked) (sym c.in-Ok.ensures) none)
