use Rattle.std.proofs.Common.{◌≡◌, ◌∙◌, List, ℕ, Ok, Err, String, Global, ap, arith, map, string_bytes, sym, subst}
use Rattle.std.specs.Borrow.{Bor}
use Rattle.oer_cmd.specs.Ending.{MayPrint}
use Rattle.oer_cmd.proofs.Meeting.{bytes}
use Rattle.oer_module_cmd.specs.Input.{reads_input}
use Rattle.oer_module_options.specs.Asked.{listing_of}
use Rattle.oer_module_options.specs.Scan.{text_of}
use Rattle.oer_types_cmd.specs.Answer.{Meets, given_for, listing_answer, printed_of}
use Rattle.oer_types_cmd.specs.Asking.{texts_of}
use Rattle.oer_types_cmd.specs.Ending.{IsGiven}
use Rattle.oer_types_cmd.specs.Stops.{stop_of}
use Rattle.oer_types_cmd.proofs.Ends.{kept, may_print, not_between, printed_end, told_end}
use Rattle.oer_types_cmd.proofs.Inputs.{text_later}
use Rattle.oer_types_cmd.proofs.Meeting.{is_printed, listed, printable, unlisted}
use Rattle.oer_types_cmd.proofs.types.print_listing.Goals as goal

-- ---- no text is given

pub returns-in-Err-clause-exact : goal.returns-in-Err-clause-exact
returns-in-Err-clause-exact g c =
    let told = g.R.Read.remaining c.args.input.now in
    let l = listing_of c.args.listing in
    let ts : List (List ℕ) = map text_of c.args.scan.now.modules.items in
    let none = subst (λ (us : List (Bor (List ℕ))). Meets {X = String Global} bytes (given_for l (map text_of us) told) (Err c.in-Err.stop))
    c.deref.ensures.value c.in-Err.ensures.exact in
    told_end (listing_answer l ts told) c.in-Err.stop c.tell.result _ (unlisted told l ts c.in-Err.stop none)
    c.tell.ensures.status c.tell.ensures.line c.tell.ensures.machine c.tell.ensures.most (kept (g.W.Write.contents c.args.output.now))

pub returns-in-Err-clause-untouched : goal.returns-in-Err-clause-untouched
returns-in-Err-clause-untouched g c = λ none.
    let l = listing_of c.args.listing in
    c.in-Err.ensures.untouched (ap (λ us. reads_input (texts_of l (map text_of us))) c.deref.ensures.value ∙ none)

pub returns-in-Err-clause-takes : goal.returns-in-Err-clause-takes
returns-in-Err-clause-takes g c = λ yes.
    let l = listing_of c.args.listing in
    text_later ((stop_of c.in-Err.stop).status) c.tell.result _ _
    (λ small. let same = c.tell.ensures.status small in omega (arith, same, small))
    (c.in-Err.ensures.takes (ap (λ us. reads_input (texts_of l (map text_of us))) c.deref.ensures.value ∙ yes))

-- ---- one is printed

pub returns-in-Ok-listing_text-clause-quiet : goal.returns-in-Ok-listing_text-clause-quiet
returns-in-Ok-listing_text-clause-quiet g c = λ some small. absurd (not_between c.print.result c.print.ensures.failed some small)

pub returns-in-Ok-listing_text-clause-printed : goal.returns-in-Ok-listing_text-clause-printed
returns-in-Ok-listing_text-clause-printed g c = λ zero.
    let told = g.R.Read.remaining c.args.input.now in
    let l = listing_of c.args.listing in
    let ts : List (List ℕ) = map text_of c.args.scan.now.modules.items in
    let given : List ℕ = string_bytes c.in-Ok.given in
    let text : List ℕ = string_bytes c.in-Ok-listing_text.text in
    let read = subst (λ (us : List (Bor (List ℕ))). IsGiven told (texts_of l (map text_of us)) given) c.deref.ensures.value c.in-Ok.ensures.given in
    let made = subst (λ (us : List (Bor (List ℕ))). printed_of l (map text_of us) c.as_str.result.now ≡ printable text) c.deref-2.ensures.value
    (is_printed l (map text_of c.deref-2.result.now) c.as_str.result.now c.in-Ok-listing_text.text c.in-Ok-listing_text.ensures) in
    let is = subst (λ (w : List ℕ). printed_of l ts w ≡ printable text) c.as_str.ensures.value made in (
      given,
      c.as_str-in-Ok-listing_text.result.now,
      read,
      is ∙ ap printable (sym c.as_str-in-Ok-listing_text.ensures.value),
      c.print.ensures.printed zero,
    )

pub returns-in-Ok-listing_text-clause-exact : goal.returns-in-Ok-listing_text-clause-exact
returns-in-Ok-listing_text-clause-exact g c =
    let told = g.R.Read.remaining c.args.input.now in
    let l = listing_of c.args.listing in
    let ts : List (List ℕ) = map text_of c.args.scan.now.modules.items in
    let m = listing_answer l ts told in
    let read = subst (λ (us : List (Bor (List ℕ))). Meets bytes (given_for l (map text_of us) told) (Ok c.in-Ok.given)) c.deref.ensures.value
    c.in-Ok.ensures.exact in
    let made = subst (λ (us : List (Bor (List ℕ))). Meets bytes (printed_of l (map text_of us) c.as_str.result.now) (Ok c.in-Ok-listing_text.text))
    c.deref-2.ensures.value c.in-Ok-listing_text.ensures in
    let met = listed told l ts c.in-Ok.given c.as_str.result.now (Ok c.in-Ok-listing_text.text) read c.as_str.ensures.value made in
    printed_end m c.as_str-in-Ok-listing_text.result.now c.print.result _
    (subst (λ (w : List ℕ). MayPrint m w) (sym c.as_str-in-Ok-listing_text.ensures.value) (may_print m c.in-Ok-listing_text.text met))
    c.print.ensures.printed c.print.ensures.alone c.print.ensures.failed c.print.ensures.front c.print.ensures.machine

pub returns-in-Ok-listing_text-clause-untouched : goal.returns-in-Ok-listing_text-clause-untouched
returns-in-Ok-listing_text-clause-untouched g c = λ none.
    let l = listing_of c.args.listing in
    c.in-Ok.ensures.untouched (ap (λ us. reads_input (texts_of l (map text_of us))) c.deref.ensures.value ∙ none)

pub returns-in-Ok-listing_text-clause-takes : goal.returns-in-Ok-listing_text-clause-takes
returns-in-Ok-listing_text-clause-takes g c = λ yes.
    let l = listing_of c.args.listing in
    text_later 0 c.print.result _ _ (λ small. omega arith)
    (c.in-Ok.ensures.takes (ap (λ us. reads_input (texts_of l (map text_of us))) c.deref.ensures.value ∙ yes))

-- ---- none is made

pub returns-clause-exact : goal.returns-clause-exact
returns-clause-exact g c =
    let told = g.R.Read.remaining c.args.input.now in
    let l = listing_of c.args.listing in
    let ts : List (List ℕ) = map text_of c.args.scan.now.modules.items in
    let read = subst (λ (us : List (Bor (List ℕ))). Meets bytes (given_for l (map text_of us) told) (Ok c.in-Ok.given)) c.deref.ensures.value
    c.in-Ok.ensures.exact in
    let none = subst (λ (us : List (Bor (List ℕ))). Meets {X = String Global} bytes (printed_of l (map text_of us) c.as_str.result.now)
    (Err c.in-Err-listing_text.stop)) c.deref-2.ensures.value c.in-Err-listing_text.ensures in
    told_end (listing_answer l ts told) c.in-Err-listing_text.stop c.tell-in-Err-listing_text.result _
    (listed told l ts c.in-Ok.given c.as_str.result.now (Err c.in-Err-listing_text.stop) read c.as_str.ensures.value none)
    c.tell-in-Err-listing_text.ensures.status c.tell-in-Err-listing_text.ensures.line c.tell-in-Err-listing_text.ensures.machine
    c.tell-in-Err-listing_text.ensures.most (kept (g.W.Write.contents c.args.output.now))

pub returns-clause-untouched : goal.returns-clause-untouched
returns-clause-untouched g c = λ none.
    let l = listing_of c.args.listing in
    c.in-Ok.ensures.untouched (ap (λ us. reads_input (texts_of l (map text_of us))) c.deref.ensures.value ∙ none)

pub returns-clause-takes : goal.returns-clause-takes
returns-clause-takes g c = λ yes.
    let l = listing_of c.args.listing in
    text_later 0 c.tell-in-Err-listing_text.result _ _ (λ small. omega arith)
    (c.in-Ok.ensures.takes (ap (λ us. reads_input (texts_of l (map text_of us))) c.deref.ensures.value ∙ yes))
