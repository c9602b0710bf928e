use Rattle.std.proofs.Common.{◌≡◌, ◌==◌, ◌∷◌, ◌++◌, arith, codes, length, vec_len, sym, ap, ◌∙◌, add-one}
use Rattle.oer_lexer.specs.Token.{word, sign}
use Rattle.oer_lexer.specs.declared.token.Sign.TheVariants.{CloseBrace}
use Rattle.oer_model.specs.AsnType.{no_alternatives}
use Rattle.oer_values.specs.ShapeView.{additions_of, fields_of, later_of, root_of, seen_addition, seen_alternative, seen_field}
use Rattle.oer_values.proofs.Shapes.{type_of-Ia5, type_of-Visible, type_of-Numeric, type_of-Printable, type_of-Utf8, type_of-Sequence, type_of-Choice}
use Rattle.oer_printer.specs.Printer.{alternative_part, field_part, joined_from, run, step, written}
use Rattle.oer_printer.specs.Printing.{addition_parts, after_commas, field_parts, in_braces, joined, later_parts, marker, root_parts, type_tokens}
use Rattle.oer_literals.proofs.Lists.{split_at}
use Rattle.oer_printer.proofs.Printed.{choice_parts, component_step, joined_step, marked, no_field_parts, no_root_parts, plain_choice_parts, puts_last, wrapped}
use Rattle.oer_printer.proofs.printing.+put.Goals as goal

pub put_additions-loop-addition-preserved : goal.put_additions-loop-addition-preserved
put_additions-loop-addition-preserved t c =
    let l = c.loop-addition in
    let x = c.addition-item.result in
    let split = split_at c.args.additions.now l.addition-index x c.loop-addition-test.true c.addition-item.is in
    rw add-one (l.invariant
    ∙ ap (λ xs. run (written l.printer) (after_commas (addition_parts (additions_of xs)))) split
    ∙ component_step (written l.printer) (written c.sign.new.self) (written c.word.new.self) (written c.put_type.new.printer) (seen_addition x).name (type_tokens (seen_addition x).type) _
    c.in_ok-sign.ensures (c.in_ok-word.ensures ∙ ap (λ s. step (written c.sign.new.self) (word s)) c.as_str.ensures.value) c.in_ok-put_type.ensures)

pub put_alternatives-loop-alt-preserved : goal.put_alternatives-loop-alt-preserved
put_alternatives-loop-alt-preserved t c =
    let l = c.loop-alt in
    let x = c.alt-item.result in
    let split = split_at c.args.alts.now l.alt-index x c.loop-alt-test.true c.alt-item.is in
    rw add-one (l.invariant
    ∙ ap (λ xs. run (written l.printer) (joined_from l.first (root_parts (root_of xs no_alternatives)))) split
    ∙ joined_step l.first (written l.printer) (written c.put_comma.new.printer) (written c.put_alternative.new.printer) (alternative_part (seen_alternative x)) _
    c.in_ok-put_comma.ensures c.in_ok-put_alternative.ensures)

pub put_fields-loop-field-preserved : goal.put_fields-loop-field-preserved
put_fields-loop-field-preserved t c =
    let l = c.loop-field in
    let x = c.field-item.result in
    let split = split_at c.args.fields.now l.field-index x c.loop-field-test.true c.field-item.is in
    rw add-one (l.invariant
    ∙ ap (λ xs. run (written l.printer) (joined_from l.first (field_parts (fields_of xs)))) split
    ∙ joined_step l.first (written l.printer) (written c.put_comma.new.printer) (written c.put_field.new.printer) (field_part (seen_field x)) _
    c.in_ok-put_comma.ensures c.in_ok-put_field.ensures)

pub put_type-returns-in-Ia5 : goal.put_type-returns-in-Ia5
put_type-returns-in-Ia5 t c = rw (c.in-Ia5.is, type_of-Ia5) c.put_sized-in-Ia5.ensures

pub put_type-returns-in-Visible : goal.put_type-returns-in-Visible
put_type-returns-in-Visible t c = rw (c.in-Visible.is, type_of-Visible) c.put_sized-in-Visible.ensures

pub put_type-returns-in-Numeric : goal.put_type-returns-in-Numeric
put_type-returns-in-Numeric t c = rw (c.in-Numeric.is, type_of-Numeric) c.put_sized-in-Numeric.ensures

pub put_type-returns-in-Printable : goal.put_type-returns-in-Printable
put_type-returns-in-Printable t c = rw (c.in-Printable.is, type_of-Printable) c.put_sized-in-Printable.ensures

pub put_type-returns-in-Utf8 : goal.put_type-returns-in-Utf8
put_type-returns-in-Utf8 t c = rw (c.in-Utf8.is, type_of-Utf8) c.put_sized-in-Utf8.ensures

pub put_sequence-returns-in-None : goal.put_sequence-returns-in-None
put_sequence-returns-in-None t c =
    let ps = field_parts (fields_of c.in-Sequence.root.items) in
    let w₁ = written c.open.new.printer in
    rw (c.in-Sequence.is, c.in-None.is, type_of-Sequence) (puts_last (word (codes "SEQUENCE") ∷ in_braces ps) (sign CloseBrace) c.args.printer.now c.put_fields.new.printer c.sign.new.self c.sign.result c.sign.ensures
    (wrapped (written c.args.printer.now) w₁ (written c.put_fields.new.printer) (word (codes "SEQUENCE")) ps c.in_ok-open.ensures
    (c.in_ok-put_fields.ensures ∙ ap (λ fs. run w₁ (joined (field_parts (fields_of fs)))) c.deref.ensures.value)))

pub put_sequence-returns-in_ok-put_additions-in-Some : goal.put_sequence-returns-in_ok-put_additions-in-Some
put_sequence-returns-in_ok-put_additions-in-Some t c =
    let root = c.in-Sequence.root.items in
    let more = c.in-Some.additions.items in
    let size : vec_len c.in-Sequence.root ≡ length root = omega (arith, c.in-Sequence.root.ok.0) in
    let ps = field_parts (fields_of root) in
    let qs = addition_parts (additions_of more) in
    let w₁ = written c.open.new.printer in
    let w₂ = written c.put_fields.new.printer in
    let w₃ = written c.put_marker.new.printer in
    let w₄ = written c.put_additions.new.printer in
    rw (c.in-Sequence.is, c.in-Some.is, type_of-Sequence) (puts_last (word (codes "SEQUENCE") ∷ in_braces (ps ++ marker ∷ qs)) (sign CloseBrace) c.args.printer.now c.put_additions.new.printer c.sign-in-Some.new.self c.sign-in-Some.result c.sign-in-Some.ensures
    (wrapped (written c.args.printer.now) w₁ w₄ (word (codes "SEQUENCE")) (ps ++ marker ∷ qs) c.in_ok-open.ensures
    (marked w₁ w₂ w₃ w₄ c.is_empty.result ps qs
    (c.in_ok-put_fields.ensures ∙ ap (λ fs. run w₁ (joined (field_parts (fields_of fs)))) c.deref.ensures.value)
    c.in_ok-put_marker-in-Some.ensures
    (c.in_ok-put_additions-in-Some.ensures ∙ ap (λ xs. run w₃ (after_commas (addition_parts (additions_of xs)))) c.deref-in-Some.ensures.value)
    (c.is_empty.ensures ∙ ap (λ n. n == 0) size ∙ no_field_parts root))))

pub put_choice-returns-in-None : goal.put_choice-returns-in-None
put_choice-returns-in-None t c =
    let root = c.in-Choice.root.items in
    let ps = root_parts (root_of root no_alternatives) in
    let all = ps ++ later_parts (root_of root no_alternatives) in
    let w₁ = written c.open.new.printer in
    rw (c.in-Choice.is, c.in-None.is, type_of-Choice) (puts_last (word (codes "CHOICE") ∷ in_braces all) (sign CloseBrace) c.args.printer.now c.put_alternatives.new.printer c.sign.new.self c.sign.result c.sign.ensures
    (wrapped (written c.args.printer.now) w₁ (written c.put_alternatives.new.printer) (word (codes "CHOICE")) all c.in_ok-open.ensures
    (c.in_ok-put_alternatives.ensures
    ∙ ap (λ xs. run w₁ (joined (root_parts (root_of xs no_alternatives)))) c.deref.ensures.value
    ∙ ap (λ qs. run w₁ (joined qs)) (sym (plain_choice_parts root)))))

pub put_choice-returns-in_ok-put_alternatives-in-Some : goal.put_choice-returns-in_ok-put_alternatives-in-Some
put_choice-returns-in_ok-put_alternatives-in-Some t c =
    let root = c.in-Choice.root.items in
    let more = c.in-Some.additions.items in
    let size : vec_len c.in-Choice.root ≡ length root = omega (arith, c.in-Choice.root.ok.0) in
    let ps = root_parts (root_of root no_alternatives) in
    let qs = root_parts (root_of more no_alternatives) in
    let all = root_parts (root_of root (later_of more)) ++ marker ∷ later_parts (root_of root (later_of more)) in
    let w₁ = written c.open.new.printer in
    let w₂ = written c.put_alternatives.new.printer in
    let w₃ = written c.put_marker.new.printer in
    let w₄ = written c.put_alternatives-in-Some.new.printer in
    rw (c.in-Choice.is, c.in-Some.is, type_of-Choice) (puts_last (word (codes "CHOICE") ∷ in_braces all) (sign CloseBrace) c.args.printer.now c.put_alternatives-in-Some.new.printer c.sign-in-Some.new.self c.sign-in-Some.result c.sign-in-Some.ensures
    (wrapped (written c.args.printer.now) w₁ w₄ (word (codes "CHOICE")) all c.in_ok-open.ensures
    (marked w₁ w₂ w₃ w₄ c.is_empty.result ps qs
    (c.in_ok-put_alternatives.ensures ∙ ap (λ xs. run w₁ (joined (root_parts (root_of xs no_alternatives)))) c.deref.ensures.value)
    c.in_ok-put_marker-in-Some.ensures
    (c.in_ok-put_alternatives-in-Some.ensures ∙ ap (λ xs. run w₃ (after_commas (root_parts (root_of xs no_alternatives)))) c.deref-in-Some.ensures.value)
    (c.is_empty.ensures ∙ ap (λ n. n == 0) size ∙ no_root_parts root)
    ∙ ap (λ rs. run w₁ (joined rs)) (sym (choice_parts root more)))))
