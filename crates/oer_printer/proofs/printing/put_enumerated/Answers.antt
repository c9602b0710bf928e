use Rattle.std.proofs.Common.{[], ◌∷◌, ◌++◌, codes, map, sym, ap, ◌∙◌, append-nil, refl}
use Rattle.oer_lexer.specs.Token.{word, sign}
use Rattle.oer_lexer.specs.declared.token.Sign.TheVariants.{CloseBrace}
use Rattle.oer_values.specs.ShapeView.{named_number}
use Rattle.oer_printer.specs.Printer.{run, written}
use Rattle.oer_printer.specs.Printing.{in_braces, item_tokens, joined, marker}
use Rattle.oer_printer.proofs.Printed.{marked, no_items, puts_last, wrapped}
use Rattle.oer_printer.proofs.printing.put_enumerated.Goals as goal

pub returns-then-not-extensible : goal.returns-then-not-extensible
returns-then-not-extensible c =
    let ps = map item_tokens (map named_number c.args.items.now) in
    let w₁ = written c.open_leaf.new.printer in
    let none = sym (append-nil ps) in
    rw c.if-not-extensible.true (puts_last (word (codes "ENUMERATED") ∷ in_braces (ps ++ [])) (sign CloseBrace) c.args.printer.now c.put_items.new.printer c.sign.new.self c.sign.result c.sign.ensures
    (wrapped (written c.args.printer.now) w₁ (written c.put_items.new.printer) (word (codes "ENUMERATED")) (ps ++ []) c.in_ok-open_leaf.ensures
    (c.in_ok-put_items.ensures ∙ ap (λ qs. run w₁ (joined qs)) none)))

pub returns : goal.returns
returns c =
    let ps = map item_tokens (map named_number c.args.items.now) in
    let w₁ = written c.open_leaf.new.printer in
    rw c.if-not-extensible.false (puts_last (word (codes "ENUMERATED") ∷ in_braces (ps ++ marker ∷ [])) (sign CloseBrace) c.args.printer.now c.put_marker.new.printer c.sign-2.new.self c.sign-2.result c.sign-2.ensures
    (wrapped (written c.args.printer.now) w₁ (written c.put_marker.new.printer) (word (codes "ENUMERATED")) (ps ++ marker ∷ []) c.in_ok-open_leaf.ensures
    (marked w₁ (written c.put_items.new.printer) (written c.put_marker.new.printer) (written c.put_marker.new.printer) c.is_empty.result ps [] c.in_ok-put_items.ensures c.in_ok-put_marker.ensures refl (c.is_empty.ensures ∙ no_items c.args.items.now))))
