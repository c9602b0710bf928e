use Rattle.std.proofs.Common.{◌∙◌, sym, length}
use Rattle.oer_module_parts.specs.declared.numbering.NumberFault.TheVariants.{Repeated, NotAscending, TooLarge}
use Rattle.oer_module_leaves.proofs.Counted.{counted_ok, fault_named}
use Rattle.oer_module_leaves.proofs.numbered.numbers_of.Goals as goal

pub misnumbered-requires : goal.misnumbered-requires
misnumbered-requires c =
    let f = c.in-Err-Repeated in
    fault_named c.args.root.now c.args.more.now (length c.args.items.now) f.field-0 (Repeated f.index) c.requires f.field-0-is (λ e. absurd (cc)) f.ensures

pub misnumbered-requires-in-Err-NotAscending : goal.misnumbered-requires-in-Err-NotAscending
misnumbered-requires-in-Err-NotAscending c =
    let f = c.in-Err-NotAscending in
    fault_named c.args.root.now c.args.more.now (length c.args.items.now) f.field-0 (NotAscending f.index) c.requires f.field-0-is (λ e. absurd (cc)) f.ensures

pub misnumbered-requires-in-Err-TooLarge : goal.misnumbered-requires-in-Err-TooLarge
misnumbered-requires-in-Err-TooLarge c =
    let f = c.in-Err-TooLarge in
    fault_named c.args.root.now c.args.more.now (length c.args.items.now) f.field-0 (TooLarge f.index) c.requires f.field-0-is (λ e. absurd (cc)) f.ensures

pub returns-in-Ok-clause-each : goal.returns-in-Ok-clause-each
returns-in-Ok-clause-each c = counted_ok c.args.root.now c.args.more.now _ c.in-Ok.ensures ∙ sym c.requires
