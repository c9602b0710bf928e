use Rattle.std.proofs.Common.{List, ℕ, map, sym, subst}
use Rattle.oer_cmd.proofs.Meeting.{bytes}
use Rattle.oer_module_options.specs.Asked.{listing_of}
use Rattle.oer_module_options.specs.Scan.{text_of}
use Rattle.oer_module_options.specs.declared.request.Listing.{Listing}
use Rattle.oer_types_cmd.specs.Answer.{Meets, defined_line, printed_of}
use Rattle.oer_types_cmd.proofs.listing.listing_text.Goals as goal

pub returns-in-Defined : goal.returns-in-Defined
returns-in-Defined c =
    let ts : List (List ℕ) = map text_of c.args.texts.now in
    subst (λ (l : Listing). Meets bytes (printed_of (listing_of l) ts c.args.given.now) c.defined_line.result) (sym c.in-Defined.is)
    (subst (λ (w : List ℕ). Meets bytes (defined_line w c.in-Defined.name.now) c.defined_line.result) c.text_or.ensures c.defined_line.ensures)
