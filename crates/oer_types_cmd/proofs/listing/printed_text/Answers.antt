use Rattle.std.proofs.Common.{String, Global, refl}
use Rattle.oer_cmd.proofs.Meeting.{bytes}
use Rattle.oer_cmd.specs.declared.fault.Fault.TheVariants as fault
use Rattle.oer_printer.specs.Printing.{printed}
use Rattle.oer_types.specs.Schema.{the_type}
use Rattle.oer_types_cmd.specs.Answer.{text_if}
use Rattle.oer_types_cmd.specs.declared.stop.Stop.TheVariants as raw
use Rattle.oer_types_cmd.proofs.Meeting.{machine_fails, text_met, text_none}
use Rattle.oer_types_cmd.proofs.listing.printed_text.Goals as goal

pub returns-in-Ok : goal.returns-in-Ok
returns-in-Ok c = text_met (printed (the_type c.args.schema.now)) c.in-Ok.text c.in-Ok.ensures.text

pub returns-in-Err-Memory : goal.returns-in-Err-Memory
returns-in-Err-Memory c =
    machine_fails {X = String Global} bytes (text_if (printed (the_type c.args.schema.now))) (raw.Types fault.Memory) refl

pub returns-in-Err-NoNotation : goal.returns-in-Err-NoNotation
returns-in-Err-NoNotation c = text_none (printed (the_type c.args.schema.now)) (c.in-Err-NoNotation.ensures.none.0 (cc))
