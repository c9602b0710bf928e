use Rattle.std.proofs.Common.{◌≡◌, ◌∙◌, IfOk, ℕ, string_bytes, subst}
use Rattle.oer_value_notation.specs.declared.fault.TextWhy.TheVariants.{Token}
use Rattle.oer_explain.specs.Types.{definitions_notes, fault_notes}
use Rattle.oer_explain.proofs.Utf8.{of_octets, of_text}
use Rattle.oer_explain.proofs.types.types_notes.Goals as goal

pub returns-in-Ok : goal.returns-in-Ok
returns-in-Ok c = of_text string_bytes c.args.octets.now c.in-Ok.text.now definitions_notes _ c.definitions_notes.result c.in-Ok.ensures.cases.0
    c.in-Ok.ensures.cases.1 c.definitions_notes.ensures

pub returns-in-Err : goal.returns-in-Err
returns-in-Err c = of_octets string_bytes c.args.octets.now (definitions_notes c.args.octets.now) _ c.fault_notes.result c.in-Err.ensures.cases.0
    (subst (λ (n : ℕ). IfOk c.fault_notes.result (λ s. string_bytes s ≡ fault_notes (record { at = n; why = Token }) c.args.octets.now)) (c.valid_up_to.ensures ∙ c.in-Err.ensures.valid_len)
    c.fault_notes.ensures)
