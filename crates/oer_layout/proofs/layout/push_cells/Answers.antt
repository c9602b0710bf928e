use Rattle.std.proofs.Common.{◌≡◌, ◌-◌, length, max, arith, string_bytes}
use Rattle.oer_layout.specs.Cells.{cells_in}
use Rattle.oer_layout.proofs.Laid.{line_made, pushed}
use Rattle.oer_layout.proofs.layout.push_cells.Goals as goal

pub returns : goal.returns
returns c =
    let note = c.args.line.now.note in
    let room : c.max-room.result ≡ max (c.args.widths.value - length (string_bytes note)) 12 = omega (arith, note.bytes.ok.0) in
    pushed c.push_str.result _ _ _ _ c.push_str.ensures.bytes
    (λ h. line_made c.args.widths (cells_in c.args.line.now) _ _ _ _ _ _ _ _ c.as_str.result.now c.as_str-2.result.now c.max-room.result room c.as_str.ensures.value c.as_str-2.ensures.value
    c.in_ok-push_number.ensures c.in_ok-push_number-2.ensures c.in_ok-push_left.ensures c.in_ok-push_names.ensures c.in_ok-push_left-2.ensures c.in_ok-push_value.ensures h)
