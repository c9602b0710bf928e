use Rattle.std.proofs.Common.{◌≡◌, ◌+◌, ◌≤◌, length, arith, ap, string_bytes}
use Rattle.std.proofs.lemmas.Str.{IsUtf8-string_bytes}
use Rattle.oer_places.specs.Parts.{count_of}
use Rattle.oer_layout.proofs.Counted.{count_least}
use Rattle.oer_layout.proofs.columns.Widths.with.Goals as goal

pub returns : goal.returns
returns c =
    let line = c.args.line.now in
    let least : count_of (string_bytes line.value) ≤ length (string_bytes line.value) = count_least (string_bytes line.value) (IsUtf8-string_bytes line.value) in
    let value : c.saturating_add-value.result ≡ count_of (string_bytes line.value) + length (string_bytes line.note) =
    omega (arith, least, ap count_of c.as_str.ensures.value, line.value.bytes.ok.0, line.value.bytes.small, line.note.bytes.ok.0, line.note.bytes.small) in
    cc
