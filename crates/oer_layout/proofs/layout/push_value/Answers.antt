use Rattle.std.proofs.Common.{◌≤◌, ◌∙◌, ◌++◌, arith, ap, sym, string_bytes}
use Rattle.oer_places.specs.Parts.{count_of}
use Rattle.oer_layout.proofs.Counted.{count_least, value_uncut}
use Rattle.oer_layout.proofs.Laid.{pushed}
use Rattle.oer_layout.proofs.layout.push_value.Goals as goal
use Rattle.oer_layout.proofs.layout.push_value.Goals.{then-value-room-via-then-value-room, then-value-room-via-else-value-room+then-count_of-room}

pub returns-then-value-room : goal.returns-then-value-room
returns-then-value-room c =
    let room : count_of c.args.value.now ≤ c.args.room = elim c.then-value-room.branch [
      | then-value-room-via-then-value-room w ↦ omega (arith, count_least c.args.value.now c.utf8.value)
      | then-value-room-via-else-value-room+then-count_of-room w ↦ omega arith
    ] in
    pushed c.push_str.result _ _ _ _ c.push_str.ensures.bytes
    (λ h. h ∙ ap (λ v. string_bytes c.args.text.now ++ v) (sym (value_uncut c.args.is_digits c.args.room c.args.value.now room)))
