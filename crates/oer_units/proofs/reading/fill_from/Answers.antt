use Rattle.std.proofs.Common.{◌≡◌, ◌≤◌, ◌-◌, arith, ap, ◌∙◌, vec_len, length, take, drop}
use Rattle.oer_units.proofs.ReadGroups.{part_length, filled_front, filled_rest, filled_reads}
use Rattle.oer_units.proofs.reading.fill_from.Goals as goal

pub returns-clause-front : goal.returns-clause-front
returns-clause-front g c =
    let xs = c.deref_mut.result.now in
    let size : length xs ≡ vec_len c.args.octets.now = c.deref_mut.ensures.len in
    let within : c.args.at ≤ length xs = omega (arith, c.requires.within) in
    filled_front c.args.octets.now.len c.args.at xs c.fill_all.new.into c.args.octets.now.items within size (c.fill_all.auto.into ∙ part_length c.args.at xs within)
    ∙ ap (λ l. take c.args.at l) c.deref_mut.ensures.value

pub returns-clause-reads : goal.returns-clause-reads
returns-clause-reads g c =
    let xs = c.deref_mut.result.now in
    let size : length xs ≡ vec_len c.args.octets.now = c.deref_mut.ensures.len in
    let within : c.args.at ≤ length xs = omega (arith, c.requires.within) in
    let part : length (take (length xs - c.args.at) (drop c.args.at xs)) ≡ length xs - c.args.at = part_length c.args.at xs within in
    let rest = filled_rest c.args.octets.now.len c.args.at xs c.fill_all.new.into c.args.octets.now.items within size (c.fill_all.auto.into ∙ part) in
    filled_reads _ _ _ _ c.fill_all.result c.fill_all.new.into _ (part ∙ ap (λ n. n - c.args.at) size) rest c.fill_all.ensures.reads
