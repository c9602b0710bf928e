use Rattle.std.proofs.Common.{refl, []}
use Rattle.oer_leaves.proofs.PackSteps.{first_failed, second_failed, all_packed}
use Rattle.oer_leaves.proofs.presence.put_preamble.Goals as goal

pub returns-in_err-done : goal.returns-in_err-done
returns-in_err-done g c =
    let p = c.new-packer in
    first_failed c.args.done _ _ p.result _ _ _ refl p.ensures.octet p.ensures.weight c.from_residual.result _ c.put_first_bit.new.packer _ _ c.from_residual.ensures.1 c.in_err-done.ensures

pub put_root_bits-requires : goal.put_root_bits-requires
put_root_bits-requires g c = (c.in_ok-done.ensures []).0

pub returns-in_err-done-2 : goal.returns-in_err-done-2
returns-in_err-done-2 g c =
    let p = c.new-packer in
    second_failed c.args.done _ _ p.result _ _ _ refl p.ensures.octet p.ensures.weight c.in_ok-done.done c.put_first_bit.new.packer _ _ c.in_ok-done.ensures c.from_residual-in_err-done-2.result _ c.put_root_bits.new.packer _ _ c.from_residual-in_err-done-2.ensures.1 c.in_err-done-2.ensures

pub finish-requires : goal.finish-requires
finish-requires g c = (c.in_ok-done-2.ensures []).0

pub returns : goal.returns
returns g c =
    let p = c.new-packer in
    all_packed c.args.done _ _ p.result _ _ _ refl p.ensures.octet p.ensures.weight c.in_ok-done.done c.put_first_bit.new.packer _ _ c.in_ok-done.ensures c.finish.result c.in_ok-done-2.done c.put_root_bits.new.packer _ _ _ _ c.in_ok-done-2.ensures c.finish.ensures
