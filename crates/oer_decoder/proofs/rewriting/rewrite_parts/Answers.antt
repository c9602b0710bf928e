use Rattle.std.proofs.Common.{refl, Err, rules, length, ◌<◌, ◌^◌}
use Rattle.oer_types.specs.Schema.{the_type}
use Rattle.oer_decoder.proofs.Rewrites.{gathered_stopped, gathered_written}
use Rattle.oer_decoder.proofs.rewriting.rewrite_parts.Goals as goal

pub returns-in-Err-clause-rewrites : goal.returns-in-Err-clause-rewrites
returns-in-Err-clause-rewrites g c = (Err c.in-Err.fault, rw c.shape.ensures.same at c.in-Err.ensures.recodes, (refl, refl, refl))

pub returns-in-Ok-put_slice-clause-rewrites : goal.returns-in-Ok-put_slice-clause-rewrites
returns-in-Ok-put_slice-clause-rewrites g c =
    let one = rw c.shape.ensures.same at c.in-Ok.ensures.recodes in
    gathered_written (the_type c.args.schema.now) one.0 c.in-Ok.recoded.1 c.in-Ok-put_slice.written c.in-Ok.recoded.0.items _ _ _ _ _ _ _ _ _ one.1 one.2 (search rules)
    (rw c.deref.ensures.value at c.in-Ok-put_slice.ensures)

pub returns-clause-rewrites : goal.returns-clause-rewrites
returns-clause-rewrites g c =
    let one = rw c.shape.ensures.same at c.in-Ok.ensures.recodes in
    gathered_stopped (the_type c.args.schema.now) one.0 c.in-Ok.recoded.1 c.in-Err-put_slice.fault c.in-Ok.recoded.0.items _ _ _ _ _ _ _ _ _ one.1 one.2 (search rules)
    (rw c.deref.ensures.value at c.in-Err-put_slice.ensures)
