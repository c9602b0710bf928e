use Rattle.std.proofs.Common.{refl, Ok, Err}
use Rattle.oer_types.specs.Schema.{the_type}
use Rattle.oer_values.specs.ValueView.{value_of}
use Rattle.oer_decoder.proofs.FrontProof.{fits_of}
use Rattle.oer_decoder.proofs.rewriting.rewrite_value.Goals as goal

pub write-requires : goal.write-requires
write-requires g c =
    let wf = rw c.shape.ensures.same at c.shape.ensures.limits in
    let reads = rw c.shape.ensures.same at c.in-Ok.ensures.reads in
    fits_of (the_type c.args.schema.now) wf _ _ _ _ _ (value_of c.in-Ok.counted.0) c.in-Ok.counted.1 reads

pub returns-in-Err-clause-rewrites : goal.returns-in-Err-clause-rewrites
returns-in-Err-clause-rewrites g c = (Err c.in-Err.fault, rw c.shape.ensures.same at c.in-Err.ensures.reads, (refl, refl, refl))

pub returns-in-Ok-write-clause-rewrites : goal.returns-in-Ok-write-clause-rewrites
returns-in-Ok-write-clause-rewrites g c =
    (Ok (value_of c.in-Ok.counted.0, c.in-Ok.counted.1), rw c.shape.ensures.same at c.in-Ok.ensures.reads, (refl, c.in-Ok-write.ensures.computed))

pub returns-clause-rewrites : goal.returns-clause-rewrites
returns-clause-rewrites g c =
    (Ok (value_of c.in-Ok.counted.0, c.in-Ok.counted.1), rw c.shape.ensures.same at c.in-Ok.ensures.reads, c.in-Err-write.ensures.computed)
