use Rattle.std.proofs.Common.{◌∙◌, ap, Vec, ℕ, Global}
use Rattle.oer_units.specs.Stream.{inner_of}
use Rattle.oer_c.proofs.Rewritten.{appended}
use Rattle.oer_c.proofs.make.octets_of.Goals as goal

pub returns-in-Ok-clause-octets : goal.returns-in-Ok-clause-octets
returns-in-Ok-clause-octets c =
    let octets = λ (v : Vec ℕ Global). v.items in
    appended _ _ (octets (inner_of c.new-sink.result)) (octets (inner_of c.write.new.w)) c.into_inner.result.items _
    c.in-Ok.ensures.canonical (ap octets c.new-sink.ensures.inner ∙ c.new.ensures.items) (ap octets c.into_inner.ensures)
