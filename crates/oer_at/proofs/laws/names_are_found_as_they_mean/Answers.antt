use Rattle.oer_at.proofs.Calling.{means}
use Rattle.oer_at.proofs.laws.names_are_found_as_they_mean.Goals as goal

pub returns : goal.returns
returns c = λ T names hops h. means names 0 T hops h
