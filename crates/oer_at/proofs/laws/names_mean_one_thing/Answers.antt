use Rattle.oer_model.specs.declared.fault.SchemaFault.TheVariants.{RepeatedName}
use Rattle.oer_at.proofs.Calling.{meant}
use Rattle.oer_at.proofs.laws.names_mean_one_thing.Goals as goal

pub returns : goal.returns
returns c = λ T well words hops U m. meant words 0 T hops U (well.faultless RepeatedName) m
