use Rattle.oer_model.specs.declared.fault.SchemaFault.TheVariants.{RepeatedTag}
use Rattle.oer_at.proofs.Typing.{typed}
use Rattle.oer_at.proofs.laws.parts_are_of_the_type_meant.Goals as goal

pub returns : goal.returns
returns c = λ T well words hops V m b U s r. typed words hops T V b U s (well.faultless RepeatedTag) m r
