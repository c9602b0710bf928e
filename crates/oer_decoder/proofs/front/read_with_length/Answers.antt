use Rattle.oer_values.specs.ShapeView.{type_of}
use Rattle.oer_decoder.proofs.FrontProof.{value_comes, value_fits, value_taken, value_told}
use Rattle.oer_decoder.proofs.front.read_with_length.Goals as goal

pub returns-clause-told : goal.returns-clause-told
returns-clause-told g c = rw c.shape.ensures.same at (value_told (type_of c.shape.result.now) c.shape.ensures.limits _ _ _ _ _ c.read_counted.result c.read_counted.ensures.reads)

pub returns-clause-comes : goal.returns-clause-comes
returns-clause-comes g c = rw c.shape.ensures.same at (value_comes (type_of c.shape.result.now) c.shape.ensures.limits _ _ _ _ _ c.read_counted.result c.read_counted.ensures.reads)

pub returns-clause-taken : goal.returns-clause-taken
returns-clause-taken g c = rw c.shape.ensures.same at (value_taken (type_of c.shape.result.now) c.shape.ensures.limits _ _ _ _ _ c.read_counted.result c.read_counted.ensures.reads)

pub returns-clause-fits : goal.returns-clause-fits
returns-clause-fits g c = rw c.shape.ensures.same at (value_fits (type_of c.shape.result.now) c.shape.ensures.limits _ _ _ _ _ c.read_counted.result c.read_counted.ensures.reads)
