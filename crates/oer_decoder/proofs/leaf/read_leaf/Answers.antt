use Rattle.oer_units.proofs.ReadSteps.{Reads-give}
use Rattle.oer_model.specs.AsnValue.{nothing}
use Rattle.oer_values.proofs.Shapes.{type_of-Ia5, type_of-Numeric, type_of-Printable, type_of-Visible}
use Rattle.oer_decoder.proofs.Shapes.{type_of-Null}
use Rattle.oer_decoder.proofs.Values.{value_of-Null}
use Rattle.oer_decoder.proofs.leaf.read_leaf.Goals as goal

pub returns-in-Null-clause-reads : goal.returns-in-Null-clause-reads
returns-in-Null-clause-reads g c = rw (c.set.ensures, c.in-Null.is, type_of-Null, value_of-Null) (Reads-give nothing _)

pub returns-in-Ia5-clause-reads : goal.returns-in-Ia5-clause-reads
returns-in-Ia5-clause-reads g c = rw (c.in-Ia5.is, type_of-Ia5) c.read_text.ensures

pub returns-in-Visible-clause-reads : goal.returns-in-Visible-clause-reads
returns-in-Visible-clause-reads g c = rw (c.in-Visible.is, type_of-Visible) c.read_text-in-Visible.ensures

pub returns-in-Numeric-clause-reads : goal.returns-in-Numeric-clause-reads
returns-in-Numeric-clause-reads g c = rw (c.in-Numeric.is, type_of-Numeric) c.read_text-in-Numeric.ensures

pub returns-in-Printable-clause-reads : goal.returns-in-Printable-clause-reads
returns-in-Printable-clause-reads g c = rw (c.in-Printable.is, type_of-Printable) c.read_text-in-Printable.ensures
