use Rattle.std.proofs.Common.{subst}
use Rattle.serde_json.specs.View.{view}
use Rattle.oer_types.specs.Schema.{the_type}
use Rattle.oer_values.specs.ShapeView.{type_of}
use Rattle.oer_values.specs.ValueView.{value_of}
use Rattle.oer_model.specs.WellFormed.{IsWellFormed}
use Rattle.oer_json.specs.Answer.{IsSameOrMemory}
use Rattle.oer_json.specs.Take.{taken}
use Rattle.oer_json.proofs.Promised.{again, fits, refused, takes}
use Rattle.oer_json.proofs.take.from_json.Goals as goal

exact : (c : goal.After-take_fitting) → IsSameOrMemory value_of c.take_fitting.result (taken (the_type c.args.schema.now) (view c.args.json.now))
exact c = subst (λ s. IsSameOrMemory value_of c.take_fitting.result (taken (type_of s) (view c.args.json.now))) c.shape.ensures.same c.take_fitting.ensures

well_formed : (c : goal.After-take_fitting) → IsWellFormed (the_type c.args.schema.now)
well_formed c = subst (λ s. IsWellFormed (type_of s)) c.shape.ensures.same c.shape.ensures.well_formed

pub returns-clause-fits : goal.returns-clause-fits
returns-clause-fits c = fits (the_type c.args.schema.now) (view c.args.json.now) c.take_fitting.result (exact c)

pub returns-clause-takes : goal.returns-clause-takes
returns-clause-takes c = takes (the_type c.args.schema.now) (view c.args.json.now) c.take_fitting.result (exact c)

pub returns-clause-refused : goal.returns-clause-refused
returns-clause-refused c = refused (the_type c.args.schema.now) (view c.args.json.now) (well_formed c) c.take_fitting.result (exact c)

pub returns-clause-again : goal.returns-clause-again
returns-clause-again c = again (the_type c.args.schema.now) (view c.args.json.now) (well_formed c) c.take_fitting.result (exact c)
