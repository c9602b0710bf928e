use Rattle.std.proofs.Common.{sym, ◌∙◌, ap₂, subst}
use Rattle.oer_model.specs.AsnValue.{AsnValue}
use Rattle.oer_model.specs.Fits.{Fits}
use Rattle.oer_model.specs.WellFormed.{IsWellFormed}
use Rattle.oer_model.specs.declared.fault.SchemaFault.TheVariants.{NoItems}
use Rattle.oer_types.specs.Schema.{the_type}
use Rattle.oer_values.specs.ShapeView.{type_of}
use Rattle.oer_random.specs.Drawn.{drawn, most_room}
use Rattle.oer_random.proofs.Fitting.{drawn_fit}
use Rattle.oer_random.proofs.value.random.Goals as goal

pub weigh-requires : goal.weigh-requires
weigh-requires c = c.shape.ensures.well_formed.faultless NoItems

pub drawn-requires : goal.drawn-requires
drawn-requires c = c.shape-2.ensures.well_formed.faultless NoItems

pub returns-clause-fits : goal.returns-clause-fits
returns-clause-fits c =
    let T = the_type c.args.schema.now in
    let is = c.in_ok-drawn.ensures ∙ ap₂ (λ n s. drawn most_room n (type_of s)) c.word-seed.ensures c.shape-2.ensures.same in
    let P : AsnValue → Type 0 = Fits T in
    subst P (sym is) (drawn_fit c.args.seed T (subst (λ s. IsWellFormed (type_of s)) c.shape.ensures.same c.shape.ensures.well_formed))
