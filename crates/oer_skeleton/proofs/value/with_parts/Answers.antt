use Rattle.std.proofs.Common.{sym, ◌∙◌, ap, subst}
use Rattle.oer_model.specs.AsnValue.{AsnValue}
use Rattle.oer_model.specs.Fits.{Fits}
use Rattle.oer_model.specs.WellFormed.{IsWellFormed}
use Rattle.oer_types.specs.Schema.{the_type}
use Rattle.oer_values.specs.ShapeView.{type_of}
use Rattle.oer_skeleton.specs.Skeleton.{skeleton}
use Rattle.oer_model.specs.declared.fault.SchemaFault.TheVariants.{NoItems}
use Rattle.oer_skeleton.proofs.Fitting.{skeletons_fit}
use Rattle.oer_skeleton.proofs.value.with_parts.Goals as goal

pub weigh-requires : goal.weigh-requires
weigh-requires c = c.shape.ensures.well_formed.faultless NoItems

pub skeleton-requires : goal.skeleton-requires
skeleton-requires c = c.shape-2.ensures.well_formed.faultless NoItems

pub returns-clause-fits : goal.returns-clause-fits
returns-clause-fits c =
    let T = the_type c.args.schema.now in
    let is = c.in_ok-skeleton.ensures ∙ ap (λ s. skeleton c.args.parts (type_of s)) c.shape-2.ensures.same in
    let P : AsnValue → Type 0 = Fits T in
    subst P (sym is) (skeletons_fit c.args.parts T (subst (λ s. IsWellFormed (type_of s)) c.shape.ensures.same c.shape.ensures.well_formed))
