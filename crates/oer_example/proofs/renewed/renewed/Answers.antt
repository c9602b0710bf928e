use Rattle.std.proofs.lemmas.Result.{IfOk-weaker, err_from_is_err_and}
use Rattle.std.proofs.Common.{◌∙◌, ap, pos}
use Rattle.oer_model.specs.AsnValue.{int}
use Rattle.oer_model.specs.Fits.{Fits}
use Rattle.oer_types.specs.Schema.{the_type}
use Rattle.oer_values.specs.ValueView.{value_of}
use Rattle.oer_example.specs.Renewed.{with_component as spec_with_component}
use Rattle.oer_example.proofs.Renewing.{made, no_fit, no_place, no_value, nothing_seen, something_seen, unfit}
use Rattle.oer_example.proofs.renewed.renewed.Goals as goal

pub returns-in_err-signed-clause-none : goal.returns-in_err-signed-clause-none
returns-in_err-signed-clause-none c =
    let p = err_from_is_err_and c.from_residual.result c.from_residual.ensures.1 in
    rw (p.1, p.2) (λ other new h. c.in_err-signed.ensures.none h.signed h.whole h.part)

pub returns-in_err-value-clause-none : goal.returns-in_err-value-clause-none
returns-in_err-value-clause-none c =
    let p = err_from_is_err_and c.from_residual-in_err-value.result c.from_residual-in_err-value.ensures.1 in
    rw (p.1, p.2) (λ other new h. no_value (the_type c.args.certificate.now) (the_type c.args.to_be_signed.now) c.args.octets.now c.in_ok-signed.signed.now c.args.series new
    c.in_ok-signed.ensures.only (c.in_err-value.ensures.none other) h)

pub returns-in_default-clause-none : goal.returns-in_default-clause-none
returns-in_default-clause-none c = λ other new h.
    no_place (the_type c.args.certificate.now) (the_type c.args.to_be_signed.now) c.args.octets.now c.in_ok-signed.signed.now c.args.series new (value_of c.in_ok-value.value)
    c.in_ok-signed.ensures.only c.in_ok-value.ensures.only
    (nothing_seen value_of c.with_component.result (spec_with_component 2 (int (pos c.args.series)) (value_of c.in_ok-value.value)) (c.with_component.ensures ∙ ap (λ x. spec_with_component 2 x (value_of c.in_ok-value.value)) c.integer.ensures) c.in_default.not-Some) h

pub returns-then-not-fits-clause-none : goal.returns-then-not-fits-clause-none
returns-then-not-fits-clause-none c = λ other new h.
    no_fit (the_type c.args.certificate.now) (the_type c.args.to_be_signed.now) c.args.octets.now c.in_ok-signed.signed.now c.args.series new (value_of c.in_ok-value.value) (value_of c.in-Some.changed)
    c.in_ok-signed.ensures.only c.in_ok-value.ensures.only
    (something_seen value_of c.with_component.result (spec_with_component 2 (int (pos c.args.series)) (value_of c.in_ok-value.value)) c.in-Some.changed (c.with_component.ensures ∙ ap (λ x. spec_with_component 2 x (value_of c.in_ok-value.value)) c.integer.ensures) c.in-Some.is)
    (unfit (Fits (the_type c.args.to_be_signed.now) (value_of c.in-Some.changed)) c.fits.result c.fits.ensures c.if-not-fits.true) h

pub returns-clause-renewed : goal.returns-clause-renewed
returns-clause-renewed c =
    IfOk-weaker c.canonical.result _ _ (λ new canonical.
    made (the_type c.args.certificate.now) (the_type c.args.to_be_signed.now) c.args.octets.now c.in_ok-signed.signed.now c.args.series (value_of c.in_ok-value.value) (value_of c.in-Some.changed)
    c.in_ok-signed.ensures.whole c.in_ok-signed.ensures.part c.in_ok-value.ensures.value
    (something_seen value_of c.with_component.result (spec_with_component 2 (int (pos c.args.series)) (value_of c.in_ok-value.value)) c.in-Some.changed (c.with_component.ensures ∙ ap (λ x. spec_with_component 2 x (value_of c.in_ok-value.value)) c.integer.ensures) c.in-Some.is)
    new.items canonical) c.canonical.ensures.octets
