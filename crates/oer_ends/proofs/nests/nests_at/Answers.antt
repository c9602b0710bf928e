use Rattle.std.proofs.Common.{◌≡◌, ◌∙◌, Some, ap, subst, sym}
use Rattle.oer_model.specs.AsnType.{AsnType}
use Rattle.oer_model.specs.WellFormed.{IsFirstFault, IsWellFormed}
use Rattle.oer_types.specs.Schema.{the_type}
use Rattle.oer_values.specs.ShapeView.{type_of}
use Rattle.oer_ends.specs.Nests.{unless_same}
use Rattle.oer_ends.specs.Opened.{opened}
use Rattle.oer_ends.proofs.Places.{found_by, no_type}
use Rattle.oer_ends.proofs.nests.nests_at.Goals as goal

pub returns-in-Ok : goal.returns-in-Ok
returns-in-Ok c =
    let T = the_type c.args.schema.now in
    let same : type_of c.in_ok-opened.field-0 ≡ opened T = c.in_ok-opened.ensures ∙ ap (λ s. opened (type_of s)) c.shape.ensures.same in
    c.unless_same.ensures ∙ ap (λ o. unless_same (Some c.in-Some.at) o) c.unknown_at-in-Ok.ensures
    ∙ found_by T (the_type c.in-Ok.open) c.args.octets.now c.in-Some.at (sym c.unknown_at.ensures ∙ c.in-Some.is)
    (ap type_of c.in-Ok.ensures.0 ∙ same) (subst IsWellFormed same c.in-Ok.ensures.1)

pub returns : goal.returns
returns c =
    let T = the_type c.args.schema.now in
    let same : type_of c.in_ok-opened.field-0 ≡ opened T = c.in_ok-opened.ensures ∙ ap (λ s. opened (type_of s)) c.shape.ensures.same in
    sym (no_type T c.args.octets.now c.in-Err.field-0.0 (subst (λ U. IsFirstFault U c.in-Err.field-0.0) same c.in-Err.ensures.0))
