use Rattle.std.proofs.Common.{◌≡◌, List, ℕ, Ok, sym, subst}
use Rattle.std.proofs.lemmas.Result.{err_from_is_err_and}
use Rattle.oer_types.specs.Schema.{the_type}
use Rattle.oer_example.specs.Renewed.{IsRenewed}
use Rattle.oer_example.proofs.Renewing.{same_octets}
use Rattle.oer_example.proofs.renewed.renewed_digits.Goals as goal

pub returns-in_err-new-clause-none : goal.returns-in_err-new-clause-none
returns-in_err-new-clause-none c =
    let p = err_from_is_err_and c.from_residual-in_err-new.result c.from_residual-in_err-new.ensures.1 in
    rw (p.1, p.2) (λ other line h. c.in_err-new.ensures.none other h.1
    (subst (λ (b : List ℕ). IsRenewed (the_type c.args.certificate.now) (the_type c.args.to_be_signed.now) b c.args.series h.1)
    (same_octets h.0 c.in_ok-octets.octets.items c.as_slice.result.now c.args.digits.now h.2 c.in_ok-octets.ensures.octets c.as_slice.ensures.value) h.3))
