-- Encodings, canonical ones too, of values that meet no end.
use Rattle.std.proofs.Common.{◌≡◌, sym, ◌∙◌, subst}
use Rattle.oer_model.specs.Filling.{filled}
use Rattle.oer_nesting.proofs.Filled.{filled_meets_none, filled_same, met_none}
use Rattle.oer_nesting.proofs.Fitting.{types_agree}
use Rattle.oer_nesting.proofs.Replaced.{none_replaced}
use Rattle.oer_nesting.proofs.Spelled as spelled
use Rattle.oer_nesting.proofs.Strictly as strictly
use Rattle.oer_nesting.specs.Deeper.{HasNoEnd}
use Rattle.oer_nesting.specs.Laws.{CanonicalAlike, EncodesAlike, FilledAlike, FitsAlike}

pub fits_alike : FitsAlike
fits_alike T U d v n =
    let agree = types_agree T U d in
    (agree.there v n, agree.back v n)

pub encodes_alike : EncodesAlike
encodes_alike T U d v b n =
    let agree = types_agree T U d in
    let alike = spelled.types_alike T U d in (
      λ (octs, fits, s). (octs, agree.there v n fits, alike.there v b n s),
      λ (octs, fits, s). (octs, agree.back v n fits, alike.back v b n s),
    )

pub filled_alike : FilledAlike
filled_alike T U d has v n = filled_same T U d has v n

pub canonical_alike : CanonicalAlike
canonical_alike T U d has v b n =
    let agree = types_agree T U d in
    let alike = strictly.types_alike T U d has in
    let full : HasNoEnd T (filled T v) = filled_meets_none T has v n in
    let same : filled T v ≡ filled U v = filled_same T U d has v n in (
      λ (fits, w, e, (octs, fit, s)).
          let m : HasNoEnd T w = met_none T T (none_replaced T) w (subst (HasNoEnd T) (sym e) full) in
          (agree.there v n fits, w, sym (filled_same T U d has w m) ∙ e ∙ same, (octs, agree.there w m fit, alike.there w b m s)),
      λ (fits, w, e, (octs, fit, s)).
          let m : HasNoEnd T w = met_none T U d w (subst (HasNoEnd T) (same ∙ sym e) full) in
          (agree.back v n fits, w, filled_same T U d has w m ∙ e ∙ sym same, (octs, agree.back w m fit, alike.back w b m s)),
    )
