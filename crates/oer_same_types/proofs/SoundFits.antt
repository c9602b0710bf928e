-- What fits a type fits it without the sizes of its lists.
use Rattle.std.proofs.Common.{◌≡◌, ℕ, List, [], ◌∷◌, length, Bool, true, false, ◌&&◌, ◌||◌, suc, inl, inr, refl, ap, ◌∙◌, subst, sym, arith}
use Rattle.std.specs.Prelude.{leb}
use Rattle.std.proofs.lemmas.Bool.{and_from, and_parts, le-leb}
use Rattle.oer_units.specs.declared.tagging.Tag.{Tag}
use Rattle.oer_model.specs.AsnType.{Additions, Alternatives, AsnType, Fields, Need, addition, alternative, choice, default, extensible_sequence}
use Rattle.oer_model.specs.AsnType.{field, later, leaf, may, must, no_additions, no_alternatives, no_fields, sequence, sequence_of}
use Rattle.oer_model.specs.AsnValue.{AsnValue, Places, Unknown}
use Rattle.oer_model.specs.Constraints.{addition_count, any_size, at_most, has_tag, same_tag, size_fits}
use Rattle.oer_model.specs.Fits.{AllFit, Fits, FitsAdditions, FitsAlternative, FitsByTag, FitsFields, FitsPlace, FitsUnknown}
use Rattle.oer_model.specs.declared.size.Size.{Size}
use Rattle.oer_same_types.specs.Unsized.{unsized, unsized_additions, unsized_alternatives, unsized_fields}

-- a list of any length that another size allows
any_size_fits : (s : Size) (n : ℕ) → size_fits s n ≡ true → size_fits any_size n ≡ true
any_size_fits s n e = and_from (leb 0 n && true) (leb n 18446744073709551615) (and_from (leb 0 n) true (le-leb 0 n (omega arith)) refl)
    (and_parts (leb s.low n && at_most s.high n) (leb n 18446744073709551615) e).1

all_also : (P Q : AsnValue → Type 0) → ((v : AsnValue) → P v → Q v) → (vs : List AsnValue) → AllFit P vs → AllFit Q vs
all_also P Q f [] all = tt
all_also P Q f (v ∷ vs) (first, rest) = (f v first, all_also P Q f vs rest)

place_also : (need : Need) (P Q : AsnValue → Type 0) (R S : Places → Type 0) → ((v : AsnValue) → P v → Q v) → ((ps : Places) → R ps → S ps)
    → (ps : Places) → FitsPlace need P R ps → FitsPlace need Q S ps
place_also must P Q R S f g ps (v, rest, is, fits, others) = (v, rest, is, f v fits, g rest others)
place_also may P Q R S f g ps (inl (v, rest, is, fits, others)) = inl (v, rest, is, f v fits, g rest others)
place_also may P Q R S f g ps (inr (rest, is, others)) = inr (rest, is, g rest others)
place_also (default d) P Q R S f g ps (inl (v, rest, is, fits, others)) = inl (v, rest, is, f v fits, g rest others)
place_also (default d) P Q R S f g ps (inr (rest, is, others)) = inr (rest, is, g rest others)

tag_also : (same : Bool) (P Q R S : AsnValue → Type 0) → ((v : AsnValue) → P v → Q v) → ((v : AsnValue) → R v → S v)
    → (v : AsnValue) → FitsByTag same P R v → FitsByTag same Q S v
tag_also true P Q R S f g = f
tag_also false P Q R S f g = g

has_tag_same : (t : Tag) (more : Alternatives) → has_tag t (unsized_alternatives more) ≡ has_tag t more
has_tag_same t no_alternatives = refl
has_tag_same t (alternative w u T more) = ap (λ b. same_tag u t || b) (has_tag_same t more)
has_tag_same t (later w u T more) = ap (λ b. same_tag u t || b) (has_tag_same t more)

addition_count_same : (more : Additions) → addition_count (unsized_additions more) ≡ addition_count more
addition_count_same no_additions = refl
addition_count_same (addition w T more) = ap suc (addition_count_same more)

unknown_also : (more : Additions) (us : List Unknown) → FitsUnknown (addition_count more) us → FitsUnknown (addition_count (unsized_additions more)) us
unknown_also more us = subst (λ (n : ℕ). FitsUnknown n us) (sym (addition_count_same more))

mutual
  pub fits_unsized : (T : AsnType) (v : AsnValue) → Fits T v → Fits (unsized T) v
  fits_unsized (leaf kind) v fits = fits
  fits_unsized (sequence fs) v (root, is, fits) = (root, is, fields_fit_unsized fs root fits)
  fits_unsized (extensible_sequence fs more) v (root, added, us, is, fits, additions, unknown) =
      (root, added, us, is, fields_fit_unsized fs root fits, additions_fit_unsized more added additions, unknown_also more us unknown)
  fits_unsized (sequence_of size T) v (vs, is, sized, all) =
      (vs, is, any_size_fits size (length vs) sized, all_also (Fits T) (Fits (unsized T)) (fits_unsized T) vs all)
  fits_unsized (choice extensible more) v (inl (t, x, is, fits)) = inl (t, x, is, alternative_fits_unsized more t x fits)
  fits_unsized (choice extensible more) v (inr (t, w, is, marked, none, tag, octets)) = inr (t, w, is, marked, has_tag_same t more ∙ none, tag, octets)

  fields_fit_unsized : (fs : Fields) (ps : Places) → FitsFields fs ps → FitsFields (unsized_fields fs) ps
  fields_fit_unsized no_fields ps fits = fits
  fields_fit_unsized (field w need T fs) ps fits =
      place_also need (Fits T) (Fits (unsized T)) (FitsFields fs) (FitsFields (unsized_fields fs)) (fits_unsized T) (fields_fit_unsized fs) ps fits

  additions_fit_unsized : (more : Additions) (ps : Places) → FitsAdditions more ps → FitsAdditions (unsized_additions more) ps
  additions_fit_unsized no_additions ps fits = fits
  additions_fit_unsized (addition w T more) ps fits =
      place_also may (Fits T) (Fits (unsized T)) (FitsAdditions more) (FitsAdditions (unsized_additions more)) (fits_unsized T) (additions_fit_unsized more) ps fits

  alternative_fits_unsized : (more : Alternatives) (t : Tag) (v : AsnValue) → FitsAlternative more t v → FitsAlternative (unsized_alternatives more) t v
  alternative_fits_unsized no_alternatives t v fits = fits
  alternative_fits_unsized (alternative w u T more) t v fits =
      tag_also (same_tag u t) (Fits T) (Fits (unsized T)) (FitsAlternative more t) (FitsAlternative (unsized_alternatives more) t) (fits_unsized T)
      (alternative_fits_unsized more t) v fits
  alternative_fits_unsized (later w u T more) t v fits =
      tag_also (same_tag u t) (Fits T) (Fits (unsized T)) (FitsAlternative more t) (FitsAlternative (unsized_alternatives more) t) (fits_unsized T)
      (alternative_fits_unsized more t) v fits
