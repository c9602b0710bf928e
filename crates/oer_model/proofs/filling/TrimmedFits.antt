-- What is trimmed fits.
use Rattle.std.proofs.Common.{inl, inr, map, Bool, true, false, if◌then◌else◌, refl, sym, ap, ◌∙◌, subst}
use Rattle.std.proofs.lemmas.List.{length-map}
use Rattle.oer_units.specs.declared.tagging.Tag.{Tag}
use Rattle.oer_model.proofs.filling.FillFits.{Keeps, tag_keeps, all_keep, fill_listed}
use Rattle.oer_model.specs.AsnType.{Need, must, may, default, AsnType, sequence, extensible_sequence, sequence_of, choice, Fields, no_fields, field, Additions, no_additions, addition, Alternatives, no_alternatives, alternative, later}
use Rattle.oer_model.specs.AsnValue.{AsnValue, items, Places, absent, present}
use Rattle.oer_model.specs.Canonical.{same, trimmed_place, trimmed, trimmed_fields, trimmed_additions, trimmed_alternative}
use Rattle.oer_model.specs.Constraints.{same_tag, size_fits}
use Rattle.oer_model.specs.Filling.{filled}
use Rattle.oer_model.specs.Fits.{FitsPlace, Fits, FitsFields, FitsAdditions, FitsAlternative}

place_keeps : (need : Need) (h f : AsnValue → AsnValue) (g : Places → Places) (P : AsnValue → Type 0) (Q : Places → Type 0) → Keeps f P → Keeps g Q → Keeps (trimmed_place need h f g) (FitsPlace need P Q)
place_keeps must h f g P Q i j ps (v, rest, is, p, q) = (f v, g rest, ap (trimmed_place must h f g) is, i v p, j rest q)
place_keeps may h f g P Q i j ps (inl (v, rest, is, p, q)) = inl (f v, g rest, ap (trimmed_place may h f g) is, i v p, j rest q)
place_keeps may h f g P Q i j ps (inr (rest, is, q)) = inr (g rest, ap (trimmed_place may h f g) is, j rest q)
place_keeps (default x) h f g P Q i j ps (inl (v, rest, is, p, q)) = subst (FitsPlace (default x) P Q) (sym (ap (trimmed_place (default x) h f g) is)) (by_test (same (h v) (h x)))
  where
    by_test : (c : Bool) → FitsPlace (default x) P Q (if c then absent (g rest) else present (f v) (g rest))
    by_test true = inr (g rest, refl, j rest q)
    by_test false = inl (f v, g rest, refl, i v p, j rest q)
place_keeps (default x) h f g P Q i j ps (inr (rest, is, q)) = inr (g rest, ap (trimmed_place (default x) h f g) is, j rest q)

mutual
  pub trim_fits : (T : AsnType) → Keeps (trimmed T) (Fits T)
  trim_fits (sequence fs) v (root, is, p) = (trimmed_fields fs root, ap (trimmed (sequence fs)) is, fields_keep fs root p)
  trim_fits (extensible_sequence fs more) v (root, added, us, is, p, q, u) = (trimmed_fields fs root, trimmed_additions more added, us, ap (trimmed (extensible_sequence fs more)) is, fields_keep fs root p, adds_keep more added q, u)
  trim_fits (sequence_of size T) v (vs, is, n, a) =
      (map (trimmed T) vs, ap (trimmed (sequence_of size T)) is ∙ ap items (fill_listed (trimmed T) vs), ap (size_fits size) (length-map vs (trimmed T)) ∙ n, all_keep (trimmed T) (Fits T) (trim_fits T) vs a)
  trim_fits (choice extensible more) v (inl (t, x, is, p)) = inl (t, trimmed_alternative more t x, ap (trimmed (choice extensible more)) is, alts_keep more t x p)
  trim_fits (choice extensible more) v (inr (t, w, is, o, none, tag, octets)) = inr (t, w, ap (trimmed (choice extensible more)) is, o, none, tag, octets)
  trim_fits _ v p = p

  fields_keep : (fs : Fields) → Keeps (trimmed_fields fs) (FitsFields fs)
  fields_keep no_fields ps p = p
  fields_keep (field name need T fs) ps p = place_keeps need (filled T) (trimmed T) (trimmed_fields fs) (Fits T) (FitsFields fs) (trim_fits T) (fields_keep fs) ps p

  adds_keep : (more : Additions) → Keeps (trimmed_additions more) (FitsAdditions more)
  adds_keep no_additions ps p = p
  adds_keep (addition name T more) ps p = place_keeps may (filled T) (trimmed T) (trimmed_additions more) (Fits T) (FitsAdditions more) (trim_fits T) (adds_keep more) ps p

  alts_keep : (more : Alternatives) → (t : Tag) → Keeps (trimmed_alternative more t) (FitsAlternative more t)
  alts_keep no_alternatives t v p = p
  alts_keep (alternative name u T more) t v p = tag_keeps (same_tag u t) (trimmed T) (trimmed_alternative more t) (Fits T) (FitsAlternative more t) (trim_fits T) (alts_keep more t) v p
  alts_keep (later name u T more) t v p = tag_keeps (same_tag u t) (trimmed T) (trimmed_alternative more t) (Fits T) (FitsAlternative more t) (trim_fits T) (alts_keep more t) v p
