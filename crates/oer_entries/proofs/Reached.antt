-- Entries, as they are measured.
use Rattle.std.proofs.Common.{◌≡◌, ◌∙◌, ℕ, List, [], ◌∷◌, ap, drop, length, map, refl, subst, sym, Result}
use Rattle.std.specs.List.{FoldsTo}
use Rattle.oer_model.specs.AsnType.{AsnType}
use Rattle.oer_units.specs.declared.fault.ReadFault.{ReadFault}
use Rattle.oer_checker.specs.declared.verdict.Verdict.{Verdict}
use Rattle.oer_rows.specs.Listing.{Covers, rows_of}
use Rattle.oer_rows.specs.Rows.{Line, again, line}
use Rattle.oer_entries.specs.Extents.{extents_from, no_extents, of_entry, row_extents, wider, with_rest}
use Rattle.oer_entries.specs.Makes.{Measures, Stands, last_path, path_at}
use Rattle.oer_entries.specs.declared.extents.Extents.{Extents}
use Rattle.oer_entries.specs.declared.way.Way.{Way}
use Rattle.oer_entries.proofs.Again.{kept_all}
use Rattle.oer_entries.proofs.Tags.{head_is, tail_is}

pub rows_measured : {M : Type 0} (way : M → Way) (extents : M → Extents) (T : AsnType) (octets : List ℕ) (before ls : List Line) (s t : M)
    → FoldsTo (λ p l q. Measures (way p) (extents p) l (way q) (extents q)) s ls t → Stands T octets before (last_path before) (way s) → map (again octets) ls ≡ ls
    → (extents t ≡ extents_from T before (extents s) ls) × ((way t).octets.now ≡ octets)
rows_measured way extents T octets before [] s t is stands same = (ap extents (sym is), subst (λ x. (way x).octets.now ≡ octets) is stands.reads)
rows_measured way extents T octets before (l ∷ ls) s t (j, one, more) stands same =
    let own = subst (λ o. Stands T o before (last_path before) (way s)) (sym stands.reads) stands in
    let step = one T before own in
    let here : again (way s).octets.now l ≡ l = ap (λ o. again o l) stands.reads ∙ head_is (again octets l) l (map (again octets) ls) ls same in
    let next = subst (λ o. Stands T o (again (way s).octets.now l ∷ before) (path_at l) (way j)) stands.reads step.0 in
    let after = subst (λ x. Stands T octets (x ∷ before) (last_path (l ∷ before)) (way j)) here (at_line l before (again (way s).octets.now l ∷ before) (way j) next) in
    let rest = rows_measured way extents T octets (l ∷ before) ls j t more after (tail_is (again octets l) l (map (again octets) ls) ls same) in
    (rest.0 ∙ ap (λ x. extents_from T (l ∷ before) x ls) step.1, rest.1)
  where
    at_line : {T : AsnType} {octets : List ℕ} (l : Line) (before b : List Line) (w : Way) → Stands T octets b (path_at l) w → Stands T octets b (last_path (l ∷ before)) w
    at_line (line n path role c) before b w h = h

pub entry_measured : (x y : Extents) (offset n : ℕ) (b p q k path names kind : List ℕ) → n ≡ length b
    → y ≡ wider x (of_entry offset n p q k) → p ≡ path → q ≡ names → k ≡ kind
    → y ≡ wider x (of_entry offset (length b) path names kind)
entry_measured x y offset n b p q k path names kind long is e f g = rw (sym e, sym f, sym g, sym long) is

pub all_measured : {M : Type 0} (way : M → Way) (extents : M → Extents) (T : AsnType) (octets : List ℕ) (verdict : Result Verdict ReadFault) (s t : M)
    → FoldsTo (λ p l q. Measures (way p) (extents p) l (way q) (extents q)) s (rows_of T octets) t → Stands T octets [] [] (way s) → Covers octets (rows_of T octets) verdict
    → extents s ≡ no_extents → (extents t ≡ extents_from T [] no_extents (rows_of T octets)) × ((way t).octets.now ≡ octets)
all_measured way extents T octets verdict s t h stands covers none =
    let x = rows_measured way extents T octets [] (rows_of T octets) s t h stands (kept_all octets verdict (rows_of T octets) covers) in
    (x.0 ∙ ap (λ y. extents_from T [] y (rows_of T octets)) none, x.1)

pub followed : (octets own : List ℕ) (n : ℕ) (r z x : Extents) → own ≡ octets → r ≡ z → x ≡ with_rest n (drop n own) r → x ≡ with_rest n (drop n octets) z
followed octets own n r z x same is h = h ∙ ap (λ o. with_rest n (drop n o) r) same ∙ ap (with_rest n (drop n octets)) is
