-- Entries, as they are taken.
use Rattle.std.proofs.Common.{◌≡◌, ◌∙◌, ℕ, List, [], ◌∷◌, ◌++◌, ap, ap₂, arith, length, map, refl, subst, sym}
use Rattle.std.proofs.lemmas.List.{length-map, map-append}
use Rattle.std.specs.List.{FoldsTo}
use Rattle.oer_model.specs.AsnType.{AsnType}
use Rattle.oer_rows.specs.Rows.{Line, again, line}
use Rattle.oer_rows.proofs.Folds.{folds_on}
use Rattle.oer_entries.specs.Entries.{ArePlaced, ArePlacedFor, AreTakenFor, TakesAtMostOne, spot_in, spot_of}
use Rattle.oer_entries.specs.Makes.{Makes, Stands, last_path, path_at}
use Rattle.oer_entries.specs.Trails.{IsWay}
use Rattle.oer_entries.specs.declared.entry.Entry.{Entry}
use Rattle.oer_entries.specs.declared.way.Way.{Way}
use Rattle.oer_entries.proofs.Tags.{head_is, tail_is}

module _ {E : Type 0} (takes : E → Entry → E → Type 0) where
  pub none_taken : (s : E) → TakesAtMostOne takes s s
  none_taken s = ([], omega arith, refl)

  pub one_taken : (s t : E) (e : Entry) → takes s e t → TakesAtMostOne takes s t
  one_taken s t e h = (e ∷ [], omega arith, (t, h, refl))

  at_line : {T : AsnType} {octets : List ℕ} (l : Line) (before b : List Line) (w : Way) → Stands T octets b (path_at l) w → Stands T octets b (last_path (l ∷ before)) w
  at_line (line n path role c) before b w h = h

  -- where the way stands that a row was noted on
  noted_on : (T : AsnType) (octets : List ℕ) (before : List Line) (l : Line) (v w : Way) → Stands T v.octets.now (again v.octets.now l ∷ before) (path_at l) w
      → v.octets.now ≡ octets → again octets l ≡ l → Stands T octets (l ∷ before) (last_path (l ∷ before)) w
  noted_on T octets before l v w stands reads same =
      let here : again v.octets.now l ≡ l = ap (λ o. again o l) reads ∙ same in
      let next = subst (λ o. Stands T o (again v.octets.now l ∷ before) (path_at l) w) reads stands in
      subst (λ x. Stands T octets (x ∷ before) (last_path (l ∷ before)) w) here (at_line l before (again v.octets.now l ∷ before) w next)

  -- an entry for each row, placed by the rows before it
  rows_placed : {M : Type 0} (taker : M → E) (way : M → Way) (T : AsnType) (octets : List ℕ) (before ls : List Line) (s t : M)
      → FoldsTo (λ p l q. Makes takes (taker p) (way p) l (taker q) (way q)) s ls t → Stands T octets before (last_path before) (way s) → map (again octets) ls ≡ ls
      → (es : List Entry) × (map spot_of es ≡ map spot_in ls) × ArePlaced T before ls es × FoldsTo takes (taker s) es (taker t)
  rows_placed taker way T octets before [] s t is stands same = ([], refl, tt, ap taker is)
  rows_placed taker way T octets before (l ∷ ls) s t (j, one, more) stands same =
      let own = subst (λ o. Stands T o before (last_path before) (way s)) (sym stands.reads) stands in
      let step = one T before own in
      let after = noted_on T octets before l (way s) (way j) step.0 stands.reads (head_is (again octets l) l (map (again octets) ls) ls same) in
      let rest = rows_placed taker way T octets (l ∷ before) ls j t more after (tail_is (again octets l) l (map (again octets) ls) ls same) in
      let e = step.1 in
      (e.0 ∷ rest.0, ap₂ (λ x xs. x ∷ xs) e.1 rest.1, (e.2, rest.2), (taker j, e.3, rest.3))

  -- the way behind the rows
  pub rows_lead : {M : Type 0} (taker : M → E) (way : M → Way) (T : AsnType) (octets : List ℕ) (before ls : List Line) (s t : M)
      → FoldsTo (λ p l q. Makes takes (taker p) (way p) l (taker q) (way q)) s ls t → Stands T octets before (last_path before) (way s) → map (again octets) ls ≡ ls
      → IsWay T (way t)
  rows_lead taker way T octets before [] s t is stands same = subst (λ m. IsWay T (way m)) is stands.leads
  rows_lead taker way T octets before (l ∷ ls) s t (j, one, more) stands same =
      let own = subst (λ o. Stands T o before (last_path before) (way s)) (sym stands.reads) stands in
      let step = one T before own in
      let after = noted_on T octets before l (way s) (way j) step.0 stands.reads (head_is (again octets l) l (map (again octets) ls) ls same) in
      rows_lead taker way T octets (l ∷ before) ls j t more after (tail_is (again octets l) l (map (again octets) ls) ls same)

  placed_more : (T : AsnType) (before ls : List Line) (es more : List Entry) → ArePlaced T before ls es → ArePlaced T before ls (es ++ more)
  placed_more T before [] es more h = tt
  placed_more T before (l ∷ ls) [] more h = absurd h
  placed_more T before (l ∷ ls) (e ∷ es) more (one, rest) = (one, placed_more T (l ∷ before) ls es more rest)

  -- and at most one more
  pub all_placed : {M : Type 0} (taker : M → E) (way : M → Way) (T : AsnType) (octets : List ℕ) (ls : List Line) (s t : M) (u : E)
      → FoldsTo (λ p l q. Makes takes (taker p) (way p) l (taker q) (way q)) s ls t → Stands T octets [] [] (way s) → map (again octets) ls ≡ ls
      → TakesAtMostOne takes (taker t) u → ArePlacedFor takes T ls (taker s) u
  all_placed taker way T octets ls s t u h stands same (more, few, last) =
      let x = rows_placed taker way T octets [] ls s t h stands same in
      let size : length (map spot_of more) ≡ length more = length-map more spot_of in (
        x.0 ++ more,
        (map spot_of more, omega (arith, few, size), map-append spot_of x.0 more ∙ ap (λ l. l ++ map spot_of more) x.1),
        placed_more T [] ls x.0 more x.2,
        folds_on takes (taker s) (taker t) u x.0 more x.3 last,
      )

  pub placed_taken : (T : AsnType) (ls : List Line) (s t : E) → ArePlacedFor takes T ls s t → AreTakenFor takes ls s t
  placed_taken T ls s t (es, rows, placed, all) = (es, rows, all)
