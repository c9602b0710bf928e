-- The entries of rows are within the extents of octets.
use Rattle.std.proofs.Common.{◌≡◌, ◌≤◌, ℕ, List, [], ◌∷◌, ◌++◌, drop, length, map, Result, Ok, Err, arith, inl, inr, subst, sym}
use Rattle.oer_units.specs.declared.fault.ReadFault.{ReadFault}
use Rattle.oer_model.specs.AsnType.{AsnType}
use Rattle.oer_checker.specs.declared.verdict.Verdict.{Verdict}
use Rattle.oer_rows.specs.Listing.{rows_of}
use Rattle.oer_rows.specs.Rows.{Line, line}
use Rattle.oer_entries.specs.Entries.{AreOfRows, ArePlaced, spot_in, spot_of}
use Rattle.oer_entries.specs.Extents.{AreExtentsBy, AreWithin, ReachOverRows, extents_from, no_extents, row_extents, wider, with_rest}
use Rattle.oer_entries.specs.declared.entry.Entry.{Entry}
use Rattle.oer_entries.specs.declared.extents.Extents.{Extents}
use Rattle.oer_entries.proofs.Tags.{head_is, tail_is}

-- none of the numbers of x is above that of y
record Below (x y : Extents) : Type 0 where
  pub offset : x.offset ≤ y.offset
  pub count : x.count ≤ y.count
  pub path : x.path ≤ y.path
  pub names : x.names ≤ y.names
  pub kind : x.kind ≤ y.kind

below_self : (x : Extents) → Below x x
below_self x = record { offset = omega arith; count = omega arith; path = omega arith; names = omega arith; kind = omega arith }

below_on : (x y z : Extents) → Below x y → Below y z → Below x z
below_on x y z b c = record {
  offset = omega (arith, b.offset, c.offset);
  count = omega (arith, b.count, c.count);
  path = omega (arith, b.path, c.path);
  names = omega (arith, b.names, c.names);
  kind = omega (arith, b.kind, c.kind);
}

below_first : (x y : Extents) → Below x (wider x y)
below_first x y = record { offset = omega arith; count = omega arith; path = omega arith; names = omega arith; kind = omega arith }

below_other : (x y : Extents) → Below y (wider x y)
below_other x y = record { offset = omega arith; count = omega arith; path = omega arith; names = omega arith; kind = omega arith }

below_all : (T : AsnType) (before : List Line) (x : Extents) (ls : List Line) → Below x (extents_from T before x ls)
below_all T before x [] = below_self x
below_all T before x (l ∷ ls) =
    let y = wider x (row_extents T before l) in
    below_on x y (extents_from T (l ∷ before) y ls) (below_first x (row_extents T before l)) (below_all T (l ∷ before) y ls)

rows_within : (T : AsnType) (before : List Line) (x : Extents) (ls : List Line) (es : List Entry) (more : List (ℕ × List ℕ)) (z : Extents) → Below (extents_from T before x ls) z
    → map spot_of es ≡ map spot_in ls ++ more → ArePlaced T before ls es → AreWithin z ls es
rows_within T before x [] es more z b spots placed = tt
rows_within T before x (l ∷ ls) [] more z b spots placed = absurd placed
rows_within T before x (line n path role c ∷ ls) (e ∷ es) more z b spots ((p, q, k), rest) =
    let l = line n path role c in
    let r = row_extents T before l in
    let y = wider x r in
    let spot : spot_of e ≡ (n, c) = head_is (spot_of e) (n, c) (map spot_of es) (map spot_in ls ++ more) spots in
    let own = below_on r (extents_from T (l ∷ before) y ls) z (below_on r y (extents_from T (l ∷ before) y ls) (below_other x r) (below_all T (l ∷ before) y ls)) b in (
      (
        subst (λ (s : ℕ × List ℕ). s.0 ≤ z.offset) (sym spot) own.offset,
        subst (λ (s : ℕ × List ℕ). length s.1 ≤ z.count) (sym spot) own.count,
        subst (λ t. length t ≤ z.path) (sym p) own.path,
        subst (λ t. length t ≤ z.names) (sym q) own.names,
        subst (λ t. length t ≤ z.kind) (sym k) own.kind,
      ),
      rows_within T (l ∷ before) y ls es more z b (tail_is (spot_of e) (n, c) (map spot_of es) (map spot_in ls ++ more) spots) rest,
    )

below_rest : (n : ℕ) (rest : List ℕ) (x : Extents) → Below x (with_rest n rest x)
below_rest n [] x = below_self x
below_rest n (b ∷ rest) x = below_first x _

below_by : (octets : List ℕ) (verdict : Result Verdict ReadFault) (x y : Extents) → AreExtentsBy octets verdict x y → Below x y
below_by octets (Ok verdict) x y is = subst (Below x) (sym is) (below_rest verdict.octets (drop verdict.octets octets) x)
below_by octets (Err fault) x y (inl is) = subst (Below x) (sym is) (below_self x)
below_by octets (Err fault) x y (inr (more, is)) = subst (Below x) (sym is) (below_first x more)

pub reach_over_rows : ReachOverRows
reach_over_rows T octets x es (verdict, tells, extents) (more, few, spots) placed =
    let ls = rows_of T octets in
    rows_within T [] no_extents ls es more x (below_by octets verdict (extents_from T [] no_extents ls) x extents) spots placed
