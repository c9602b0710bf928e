-- What is measured of entries, one after another.
use Rattle.std.proofs.Common.{◌≡◌, ◌∙◌, ℕ, zero, suc, List, [], ◌∷◌, length, map, max, refl, sym, ap, subst, arith}
use Rattle.std.proofs.Math.Nat.{max-zero, zero-max}
use Rattle.std.specs.List.{FoldsTo}
use Rattle.oer_model.specs.AsnType.{AsnType}
use Rattle.oer_rows.specs.Listing.{rows_of}
use Rattle.oer_entries.specs.Entries.{AreOfRows, AreTakenFor}
use Rattle.oer_entries.specs.declared.entry.Entry.{Entry}
use Rattle.oer_entries.specs.declared.extents.Extents.{Extents}
use Rattle.oer_layout.specs.Cells.{Cells, cells_of}
use Rattle.oer_layout.specs.Layout.{AreWidths, digits_of, largest, most_of, unbounded, value_count, widest, with_cells, within}
use Rattle.oer_layout.specs.declared.columns.Widths.{Widths}

-- of those before, and of all of these
abbrev with_all : Widths → List Cells → Widths
with_all w cs = record {
  offset = max w.offset (largest (map (λ c. c.offset) cs));
  count = max w.count (largest (map (λ c. c.count) cs));
  path = max w.path (largest (map (λ c. length c.path) cs));
  names = max w.names (largest (map (λ c. length c.names) cs));
  kind = max w.kind (largest (map (λ c. length c.kind) cs));
  note = max w.note (largest (map (λ c. length c.note) cs));
  value = max w.value (largest (map value_count cs));
}

none_more : (w : Widths) → w ≡ with_all w []
none_more w = simp max-zero

max_assoc : (a b c : ℕ) → max (max a b) c ≡ max a (max b c)
max_assoc a b c = omega arith

one_more : (w : Widths) (c : Cells) (cs : List Cells) → with_all (with_cells w c) cs ≡ with_all w (c ∷ cs)
one_more w c cs = simp max_assoc

all_measured : {S : Type 0} (widths : S → Widths) (es : List Entry) (s t : S) → FoldsTo (λ p e q. widths q ≡ with_cells (widths p) (cells_of e)) s es t
    → widths t ≡ with_all (widths s) (map cells_of es)
all_measured widths [] s t is = ap widths (sym is) ∙ none_more (widths s)
all_measured widths (e ∷ es) s t (j, step, more) =
    all_measured widths es j t more ∙ ap (λ w. with_all w (map cells_of es)) step ∙ one_more (widths s) (cells_of e) (map cells_of es)

abbrev pub none : Widths
none = record { offset = 0; count = 0; path = 0; names = 0; kind = 0; note = 0; value = 0 }

from_none : (cs : List Cells) → with_all none cs ≡ most_of cs
from_none cs = simp zero-max

pub rows_measured : {S : Type 0} (widths : S → Widths) (T : AsnType) (b : List ℕ) (s t : S) → widths s ≡ none
    → AreTakenFor (λ p e q. widths q ≡ with_cells (widths p) (cells_of e)) (rows_of T b) s t
    → (es : List Entry) × AreOfRows (rows_of T b) es × (widths t ≡ most_of (map cells_of es))
rows_measured widths T b s t start (es, are, taken) =
    (es, are, all_measured widths es s t taken ∙ ap (λ w. with_all w (map cells_of es)) start ∙ from_none (map cells_of es))

pub widest_made : (v : Widths) (cs : List Cells) (offset count : ℕ) → v ≡ most_of cs → offset ≡ digits_of v.offset → count ≡ digits_of v.count
    → record v { offset = offset; count = count } ≡ widest cs
widest_made v cs offset count is o n =
    ap (λ a. record v { offset = a; count = count }) o ∙ ap (λ a. record v { offset = digits_of v.offset; count = a }) n
    ∙ ap (λ (u : Widths). record u { offset = digits_of u.offset; count = digits_of u.count }) is

-- ---- with a bound, and without

pub unbounded_widths : (n : ℕ) (T : AsnType) (b : List ℕ) (w : Widths) (x : Extents) → n ≡ 0 → w ≡ unbounded x → AreWidths n T b w
unbounded_widths n T b w x none is = subst (λ k. AreWidths k T b w) (sym none) (x, is)

pub bounded_widths : (n : ℕ) (T : AsnType) (b : List ℕ) (v w : Widths) → (n ≡ 0 → ⊥)
    → (es : List Entry) × AreOfRows (rows_of T b) es × (v ≡ widest (map cells_of es)) → w ≡ within n v
    → AreWidths n T b w
bounded_widths zero T b v w some measured is = absurd (some refl)
bounded_widths (suc n) T b v w some (es, are, most) is = (es, are, is ∙ ap (within (suc n)) most)
