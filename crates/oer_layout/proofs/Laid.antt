-- Lines, as they are laid out.
use Rattle.std.proofs.Common.{◌≡◌, ◌∙◌, ℕ, ◌-◌, [], ◌∷◌, ◌++◌, length, max, ap, append_assoc, decimal}
use Rattle.std.specs.Prelude.{Result, Ok, Err, OnOk, if◌then◌else◌}
use Rattle.std.specs.Result.{is_ok}
use Rattle.oer_layout.specs.Text.{Text}
use Rattle.oer_layout.specs.Cells.{Cells}
use Rattle.oer_layout.specs.Layout.{gap, left, line_text, names_shown, right, value_shown}
use Rattle.oer_places.specs.Visible.{visible}
use Rattle.oer_layout.specs.declared.columns.Widths.{Widths}

flat_line : (t0 a b p m k v n g : Text)
    → ((((((t0 ++ (a ++ g)) ++ (b ++ g)) ++ (p ++ g)) ++ (m ++ g)) ++ (k ++ g)) ++ v) ++ n ≡ t0 ++ (a ++ (g ++ (b ++ (g ++ (p ++ (g ++ (m ++ (g ++ (k ++ (g ++ (v ++ n)))))))))))
flat_line t0 a b p m k v n g = simp append_assoc

-- the cells alone
pub cells_alone : (cells t0 t1 : Text) → t0 ≡ [] → t1 ≡ t0 ++ cells → t1 ≡ cells
cells_alone cells t0 t1 none e = e ∙ ap (λ x. x ++ cells) none

-- the line, as it is printed
pub line_shown : (cells t0 t1 t2 shown : Text) → shown ≡ cells → t1 ≡ t0 ++ visible shown → t2 ≡ t1 ++ 10 ∷ [] → t2 ≡ t0 ++ (visible cells ++ 10 ∷ [])
line_shown cells t0 t1 t2 shown so one two =
    two ∙ ap (λ x. x ++ 10 ∷ []) one ∙ append_assoc t0 (visible shown) (10 ∷ []) ∙ ap (λ s. t0 ++ (visible s ++ 10 ∷ [])) so

-- one cell after another
pub line_made : (w : Widths) (c : Cells) (t0 t1 t2 t3 t4 t5 t6 t7 value note : Text) (room : ℕ) → room ≡ max (w.value - length c.note) 12 → value ≡ c.value → note ≡ c.note
    → t1 ≡ t0 ++ (right w.offset (decimal c.offset) ++ gap) → t2 ≡ t1 ++ (right w.count (decimal c.count) ++ gap) → t3 ≡ t2 ++ (left w.path c.path ++ gap)
    → t4 ≡ t3 ++ (left w.names (names_shown w.names c.names) ++ gap) → t5 ≡ t4 ++ (left w.kind c.kind ++ gap) → t6 ≡ t5 ++ value_shown c.is_digits room value → t7 ≡ t6 ++ note
    → t7 ≡ t0 ++ line_text w c
line_made w c t0 t1 t2 t3 t4 t5 t6 t7 value note room r v n e1 e2 e3 e4 e5 e6 e7 =
    let six : t6 ≡ t5 ++ value_shown c.is_digits (max (w.value - length c.note) 12) c.value =
    e6 ∙ ap (λ x. t5 ++ value_shown c.is_digits x value) r ∙ ap (λ x. t5 ++ value_shown c.is_digits (max (w.value - length c.note) 12) x) v in
    rw (e7, n, six, e5, e4, e3, e2, e1) (flat_line t0 (right w.offset (decimal c.offset)) (right w.count (decimal c.count)) (left w.path c.path)
    (left w.names (names_shown w.names c.names)) (left w.kind c.kind) (value_shown c.is_digits (max (w.value - length c.note) 12) c.value) c.note gap)

pub pushed : {T E : Type 0} (r : Result T E) (new x old : Text) (P : Type 0) → new ≡ (if is_ok r then x else old) → (new ≡ x → P) → OnOk r P
pushed (Ok y) new x old P is so = so is
pushed (Err e) new x old P is so = tt
