-- What is printed, one entry after another.
use Rattle.std.proofs.Common.{◌≡◌, ◌∙◌, ℕ, List, [], ◌∷◌, ◌++◌, Bool, true, false, Option, Some, None, codes, refl, sym, ap, subst, append_assoc, append-nil, string_bytes}
use Rattle.std.specs.Borrow.{MutBor}
use Rattle.std.specs.List.{FoldsTo}
use Rattle.std.specs.Io.KnownBytes.{Appends, append_known}
use Rattle.serde_json.specs.Written.{compact_text}
use Rattle.oer_layout.specs.Text.{Text}
use Rattle.oer_entries.specs.declared.entry.Entry.{Entry}
use Rattle.oer_layout.specs.Array.{array_text, object_of, objects_text, separator}
use Rattle.oer_layout.specs.Cells.{cells_of}
use Rattle.oer_layout.specs.Layout.{AreWidths, line_text, lines_text}
use Rattle.oer_layout.specs.Outgoing.{Begins, Grows, Sends, held, loan_of}
use Rattle.oer_layout.specs.Printing.{PrintsLine, PrintsLines, PrintsObject, PrintsObjects}
use Rattle.oer_layout.specs.Pages.{PrintsArrayOf, PrintsLinesOf}
use Rattle.oer_layout.specs.declared.columns.Widths.{Widths}
use Rattle.oer_model.specs.AsnType.{AsnType}
use Rattle.oer_rows.specs.Listing.{rows_of}
use Rattle.oer_entries.specs.Entries.{AreTakenFor}
use Rattle.oer_places.specs.Visible.{visible}
use Rattle.oer_layout.specs.declared.outgoing.Outgoing.{Outgoing}

appends_none : (a : Option (List ℕ)) → Appends a a []
appends_none None = tt
appends_none (Some xs) = sym (append-nil xs)

pub appends_on : (a b c : Option (List ℕ)) (x y : Text) → Appends a b x → Appends b c y → Appends a c (x ++ y)
appends_on None b c x y h k = tt
appends_on (Some xs) None c x y h k = absurd h
appends_on (Some xs) (Some ys) None x y h k = absurd k
appends_on (Some xs) (Some ys) (Some zs) x y h k = k ∙ ap (λ l. l ++ y) h ∙ append_assoc xs x y

pub text_pushed : (known : Option (List ℕ)) (old new more : Text) → new ≡ old ++ more → Appends (append_known known old) (append_known known new) more
text_pushed None old new more is = tt
text_pushed (Some xs) old new more is = ap (λ l. xs ++ l) is ∙ sym (append_assoc xs old more)

-- what stands before a text, and the text
pub object_added : (t0 t1 t2 said before text : Text) → t1 ≡ t0 ++ said → said ≡ before → t2 ≡ t1 ++ text → t2 ≡ t0 ++ (before ++ text)
object_added t0 t1 t2 said before text one is two =
    two ∙ ap (λ l. l ++ text) (one ∙ ap (λ l. t0 ++ l) is) ∙ append_assoc t0 before text

-- what was kept is written
pub text_sent : (known after : Option (List ℕ)) (text : Text) → Appends known after text → Appends (append_known known text) after []
text_sent None after text h = tt
text_sent (Some xs) None text h = absurd h
text_sent (Some xs) (Some ys) text h = h ∙ sym (append-nil (xs ++ text))

pub rest_written : (known after : Option (List ℕ)) (text end : Text) → Appends known after (text ++ end) → Appends (append_known known text) after end
rest_written None after text end h = tt
rest_written (Some xs) None text end h = absurd h
rest_written (Some xs) (Some ys) text end h = h ∙ sym (append_assoc xs text end)

known_none : (known : Option (List ℕ)) (text : Text) → text ≡ [] → append_known known text ≡ known
known_none None text is = refl
known_none (Some xs) text is = ap (λ l. Some (xs ++ l)) is ∙ ap (λ l. Some l) (append-nil xs)

begun : (known : Option (List ℕ)) (front : Text) → Appends known (append_known known front) front
begun None front = tt
begun (Some xs) front = refl

module _ {W : Type 0} (contents : W → Option (List ℕ)) where
  pub grows_none : (s : Outgoing W) → Grows contents s [] s
  grows_none s = record { loan = refl; adds = appends_none (held contents s) }

  pub grows_on : (s t u : Outgoing W) (x y : Text) → Grows contents s x t → Grows contents t y u → Grows contents s (x ++ y) u
  grows_on s t u x y h k = record {
    loan = k.loan ∙ h.loan;
    adds = appends_on (held contents s) (held contents t) (held contents u) x y h.adds k.adds;
  }

  -- all that was kept is written, and nothing is kept
  pub sent_grows : (s t : Outgoing W) → Sends contents s t → Grows contents s [] t
  sent_grows s t h = record {
    loan = h.loan;
    adds = subst (λ o. Appends (held contents s) o []) (sym (known_none (contents t.output.now) (string_bytes t.text) h.empty)) h.sent;
  }

  pub lines_printed : {S : Type 0} (out : S → Outgoing W) (widths : S → Widths) (es : List Entry) (s t : S)
      → FoldsTo (λ p e q. (widths q ≡ widths p) × PrintsLine contents (widths p) (out p) e (out q)) s es t
      → Grows contents (out s) (lines_text (widths s) es) (out t)
  lines_printed out widths [] s t is = subst (λ x. Grows contents (out s) [] (out x)) is (grows_none (out s))
  lines_printed out widths (e ∷ es) s t (j, (same, adds), more) =
      let shown : Text = visible (line_text (widths s) (cells_of e)) in
      let rest : Text = lines_text (widths s) es in
      let next : Grows contents (out j) rest (out t) = subst (λ w. Grows contents (out j) (lines_text w es) (out t)) same (lines_printed out widths es j t more) in
      subst (λ x. Grows contents (out s) x (out t)) (append_assoc shown (10 ∷ []) rest) (grows_on (out s) (out j) (out t) (shown ++ 10 ∷ []) rest adds next)

  pub objects_printed : {S : Type 0} (out : S → Outgoing W) (first : S → Bool) (es : List Entry) (s t : S)
      → FoldsTo (λ p e q. (first q ≡ false) × PrintsObject contents (first p) (out p) e (out q)) s es t
      → Grows contents (out s) (objects_text (first s) es) (out t)
  objects_printed out first [] s t is = subst (λ x. Grows contents (out s) [] (out x)) is (grows_none (out s))
  objects_printed out first (e ∷ es) s t (j, (later, adds), more) =
      let one : Text = separator (first s) ++ visible (compact_text (object_of e)) in
      let rest : Text = objects_text false es in
      let next : Grows contents (out j) rest (out t) = subst (λ b. Grows contents (out j) (objects_text b es) (out t)) later (objects_printed out first es j t more) in
      subst (λ x. Grows contents (out s) x (out t)) (append_assoc (separator (first s)) (visible (compact_text (object_of e))) rest)
      (grows_on (out s) (out j) (out t) one rest adds next)

  -- text is pushed to what is kept, and maybe some is written then
  pub text_grows : (s t u : Outgoing W) (text : Text) → loan_of t ≡ loan_of s → t.output.now ≡ s.output.now → string_bytes t.text ≡ string_bytes s.text ++ text
      → Grows contents t [] u → Grows contents s text u
  text_grows s t u text loan same is h =
      let adds : Appends (held contents s) (held contents t) text =
      subst (λ w. Appends (held contents s) (append_known (contents w) (string_bytes t.text)) text) (sym same)
      (text_pushed (contents s.output.now) (string_bytes s.text) (string_bytes t.text) text is) in
      subst (λ x. Grows contents s x u) (append-nil text) (grows_on s t u text [] (record { loan = loan; adds = adds }) h)

  -- all that is printed between begin and end
  pub all_printed : (front text end : Text) (output : MutBor W) (s t : Outgoing W) (last : Option (List ℕ)) → Begins contents front output s → Grows contents s text t → Appends (contents t.output.now) last (string_bytes t.text ++ end)
      → Appends (contents output.now) last (front ++ text ++ end)
  all_printed front text end output s t last begin h written =
      let first : Appends (contents output.now) (held contents s) front =
      subst (λ w. Appends (contents output.now) (append_known (contents w) (string_bytes s.text)) front) (sym begin.unchanged)
      (subst (λ b. Appends (contents output.now) (append_known (contents output.now) b) front) (sym begin.text) (begun (contents output.now) front)) in
      appends_on (contents output.now) (held contents t) last (front ++ text) end
      (appends_on (contents output.now) (held contents s) (held contents t) front text first h.adds) (rest_written (contents t.output.now) last (string_bytes t.text) end written)

  pub begins_with : (old front : Text) (output : MutBor W) (out : Outgoing W) → old ≡ front → Begins contents old output out → Begins contents front output out
  begins_with old front output out is h = subst (λ x. Begins contents x output out) is h

  pub lines_page : (width : ℕ) (T : AsnType) (b : List ℕ) (w : Widths) (output : MutBor W) (s t : Outgoing W) (last : Option (List ℕ)) → Begins contents [] output s → AreWidths width T b w
      → PrintsLines contents w T b s t → Appends (contents t.output.now) last (string_bytes t.text ++ []) → PrintsLinesOf width T b (contents output.now) last
  lines_page width T b w output s t last begin widths (es, are, grows) end = (
    lines_text w es,
    (es, are, (w, widths, refl)),
    subst (λ x. Appends (contents output.now) last x) (append-nil (lines_text w es))
        (all_printed [] (lines_text w es) [] output s t last begin grows end),
  )

  pub array_page : (T : AsnType) (b : List ℕ) (output : MutBor W) (s t : Outgoing W) (last : Option (List ℕ)) → Begins contents (codes "[") output s → PrintsObjects contents true T b s t
      → Appends (contents t.output.now) last (string_bytes t.text ++ 93 ∷ 10 ∷ []) → PrintsArrayOf T b (contents output.now) last
  array_page T b output s t last begin (es, are, grows) end =
      (array_text es, (es, are, refl), all_printed (codes "[") (objects_text true es) (93 ∷ 10 ∷ []) output s t last begin grows end)

  pub lines_of_rows : {S : Type 0} (out : S → Outgoing W) (widths : S → Widths) (T : AsnType) (b : List ℕ) (s t : S)
      → AreTakenFor (λ p e q. (widths q ≡ widths p) × PrintsLine contents (widths p) (out p) e (out q)) (rows_of T b) s t
      → PrintsLines contents (widths s) T b (out s) (out t)
  lines_of_rows out widths T b s t (es, are, taken) = (es, are, lines_printed out widths es s t taken)

  pub objects_of_rows : {S : Type 0} (out : S → Outgoing W) (first : S → Bool) (T : AsnType) (b : List ℕ) (s t : S)
      → AreTakenFor (λ p e q. (first q ≡ false) × PrintsObject contents (first p) (out p) e (out q)) (rows_of T b) s t
      → PrintsObjects contents (first s) T b (out s) (out t)
  objects_of_rows out first T b s t (es, are, taken) = (es, are, objects_printed out first es s t taken)
