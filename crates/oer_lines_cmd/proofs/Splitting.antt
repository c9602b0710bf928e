-- The lines of octets, one after another.
use Rattle.std.proofs.Common.{◌≡◌, ◌≢◌, ◌∙◌, ℕ, List, [], ◌∷◌, ◌++◌, cond, sym, ap, ne_eqb, append_assoc, append-nil}
use Rattle.std.proofs.lemmas.List.Elements.{All-head, All-tail}
use Rattle.std.specs.Io.BufRead.{strip_last}
use Rattle.oer_lines_cmd.specs.Lines.{HasNoFeed, lines, lines_from}

-- a line that a line feed ends, and those behind it
pub split_ended : (front q more : List ℕ) → HasNoFeed q → lines_from front (q ++ 10 ∷ more) ≡ strip_last 13 (front ++ q) ∷ lines more
split_ended front [] more free = ap (λ l. strip_last 13 l ∷ lines more) (sym (append-nil front))
split_ended front (x ∷ q) more free =
    ap (λ b. cond b (strip_last 13 front ∷ lines_from [] (q ++ 10 ∷ more)) (lines_from (front ++ x ∷ []) (q ++ 10 ∷ more)))
    (ne_eqb x 10 (All-head (λ y. y ≢ 10) x q free))
    ∙ split_ended (front ++ x ∷ []) q more (All-tail (λ y. y ≢ 10) x q free)
    ∙ ap (λ l. strip_last 13 l ∷ lines more) (append_assoc front (x ∷ []) q)

-- the last line
pub split_last : (front q : List ℕ) → HasNoFeed q → lines_from front q ≡ (front ++ q) ∷ []
split_last front [] free = ap (λ l. l ∷ []) (sym (append-nil front))
split_last front (x ∷ q) free =
    ap (λ b. cond b (strip_last 13 front ∷ lines_from [] q) (lines_from (front ++ x ∷ []) q)) (ne_eqb x 10 (All-head (λ y. y ≢ 10) x q free))
    ∙ split_last (front ++ x ∷ []) q (All-tail (λ y. y ≢ 10) x q free)
    ∙ ap (λ l. l ∷ []) (append_assoc front (x ∷ []) q)
