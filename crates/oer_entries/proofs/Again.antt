-- Rows that cover octets are those octets, where they say that they stand.
use Rattle.std.proofs.Common.{◌≡◌, ◌≤◌, ◌+◌, ◌-◌, ℕ, List, [], ◌∷◌, ◌++◌, length, take, drop, map, Result, Ok, Err, refl, sym, ap, ap₂, ◌∙◌, arith, length-append, length-drop}
use Rattle.std.proofs.Math.Seq.{take-append_seam}
use Rattle.std.proofs.lemmas.List.{drop-drop}
use Rattle.oer_units.specs.declared.fault.ReadFault.{ReadFault}
use Rattle.oer_checker.specs.declared.verdict.Verdict.{Verdict}
use Rattle.oer_rows.specs.Listing.{Cover, Covers}
use Rattle.oer_rows.specs.Rows.{Line, again, line}

drop_front : (b more : List ℕ) → drop (length b) (b ++ more) ≡ more
drop_front [] more = refl
drop_front (x ∷ b) more = drop_front b more

drop_on : (n : ℕ) (m : ℕ) (l : List ℕ) → drop n (drop m l) ≡ drop (m + n) l
drop_on n m l = drop-drop n m l

again_all : (whole octets : List ℕ) (k : ℕ) (ls : List Line) (rest : List ℕ) → octets ≡ drop k whole → k ≤ length whole → Cover (length whole) octets ls rest → map (again whole) ls ≡ ls
again_all whole octets k [] rest is le h = refl
again_all whole octets k (line offset path role b ∷ ls) rest is le (more, split, at_it, h) =
    let long : length octets ≡ length whole - k = ap length is ∙ length-drop k whole in
    let here : offset ≡ k = omega (arith, at_it, long, le) in
    let parts : length octets ≡ length b + length more = ap length split ∙ length-append b more in
    let own : take (length b) (drop offset whole) ≡ b =
    ap (λ (n : ℕ). take (length b) (drop n whole)) here ∙ ap (take (length b)) (sym is ∙ split) ∙ take-append_seam b more in
    let next : more ≡ drop (k + length b) whole = sym (ap (drop (length b)) split ∙ drop_front b more) ∙ ap (drop (length b)) is ∙ drop_on (length b) k whole in
    ap₂ (λ (l : Line) (xs : List Line). l ∷ xs) (ap (line offset path role) own)
    (again_all whole more (k + length b) ls rest next (omega (arith, parts, long, le)) h)

pub kept_all : (octets : List ℕ) (verdict : Result Verdict ReadFault) (ls : List Line) → Covers octets ls verdict → map (again octets) ls ≡ ls
kept_all octets (Ok v) ls h = again_all octets octets 0 ls (drop v.octets octets) refl (omega arith) h
kept_all octets (Err e) ls h = again_all octets octets 0 ls h.0 refl (omega arith) h.1
