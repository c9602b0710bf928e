-- The hops of names, one after another.
use Rattle.std.proofs.Common.{◌≡◌, ◌≤◌, ◌<◌, ℕ, suc, List, [], ◌∷◌, ◌++◌, length, drop, map, get_or, Result, Ok, Err, refl, sym, ap, ◌∙◌, append-nil, append_assoc, drop-cons}
use Rattle.std.specs.Borrow.{Bor}
use Rattle.oer_literals.proofs.Lists.{nothing_left}
use Rattle.oer_model.specs.AsnType.{AsnType}
use Rattle.oer_at.specs.Hops.{Lead, before_hops, hops_by, hops_from, named}
use Rattle.oer_at.specs.Names.{text_behind}
use Rattle.oer_at.specs.declared.hop.Hop.{Hop}
use Rattle.oer_at.specs.declared.hop.NameFault.{NameFault}
use Rattle.oer_at.specs.declared.hop.Wanted.{Wanted}

abbrev made : List Hop → Result (List Hop) NameFault
made hops = Ok hops

-- those hops, and then these
abbrev pub behind : List Hop → Result (List Hop) NameFault → Result (List Hop) NameFault
behind front (Ok hops) = Ok (front ++ hops)
behind front (Err fault) = Err fault

abbrev pub rest_of : List (Bor (List ℕ)) → ℕ → List (List ℕ)
rest_of names i = map text_behind (drop i names)

pub behind_none : (r : Result (List Hop) NameFault) → behind [] r ≡ r
behind_none (Ok hops) = refl
behind_none (Err fault) = refl

one_more : (front : List Hop) (hop : Hop) (r : Result (List Hop) NameFault) → behind front (before_hops hop r) ≡ behind (front ++ hop ∷ []) r
one_more front hop (Ok hops) = ap made (sym (append_assoc front (hop ∷ []) hops))
one_more front hop (Err fault) = refl

here : (i : ℕ) (names : List (Bor (List ℕ))) (o : Bor (List ℕ)) → i < length names → rest_of names i ≡ (get_or names i o).now ∷ rest_of names (suc i)
here i names o less = ap (map text_behind) (drop-cons names i o less)

pub next : (whole : Result (List Hop) NameFault) (front : List Hop) (i : ℕ) (T : AsnType) (names : List (Bor (List ℕ))) (o : Bor (List ℕ)) (lead : Lead)
    → i < length names → whole ≡ behind front (hops_from i T (rest_of names i)) → Ok lead ≡ named T (get_or names i o).now
    → whole ≡ behind (front ++ lead.0 ∷ []) (hops_from (suc i) lead.1 (rest_of names (suc i)))
next whole front i T names o lead less inv found =
    inv ∙ ap (λ l. behind front (hops_from i T l)) (here i names o less)
    ∙ ap (λ r. behind front (hops_by i r (λ U. hops_from (suc i) U (rest_of names (suc i))))) (sym found)
    ∙ one_more front lead.0 (hops_from (suc i) lead.1 (rest_of names (suc i)))

pub stops : (whole : Result (List Hop) NameFault) (front : List Hop) (i : ℕ) (T : AsnType) (names : List (Bor (List ℕ))) (o : Bor (List ℕ)) (w : Wanted)
    → i < length names → whole ≡ behind front (hops_from i T (rest_of names i)) → Err w ≡ named T (get_or names i o).now
    → whole ≡ Err (record { before = i; wanted = w })
stops whole front i T names o w less inv lost =
    inv ∙ ap (λ l. behind front (hops_from i T l)) (here i names o less)
    ∙ ap (λ r. behind front (hops_by i r (λ U. hops_from (suc i) U (rest_of names (suc i))))) (sym lost)

pub ends : (whole : Result (List Hop) NameFault) (front : List Hop) (i : ℕ) (T : AsnType) (names : List (Bor (List ℕ)))
    → length names ≤ i → whole ≡ behind front (hops_from i T (rest_of names i)) → whole ≡ Ok front
ends whole front i T names more inv =
    inv ∙ ap (λ l. behind front (hops_from i T (map text_behind l))) (nothing_left names i more) ∙ ap made (append-nil front)
