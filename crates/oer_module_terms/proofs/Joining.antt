-- Elements that a mark follows, and those behind it.
use Rattle.std.proofs.Common.{◌≡◌, ◌∷◌, suc, List, [], length, true, not, Ok, subst, refl}
use Rattle.oer_module_syntax.specs.Modules.{many}
use Rattle.oer_module_syntax.specs.State.{State, Read, bump}
use Rattle.oer_module_terms.specs.Constraints.{at_mark, joined, joined_by}
use Rattle.oer_module_terms.specs.Trees.{Elements, sets_from}
use Rattle.oer_module_terms.specs.declared.constraint.Mark.{Mark}

pub several_joined : (m : Mark) (one : State → Read Elements) {s r q : State} {e x : Elements} {xs es : List Elements}
    → one s ≡ Ok (e, r) → at_mark m r ≡ true → xs ≡ e ∷ []
    → many (λ s. not (at_mark m s)) (λ s. one (bump s)) (suc (length r.left)) xs r ≡ Ok (es, q)
    → x ≡ joined_by m (sets_from es) → joined m one s ≡ Ok (x, q)
several_joined m one {s} {r} {q} {e} {x} {xs} {es} first marked only more is =
    let all = subst (λ l. many (λ s. not (at_mark m s)) (λ s. one (bump s)) (suc (length r.left)) l r ≡ Ok (es, q)) only more in
    rw (first, marked, all, is) refl
