-- The loop over items that takes the number that each is given.
use Rattle.std.proofs.Common.{◌≡◌, ℕ, suc, ℤ, ◌<◌, List, ◌∷◌, ◌++◌, length, drop, get_or, drop-cons, map, Option, Result, Ok, Err, ap, ◌∙◌}
use Rattle.oer_module_syntax.specs.Tree.{Module}
use Rattle.oer_module_terms.specs.Trees.{item_of}
use Rattle.oer_module_terms.specs.declared.tree.Item.{Item as RawItem}
use Rattle.oer_module_values.specs.Errors.{Error, ◌>>=◌}
use Rattle.oer_module_values.specs.Numbers.{given_number, given_numbers}

-- an error at a turn, where those found and those of what is left are all of them
pub given_err : (ms : List Module) (m : ℕ) (xs : List RawItem) (i : ℕ) (found : List (Option ℤ)) (whole : Result (List (Option ℤ)) Error)
    → whole ≡ (given_numbers ms m (map item_of (drop i xs)) >>= λ ns. Ok (found ++ ns))
    → (x : RawItem) (e : Error) → i < length xs → given_number ms m (item_of (get_or xs i x)) ≡ Err e → whole ≡ Err e
given_err ms m xs i found whole is x e less h =
    is ∙ ap (λ l. given_numbers ms m (map item_of l) >>= λ ns. Ok (found ++ ns)) (drop-cons xs i x less)
    ∙ ap (λ q. (q >>= λ n. given_numbers ms m (map item_of (drop (suc i) xs)) >>= λ ns. Ok (n ∷ ns)) >>= λ ns. Ok (found ++ ns)) h
