-- The loop over the items of an ENUMERATED.
use Rattle.std.proofs.Common.{◌≡◌, ℕ, suc, ◌<◌, List, ◌∷◌, ◌++◌, length, drop, get_or, drop-cons, map, Ok, Err, ap, ◌∙◌}
use Rattle.oer_model.specs.AsnType.{NamedNumber}
use Rattle.oer_module_text.specs.Errors.{Error, Read, ◌>>=◌}
use Rattle.oer_module_leaves.specs.Numbered.{item_of}
use Rattle.oer_module_leaves.specs.Shapes.{named_at, named_items}
use Rattle.oer_module_leaves.specs.declared.numbered.NumberedItem.{NumberedItem as RawItem}

-- where an item has an error, all of them have it
module _ (m : ℕ) (xs : List RawItem) (i : ℕ) (found : List NamedNumber) (whole : Read (List NamedNumber))
    (h : whole ≡ (named_items m (map item_of (drop i xs)) >>= λ ns. Ok (found ++ ns))) where
  pub items_err : (x : RawItem) {e : Error} → i < length xs → named_at m (item_of (get_or xs i x)) ≡ Err e → whole ≡ Err e
  items_err x less fails =
      h ∙ ap (λ l. named_items m (map item_of l) >>= λ ns. Ok (found ++ ns)) (drop-cons xs i x less)
      ∙ ap (λ q. (q >>= λ n. named_items m (map item_of (drop (suc i) xs)) >>= λ ns. Ok (n ∷ ns)) >>= λ ns. Ok (found ++ ns)) fails
