-- The loops over alternatives and numbers.
use Rattle.std.proofs.Common.{◌≡◌, ℕ, suc, ◌<◌, List, ◌∷◌, ◌++◌, length, drop, get_or, drop-cons, map, Ok, Err, sym, ap, ◌∙◌}
use Rattle.oer_module_names.specs.declared.error.Place.{Place}
use Rattle.oer_module_syntax.specs.Tree.{Module, element_of, elements_from}
use Rattle.oer_module_syntax.specs.declared.tree.Element.{Element as RawElement}
use Rattle.oer_module_text.specs.Errors.{Error, Read, ◌>>=◌}
use Rattle.oer_units.specs.declared.tagging.Tag.{Tag}
use Rattle.oer_module_tags.specs.Alternatives.{context_tag, context_tags, onto, own_tag, own_tags}

-- an error at a turn, where those found and those of what is left are all of them
pub context_err : (p : Place) (ns : List ℕ) (i : ℕ) (found : List Tag) (whole : Read (List Tag))
    → whole ≡ (context_tags p (drop i ns) >>= λ gs. Ok (found ++ gs))
    → (n : ℕ) (e : Error) → i < length ns → context_tag p (get_or ns i n) ≡ Err e → whole ≡ Err e
context_err p ns i found whole is n e less h =
    is ∙ ap (λ l. context_tags p l >>= λ gs. Ok (found ++ gs)) (drop-cons ns i n less)
    ∙ ap (λ r. (r >>= λ g. context_tags p (drop (suc i) ns) >>= λ gs. Ok (g ∷ gs)) >>= λ gs. Ok (found ++ gs)) h

pub own_err : (ms : List Module) (m : ℕ) (es : List RawElement) (i : ℕ) (found : List Tag) (whole : Read (List Tag))
    → whole ≡ (own_tags ms m (elements_from (map element_of (drop i es))) >>= λ gs. Ok (found ++ gs))
    → (x : RawElement) (e : Error) → i < length es → x ≡ get_or es i x → own_tag ms m (element_of x) ≡ Err e → whole ≡ Err e
own_err ms m es i found whole is x e less at h =
    is ∙ ap (λ l. own_tags ms m (elements_from (map element_of l)) >>= λ gs. Ok (found ++ gs)) (drop-cons es i x less)
    ∙ ap (λ r. (r >>= λ g. own_tags ms m (elements_from (map element_of (drop (suc i) es))) >>= λ gs. Ok (onto g gs)) >>= λ gs. Ok (found ++ gs))
    (ap (λ y. own_tag ms m (element_of y)) (sym at) ∙ h)
