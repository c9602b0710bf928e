-- From a step of reading modules to the whole.
use Rattle.std.proofs.Common.{◌≡◌, ◌<◌, ◌+◌, ℕ, List, [], ◌∷◌, ◌++◌, length, map, take, get_or, Result, Ok, Err, Bor, inr, sym, ap, ◌∙◌, subst}
use Rattle.std.proofs.lemmas.List.{map_more, map_push}
use Rattle.std.specs.List.{All}
use Rattle.std.specs.Prelude.{IfErr, IfOk}
use Rattle.oer_module_syntax.specs.declared.fault.Why.TheVariants as fault
use Rattle.oer_module_text.specs.declared.error.Why.TheVariants as raws
use Rattle.oer_module_values.specs.declared.error.Why.TheVariants as told
use Rattle.oer_modules.specs.Defined.{types_of_modules}
use Rattle.oer_modules.specs.Refusals.{refusal_of}
use Rattle.oer_modules.specs.declared.refusal.Refusal.{Refusal as RawRefusal}
use Rattle.oer_notation.specs.declared.types.Types.{Types}
use Rattle.oer_c.specs.Modules.{AreUnderstood, IsStopBy, IsStopped, IsText, IsTypeless, Understands, at_place, texts_of}
use Rattle.oer_c.specs.declared.many.Message.{Message}
use Rattle.oer_c.specs.declared.modules.Stop.{Stop}
use Rattle.oer_c.specs.declared.modules.Stop.TheVariants.{Memory, Outside, NotUtf8, Refused, NoTypes}

-- the texts that references point at
abbrev pub now_of : List (Bor (List ℕ)) → List (List ℕ)
now_of ts = map (λ t. t.now) ts

-- one text more
pub texts_more : (octets : List ℕ) (places : List Message) (i : ℕ) (d : Message) (old : List (Bor (List ℕ))) (t : Bor (List ℕ)) → i < length places
    → t.now ≡ at_place octets (get_or places i d) → now_of old ≡ texts_of octets (take i places)
    → now_of (old ++ t ∷ []) ≡ texts_of octets (take (i + 1) places)
texts_more octets places i d old t less is before =
    map_push (λ (t : Bor (List ℕ)). t.now) old t
    ∙ ap (λ (ts : List (List ℕ)). ts ++ t.now ∷ []) before
    ∙ ap (λ (u : List ℕ). texts_of octets (take i places) ++ u ∷ []) is
    ∙ sym (map_more (at_place octets) places i d less)

-- What a refusal comes to stands for why the texts give no types.
pub stop_told : (ts : List (List ℕ)) (n : ℕ) (r : RawRefusal) (s : Stop) → IsStopBy r s
    → ((r.why ≡ raws.Unresolved (told.Unread fault.Memory) → ⊥) → types_of_modules ts n ≡ Err (refusal_of r)) → IsTypeless ts n s
stop_told ts n r Memory by gives = tt
stop_told ts n r (Outside k) by gives = absurd by
stop_told ts n r (NotUtf8 k at) by gives = absurd by
stop_told ts n r (Refused x) by gives = gives by.1 ∙ ap (λ (y : RawRefusal). Err (refusal_of y)) (sym by.0)
stop_told ts n r (NoTypes printed) by gives = absurd by

module _ (octets : List ℕ) (places : List Message) (nesting : ℕ) (ts : List (List ℕ)) (all : All (IsText octets) places) (is : ts ≡ texts_of octets places) where
  -- what the texts give, the places give
  pub read_there : {A : Type 0} (r : Result A Stop) (types : A → Types) → IfOk r (λ x. AreUnderstood ts nesting (types x))
      → IfOk r (λ x. Understands octets places nesting (types x))
  read_there (Ok x) types h = (all, subst (λ (us : List (List ℕ)). AreUnderstood us nesting (types x)) is h)
  read_there (Err s) types h = tt

  pub stopped_there : {A : Type 0} (r : Result A Stop) → IfErr r (IsTypeless ts nesting) → IfErr r (IsStopped octets places nesting)
  stopped_there (Ok x) h = tt
  stopped_there (Err s) h = inr (all, subst (λ (us : List (List ℕ)). IsTypeless us nesting s) is h)
