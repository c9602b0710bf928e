-- The tokens of a text stand in the order of their bytes, so that one is found by halving.
use Rattle.std.proofs.Common.{◌≡◌, ◌<◌, ◌≤◌, ◌+◌, ◌==◌, ℕ, zero, suc, Bool, true, false, List, [], ◌∷◌, drop, length, map, get_or, add-one, Option, Some, None, option_map, eq-eqb, refl, sym, ap, ◌∙◌, subst, arith}
use Rattle.std.proofs.Math.Seq.{drop-nil}
use Rattle.std.proofs.lemmas.Bool.{eqb-true, ne_eqb}
use Rattle.std.proofs.lemmas.List.{get_or_default}
use Rattle.std.proofs.lemmas.List.Sorted.{IsNonDecreasingBy-from_all_adjacent}
use Rattle.std.proofs.lemmas.Option.{slice_get-get_or, slice_get_read}
use Rattle.std.specs.Bool.{then_some}
use denote.Ref.{Bor}
use Rattle.oer_module_lexer.specs.Lexing.{Lexed, front_at, go, lex, lex_from}
use Rattle.oer_module_lexer.specs.Token.{Spot, Token, spots_of, token_of}
use Rattle.oer_module_lexer.specs.declared.lexing.Tokens.{Tokens}
use Rattle.oer_module_lexer.specs.declared.token.Spot.{Spot as RawSpot}
use Rattle.oer_modules.proofs.Walks.{lexed_texts, same_spots, token_none, token_on, token_over, token_stop}
use Rattle.oer_modules.specs.Places.{AreInOrder, ArePartedAt, lexed_of, token_at}

-- ---- each begins where the one before it begins, or behind

abbrev Rises : ℕ → List Spot → Type 0
Rises low [] = Unit {0}
Rises low (s ∷ ss) = (low ≤ s.at) × Rises s.at ss

rises_lower : (low high : ℕ) (ss : List Spot) → low ≤ high → Rises high ss → Rises low ss
rises_lower low high [] h r = tt
rises_lower low high (s ∷ ss) h r = (let first : high ≤ s.at = r.0 in omega arith, r.1)

rises_go : (more : ℕ → List ℕ → Lexed) → ((a : ℕ) (bs : List ℕ) → Rises a (more a bs).spots) → (at : ℕ) (bs : List ℕ) (o : Option (Option Token × ℕ)) → Rises at (go more at bs o).spots
rises_go more each at bs None = tt
rises_go more each at bs (Some (None, k)) = rises_lower at (at + k) (more (at + k) (drop k bs)).spots (omega arith) (each (at + k) (drop k bs))
rises_go more each at bs (Some (Some t, k)) = (omega arith, rises_lower at (at + k) (more (at + k) (drop k bs)).spots (omega arith) (each (at + k) (drop k bs)))

rises_from : (n at : ℕ) (bs : List ℕ) → Rises at (lex_from n at bs).spots
unfolding lex_from
rises_from zero at bs = tt
rises_from (suc n) at bs = rises_go (lex_from n) (rises_from n) at bs (front_at bs)

adjacent : (low : ℕ) (ss : List RawSpot) → Rises low (spots_of ss) → (k : ℕ) (d : RawSpot) → suc k < length ss → (get_or ss k d).at ≤ (get_or ss (suc k) d).at
adjacent low [] r k d h = absurd (omega arith)
adjacent low (s ∷ []) r k d h = absurd (omega arith)
adjacent low (s ∷ t ∷ ss) r zero d h = r.1.0
adjacent low (s ∷ t ∷ ss) r (suc k) d h = adjacent s.at (t ∷ ss) r.1 k d (omega arith)

pub in_order : (ss : List RawSpot) (t : List ℕ) → spots_of ss ≡ (lex t).spots → AreInOrder ss
in_order ss t same =
    let rises : Rises 0 (spots_of ss) = subst (Rises 0) (sym same) (rises_from (length t) 0 t) in
    IsNonDecreasingBy-from_all_adjacent (λ s. s.at) ss
    (λ k d h. let next : suc k < length ss = omega arith in subst (λ j. (get_or ss k d).at ≤ (get_or ss j d).at) (sym (add-one k)) (adjacent 0 ss rises k d next))

in_order_at : (ts : List (Bor (List ℕ))) (ks : List Tokens) (n : ℕ) (k : Tokens) (t : Bor (List ℕ)) → map lexed_of ks ≡ lexed_texts ts → n < length ts → n < length ks
    → k ≡ get_or ks n k → AreInOrder k.spots.items
in_order_at ts ks n k t same in_texts in_tokens is =
    in_order k.spots.items (get_or ts n t).now (same_spots ks ts n k (get_or ts n t) same (slice_get_read ks (length ks) n k refl in_tokens is) (slice_get-get_or ts n t in_texts))

pub tokens_in_order : (ts : List (Bor (List ℕ))) (ks : List Tokens) (n : ℕ) (k : Tokens) → map lexed_of ks ≡ lexed_texts ts → n < length ts → n < length ks
    → k ≡ get_or ks n k → AreInOrder k.spots.items
tokens_in_order [] ks n k same in_texts in_tokens is = absurd (omega arith)
tokens_in_order (t ∷ ts) ks n k same in_texts in_tokens is = in_order_at (t ∷ ts) ks n k t same in_texts in_tokens is

-- ---- where one is found

token_skip : (at : ℕ) (ss : List RawSpot) (i : ℕ) → i ≤ length ss → ((k : ℕ) (d : RawSpot) → k < i → (get_or ss k d).at < at)
    → token_at at (spots_of ss) ≡ token_at at (spots_of (drop i ss))
token_skip at ss zero l f = refl
token_skip at [] (suc i) l f = absurd (omega arith)
token_skip at (s ∷ ss) (suc i) l f =
    let less : s.at < at = f 0 s (omega arith) in
    token_on at s ss (ne_eqb s.at at (λ e. absurd (omega arith))) ∙ token_skip at ss i (omega arith) (λ k d h. f (suc k) d (omega arith))

token_beyond : (at : ℕ) (ss : List RawSpot) (i : ℕ) → ((k : ℕ) (d : RawSpot) → i ≤ k → k < length ss → at < (get_or ss k d).at)
    → token_at at (spots_of (drop i ss)) ≡ None
token_beyond at [] i f = ap (λ x. token_at at (spots_of x)) (drop-nil i) ∙ token_none at
token_beyond at (s ∷ ss) zero f =
    let more : at < s.at = f 0 s (omega arith) (omega arith) in
    token_on at s ss (ne_eqb s.at at (λ e. absurd (omega arith))) ∙ token_beyond at ss zero (λ k d l h. f (suc k) d (omega arith) (omega arith))
token_beyond at (s ∷ ss) (suc i) f = token_beyond at ss i (λ k d l h. f (suc k) d (omega arith) (omega arith))

module _ (at : ℕ) (ss : List RawSpot) (n : ℕ) (l : n ≤ length ss) (p : ArePartedAt at ss n) where
  pub token_absent : length ss ≤ n → token_at at (spots_of ss) ≡ None
  token_absent over = token_skip at ss n l p.before ∙ token_over at ss n over

  pub token_there : (d : RawSpot) → n < length ss → (get_or ss n d).at ≡ at → token_at at (spots_of ss) ≡ Some (token_of (get_or ss n d).token)
  token_there d less e = token_skip at ss n l p.before ∙ token_stop at ss n d less e

  pub token_not_there : (d : RawSpot) → AreInOrder ss → n < length ss → ((get_or ss n d).at ≡ at → ⊥) → token_at at (spots_of ss) ≡ None
  token_not_there d order less ne =
      let here : at ≤ (get_or ss n d).at = p.rest n d (omega arith) less in
      let more : at < (get_or ss n d).at = omega (arith, ne) in
      token_skip at ss n l p.before
      ∙ token_beyond at ss n (λ k e low h.
      let same : (get_or ss n d).at ≡ (get_or ss n e).at = ap (λ s. s.at) (get_or_default ss n d e less) in
      let later : (get_or ss n e).at ≤ (get_or ss k e).at = order n k e low h in
      omega arith)

  -- what is found at the first token that doesn't begin before the byte
  pub token_answer : (s : RawSpot) (b : Bool) → AreInOrder ss → n < length ss → s ≡ get_or ss n s → s.at == at ≡ b → token_at at (spots_of ss) ≡ option_map token_of (then_some b s.token)
  token_answer s true order less is h =
      token_there s less (ap (λ x. x.at) (sym is) ∙ eqb-true s.at at h) ∙ ap (λ x. Some (token_of x.token)) (sym is)
  token_answer s false order less is h =
      token_not_there s order less (λ e. let same : s.at == at ≡ true = eq-eqb s.at at (ap (λ x. x.at) is ∙ e) in absurd (let no : true ≡ false = sym same ∙ h in cc))
