-- Lists of tokens as the code has them, and as the definitions.
use Rattle.std.proofs.Common.{◌≡◌, ℕ, zero, suc, ◌+◌, ◌≤◌, ◌<◌, List, [], ◌∷◌, ◌++◌, length, take, drop, reverse, map, get_or, drop-cons, true, false, refl, sym, ap, ◌∙◌, arith, add-one, Result, Ok, Err}
use Rattle.std.proofs.lemmas.Grind.{reverse_onto}
use Rattle.std.proofs.lemmas.List.{take-map, drop-map, length-drop}
use Rattle.oer_module_lexer.specs.Token.{spot_of, spots_of, token_of}
use Rattle.oer_module_lexer.specs.declared.token.Sign.{Sign}
use Rattle.oer_module_lexer.specs.declared.token.Spot.{Spot as RawSpot}
use Rattle.oer_module_syntax.specs.Ranges.{goes_on, nest_next, none_open, groups_len, finished, starts_with_pair, pairs_len, starts_sign, prefix_at, base_at, value_at}
use Rattle.oer_module_syntax.specs.Modules.{is_end, control_len}
use Rattle.oer_module_syntax.specs.State.{State, past, ◌>>=◌}
use Rattle.oer_module_syntax.specs.declared.fault.Fault.{Fault}
use Rattle.oer_module_syntax.specs.declared.range.Extent.{Extent}
use Rattle.oer_module_syntax.specs.declared.range.Pair.TheVariants.{Choice}
use Rattle.oer_module_syntax.specs.declared.range.Pair.{Pair}

pub taken : (n : ℕ) (ss : List RawSpot) → spots_of (take n ss) ≡ take n (spots_of ss)
taken n ss = sym (take-map spot_of n ss)

pub left : (n : ℕ) (ss : List RawSpot) → spots_of (drop n ss) ≡ drop n (spots_of ss)
left n ss = sym (drop-map spot_of n ss)

-- behind the first token
pub behind : (ss : List RawSpot) → spots_of (drop 1 ss) ≡ drop 1 (spots_of ss)
behind ss = left 1 ss

pub spots_count : (ss : List RawSpot) → length (spots_of ss) ≡ length ss
spots_count [] = refl
spots_count (s ∷ ss) = ap suc (spots_count ss)

pub groups_more : (x : Extent) (s : State) (ss : List RawSpot) (cs : List Sign) → goes_on x (none_open cs) (spots_of ss) ≡ true
    → (groups_len x s (spots_of ss) cs ≡ (nest_next (spots_of ss) cs >>= λ more. groups_len x s (spots_of (drop 1 ss)) more >>= λ n. Ok (1 + n)))
    × (length ss ≡ length (drop 1 ss) + 1)
unfolding groups_len
groups_more x s [] cs h = absurd (cc)
groups_more x s (t ∷ ts) cs h = (rw h refl, rw add-one refl)

pub groups_over : (x : Extent) (s : State) (ss : List RawSpot) (cs : List Sign) → goes_on x (none_open cs) (spots_of ss) ≡ false → groups_len x s (spots_of ss) cs ≡ finished s cs
unfolding groups_len
groups_over x s [] cs h = refl
groups_over x s (t ∷ ts) cs h = rw h refl

counted_on : (r : Result ℕ Fault) (i : ℕ) → ((r >>= λ n. Ok (1 + n)) >>= λ k. Ok (i + k)) ≡ (r >>= λ k. Ok (i + 1 + k))
counted_on (Ok n) i = ap Ok (omega arith)
counted_on (Err e) i = refl

some_open : (cs : List Sign) (c : Sign) → none_open (cs ++ c ∷ []) ≡ false
some_open [] c = refl
some_open (d ∷ cs) c = refl

pub none_open_back : (cs : List Sign) → none_open (reverse cs) ≡ none_open cs
none_open_back [] = refl
none_open_back (c ∷ cs) = ap none_open (reverse_onto cs c []) ∙ some_open (reverse cs) c

-- The turns of the count, which is `whole` in all and has come to i
module _ (x : Extent) (s : State) (ss : List RawSpot) (cs : List Sign) (whole : Result ℕ Fault) (i : ℕ)
    (is : whole ≡ (groups_len x s (spots_of ss) cs >>= λ k. Ok (i + k))) where
  pub groups_turn : (more : List Sign) → goes_on x (none_open cs) (spots_of ss) ≡ true → nest_next (spots_of ss) cs ≡ Ok more
      → whole ≡ (groups_len x s (spots_of (drop 1 ss)) more >>= λ k. Ok (i + 1 + k))
  groups_turn more goes nested =
      is ∙ ap (λ g. g >>= λ k. Ok (i + k)) ((groups_more x s ss cs goes).0 ∙ ap (λ r. r >>= λ cs. groups_len x s (spots_of (drop 1 ss)) cs >>= λ n. Ok (1 + n)) nested)
      ∙ counted_on (groups_len x s (spots_of (drop 1 ss)) more) i

  pub groups_err : (e : Fault) → goes_on x (none_open cs) (spots_of ss) ≡ true → nest_next (spots_of ss) cs ≡ Err e → whole ≡ Err e
  groups_err e goes nested =
      is ∙ ap (λ g. g >>= λ k. Ok (i + k)) ((groups_more x s ss cs goes).0 ∙ ap (λ r. r >>= λ cs. groups_len x s (spots_of (drop 1 ss)) cs >>= λ n. Ok (1 + n)) nested)

  pub groups_unclosed : (e : Fault) → goes_on x (none_open cs) (spots_of ss) ≡ false → finished s cs ≡ Err e → whole ≡ Err e
  groups_unclosed e over done = is ∙ ap (λ g. g >>= λ k. Ok (i + k)) (groups_over x s ss cs over ∙ done)

  pub groups_end : goes_on x (none_open cs) (spots_of ss) ≡ false → finished s cs ≡ Ok 0 → whole ≡ Ok i
  groups_end over done = is ∙ ap (λ g. g >>= λ k. Ok (i + k)) (groups_over x s ss cs over ∙ done) ∙ ap Ok (omega arith)

pub pairs_more : (p : Pair) (ss : List RawSpot) → starts_with_pair p (spots_of ss) ≡ true
    → (pairs_len p (spots_of ss) ≡ pairs_len p (spots_of (drop 1 (drop 1 ss))) + 2) × (length ss ≡ length (drop 1 (drop 1 ss)) + 2)
unfolding pairs_len
pairs_more p [] h = absurd (cc)
pairs_more p (s ∷ []) h = absurd (cc)
pairs_more p (s ∷ t ∷ ts) h = (rw h (omega arith), omega arith)

pub pairs_over : (p : Pair) (ss : List RawSpot) → starts_with_pair p (spots_of ss) ≡ false → pairs_len p (spots_of ss) ≡ 0
unfolding pairs_len
pairs_over p [] h = refl
pairs_over p (s ∷ []) h = refl
pairs_over p (s ∷ t ∷ ts) h = rw h refl

pub value_read : (s : State) (k p n : ℕ) (q r : State) → k ≡ pairs_len Choice s.left → prefix_at (past k s) ≡ Ok (p, q) → base_at q ≡ Ok (n, r)
    → value_at s ≡ Ok (take (k + p + n) s.left, r)
unfolding value_at
value_read s k p n q r h f g = rw (sym h, f, g) refl

pub dropped : (n : ℕ) (ss : List RawSpot) → n ≤ length ss → length (drop n ss) + n ≡ length ss
dropped n ss h = let e = length-drop n ss in omega arith

pub sign_within : (g : Sign) (n : ℕ) (ss : List RawSpot) → starts_sign g (spots_of (drop n ss)) ≡ true → n < length ss
sign_within g zero [] h = absurd (cc)
sign_within g (suc n) [] h = absurd (cc)
sign_within g zero (s ∷ ss) h = omega arith
sign_within g (suc n) (s ∷ ss) h = let less = sign_within g n ss h in omega arith

-- how many tokens stand before END, token by token
control_here : (x : RawSpot) (ss : List RawSpot) → is_end (token_of x.token) ≡ true → control_len (spots_of (x ∷ ss)) ≡ 0
unfolding control_len
control_here x ss h = rw h refl

pub control_stop : (ss : List RawSpot) (n : ℕ) (x : RawSpot) → n < length ss → is_end (token_of (get_or ss n x).token) ≡ true
    → control_len (spots_of (drop n ss)) ≡ 0
control_stop ss n x less h = rw (drop-cons ss n x less) (control_here (get_or ss n x) (drop (suc n) ss) h)

control_on : (x : RawSpot) (ss : List RawSpot) → is_end (token_of x.token) ≡ false → control_len (spots_of (x ∷ ss)) ≡ suc (control_len (spots_of ss))
unfolding control_len
control_on x ss h = rw h refl

pub control_more : (ss : List RawSpot) (n : ℕ) (x : RawSpot) → n < length ss → is_end (token_of (get_or ss n x).token) ≡ false
    → control_len (spots_of (drop n ss)) ≡ suc (control_len (spots_of (drop (suc n) ss)))
control_more ss n x less h = rw (drop-cons ss n x less) (control_on (get_or ss n x) (drop (suc n) ss) h)

pub control_over : (ss : List RawSpot) (n : ℕ) → length ss ≤ n → control_len (spots_of (drop n ss)) ≡ 0
unfolding control_len
control_over [] zero h = refl
control_over [] (suc n) h = refl
control_over (s ∷ ss) zero h = absurd (omega arith)
control_over (s ∷ ss) (suc n) h = control_over ss n (omega arith)
