-- What the turns through a text and its tokens give.
use Rattle.std.proofs.Common.{◌≡◌, ◌<◌, ◌≤◌, ◌+◌, ◌==◌, ℕ, suc, Bool, true, false, List, [], ◌∷◌, drop, length, map, get_or, drop-cons, add-one, Option, Some, None, slice_get, option_map, refl, sym, ap, ◌∙◌, eq-eqb, arith, if◌then◌else◌}
use Rattle.std.proofs.Math.ListN.{drop_of_length-le}
use Rattle.std.proofs.lemmas.Option.{slice_get-get_or, slice_get-map, slice_get_read}
use Rattle.std.proofs.lemmas.Bool.{ne_eqb}
use denote.Ref.{Bor}
use Rattle.oer_module_lexer.specs.Lexing.{Lexed, lex}
use Rattle.oer_module_lexer.specs.Token.{Token, spots_of, token_of}
use Rattle.oer_module_lexer.specs.declared.lexing.Tokens.{Tokens}
use Rattle.oer_module_lexer.specs.declared.token.Spot.{Spot as RawSpot}
use Rattle.oer_modules.specs.Places.{behind, beyond, goes_on, lexed_of, point_at, point_in, position_at, token_at}
use Rattle.oer_modules.specs.declared.place.Position.{Position}

pub at_drop : {A : Type 0} (xs : List A) (i : ℕ) (d : A) → i < length xs → drop i xs ≡ get_or xs i d ∷ drop (i + 1) xs
at_drop xs i d l = drop-cons xs i d l ∙ ap (λ j. get_or xs i d ∷ drop j xs) (sym (add-one i))

pub past_drop : {A : Type 0} (xs : List A) (i : ℕ) → length xs ≤ i → drop i xs ≡ []
past_drop xs i l = drop_of_length-le xs l

behind_cons : (c : ℕ) (cs : List ℕ) (p : Position) → behind (c ∷ cs) p ≡ behind cs (beyond c p)
unfolding behind
behind_cons c cs p = refl

-- a byte more
pub behind_more : (bs : List ℕ) (i d : ℕ) (p : Position) → i < length bs → behind (drop i bs) p ≡ behind (drop (i + 1) bs) (beyond (get_or bs i d) p)
behind_more bs i d p l = ap (λ x. behind x p) (at_drop bs i d l) ∙ behind_cons (get_or bs i d) (drop (i + 1) bs) p

behind_none : (p : Position) → behind [] p ≡ p
unfolding behind
behind_none p = refl

-- no byte more
pub behind_over : (bs : List ℕ) (i : ℕ) (p : Position) → length bs ≤ i → behind (drop i bs) p ≡ p
behind_over bs i p l = ap (λ x. behind x p) (past_drop bs i l) ∙ behind_none p

token_here : (at : ℕ) (s : RawSpot) (ss : List RawSpot) → (s.at == at) ≡ true → token_at at (spots_of (s ∷ ss)) ≡ Some (token_of s.token)
unfolding token_at
token_here at s ss h = rw h refl

pub token_on : (at : ℕ) (s : RawSpot) (ss : List RawSpot) → (s.at == at) ≡ false → token_at at (spots_of (s ∷ ss)) ≡ token_at at (spots_of ss)
unfolding token_at
token_on at s ss h = rw h refl

pub token_stop : (at : ℕ) (ss : List RawSpot) (i : ℕ) (d : RawSpot) → i < length ss → (get_or ss i d).at ≡ at → token_at at (spots_of (drop i ss)) ≡ Some (token_of (get_or ss i d).token)
token_stop at ss i d l h = ap (λ x. token_at at (spots_of x)) (at_drop ss i d l) ∙ token_here at (get_or ss i d) (drop (i + 1) ss) (eq-eqb (get_or ss i d).at at h)

pub token_more : (at : ℕ) (ss : List RawSpot) (i : ℕ) (d : RawSpot) → i < length ss → ((get_or ss i d).at ≡ at → ⊥)
    → token_at at (spots_of (drop i ss)) ≡ token_at at (spots_of (drop (i + 1) ss))
token_more at ss i d l h = ap (λ x. token_at at (spots_of x)) (at_drop ss i d l) ∙ token_on at (get_or ss i d) (drop (i + 1) ss) (ne_eqb (get_or ss i d).at at h)

pub token_none : (at : ℕ) → token_at at (spots_of []) ≡ None
unfolding token_at
token_none at = refl

pub token_over : (at : ℕ) (ss : List RawSpot) (i : ℕ) → length ss ≤ i → token_at at (spots_of (drop i ss)) ≡ None
token_over at ss i l = ap (λ x. token_at at (spots_of x)) (past_drop ss i l) ∙ token_none at

-- ---- the tokens of texts

abbrev pub lexed_texts : List (Bor (List ℕ)) → List Lexed
lexed_texts ts = map (λ t. lex t.now) ts

lexed_get : (ks : List Tokens) (ts : List (Bor (List ℕ))) (i : ℕ) (k : Tokens) (t : Bor (List ℕ)) → map lexed_of ks ≡ lexed_texts ts
    → slice_get ks i ≡ Some k → slice_get ts i ≡ Some t → Some (lexed_of k) ≡ Some (lex t.now)
lexed_get ks ts i k t same a b =
    sym (slice_get-map lexed_of ks i ∙ ap (option_map lexed_of) a) ∙ ap (λ x. slice_get x i) same ∙ slice_get-map (λ t. lex t.now) ts i ∙ ap (option_map (λ t. lex t.now)) b

some_same : {A : Type 0} (x y : A) → Some x ≡ Some y → x ≡ y
some_same x y h = ap (λ o. from o x) h
  where
    from : {A : Type 0} → Option A → A → A
    from (Some a) d = a
    from None d = d

pub same_spots : (ks : List Tokens) (ts : List (Bor (List ℕ))) (i : ℕ) (k : Tokens) (t : Bor (List ℕ)) → map lexed_of ks ≡ lexed_texts ts
    → slice_get ks i ≡ Some k → slice_get ts i ≡ Some t → spots_of k.spots.items ≡ (lex t.now).spots
same_spots ks ts i k t same a b = ap (λ l. l.spots) (some_same (lexed_of k) (lex t.now) (lexed_get ks ts i k t same a b))

-- ---- how far a position goes

abbrev step : Bool → Bool → Position → Position
step a b p = if a then record { line = suc p.line; column = 1 } else if b then p else record { line = p.line; column = suc p.column }

step_within : (a b : Bool) (p : Position) → ((step a b p).line ≤ p.line + 1) × ((step a b p).column ≤ p.column + 1)
step_within true b p = (omega arith, omega arith)
step_within false true p = (omega arith, omega arith)
step_within false false p = (omega arith, omega arith)

pub beyond_within : (c : ℕ) (p : Position) → ((beyond c p).line ≤ p.line + 1) × ((beyond c p).column ≤ p.column + 1)
beyond_within c p = step_within (c == 10) (goes_on c) p

-- ---- a place in a text

pub point_there : (ts : List (Bor (List ℕ))) (ks : List Tokens) (n at : ℕ) (d : Bor (List ℕ)) (k : Tokens) (p : Position) (t : Option Token)
    → map lexed_of ks ≡ lexed_texts ts → n < length ts → n < length ks → k ≡ get_or ks n k → p ≡ position_at at (get_or ts n d).now → t ≡ token_at at (spots_of k.spots.items)
    → Some (record { text = n + 1; at = at; line = p.line; column = p.column; token = t }) ≡ point_at (map (λ t. t.now) ts) n at
point_there ts ks n at d k p t same in_texts in_tokens is_k is_p is_t =
    let text : slice_get ts n ≡ Some (get_or ts n d) = slice_get-get_or ts n d in_texts in
    let tokens : slice_get ks n ≡ Some k = slice_get_read ks (length ks) n k refl in_tokens is_k in
    let there : slice_get (map (λ t. t.now) ts) n ≡ Some (get_or ts n d).now = slice_get-map (λ t. t.now) ts n ∙ ap (option_map (λ t. t.now)) text in
    rw (add-one n, is_p, is_t, same_spots ks ts n k (get_or ts n d) same tokens text) (sym (ap (option_map (point_in n at)) there))
