-- The turns of the loop over the tokens of a text.
use Rattle.std.proofs.Common.{◌≡◌, ℕ, zero, suc, ◌+◌, ◌-◌, ◌≤◌, ◌<◌, List, [], ◌∷◌, ◌++◌, length, drop, ◌==◌, Some, None, refl, sym, ap, ◌∙◌, arith, append_assoc, append-nil, length-drop}
use Rattle.std.proofs.Math.Numerals.{sub-one}
use Rattle.oer_module_lexer.specs.Token.{Token, Spot}
use Rattle.oer_lexer.specs.Lexing.{is_over}
use Rattle.oer_module_lexer.specs.Lexing.{Lexed, front_at, ended, lex_from, lex}
use Rattle.oer_lexer.proofs.LexComplete.{suc_no_zero}

abbrev spot : ℕ → Token → Spot
spot at t = record { at = at; token = t }

-- what is read behind those found
abbrev pub behind : List Spot → Lexed → Lexed
behind found l = record { spots = found ++ l.spots; end = l.end; complete = l.complete }

abbrev with : List Spot → Lexed → Lexed
with spots l = record { spots = spots; end = l.end; complete = l.complete }

token_turn : (n at : ℕ) (rest : List ℕ) (t : Token) (k : ℕ) (found : List Spot) → 0 < n → front_at rest ≡ Some (Some t, k)
    → behind found (lex_from n at rest) ≡ behind (found ++ spot at t ∷ []) (lex_from (n - 1) (at + k) (drop k rest))
unfolding lex_from
token_turn zero at rest t k found some e = absurd (omega arith)
token_turn (suc n) at rest t k found some e = rw (e, sub-one) (ap (λ l. with l (lex_from n (at + k) (drop k rest))) (sym (append_assoc found (spot at t ∷ []) (lex_from n (at + k) (drop k rest)).spots)))

skip_turn : (n at : ℕ) (rest : List ℕ) (k : ℕ) (found : List Spot) → 0 < n → front_at rest ≡ Some (None, k)
    → behind found (lex_from n at rest) ≡ behind found (lex_from (n - 1) (at + k) (drop k rest))
unfolding lex_from
skip_turn zero at rest k found some e = absurd (omega arith)
skip_turn (suc n) at rest k found some e = rw (e, sub-one) refl

-- what the loop keeps, where total is how long the text is
pub record Keeps (all : Lexed) (found : List Spot) (total : ℕ) (rest : List ℕ) : Type 0 where
  pub fuel : ℕ
  pub enough : length rest ≤ fuel
  pub within : length rest ≤ total
  pub is : all ≡ behind found (lex_from fuel (total - length rest) rest)

module _ (all : Lexed) (total : ℕ) (rest : List ℕ) (k : ℕ) (some : 0 < k) (fits : k ≤ length rest) where
  pub keeps_token : (found : List Spot) (t : Token) → front_at rest ≡ Some (Some t, k) → Keeps all found total rest → Keeps all (found ++ spot (total - length rest) t ∷ []) total (drop k rest)
  keeps_token found t e kept =
      let w = kept.within in
      let f = kept.enough in
      let size = length-drop k rest in
      let place : total - length rest + k ≡ total - length (drop k rest) = omega arith in
      record {
        fuel = kept.fuel - 1;
        enough = omega arith;
        within = omega arith;
        is = kept.is ∙ token_turn kept.fuel (total - length rest) rest t k found (omega arith) e ∙ ap (λ a. behind (found ++ spot (total - length rest) t ∷ []) (lex_from (kept.fuel - 1) a (drop k rest))) place;
      }

  pub keeps_skip : (found : List Spot) → front_at rest ≡ Some (None, k) → Keeps all found total rest → Keeps all found total (drop k rest)
  keeps_skip found e kept =
      let w = kept.within in
      let f = kept.enough in
      let size = length-drop k rest in
      let place : total - length rest + k ≡ total - length (drop k rest) = omega arith in
      record {
        fuel = kept.fuel - 1;
        enough = omega arith;
        within = omega arith;
        is = kept.is ∙ skip_turn kept.fuel (total - length rest) rest k found (omega arith) e ∙ ap (λ a. behind found (lex_from (kept.fuel - 1) a (drop k rest))) place;
      }

nothing_more : (n at : ℕ) (rest : List ℕ) → front_at rest ≡ None → lex_from n at rest ≡ ended at rest
unfolding lex_from
nothing_more zero at rest e = refl
nothing_more (suc n) at rest e = rw e refl

pub keeps_end : (all : Lexed) (found : List Spot) (total : ℕ) (rest : List ℕ) → front_at rest ≡ None → Keeps all found total rest → all ≡ with found (ended (total - length rest) rest)
keeps_end all found total rest e kept = kept.is ∙ ap (behind found) (nothing_more kept.fuel (total - length rest) rest e) ∙ ap (λ l. with l (ended (total - length rest) rest)) (append-nil found)

pub keeps_start : (text : List ℕ) → Keeps (lex text) [] (length text) text
keeps_start text = record {
  fuel = length text;
  enough = omega arith;
  within = omega arith;
  is = let none : length text - length text ≡ 0 = omega arith in rw none refl;
}

pub empty_over : (bs : List ℕ) → length bs == 0 ≡ is_over bs
empty_over [] = refl
empty_over (c ∷ cs) = suc_no_zero (length cs)
