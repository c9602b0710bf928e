-- The value of a default is taken as it stands.
use Rattle.std.proofs.Common.{◌≡◌, ℕ, zero-add, List, [], ◌∷◌, ◌++◌, Bool, true, false, cond, not, ◌&&◌, Ok, refl, ap₂, subst, append-nil}
use Rattle.std.specs.Prelude.{codes}
use Rattle.std.specs.Int.{Width}
use Rattle.std.proofs.Math.Seq.{take-append_seam, drop-append_seam}
use Rattle.oer_lexer.specs.Characters.{starts_with, hyphen}
use Rattle.oer_lexer.specs.Token as notation
use Rattle.oer_lexer.specs.declared.token.Sign.TheVariants as signs
use Rattle.oer_model.specs.AsnType.{AsnType}
use Rattle.oer_model.specs.AsnValue.{AsnValue}
use Rattle.oer_module_lexer.specs.Token.{Token, Spot, word, number, bits, digits, text, sign}
use Rattle.oer_module_lexer.specs.declared.token.Sign.TheVariants.{OpenBrace, CloseBrace, Colon, Hyphen, Point}
use Rattle.oer_module_syntax.specs.Ranges.{atom_at, is_any_word, is_reserved_value, is_value_word, pairs_len, prefix_at, starts_sign, starts_with_pair, value_at}
use Rattle.oer_module_syntax.specs.Words.{is_identifier}
use Rattle.oer_module_syntax.specs.declared.range.Pair.{Pair}
use Rattle.oer_module_syntax.specs.declared.range.Pair.TheVariants.{Step, Choice}
use Rattle.oer_notation.specs.Grammar.{IsInteger, an_integer, IsValue, true_value, false_value, null_value, number_value, item_value, octets_value, digit_bits_value, bits_value, text_value, utf8_value, arcs_value}
use Rattle.oer_same_tokens.specs.Same.{same_token, same_tokens}
use Rattle.oer_same_trees.proofs.Flat.{Flat, closing, flat}
use Rattle.oer_same_trees.proofs.Grows.{arcs_grow}
use Rattle.oer_same_trees.proofs.Groups.{Closing, opened_len}
use Rattle.oer_same_trees.proofs.Placed.{Placed, none_placed, placed, before, spot}
use Rattle.oer_same_trees.proofs.Words.{and_false, id_small, small_value, value_word}

-- what stands behind a value and doesn't go on with it
pub record EndsValue (rest : List Spot) : Type 0 where
  pub no_brace : starts_sign OpenBrace rest ≡ false
  pub no_point : starts_sign Point rest ≡ false
  pub no_colon : starts_sign Colon rest ≡ false

pub no_pairs : (p : Pair) (ts : List Spot) → starts_with_pair p ts ≡ false → pairs_len p ts ≡ 0
unfolding pairs_len
no_pairs p [] h = refl
no_pairs p (t ∷ []) h = refl
no_pairs p (t ∷ u ∷ us) h = rw h refl

pub no_steps : (ts : List Spot) → starts_sign Point ts ≡ false → pairs_len Step ts ≡ 0
no_steps ts h = no_pairs Step ts (first ts h)
  where
    first : (ts : List Spot) → starts_sign Point ts ≡ false → starts_with_pair Step ts ≡ false
    first [] h = refl
    first (t ∷ []) h = refl
    first (t ∷ u ∷ us) h = rw h refl

no_choices : (t : Spot) (ts : List Spot) → starts_sign Colon ts ≡ false → pairs_len Choice (t ∷ ts) ≡ 0
no_choices t ts h = no_pairs Choice (t ∷ ts) (second ts h)
  where
    second : (ts : List Spot) → starts_sign Colon ts ≡ false → starts_with_pair Choice (t ∷ ts) ≡ false
    second [] h = refl
    second (u ∷ us) h = rw h refl

no_word : (t : Spot) (ts : List Spot) → is_any_word t.token ≡ false → pairs_len Choice (t ∷ ts) ≡ 0
no_word t ts h = no_pairs Choice (t ∷ ts) (second ts)
  where
    second : (ts : List Spot) → starts_with_pair Choice (t ∷ ts) ≡ false
    second [] = refl
    second (u ∷ us) = and_false _ (is_any_word t.token) h

module _ (end : ℕ) (complete : Bool) (rest : List Spot) (ends : EndsValue rest) where
  Takes : List Spot → Type 0
  Takes ms = value_at (before end complete (ms ++ rest)) ≡ Ok (ms, before end complete rest)

  takes_word : (at : ℕ) (w : List ℕ) → is_value_word w ≡ true → not (is_identifier w) && not (is_reserved_value w) ≡ false → Takes (spot at (word w) ∷ [])
  unfolding Takes value_at prefix_at atom_at
  takes_word at w h g = rw (no_choices (spot at (word w)) rest ends.no_colon, g, h, no_steps rest ends.no_point, ends.no_brace) refl

  takes_bits : (at : ℕ) (w : List ℕ) → Takes (spot at (bits w) ∷ [])
  unfolding Takes value_at prefix_at atom_at
  takes_bits at w = rw (no_word (spot at (bits w)) rest refl) refl

  takes_digits : (at : ℕ) (w : List ℕ) → Takes (spot at (digits w) ∷ [])
  unfolding Takes value_at prefix_at atom_at
  takes_digits at w = rw (no_word (spot at (digits w)) rest refl) refl

  takes_text : (at : ℕ) (w : List ℕ) → Takes (spot at (text w) ∷ [])
  unfolding Takes value_at prefix_at atom_at
  takes_text at w = rw (no_word (spot at (text w)) rest refl) refl

  takes_number : (at : ℕ) (w : List ℕ) → Takes (spot at (number w) ∷ [])
  unfolding Takes value_at prefix_at atom_at
  takes_number at w = rw (no_word (spot at (number w)) rest refl) refl

  takes_negative : (at by : ℕ) (w : List ℕ) → Takes (spot at (sign Hyphen) ∷ spot by (number w) ∷ [])
  unfolding Takes value_at prefix_at atom_at
  takes_negative at by w = rw (no_word (spot at (sign Hyphen)) (spot by (number w) ∷ rest) refl) refl

  takes_integer : (b : Bool) (w v : List ℕ) (ms : List Spot) → Placed (cond b (sign Hyphen ∷ number v ∷ []) (number w ∷ [])) ms → Takes ms
  takes_integer true w v _ (placed at (placed by none_placed)) = takes_negative at by v
  takes_integer false w v _ (placed at none_placed) = takes_number at w

  takes_braces : (at : ℕ) (ts : List Token) (ms : List Spot) → Closing (CloseBrace ∷ []) ts → Placed ts ms → Takes (spot at (sign OpenBrace) ∷ ms)
  unfolding Takes value_at prefix_at
  takes_braces at ts ms closes p =
      rw (no_word (spot at (sign OpenBrace)) (ms ++ rest) refl, opened_len end complete OpenBrace CloseBrace ts (λ at. refl) closes at ms rest p, zero-add)
      (ap₂ (λ a b. Ok (spot at (sign OpenBrace) ∷ a, before end complete b)) (take-append_seam ms rest) (drop-append_seam ms rest))

  number_taken : {width : Width} {z : _} {t : notation.Token} → IsInteger width z t → (ms : List Spot) → Placed (same_token t) ms → Takes ms
  number_taken (an_integer {w} n e f) ms p = takes_integer (starts_with hyphen w) w _ ms p

  pub value_taken : {T : AsnType} {v : AsnValue} {ts : List notation.Token} → IsValue T v ts → (ms : List Spot) → Placed (same_tokens ts) ms
      → value_at (before end complete (ms ++ rest)) ≡ Ok (ms, before end complete rest)
  unfolding Takes
  value_taken true_value _ (placed at none_placed) = takes_word at (codes "TRUE") (value_word (codes "TRUE") refl) refl
  value_taken false_value _ (placed at none_placed) = takes_word at (codes "FALSE") (value_word (codes "FALSE") refl) refl
  value_taken null_value _ (placed at none_placed) = takes_word at (codes "NULL") (value_word (codes "NULL") refl) refl
  value_taken (number_value {t} n) ms p = number_taken n ms (subst (λ l. Placed l ms) (append-nil (same_token t)) p)
  value_taken (item_value {w} i n) _ (placed at none_placed) = takes_word at w (small_value w (id_small i)) (rw (id_small i) refl)
  value_taken (octets_value {w} d) _ (placed at none_placed) = takes_digits at w
  value_taken (digit_bits_value {w} d) _ (placed at none_placed) = takes_digits at w
  value_taken (bits_value {w}) _ (placed at none_placed) = takes_bits at w
  value_taken (text_value {w}) _ (placed at none_placed) = takes_text at w
  value_taken (utf8_value {w}) _ (placed at none_placed) = takes_text at w
  value_taken (arcs_value {ts} a) _ (placed {ss} at p) = takes_braces at _ ss (closing signs.CloseBrace ts (arcs_grow Flat flat a) (λ at. refl)) p
