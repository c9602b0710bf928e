-- The range of a string's sizes with a size of the notation behind it.
use Rattle.std.proofs.Common.{◌≡◌, ℕ, List, [], ◌∷◌, ◌++◌, true, false, pos, Option, Some, None, Ok, Err, refl, ap, ◌∙◌}
use Rattle.std.specs.Prelude.{codes, option_map}
use Rattle.oer_lexer.specs.Token as own
use Rattle.oer_model.specs.declared.size.Size.{Size}
use Rattle.oer_module_lexer.specs.Token.{Token, Spot, word, number, sign}
use Rattle.oer_module_lexer.specs.declared.token.Sign.TheVariants.{OpenParenthesis, CloseParenthesis, Range}
use Rattle.oer_module_bounds.specs.Sets.{Span}
use Rattle.oer_module_limits.specs.Errors.{Read, Why, empty, too_large}
use Rattle.oer_module_limits.specs.Limits.{size_range}
use Rattle.oer_module_limits.specs.Sets.{size as sizes, row_read, own as own_row}
use Rattle.oer_module_limits.specs.Written.{all_given_none}
use Rattle.oer_module_names.specs.declared.error.Place.{Place}
use Rattle.oer_module_syntax.specs.Tree.{Module, Tree, plain}
use Rattle.oer_module_values.specs.Digits.{whole_of}
use Rattle.oer_module_values.specs.Types.{Given, type_in}
use Rattle.oer_notation.specs.Grammar.{IsBracketedSize, IsSizeEnd, no_end, an_end, one_size, sizes as some_sizes, any_size, bracketed}
use Rattle.oer_same_tokens.specs.Same.{AreSame, same_token}
use Rattle.oer_same_bounds.specs.Bounds.{AreRejected, ReadsSize, standing, any, ends}
use Rattle.oer_same_bounds.specs.Laws.{SameSizes}
use Rattle.oer_same_bounds.proofs.Judged.{are_placed, none_judged, one_judged, place_among}
use Rattle.oer_same_bounds.proofs.Numbers.{natural_of}
use Rattle.oer_same_bounds.proofs.Ranges.{Reads, Writes, writes_none, writes_number, nothing_tells, value_is, range_is, size_is}
use Rattle.oer_same_bounds.proofs.Rows.{End, none, digits, tokens_of, placed, row_none, row_size_value, row_size_range}

-- ---- the upper end

record IsEnd (o : Option ℕ) (t : own.Token) : Type 0 where
  end : End
  writes : Writes end (option_map pos o)
  are : same_token t ≡ tokens_of (codes "MAX") end

end_of : {o : Option ℕ} {t : own.Token} → IsSizeEnd o t → IsEnd o t
end_of no_end = record { end = none; writes = writes_none; are = refl }
end_of (an_end {n} i) = let m = natural_of i in record { end = digits false m.numeral; writes = writes_number m.writes; are = m.are }

-- without ends nothing is rejected
rejected_never : (w : Why) → AreRejected None None w → AreRejected (Some (pos 0)) None w
rejected_never too_large h = absurd (cc)
rejected_never empty h = absurd (cc)
rejected_never w h = absurd h

-- ---- a type that stands for itself, and has sizes

module _ (ms : List Module) (m : ℕ) (p : Place) (t : Tree) (cs : List Spot) (gs : List Given) (none_given : all_given_none gs ≡ true)
    (own_is : own_row sizes (type_in m t) ≡ Ok (sizes, cs)) where
  abbrev place : ℕ → ℕ
  place = place_among cs

  one_is : (n : ℕ) (w : List ℕ) → whole_of false w ≡ Some (pos n)
      → cs ≡ placed place (sign OpenParenthesis ∷ word (codes "SIZE") ∷ sign OpenParenthesis ∷ number w ∷ sign CloseParenthesis ∷ sign CloseParenthesis ∷ [])
      → Reads (Some (pos n)) (Some (pos n)) (record { low = Some (pos n); high = Some (pos n) }) (size_range ms p (standing m t gs))
  one_is n w writes is =
      let row = ap (row_read m) is ∙ row_size_value m place w in
      let inside = value_is ms None (nothing_tells ms) 253 m (place 2) (place 3) false w (pos n) writes in
      let value = size_is ms 254 m (place 0) (place 1) _ (Some (pos n)) (Some (pos n)) refl inside in
      one_judged ms p sizes sizes m t cs gs own_is none_given _ (Some (pos n)) (Some (pos n)) row value

  some_are : (n : ℕ) (o : Option ℕ) (w : List ℕ) (e : End) → whole_of false w ≡ Some (pos n) → Writes e (option_map pos o)
      → cs ≡ placed place (sign OpenParenthesis ∷ word (codes "SIZE") ∷ sign OpenParenthesis ∷ number w ∷ sign Range
      ∷ (tokens_of (codes "MAX") e ++ sign CloseParenthesis ∷ sign CloseParenthesis ∷ []))
      → Reads (Some (pos n)) (option_map pos o) (record { low = Some (pos n); high = option_map pos o }) (size_range ms p (standing m t gs))
  some_are n o w e writes_low writes_high is =
      let row = ap (row_read m) is ∙ row_size_range m place w e in
      let inside = range_is ms None (nothing_tells ms) 253 m (place 2) (place 3) _ _ (digits false w) e (Some (pos n)) (option_map pos o) (writes_number writes_low) writes_high in
      let value = size_is ms 254 m (place 0) (place 1) _ (Some (pos n)) (option_map pos o) refl inside in
      one_judged ms p sizes sizes m t cs gs own_is none_given _ (Some (pos n)) (option_map pos o) row value

  sized_any : (r : Read Span) → Reads None None (record { low = None; high = None }) r → ReadsSize (record { low = 0; high = None }) r
  sized_any (Ok r) is = rw is any
  sized_any (Err e) rejected = rejected_never e.why rejected

  sized_by : (low : ℕ) (high : Option ℕ) (r : Read Span)
      → Reads (Some (pos low)) (option_map pos high) (record { low = Some (pos low); high = option_map pos high }) r → ReadsSize (record { low = low; high = high }) r
  sized_by low high (Ok r) is = rw is ends
  sized_by low high (Err e) rejected = rejected

  in_parentheses : (size : Size) (ts : List own.Token) → IsBracketedSize size ts → AreSame cs ts → ReadsSize size (size_range ms p (standing m t gs))
  in_parentheses size ts any_size same =
      let is : cs ≡ placed place [] = are_placed cs ∙ ap (placed place) same in
      sized_any (size_range ms p (standing m t gs)) (none_judged ms p sizes sizes m t cs gs own_is none_given (ap (row_read m) is ∙ row_none m place))
  in_parentheses size ts (bracketed (one_size {n} {t = u} i)) same =
      let w = natural_of i in
      let front : List Token → List Token = λ l. sign OpenParenthesis ∷ word (codes "SIZE") ∷ sign OpenParenthesis ∷ (l ++ sign CloseParenthesis ∷ sign CloseParenthesis ∷ []) in
      let is : cs ≡ placed place (front (number w.numeral ∷ [])) = are_placed cs ∙ ap (placed place) (same ∙ ap front w.are) in
      sized_by n (Some n) (size_range ms p (standing m t gs)) (one_is n w.numeral w.writes is)
  in_parentheses size ts (bracketed (some_sizes {low} {high} {s} {t = u} i e)) same =
      let w = natural_of i in
      let to = end_of e in
      let all : List Token → List Token → List Token =
      λ l r. sign OpenParenthesis ∷ word (codes "SIZE") ∷ sign OpenParenthesis ∷ (l ++ sign Range ∷ (r ++ sign CloseParenthesis ∷ sign CloseParenthesis ∷ [])) in
      let is : cs ≡ placed place (all (number w.numeral ∷ []) (tokens_of (codes "MAX") to.end)) =
      are_placed cs ∙ ap (placed place) (same ∙ ap (λ l. all l (same_token u)) w.are ∙ ap (all (number w.numeral ∷ [])) to.are) in
      sized_by low high (size_range ms p (standing m t gs)) (some_are low high w.numeral to.end w.writes to.writes is)

pub same_sizes : SameSizes
same_sizes ms m at p gs b size ts cs none_given h same has = in_parentheses ms m p (plain at b [] cs) cs gs none_given (rw has refl) size ts h same
