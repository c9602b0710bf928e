-- The range of an INTEGER with bounds of the notation behind it.
use Rattle.std.proofs.Common.{◌≡◌, ℕ, List, [], ◌∷◌, ◌++◌, ℤ, Option, Some, None, Ok, Err, refl, ap, ◌∙◌}
use Rattle.std.specs.Prelude.{codes}
use Rattle.oer_lexer.specs.Token as own
use Rattle.oer_module_lexer.specs.Token.{sign}
use Rattle.oer_module_lexer.specs.declared.token.Sign.TheVariants.{OpenParenthesis, CloseParenthesis, Range}
use Rattle.oer_module_bounds.specs.Sets.{Span}
use Rattle.oer_module_limits.specs.Errors.{Read}
use Rattle.oer_module_limits.specs.Sets.{number, row_read}
use Rattle.oer_module_syntax.specs.Tree.{plain}
use Rattle.oer_module_syntax.specs.declared.word.Builtin.TheVariants.{Integer}
use Rattle.oer_module_values.specs.Types.{type_in}
use Rattle.oer_notation.specs.Grammar.{IsBound, no_bound, a_bound, no_bounds, one_number, range}
use Rattle.oer_same_tokens.specs.Same.{same_token}
use Rattle.oer_same_bounds.specs.Bounds.{ReadsRange}
use Rattle.oer_same_bounds.specs.Laws.{SameRange}
use Rattle.oer_same_bounds.proofs.Judged.{are_placed, none_judged, one_judged, place_among}
use Rattle.oer_same_bounds.proofs.Numbers.{numeral_of}
use Rattle.oer_same_bounds.proofs.Ranges.{Reads, Writes, writes_none, writes_number, integer_tells, value_is, range_is}
use Rattle.oer_same_bounds.proofs.Rows.{End, none, digits, numeral_tokens, tokens_of, placed, row_none, row_value, row_range}

-- the end is written so, in these tokens
record IsEnd (unbounded : List ℕ) (o : Option ℤ) (t : own.Token) : Type 0 where
  end : End
  writes : Writes end o
  are : same_token t ≡ tokens_of unbounded end

end_of : {u : List ℕ} {o : Option ℤ} {t : own.Token} → IsBound u o t → IsEnd u o t
end_of no_bound = record { end = none; writes = writes_none; are = refl }
end_of (a_bound i) = let n = numeral_of i in record { end = digits n.minus n.numeral; writes = writes_number n.writes; are = n.are }

read_so : (low high : Option ℤ) (r : Read Span) → Reads low high (record { low = low; high = high }) r → ReadsRange low high r
read_so low high (Ok r) is = is
read_so low high (Err e) rejected = rejected

pub same_range : SameRange
same_range ms m at p gs low high ts cs none_given no_bounds same =
    let place = place_among cs in
    let is : cs ≡ placed place [] = are_placed cs ∙ ap (placed place) same in
    read_so None None _ (none_judged ms p (number None) (number (Some (type_in m (plain at Integer [] cs)))) m (plain at Integer [] cs) cs gs refl none_given (ap (row_read m) is ∙ row_none m place))
same_range ms m at p gs low high ts cs none_given (one_number {z} {t} i) same =
    let place = place_among cs in
    let n = numeral_of i in
    let is : cs ≡ placed place (sign OpenParenthesis ∷ (numeral_tokens n.minus n.numeral ++ sign CloseParenthesis ∷ [])) =
    are_placed cs ∙ ap (placed place) (same ∙ ap (λ l. sign OpenParenthesis ∷ (l ++ sign CloseParenthesis ∷ [])) n.are) in
    let row = ap (row_read m) is ∙ row_value m place n.minus n.numeral in
    let g = Some (type_in m (plain at Integer [] cs)) in
    let value = value_is ms g (integer_tells ms m at cs) 254 m (place 0) (place 1) n.minus n.numeral z n.writes in
    read_so (Some z) (Some z) _
    (one_judged ms p (number None) (number g) m (plain at Integer [] cs) cs gs refl none_given _ (Some z) (Some z) row value)
same_range ms m at p gs low high ts cs none_given (range {s} {t} l h) same =
    let place = place_among cs in
    let from = end_of l in
    let to = end_of h in
    let is : cs ≡ placed place (sign OpenParenthesis ∷ (tokens_of (codes "MIN") from.end ++ sign Range ∷ (tokens_of (codes "MAX") to.end ++ sign CloseParenthesis ∷ []))) =
    are_placed cs ∙ ap (placed place) (same ∙ ap (λ l. sign OpenParenthesis ∷ (l ++ sign Range ∷ (same_token t ++ sign CloseParenthesis ∷ []))) from.are
    ∙ ap (λ l. sign OpenParenthesis ∷ (tokens_of (codes "MIN") from.end ++ sign Range ∷ (l ++ sign CloseParenthesis ∷ []))) to.are) in
    let row = ap (row_read m) is ∙ row_range m place from.end to.end in
    let g = Some (type_in m (plain at Integer [] cs)) in
    let value = range_is ms g (integer_tells ms m at cs) 254 m (place 0) (place 1) _ _ from.end to.end low high from.writes to.writes in
    read_so low high _
    (one_judged ms p (number None) (number g) m (plain at Integer [] cs) cs gs refl none_given _ low high row value)
