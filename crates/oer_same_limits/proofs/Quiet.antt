-- The constraints of a type of the notation are in its text, so that no comment tells of them.
use Rattle.std.proofs.Common.{◌≡◌, List, [], ◌∷◌, ◌++◌, true, refl, ap}
use Rattle.std.specs.Prelude.{codes}
use Rattle.oer_lexer.specs.Token as notation
use Rattle.oer_lexer.specs.declared.token.Sign.TheVariants as signs
use Rattle.oer_lexer.specs.declared.leaf.LeafWord.{LeafWord}
use Rattle.oer_lexer.specs.declared.leaf.LeafWord.TheVariants as leaf_word
use Rattle.oer_model.specs.LeafType.{LeafType}
use Rattle.oer_model.specs.declared.size.Size.{Size}
use Rattle.oer_module_leaves.specs.Comments.{checked_of, is_quiet}
use Rattle.oer_module_leaves.specs.declared.comment.Checked.TheVariants.{Nothing}
use Rattle.oer_module_lexer.specs.Token.{Spot, Token}
use Rattle.oer_module_limits.specs.Written.{all_given_none, all_given_plain, all_plain, is_plain, written}
use Rattle.oer_module_syntax.specs.Modules.{none_left}
use Rattle.oer_module_values.specs.Types.{Given, constraints, set}
use Rattle.oer_notation.specs.Grammar.{AreBounds, IsBound, IsBracketedSize, IsLeaf, IsSize, IsSizeEnd, a_bound, an_end, any_size, bounds_behind, bracketed}
use Rattle.oer_notation.specs.Grammar.{items_behind, no_bound, no_bounds, no_end, nothing_behind, one_number, one_size, range, size_behind, sizes}
use Rattle.oer_same_items.proofs.Whole.{IsWhole, below_zero, from_zero, integer_whole, natural_whole}
use Rattle.oer_same_names.specs.Home.{IsBare}
use Rattle.oer_same_tokens.specs.Same.{same_token, same_tokens}
use Rattle.oer_same_trees.proofs.Placed.{Placed, none_placed, placed, placed_as}
use Rattle.oer_same_trees.specs.Says.{Keeps, builtin, constraints_in}
use Rattle.oer_value_notation.specs.Leaves.{leaf_form}

-- ---- tokens of ranges and sizes

abbrev ArePlain : List Token → Type 0
ArePlain [] = Unit {0}
ArePlain (t ∷ ts) = (is_plain t ≡ true) × ArePlain ts

both_plain : (ts us : List Token) → ArePlain ts → ArePlain us → ArePlain (ts ++ us)
both_plain [] us h k = k
both_plain (t ∷ ts) us h k = (h.0, both_plain ts us h.1 k)

whole_plain : {z : _} {ts : List Token} → IsWhole z ts → ArePlain ts
whole_plain (from_zero n) = (refl, tt)
whole_plain (below_zero n) = (refl, (refl, tt))

least_plain : {low : _} {t : notation.Token} → IsBound (codes "MIN") low t → ArePlain (same_token t)
least_plain no_bound = (refl, tt)
least_plain (a_bound i) = whole_plain (integer_whole i)

most_plain : {high : _} {t : notation.Token} → IsBound (codes "MAX") high t → ArePlain (same_token t)
most_plain no_bound = (refl, tt)
most_plain (a_bound i) = whole_plain (integer_whole i)

bounds_plain : {low high : _} {ts : List notation.Token} → AreBounds low high ts → ArePlain (same_tokens ts)
bounds_plain no_bounds = tt
bounds_plain (one_number {t} i) = (refl, both_plain (same_token t) _ (whole_plain (integer_whole i)) (refl, tt))
bounds_plain (range {s} {t} l h) = (refl, both_plain (same_token s) _ (least_plain l) (refl, both_plain (same_token t) _ (most_plain h) (refl, tt)))

end_plain : {high : _} {t : notation.Token} → IsSizeEnd high t → ArePlain (same_token t)
end_plain no_end = (refl, tt)
end_plain (an_end n) = whole_plain (natural_whole n)

size_plain : {size : Size} {ts : List notation.Token} → IsBracketedSize size ts → ArePlain (same_tokens ts)
size_plain any_size = tt
size_plain (bracketed (one_size {t} n)) = (refl, (refl, (refl, both_plain (same_token t) _ (whole_plain (natural_whole n)) (refl, (refl, tt)))))
size_plain (bracketed (sizes {s} {t} n e)) =
    (refl, (refl, (refl, both_plain (same_token s) _ (whole_plain (natural_whole n)) (refl, both_plain (same_token t) _ (end_plain e) (refl, (refl, tt))))))

-- ---- with their places

plain_placed : {ts : List Token} {ss : List Spot} → ArePlain ts → Placed ts ss → all_plain ss ≡ true
plain_placed h none_placed = refl
plain_placed h (placed at p) = rw (h.0, plain_placed h.1 p) refl

plain_kept : (ts : List notation.Token) (ss : List Spot) → ArePlain (same_tokens ts) → Keeps ts ss → all_plain ss ≡ true
plain_kept ts ss h keeps = plain_placed h (placed_as (same_tokens ts) ss keeps)

none_kept : (ss : List Spot) → Keeps [] ss → none_left ss ≡ true
none_kept [] h = refl
none_kept (s ∷ ss) h = absurd (cc)

-- ---- nothing was given on the way

bare_none : (gs : List Given) → IsBare gs → all_given_none gs ≡ true
bare_none [] h = refl
bare_none (constraints m cs ∷ gs) h = rw (h.0, bare_none gs h.1) refl
bare_none (set m ts ∷ gs) h = absurd h

bare_plain : (gs : List Given) → IsBare gs → all_given_plain gs ≡ true
bare_plain [] h = refl
bare_plain (constraints m cs ∷ gs) h = rw (h.0, bare_plain gs h.1) refl
bare_plain (set m ts ∷ gs) h = absurd h

-- ---- of a type that holds no other, and of a SEQUENCE or CHOICE

pub leaf_quiet : (k : LeafWord) {L : LeafType} {ts : List notation.Token} (ss : List Spot) (gs : List Given) → IsLeaf (leaf_form k) L ts
    → Keeps (constraints_in (leaf_form k) ts) ss → IsBare gs → is_quiet (checked_of (builtin k)) (written 0 ss gs) ≡ true
leaf_quiet leaf_word.Boolean ss gs nothing_behind keeps bare = rw (none_kept ss keeps, bare_none gs bare) refl
leaf_quiet leaf_word.Null ss gs nothing_behind keeps bare = rw (none_kept ss keeps, bare_none gs bare) refl
leaf_quiet leaf_word.ObjectIdentifier ss gs nothing_behind keeps bare = rw (none_kept ss keeps, bare_none gs bare) refl
leaf_quiet leaf_word.Enumerated ss gs (items_behind i) keeps bare = rw (none_kept ss keeps, bare_none gs bare) refl
leaf_quiet leaf_word.Integer ss gs (bounds_behind {ts} b) keeps bare = rw (plain_kept ts ss (bounds_plain b) keeps, bare_plain gs bare) refl
leaf_quiet leaf_word.BitString ss gs (size_behind {ts} b) keeps bare = rw (plain_kept ts ss (size_plain b) keeps, bare_plain gs bare) refl
leaf_quiet leaf_word.OctetString ss gs (size_behind {ts} b) keeps bare = rw (plain_kept ts ss (size_plain b) keeps, bare_plain gs bare) refl
leaf_quiet leaf_word.Ia5String ss gs (size_behind {ts} b) keeps bare = rw (plain_kept ts ss (size_plain b) keeps, bare_plain gs bare) refl
leaf_quiet leaf_word.VisibleString ss gs (size_behind {ts} b) keeps bare = rw (plain_kept ts ss (size_plain b) keeps, bare_plain gs bare) refl
leaf_quiet leaf_word.NumericString ss gs (size_behind {ts} b) keeps bare = rw (plain_kept ts ss (size_plain b) keeps, bare_plain gs bare) refl
leaf_quiet leaf_word.PrintableString ss gs (size_behind {ts} b) keeps bare = rw (plain_kept ts ss (size_plain b) keeps, bare_plain gs bare) refl
leaf_quiet leaf_word.Utf8String ss gs (size_behind {ts} b) keeps bare = rw (plain_kept ts ss (size_plain b) keeps, bare_plain gs bare) refl

pub braces_quiet : (gs : List Given) → IsBare gs → is_quiet Nothing (written 0 [] gs) ≡ true
braces_quiet gs bare = rw (bare_none gs bare) refl
