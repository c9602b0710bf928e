-- Bounds, sizes, items and tags as they are printed.
use Rattle.std.proofs.Common.{◌≡◌, ℕ, ◌+◌, ◌^◌, ◌<◌, ℤ, List, [], ◌∷◌, ◌++◌, map, Bool, true, false, cond, ◌==◌, Option, Some, None, refl, sym, subst, arith}
use Rattle.std.specs.Prelude.{codes}
use Rattle.std.specs.Int.{w64, w128}
use Rattle.std.specs.Ordering.{int_eq}
use Rattle.std.proofs.lemmas.Bool.{eqb-true}
use Rattle.std.proofs.lemmas.Bool.Decides.{Decides-int_eq}
use Rattle.oer_lexer.specs.Token.{Token, word, sign}
use Rattle.oer_lexer.specs.declared.token.Sign.TheVariants.{CloseParenthesis, Range}
use Rattle.oer_model.specs.AsnType.{NamedNumber}
use Rattle.oer_model.specs.WellFormed.{item_names}
use Rattle.oer_model.specs.declared.size.Size.{Size}
use Rattle.oer_units.specs.Laws.{HasTagNumber}
use Rattle.oer_units.specs.declared.tagging.Class.{Class}
use Rattle.oer_units.specs.declared.tagging.Class.TheVariants.{Universal, Application, Context, Private}
use Rattle.oer_units.specs.declared.tagging.Tag.{Tag}
use Rattle.oer_notation.specs.Grammar.{no_bound, a_bound, AreBounds, no_bounds, one_number, range, no_end, an_end, IsBracketedSize, any_size, bracketed, one_size, sizes, own_number, AreItems, no_items, item, items_marker, IsClass, universal, application, private, context, IsTag, own_tag}
use Rattle.oer_printer.specs.Printing.{integer_token, natural_token, in_brackets, after_commas, marker_if, bounds_tokens, sized, ends_tokens, size_tokens, item_tokens, class_tokens, tag_tokens}
use Rattle.oer_model.specs.Widths.{HasBoundWidth, HaveItemWidths, HasEndWidth, HasSizeWidths}
use Rattle.oer_text.proofs.PrintedNumbers.{AllIds, id_given, integer_given, integer_spelt, natural_given, natural_spelt, short_64, short_128, worded}
use Rattle.oer_text.proofs.PrintedText.{AreTokens, no_tokens, plain, single, ranged, both}

bracket_end : AreTokens (sign CloseParenthesis ∷ [])
bracket_end = single refl no_tokens

-- ---- bounds

bound_token : (z : ℤ) → HasBoundWidth (Some z) → {ts : List Token} → AreTokens ts → AreTokens (integer_token z ∷ ts)
bound_token z f a = plain refl (integer_spelt z (short_128 z f)) a

-- where the bounds are equal, one
abbrev bounds_by : Bool → ℤ → ℤ → List Token
bounds_by b low high = cond b (in_brackets (integer_token low ∷ [])) (in_brackets (integer_token low ∷ sign Range ∷ integer_token high ∷ []))

pub bounds_given : (low high : Option ℤ) → HasBoundWidth low → HasBoundWidth high → AreBounds low high (bounds_tokens low high) × AreTokens (bounds_tokens low high)
bounds_given None None f g = (no_bounds, no_tokens)
bounds_given None (Some high) f g =
    (range no_bound (a_bound (integer_given w128 high g (short_128 high g))), single refl (worded (codes "MIN") refl (ranged refl (bound_token high g bracket_end))))
bounds_given (Some low) None f g =
    (range (a_bound (integer_given w128 low f (short_128 low f))) no_bound, single refl (bound_token low f (ranged refl (worded (codes "MAX") refl bracket_end))))
bounds_given (Some low) (Some high) f g = by_test (int_eq low high) refl
  where
    by_test : (b : Bool) → int_eq low high ≡ b → AreBounds (Some low) (Some high) (bounds_by b low high) × AreTokens (bounds_by b low high)
    by_test true e =
        (subst (λ z. AreBounds (Some low) (Some z) (in_brackets (integer_token low ∷ []))) ((Decides-int_eq low high).0 e) (one_number (integer_given w128 low f (short_128 low f))), single refl (bound_token low f bracket_end))
    by_test false e =
        (range (a_bound (integer_given w128 low f (short_128 low f))) (a_bound (integer_given w128 high g (short_128 high g))), single refl (bound_token low f (ranged refl (bound_token high g bracket_end))))

-- ---- sizes

size_token : (n : ℕ) → n < 2 ^ 64 → {ts : List Token} → AreTokens ts → AreTokens (natural_token n ∷ ts)
size_token n l a = plain refl (natural_spelt n (omega (arith, l))) a

sized_tokens : {ts : List Token} → AreTokens ts → AreTokens (sized ts)
sized_tokens a = single refl (worded (codes "SIZE") refl (single refl (both (both a bracket_end) bracket_end)))

abbrev from_by : Bool → ℕ → List Token
from_by b low = cond b [] (sized (natural_token low ∷ sign Range ∷ word (codes "MAX") ∷ []))

abbrev ends_by : Bool → ℕ → ℕ → List Token
ends_by b low high = cond b (sized (natural_token low ∷ [])) (sized (natural_token low ∷ sign Range ∷ natural_token high ∷ []))

ends_given : (low : ℕ) (high : Option ℕ) → low < 2 ^ 64 → HasEndWidth high → IsBracketedSize (record { low = low; high = high }) (ends_tokens low high) × AreTokens (ends_tokens low high)
ends_given low None l h = by_test (low == 0) refl
  where
    by_test : (b : Bool) → low == 0 ≡ b → IsBracketedSize (record { low = low; high = None }) (from_by b low) × AreTokens (from_by b low)
    by_test true e = (subst (λ n. IsBracketedSize (record { low = n; high = None }) []) (sym (eqb-true low 0 e)) any_size, no_tokens)
    by_test false e = (bracketed (sizes (natural_given (2 ^ 64) low l (omega (arith, l))) no_end), sized_tokens (size_token low l (ranged refl (worded (codes "MAX") refl no_tokens))))
ends_given low (Some high) l h = by_test (low == high) refl
  where
    by_test : (b : Bool) → low == high ≡ b → IsBracketedSize (record { low = low; high = Some high }) (ends_by b low high) × AreTokens (ends_by b low high)
    by_test true e =
        (subst (λ n. IsBracketedSize (record { low = low; high = Some n }) (sized (natural_token low ∷ []))) (eqb-true low high e) (bracketed (one_size (natural_given (2 ^ 64) low l (omega (arith, l))))), sized_tokens (size_token low l no_tokens))
    by_test false e =
        (bracketed (sizes (natural_given (2 ^ 64) low l (omega (arith, l))) (an_end (natural_given (2 ^ 64) high h (omega (arith, h))))), sized_tokens (size_token low l (ranged refl (size_token high h no_tokens))))

pub size_given : (s : Size) → HasSizeWidths s → IsBracketedSize s (size_tokens s) × AreTokens (size_tokens s)
size_given s h = ends_given s.low s.high h.0 h.1

-- ---- items

pub items_given : (is : List NamedNumber) (marker : Bool) (place : ℕ) → AllIds (item_names is) → HaveItemWidths is
    → AreItems true place is marker (after_commas (map item_tokens is ++ marker_if marker)) × AreTokens (after_commas (map item_tokens is ++ marker_if marker))
items_given [] true place a h = (items_marker no_items, single refl (single refl no_tokens))
items_given [] false place a h = (no_items, no_tokens)
items_given (i ∷ is) marker place a h =
    let r = items_given is marker (place + 1) a.1 h.1 in
    let d = id_given i.name a.0 in
    let l = short_64 i.number h.0 in
    (item d.0 (own_number (integer_given w64 i.number h.0 l)) r.0, single refl (plain refl d.1 (single refl (plain refl (integer_spelt i.number l) (single refl r.1)))))

-- ---- tags

class_given : (c : Class) → IsClass c (class_tokens c) × AreTokens (class_tokens c)
class_given Universal = (universal, worded (codes "UNIVERSAL") refl no_tokens)
class_given Application = (application, worded (codes "APPLICATION") refl no_tokens)
class_given Context = (context, no_tokens)
class_given Private = (private, worded (codes "PRIVATE") refl no_tokens)

pub tag_given : (t : Tag) (place : ℕ) → HasTagNumber t → IsTag true place t (tag_tokens t) × AreTokens (tag_tokens t)
tag_given t place l =
    let c = class_given t.class in
    let short : t.number < 10 ^ 64 = omega (arith, l) in
    (own_tag c.0 (natural_given (2 ^ 32) t.number l short), single refl (both c.1 (plain refl (natural_spelt t.number short) (single refl no_tokens))))
