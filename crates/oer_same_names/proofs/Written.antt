-- Tags in brackets: the tokens that write a tag of the notation are read as this tag.
use Rattle.std.proofs.Common.{◌≡◌, ℕ, suc, ◌^◌, ◌<◌, ◌==◌, pos, List, [], ◌∷◌, ◌++◌, length, Bool, true, false, Some, Ok, refl, sym, ap, subst, ◌∙◌}
use Rattle.std.proofs.Common.{arith}
use Rattle.std.specs.Prelude.{codes}
use Rattle.std.specs.Str.Parse.{IsNumeral, digits_value, without_leading_plus}
use Rattle.std.specs.Str.{all_ascii_digits}
use Rattle.std.proofs.lemmas.Bool.{eqb-true, lt-ltb}
use Rattle.std.proofs.lemmas.Str.Parse.{tells_all_ascii_digits, numerals_by_value, IsNumeralModel}
use Rattle.oer_lexer.specs.Characters.{hyphen, starts_with}
use Rattle.oer_lexer.specs.Token as own
use Rattle.oer_lexer.specs.declared.token.Sign.TheVariants as own_signs
use Rattle.oer_module_lexer.specs.Token.{Spot, Token, number, sign, word}
use Rattle.oer_module_lexer.specs.declared.token.Sign.TheVariants.{CloseBracket, OpenBracket}
use Rattle.oer_module_names.specs.declared.error.Place.{Place}
use Rattle.oer_module_parts.specs.Tags.{classed_at, tag_at}
use Rattle.oer_module_parts.specs.Tags as parts
use Rattle.oer_module_syntax.specs.State.{skip_sign}
use Rattle.oer_module_syntax.specs.Tree.{Module}
use Rattle.oer_module_tags.specs.Headers.{has_tags_in_brackets}
use Rattle.oer_module_tags.specs.Outermost.{tag, tag_in, written_tag}
use Rattle.oer_module_terms.specs.Trees.{Amount}
use Rattle.oer_module_terms.specs.Trees as amounts
use Rattle.oer_module_terms.specs.Values.{amount_at}
use Rattle.oer_module_text.specs.Errors.{place_in}
use Rattle.oer_module_values.specs.Digits.{is_numeral, whole_of}
use Rattle.oer_module_values.specs.Numbers.{Wanted, bare, count, integer_at, numeral, step, whole}
use Rattle.oer_module_values.specs.Numbers as numbers
use Rattle.oer_notation.specs.Grammar.{IsClass, IsTag, a_natural, application, context, own_tag, private, universal}
use Rattle.oer_same_trees.specs.Says.{Keeps, kept}
use Rattle.oer_units.specs.declared.tagging.Class.{Class}
use Rattle.oer_units.specs.declared.tagging.Class.TheVariants.{Application, Context, Private, Universal}
use Rattle.oer_units.specs.declared.tagging.Tag.{Tag}

-- ---- tokens

abbrev spot : ℕ → Token → Spot
spot at t = record { at = at; token = t }

-- the first of tokens that are kept
keeps_first : (ss : List Spot) (t : Token) (ts : List Token) → kept ss ≡ t ∷ ts
    → (at : ℕ) × (rest : List Spot) × (ss ≡ record { at = at; token = t } ∷ rest) × (kept rest ≡ ts)
keeps_first [] t ts h = absurd (cc)
keeps_first (s ∷ ss) t ts h =
    let same : s.token ≡ t = cc in
    (s.at, ss, ap (λ x. spot s.at x ∷ ss) same, cc)

keeps_none : (ss : List Spot) → kept ss ≡ [] → ss ≡ []
keeps_none [] h = refl
keeps_none (s ∷ ss) h = absurd (cc)

-- digits begin with no hyphen
no_hyphen : (w : List ℕ) → IsNumeral 10 (without_leading_plus w) → starts_with hyphen w ≡ false
no_hyphen [] h = refl
no_hyphen (c ∷ cs) h = by (c == hyphen) refl
  where
    hyphen_first : IsNumeral 10 (without_leading_plus (45 ∷ cs)) → ⊥
    hyphen_first n = omega (arith, n.1.0)

    by : (b : Bool) → c == hyphen ≡ b → c == hyphen ≡ false
    by false e = e
    by true e = let is : c ≡ 45 = eqb-true c hyphen e in absurd (hyphen_first (subst (λ d. IsNumeral 10 (without_leading_plus (d ∷ cs))) is h))

three_kept : (x y z : Token) (ss : List Spot) → kept ss ≡ x ∷ y ∷ z ∷ []
    → (a : ℕ) × (b : ℕ) × (c : ℕ) × (ss ≡ spot a x ∷ spot b y ∷ spot c z ∷ [])
three_kept x y z ss h =
    let p = keeps_first ss x (y ∷ z ∷ []) h in
    let q = keeps_first p.1 y (z ∷ []) p.3 in
    let r = keeps_first q.1 z [] q.3 in
    (p.0, q.0, r.0, p.2 ∙ ap (λ l. spot p.0 x ∷ l) (q.2 ∙ ap (λ l. spot q.0 y ∷ l) (r.2 ∙ ap (λ l. spot r.0 z ∷ l) (keeps_none r.1 r.3))))

four_kept : (w x y z : Token) (ss : List Spot) → kept ss ≡ w ∷ x ∷ y ∷ z ∷ []
    → (a : ℕ) × (b : ℕ) × (c : ℕ) × (d : ℕ) × (ss ≡ spot a w ∷ spot b x ∷ spot c y ∷ spot d z ∷ [])
four_kept w x y z ss h =
    let p = keeps_first ss w (x ∷ y ∷ z ∷ []) h in
    let q = three_kept x y z p.1 p.3 in (p.0, q.0, q.1, q.2, p.2 ∙ ap (λ l. spot p.0 w ∷ l) q.3)

-- ---- the class and the number

-- the tag that is read: this class, and digits
abbrev written : Class → List ℕ → parts.Tag
written c w = record { class = c; number = amounts.number false w }

abbrev between : List own.Token → List ℕ → List own.Token
between ts w = own.sign own_signs.OpenBracket ∷ (ts ++ own.number w ∷ own.sign own_signs.CloseBracket ∷ [])

module _ (m at : ℕ) (w : List ℕ) where
  bare_read : (a b c : ℕ) → tag_in m at (spot a (sign OpenBracket) ∷ spot b (number w) ∷ spot c (sign CloseBracket) ∷ []) ≡ Ok (written Context w)
  unfolding tag_at classed_at skip_sign amount_at
  bare_read a b c = refl

  module _ (a b c d : ℕ) where
    abbrev worded : List ℕ → List Spot
    worded v = spot a (sign OpenBracket) ∷ spot b (word v) ∷ spot c (number w) ∷ spot d (sign CloseBracket) ∷ []

    universal_read : tag_in m at (worded (codes "UNIVERSAL")) ≡ Ok (written Universal w)
    unfolding tag_at classed_at skip_sign amount_at
    universal_read = refl

    application_read : tag_in m at (worded (codes "APPLICATION")) ≡ Ok (written Application w)
    unfolding tag_at classed_at skip_sign amount_at
    application_read = refl

    private_read : tag_in m at (worded (codes "PRIVATE")) ≡ Ok (written Private w)
    unfolding tag_at classed_at skip_sign amount_at
    private_read = refl

  is_read : {c : Class} {ts : List own.Token} (ss : List Spot) → IsClass c ts → starts_with hyphen w ≡ false → Keeps (between ts w) ss
      → tag_in m at ss ≡ Ok (written c w)
  is_read ss context h keeps =
      let k = three_kept (sign OpenBracket) (number w) (sign CloseBracket) ss (rw h at keeps) in
      subst (λ s. tag_in m at s ≡ Ok (written Context w)) (sym k.3) (bare_read k.0 k.1 k.2)
  is_read ss universal h keeps =
      let k = four_kept (sign OpenBracket) (word (codes "UNIVERSAL")) (number w) (sign CloseBracket) ss (rw h at keeps) in
      subst (λ s. tag_in m at s ≡ Ok (written Universal w)) (sym k.4) (universal_read k.0 k.1 k.2 k.3)
  is_read ss application h keeps =
      let k = four_kept (sign OpenBracket) (word (codes "APPLICATION")) (number w) (sign CloseBracket) ss (rw h at keeps) in
      subst (λ s. tag_in m at s ≡ Ok (written Application w)) (sym k.4) (application_read k.0 k.1 k.2 k.3)
  is_read ss private h keeps =
      let k = four_kept (sign OpenBracket) (word (codes "PRIVATE")) (number w) (sign CloseBracket) ss (rw h at keeps) in
      subst (λ s. tag_in m at s ≡ Ok (written Private w)) (sym k.4) (private_read k.0 k.1 k.2 k.3)

-- ---- the number that digits write

abbrev value_of : List ℕ → ℕ
value_of w = digits_value 10 (without_leading_plus w)

tells_numerals : IsNumeralModel (λ ds. all_ascii_digits ds ≡ true) (digits_value 10)
tells_numerals = numerals_by_value _ tells_all_ascii_digits

numeral_true : (w : List ℕ) → IsNumeral 10 w → is_numeral w ≡ true
numeral_true w h = rw (lt-ltb 0 (length w) h.0, tells_numerals.from w h.1) refl

whole_is : (w : List ℕ) → IsNumeral 10 (without_leading_plus w) → value_of w < 2 ^ 32 → whole_of false w ≡ Some (pos (value_of w))
unfolding whole_of
whole_is w digits small =
    let few : value_of w < 2 ^ 127 = omega (arith, small) in
    rw (numeral_true (without_leading_plus w) digits, lt-ltb (value_of w) (2 ^ 127) few) refl

module _ (ms : List Module) (p : Place) (w : List ℕ) where
  numeral_is : (k : ℕ) → numeral ms (suc k) (record { place = p; governor = bare p.«module»; amount = amounts.number false w })
      ≡ Ok (record { place = p; negative = false; digits = w })
  unfolding numeral step
  numeral_is k = refl

  integer_is : integer_at ms p (amounts.number false w) ≡ numbers.fitting p (whole_of false w)
  unfolding count
  integer_is = rw (numeral_is 254) refl

module _ (ms : List Module) (brackets : has_tags_in_brackets ms 0 ≡ true) (at : ℕ) where
  class_written : {c : Class} {ts : List own.Token} (ss : List Spot) (w : List ℕ) → IsClass c ts → IsNumeral 10 (without_leading_plus w)
      → value_of w < 2 ^ 32 → Keeps (between ts w) ss → written_tag ms 0 at ss ≡ Ok (tag c (value_of w))
  unfolding written_tag
  class_written {c = c} ss w class digits small keeps =
      rw (
        brackets,
        is_read 0 at w ss class (no_hyphen w digits) keeps,
        integer_is ms (place_in 0 at) w,
        whole_is w digits small,
        lt-ltb (value_of w) (2 ^ 32) small,
      ) refl

  -- the tag that tokens write is that of the notation
  pub written_is : {place : ℕ} {g : Tag} {ts : List own.Token} (ss : List Spot) → IsTag true place g ts → Keeps ts ss → written_tag ms 0 at ss ≡ Ok g
  written_is ss (own_tag {class = c} class (a_natural {n = n} {w = w} digits value small)) keeps =
      class_written ss w class digits (subst (λ k. k < 2 ^ 32) (sym value) small) keeps ∙ ap (λ k. Ok (tag c k)) value
