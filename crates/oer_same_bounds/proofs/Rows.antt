-- What constraints in a row are read as.
use Rattle.std.proofs.Common.{◌≡◌, ℕ, zero, suc, List, [], ◌∷◌, ◌++◌, ◌+◌, Bool, true, false, Option, Some, None, Ok, refl}
use Rattle.std.specs.Prelude.{codes}
use Rattle.oer_module_lexer.specs.Token.{Token, Spot, word, number, sign}
use Rattle.oer_module_lexer.specs.declared.token.Sign.TheVariants.{OpenParenthesis, CloseParenthesis, Range, Hyphen}
use Rattle.oer_module_limits.specs.Sets.{row_read}
use Rattle.oer_module_syntax.specs.State.{skip_sign}
use Rattle.oer_module_syntax.specs.Modules.{many}
use Rattle.oer_module_syntax.specs.Words as words
use Rattle.oer_module_terms.specs.Constraints as read
use Rattle.oer_module_terms.specs.Trees as terms
use Rattle.oer_module_terms.specs.Values as values

-- tokens at places
unfoldable pub placed : (ℕ → ℕ) → List Token → List Spot
placed f [] = []
placed f (t ∷ ts) = record { at = f zero; token = t } ∷ placed (λ i. f (suc i)) ts

-- an end as it is written: a word that stands for none, or digits, perhaps with a hyphen in front
pub data End : Type 0 where
  none : End
  digits : Bool → List ℕ → End

abbrev pub numeral_tokens : Bool → List ℕ → List Token
numeral_tokens true w = sign Hyphen ∷ number w ∷ []
numeral_tokens false w = number w ∷ []

-- its tokens, where this is the word
abbrev pub tokens_of : List ℕ → End → List Token
tokens_of u none = word u ∷ []
tokens_of u (digits b w) = numeral_tokens b w

-- as many as these
abbrev pub size_of : End → ℕ
size_of none = 1
size_of (digits true w) = 2
size_of (digits false w) = 1

abbrev pub value_of : ℕ → End → Option terms.Value
value_of at none = None
value_of at (digits b w) = Some (terms.atom at (terms.amount (terms.number b w)))

abbrev pub bound : Option terms.Value → terms.Bound
bound v = record { limit = v; excluded = false }

abbrev pub one_value : ℕ → terms.Value → terms.Constraint
one_value at v = terms.subtype at (terms.simple (terms.value v)) terms.closed []

abbrev pub one_range : ℕ → ℕ → Option terms.Value → Option terms.Value → terms.Constraint
one_range at from low high = terms.subtype at (terms.simple (terms.range from (bound low) (bound high))) terms.closed []

-- to unfold these is to unfold what reads sets, elements and values
reading_sets : Type 0
unfolding read.constraint_with read.specified_by read.subtype_at read.extension_at read.set_at read.any_set_at read.joined_at read.between_at
reading_sets = Unit {0}

reading_elements : Type 0
unfolding read.intersection_at read.excluding_at read.element_at read.simple_at read.limited_at read.limit_at
reading_elements = Unit {0}

reading_values : Type 0
unfolding values.value_at values.any_value_at values.unbraced_by values.single_at
reading_values = Unit {0}

-- SIZE, with a constraint behind it
abbrev pub one_size : ℕ → ℕ → terms.Constraint → terms.Constraint
one_size at from c = terms.subtype at (terms.size from c) terms.closed []

module _ (m : ℕ) (f : ℕ → ℕ) where
  pub row_none : row_read m (placed f []) ≡ Ok []
  unfolding row_read placed many
  row_none = refl

  pub row_value : (negative : Bool) (w : List ℕ)
      → row_read m (placed f (sign OpenParenthesis ∷ (numeral_tokens negative w ++ sign CloseParenthesis ∷ [])))
      ≡ Ok (one_value (f 0) (terms.atom (f 1) (terms.amount (terms.number negative w))) ∷ [])
  unfolding row_read placed many skip_sign reading_sets reading_elements reading_values
  row_value false w = refl
  row_value true w = refl

  pub row_range : (low high : End)
      → row_read m (placed f (sign OpenParenthesis ∷ (tokens_of (codes "MIN") low ++ sign Range ∷ (tokens_of (codes "MAX") high ++ sign CloseParenthesis ∷ []))))
      ≡ Ok (one_range (f 0) (f 1) (value_of (f 1) low) (value_of (f (2 + size_of low)) high) ∷ [])
  unfolding row_read placed many skip_sign reading_sets reading_elements reading_values read.range_at words.keyword_of words.builtin_of
  row_range none none = refl
  row_range none (digits true w) = refl
  row_range none (digits false w) = refl
  row_range (digits true v) none = refl
  row_range (digits true v) (digits true w) = refl
  row_range (digits true v) (digits false w) = refl
  row_range (digits false v) none = refl
  row_range (digits false v) (digits true w) = refl
  row_range (digits false v) (digits false w) = refl

  pub row_size_value : (w : List ℕ)
      → row_read m (placed f (sign OpenParenthesis ∷ word (codes "SIZE") ∷ sign OpenParenthesis ∷ number w ∷ sign CloseParenthesis ∷ sign CloseParenthesis ∷ []))
      ≡ Ok (one_size (f 0) (f 1) (one_value (f 2) (terms.atom (f 3) (terms.amount (terms.number false w)))) ∷ [])
  unfolding row_read placed many skip_sign reading_sets reading_elements reading_values words.keyword_of words.builtin_of
  row_size_value w = refl

  pub row_size_range : (w : List ℕ) (high : End)
      → row_read m (placed f (sign OpenParenthesis ∷ word (codes "SIZE") ∷ sign OpenParenthesis ∷ number w ∷ sign Range
      ∷ (tokens_of (codes "MAX") high ++ sign CloseParenthesis ∷ sign CloseParenthesis ∷ [])))
      ≡ Ok (one_size (f 0) (f 1) (one_range (f 2) (f 3) (value_of (f 3) (digits false w)) (value_of (f 5) high)) ∷ [])
  unfolding row_read placed many skip_sign reading_sets reading_elements reading_values read.range_at words.keyword_of words.builtin_of
  row_size_range w none = refl
  row_size_range w (digits true v) = refl
  row_size_range w (digits false v) = refl
