-- Which value the reader of modules reads of the tokens of one in the notation.
use Rattle.std.proofs.Common.{◌≡◌, ℕ, suc, ◌+◌, ◌^◌, ◌<◌, ◌≤◌, List, [], ◌∷◌, ◌++◌, length, Bool, true, false, ◌==◌, Some, None, Ok, refl, sym, ap, subst, ◌∙◌, append_assoc, arith}
use Rattle.std.specs.Prelude.{codes}
use Rattle.std.specs.Char.{digit_value}
use Rattle.std.specs.Str.Parse.{IsNumeral, without_leading_plus}
use Rattle.std.proofs.lemmas.Bool.{eqb-true}
use Rattle.oer_lexer.specs.Characters.{starts_with, hyphen}
use Rattle.oer_lexer.specs.Token as notation
use Rattle.oer_lexer.specs.declared.token.Sign.TheVariants as signs
use Rattle.oer_literals.specs.Numbers.{arc_of}
use Rattle.oer_module_lexer.specs.Token.{Token, Spot, word, number, bits, digits, text, sign}
use Rattle.oer_module_lexer.specs.declared.token.Sign.TheVariants.{OpenBrace, CloseBrace, Comma, Hyphen}
use Rattle.oer_module_syntax.specs.Modules.{many}
use Rattle.oer_module_syntax.specs.Ranges.{pairs_len}
use Rattle.oer_module_syntax.specs.State.{State, Read, ◌>>=◌, at_sign, bump, place_among, skip_sign}
use Rattle.oer_module_terms.specs.Looks.{no_comma}
use Rattle.oer_module_terms.specs.Trees.{Value, Parts, amount, atom, bits as bit_atom, braces, digits as digit_atom, fixed}
use Rattle.oer_module_terms.specs.Trees.{member, members_from, named, no_members, number as digits_of, parts_from, text as text_atom}
use Rattle.oer_module_terms.specs.Values.{any_value_at, braces_at, fixed_of, member_at, member_ends, named_at, part_at, single_at, some_members_at, unbraced_by, value_at}
use Rattle.oer_module_terms.specs.declared.tree.Fixed.TheVariants as words
use Rattle.oer_module_values.specs.Kept.{kept}
use Rattle.oer_notation.specs.Grammar.{AreArcs, no_arcs, an_arc, IsId, IsNatural, a_natural}
use Rattle.oer_notation.proofs.CompleteNumbers.{arc_reads}
use Rattle.oer_same_defaults.specs.Short.{tokens_len}
use Rattle.oer_same_tokens.specs.Same.{same_token, same_tokens}
use Rattle.oer_same_trees.proofs.Placed.{Placed, none_placed, placed, closed, before, spot}
use Rattle.oer_same_trees.proofs.Turns.{Runs, ran, run, all_run}
use Rattle.oer_same_trees.proofs.Words.{differ, id_small, neither}

-- The tokens are read as this value, whole.
abbrev pub Reads : List Spot → Value → Type 0
Reads ss v = value_at 64 (kept ss) ≡ Ok (v, before (place_among ss 0) true [])

-- ---- one token

pub reads_true : (at : ℕ) → Reads (spot at (word (codes "TRUE")) ∷ []) (atom at (fixed words.True))
unfolding value_at any_value_at unbraced_by single_at fixed_of
reads_true at = refl

pub reads_false : (at : ℕ) → Reads (spot at (word (codes "FALSE")) ∷ []) (atom at (fixed words.False))
unfolding value_at any_value_at unbraced_by single_at fixed_of
reads_false at = refl

pub reads_null : (at : ℕ) → Reads (spot at (word (codes "NULL")) ∷ []) (atom at (fixed words.Null))
unfolding value_at any_value_at unbraced_by single_at fixed_of
reads_null at = refl

pub reads_bits : (at : ℕ) (w : List ℕ) → Reads (spot at (bits w) ∷ []) (atom at (bit_atom w))
unfolding value_at any_value_at unbraced_by single_at
reads_bits at w = refl

pub reads_digits : (at : ℕ) (w : List ℕ) → Reads (spot at (digits w) ∷ []) (atom at (digit_atom w))
unfolding value_at any_value_at unbraced_by single_at
reads_digits at w = refl

pub reads_text : (at : ℕ) (w : List ℕ) → Reads (spot at (text w) ∷ []) (atom at (text_atom w))
unfolding value_at any_value_at unbraced_by single_at
reads_text at w = refl

pub reads_number : (at : ℕ) (w : List ℕ) → Reads (spot at (number w) ∷ []) (atom at (amount (digits_of false w)))
unfolding value_at any_value_at unbraced_by single_at
reads_number at w = refl

pub reads_negative : (at by : ℕ) (w : List ℕ) → Reads (spot at (sign Hyphen) ∷ spot by (number w) ∷ []) (atom at (amount (digits_of true w)))
unfolding value_at any_value_at unbraced_by single_at
reads_negative at by w = refl

no_fixed : {w : List ℕ} → IsId w → fixed_of w ≡ None
unfolding fixed_of
no_fixed {w} i =
    let small = id_small i in
    rw (
      differ w (codes "TRUE") small refl,
      differ w (codes "FALSE") small refl,
      differ w (codes "NULL") small refl,
      differ w (codes "PLUS-INFINITY") small refl,
      differ w (codes "MINUS-INFINITY") small refl,
      differ w (codes "NOT-A-NUMBER") small refl,
    ) refl

pub reads_name : (at : ℕ) {w : List ℕ} → IsId w → Reads (spot at (word w) ∷ []) (atom at (amount (named w [])))
unfolding value_at any_value_at unbraced_by single_at named_at pairs_len
reads_name at {w} i = rw (no_fixed i, id_small i) refl

-- ---- arcs in braces

-- digits, each of which stands for the arc
pub data SayArcs : List ℕ → List Value → Type 0 where
  say_none : SayArcs [] []
  say_arc : {n : ℕ} {arcs : List ℕ} {vs : List Value} (at : ℕ) (w : List ℕ) → arc_of w ≡ Some n → SayArcs arcs vs
      → SayArcs (n ∷ arcs) (atom at (amount (digits_of false w)) ∷ vs)

-- the octets of digits, with a space for each
abbrev pub words_len : List Value → ℕ
words_len [] = 0
words_len (atom at (amount (digits_of minus w)) ∷ vs) = suc (length w + words_len vs)
words_len (v ∷ vs) = words_len vs

-- a token behind others has a space
behind_len : (ss : List Spot) (s : Spot) → suc (tokens_len ss) ≤ tokens_len (ss ++ s ∷ [])
behind_len [] s = omega arith
behind_len (t ∷ ss) s = let more = behind_len ss s in omega (arith, more)

no_hyphen : (w : List ℕ) → IsNumeral 10 (without_leading_plus w) → starts_with hyphen w ≡ false
no_hyphen [] n = refl
no_hyphen (c ∷ cs) n = by (c == 45) refl
  where
    by : (b : Bool) → c == 45 ≡ b → b ≡ false
    by false e = refl
    by true e = absurd (
        let all : IsNumeral 10 (without_leading_plus (45 ∷ cs)) = subst (λ c. IsNumeral 10 (without_leading_plus (c ∷ cs))) (eqb-true c 45 e) n in
        let small : digit_value 45 < 10 = all.1.0 in
        omega arith)

-- an arc and the digits that are its token
record ArcToken (n : ℕ) (t : notation.Token) : Type 0 where
  digits : List ℕ
  is : same_token t ≡ number digits ∷ []
  stands : arc_of digits ≡ Some n

text_of : notation.Token → List ℕ
text_of (notation.number w) = w
text_of t = []

arc_token : {n : ℕ} {t : notation.Token} → IsNatural (2 ^ 128) n t → ArcToken n t
unfolding text_of
arc_token (a_natural {n} {w} d e l) =
    let r = arc_reads (a_natural d e l) in
    let same : w ≡ r.0 = ap text_of r.1 in
    record { digits = w; is = rw (no_hyphen w d) refl; stands = subst (λ w. arc_of w ≡ Some n) (sym same) r.2 }

-- where numbers are read as values
module _ (value : State → Read Value) (end by : ℕ) (numbers : (at : ℕ) (w : List ℕ) (rest : List Spot)
    → value (before end true (spot at (number w) ∷ rest)) ≡ Ok (atom at (amount (digits_of false w)), before end true rest)) where
  abbrev st : List Spot → State
  st ss = before end true ss

  -- the closing brace
  abbrev tail : List Spot
  tail = spot by (sign CloseBrace) ∷ []

  record ArcsRead (arcs : List ℕ) (ss : List Spot) : Type 0 where
    found : List Value
    runs : Runs Value end true member_ends (part_at value) tail found ss
    says : SayArcs arcs found
    fits : words_len found ≤ tokens_len ss

  part_read : (at : ℕ) (w : List ℕ) (rest : List Spot) → part_at value (st (spot at (number w) ∷ rest)) ≡ Ok (atom at (amount (digits_of false w)), st rest)
  unfolding part_at
  part_read at w rest = numbers at w rest

  arc_more : {n : ℕ} {arcs : List ℕ} (w : List ℕ) → arc_of w ≡ Some n → (at : ℕ) (ss : List Spot) → ArcsRead arcs ss → ArcsRead (n ∷ arcs) (spot at (number w) ∷ ss)
  arc_more w e at ss more = record {
    found = atom at (amount (digits_of false w)) ∷ more.found;
    runs = run (spot at (number w)) [] refl (part_read at w (ss ++ tail)) more.runs;
    says = say_arc at w e more.says;
    fits = let rest = more.fits in omega (arith, rest);
  }

  arc_placed : {n : ℕ} {arcs : List ℕ} (w : List ℕ) → arc_of w ≡ Some n → (us : List Token) → ((ss : List Spot) → Placed us ss → ArcsRead arcs ss)
      → (ss : List Spot) → Placed (number w ∷ us) ss → ArcsRead (n ∷ arcs) ss
  arc_placed w e us more _ (placed {ss} at p) = arc_more w e at ss (more ss p)

  arcs_read : {arcs : List ℕ} {ts : List notation.Token} → AreArcs arcs ts → (ss : List Spot) → Placed (same_tokens ts) ss → ArcsRead arcs ss
  arcs_read no_arcs _ none_placed = record { found = []; runs = ran; says = say_none; fits = omega arith }
  arcs_read (an_arc {ts} i more) ss p =
      let a = arc_token i in
      arc_placed a.digits a.stands (same_tokens ts) (arcs_read more) ss (subst (λ l. Placed (l ++ same_tokens ts) ss) a.is p)

  -- one value or more
  member_read : (v : Value) (vs : List Value) (ss : List Spot) → Runs Value end true member_ends (part_at value) tail (v ∷ vs) ss
      → member_at value (st (ss ++ tail)) ≡ Ok (parts_from (v ∷ vs), st tail)
  unfolding member_at
  member_read v vs _ (run {us} p ps d e more) =
      ap (λ r. (r >>= λ x. many member_ends (part_at value) (suc (length x.1.left)) (x.0 ∷ []) x.1) >>= λ ps. Ok (parts_from ps.0, ps.1))
      (ap (λ l. part_at value (st (p ∷ l))) (append_assoc ps us tail) ∙ e)
      ∙ ap (λ r. r >>= λ ps. Ok (parts_from ps.0, ps.1))
      (all_run end true member_ends (part_at value) tail refl (suc (length (us ++ tail))) (v ∷ []) more (omega arith))

  one_member : (ps : Parts) → many no_comma (λ s. member_at value (bump s)) 2 (ps ∷ []) (st tail) ≡ Ok (ps ∷ [], st tail)
  unfolding many
  one_member ps = refl

  none_yet : (v : Value) (vs : List Value) (ss : List Spot) → Runs Value end true member_ends (part_at value) tail (v ∷ vs) ss
      → at_sign CloseBrace (st (ss ++ tail)) ≡ false
  none_yet v vs _ (run {us} p ps d e more) = (neither (at_sign Comma (st (p ∷ (ps ++ (us ++ tail))))) (at_sign CloseBrace (st (p ∷ (ps ++ (us ++ tail))))) d).1

  braces_read : (at : ℕ) (v : Value) (vs : List Value) (ss : List Spot) → Runs Value end true member_ends (part_at value) tail (v ∷ vs) ss
      → any_value_at value (st (spot at (sign OpenBrace) ∷ (ss ++ tail))) ≡ Ok (braces at (member (parts_from (v ∷ vs)) no_members), st [])
  unfolding any_value_at braces_at some_members_at skip_sign
  braces_read at v vs ss runs =
      rw (none_yet v vs ss runs)
      (ap (λ r. (r >>= λ x. many no_comma (λ s. member_at value (bump s)) (suc (length x.1.left)) (x.0 ∷ []) x.1) >>= λ ms. skip_sign CloseBrace ms.1
      >>= λ r. Ok (braces at (members_from ms.0), r.1)) (member_read v vs ss runs)
      ∙ ap (λ r. r >>= λ ms. skip_sign CloseBrace ms.1 >>= λ r. Ok (braces at (members_from ms.0), r.1)) (one_member (parts_from (v ∷ vs))))

numbers_at : (end at : ℕ) (w : List ℕ) (rest : List Spot)
    → value_at 63 (before end true (spot at (number w) ∷ rest)) ≡ Ok (atom at (amount (digits_of false w)), before end true rest)
unfolding value_at any_value_at unbraced_by single_at
numbers_at end at w rest = refl

-- what is read of arcs in braces
pub record ReadsArcs (arcs : List ℕ) (at : ℕ) (ss : List Spot) : Type 0 where
  pub parts : List Value
  pub is : Reads (spot at (sign OpenBrace) ∷ ss) (braces at (member (parts_from parts) no_members))
  pub says : SayArcs arcs parts
  pub fits : suc (words_len parts) ≤ tokens_len ss

arcs_found : (arcs : List ℕ) (vs : List Value) → SayArcs arcs vs → 0 < length arcs → (at by : ℕ) (ss : List Spot)
    → Runs Value at true member_ends (part_at (value_at 63)) (spot by (sign CloseBrace) ∷ []) vs ss → words_len vs ≤ tokens_len ss
    → ReadsArcs arcs at (ss ++ spot by (sign CloseBrace) ∷ [])
unfolding value_at
arcs_found _ _ say_none some at by ss runs fits = absurd (omega arith)
arcs_found _ _ (say_arc {vs} begin w e more) some at by ss runs fits = record {
  parts = atom begin (amount (digits_of false w)) ∷ vs;
  is = braces_read (value_at 63) at by (numbers_at at) at (atom begin (amount (digits_of false w))) vs ss runs;
  says = say_arc begin w e more;
  fits = let more = behind_len ss (spot by (sign CloseBrace)) in omega (arith, fits, more);
}

pub reads_arcs : (arcs : List ℕ) {ts : List notation.Token} → AreArcs arcs ts → 0 < length arcs → (at : ℕ) (ss : List Spot)
    → Placed (same_tokens (ts ++ notation.sign signs.CloseBrace ∷ [])) ss → ReadsArcs arcs at ss
reads_arcs arcs {ts} a some at ss p =
    let c = closed signs.CloseBrace ts ss p in
    let r = arcs_read (value_at 63) at c.at (numbers_at at) a c.inner c.holds in
    subst (ReadsArcs arcs at) (sym c.is) (arcs_found arcs r.found r.says some at c.at c.inner r.runs r.fits)
