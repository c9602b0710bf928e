-- Presence bits, and the octets that they are packed into.
use Rattle.std.proofs.Common.{◌≡◌, ℕ, zero, suc, ◌+◌, ◌-◌, ◌*◌, ◌%◌, ◌<◌, ◌≤◌, Bool, true, false, List, [], ◌∷◌, ◌++◌, length, take, drop, drop-cons, get_or, map, replicate, Result, Ok, Err, arith, refl, sym, ap, ◌∙◌, add-one, append_assoc, append-nil}
use Rattle.std.specs.Prelude.{if◌then◌else◌}
use Rattle.oer_model.specs.Bits.{bit_value, octets_for, packed, padded, spare_bits}
use Rattle.oer_model.specs.Canonical.{bitmap_octets, unknown_marks}
use Rattle.oer_values.specs.ValueView.{unknown_of}
use Rattle.oer_values.specs.declared.value.Unknown as code
use Rattle.std.proofs.lemmas.List.{drop_all}
use Rattle.oer_model.proofs.bits.LeastBits.{length-padded}
use Rattle.oer_units.specs.Least.{counted, length_octets}
use Rattle.oer_decoder.specs.Recoding.{bit_at, Grows}
use Rattle.oer_decoder.specs.declared.stop.Stop.{Stop}

-- ---- one octet

worth_is : (n : ℕ) (b : Bool) → n * bit_value b ≡ (if b then n else 0)
worth_is n true = omega arith
worth_is n false = omega arith

abbrev octet : List Bool → ℕ
octet s = bit_at s 0 128 + bit_at s 1 64 + bit_at s 2 32 + bit_at s 3 16 + bit_at s 4 8 + bit_at s 5 4 + bit_at s 6 2 + bit_at s 7 1

pub octet_is : (s : List Bool) → length s ≤ 8 → packed (s ++ replicate (8 - length s) false) ≡ octet s ∷ []
octet_is [] le = refl
octet_is (a ∷ []) le = rw (worth_is 128 a) refl
octet_is (a ∷ b ∷ []) le = rw (worth_is 128 a, worth_is 64 b) refl
octet_is (a ∷ b ∷ c ∷ []) le = rw (worth_is 128 a, worth_is 64 b, worth_is 32 c) refl
octet_is (a ∷ b ∷ c ∷ d ∷ []) le = rw (worth_is 128 a, worth_is 64 b, worth_is 32 c, worth_is 16 d) refl
octet_is (a ∷ b ∷ c ∷ d ∷ e ∷ []) le = rw (worth_is 128 a, worth_is 64 b, worth_is 32 c, worth_is 16 d, worth_is 8 e) refl
octet_is (a ∷ b ∷ c ∷ d ∷ e ∷ f ∷ []) le = rw (worth_is 128 a, worth_is 64 b, worth_is 32 c, worth_is 16 d, worth_is 8 e, worth_is 4 f) refl
octet_is (a ∷ b ∷ c ∷ d ∷ e ∷ f ∷ g ∷ []) le = rw (worth_is 128 a, worth_is 64 b, worth_is 32 c, worth_is 16 d, worth_is 8 e, worth_is 4 f, worth_is 2 g) refl
octet_is (a ∷ b ∷ c ∷ d ∷ e ∷ f ∷ g ∷ h ∷ []) le = rw (worth_is 128 a, worth_is 64 b, worth_is 32 c, worth_is 16 d, worth_is 8 e, worth_is 4 f, worth_is 2 g, last h) refl
  where
    last : (b : Bool) → bit_value b ≡ (if b then 1 else 0)
    last true = refl
    last false = refl
octet_is (a ∷ b ∷ c ∷ d ∷ e ∷ f ∷ g ∷ h ∷ i ∷ s) le = absurd (omega arith)

-- ---- octets, one after another

spare_more : (n : ℕ) → spare_bits (8 + n) ≡ spare_bits n
spare_more n = let e : (8 + n) % 8 ≡ n % 8 = omega arith in ap (λ m. (8 - m) % 8) e

-- eight bits, and those after them
pub padded_more : (s : List Bool) (x : ℕ) → 8 < length s → packed (take 8 s ++ replicate (8 - length (take 8 s)) false) ≡ x ∷ [] → padded s ≡ x ∷ padded (drop 8 s)
unfolding padded
padded_more (a ∷ b ∷ c ∷ d ∷ e ∷ f ∷ g ∷ h ∷ s) x less is =
    let n : length (a ∷ b ∷ c ∷ d ∷ e ∷ f ∷ g ∷ h ∷ s) ≡ 8 + length s = omega arith in
    ap (λ k. packed (a ∷ b ∷ c ∷ d ∷ e ∷ f ∷ g ∷ h ∷ (s ++ replicate k false))) (ap spare_bits n ∙ spare_more (length s))
    ∙ ap (λ l. l ++ packed (s ++ replicate (spare_bits (length s)) false)) is
padded_more _ x less is = absurd (omega arith)

few_spare : (n : ℕ) → 1 ≤ n → n ≤ 8 → spare_bits n ≡ 8 - n
few_spare n some le = omega arith

-- the last bits
pub padded_last : (s : List Bool) (x : ℕ) → 1 ≤ length s → length s ≤ 8 → packed (s ++ replicate (8 - length s) false) ≡ x ∷ [] → padded s ≡ x ∷ []
unfolding padded
padded_last s x some le is = ap (λ k. packed (s ++ replicate k false)) (few_spare (length s) some le) ∙ is

pub padded_none : padded [] ≡ []
unfolding padded
padded_none = refl

-- ---- through the loop: all octets but those of the bits that are left were gathered

pub record BitsSoFar (bits rest : List Bool) (out out' : List ℕ) : Type 0 where
  pub front : List ℕ
  pub are : padded bits ≡ front ++ padded rest
  pub grown : out' ≡ out ++ front

pub bits_start : (bits : List Bool) (out : List ℕ) → BitsSoFar bits bits out out
bits_start bits out = record { front = []; are = refl; grown = sym (append-nil out) }

pub bits_more : (bits rest rest' : List Bool) (x : ℕ) (out out' out'' : List ℕ) → BitsSoFar bits rest out out' → padded rest ≡ x ∷ padded rest' → out'' ≡ out' ++ x ∷ []
    → BitsSoFar bits rest' out out''
bits_more bits rest rest' x out out' out'' before e g = record {
  front = before.front ++ x ∷ [];
  are = before.are ∙ ap (λ l. before.front ++ l) e ∙ sym (append_assoc before.front (x ∷ []) (padded rest'));
  grown = g ∙ ap (λ l. l ++ x ∷ []) before.grown ∙ append_assoc out before.front (x ∷ []);
}

-- none is left
pub bits_done : (bits rest : List Bool) (out out' : List ℕ) → length rest ≡ 0 → BitsSoFar bits rest out out' → out' ≡ out ++ padded bits
bits_done bits [] out out' none before = before.grown ∙ ap (λ l. out ++ l) (sym (before.are ∙ ap (λ l. before.front ++ l) padded_none ∙ append-nil before.front))
bits_done bits (b ∷ rest) out out' none before = absurd (omega arith)

-- up to eight are
pub bits_last : {B : Type 0} (bits rest : List Bool) (x : ℕ) (out out' new : List ℕ) (result : Result B Stop) → 1 ≤ length rest → length rest ≤ 8 → BitsSoFar bits rest out out'
    → packed (rest ++ replicate (8 - length rest) false) ≡ x ∷ []
    → Grows (x ∷ []) out' result new → Grows (padded bits) out result new
bits_last bits rest x out out' new (Err e) some le before is g = g
bits_last bits rest x out out' new (Ok u) some le before is g =
    g ∙ ap (λ l. l ++ x ∷ []) before.grown ∙ append_assoc out before.front (x ∷ []) ∙ ap (λ l. out ++ l) (sym (before.are ∙ ap (λ l. before.front ++ l) (padded_last rest x some le is)))

-- the bits after their head
pub bitmap_grows : {B : Type 0} (s : List Bool) (m u : ℕ) (old one two new : List ℕ) (result : Result B Stop) → m ≡ octets_for (length s) → u ≡ spare_bits (length s)
    → one ≡ old ++ length_octets (m + 1) → two ≡ one ++ u ∷ [] → Grows (padded s) two result new → Grows (bitmap_octets s) old result new
unfolding bitmap_octets
bitmap_grows s m u old one two new (Err e) is spare a b g = g
bitmap_grows s m u old one two new (Ok x) is spare a b g =
    let many : m + 1 ≡ length (u ∷ padded s) = omega (arith, is, length-padded s) in
    g ∙ ap (λ l. l ++ padded s) (b ∙ ap (λ l. l ++ u ∷ []) (a ∙ ap (λ n. old ++ length_octets n) many) ∙ append_assoc old (length_octets (length (u ∷ padded s))) (u ∷ []))
    ∙ append_assoc old (length_octets (length (u ∷ padded s)) ++ u ∷ []) (padded s) ∙ ap (λ l. old ++ l) (append_assoc (length_octets (length (u ∷ padded s))) (u ∷ []) (padded s))
    ∙ ap (λ v. old ++ counted (v ∷ padded s)) spare

-- ---- bits that are zero

pub zero_more : (old mid new : List Bool) (i : ℕ) → mid ≡ old ++ replicate i false → new ≡ mid ++ false ∷ [] → new ≡ old ++ replicate (i + 1) false
zero_more old mid new i is e = e ∙ ap (λ l. l ++ false ∷ []) is ∙ append_assoc old (replicate i false) (false ∷ []) ∙ ap (λ l. old ++ l) (last i) where
  last : (i : ℕ) → replicate i false ++ false ∷ [] ≡ replicate (i + 1) false
  last zero = refl
  last (suc i) = ap (λ l. false ∷ l) (last i ∙ ap (λ n. replicate n false) (add-one i)) ∙ ap (λ n. replicate n false) (sym (add-one (suc i)))

-- ---- the bits of unknown additions: those of the additions before the i-th were gathered

pub record MarksSoFar (us : List code.Unknown) (i first next : ℕ) (marks marks' : List Bool) : Type 0 where
  pub front : List Bool
  pub are : unknown_marks first (map unknown_of us) ≡ front ++ unknown_marks next (map unknown_of (drop i us))
  pub grown : marks' ≡ marks ++ front

pub marks_start : (us : List code.Unknown) (first : ℕ) (marks : List Bool) → MarksSoFar us 0 first first marks marks
marks_start us first marks = record { front = []; are = refl; grown = sym (append-nil marks) }

pub marks_more : (us : List code.Unknown) (i : ℕ) (u : code.Unknown) (first next k : ℕ) (marks marks' marks'' : List Bool) → i < length us → u ≡ get_or us i u → k ≡ u.place - next
    → MarksSoFar us i first next marks marks'
    → marks'' ≡ marks' ++ (replicate k false ++ true ∷ []) → MarksSoFar us (i + 1) first (u.place + 1) marks marks''
marks_more us i u first next k marks marks' marks'' less is many before g =
    let rest = drop (i + 1) us in
    let here : drop i us ≡ u ∷ rest = drop-cons us i u less ∙ ap (λ (x : code.Unknown). x ∷ drop (suc i) us) (sym is) ∙ ap (λ (n : ℕ). u ∷ drop n us) (sym (add-one i)) in
    let one = replicate k false ++ true ∷ [] in
    record {
      front = before.front ++ one;
      are = before.are ∙ ap (λ l. before.front ++ unknown_marks next (map unknown_of l)) here
          ∙ ap (λ l. before.front ++ l) (ap (λ n. replicate n false ++ (true ∷ unknown_marks (suc u.place) (map unknown_of rest))) (sym many)
          ∙ ap (λ n. replicate k false ++ (true ∷ unknown_marks n (map unknown_of rest))) (sym (add-one u.place))
          ∙ sym (append_assoc (replicate k false) (true ∷ []) (unknown_marks (u.place + 1) (map unknown_of rest))))
          ∙ sym (append_assoc before.front one (unknown_marks (u.place + 1) (map unknown_of rest)));
      grown = g ∙ ap (λ l. l ++ one) before.grown ∙ append_assoc marks before.front one;
    }

pub marks_end : (us : List code.Unknown) (i first next : ℕ) (marks marks' : List Bool) → length us ≤ i → MarksSoFar us i first next marks marks'
    → marks' ≡ marks ++ unknown_marks first (map unknown_of us)
marks_end us i first next marks marks' le before =
    before.grown ∙ ap (λ l. marks ++ l) (sym (before.are ∙ ap (λ l. before.front ++ unknown_marks next (map unknown_of l)) (drop_all i us le) ∙ append-nil before.front))
