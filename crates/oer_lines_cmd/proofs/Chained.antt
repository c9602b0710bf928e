-- The messages that stand right behind one another.
use Rattle.std.proofs.Common.{◌≡◌, ◌∙◌, ℕ, zero, suc, ◌+◌, ◌-◌, ◌≤◌, List, [], ◌∷◌, ◌++◌, length, take, drop, refl, sym, ap, subst, arith, length-append, length-drop}
use Rattle.std.proofs.Math.Seq.{drop-append_seam, take-append_seam}
use Rattle.oer_units.specs.Reader.{Outcome, at, got, refused}
use Rattle.oer_units.specs.declared.fault.Why.{Why}
use Rattle.oer_units.specs.declared.fault.Why.TheVariants.{Limit}
use Rattle.oer_model.specs.AsnType.{AsnType}
use Rattle.oer_model.specs.AsnValue.{AsnValue}
use Rattle.oer_model.specs.Constraints.{KeepsLimits}
use Rattle.oer_model.specs.Encoding.{IsSpelling}
use Rattle.oer_model.specs.Reading.{read_value}
use Rattle.oer_model.proofs.reading.Main.{value_lawful}
use Rattle.oer_lines_cmd.specs.Stream.{Piece, and_next, by_front, by_outcome, by_reason, first_piece, first_pieces, front_before, long, message, pieces, rejected}

pub front_is : (xs b rest : List ℕ) → xs ≡ b ++ rest → front_before xs rest ≡ b
front_is xs b rest is =
    let all = ap length is in
    let both = length-append b rest in
    let n : length xs - length rest ≡ length b = omega (arith, all, both) in
    ap (λ k. take k xs) n ∙ ap (take (length b)) is ∙ take-append_seam b rest

-- What a message is: a spelling of a value, within the limit.
pub record IsMessage (T : AsnType) (limit : ℕ) (b : List ℕ) : Type 0 where
  pub value : AsnValue
  pub spells : IsSpelling T value b
  pub some : 1 ≤ length b
  pub within : length b ≤ limit

some_front : (xs c b : List ℕ) → by_front xs c ≡ message b → (c ≡ b) × (1 ≤ length b)
some_front xs [] b e = absurd (let differ : rejected (take 1 xs) ≡ message b = e in cc)
some_front xs (y ∷ c) b e = let same : message (y ∷ c) ≡ message b = e in let one : y ∷ c ≡ b = cc in (one, omega (arith, ap length one))

no_message : (why : Why) (c b : List ℕ) → by_reason why c ≡ message b → ⊥
no_message Limit c b e = let differ : long c ≡ message b = e in cc
no_message _ c b e = let differ : rejected c ≡ message b = e in cc

pub message_is : (T : AsnType) → KeepsLimits T → (limit : ℕ) (xs b : List ℕ) → first_piece T limit xs ≡ message b
    → IsMessage T limit b × ((rest : List ℕ) × (xs ≡ b ++ rest))
message_is T keeps limit xs b e = by (read_value T (at xs limit)) refl e where
  by : (o : Outcome AsnValue) → read_value T (at xs limit) ≡ o → by_outcome xs o ≡ message b → IsMessage T limit b × ((rest : List ℕ) × (xs ≡ b ++ rest))
  by (got v q) is e =
      let a = (value_lawful T keeps).sound (at xs limit) v q is in
      let front = front_is xs a.0 q.input a.2 in
      let same = some_front xs (front_before xs q.input) b e in
      let one : a.0 ≡ b = sym front ∙ same.0 in
      let size = ap length one in
      let left = a.3 in (
        record {
          value = v;
          spells = subst (IsSpelling T v) one a.1;
          some = same.1;
          within = omega (arith, left, size);
        },
        (q.input, a.2 ∙ ap (λ l. l ++ q.input) one),
      )
  by (refused why rest) is e = absurd (no_message why (front_before xs rest) b e)

front_again : (xs b : List ℕ) → 1 ≤ length b → by_front xs b ≡ message b
front_again xs [] some = absurd (omega (arith, some))
front_again xs (y ∷ b) some = refl

-- It stands at the front of all octets that begin with it.
pub message_again : (T : AsnType) → KeepsLimits T → (limit : ℕ) (b : List ℕ) → IsMessage T limit b → (more : List ℕ) → first_piece T limit (b ++ more) ≡ message b
message_again T keeps limit b m more =
    let within = m.within in
    let all : limit ≡ length b + (limit - length b) = omega (arith, within) in
    let reads : read_value T (at (b ++ more) limit) ≡ got m.value (at more (limit - length b)) =
    ap (λ k. read_value T (at (b ++ more) k)) all ∙ (value_lawful T keeps).complete m.value b more (limit - length b) m.spells in
    ap (by_outcome (b ++ more)) reads ∙ ap (by_front (b ++ more)) (front_is (b ++ more) b more refl) ∙ front_again (b ++ more) b m.some

-- ---- all of them

-- More pieces than there are octets are all.
enough : (T : AsnType) → KeepsLimits T → (limit k j : ℕ) (xs : List ℕ) → length xs ≤ k → length xs ≤ j → first_pieces T limit k xs ≡ first_pieces T limit j xs
enough T keeps limit zero zero xs a b = refl
enough T keeps limit zero (suc j) [] a b = refl
enough T keeps limit zero (suc j) (x ∷ xs) a b = absurd (omega (arith, a))
enough T keeps limit (suc k) zero [] a b = refl
enough T keeps limit (suc k) zero (x ∷ xs) a b = absurd (omega (arith, b))
enough T keeps limit (suc k) (suc j) [] a b = refl
enough T keeps limit (suc k) (suc j) (x ∷ xs) a b =
    by (first_piece T limit (x ∷ xs)) refl (λ c some.
    let less = length-drop (length c) (x ∷ xs) in
    enough T keeps limit k j (drop (length c) (x ∷ xs)) (omega (arith, a, less, some)) (omega (arith, b, less, some))) where
      by : (p : Piece) → first_piece T limit (x ∷ xs) ≡ p
          → ((c : List ℕ) → 1 ≤ length c → first_pieces T limit k (drop (length c) (x ∷ xs)) ≡ first_pieces T limit j (drop (length c) (x ∷ xs)))
          → and_next (x ∷ xs) (first_pieces T limit k) p ≡ and_next (x ∷ xs) (first_pieces T limit j) p
      by (message c) is next = ap (λ l. message c ∷ l) (next c (message_is T keeps limit (x ∷ xs) c is).0.some)
      by (rejected c) is next = refl
      by (long c) is next = refl

-- the first one, and those behind it
first : (T : AsnType) → KeepsLimits T → (limit : ℕ) (xs : List ℕ) → 1 ≤ length xs → pieces T limit xs ≡ and_next xs (pieces T limit) (first_piece T limit xs)
first T keeps limit [] has = absurd (omega (arith, has))
first T keeps limit (x ∷ xs) has = by (first_piece T limit (x ∷ xs)) refl where
  by : (p : Piece) → first_piece T limit (x ∷ xs) ≡ p → and_next (x ∷ xs) (first_pieces T limit (length xs)) p ≡ and_next (x ∷ xs) (pieces T limit) p
  by (message c) is =
      let less = length-drop (length c) (x ∷ xs) in
      let some = (message_is T keeps limit (x ∷ xs) c is).0.some in
      ap (λ l. message c ∷ l)
      (enough T keeps limit (length xs) (length (drop (length c) (x ∷ xs))) (drop (length c) (x ∷ xs)) (omega (arith, less, some)) (omega arith))
  by (rejected c) is = refl
  by (long c) is = refl

-- a message, and what stands behind it
pub split_message : (T : AsnType) → KeepsLimits T → (limit : ℕ) (b : List ℕ) → IsMessage T limit b → (more : List ℕ)
    → pieces T limit (b ++ more) ≡ message b ∷ pieces T limit more
split_message T keeps limit b m more =
    let both = length-append b more in
    let some = m.some in
    first T keeps limit (b ++ more) (omega (arith, both, some))
    ∙ ap (and_next (b ++ more) (pieces T limit)) (message_again T keeps limit b m more)
    ∙ ap (λ l. message b ∷ pieces T limit l) (drop-append_seam b more)

-- what is none
pub split_rejected : (T : AsnType) → KeepsLimits T → (limit : ℕ) (xs c : List ℕ) → 1 ≤ length xs → rejected c ≡ first_piece T limit xs
    → pieces T limit xs ≡ rejected c ∷ []
split_rejected T keeps limit xs c has is = first T keeps limit xs has ∙ ap (and_next xs (pieces T limit)) (sym is)

pub split_long : (T : AsnType) → KeepsLimits T → (limit : ℕ) (xs c : List ℕ) → 1 ≤ length xs → long c ≡ first_piece T limit xs
    → pieces T limit xs ≡ long c ∷ []
split_long T keeps limit xs c has is = first T keeps limit xs has ∙ ap (and_next xs (pieces T limit)) (sym is)
