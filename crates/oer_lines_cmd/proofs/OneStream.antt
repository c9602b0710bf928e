-- Octets are their messages, one right behind the other, and no others.
use Rattle.std.proofs.Common.{◌≡◌, ◌∙◌, ℕ, zero, suc, ◌+◌, ◌≤◌, List, [], ◌∷◌, ◌++◌, length, drop, refl, sym, ap, subst, arith, length-append}
use Rattle.std.proofs.Math.Seq.{drop-append_seam}
use Rattle.oer_units.specs.Octets.{IsOctets}
use Rattle.oer_model.specs.AsnType.{AsnType}
use Rattle.oer_model.specs.Constraints.{KeepsLimits}
use Rattle.oer_model.proofs.canonical.CanonicalForms.{encodes_from}
use Rattle.oer_lines_cmd.specs.Stream.{Piece, and_next, first_piece, first_pieces, long, message, pieces, rejected}
use Rattle.oer_lines_cmd.specs.StreamLaws.{AreMessages, BeginsWithNone, IsMessage, messages_in, more_answers}
use Rattle.oer_lines_cmd.proofs.Chained.{IsMessage as IsRead, message_again, message_is, split_long, split_message, split_rejected}

pub front_octets : (b rest : List ℕ) → IsOctets (b ++ rest) → IsOctets b
front_octets [] rest octs = tt
front_octets (x ∷ b) rest octs = (octs.0, front_octets b rest octs.1)

rest_octets : (b rest : List ℕ) → IsOctets (b ++ rest) → IsOctets rest
rest_octets [] rest octs = octs
rest_octets (x ∷ b) rest octs = rest_octets b rest octs.1

-- a message, as it is read
read_of : (T : AsnType) (limit : ℕ) (b : List ℕ) → IsMessage T limit b → IsRead T limit b
read_of T limit b m = record { value = m.0; spells = m.1.2; some = m.2; within = m.3 }

pub message_of : (T : AsnType) → KeepsLimits T → (limit : ℕ) (b : List ℕ) → IsOctets b → IsRead T limit b → IsMessage T limit b
message_of T keeps limit b octs m = (m.value, encodes_from T keeps m.value b octs m.spells, m.some, m.within)

-- Where the first piece is no message, none begins the octets.
none_begins : (T : AsnType) → KeepsLimits T → (limit : ℕ) (xs : List ℕ) (p : Piece) → first_piece T limit xs ≡ p → ((b : List ℕ) → message b ≡ p → ⊥)
    → BeginsWithNone T limit xs
none_begins T keeps limit xs p is other b rest all m =
    other b (sym (message_again T keeps limit b (read_of T limit b m) rest) ∙ ap (first_piece T limit) (sym all) ∙ is)

nothing_begins : (T : AsnType) (limit : ℕ) → BeginsWithNone T limit []
nothing_begins T limit b rest all m = let some = m.2 in absurd (omega (arith, ap length all, length-append b rest, some))

abbrev Found : AsnType → ℕ → List ℕ → List Piece → Type 0
Found T limit xs ps = (left : List ℕ) × AreMessages T limit xs (messages_in ps) left × (length ps ≡ length (messages_in ps) + more_answers left)

pub are_messages : (T : AsnType) → KeepsLimits T → (limit k : ℕ) (xs : List ℕ) → length xs ≤ k → IsOctets xs → Found T limit xs (first_pieces T limit k xs)
are_messages T keeps limit zero [] few octs = ([], (refl, nothing_begins T limit), refl)
are_messages T keeps limit zero (x ∷ xs) few octs = absurd (omega (arith, few))
are_messages T keeps limit (suc k) [] few octs = ([], (refl, nothing_begins T limit), refl)
are_messages T keeps limit (suc k) (x ∷ xs) few octs =
    by (first_piece T limit (x ∷ xs)) refl (λ b rest some all. are_messages T keeps limit k rest
    (let size = length-append b rest in let same = ap length all in omega (arith, few, size, same, some)) (rest_octets b rest (subst IsOctets all octs))) where
      by : (p : Piece) → first_piece T limit (x ∷ xs) ≡ p
          → ((b rest : List ℕ) → 1 ≤ length b → x ∷ xs ≡ b ++ rest → Found T limit rest (first_pieces T limit k rest))
          → Found T limit (x ∷ xs) (and_next (x ∷ xs) (first_pieces T limit k) p)
      by (message b) is next =
          let (m, (rest, all)) = message_is T keeps limit (x ∷ xs) b is in
          let (left, are, count) = next b rest m.some all in
          let behind : drop (length b) (x ∷ xs) ≡ rest = ap (drop (length b)) all ∙ drop-append_seam b rest in
          subst (λ l. Found T limit (x ∷ xs) (message b ∷ first_pieces T limit k l)) (sym behind) (
            left,
            (message_of T keeps limit b (front_octets b rest (subst IsOctets all octs)) m, (rest, all, are)),
            omega (arith, count),
          )
      by (rejected b) is next = (x ∷ xs, (refl, none_begins T keeps limit (x ∷ xs) (rejected b) is (λ c e. let differ : message c ≡ rejected b = e in cc)), refl)
      by (long b) is next = (x ∷ xs, (refl, none_begins T keeps limit (x ∷ xs) (long b) is (λ c e. let differ : message c ≡ long b = e in cc)), refl)

none_among : (T : AsnType) → KeepsLimits T → (limit : ℕ) (xs : List ℕ) → IsOctets xs → BeginsWithNone T limit xs → messages_in (pieces T limit xs) ≡ []
none_among T keeps limit [] octs none = refl
none_among T keeps limit (x ∷ xs) octs none = by (first_piece T limit (x ∷ xs)) refl where
  by : (p : Piece) → first_piece T limit (x ∷ xs) ≡ p → messages_in (pieces T limit (x ∷ xs)) ≡ []
  by (message b) is =
      let (m, (rest, all)) = message_is T keeps limit (x ∷ xs) b is in
      absurd (none b rest all (message_of T keeps limit b (front_octets b rest (subst IsOctets all octs)) m))
  by (rejected b) is = ap messages_in (split_rejected T keeps limit (x ∷ xs) b (omega arith) (sym is))
  by (long b) is = ap messages_in (split_long T keeps limit (x ∷ xs) b (omega arith) (sym is))

pub only_messages : (T : AsnType) → KeepsLimits T → (limit : ℕ) (bs : List (List ℕ)) (xs left : List ℕ) → IsOctets xs → AreMessages T limit xs bs left
    → bs ≡ messages_in (pieces T limit xs)
only_messages T keeps limit [] xs left octs (is, none) =
    sym (none_among T keeps limit xs octs (subst (BeginsWithNone T limit) (sym is) none))
only_messages T keeps limit (b ∷ bs) xs left octs (m, (rest, all, are)) =
    ap (λ l. b ∷ l) (only_messages T keeps limit bs rest left (rest_octets b rest (subst IsOctets all octs)) are)
    ∙ ap messages_in (sym (ap (pieces T limit) all ∙ split_message T keeps limit b (read_of T limit b m) rest))
