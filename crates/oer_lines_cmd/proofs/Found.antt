-- What was read at the front of the input is its first piece.
use Rattle.std.proofs.Common.{◌≡◌, ◌≢◌, ◌∙◌, ℕ, ◌+◌, ◌-◌, ◌≤◌, Bool, false, Option, None, Some, Ok, Err, IfSome, List, [], ◌∷◌, ◌++◌, length, take, refl, sym, ap, subst, arith, append_assoc, append-nil}
use Rattle.std.proofs.Math.Seq.{take-append_seam}
use Rattle.std.proofs.lemmas.List.{take-append-le}
use Rattle.std.specs.Io.KnownBytes.{Consumes, IsAtEnd, prepend_known}
use Rattle.oer_units.specs.Reader.{Outcome, at, got, refused}
use Rattle.oer_units.specs.Reads.{Span, place, renamed}
use Rattle.oer_units.specs.declared.fault.ReadFault.{ReadFault}
use Rattle.oer_units.specs.declared.fault.Why.{Why}
use Rattle.oer_units.specs.declared.fault.Why.TheVariants.{Device, Limit, Memory}
use Rattle.oer_model.specs.AsnType.{AsnType}
use Rattle.oer_model.specs.AsnValue.{AsnValue}
use Rattle.oer_model.specs.Reading.{read_value}
use Rattle.oer_decoder.specs.Front.{ReadsAndCounts}
use Rattle.oer_lines_cmd.specs.Reading.{FindsPiece, IsFirst, ReadsMore, count_of, known, piece_of}
use Rattle.oer_lines_cmd.specs.Stream.{by_front, by_outcome, by_reason, first_piece, long, message, rejected}
use Rattle.oer_lines_cmd.specs.declared.pieces.Piece.{Piece as RawPiece}
use Rattle.oer_lines_cmd.specs.declared.pieces.Piece.TheVariants as raw
use Rattle.oer_lines_cmd.proofs.Chained.{front_is}

plain : {A : Type 0} (o : Outcome A) → renamed false o ≡ o
plain (got x q) = refl
plain (refused w l) = refl

-- the place at which reading begins
abbrev begin : ℕ → Span
begin n = record { taken = 0; end = n; limit = n; inside = false }

outcome : (T : AsnType) (limit : ℕ) (xs : List ℕ) → renamed false (read_value T (place xs (begin limit))) ≡ read_value T (at xs limit)
outcome T limit xs = plain (read_value T (place xs (begin limit))) ∙ ap (λ k. read_value T (at xs k)) (omega arith)

front_taken : (t ys xs : List ℕ) (n : ℕ) → xs ≡ t ++ ys → length t ≡ n → take n xs ≡ t
front_taken t ys xs n is size = ap (λ k. take k xs) (sym size) ∙ ap (take (length t)) is ∙ take-append_seam t ys

-- a value was read
module _ (T : AsnType) (limit : ℕ) (failed failed' : ℕ) (v : AsnValue) (m : ℕ) where
  front_read : (xs : List ℕ) (known' : Option (List ℕ)) → ReadsAndCounts (read_value T) limit (Some xs) failed (Ok (v, m)) known' failed'
      → (t : List ℕ) × (ys : List ℕ) × (xs ≡ t ++ ys) × (length t ≡ m) × (first_piece T limit xs ≡ by_front xs t)
  front_read xs None h = absurd h.reads.took
  front_read xs (Some ys) h =
      let took = h.reads.took in
      let size = took.3 in
      let count = h.count in
      let reads : read_value T (at xs limit) ≡ got v (place ys h.bound) = sym (outcome T limit xs) ∙ h.reads.exact in (
        took.0,
        ys,
        took.1,
        omega (arith, size, count),
        ap (by_outcome xs) reads ∙ ap (by_front xs) (front_is xs took.0 ys took.1),
      )

  some_front : (xs t : List ℕ) → 1 ≤ length t → by_front xs t ≡ message t
  some_front xs [] some = absurd (omega (arith, some))
  some_front xs (y ∷ t) some = refl

  no_front : (xs t : List ℕ) → length t ≡ 0 → by_front xs t ≡ rejected (take 1 xs)
  no_front xs [] none = refl
  no_front xs (y ∷ t) none = absurd (omega (arith, none))

  pub found_message : (had known' : Option (List ℕ)) (there : ℕ) → ReadsAndCounts (read_value T) limit had failed (Ok (v, m)) known' failed' → 1 ≤ m → m ≤ there
      → IfSome had (λ xs. FindsPiece T limit xs there (Ok (Some (raw.Message m))))
  found_message None known' there h some within = tt
  found_message (Some xs) known' there h some within =
      let (t, ys, is, size, first) = front_read xs known' h in
      (within, ap (λ (l : List ℕ). message l) (front_taken t ys xs m is size) ∙ sym (first ∙ some_front xs t (omega (arith, size, some))))

  pub found_nothing : (had known' : Option (List ℕ)) (there : ℕ) → ReadsAndCounts (read_value T) limit had failed (Ok (v, m)) known' failed' → m ≡ 0 → 1 ≤ there
      → IfSome had (λ xs. FindsPiece T limit xs there (Ok (Some (raw.Rejected 1))))
  found_nothing None known' there h none some = tt
  found_nothing (Some xs) known' there h none some =
      let (t, ys, is, size, first) = front_read xs known' h in
      (some, sym (first ∙ no_front xs t (omega (arith, size, none))))

-- none was read
module _ (T : AsnType) (limit : ℕ) (failed failed' : ℕ) (e : ReadFault) (alive : e.why ≢ Device) (room : e.why ≢ Memory) where
  front_refused : (xs : List ℕ) (known' : Option (List ℕ)) → ReadsAndCounts {A = AsnValue} (read_value T) limit (Some xs) failed (Err e) known' failed'
      → (t : List ℕ) × (ys : List ℕ) × (xs ≡ t ++ ys) × (length t ≡ e.taken) × (first_piece T limit xs ≡ by_reason e.why t)
  front_refused xs None h = absurd h.reads.took
  front_refused xs (Some ys) h =
      let took = h.reads.took in
      let size = took.3 in
      let count = h.reads.fault in
      let reads : read_value T (at xs limit) ≡ refused e.why ys = sym (outcome T limit xs) ∙ h.reads.exact alive room in (
        took.0,
        ys,
        took.1,
        omega (arith, size, count),
        ap (by_outcome xs) reads ∙ ap (by_reason e.why) (front_is xs took.0 ys took.1),
      )

  pub found_long : (had known' : Option (List ℕ)) (there : ℕ) → ReadsAndCounts {A = AsnValue} (read_value T) limit had failed (Err e) known' failed' → e.why ≡ Limit → e.taken ≤ there
      → IfSome had (λ xs. FindsPiece T limit xs there (Ok (Some (raw.Long e.taken))))
  found_long None known' there h is_limit within = tt
  found_long (Some xs) known' there h is_limit within =
      let (t, ys, is, size, first) = front_refused xs known' h in
      (within, ap (λ (l : List ℕ). long l) (front_taken t ys xs e.taken is size) ∙ sym (first ∙ ap (λ w. by_reason w t) is_limit))

  other_reason : (w : Why) (t : List ℕ) → w ≢ Limit → by_reason w t ≡ rejected t
  other_reason Limit t other = absurd (other refl)
  other_reason _ t other = refl

  pub found_rejected : (had known' : Option (List ℕ)) (there : ℕ) → ReadsAndCounts {A = AsnValue} (read_value T) limit had failed (Err e) known' failed' → e.why ≢ Limit → e.taken ≤ there
      → IfSome had (λ xs. FindsPiece T limit xs there (Ok (Some (raw.Rejected e.taken))))
  found_rejected None known' there h other within = tt
  found_rejected (Some xs) known' there h other within =
      let (t, ys, is, size, first) = front_refused xs known' h in
      (within, ap (λ (l : List ℕ). rejected l) (front_taken t ys xs e.taken is size) ∙ sym (first ∙ other_reason e.why t other))

-- ---- octets in hand

piece_ahead : (octets more : List ℕ) (p : RawPiece) → count_of p ≤ length octets → piece_of (octets ++ more) p ≡ piece_of octets p
piece_ahead octets more (raw.Message n) within = ap (λ (l : List ℕ). message l) (take-append-le n octets more within)
piece_ahead octets more (raw.Rejected n) within = ap (λ (l : List ℕ). rejected l) (take-append-le n octets more within)
piece_ahead octets more (raw.Long n) within = ap (λ (l : List ℕ). long l) (take-append-le n octets more within)

pub is_first : (T : AsnType) (limit there : ℕ) (octets more : List ℕ) (p : RawPiece) → 1 ≤ length octets → there ≡ length octets
    → FindsPiece T limit (octets ++ more) there (Ok (Some p)) → IsFirst T limit octets more p
is_first T limit there octets more p some all (within, is) =
    let here : count_of p ≤ length octets = omega (arith, within, all) in
    record { some = some; within = here; first = sym (piece_ahead octets more p here) ∙ is }

pub is_last : (T : AsnType) (limit there : ℕ) (octets : List ℕ) (p : RawPiece) → 1 ≤ length octets → there ≡ length octets
    → FindsPiece T limit octets there (Ok (Some p)) → IsFirst T limit octets [] p
is_last T limit there octets p some all found =
    is_first T limit there octets [] p some all (subst (λ l. FindsPiece T limit l there (Ok (Some p))) (sym (append-nil octets)) found)

-- ---- one more read

pub read_more : (told left left' : Option (List ℕ)) (ahead ahead' : List ℕ) (more : Bool) → Consumes told (prepend_known ahead left) [] → ReadsMore left left' ahead ahead' more
    → Consumes told (prepend_known ahead' left') []
read_more None left left' ahead ahead' more h k = tt
read_more (Some xs) None left' ahead ahead' more h k = absurd h
read_more (Some xs) (Some ys) None ahead ahead' more h k = absurd k.0.1
read_more (Some xs) (Some ys) (Some zs) ahead ahead' more h k =
    let (t, took, is) = k.0 in
    h ∙ ap (λ l. ahead ++ l) took ∙ sym (append_assoc ahead t zs) ∙ ap (λ l. l ++ zs) (sym is)

pub nothing_known : (left : Option (List ℕ)) → IsAtEnd left → known left ≡ []
nothing_known None end = refl
nothing_known (Some ys) end = end
