-- What is taken of the input at each turn where the messages stand right behind one another.
use Rattle.std.proofs.Common.{Result, ◌≡◌, ◌∙◌, ℕ, ◌≤◌, Bool, true, false, Option, None, Some, IfSome, Ok, List, [], ◌∷◌, ◌++◌, length, take, drop, refl, sym, ap, subst, arith, append_assoc, length-append}
use Rattle.std.proofs.lemmas.List.{take-append-drop}
use Rattle.std.specs.Io.KnownBytes.{Consumes, IsAtEnd, prepend_known}
use Rattle.clap.specs.Words.{Text}
use Rattle.oer_model.specs.AsnType.{AsnType}
use Rattle.oer_model.specs.Constraints.{KeepsLimits}
use Rattle.oer_cmd.specs.Ending.{Streams}
use Rattle.oer_cmd.specs.Expected.{Expected}
use Rattle.oer_lines_cmd.specs.Answers.{Answered, answers_from, to_piece}
use Rattle.oer_lines_cmd.specs.Reading.{IsFirst, TakesPiece, known, piece_of}
use Rattle.oer_lines_cmd.specs.Stream.{Piece, pieces}
use Rattle.oer_lines_cmd.specs.declared.failure.Failure.{Failure}
use Rattle.oer_lines_cmd.specs.declared.pieces.Piece.{Piece as RawPiece}
use Rattle.oer_lines_cmd.specs.declared.pieces.Piece.TheVariants as raw
use Rattle.oer_lines_cmd.proofs.Blocks.{takes_both}
use Rattle.oer_lines_cmd.proofs.Fronts.{appends_nothing, keeps_same, no_fronts}
use Rattle.oer_lines_cmd.proofs.Looping.{Took, streams}
use Rattle.oer_lines_cmd.proofs.Chained.{message_is, split_long, split_message, split_rejected}

truth : {A : Type 0} → false ≡ true → A
truth e = absurd (let differ : false ≡ true = e in cc)

-- what is ahead behind a piece: it is taken if it is a message
abbrev pub behind : RawPiece → List ℕ → List ℕ
behind (raw.Message n) ahead = drop n ahead
behind (raw.Rejected n) ahead = ahead
behind (raw.Long n) ahead = ahead

-- whether none follows
abbrev pub is_end : RawPiece → Bool
is_end (raw.Message n) = false
is_end (raw.Rejected n) = true
is_end (raw.Long n) = true

passes : (n : ℕ) (ahead : List ℕ) (left : Option (List ℕ)) → Consumes (prepend_known ahead left) (prepend_known (drop n ahead) left) (take n ahead)
passes n ahead None = tt
passes n ahead (Some ys) = ap (λ l. l ++ ys) (sym (take-append-drop n ahead)) ∙ append_assoc (take n ahead) (drop n ahead) ys

all_there : (told left : Option (List ℕ)) (ahead : List ℕ) → Consumes told (prepend_known ahead left) []
    → IfSome told (λ b. prepend_known ahead left ≡ Some (ahead ++ known left))
all_there None left ahead h = tt
all_there (Some xs) None ahead h = absurd h
all_there (Some xs) (Some ys) ahead h = refl

some_octets : (ahead more : List ℕ) → 1 ≤ length ahead → 1 ≤ length (ahead ++ more)
some_octets ahead more some = let both = length-append ahead more in omega (arith, both, some)

module _ (T : AsnType) (keeps : KeepsLimits T) (limit : ℕ) (told : Option (List ℕ)) (ahead : List ℕ) (left : Option (List ℕ))
    (takes : Consumes told (prepend_known ahead left) []) where
  pub took_piece : (p : RawPiece) → IsFirst T limit ahead (known left) p
      → Took (pieces T limit) told (prepend_known (behind p ahead) left) (piece_of ahead p ∷ []) (is_end p)
  took_piece (raw.Message n) is = record {
    octets = take n ahead;
    takes = takes_both told (prepend_known ahead left) (prepend_known (drop n ahead) left) [] (take n ahead) takes (passes n ahead left);
    goes_on = λ going. (refl, λ more. split_message T keeps limit (take n ahead) (message_is T keeps limit (ahead ++ known left) (take n ahead) (sym is.first)).0 more);
    ends = λ end. truth end;
  }
  took_piece (raw.Rejected n) is = record {
    octets = [];
    takes = takes;
    goes_on = λ going. truth (sym going);
    ends = λ ended. (
      ahead ++ known left,
      split_rejected T keeps limit (ahead ++ known left) (take n ahead) (some_octets ahead (known left) is.some) is.first,
      all_there told left ahead takes,
    );
  }
  took_piece (raw.Long n) is = record {
    octets = [];
    takes = takes;
    goes_on = λ going. truth (sym going);
    ends = λ ended. (
      ahead ++ known left,
      split_long T keeps limit (ahead ++ known left) (take n ahead) (some_octets ahead (known left) is.some) is.first,
      all_there told left ahead takes,
    );
  }

  pub took_none : ahead ≡ [] → IsAtEnd left → Took (pieces T limit) told (prepend_known ahead left) [] true
  took_none none end = record {
    octets = [];
    takes = takes;
    goes_on = λ going. truth (sym going);
    ends = λ ended. ([], refl, subst (λ a. IfSome told (λ b. prepend_known a left ≡ Some [])) (sym none) (at told left (subst (λ a. Consumes told (prepend_known a left) []) none takes) end));
  } where
    at : (told left : Option (List ℕ)) → Consumes told (prepend_known [] left) [] → IsAtEnd left → IfSome told (λ b. prepend_known [] left ≡ Some [])
    at None left h end = tt
    at (Some xs) None h end = absurd h
    at (Some xs) (Some ys) h end = ap (λ (l : List ℕ). Some l) end

-- ---- what the loop learns

pub nothing_ahead : (a : List ℕ) (x : Option (List ℕ)) → a ≡ [] → x ≡ prepend_known a x
nothing_ahead a x none = subst (λ l. x ≡ prepend_known l x) (sym none) (at x) where
  at : (x : Option (List ℕ)) → x ≡ prepend_known [] x
  at None = refl
  at (Some xs) = refl

pub took_some : (T : AsnType) → KeepsLimits T → (limit : ℕ) (told : Option (List ℕ)) (ahead : List ℕ) (left : Option (List ℕ)) (r : Option RawPiece) (p : RawPiece)
    → r ≡ Some p → TakesPiece T limit told ahead left (Ok r)
    → Took (pieces T limit) told (prepend_known (behind p ahead) left) (piece_of ahead p ∷ []) (is_end p)
took_some T keeps limit told ahead left r p is h =
    let (takes, first) = subst (λ x. TakesPiece T limit told ahead left (Ok x)) is h in
    took_piece T keeps limit told ahead left takes p first

pub took_end : (T : AsnType) → KeepsLimits T → (limit : ℕ) (told : Option (List ℕ)) (ahead : List ℕ) (left : Option (List ℕ)) (r : Option RawPiece)
    → r ≡ None → TakesPiece T limit told ahead left (Ok r) → Took (pieces T limit) told (prepend_known ahead left) [] true
took_end T keeps limit told ahead left r is h =
    let (takes, none, end) = subst (λ x. TakesPiece T limit told ahead left (Ok x)) is h in
    took_none T keeps limit told ahead left takes none end

pub end_of : (p : RawPiece) → ((n : ℕ) → p ≡ raw.Message n → ⊥) → is_end p ≡ true
end_of (raw.Message n) other = absurd (other n refl)
end_of (raw.Rejected n) other = refl
end_of (raw.Long n) other = refl

pub not_end : (p : RawPiece) (n : ℕ) → p ≡ raw.Message n → is_end p ≡ false
not_end p n is = ap is_end is

pub passed : (p : RawPiece) (n : ℕ) (ahead now : List ℕ) → p ≡ raw.Message n → now ≡ drop n ahead → behind p ahead ≡ now
passed p n ahead now is drops = ap (λ q. behind q ahead) is ∙ sym drops

-- its answer
pub told_piece : (ask : Piece → Expected Text) (n : ℕ) (given ahead : List ℕ) (p : RawPiece) (result : Result ℕ Failure) (s : Streams) → given ≡ ahead
    → Answered (to_piece ask n (piece_of given p)) result s → Answered (answers_from (to_piece ask) n (piece_of ahead p ∷ [])) result s
told_piece ask n given ahead p result s same h = subst (λ l. Answered (to_piece ask n (piece_of l p)) result s) same h

-- no answer
pub told_none : (ask : Piece → Expected Text) (n : ℕ) (o e : Option (List ℕ)) → Answered (answers_from (to_piece ask) n []) (Ok 0) (streams o o e e)
told_none ask n o e = (refl, appends_nothing o o (keeps_same o), no_fronts e e (keeps_same e))
