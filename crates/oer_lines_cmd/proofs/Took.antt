-- What is taken of the input at each turn: a line, a frame, or a message behind the one before it.
use Rattle.std.proofs.Common.{Result, ◌≡◌, ◌∙◌, ℕ, ◌≤◌, Bool, true, false, Option, Ok, List, [], ◌∷◌, ◌++◌, length, leb, cond, refl, sym, ap, subst, arith, append_assoc, append-nil, le-leb}
use Rattle.std.specs.Prelude.{not}
use Rattle.std.proofs.lemmas.Bool.{lt-leb}
use Rattle.clap.specs.Words.{Text}
use Rattle.oer_units.specs.Width.{octets_of_width}
use Rattle.oer_units.specs.declared.width.Width.{Width}
use Rattle.oer_units.specs.declared.width.Width.TheVariants.{Eight, Four, One, Two}
use Rattle.oer_cmd.specs.Ending.{Streams}
use Rattle.oer_cmd.specs.Expected.{Expected}
use Rattle.oer_lines_cmd.specs.Answers.{Answered, Numbered, answers_from, to_frame, to_line, to_taken}
use Rattle.oer_lines_cmd.specs.Frames.{Frame, TakesFrame, cut, frames, is_last, whole}
use Rattle.oer_lines_cmd.specs.Lines.{TakesLine, lines}
use Rattle.oer_lines_cmd.specs.declared.failure.Failure.{Failure}
use Rattle.oer_lines_cmd.specs.declared.frames.Taken.{Taken}
use Rattle.oer_lines_cmd.specs.declared.frames.Taken.TheVariants as taken
use Rattle.oer_lines_cmd.specs.declared.way.Place.TheVariants.{Message}
use Rattle.oer_lines_cmd.proofs.Framing.{split_cut, split_whole}
use Rattle.oer_lines_cmd.proofs.Looping.{Took, at_the_end}
use Rattle.oer_lines_cmd.proofs.Splitting.{split_ended, split_last}

truth : {A : Type 0} → false ≡ true → A
truth e = absurd (let differ : false ≡ true = e in cc)

-- ---- a line

pub took_line : (told told' : Option (List ℕ)) (line : Text) (ended : Bool) → TakesLine told told' line (Ok ended) → Took lines told told' (line ∷ []) (not ended)
took_line told told' line true (q, free, stripped, takes) = record {
  octets = q ++ 10 ∷ [];
  takes = takes;
  goes_on = λ going. (
    refl,
    λ more. ap lines (append_assoc q (10 ∷ []) more) ∙ split_ended [] q more free ∙ ap (λ l. l ∷ lines more) (sym stripped),
  );
  ends = λ end. truth end;
}
took_line told told' line false (free, takes, end) = record {
  octets = line;
  takes = takes;
  goes_on = λ going. truth (sym going);
  ends = λ ended. at_the_end lines told told' line (line ∷ []) (split_last [] line free) takes end;
}

-- its answer
pub told_line : (ask : Text → Expected Text) (n : ℕ) (given line : Text) (result : Result ℕ Failure) (s : Streams) → given ≡ line
    → Answered (to_line ask n given) result s → Answered (answers_from (to_line ask) n (line ∷ [])) result s
told_line ask n given line result s same h = subst (λ xs. Answered xs result s) (sym (append-nil (to_line ask n line)))
    (subst (λ l. Answered (to_line ask n l) result s) same h)

-- ---- a frame

pub some_octets : (width : Width) → 1 ≤ octets_of_width width
some_octets One = omega arith
some_octets Two = omega arith
some_octets Four = omega arith
some_octets Eight = omega arith

-- What was taken are frames.
pub record TookFrame (n limit : ℕ) (told told' : Option (List ℕ)) (b : List ℕ) (t : Taken) : Type 0 where
  pub items : List Frame
  pub took : Took (frames n) told told' items (is_last t)
  pub answers : (ask : List ℕ → Expected Text) (long : Expected Text) (k : ℕ) → to_taken ask long k t b ≡ answers_from (to_frame ask limit long) k items

abbrev one : ℕ → Expected Text → List Numbered
one k x = record { place = Message k; answer = x } ∷ []

pub took_frame : (n limit : ℕ) (told told' : Option (List ℕ)) (b : List ℕ) (t : Taken) → 1 ≤ n → TakesFrame n limit told told' b (Ok t)
    → TookFrame n limit told told' b t
took_frame n limit told told' b taken.End some (takes, end) = record {
  items = [];
  took = record { octets = []; takes = takes; goes_on = λ going. truth (sym going); ends = λ ended. at_the_end (frames n) told told' [] [] refl takes end };
  answers = λ ask long k. refl;
}
took_frame n limit told told' b taken.Whole some (head, long, says, within, takes) = record {
  items = whole b ∷ [];
  took = record {
    octets = head ++ b;
    takes = takes;
    goes_on = λ going. (refl, λ more. split_whole n head b more some long says);
    ends = λ end. truth end;
  };
  answers = λ ask other k. ap (λ t. cond t (one k (ask b)) (one k other)) (sym (le-leb (length b) limit within)) ∙ picked (leb (length b) limit) k (ask b) other;
} where
  picked : (t : Bool) (k : ℕ) (x y : Expected Text) → cond t (one k x) (one k y) ≡ one k (cond t x y)
  picked true k x y = refl
  picked false k x y = refl
took_frame n limit told told' b taken.Long some (head, m, long, says, above, takes) = record {
  items = whole m ∷ [];
  took = record {
    octets = head ++ m;
    takes = takes;
    goes_on = λ going. (refl, λ more. split_whole n head m more some long says);
    ends = λ end. truth end;
  };
  answers = λ ask other k. ap (λ t. one k (cond t (ask m) other)) (sym (lt-leb (length m) limit above));
}
took_frame n limit told told' b (taken.Cut there) some (xs, long, has, short, takes, end) = record {
  items = cut (length xs) ∷ [];
  took = record {
    octets = xs;
    takes = takes;
    goes_on = λ going. truth (sym going);
    ends = λ ended. at_the_end (frames n) told told' xs (cut (length xs) ∷ []) (split_cut n xs some (omega (arith, has, long)) (omega (arith, short, long))) takes end;
  };
  answers = λ ask other k. ap (λ m. to_frame ask limit other k (cut m)) (sym long);
}

-- its answer
pub told_frame : (n limit : ℕ) (told told' : Option (List ℕ)) (given b : List ℕ) (t : Taken) (h : TookFrame n limit told told' b t) (ask : List ℕ → Expected Text)
    (long : Expected Text) (k : ℕ) (result : Result ℕ Failure) (s : Streams) → given ≡ b → Answered (to_taken ask long k t given) result s
    → Answered (answers_from (to_frame ask limit long) k h.items) result s
told_frame n limit told told' given b t h ask long k result s same told_of =
    subst (λ xs. Answered xs result s) (h.answers ask long k) (subst (λ l. Answered (to_taken ask long k t l) result s) same told_of)
