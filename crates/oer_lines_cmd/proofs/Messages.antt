-- The loop over the messages of a run.
use Rattle.std.proofs.Common.{Result, ◌≡◌, ◌∙◌, ℕ, ◌+◌, max, Bool, true, false, Option, IfSome, Ok, Err, List, [], ◌∷◌, sym, ap, subst, inl, inr}
use Rattle.std.specs.Prelude.{IsErrAnd}
use Rattle.clap.specs.Words.{Text}
use Rattle.oer_model.specs.AsnType.{AsnType}
use Rattle.oer_model.specs.Parts.{Step}
use Rattle.oer_cmd.specs.Answer.{IsPathOf}
use Rattle.oer_cmd.specs.Ending.{IsMachineLine, Streams}
use Rattle.oer_cmd.specs.Expected.{Expected}
use Rattle.oer_cmd.specs.Faults.{Reports, error_line, status_of}
use Rattle.oer_cmd.specs.declared.fault.Fault.{Fault}
use Rattle.oer_cmd.proofs.Endings.{moved}
use Rattle.oer_lines_cmd.specs.Answers.{Answered, AnsweredAll, Numbered, answers, answers_from, error_lines, to_frame, to_line, to_piece}
use Rattle.oer_lines_cmd.specs.Ending.{EndsWith, Runs}
use Rattle.oer_lines_cmd.specs.Frames.{Frame}
use Rattle.oer_lines_cmd.specs.Stream.{Piece, piece_answer}
use Rattle.oer_lines_cmd.specs.Tasks.{answer_told, long_answer, octets_told, path_of}
use Rattle.oer_lines_cmd.specs.declared.failure.Failure.{Failure}
use Rattle.oer_lines_cmd.specs.declared.task.LineTask.{LineTask}
use Rattle.oer_lines_cmd.specs.declared.way.Way.{Way}
use Rattle.oer_lines_cmd.proofs.Fronts.{fronts_after, one_front}
use Rattle.oer_lines_cmd.proofs.Looping.{Ran, SoFar, Took, all_done, one_more, streams, unanswered, unread}

-- what is expected of the text of `--path`
abbrev pub Path : LineTask → Type 0
Path task = (path : Expected (List Step)) × IsPathOf (path_of task) path

-- how an item is answered, by what is expected of the path
abbrev pub Answering : Type 0 → Type 0
Answering X = Expected (List Step) → ℕ → X → List Numbered

abbrev pub by_path : {X : Type 0} → Answering X → (task : LineTask) → Path task → ℕ → X → List Numbered
by_path to task p = to p.0

-- the same of lines, of frames, and of what stands right behind one another
abbrev pub lines_told : Bool → LineTask → AsnType → ℕ → Answering Text
lines_told nests task T limit path = to_line (answer_told nests task T limit path)

abbrev pub frames_told : Bool → LineTask → AsnType → ℕ → Answering Frame
frames_told nests task T limit path = to_frame (octets_told nests task T limit path) limit (long_answer task limit path)

abbrev pub pieces_told : Bool → LineTask → AsnType → ℕ → Answering Piece
pieces_told nests task T limit path = to_piece (piece_answer nests task T limit path)

-- the octets of a run, and what was done with their messages, as the contract says it
abbrev pub Given : {X : Type 0} → (List ℕ → List X) → Answering X → LineTask → Option (List ℕ) → Result ℕ Failure → Streams → Type 0
Given items to task told result s = (octets : List ℕ) × IfSome told (λ xs. xs ≡ octets)
    × ((path : Expected (List Step)) → IsPathOf (path_of task) path → AnsweredAll (answers_from (to path) 1 (items octets)) result s)

-- what a `?` returns
exit : {X : Type 0} (r : Result X Failure) (f : Failure) → IsErrAnd r (λ e. e ≡ f) → r ≡ Err f
exit (Ok x) f h = absurd h
exit (Err e) f h = ap (λ (x : Failure). Err x) h

module _ {X : Type 0} (items : List ℕ → List X) (to : Answering X) (task : LineTask) (told : Option (List ℕ)) where
  given : (result : Result ℕ Failure) (s : Streams) → Ran items (by_path to task) told result s → Given items to task told result s
  given result s (octets, is, h) = (octets, is, λ path of. h (path, of))

  module _ (told' : Option (List ℕ)) (n v : ℕ) (o o' e e' : Option (List ℕ)) (h : SoFar items (by_path to task) told told' n v (streams o o' e e')) where
    -- The machine failed at a read.
    pub read_fails : (f : Failure) (r : Result ℕ Failure) → IsErrAnd r (λ x. x ≡ f) → Given items to task told r (streams o o' e e')
    read_fails f r out = subst (λ x. Given items to task told x (streams o o' e e')) (sym (exit r f out))
        (given (Err f) (streams o o' e e') (unread items (by_path to task) told told' n v o o' e e' h f))

    module _ (told'' o'' e'' : Option (List ℕ)) (xs : List X) (last : Bool) (took : Took items told' told'' xs last) where
      -- It failed at an answer.
      pub answer_fails : (f : Failure) (r : Result ℕ Failure)
          → ((path : Expected (List Step)) → IsPathOf (path_of task) path → Answered (answers_from (to path) n xs) (Err f) (streams o' o'' e' e''))
          → IsErrAnd r (λ x. x ≡ f) → Given items to task told r (streams o o'' e e'')
      answer_fails f r k out = subst (λ x. Given items to task told x (streams o o'' e e'')) (sym (exit r f out))
          (given (Err f) (streams o o'' e e'')
          (unanswered items (by_path to task) told told' n v o o' e e' h told'' o'' e'' xs last took f (λ p. k p.0 p.1)))

      module _ (w m : ℕ) (most : m ≡ max v w)
          (k : (path : Expected (List Step)) → IsPathOf (path_of task) path → Answered (answers_from (to path) n xs) (Ok w) (streams o' o'' e' e'')) where
        pub goes_on : last ≡ false → SoFar items (by_path to task) told told'' (n + 1) m (streams o o'' e e'')
        goes_on going = subst (λ x. SoFar items (by_path to task) told told'' (n + 1) x (streams o o'' e e'')) (sym most)
            (one_more items (by_path to task) told told' n v o o' e e' h told'' o'' e'' xs last took w (λ p. k p.0 p.1) going)

        pub stops : last ≡ true → Given items to task told (Ok m) (streams o o'' e e'')
        stops ended = subst (λ (x : ℕ). Given items to task told (Ok x) (streams o o'' e e'')) (sym most)
            (given (Ok (max v w)) (streams o o'' e e'')
            (all_done items (by_path to task) told told' n v o o' e e' h told'' o'' e'' xs last took w (λ p. k p.0 p.1) ended))

-- the octets of a run, and the answers to their messages
abbrev pub AreAnswered : Way → Bool → LineTask → AsnType → ℕ → Option (List ℕ) → Result ℕ Failure → Streams → Type 0
AreAnswered way nests task T limit told result s = (octets : List ℕ) × IfSome told (λ xs. xs ≡ octets)
    × ((path : Expected (List Step)) → IsPathOf (path_of task) path → AnsweredAll (answers way nests task T limit path octets) result s)

-- A run whose messages are all answered.
pub run_answered : (way : Way) (nests : Bool) (task : LineTask) (T : AsnType) (limit : ℕ) (told : Option (List ℕ)) (status : ℕ) (s : Streams)
    → AreAnswered way nests task T limit told (Ok status) s → Runs way nests task T limit told status s
run_answered way nests task T limit told status s (octets, given, h) = record { octets = octets; given = given; ends = λ path of. inl (h path of) }

ends_failed : (xs : List Numbered) (f : Failure) (fault : Fault) (status : ℕ) (o o' e e' e'' : Option (List ℕ)) → AnsweredAll xs (Err f) (streams o o' e e')
    → IsMachineLine (error_line fault) → status_of fault ≡ 3 → Reports fault status e' e'' → EndsWith xs status (streams o o' e e'')
ends_failed xs f fault status o o' e e' e'' (done, left, all, out, err) own three (line, inl (same, is), front) = inr (record {
  done = done;
  left = left;
  split = all;
  three = same ∙ three;
  output = out;
  line = line;
  machine = moved line (error_line fault) is own;
  errors = fronts_after e e' e'' (error_lines done) (line ∷ []) err (one_front e' e'' line front);
})
ends_failed xs f fault status o o' e e' e'' (done, left, all, out, err) own three (line, inr (same, is), front) = inr (record {
  done = done;
  left = left;
  split = all;
  three = same;
  output = out;
  line = line;
  machine = inr (inr is);
  errors = fronts_after e e' e'' (error_lines done) (line ∷ []) err (one_front e' e'' line front);
})

-- One at which the machine failed.
pub run_failed : (way : Way) (nests : Bool) (task : LineTask) (T : AsnType) (limit : ℕ) (told : Option (List ℕ)) (f : Failure) (fault : Fault) (status : ℕ)
    (o o' e e' e'' : Option (List ℕ))
    → AreAnswered way nests task T limit told (Err f) (streams o o' e e') → IsMachineLine (error_line fault) → status_of fault ≡ 3 → Reports fault status e' e''
    → Runs way nests task T limit told status (streams o o' e e'')
run_failed way nests task T limit told f fault status o o' e e' e'' (octets, given, h) own three tells = record {
  octets = octets;
  given = given;
  ends = λ path of. ends_failed (answers way nests task T limit path octets) f fault status o o' e e' e'' (h path of) own three tells;
}
