-- What was read of the input so far, and the answers to its messages.
use Rattle.std.proofs.Common.{Result, ◌≡◌, ◌∙◌, ℕ, ◌+◌, max, Bool, true, false, Option, None, Some, IfSome, Ok}
use Rattle.std.proofs.Common.{Err, List, [], ◌++◌, length, refl, sym, ap, subst, arith, append_assoc, append-nil, length-append}
use Rattle.std.specs.Io.KnownBytes.{Appends, Consumes, IsAtEnd, Keeps}
use Rattle.oer_cmd.specs.Ending.{Streams}
use Rattle.oer_cmd.specs.Faults.{AppendsFront}
use Rattle.oer_lines_cmd.specs.Answers.{Answered, AnsweredAll, AppendsFronts, Numbered, answers_from, error_lines, output_of}
use Rattle.oer_lines_cmd.specs.declared.failure.Failure.{Failure}
use Rattle.oer_lines_cmd.proofs.Blocks.{takes_both, takes_nothing}
use Rattle.oer_lines_cmd.proofs.Counting.{answers_both, answers_more, errors_both, output_both, worst_both}
use Rattle.oer_lines_cmd.proofs.Fronts.{appends_both, appends_nothing, front_after, fronts_after, fronts_kept, keeps_same, longer_front, no_front, no_fronts}

abbrev pub streams : Option (List ℕ) → Option (List ℕ) → Option (List ℕ) → Option (List ℕ) → Streams
streams o o' e e' = record { output = o; output' = o'; errors = e; errors' = e' }

-- What stands on the input is taken: none or one of its items. last: whether none follows, whatever the input has left. items: all that
-- octets are.
pub record Took {X : Type 0} (items : List ℕ → List X) (told told' : Option (List ℕ)) (xs : List X) (last : Bool) : Type 0 where
  pub octets : List ℕ
  pub takes : Consumes told told' octets
  pub goes_on : last ≡ false → (length xs ≡ 1) × ((more : List ℕ) → items (octets ++ more) ≡ xs ++ items more)
  pub ends : last ≡ true → (left : List ℕ) × (items (octets ++ left) ≡ xs) × IfSome told (λ b. told' ≡ Some left)

-- all octets, of which these were read
all_octets : (a b : Option (List ℕ)) (read : List ℕ) → Consumes a b read → (more : List ℕ) × IfSome a (λ xs. xs ≡ read ++ more)
all_octets None b read h = ([], tt)
all_octets (Some xs) None read h = absurd h
all_octets (Some xs) (Some ys) read h = (ys, h)

-- these are left
all_left : (a b c : Option (List ℕ)) (s t left : List ℕ) → Consumes a b s → Consumes b c t → IfSome b (λ xs. c ≡ Some left)
    → IfSome a (λ xs. xs ≡ s ++ (t ++ left))
all_left None b c s t left h k end = tt
all_left (Some xs) None c s t left h k end = absurd h
all_left (Some xs) (Some ys) c s t left h k end =
    let behind : ys ≡ t ++ left = subst (λ z. Consumes (Some ys) z t) end k in
    h ∙ ap (λ l. s ++ l) behind

-- Nothing is left behind what was taken, and this is all that stands there.
pub at_the_end : {X : Type 0} (items : List ℕ → List X) (a b : Option (List ℕ)) (t : List ℕ) (xs : List X) → items t ≡ xs → Consumes a b t
    → IfSome a (λ b'. IsAtEnd b) → (left : List ℕ) × (items (t ++ left) ≡ xs) × IfSome a (λ b'. b ≡ Some left)
at_the_end items a b t xs is takes end = ([], ap items (append-nil t) ∙ is, none a b takes end) where
  none : (a b : Option (List ℕ)) → Consumes a b t → IfSome a (λ b'. IsAtEnd b) → IfSome a (λ b'. b ≡ Some [])
  none None b takes end = tt
  none (Some ys) None takes end = absurd takes
  none (Some ys) (Some zs) takes end = ap (λ (l : List ℕ). Some l) end

-- some answers, and then others
answered_both : (xs ys : List Numbered) (v w : ℕ) (o o' o'' e e' e'' : Option (List ℕ)) → Answered xs (Ok v) (streams o o' e e')
    → Answered ys (Ok w) (streams o' o'' e' e'') → Answered (xs ++ ys) (Ok (max v w)) (streams o o'' e e'')
answered_both xs ys v w o o' o'' e e' e'' h k = (
  omega (arith, worst_both xs ys, h.0, k.0),
  subst (Appends o o'') (sym (output_both xs ys)) (appends_both o o' o'' (output_of xs) (output_of ys) h.1 k.1),
  subst (AppendsFronts e e'') (sym (errors_both xs ys)) (fronts_after e e' e'' (error_lines xs) (error_lines ys) h.2 k.2),
)

-- What was read are whole items, and they are answered. to: how, by what is given of it.
pub record SoFar {P X : Type 0} (items : List ℕ → List X) (to : P → ℕ → X → List Numbered) (told told' : Option (List ℕ)) (number status : ℕ) (s : Streams)
    : Type 0 where
  pub read : List ℕ
  pub done : List X
  pub takes : Consumes told told' read
  pub splits : (more : List ℕ) → items (read ++ more) ≡ done ++ items more
  pub count : number ≡ 1 + length done
  pub answered : (p : P) → Answered (answers_from (to p) 1 done) (Ok status) s

-- The octets of a run, and their answers.
abbrev pub Ran : {P X : Type 0} → (List ℕ → List X) → (P → ℕ → X → List Numbered) → Option (List ℕ) → Result ℕ Failure → Streams → Type 0
Ran {P} items to told result s =
    (octets : List ℕ) × IfSome told (λ xs. xs ≡ octets) × ((p : P) → AnsweredAll (answers_from (to p) 1 (items octets)) result s)

module _ {P X : Type 0} (items : List ℕ → List X) (to : P → ℕ → X → List Numbered) where
  pub at_start : (told o e : Option (List ℕ)) → SoFar items to told told 1 0 (streams o o e e)
  at_start told o e = record {
    read = [];
    done = [];
    takes = takes_nothing told;
    splits = λ more. refl;
    count = refl;
    answered = λ p. (refl, appends_nothing o o (keeps_same o), no_fronts e e (keeps_same e));
  }

  -- The machine failed, and these answers are told of.
  stopped : (p : P) (octets : List ℕ) (done rest : List X) (f : Failure) (v : ℕ) (o o' o'' e e' e'' : Option (List ℕ))
      → items octets ≡ done ++ rest → Answered (answers_from (to p) 1 done) (Ok v) (streams o o' e e')
      → AppendsFront o' o'' (output_of (answers_from (to p) (1 + length done) rest)) → Keeps e' e''
      → AnsweredAll (answers_from (to p) 1 (items octets)) (Err f) (streams o o'' e e'')
  stopped p octets done rest f v o o' o'' e e' e'' split h front kept =
      let first = answers_from (to p) 1 done in
      let second = answers_from (to p) (1 + length done) rest in
      let all : answers_from (to p) 1 (items octets) ≡ first ++ second = ap (answers_from (to p) 1) split ∙ answers_both (to p) 1 done rest in (
        first,
        second,
        all,
        subst (AppendsFront o o'') (sym (ap output_of all ∙ output_both first second))
            (front_after o o' o'' (output_of first) (output_of second) h.1 front),
        fronts_kept e e' e'' (error_lines first) h.2 kept,
      )

  module _ (told told' : Option (List ℕ)) (n v : ℕ) (o o' e e' : Option (List ℕ)) (h : SoFar items to told told' n v (streams o o' e e')) where
    -- It failed at a read.
    pub unread : (f : Failure) → Ran items to told (Err f) (streams o o' e e')
    unread f =
        let known = all_octets told told' h.read h.takes in (
          h.read ++ known.0,
          known.1,
          λ p. stopped p (h.read ++ known.0) h.done (items known.0) f v o o' o' e e' e' (h.splits known.0) (h.answered p)
              (no_front o' o' (output_of (answers_from (to p) (1 + length h.done) (items known.0))) (keeps_same o')) (keeps_same e'),
        )

    module _ (told'' o'' e'' : Option (List ℕ)) (xs : List X) (last : Bool) (took : Took items told' told'' xs last) where
      -- the items of all octets
      taken : (b : Bool) → last ≡ b → (octets : List ℕ) × (rest : List X) × IfSome told (λ b. b ≡ octets) × (items octets ≡ h.done ++ (xs ++ rest))
      taken false going =
          let q = took.octets in
          let known = all_octets told told'' (h.read ++ q) (takes_both told told' told'' h.read q h.takes took.takes) in (
            (h.read ++ q) ++ known.0,
            items known.0,
            known.1,
            ap items (append_assoc h.read q known.0) ∙ h.splits (q ++ known.0) ∙ ap (λ l. h.done ++ l) ((took.goes_on going).1 known.0),
          )
      taken true ended =
          let q = took.octets in
          let end = took.ends ended in (
            h.read ++ (q ++ end.0),
            [],
            all_left told told' told'' h.read q end.0 h.takes took.takes end.2,
            h.splits (q ++ end.0) ∙ ap (λ l. h.done ++ l) (end.1 ∙ sym (append-nil xs)),
          )

      -- a front of what is said of some answers is one of what is said of more
      front_more : (p : P) (rest : List X) → AppendsFront o' o'' (output_of (answers_from (to p) n xs))
          → AppendsFront o' o'' (output_of (answers_from (to p) (1 + length h.done) (xs ++ rest)))
      front_more p rest front =
          let first = answers_from (to p) n xs in
          let second = answers_from (to p) (n + length xs) rest in
          subst (λ k. AppendsFront o' o'' (output_of (answers_from (to p) k (xs ++ rest)))) h.count
          (subst (AppendsFront o' o'') (sym (ap output_of (answers_both (to p) n xs rest) ∙ output_both first second))
          (longer_front o' o'' (output_of first) (output_of second) front))

      -- It failed at an answer.
      pub unanswered : (f : Failure) → ((p : P) → Answered (answers_from (to p) n xs) (Err f) (streams o' o'' e' e''))
          → Ran items to told (Err f) (streams o o'' e e'')
      unanswered f k =
          let all = taken last refl in (
            all.0,
            all.2,
            λ p. stopped p all.0 h.done (xs ++ all.1) f v o o' o'' e e' e'' all.3 (h.answered p) (front_more p all.1 (k p).0) (k p).1,
          )

      module _ (w : ℕ) (k : (p : P) → Answered (answers_from (to p) n xs) (Ok w) (streams o' o'' e' e'')) where
        both : (p : P) → Answered (answers_from (to p) 1 (h.done ++ xs)) (Ok (max v w)) (streams o o'' e e'')
        both p = subst (λ l. Answered l (Ok (max v w)) (streams o o'' e e'')) (sym (answers_more (to p) h.done xs n h.count))
            (answered_both (answers_from (to p) 1 h.done) (answers_from (to p) n xs) v w o o' o'' e e' e'' (h.answered p) (k p))

        -- One more item, and its answer.
        pub one_more : last ≡ false → SoFar items to told told'' (n + 1) (max v w) (streams o o'' e e'')
        one_more going = record {
          read = h.read ++ took.octets;
          done = h.done ++ xs;
          takes = takes_both told told' told'' h.read took.octets h.takes took.takes;
          splits = λ more.
              ap items (append_assoc h.read took.octets more)
              ∙ h.splits (took.octets ++ more)
              ∙ ap (λ l. h.done ++ l) ((took.goes_on going).1 more)
              ∙ sym (append_assoc h.done xs (items more));
          count = omega (arith, h.count, length-append h.done xs, (took.goes_on going).0);
          answered = both;
        }

        -- The last one.
        pub all_done : last ≡ true → Ran items to told (Ok (max v w)) (streams o o'' e e'')
        all_done ended =
            let q = took.octets in
            let end = took.ends ended in (
              h.read ++ (q ++ end.0),
              all_left told told' told'' h.read q end.0 h.takes took.takes end.2,
              λ p. subst (λ l. Answered (answers_from (to p) 1 l) (Ok (max v w)) (streams o o'' e e''))
                  (sym (h.splits (q ++ end.0) ∙ ap (λ l. h.done ++ l) end.1)) (both p),
            )
