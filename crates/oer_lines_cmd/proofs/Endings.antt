-- How a run ends before the first message.
use Rattle.std.proofs.Common.{◌≡◌, ◌∙◌, ℕ, ◌≤◌, Bool, true, false, Option, Ok, Err, List, refl, sym, ap, subst, ◌⊎◌, inl, inr}
use Rattle.std.specs.Prelude.{if◌then◌else◌}
use Rattle.clap.specs.Words.{Text}
use Rattle.oer_model.specs.AsnType.{AsnType}
use Rattle.oer_ends.specs.Ends.{has_end}
use Rattle.oer_options.specs.Words.{Asks, Texts, texts_of}
use Rattle.oer_options.specs.declared.options.Options.{Options}
use Rattle.oer_cmd.specs.Answer.{expected_type}
use Rattle.oer_cmd.specs.Ending.{IsMachineLine, Streams, refusal_line}
use Rattle.oer_cmd.specs.Expected.{Expected, Meets, refusal, stop, unknown, value}
use Rattle.oer_cmd.specs.Faults.{AppendsFront, Reports, error_line, status_of}
use Rattle.oer_cmd.specs.Types.{reads_types}
use Rattle.oer_cmd.specs.declared.fault.Fault.{Fault}
use Rattle.oer_cmd.specs.declared.fault.Fault.TheVariants.{NoSource}
use Rattle.oer_cmd.proofs.Endings.{by_status, keeps_same, moved}
use Rattle.oer_lines_cmd.specs.Ending.{Does, DoesFor, IsBroken, Misuses, Runs, RunsBy, lines_type}
use Rattle.oer_lines_cmd.specs.Errors.{misuse_line}
use Rattle.oer_lines_cmd.specs.Tasks.{line_task}
use Rattle.oer_lines_cmd.specs.Ways.{word_of}
use Rattle.oer_lines_cmd.specs.declared.misuse.Misuse.{Misuse}
use Rattle.oer_lines_cmd.specs.declared.task.LineTask.{LineTask}
use Rattle.oer_lines_cmd.specs.declared.way.Way.{Way}
use Rattle.oer_lines_cmd.specs.Answering.{IsKnown}
use Rattle.oer_lines_cmd.proofs.Looping.{streams}

module _ (way : Way) (task : LineTask) (limit : ℕ) (told : Option (List ℕ)) (untouched : Type 0) where
  -- There is a type.
  pub by_type : {X : Type 0} (view : X → AsnType) (expected : Expected AsnType) (x : X) (nests : Bool) (status : ℕ) (s : Streams) → nests ≡ false → IsKnown expected
      → Meets view expected (Ok x) → Runs way nests task (view x) limit told status s → RunsBy way expected task limit told untouched status s
  by_type view unknown x nests status s plain known meets runs = absurd known
  by_type view (refusal r) x nests status s plain known meets runs = absurd meets
  by_type view (value T) x nests status s plain known meets runs = inl (subst (λ U. Runs way false task U limit told status s) meets
      (subst (λ (b : Bool). Runs way b task (view x) limit told status s) plain runs))

  broken : (fault : Fault) (status : ℕ) (o e e' : Option (List ℕ)) → status_of fault ≡ 3 → IsMachineLine (error_line fault) → Reports fault status e e'
      → IsBroken status (streams o o e e')
  broken fault status o e e' three own (line, inl (same, is), front) = (same ∙ three, keeps_same o, (line, moved line (error_line fault) is own, front))
  broken fault status o e e' three own (line, inr (same, is), front) = (same, keeps_same o, (line, inr (inr is), front))

  refused : (expected : Expected AsnType) (fault : Fault) (status : ℕ) (o e e' : Option (List ℕ)) → IsKnown expected → Meets {X = AsnType} (λ T. T) expected (Err fault)
      → Reports fault status e e' → untouched → (status_of fault ≤ 2) ⊎ ((status_of fault ≡ 3) × IsMachineLine (error_line fault))
      → RunsBy way expected task limit told untouched status (streams o o e e')
  refused unknown fault status o e e' known meets tells same which = absurd known
  refused (value T) fault status o e e' known meets tells same (inl small) = absurd (meets small)
  refused (value T) fault status o e e' known meets tells same (inr (three, own)) = inr (same, broken fault status o e e' three own tells)
  refused (refusal r) fault status o e e' known meets (line, inl (own, is), front) same (inl small) =
      let r_is = meets small in
      (same, inl (own ∙ ap (λ x. x.status) r_is, keeps_same o, subst (AppendsFront e e') (is ∙ ap (λ x. refusal_line x.text) r_is) front))
  refused (refusal r) fault status o e e' known meets (line, inr (three, is), front) same (inl small) =
      (same, inr (three, keeps_same o, (line, inr (inr is), front)))
  refused (refusal r) fault status o e e' known meets tells same (inr (three, own)) = (same, inr (broken fault status o e e' three own tells))

  any_view : {X : Type 0} (view : X → AsnType) (expected : Expected AsnType) (fault : Fault) → Meets {X = X} view expected (Err fault)
      → Meets {X = AsnType} (λ T. T) expected (Err fault)
  any_view view unknown fault h = h
  any_view view (refusal r) fault h = h
  any_view view (value T) fault h = h

  -- There is none.
  pub by_fault : {X : Type 0} (view : X → AsnType) (expected : Expected AsnType) (fault : Fault) (status : ℕ) (o e e' : Option (List ℕ)) → IsKnown expected
      → Meets {X = X} view expected (Err fault) → Reports fault status e e' → untouched → RunsBy way expected task limit told untouched status (streams o o e e')
  by_fault view expected fault status o e e' known meets tells same =
      refused expected fault status o e e' known (any_view view expected fault meets) tells same (by_status fault)

  -- The texts are of a type, or of definitions that are given.
  pub given : (t : Texts) (status : ℕ) (s : Streams) → reads_types t ≡ false → RunsBy way (expected_type t) task limit told untouched status s
      → RunsBy way (lines_type t) task limit told untouched status s
  given t status s own h = subst (λ (b : Bool). RunsBy way (if b then stop NoSource else expected_type t) task limit told untouched status s) (sym own) h

  -- The definitions are on the input.
  pub sourceless : (t : Texts) (status : ℕ) (o e e' : Option (List ℕ)) → reads_types t ≡ true → Reports NoSource status e e' → untouched
      → RunsBy way (lines_type t) task limit told untouched status (streams o o e e')
  sourceless t status o e e' reads tells same =
      subst (λ (b : Bool). RunsBy way (if b then stop NoSource else expected_type t) task limit told untouched status (streams o o e e')) (sym reads)
      (by_fault {X = AsnType} (λ T. T) (stop NoSource) NoSource status o e e' tt (λ small. refl) tells same)

  -- The options name no type.
  pub typeless : (t : Texts) (fault : Fault) (status : ℕ) (o e e' : Option (List ℕ)) → reads_types t ≡ false → expected_type t ≡ stop fault
      → Reports fault status e e' → untouched → RunsBy way (lines_type t) task limit told untouched status (streams o o e e')
  typeless t fault status o e e' own is tells same = given t status (streams o o e e') own
      (subst (λ x. RunsBy way x task limit told untouched status (streams o o e e')) (sym is)
      (by_fault {X = AsnType} (λ T. T) (stop fault) fault status o e e' tt (λ small. refl) tells same))

  -- the same texts
  pub renamed : (t u : Texts) (status : ℕ) (s : Streams) → t ≡ u → RunsBy way (lines_type t) task limit told untouched status s
      → RunsBy way (lines_type u) task limit told untouched status s
  renamed t u status s is h = subst (λ x. RunsBy way (lines_type x) task limit told untouched status s) is h

pub misused : (m : Misuse) (untouched : Type 0) (status : ℕ) (o e e' : Option (List ℕ)) → untouched → status ≡ 2 → AppendsFront e e' (misuse_line m)
    → Misuses m untouched status (streams o o e e')
misused m untouched status o e e' same two front = (same, (two, keeps_same o, front))

module _ (words : List Text) (told : Option (List ℕ)) (untouched : Type 0) (status : ℕ) (s : Streams) (options : Options) (asks : Asks words options) (way : Way) where
  pub for_misuse : (T : AsnType) (m : Misuse) → line_task (word_of way) options.task ≡ Err m → Misuses m untouched status s → DoesFor way T words told untouched status s
  for_misuse T m is h = record { options = options; asks = asks; does = inl (m, is, h) }

  pub for_task : (T : AsnType) (by : Way) (nests : Bool) (task : LineTask) (limit : ℕ) → by ≡ way → nests ≡ has_end T
      → line_task (word_of way) options.task ≡ Ok task → limit ≡ options.limit → Runs by nests task T limit told status s
      → DoesFor way T words told untouched status s
  for_task T by nests task limit alike tells is same h = record {
    options = options;
    asks = asks;
    does = inr (
      task,
      is,
      subst (λ n. Runs way (has_end T) task T n told status s) same
          (subst (λ (b : Bool). Runs way b task T limit told status s) tells (subst (λ w. Runs w nests task T limit told status s) alike h)),
    );
  }

  pub by_misuse : (m : Misuse) → line_task (word_of way) options.task ≡ Err m → Misuses m untouched status s → Does way words told untouched status s
  by_misuse m is h = record { options = options; asks = asks; does = inl (m, is, h) }

  pub by_task : (by : Way) (task : LineTask) (limit : ℕ) → by ≡ way → line_task (word_of way) options.task ≡ Ok task → limit ≡ options.limit
      → RunsBy by (lines_type (texts_of options)) task limit told untouched status s → Does way words told untouched status s
  by_task by task limit alike is same h = record {
    options = options;
    asks = asks;
    does = inr (
      task,
      is,
      subst (λ n. RunsBy way (lines_type (texts_of options)) task n told untouched status s) same
          (subst (λ w. RunsBy w (lines_type (texts_of options)) task limit told untouched status s) alike h),
    );
  }
