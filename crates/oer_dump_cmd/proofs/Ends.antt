-- How the program ends, from what its steps answer.
use Rattle.std.proofs.Common.{◌≡◌, ◌≢◌, ◌∙◌, ℕ, ◌≤◌, List, [], ◌∷◌, ◌++◌, Bool, false, true, Option, Some, None, Ok, Err, refl, sym, ap, subst, arith, string_bytes, ◌⊎◌, inl, inr, codes, append-nil}
use Rattle.std.specs.Io.KnownBytes.{Appends, Keeps}
use Rattle.clap.specs.Words.{HasKind, IsAmong, Kinds, Text, fault_of, kind_of, takes}
use Rattle.clap.specs.declared.error.Error.{Error}
use Rattle.clap.specs.declared.error.kind.ErrorKind.{ErrorKind}
use Rattle.clap.specs.declared.error.kind.ErrorKind.TheVariants.{DisplayHelp, DisplayVersion, OutOfMemory}
use Rattle.oer_options.specs.Words.{behind}
use Rattle.oer_cmd.specs.Ending.{IsMachineLine, Streams}
use Rattle.oer_cmd.specs.Expected.{Expected, Refusal, refusal, unknown, value}
use Rattle.oer_cmd.specs.Faults.{Reports, error_line, status_of, text_of}
use Rattle.oer_cmd.specs.Types.{reads_types}
use Rattle.oer_cmd.specs.declared.fault.Fault.{Fault}
use Rattle.oer_cmd.specs.declared.fault.Fault.TheVariants.{Memory, Output}
use Rattle.oer_cmd.proofs.Endings.{by_status, moved}
use Rattle.oer_dump_cmd.specs.Ending.{Accepts, AcceptsFor, Answers, Breaks, Ends, EndsFor, IsNotTaken, Outputs, Tells}
use Rattle.oer_dump_cmd.specs.Showing.{AreOne, AreOneWith, Displays, IsReasonLine, Rejection, Shows, judged_as, octets_as, octets_at}
use Rattle.oer_dump_cmd.specs.Telling.{judged_octets_by}
use Rattle.oer_ends_cmd.specs.declared.telling.Origin.TheVariants.{Modules}
use Rattle.oer_dump_cmd.specs.Words.{Asks, given, oer_dump, texts_asked, texts_given}
use Rattle.oer_model.specs.AsnType.{AsnType}
use Rattle.oer_dump_cmd.specs.declared.options.Form.{Form}
use Rattle.oer_dump_cmd.specs.declared.options.Options.{Options}

-- The line of a machine that fails is told.
pub breaks : (fault : Fault) (status : ℕ) (s : Streams) → status ≡ 3 → IsMachineLine (error_line fault) → Reports fault status s.errors s.errors' → Breaks status s
breaks fault status s three own (line, inl (same, is), front) = (three, (line, moved line (error_line fault) is own, front))
breaks fault status s three own (line, inr (same, is), front) = (three, (line, inr (inr is), front))

-- A line with the reason alone.
alone : (reason line : Text) → line ≡ codes "oer: " ++ reason ++ 10 ∷ [] → IsReasonLine reason line
alone reason line is = ([], is ∙ ap (λ (l : Text). l ++ 10 ∷ []) (sym (append-nil (codes "oer: " ++ reason))))

-- The fault is told.
pub refused_end : (expected : Expected Bool) (fault : Fault) (status : ℕ) (s : Streams) → Shows expected (Err fault) → Reports fault status s.errors s.errors' → Answers expected status s ⊎ Breaks status s
refused_end expected fault status s shown (line, inr (three, is), front) = inr (three, (line, inr (inr is), front))
refused_end expected fault status s shown (line, inl (same, is), front) = by expected shown (by_status fault) where
  by : (expected : Expected Bool) → Shows expected (Err fault) → (status_of fault ≤ 2) ⊎ ((status_of fault ≡ 3) × IsMachineLine (error_line fault)) → Answers expected status s ⊎ Breaks status s
  by expected shown (inr (three, own)) = inr (same ∙ three, (line, moved line (error_line fault) is own, front))
  by unknown shown (inl small) = inl tt
  by (value y) shown (inl small) = absurd (shown small)
  by (refusal r) shown (inl small) = inl (same ∙ ap (λ (x : Refusal). x.status) (shown small), (line, subst (λ (x : Refusal). IsReasonLine x.text line) (shown small) (alone (text_of fault) line is), front))

-- What is printed is some text.
some_text : (f : Form) (m : Expected (AsnType × List ℕ)) (rejection : Rejection) (o o' : Option (List ℕ)) → Displays f m (Ok rejection) o o'
    → (text : Text) × Appends o o' text
some_text f unknown rejection o o' h = h
some_text f (value p) rejection o o' h = (h.0, h.2)
some_text f (refusal r) rejection o o' h = absurd h

-- The page is printed.
pub printed_end : (f : Form) (m : Expected (AsnType × List ℕ)) (expected : Expected Bool) (rejection : Rejection) (status : ℕ) (s : Streams) → Shows expected (Ok rejection)
    → Displays f m (Ok rejection) s.output s.output' → Tells rejection status s.errors s.errors' → Answers expected status s
printed_end f m unknown rejection status s shown printed tells = tt
printed_end f m (value c) rejection status s shown printed tells =
    let told : Tells None status s.errors s.errors' = subst (λ r. Tells r status s.errors s.errors') shown tells in
    (told.0, some_text f m rejection s.output s.output' printed, told.1)
printed_end f m (refusal r) (Some line) status s shown printed tells = (tells.0 ∙ sym shown.0, (string_bytes line, shown.1, tells.1))
printed_end f m (refusal r) None status s shown printed tells = absurd shown

-- On status 0 nothing is rejected.
pub unrejected : (rejection : Rejection) (status : ℕ) (errors errors' : Option (List ℕ)) → Tells rejection status errors errors' → status ≡ 0 → rejection ≡ None
unrejected None status errors errors' tells zero = refl
unrejected (Some line) status errors errors' tells zero = absurd (omega (arith, zero, tells.0))

pub accepts : (words : List Text) (usual : ℕ) (told : Option (List ℕ)) (o : Options) → Asks words usual o → AreOneWith (texts_asked o) (behind o.hex) o.limit told → Accepts words told
accepts words usual told o asks h =
    let texts : texts_asked o ≡ texts_given words = rw (← asks.type_text, ← asks.types, ← asks.name) refl in
    record {
      limit = o.limit;
      limit_text = asks.limit.0;
      limit_is = asks.limit.1;
      number = asks.limit.2;
      octets = subst (λ t. AreOneWith t (given words (codes "hex")) o.limit told) texts (subst (λ x. AreOneWith (texts_asked o) x o.limit told) (sym asks.hex) h);
    }

pub accepts_for : (T : AsnType) (words : List Text) (usual : ℕ) (told : Option (List ℕ)) (o : Options) → Asks words usual o → AreOne T (behind o.hex) o.limit told
    → AcceptsFor T words told
accepts_for T words usual told o asks h = record {
  limit = o.limit;
  limit_text = asks.limit.0;
  limit_is = asks.limit.1;
  number = asks.limit.2;
  octets = subst (λ x. AreOne T x o.limit told) (sym asks.hex) h;
}

among_help : (kinds : Kinds) (kind : ErrorKind) → IsAmong kind kinds → (kind ≡ DisplayHelp) ⊎ (kind ≡ DisplayVersion) → IsAmong DisplayHelp kinds ⊎ IsAmong DisplayVersion kinds
among_help kinds kind among (inl is) = inl (subst (λ k. IsAmong k kinds) is among)
among_help kinds kind among (inr is) = inr (subst (λ k. IsAmong k kinds) is among)

helped : (kinds : Kinds) (e : Error) → HasKind kinds e → (kind_of e ≡ DisplayHelp) ⊎ (kind_of e ≡ DisplayVersion) → IsAmong DisplayHelp kinds ⊎ IsAmong DisplayVersion kinds
helped kinds e (inl none) (inl is) = let no : OutOfMemory ≡ DisplayHelp = sym none ∙ is in cc
helped kinds e (inl none) (inr is) = let no : OutOfMemory ≡ DisplayVersion = sym none ∙ is in cc
helped kinds e (inr among) shows = among_help kinds (kind_of e) among shows

-- Words that are not taken.
pub not_taken : (words : List Text) (untouched : Type 0) (e : Error) (status : ℕ) (s : Streams) → HasKind (fault_of oer_dump words) e → (takes oer_dump words ≡ true → kind_of e ≡ OutOfMemory) → (kind_of e ≡ OutOfMemory → status ≡ 3)
    → (status ≡ 0 → (kind_of e ≡ DisplayHelp) ⊎ (kind_of e ≡ DisplayVersion)) → (status ≡ 0 → Keeps s.errors s.errors') → (1 ≤ status → status ≤ 2 → status ≡ 2) → (1 ≤ status → status ≤ 2 → Keeps s.output s.output')
    → (status ≡ 3 → Reports Memory 3 s.errors s.errors' ⊎ Reports Output 3 s.errors s.errors') → untouched → IsNotTaken words untouched status s
not_taken words untouched e status s kind passes memory shows alone two quiet failed same = record {
  refused = λ small taken. (let three = memory (passes taken) in omega (arith, small, three));
  help = λ none. (helped (fault_of oer_dump words) e kind (shows none), alone none);
  said = λ low high. (two low high, quiet low high);
  machine = λ three. by three (failed three);
  keeps = same;
} where
  by : status ≡ 3 → Reports Memory 3 s.errors s.errors' ⊎ Reports Output 3 s.errors s.errors' → Breaks status s
  by three (inl h) = (three, (breaks Memory 3 s refl (inr (inr refl)) h).1)
  by three (inr h) = (three, (breaks Output 3 s refl (inr (inl refl)) h).1)

pub kept : (before after : Option (List ℕ)) → after ≡ before → Keeps before after
kept None after is = tt
kept (Some xs) None is = absurd (cc)
kept (Some xs) (Some ys) is = cc

-- With status 2 nothing is on the output.
pub quiet : (fault : Fault) (status : ℕ) (o o' : Option (List ℕ)) → (status ≤ 2 → status ≡ status_of fault) → (status_of fault ≤ 2 → o' ≡ o)
    → status ≡ 2 → Keeps o o'
quiet fault status o o' same silent two =
    let small : status ≤ 2 = omega (arith, two) in
    kept o o' (silent (omega (arith, small, same small)))

-- The page is on the output.
pub displayed : (f : Form) (m : Expected (AsnType × List ℕ)) (rejection : Rejection) (s : Streams) → Displays f m (Ok rejection) s.output s.output' → Outputs f m s
displayed f unknown rejection s h = tt
displayed f (value p) rejection s h = h
displayed f (refusal r) rejection s h = absurd h

-- There is no page.
pub undisplayed : (f : Form) (m : Expected (AsnType × List ℕ)) (fault : Fault) (status : ℕ) (s : Streams) → Displays f m (Err fault) s.output s.output'
    → (status ≤ 2 → status ≡ status_of fault) → (status_of fault ≤ 2 → s.output' ≡ s.output) → status ≤ 2 → Outputs f m s
undisplayed f unknown fault status s shown same silent small = tt
undisplayed f (value p) fault status s shown same silent small = absurd (shown (omega (arith, small, same small)))
undisplayed f (refusal r) fault status s shown same silent small = kept s.output s.output' (silent (omega (arith, small, same small)))

pub does : (words : List Text) (usual : ℕ) (told : Option (List ℕ)) (untouched : Type 0) (status : ℕ) (s : Streams) (o : Options) → Asks words usual o
    → Answers (judged_as o told) status s ⊎ Breaks status s → (status ≤ 2 → Outputs o.form (octets_as o told) s)
    → (behind o.hex ≢ None → reads_types (texts_asked o) ≡ false → untouched) → Ends words usual told untouched status s
does words usual told untouched status s o asks answers outputs keeps = inl (record { options = o; asks = asks; answers = answers; outputs = outputs; keeps = keeps })

pub does_for : (T : AsnType) (words : List Text) (usual : ℕ) (told : Option (List ℕ)) (untouched : Type 0) (status : ℕ) (s : Streams) (o : Options)
    → Asks words usual o
    → Answers (judged_octets_by Modules (behind o.hex) o.limit told T) status s ⊎ Breaks status s
    → (status ≤ 2 → Outputs o.form (octets_at (behind o.hex) o.limit told T) s) → (behind o.hex ≢ None → untouched) → EndsFor T words usual told untouched status s
does_for T words usual told untouched status s o asks answers outputs keeps =
    inl (record { options = o; asks = asks; answers = answers; outputs = outputs; keeps = keeps })
