-- How a command with `--explain` ends.
use Rattle.std.specs.Prelude.{◌≡◌, ◌⊎◌, ℕ, List, Bool, true, false, Option, Some, None, IfSome, Vec, ⊤}
use Rattle.std.specs.Global.{Global}
use Rattle.std.specs.Io.KnownBytes.{Keeps}
use Rattle.clap.specs.Words.{Text, takes}
use Rattle.oer_model.specs.AsnType.{AsnType}
use Rattle.oer_checker.specs.Check.{most}
use Rattle.oer_options.specs.Words.{Asks, oer, texts_of}
use Rattle.oer_options.specs.declared.options.Options.{Options}
use Rattle.oer_cmd.specs.Ending as usual
use Rattle.oer_cmd.specs.Faults.{Reports}
use Rattle.oer_cmd.specs.Octets.{IsTooLong}
use Rattle.oer_cmd.specs.declared.fault.Fault.{Fault}
use Rattle.oer_canonical_cmd.specs.Ending as canonical
use Rattle.oer_at_cmd.specs.Ending as at
use Rattle.oer_ends_cmd.specs.Ending.{EndsForModules}
use Rattle.oer_ends_cmd.specs.declared.telling.Origin.TheVariants.{Modules}
use Rattle.oer_places.specs.Input.{IsFront}
use Rattle.oer_explain_cmd.specs.Adding.{is_held, notes_of, own_notes}
use Rattle.oer_explain_cmd.specs.Found.{type_by}
use Rattle.oer_explain_cmd.specs.Holding.{AddsHeld, AddsHeldFor, HoldsAll, HoldsAllFor, reads_all_for}
use Rattle.oer_explain_cmd.specs.Looking.{looks_first, reads_octets}
use Rattle.oer_explain_cmd.specs.Told.{Says}
use Rattle.oer_explain_cmd.specs.Saying.{AddsGiven, AddsIf, HintsAt, SaysBy}
use Rattle.oer_explain_cmd.specs.declared.adding.Command.{Command}
use Rattle.oer_explain_cmd.specs.declared.adding.Command.TheVariants.{At, Canonical, Usual}

-- What the command does without the option. told: what the input had left, if it is known; untouched: the input is as it was.
abbrev pub EndsWithout : Command → List Text → Option (List ℕ) → Type 0 → ℕ
    → Option (List ℕ) → Option (List ℕ) → Option (List ℕ) → Option (List ℕ) → Type 0
EndsWithout Usual words told untouched status output output' errors errors' = usual.Ends words told untouched status output output' errors errors'
EndsWithout Canonical words told untouched status output output' errors errors' = canonical.Ends words told untouched status output output' errors errors'
EndsWithout (At names) words told untouched status output output' errors errors' = at.Ends names.now words told untouched status output output' errors errors'

-- What is held of an input that had these octets left: all of them, if it is to be; else nothing, and the input is untouched.
abbrev pub IsHeld : Bool → Option (List ℕ) → Type 0 → Option (Vec ℕ Global) → Type 0
IsHeld is told untouched None = (is ≡ false) × untouched
IsHeld is told untouched (Some b) = (is ≡ true) × IfSome told (λ xs. xs ≡ b.items)

-- The words aren't taken, or memory ran out, and nothing is added to what the command says.
abbrev pub IsNotTaken : Command → List Text → Option (List ℕ) → Type 0 → ℕ
    → Option (List ℕ) → Option (List ℕ) → Option (List ℕ) → Option (List ℕ) → Type 0
IsNotTaken command words told untouched status output output' errors errors' =
    (takes oer words ≡ true → status ≡ 3) × EndsWithout command words told untouched status output output' errors errors'

-- The input could not be read whole, where the text of definitions is read from it, and the errors say why.
abbrev pub IsUnread : Option (List ℕ) → ℕ → Option (List ℕ) → Option (List ℕ) → Option (List ℕ) → Option (List ℕ) → Type 0
IsUnread told status output output' errors errors' =
    (fault : Fault) × IsTooLong most None told fault × Reports fault status errors errors' × Keeps output output'

-- The command does what it does without the option: on the input; or on the text of definitions that it reads from there, which was held.
abbrev pub IsDone : Command → List Text → Option (List ℕ) → Type 0 → Option (List ℕ) → Bool → ℕ
    → Option (List ℕ) → Option (List ℕ) → Option (List ℕ) → Option (List ℕ) → Type 0
IsDone command words told untouched None is status output output' errors middle =
    (is ≡ false) × EndsWithout command words told untouched status output output' errors middle
IsDone command words told untouched (Some b) is status output output' errors middle =
    (is ≡ true) × IfSome told (λ xs. xs ≡ b) × EndsWithout command words (Some b) ⊤ status output output' errors middle

-- The words ask for these options. What the command does leaves the errors as in middle, and then the notes are added to them. Nothing is said of
-- the place at which the JSON reader stopped.
pub record Does (command : Command) (words : List Text) (told : Option (List ℕ)) (untouched : Type 0) (status : ℕ)
    (output output' errors errors' : Option (List ℕ)) : Type 0 where
  pub options : Options
  pub asks : Asks words options
  pub held : Option (List ℕ)
  pub stopped : ℕ
  pub ends : (middle : Option (List ℕ)) × IsDone command words told untouched held (is_held command options) status output output' errors middle
      × AddsGiven (notes_of stopped command options held) (SaysBy options true (type_by (texts_of options) held)) options status middle errors'

-- The input is looked at, which takes nothing of it, and then the command does what it does without the option. It leaves the errors as in
-- middle, and then what is said of a front of the input is added to them; nothing, if no front was seen.
pub record IsLookedAt (ends : Option (List ℕ) → Option (List ℕ) → Type 0) (says : List ℕ → Text → Type 0) (told : Option (List ℕ)) (status : ℕ)
    (errors' : Option (List ℕ)) : Type 0 where
  pub found : Option (List ℕ)
  pub keeps : Keeps told found
  pub front : Option (List ℕ)
  pub seen : IfSome front (IsFront told)
  pub done : (middle : Option (List ℕ)) × ends found middle × AddsIf says front status middle errors'

-- what a command does that is looked at so
abbrev pub Looks : Command → List Text → Options → Option (List ℕ) → ℕ
    → Option (List ℕ) → Option (List ℕ) → Option (List ℕ) → Option (List ℕ) → Type 0
Looks command words o told status output output' errors errors' =
    IsLookedAt (λ found middle. EndsWithout command words found ⊤ status output output' errors middle)
    (HintsAt (SaysBy o false (type_by (texts_of o) None))) told status errors'

-- The words ask for these options, by which the command comes to read a value from the input.
abbrev pub DoesLooking : Command → List Text → Option (List ℕ) → ℕ
    → Option (List ℕ) → Option (List ℕ) → Option (List ℕ) → Option (List ℕ) → Type 0
DoesLooking command words told status output output' errors errors' =
    (o : Options) × Asks words o × (looks_first command o ≡ true) × Looks command words o told status output output' errors errors'

-- The input could not be read whole, and the errors say why; no more than this limit is read.
abbrev pub IsNotHeld : ℕ → Option (List ℕ) → ℕ → Option (List ℕ) → Option (List ℕ) → Option (List ℕ) → Option (List ℕ) → Type 0
IsNotHeld limit told status output output' errors errors' =
    (fault : Fault) × IsTooLong limit None told fault × Reports fault status errors errors' × Keeps output output'

-- What the input had left was held. What the command does on it, as without the option, leaves the errors as in middle, and then these notes are
-- added to them.
pub record IsHeldAll (ends : Option (List ℕ) → Option (List ℕ) → Type 0) (adds : List ℕ → ℕ → Option (List ℕ) → Option (List ℕ) → Type 0)
    (told : Option (List ℕ)) (status : ℕ) (errors' : Option (List ℕ)) : Type 0 where
  pub octets : List ℕ
  pub all : IfSome told (λ xs. xs ≡ octets)
  pub done : (middle : Option (List ℕ)) × ends (Some octets) middle × adds octets status middle errors'

abbrev pub Holds : Command → List Text → Options → Option (List ℕ) → ℕ
    → Option (List ℕ) → Option (List ℕ) → Option (List ℕ) → Option (List ℕ) → Type 0
Holds command words o told status output output' errors errors' =
    IsNotHeld o.limit told status output output' errors errors'
    ⊎ IsHeldAll (λ found middle. EndsWithout command words found ⊤ status output output' errors middle) (AddsHeld o.task o) told status errors'

-- The words ask for these options, by which the command comes to read all of the input: this can't be read whole, or is held.
abbrev pub DoesHolding : Command → List Text → Option (List ℕ) → ℕ
    → Option (List ℕ) → Option (List ℕ) → Option (List ℕ) → Option (List ℕ) → Type 0
DoesHolding command words told status output output' errors errors' =
    (o : Options) × Asks words o × HoldsAll command o × Holds command words o told status output output' errors errors'

-- What a command with `--explain` does.
abbrev pub Explains : Command → List Text → Option (List ℕ) → Type 0 → ℕ
    → Option (List ℕ) → Option (List ℕ) → Option (List ℕ) → Option (List ℕ) → Type 0
Explains command words told untouched status output output' errors errors' =
    IsNotTaken command words told untouched status output output' errors errors'
    ⊎ IsUnread told status output output' errors errors'
    ⊎ Does command words told untouched status output output' errors errors'
    ⊎ DoesLooking command words told status output output' errors errors'
    ⊎ DoesHolding command words told status output output' errors errors'

-- ---- by a type of modules

abbrev pub EndsWithoutFor : Command → AsnType → List Text → Option (List ℕ) → Type 0 → ℕ
    → Option (List ℕ) → Option (List ℕ) → Option (List ℕ) → Option (List ℕ) → Type 0
EndsWithoutFor Usual T words told untouched status output output' errors errors' = EndsForModules T words told untouched status output output' errors errors'
EndsWithoutFor Canonical T words told untouched status output output' errors errors' = canonical.EndsFor T words told untouched status output output' errors errors'
EndsWithoutFor (At names) T words told untouched status output output' errors errors' = at.EndsFor T names.now words told untouched status output output' errors errors'

-- The words aren't taken, or memory ran out, and nothing is added to what the command says.
abbrev pub IsNotTakenFor : Command → AsnType → List Text → Option (List ℕ) → Type 0 → ℕ
    → Option (List ℕ) → Option (List ℕ) → Option (List ℕ) → Option (List ℕ) → Type 0
IsNotTakenFor command T words told untouched status output output' errors errors' =
    (takes oer words ≡ true → status ≡ 3) × EndsWithoutFor command T words told untouched status output output' errors errors'

-- The words ask for these options. What the command does leaves the errors as in middle, and then the notes are added to them.
pub record DoesFor (command : Command) (T : AsnType) (words : List Text) (told : Option (List ℕ)) (untouched : Type 0) (status : ℕ)
    (output output' errors errors' : Option (List ℕ)) : Type 0 where
  pub options : Options
  pub asks : Asks words options
  pub stopped : ℕ
  pub ends : (middle : Option (List ℕ)) × EndsWithoutFor command T words told untouched status output output' errors middle
      × AddsGiven (own_notes stopped command T options) (Says Modules options true T) options status middle errors'

abbrev pub LooksFor : Command → AsnType → List Text → Options → Option (List ℕ) → ℕ
    → Option (List ℕ) → Option (List ℕ) → Option (List ℕ) → Option (List ℕ) → Type 0
LooksFor command T words o told status output output' errors errors' =
    IsLookedAt (λ found middle. EndsWithoutFor command T words found ⊤ status output output' errors middle) (HintsAt (Says Modules o false T)) told status errors'

abbrev pub DoesLookingFor : Command → AsnType → List Text → Option (List ℕ) → ℕ
    → Option (List ℕ) → Option (List ℕ) → Option (List ℕ) → Option (List ℕ) → Type 0
DoesLookingFor command T words told status output output' errors errors' =
    (o : Options) × Asks words o × (reads_all_for command T o.task ≡ false) × (reads_octets command o.task ≡ true)
    × LooksFor command T words o told status output output' errors errors'

abbrev pub HoldsFor : Command → AsnType → List Text → Options → Option (List ℕ) → ℕ
    → Option (List ℕ) → Option (List ℕ) → Option (List ℕ) → Option (List ℕ) → Type 0
HoldsFor command T words o told status output output' errors errors' =
    IsNotHeld o.limit told status output output' errors errors'
    ⊎ IsHeldAll (λ found middle. EndsWithoutFor command T words found ⊤ status output output' errors middle) (AddsHeldFor o.task T o) told status errors'

abbrev pub DoesHoldingFor : Command → AsnType → List Text → Option (List ℕ) → ℕ
    → Option (List ℕ) → Option (List ℕ) → Option (List ℕ) → Option (List ℕ) → Type 0
DoesHoldingFor command T words told status output output' errors errors' =
    (o : Options) × Asks words o × HoldsAllFor command T o.task × HoldsFor command T words o told status output output' errors errors'

abbrev pub ExplainsFor : Command → AsnType → List Text → Option (List ℕ) → Type 0 → ℕ
    → Option (List ℕ) → Option (List ℕ) → Option (List ℕ) → Option (List ℕ) → Type 0
ExplainsFor command T words told untouched status output output' errors errors' =
    IsNotTakenFor command T words told untouched status output output' errors errors'
    ⊎ DoesFor command T words told untouched status output output' errors errors'
    ⊎ DoesLookingFor command T words told status output output' errors errors'
    ⊎ DoesHoldingFor command T words told status output output' errors errors'
