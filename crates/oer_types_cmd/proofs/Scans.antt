-- What a scan of the words asks for.
use Rattle.std.proofs.Common.{◌≡◌, ◌∙◌, ℕ, List, Bool, true, false, Option, Ok, Err, sym, ap, subst}
use Rattle.std.specs.Prelude.{if◌then◌else◌}
use Rattle.std.specs.Io.KnownBytes.{Appends}
use Rattle.oer_cmd.proofs.Choices.{failing, passing}
use Rattle.oer_cmd.specs.Ending.{Streams}
use Rattle.oer_cmd.specs.Expected.{Expected, refusal, value}
use Rattle.oer_module_cmd.specs.Errors.{options}
use Rattle.oer_module_cmd.specs.Input.{reads_input}
use Rattle.oer_module_options.specs.Asked.{Listing, listing_asked}
use Rattle.oer_module_options.specs.Errors.{Error, Read}
use Rattle.oer_module_options.specs.Scan.{Scan}
use Rattle.oer_module_options.specs.Words.{Text}
use Rattle.oer_types_cmd.specs.Answer.{asked_answer, listing_answer, scan_answer}
use Rattle.oer_types_cmd.specs.Asking.{asks_for_help, reads_by, reads_for, texts_of}
use Rattle.oer_types_cmd.specs.Ending.{EndsIn, Prints, PrintsBy}
use Rattle.oer_types_cmd.specs.Stops.{by_error}

-- ---- what is printed

module _ (help : Text) (told : Option (List ℕ)) (s : Scan) (old new : Option (List ℕ)) where
  pub help_printed : asks_for_help s.kept ≡ true → Appends old new help → PrintsBy help told s old new
  help_printed asks h =
      passing (asks_for_help s.kept) (Appends old new help) ((l : Listing) × (listing_asked s ≡ Ok l) × Prints told l s.modules old new) asks h

  pub listing_printed : (l : Listing) → asks_for_help s.kept ≡ false → listing_asked s ≡ Ok l → Prints told l s.modules old new
      → PrintsBy help told s old new
  listing_printed l asks is h =
      failing (asks_for_help s.kept) (Appends old new help) ((l : Listing) × (listing_asked s ≡ Ok l) × Prints told l s.modules old new) asks
      (l, is, h)

-- ---- what is answered

abbrev answer_if : Bool → Text → Expected Text → Expected Text
answer_if b help m = if b then value help else m

module _ (help : Text) (s : Scan) (told : Option (List ℕ)) (status : ℕ) (streams : Streams) where
  pub help_ends : asks_for_help s.kept ≡ true → EndsIn (value help) status streams → EndsIn (scan_answer help s told) status streams
  help_ends asks h =
      subst (λ (b : Bool). EndsIn (answer_if b help (asked_answer (listing_asked s) s.modules told)) status streams) (sym asks) h

  unhelped : asks_for_help s.kept ≡ false → EndsIn (asked_answer (listing_asked s) s.modules told) status streams
      → EndsIn (scan_answer help s told) status streams
  unhelped asks h =
      subst (λ (b : Bool). EndsIn (answer_if b help (asked_answer (listing_asked s) s.modules told)) status streams) (sym asks) h

  pub listing_ends : (l : Listing) → asks_for_help s.kept ≡ false → listing_asked s ≡ Ok l
      → EndsIn (listing_answer l s.modules told) status streams → EndsIn (scan_answer help s told) status streams
  listing_ends l asks is h =
      unhelped asks (subst (λ (r : Read Listing). EndsIn (asked_answer r s.modules told) status streams) (sym is) h)

  pub rejected_ends : (e : Error) → asks_for_help s.kept ≡ false → listing_asked s ≡ Err e
      → EndsIn (refusal (by_error (options e))) status streams → EndsIn (scan_answer help s told) status streams
  rejected_ends e asks is h =
      unhelped asks (subst (λ (r : Read Listing). EndsIn (asked_answer r s.modules told) status streams) (sym is) h)

-- ---- whether standard input is read

abbrev reads_if : Bool → Bool → Bool
reads_if b c = if b then false else c

-- It is read, or not, as the listing says,
pub read_by : (s : Scan) (l : Listing) (b : Bool) → asks_for_help s.kept ≡ false → listing_asked s ≡ Ok l → reads_by s ≡ b
    → reads_input (texts_of l s.modules) ≡ b
read_by s l b asks is reads =
    sym (ap (λ (c : Bool). reads_if c (reads_for (listing_asked s) s.modules)) asks
    ∙ ap (λ (r : Read Listing). reads_for r s.modules) is) ∙ reads

-- and not where help is asked for,
pub helped_unread : (s : Scan) → asks_for_help s.kept ≡ true → reads_by s ≡ true → ⊥
helped_unread s asks reads =
    let no : false ≡ true = sym (ap (λ (c : Bool). reads_if c (reads_for (listing_asked s) s.modules)) asks) ∙ reads in cc

-- or where the words are rejected.
pub rejected_unread : (s : Scan) (e : Error) → asks_for_help s.kept ≡ false → listing_asked s ≡ Err e → reads_by s ≡ true → ⊥
rejected_unread s e asks is reads =
    let no : false ≡ true = sym (ap (λ (c : Bool). reads_if c (reads_for (listing_asked s) s.modules)) asks
    ∙ ap (λ (r : Read Listing). reads_for r s.modules) is) ∙ reads in cc
