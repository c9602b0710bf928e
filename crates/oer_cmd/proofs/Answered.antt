-- The line of a task is what the plain functions answer: a line that they answer is that of the task, and where they answer none, there is
-- none.
use Rattle.std.proofs.Common.{◌≡◌, ◌≢◌, ◌∙◌, ℕ, zero, suc, ◌-◌, ◌≤◌, Bool, true, false, List, [], ◌∷◌, length, Option, Some, None, Err, String, Global, refl, sym, ap, subst, arith, append-nil, ◌^◌, ◌<◌, ◌++◌, Result, Ok, string_bytes, ◌⊎◌, inl, inr}
use Rattle.std.specs.Prelude.{◌↔◌, if◌then◌else◌, IfOk, leb, MatchBool}
use Rattle.std.specs.Str.{IsUtf8, is_utf8}
use Rattle.oer_cmd.specs.Taking.{status_after}
use Rattle.clap.specs.Words.{Text}
use Rattle.hex.specs.Hex.{encode_lower, decode_of, lower_digits}
use Rattle.oer_units.specs.Reader.{at, got, Outcome, refused}
use Rattle.oer_model.specs.AsnType.{AsnType}
use Rattle.oer_model.specs.AsnValue.{AsnValue}
use Rattle.oer_model.specs.Canonical.{canonical_octets}
use Rattle.oer_model.specs.Checking.{check_value}
use Rattle.oer_model.specs.Encoding.{Encodes}
use Rattle.oer_model.specs.Laws.{Judges, IsRightAnswer, Means}
use Rattle.oer_model.specs.Parts.{Step, find_part, Answer, absent_part, found, no_such_step}
use Rattle.oer_model.specs.Reading.{read_value}
use Rattle.oer_model.specs.WellFormed.{IsWellFormed}
use Rattle.oer_model.proofs.bits.Packing.{octets_from}
use Rattle.oer_model.proofs.canonical.Computed.{canon_computed}
use Rattle.oer_model.proofs.checking.Judged.{check_tells}
use Rattle.oer_model.proofs.faults.Faults.{defaults_fit}
use Rattle.oer_model.proofs.paths.Finding.{finds_parts}
use Rattle.oer_model.proofs.reading.Theorems.{reads_each, reads_encodings}
use Rattle.oer_checker.specs.Check.{most}
use Rattle.oer_json.specs.Made.{made}
use Rattle.oer_json.specs.Take.{taken}
use Rattle.oer_json.proofs.Complete.{taken_complete}
use Rattle.oer_notation.specs.Grammar.{AreWellFormed, IsDefined, later_definition, this_definition}
use Rattle.oer_notation.specs.Laws.{ParseAllComplete, ParseComplete}
use Rattle.oer_notation.specs.Reading.{Known, find}
use Rattle.oer_notation.proofs.NamesGiven.{find_given}
use Rattle.oer_options.specs.Words.{Kind, Texts, behind, canon, check, kind, make, part, path_text, show, source_text}
use Rattle.oer_options.specs.declared.options.Task.{Task}
use Rattle.oer_options.specs.declared.options.Task.TheVariants.{Canon, Check, Make, Part, Show}
use Rattle.oer_cmd.specs.Answer.{answer_of, check_octets, checked, decoded_as, given_octets, handed, hex_octets, in_digits, in_form, json_read, json_taken, limited_octets, make_text, named_as, parsed, part_answer, part_octets, task_answer, texts_read, type_among, types_input, value_read, value_text, whole, within_limit, HasNoPath, HasPath, IsPathOf, digits_octets, ended, json_in, input_octets, limited, expected_type}
use Rattle.oer_cmd.specs.Expected.{Expected, Meets, refusal, unknown, value, ◌>>=◌, Says, SaysOf, stop}
use Rattle.oer_cmd.specs.Laws.{HasNoLine, TasksRefuse, TextsRefuse, TasksTell}
use Rattle.oer_cmd.specs.Run.{AreCanonical, IsCheckLine, IsEncoding, IsInForm, IsLineBy, IsLineOf, IsMakeLine, IsPart, IsPartLine, IsPath, IsValueLine, OfOctets, json_text, verdict_text, MayBe}
use Rattle.oer_cmd.specs.Types.{IsNamed, SpelledBy, SpelledWith, reads_types}
use Rattle.oer_cmd.specs.declared.fault.Fault.{Fault}
use Rattle.oer_cmd.specs.declared.value.Form.{Form}
use Rattle.oer_cmd.specs.declared.value.Form.TheVariants as form
use Rattle.oer_cmd.proofs.Exact.{utf8_read, within_value, at_end}
use Rattle.oer_cmd.proofs.Meeting.{assoc, bytes, meets, named, named_of}
use Rattle.oer_cmd.proofs.TypesInput.{input_there, no_octet, task_kept, line_by}
use Rattle.std.proofs.lemmas.Bool.{leb-true}
use Rattle.std.proofs.lemmas.Str.{IsUtf8-from_is_utf8}
use Rattle.std.specs.Borrow.{Bor}
use Rattle.hex.specs.declared.error.FromHexError.{FromHexError}
use Rattle.hex.proofs.HexLemmas.{decode_of-ok, length-encode_with}
use Rattle.serde_json.specs.Data.{Data}
use Rattle.serde_json.specs.Read.{read}
use Rattle.oer_units.specs.Octets.{IsOctets}
use Rattle.oer_model.specs.Fits.{Fits}
use Rattle.oer_model.specs.Strict.{IsCanonical}
use Rattle.oer_model.proofs.canonical.Given.{canon_given}
use Rattle.oer_json.specs.declared.fault.JsonFault.{JsonFault}
use Rattle.oer_json.proofs.Sound.{taken_sound}
use Rattle.oer_cmd.specs.declared.fault.Fault.TheVariants.{Longer, Path}

-- ---- steps

-- What was answered was made of a value.
pub made_of : {A B : Type 0} (m : Expected A) (next : A → Expected B) (y : B) → (m >>= next) ≡ value y → (x : A) × (m ≡ value x) × (next x ≡ value y)
made_of unknown next y h = absurd (cc)
made_of (refusal r) next y h = absurd (cc)
made_of (value x) next y h = (x, refl, h)

same_line : (x line : Text) → line ≡ x → value x ≡ value line
same_line x line is = ap (λ (l : Text). value l) (sym is)

-- Octets have a line only within the limit.
few_said : (limit : ℕ) (f : List ℕ → Expected Text) (b : List ℕ) (line : Text) → limited limit f b ≡ value line → (length b ≤ limit) × (f b ≡ value line)
few_said limit f b line h = by (leb (length b) limit) refl h where
  by : (few : Bool) → leb (length b) limit ≡ few → ((if few then value b else stop (Longer limit)) >>= f) ≡ value line → (length b ≤ limit) × (f b ≡ value line)
  by true few h = (leb-true (length b) limit few, h)
  by false few h = absurd (cc)

few_there : (limit : ℕ) (f : List ℕ → Expected Text) (b : List ℕ) (line : Text) → length b ≤ limit → f b ≡ value line → limited limit f b ≡ value line
few_there limit f b line few h = ap (λ o. o >>= f) (within_value limit b few) ∙ h

-- They are given by digits, or the input has them.
module _ (b : List ℕ) (P : List ℕ → Type 0) (f : List ℕ → Expected Text) (line : Text) where
  given_said : (hex : Option Text) → IsOctets b → ((c : List ℕ) → IsOctets c → f c ≡ value line → P c) → (given_octets hex (Some b) >>= f) ≡ value line
      → OfOctets hex (Some b) P
  given_said None octets to h = to b octets h
  given_said (Some digits) octets to h = by (decode_of digits) refl h where
    by : (r : Result (List ℕ) FromHexError) → decode_of digits ≡ r → (decoded_as r >>= f) ≡ value line → OfOctets (Some digits) (Some b) P
    by (Ok c) is h = (c, is, to c (octets_from c (decode_of-ok digits c is).3) h)
    by (Err e) is h = absurd (cc)

  given_there : (hex : Option Text) → ((c : List ℕ) → P c → f c ≡ value line) → OfOctets hex (Some b) P → (given_octets hex (Some b) >>= f) ≡ value line
  given_there (Some digits) to (c, spells, p) = ap (λ r. decoded_as r >>= f) spells ∙ to c p
  given_there None to p = to b p

-- where the limit is tested
limited_given : (hex : Option Text) (limit : ℕ) (told : Option (List ℕ)) (f : List ℕ → Expected Text)
    → (hex_octets hex >>= λ spelt. limited_octets limit spelt told >>= f) ≡ (given_octets hex told >>= limited limit f)
limited_given (Some digits) limit told f = assoc (digits_octets digits) (λ b. value (Some b)) (λ spelt. limited_octets limit spelt told >>= f)
limited_given None limit told f = assoc (input_octets told) (within_limit limit) f

-- two tests of one thing
pub one_test : {A : Type 0} (p q : Bool) → (p ≡ true ↔ A) → (q ≡ true ↔ A) → p ≡ q
one_test true true h k = refl
one_test true false h k = sym (k.1 (h.0 refl))
one_test false true h k = h.1 (k.0 refl)
one_test false false h k = refl

-- ==== The line of octets, or of a text, is what the plain functions make of them.

module _ (T : AsnType) (well : IsWellFormed T) where
  value_said : (limit : ℕ) (b : List ℕ) (v : AsnValue) → IsOctets b → value_read T limit b ≡ value v → Encodes T v b × (length b ≤ limit)
  value_said limit b v octets h =
      let e = at_end b (read_value T (at b limit)) v h in
      let right : IsRightAnswer (λ why t rest. Means why T limit t rest) T b limit (got v e.0) =
      subst (IsRightAnswer (λ why t rest. Means why T limit t rest) T b limit) e.1 (reads_encodings T well.limits b limit octets) in
      let all : right.0 ≡ b = sym (append-nil right.0) ∙ ap (λ (l : List ℕ). right.0 ++ l) (sym e.2) ∙ sym right.1 in
      (subst (λ (l : List ℕ). Encodes T v l) all right.3, subst (λ (l : List ℕ). length l ≤ limit) all right.2)

  value_there : (v : AsnValue) (b : List ℕ) (n : ℕ) → Encodes T v b → length b ≤ n → read_value T (at b n) ≡ got v (at [] (n - length b))
  value_there v b n enc few = ap (λ (l : List ℕ). read_value T (at l n)) (sym (append-nil b)) ∙ reads_each T well.limits v b [] n enc few

  checked_is : (b : List ℕ) (f : Bool) → IsOctets b → length b ≤ most → checked T b ≡ value f
      → (v : AsnValue) × Encodes T v b × (f ≡ true ↔ AreCanonical T b)
  checked_is b f octets few h =
      by (read_value T (at b most)) refl (check_tells T well.limits (defaults_fit T well) b most octets (omega (arith, few))) where
        by : (o : Outcome AsnValue) → read_value T (at b most) ≡ o → Judges T b o (check_value T (at b most))
            → (v : AsnValue) × Encodes T v b × (f ≡ true ↔ AreCanonical T b)
        by (refused why rest) is judged =
            let no : value f ≡ whole b (refused why rest) = sym h ∙ ap (whole b) judged in absurd (cc)
        by (got v q) is (t, g, split, judged, tells) =
            let e = at_end b (got g q) f (sym (ap (whole b) judged) ∙ h) in
            let same : got g q ≡ got f e.0 = e.1 in
            let none : q.input ≡ [] = ap (λ r. r.input) (let one : q ≡ e.0 = cc in one) ∙ e.2 in
            let all : t ≡ b = sym (append-nil t) ∙ ap (λ (l : List ℕ). t ++ l) (sym none) ∙ sym split in
            let read : value_read T most b ≡ value v = ap (whole b) is ∙ ap (λ (l : List ℕ). ended (length b - length l) v l) none in (
              v,
              (value_said most b v octets read).0,
              subst (λ (l : List ℕ). f ≡ true ↔ AreCanonical T l) all (subst (λ (x : Bool). x ≡ true ↔ AreCanonical T t) (let one : g ≡ f = cc in one) tells),
            )

  -- An encoding is checked.
  checked_there : (v : AsnValue) (b : List ℕ) → Encodes T v b → length b ≤ most
      → (f : Bool) × (checked T b ≡ value f) × (f ≡ true ↔ AreCanonical T b)
  checked_there v b enc few =
      let judged = subst (λ o. Judges T b o (check_value T (at b most))) (value_there v b most enc few)
      (check_tells T well.limits (defaults_fit T well) b most enc.0 (omega (arith, few))) in
      let same : judged.0 ≡ b = sym (judged.2 ∙ append-nil judged.0) in
      (judged.1, ap (whole b) judged.3, subst (λ (l : List ℕ). judged.1 ≡ true ↔ AreCanonical T l) same judged.4)

  module _ (limit : ℕ) (line : Text) where
    -- A line of fewer than 2^64 octets has the canonical octets of a value.
    canonical_is : (v : AsnValue) → Fits T v → length line < 2 ^ 64 → line ≡ encode_lower (canonical_octets T v) → IsCanonical T v (canonical_octets T v)
    canonical_is v fits short is =
        canon_given T well.limits v fits (omega (arith, short, ap length is, length-encode_with lower_digits (canonical_octets T v)))

    form_is : (f : Form) (v : AsnValue) → Fits T v → length line < 2 ^ 64 → in_form f T v ≡ value line → IsInForm f T v line
    form_is form.Octets v fits short is =
        let same : line ≡ encode_lower (canonical_octets T v) = cc in (canonical_octets T v, canonical_is v fits short same, same)
    form_is (form.Json style) v fits short is = let same : line ≡ json_text style (made T v) = cc in same

    of_form : (f : Form) (v : AsnValue) → IsInForm f T v line → in_form f T v ≡ value line
    of_form form.Octets v (c, canonical, is) = same_line (encode_lower (canonical_octets T v)) line (is ∙ ap encode_lower (canon_computed T v c canonical))
    of_form (form.Json style) v is = same_line (json_text style (made T v)) line is

    form_said : (f : Form) → length line < 2 ^ 64 → (b : List ℕ) → IsOctets b → value_text f T limit b ≡ value line → IsValueLine f T limit line b
    form_said f short b octets h =
        let m = made_of (value_read T limit b) (in_form f T) line h in
        let e = value_said limit b m.0 octets m.1 in (m.0, e.0, e.1, form_is f m.0 e.0.1 short m.2)

    form_there : (f : Form) (b : List ℕ) → IsValueLine f T limit line b → value_text f T limit b ≡ value line
    form_there f b (v, enc, few, is) = ap (λ o. o >>= in_form f T) (ap (whole b) (value_there v b limit enc few)) ∙ of_form f v is

    -- ---- octets that are checked

    check_said : limit ≤ most → (b : List ℕ) → IsOctets b → limited limit (check_octets T) b ≡ value line → IsCheckLine T limit line b
    check_said bound b octets h =
        let few = few_said limit (check_octets T) b line h in
        let m = made_of (checked T b) (λ c. value (verdict_text c (length b))) line few.1 in
        let k = checked_is b m.0 octets (omega (arith, few.0, bound)) m.1 in
        ((k.0, k.1), few.0, (m.0, (let e = m.2 in cc), k.2))

    check_there : limit ≤ most → (b : List ℕ) → IsCheckLine T limit line b → limited limit (check_octets T) b ≡ value line
    check_there bound b ((v, enc), few, (canonical, is, tells)) =
        let k = checked_there v b enc (omega (arith, few, bound)) in
        few_there limit (check_octets T) b line few (ap (λ o. o >>= λ f. value (verdict_text f (length b))) k.1
        ∙ same_line (verdict_text k.0 (length b)) line (is ∙ ap (λ f. verdict_text f (length b)) (one_test canonical k.0 tells k.2)))

    handed_is : (a : Answer) → handed a ≡ value line → (U : Option AsnType) × (s : List ℕ) × (a ≡ found U s) × (line ≡ encode_lower s)
    handed_is (found U s) h = (U, s, refl, cc)
    handed_is no_such_step h = absurd (cc)
    handed_is absent_part h = absurd (cc)

    part_said : limit ≤ most → (text : Option Text) (path : List Step) → IsPath text path → (b : List ℕ) → IsOctets b
        → limited limit (part_octets T path) b ≡ value line → IsPartLine T limit text line b
    part_said bound text path spelled b octets h =
        let few = few_said limit (part_octets T path) b line h in
        let m = made_of (checked T b) (λ c. handed (find_part (Some T) b path)) line few.1 in
        let k = checked_is b m.0 octets (omega (arith, few.0, bound)) m.1 in
        let p = handed_is (find_part (Some T) b path) m.2 in
        let within = (finds_parts T well.limits (defaults_fit T well) k.0 b k.1 path p.0 p.1).0 p.2 in
        ((k.0, k.1), few.0, (path, spelled, (p.0, p.1, within, p.3)))

    part_there : limit ≤ most → (path : List Step) (b : List ℕ) → IsEncoding T b × (length b ≤ limit) × IsPart T path line b
        → limited limit (part_octets T path) b ≡ value line
    part_there bound path b ((v, enc), few, (U, s, within, is)) =
        let k = checked_there v b enc (omega (arith, few, bound)) in
        few_there limit (part_octets T path) b line few (ap (λ o. o >>= λ f. handed (find_part (Some T) b path)) k.1
        ∙ ap handed ((finds_parts T well.limits (defaults_fit T well) v b enc path U s).1 within) ∙ same_line (encode_lower s) line is)

    part_answered : limit ≤ most → (hex text : Option Text) (b : List ℕ) → OfOctets hex (Some b) (IsPartLine T limit text line)
        → (path : List Step) × IsPath text path × ((given_octets hex (Some b) >>= limited limit (part_octets T path)) ≡ value line)
    part_answered bound (Some digits) text b (c, spells, (all, few, (path, is, leads))) = (
      path,
      is,
      given_there b
          (λ d. IsEncoding T d × (length d ≤ limit) × IsPart T path line d) (limited limit (part_octets T path)) line (Some digits) (part_there bound path) (c, spells, (all, few, leads)),
    )
    part_answered bound None text b (all, few, (path, is, leads)) = (path, is, part_there bound path b (all, few, leads))

    -- ---- JSON

    json_said : (text : Text) (j : Data) → json_in text ≡ value j → IsUtf8 text × (read text ≡ Some j)
    json_said text j h = by (is_utf8 text) (read text) refl refl h where
      by : (utf8 : Bool) (o : Option Data) → is_utf8 text ≡ utf8 → read text ≡ o → json_read (if utf8 then o else None) ≡ value j → IsUtf8 text × (read text ≡ Some j)
      by true (Some i) is reads h = (IsUtf8-from_is_utf8 text is, reads ∙ (let e : i ≡ j = cc in ap (λ (k : Data). Some k) e))
      by _ _ is reads h = absurd (cc)

    taken_is : (r : Result AsnValue JsonFault) (v : AsnValue) → json_taken r ≡ value v → r ≡ Ok v
    taken_is (Ok w) v h = cc
    taken_is (Err e) v h = absurd (cc)

    text_said : length line < 2 ^ 64 → (text : Text) → limited limit (make_text T) text ≡ value line → IsMakeLine T limit line text
    text_said short text h =
        let few = few_said limit (make_text T) text line h in
        let m = made_of (json_in text) (λ j. json_taken (taken T j) >>= λ v. in_digits (canonical_octets T v)) line few.1 in
        let n = made_of (json_taken (taken T m.0)) (λ v. in_digits (canonical_octets T v)) line m.2 in
        let j = json_said text m.0 m.1 in
        let of = taken_sound T m.0 n.0 (taken_is (taken T m.0) n.0 n.1) in
        (few.0, (j.0, (m.0, j.1, (n.0, of, form_is form.Octets n.0 of.1 short n.2))))

    text_there : (text : Text) → IsMakeLine T limit line text → limited limit (make_text T) text ≡ value line
    text_there text (few, (utf8, (j, is, (v, of, same)))) =
        few_there limit (make_text T) text line few
        (ap (λ o. o >>= λ j. json_taken (taken T j) >>= λ v. in_digits (canonical_octets T v)) (utf8_read text utf8 ∙ ap json_read is)
        ∙ ap (λ r. json_taken r >>= λ v. in_digits (canonical_octets T v)) (taken_complete T well j v of)
        ∙ of_form form.Octets v same)

-- ==== The line of a task is what its plain function answers.

pub tasks_tell : TasksTell
tasks_tell T well (Show hex style) limit bound b octets path spelled line short h =
    given_said b (IsValueLine (form.Json style) T limit line) (value_text (form.Json style) T limit) line (behind hex) octets
    (form_said T well limit line (form.Json style) short) h
tasks_tell T well (Canon hex) limit bound b octets path spelled line short h =
    given_said b (IsValueLine form.Octets T limit line) (value_text form.Octets T limit) line (behind hex) octets (form_said T well limit line form.Octets short) h
tasks_tell T well (Check hex) limit bound b octets path spelled line short h =
    given_said b (IsCheckLine T limit line) (limited limit (check_octets T)) line (behind hex) octets (check_said T well limit line bound) h
tasks_tell T well (Make (Some text)) limit bound b octets path spelled line short h = text_said T well limit line short text.now h
tasks_tell T well (Make None) limit bound b octets path spelled line short h = text_said T well limit line short b h
tasks_tell T well (Part hex text) limit bound b octets path spelled line short h =
    given_said b (IsPartLine T limit (behind text) line) (limited limit (part_octets T path)) line (behind hex) octets
    (part_said T well limit line bound (behind text) path spelled) (sym (limited_given (behind hex) limit (Some b) (part_octets T path)) ∙ h)

task_there : (T : AsnType) → IsWellFormed T → (limit : ℕ) (line : Text) → limit ≤ most → (task : Task) (b : List ℕ) → IsLineOf task (Some b) T limit line
    → (path : List Step) × IsPath (path_text task) path × (task_answer task T limit (value path) (Some b) ≡ value line)
task_there T well limit line bound (Show hex style) b h = (
  [],
  refl,
  given_there b (IsValueLine (form.Json style) T limit line) (value_text (form.Json style) T limit) line (behind hex) (form_there T well limit line (form.Json style)) h,
)
task_there T well limit line bound (Canon hex) b h =
    ([], refl, given_there b (IsValueLine form.Octets T limit line) (value_text form.Octets T limit) line (behind hex) (form_there T well limit line form.Octets) h)
task_there T well limit line bound (Check hex) b h =
    ([], refl, given_there b (IsCheckLine T limit line) (limited limit (check_octets T)) line (behind hex) (check_there T well limit line bound) h)
task_there T well limit line bound (Make (Some text)) b h = ([], refl, text_there T well limit line text.now h)
task_there T well limit line bound (Make None) b h = ([], refl, text_there T well limit line b h)
task_there T well limit line bound (Part hex text) b h =
    let a = part_answered T well limit line bound (behind hex) (behind text) b h in
    (a.0, a.1, limited_given (behind hex) limit (Some b) (part_octets T a.0) ∙ a.2)

-- ---- a line of the program

-- the answer of `part` is that of its task
pub part_line : (task : Task) (hex text : Option (Bor Text)) (T : AsnType) (limit : ℕ) (path : Expected (List Step)) (b : List ℕ)
    (result : Result (String Global) Fault) → task ≡ Part hex text → source_text task ≡ None → IsPathOf (path_text task) path
    → (IsPathOf (behind text) path → SaysOf bytes b (part_answer T limit None path (Some b)) result)
    → SaysOf bytes b (task_answer task T limit path (Some b)) result
part_line task hex text T limit path b result is none of said =
    let given : behind hex ≡ None = ap source_text (sym is) ∙ none in
    subst (λ t. SaysOf bytes b (task_answer t T limit path (Some b)) result) (sym is)
    (subst (λ s. SaysOf bytes b (part_answer T limit s path (Some b)) result) (sym given) (said (subst (λ t. IsPathOf (path_text t) path) is of)))

short_line : (line : String Global) → length (string_bytes line) < 2 ^ 64
short_line line = let n = line.bytes.small in let k = line.bytes.ok in omega (arith, n, k)

pub path_there : (text : Option Text) → HasPath text → (path : List Step) × IsPath text path
path_there (Some text) h = h
path_there None h = ([], refl)

pub none_there : (text : Option Text) → HasNoPath text → IsPathOf text (stop Path)
none_there (Some text) lacks = (refl, lacks)
none_there None lacks = absurd lacks

unknown_line : (k : Kind) (source path : Option Text) (T : AsnType) (limit : ℕ) (line : Text) → source ≡ None
    → IsLineBy k source path None T limit line
unknown_line (show style) None path T limit line none = tt
unknown_line _ None path T limit line none = tt
unknown_line k (Some s) path T limit line none = absurd (cc)

pub some_given : (source : Option Text) (text : Text) → source ≡ Some text → source ≢ None
some_given source text is none = let no : Some text ≡ None = sym is ∙ none in cc

-- The octets or the JSON are given.
pub line_given : (T : AsnType) → IsWellFormed T → (task : Task) (limit : ℕ) → limit ≤ most → (told : Option (List ℕ)) (text : Text)
    (result : Result (String Global) Fault) → source_text task ≡ Some text → IfOk result (λ line. HasPath (path_text task))
    → ((path : Expected (List Step)) → IsPathOf (path_text task) path → Says bytes (task_answer task T limit path None) result)
    → IfOk result (λ line. IsLineOf task told T limit (string_bytes line))
line_given T well task limit bound told text (Err fault) some has exact = tt
line_given T well task limit bound told text (Ok line) some has exact =
    let p = path_there (path_text task) has in
    let given = some_given (source_text task) text some in
    line_by (kind task) (source_text task) (path_text task) (Some []) told T limit (string_bytes line) given
    (tasks_tell T well task limit bound [] tt p.0 p.1 (string_bytes line) (short_line line)
    (task_kept task T limit (value p.0) (Some []) None given ∙ exact (value p.0) p.1))

-- The input has them.
pub line_read : (T : AsnType) → IsWellFormed T → (task : Task) (limit : ℕ) → limit ≤ most → (told : Option (List ℕ))
    (result : Result (String Global) Fault) → source_text task ≡ None → IfOk result (λ line. HasPath (path_text task))
    → ((path : Expected (List Step)) → IsPathOf (path_text task) path → (b : List ℕ) → told ≡ Some b → SaysOf bytes b (task_answer task T limit path (Some b)) result)
    → IfOk result (λ line. IsLineOf task told T limit (string_bytes line))
line_read T well task limit bound told (Err fault) none has exact = tt
line_read T well task limit bound None (Ok line) none has exact =
    unknown_line (kind task) (source_text task) (path_text task) T limit (string_bytes line) none
line_read T well task limit bound (Some b) (Ok line) none has exact =
    let p = path_there (path_text task) has in
    let e = exact (value p.0) p.1 b refl in
    tasks_tell T well task limit bound b e.0 p.0 p.1 (string_bytes line) (short_line line) e.1

-- Where what the input has isn't known, nothing is expected, unless the text of `--path` spells no path.
unread : (task : Task) (T : AsnType) (limit : ℕ) (path : Expected (List Step)) → source_text task ≡ None → IsPathOf (path_text task) path
    → (task_answer task T limit path None ≡ unknown) ⊎ (HasNoPath (path_text task) × (task_answer task T limit path None ≡ stop Path))
unread (Show None style) T limit path none of = inl refl
unread (Canon None) T limit path none of = inl refl
unread (Check None) T limit path none of = inl refl
unread (Make None) T limit path none of = inl refl
unread (Part None text) T limit (value p) none of = inl refl
unread (Part None (Some text)) T limit (refusal r) none of = inr (of.1, ap (λ o. o >>= λ steps. unknown) of.0)
unread (Part None None) T limit (refusal r) none of = absurd (of.1 [] refl)
unread (Part None text) T limit unknown none of = absurd of
unread _ T limit path none of = absurd (cc)

pub read_meets : (T : AsnType) (task : Task) (limit : ℕ) (path : Expected (List Step)) (told : Option (List ℕ)) (result : Result (String Global) Fault)
    → source_text task ≡ None → IsPathOf (path_text task) path
    → ((b : List ℕ) → told ≡ Some b → SaysOf bytes b (task_answer task T limit path (Some b)) result)
    → (HasNoPath (path_text task) → Says bytes (stop Path) result) → Meets bytes (task_answer task T limit path told) result
read_meets T task limit path (Some b) result none of exact pathless =
    meets bytes (task_answer task T limit path (Some b)) result (named_of bytes b (task_answer task T limit path (Some b)) _ result refl (exact b refl))
read_meets T task limit path None result none of exact pathless = by (unread task T limit path none of) where
  by : (task_answer task T limit path None ≡ unknown) ⊎ (HasNoPath (path_text task) × (task_answer task T limit path None ≡ stop Path))
      → Meets bytes (task_answer task T limit path None) result
  by (inl is) = subst (λ o. Meets bytes o result) (sym is) tt
  by (inr (lacks, is)) = meets bytes (task_answer task T limit path None) result (named bytes (task_answer task T limit path None) (stop Path) result is (pathless lacks))

-- ==== Where no line is answered, there is none.

-- Octets of the input that have a line are within the limit.
line_within : (k : Kind) (path : Option Text) (b : List ℕ) (T : AsnType) (limit : ℕ) (line : Text)
    → IsLineBy k None path (Some b) T limit line
    → length b ≤ limit
line_within (show style) path b T limit line h = h.2
line_within canon path b T limit line h = h.2
line_within check path b T limit line h = h.1
line_within make path b T limit line h = h.0
line_within part path b T limit line h = h.1

-- more octets than the limit
beyond : (limit : ℕ) → (b : List ℕ) × (length b ≡ suc limit)
beyond zero = (0 ∷ [], refl)
beyond (suc n) = let b = beyond n in (0 ∷ b.0, ap suc b.1)

not_beyond : (task : Task) (T : AsnType) (limit : ℕ) (line : Text) → source_text task ≡ None
    → IsLineOf task (Some ((beyond limit).0)) T limit line → ⊥
not_beyond task T limit line none h =
    let b = beyond limit in
    let few = line_within (kind task) (path_text task) b.0 T limit line (subst (λ s. IsLineBy (kind task) s (path_text task) (Some b.0) T limit line) none h) in
    omega (arith, few, b.1)

-- ---- the type

well_defined : {w : List ℕ} {T : AsnType} {ks : List Known} → IsDefined w T ks → AreWellFormed ks → IsWellFormed T
well_defined (this_definition e) wells = wells.0
well_defined (later_definition other d) wells = well_defined d wells.1

type_there : ParseComplete → ParseAllComplete → (one types name : Option Text) (T : AsnType) → IsNamed one types name T
    → (type_among one types name ≡ value T) × IsWellFormed T
type_there alone all (Some text) None None T (spells, well) = (ap parsed (alone text T spells well), well)
type_there alone all None (Some text) (Some name) T (ks, (spells, wells), is) = (
  ap (λ r. parsed r >>= λ ds. named_as name (find ds name)) (all text ks spells wells) ∙ ap (named_as name) (find_given is),
  well_defined is wells,
)
type_there alone all one types name T h = absurd h

pub tasks_refuse : TasksRefuse
tasks_refuse T well task limit bound (Some xs) never = λ line h. (let a = task_there T well limit line bound task xs (h xs refl) in subst HasNoLine a.2 (never (value a.0) a.1))
tasks_refuse T well task limit bound None never = λ line h. by line h (source_text task) refl where
  by : (line : Text) → ((b : List ℕ) → MayBe None b → IsLineOf task (Some b) T limit line) → (source : Option Text) → source_text task ≡ source → ⊥
  by line h None none = not_beyond task T limit line none (h (beyond limit).0 tt)
  by line h (Some s) is =
      let a = task_there T well limit line bound task [] (h [] tt) in
      subst HasNoLine (task_kept task T limit (value a.0) None (Some []) (some_given (source_text task) s is) ∙ a.2) (never (value a.0) a.1)

-- The type that is spelled is expected.
module _ (alone : ParseComplete) (all : ParseAllComplete) (t : Texts) (source : Option Text) where
  type_given : (b : List ℕ) (T : AsnType) → SpelledWith t source (Some b) T → ((texts_read t source (Some b) >>= expected_type) ≡ value T) × IsWellFormed T
  type_given b T h = by (reads_types t) source h where
    by : (r : Bool) (source : Option Text) → MatchBool r ((source ≢ None) × ((length b ≤ most) × IsUtf8 b × SpelledBy (record t { types = Some b }) T)) (SpelledBy t T)
        → (((if r then (types_input source (Some b) >>= λ text. value (record t { types = Some text })) else value t) >>= expected_type) ≡ value T) × IsWellFormed T
    by true None h = absurd (h.0 refl)
    by true (Some s) (some, (few, utf8, named)) =
        let k = type_there alone all t.one (Some b) t.name T named in
        (ap (λ o. o >>= (λ text. value (record t { types = Some text })) >>= expected_type) (input_there s b few utf8) ∙ k.0, k.1)
    by false source named = type_there alone all t.one t.types t.name T named

pub texts_refuse : ParseComplete → ParseAllComplete → TextsRefuse
texts_refuse alone all t task limit bound (Some xs) never = λ line h.
    let a = h xs refl in
    let k = type_given alone all t (source_text task) xs a.type a.spelled in
    tasks_refuse a.type k.1 task limit bound (Some xs) (λ path of. subst HasNoLine
    (sym (assoc (texts_read t (source_text task) (Some xs)) expected_type (λ T. task_answer task T limit path (Some xs)))
    ∙ ap (λ o. o >>= λ T. task_answer task T limit path (Some xs)) k.0) (never path of))
    line (λ b same. subst (λ (l : List ℕ). IsLineOf task (Some l) a.type limit line) (sym same) a.line_is)
texts_refuse alone all t task limit bound None never = λ line h. none line (reads_types t) refl (λ b. (h b tt).type) (λ b. (h b tt).spelled) (λ b. (h b tt).line_is) where
  none : (line : Text) (r : Bool) → reads_types t ≡ r → (type : List ℕ → AsnType)
      → ((b : List ℕ) → MatchBool r ((source_text task ≢ None) × ((length b ≤ most) × IsUtf8 b × SpelledBy (record t { types = Some b }) (type b))) (SpelledBy t (type b)))
      → ((b : List ℕ) → IsLineOf task (Some b) (type b) limit line) → ⊥
  none line true mark type spelled lines = no_octet (spelled (255 ∷ [])).1.1
  none line false own type spelled lines =
      let k = λ (b : List ℕ). type_there alone all t.one t.types t.name (type b) (spelled b) in
      let same : (b : List ℕ) → type [] ≡ type b = λ b. (let e = sym (k []).0 ∙ (k b).0 in cc) in
      tasks_refuse (type []) (k []).1 task limit bound None (λ path of. subst HasNoLine
      (ap (λ (c : Bool). (if c then (types_input (source_text task) None >>= λ text. value (record t { types = Some text })) else value t)
      >>= λ texts. answer_of texts task limit path None) own ∙ ap (λ o. o >>= λ T. task_answer task T limit path None) (k []).0) (never path of))
      line (λ b may. subst (λ T. IsLineOf task (Some b) T limit line) (sym (same b)) (lines b))

-- An answer after which the status is 1 or 2 says that there is none.
pub not_answered : (e : Expected Text) (result : Result (String Global) Fault) (status : ℕ) → Meets bytes e result → status ≡ status_after result
    → 1 ≤ status → status ≤ 2 → HasNoLine e
not_answered unknown result status h is low high = tt
not_answered (refusal r) result status h is low high = tt
not_answered (value line) (Ok x) status h is low high = absurd (omega (arith, is, low))
not_answered (value line) (Err fault) status h is low high = h (omega (arith, is, high))
