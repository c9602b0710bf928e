-- What the tasks answer is what is expected.
use Rattle.std.proofs.Common.{Result, ◌≡◌, ◌∙◌, ℕ, ◌+◌, ◌-◌, ◌<◌, ◌≤◌, Bool, true, false, List, [], ◌∷◌, length, take, drop, Option, Some, None, Ok, Err, refl, sym, ap, subst, arith, length-append}
use Rattle.std.proofs.Math.Seq.{drop-append_seam, drop-length, take-length}
use Rattle.std.proofs.lemmas.Str.{IsUtf8-from_is_utf8, is_utf8-from_IsUtf8}
use Rattle.std.proofs.lemmas.Bool.{le-leb, lt-leb}
use Rattle.std.specs.Prelude.{if◌then◌else◌}
use Rattle.std.specs.Str.{IsUtf8, is_utf8}
use Rattle.std.specs.Borrow.{Bor}
use Rattle.clap.specs.Words.{Text}
use Rattle.serde_json.specs.Read.{read}
use Rattle.oer_units.specs.declared.fault.ReadFault.{ReadFault}
use Rattle.oer_units.specs.Reader.{Outcome, Place, at, got, refused}
use Rattle.oer_model.specs.AsnType.{AsnType}
use Rattle.oer_model.specs.Canonical.{canonical_octets}
use Rattle.oer_model.specs.Checking.{check_value}
use Rattle.oer_model.specs.Parts.{Step, find_part}
use Rattle.oer_checker.specs.Check.{Answers, Tells, most}
use Rattle.oer_parts.specs.Handing.{Agrees, AgreesWith, AnswersPart}
use Rattle.oer_parts.specs.Path.{OnePath}
use Rattle.oer_parts.specs.declared.fault.PartFault.{PartFault}
use Rattle.oer_checker.specs.declared.verdict.Verdict.{Verdict}
use Rattle.oer_json.specs.Take.{taken}
use Rattle.oer_options.specs.Words.{behind}
use Rattle.oer_cmd.specs.Answer.{IsPathOf, canonical_of, checked, ended, handed, in_digits, json_in, json_read, json_taken, make_text, part_octets, value_read, value_text, whole, within_limit}
use Rattle.oer_cmd.specs.Expected.{Expected, refusal, stop, unknown, value, ◌>>=◌}
use Rattle.oer_cmd.specs.Faults.{IsOfRead, status_of}
use Rattle.oer_cmd.specs.Run.{IsPath}
use Rattle.oer_cmd.specs.declared.fault.Fault.{Fault}
use Rattle.oer_cmd.specs.declared.fault.Fault.TheVariants.{Follows, Longer, NotJson, Path, Read}
use Rattle.oer_cmd.proofs.Front.{is_read}
use Rattle.oer_cmd.specs.declared.value.Form.TheVariants as form
use Rattle.oer_cmd.proofs.Meeting.{assoc, ended_more}

-- ---- octets that are checked

pub checked_all : (T : AsnType) (b : List ℕ) (verdict : Verdict) → Answers T b (Ok verdict) → verdict.octets ≡ length b
    → checked T b ≡ value verdict.canonical
checked_all T b verdict h all = ap (whole b) h
    ∙ ap (λ (l : List ℕ). ended (length b - length l) verdict.canonical l) (ap (λ (n : ℕ). drop n b) all ∙ drop-length b)

pub checked_more : (T : AsnType) (b : List ℕ) (verdict : Verdict) → Answers T b (Ok verdict) → Tells T b (Ok verdict)
    → (verdict.octets ≡ length b → ⊥)
    → checked T b ≡ stop (Follows verdict.octets)
checked_more T b verdict h (c, rest, is, count, encodes, canonical) some =
    let left : drop verdict.octets b ≡ rest = ap (λ (n : ℕ). drop n b) count ∙ ap (drop (length c)) is ∙ drop-append_seam c rest in
    let size : length b ≡ verdict.octets + length rest = omega (arith, ap length is, length-append c rest, count) in
    ap (whole b) h ∙ ap (λ (l : List ℕ). ended (length b - length l) verdict.canonical l) left
    ∙ ended_more (length b - length rest) verdict.octets verdict.canonical rest (λ e. some (omega (arith, size, ap length e))) (omega (arith, size))

pub checked_stops : (T : AsnType) (b : List ℕ) (e : ReadFault) (fault : Fault) → IsOfRead e fault → Answers T b (Err e) → Tells T b (Err e)
    → status_of fault ≤ 2 → checked T b ≡ stop fault
checked_stops T b e fault told h (t, rest, is, count, means) small =
    let left : drop e.taken b ≡ rest = ap (λ (n : ℕ). drop n b) count ∙ ap (drop (length t)) is ∙ drop-append_seam t rest in
    let size : length b - length rest ≡ e.taken = omega (arith, ap length is, length-append t rest, count) in
    ap (whole b) h ∙ ap (λ (l : List ℕ). stop (Read (record { taken = length b - length l; why = e.why }))) left
    ∙ ap (λ (n : ℕ). stop (Read (record { taken = n; why = e.why }))) size ∙ ap stop (sym (is_read e fault told small).2)

-- ---- the line of a value

pub digits_text : (T : AsnType) (limit : ℕ) (b : List ℕ) → value_text form.Octets T limit b ≡ (canonical_of T limit b >>= in_digits)
digits_text T limit b = sym (assoc (value_read T limit b) (λ v. value (canonical_octets T v)) in_digits)

-- ---- parts

whole_taken : (b l : List ℕ) → l ≡ [] → take (length b - length l) b ≡ b
whole_taken b l none = ap (λ (n : ℕ). take n b) (let e = ap length none in omega (arith, e)) ∙ take-length b

-- What was read of the whole ends where the octets do.
pub at_end : {A : Type 0} (b : List ℕ) (o : Outcome A) (x : A) → whole b o ≡ value x → (q : Place) × (o ≡ got x q) × (q.input ≡ [])
at_end b (refused why rest) x h = absurd (cc)
at_end {A} b (got y q) x h = split q.input refl where
  split : (l : List ℕ) → q.input ≡ l → (r : Place) × (got y q ≡ got x r) × (r.input ≡ [])
  split [] e =
      let same : value y ≡ value x = subst (λ (l : List ℕ). ended (length b - length q.input) y l ≡ value x) e h in
      (q, ap (λ (z : A). got z q) (let is : y ≡ x = cc in is), e)
  split (z ∷ rest) e =
      let no : stop (Follows (length b - length q.input)) ≡ value x =
      subst (λ (l : List ℕ). ended (length b - length q.input) y l ≡ value x) e h in
      absurd (cc)

pub agrees : {A : Type 0} (f : A → List ℕ) (T : AsnType) (b : List ℕ) (path : List Step) (canonical : Bool) (result : Result A PartFault)
    → checked T b ≡ value canonical → AnswersPart f T b path result → Agrees f result (find_part (Some T) b path)
agrees f T b path canonical result h answers =
    let e = at_end b (check_value T (at b most)) canonical h in
    subst (λ (l : List ℕ). Agrees f result (find_part (Some T) l path)) (whole_taken b e.0.input e.2)
    (subst (λ o. AgreesWith f b path T o result) e.1 answers)

-- A part was handed out.
pub part_found : {A : Type 0} (f : A → List ℕ) (T : AsnType) (b : List ℕ) (path : List Step) (canonical : Bool) (s : A)
    → checked T b ≡ value canonical → AnswersPart f T b path (Ok s) → part_octets T path b ≡ in_digits (f s)
part_found f T b path canonical s h answers =
    ap (λ o. o >>= λ c. handed (find_part (Some T) b path)) h ∙ ap handed (agrees f T b path canonical (Ok s) h answers).1

-- the path of a text is the one that was read, or there is none
pub path_is : (text : Option Text) (p : List Step) → OnePath → IsPath text p → (path : Expected (List Step)) → IsPathOf text path
    → path ≡ value p
path_is (Some text) p one is (value q) of = ap (λ (l : List Step). value l) (one text q p of is)
path_is None p one is (value q) of = ap (λ (l : List Step). value l) (of ∙ sym is)
path_is text p one is (refusal r) of = absurd (of.1 p is)
path_is text p one is unknown of = absurd of

pub no_path : (text : Option (Bor Text)) (p : List Step) → ((t : Bor Text) → text ≡ Some t → ⊥) → p ≡ [] → (path : Expected (List Step))
    → IsPathOf (behind text) path → path ≡ value p
no_path None p other none (value q) of = ap (λ (l : List Step). value l) (of ∙ sym none)
no_path None p other none (refusal r) of = absurd (of.1 [] refl)
no_path None p other none unknown of = absurd of
no_path (Some t) p other none path of = absurd (other t refl)

pub path_none : (text : Option Text) (path : Expected (List Step)) → ((p : List Step) → IsPath text p → ⊥) → IsPathOf text path
    → path ≡ stop Path
path_none text (value q) none of = absurd (none q of)
path_none text (refusal r) none of = of.0
path_none text unknown none of = absurd of

-- ---- JSON

pub utf8_read : (text : Text) → IsUtf8 text → json_in text ≡ json_read (read text)
utf8_read text utf8 = ap (λ (b : Bool). json_read (if b then read text else None)) (is_utf8-from_IsUtf8 text utf8)

pub not_text : (text : Text) → (IsUtf8 text → ⊥) → is_utf8 text ≡ false
not_text text broken = by (is_utf8 text) refl where
  by : (t : Bool) → is_utf8 text ≡ t → t ≡ false
  by true e = absurd (broken (IsUtf8-from_is_utf8 text e))
  by false e = refl

pub text_broken : (T : AsnType) (text : Text) → (IsUtf8 text → ⊥) → make_text T text ≡ stop NotJson
text_broken T text broken = ap (λ o. o >>= λ j. json_taken (taken T j) >>= λ v. in_digits (canonical_octets T v))
    (ap (λ (b : Bool). json_read (if b then read text else None)) (not_text text broken))

-- ---- the limit

pub within_value : (limit : ℕ) (b : List ℕ) → length b ≤ limit → within_limit limit b ≡ value b
within_value limit b few = ap (λ (t : Bool). if t then value b else stop (Longer limit)) (le-leb (length b) limit few)

pub within_stop : (limit : ℕ) (b : List ℕ) → limit < length b → within_limit limit b ≡ stop (Longer limit)
within_stop limit b many = ap (λ (t : Bool). if t then value b else stop (Longer limit)) (lt-leb (length b) limit many)
