-- The answer to a message longer than the limit.
use Rattle.std.proofs.Common.{◌≡◌, ◌∙◌, ℕ, ◌<◌, Bool, true, false, Option, Some, None, Err, List, [], length, cond, refl, sym, ap, subst, eqb, String, Global}
use Rattle.std.specs.Prelude.{◌&&◌}
use Rattle.std.proofs.lemmas.Bool.{lt-leb}
use Rattle.std.specs.Borrow.{Bor}
use Rattle.clap.specs.Words.{Text}
use Rattle.oer_model.specs.AsnType.{AsnType}
use Rattle.oer_model.specs.Parts.{Step}
use Rattle.oer_ends.specs.Nests.{nests_at}
use Rattle.oer_cmd.specs.Answer.{IsPathOf, check_octets, part_octets}
use Rattle.oer_cmd.specs.Expected.{Expected, Meets, Refusal, refusal, refusal_of, stop, unknown, value, ◌>>=◌}
use Rattle.oer_cmd.specs.Run.{IsPath}
use Rattle.oer_cmd.specs.declared.fault.Fault.{Fault}
use Rattle.oer_cmd.specs.declared.fault.Fault.TheVariants.{Longer, Path}
use Rattle.oer_cmd.proofs.Exact.{within_stop}
use Rattle.oer_cmd.proofs.Meeting.{bytes}
use Rattle.oer_ends_cmd.specs.Telling.{at_place, told, told_answer}
use Rattle.oer_lines_cmd.specs.Laws.{reads_all}
use Rattle.oer_lines_cmd.specs.Tasks.{long_answer, octets_answer, octets_told, path_of}
use Rattle.oer_lines_cmd.specs.declared.task.LineTask.{LineTask}
use Rattle.oer_lines_cmd.specs.declared.task.LineTask.TheVariants.{Check, Part}

abbrev Tells : LineTask → ℕ → Expected (List Step) → Fault → Type 0
Tells task limit path fault = Meets {X = String Global} bytes (long_answer task limit path) (Err fault)

-- no path is asked for
pub no_part : (task : LineTask) (limit : ℕ) (path : Expected (List Step)) → ((text : Option (Bor Text)) → task ≡ Part text → ⊥) → Tells task limit path (Longer limit)
no_part (Part text) limit path other = absurd (other text refl)
no_part _ limit path other = λ small. refl

some_path : (text : Option (Bor Text)) (limit : ℕ) (path : Expected (List Step)) (p : List Step) → IsPath (path_of (Part text)) p
    → IsPathOf (path_of (Part text)) path → Tells (Part text) limit path (Longer limit)
some_path text limit unknown p is of = tt
some_path text limit (refusal r) p is of = absurd (of.1 p is)
some_path text limit (value q) p is of = λ small. refl

-- a text that spells a path
pub with_path : (task : LineTask) (text : Option (Bor Text)) (limit : ℕ) (path : Expected (List Step)) (p : List Step) → task ≡ Part text
    → IsPath (path_of (Part text)) p → IsPathOf (path_of task) path → Tells task limit path (Longer limit)
with_path task text limit path p part is of = subst (λ t. Tells t limit path (Longer limit)) (sym part)
    (some_path text limit path p is (subst (λ t. IsPathOf (path_of t) path) part of))

-- the empty path, without a text
pub without_path : (task : LineTask) (text : Option (Bor Text)) (limit : ℕ) (path : Expected (List Step)) → task ≡ Part text
    → ((t : Bor Text) → text ≡ Some t → ⊥) → IsPathOf (path_of task) path → Tells task limit path (Longer limit)
without_path task None limit path part none of = with_path task None limit path [] part refl of
without_path task (Some t) limit path part none of = absurd (none t refl)

same : (r s : Refusal) (e : Expected (List Step)) → e ≡ refusal s → refusal r ≡ e → s ≡ r
same r s e is h = let all : refusal r ≡ refusal s = h ∙ is in cc

no_path : (text : Option (Bor Text)) (limit : ℕ) (path : Expected (List Step)) → ((p : List Step) → IsPath (path_of (Part text)) p → ⊥)
    → IsPathOf (path_of (Part text)) path → Tells (Part text) limit path Path
no_path text limit unknown none of = tt
no_path text limit (refusal r) none of = λ small. same r (refusal_of Path) (stop Path) refl of.0
no_path text limit (value q) none of = absurd (none q of)

-- a text that spells none
pub bad_path : (task : LineTask) (text : Option (Bor Text)) (limit : ℕ) (path : Expected (List Step)) → task ≡ Part text
    → ((p : List Step) → IsPath (path_of (Part text)) p → ⊥) → IsPathOf (path_of task) path → Tells task limit path Path
bad_path task text limit path part none of = subst (λ t. Tells t limit path Path) (sym part)
    (no_path text limit path none (subst (λ t. IsPathOf (path_of t) path) part of))

-- ---- the answer of a run

run_same : (task : LineTask) (T : AsnType) (limit : ℕ) (path : Expected (List Step)) (b : List ℕ) → reads_all task ≡ true → limit < length b
    → octets_answer task T limit path b ≡ long_answer task limit path
run_same Check T limit path b all above = ap (λ o. o >>= check_octets T) (within_stop limit b above)
run_same (Part text) T limit unknown b all above = refl
run_same (Part text) T limit (refusal r) b all above = refl
run_same (Part text) T limit (value steps) b all above = ap (λ o. o >>= part_octets T steps) (within_stop limit b above)
run_same _ T limit path b all above = absurd (let differ : false ≡ true = all in cc)

told_long : (T : AsnType) (limit : ℕ) (b : List ℕ) (r : Refusal) → limit < length b → told T limit b r ≡ r
told_long T limit b r above =
    ap (λ t. cond (eqb r.status 1 && t) (at_place r (nests_at T b)) r) (lt-leb (length b) limit above)
    ∙ ap (λ t. cond t (at_place r (nests_at T b)) r) (none (eqb r.status 1)) where
      none : (a : Bool) → (a && false) ≡ false
      none true = refl
      none false = refl

told_answer_long : (T : AsnType) (limit : ℕ) (b : List ℕ) (x : Expected Text) → limit < length b → told_answer T limit b x ≡ x
told_answer_long T limit b unknown above = refl
told_answer_long T limit b (value y) above = refl
told_answer_long T limit b (refusal r) above = ap (λ (q : Refusal). refusal q) (told_long T limit b r above)

pub long_same : (nests : Bool) (task : LineTask) (T : AsnType) (limit : ℕ) (path : Expected (List Step)) (b : List ℕ) → reads_all task ≡ true → limit < length b
    → octets_told nests task T limit path b ≡ long_answer task limit path
long_same false task T limit path b all above = run_same task T limit path b all above
long_same true task T limit path b all above = told_answer_long T limit b (octets_answer task T limit path b) above ∙ run_same task T limit path b all above
