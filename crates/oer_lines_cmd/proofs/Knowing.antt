-- The answer to a message is known.
use Rattle.std.proofs.Common.{Result, ℕ, Bool, true, false, Option, None, Some, Ok, Err, List, [], ◌∷◌, length, leb, cond}
use Rattle.clap.specs.Words.{Text}
use Rattle.oer_units.specs.Reader.{Outcome, at, got, refused}
use Rattle.oer_model.specs.AsnType.{AsnType}
use Rattle.oer_model.specs.Checking.{check_value}
use Rattle.oer_model.specs.Parts as part
use Rattle.oer_model.specs.Parts.{Step, find_part}
use Rattle.oer_model.specs.Reading.{read_value}
use Rattle.oer_checker.specs.Check.{most}
use Rattle.oer_model.specs.AsnValue.{AsnValue}
use Rattle.oer_cmd.specs.Run.{verdict_text}
use Rattle.oer_cmd.specs.declared.fault.Fault.TheVariants.{Longer}
use Rattle.oer_cmd.specs.Answer.{IsPathOf, check_octets, checked, ended, handed, in_form}
use Rattle.oer_cmd.specs.Answer.{named_as, parsed, part_octets, value_read, value_text, whole, within_limit}
use Rattle.oer_value_notation.specs.declared.fault.TextFault.{TextFault}
use Rattle.oer_cmd.specs.Expected.{Expected, refusal, stop, unknown, value, ◌>>=◌}
use Rattle.oer_cmd.specs.declared.value.Form.{Form}
use Rattle.oer_cmd.specs.declared.value.Form.TheVariants as form
use Rattle.oer_ends_cmd.specs.Telling.{told_answer}
use Rattle.oer_lines_cmd.specs.Answering.{IsKnown}
use Rattle.oer_lines_cmd.specs.Stream.{Piece, long, message, piece_answer, reads_first, rejected}
use Rattle.oer_lines_cmd.specs.Tasks.{long_answer, octets_answer, octets_told, path_of}
use Rattle.oer_lines_cmd.specs.declared.task.LineTask.{LineTask}
use Rattle.oer_lines_cmd.specs.declared.task.LineTask.TheVariants.{Canon, Check, Part, Show}

pub known_then : {A B : Type 0} (e : Expected A) (next : A → Expected B) → IsKnown e → ((x : A) → IsKnown (next x)) → IsKnown (e >>= next)
known_then unknown next h k = absurd h
known_then (refusal r) next h k = tt
known_then (value x) next h k = k x

ended_known : {A : Type 0} (n : ℕ) (x : A) (xs : List ℕ) → IsKnown (ended n x xs)
ended_known n x [] = tt
ended_known n x (y ∷ rest) = tt

whole_known : {A : Type 0} (b : List ℕ) (o : Outcome A) → IsKnown (whole b o)
whole_known b (got x q) = ended_known _ x q.input
whole_known b (refused why rest) = tt

within_known : (limit : ℕ) (b : List ℕ) → IsKnown (within_limit limit b)
within_known limit b = by (leb (length b) limit) where
  by : (t : Bool) → IsKnown (cond {A = Expected (List ℕ)} t (value b) (stop (Longer limit)))
  by true = tt
  by false = tt

read_known : (T : AsnType) (limit : ℕ) (b : List ℕ) → IsKnown (value_read T limit b)
read_known T limit b = whole_known b (read_value T (at b limit))

form_known : (f : Form) (T : AsnType) (v : AsnValue) → IsKnown (in_form f T v)
form_known form.Octets T v = tt
form_known (form.Json style) T v = tt

text_known : (f : Form) (T : AsnType) (limit : ℕ) (b : List ℕ) → IsKnown (value_text f T limit b)
text_known f T limit b = known_then (value_read T limit b) (in_form f T) (read_known T limit b) (form_known f T)

checked_known : (T : AsnType) (b : List ℕ) → IsKnown (checked T b)
checked_known T b = whole_known b (check_value T (at b most))

handed_known : (a : part.Answer) → IsKnown (handed a)
handed_known (part.found U s) = tt
handed_known part.no_such_step = tt
handed_known part.absent_part = tt

check_known : (T : AsnType) (b : List ℕ) → IsKnown (check_octets T b)
check_known T b = known_then (checked T b) (λ canonical. value (verdict_text canonical (length b))) (checked_known T b) (λ canonical. tt)

part_known : (T : AsnType) (path : List Step) (b : List ℕ) → IsKnown (part_octets T path b)
part_known T path b = known_then (checked T b) (λ canonical. handed (find_part (Some T) b path)) (checked_known T b) (λ canonical. handed_known (find_part (Some T) b path))

path_known : (text : Option Text) (path : Expected (List Step)) → IsPathOf text path → IsKnown path
path_known text unknown h = h
path_known text (refusal r) h = tt
path_known text (value p) h = tt

answer_known : (task : LineTask) (T : AsnType) (limit : ℕ) (path : Expected (List Step)) (b : List ℕ) → IsPathOf (path_of task) path
    → IsKnown (octets_answer task T limit path b)
answer_known (Show style) T limit path b h = text_known (form.Json style) T limit b
answer_known Canon T limit path b h = text_known form.Octets T limit b
answer_known Check T limit path b h = known_then (within_limit limit b) (check_octets T) (within_known limit b) (check_known T)
answer_known (Part text) T limit path b h =
    known_then path (λ steps. within_limit limit b >>= part_octets T steps) (path_known (path_of (Part text)) path h)
    (λ steps. known_then (within_limit limit b) (part_octets T steps) (within_known limit b) (part_known T steps))

told_answer_known : {A : Type 0} (T : AsnType) (limit : ℕ) (b : List ℕ) (x : Expected A) → IsKnown x → IsKnown (told_answer T limit b x)
told_answer_known T limit b unknown h = absurd h
told_answer_known T limit b (refusal r) h = tt
told_answer_known T limit b (value y) h = tt

pub octets_known : (nests : Bool) (task : LineTask) (T : AsnType) (limit : ℕ) (path : Expected (List Step)) (b : List ℕ) → IsPathOf (path_of task) path
    → IsKnown (octets_told nests task T limit path b)
octets_known false task T limit path b h = answer_known task T limit path b h
octets_known true task T limit path b h = told_answer_known T limit b (octets_answer task T limit path b) (answer_known task T limit path b h)

-- So is that to one that is too long.
pub long_known : (task : LineTask) (limit : ℕ) (path : Expected (List Step)) → IsPathOf (path_of task) path → IsKnown (long_answer task limit path)
long_known (Part text) limit path h = known_then path (λ steps. stop (Longer limit)) (path_known (path_of (Part text)) path h) (λ steps. tt)
long_known _ limit path h = tt

-- And so is that to a message behind another one.
pub piece_known : (nests : Bool) (task : LineTask) (T : AsnType) (limit : ℕ) (path : Expected (List Step)) (p : Piece) → IsPathOf (path_of task) path
    → IsKnown (piece_answer nests task T limit path p)
piece_known nests task T limit path (message b) h = octets_known nests task T limit path b h
piece_known nests task T limit path (rejected b) h = octets_known nests task T limit path b h
piece_known nests task T limit path (long b) h = by (reads_first nests task) where
  by : (t : Bool) → IsKnown (cond t (long_answer task limit path) (octets_told nests task T limit path b))
  by true = long_known task limit path h
  by false = octets_known nests task T limit path b h

pub parsed_known : {A : Type 0} (r : Result A TextFault) → IsKnown (parsed r)
parsed_known (Ok x) = tt
parsed_known (Err e) = tt

pub named_known : (name : Text) (T : Option AsnType) → IsKnown (named_as name T)
named_known name (Some T) = tt
named_known name None = tt
