-- What `oer types` answers, as plain functions say it: a text, or why there is none.
use Rattle.std.specs.Prelude.{◌≡◌, ◌≤◌, ℕ, List, [], ◌∷◌, ◌++◌, Option, Some, None, Result, Ok, Err, ⊤, if◌then◌else◌}
use Rattle.oer_cmd.specs.Answer.{input_octets, type_among, types_input}
use Rattle.oer_cmd.specs.Expected.{Expected, refusal, unknown, value, ◌>>=◌}
use Rattle.oer_module_cmd.specs.Errors.{Read, options}
use Rattle.oer_module_cmd.specs.Input.{reads_input, text_in, text_or, with_input}
use Rattle.oer_module_cmd.specs.Given.{by_modules}
use Rattle.oer_module_options.specs.Asked.{Listing, all, all_names, defined, is_input, listing_asked, one}
use Rattle.oer_module_options.specs.Errors.{Read as OptionRead}
use Rattle.oer_module_options.specs.Scan.{Scan, scanned}
use Rattle.oer_module_options.specs.Words.{Text}
use Rattle.oer_module_options.specs.declared.words.Command.TheVariants.{Types}
use Rattle.oer_modules.specs.Defined.{types_of_modules}
use Rattle.oer_modules.specs.Modules.{definitions_of_modules, type_of_modules}
use Rattle.oer_printer.specs.Printing.{printed}
use Rattle.oer_types_cmd.specs.Asking.{asks_for_help}
use Rattle.oer_types_cmd.specs.Names.{names_text}
use Rattle.oer_types_cmd.specs.Stops.{by_error, no_notation, stop_of}
use Rattle.oer_types_cmd.specs.declared.stop.Stop.{Stop}

-- what the plain functions of modules give
abbrev pub from_modules : {A : Type 0} → Read A → Expected A
from_modules (Ok x) = value x
from_modules (Err e) = refusal (by_error e)

-- A function answers as expected, its value seen by view; or memory ran out, or a device failed.
abbrev pub Meets : {X Y : Type 0} → (X → Y) → Expected Y → Result X Stop → Type 0
Meets view unknown result = ⊤
Meets view (value y) (Ok x) = view x ≡ y
Meets view (value y) (Err e) = (stop_of e).status ≤ 2 → ⊥
Meets view (refusal r) (Ok x) = ⊥
Meets view (refusal r) (Err e) = (stop_of e).status ≤ 2 → stop_of e ≡ r

-- ---- the text on standard input, where it is asked for, and else none

abbrev pub given_types : Text → Option (List ℕ) → Expected Text
given_types types told = if is_input types then types_input (Some types) told else value []

abbrev pub given_modules : List Text → Option (List ℕ) → Expected Text
given_modules ts told = if reads_input ts then (input_octets told >>= λ xs. from_modules (text_in xs)) else value []

abbrev pub given_for : Listing → List Text → Option (List ℕ) → Expected Text
given_for (defined types name) ts told = given_types types told
given_for (one name n) ts told = given_modules ts told
given_for (all n) ts told = given_modules ts told
given_for (all_names n) ts told = given_modules ts told

-- ---- what is printed

abbrev pub on_a_line : Text → Expected Text
on_a_line t = value (t ++ 10 ∷ [])

abbrev pub text_if : Option Text → Expected Text
text_if None = refusal no_notation
text_if (Some t) = value t

-- the text of the type that the Name has among definitions
abbrev pub defined_text : Text → Text → Expected Text
defined_text types name = type_among None (Some types) (Some name) >>= λ T. text_if (printed T)

abbrev pub defined_line : Text → Text → Expected Text
defined_line types name = defined_text types name >>= on_a_line

-- the text of the type that the Name has in modules
abbrev pub one_line : List Text → Text → ℕ → Expected Text
one_line ts name n = from_modules (by_modules (type_of_modules ts name n)) >>= on_a_line

-- the definitions of all types of modules, and comments on those that are refused
abbrev pub all_lines : List Text → ℕ → Expected Text
all_lines ts n = from_modules (by_modules (definitions_of_modules ts n)) >>= λ p. value (p.lines ++ p.comments)

-- the Names that have a well-formed type in modules
abbrev pub name_lines : List Text → ℕ → Expected Text
name_lines ts n = from_modules (by_modules (types_of_modules ts n)) >>= λ ks. value (names_text ks)

-- what is printed where the text on standard input is the given one, which `-` stands for
abbrev pub printed_of : Listing → List Text → Text → Expected Text
printed_of (defined types name) ts given = defined_line (text_or given types) name
printed_of (one name n) ts given = one_line (with_input given ts) name n
printed_of (all n) ts given = all_lines (with_input given ts) n
printed_of (all_names n) ts given = name_lines (with_input given ts) n

-- ---- the answer, where standard input had these octets left

abbrev pub listing_answer : Listing → List Text → Option (List ℕ) → Expected Text
listing_answer l ts told = given_for l ts told >>= printed_of l ts

abbrev pub asked_answer : OptionRead Listing → List Text → Option (List ℕ) → Expected Text
asked_answer (Ok l) ts told = listing_answer l ts told
asked_answer (Err e) ts told = refusal (by_error (options e))

-- this help, where it is asked for
abbrev pub scan_answer : Text → Scan → Option (List ℕ) → Expected Text
scan_answer help s told = if asks_for_help s.kept then value help else asked_answer (listing_asked s) s.modules told

-- the answer to the words behind `types`
abbrev pub answer : Text → List Text → Option (List ℕ) → Expected Text
answer help ws told = scan_answer help (scanned Types ws) told
