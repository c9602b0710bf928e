-- What the options of modules ask for.
use Rattle.std.specs.Prelude.{ℕ, suc, List, [], ◌∷◌, ◌&&◌, nat_lt, Bool, true, false, not, ⊤, Option, Some, None, Ok, Err, codes, if◌then◌else◌}
use Rattle.std.specs.Str.{bytes_eq}
use Rattle.oer_module_options.specs.Errors.{Error, Read, ◌>>=◌, nesting, no_name, no_name_of_types, no_names, no_nesting, no_source, no_value, one_name, one_text, one_type, stray, twice, two_inputs, two_names}
use Rattle.oer_module_options.specs.Nesting.{nesting_of}
use Rattle.oer_module_options.specs.Scan.{Item, Scan, place, word}
use Rattle.oer_module_options.specs.Words.{Text}
use Rattle.oer_module_options.specs.declared.request.TypeAsked.{TypeAsked as RawTypeAsked}
use Rattle.oer_module_options.specs.declared.request.Listing.{Listing as RawListing}
use Rattle.oer_module_options.specs.declared.request.Listing.TheVariants as raw
use Rattle.oer_module_options.specs.declared.scan.Flag.{Flag}
use Rattle.oer_module_options.specs.declared.scan.Flag.TheVariants as flag
use Rattle.oer_module_options.specs.declared.scan.Next.{Next}
use Rattle.oer_module_options.specs.declared.scan.Next.TheVariants as next
use Rattle.oer_module_options.specs.declared.words.Taken.{Taken}
use Rattle.oer_module_options.specs.declared.words.Taken.TheVariants as taken

-- the Name of a type, and how often one that contains itself is written out: 0 for the usual
pub record TypeAsked : Type 0 where
  pub name : Text
  pub nesting : ℕ

abbrev pub asked_of : RawTypeAsked → TypeAsked
asked_of a = record { name = a.name.now; nesting = a.nesting }

-- An option that is taken out has its value.
abbrev pub whole : Next → Read ⊤
whole (next.Value t) = Err (no_value t)
whole _ = Ok tt

-- the value of an option, if it is given
abbrev pub one_value : Taken → List Text → Read (Option Text)
one_value t [] = Ok None
one_value t (v ∷ []) = Ok (Some v)
one_value t (v ∷ w ∷ vs) = Err (twice t)

abbrev pub or_error : {A : Type 0} → Error → Option A → Read A
or_error e None = Err e
or_error e (Some x) = Ok x

abbrev pub nesting_by : Option Text → Read ℕ
nesting_by None = Ok 0
nesting_by (Some t) = or_error nesting (nesting_of t)

abbrev pub nesting_in : List Text → Read ℕ
nesting_in ts = one_value taken.Nesting ts >>= nesting_by

-- `-` stands for the text on standard input.
abbrev pub is_input : Text → Bool
is_input t = bytes_eq t (codes "-")

abbrev pub inputs_from : ℕ → List Text → ℕ
inputs_from n [] = n
inputs_from n (t ∷ ts) = if is_input t then inputs_from (suc n) ts else inputs_from n ts

abbrev pub inputs : List Text → ℕ
inputs ts = inputs_from 0 ts

-- At most one text is that on standard input, and that only where the octets or the JSON are not.
abbrev pub free_input : Bool → List Text → Read ⊤
free_input has_source ts =
    if nat_lt 1 (inputs ts) then Err two_inputs
    else if nat_lt 0 (inputs ts) && not has_source then Err no_source
    else Ok tt

abbrev pub no_type : Bool → Read ⊤
no_type has_type = if has_type then Err one_type else Ok tt

abbrev pub name_in : List Text → Read Text
name_in ts = one_value taken.Name ts >>= or_error no_name

-- what the options ask for, where `--modules` is among them
unfoldable pub asked : Scan → Read TypeAsked
asked s =
    whole s.next >>= λ _. no_type s.has_type >>= λ _. name_in s.names
    >>= λ n. nesting_in s.nestings >>= λ k. free_input s.has_source s.modules >>= λ _. Ok (record { name = n; nesting = k })

-- ---- `oer types`

-- the type that a Name has among definitions in our notation, or in modules; or all types of modules, or their Names alone
pub data Listing : Type 0 where
  defined : Text → Text → Listing
  one : Text → ℕ → Listing
  all : ℕ → Listing
  all_names : ℕ → Listing

abbrev pub listing_of : RawListing → Listing
listing_of (raw.Defined types name) = defined types.now name.now
listing_of (raw.One name n) = one name.now n
listing_of (raw.All n) = all n
listing_of (raw.Names n) = all_names n

-- No word stays.
abbrev pub all_taken : List Item → Read ⊤
all_taken [] = Ok tt
all_taken (word w ∷ is) = Err (stray w)
all_taken (place ∷ is) = all_taken is

abbrev pub one_of_both : Bool → Option Text → Read ⊤
one_of_both true None = Ok tt
one_of_both false (Some t) = Ok tt
one_of_both _ _ = Err one_text

-- whether the flag is given
abbrev pub flagged : Flag → Read Bool
flagged flag.Missing = Ok false
flagged flag.Once = Ok true
flagged flag.Twice = Err two_names

-- of modules, with the flag or without it
abbrev pub of_name : Bool → Option Text → ℕ → Read Listing
of_name false None k = Ok (all k)
of_name false (Some n) k = Ok (one n k)
of_name true None k = Ok (all_names k)
of_name true (Some n) k = Err one_name

abbrev pub of_modules : Scan → Bool → Option Text → ℕ → Read Listing
of_modules s b name k = free_input true s.modules >>= λ _. of_name b name k

abbrev pub without_nesting : Text → Text → List Text → Read Listing
without_nesting t n [] = Ok (defined t n)
without_nesting t n (k ∷ ks) = Err no_nesting

abbrev pub with_name : Scan → Text → Option Text → Read Listing
with_name s t None = Err no_name_of_types
with_name s t (Some n) = without_nesting t n s.nestings

abbrev pub of_types : Scan → Text → Bool → Option Text → Read Listing
of_types s t b name = if b then Err no_names else with_name s t name

abbrev pub of_either : Scan → Option Text → Bool → Option Text → ℕ → Read Listing
of_either s None b name k = of_modules s b name k
of_either s (Some t) b name k = of_types s t b name

unfoldable pub listing_asked : Scan → Read Listing
listing_asked s =
    all_taken s.kept >>= λ _. whole s.next >>= λ _. one_value taken.Types s.types >>= λ t. one_of_both s.has_modules t
    >>= λ _. one_value taken.Name s.names >>= λ n. nesting_in s.nestings >>= λ k. flagged s.flag >>= λ b. of_either s t b n k
