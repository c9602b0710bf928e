-- What is wrong with the options of modules, and what a function returned beside what the plain function gives.
use Rattle.std.specs.Prelude.{◌++◌, codes, Result, Ok, Err}
use Rattle.oer_module_options.specs.Words.{Text, option_text}
use Rattle.oer_module_options.specs.declared.error.Error.{Error as RawError}
use Rattle.oer_module_options.specs.declared.error.Error.TheVariants as raw
use Rattle.oer_module_options.specs.declared.words.Taken.{Taken}

pub data Error : Type 0 where
  no_value : Taken → Error
  twice : Taken → Error
  one_type : Error
  no_name : Error
  no_source : Error
  two_inputs : Error
  nesting : Error
  stray : Text → Error
  one_text : Error
  no_name_of_types : Error
  no_nesting : Error
  two_names : Error
  one_name : Error
  no_names : Error

abbrev pub error_of : RawError → Error
error_of (raw.NoValue t) = no_value t
error_of (raw.Twice t) = twice t
error_of raw.OneType = one_type
error_of raw.NoName = no_name
error_of raw.NoSource = no_source
error_of raw.TwoInputs = two_inputs
error_of raw.Nesting = nesting
error_of (raw.Stray w) = stray w.now
error_of raw.OneText = one_text
error_of raw.NoNameOfTypes = no_name_of_types
error_of raw.NoNesting = no_nesting
error_of raw.TwoNames = two_names
error_of raw.OneName = one_name
error_of raw.NoNames = no_names

-- what is said of it
abbrev pub text_of : Error → Text
text_of (no_value t) = option_text t ++ codes " needs a value"
text_of (twice t) = option_text t ++ codes " is given twice"
text_of one_type = codes "one of --type, --types and --modules"
text_of no_name = codes "--modules needs --name"
text_of no_source = codes "--modules=- needs --hex or --json"
text_of two_inputs = codes "--modules=- is given twice"
text_of nesting = codes "nesting refused"
text_of (stray w) = codes "types doesn't take " ++ w
text_of one_text = codes "one of --modules and --types"
text_of no_name_of_types = codes "--types needs --name"
text_of no_nesting = codes "--nesting needs --modules"
text_of two_names = codes "--names is given twice"
text_of one_name = codes "one of --name and --names"
text_of no_names = codes "--names needs --modules"

abbrev pub Read : Type 0 → Type 0
Read A = Result A Error

infixl 10 ◌>>=◌
abbrev pub ◌>>=◌ : {A B : Type 0} → Read A → (A → Read B) → Read B
(Ok x) >>= f = f x
(Err e) >>= f = Err e

-- what a function returned, seen by view
abbrev pub seen : {X Y : Type 0} → (X → Y) → Result X RawError → Read Y
seen view (Ok x) = Ok (view x)
seen view (Err e) = Err (error_of e)
