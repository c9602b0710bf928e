-- What a Name stands for (X.680, 13.12 to 13.17 and 14.1): the assignment, or why there is none.
use Rattle.std.specs.Prelude.{ℕ, zero, suc, List, [], length, Option, Some, None, Result, Ok, Err, slice_get, if◌then◌else◌}
use Rattle.std.specs.Option.{option_map_or}
use Rattle.std.specs.Str.{bytes_eq}
use Rattle.oer_module_syntax.specs.Tree.{Module}
use Rattle.oer_module_names.specs.Tables.{assigned_in, assigner, assignments_in, imported_in, imports_in, is_exported_in, named, other_in, source_in}
use Rattle.oer_module_names.specs.declared.error.Found.{Found}
use Rattle.oer_module_names.specs.declared.error.Place.{Place}
use Rattle.oer_module_names.specs.declared.error.Why.{Why}
use Rattle.oer_module_names.specs.declared.error.Why.TheVariants.{Missing, NoModule, NotImported, NotExported, OtherVersion, Circular, AssignedTwice, ImportedTwice, ModuleTwice, InTwoModules}
use Rattle.oer_module_names.specs.declared.index.Sole.{Sole}
use Rattle.oer_module_names.specs.declared.index.Sole.TheVariants.{Nothing, One, Two}
use Rattle.oer_module_names.specs.declared.way.Step.{Step}
use Rattle.oer_module_names.specs.declared.way.Step.TheVariants.{Here, On}
use Rattle.oer_module_names.specs.declared.way.Way.{Way}

-- why a Name stands for nothing, that Name, and the place where this shows, if there is one
pub record Fault : Type 0 where
  pub why : Why
  pub name : List ℕ
  pub place : Option Place

abbrev pub fault : {A : Type 0} → Why → List ℕ → Option Place → Result A Fault
fault y w p = Err (record { why = y; name = w; place = p })

infixl 10 ◌>>=◌
abbrev pub ◌>>=◌ : {A B : Type 0} → Result A Fault → (A → Result B Fault) → Result B Fault
(Ok x) >>= f = f x
(Err e) >>= f = Err e

module _ (ms : List Module) where
  -- where module k begins
  unfoldable pub module_place : ℕ → Place
  module_place k = record { «module» = k; at = option_map_or (λ m. m.at) (slice_get ms k) 0 }

  -- where assignment n of module k begins
  unfoldable pub assignment_place : ℕ → ℕ → Place
  assignment_place k n = record { «module» = k; at = option_map_or (λ a. a.at) (slice_get (assignments_in ms k) n) 0 }

  -- the name behind FROM in import i of module k
  unfoldable pub from_name : ℕ → ℕ → List ℕ
  from_name k i = option_map_or (λ x. x.from) (slice_get (imports_in ms k) i) []

  -- where that name stands
  unfoldable pub from_place : ℕ → ℕ → Place
  from_place k i = record { «module» = k; at = option_map_or (λ x. x.at) (slice_get (imports_in ms k) i) 0 }

  unfoldable pub own_name : ℕ → List ℕ
  own_name k = option_map_or (λ m. m.name) (slice_get ms k) []

  -- ---- a module by its name, which stands at a place

  abbrev pub one_module : Option Place → List ℕ → Sole → Result ℕ Fault
  one_module p f Nothing = fault NoModule f p
  one_module p f (One k) = Ok k
  one_module p f (Two a b) = fault (ModuleTwice a b) f p

  unfoldable pub module_at : Option Place → List ℕ → Result ℕ Fault
  module_at p f = one_module p f (named ms f)

  abbrev pub one_version : ℕ → List ℕ → Sole → Result (Unit {0}) Fault
  one_version k f Nothing = Ok tt
  one_version k f (One i) = fault OtherVersion f (Some (from_place k i))
  one_version k f (Two i j) = fault OtherVersion f (Some (from_place k i))

  -- each import of module k from the module of this name asks for the version that is there
  unfoldable pub version_at : ℕ → List ℕ → Result (Unit {0}) Fault
  version_at k f = one_version k f (other_in ms k f)

  module _ (w : List ℕ) where
    -- ---- one module

    abbrev pub one_assignment : ℕ → Sole → Result (Option ℕ) Fault
    one_assignment k Nothing = Ok None
    one_assignment k (One n) = Ok (Some n)
    one_assignment k (Two a b) = fault (AssignedTwice a b) w (Some (assignment_place k b))

    -- which assignment of module k has the Name, if one has
    unfoldable pub own : ℕ → Result (Option ℕ) Fault
    own k = one_assignment k (assigned_in ms k w)

    abbrev pub one_import : Way → Sole → Result ℕ Fault
    one_import way Nothing = fault Missing w (Some way.place)
    one_import way (One i) = Ok i
    one_import way (Two a b) = fault (ImportedTwice a b) w (Some (from_place way.«module» b))

    -- which import of a module has the Name
    unfoldable pub import_of_name : Way → Result ℕ Fault
    import_of_name way = one_import way (imported_in ms way.«module» w)

    -- ---- from one module to the next

    -- on to module k, if it exports the Name
    abbrev pub into : Place → ℕ → Result Way Fault
    into p k = if is_exported_in ms k w then Ok (record { «module» = k; place = p }) else fault NotExported w (Some p)

    abbrev pub fitting : ℕ → ℕ → ℕ → Result Way Fault
    fitting k i j = version_at k (from_name k i) >>= λ _. into (from_place k i) j

    -- through import i of module k
    unfoldable pub through : ℕ → ℕ → Result Way Fault
    through k i = module_at (Some (from_place k i)) (from_name k i) >>= fitting k i

    abbrev pub step_by : Way → Option ℕ → Result Step Fault
    step_by way (Some n) = Ok (Here (record { «module» = way.«module»; assignment = n }))
    step_by way None = import_of_name way >>= λ i. through way.«module» i >>= λ next. Ok (On next)

    -- the module's own assignment, or else the way through its import
    unfoldable pub step : Way → Result Step Fault
    step way = own way.«module» >>= step_by way

    abbrev pub after : (Way → Result Found Fault) → Step → Result Found Fault
    after more (Here x) = Ok x
    after more (On way) = more way

    -- in so many modules, one after another
    unfoldable pub follow : ℕ → Way → Result Found Fault
    follow zero way = fault Circular w (Some way.place)
    follow (suc n) way = step way >>= after (follow n)

  -- ---- what is asked for

  -- what the Name stands for in module k: a way through all modules and one more comes round
  unfoldable pub find : ℕ → List ℕ → Result Found Fault
  find k w = follow w (length ms) (record { «module» = k; place = module_place k })

  abbrev pub find_from : ℕ → List ℕ → List ℕ → Sole → Result Found Fault
  find_from k f w Nothing = fault NotImported f (Some (module_place k))
  find_from k f w (One i) = through w k i >>= follow w (length ms)
  find_from k f w (Two i j) = through w k i >>= follow w (length ms)

  -- what f.w stands for in module k
  unfoldable pub find_in : ℕ → List ℕ → List ℕ → Result Found Fault
  find_in k f w = if bytes_eq f (own_name k) then find k w else find_from k f w (source_in ms k f)

  unfoldable pub find_module : List ℕ → Result ℕ Fault
  find_module f = module_at None f

  abbrev pub find_by_assigner : List ℕ → Sole → Result Found Fault
  find_by_assigner w Nothing = fault Missing w None
  find_by_assigner w (One k) = find k w
  find_by_assigner w (Two a b) = fault (InTwoModules a b) w None

  -- the one assignment of the Name in all modules
  unfoldable pub find_anywhere : List ℕ → Result Found Fault
  find_anywhere w = find_by_assigner w (assigner ms w)
