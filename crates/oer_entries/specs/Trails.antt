-- The parts on the way to the octets in hand: how steps lead on, and back.
use Rattle.std.specs.Prelude.{◌≡◌, ℕ, suc, List, [], ◌∷◌, ◌++◌, length, drop, take, map, Bool, false, Option, Some, None, if◌then◌else◌, string_bytes}
use Rattle.oer_model.specs.AsnType.{AsnType}
use Rattle.oer_model.specs.Parts.{same_step}
use Rattle.oer_parts.specs.Walk.{step_of}
use Rattle.oer_parts.specs.declared.step.Step.{Step}
use Rattle.oer_entries.specs.Frames.{Seen, fresh, seen}
use Rattle.oer_entries.specs.Known.{Known, part_in, plainly}
use Rattle.oer_entries.specs.Ways.{joined, pointed, step_text}
use Rattle.oer_entries.specs.declared.way.Way.{Way}

-- the text of the step to a part
abbrev pub text_to : Option Step → List ℕ
text_to None = []
text_to (Some step) = step_text step

-- a text, and that of a part behind it
abbrev pub path_to : List ℕ → Seen → List ℕ
path_to path f = pointed path ++ text_to f.step

abbrev pub names_to : List ℕ → Seen → List ℕ
names_to names f = pointed names ++ f.is.name

-- the texts of a way: those of the parts after the whole
abbrev pub path_in : List Seen → List ℕ
path_in parts = joined [] (map (λ f. text_to f.step) (drop 1 parts))

abbrev pub names_in : List Seen → List ℕ
names_in parts = joined [] (map (λ f. f.is.name) (drop 1 parts))

-- the type of the last part
abbrev pub last_type : List Seen → Option AsnType
last_type [] = None
last_type (f ∷ []) = f.is.type
last_type (f ∷ g ∷ gs) = last_type (g ∷ gs)

-- what the type says of the part to which the step leads from this one
abbrev pub known_from : Seen → Step → Known
known_from f step = part_in f.is.type f.tag (step_of step)

-- The part g stands where its step leads from f, and its texts end where those of the way do; path, names: the texts up to f.
pub record Follows (f : Seen) (path names : List ℕ) (g : Seen) : Type 0 where
  pub by : Step
  pub step : g.step ≡ Some by
  pub is : g.is ≡ known_from f by
  pub path_end : g.path_end ≡ length (path_to path g)
  pub names_end : g.names_end ≡ length (names_to names g)

-- each part follows the one before it
abbrev pub Follow : Seen → List ℕ → List ℕ → List Seen → Type 0
Follow f path names [] = Unit {0}
Follow f path names (g ∷ gs) = Follows f path names g × Follow g (path_to path g) (names_to names g) gs

-- a value of the type as a whole
pub record IsWhole (T : AsnType) (f : Seen) : Type 0 where
  pub step : f.step ≡ None
  pub is : f.is ≡ plainly [] T
  pub path_end : f.path_end ≡ 0
  pub names_end : f.names_end ≡ 0

-- the parts on a way, from a value of the type on
abbrev pub AreParts : AsnType → List Seen → Type 0
AreParts T [] = ⊥
AreParts T (f ∷ fs) = IsWhole T f × Follow f [] [] fs

abbrev pub parts_of : Way → List Seen
parts_of way = map seen way.frames.items

-- The way leads from a value of the type, its parts follow each other, and its texts are theirs.
pub record IsWay (T : AsnType) (way : Way) : Type 0 where
  pub parts : AreParts T (parts_of way)
  pub path : string_bytes way.path ≡ path_in (parts_of way)
  pub names : string_bytes way.names ≡ names_in (parts_of way)

-- ---- how a way goes on

-- the part of f to which the step leads, of which nothing was read
abbrev pub inner_of : Seen → List ℕ → List ℕ → Step → Seen
inner_of f path names step =
    let is = known_from f step in
    fresh (Some step) is (length (pointed path ++ step_text step)) (length (pointed names ++ is.name))

-- parts, the last of which is entered by the step; path, names: the texts up to the first
abbrev pub entered_from : Step → List ℕ → List ℕ → List Seen → List Seen
entered_from step path names [] = []
entered_from step path names (f ∷ []) = record f { last = Some step } ∷ inner_of f path names step ∷ []
entered_from step path names (f ∷ g ∷ gs) = f ∷ entered_from step (path_to path g) (names_to names g) (g ∷ gs)

abbrev pub entered : Step → List Seen → List Seen
entered step parts = entered_from step [] [] parts

-- the part f, and those to which further steps lead
abbrev pub grown : List Step → List ℕ → List ℕ → Seen → List Seen
grown [] path names f = f ∷ []
grown (step ∷ more) path names f =
    record f { last = Some step }
    ∷ grown more (pointed path ++ step_text step) (pointed names ++ (known_from f step).name) (inner_of f path names step)

-- parts, and those to which further steps lead from the last
abbrev pub grown_from : List Step → List ℕ → List ℕ → List Seen → List Seen
grown_from steps path names [] = []
grown_from steps path names (f ∷ []) = grown steps path names f
grown_from steps path names (f ∷ g ∷ gs) = f ∷ grown_from steps (path_to path g) (names_to names g) (g ∷ gs)

-- whether the step leads to the part
abbrev pub leads_to : Step → Option Step → Bool
leads_to step None = false
leads_to step (Some other) = same_step (step_of other) (step_of step)

-- how many of the parts after the whole are on the path
abbrev pub common : List Seen → List Step → ℕ
common (g ∷ gs) (step ∷ path) = if leads_to step g.step then suc (common gs path) else 0
common _ _ = 0

-- parts on the path: those that are on it stay, and then come those to which its other steps lead
abbrev pub reached : List Step → List Seen → List Seen
reached path parts =
    let kept = common (drop 1 parts) path in grown_from (drop kept path) [] [] (take (suc kept) parts)

-- parts, the last of which g changes
abbrev pub last_by : (Seen → Seen) → List Seen → List Seen
last_by g [] = []
last_by g (f ∷ []) = g f ∷ []
last_by g (f ∷ h ∷ fs) = f ∷ last_by g (h ∷ fs)
