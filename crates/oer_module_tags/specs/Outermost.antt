-- The outermost tag of a type (X.680, 8, 17.3 and 31).
use Rattle.std.specs.Prelude.{◌≡◌, ◌<◌, ℕ, zero, suc, ◌^◌, ℤ, pos, negsuc, nat_lt, Bool, List, [], Option, Some, None, Ok, if◌then◌else◌}
use Rattle.oer_module_lexer.specs.Token.{Spot}
use Rattle.oer_module_names.specs.declared.error.Place.{Place}
use Rattle.oer_module_parts.specs.Kept.{kept}
use Rattle.oer_module_parts.specs.Tags.{tag_at}
use Rattle.oer_module_parts.specs.Tags as written
use Rattle.oer_module_parts.specs.Universal.{universal_number}
use Rattle.oer_module_syntax.specs.Modules.{none_left}
use Rattle.oer_module_syntax.specs.State.{State}
use Rattle.oer_module_syntax.specs.Tree.{Module, type_body, set_body}
use Rattle.oer_module_syntax.specs.Tree.{Tree, plain, named, tagged, structure, list_of, selection, instance_of, any_defined_by, Elements}
use Rattle.oer_module_syntax.specs.declared.tree.Mode.{Mode}
use Rattle.oer_module_syntax.specs.declared.word.Builtin.{Builtin}
use Rattle.oer_module_text.specs.Errors.{Read, error, refused, place_in, told_by, in_module, unresolved, tag_number, ◌>>=◌}
use Rattle.oer_module_text.specs.declared.error.Part.TheVariants as part
use Rattle.oer_module_values.specs.Errors.{circular}
use Rattle.oer_module_values.specs.Looks.{Path, path_of, place_of}
use Rattle.oer_module_values.specs.Numbers.{bare, Denotes, integer_at}
use Rattle.oer_module_values.specs.Types.{TypeIn, Refers, Step, follow}
use Rattle.oer_units.specs.declared.tagging.Class.{Class}
use Rattle.oer_units.specs.declared.tagging.Class.TheVariants.{Universal}
use Rattle.oer_units.specs.declared.tagging.Tag.{Tag}
use Rattle.oer_module_tags.specs.Headers.{has_tags_in_brackets}

abbrev pub tag : Class → ℕ → Tag
tag c n = record { class = c; number = n }

-- ---- the relation

-- tokens that write a class, and an amount that denotes a number of 32 bits
pub record Writes (ms : List Module) (m at : ℕ) (ts : List Spot) (t : Tag) : Type 0 where
  pub read : written.Tag
  pub rest : State
  pub is : tag_at (kept ts at) ≡ Ok (read, rest)
  pub class : read.class ≡ t.class
  pub number : Denotes ms m (bare m) read.number (pos t.number)
  pub fits : t.number < 2 ^ 32

-- The outermost tag of a type in a module: the one written before it (31.2); that of its word (8.4); or that of the type
-- for which its name stands, or of the governor of the set for which it does.
pub data HasTag (ms : List Module) : ℕ → Tree → Tag → Type 0 where
  by_tag : (m at : ℕ) (ts : List Spot) (mode : Mode) (t : Tree) (g : Tag) → Writes ms m at ts g → HasTag ms m (tagged at ts mode t) g
  by_word : (m at : ℕ) (b : Builtin) (is cs : List Spot) (n : ℕ) → universal_number b ≡ Some n
      → HasTag ms m (plain at b is cs) (tag Universal n)
  by_structure : (m at : ℕ) (b : Builtin) (es : Elements) (cs : List Spot) (n : ℕ) → universal_number b ≡ Some n
      → HasTag ms m (structure at b es cs) (tag Universal n)
  by_list : (m at : ℕ) (b : Builtin) (sized : Bool) (ss : List Spot) (w : Option (List ℕ)) (t : Tree) (n : ℕ) → universal_number b ≡ Some n
      → HasTag ms m (list_of at b sized ss w t) (tag Universal n)
  by_type : (m at : ℕ) (w : List ℕ) (steps cs : List Spot) (n : ℕ) (t : Tree) (g : Tag) → Refers ms m w steps n (type_body t)
      → HasTag ms n t g → HasTag ms m (named at w steps [] cs) g
  by_set : (m at : ℕ) (w : List ℕ) (steps cs ts : List Spot) (n : ℕ) (t : Tree) (g : Tag) → Refers ms m w steps n (set_body t ts)
      → HasTag ms n t g → HasTag ms m (named at w steps [] cs) g

-- ---- as the code has it

-- a number as that of a tag
abbrev pub fitting : Place → ℤ → Read ℕ
fitting p (pos n) = if nat_lt n (2 ^ 32) then Ok n else error p tag_number
fitting p (negsuc n) = error p tag_number

-- the tag that tokens write
abbrev pub tag_in : ℕ → ℕ → List Spot → Read written.Tag
tag_in m at ts = in_module m (tag_at (kept ts at)) >>= λ t. Ok t.0

-- that of a type with a word of its own
abbrev pub numbered : ℕ → ℕ → Option ℕ → Read Tag
numbered m at None = refused m at part.Untagged
numbered m at (Some n) = Ok (tag Universal n)

abbrev pub own_tag : ℕ → ℕ → Builtin → Read Tag
own_tag m at b = numbered m at (universal_number b)

-- what one step tells: the tag, or that it is the tag of another type
pub data Outcome : Type 0 where
  found : Tag → Outcome
  next : TypeIn → Outcome

abbrev pub after : (TypeIn → Read Tag) → Outcome → Read Tag
after more (found t) = Ok t
after more (next u) = more u

-- the type to which a name leads, whatever is given on the way; a field leads to none
abbrev pub led_to : Place → Step → Read TypeIn
led_to p (Some t, gs) = Ok t
led_to p (None, gs) = refused p.«module» p.at part.Untagged

module _ (ms : List Module) where
  unfoldable pub written_tag : ℕ → ℕ → List Spot → Read Tag
  written_tag m at ts = if has_tags_in_brackets ms m then (do
    t ← tag_in m at ts
    z ← told_by (integer_at ms (place_in m at) t.number)
    n ← fitting (place_in m at) z
    Ok (tag t.class n))
      else refused m at part.Instructions

  unfoldable pub referred : Place → List ℕ → Path → List Spot → Read TypeIn
  referred p w path cs = told_by (follow ms p w path cs []) >>= led_to p

  abbrev pub step_by : ℕ → Tree → Read Outcome
  step_by m (tagged at ts mode t) = written_tag m at ts >>= λ g. Ok (found g)
  step_by m (named at w steps ps cs) =
      if none_left ps then (referred (place_in m at) w (path_of steps) cs >>= λ t. Ok (next t)) else refused m at part.Parameters
  step_by m (plain at b is cs) = own_tag m at b >>= λ g. Ok (found g)
  step_by m (structure at b es cs) = own_tag m at b >>= λ g. Ok (found g)
  step_by m (list_of at b sized ss w t) = own_tag m at b >>= λ g. Ok (found g)
  step_by m (selection at w t) = refused m at part.Selection
  step_by m (instance_of at c steps cs) = refused m at part.InstanceOf
  step_by m (any_defined_by at w) = refused m at part.AnyDefinedBy

  unfoldable pub step : TypeIn → Read Outcome
  step t = step_by t.«module» t.type

  -- the tag that is found in so many steps
  unfoldable pub tag_within : ℕ → TypeIn → Read Tag
  tag_within zero t = error (place_in t.«module» (place_of t.type)) (unresolved circular)
  tag_within (suc steps) t = step t >>= after (tag_within steps)

  -- the outermost tag of a type
  abbrev pub outermost_tag : TypeIn → Read Tag
  outermost_tag t = tag_within 255 t
