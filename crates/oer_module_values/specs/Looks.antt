-- Where a type stands, and what the steps behind a name are.
use Rattle.std.specs.Prelude.{ℕ, List, [], ◌∷◌, Some, if◌then◌else◌}
use Rattle.oer_module_lexer.specs.Token.{Token, word, Spot}
use Rattle.oer_module_lexer.specs.declared.token.Sign.TheVariants.{Point}
use Rattle.oer_module_syntax.specs.State.{is_sign}
use Rattle.oer_module_syntax.specs.Tree.{Tree, plain, named, tagged, structure, list_of, selection, instance_of, any_defined_by}
use Rattle.oer_module_values.specs.declared.look.Path as raw
use Rattle.oer_module_values.specs.declared.look.Path.TheVariants as raws

-- behind a name: nothing, a name of the module that stands before it (14.1, 14.2), or fields (X.681, 14 and 15)
pub data Path : Type 0 where
  own : Path
  within : List ℕ → Path
  fields : Path

abbrev pub path_seen : raw.Path → Path
path_seen raws.Own = own
path_seen (raws.Within w) = within w.now
path_seen raws.Fields = fields

abbrev pub within_or_fields : Token → Path
within_or_fields (word w) = within w
within_or_fields _ = fields

abbrev pub path_by : Token → Token → Path
path_by t u = if is_sign Point (Some t) then within_or_fields u else fields

abbrev pub path_of : List Spot → Path
path_of [] = own
path_of (t ∷ []) = fields
path_of (t ∷ u ∷ []) = path_by t.token u.token
path_of (t ∷ u ∷ v ∷ more) = fields

-- the byte at which a type begins
abbrev pub place_of : Tree → ℕ
place_of (plain at _ _ _) = at
place_of (named at _ _ _ _) = at
place_of (tagged at _ _ _) = at
place_of (structure at _ _ _) = at
place_of (list_of at _ _ _ _ _) = at
place_of (selection at _ _) = at
place_of (instance_of at _ _ _) = at
place_of (any_defined_by at _) = at
