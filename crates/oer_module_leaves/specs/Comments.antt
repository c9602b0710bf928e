-- Comments on constraints that narrow the values of a type and aren't in its text, since they change no octet.
use Rattle.std.specs.Prelude.{List, ℕ, [], ◌∷◌, map, Bool, true, false, ◌&&◌, Option, Some, None, Result, Ok, Err, codes, if◌then◌else◌}
use Rattle.oer_module_limits.specs.Errors.{Error}
use Rattle.oer_module_limits.specs.Kinds.{narrows, same_kind}
use Rattle.oer_module_limits.specs.Written.{Written, are_none, are_plain, constraints_in, has_set}
use Rattle.oer_module_limits.specs.declared.error.Why as raw
use Rattle.oer_module_limits.specs.declared.error.Why.TheVariants as raws
use Rattle.oer_module_limits.specs.declared.kinds.Kind.{Kind}
use Rattle.oer_module_limits.specs.declared.kinds.Kind.TheVariants.{Size, Alphabet, Pattern, Settings, Inner, Values, UserDefined, Contents, Table}
use Rattle.oer_module_syntax.specs.declared.word.Builtin.{Builtin}
use Rattle.oer_module_syntax.specs.declared.word.Builtin.TheVariants as bi
use Rattle.oer_module_syntax.specs.declared.fault.Why.TheVariants as fault
use Rattle.oer_module_terms.specs.Trees.{Constraint, constraint_of}
use Rattle.oer_module_text.specs.Room.{Room, put}
use Rattle.oer_module_values.specs.declared.error.Why.TheVariants as told
use Rattle.oer_module_leaves.specs.declared.comment.Checked.{Checked}
use Rattle.oer_module_leaves.specs.declared.comment.Checked.TheVariants.{Nothing, Sizes, Numbers}
use Rattle.oer_module_leaves.specs.declared.comment.Found.{Found as RawFound}

-- which constraints the text of a type says: the numbers of an INTEGER, and the sizes of strings
abbrev pub checked_of : Builtin → Checked
checked_of bi.Integer = Numbers
checked_of bi.BitString = Sizes
checked_of bi.OctetString = Sizes
checked_of bi.Ia5String = Sizes
checked_of bi.VisibleString = Sizes
checked_of bi.Iso646String = Sizes
checked_of bi.NumericString = Sizes
checked_of bi.PrintableString = Sizes
checked_of bi.Utf8String = Sizes
checked_of _ = Nothing

abbrev pub is_checked : Checked → Kind → Bool
is_checked Nothing k = false
is_checked Sizes k = same_kind k Size
is_checked Numbers k = same_kind k Values

-- the word for a kind
abbrev pub kind_text : Kind → List ℕ
kind_text Size = codes "SIZE"
kind_text Alphabet = codes "FROM"
kind_text Pattern = codes "PATTERN"
kind_text Settings = codes "SETTINGS"
kind_text Inner = codes "WITH COMPONENTS"
kind_text Values = codes "values"
kind_text UserDefined = codes "CONSTRAINED BY"
kind_text Contents = codes "contents"
kind_text Table = codes "table"

abbrev pub all_kinds : List Kind
all_kinds = Size ∷ Alphabet ∷ Pattern ∷ Settings ∷ Inner ∷ Values ∷ UserDefined ∷ Contents ∷ Table ∷ []

-- the constraints of a type; SIZE may stand before the first, and there may be a set of values besides
pub record Found : Type 0 where
  pub checked : Checked
  pub sized : Bool
  pub valued : Bool
  pub constraints : List Constraint

abbrev pub found_of : RawFound → Found
found_of f = record { checked = f.checked; sized = f.sized; valued = f.valued; constraints = map constraint_of f.constraints.now }

-- they narrow values by this kind, and the text doesn't say so
abbrev pub is_unchecked : Found → Kind → Bool
is_unchecked f k =
    if is_checked f.checked k then false
    else if f.valued && same_kind k Values then true
    else narrows k f.sized f.constraints

abbrev pub opening_text : Bool → List ℕ → List ℕ
opening_text some opening = if some then codes ", " else opening

-- a word for each of these kinds that isn't checked, and whether there is one
unfoldable pub words_from : Found → List ℕ → Bool → List Kind → Room → Bool × Room
words_from f opening some [] r = (some, r)
words_from f opening some (k ∷ ks) r =
    if is_unchecked f k then words_from f opening true ks (put (kind_text k) (put (opening_text some opening) r))
    else words_from f opening some ks r

-- the reason is that an allocation failed
abbrev pub is_memory : raw.Why → Bool
is_memory (raws.Unresolved (told.Unread fault.Memory)) = true
is_memory _ = false

-- constraints as terms, if their tokens can be read
abbrev pub terms_in : Result (List Constraint) Error → Option (List Constraint)
terms_in (Ok cs) = Some cs
terms_in (Err e) = None

-- where they can't, the word "constraints" alone
abbrev pub words_of : Checked → Bool → Bool → List ℕ → Option (List Constraint) → Room → Bool × Room
words_of checked sized valued opening None r = (true, put (codes "constraints") (put opening r))
words_of checked sized valued opening (Some cs) r =
    words_from (record { checked = checked; sized = sized; valued = valued; constraints = cs }) opening false all_kinds r

unfoldable pub kinds_at : Checked → Bool → Written → List ℕ → Room → Bool × Room
kinds_at checked sized w opening r = words_of checked sized (has_set w.given) opening (terms_in (constraints_in w)) r

-- nothing has to be said, by the tokens alone
abbrev pub is_quiet : Checked → Written → Bool
is_quiet Nothing w = are_none w
is_quiet Sizes w = are_plain w
is_quiet Numbers w = are_plain w

abbrev pub end_comment : Bool × Room → Room
end_comment x = if x.0 then put (codes " */") x.1 else x.1

-- a comment with the kinds that aren't checked, if there are some
unfoldable pub unchecked_at : Checked → Bool → Written → Room → Room
unchecked_at checked sized w r =
    if is_quiet checked w then r
    else end_comment (kinds_at checked sized w (codes " /* not checked: ") r)

-- an open type (X.696, 30), with the same in its comment
abbrev pub end_open : Bool × Room → Room
end_open x = put (codes " */") x.1

unfoldable pub open_at : Written → Room → Room
open_at w r = end_open (kinds_at Nothing false w (codes "; not checked: ") (put (codes "OCTET STRING /* open type") r))
