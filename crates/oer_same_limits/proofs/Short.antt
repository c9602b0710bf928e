-- The tree to which the way leads from one of a short definition is short.
use Rattle.std.proofs.Common.{◌≡◌, ℕ, zero, suc, List, [], ◌∷◌, length, inl, inr, sym, subst}
use Rattle.oer_module_names.specs.Standing.{IsAt}
use Rattle.oer_module_syntax.specs.Tree.{Assignment, Tree, plain, named, tagged, structure, list_of, selection, instance_of, any_defined_by}
use Rattle.oer_notation.specs.Reading.{Known}
use Rattle.oer_same_names.specs.Meant.{IsTreeBehind, LeadsTo, untagged}
use Rattle.oer_same_limits.specs.Short.{AllShort, BodyIsShort, IsShort}

short_untagged : (t : Tree) → IsShort t → IsShort (untagged t)
short_untagged (plain at b items constraints) h = h
short_untagged (named at name path parameters constraints) h = h
short_untagged (tagged at tag mode t) h = h
short_untagged (structure at b es constraints) h = h
short_untagged (list_of at b sized size name t) h = h
short_untagged (selection at name t) h = h
short_untagged (instance_of at class path constraints) h = h
short_untagged (any_defined_by at with) h = h

short_at : (found : List Assignment) (i : ℕ) (a : Assignment) → AllShort found → IsAt found i a → BodyIsShort a.body
short_at [] i a all is = absurd (cc)
short_at (b ∷ found) zero a all is = let same : b ≡ a = cc in subst (λ (x : Assignment). BodyIsShort x.body) same all.0
short_at (b ∷ found) (suc i) a all is = short_at found i a all.1 is

pub short_behind : (found : List Assignment) (known : List Known) (t : Tree) → AllShort found → IsTreeBehind found known t → IsShort t
short_behind found known t all there = subst BodyIsShort there.body_is (short_at found (length known) there.assignment all there.is)

pub short_led : (found : List Assignment) (known by : List Known) (t u : Tree) → AllShort found → IsShort t → LeadsTo found known t by u → IsShort u
short_led found known by t u all is (inl (same, e)) = subst IsShort (sym e) (short_untagged t is)
short_led found known by t u all is (inr (less, there)) = short_behind found by u all there
