-- The types that tokens spell lie between the places of these tokens: by induction on the tree.
use Rattle.std.proofs.Common.{ℕ, suc, ◌≤◌, ◌<◌, List, [], ◌∷◌, Bool, true, false, subst, arith}
use Rattle.oer_module_lexer.specs.Token.{Spot, word}
use Rattle.oer_module_syntax.specs.Grammar.{MaybeElements, MoreElements, SpelledElement, SpelledElements, SpelledType, WordAt}
use Rattle.oer_module_syntax.specs.Tree.{Element, marker, group, components_of, component, Elements, no_elements, element}
use Rattle.oer_module_syntax.specs.Tree.{Tree, plain, named, tagged, structure, list_of, selection, instance_of, any_defined_by}
use Rattle.oer_module_places.proofs.Spans.{Between, Spans, parts, widen}
use Rattle.oer_module_places.specs.Rising.{AllLie, ElementLies, Lies}

-- a word stands between the places that it is between
pub word_lies : (at : ℕ) (w : List ℕ) {low high : ℕ} {ts : List Spot} → WordAt at w ts → Spans low high ts → (low ≤ at) × (at < high)
word_lies at w {low} {high} is s =
    let here : Between low high (record { at = at; token = word w } ∷ []) = subst (Between low high) is s.rise in
    let from = here.0 in
    let to = here.1 in
    (from, omega arith)

mutual
  pub type_lies : (t : Tree) (low high : ℕ) (ts : List Spot) → SpelledType t ts → Spans low high ts → Lies low high t
  type_lies (plain at b items constraints) low high ts is s = tt
  type_lies (named at name path parameters constraints) low high ts is s = tt
  type_lies (tagged at tag mode inner) low high ts is s =
      let tags = parts is s in
      let rest = parts tags.last tags.after in
      type_lies inner low high rest.behind rest.last (widen low high (omega arith) (omega arith) rest.after)
  type_lies (structure at b es constraints) low high ts is s =
      let first = parts is.2 s in
      let brace = parts first.last first.after in
      let inside = parts brace.last brace.after in
      let here = word_lies at _ first.first first.before in
      let behind = here.1 in (
        here.0,
        omega arith,
        maybe_lie es is.0 (suc at) high inside.front inside.first (widen (suc at) high (omega arith) (omega arith) inside.before),
      )
  type_lies (list_of at b sized size name inner) low high ts is s =
      let first = parts is.1 s in
      let sizes = parts first.last first.after in
      let of = parts sizes.last sizes.after in
      let item = parts of.last of.after in
      let here = word_lies at _ first.first first.before in
      let behind = here.1 in
      (here.0, omega arith, type_lies inner (suc at) high item.behind item.last (widen (suc at) high (omega arith) (omega arith) item.after))
  type_lies (selection at name inner) low high ts is s = tt
  type_lies (instance_of at class path constraints) low high ts is s = tt
  type_lies (any_defined_by at by) low high ts is s = tt

  element_lies : (e : Element) (alternatives grouped : Bool) (low high : ℕ) (ts : List Spot)
      → SpelledElement alternatives grouped e ts → Spans low high ts → ElementLies low high e
  element_lies (marker at exception) alternatives grouped low high ts is s = tt
  element_lies (group at es) alternatives grouped low high ts is s =
      let first = parts is.1 s in
      let version = parts first.last first.after in
      let inside = parts version.last version.after in
      some_lie es alternatives true low high inside.front inside.first (widen low high (omega arith) (omega arith) inside.before)
  element_lies (components_of at inner) alternatives grouped low high ts is s =
      let first = parts is.1 s in
      let of = parts first.last first.after in
      type_lies inner low high of.behind of.last (widen low high (omega arith) (omega arith) of.after)
  element_lies (component at name inner need) alternatives grouped low high ts is s =
      let first = parts is s in
      let rest = parts first.last first.after in
      type_lies inner low high rest.front rest.first (widen low high (omega arith) (omega arith) rest.before)

  -- one element or more
  some_lie : (es : Elements) (alternatives grouped : Bool) (low high : ℕ) (ts : List Spot)
      → SpelledElements alternatives grouped es ts → Spans low high ts → AllLie low high es
  some_lie no_elements alternatives grouped low high ts is s = tt
  some_lie (element e es) alternatives grouped low high ts is s =
      let p = parts is s in (
        element_lies e alternatives grouped low high p.front p.first (widen low high (omega arith) (omega arith) p.before),
        more_lie es alternatives grouped low high p.behind p.last (widen low high (omega arith) (omega arith) p.after),
      )

  -- those behind a comma each
  more_lie : (es : Elements) (alternatives grouped : Bool) (low high : ℕ) (ts : List Spot)
      → MoreElements alternatives grouped es ts → Spans low high ts → AllLie low high es
  more_lie no_elements alternatives grouped low high ts is s = tt
  more_lie (element e es) alternatives grouped low high ts is s =
      let p = parts is s in
      let comma = parts p.first p.before in (
        element_lies e alternatives grouped low high comma.behind comma.last (widen low high (omega arith) (omega arith) comma.after),
        more_lie es alternatives grouped low high p.behind p.last (widen low high (omega arith) (omega arith) p.after),
      )

  -- what stands in the braces of a type
  maybe_lie : (es : Elements) (alternatives : Bool) (low high : ℕ) (ts : List Spot)
      → MaybeElements alternatives es ts → Spans low high ts → AllLie low high es
  maybe_lie no_elements alternatives low high ts is s = tt
  maybe_lie (element e es) alternatives low high ts is s =
      let p = parts is s in (
        element_lies e alternatives false low high p.front p.first (widen low high (omega arith) (omega arith) p.before),
        more_lie es alternatives false low high p.behind p.last (widen low high (omega arith) (omega arith) p.after),
      )
