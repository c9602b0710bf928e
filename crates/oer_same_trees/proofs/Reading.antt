-- Types of the notation are read as types of modules, and their trees say the same.
use Rattle.std.proofs.Common.{◌≡◌, ℕ, zero, suc, ◌+◌, ◌*◌, ◌≤◌, List, [], ◌∷◌, ◌++◌, Bool, true, false, Option, Some, None, Ok, refl, sym, ap, subst, ◌∙◌, append_assoc, arith}
use Rattle.std.specs.Prelude.{codes}
use Rattle.oer_lexer.specs.Token as notation
use Rattle.oer_lexer.specs.declared.token.Sign.TheVariants as signs
use Rattle.oer_model.specs.AsnType.{AsnType, choice, Fields, Additions, Alternatives}
use Rattle.oer_model.specs.WellFormed.{depth, fields_depth, additions_depth, alternatives_depth}
use Rattle.oer_model.proofs.fitting.Leaves.{some_depth}
use Rattle.oer_module_lexer.specs.Token.{Spot, word, sign}
use Rattle.oer_module_lexer.specs.declared.token.Sign.TheVariants.{CloseBrace, OpenBracket, Comma, Ellipsis}
use Rattle.oer_module_syntax.specs.Ranges.{starts_sign}
use Rattle.oer_module_syntax.specs.Tree.{Tree, Element, Need, must, structure, component, marker, elements_from, plain, named, list_of, tagged}
use Rattle.oer_module_syntax.specs.Types.{need_at, one_at, sequence_at, structure_at, type_at}
use Rattle.oer_module_syntax.specs.Words.{is_identifier}
use Rattle.oer_module_syntax.specs.declared.tree.Mode.TheVariants.{Unsaid}
use Rattle.oer_module_syntax.specs.declared.word.Builtin.{Builtin}
use Rattle.oer_module_syntax.specs.declared.word.Builtin.TheVariants as bi
use Rattle.oer_notation.specs.Grammar.{IsTag, own_tag, tag_by_place, IsType, leaf_type, named_type, empty_sequence_type, sequence_type, extensible_sequence_type, sequence_of_type, choice_type, AreComponents, no_components as none_there, component as a_component, components_marker, AreAdditions, none_added, added, AreAlternatives, none_left, an_alternative, alternatives_marker, AreLater, none_later, a_later}
use Rattle.oer_notation.specs.Reading.{Known}
use Rattle.oer_same_tokens.specs.Same.{same_tokens}
use Rattle.oer_units.specs.declared.tagging.Tag.{Tag}
use Rattle.oer_same_trees.specs.Defining.{AreUnreserved, EndsType}
use Rattle.oer_same_trees.specs.Says.{Says, says_leaf, says_name, says_sequence, says_extensible_sequence, says_sequence_of, says_choice, SaysComponents, says_no_components, says_component, says_components_marker, SaysAdditions, says_none_added, says_added, SaysAlternatives, says_none_left, says_alternative, says_alternatives_marker, SaysLater, says_none_later, says_later, SaysTagged, says_own_tag, says_tag_by_place}
use Rattle.oer_same_trees.proofs.Flat.{Tagging, a_tag, tag_tagging, closing}
use Rattle.oer_same_trees.proofs.Placed.{Placed, none_placed, placed, kept_as, same_parts, closed, apart, before, spot}
use Rattle.oer_same_trees.proofs.Steps.{Separated, before_comma, before_brace, separated_ends, separated_marker, need_ends, addition_ends, no_need, need_read, addition_read, leaf_read, name_read, type_first, tag_read, enter_sequence, enter_choice, enter_list, structure_read, component_read, marker_read, list_read, no_braces, braces_listed}
use Rattle.oer_same_trees.proofs.Turns.{Turns, turned, turn, first_turns}
use Rattle.oer_same_trees.proofs.Words.{id_small, name_capital, defined_unreserved}

abbrev brace : ℕ → Spot
brace at = spot at (sign CloseBrace)

abbrev added_depth : Option Additions → ℕ
added_depth None = 0
added_depth (Some more) = additions_depth more

-- ---- what stands between commas

module _ (known : List Known) where
  components_separated : {fs : Fields} {more : Option Additions} {ts : List notation.Token} → AreComponents known fs more ts → (ss : List Spot) (at : ℕ) (rest : List Spot)
      → Placed (same_tokens ts) ss → Separated (ss ++ (brace at ∷ rest))
  components_separated none_there _ at rest none_placed = before_brace at
  components_separated (a_component i d n m) _ at rest (placed by p) = before_comma by
  components_separated (components_marker m) _ at rest (placed by p) = before_comma by

  additions_separated : {more : Additions} {ts : List notation.Token} → AreAdditions known more ts → (ss : List Spot) (at : ℕ) (rest : List Spot)
      → Placed (same_tokens ts) ss → Separated (ss ++ (brace at ∷ rest))
  additions_separated none_added _ at rest none_placed = before_brace at
  additions_separated (added i d n m) _ at rest (placed by p) = before_comma by

  alternatives_separated : {tagged : Bool} {place : ℕ} {more : Alternatives} {marker : Bool} {ts : List notation.Token} → AreAlternatives known tagged place more marker ts
      → (ss : List Spot) (at : ℕ) (rest : List Spot) → Placed (same_tokens ts) ss → Separated (ss ++ (brace at ∷ rest))
  alternatives_separated none_left _ at rest none_placed = before_brace at
  alternatives_separated (an_alternative i g d m) _ at rest (placed by p) = before_comma by
  alternatives_separated (alternatives_marker m) _ at rest (placed by p) = before_comma by

  later_separated : {tagged : Bool} {place : ℕ} {more : Alternatives} {ts : List notation.Token} → AreLater known tagged place more ts
      → (ss : List Spot) (at : ℕ) (rest : List Spot) → Placed (same_tokens ts) ss → Separated (ss ++ (brace at ∷ rest))
  later_separated none_later _ at rest none_placed = before_brace at
  later_separated (a_later i g d m) _ at rest (placed by p) = before_comma by

  -- the first of them has tokens, too
  components_first : {fs : Fields} {more : Option Additions} {ts : List notation.Token} → AreComponents known fs more (notation.sign signs.Comma ∷ ts) → (ss rest : List Spot)
      → Placed (same_tokens ts) ss → starts_sign CloseBrace (ss ++ rest) ≡ false
  components_first (a_component i d n m) _ rest (placed by p) = refl
  components_first (components_marker m) _ rest (placed by p) = refl

  word_first : (w : List ℕ) (ts : List notation.Token) (ss rest : List Spot) → Placed (same_tokens (notation.word w ∷ ts)) ss → starts_sign CloseBrace (ss ++ rest) ≡ false
  word_first w ts _ rest (placed by p) = refl

  choice_said : {tagged marker : Bool} {more : Alternatives} {w : List ℕ} {ts : List notation.Token} {es : _} {at : ℕ}
      → AreAlternatives known tagged 0 more marker (notation.sign signs.Comma ∷ notation.word w ∷ ts) → SaysAlternatives known tagged 0 more marker es
      → Says known (choice marker more) (structure at bi.Choice es [])
  choice_said (an_alternative i g d m) s = says_choice s

module _ (end : ℕ) (complete : Bool) (l : ℕ) where
  abbrev Took : Bool → List Spot → List Element → List Spot → Type 0
  Took alternatives tail es ss = Turns Element end complete (one_at (type_at l) false alternatives) tail es ss

  component_turn : (alternatives : Bool) (at by : ℕ) (w : List ℕ) (ps us ss tail middle : List Spot) (t : Tree) (n : Need) (es : List Element)
      → is_identifier w ≡ true → ss ≡ ps ++ us
      → type_at l (before end complete (ps ++ (us ++ tail))) ≡ Ok (t, before end complete middle)
      → need_at alternatives (before end complete middle) ≡ Ok (n, before end complete (us ++ tail)) → Took alternatives tail es us
      → Took alternatives tail (component by w t n ∷ es) (spot at (sign Comma) ∷ spot by (word w) ∷ ss)
  component_turn alternatives at by w ps us ss tail middle t n es i e f g more =
      subst (λ ss. Took alternatives tail (component by w t n ∷ es) (spot at (sign Comma) ∷ spot by (word w) ∷ ss)) (sym e)
      (turn at (spot by (word w) ∷ ps) (component_read end complete (type_at l) alternatives by w (ps ++ (us ++ tail)) middle (us ++ tail) t n i f g) more)

  marker_turn : (alternatives : Bool) (at by : ℕ) (us tail : List Spot) (es : List Element) → Separated (us ++ tail) → Took alternatives tail es us
      → Took alternatives tail (marker by [] ∷ es) (spot at (sign Comma) ∷ spot by (sign Ellipsis) ∷ us)
  marker_turn alternatives at by us tail es s more =
      turn at (spot by (sign Ellipsis) ∷ []) (marker_read end complete (type_at l) alternatives by (us ++ tail) (separated_marker s)) more

  -- what is in braces
  structure_taken : (alternatives : Bool) (at : ℕ) (b : Builtin) (ss inner : List Spot) (by : ℕ) (rest : List Spot) (es : List Element) → ss ≡ inner ++ brace by ∷ []
      → Took alternatives (brace by ∷ rest) es (spot 0 (sign Comma) ∷ inner) → starts_sign CloseBrace (inner ++ (brace by ∷ rest)) ≡ false → EndsType rest
      → structure_at (type_at l) at b alternatives (before end complete (ss ++ rest)) ≡ Ok (structure at b (elements_from es) [], before end complete rest)
  structure_taken alternatives at b ss inner by rest es e turns some ends =
      ap (λ ss. structure_at (type_at l) at b alternatives (before end complete ss)) (ap (λ ss. ss ++ rest) e ∙ append_assoc inner (brace by ∷ []) rest)
      ∙ structure_read end complete (type_at l) at b alternatives (inner ++ (brace by ∷ rest)) by rest es
      (braces_listed end complete (type_at l) alternatives (inner ++ (brace by ∷ rest)) (brace by ∷ rest) es some
      (first_turns end complete (one_at (type_at l) false alternatives) (brace by ∷ rest) refl turns)) ends.no_parenthesis

-- ---- types

module _ (known : List Known) (unreserved : AreUnreserved known) (end : ℕ) (complete : Bool) where
  abbrev Reads : ℕ → AsnType → List Spot → List Spot → Type 0
  Reads l T ss rest = (t : Tree) × (type_at l (before end complete (ss ++ rest)) ≡ Ok (t, before end complete rest)) × Says known T t

  abbrev Parted : ℕ → Bool → List Spot → (List Element → Type 0) → List Spot → Type 0
  Parted l alternatives tail SaysAll ss = (es : List Element) × Took end complete l alternatives tail es ss × SaysAll es

  -- an alternative's tag and type
  abbrev Tagged : ℕ → Bool → ℕ → Tag → AsnType → List Spot → List Spot → Type 0
  Tagged l by_tag place t T ss rest =
      (tree : Tree) × (type_at l (before end complete (ss ++ rest)) ≡ Ok (tree, before end complete rest)) × SaysTagged known by_tag place t T tree

  own_tag_read : {place : ℕ} {t : Tag} {T : AsnType} {ts us : List notation.Token} → Tagging ts → IsTag true place t ts → IsType known T us
      → ((k : ℕ) (ss rest : List Spot) → depth T * 2 ≤ k → Placed (same_tokens us) ss → EndsType rest → Reads k T ss rest) → (l : ℕ) → depth T * 2 + 1 ≤ l
      → (ms ss rest : List Spot) → Placed (same_tokens ts) ms → Placed (same_tokens us) ss → EndsType rest → Tagged l true place t T (ms ++ ss) rest
  own_tag_read {T = T} x g d read zero deep ms ss rest p q ends = absurd (omega arith)
  own_tag_read (a_tag ts x) g d read (suc l) deep _ ss rest (placed {ss = ms} at p) q ends =
      let r = read l ss rest (omega arith) q ends in (
        tagged at (spot at (sign OpenBracket) ∷ ms) Unsaid r.0,
        ap (λ l'. type_at (suc l) (before end complete (spot at (sign OpenBracket) ∷ l'))) (append_assoc ms ss rest)
            ∙ tag_read end complete l _ (closing signs.CloseBracket ts x (λ at. refl)) at ms ss rest r.0 p (type_first end complete d unreserved ss q) r.1,
        says_own_tag g (kept_as (placed at p)) r.2,
      )

  tagged_read : {tagged : Bool} {place : ℕ} {t : Tag} {T : AsnType} {ts us : List notation.Token} → IsTag tagged place t ts → IsType known T us
      → ((k : ℕ) (ss rest : List Spot) → depth T * 2 ≤ k → Placed (same_tokens us) ss → EndsType rest → Reads k T ss rest) → (l : ℕ) → depth T * 2 + 1 ≤ l
      → (ms ss rest : List Spot) → Placed (same_tokens ts) ms → Placed (same_tokens us) ss → EndsType rest → Tagged l tagged place t T (ms ++ ss) rest
  tagged_read (own_tag {place} c n) d read l deep ms ss rest p q ends = own_tag_read (tag_tagging {place = place} (own_tag c n)) (own_tag c n) d read l deep ms ss rest p q ends
  tagged_read tag_by_place d read l deep _ ss rest none_placed q ends = let r = read l ss rest (omega arith) q ends in (r.0, r.1, says_tag_by_place tag_by_place r.2)

  mutual
    pub type_read : {T : AsnType} {ts : List notation.Token} → IsType known T ts → (l : ℕ) (ss rest : List Spot) → depth T * 2 ≤ l → Placed (same_tokens ts) ss → EndsType rest
        → Reads l T ss rest
    type_read (leaf_type k i) zero ss rest deep p ends = absurd (omega arith)
    type_read (named_type {T = T} n d) zero ss rest deep p ends = absurd (let x = some_depth T in omega arith)
    type_read empty_sequence_type zero ss rest deep p ends = absurd (omega arith)
    type_read (sequence_type d) zero ss rest deep p ends = absurd (omega arith)
    type_read (extensible_sequence_type d) zero ss rest deep p ends = absurd (omega arith)
    type_read (sequence_of_type z d) zero ss rest deep p ends = absurd (omega arith)
    type_read (choice_type d) zero ss rest deep p ends = absurd (omega arith)
    type_read (leaf_type k i) (suc l) _ rest deep (placed {ss} at p) ends =
        let r = leaf_read end complete k l i at ss rest p ends in
        (plain r.at _ r.items r.constraints, r.is, says_leaf k i r.keeps_items r.keeps_constraints)
    type_read (named_type {w} n d) (suc l) _ rest deep (placed at none_placed) ends =
        (named at w [] [] [], name_read end complete l at w rest (name_capital n) (defined_unreserved d unreserved) ends, says_name n d)
    type_read empty_sequence_type (suc l) _ rest deep (placed at (placed by (placed from none_placed))) ends = (
      structure at bi.Sequence (elements_from []) [],
      enter_sequence end complete l at by (brace from ∷ rest)
          ∙ structure_read end complete (type_at l) at bi.Sequence false (brace from ∷ rest) from rest [] (no_braces end complete (type_at l) false from rest) ends.no_parenthesis,
      says_sequence says_no_components,
    )
    type_read (sequence_type {fs} {ts} d) (suc l) _ rest deep (placed at (placed {ss} by p)) ends =
        let c = closed signs.CloseBrace ts ss p in
        let r = components_read d l (spot 0 (sign Comma) ∷ c.inner) c.at rest (omega arith) (omega arith) (placed 0 c.holds) in (
          structure at bi.Sequence (elements_from r.0) [],
          enter_sequence end complete l at by (ss ++ rest)
              ∙ structure_taken end complete l false at bi.Sequence ss c.inner c.at rest r.0 c.is r.1 (components_first known d c.inner (brace c.at ∷ rest) c.holds) ends,
          says_sequence r.2,
        )
    type_read (extensible_sequence_type {fs} {more} {ts} d) (suc l) _ rest deep (placed at (placed {ss} by p)) ends =
        let c = closed signs.CloseBrace ts ss p in
        let r = components_read d l (spot 0 (sign Comma) ∷ c.inner) c.at rest (omega arith) (omega arith) (placed 0 c.holds) in (
          structure at bi.Sequence (elements_from r.0) [],
          enter_sequence end complete l at by (ss ++ rest)
              ∙ structure_taken end complete l false at bi.Sequence ss c.inner c.at rest r.0 c.is r.1 (components_first known d c.inner (brace c.at ∷ rest) c.holds) ends,
          says_extensible_sequence r.2,
        )
    type_read (sequence_of_type {size} {T} {ts} {us} z d) (suc l) _ rest deep (placed {ss} at p) ends =
        let q = apart ts (codes "OF") us ss p in
        let r = type_read d l q.behind rest (omega arith) q.second ends in
        let f = type_first end complete d unreserved q.behind q.second in
        let s = list_read end complete (type_at l) z at q.at q.front (q.behind ++ rest) rest r.0 q.first (f.no_name rest) r.1 in (
          list_of at bi.Sequence s.0 s.1 None r.0,
          enter_list end complete l at (ss ++ rest)
              ∙ ap (λ ss. sequence_at (type_at l) at bi.Sequence (before end complete ss)) (ap (λ ss. ss ++ rest) q.is ∙ append_assoc q.front
              (spot q.at (word (codes "OF")) ∷ q.behind) rest)
              ∙ s.3,
          says_sequence_of s.2 r.2,
        )
    type_read (choice_type {w} {ts} d) (suc l) _ rest deep (placed at (placed {ss} by p)) ends =
        let c = closed signs.CloseBrace (notation.word w ∷ ts) ss p in
        let r = alternatives_read d l (spot 0 (sign Comma) ∷ c.inner) c.at rest (omega arith) (placed 0 c.holds) in (
          structure at bi.Choice (elements_from r.0) [],
          enter_choice end complete l at by (ss ++ rest)
              ∙ structure_taken end complete l true at bi.Choice ss c.inner c.at rest r.0 c.is r.1 (word_first known w ts c.inner (brace c.at ∷ rest) c.holds) ends,
          choice_said known d r.2,
        )

    components_read : {fs : Fields} {more : Option Additions} {ts : List notation.Token} → AreComponents known fs more ts → (l : ℕ) (ss : List Spot) (by : ℕ) (rest : List Spot)
        → fields_depth fs * 2 ≤ l → added_depth more * 2 ≤ l → Placed (same_tokens ts) ss
        → Parted l false (brace by ∷ rest) (λ es. SaysComponents known fs more (elements_from es)) ss
    components_read none_there l _ by rest deep deeper none_placed = ([], turned, says_no_components)
    components_read (a_component {w} {T} {need} {fs} {more} {ts} {us} {vs} i d n m) l _ by rest deep deeper (placed at (placed {ss} from p)) =
        let q = same_parts (ts ++ us) vs ss p in
        let o = same_parts ts us q.front q.first in
        let tail = brace by ∷ rest in
        let s = components_separated known m q.behind by rest q.second in
        let r = components_read m l q.behind by rest (omega arith) deeper q.second in
        let t = type_read d l o.front (o.behind ++ (q.behind ++ tail)) (omega arith) o.first (need_ends n o.behind (q.behind ++ tail) o.second s) in
        let y = need_read end complete n o.behind (q.behind ++ tail) o.second s in
        let same : q.front ++ (q.behind ++ tail) ≡ o.front ++ (o.behind ++ (q.behind ++ tail)) =
        ap (λ l. l ++ (q.behind ++ tail)) o.is ∙ append_assoc o.front o.behind (q.behind ++ tail) in (
          component from w t.0 y.0 ∷ r.0,
          component_turn end complete l false at from w q.front q.behind ss tail (o.behind ++ (q.behind ++ tail)) t.0 y.0 r.0 (id_small i) q.is
              (ap (λ ss. type_at l (before end complete ss)) same ∙ t.1) y.1 r.1,
          says_component i t.2 y.2 r.2,
        )
    components_read (components_marker {more} m) l _ by rest deep deeper (placed at (placed {ss} from p)) =
        let r = additions_read m l ss by rest deeper p in
        (marker from [] ∷ r.0, marker_turn end complete l false at from ss (brace by ∷ rest) r.0 (additions_separated known m ss by rest p) r.1, says_components_marker r.2)

    additions_read : {more : Additions} {ts : List notation.Token} → AreAdditions known more ts → (l : ℕ) (ss : List Spot) (by : ℕ) (rest : List Spot)
        → additions_depth more * 2 ≤ l → Placed (same_tokens ts) ss → Parted l false (brace by ∷ rest) (λ es. SaysAdditions known more (elements_from es)) ss
    additions_read none_added l _ by rest deep none_placed = ([], turned, says_none_added)
    additions_read (added {w} {T} {more} {ts} {us} {vs} i d n m) l _ by rest deep (placed at (placed {ss} from p)) =
        let q = same_parts (ts ++ us) vs ss p in
        let o = same_parts ts us q.front q.first in
        let tail = brace by ∷ rest in
        let s = additions_separated known m q.behind by rest q.second in
        let r = additions_read m l q.behind by rest (omega arith) q.second in
        let t = type_read d l o.front (o.behind ++ (q.behind ++ tail)) (omega arith) o.first (addition_ends n o.behind (q.behind ++ tail) o.second s) in
        let y = addition_read end complete n o.behind (q.behind ++ tail) o.second s in
        let same : q.front ++ (q.behind ++ tail) ≡ o.front ++ (o.behind ++ (q.behind ++ tail)) =
        ap (λ l. l ++ (q.behind ++ tail)) o.is ∙ append_assoc o.front o.behind (q.behind ++ tail) in (
          component from w t.0 y.0 ∷ r.0,
          component_turn end complete l false at from w q.front q.behind ss tail (o.behind ++ (q.behind ++ tail)) t.0 y.0 r.0 (id_small i) q.is
              (ap (λ ss. type_at l (before end complete ss)) same ∙ t.1) y.1 r.1,
          says_added i t.2 y.2 r.2,
        )

    alternatives_read : {tagged : Bool} {place : ℕ} {more : Alternatives} {marker : Bool} {ts : List notation.Token} → AreAlternatives known tagged place more marker ts
        → (l : ℕ) (ss : List Spot) (by : ℕ) (rest : List Spot) → alternatives_depth more * 2 + 1 ≤ l → Placed (same_tokens ts) ss
        → Parted l true (brace by ∷ rest) (λ es. SaysAlternatives known tagged place more marker (elements_from es)) ss
    alternatives_read none_left l _ by rest deep none_placed = ([], turned, says_none_left)
    alternatives_read (an_alternative {w} {T} {more} {ts} {us} {vs} i g d m) l _ by rest deep (placed at (placed {ss} from p)) =
        let q = same_parts (ts ++ us) vs ss p in
        let o = same_parts ts us q.front q.first in
        let tail = brace by ∷ rest in
        let s = alternatives_separated known m q.behind by rest q.second in
        let r = alternatives_read m l q.behind by rest (omega arith) q.second in
        let t = tagged_read g d (λ k ss rest deep p ends. type_read d k ss rest deep p ends) l (omega arith) o.front o.behind
        (q.behind ++ tail) o.first o.second (separated_ends s) in (
          component from w t.0 must ∷ r.0,
          component_turn end complete l true at from w q.front q.behind ss tail (q.behind ++ tail) t.0 must r.0 (id_small i) q.is
              (ap (λ ss. type_at l (before end complete (ss ++ (q.behind ++ tail)))) o.is ∙ t.1) (no_need end complete true (q.behind ++ tail) s) r.1,
          says_alternative i t.2 r.2,
        )
    alternatives_read (alternatives_marker m) l _ by rest deep (placed at (placed {ss} from p)) =
        let r = later_read m l ss by rest deep p in
        (marker from [] ∷ r.0, marker_turn end complete l true at from ss (brace by ∷ rest) r.0 (later_separated known m ss by rest p) r.1, says_alternatives_marker r.2)

    later_read : {tagged : Bool} {place : ℕ} {more : Alternatives} {ts : List notation.Token} → AreLater known tagged place more ts
        → (l : ℕ) (ss : List Spot) (by : ℕ) (rest : List Spot) → alternatives_depth more * 2 + 1 ≤ l → Placed (same_tokens ts) ss
        → Parted l true (brace by ∷ rest) (λ es. SaysLater known tagged place more (elements_from es)) ss
    later_read none_later l _ by rest deep none_placed = ([], turned, says_none_later)
    later_read (a_later {w} {T} {more} {ts} {us} {vs} i g d m) l _ by rest deep (placed at (placed {ss} from p)) =
        let q = same_parts (ts ++ us) vs ss p in
        let o = same_parts ts us q.front q.first in
        let tail = brace by ∷ rest in
        let s = later_separated known m q.behind by rest q.second in
        let r = later_read m l q.behind by rest (omega arith) q.second in
        let t = tagged_read g d (λ k ss rest deep p ends. type_read d k ss rest deep p ends) l (omega arith) o.front o.behind
        (q.behind ++ tail) o.first o.second (separated_ends s) in (
          component from w t.0 must ∷ r.0,
          component_turn end complete l true at from w q.front q.behind ss tail (q.behind ++ tail) t.0 must r.0 (id_small i) q.is
              (ap (λ ss. type_at l (before end complete (ss ++ (q.behind ++ tail)))) o.is ∙ t.1) (no_need end complete true (q.behind ++ tail) s) r.1,
          says_later i t.2 r.2,
        )
