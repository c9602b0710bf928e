-- Types that are spelt are read.
use Rattle.std.proofs.Common.{◌≡◌, ℕ, zero, suc, ◌+◌, ◌≤◌, List, [], ◌∷◌, ◌++◌, length, Bool, true, false, inl, inr, Option, Some, None, Ok, refl, sym, ap, ap₂, subst, ◌∙◌, append_assoc, append-nil, arith}
use Rattle.std.specs.Prelude.{codes}
use Rattle.std.proofs.lemmas.Slice.Eq.{bytes_eq-Decides}
use Rattle.oer_lexer.specs.LeafWords.{behind_second, words_of}
use Rattle.oer_lexer.specs.declared.leaf.LeafWord.{LeafWord}
use Rattle.oer_lexer.specs.Token.{Token, word, sign}
use Rattle.oer_lexer.specs.declared.token.Sign.TheVariants.{OpenBrace, CloseBrace, OpenParenthesis, OpenBracket, Comma, Ellipsis}
use Rattle.oer_units.specs.declared.tagging.Tag.{Tag}
use Rattle.oer_model.specs.AsnType.{Need, AsnType, leaf, sequence, extensible_sequence, sequence_of, choice, Fields, no_fields, field, Additions, no_additions, addition, Alternatives, no_alternatives, alternative, later}
use Rattle.oer_model.specs.Nodes.{leaf_nodes, type_nodes, fields_nodes, additions_nodes, alternatives_nodes}
use Rattle.oer_model.specs.LeafType.{LeafType}
use Rattle.oer_values.specs.ShapeView.{SeenField, SeenAddition, SeenAlternative, fields_from, additions_from, later_from, root_from}
use Rattle.oer_model.specs.WellFormed.{depth, fields_depth, additions_depth, alternatives_depth, Somewhere, InFields, InAdditions, InAlternatives, HasMisfit, AnyMisfit}
use Rattle.oer_model.specs.declared.size.Size.{Size}
use Rattle.oer_notation.specs.Grammar.{IsId, IsName, IsListSize, in_brackets, bare, one_size, sizes, any_size, bracketed, own_tag, tag_by_place, IsNeed, needed, optional, with_default, MayBeOptional, plain_addition, optional_addition, IsLeaf, bounds_behind, items_behind, nothing_behind, size_behind, IsType, leaf_type, named_type, empty_sequence_type, sequence_type, extensible_sequence_type, sequence_of_type, choice_type, AreComponents, no_components as none_there, component, components_marker, AreAdditions, none_added, added as an_addition, AreAlternatives, none_left, an_alternative, alternatives_marker, AreLater, none_later, a_later}
use Rattle.oer_value_notation.specs.Leaves.{LeafForm, bounded, leaf_form, listed, plain, sized}
use Rattle.oer_value_notation.specs.Numbers.{list_size_at}
use Rattle.oer_notation.specs.Reading.{Known, find, most, past_marker, go_on, tagged_at, leaf_at, leaf_type_at, skip_second, Components, Choices, choice_of_choices, sequence_of_components, no_components, past_optional, field_at, addition_at, alternative_at, component_at, components_more, alternatives_more, body_at, structure_at, list_at, sequence_at, choice_at, word_type, with_parts, named_at, type_by, entered, type_at}
use Rattle.oer_value_notation.specs.State.{State, Read, first, bump, is_sign, at_sign, skip_sign, skip_word, part_at, full}
use Rattle.oer_value_notation.specs.Values.{need_at}
use Rattle.oer_value_notation.specs.declared.word.TypeWord.{TypeWord}
use Rattle.oer_value_notation.specs.declared.word.TypeWord.TheVariants as tw
use Rattle.oer_notation.proofs.Comes.{Comes, done, front, sole, split, recount, less, counted, part_given, bound, id_given, same_state, same_left, Follows, Commas, follows, before, before_comes}
use Rattle.oer_notation.proofs.CompleteItems.{pass_end, pass_comma, pass_dots, go_end, go_more, items_at_given, tagged_given, optional_given}
use Rattle.oer_notation.proofs.CompleteNumbers.{bounds_given, bracketed_given, list_size_given}
use Rattle.oer_notation.proofs.CompleteValues.{no_sign, need_given}
use Rattle.oer_model.proofs.fitting.Leaves.{some_depth, some_node}
use Rattle.oer_notation.proofs.Definitions.{named_taken}
use Rattle.oer_notation.proofs.LeafFacts.{HasNodes, form_nodes}
use Rattle.oer_notation.proofs.NamesGiven.{find_given, start_name, start_word_of}
use Rattle.oer_notation.proofs.WordTable.{word_of}

-- ---- parts as lists

abbrev fields_list : Fields → List SeenField
fields_list no_fields = []
fields_list (field w need T fs) = record { name = w; need = need; type = T } ∷ fields_list fs

fields_back : (fs : Fields) → fields_from (fields_list fs) ≡ fs
fields_back no_fields = refl
fields_back (field w need T fs) = ap (field w need T) (fields_back fs)

abbrev additions_list : Additions → List SeenAddition
additions_list no_additions = []
additions_list (addition w T more) = record { name = w; type = T } ∷ additions_list more

additions_back : (more : Additions) → additions_from (additions_list more) ≡ more
additions_back no_additions = refl
additions_back (addition w T more) = ap (addition w T) (additions_back more)

abbrev root_list : Alternatives → List SeenAlternative
root_list no_alternatives = []
root_list (alternative w t T more) = record { name = w; tag = t; type = T } ∷ root_list more
root_list (later w t T more) = []

abbrev later_list : Alternatives → List SeenAlternative
later_list no_alternatives = []
later_list (alternative w t T more) = later_list more
later_list (later w t T more) = record { name = w; tag = t; type = T } ∷ later_list more

abbrev is_extended : Option Additions → Bool
is_extended None = false
is_extended (Some more) = true

abbrev added_list : Option Additions → List SeenAddition
added_list None = []
added_list (Some more) = additions_list more

abbrev added_nodes : Option Additions → ℕ
added_nodes None = 0
added_nodes (Some more) = additions_nodes more

abbrev added_depth : Option Additions → ℕ
added_depth None = 0
added_depth (Some more) = additions_depth more

abbrev AddedFit : Option Additions → Type 0
AddedFit None = Unit {0}
AddedFit (Some more) = InAdditions HasMisfit more → ⊥

abbrev made : Bool → List SeenField → List SeenAddition → Components
made extensible fs more = record { root = fs; added = more; extensible = extensible }

abbrev chosen_from : Bool → List SeenAlternative → List SeenAlternative → Choices
chosen_from extensible root more = record { root = root; added = more; extensible = extensible }

-- ---- three lists in a row

record Three (s t : State) (l m n : ℕ) (a b c : List Token) : Type 0 where
  one : State
  two : State
  first : Comes s one l a
  second : Comes one two m b
  third : Comes two t n c

three : {s t : State} {k : ℕ} (l m n : ℕ) (a b c : List Token) → k ≡ l + m + n → Comes s t k (a ++ b ++ c) → Three s t l m n a b c
three l m n a b c e h =
    let x = split (l + m) n (a ++ b) c e h in
    let y = split l m a b refl x.left in
    record { one = y.middle; two = x.middle; first = y.left; second = y.right; third = x.right }

-- ---- what stands behind a type

need_clear : {T : AsnType} {need : Need} {ts : List Token} → IsNeed T need ts → (s t : State) → Comes s t 0 ts → Follows t → at_sign OpenParenthesis s ≡ false
need_clear needed s t c f = ap (at_sign OpenParenthesis) (done c) ∙ no_sign OpenParenthesis t refl refl f
need_clear optional s t c f = ap (is_sign OpenParenthesis) (front c).0
need_clear (with_default d) s t c f = ap (is_sign OpenParenthesis) (front c).0

optional_clear : {ts : List Token} → MayBeOptional ts → (s t : State) → Comes s t 0 ts → Follows t → at_sign OpenParenthesis s ≡ false
optional_clear plain_addition s t c f = ap (at_sign OpenParenthesis) (done c) ∙ no_sign OpenParenthesis t refl refl f
optional_clear optional_addition s t c f = ap (is_sign OpenParenthesis) (front c).0

-- ---- single parts, where their types are read

module _ (type : State → Read AsnType) where
  field_given : {w : List ℕ} (T : AsnType) (need : Need) (s u v : State) → IsId w → first s ≡ Some (word w) → type (bump s) ≡ Ok (T, u) → need_at T u ≡ Ok (need, v) → field_at type s ≡ Ok (record { name = w; need = need; type = T }, v)
  unfolding field_at
  field_given T need s u v i e h k = rw (id_given s i e, h, k) refl

  addition_given : {w : List ℕ} (T : AsnType) (s u v : State) → IsId w → first s ≡ Some (word w) → type (bump s) ≡ Ok (T, u) → past_optional u ≡ v → addition_at type s ≡ Ok (record { name = w; type = T }, v)
  unfolding addition_at
  addition_given {w} T s u v i e h k = rw (id_given s i e, h) (ap (λ v. Ok (record { name = w; type = T }, v)) k)

  alternative_given : {w : List ℕ} (tagged : Bool) (place : ℕ) (t : Tag) (T : AsnType) (s u v : State) → IsId w → first s ≡ Some (word w) → tagged_at tagged place (bump s) ≡ Ok (t, u) → type u ≡ Ok (T, v)
      → alternative_at type tagged place s ≡ Ok (record { name = w; tag = t; type = T }, v)
  unfolding alternative_at
  alternative_given tagged place t T s u v i e h k = rw (id_given s i e, h, k) refl

  fields_step : (n : ℕ) (found : List SeenField) (s u : State) (f : SeenField) → field_at type s ≡ Ok (f, u)
      → components_more type (suc n) (made false found []) s ≡ go_on (components_more type n) (made (past_marker false u).0 (found ++ f ∷ []) []) (past_marker false u).1
  unfolding components_more component_at
  fields_step n found s u f e = rw e refl

  additions_step : (n : ℕ) (fs : List SeenField) (found : List SeenAddition) (s u : State) (a : SeenAddition) → addition_at type s ≡ Ok (a, u)
      → components_more type (suc n) (made true fs found) s ≡ go_on (components_more type n) (made true fs (found ++ a ∷ [])) u
  unfolding components_more component_at
  additions_step n fs found s u a e = rw e refl

  alternatives_step : (tagged : Bool) (n place : ℕ) (found : List SeenAlternative) (s u : State) (a : SeenAlternative) → alternative_at type tagged place s ≡ Ok (a, u)
      → alternatives_more type tagged (suc n) place (chosen_from false found []) s ≡ go_on (alternatives_more type tagged n (place + 1)) (chosen_from (past_marker false u).0 (found ++ a ∷ []) []) (past_marker false u).1
  unfolding alternatives_more
  alternatives_step tagged n place found s u a e = rw e refl

  later_step : (tagged : Bool) (n place : ℕ) (root found : List SeenAlternative) (s u : State) (a : SeenAlternative) → alternative_at type tagged place s ≡ Ok (a, u)
      → alternatives_more type tagged (suc n) place (chosen_from true root found) s ≡ go_on (alternatives_more type tagged n (place + 1)) (chosen_from true root (found ++ a ∷ [])) u
  unfolding alternatives_more
  later_step tagged n place root found s u a e = rw e refl

  -- components in braces
  sequence_given : (c : Components) (s mid t : State) → first s ≡ Some (sign OpenBrace) → body_at type (bump s) ≡ Ok (c, mid) → first mid ≡ Some (sign CloseBrace) → bump mid ≡ t → sequence_at type s ≡ Ok (sequence_of_components c, t)
  unfolding sequence_at structure_at skip_sign
  sequence_given c s mid t e h k m = rw (e, h, k) (ap (λ t. Ok (sequence_of_components c, t)) m)

  body_empty : (s : State) → first s ≡ Some (sign CloseBrace) → body_at type s ≡ Ok (no_components false, s)
  unfolding body_at
  body_empty s e = rw e refl

  body_word : (s : State) (w : List ℕ) → first s ≡ Some (word w) → body_at type s ≡ go_on (components_more type most) (made (past_marker false (before s)).0 [] []) (past_marker false (before s)).1
  unfolding body_at
  body_word s w e = rw e refl

  body_dots : (s : State) → first s ≡ Some (sign Ellipsis) → body_at type s ≡ go_on (components_more type most) (made (past_marker false (before s)).0 [] []) (past_marker false (before s)).1
  unfolding body_at
  body_dots s e = rw e refl

  list_given : (z : Size) (T : AsnType) (s u t : State) → at_sign OpenBrace s ≡ false → list_size_at s ≡ Ok (z, u) → first u ≡ Some (word (codes "OF")) → type (bump u) ≡ Ok (T, t) → sequence_at type s ≡ Ok (sequence_of z T, t)
  unfolding sequence_at list_at skip_word
  list_given z T s u t e h k m = rw (e, h, k, m) refl

  choice_given : (tagged : Bool) (c : Choices) (s mid t : State) → first s ≡ Some (sign OpenBrace) → at_sign OpenBracket (bump (bump s)) ≡ tagged
      → go_on (alternatives_more type tagged most 0) (chosen_from (past_marker false (before (bump s))).0 [] []) (past_marker false (before (bump s))).1 ≡ Ok (c, mid) → (w : List ℕ) → first (bump s) ≡ Some (word w)
      → first mid ≡ Some (sign CloseBrace) → bump mid ≡ t → choice_at type s ≡ Ok (choice_of_choices c, t)
  unfolding choice_at skip_sign
  choice_given tagged c s mid t e flag h w f k m =
      let pass = pass_comma (before (bump s)) w refl f in
      let found : alternatives_more type tagged most 0 (chosen_from false [] []) (bump s) ≡ Ok (c, mid) = sym (ap (λ q. go_on (alternatives_more type tagged most 0) (chosen_from q.0 [] []) q.1) pass ∙ go_more (alternatives_more type tagged most 0) (chosen_from false [] []) (before (bump s)) refl) ∙ h in
      rw (e, flag, found, k) (ap (λ t. Ok (choice_of_choices c, t)) m)

  -- ---- behind the word with which a type begins

  leaf_at_word : (k : LeafWord) (L : LeafType) (s u t : State) → skip_second (words_of k).1 s ≡ Ok (tt, u) → leaf_at (leaf_form k) u ≡ Ok (leaf L, t)
      → word_type type (tw.Leaf k) s ≡ Ok (leaf L, t)
  unfolding word_type leaf_type_at
  leaf_at_word k L s u t e h = bound (skip_second (words_of k).1 s) (λ r. leaf_at (leaf_form k) r.1) (tt, u) e ∙ h

  sequence_at_word : (s : State) → word_type type tw.Sequence s ≡ sequence_at type s
  unfolding word_type
  sequence_at_word s = refl

  choice_at_word : (s : State) → word_type type tw.Choice s ≡ choice_at type s
  unfolding word_type
  choice_at_word s = refl

-- ---- types

-- what comes behind the first word
behind : {s t : State} {n : ℕ} {k : Token} {ts : List Token} → Comes s t (suc n) (k ∷ ts) → Comes (bump (less s)) t n ts
behind c = (front (counted c)).1

-- the second word, if there is one, and what stands behind it
second_given : {m : ℕ} {ts : List Token} (o : Option (List ℕ)) (s t : State) → Comes s t m (behind_second o ts) → (u : State) × (skip_second o s ≡ Ok (tt, u)) × Comes u t m ts
unfolding skip_word
second_given None s t c = (s, refl, c)
second_given (Some w) s t c = let f = front c in (bump s, rw (f.0, (bytes_eq-Decides w w).1 refl) refl, f.1)

-- the parts behind the words
nodes_behind : (n : LeafForm) → HasNodes n → {L : LeafType} {ts : List Token} → IsLeaf n L ts → (m : ℕ) × (leaf_nodes L ≡ suc m)
nodes_behind (plain L) nodes nothing_behind = (0, nodes tt)
nodes_behind (bounded make) nodes (bounds_behind {low} {high} d) = (0, nodes low high)
nodes_behind (listed make) nodes (items_behind {marker = marker} {items = is} d) = (length is, nodes is marker)
nodes_behind (sized make) nodes (size_behind {size} d) = (0, nodes size)

leaf_given : (n : LeafForm) → HasNodes n → {L : LeafType} {ts : List Token} → IsLeaf n L ts → (m : ℕ) → leaf_nodes L ≡ suc m → m ≤ 65535 → (s t : State) → Comes s t m ts
    → at_sign OpenParenthesis t ≡ false → leaf_at n s ≡ Ok (leaf L, t)
unfolding leaf_at
leaf_given (plain L) nodes nothing_behind m e few s t c clear =
    let n = nodes tt in
    ap (λ t. Ok (leaf L, t)) (done (recount (omega arith) c))
leaf_given (bounded make) nodes (bounds_behind {low} {high} d) m e few s t c clear =
    let n = nodes low high in
    rw (bounds_given d s t (recount (omega arith) c) clear) refl
leaf_given (listed make) nodes (items_behind {marker = marker} {items = is} d) m e few s t c clear =
    let n = nodes is marker in
    rw (items_at_given d (omega arith) s t (recount (omega arith) c)) refl
leaf_given (sized make) nodes (size_behind {size} d) m e few s t c clear =
    let n = nodes size in
    rw (bracketed_given d s t (recount (omega arith) c) clear) refl

size_clear : {z : Size} {ts : List Token} → IsListSize z ts → (s t : State) → Comes s t 0 ts → first t ≡ Some (word (codes "OF")) → at_sign OpenBrace s ≡ false
size_clear (in_brackets any_size) s t c e = ap (at_sign OpenBrace) (done c) ∙ ap (is_sign OpenBrace) e
size_clear (in_brackets (bracketed d)) s t c e = ap (is_sign OpenBrace) (front c).0
size_clear (bare (one_size d)) s t c e = ap (is_sign OpenBrace) (front c).0
size_clear (bare (sizes d f)) s t c e = ap (is_sign OpenBrace) (front c).0

module _ (known : List Known) where
  word_step : (k : TypeWord) (l n : ℕ) (s t : State) (ts : List Token) (T : AsnType) → Comes s t (suc n) (word (word_of k) ∷ ts) → word_type (type_at known l) k (bump (less s)) ≡ Ok (T, t) → type_at known (suc l) s ≡ Ok (T, t)
  unfolding type_at
  word_step k l n s t ts T c h =
      ap (λ b. type_by known (entered known (word_type (type_at known l))) (suc l) b s) (start_word_of k s (front c).0) ∙ bound (part_at (full s) s) (λ p. word_type (type_at known l) k (bump p.1)) (tt, less s) (part_given (full s) c) ∙ h

  named_step : (l : ℕ) (w : List ℕ) (T : AsnType) (s t : State) → IsName w → find known w ≡ Some T → depth T ≤ suc l → Comes s t (type_nodes T) (word w ∷ []) → type_at known (suc l) s ≡ Ok (T, t)
  unfolding type_at
  named_step l w T s t n f deep c =
      let a = front c in
      let p = c.parts in
      let left : bump (with_parts t.parts s) ≡ t = same_state (bump (with_parts t.parts s)) t (same_left a.1) refl c.stop in
      ap (λ b. type_by known (entered known (word_type (type_at known l))) (suc l) b s) (start_name n s a.0) ∙ ap (λ o. named_at (suc l) o s) f ∙ named_taken (suc l) T s t.parts deep (omega arith) ∙ ap (λ t. Ok (T, t)) left

  type_first : {T : AsnType} {ts : List Token} → IsType known T ts → (w : List ℕ) × (us : List Token) × (ts ≡ word w ∷ us)
  type_first (leaf_type k d) = (_, _, refl)
  type_first (named_type n d) = (_, _, refl)
  type_first empty_sequence_type = (_, _, refl)
  type_first (sequence_type d) = (_, _, refl)
  type_first (extensible_sequence_type d) = (_, _, refl)
  type_first (sequence_of_type z d) = (_, _, refl)
  type_first (choice_type d) = (_, _, refl)

  components_commas : {fs : Fields} {more : Option Additions} {ts : List Token} → AreComponents known fs more ts → Commas ts
  components_commas none_there = inl refl
  components_commas (component i d n m) = inr (_, refl)
  components_commas (components_marker m) = inr (_, refl)

  additions_commas : {more : Additions} {ts : List Token} → AreAdditions known more ts → Commas ts
  additions_commas none_added = inl refl
  additions_commas (an_addition i d o m) = inr (_, refl)

  alternatives_commas : {tagged : Bool} {place : ℕ} {more : Alternatives} {marker : Bool} {ts : List Token} → AreAlternatives known tagged place more marker ts → Commas ts
  alternatives_commas none_left = inl refl
  alternatives_commas (an_alternative i g d m) = inr (_, refl)
  alternatives_commas (alternatives_marker m) = inr (_, refl)

  later_commas : {tagged : Bool} {place : ℕ} {more : Alternatives} {ts : List Token} → AreLater known tagged place more ts → Commas ts
  later_commas none_later = inl refl
  later_commas (a_later i g d m) = inr (_, refl)

  body_same : {fs : Fields} {more : Option Additions} {ts : List Token} {n : ℕ} (type : State → Read AsnType) (s t : State) → AreComponents known fs more (sign Comma ∷ ts) → Comes s t n ts
      → body_at type s ≡ go_on (components_more type most) (made (past_marker false (before s)).0 [] []) (past_marker false (before s)).1
  body_same type s t (component {w} i d n m) c = body_word type s w (front c).0
  body_same type s t (components_marker m) c = body_dots type s (front c).0

  later_root : {tagged : Bool} {place : ℕ} {more : Alternatives} {ts : List Token} → AreLater known tagged place more ts → root_list more ≡ []
  later_root none_later = refl
  later_root (a_later i g d m) = refl

  later_back : {tagged : Bool} {place : ℕ} {more : Alternatives} {ts : List Token} → AreLater known tagged place more ts → later_from (later_list more) ≡ more
  later_back none_later = refl
  later_back (a_later {w} {t} {T} i g d m) = ap (later w t T) (later_back m)

  abbrev together : Bool → List SeenAlternative → List SeenAlternative → Alternatives
  together true root more = root_from root (later_from more)
  together false root more = root_from root no_alternatives

  one_more : (marker : Bool) (x : SeenAlternative) (root more : List SeenAlternative) → together marker (x ∷ root) more ≡ alternative x.name x.tag x.type (together marker root more)
  one_more true x root more = refl
  one_more false x root more = refl

  joined : {tagged : Bool} {place : ℕ} {more : Alternatives} {marker : Bool} {ts : List Token} → AreAlternatives known tagged place more marker ts → together marker (root_list more) (later_list more) ≡ more
  joined none_left = refl
  joined (an_alternative {w} {t} {T} {more} {marker} i g d m) = one_more marker (record { name = w; tag = t; type = T }) (root_list more) (later_list more) ∙ ap (alternative w t T) (joined m)
  joined (alternatives_marker {more} m) = ap (λ r. root_from r (later_from (later_list more))) (later_root m) ∙ later_back m

  of_choices : (marker : Bool) (root more : List SeenAlternative) → choice_of_choices (chosen_from marker root more) ≡ choice marker (together marker root more)
  of_choices true root more = refl
  of_choices false root more = refl

  alternatives_back : {tagged : Bool} {place : ℕ} (more : Alternatives) (marker : Bool) {ts : List Token} → AreAlternatives known tagged place more marker ts → choice_of_choices (chosen_from marker (root_list more) (later_list more)) ≡ choice marker more
  alternatives_back more marker m = of_choices marker (root_list more) (later_list more) ∙ ap (choice marker) (joined m)

  -- whether the first alternative has a tag in brackets
  alternatives_flag : {tagged marker : Bool} {more : Alternatives} {w : List ℕ} {ts : List Token} {n : ℕ} (s t : State) → AreAlternatives known tagged 0 more marker (sign Comma ∷ word w ∷ ts) → Comes s t n (word w ∷ ts) → at_sign OpenBracket (bump s) ≡ tagged
  alternatives_flag s t (an_alternative i (own_tag g k) d m) c = ap (is_sign OpenBracket) (front (front c).1).0
  alternatives_flag {n = n} s t (an_alternative {us} {vs} i tag_by_place d m) c =
      let p = type_first d in
      ap (is_sign OpenBracket) (front (subst (λ us. Comes (bump s) t n (us ++ vs)) p.2 (front c).1)).0

  mutual
    pub type_given : {T : AsnType} {ts : List Token} → IsType known T ts → (levels : ℕ) → depth T ≤ levels → type_nodes T ≤ 65535 → (Somewhere HasMisfit T → ⊥) → (s t : State) → Comes s t (type_nodes T) ts → at_sign OpenParenthesis t ≡ false
        → type_at known levels s ≡ Ok (T, t)
    type_given {T} d zero deep few fit s t c clear = absurd (omega (arith, some_depth T))
    type_given (leaf_type k {L} {ts} d) (suc l) deep few fit s t c clear =
        let nodes = form_nodes k in
        let m = nodes_behind (leaf_form k) nodes d in
        let counted_so = recount m.1 c in
        let b = second_given (words_of k).1 (bump (less s)) t (behind counted_so) in
        word_step (tw.Leaf k) l m.0 s t _ (leaf L) counted_so
        (leaf_at_word (type_at known l) k L (bump (less s)) b.0 t b.1 (leaf_given (leaf_form k) nodes d m.0 m.1 (omega (arith, m.1)) b.0 t b.2 clear))
    type_given (named_type {w} {T} n d) (suc l) deep few fit s t c clear = named_step l w T s t n (find_given d) deep c
    type_given empty_sequence_type (suc l) deep few fit s t c clear =
        let a = front (behind {n = 0} c) in
        let e = sole a.1 in
        word_step tw.Sequence l 0 s t _ (sequence no_fields) c (sequence_at_word (type_at known l) (bump (less s))
        ∙ sequence_given (type_at known l) (no_components false) (bump (less s)) (bump (bump (less s))) t a.0 (body_empty (type_at known l) (bump (bump (less s))) e.0) e.0 e.1)
    type_given (sequence_type {fs} {ts} d) (suc l) deep few fit s t c clear =
        let a = front (behind c) in
        let m = split (fields_nodes fs) 0 ts (sign CloseBrace ∷ []) (omega arith) a.1 in
        let e = sole m.right in
        let s2 = bump (bump (less s)) in
        let came : Comes (before s2) m.middle (fields_nodes fs + added_nodes None) (sign Comma ∷ ts) = recount (omega arith) (before_comes m.left) in
        let all = fields_given d l most (omega arith) (omega arith) (omega arith) (omega arith) (λ x. fit (inl x)) (λ x. fit (inr x)) tt [] (before s2) m.middle came e.0 in
        word_step tw.Sequence l (fields_nodes fs) s t _ (sequence fs) c (sequence_at_word (type_at known l) (bump (less s))
        ∙ sequence_given (type_at known l) (made false (fields_list fs) []) (bump (less s)) m.middle t a.0 (body_same (type_at known l) s2 m.middle d m.left ∙ all) e.0 e.1
        ∙ ap (λ fs. Ok (sequence fs, t)) (fields_back fs))
    type_given (extensible_sequence_type {fs} {more} {ts} d) (suc l) deep few fit s t c clear =
        let a = front (behind c) in
        let m = split (fields_nodes fs + additions_nodes more) 0 ts (sign CloseBrace ∷ []) (omega arith) a.1 in
        let e = sole m.right in
        let s2 = bump (bump (less s)) in
        let all = fields_given d l most (omega arith) (omega arith) (omega arith) (omega arith) (λ x. fit (inl x)) (λ x. fit (inr (inl x))) (λ x. fit (inr (inr x))) [] (before s2) m.middle (before_comes m.left) e.0 in
        word_step tw.Sequence l (fields_nodes fs + additions_nodes more) s t _ (extensible_sequence fs more) c (sequence_at_word (type_at known l) (bump (less s))
        ∙ sequence_given (type_at known l) (made true (fields_list fs) (additions_list more)) (bump (less s)) m.middle t a.0 (body_same (type_at known l) s2 m.middle d m.left ∙ all) e.0 e.1
        ∙ ap₂ (λ fs more. Ok (extensible_sequence fs more, t)) (fields_back fs) (additions_back more))
    type_given (sequence_of_type {size} {T} {ts} {us} z d) (suc l) deep few fit s t c clear =
        let b = behind c in
        let m = split 0 (type_nodes T) ts (word (codes "OF") ∷ us) (omega arith) b in
        let a = front m.right in
        let read = type_given d l (omega arith) (omega arith) (λ x. fit (inr x)) (bump m.middle) t a.1 clear in
        let plain = size_clear z (bump (less s)) m.middle m.left a.0 in
        word_step tw.Sequence l (type_nodes T) s t _ (sequence_of size T) c (sequence_at_word (type_at known l) (bump (less s))
        ∙ list_given (type_at known l) size T (bump (less s)) m.middle t plain (list_size_given z (bump (less s)) m.middle m.left a.0) a.0 read)
    type_given (choice_type {tagged} {marker} {more} {w} {ts} d) (suc l) deep few fit s t c clear =
        let a = front (behind c) in
        let m = split (alternatives_nodes more) 0 (word w ∷ ts) (sign CloseBrace ∷ []) (omega arith) a.1 in
        let e = sole m.right in
        let s2 = bump (bump (less s)) in
        let all = alternatives_given d l most (omega arith) (omega arith) (omega arith) (λ x. fit (inr x)) [] (before s2) m.middle (before_comes m.left) e.0 in
        word_step tw.Choice l (alternatives_nodes more) s t _ (choice marker more) c (choice_at_word (type_at known l) (bump (less s))
        ∙ choice_given (type_at known l) tagged (chosen_from marker (root_list more) (later_list more)) (bump (less s)) m.middle t a.0 (alternatives_flag s2 m.middle d m.left) all w (front m.left).0 e.0 e.1
        ∙ ap (λ T. Ok (T, t)) (alternatives_back more marker d))

    fields_given : {fs : Fields} {more : Option Additions} {ts : List Token} → AreComponents known fs more ts → (l n : ℕ) → fields_depth fs ≤ l → added_depth more ≤ l → fields_nodes fs + added_nodes more ≤ n → fields_nodes fs + added_nodes more ≤ 65535
        → (AnyMisfit fs → ⊥) → (InFields HasMisfit fs → ⊥) → AddedFit more → (found : List SeenField) (s t : State) → Comes s t (fields_nodes fs + added_nodes more) ts → first t ≡ Some (sign CloseBrace)
        → go_on (components_more (type_at known l) n) (made (past_marker false s).0 found []) (past_marker false s).1 ≡ Ok (made (is_extended more) (found ++ fields_list fs) (added_list more), t)
    fields_given none_there l n deep deeper many few here inside added found s t c e =
        let go = components_more (type_at known l) n in
        ap (λ s. go_on go (made (past_marker false s).0 found []) (past_marker false s).1) (done (recount (omega arith) c)) ∙ ap (λ q. go_on go (made q.0 found []) q.1) (pass_end t e)
        ∙ go_end go (made false found []) t e ∙ ap (λ x. Ok (made false x [], t)) (sym (append-nil found))
    fields_given (components_marker {more} {us} m) l n deep deeper many few here inside added found s t c e =
        let go = components_more (type_at known l) n in
        let a = front c in
        let b = front a.1 in
        ap (λ q. go_on go (made q.0 found []) q.1) (pass_dots s a.0 b.0) ∙ additions_given m l n deeper (omega arith) (omega arith) added found [] (bump (bump s)) t (recount (omega arith) b.1) e
        ∙ ap (λ x. Ok (made true x (additions_list more), t)) (sym (append-nil found))
    fields_given (component {T = T} i d k m) l zero deep deeper many few here inside added found s t c e = let x = some_node T in absurd (omega arith)
    fields_given (component {w} {T} {need} {fs} {more} {ts} {us} {vs} i d k m) l (suc n) deep deeper many few here inside added found s t c e =
        let go = components_more (type_at known l) (suc n) in
        let x : SeenField = record { name = w; need = need; type = T } in
        let some = some_node T in
        let a = front c in
        let b = front a.1 in
        let p = three (type_nodes T) 0 (fields_nodes fs + added_nodes more) ts us vs (omega arith) b.1 in
        let f = follows (components_commas m) p.third e in
        let y = need_given k (λ z. here (inl z)) p.one p.two p.second f in
        let z = type_given d l (omega arith) (omega arith) (λ z. inside (inl z)) (bump (bump s)) p.one p.first (need_clear k p.one p.two p.second f) in
        let r = field_given (type_at known l) T need (bump s) p.one p.two i b.0 z y in
        ap (λ q. go_on go (made q.0 found []) q.1) (pass_comma s w a.0 b.0) ∙ go_more go (made false found []) s a.0 ∙ fields_step (type_at known l) n found (bump s) p.two x r
        ∙ fields_given m l n (omega arith) deeper (omega arith) (omega arith) (λ z. here (inr z)) (λ z. inside (inr z)) added (found ++ x ∷ []) p.two t p.third e
        ∙ ap (λ y. Ok (made (is_extended more) y (added_list more), t)) (append_assoc found (x ∷ []) (fields_list fs))

    additions_given : {more : Additions} {ts : List Token} → AreAdditions known more ts → (l n : ℕ) → additions_depth more ≤ l → additions_nodes more ≤ n → additions_nodes more ≤ 65535 → (InAdditions HasMisfit more → ⊥)
        → (fs : List SeenField) (found : List SeenAddition) (s t : State) → Comes s t (additions_nodes more) ts → first t ≡ Some (sign CloseBrace)
        → go_on (components_more (type_at known l) n) (made true fs found) s ≡ Ok (made true fs (found ++ additions_list more), t)
    additions_given none_added l n deep many few inside fs found s t c e =
        let go = components_more (type_at known l) n in
        ap (go_on go (made true fs found)) (done c) ∙ go_end go (made true fs found) t e ∙ ap (λ x. Ok (made true fs x, t)) (sym (append-nil found))
    additions_given (an_addition {T = T} i d o m) l zero deep many few inside fs found s t c e = let x = some_node T in absurd (omega arith)
    additions_given (an_addition {w} {T} {more} {ts} {us} {vs} i d o m) l (suc n) deep many few inside fs found s t c e =
        let go = components_more (type_at known l) (suc n) in
        let x : SeenAddition = record { name = w; type = T } in
        let some = some_node T in
        let a = front c in
        let b = front a.1 in
        let p = three (type_nodes T) 0 (additions_nodes more) ts us vs (omega arith) b.1 in
        let f = follows (additions_commas m) p.third e in
        let z = type_given d l (omega arith) (omega arith) (λ z. inside (inl z)) (bump (bump s)) p.one p.first (optional_clear o p.one p.two p.second f) in
        let r = addition_given (type_at known l) T (bump s) p.one p.two i b.0 z (optional_given o p.one p.two p.second f) in
        go_more go (made true fs found) s a.0 ∙ additions_step (type_at known l) n fs found (bump s) p.two x r
        ∙ additions_given m l n (omega arith) (omega arith) (omega arith) (λ z. inside (inr z)) fs (found ++ x ∷ []) p.two t p.third e
        ∙ ap (λ y. Ok (made true fs y, t)) (append_assoc found (x ∷ []) (additions_list more))

    alternatives_given : {tagged : Bool} {place : ℕ} {more : Alternatives} {marker : Bool} {ts : List Token} → AreAlternatives known tagged place more marker ts → (l n : ℕ) → alternatives_depth more ≤ l → alternatives_nodes more ≤ n
        → alternatives_nodes more ≤ 65535 → (InAlternatives HasMisfit more → ⊥) → (found : List SeenAlternative) (s t : State) → Comes s t (alternatives_nodes more) ts → first t ≡ Some (sign CloseBrace)
        → go_on (alternatives_more (type_at known l) tagged n place) (chosen_from (past_marker false s).0 found []) (past_marker false s).1 ≡ Ok (chosen_from marker (found ++ root_list more) (later_list more), t)
    alternatives_given (none_left {tagged} {place}) l n deep many few inside found s t c e =
        let go = alternatives_more (type_at known l) tagged n place in
        ap (λ s. go_on go (chosen_from (past_marker false s).0 found []) (past_marker false s).1) (done c) ∙ ap (λ q. go_on go (chosen_from q.0 found []) q.1) (pass_end t e)
        ∙ go_end go (chosen_from false found []) t e ∙ ap (λ x. Ok (chosen_from false x [], t)) (sym (append-nil found))
    alternatives_given (alternatives_marker {tagged} {place} {more} {us} m) l n deep many few inside found s t c e =
        let go = alternatives_more (type_at known l) tagged n place in
        let a = front c in
        let b = front a.1 in
        ap (λ q. go_on go (chosen_from q.0 found []) q.1) (pass_dots s a.0 b.0) ∙ later_given m l n deep many few inside found [] (bump (bump s)) t b.1 e
        ∙ ap (λ x. Ok (chosen_from true x (later_list more), t)) (sym (append-nil found) ∙ ap (λ x. found ++ x) (sym (later_root m)))
    alternatives_given (an_alternative {T = T} i g d m) l zero deep many few inside found s t c e = let x = some_node T in absurd (omega arith)
    alternatives_given (an_alternative {tagged} {place} {w} {t = tag} {T} {more} {marker} {ts} {us} {vs} i g d m) l (suc n) deep many few inside found s t c e =
        let go = alternatives_more (type_at known l) tagged (suc n) place in
        let x : SeenAlternative = record { name = w; tag = tag; type = T } in
        let some = some_node T in
        let a = front c in
        let b = front a.1 in
        let p = three 0 (type_nodes T) (alternatives_nodes more) ts us vs (omega arith) b.1 in
        let f = follows (alternatives_commas m) p.third e in
        let q = type_first d in
        let begun = (front (subst (Comes p.one p.two (type_nodes T)) q.2 p.second)).0 in
        let z = type_given d l (omega arith) (omega arith) (λ z. inside (inl z)) p.one p.two p.second (no_sign OpenParenthesis p.two refl refl f) in
        let r = alternative_given (type_at known l) tagged place tag T (bump s) p.one p.two i b.0 (tagged_given g (bump (bump s)) p.one p.first q.0 begun) z in
        ap (λ q. go_on go (chosen_from q.0 found []) q.1) (pass_comma s w a.0 b.0) ∙ go_more go (chosen_from false found []) s a.0 ∙ alternatives_step (type_at known l) tagged n place found (bump s) p.two x r
        ∙ alternatives_given m l n (omega arith) (omega arith) (omega arith) (λ z. inside (inr z)) (found ++ x ∷ []) p.two t p.third e
        ∙ ap (λ y. Ok (chosen_from marker y (later_list more), t)) (append_assoc found (x ∷ []) (root_list more))

    later_given : {tagged : Bool} {place : ℕ} {more : Alternatives} {ts : List Token} → AreLater known tagged place more ts → (l n : ℕ) → alternatives_depth more ≤ l → alternatives_nodes more ≤ n
        → alternatives_nodes more ≤ 65535 → (InAlternatives HasMisfit more → ⊥) → (root found : List SeenAlternative) (s t : State) → Comes s t (alternatives_nodes more) ts → first t ≡ Some (sign CloseBrace)
        → go_on (alternatives_more (type_at known l) tagged n place) (chosen_from true root found) s ≡ Ok (chosen_from true root (found ++ later_list more), t)
    later_given (none_later {tagged} {place}) l n deep many few inside root found s t c e =
        let go = alternatives_more (type_at known l) tagged n place in
        ap (go_on go (chosen_from true root found)) (done c) ∙ go_end go (chosen_from true root found) t e ∙ ap (λ x. Ok (chosen_from true root x, t)) (sym (append-nil found))
    later_given (a_later {T = T} i g d m) l zero deep many few inside root found s t c e = let x = some_node T in absurd (omega arith)
    later_given (a_later {tagged} {place} {w} {t = tag} {T} {more} {ts} {us} {vs} i g d m) l (suc n) deep many few inside root found s t c e =
        let go = alternatives_more (type_at known l) tagged (suc n) place in
        let x : SeenAlternative = record { name = w; tag = tag; type = T } in
        let some = some_node T in
        let a = front c in
        let b = front a.1 in
        let p = three 0 (type_nodes T) (alternatives_nodes more) ts us vs (omega arith) b.1 in
        let f = follows (later_commas m) p.third e in
        let q = type_first d in
        let begun = (front (subst (Comes p.one p.two (type_nodes T)) q.2 p.second)).0 in
        let z = type_given d l (omega arith) (omega arith) (λ z. inside (inl z)) p.one p.two p.second (no_sign OpenParenthesis p.two refl refl f) in
        let r = alternative_given (type_at known l) tagged place tag T (bump s) p.one p.two i b.0 (tagged_given g (bump (bump s)) p.one p.first q.0 begun) z in
        go_more go (chosen_from true root found) s a.0 ∙ later_step (type_at known l) tagged n place root found (bump s) p.two x r
        ∙ later_given m l n (omega arith) (omega arith) (omega arith) (λ z. inside (inr z)) root (found ++ x ∷ []) p.two t p.third e
        ∙ ap (λ y. Ok (chosen_from true root y, t)) (append_assoc found (x ∷ []) (later_list more))
