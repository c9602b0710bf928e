-- Types that are read are spelled so.
use Rattle.std.proofs.Common.{◌≡◌, ℕ, zero, suc, List, [], ◌∷◌, ◌++◌, take, length, Bool, true, false, not, ◌&&◌, inl, inr, Option, Some, None, Ok, refl, sym, ap, subst, ◌∙◌, arith}
use Rattle.std.proofs.lemmas.Bool.{and_parts}
use Rattle.std.specs.Str.{bytes_eq}
use Rattle.oer_module_lexer.specs.Token.{Token, word, field, number, real, bits, digits, text, sign, Spot}
use Rattle.oer_module_lexer.specs.declared.token.Sign.{Sign}
use Rattle.oer_module_lexer.specs.declared.token.Sign.TheVariants.{OpenBrace, CloseBrace, OpenParenthesis, OpenBracket, CloseBracket, OpenGroup, CloseGroup, Less, Comma, Point, Ellipsis, Colon}
use Rattle.oer_module_syntax.specs.Grammar.{◌▹◌, Nothing, Each, Listed, ASign, WordAt, NameAt, AName, InParentheses, Constraints as AreConstraints, BeginsAt, BeginsInBracket, SecondWord, Items, HasElements, TagMode, TagAt, Size, ItemName, IsNeed, Version, NamesType, SpelledType, SpelledElement, SpelledElements, MoreElements, MaybeElements, ANumber}
use Rattle.oer_module_syntax.specs.Looks.{at_any_defined, at_field_step, begins_type, is_field}
use Rattle.oer_module_syntax.specs.Matched.{bracket}
use Rattle.oer_module_syntax.specs.Ranges.{pairs_len, group_at, groups_len, constraints_at, value_at, exception_at, starts_sign}
use Rattle.oer_module_syntax.specs.State.{State, Read, first, first_of, place, place_among, bump, past, is_sign, at_sign, at_keyword, skip_sign, skip_keyword, identifier_at}
use Rattle.oer_module_syntax.specs.Tree.{Tree, Element, Need, must, may, default, plain, named, tagged, structure, list_of, selection, instance_of, any_defined_by, marker, group, components_of, component, elements_from}
use Rattle.oer_module_syntax.specs.Types.{form_of, skip_second, items_at, plain_at, named_at, is_class, class_by, class_at, instance_at, any_defined_at, mode_at, need_at, is_number, version_at, size_at, item_name_by, item_name_at, marker_at, component_at, components_of_at, member_at, members_at, element_at, one_at, braces_at, structure_at, list_at, sequence_at, choice_at, tagged_at, formed_at, selection_at, small_at, unbuilt_at, worded_at, begun_at, any_type_at, type_at, listed}
use Rattle.oer_module_syntax.specs.Words.{builtin_first, builtin_second, builtin_among, builtin_of, builtins, is_identifier}
use Rattle.oer_module_syntax.specs.declared.range.Extent.TheVariants.{Constraints}
use Rattle.oer_module_syntax.specs.declared.range.Pair.TheVariants.{Step}
use Rattle.oer_module_syntax.specs.declared.tree.Mode.{Mode}
use Rattle.oer_module_syntax.specs.declared.tree.Mode.TheVariants.{Unsaid, Implicit, Explicit}
use Rattle.oer_module_syntax.specs.declared.types.Form.{Form}
use Rattle.oer_module_syntax.specs.declared.types.Form.TheVariants as form
use Rattle.oer_module_syntax.specs.declared.word.Builtin.{Builtin}
use Rattle.oer_module_syntax.specs.declared.word.Keyword.{Keyword}
use Rattle.oer_module_syntax.specs.declared.word.Keyword.TheVariants as kw
use Rattle.oer_module_syntax.proofs.Groups.{in_parentheses}
use Rattle.oer_module_syntax.proofs.Matching.{bind_ok, chosen}
use Rattle.oer_module_syntax.proofs.SoundValues.{value_took, exception_took}
use Rattle.oer_module_syntax.proofs.Took.{Took, ◌▸◌, stay, turned, answered, same_ok, take_first, same_bytes, sign_took, sign_took_at, word_took, keyword_took, keyword_took_at, skip_sign_took, skip_keyword_took, name_took, identifier_took, kept_took, group_took_here, braces_took, braced_took, listed_took, path_took, field_first}

-- ---- what is kept

pub constraints_took : (s : State) (r : List Spot × State) → constraints_at s ≡ Ok r → Took s r.1 (AreConstraints r.0)
unfolding constraints_at
constraints_took s r h =
    let n = bind_ok (groups_len Constraints s s.left []) _ r h in
    let e = ap (λ x. x.0) (same_ok (take n.0 s.left, past n.0 s) r n.2) in
    turned (AreConstraints r.0) (kept_took n.0 s r n.2)
    (λ a i. (i, subst InParentheses (e ∙ sym i) (in_parentheses s (length s.left) s.left n.0 (omega arith) n.1)))

-- ---- types that hold no other

second_took : (k : Option Keyword) (s : State) (r : Unit {0} × State) → skip_second k s ≡ Ok r → Took s r.1 (SecondWord k)
second_took None s r h = answered (λ u. Nothing) (tt, s) r h (stay s Nothing refl)
second_took (Some k) s r h = skip_keyword_took k s r h

-- of a form that holds no type
abbrev IsPlain : Form → Type 0
IsPlain form.Components = ⊥
IsPlain form.Alternatives = ⊥
IsPlain _ = Unit {0}

items_took : (f : Form) (s : State) (r : List Spot × State) → IsPlain f → items_at f s ≡ Ok r → Took s r.1 (Items f r.0)
items_took form.Components s r p h = absurd p
items_took form.Alternatives s r p h = absurd p
items_took form.Items s r p h = braced_took s r h
items_took form.MaybeItems s r p h = braces_took s r h
items_took form.Nothing s r p h = answered (Items form.Nothing) ([], s) r h (stay s (Items form.Nothing []) (refl, refl))

-- behind the first word
plain_took : (at : ℕ) (b : Builtin) (s t : State) (r : Tree × State) → IsPlain (form_of b) → Took s t (WordAt at (builtin_first b)) → plain_at at b t ≡ Ok r → Took s r.1 (SpelledType r.0)
unfolding plain_at
plain_took at b s t r f w h =
    let words = bind_ok (skip_second (builtin_second b) t) _ r h in
    let items = bind_ok (items_at (form_of b) words.0.1) _ r words.2 in
    let rest = bind_ok (constraints_at items.0.1) _ r items.2 in
    answered SpelledType (plain at b items.0.0 rest.0.0, rest.0.1) r rest.2
    ((w ▸ second_took (builtin_second b) t words.0 words.1) ▸ items_took (form_of b) words.0.1 items.0 f items.1 ▸ constraints_took items.0.1 rest.0 rest.1)

named_took : (w : List ℕ) (s : State) (r : Tree × State) → first s ≡ Some (word w)
    → NamesType w (take (pairs_len Step (bump s).left) (bump s).left) → named_at w s ≡ Ok r → Took s r.1 (SpelledType r.0)
unfolding named_at
named_took w s r e n h =
    let path = take (pairs_len Step (bump s).left) (bump s).left in
    let behind = past (pairs_len Step (bump s).left) (bump s) in
    let parameters = bind_ok (group_at OpenBrace behind) _ r h in
    let rest = bind_ok (constraints_at parameters.0.1) _ r parameters.2 in
    let T = named (place s) w path parameters.0.0 rest.0.0 in
    answered SpelledType (T, rest.0.1) r rest.2
    (turned (SpelledType T) (word_took w s e ▸ path_took (bump s) ▸ braces_took behind parameters.0 parameters.1 ▸ constraints_took parameters.0.1 rest.0 rest.1) (λ a x. (n, x)))

class_by_took : (o : Option Token) (s : State) (r : List ℕ × State) → first s ≡ o → class_by o s ≡ Ok r → Took s r.1 (AName is_class r.0)
class_by_took None s r e h = absurd (cc)
class_by_took (Some (word w)) s r e h = elim (chosen (is_class w) _ _ _ h) [
  | inl p ↦ answered (AName is_class) (w, bump s) r p.1 (turned (AName is_class w) (name_took is_class w s e p.0) (λ a x. (place s, x)))
  | inr p ↦ absurd (cc)
]
class_by_took (Some (field w)) s r e h = absurd (cc)
class_by_took (Some (number w)) s r e h = absurd (cc)
class_by_took (Some (real w)) s r e h = absurd (cc)
class_by_took (Some (bits w)) s r e h = absurd (cc)
class_by_took (Some (digits w)) s r e h = absurd (cc)
class_by_took (Some (text w)) s r e h = absurd (cc)
class_by_took (Some (sign u)) s r e h = absurd (cc)

class_took : (s : State) (r : List ℕ × State) → class_at s ≡ Ok r → Took s r.1 (AName is_class r.0)
unfolding class_at
class_took s r h = class_by_took (first s) s r refl h

instance_took : (s : State) (r : Tree × State) → at_keyword kw.Instance s ≡ true → instance_at s ≡ Ok r → Took s r.1 (SpelledType r.0)
unfolding instance_at
instance_took s r k h =
    let of = bind_ok (skip_keyword kw.Of (bump s)) _ r h in
    let class = bind_ok (class_at of.0.1) _ r of.2 in
    let path = take (pairs_len Step class.0.1.left) class.0.1.left in
    let behind = past (pairs_len Step class.0.1.left) class.0.1 in
    let rest = bind_ok (constraints_at behind) _ r class.2 in
    answered SpelledType (instance_of (place s) class.0.0 path rest.0.0, rest.0.1) r rest.2
    (keyword_took_at kw.Instance s k ▸ skip_keyword_took kw.Of (bump s) of.0 of.1 ▸ class_took of.0.1 class.0 class.1 ▸ path_took class.0.1
    ▸ constraints_took behind rest.0 rest.1)

any_name : {s t : State} (allows : List ℕ → Bool) (at : ℕ) (w : List ℕ) → Took s t (NameAt allows at w) → Took s t (AName allows w)
any_name allows at w t = turned (AName allows w) t (λ a x. (at, x))

any_defined_took : (s : State) (r : Tree × State) → at_any_defined s ≡ true → any_defined_at s ≡ Ok r → Took s r.1 (SpelledType r.0)
unfolding any_defined_at
any_defined_took s r k h =
    let by = and_parts (at_keyword kw.Any s && at_keyword kw.Defined (bump s)) (at_keyword kw.By (bump (bump s))) k in
    let any = and_parts (at_keyword kw.Any s) (at_keyword kw.Defined (bump s)) by.0 in
    let name = bind_ok (identifier_at (bump (bump (bump s)))) _ r h in
    let i = any_name is_identifier (place (bump (bump (bump s)))) name.0.0 (identifier_took (bump (bump (bump s))) name.0 name.1) in
    answered SpelledType (any_defined_by (place s) name.0.0, name.0.1) r name.2
    (keyword_took_at kw.Any s any.0 ▸ keyword_took kw.Defined (bump s) any.1 ▸ keyword_took kw.By (bump (bump s)) by.1 ▸ i)

mode_took : (s : State) → Took s (mode_at s).1 (TagMode (mode_at s).0)
mode_took s = elim (chosen {A = Mode × State} (at_keyword kw.Implicit s) (Implicit, bump s) _ (mode_at s) refl) [
  | inl p ↦ shown (Implicit, bump s) p.1 (keyword_took kw.Implicit s p.0)
  | inr p ↦ elim (chosen {A = Mode × State} (at_keyword kw.Explicit s) (Explicit, bump s) (Unsaid, s) (mode_at s) p.1) [
    | inl p ↦ shown (Explicit, bump s) p.1 (keyword_took kw.Explicit s p.0)
    | inr p ↦ shown (Unsaid, s) p.1 (stay s Nothing refl)
  ]
]
  where
    shown : (c : Mode × State) → c ≡ mode_at s → Took s c.1 (TagMode c.0) → Took s (mode_at s).1 (TagMode (mode_at s).0)
    shown c e t = subst (λ c. Took s c.1 (TagMode c.0)) e t

-- ---- parts of components

need_took : (alternatives : Bool) (s : State) (r : Need × State) → need_at alternatives s ≡ Ok r → Took s r.1 (IsNeed alternatives r.0)
unfolding need_at
need_took alternatives s r h = elim (chosen alternatives _ _ _ h) [
  | inl p ↦ answered (IsNeed alternatives) (must, s) r p.1 (stay s (IsNeed alternatives must) refl)
  | inr a ↦ elim (chosen (at_keyword kw.Optional s) _ _ _ a.1) [
    | inl p ↦ answered (IsNeed alternatives) (may, bump s) r p.1 (turned (IsNeed alternatives may) (keyword_took kw.Optional s p.0) (λ b e. (a.0, e)))
    | inr p ↦ elim (chosen (at_keyword kw.Default s) _ _ _ p.1) [
      | inl p ↦ (
          let v = bind_ok (value_at (bump s)) _ r p.1 in
          answered (IsNeed alternatives) (default v.0.0, v.0.1) r v.2
          (turned (IsNeed alternatives (default v.0.0)) (keyword_took kw.Default s p.0 ▸ value_took (bump s) v.0 v.1) (λ b e. (a.0, e))))
      | inr p ↦ answered (IsNeed alternatives) (must, s) r p.1 (stay s (IsNeed alternatives must) refl)
    ]
  ]
]

number_first : (o : Option Token) → is_number o ≡ true → (w : List ℕ) × (o ≡ Some (number w))
number_first None h = absurd (cc)
number_first (Some (number w)) h = (w, refl)
number_first (Some (word w)) h = absurd (cc)
number_first (Some (field w)) h = absurd (cc)
number_first (Some (real w)) h = absurd (cc)
number_first (Some (bits w)) h = absurd (cc)
number_first (Some (digits w)) h = absurd (cc)
number_first (Some (text w)) h = absurd (cc)
number_first (Some (sign g)) h = absurd (cc)

version_took : (s : State) (r : Unit {0} × State) → version_at s ≡ Ok r → Took s r.1 Version
unfolding version_at
version_took s r h = elim (chosen (is_number (first s)) _ _ _ h) [
  | inl p ↦ (
      let n = number_first (first s) p.0 in
      let t = turned ANumber (take_first s (number n.0) n.1) (λ a e. (place s, n.0, e)) in
      turned Version (t ▸ skip_sign_took Colon (bump s) r p.1) (λ a e. inr e))
  | inr p ↦ answered (λ u. Version) (tt, s) r p.1 (stay s Version (inl refl))
]

size_took : (sized : Bool) (s : State) (r : List Spot × State) → size_at sized s ≡ Ok r → Took s r.1 (AreConstraints r.0)
unfolding size_at
size_took sized s r h = elim (chosen (sized && not (at_sign OpenParenthesis s)) _ _ _ h) [
  | inl p ↦ absurd (cc)
  | inr p ↦ constraints_took s r p.1
]

item_name_by_took : (o : Option Token) (s : State) → first s ≡ o → Took s (item_name_by o s).1 (ItemName (item_name_by o s).0)
item_name_by_took None s e = stay s Nothing refl
item_name_by_took (Some (word w)) s e = elim (chosen {A = Option (List ℕ) × State} (is_identifier w && not (begins_type s)) (Some w, bump s) (None, s) (item_name_by (Some (word w)) s) refl) [
  | inl p ↦ (
      let i = and_parts (is_identifier w) (not (begins_type s)) p.0 in
      subst (λ c. Took s c.1 (ItemName c.0)) p.1 (any_name is_identifier (place s) w (name_took is_identifier w s e i.0)))
  | inr p ↦ subst (λ c. Took s c.1 (ItemName c.0)) p.1 (stay s Nothing refl)
]
item_name_by_took (Some (field w)) s e = stay s Nothing refl
item_name_by_took (Some (number w)) s e = stay s Nothing refl
item_name_by_took (Some (real w)) s e = stay s Nothing refl
item_name_by_took (Some (bits w)) s e = stay s Nothing refl
item_name_by_took (Some (digits w)) s e = stay s Nothing refl
item_name_by_took (Some (text w)) s e = stay s Nothing refl
item_name_by_took (Some (sign g)) s e = stay s Nothing refl

item_name_took : (s : State) → Took s (item_name_at s).1 (ItemName (item_name_at s).0)
item_name_took s = item_name_by_took (first s) s refl

marker_took : (alternatives : Bool) (s : State) (r : Element × State) → at_sign Ellipsis s ≡ true → marker_at s ≡ Ok r → Took s r.1 (SpelledElement alternatives false r.0)
unfolding marker_at
marker_took alternatives s r k h =
    let x = bind_ok (exception_at (bump s)) _ r h in
    let e = marker (place s) x.0.0 in
    answered (SpelledElement alternatives false) (e, x.0.1) r x.2
    (turned (SpelledElement alternatives false e) (sign_took_at Ellipsis s k ▸ exception_took (bump s) x.0 x.1) (λ a i. (refl, i)))

-- ---- lists of elements

module _ (alternatives grouped : Bool) where
  more_spelled : (es : List Element) (ts : List Spot) → Each (λ e. ASign Comma ▹ SpelledElement alternatives grouped e) es ts → MoreElements alternatives grouped (elements_from es) ts
  more_spelled [] ts h = h
  more_spelled (e ∷ es) ts h = record { front = h.front; behind = h.behind; is = h.is; first = h.first; last = more_spelled es h.behind h.last }

  elements_spelled : (es : List Element) (ts : List Spot) → Listed (SpelledElement alternatives grouped) es ts → SpelledElements alternatives grouped (elements_from es) ts
  elements_spelled [] ts h = absurd h
  elements_spelled (e ∷ es) ts h = record { front = h.front; behind = h.behind; is = h.is; first = h.first; last = more_spelled es h.behind h.last }

maybe_spelled : (alternatives : Bool) (es : List Element) (ts : List Spot) → Listed (SpelledElement alternatives false) es ts → MaybeElements alternatives (elements_from es) ts
maybe_spelled alternatives [] ts h = absurd h
maybe_spelled alternatives (e ∷ es) ts h = elements_spelled alternatives false (e ∷ es) ts h

-- ---- words

among_is : (w : List ℕ) (l : List Builtin) (b : Builtin) → builtin_among w l ≡ Some b → w ≡ builtin_first b
among_is w [] b h = absurd (cc)
among_is w (k ∷ ks) b h = elim (chosen (bytes_eq w (builtin_first k)) _ _ _ h) [
  | inl p ↦ same_bytes w (builtin_first k) p.0 ∙ ap builtin_first (inside k b p.1)
  | inr p ↦ among_is w ks b p.1
]
  where
    inside : (k b : Builtin) → Some k ≡ Some b → k ≡ b
    inside k b e = cc

builtin_is : (w : List ℕ) (b : Builtin) → builtin_of w ≡ Some b → w ≡ builtin_first b
unfolding builtin_of
builtin_is w b h = among_is w builtins b h

begins : (g : Sign) (ts rest : List Spot) (s : State) → s.left ≡ ts ++ rest → BeginsInBracket ts → at_sign g s ≡ true → (starts_sign g ts ≡ true) × BeginsAt (place s) ts
begins g [] rest s e b h = absurd b
begins g (t ∷ ts) rest s e b h = (sym (ap (λ l. is_sign g (first_of l)) e) ∙ h, sym (ap (λ l. place_among l s.end) e))

-- ---- parts of types, where a type is read so

module _ (type : State → Read Tree) (sound : (s : State) (r : Tree × State) → type s ≡ Ok r → Took s r.1 (SpelledType r.0)) where
  component_took : (alternatives grouped : Bool) (s : State) (r : Element × State) → component_at type alternatives s ≡ Ok r → Took s r.1 (SpelledElement alternatives grouped r.0)
  unfolding component_at
  component_took alternatives grouped s r h =
      let name = bind_ok (identifier_at s) _ r h in
      let t = bind_ok (type name.0.1) _ r name.2 in
      let need = bind_ok (need_at alternatives t.0.1) _ r t.2 in
      answered (SpelledElement alternatives grouped) (component (place s) name.0.0 t.0.0 need.0.0, need.0.1) r need.2
      (identifier_took s name.0 name.1 ▸ sound name.0.1 t.0 t.1 ▸ need_took alternatives t.0.1 need.0 need.1)

  components_of_took : (alternatives grouped : Bool) (s : State) (r : Element × State) → alternatives ≡ false → at_keyword kw.Components s ≡ true
      → components_of_at type s ≡ Ok r → Took s r.1 (SpelledElement alternatives grouped r.0)
  unfolding components_of_at
  components_of_took alternatives grouped s r a k h =
      let of = bind_ok (skip_keyword kw.Of (bump s)) _ r h in
      let t = bind_ok (type of.0.1) _ r of.2 in
      let e = components_of (place s) t.0.0 in
      answered (SpelledElement alternatives grouped) (e, t.0.1) r t.2
      (turned (SpelledElement alternatives grouped e) (keyword_took_at kw.Components s k ▸ skip_keyword_took kw.Of (bump s) of.0 of.1 ▸ sound of.0.1 t.0 t.1) (λ b i. (a, i)))

  member_took : (alternatives grouped : Bool) (s : State) (r : Element × State) → member_at type alternatives s ≡ Ok r → Took s r.1 (SpelledElement alternatives grouped r.0)
  unfolding member_at
  member_took alternatives grouped s r h = elim (chosen (not alternatives && at_keyword kw.Components s) _ _ _ h) [
    | inl p ↦ (
        let both = and_parts (not alternatives) (at_keyword kw.Components s) p.0 in
        components_of_took alternatives grouped s r (not_false alternatives both.0) both.1 p.1)
    | inr p ↦ component_took alternatives grouped s r p.1
  ]
    where
      not_false : (b : Bool) → not b ≡ true → b ≡ false
      not_false true h = absurd (cc)
      not_false false h = refl

  members_took : (alternatives : Bool) (s : State) (r : Element × State) → at_sign OpenGroup s ≡ true → members_at type (place s) alternatives (bump s) ≡ Ok r
      → Took s r.1 (SpelledElement alternatives false r.0)
  unfolding members_at
  members_took alternatives s r k h =
      let version = bind_ok (version_at (bump s)) _ r h in
      let found = bind_ok (listed (member_at type alternatives) version.0.1) _ r version.2 in
      let over = bind_ok (skip_sign CloseGroup found.0.1) _ r found.2 in
      let e = group (place s) (elements_from found.0.0) in
      let l = listed_took (SpelledElement alternatives true) (member_at type alternatives) (member_took alternatives true) version.0.1 found.0 found.1 in
      let es = turned (SpelledElements alternatives true (elements_from found.0.0)) l (λ a i. elements_spelled alternatives true found.0.0 a i) in
      answered (SpelledElement alternatives false) (e, over.0.1) r over.2
      (turned (SpelledElement alternatives false e) (sign_took_at OpenGroup s k ▸ version_took (bump s) version.0 version.1 ▸ es ▸ skip_sign_took CloseGroup found.0.1 over.0 over.1)
      (λ a i. (refl, i)))

  element_took : (alternatives : Bool) (s : State) (r : Element × State) → element_at type alternatives s ≡ Ok r → Took s r.1 (SpelledElement alternatives false r.0)
  unfolding element_at
  element_took alternatives s r h = elim (chosen (at_sign Ellipsis s) _ _ _ h) [
    | inl p ↦ marker_took alternatives s r p.0 p.1
    | inr p ↦ elim (chosen (at_sign OpenGroup s) _ _ _ p.1) [
      | inl p ↦ members_took alternatives s r p.0 p.1
      | inr p ↦ member_took alternatives false s r p.1
    ]
  ]

  elements_took : (alternatives : Bool) (s : State) (r : List Element × State) → braces_at type alternatives s ≡ Ok r → Took s r.1 (MaybeElements alternatives (elements_from r.0))
  unfolding braces_at
  elements_took alternatives s r h = elim (chosen (at_sign CloseBrace s) _ _ _ h) [
    | inl p ↦ answered (λ es. MaybeElements alternatives (elements_from es)) ([], s) r p.1 (stay s Nothing refl)
    | inr p ↦ (
        let l = listed_took (SpelledElement alternatives false) (one_at type false alternatives) (element_took alternatives) s r p.1 in
        turned (MaybeElements alternatives (elements_from r.0)) l (λ a i. maybe_spelled alternatives r.0 a i))
  ]

  structure_took : (at : ℕ) (b : Builtin) (alternatives : Bool) (s t u : State) (r : Tree × State) → HasElements (form_of b) alternatives
      → Took s t (WordAt at (builtin_first b)) → Took t u (ASign OpenBrace) → structure_at type at b alternatives u ≡ Ok r → Took s r.1 (SpelledType r.0)
  unfolding structure_at
  structure_took at b alternatives s t u r f w o h =
      let found = bind_ok (braces_at type alternatives u) _ r h in
      let over = bind_ok (skip_sign CloseBrace found.0.1) _ r found.2 in
      let rest = bind_ok (constraints_at over.0.1) _ r over.2 in
      let T = structure at b (elements_from found.0.0) rest.0.0 in
      answered SpelledType (T, rest.0.1) r rest.2
      (turned (SpelledType T) (w ▸ o ▸ elements_took alternatives u found.0 found.1 ▸ skip_sign_took CloseBrace found.0.1 over.0 over.1 ▸ constraints_took over.0.1 rest.0 rest.1)
      (λ a i. (alternatives, f, i)))

  list_took : (at : ℕ) (b : Builtin) (sized : Bool) (s t u : State) (r : Tree × State) → form_of b ≡ form.Components → Took s t (WordAt at (builtin_first b))
      → ((x : List Spot × State) → size_at sized u ≡ Ok x → Took t x.1 (Size sized x.0)) → list_at type at b sized u ≡ Ok r → Took s r.1 (SpelledType r.0)
  unfolding list_at
  list_took at b sized s t u r f w z h =
      let size = bind_ok (size_at sized u) _ r h in
      let of = bind_ok (skip_keyword kw.Of size.0.1) _ r size.2 in
      let name = item_name_at of.0.1 in
      let item = bind_ok (type name.1) _ r of.2 in
      let T = list_of at b sized size.0.0 name.0 item.0.0 in
      answered SpelledType (T, item.0.1) r item.2
      (turned (SpelledType T) (w ▸ z size.0 size.1 ▸ skip_keyword_took kw.Of size.0.1 of.0 of.1 ▸ item_name_took of.0.1 ▸ sound name.1 item.0 item.1) (λ a i. (f, i)))

  sequence_took : (at : ℕ) (b : Builtin) (s t : State) (r : Tree × State) → form_of b ≡ form.Components → Took s t (WordAt at (builtin_first b))
      → sequence_at type at b t ≡ Ok r → Took s r.1 (SpelledType r.0)
  unfolding sequence_at
  sequence_took at b s t r f w h = elim (chosen (at_sign OpenBrace t) _ _ _ h) [
    | inl p ↦ structure_took at b false s t (bump t) r (subst (λ f. HasElements f false) (sym f) refl) w (sign_took OpenBrace t p.0) p.1
    | inr p ↦ elim (chosen (at_keyword kw.Size t) _ _ _ p.1) [
      | inl p ↦ list_took at b true s t (bump t) r f w (λ x e. keyword_took kw.Size t p.0 ▸ size_took true (bump t) x e) p.1
      | inr p ↦ list_took at b false s t t r f w (λ x e. size_took false t x e) p.1
    ]
  ]

  choice_took : (at : ℕ) (b : Builtin) (s t : State) (r : Tree × State) → form_of b ≡ form.Alternatives → Took s t (WordAt at (builtin_first b))
      → choice_at type at b t ≡ Ok r → Took s r.1 (SpelledType r.0)
  unfolding choice_at
  choice_took at b s t r f w h =
      let body = bind_ok (skip_sign OpenBrace t) _ r h in
      structure_took at b true s t body.0.1 r (subst (λ f. HasElements f true) (sym f) refl) w (skip_sign_took OpenBrace t body.0 body.1) body.2

  formed_took : (f : Form) (at : ℕ) (b : Builtin) (s t : State) (r : Tree × State) → form_of b ≡ f → Took s t (WordAt at (builtin_first b))
      → formed_at type f at b t ≡ Ok r → Took s r.1 (SpelledType r.0)
  formed_took form.Components at b s t r f w h = sequence_took at b s t r f w h
  formed_took form.Alternatives at b s t r f w h = choice_took at b s t r f w h
  formed_took form.Items at b s t r f w h = plain_took at b s t r (subst IsPlain (sym f) tt) w h
  formed_took form.MaybeItems at b s t r f w h = plain_took at b s t r (subst IsPlain (sym f) tt) w h
  formed_took form.Nothing at b s t r f w h = plain_took at b s t r (subst IsPlain (sym f) tt) w h

  tagged_took : (s : State) (r : Tree × State) → at_sign OpenBracket s ≡ true → tagged_at type s ≡ Ok r → Took s r.1 (SpelledType r.0)
  unfolding tagged_at
  tagged_took s r k h =
      let tag = bind_ok (group_at OpenBracket s) _ r h in
      let mode = mode_at tag.0.1 in
      let inner = bind_ok (type mode.1) _ r tag.2 in
      let g = group_took_here OpenBracket CloseBracket s tag.0 bracket k tag.1 in
      let b = begins OpenBracket g.used tag.0.1.left s g.is g.holds.1.opens k in
      let t : Took s tag.0.1 (TagAt (place s) tag.0.0) = record { used = g.used; is = g.is; stop = g.stop; holds = (g.holds.0, g.holds.1, b.0, b.1) } in
      answered SpelledType (tagged (place s) tag.0.0 mode.0 inner.0.0, inner.0.1) r inner.2 (t ▸ mode_took tag.0.1 ▸ sound mode.1 inner.0 inner.1)

  selection_took : (w : List ℕ) (s : State) (r : Tree × State) → first s ≡ Some (word w) → is_identifier w ≡ true → at_sign Less (bump s) ≡ true
      → selection_at type w s ≡ Ok r → Took s r.1 (SpelledType r.0)
  unfolding selection_at
  selection_took w s r e i k h =
      let t = bind_ok (type (bump (bump s))) _ r h in
      answered SpelledType (selection (place s) w t.0.0, t.0.1) r t.2 (name_took is_identifier w s e i ▸ sign_took Less (bump s) k ▸ sound (bump (bump s)) t.0 t.1)

  small_took : (w : List ℕ) (s : State) (r : Tree × State) → first s ≡ Some (word w) → is_identifier w ≡ true → small_at type w s ≡ Ok r → Took s r.1 (SpelledType r.0)
  unfolding small_at
  small_took w s r e i h = elim (chosen (at_sign Less (bump s)) _ _ _ h) [
    | inl p ↦ selection_took w s r e i p.0 p.1
    | inr p ↦ elim (chosen (at_field_step s) _ _ _ p.1) [
      | inl p ↦ (
          let step = and_parts (at_sign Point (bump s)) (is_field (first (bump (bump s)))) p.0 in
          let first = field_first (bump s).left step.0 step.1 in
          named_took w s r e (inr (i, first.0, first.1)) p.1)
      | inr p ↦ absurd (cc)
    ]
  ]

  unbuilt_took : (w : List ℕ) (s : State) (r : Tree × State) → first s ≡ Some (word w) → unbuilt_at type w s ≡ Ok r → Took s r.1 (SpelledType r.0)
  unfolding unbuilt_at
  unbuilt_took w s r e h = elim (chosen (at_keyword kw.Instance s) _ _ _ h) [
    | inl p ↦ instance_took s r p.0 p.1
    | inr p ↦ elim (chosen (at_any_defined s) _ _ _ p.1) [
      | inl p ↦ any_defined_took s r p.0 p.1
      | inr p ↦ elim (chosen (is_identifier w) _ _ _ p.1) [
        | inl p ↦ small_took w s r e p.0 p.1
        | inr p ↦ elim (chosen (is_class w) _ _ _ p.1) [
          | inl p ↦ named_took w s r e (inl p.0) p.1
          | inr p ↦ absurd (cc)
        ]
      ]
    ]
  ]

  worded_took : (o : Option Builtin) (w : List ℕ) (s : State) (r : Tree × State) → first s ≡ Some (word w) → builtin_of w ≡ o → worded_at type o w s ≡ Ok r → Took s r.1 (SpelledType r.0)
  worded_took None w s r e b h = unbuilt_took w s r e h
  worded_took (Some b) w s r e i h = formed_took (form_of b) (place s) b s (bump s) r refl (subst (λ v. Took s (bump s) (WordAt (place s) v)) (builtin_is w b i) (word_took w s e)) h

  begun_took : (o : Option Token) (s : State) (r : Tree × State) → first s ≡ o → begun_at type o s ≡ Ok r → Took s r.1 (SpelledType r.0)
  begun_took None s r e h = absurd (cc)
  begun_took (Some (word w)) s r e h = worded_took (builtin_of w) w s r e refl h
  begun_took (Some (field w)) s r e h = absurd (cc)
  begun_took (Some (number w)) s r e h = absurd (cc)
  begun_took (Some (real w)) s r e h = absurd (cc)
  begun_took (Some (bits w)) s r e h = absurd (cc)
  begun_took (Some (digits w)) s r e h = absurd (cc)
  begun_took (Some (text w)) s r e h = absurd (cc)
  begun_took (Some (sign g)) s r e h = absurd (cc)

  any_type_took : (s : State) (r : Tree × State) → any_type_at type s ≡ Ok r → Took s r.1 (SpelledType r.0)
  unfolding any_type_at
  any_type_took s r h = elim (chosen (at_sign OpenBracket s) _ _ _ h) [
    | inl p ↦ tagged_took s r p.0 p.1
    | inr p ↦ begun_took (first s) s r refl p.1
  ]

pub type_took : (levels : ℕ) (s : State) (r : Tree × State) → type_at levels s ≡ Ok r → Took s r.1 (SpelledType r.0)
unfolding type_at
type_took zero s r h = absurd (cc)
type_took (suc levels) s r h = any_type_took (type_at levels) (type_took levels) s r h

-- what stands between two commas, in a group or not
pub one_took : (levels : ℕ) (grouped alternatives : Bool) (s : State) (r : Element × State) → one_at (type_at levels) grouped alternatives s ≡ Ok r
    → Took s r.1 (SpelledElement alternatives grouped r.0)
one_took levels true alternatives s r h = member_took (type_at levels) (type_took levels) alternatives true s r h
one_took levels false alternatives s r h = element_took (type_at levels) (type_took levels) alternatives s r h
