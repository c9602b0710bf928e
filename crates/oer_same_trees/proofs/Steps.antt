-- What is read of the tokens of a type.
use Rattle.std.proofs.Common.{◌≡◌, ℕ, suc, List, [], ◌∷◌, ◌++◌, drop, Bool, true, false, None, Ok, refl, ap, ◌∙◌}
use Rattle.std.specs.Prelude.{codes}
use Rattle.std.specs.Str.{bytes_eq}
use Rattle.oer_lexer.specs.LeafWords.{behind_second, words_of}
use Rattle.oer_lexer.specs.Token as notation
use Rattle.oer_lexer.specs.declared.leaf.LeafWord.{LeafWord}
use Rattle.oer_lexer.specs.declared.leaf.LeafWord.TheVariants as leaf_word
use Rattle.oer_lexer.specs.declared.token.Sign.TheVariants as signs
use Rattle.oer_model.specs.AsnType.{AsnType}
use Rattle.oer_model.specs.LeafType.{LeafType}
use Rattle.oer_model.specs.declared.size.Size.{Size}
use Rattle.oer_module_lexer.specs.Token.{Token, Spot, word, sign}
use Rattle.oer_module_lexer.specs.declared.token.Sign.TheVariants.{OpenBrace, CloseBrace, OpenParenthesis, OpenBracket, CloseBracket, Comma, Exclamation, Ellipsis}
use Rattle.oer_module_syntax.specs.Ranges.{constraints_at, starts_sign, value_at}
use Rattle.oer_module_syntax.specs.State.{State, Read, first_of, is_word, at_keyword, skip_keyword, skip_sign, identifier_at}
use Rattle.oer_module_syntax.specs.Tree.{Tree, Element, Need, must, may, default, plain, named, tagged, structure, list_of, marker, component, elements_from}
use Rattle.oer_module_syntax.specs.Types.{any_type_at, braces_at, choice_at, component_at, element_at, form_of, item_name_at, items_at, list_at, listed as listed_by, marker_at, member_at, mode_at, named_at, need_at, one_at, plain_at, sequence_at, size_at, skip_second, structure_at, tagged_at, type_at, unbuilt_at}
use Rattle.oer_module_syntax.specs.Words.{builtin_of, builtin_second, is_identifier, is_reserved, keyword_of, keyword_text}
use Rattle.oer_module_syntax.specs.declared.tree.Mode.TheVariants.{Unsaid}
use Rattle.oer_module_syntax.specs.declared.types.Form.{Form}
use Rattle.oer_module_syntax.specs.declared.types.Form.TheVariants as form
use Rattle.oer_module_syntax.specs.declared.word.Builtin.{Builtin}
use Rattle.oer_module_syntax.specs.declared.word.Builtin.TheVariants as bi
use Rattle.oer_module_syntax.specs.declared.word.Keyword.TheVariants as kw
use Rattle.oer_notation.specs.Grammar.{IsLeaf, nothing_behind, bounds_behind, items_behind, size_behind, IsListSize, in_brackets as size_in_brackets, bare, IsSize, IsNeed, needed, optional, with_default, IsType, leaf_type, named_type, empty_sequence_type, sequence_type, extensible_sequence_type, sequence_of_type, choice_type, MayBeOptional, plain_addition, optional_addition}
use Rattle.oer_notation.specs.Reading.{Known}
use Rattle.oer_value_notation.specs.Leaves.{LeafForm, bounded, leaf_form, listed, plain as nothing, sized as with_size}
use Rattle.oer_same_tokens.specs.Same.{same_tokens}
use Rattle.oer_same_trees.specs.Defining.{AreUnreserved, EndsType}
use Rattle.oer_same_trees.specs.Says.{Keeps, builtin, constraints_in, items_in, SaysSize, in_brackets, behind_word, SaysNeed, needed as says_needed, optional as says_optional, with_default as says_default, MayBeOptional as SaysOptional, plain_addition as says_plain, optional_addition as says_optional_addition}
use Rattle.oer_same_trees.proofs.Flat.{Flat, closing, flat}
use Rattle.oer_same_trees.proofs.Grows.{Bare, bare_size, Bracketed, bounds_bracketed, first_items_grow, in_parentheses, size_bare, size_bracketed, unbracketed}
use Rattle.oer_same_trees.proofs.Groups.{Closing, no_group, group_taken, no_constraints, constraints_taken}
use Rattle.oer_same_trees.proofs.Placed.{Placed, none_placed, placed, kept_as, before, spot}
use Rattle.oer_same_trees.proofs.Values.{EndsValue, no_steps, value_taken}
use Rattle.oer_same_trees.proofs.Words.{free, and_two, differ, unlike, defined_unreserved, name_capital}

-- ---- what stands behind a part

-- behind a component or an alternative
pub data Separated : List Spot → Type 0 where
  before_comma : {ss : List Spot} (at : ℕ) → Separated (spot at (sign Comma) ∷ ss)
  before_brace : {ss : List Spot} (at : ℕ) → Separated (spot at (sign CloseBrace) ∷ ss)

pub separated_ends : {ss : List Spot} → Separated ss → EndsType ss
separated_ends (before_comma at) = record { no_parenthesis = refl; no_brace = refl; no_point = refl; not_defined_by = refl }
separated_ends (before_brace at) = record { no_parenthesis = refl; no_brace = refl; no_point = refl; not_defined_by = refl }

separated_value : {ss : List Spot} → Separated ss → EndsValue ss
separated_value (before_comma at) = record { no_brace = refl; no_point = refl; no_colon = refl }
separated_value (before_brace at) = record { no_brace = refl; no_point = refl; no_colon = refl }

pub separated_marker : {ss : List Spot} → Separated ss → starts_sign Exclamation ss ≡ false
separated_marker (before_comma at) = refl
separated_marker (before_brace at) = refl

-- behind the type of a component
pub need_ends : {T : AsnType} {need : _} {ts : List notation.Token} → IsNeed T need ts → (ss rest : List Spot) → Placed (same_tokens ts) ss → Separated rest
    → EndsType (ss ++ rest)
need_ends needed _ rest none_placed s = separated_ends s
need_ends optional _ rest (placed at p) s = record { no_parenthesis = refl; no_brace = refl; no_point = refl; not_defined_by = refl }
need_ends (with_default v) _ rest (placed at p) s = record { no_parenthesis = refl; no_brace = refl; no_point = refl; not_defined_by = refl }

pub addition_ends : {ts : List notation.Token} → MayBeOptional ts → (ss rest : List Spot) → Placed (same_tokens ts) ss → Separated rest → EndsType (ss ++ rest)
addition_ends plain_addition _ rest none_placed s = separated_ends s
addition_ends optional_addition _ rest (placed at p) s = record { no_parenthesis = refl; no_brace = refl; no_point = refl; not_defined_by = refl }

module _ (end : ℕ) (complete : Bool) where
  abbrev st : List Spot → State
  st ss = before end complete ss

  -- ---- needs

  pub no_need : (alternatives : Bool) (ss : List Spot) → Separated ss → need_at alternatives (st ss) ≡ Ok (must, st ss)
  unfolding need_at
  no_need true ss s = refl
  no_need false _ (before_comma at) = refl
  no_need false _ (before_brace at) = refl

  abbrev pub NeedRead : List Spot → List Spot → (Need → Type 0) → Type 0
  NeedRead ss rest Says = (n : Need) × (need_at false (st (ss ++ rest)) ≡ Ok (n, st rest)) × Says n

  default_read : (at : ℕ) (ss rest ms : List Spot) → value_at (st ss) ≡ Ok (ms, st rest)
      → need_at false (st (spot at (word (codes "DEFAULT")) ∷ ss)) ≡ Ok (default ms, st rest)
  unfolding need_at
  default_read at ss rest ms h = rw h refl

  optional_read : (at : ℕ) (ss : List Spot) → need_at false (st (spot at (word (codes "OPTIONAL")) ∷ ss)) ≡ Ok (may, st ss)
  unfolding need_at
  optional_read at ss = refl

  pub need_read : {T : AsnType} {need : _} {ts : List notation.Token} → IsNeed T need ts → (ss rest : List Spot) → Placed (same_tokens ts) ss → Separated rest
      → NeedRead ss rest (SaysNeed T need)
  need_read needed _ rest none_placed s = (must, no_need false rest s, says_needed)
  need_read optional _ rest (placed at none_placed) s = (may, optional_read at rest, says_optional)
  need_read (with_default v) _ rest (placed {ss} at p) s =
      (default ss, default_read at (ss ++ rest) rest ss (value_taken end complete rest (separated_value s) v ss p), says_default v (kept_as p))

  pub addition_read : {ts : List notation.Token} → MayBeOptional ts → (ss rest : List Spot) → Placed (same_tokens ts) ss → Separated rest
      → NeedRead ss rest SaysOptional
  addition_read plain_addition _ rest none_placed s = (must, no_need false rest s, says_plain)
  addition_read optional_addition _ rest (placed at none_placed) s = (may, optional_read at rest, says_optional_addition)

  -- ---- types that hold no other

  pub enter_leaf : (k : LeafWord) (l at : ℕ) (ss : List Spot) → type_at (suc l) (st (spot at (word (words_of k).0) ∷ ss)) ≡ plain_at at (builtin k) (st ss)
  unfolding type_at any_type_at builtin_of
  enter_leaf leaf_word.Boolean l at ss = refl
  enter_leaf leaf_word.Null l at ss = refl
  enter_leaf leaf_word.Integer l at ss = refl
  enter_leaf leaf_word.Enumerated l at ss = refl
  enter_leaf leaf_word.BitString l at ss = refl
  enter_leaf leaf_word.OctetString l at ss = refl
  enter_leaf leaf_word.ObjectIdentifier l at ss = refl
  enter_leaf leaf_word.Ia5String l at ss = refl
  enter_leaf leaf_word.VisibleString l at ss = refl
  enter_leaf leaf_word.NumericString l at ss = refl
  enter_leaf leaf_word.PrintableString l at ss = refl
  enter_leaf leaf_word.Utf8String l at ss = refl

  -- past the second word
  abbrev Second : LeafWord → List notation.Token → List Spot → Type 0
  Second k ts ss = (us : List Spot) × Placed (same_tokens ts) us
      × ((rest : List Spot) → skip_second (builtin_second (builtin k)) (st (ss ++ rest)) ≡ Ok (tt, st (us ++ rest)))

  second_read : (k : LeafWord) (ts : List notation.Token) (ss : List Spot) → Placed (same_tokens (behind_second (words_of k).1 ts)) ss → Second k ts ss
  unfolding skip_keyword
  second_read leaf_word.Boolean ts ss p = (ss, p, λ rest. refl)
  second_read leaf_word.Null ts ss p = (ss, p, λ rest. refl)
  second_read leaf_word.Integer ts ss p = (ss, p, λ rest. refl)
  second_read leaf_word.Enumerated ts ss p = (ss, p, λ rest. refl)
  second_read leaf_word.BitString ts _ (placed {ss} at p) = (ss, p, λ rest. refl)
  second_read leaf_word.OctetString ts _ (placed {ss} at p) = (ss, p, λ rest. refl)
  second_read leaf_word.ObjectIdentifier ts _ (placed {ss} at p) = (ss, p, λ rest. refl)
  second_read leaf_word.Ia5String ts ss p = (ss, p, λ rest. refl)
  second_read leaf_word.VisibleString ts ss p = (ss, p, λ rest. refl)
  second_read leaf_word.NumericString ts ss p = (ss, p, λ rest. refl)
  second_read leaf_word.PrintableString ts ss p = (ss, p, λ rest. refl)
  second_read leaf_word.Utf8String ts ss p = (ss, p, λ rest. refl)

  pub brackets_read : {ts : List notation.Token} → Bracketed Flat ts → (ss rest : List Spot) → Placed (same_tokens ts) ss → starts_sign OpenParenthesis rest ≡ false
      → constraints_at (st (ss ++ rest)) ≡ Ok (ss, st rest)
  brackets_read unbracketed _ rest none_placed h = no_constraints end complete rest h
  brackets_read (in_parentheses {ts} f) _ rest (placed {ss} at p) h =
      constraints_taken end complete _ (closing signs.CloseParenthesis ts f (λ at. refl)) at ss rest p h

  brackets_first : {ts : List notation.Token} → Bracketed Flat ts → (ss rest : List Spot) → Placed (same_tokens ts) ss → starts_sign OpenBrace rest ≡ false
      → starts_sign OpenBrace (ss ++ rest) ≡ false
  brackets_first unbracketed _ rest none_placed h = h
  brackets_first (in_parentheses f) _ rest (placed at p) h = refl

  is_items : Form → Bool
  is_items form.Items = true
  is_items form.Components = false
  is_items form.Alternatives = false
  is_items form.MaybeItems = false
  is_items form.Nothing = false

  no_items : (g : Form) (ss : List Spot) → is_items g ≡ false → starts_sign OpenBrace ss ≡ false → items_at g (st ss) ≡ Ok ([], st ss)
  unfolding is_items
  no_items form.Items ss i h = absurd (cc)
  no_items form.Components ss i h = refl
  no_items form.Alternatives ss i h = refl
  no_items form.MaybeItems ss i h = no_group end complete OpenBrace ss h
  no_items form.Nothing ss i h = refl

  -- items stand only where they must
  abbrev Fits : LeafForm → Form → Type 0
  Fits (nothing L) g = is_items g ≡ false
  Fits (bounded make) g = is_items g ≡ false
  Fits (listed make) g = g ≡ form.Items
  Fits (with_size make) g = is_items g ≡ false

  leaf_fits : (k : LeafWord) → Fits (leaf_form k) (form_of (builtin k))
  unfolding is_items
  leaf_fits leaf_word.Boolean = refl
  leaf_fits leaf_word.Null = refl
  leaf_fits leaf_word.Integer = refl
  leaf_fits leaf_word.Enumerated = refl
  leaf_fits leaf_word.BitString = refl
  leaf_fits leaf_word.OctetString = refl
  leaf_fits leaf_word.ObjectIdentifier = refl
  leaf_fits leaf_word.Ia5String = refl
  leaf_fits leaf_word.VisibleString = refl
  leaf_fits leaf_word.NumericString = refl
  leaf_fits leaf_word.PrintableString = refl
  leaf_fits leaf_word.Utf8String = refl

  record Body (f : LeafForm) (g : Form) (ts : List notation.Token) (ss rest : List Spot) : Type 0 where
    items : List Spot
    middle : List Spot
    constraints : List Spot
    items_read : items_at g (st (ss ++ rest)) ≡ Ok (items, st middle)
    constraints_read : constraints_at (st middle) ≡ Ok (constraints, st rest)
    keeps_items : Keeps (items_in f ts) items
    keeps_constraints : Keeps (constraints_in f ts) constraints

  items_taken : (g : Form) → g ≡ form.Items → (ts : List notation.Token) → Flat ts → (at : ℕ) (ss rest : List Spot)
      → Placed (same_tokens (ts ++ notation.sign signs.CloseBrace ∷ [])) ss
      → items_at g (st (spot at (sign OpenBrace) ∷ (ss ++ rest))) ≡ Ok (spot at (sign OpenBrace) ∷ ss, st rest)
  items_taken g e ts f at ss rest p =
      ap (λ g. items_at g (st (spot at (sign OpenBrace) ∷ (ss ++ rest)))) e
      ∙ group_taken end complete OpenBrace CloseBrace _ (λ at. refl) refl (closing signs.CloseBrace ts f (λ at. refl)) at ss rest p

  leaf_body : {f : LeafForm} {L : LeafType} {ts : List notation.Token} → IsLeaf f L ts → (g : Form) → Fits f g → (ss rest : List Spot) → Placed (same_tokens ts) ss
      → EndsType rest → Body f g ts ss rest
  leaf_body nothing_behind g fit _ rest none_placed ends = record {
    items = [];
    middle = rest;
    constraints = [];
    items_read = no_items g rest fit ends.no_brace;
    constraints_read = no_constraints end complete rest ends.no_parenthesis;
    keeps_items = refl;
    keeps_constraints = refl;
  }
  leaf_body (bounds_behind b) g fit ss rest p ends = record {
    items = [];
    middle = ss ++ rest;
    constraints = ss;
    items_read = no_items g (ss ++ rest) fit (brackets_first (bounds_bracketed Flat flat b) ss rest p ends.no_brace);
    constraints_read = brackets_read (bounds_bracketed Flat flat b) ss rest p ends.no_parenthesis;
    keeps_items = refl;
    keeps_constraints = kept_as p;
  }
  leaf_body (items_behind {w} {ts} i) g fit _ rest (placed {ss} at p) ends = record {
    items = spot at (sign OpenBrace) ∷ ss;
    middle = rest;
    constraints = [];
    items_read = items_taken g fit (notation.word w ∷ ts) (first_items_grow Flat flat i) at ss rest p;
    constraints_read = no_constraints end complete rest ends.no_parenthesis;
    keeps_items = kept_as (placed at p);
    keeps_constraints = refl;
  }
  leaf_body (size_behind b) g fit ss rest p ends = record {
    items = [];
    middle = ss ++ rest;
    constraints = ss;
    items_read = no_items g (ss ++ rest) fit (brackets_first (size_bracketed Flat flat b) ss rest p ends.no_brace);
    constraints_read = brackets_read (size_bracketed Flat flat b) ss rest p ends.no_parenthesis;
    keeps_items = refl;
    keeps_constraints = kept_as p;
  }

  -- what a leaf is read as
  pub record LeafRead (k : LeafWord) (l : ℕ) (ts : List notation.Token) (ss rest : List Spot) : Type 0 where
    pub at : ℕ
    pub items : List Spot
    pub constraints : List Spot
    pub is : type_at (suc l) (st (ss ++ rest)) ≡ Ok (plain at (builtin k) items constraints, st rest)
    pub keeps_items : Keeps (items_in (leaf_form k) ts) items
    pub keeps_constraints : Keeps (constraints_in (leaf_form k) ts) constraints

  plain_step : (at : ℕ) (b : Builtin) (ss us middle rest items constraints : List Spot) → skip_second (builtin_second b) (st ss) ≡ Ok (tt, st us)
      → items_at (form_of b) (st us) ≡ Ok (items, st middle) → constraints_at (st middle) ≡ Ok (constraints, st rest)
      → plain_at at b (st ss) ≡ Ok (plain at b items constraints, st rest)
  unfolding plain_at
  plain_step at b ss us middle rest items constraints f g h = rw (f, g, h) refl

  pub leaf_read : (k : LeafWord) (l : ℕ) {L : LeafType} {ts : List notation.Token} → IsLeaf (leaf_form k) L ts → (at : ℕ) (ss rest : List Spot)
      → Placed (same_tokens (behind_second (words_of k).1 ts)) ss → EndsType rest → LeafRead k l ts (spot at (word (words_of k).0) ∷ ss) rest
  leaf_read k l {ts = ts} i at ss rest p ends =
      let s = second_read k ts ss p in
      let b = leaf_body i (form_of (builtin k)) (leaf_fits k) s.0 rest s.1 ends in
      record {
        at = at;
        items = b.items;
        constraints = b.constraints;
        is = enter_leaf k l at (ss ++ rest) ∙ plain_step at (builtin k) (ss ++ rest) (s.0 ++ rest) b.middle rest b.items b.constraints (s.2 rest) b.items_read b.constraints_read;
        keeps_items = b.keeps_items;
        keeps_constraints = b.keeps_constraints;
      }

  -- ---- Names

  pub name_read : (l at : ℕ) (w : List ℕ) (rest : List Spot) → is_identifier w ≡ false → is_reserved w ≡ false → EndsType rest
      → type_at (suc l) (st (spot at (word w) ∷ rest)) ≡ Ok (named at w [] [] [], st rest)
  unfolding type_at any_type_at unbuilt_at named_at
  name_read l at w rest capital unreserved ends =
      let f = free w unreserved in
      let no_any = and_two (bytes_eq w (keyword_text kw.Any)) (is_word (keyword_text kw.Defined) (first_of rest)) (is_word (keyword_text kw.By)
      (first_of (drop 1 rest))) ends.not_defined_by in
      rw (
        f.no_type,
        f.no_instance,
        no_any,
        capital,
        unreserved,
        no_steps rest ends.no_point,
        no_group end complete OpenBrace rest ends.no_brace,
        no_constraints end complete rest ends.no_parenthesis,
      )
      refl

  -- ---- the first word of a type

  pub record First (ss : List Spot) : Type 0 where
    pub no_name : (rest : List Spot) → item_name_at (st (ss ++ rest)) ≡ (None, st (ss ++ rest))
    pub no_mode : (rest : List Spot) → mode_at (st (ss ++ rest)) ≡ (Unsaid, st (ss ++ rest))
    pub no_class : (rest : List Spot) → at_keyword kw.Class (st (ss ++ rest)) ≡ false

  first_word : (w : List ℕ) → is_identifier w ≡ false → bytes_eq w (keyword_text kw.Implicit) ≡ false → bytes_eq w (keyword_text kw.Explicit) ≡ false
      → bytes_eq w (keyword_text kw.Class) ≡ false → (at : ℕ) (ss : List Spot) → First (spot at (word w) ∷ ss)
  first_word w i a b c at ss = record { no_name = λ rest. rw i refl; no_mode = λ rest. rw (a, b) refl; no_class = λ rest. c }

  first_leaf : (k : LeafWord) (at : ℕ) (ss : List Spot) → First (spot at (word (words_of k).0) ∷ ss)
  first_leaf leaf_word.Boolean at ss = first_word _ refl refl refl refl at ss
  first_leaf leaf_word.Null at ss = first_word _ refl refl refl refl at ss
  first_leaf leaf_word.Integer at ss = first_word _ refl refl refl refl at ss
  first_leaf leaf_word.Enumerated at ss = first_word _ refl refl refl refl at ss
  first_leaf leaf_word.BitString at ss = first_word _ refl refl refl refl at ss
  first_leaf leaf_word.OctetString at ss = first_word _ refl refl refl refl at ss
  first_leaf leaf_word.ObjectIdentifier at ss = first_word _ refl refl refl refl at ss
  first_leaf leaf_word.Ia5String at ss = first_word _ refl refl refl refl at ss
  first_leaf leaf_word.VisibleString at ss = first_word _ refl refl refl refl at ss
  first_leaf leaf_word.NumericString at ss = first_word _ refl refl refl refl at ss
  first_leaf leaf_word.PrintableString at ss = first_word _ refl refl refl refl at ss
  first_leaf leaf_word.Utf8String at ss = first_word _ refl refl refl refl at ss

  first_name : (w : List ℕ) → is_identifier w ≡ false → is_reserved w ≡ false → (at : ℕ) (ss : List Spot) → First (spot at (word w) ∷ ss)
  unfolding keyword_of
  first_name w i h at ss = first_word w i (unlike w (keyword_text kw.Implicit) h refl) (unlike w (keyword_text kw.Explicit) h refl) (free w h).no_class at ss

  pub type_first : {known : List Known} {T : AsnType} {ts : List notation.Token} → IsType known T ts → AreUnreserved known → (ss : List Spot)
      → Placed (same_tokens ts) ss → First ss
  type_first (leaf_type k i) u _ (placed {ss} at p) = first_leaf k at ss
  type_first (named_type {w} n d) u _ (placed {ss} at p) = first_name w (name_capital n) (defined_unreserved d u) at ss
  type_first empty_sequence_type u _ (placed {ss} at p) = first_word _ refl refl refl refl at ss
  type_first (sequence_type d) u _ (placed {ss} at p) = first_word _ refl refl refl refl at ss
  type_first (extensible_sequence_type d) u _ (placed {ss} at p) = first_word _ refl refl refl refl at ss
  type_first (sequence_of_type z d) u _ (placed {ss} at p) = first_word _ refl refl refl refl at ss
  type_first (choice_type d) u _ (placed {ss} at p) = first_word _ refl refl refl refl at ss

  -- ---- tags

  pub tag_read : (l : ℕ) (ts : List Token) → Closing (CloseBracket ∷ []) ts → (at : ℕ) (ms us rest : List Spot) (t : Tree) → Placed ts ms → First us
      → type_at l (st (us ++ rest)) ≡ Ok (t, st rest)
      → type_at (suc l) (st (spot at (sign OpenBracket) ∷ (ms ++ (us ++ rest)))) ≡ Ok (tagged at (spot at (sign OpenBracket) ∷ ms) Unsaid t, st rest)
  unfolding type_at any_type_at tagged_at
  tag_read l ts closes at ms us rest t p f h =
      rw (group_taken end complete OpenBracket CloseBracket ts (λ at. refl) refl closes at ms (us ++ rest) p, f.no_mode rest, h) refl

  -- ---- structures

  pub enter_sequence : (l at by : ℕ) (ss : List Spot)
      → type_at (suc l) (st (spot at (word (codes "SEQUENCE")) ∷ spot by (sign OpenBrace) ∷ ss)) ≡ structure_at (type_at l) at bi.Sequence false (st ss)
  unfolding type_at any_type_at builtin_of sequence_at
  enter_sequence l at by ss = refl

  pub enter_choice : (l at by : ℕ) (ss : List Spot)
      → type_at (suc l) (st (spot at (word (codes "CHOICE")) ∷ spot by (sign OpenBrace) ∷ ss)) ≡ structure_at (type_at l) at bi.Choice true (st ss)
  unfolding type_at any_type_at builtin_of choice_at skip_sign
  enter_choice l at by ss = refl

  module _ (type : State → Read Tree) where
    pub structure_read : (at : ℕ) (b : Builtin) (alternatives : Bool) (ss : List Spot) (by : ℕ) (rest : List Spot) (es : List Element)
        → braces_at type alternatives (st ss) ≡ Ok (es, st (spot by (sign CloseBrace) ∷ rest)) → starts_sign OpenParenthesis rest ≡ false
        → structure_at type at b alternatives (st ss) ≡ Ok (structure at b (elements_from es) [], st rest)
    unfolding structure_at skip_sign
    structure_read at b alternatives ss by rest es h n = rw (h, no_constraints end complete rest n) refl

    pub component_read : (alternatives : Bool) (at : ℕ) (w : List ℕ) (ss us rest : List Spot) (t : Tree) (n : Need) → is_identifier w ≡ true
        → type (st ss) ≡ Ok (t, st us) → need_at alternatives (st us) ≡ Ok (n, st rest)
        → one_at type false alternatives (st (spot at (word w) ∷ ss)) ≡ Ok (component at w t n, st rest)
    unfolding element_at member_at component_at identifier_at
    component_read true at w ss us rest t n i f g = rw (i, f, g) refl
    component_read false at w ss us rest t n i f g = rw (differ w (keyword_text kw.Components) i refl, i, f, g) refl

    pub marker_read : (alternatives : Bool) (at : ℕ) (rest : List Spot) → starts_sign Exclamation rest ≡ false
        → one_at type false alternatives (st (spot at (sign Ellipsis) ∷ rest)) ≡ Ok (marker at [], st rest)
    unfolding element_at marker_at
    marker_read alternatives at rest h = rw h refl

    -- ---- lists

    list_step : (at : ℕ) (b : Builtin) (sized : Bool) (o : ℕ) (ss us rest zs : List Spot) (t : Tree) → size_at sized (st ss) ≡ Ok (zs, st (spot o (word (codes "OF")) ∷ us))
        → item_name_at (st us) ≡ (None, st us) → type (st us) ≡ Ok (t, st rest) → list_at type at b sized (st ss) ≡ Ok (list_of at b sized zs None t, st rest)
    unfolding list_at skip_keyword
    list_step at b sized o ss us rest zs t f g h = rw (f, g, h) refl

    sized_in_brackets : {ts : List notation.Token} → Bracketed Flat ts → (at o : ℕ) (ss us rest : List Spot) (t : Tree) → Placed (same_tokens ts) ss
        → item_name_at (st us) ≡ (None, st us) → type (st us) ≡ Ok (t, st rest)
        → sequence_at type at bi.Sequence (st (ss ++ (spot o (word (codes "OF")) ∷ us))) ≡ Ok (list_of at bi.Sequence false ss None t, st rest)
    unfolding sequence_at size_at
    sized_in_brackets unbracketed at o _ us rest t none_placed f g =
        list_step at bi.Sequence false o (spot o (word (codes "OF")) ∷ us) us rest [] t (no_constraints end complete (spot o (word (codes "OF")) ∷ us) refl) f g
    sized_in_brackets (in_parentheses {ts} x) at o _ us rest t (placed {ss} by p) f g =
        list_step at bi.Sequence false o (spot by (sign OpenParenthesis) ∷ (ss ++ (spot o (word (codes "OF")) ∷ us))) us rest (spot by (sign OpenParenthesis) ∷ ss) t
        (constraints_taken end complete _ (closing signs.CloseParenthesis ts x (λ at. refl)) by ss (spot o (word (codes "OF")) ∷ us) p refl) f g

    sized_by_word : (ts : List notation.Token) → Flat ts → (at by o : ℕ) (ss us rest : List Spot) (t : Tree)
        → Placed (same_tokens (notation.sign signs.OpenParenthesis ∷ (ts ++ notation.sign signs.CloseParenthesis ∷ []))) ss
        → item_name_at (st us) ≡ (None, st us) → type (st us) ≡ Ok (t, st rest)
        → sequence_at type at bi.Sequence (st (spot by (word (codes "SIZE")) ∷ (ss ++ (spot o (word (codes "OF")) ∷ us)))) ≡ Ok (list_of at bi.Sequence true ss None t, st rest)
    unfolding sequence_at size_at
    sized_by_word ts x at by o _ us rest t (placed {ss} from p) f g =
        list_step at bi.Sequence true o (spot from (sign OpenParenthesis) ∷ (ss ++ (spot o (word (codes "OF")) ∷ us))) us rest (spot from (sign OpenParenthesis) ∷ ss) t
        (constraints_taken end complete _ (closing signs.CloseParenthesis ts x (λ at. refl)) from ss (spot o (word (codes "OF")) ∷ us) p refl) f g

    -- what the tree keeps of the size
    abbrev pub ListRead : Size → ℕ → List Spot → List Spot → Tree → Type 0
    ListRead size at ss rest t = (sized : Bool) × (zs : List Spot) × SaysSize size sized zs
        × (sequence_at type at bi.Sequence (st ss) ≡ Ok (list_of at bi.Sequence sized zs None t, st rest))

    bare_read : {size : Size} {ts : List notation.Token} → Bare Flat ts → IsSize size ts → (at o : ℕ) (ss us rest : List Spot) (t : Tree) → Placed (same_tokens ts) ss
        → item_name_at (st us) ≡ (None, st us) → type (st us) ≡ Ok (t, st rest) → ListRead size at (ss ++ (spot o (word (codes "OF")) ∷ us)) rest t
    bare_read (bare_size {ts} x) z at o _ us rest t (placed {ss} by p) f g =
        (true, ss, behind_word z (kept_as p), sized_by_word ts x at by o ss us rest t p f g)

    pub list_read : {size : Size} {ts : List notation.Token} → IsListSize size ts → (at o : ℕ) (ss us rest : List Spot) (t : Tree) → Placed (same_tokens ts) ss
        → item_name_at (st us) ≡ (None, st us) → type (st us) ≡ Ok (t, st rest) → ListRead size at (ss ++ (spot o (word (codes "OF")) ∷ us)) rest t
    list_read (size_in_brackets b) at o ss us rest t p f g = (false, ss, in_brackets b (kept_as p), sized_in_brackets (size_bracketed Flat flat b) at o ss us rest t p f g)
    list_read (bare z) at o ss us rest t p f g = bare_read (size_bare Flat flat z) z at o ss us rest t p f g

    pub no_braces : (alternatives : Bool) (by : ℕ) (rest : List Spot)
        → braces_at type alternatives (st (spot by (sign CloseBrace) ∷ rest)) ≡ Ok ([], st (spot by (sign CloseBrace) ∷ rest))
    unfolding braces_at
    no_braces alternatives by rest = refl

    pub braces_listed : (alternatives : Bool) (ss rest : List Spot) (es : List Element) → starts_sign CloseBrace ss ≡ false
        → listed_by (one_at type false alternatives) (st ss) ≡ Ok (es, st rest) → braces_at type alternatives (st ss) ≡ Ok (es, st rest)
    unfolding braces_at
    braces_listed alternatives ss rest es h g = rw h g

  pub enter_list : (l at : ℕ) (ss : List Spot) → type_at (suc l) (st (spot at (word (codes "SEQUENCE")) ∷ ss)) ≡ sequence_at (type_at l) at bi.Sequence (st ss)
  unfolding type_at any_type_at builtin_of
  enter_list l at ss = refl
