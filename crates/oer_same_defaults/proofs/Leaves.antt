-- What governs a value of a type of the notation.
use Rattle.std.proofs.Common.{◌≡◌, ℕ, List, Bool, false, Option, Some, Ok, ℤ, refl, sym, ap, ◌∙◌}
use Rattle.oer_lexer.specs.Token as notation
use Rattle.oer_lexer.specs.declared.leaf.LeafWord.{LeafWord}
use Rattle.oer_lexer.specs.declared.leaf.LeafWord.TheVariants as leaf_word
use Rattle.oer_model.specs.AsnType.{leaf}
use Rattle.oer_model.specs.LeafType.{LeafType, NamedNumber, boolean, null, integer, enumerated, bit_string, octet_string, object_id, restricted_string, utf8_string}
use Rattle.oer_module_defaults.specs.Governors.{Governor, governed, governed_by, governor_at, kind_of, or_refused}
use Rattle.oer_module_defaults.specs.declared.governor.Kind.{Kind}
use Rattle.oer_module_defaults.specs.declared.governor.Kind.TheVariants as kind
use Rattle.oer_module_lexer.specs.Token.{Spot}
use Rattle.oer_module_names.specs.declared.error.Place.{Place}
use Rattle.oer_module_syntax.specs.Tree.{Module, Tree, plain}
use Rattle.oer_module_syntax.specs.declared.word.Builtin.TheVariants as bi
use Rattle.oer_module_text.specs.Errors.{told_by, ◌>>=◌}
use Rattle.oer_module_values.specs.Errors as told
use Rattle.oer_module_values.specs.Numbers as numbers
use Rattle.oer_module_values.specs.Types.{Meaning, TypeIn, meaning, type_in}
use Rattle.oer_notation.specs.Grammar.{IsLeaf, nothing_behind, bounds_behind, items_behind, size_behind}
use Rattle.oer_notation.specs.Reading.{Known}
use Rattle.oer_same_names.specs.Meant.{IsBuilt, IsMeant}
use Rattle.oer_same_trees.specs.Says.{Keeps, Says, builtin, items_in, says_leaf, says_name}
use Rattle.oer_value_notation.specs.Leaves.{leaf_form, listed}

-- the kind of the values of a type that holds no other
abbrev pub leaf_kind : LeafType → Kind
leaf_kind boolean = kind.Boolean
leaf_kind null = kind.Null
leaf_kind (integer low high) = kind.Integer
leaf_kind (enumerated items marker) = kind.Enumerated
leaf_kind (bit_string size) = kind.Bits
leaf_kind (octet_string size) = kind.Octets
leaf_kind object_id = kind.Arcs
leaf_kind (restricted_string letters size) = kind.Text
leaf_kind (utf8_string size) = kind.Text

word_kind : (k : LeafWord) (L : LeafType) (ts : List notation.Token) → IsLeaf (leaf_form k) L ts → kind_of (builtin k) ≡ Some (leaf_kind L)
word_kind leaf_word.Boolean _ _ nothing_behind = refl
word_kind leaf_word.Null _ _ nothing_behind = refl
word_kind leaf_word.Integer _ _ (bounds_behind b) = refl
word_kind leaf_word.Enumerated _ _ (items_behind i) = refl
word_kind leaf_word.BitString _ _ (size_behind s) = refl
word_kind leaf_word.OctetString _ _ (size_behind s) = refl
word_kind leaf_word.ObjectIdentifier _ _ nothing_behind = refl
word_kind leaf_word.Ia5String _ _ (size_behind s) = refl
word_kind leaf_word.VisibleString _ _ (size_behind s) = refl
word_kind leaf_word.NumericString _ _ (size_behind s) = refl
word_kind leaf_word.PrintableString _ _ (size_behind s) = refl
word_kind leaf_word.Utf8String _ _ (size_behind s) = refl

-- a tree that says a type that holds no other
pub record LeafTree (L : LeafType) (u : Tree) : Type 0 where
  pub word : LeafWord
  pub at : ℕ
  pub items : List Spot
  pub constraints : List Spot
  pub behind : List notation.Token
  pub is : u ≡ plain at (builtin word) items constraints
  pub leaf_is : IsLeaf (leaf_form word) L behind
  pub keeps : Keeps (items_in (leaf_form word) behind) items

leaf_tree : {known : List Known} {L : LeafType} {u : Tree} → Says known (leaf L) u → IsBuilt u → LeafTree L u
leaf_tree (says_leaf {at} k {ts} {items} {constraints} l i c) b =
    record { word = k; at = at; items = items; constraints = constraints; behind = ts; is = refl; leaf_is = l; keeps = i }
leaf_tree (says_name n d) b = absurd b

-- what governs a value of the type: its tree, and the kind of its values
pub record Governs (L : LeafType) (g : Governor) : Type 0 where
  pub tree : LeafTree L g.type
  pub kind_is : g.kind ≡ leaf_kind L
  pub items_are : g.items ≡ tree.items

pub record Governed (ms : List Module) (L : LeafType) (t : Tree) (u : TypeIn) : Type 0 where
  pub governor : Governor
  pub is : (p : Place) → governor_at ms p (type_in 0 t) ≡ Ok governor
  pub governs : Governs L governor
  pub of_is : type_in governor.«module» governor.type ≡ u

governor_of : (ms : List Module) (t : Tree) (m : Meaning) (at : ℕ) (k : LeafWord) (items constraints : List Spot) (x : Kind) → meaning ms (type_in 0 t) ≡ Ok m
    → m.of ≡ type_in 0 (plain at (builtin k) items constraints) → kind_of (builtin k) ≡ Some x → (p : Place)
    → governor_at ms p (type_in 0 t) ≡ Ok (record { «module» = 0; type = plain at (builtin k) items constraints; kind = x; items = items })
unfolding governor_at
governor_of ms t m at k items constraints x h of e p =
    ap (λ r. told_by r >>= λ r. or_refused p (governed r.of.«module» r.of.type)) h
    ∙ ap (λ u. or_refused p (governed u.«module» u.type)) of
    ∙ ap (λ o. or_refused p (governed_by 0 (plain at (builtin k) items constraints) o)) e

pub leaf_governed : (ms : List Module) (ks : List Known) (L : LeafType) (t : Tree) (m : Meaning) → meaning ms (type_in 0 t) ≡ Ok m → IsMeant ks (leaf L) m → Governed ms L t m.of
leaf_governed ms ks L t m h i =
    let l = leaf_tree i.says.says i.built in
    let e = word_kind l.word L l.behind l.leaf_is in
    record {
      governor = record { «module» = 0; type = plain l.at (builtin l.word) l.items l.constraints; kind = leaf_kind L; items = l.items };
      is = governor_of ms t m l.at l.word l.items l.constraints (leaf_kind L) h (i.of ∙ ap (type_in 0) l.is) e;
      governs = record {
        tree = record { word = l.word; at = l.at; items = l.items; constraints = l.constraints; behind = l.behind; is = refl; leaf_is = l.leaf_is; keeps = l.keeps };
        kind_is = refl;
        items_are = refl;
      };
      of_is = sym (i.of ∙ ap (type_in 0) l.is);
    }

-- what governs a number of an INTEGER
module _ (low high : Option ℤ) (at : ℕ) (spots constraints : List Spot) (ts : List notation.Token) where
  integer_by : (k : LeafWord) → IsLeaf (leaf_form k) (integer low high) ts
      → numbers.governor_by 0 (plain at (builtin k) spots constraints) ≡ Ok (record { «module» = 0; enumerated = false; items = spots })
  integer_by leaf_word.Integer l = refl
  integer_by k l = elim l [ ]

pub number_governed : (ms : List Module) (ks : List Known) {low high : Option ℤ} (t : Tree) (m : Meaning) → meaning ms (type_in 0 t) ≡ Ok m
    → IsMeant ks (leaf (integer low high)) m
    → (items : List Spot) × (numbers.governor ms (type_in 0 t) ≡ Ok (record { «module» = 0; enumerated = false; items = items }))
unfolding numbers.governor
number_governed ms ks {low} {high} t m h i =
    let l = leaf_tree i.says.says i.built in (
      l.items,
      ap (λ r. told.◌>>=◌ r (λ r. numbers.governor_by r.of.«module» r.of.type)) h
          ∙ ap (λ u. numbers.governor_by u.«module» u.type) (i.of ∙ ap (type_in 0) l.is)
          ∙ integer_by low high l.at l.items l.constraints l.behind l.word l.leaf_is,
    )

-- a tree that says an ENUMERATED
pub record EnumeratedTree (items : List NamedNumber) (marker : Bool) (spots : List Spot) (u : Tree) : Type 0 where
  pub at : ℕ
  pub constraints : List Spot
  pub behind : List notation.Token
  pub is : u ≡ plain at bi.Enumerated spots constraints
  pub spelt : IsLeaf (listed enumerated) (enumerated items marker) behind
  pub keeps : Keeps behind spots

module _ (items : List NamedNumber) (marker : Bool) (u : Tree) (at : ℕ) (spots constraints : List Spot) (ts : List notation.Token) where
  tree_by : (k : LeafWord) → IsLeaf (leaf_form k) (enumerated items marker) ts → u ≡ plain at (builtin k) spots constraints → Keeps (items_in (leaf_form k) ts) spots
      → EnumeratedTree items marker spots u
  tree_by leaf_word.Enumerated l e k = record { at = at; constraints = constraints; behind = ts; is = e; spelt = l; keeps = k }
  tree_by k l e s = elim l [ ]

pub enumerated_tree : {items : List NamedNumber} {marker : Bool} {u : Tree} (t : LeafTree (enumerated items marker) u) → EnumeratedTree items marker t.items u
enumerated_tree {items} {marker} {u} t = tree_by items marker u t.at t.items t.constraints t.behind t.word t.leaf_is t.is t.keeps
