-- A tree says at most one type of the notation.
use Rattle.std.proofs.Common.{◌≡◌, ℕ, List, [], ◌∷◌, ◌++◌, Bool, Option, Some, refl, sym, ap, ap₂, subst, ◌∙◌}
use Rattle.std.specs.Prelude.{codes}
use Rattle.oer_lexer.specs.Token.{Token, word}
use Rattle.oer_lexer.specs.declared.leaf.LeafWord.{LeafWord}
use Rattle.oer_lexer.specs.declared.leaf.LeafWord.TheVariants as leaf_word
use Rattle.oer_model.specs.AsnType.{Additions, Alternatives, AsnType, Fields, Need, addition, alternative, choice, default, extensible_sequence, field, later, leaf, sequence, sequence_of}
use Rattle.oer_model.specs.LeafType.{LeafType}
use Rattle.oer_model.specs.declared.size.Size.{Size}
use Rattle.oer_module_lexer.specs.Token.{Spot}
use Rattle.oer_module_syntax.specs.Tree as tree
use Rattle.oer_module_syntax.specs.declared.word.Builtin.{Builtin}
use Rattle.oer_module_syntax.specs.declared.word.Builtin.TheVariants as bi
use Rattle.oer_notation.specs.Grammar.{IsLeaf}
use Rattle.oer_notation.specs.Reading.{Known}
use Rattle.oer_units.specs.declared.tagging.Tag.{Tag}
use Rattle.oer_value_notation.specs.Leaves.{LeafForm, bounded, leaf_form, listed, plain, sized}
use Rattle.oer_same_trees.specs.Defining.{AssignmentsSay, no_assignments, an_assignment}
use Rattle.oer_same_trees.specs.Laws.{OneList, OneType}
use Rattle.oer_same_trees.specs.Says.{Keeps, builtin, constraints_in, items_in, Says, says_leaf, says_name, says_sequence, says_extensible_sequence, says_sequence_of, says_choice, SaysComponents, says_no_components, says_component, says_components_marker, SaysAdditions, says_none_added, says_added, SaysAlternatives, says_none_left, says_alternative, says_alternatives_marker, SaysLater, says_none_later, says_later, SaysTagged, says_own_tag, says_tag_by_place, SaysSize, in_brackets, behind_word, SaysNeed, needed, optional, with_default}
use Rattle.oer_same_trees.proofs.Back.{keeps_one}
use Rattle.oer_same_trees.proofs.OneLeaf.{one_bracketed, one_defined, one_leaf, size_said_at, one_tag, one_value}

-- ---- leaves

-- the words of a type of modules
word_for : Builtin → LeafWord
word_for bi.Boolean = leaf_word.Boolean
word_for bi.Null = leaf_word.Null
word_for bi.Integer = leaf_word.Integer
word_for bi.Enumerated = leaf_word.Enumerated
word_for bi.BitString = leaf_word.BitString
word_for bi.OctetString = leaf_word.OctetString
word_for bi.ObjectIdentifier = leaf_word.ObjectIdentifier
word_for bi.Ia5String = leaf_word.Ia5String
word_for bi.VisibleString = leaf_word.VisibleString
word_for bi.NumericString = leaf_word.NumericString
word_for bi.PrintableString = leaf_word.PrintableString
word_for _ = leaf_word.Utf8String

word_back : (k : LeafWord) → word_for (builtin k) ≡ k
unfolding word_for
word_back leaf_word.Boolean = refl
word_back leaf_word.Null = refl
word_back leaf_word.Integer = refl
word_back leaf_word.Enumerated = refl
word_back leaf_word.BitString = refl
word_back leaf_word.OctetString = refl
word_back leaf_word.ObjectIdentifier = refl
word_back leaf_word.Ia5String = refl
word_back leaf_word.VisibleString = refl
word_back leaf_word.NumericString = refl
word_back leaf_word.PrintableString = refl
word_back leaf_word.Utf8String = refl

-- what a tree without parts says
record LeafSaid (U : AsnType) (b : Builtin) (items constraints : List Spot) : Type 0 where
  first : LeafWord
  kind : LeafType
  tokens : List Token
  is : U ≡ leaf kind
  begins : builtin first ≡ b
  spelt : IsLeaf (leaf_form first) kind tokens
  keeps_items : Keeps (items_in (leaf_form first) tokens) items
  keeps_constraints : Keeps (constraints_in (leaf_form first) tokens) constraints

leaf_said : {known : List Known} {U : AsnType} {at : ℕ} {b : Builtin} {items constraints : List Spot} → Says known U (tree.plain at b items constraints)
    → LeafSaid U b items constraints
leaf_said (says_leaf k {L} {ts} i f g) = record { first = k; kind = L; tokens = ts; is = refl; begins = refl; spelt = i; keeps_items = f; keeps_constraints = g }

-- items and constraints are all that stands behind the words
all_kept : (f : LeafForm) (ts us : List Token) (items constraints : List Spot) → Keeps (items_in f ts) items → Keeps (items_in f us) items
    → Keeps (constraints_in f ts) constraints → Keeps (constraints_in f us) constraints → ts ≡ us
all_kept (plain L) ts us items constraints f g h k = keeps_one ts us constraints h k
all_kept (bounded make) ts us items constraints f g h k = keeps_one ts us constraints h k
all_kept (listed make) ts us items constraints f g h k = keeps_one ts us items f g
all_kept (sized make) ts us items constraints f g h k = keeps_one ts us constraints h k

one_spelt : (k m : LeafWord) {L M : LeafType} (ts us : List Token) (items constraints : List Spot) → k ≡ m → IsLeaf (leaf_form k) L ts → IsLeaf (leaf_form m) M us
    → Keeps (items_in (leaf_form k) ts) items → Keeps (constraints_in (leaf_form k) ts) constraints
    → Keeps (items_in (leaf_form m) us) items → Keeps (constraints_in (leaf_form m) us) constraints → L ≡ M
one_spelt k m {L} {M} ts us items constraints e i j f g h n =
    let same = subst (λ m. IsLeaf (leaf_form m) M us × Keeps (items_in (leaf_form m) us) items × Keeps (constraints_in (leaf_form m) us) constraints) (sym e) (j, h, n) in
    one_leaf i same.0 (all_kept (leaf_form k) ts us items constraints f same.1 g same.2)

-- ---- parts

one_size_kept : {size other : Size} {by_word : Bool} {ss : List Spot} → SaysSize size by_word ss → SaysSize other by_word ss → size ≡ other
one_size_kept (in_brackets {ts} {ss} b k) (in_brackets {ts = us} c m) = one_bracketed b c (keeps_one ts us ss k m)
one_size_kept (behind_word {ts} {ss} s k) (behind_word {ts = us} z m) = size_said_at (ap (λ ts. word (codes "SIZE") ∷ ts) (keeps_one ts us ss k m)) s z

one_need : {T : AsnType} {need other : Need} {n : tree.Need} → SaysNeed T need n → SaysNeed T other n → need ≡ other
one_need needed needed = refl
one_need optional optional = refl
one_need (with_default {ts} {ss} v k) (with_default {ts = us} u m) = ap default (one_value v u (keeps_one ts us ss k m))

need_at_type : {T U : AsnType} {need other : Need} {n : tree.Need} → T ≡ U → SaysNeed T need n → SaysNeed U other n → need ≡ other
need_at_type {other = other} {n = n} e s z = one_need s (subst (λ T. SaysNeed T other n) (sym e) z)

some_one : {A : Type 0} {a b : A} → Some a ≡ Some b → a ≡ b
some_one e = cc

field_same : (w : List ℕ) {need other : Need} {T U : AsnType} {fs gs : Fields} → need ≡ other → T ≡ U → fs ≡ gs → field w need T fs ≡ field w other U gs
field_same w {other = other} {U = U} {fs = fs} a b c = ap₂ (λ need T. field w need T fs) a b ∙ ap (λ fs. field w other U fs) c

alternative_same : (w : List ℕ) {t u : Tag} {T U : AsnType} {more others : Alternatives} → t ≡ u → T ≡ U → more ≡ others → alternative w t T more ≡ alternative w u U others
alternative_same w {u = u} {U = U} {more = more} a b c = ap₂ (λ t T. alternative w t T more) a b ∙ ap (λ more. alternative w u U more) c

later_same : (w : List ℕ) {t u : Tag} {T U : AsnType} {more others : Alternatives} → t ≡ u → T ≡ U → more ≡ others → later w t T more ≡ later w u U others
later_same w {u = u} {U = U} {more = more} a b c = ap₂ (λ t T. later w t T more) a b ∙ ap (λ more. later w u U more) c

module _ (known : List Known) where
  mutual
    one_type : {T U : AsnType} {t : tree.Tree} → Says known T t → Says known U t → T ≡ U
    one_type (says_leaf k {L} {ts} {items} {constraints} i f g) s =
        let p = leaf_said s in
        ap leaf (one_spelt k p.first ts p.tokens items constraints (sym (word_back k) ∙ ap word_for
        (sym p.begins) ∙ word_back p.first) i p.spelt f g p.keeps_items p.keeps_constraints)
        ∙ sym p.is
    one_type (says_name n d) (says_name m e) = one_defined d e
    one_type (says_sequence c) (says_sequence d) = ap sequence (one_components c d).0
    one_type (says_sequence c) (says_extensible_sequence d) = absurd (let e = (one_components c d).1 in cc)
    one_type (says_extensible_sequence c) (says_sequence d) = absurd (let e = (one_components c d).1 in cc)
    one_type (says_extensible_sequence c) (says_extensible_sequence d) = let p = one_components c d in ap₂ extensible_sequence p.0 (some_one p.1)
    one_type (says_sequence_of z s) (says_sequence_of y t) = ap₂ sequence_of (one_size_kept z y) (one_type s t)
    one_type (says_choice c) (says_choice d) = let p = one_alternatives c d in ap₂ choice p.1 p.0

    one_components : {fs gs : Fields} {more others : Option Additions} {es : tree.Elements} → SaysComponents known fs more es → SaysComponents known gs others es
        → (fs ≡ gs) × (more ≡ others)
    one_components says_no_components says_no_components = (refl, refl)
    one_components (says_component {w} i s n m) (says_component j t o k) =
        let T = one_type s t in
        let p = one_components m k in
        (field_same w (need_at_type T n o) T p.0, p.1)
    one_components (says_components_marker m) (says_components_marker k) = (refl, ap Some (one_additions m k))

    one_additions : {more others : Additions} {es : tree.Elements} → SaysAdditions known more es → SaysAdditions known others es → more ≡ others
    one_additions says_none_added says_none_added = refl
    one_additions (says_added {w} i s n m) (says_added j t o k) = ap₂ (addition w) (one_type s t) (one_additions m k)

    one_alternatives : {by_tag other : Bool} {place : ℕ} {more others : Alternatives} {marker dots : Bool} {es : tree.Elements} → SaysAlternatives known by_tag place more marker es
        → SaysAlternatives known other place others dots es → (more ≡ others) × (marker ≡ dots)
    one_alternatives says_none_left says_none_left = (refl, refl)
    one_alternatives (says_alternative {w} i s m) (says_alternative j t k) =
        let p = one_tagged s t in
        let q = one_alternatives m k in
        (alternative_same w p.0 p.1 q.0, q.1)
    one_alternatives (says_alternatives_marker m) (says_alternatives_marker k) = (one_later m k, refl)

    one_later : {by_tag other : Bool} {place : ℕ} {more others : Alternatives} {es : tree.Elements} → SaysLater known by_tag place more es → SaysLater known other place others es
        → more ≡ others
    one_later says_none_later says_none_later = refl
    one_later (says_later {w} i s m) (says_later j t k) =
        let p = one_tagged s t in
        later_same w p.0 p.1 (one_later m k)

    one_tagged : {by_tag other : Bool} {place : ℕ} {t u : Tag} {T U : AsnType} {t2 : tree.Tree} → SaysTagged known by_tag place t T t2 → SaysTagged known other place u U t2
        → (t ≡ u) × (T ≡ U)
    one_tagged (says_own_tag {ts} {ss} g k s) (says_own_tag {ts = us} h m t) = (one_tag g h (keeps_one ts us ss k m), one_type s t)
    one_tagged (says_own_tag g k s) (says_tag_by_place h t) = elim t [ ]
    one_tagged (says_tag_by_place g s) (says_own_tag h m t) = elim s [ ]
    one_tagged (says_tag_by_place g s) (says_tag_by_place h t) = (one_tag g h refl, one_type s t)

pub one_type_said : OneType
one_type_said known T U t s r = one_type known s r

one_list : {known same ks js : List Known} {found : List _} → known ≡ same → AssignmentsSay known ks found → AssignmentsSay same js found → ks ≡ js
one_list e no_assignments no_assignments = refl
one_list e (an_assignment {known} {w} {T} {t} n new s m) (an_assignment {T = U} o knew r k) =
    let U_is : T ≡ U = one_type known s (subst (λ known. Says known U t) (sym e) r) in
    let last = ap (λ T. record { name = w; type = T } ∷ []) U_is in
    ap₂ (λ T ks. record { name = w; type = T } ∷ ks) U_is (one_list (ap₂ (λ a b. a ++ b) e last) m k)

pub one_list_said : OneList
one_list_said known ks js found s r = one_list refl s r
