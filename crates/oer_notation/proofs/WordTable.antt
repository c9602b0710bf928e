-- The words with which types begin, and Names.
use Rattle.std.proofs.Common.{◌≡◌, ℕ, List, [], ◌∷◌, Bool, true, false, not, cond, ◌||◌, inl, inr, Option, Some, None, refl, sym, ap, subst, ◌∙◌}
use Rattle.std.specs.Prelude.{codes, option_map}
use Rattle.std.specs.List.{list_any}
use Rattle.std.specs.Str.{bytes_eq}
use Rattle.std.proofs.lemmas.Bool.{and_parts}
use Rattle.std.proofs.lemmas.Slice.Eq.{bytes_eq-Decides}
use Rattle.oer_lexer.specs.LeafWords.{leaf_among, leaf_word, leaves, words_of}
use Rattle.oer_lexer.specs.declared.leaf.LeafWord.{LeafWord}
use Rattle.oer_lexer.specs.Token.{Token, word, number, bits, digits, text, sign}
use Rattle.oer_model.specs.AsnType.{AsnType}
use Rattle.oer_model.specs.WellFormed.{AnyOf}
use Rattle.oer_notation.specs.Grammar.{IsName, a_name, IsDefined, this_definition, later_definition}
use Rattle.oer_notation.specs.Reading.{Known, find, Start, nothing, of_word, of_name, start_word, start_by}
use Rattle.oer_value_notation.specs.Words.{is_reserved, is_name, reserved, type_word}
use Rattle.oer_value_notation.specs.declared.word.TypeWord.{TypeWord}
use Rattle.oer_value_notation.specs.declared.word.TypeWord.TheVariants as tw
use Rattle.oer_notation.proofs.Took.{chosen, same_bytes}

abbrev pub word_of : TypeWord → List ℕ
word_of (tw.Leaf k) = (words_of k).0
word_of tw.Sequence = codes "SEQUENCE"
word_of tw.Choice = codes "CHOICE"

found_there : (b : Bool) (w : List ℕ) (k : LeafWord) (rest : Option LeafWord) (l : LeafWord) → bytes_eq w (words_of k).0 ≡ b
    → (rest ≡ Some l → w ≡ (words_of l).0) → cond b (Some k) rest ≡ Some l → w ≡ (words_of l).0
found_there true w k rest l e f h = let same : k ≡ l = cc in same_bytes w (words_of k).0 e ∙ ap (λ k. (words_of k).0) same
found_there false w k rest l e f h = f h

looked_up : (ks : List LeafWord) (w : List ℕ) (l : LeafWord) → leaf_among w ks ≡ Some l → w ≡ (words_of l).0
looked_up [] w l h = absurd (cc)
looked_up (k ∷ ks) w l h = found_there (bytes_eq w (words_of k).0) w k (leaf_among w ks) l refl (looked_up ks w l) h

leaf_is : (o : Option LeafWord) (w : List ℕ) (k : TypeWord) → ((l : LeafWord) → o ≡ Some l → w ≡ (words_of l).0)
    → option_map (λ l. tw.Leaf l) o ≡ Some k → w ≡ word_of k
leaf_is None w k f h = absurd (cc)
leaf_is (Some l) w k f h = let same : tw.Leaf l ≡ k = cc in f l refl ∙ ap word_of same

pub type_word_is : (w : List ℕ) (k : TypeWord) → type_word w ≡ Some k → w ≡ word_of k
unfolding type_word leaf_word
type_word_is w k h = elim (chosen (bytes_eq w (codes "SEQUENCE")) _ _ _ h) [
  | inl p ↦ (let same : tw.Sequence ≡ k = cc in same_bytes w (codes "SEQUENCE") p.0 ∙ ap word_of same)
  | inr p ↦ elim (chosen (bytes_eq w (codes "CHOICE")) _ _ _ p.1) [
    | inl p ↦ (let same : tw.Choice ≡ k = cc in same_bytes w (codes "CHOICE") p.0 ∙ ap word_of same)
    | inr p ↦ leaf_is (leaf_among w leaves) w k (looked_up leaves w) p.1
  ]
]

-- ---- the words that are no Names

pub reserved_are : (w : List ℕ) → is_reserved w ≡ list_any (bytes_eq w) reserved
unfolding is_reserved
reserved_are w = refl

not_this : (w v : List ℕ) → bytes_eq w v ≡ false → v ≡ w → ⊥
not_this w v h e = let on = (bytes_eq-Decides w v).1 (sym e) in cc

neither : (b c : Bool) → b || c ≡ false → (b ≡ false) × (c ≡ false)
neither true c h = absurd (cc)
neither false c h = (refl, h)

none_among : (vs : List (List ℕ)) (w : List ℕ) → list_any (bytes_eq w) vs ≡ false → AnyOf (λ v. v ≡ w) vs → ⊥
none_among [] w h a = a
none_among (v ∷ vs) w h (inl e) = not_this w v (neither (bytes_eq w v) (list_any (bytes_eq w) vs) h).0 e
none_among (v ∷ vs) w h (inr a) = none_among vs w (neither (bytes_eq w v) (list_any (bytes_eq w) vs) h).1 a

pub off : (b : Bool) → not b ≡ true → b ≡ false
off true h = absurd (cc)
off false h = refl

pub name_sound : (w : List ℕ) → is_name w ≡ true → IsName w
name_sound [] h = absurd (cc)
name_sound (c ∷ cs) h =
    let p = and_parts _ (not (is_reserved (c ∷ cs))) h in
    a_name p.0 (none_among reserved (c ∷ cs) (sym (reserved_are (c ∷ cs)) ∙ off (is_reserved (c ∷ cs)) p.1))

-- ---- the start of a type

abbrev pub Begun : Start → Option Token → Type 0
Begun nothing o = Unit {0}
Begun (of_word k) o = o ≡ Some (word (word_of k))
Begun (of_name w) o = (o ≡ Some (word w)) × IsName w

by_name : (b : Bool) (w : List ℕ) → is_name w ≡ b → Begun (cond b (of_name w) nothing) (Some (word w))
by_name true w e = (refl, name_sound w e)
by_name false w e = tt

by_word : (o : Option TypeWord) (w : List ℕ) → type_word w ≡ o → Begun (start_word o w) (Some (word w))
by_word None w e = by_name (is_name w) w refl
by_word (Some k) w e = ap (λ w. Some (word w)) (type_word_is w k e)

pub begun : (o : Option Token) → Begun (start_by o) o
begun None = tt
begun (Some (word w)) = by_word (type_word w) w refl
begun (Some (number w)) = tt
begun (Some (bits w)) = tt
begun (Some (digits w)) = tt
begun (Some (text w)) = tt
begun (Some (sign u)) = tt

-- ---- Names that are defined

by_definition : (b : Bool) (k : Known) (ks : List Known) (w : List ℕ) (T : AsnType) → bytes_eq k.name w ≡ b → (find ks w ≡ Some T → IsDefined w T ks) → cond b (Some k.type) (find ks w) ≡ Some T → IsDefined w T (k ∷ ks)
by_definition true k ks w T e f h = subst (λ T. IsDefined w T (k ∷ ks)) (cc) (this_definition {ks = ks} (same_bytes k.name w e))
by_definition false k ks w T e f h = later_definition (λ same. let on = (bytes_eq-Decides k.name w).1 same in cc) (f h)

pub find_sound : (ks : List Known) (w : List ℕ) (T : AsnType) → find ks w ≡ Some T → IsDefined w T ks
find_sound [] w T h = absurd (cc)
find_sound (k ∷ ks) w T h = by_definition (bytes_eq k.name w) k ks w T refl (find_sound ks w T) h

pub find_none : (ks : List Known) (w : List ℕ) → find ks w ≡ None → AnyOf (λ k. k.name ≡ w) ks → ⊥
find_none [] w h a = a
find_none (k ∷ ks) w h a = missed (bytes_eq k.name w) k ks w refl (find_none ks w) h a
  where
    missed : (b : Bool) (k : Known) (ks : List Known) (w : List ℕ) → bytes_eq k.name w ≡ b → (find ks w ≡ None → AnyOf (λ k. k.name ≡ w) ks → ⊥) → cond b (Some k.type) (find ks w) ≡ None → AnyOf (λ k. k.name ≡ w) (k ∷ ks) → ⊥
    missed true k ks w e f h a = absurd (cc)
    missed false k ks w e f h (inl same) = let on = (bytes_eq-Decides k.name w).1 same in cc
    missed false k ks w e f h (inr a) = f h a
