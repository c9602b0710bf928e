-- Names and words that begin types are seen as such.
use Rattle.std.proofs.Common.{◌≡◌, ℕ, List, [], ◌∷◌, true, false, inl, inr, Some, None, refl, sym, ap, ◌∙◌}
use Rattle.std.specs.List.{list_any}
use Rattle.std.specs.Prelude.{codes, ◌++◌}
use Rattle.std.specs.Str.{bytes_eq}
use Rattle.std.proofs.lemmas.Slice.Eq.{bytes_eq-Decides}
use Rattle.oer_lexer.specs.LeafWords.{leaf_among, leaf_word, leaves, second_words, words_among, words_of}
use Rattle.oer_lexer.specs.declared.leaf.LeafWord.{LeafWord}
use Rattle.oer_lexer.specs.declared.leaf.LeafWord.TheVariants as leaf
use Rattle.oer_lexer.specs.Token.{word}
use Rattle.oer_model.specs.AsnType.{AsnType}
use Rattle.oer_model.specs.WellFormed.{AnyOf}
use Rattle.oer_notation.specs.Grammar.{IsName, a_name, IsDefined, this_definition, later_definition}
use Rattle.oer_notation.specs.Reading.{Known, find, of_word, of_name, start_word, start_by, start_at}
use Rattle.oer_value_notation.specs.State.{State, first}
use Rattle.oer_value_notation.specs.Words.{is_reserved, is_name, other_words, reserved, type_word}
use Rattle.oer_value_notation.specs.declared.word.TypeWord.{TypeWord}
use Rattle.oer_value_notation.specs.declared.word.TypeWord.TheVariants as tw
use Rattle.oer_notation.proofs.CompleteValues.{not_word}
use Rattle.oer_notation.proofs.WordTable.{word_of, reserved_are}

none_of_all : (vs : List (List ℕ)) (w : List ℕ) → (AnyOf (λ v. v ≡ w) vs → ⊥) → list_any (bytes_eq w) vs ≡ false
none_of_all [] w h = refl
none_of_all (v ∷ vs) w h = rw (not_word w v (λ e. h (inl (sym e)))) (none_of_all vs w (λ a. h (inr a)))

any_left : (P : List ℕ → Type 0) (vs us : List (List ℕ)) → AnyOf P vs → AnyOf P (vs ++ us)
any_left P [] us a = absurd a
any_left P (v ∷ vs) us (inl p) = inl p
any_left P (v ∷ vs) us (inr a) = inr (any_left P vs us a)

any_right : (P : List ℕ → Type 0) (vs us : List (List ℕ)) → AnyOf P us → AnyOf P (vs ++ us)
any_right P [] us a = a
any_right P (v ∷ vs) us a = inr (any_right P vs us a)

look_none : (ks : List LeafWord) (w : List ℕ) → (AnyOf (λ v. v ≡ w) (words_among ks) → ⊥) → leaf_among w ks ≡ None
look_none [] w h = refl
look_none (k ∷ ks) w h =
    rw (not_word w (words_of k).0 (λ e. h (inl (sym e)))) (look_none ks w (λ a. h (inr (any_right (λ v. v ≡ w) (second_words (words_of k).1) (words_among ks) a))))

no_type : (w : List ℕ) → (AnyOf (λ v. v ≡ w) reserved → ⊥) → type_word w ≡ None
unfolding type_word leaf_word
no_type w free =
    let other : AnyOf (λ v. v ≡ w) other_words → ⊥ = λ a. free (any_right (λ v. v ≡ w) (words_among leaves) other_words a) in
    let a = not_word w (codes "SEQUENCE") (λ e. other (inl (sym e))) in
    let b = not_word w (codes "CHOICE") (λ e. other (inr (inr (inl (sym e))))) in
    let c = look_none leaves w (λ a. free (any_left (λ v. v ≡ w) (words_among leaves) other_words a)) in
    rw (a, b, c) refl

pub name_test : {w : List ℕ} → IsName w → (is_name w ≡ true) × (type_word w ≡ None)
name_test (a_name {c} {cs} big free) =
    let r : is_reserved (c ∷ cs) ≡ false = reserved_are (c ∷ cs) ∙ none_of_all reserved (c ∷ cs) free in
    (rw (big, r) refl, no_type (c ∷ cs) free)

pub start_name : {w : List ℕ} → IsName w → (s : State) → first s ≡ Some (word w) → start_at s ≡ of_name w
unfolding start_at
start_name n s e = let t = name_test n in rw (e, t.1, t.0) refl

leaf_begins : (k : LeafWord) → type_word (words_of k).0 ≡ Some (tw.Leaf k)
unfolding type_word leaf_word
leaf_begins leaf.Boolean = refl
leaf_begins _ = refl

word_begins : (k : TypeWord) → start_by (Some (word (word_of k))) ≡ of_word k
unfolding type_word
word_begins (tw.Leaf k) = ap (λ o. start_word o (words_of k).0) (leaf_begins k)
word_begins tw.Sequence = refl
word_begins tw.Choice = refl

pub start_word_of : (k : TypeWord) (s : State) → first s ≡ Some (word (word_of k)) → start_at s ≡ of_word k
unfolding start_at
start_word_of k s e = ap start_by e ∙ word_begins k

pub find_given : {w : List ℕ} {T : AsnType} {ks : List Known} → IsDefined w T ks → find ks w ≡ Some T
find_given {w} (this_definition {k} {ks} e) = rw ((bytes_eq-Decides k.name w).1 e) refl
find_given {w} (later_definition {T} {k} {ks} n d) = rw (not_word k.name w n) (find_given d)
