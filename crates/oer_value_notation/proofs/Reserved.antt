-- The test for the words that are no Names.
use Rattle.std.proofs.Common.{◌≡◌, ℕ, List, [], ◌∷◌, Bool, true, false, ◌||◌, Option, Some, None, refl, sym, ap, ◌∙◌}
use Rattle.std.specs.Prelude.{◌++◌}
use Rattle.std.specs.List.{list_any}
use Rattle.std.specs.Str.{bytes_eq}
use Rattle.oer_lexer.specs.LeafWords.{is_leaf_word, is_second, is_word_of, leaves, second_words, words_among, words_of}
use Rattle.oer_lexer.specs.declared.leaf.LeafWord.{LeafWord}
use Rattle.oer_value_notation.specs.Words.{is_reserved, other_words}

or_assoc : (a b c : Bool) → (a || b) || c ≡ a || (b || c)
or_assoc true b c = refl
or_assoc false b c = refl

any_append : (p : List ℕ → Bool) (vs us : List (List ℕ)) → list_any p (vs ++ us) ≡ list_any p vs || list_any p us
any_append p [] us = refl
any_append p (v ∷ vs) us = ap (λ b. p v || b) (any_append p vs us) ∙ sym (or_assoc (p v) (list_any p vs) (list_any p us))

any_second : (w : List ℕ) (o : Option (List ℕ)) (us : List (List ℕ)) → list_any (bytes_eq w) (second_words o ++ us) ≡ is_second w o || list_any (bytes_eq w) us
any_second w None us = refl
any_second w (Some v) us = refl

any_words : (w : List ℕ) (ks : List LeafWord) → list_any (bytes_eq w) (words_among ks) ≡ list_any (is_word_of w) ks
any_words w [] = refl
any_words w (k ∷ ks) =
    ap (λ b. bytes_eq w (words_of k).0 || b) (any_second w (words_of k).1 (words_among ks) ∙ ap (λ b. is_second w (words_of k).1 || b) (any_words w ks))
    ∙ sym (or_assoc (bytes_eq w (words_of k).0) (is_second w (words_of k).1) (list_any (is_word_of w) ks))

pub reserved_test : (w : List ℕ) → is_reserved w ≡ is_leaf_word w || list_any (bytes_eq w) other_words
unfolding is_reserved is_leaf_word
reserved_test w = any_append (bytes_eq w) (words_among leaves) other_words ∙ ap (λ b. b || list_any (bytes_eq w) other_words) (any_words w leaves)
