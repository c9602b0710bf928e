-- Tokens that a printer puts out, one after the other.
use Rattle.std.proofs.Common.{◌≡◌, ℕ, ◌<◌, ◌≤◌, List, [], ◌∷◌, ◌++◌, length, map, Option, Vec, Global, Bool, true, false, ◌==◌, ◌||◌, ◌&&◌, Some, None, Result, Ok, Err, refl, sym, ap, ap₂, ◌∙◌, lt-ltb, append_assoc, append-nil}
use Rattle.std.specs.Prelude.{IfOk}
use Rattle.std.specs.declared.alloc.AllocError.{AllocError}
use Rattle.std.proofs.lemmas.Bool.{le-ltb}
use Rattle.oer_lexer.specs.LeafWords.{behind_second, with_words, words_of}
use Rattle.oer_lexer.specs.declared.leaf.LeafWord.{LeafWord}
use Rattle.oer_lexer.specs.Token.{Token, word, number, bits, digits, text, sign}
use Rattle.oer_lexer.specs.declared.token.Sign.TheVariants.{OpenBrace, CloseBrace, OpenParenthesis, CloseParenthesis, OpenBracket, CloseBracket, Comma, Range, Ellipsis, Assign}
use Rattle.oer_model.specs.AsnType.{AsnType, Alternatives, no_alternatives}
use Rattle.oer_values.specs.ShapeView.{choice_with, fields_of, later_of, named_number, root_of, seen_alternative}
use Rattle.oer_values.specs.declared.shape.Alt.{Alt}
use Rattle.oer_values.specs.declared.shape.Field.{Field}
use Rattle.oer_values.specs.declared.shape.Item.{Item}
use Rattle.oer_printer.specs.Printer.{Written, Puts, alternative_part, are_apart, comma_unless, edge_of, is_plain_edge, is_word_edge, is_opening_edge, is_parenthesis_edge, joined_from, marker_behind, run, step, written}
use Rattle.oer_printer.specs.Printing.{after_commas, alternatives_have_notation, behind, component_tokens, field_parts, has_notation, in_braces, is_apart, is_plain, is_tight, is_visible, is_word, item_tokens, joined, later_parts, marker, printed, root_parts, space_if, spaced, token_text, type_tokens}
use Rattle.oer_printer.specs.declared.printer.Edge.TheVariants as edge
use Rattle.oer_printer.specs.declared.printer.Printer.{Printer}
use Rattle.oer_literals.proofs.Lists.{no_zero}

pub run_append : (w : Written) (xs ys : List Token) → run w (xs ++ ys) ≡ run (run w xs) ys
run_append w [] ys = refl
run_append w (x ∷ xs) ys = run_append (step w x) xs ys

-- the words of a type, and what stands behind them
second_first : (w : Written) (o : Option (List ℕ)) (ts : List Token) → run (run w (behind_second o [])) ts ≡ run w (behind_second o ts)
second_first w None ts = refl
second_first w (Some v) ts = refl

pub words_first : (w : Written) (k : LeafWord) (ts : List Token) → run (run w (with_words k [])) ts ≡ run w (with_words k ts)
words_first w k ts = second_first (step w (word (words_of k).0)) (words_of k).1 ts

-- ---- parts with commas between them

-- one part more behind a comma
pub part_step : (w w₁ w₂ : Written) (p : List Token) (ps : List (List Token)) → w₁ ≡ step w (sign Comma) → w₂ ≡ run w₁ p → run w (after_commas (p ∷ ps)) ≡ run w₂ (after_commas ps)
part_step w w₁ w₂ p ps h k =
    run_append (step w (sign Comma)) p (after_commas ps)
    ∙ ap (λ v. run v (after_commas ps)) (ap (λ v. run v p) (sym h) ∙ sym k)

-- one part more, behind a comma unless it is the first
pub joined_step : (first : Bool) (w w₁ w₂ : Written) (p : List Token) (ps : List (List Token)) → w₁ ≡ run w (comma_unless first) → w₂ ≡ run w₁ p → run w (joined_from first (p ∷ ps)) ≡ run w₂ (joined_from false ps)
joined_step true w w₁ w₂ p ps h k =
    run_append w p (after_commas ps)
    ∙ ap (λ v. run v (after_commas ps)) (ap (λ v. run v p) (sym h) ∙ sym k)
joined_step false w w₁ w₂ p ps h k = part_step w w₁ w₂ p ps h k

-- a component without OPTIONAL or DEFAULT
pub component_step : (w w₁ w₂ w₃ : Written) (name : List ℕ) (type : List Token) (ps : List (List Token)) → w₁ ≡ step w (sign Comma) → w₂ ≡ step w₁ (word name) → w₃ ≡ run w₂ type
    → run w (after_commas (component_tokens name type [] ∷ ps)) ≡ run w₃ (after_commas ps)
component_step w w₁ w₂ w₃ name type ps h k t =
    part_step w w₁ w₃ (component_tokens name type []) ps h (t ∙ ap (λ v. run v type) k ∙ ap (λ ts. run w₁ (word name ∷ ts)) (sym (append-nil type)))

after_append : (ps qs : List (List Token)) → after_commas (ps ++ qs) ≡ after_commas ps ++ after_commas qs
after_append [] qs = refl
after_append (p ∷ ps) qs = ap (λ ts. sign Comma ∷ ts) (ap (λ ts. p ++ ts) (after_append ps qs) ∙ sym (append_assoc p (after_commas ps) (after_commas qs)))

abbrev pub is_none : {A : Type 0} → List A → Bool
is_none [] = true
is_none (x ∷ xs) = false

joined_marked : (w : Written) (ps qs : List (List Token)) → run w (joined (ps ++ marker ∷ qs)) ≡ run (run (run w (joined ps)) (marker_behind (is_none ps))) (after_commas qs)
joined_marked w [] qs = refl
joined_marked w (p ∷ ps) qs =
    ap (λ ts. run w (p ++ ts)) (after_append ps (marker ∷ qs))
    ∙ ap (run w) (sym (append_assoc p (after_commas ps) (after_commas (marker ∷ qs))))
    ∙ run_append w (p ++ after_commas ps) (after_commas (marker ∷ qs))

-- parts, the marker and more parts
pub marked : (w w₁ w₂ w₃ : Written) (first : Bool) (ps qs : List (List Token)) → w₁ ≡ run w (joined ps) → w₂ ≡ run w₁ (marker_behind first) → w₃ ≡ run w₂ (after_commas qs) → first ≡ is_none ps
    → w₃ ≡ run w (joined (ps ++ marker ∷ qs))
marked w w₁ w₂ w₃ first ps qs h k l e =
    l
    ∙ ap (λ v. run v (after_commas qs)) (k ∙ ap₂ (λ v b. run v (marker_behind b)) h e)
    ∙ sym (joined_marked w ps qs)

-- a word and parts in braces
pub wrapped : (w w₁ w₂ : Written) (t : Token) (ps : List (List Token)) → w₁ ≡ run w (t ∷ sign OpenBrace ∷ []) → w₂ ≡ run w₁ (joined ps) → step w₂ (sign CloseBrace) ≡ run w (t ∷ in_braces ps)
wrapped w w₁ w₂ t ps h k =
    ap (λ v. step v (sign CloseBrace)) (k ∙ ap (λ v. run v (joined ps)) h)
    ∙ sym (run_append (run w (t ∷ sign OpenBrace ∷ [])) (joined ps) (sign CloseBrace ∷ []))

-- the last token of all
pub puts_last : (ts : List Token) (t : Token) (old middle new : Printer) (r : Result (Unit {0}) AllocError) → IfOk r (λ x. written new ≡ step (written middle) t) → step (written middle) t ≡ run (written old) ts → Puts ts old r new
puts_last ts t old middle new (Ok x) h e = h ∙ e
puts_last ts t old middle new (Err x) h e = tt

pub no_items : (is : List Item) → (length is == 0) ≡ is_none (map item_tokens (map named_number is))
no_items [] = refl
no_items (i ∷ is) = no_zero (length is)

pub no_field_parts : (fs : List Field) → (length fs == 0) ≡ is_none (field_parts (fields_of fs))
no_field_parts [] = refl
no_field_parts (f ∷ fs) = no_zero (length fs)

pub no_root_parts : (alts : List Alt) → (length alts == 0) ≡ is_none (root_parts (root_of alts no_alternatives))
no_root_parts [] = refl
no_root_parts (a ∷ alts) = no_zero (length alts)

-- ---- alternatives before the marker and behind it

pub parts_before : (alts : List Alt) (after : Alternatives) → root_parts (root_of alts after) ≡ root_parts (root_of alts no_alternatives) ++ root_parts after
parts_before [] after = refl
parts_before (a ∷ alts) after = ap (λ ps. alternative_part (seen_alternative a) ∷ ps) (parts_before alts after)

none_before : (alts : List Alt) → root_parts (later_of alts) ≡ []
none_before [] = refl
none_before (a ∷ alts) = none_before alts

parts_behind : (alts : List Alt) (after : Alternatives) → later_parts (root_of alts after) ≡ later_parts after
parts_behind [] after = refl
parts_behind (a ∷ alts) after = parts_behind alts after

same_parts : (alts : List Alt) → later_parts (later_of alts) ≡ root_parts (root_of alts no_alternatives)
same_parts [] = refl
same_parts (a ∷ alts) = ap (λ ps. alternative_part (seen_alternative a) ∷ ps) (same_parts alts)

pub choice_parts : (root more : List Alt) → root_parts (root_of root (later_of more)) ++ (marker ∷ later_parts (root_of root (later_of more))) ≡ root_parts (root_of root no_alternatives) ++ marker ∷ root_parts (root_of more no_alternatives)
choice_parts root more =
    ap₂ (λ ps qs. ps ++ marker ∷ qs)
    (parts_before root (later_of more) ∙ ap (λ ps. root_parts (root_of root no_alternatives) ++ ps) (none_before more) ∙ append-nil (root_parts (root_of root no_alternatives)))
    (parts_behind root (later_of more) ∙ same_parts more)

pub plain_choice_parts : (root : List Alt) → root_parts (root_of root no_alternatives) ++ later_parts (root_of root no_alternatives) ≡ root_parts (root_of root no_alternatives)
plain_choice_parts root = ap (λ ps. root_parts (root_of root no_alternatives) ++ ps) (parts_behind root no_alternatives) ∙ append-nil (root_parts (root_of root no_alternatives))

and_assoc : (a b c : Bool) → (a && b) && c ≡ a && (b && c)
and_assoc true b c = refl
and_assoc false b c = refl

pub notation_of_root : (alts : List Alt) (after : Alternatives) → alternatives_have_notation (root_of alts after) ≡ alternatives_have_notation (root_of alts no_alternatives) && alternatives_have_notation after
notation_of_root [] after = refl
notation_of_root (a ∷ alts) after = ap (λ b. has_notation (seen_alternative a).type && b) (notation_of_root alts after) ∙ sym (and_assoc (has_notation (seen_alternative a).type) (alternatives_have_notation (root_of alts no_alternatives)) (alternatives_have_notation after))

pub notation_of_later : (alts : List Alt) → alternatives_have_notation (later_of alts) ≡ alternatives_have_notation (root_of alts no_alternatives)
notation_of_later [] = refl
notation_of_later (a ∷ alts) = ap (λ b. has_notation (seen_alternative a).type && b) (notation_of_later alts)

-- ---- spaces

word_edge : (w : List ℕ) (tight : Bool) → is_tight (word w) ≡ tight → (is_plain_edge (edge_of (word w)) ≡ true) × (is_word_edge (edge_of (word w)) ≡ true) × (is_opening_edge (edge_of (word w)) ≡ false) × (is_parenthesis_edge (edge_of (word w)) ≡ false)
word_edge w true h = rw h (refl, refl, refl, refl)
word_edge w false h = rw h (refl, refl, refl, refl)

plain_edge : (u : Token) → is_plain_edge (edge_of u) ≡ is_plain u || false
plain_edge (word w) = (word_edge w (is_tight (word w)) refl).0
plain_edge (number w) = refl
plain_edge (bits w) = refl
plain_edge (digits w) = refl
plain_edge (text w) = refl
plain_edge (sign OpenBrace) = refl
plain_edge (sign CloseBrace) = refl
plain_edge (sign OpenParenthesis) = refl
plain_edge (sign CloseParenthesis) = refl
plain_edge (sign OpenBracket) = refl
plain_edge (sign CloseBracket) = refl
plain_edge (sign Comma) = refl
plain_edge (sign Range) = refl
plain_edge (sign Ellipsis) = refl
plain_edge (sign Assign) = refl

behind_closing : (u : Token) → is_word_edge (edge_of u) ≡ is_word u
behind_closing (word w) = (word_edge w (is_tight (word w)) refl).1
behind_closing (number w) = refl
behind_closing (bits w) = refl
behind_closing (digits w) = refl
behind_closing (text w) = refl
behind_closing (sign OpenBrace) = refl
behind_closing (sign CloseBrace) = refl
behind_closing (sign OpenParenthesis) = refl
behind_closing (sign CloseParenthesis) = refl
behind_closing (sign OpenBracket) = refl
behind_closing (sign CloseBracket) = refl
behind_closing (sign Comma) = refl
behind_closing (sign Range) = refl
behind_closing (sign Ellipsis) = refl
behind_closing (sign Assign) = refl

behind_word : (v : List ℕ) (tight : Bool) → is_tight (word v) ≡ tight → (u : Token) → are_apart (edge_of (word v)) (edge_of u) ≡ is_apart (word v) u
unfolding is_apart
behind_word v true h (word w) = rw (h, (word_edge w (is_tight (word w)) refl).0) refl
behind_word v true h (number w) = rw h refl
behind_word v true h (bits w) = rw h refl
behind_word v true h (digits w) = rw h refl
behind_word v true h (text w) = rw h refl
behind_word v true h (sign OpenBrace) = rw h refl
behind_word v true h (sign CloseBrace) = rw h refl
behind_word v true h (sign OpenParenthesis) = rw h refl
behind_word v true h (sign CloseParenthesis) = rw h refl
behind_word v true h (sign OpenBracket) = rw h refl
behind_word v true h (sign CloseBracket) = rw h refl
behind_word v true h (sign Comma) = rw h refl
behind_word v true h (sign Range) = rw h refl
behind_word v true h (sign Ellipsis) = rw h refl
behind_word v true h (sign Assign) = rw h refl
behind_word v false h (word w) = rw (h, (word_edge w (is_tight (word w)) refl).0) refl
behind_word v false h (number w) = rw h refl
behind_word v false h (bits w) = rw h refl
behind_word v false h (digits w) = rw h refl
behind_word v false h (text w) = rw h refl
behind_word v false h (sign OpenBrace) = rw h refl
behind_word v false h (sign CloseBrace) = rw h refl
behind_word v false h (sign OpenParenthesis) = rw h refl
behind_word v false h (sign CloseParenthesis) = rw h refl
behind_word v false h (sign OpenBracket) = rw h refl
behind_word v false h (sign CloseBracket) = rw h refl
behind_word v false h (sign Comma) = rw h refl
behind_word v false h (sign Range) = rw h refl
behind_word v false h (sign Ellipsis) = rw h refl
behind_word v false h (sign Assign) = rw h refl

edges : (t u : Token) → are_apart (edge_of t) (edge_of u) ≡ is_apart t u
unfolding is_apart
edges (word v) u = behind_word v (is_tight (word v)) refl u
edges (number v) u = plain_edge u
edges (bits v) u = plain_edge u
edges (digits v) u = plain_edge u
edges (text v) u = plain_edge u
edges (sign OpenBrace) u = refl
edges (sign CloseBrace) u = behind_closing u
edges (sign OpenParenthesis) u = refl
edges (sign CloseParenthesis) u = behind_closing u
edges (sign OpenBracket) u = refl
edges (sign CloseBracket) u = behind_closing u
edges (sign Comma) u = refl
edges (sign Range) u = refl
edges (sign Ellipsis) u = refl
edges (sign Assign) u = refl

placed : (out : List ℕ) (t : Token) (ts : List Token) → (run (out, edge_of t) ts).0 ≡ out ++ behind t ts
placed out t [] = sym (append-nil out)
placed out t (u ∷ us) =
    placed ((out ++ space_if (are_apart (edge_of t) (edge_of u))) ++ token_text u) u us
    ∙ ap (λ b. ((out ++ space_if b) ++ token_text u) ++ behind u us) (edges t u)
    ∙ append_assoc (out ++ space_if (is_apart t u)) (token_text u) (behind u us)
    ∙ append_assoc out (space_if (is_apart t u)) (token_text u ++ behind u us)

whole : (ts : List Token) → (run ([], edge.Other) ts).0 ≡ spaced ts
whole [] = refl
whole (t ∷ ts) = placed (token_text t) t ts

pub printed_some : (T : AsnType) (w : Written) → has_notation T ≡ true → w ≡ run ([], edge.Other) (type_tokens T) → printed T ≡ Some w.0
printed_some T w h e = rw h (ap Some (sym (ap (λ v. v.0) e ∙ whole (type_tokens T))))

-- ---- characters

pub hidden : (c : ℕ) (cs : List ℕ) → c < 32 → is_visible (c ∷ cs) ≡ false
hidden c cs h = rw (lt-ltb c 32 h) refl

pub shown : (c : ℕ) (cs : List ℕ) → 32 ≤ c → is_visible (c ∷ cs) ≡ is_visible cs
shown c cs h = rw (le-ltb c 32 h) refl

-- ---- a CHOICE of which an alternative has no notation

pub choice_refused : (root : List Alt) (additions : Option (Vec Alt Global)) → alternatives_have_notation (root_of root no_alternatives) ≡ false → has_notation (choice_with root additions) ≡ false
choice_refused root None h = h
choice_refused root (Some more) h = notation_of_root root (later_of more.items) ∙ rw h refl
