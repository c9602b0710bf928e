-- Items and tags that are spelt are read, and the markers between the elements of lists.
use Rattle.std.proofs.Common.{◌≡◌, ℕ, zero, suc, ◌+◌, ◌≤◌, ℤ, List, [], ◌∷◌, ◌++◌, length, Bool, true, false, inl, inr, Some, Ok, refl, sym, ap, ◌∙◌, append_assoc, append-nil, arith}
use Rattle.std.specs.Prelude.{codes}
use Rattle.oer_lexer.specs.Token.{Token, word, number, sign}
use Rattle.oer_lexer.specs.declared.token.Sign.TheVariants.{OpenBrace, CloseBrace, OpenParenthesis, CloseParenthesis, CloseBracket, Comma, Ellipsis}
use Rattle.oer_units.specs.declared.tagging.Class.{Class}
use Rattle.oer_units.specs.declared.tagging.Class.TheVariants.{Universal, Application, Private}
use Rattle.oer_units.specs.declared.tagging.Tag.{Tag}
use Rattle.oer_model.specs.AsnType.{NamedNumber}
use Rattle.oer_notation.specs.Grammar.{IsId, IsItemNumber, own_number, number_by_place, AreItems, no_items, item, items_marker, IsClass, universal, application, private, context, IsTag, own_tag, tag_by_place, MayBeOptional, plain_addition, optional_addition}
use Rattle.oer_literals.specs.Numbers.{item_number_of, tag_number_of}
use Rattle.oer_value_notation.specs.Numbers.{number_at}
use Rattle.oer_value_notation.specs.State.{State, Read, first, bump, is_sign, at_sign, skip_sign, full}
use Rattle.oer_notation.specs.Reading.{past_marker, go_on, item_number_at, numbered_at, item_at, items_more, items_at, most, class_at, tag_at, tagged_at, past_optional}
use Rattle.oer_notation.proofs.Comes.{Comes, done, front, sole, split, less, counted, part_given, id_given, Follows, Commas, follows, before, before_comes}
use Rattle.oer_notation.proofs.CompleteNumbers.{Reads, item_number_reads, tag_number_reads, number_given}
use Rattle.oer_notation.proofs.CompleteValues.{no_sign, no_word}

-- ---- markers

pub pass_end : (s : State) → first s ≡ Some (sign CloseBrace) → past_marker false s ≡ (false, s)
pass_end s e = rw e refl

pub pass_comma : (s : State) (w : List ℕ) → first s ≡ Some (sign Comma) → first (bump s) ≡ Some (word w) → past_marker false s ≡ (false, s)
pass_comma s w e f = rw (e, f) refl

pub pass_dots : (s : State) → first s ≡ Some (sign Comma) → first (bump s) ≡ Some (sign Ellipsis) → past_marker false s ≡ (true, bump (bump s))
pass_dots s e f = rw (e, f) refl

pub go_end : {A : Type 0} (more : A → State → Read A) (found : A) (s : State) → first s ≡ Some (sign CloseBrace) → go_on more found s ≡ Ok (found, s)
go_end more found s e = rw e refl

pub go_more : {A : Type 0} (more : A → State → Read A) (found : A) (s : State) → first s ≡ Some (sign Comma) → go_on more found s ≡ more found (bump s)
go_more more found s e = rw e refl

-- ---- items

item_number_given : {z : ℤ} {t : Token} (s u : State) → Reads item_number_of z t → Comes s u 0 (sign OpenParenthesis ∷ t ∷ sign CloseParenthesis ∷ []) → item_number_at s ≡ Ok (z, u)
unfolding item_number_at skip_sign
item_number_given {z} {t} s u r c =
    let a = front c in
    let b = front a.1 in
    let e = sole b.1 in
    let x = number_given item_number_of z t (bump s) r b.0 in
    rw (a.0, x, e.0) (ap (λ u. Ok (z, u)) e.1)

numbered_given : {numbered : Bool} {place : ℕ} {z : ℤ} {ts : List Token} → IsItemNumber numbered place z ts → (s u : State) → Comes s u 0 ts → Follows u → numbered_at numbered place s ≡ Ok (z, u)
unfolding numbered_at
numbered_given (own_number d) s u c f = item_number_given s u (item_number_reads d) c
numbered_given (number_by_place {place}) s u c f = rw (done c, no_sign OpenParenthesis u refl refl f) refl

item_given : {numbered : Bool} {place : ℕ} {w : List ℕ} {z : ℤ} {ts : List Token} → IsId w → IsItemNumber numbered place z ts → (s u : State) → Comes s u 1 (word w ∷ ts) → Follows u
    → item_at numbered place s ≡ Ok (record { name = w; number = z }, u)
unfolding item_at
item_given {numbered} {place} {w} {z} i d s u c f =
    let a = front c in
    let p = part_given {n = 0} (full s) a.1 in
    let n = numbered_given d (less (bump s)) u (counted {n = 0} a.1) f in
    rw (id_given s i a.0, p, n) refl

items_commas : {numbered : Bool} {place : ℕ} {is : List NamedNumber} {marker : Bool} {ts : List Token} → AreItems numbered place is marker ts → Commas ts
items_commas no_items = inl refl
items_commas (item i d m) = inr (_, refl)
items_commas (items_marker m) = inr (_, refl)

items_step : (numbered : Bool) (n place : ℕ) (found : List NamedNumber) (s u : State) (i : NamedNumber) → item_at numbered place s ≡ Ok (i, u)
    → items_more numbered (suc n) place (found, false) s ≡ go_on (items_more numbered n (place + 1)) (found ++ i ∷ [], (past_marker false u).0) (past_marker false u).1
unfolding items_more
items_step numbered n place found s u i e = rw e refl

marked_step : (numbered : Bool) (n place : ℕ) (found : List NamedNumber) (s u : State) (i : NamedNumber) → item_at numbered place s ≡ Ok (i, u)
    → items_more numbered (suc n) place (found, true) s ≡ go_on (items_more numbered n (place + 1)) (found ++ i ∷ [], true) u
unfolding items_more
marked_step numbered n place found s u i e = rw e refl

-- behind the marker
marked_given : {numbered : Bool} {place : ℕ} {is : List NamedNumber} {marker : Bool} {ts : List Token} → AreItems numbered place is marker ts → marker ≡ false → (n : ℕ) → length is ≤ n → (found : List NamedNumber) (s t : State)
    → Comes s t (length is) ts → first t ≡ Some (sign CloseBrace) → go_on (items_more numbered n place) (found, true) s ≡ Ok ((found ++ is, true), t)
marked_given {numbered} (no_items {place}) plain n l found s t c e =
    ap (go_on (items_more numbered n place) (found, true)) (done c) ∙ go_end (items_more numbered n place) (found, true) t e ∙ ap (λ x. Ok ((x, true), t)) (sym (append-nil found))
marked_given (items_marker m) plain n l found s t c e = absurd (cc)
marked_given (item i d m) plain zero l found s t c e = absurd (omega arith)
marked_given {numbered} (item {place} {w} {z} {items} {marker} {ts} {us} i d m) plain (suc n) l found s t c e =
    let x : NamedNumber = record { name = w; number = z } in
    let a = front c in
    let b = split 1 (length items) (word w ∷ ts) us (omega arith) a.1 in
    let f = follows (items_commas m) b.right e in
    let r = item_given i d (bump s) b.middle b.left f in
    go_more (items_more numbered (suc n) place) (found, true) s a.0 ∙ marked_step numbered n place found (bump s) b.middle x r
    ∙ marked_given m plain n (omega arith) (found ++ x ∷ []) b.middle t b.right e ∙ ap (λ y. Ok ((y, true), t)) (append_assoc found (x ∷ []) items)

pub items_given : {numbered : Bool} {place : ℕ} {is : List NamedNumber} {marker : Bool} {ts : List Token} → AreItems numbered place is marker ts → (n : ℕ) → length is ≤ n → (found : List NamedNumber) (s t : State)
    → Comes s t (length is) ts → first t ≡ Some (sign CloseBrace) → go_on (items_more numbered n place) (found, (past_marker false s).0) (past_marker false s).1 ≡ Ok ((found ++ is, marker), t)
items_given {numbered} (no_items {place}) n l found s t c e =
    ap (λ s. go_on (items_more numbered n place) (found, (past_marker false s).0) (past_marker false s).1) (done c) ∙ ap (λ q. go_on (items_more numbered n place) (found, q.0) q.1) (pass_end t e)
    ∙ go_end (items_more numbered n place) (found, false) t e ∙ ap (λ x. Ok ((x, false), t)) (sym (append-nil found))
items_given {numbered} (items_marker {place} m) n l found s t c e =
    let a = front c in
    let b = front a.1 in
    ap (λ q. go_on (items_more numbered n place) (found, q.0) q.1) (pass_dots s a.0 b.0) ∙ marked_given m refl n l found (bump (bump s)) t b.1 e
items_given (item i d m) zero l found s t c e = absurd (omega arith)
items_given {numbered} (item {place} {w} {z} {items} {marker} {ts} {us} i d m) (suc n) l found s t c e =
    let x : NamedNumber = record { name = w; number = z } in
    let a = front c in
    let w_first = front a.1 in
    let b = split 1 (length items) (word w ∷ ts) us (omega arith) a.1 in
    let f = follows (items_commas m) b.right e in
    let r = item_given i d (bump s) b.middle b.left f in
    ap (λ q. go_on (items_more numbered (suc n) place) (found, q.0) q.1) (pass_comma s w a.0 w_first.0) ∙ go_more (items_more numbered (suc n) place) (found, false) s a.0
    ∙ items_step numbered n place found (bump s) b.middle x r ∙ items_given m n (omega arith) (found ++ x ∷ []) b.middle t b.right e ∙ ap (λ y. Ok ((y, marker), t)) (append_assoc found (x ∷ []) items)

-- whether the first item has a number in brackets
items_flag : {numbered marker : Bool} {is : List NamedNumber} {w : List ℕ} {ts : List Token} {n : ℕ} (s t : State) → AreItems numbered 0 is marker (sign Comma ∷ word w ∷ ts) → Comes s t n (word w ∷ ts) → first t ≡ Some (sign CloseBrace)
    → at_sign OpenParenthesis (bump s) ≡ numbered
items_flag s t (item i (own_number d) m) c e = ap (is_sign OpenParenthesis) (front (front c).1).0
items_flag s t (item i number_by_place m) c e = no_sign OpenParenthesis (bump s) refl refl (follows (items_commas m) (front c).1 e)

pub items_at_given : {numbered marker : Bool} {is : List NamedNumber} {w : List ℕ} {ts : List Token} → AreItems numbered 0 is marker (sign Comma ∷ word w ∷ ts) → length is ≤ most → (s t : State)
    → Comes s t (length is) (sign OpenBrace ∷ word w ∷ (ts ++ sign CloseBrace ∷ [])) → items_at s ≡ Ok ((is, marker), t)
unfolding items_at skip_sign
items_at_given {numbered} {marker} {is} {w} {ts} d l s t c =
    let a = front c in
    let m = split (length is) 0 (word w ∷ ts) (sign CloseBrace ∷ []) (omega arith) a.1 in
    let e = sole m.right in
    let flag = items_flag (bump s) m.middle d m.left e.0 in
    let f = front m.left in
    let all = items_given d most l [] (before (bump s)) m.middle (before_comes m.left) e.0 in
    let pass = pass_comma (before (bump s)) w refl f.0 in
    let found : items_more numbered most 0 ([], false) (bump s) ≡ Ok ((is, marker), m.middle) = sym (ap (λ q. go_on (items_more numbered most 0) ([], q.0) q.1) pass ∙ go_more (items_more numbered most 0) ([], false) (before (bump s)) refl) ∙ all in
    rw (a.0, flag, found, e.0) (ap (λ t. Ok ((is, marker), t)) e.1)

-- ---- tags

class_given : {class : Class} {ts : List Token} → IsClass class ts → (s u : State) → Comes s u 0 ts → (w : List ℕ) → first u ≡ Some (number w) → class_at s ≡ (class, u)
class_given universal s u c w e = let f = sole c in rw f.0 (ap (λ u. (Universal, u)) f.1)
class_given application s u c w e = let f = sole c in rw f.0 (ap (λ u. (Application, u)) f.1)
class_given private s u c w e = let f = sole c in rw f.0 (ap (λ u. (Private, u)) f.1)
class_given context s u c w e = rw (done c, e) refl

tag_step : (s u : State) (class : Class) (n : ℕ) (v : State) → class_at s ≡ (class, u) → number_at tag_number_of u ≡ Ok (n, v) → first v ≡ Some (sign CloseBracket) → tag_at s ≡ Ok (record { class = class; number = n }, bump v)
unfolding tag_at skip_sign
tag_step s u class n v a b e = rw (a, b, e) refl

pub tagged_given : {tagged : Bool} {place : ℕ} {t : Tag} {ts : List Token} → IsTag tagged place t ts → (s u : State) → Comes s u 0 ts → (w : List ℕ) → first u ≡ Some (word w) → tagged_at tagged place s ≡ Ok (t, u)
unfolding tagged_at
tagged_given (own_tag {place} {n} {class} {ts} {t = k} d m) s u c w e =
    let a = front c in
    let b = split 0 0 ts (k ∷ sign CloseBracket ∷ []) refl a.1 in
    let x = front b.right in
    let z = sole x.1 in
    let r = tag_number_reads m in
    let y = tag_step (bump s) b.middle class n (bump b.middle) (class_given d (bump s) b.middle b.left r.0 (x.0 ∙ ap Some r.1)) (number_given tag_number_of n k b.middle r x.0) z.0 in
    rw (a.0, y) (ap (λ u. Ok (record { class = class; number = n }, u)) z.1)
tagged_given (tag_by_place {place}) s u c w e = rw (done c, e) refl

pub optional_given : {ts : List Token} → MayBeOptional ts → (s u : State) → Comes s u 0 ts → Follows u → past_optional s ≡ u
optional_given plain_addition s u c f = rw (done c, no_word (codes "OPTIONAL") u f) refl
optional_given optional_addition s u c f = let e = sole c in rw e.0 e.1
