-- What an index has after additions.
use Rattle.std.proofs.Common.{◌≡◌, ◌<◌, ◌≤◌, ◌+◌, ℕ, Bool, true, false, cond, List, [], ◌∷◌, ◌++◌, drop, length, map, get_or, drop-cons, add-one, unwrap_or, Some, take, refl, sym, subst, ap, ◌∙◌}
use Rattle.std.proofs.lemmas.Slice.Eq.{bytes_eq-Decides}
use Rattle.std.specs.BTreeMap.{get_by, is_at}
use Rattle.std.specs.Cmp.Lexicographic.{slice_cmp}
use Rattle.std.specs.Map.{lookup, update}
use Rattle.std.specs.Ordering.{nat_cmp}
use Rattle.std.specs.Str.{bytes_eq}
use denote.Ref.{Bor}
use Rattle.std.proofs.Math.ListN.{drop_of_length-le}
use Rattle.std.proofs.lemmas.List.{take_all}
use Rattle.oer_module_syntax.specs.Tree.{Import, assignment_of, import_of, module_of, symbol_of}
use Rattle.oer_module_syntax.specs.declared.tree.Assignment.{Assignment as RawAssignment}
use Rattle.oer_module_syntax.specs.declared.tree.Import.{Import as RawImport}
use Rattle.oer_module_syntax.specs.declared.tree.Module.{Module as RawModule}
use Rattle.oer_module_syntax.specs.declared.tree.Symbol.{Symbol as RawSymbol}
use Rattle.oer_module_names.proofs.Adding.{sole_more}
use Rattle.oer_module_names.specs.Indexed.{Extends, IsIndexOf, held}
use Rattle.oer_module_names.specs.Sole.{Entry, each, first_of, numbered, sole, sole_from, with_number}
use Rattle.oer_module_names.specs.Tables.{assigners_from, assignment_names, imports_from, module_names, source_names, symbol_names}
use Rattle.oer_module_names.specs.declared.index.Index.{Index}
use Rattle.oer_module_names.specs.declared.index.Sole.{Sole}
use Rattle.oer_module_names.specs.declared.index.Sole.TheVariants.{Nothing}

-- an empty index
pub empty_index : (x : Index) → x.slots.entries ≡ [] → IsIndexOf x []
unfolding held sole
empty_index x h = record { at = λ w. ap (λ es. unwrap_or (lookup (is_at (λ k. slice_cmp nat_cmp w k.now)) es) Nothing) h }

-- an index in which a Name got one number more
pub added : (x y : Index) (name : List ℕ) (n : ℕ)
    → ((w : List ℕ) → get_by (λ k. slice_cmp nat_cmp w k.now) y.slots ≡ update bytes_eq (λ v. get_by (λ k. slice_cmp nat_cmp v k.now) x.slots) name (Some (with_number (held x name) n)) w)
    → Extends x (record { name = name; number = n } ∷ []) y
unfolding held
added x y name n h = record { at = λ w. ap (λ o. unwrap_or o Nothing) (h w) ∙ by w (bytes_eq name w) refl }
  where
    by : (w : List ℕ) (b : Bool) → bytes_eq name w ≡ b
        → unwrap_or (cond b (Some (with_number (held x name) n)) (get_by (λ k. slice_cmp nat_cmp w k.now) x.slots)) Nothing ≡ cond b (with_number (held x w) n) (held x w)
    by w true e = ap (λ v. with_number (held x v) n) ((bytes_eq-Decides name w).0 e)
    by w false e = refl

-- what x has with es is what y has with fs
pub record Leaves (x : Index) (es : List Entry) (y : Index) (fs : List Entry) : Type 0 where
  pub at : (w : List ℕ) → sole_from (held y w) fs w ≡ sole_from (held x w) es w

pub leaves_all : (x : Index) (es : List Entry) → Leaves x es x es
leaves_all x es = record { at = λ w. refl }

pub leaves_less : (x y z : Index) (es gs fs hs : List Entry) → Leaves x es y hs → hs ≡ gs ++ fs → Extends y gs z → Leaves x es z fs
leaves_less x y z es gs fs hs left split more =
    record { at = λ w. ap (λ s. sole_from s fs w) (more.at w) ∙ sym (sole_more (held y w) gs fs w) ∙ ap (λ l. sole_from (held y w) l w) (sym split) ∙ left.at w }

pub leaves_none : (x y : Index) (es fs : List Entry) → Leaves x es y fs → fs ≡ [] → Extends x es y
leaves_none x y es fs left none = record { at = λ w. ap (λ l. sole_from (held y w) l w) (sym none) ∙ left.at w }

pub index_of_all : (x y : Index) (es fs : List Entry) → IsIndexOf x [] → Leaves x es y fs → fs ≡ [] → IsIndexOf y es
unfolding sole
index_of_all x y es fs empty left none = record { at = λ w. (leaves_none x y es fs left none).at w ∙ ap (λ s. sole_from s es w) (empty.at w) }

pub extends_as : (x y : Index) (es fs : List Entry) → es ≡ fs → Extends x es y → Extends x fs y
extends_as x y es fs same h = subst (λ l. Extends x l y) same h

-- ---- what is left in a loop

-- the Names of texts
abbrev pub texts : List (Bor (List ℕ)) → List (List ℕ)
texts xs = map (λ w. w.now) xs

at_drop : {A : Type 0} (xs : List A) (i : ℕ) (d : A) → i < length xs → drop i xs ≡ get_or xs i d ∷ drop (i + 1) xs
at_drop xs i d l = drop-cons xs i d l ∙ ap (λ j. get_or xs i d ∷ drop j xs) (sym (add-one i))

pub item_drop : {A : Type 0} (xs : List A) (i : ℕ) (x : A) → i < length xs → x ≡ get_or xs i x → drop i xs ≡ x ∷ drop (i + 1) xs
item_drop xs i x l is = at_drop xs i x l ∙ ap (λ y. y ∷ drop (i + 1) xs) (sym is)

pub past_drop : {A : Type 0} (xs : List A) (i : ℕ) → length xs ≤ i → drop i xs ≡ []
past_drop xs i l = drop_of_length-le xs l

pub each_left : (xs : List (Bor (List ℕ))) (i n : ℕ) (d : Bor (List ℕ)) → i < length xs
    → each (texts (drop i xs)) n ≡ record { name = (get_or xs i d).now; number = n } ∷ each (texts (drop (i + 1) xs)) n
each_left xs i n d l = ap (λ l. each (texts l) n) (at_drop xs i d l)

pub each_over : (xs : List (Bor (List ℕ))) (i n : ℕ) → length xs ≤ i → each (texts (drop i xs)) n ≡ []
each_over xs i n l = ap (λ l. each (texts l) n) (past_drop xs i l)

pub numbered_left : (xs : List (Bor (List ℕ))) (i : ℕ) (d : Bor (List ℕ)) → i < length xs
    → numbered i (texts (drop i xs)) ≡ record { name = (get_or xs i d).now; number = i } ∷ numbered (i + 1) (texts (drop (i + 1) xs))
numbered_left xs i d l = ap (λ l. numbered i (texts l)) (at_drop xs i d l) ∙ ap (λ j. record { name = (get_or xs i d).now; number = i } ∷ numbered j (texts (drop (i + 1) xs))) (sym (add-one i))

pub numbered_over : (xs : List (Bor (List ℕ))) (i : ℕ) → length xs ≤ i → numbered i (texts (drop i xs)) ≡ []
numbered_over xs i l = ap (λ l. numbered i (texts l)) (past_drop xs i l)

-- what import i of those gives
abbrev pub import_entries : (List ℕ → Sole) → ℕ → Import → List Entry
import_entries f i x = each (symbol_names x.symbols) (first_of (f x.from) i)

pub imports_left : (f : List ℕ → Sole) (xs : List RawImport) (i : ℕ) (x : RawImport) → i < length xs → x ≡ get_or xs i x
    → imports_from f i (map import_of (drop i xs)) ≡ import_entries f i (import_of x) ++ imports_from f (i + 1) (map import_of (drop (i + 1) xs))
imports_left f xs i x l is =
    ap (λ l. imports_from f i (map import_of l)) (item_drop xs i x l is)
    ∙ ap (λ j. import_entries f i (import_of x) ++ imports_from f j (map import_of (drop (i + 1) xs))) (sym (add-one i))

pub imports_over : (f : List ℕ → Sole) (xs : List RawImport) (i : ℕ) → length xs ≤ i → imports_from f i (map import_of (drop i xs)) ≡ []
imports_over f xs i l = ap (λ l. imports_from f i (map import_of l)) (past_drop xs i l)

pub assigners_left : (xs : List RawModule) (i : ℕ) (x : RawModule) → i < length xs → x ≡ get_or xs i x
    → assigners_from i (map module_of (drop i xs)) ≡ each (assignment_names (module_of x).assignments) i ++ assigners_from (i + 1) (map module_of (drop (i + 1) xs))
assigners_left xs i x l is =
    ap (λ l. assigners_from i (map module_of l)) (item_drop xs i x l is)
    ∙ ap (λ j. each (assignment_names (module_of x).assignments) i ++ assigners_from j (map module_of (drop (i + 1) xs))) (sym (add-one i))

pub assigners_over : (xs : List RawModule) (i : ℕ) → length xs ≤ i → assigners_from i (map module_of (drop i xs)) ≡ []
assigners_over xs i l = ap (λ l. assigners_from i (map module_of l)) (past_drop xs i l)

-- ---- the Names of what the code has

-- all have been pushed
pub pushed_all : {X : Type 0} (f : X → Bor (List ℕ)) (ns : List (Bor (List ℕ))) (xs : List X) (i : ℕ) → ns ≡ map f (take i xs) → length xs ≤ i → ns ≡ map f xs
pushed_all f ns xs i h l = h ∙ ap (map f) (take_all i xs l)

pub assignments_named : (xs : List RawAssignment) → texts (map (λ a. a.name) xs) ≡ assignment_names (map assignment_of xs)
assignments_named [] = refl
assignments_named (x ∷ xs) = ap (λ ws. x.name.now ∷ ws) (assignments_named xs)

pub symbols_named : (xs : List RawSymbol) → texts (map (λ s. s.name) xs) ≡ symbol_names (map symbol_of xs)
symbols_named [] = refl
symbols_named (x ∷ xs) = ap (λ ws. x.name.now ∷ ws) (symbols_named xs)

pub sources_named : (xs : List RawImport) → texts (map (λ i. i.from) xs) ≡ source_names (map import_of xs)
sources_named [] = refl
sources_named (x ∷ xs) = ap (λ ws. x.from.now ∷ ws) (sources_named xs)

pub modules_named : (xs : List RawModule) → texts (map (λ m. m.name) xs) ≡ module_names (map module_of xs)
modules_named [] = refl
modules_named (x ∷ xs) = ap (λ ws. x.name.now ∷ ws) (modules_named xs)
