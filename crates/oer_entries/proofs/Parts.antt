-- What a step leads to, in a shape and in its type.
use Rattle.std.proofs.Common.{◌≡◌, ◌<◌, ◌≤◌, ℕ, zero, suc, Bool, true, false, ◌||◌, if◌then◌else◌, List, [], ◌∷◌, length, get_or, Option, Some, None, option_map, is_some, MatchOption, IfSome, slice_index_or, Vec, Global, Bor, string_bytes, refl, sym, ap, ap₂, ◌∙◌, arith}
use Rattle.oer_units.specs.declared.tagging.Tag.{Tag}
use Rattle.oer_model.specs.AsnType.{no_alternatives}
use Rattle.oer_model.specs.Constraints.{has_tag, same_tag}
use Rattle.oer_model.specs.Parts as plain
use Rattle.oer_model.specs.Parts.{to_addition, to_component}
use Rattle.oer_values.specs.Lookup.{alternative_with, first_with, or_else}
use Rattle.oer_values.specs.ShapeView.{additions_of, choice_with, fields_of, later_of, root_of, sequence_with, type_of}
use Rattle.oer_values.specs.declared.shape.Addition.{Addition}
use Rattle.oer_values.specs.declared.shape.Alt.{Alt}
use Rattle.oer_values.specs.declared.shape.Field.{Field}
use Rattle.oer_values.specs.declared.shape.Shape.{Shape, Choice, Sequence}
use Rattle.oer_values.proofs.Shapes.{type_of-Choice, type_of-Sequence}
use Rattle.oer_json.specs.Keys.{place_key, tag_key}
use Rattle.oer_entries.specs.Frames.{Seen, fresh, seen, type_at}
use Rattle.oer_entries.specs.Known.{Known, addition_at, alternative_at, component_at, part_in, part_of, plainly, unknown}
use Rattle.oer_entries.specs.Next.{after_preamble, follows_tag, next_by, next_in}
use Rattle.oer_parts.specs.Walk.{step_of}
use Rattle.oer_parts.specs.declared.step.Step.{Step}
use Rattle.oer_parts.specs.declared.step.Step.TheVariants.{Addition as AdditionStep, Component}
use Rattle.std.specs.List.{HoldsAt}
use Rattle.oer_entries.specs.declared.frame.Frame.{Frame}

-- ---- alternatives

abbrev pub found_in : Tag → Option Alt → Known
found_in t None = unknown (tag_key t)
found_in t (Some a) = plainly (string_bytes a.name) (type_of a.shape)

pick : (b : Bool) (t : Tag) (x : Alt) (k : Known) (r : Option Alt) → k ≡ found_in t r
    → (if b then plainly (string_bytes x.name) (type_of x.shape) else k) ≡ found_in t (if b then Some x else r)
pick true t x k r e = refl
pick false t x k r e = e

later_found : (t : Tag) (xs : List Alt) → alternative_at t (later_of xs) ≡ found_in t (first_with t xs)
later_found t [] = refl
later_found t (x ∷ xs) = pick (same_tag x.tag t) t x (alternative_at t (later_of xs)) (first_with t xs) (later_found t xs)

pick_or : (b : Bool) (t : Tag) (x : Alt) (k : Known) (r o : Option Alt) → k ≡ found_in t (or_else r o)
    → (if b then plainly (string_bytes x.name) (type_of x.shape) else k) ≡ found_in t (or_else (if b then Some x else r) o)
pick_or true t x k r o e = refl
pick_or false t x k r o e = e

root_found : (t : Tag) (xs ys : List Alt) → alternative_at t (root_of xs (later_of ys)) ≡ found_in t (or_else (first_with t xs) (first_with t ys))
root_found t [] ys = later_found t ys
root_found t (x ∷ xs) ys =
    pick_or (same_tag x.tag t) t x (alternative_at t (root_of xs (later_of ys))) (first_with t xs) (first_with t ys) (root_found t xs ys)

choice_found : (t : Tag) (xs : List Alt) (more : Option (Vec Alt Global)) (step : plain.Step) → part_of (choice_with xs more) (Some t) step ≡ found_in t (alternative_with t xs more)
choice_found t xs None step = root_found t xs []
choice_found t xs (Some more) step = root_found t xs more.items

type_is : (f : Frame) (shape : Bor Shape) (root : Vec Alt Global) (more : Option (Vec Alt Global)) → f.shape ≡ Some shape → shape.now ≡ Choice root more
    → type_at f ≡ Some (choice_with root.items more)
type_is f shape root more e is = ap (option_map (λ (s : Bor Shape). type_of s.now)) e ∙ ap (λ (s : Shape). Some (type_of s)) is ∙ ap Some (type_of-Choice root more)

-- what was found among the alternatives is what the step leads to
pub alternative_is : (f : Frame) (shape : Bor Shape) (root : Vec Alt Global) (more : Option (Vec Alt Global)) (t : Tag) (step : plain.Step) (xs : List Alt) (o : Option Alt)
    → f.shape ≡ Some shape → shape.now ≡ Choice root more → xs ≡ root.items → o ≡ alternative_with t xs more → found_in t o ≡ part_in (type_at f) (Some t) step
alternative_is f shape root more t step xs o e is items found =
    ap (found_in t) (found ∙ ap (λ (l : List Alt). alternative_with t l more) items)
    ∙ sym (choice_found t root.items more step)
    ∙ ap (λ T. part_in T (Some t) step) (sym (type_is f shape root more e is))

some_or : (b c : Bool) (x : Alt) (r o : Option Alt) → c ≡ is_some (or_else r o) → (b || c) ≡ is_some (or_else (if b then Some x else r) o)
some_or true true x r o e = refl
some_or true false x r o e = refl
some_or false true x r o e = e
some_or false false x r o e = e

has_found : (t : Tag) (xs : List Alt) → has_tag t (root_of xs no_alternatives) ≡ is_some (or_else (first_with t xs) None)
has_found t [] = refl
has_found t (x ∷ xs) = some_or (same_tag x.tag t) (has_tag t (root_of xs no_alternatives)) x (first_with t xs) None (has_found t xs)

some_now : (r : Option (Bor Alt)) → is_some r ≡ is_some (option_map (λ (a : Bor Alt). a.now) r)
some_now None = refl
some_now (Some a) = refl

none_more : (more : Option (Vec Alt Global)) → is_some more ≡ false → more ≡ None
none_more None e = refl
none_more (Some v) e = absurd (cc)

follows_root : (t : Tag) (xs : List Alt) → follows_tag (Some (choice_with xs None)) t ≡ has_tag t (root_of xs no_alternatives)
follows_root t xs = refl

-- without an extension marker, what follows a tag is an alternative
pub follows_is : (f : Frame) (shape : Bor Shape) (root : Vec Alt Global) (more : Option (Vec Alt Global)) (t : Tag) (xs : List Alt) (r : Option (Bor Alt))
    → f.shape ≡ Some shape → shape.now ≡ Choice root more → xs ≡ root.items → is_some more ≡ false
    → option_map (λ (a : Bor Alt). a.now) r ≡ alternative_with t xs more → is_some r ≡ follows_tag (type_at f) t
follows_is f shape root more t xs r e is items none found =
    some_now r ∙ ap is_some (found ∙ ap₂ (λ (l : List Alt) m. alternative_with t l m) items (none_more more none))
    ∙ sym (has_found t root.items) ∙ sym (follows_root t root.items)
    ∙ ap (λ m. follows_tag (Some (choice_with root.items m)) t) (sym (none_more more none))
    ∙ ap (λ T. follows_tag T t) (sym (type_is f shape root more e is))

-- ---- components and additions

pub component_past : (fs : List Field) (i : ℕ) → length fs ≤ i → component_at i (fields_of fs) ≡ unknown []
component_past [] zero le = refl
component_past [] (suc i) le = refl
component_past (f ∷ fs) zero le = absurd (omega arith)
component_past (f ∷ fs) (suc i) le = component_past fs i (omega arith)

pub component_there : (fs : List Field) (i : ℕ) (d : Field) → i < length fs → component_at 0 (fields_of (get_or fs i d ∷ [])) ≡ component_at i (fields_of fs)
component_there [] i d less = absurd (omega arith)
component_there (f ∷ fs) zero d less = refl
component_there (f ∷ fs) (suc i) d less = component_there fs i d (omega arith)

pub of_component : (fs : List Field) (more : Option (Vec Addition Global)) (i : ℕ) → component_at i (fields_of fs) ≡ part_of (sequence_with fs more) None (to_component i)
of_component fs None i = refl
of_component fs (Some more) i = refl

pub addition_past : (n : ℕ) (xs : List Addition) (i : ℕ) → length xs ≤ i → unknown (place_key n) ≡ addition_at n i (additions_of xs)
addition_past n [] zero le = refl
addition_past n [] (suc i) le = refl
addition_past n (x ∷ xs) zero le = absurd (omega arith)
addition_past n (x ∷ xs) (suc i) le = addition_past n xs i (omega arith)

addition_there : (n : ℕ) (xs : List Addition) (i : ℕ) (d : Addition) → i < length xs
    → plainly (string_bytes (get_or xs i d).name) (type_of (get_or xs i d).shape) ≡ addition_at n i (additions_of xs)
addition_there n [] i d less = absurd (omega arith)
addition_there n (x ∷ xs) zero d less = refl
addition_there n (x ∷ xs) (suc i) d less = addition_there n xs i d (omega arith)

pub addition_found : (n : ℕ) (xs : List Addition) (i : ℕ) (a : Addition) → i < length xs → a ≡ get_or xs i a
    → plainly (string_bytes a.name) (type_of a.shape) ≡ addition_at n i (additions_of xs)
addition_found n xs i a less is = ap (λ (x : Addition). plainly (string_bytes x.name) (type_of x.shape)) is ∙ addition_there n xs i a less

-- ---- parts of which nothing was read

pub fresh_alternative : (g : Seen) (step : Step) (t : Tag) (r : Option (Bor Alt)) (o : Option Alt) → option_map (λ (a : Bor Alt). a.now) r ≡ o
    → MatchOption r (g ≡ fresh (Some step) (unknown (tag_key t)) 0 0) (λ a. g ≡ fresh (Some step) (plainly (string_bytes a.now.name) (type_of a.now.shape)) 0 0)
    → g ≡ fresh (Some step) (found_in t o) 0 0
fresh_alternative g step t None o e h = h ∙ ap (λ x. fresh (Some step) (found_in t x) 0 0) e
fresh_alternative g step t (Some a) o e h = h ∙ ap (λ x. fresh (Some step) (found_in t x) 0 0) e

pub no_component : (fs : List Field) (more : Option (Vec Addition Global)) (i : ℕ) (step : Step) → step ≡ Component i → length fs ≤ i
    → part_of (sequence_with fs more) None (step_of step) ≡ unknown []
no_component fs more i step is le =
    ap (λ s. part_of (sequence_with fs more) None (step_of s)) is ∙ sym (of_component fs more i) ∙ component_past fs i le

pub component_found : (fs : List Field) (more : Option (Vec Addition Global)) (i : ℕ) (f : Field) (step : Step) → step ≡ Component i → i < length fs → f ≡ get_or fs i f
    → component_at 0 (fields_of (f ∷ [])) ≡ part_of (sequence_with fs more) None (step_of step)
component_found fs more i f step is less found =
    ap (λ (x : Field). component_at 0 (fields_of (x ∷ []))) found ∙ component_there fs i f less ∙ of_component fs more i
    ∙ ap (λ s. part_of (sequence_with fs more) None (step_of s)) (sym is)

of_addition : (fs : List Field) (xs : Vec Addition Global) (i : ℕ) → addition_at i i (additions_of xs.items) ≡ part_of (sequence_with fs (Some xs)) None (to_addition i)
of_addition fs xs i = refl

in_additions : (g : Seen) (step : Step) (i : ℕ) (xs : List Addition) (r : Option (Bor Addition))
    → MatchOption r (length xs ≤ i) (λ x. (i < length xs) × HoldsAt (λ y. x.now ≡ y) xs i) → IfSome r (λ x. x.now ≡ slice_index_or xs i x.now)
    → MatchOption r (g ≡ fresh (Some step) (unknown (place_key i)) 0 0) (λ a. g ≡ fresh (Some step) (plainly (string_bytes a.now.name) (type_of a.now.shape)) 0 0)
    → g ≡ fresh (Some step) (addition_at i i (additions_of xs)) 0 0
in_additions g step i xs None le is h = h ∙ ap (λ (k : Known). fresh (Some step) k 0 0) (addition_past i xs i le)
in_additions g step i xs (Some a) less is h = h ∙ ap (λ (k : Known). fresh (Some step) k 0 0) (addition_found i xs i a.now less.0 is)

pub fresh_addition : (g : Seen) (step : Step) (i : ℕ) (fs : List Field) (more : Option (Vec Addition Global)) (v : Vec Addition Global) (xs : List Addition) (r : Option (Bor Addition))
    → step ≡ AdditionStep i → more ≡ Some v → xs ≡ v.items
    → MatchOption r (length xs ≤ i) (λ x. (i < length xs) × HoldsAt (λ y. x.now ≡ y) xs i) → IfSome r (λ x. x.now ≡ slice_index_or xs i x.now)
    → MatchOption r (g ≡ fresh (Some step) (unknown (place_key i)) 0 0) (λ a. g ≡ fresh (Some step) (plainly (string_bytes a.now.name) (type_of a.now.shape)) 0 0)
    → g ≡ fresh (Some step) (part_of (sequence_with fs more) None (step_of step)) 0 0
fresh_addition g step i fs more v xs r is some items found value h =
    in_additions g step i xs r found value h
    ∙ ap (λ (k : Known). fresh (Some step) k 0 0) (ap (λ (l : List Addition). addition_at i i (additions_of l)) items ∙ of_addition fs v i
    ∙ ap₂ (λ m s. part_of (sequence_with fs m) None (step_of s)) (sym some) (sym is))

-- ---- what comes next in a SEQUENCE

sequence_next : (fs : List Field) (more : Option (Vec Addition Global)) (f : Seen) → after_preamble (is_some more) (fields_of fs) f.preamble f ≡ next_by (Some (sequence_with fs more)) f
sequence_next fs None f = refl
sequence_next fs (Some v) f = refl

pub next_is : (f : Frame) (shape : Bor Shape) (root : Vec Field Global) (more : Option (Vec Addition Global)) (fs : List Field) → f.shape ≡ Some shape
    → shape.now ≡ Sequence root more → fs ≡ root.items
    → after_preamble (is_some more) (fields_of fs) (seen f).preamble (seen f) ≡ next_in (seen f)
next_is f shape root more fs e is items =
    ap (λ (l : List Field). after_preamble (is_some more) (fields_of l) (seen f).preamble (seen f)) items
    ∙ sequence_next root.items more (seen f)
    ∙ ap (λ T. next_by (Some T) (seen f)) (sym (type_of-Sequence root more)) ∙ ap (λ (s : Shape). next_by (Some (type_of s)) (seen f)) (sym is)
    ∙ ap (λ o. next_by (option_map (λ (s : Bor Shape). type_of s.now) o) (seen f)) (sym e)
