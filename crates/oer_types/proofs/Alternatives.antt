-- The alternatives of a CHOICE: its root and its additions.
use Rattle.std.proofs.Common.{◌≡◌, ℕ, suc, ◌+◌, ◌-◌, ◌<◌, ◌≤◌, max, not, List, [], ◌∷◌, ◌++◌, Bool, true, false, ◌||◌, string_bytes, append-nil, Option, Some, None, Vec, Global, refl, sym, ap, ap₂, ◌∙◌, arith}
use Rattle.oer_model.specs.AsnType.{AsnType, no_alternatives}
use Rattle.oer_model.specs.Nodes.{alternatives_nodes, type_nodes}
use Rattle.std.specs.Str.{bytes_eq}
use Rattle.oer_units.specs.declared.tagging.Tag.{Tag}
use Rattle.oer_model.specs.Constraints.{has_tag, same_tag}
use Rattle.oer_types.specs.Counting.{Leaves}
use Rattle.oer_model.specs.FaultTest.{any_bad_name, contains_name, has_repeated_tag, in_alternatives, somewhere, tags_repeat}
use Rattle.oer_values.specs.ShapeView.{type_of, additions_of, fields_of, later_of, root_of, choice_with, sequence_with, known_additions, known_later}
use Rattle.oer_model.specs.WellFormed.{addition_names, alternative_names, alternatives_depth, depth, field_names, is_identifier, names}
use Rattle.oer_model.specs.Widths.{AreInOrder, AreLater, AlternativesHaveWidths}
use Rattle.oer_values.specs.declared.shape.Addition.{Addition}
use Rattle.oer_values.specs.declared.shape.Field.{Field}
use Rattle.oer_values.specs.declared.shape.Alt.{Alt}

pub later_depth : (ys : List Alt) → alternatives_depth (later_of ys) ≡ alternatives_depth (root_of ys no_alternatives)
later_depth [] = refl
later_depth (y ∷ ys) = ap (max (depth (type_of y.shape))) (later_depth ys)

pub choice_depth : (xs ys : List Alt) → alternatives_depth (root_of xs (later_of ys)) ≡ max (alternatives_depth (root_of xs no_alternatives)) (alternatives_depth (root_of ys no_alternatives))
choice_depth [] ys = let e = later_depth ys in omega arith
choice_depth (x ∷ xs) ys = ap (max (depth (type_of x.shape))) (choice_depth xs ys) ∙ max-assoc (depth (type_of x.shape)) (alternatives_depth (root_of xs no_alternatives)) (alternatives_depth (root_of ys no_alternatives))
  where
    max-assoc : (a b c : ℕ) → max a (max b c) ≡ max (max a b) c
    max-assoc a b c = omega arith

pub later_nodes : (ys : List Alt) → alternatives_nodes (later_of ys) ≡ alternatives_nodes (root_of ys no_alternatives)
later_nodes [] = refl
later_nodes (y ∷ ys) = ap (λ n. type_nodes (type_of y.shape) + n) (later_nodes ys)

pub choice_nodes : (xs ys : List Alt) → alternatives_nodes (root_of xs (later_of ys)) ≡ alternatives_nodes (root_of xs no_alternatives) + alternatives_nodes (root_of ys no_alternatives)
choice_nodes [] ys = later_nodes ys ∙ omega arith
choice_nodes (x ∷ xs) ys = let e = choice_nodes xs ys in omega arith

-- a root alone is no deeper than the type
pub root_within : (xs : List Alt) (a : Option (Vec Alt Global)) → alternatives_depth (root_of xs no_alternatives) < depth (choice_with xs a)
root_within xs None = omega arith
root_within xs (Some more) = let e = choice_depth xs more.items in omega arith

pub later_names : (ys : List Alt) → alternative_names (later_of ys) ≡ alternative_names (root_of ys no_alternatives)
later_names [] = refl
later_names (y ∷ ys) = ap (λ ns. string_bytes y.name ∷ ns) (later_names ys)

pub choice_names : (xs ys : List Alt) → alternative_names (root_of xs (later_of ys)) ≡ alternative_names (root_of xs no_alternatives) ++ alternative_names (root_of ys no_alternatives)
choice_names [] ys = later_names ys
choice_names (x ∷ xs) ys = ap (λ ns. string_bytes x.name ∷ ns) (choice_names xs ys)

pub later_tag : (t : Tag) (ys : List Alt) → has_tag t (later_of ys) ≡ has_tag t (root_of ys no_alternatives)
later_tag t [] = refl
later_tag t (y ∷ ys) = ap (λ b. same_tag y.tag t || b) (later_tag t ys)

pub later_tags : (ys : List Alt) → tags_repeat (later_of ys) ≡ tags_repeat (root_of ys no_alternatives)
later_tags [] = refl
later_tags (y ∷ ys) = ap₂ (λ a b. a || b) (later_tag y.tag ys) (later_tags ys)

pub later_faults : (q : AsnType → Bool) (ys : List Alt) → in_alternatives q (later_of ys) ≡ in_alternatives q (root_of ys no_alternatives)
later_faults q [] = refl
later_faults q (y ∷ ys) = ap (λ b. somewhere q (type_of y.shape) || b) (later_faults q ys)

or_assoc : (a b c : Bool) → (a || (b || c)) ≡ ((a || b) || c)
or_assoc true b c = refl
or_assoc false b c = refl

pub choice_faults : (q : AsnType → Bool) (xs ys : List Alt) → in_alternatives q (root_of xs (later_of ys)) ≡ (in_alternatives q (root_of xs no_alternatives) || in_alternatives q (root_of ys no_alternatives))
choice_faults q [] ys = later_faults q ys
choice_faults q (x ∷ xs) ys = ap (λ b. somewhere q (type_of x.shape) || b) (choice_faults q xs ys) ∙ or_assoc (somewhere q (type_of x.shape)) (in_alternatives q (root_of xs no_alternatives)) (in_alternatives q (root_of ys no_alternatives))

pub in_both : (n : List ℕ) (xs ys : List (List ℕ)) → contains_name n (xs ++ ys) ≡ (contains_name n xs || contains_name n ys)
in_both n [] ys = refl
in_both n (x ∷ xs) ys = ap (λ b. bytes_eq x n || b) (in_both n xs ys) ∙ or_assoc (bytes_eq x n) (contains_name n xs) (contains_name n ys)

pub bad_in_both : (xs ys : List (List ℕ)) → any_bad_name (xs ++ ys) ≡ (any_bad_name xs || any_bad_name ys)
bad_in_both [] ys = refl
bad_in_both (x ∷ xs) ys = ap (λ b. not (is_identifier x) || b) (bad_in_both xs ys) ∙ or_assoc (not (is_identifier x)) (any_bad_name xs) (any_bad_name ys)

-- the names of a SEQUENCE
pub sequence_names : (fs : List Field) (a : Option (Vec Addition Global)) → names (sequence_with fs a) ≡ field_names (fields_of fs) ++ addition_names (additions_of (known_additions a))
sequence_names fs None = sym (append-nil (field_names (fields_of fs)))
sequence_names fs (Some more) = refl

-- the names of a CHOICE
pub choice_all_names : (xs : List Alt) (a : Option (Vec Alt Global)) → names (choice_with xs a) ≡ alternative_names (root_of xs no_alternatives) ++ alternative_names (root_of (known_later a) no_alternatives)
choice_all_names xs None = sym (append-nil (alternative_names (root_of xs no_alternatives)))
choice_all_names xs (Some more) = choice_names xs more.items

pub choice_tags : (xs : List Alt) (a : Option (Vec Alt Global)) → has_repeated_tag (choice_with xs a) ≡ tags_repeat (root_of xs (later_of (known_later a)))
choice_tags xs None = refl
choice_tags xs (Some more) = refl

or_right : (a b : Bool) → b ≡ true → (a || b) ≡ true
or_right true b h = refl
or_right false b h = h

pub somewhere_in_root : (q : AsnType → Bool) (xs : List Alt) (a : Option (Vec Alt Global)) → in_alternatives q (root_of xs no_alternatives) ≡ true → somewhere q (choice_with xs a) ≡ true
somewhere_in_root q xs None h = or_right (q (choice_with xs None)) (in_alternatives q (root_of xs no_alternatives)) h
somewhere_in_root q xs (Some more) h =
    or_right (q (choice_with xs (Some more))) (in_alternatives q (root_of xs (later_of more.items))) (choice_faults q xs more.items ∙ ap (λ b. b || in_alternatives q (root_of more.items no_alternatives)) h)

later_widths : (ys : List Alt) → AlternativesHaveWidths (root_of ys no_alternatives) → AlternativesHaveWidths (later_of ys)
later_widths [] h = tt
later_widths (y ∷ ys) h = (h.0, h.1, later_widths ys h.2)

choice_widths : (xs ys : List Alt) → AlternativesHaveWidths (root_of xs no_alternatives) → AlternativesHaveWidths (root_of ys no_alternatives) → AlternativesHaveWidths (root_of xs (later_of ys))
choice_widths [] ys h k = later_widths ys k
choice_widths (x ∷ xs) ys h k = (h.0, h.1, choice_widths xs ys h.2 k)

are_later : (ys : List Alt) → AreLater (later_of ys)
are_later [] = tt
are_later (y ∷ ys) = are_later ys

-- a root is in order, and what follows the marker too
pub root_order : (xs : List Alt) → AreInOrder false (root_of xs no_alternatives)
root_order [] = tt
root_order (x ∷ xs) = root_order xs

choice_order : (xs ys : List Alt) → AreInOrder true (root_of xs (later_of ys))
choice_order [] [] = tt
choice_order [] (y ∷ ys) = (refl, are_later ys)
choice_order (x ∷ xs) ys = choice_order xs ys

-- a root alone has fewer parts than the type
pub root_parts : (xs : List Alt) (a : Option (Vec Alt Global)) → alternatives_nodes (root_of xs no_alternatives) < type_nodes (choice_with xs a)
root_parts xs None = omega arith
root_parts xs (Some more) = let e = choice_nodes xs more.items in omega arith

-- what is left after a choice without a marker
pub root_leaves : (xs : List Alt) (left rest : ℕ) → 1 ≤ left → rest + alternatives_nodes (root_of xs no_alternatives) ≡ left - 1 → AlternativesHaveWidths (root_of xs no_alternatives)
    → Leaves (Some rest) left (suc (alternatives_nodes (root_of xs no_alternatives))) (AreInOrder false (root_of xs no_alternatives) × AlternativesHaveWidths (root_of xs no_alternatives))
root_leaves xs left rest l e h = (omega arith, (root_order xs, h))

-- and after one with a marker
pub choice_leaves : (xs ys : List Alt) (left rest : ℕ) (r : Option ℕ) → 1 ≤ left → rest + alternatives_nodes (root_of xs no_alternatives) ≡ left - 1 → AlternativesHaveWidths (root_of xs no_alternatives)
    → Leaves r rest (alternatives_nodes (root_of ys no_alternatives)) (AlternativesHaveWidths (root_of ys no_alternatives))
    → Leaves r left (suc (alternatives_nodes (root_of xs (later_of ys)))) (AreInOrder true (root_of xs (later_of ys)) × AlternativesHaveWidths (root_of xs (later_of ys)))
choice_leaves xs ys left rest None l e h k = let n = choice_nodes xs ys in omega arith
choice_leaves xs ys left rest (Some r) l e h k = let n = choice_nodes xs ys in (omega arith, (choice_order xs ys, choice_widths xs ys h k.1))
