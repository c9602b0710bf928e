-- The alternative of a CHOICE, as a part.
use Rattle.std.proofs.Common.{◌≡◌, ◌<◌, arith, ℕ, zero, suc, Bool, true, false, ◌||◌, List, [], ◌∷◌, length, take, get_or, Option, Some, None, IfSome, option_map, refl, sym, ap, ◌∙◌}
use Rattle.oer_units.specs.declared.tagging.Tag.{Tag}
use Rattle.oer_units.specs.Reader.{Outcome, Place, Reader, bind, choose, give, got, refused, then_read}
use Rattle.oer_units.specs.Reading.{counted_octets, open_type, tag}
use Rattle.oer_model.specs.AsnType.{Alternatives, AsnType, choice, no_alternatives}
use Rattle.oer_model.specs.Checking.{check_open, check_value}
use Rattle.oer_model.specs.Constraints.{has_tag, same_tag}
use Rattle.oer_model.specs.Parts.{Answer, Part, alone_by_tag, alternative_parts, found, lookup, octets_of, part, parts_in, read_alone, read_parts, to_chosen}
use Rattle.oer_values.specs.Lookup.{IsFirst, first_with}
use Rattle.oer_values.specs.ShapeView.{later_of, root_of, type_of}
use Rattle.oer_values.specs.declared.shape.Alt.{Alt}
use Rattle.oer_checker.specs.Steps.{check_later}
use Rattle.oer_parts.specs.Walk.{IsGot, found_or, read_in, type_in}
use Rattle.oer_parts.specs.declared.walk.Piece.{Piece}
use Rattle.oer_checker.proofs.Joins.{bind_got}
use Rattle.oer_checker.proofs.TagSteps.{choice_later, later_found, not_in_root}

-- what is read alone is found, or nothing is
pub alone_found : (V : Option AsnType) (r : Reader (List ℕ)) (q : Place) (w : List ℕ) → Some w ≡ read_in (r q) → (o : Answer) → found V w ≡ lookup o to_chosen (parts_in (read_alone V r q))
unfolding read_alone bind give
alone_found V r q w e0 o = cases (r q) e0 where
  cases : (a : Outcome (List ℕ)) → Some w ≡ read_in a → found V w ≡ lookup o to_chosen (parts_in (then_read (λ c. give (part to_chosen V c ∷ [])) a))
  cases (got c s) e = let words : w ≡ c = cc in ap (found V) words
  cases (refused why rest) e = absurd (cc)

pub alone_missing : (V : Option AsnType) (r : Reader (List ℕ)) (q : Place) → None ≡ read_in (r q) → (o : Answer) → o ≡ lookup o to_chosen (parts_in (read_alone V r q))
unfolding read_alone bind give
alone_missing V r q e0 o = cases (r q) e0 where
  cases : (a : Outcome (List ℕ)) → None ≡ read_in a → o ≡ lookup o to_chosen (parts_in (then_read (λ c. give (part to_chosen V c ∷ [])) a))
  cases (got c s) e = absurd (cc)
  cases (refused why rest) e = refl

-- the same of what an open type holds
pub alone_piece : (x : Option Piece) (V : Option AsnType) (r : Reader (List ℕ)) (q : Place) → option_map (λ p. p.octets.now) x ≡ read_in (r q) → IfSome x (λ p. type_in p ≡ V) → (o : Answer) → found_or o x ≡ lookup o to_chosen (parts_in (read_alone V r q))
alone_piece None V r q h kind o = alone_missing V r q h o
alone_piece (Some p) V r q h kind o = ap (λ (W : Option AsnType). found W p.octets.now) kind ∙ alone_found V r q p.octets.now h o

-- ---- which alternative it is

abbrev alone : Alt → Reader (List Part)
alone a = read_alone (Some (type_of a.shape)) (octets_of (check_value (type_of a.shape)))

abbrev alone_open : Alt → Reader (List Part)
alone_open a = read_alone (Some (type_of a.shape)) (open_type (octets_of (check_value (type_of a.shape))))

abbrev Picks : Alternatives → Tag → Reader (List Part) → Type 0
Picks more t r = (has_tag t more ≡ true) × (alternative_parts more t ≡ r)

picked : (b x : Bool) (r s u : Reader (List Part)) → b ≡ true → r ≡ u → ((b || x) ≡ true) × (alone_by_tag b r s ≡ u)
picked true x r s u e is = (refl, is)
picked false x r s u e is = absurd (cc)

passed : (b x y : Bool) (r s u : Reader (List Part)) → (b || y) ≡ false → (y ≡ false → (x ≡ true) × (s ≡ u)) → ((b || x) ≡ true) × (alone_by_tag b r s ≡ u)
passed true x y r s u e more = absurd (cc)
passed false x y r s u e more = more e

root_picks : (xs : List Alt) (after : Alternatives) (t : Tag) (i : ℕ) (a : Alt) → i < length xs → a ≡ get_or xs i a → same_tag a.tag t ≡ true → has_tag t (root_of (take i xs) no_alternatives) ≡ false → Picks (root_of xs after) t (alone a)
root_picks [] after t i a less is same before = absurd (omega arith)
root_picks (x ∷ xs) after t zero a less is same before = picked (same_tag x.tag t) (has_tag t (root_of xs after)) (alone x) (alternative_parts (root_of xs after) t) (alone a) (ap (λ (y : Alt). same_tag y.tag t) (sym is) ∙ same) (ap alone (sym is))
root_picks (x ∷ xs) after t (suc i) a less is same before = passed (same_tag x.tag t) (has_tag t (root_of xs after)) (has_tag t (root_of (take i xs) no_alternatives)) (alone x) (alternative_parts (root_of xs after) t) (alone a) before (root_picks xs after t i a (omega arith) is same)

later_picks : (ys : List Alt) (t : Tag) (i : ℕ) (a : Alt) → i < length ys → a ≡ get_or ys i a → same_tag a.tag t ≡ true → has_tag t (root_of (take i ys) no_alternatives) ≡ false → Picks (later_of ys) t (alone_open a)
later_picks [] t i a less is same before = absurd (omega arith)
later_picks (x ∷ ys) t zero a less is same before = picked (same_tag x.tag t) (has_tag t (later_of ys)) (alone_open x) (alternative_parts (later_of ys) t) (alone_open a) (ap (λ (y : Alt). same_tag y.tag t) (sym is) ∙ same) (ap alone_open (sym is))
later_picks (x ∷ ys) t (suc i) a less is same before = passed (same_tag x.tag t) (has_tag t (later_of ys)) (has_tag t (root_of (take i ys) no_alternatives)) (alone_open x) (alternative_parts (later_of ys) t) (alone_open a) before (later_picks ys t i a (omega arith) is same)

beyond : (b x : Bool) (r s u : Reader (List Part)) → (b || x) ≡ false → (x ≡ false → s ≡ u) → alone_by_tag b r s ≡ u
beyond true x r s u e more = absurd (cc)
beyond false x r s u e more = more e

root_passes : (xs : List Alt) (after : Alternatives) (t : Tag) → has_tag t (root_of xs no_alternatives) ≡ false → alternative_parts (root_of xs after) t ≡ alternative_parts after t
root_passes [] after t e = refl
root_passes (x ∷ xs) after t e = beyond (same_tag x.tag t) (has_tag t (root_of xs no_alternatives)) (alone x) (alternative_parts (root_of xs after) t) (alternative_parts after t) e (root_passes xs after t)

later_tags : (ys : List Alt) (t : Tag) → has_tag t (later_of ys) ≡ has_tag t (root_of ys no_alternatives)
later_tags [] t = refl
later_tags (x ∷ ys) t = ap (λ (b : Bool). same_tag x.tag t || b) (later_tags ys t)

-- ---- what is read of the CHOICE

abbrev by_tag : Alternatives → Tag → Reader (List Part)
by_tag more t = choose (has_tag t more) (alternative_parts more t) (read_alone None counted_octets)

choice_parts : (T : AsnType) (e : Bool) (more : Alternatives) (is : T ≡ choice e more) (p q : Place) (t : Tag) → got t q ≡ tag p → by_tag more t q ≡ read_parts T p
choice_parts T e more is p q t h = bind_got tag (by_tag more) p q t (by_tag more t q) h refl ∙ ap (λ (U : AsnType). read_parts U p) (sym is)

by_pick : (b : Bool) (r s u : Reader (List Part)) (q : Place) → b ≡ true → r ≡ u → u q ≡ choose b r s q
by_pick true r s u q e is = ap (λ (k : Reader (List Part)). k q) (sym is)
by_pick false r s u q e is = absurd (cc)

by_none : (b : Bool) (r s : Reader (List Part)) (q : Place) → b ≡ false → s q ≡ choose b r s q
by_none true r s q e = absurd (cc)
by_none false r s q e = refl

pub root_part : (T : AsnType) (e : Bool) (xs : List Alt) (after : Alternatives) (is : T ≡ choice e (root_of xs after)) (p q : Place) (t : Tag) → got t q ≡ tag p → (a : Alt) → IsFirst xs t (Some a) → (o : Answer) → lookup o to_chosen (parts_in (alone a q)) ≡ lookup o to_chosen (parts_in (read_parts T p))
root_part T e xs after is p q t h a (i, less, at, same, before) o =
    let k = root_picks xs after t i a less at same before in
    ap (λ (l : Outcome (List Part)). lookup o to_chosen (parts_in l)) (by_pick (has_tag t (root_of xs after)) (alternative_parts (root_of xs after) t) (read_alone None counted_octets) (alone a) q k.0 k.1 ∙ choice_parts T e (root_of xs after) is p q t h)

pub later_part : (T : AsnType) (e : Bool) (xs ys : List Alt) (is : T ≡ choice e (root_of xs (later_of ys))) (p q : Place) (t : Tag) → got t q ≡ tag p → IsFirst xs t None → (a : Alt) → IsFirst ys t (Some a) → (o : Answer) → lookup o to_chosen (parts_in (alone_open a q)) ≡ lookup o to_chosen (parts_in (read_parts T p))
later_part T e xs ys is p q t h none a (i, less, at, same, before) o =
    let k = later_picks ys t i a less at same before in
    let has : has_tag t (root_of xs (later_of ys)) ≡ true = not_in_root xs (later_of ys) t (sym none) ∙ k.0 in
    ap (λ (l : Outcome (List Part)). lookup o to_chosen (parts_in l)) (by_pick (has_tag t (root_of xs (later_of ys))) (alternative_parts (root_of xs (later_of ys)) t) (read_alone None counted_octets) (alone_open a) q has (root_passes xs (later_of ys) t none ∙ k.1) ∙ choice_parts T e (root_of xs (later_of ys)) is p q t h)

pub foreign_part : (T : AsnType) (e : Bool) (xs ys : List Alt) (is : T ≡ choice e (root_of xs (later_of ys))) (p q : Place) (t : Tag) → got t q ≡ tag p → IsFirst xs t None → IsFirst ys t None → (o : Answer) → lookup o to_chosen (parts_in (read_alone None counted_octets q)) ≡ lookup o to_chosen (parts_in (read_parts T p))
foreign_part T e xs ys is p q t h none later o =
    let has : has_tag t (root_of xs (later_of ys)) ≡ false = not_in_root xs (later_of ys) t (sym none) ∙ later_tags ys t ∙ later in
    ap (λ (l : Outcome (List Part)). lookup o to_chosen (parts_in l)) (by_none (has_tag t (root_of xs (later_of ys))) (alternative_parts (root_of xs (later_of ys)) t) (read_alone None counted_octets) q has ∙ choice_parts T e (root_of xs (later_of ys)) is p q t h)

-- its open type was checked
pub later_checked : (T : AsnType) (xs ys : List Alt) (is : T ≡ choice true (root_of xs (later_of ys))) (p q : Place) (t : Tag) (a : Alt) → got t q ≡ tag p → IsFirst xs t None → Some a ≡ first_with t ys → IsGot (check_value T p) → IsGot (check_open (check_value (type_of a.shape)) q)
later_checked T xs ys is p q t a h none first (f, r, e) =
    let whole = choice_later xs ys p q t (check_later (later_of ys) t q) h (sym none) refl in
    (f, r, e ∙ ap (λ (U : AsnType). check_value U p) is ∙ sym whole ∙ sym (ap (λ (c : Reader Bool). c q) (later_found ys a t first)))
