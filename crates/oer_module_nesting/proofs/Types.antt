-- A type of modules at a nesting, and at one that isn't less: by induction on the levels, which are the same for both.
use Rattle.std.proofs.Common.{◌≡◌, ◌≤◌, ◌==◌, nat_le, ℕ, zero, suc, List, [], ◌∷◌, ◌++◌, Bool, true, false, Ok, Err, codes, inl, refl, subst, arith}
use Rattle.std.proofs.Common.{if◌then◌else◌}
use Rattle.std.proofs.lemmas.Bool.{leb-true, le-leb}
use Rattle.oer_model.specs.AsnType.{AsnType}
use Rattle.oer_module_defaults.specs.Components.{sequence_of}
use Rattle.oer_module_limits.specs.Written.{written}
use Rattle.oer_module_names.specs.declared.error.Place.{Place}
use Rattle.oer_module_syntax.specs.Tree.{Module, Tree, plain, named, tagged, structure, list_of, selection, instance_of, any_defined_by}
use Rattle.oer_module_text.specs.Errors.{Read, error, place_in, too_deep, ◌>>=◌}
use Rattle.oer_module_text.specs.Room.{Room, new, put, take_part}
use Rattle.oer_module_types.specs.Levels.{end_at, end_text, end_type, is_full, times}
use Rattle.oer_module_types.specs.Types.{list_at, meant_as, nested_at, roots_at, single_at, single_by, stands_for}
use Rattle.oer_module_types.specs.Types.{structure_at, type_at, type_place, typed}
use Rattle.oer_module_values.specs.Types.{TypeIn, Meaning, type_in}
use Rattle.oer_nesting.proofs.Canonical.{canonical_alike, encodes_alike}
use Rattle.oer_nesting.proofs.Free.{free_meets_none}
use Rattle.oer_nesting.proofs.FreeDefaults.{free_defaults}
use Rattle.oer_nesting.proofs.Replaced.{none_replaced}
use Rattle.oer_nesting.specs.Deeper.{Deeper}
use Rattle.oer_module_nesting.proofs.Alike.{Alike, Same, ahead, behind, bind, given, once, weaken}
use Rattle.oer_module_nesting.proofs.Elements.{Further, Nest, Roots, RootsNest, Types, TypesNest, included_nests, list_nests, structure_nests}
use Rattle.oer_module_nesting.proofs.Leaves.{field_type, leaf as leaf_type}
use Rattle.oer_module_nesting.specs.Laws.{CanonicalAlike, EncodesAlike, FreeCanonical, FreeEncodes, IsDeeper, OfBoth}

-- ---- an end

end_nests : (r : Room) (q : Read (AsnType × Room)) → Alike Nest (Ok (end_type, r)) q
end_nests r (Ok y) = record { related = inl (codes "too-deep", refl) }
end_nests r (Err e) = record { related = tt }

no_level : (b : Bool) (p q : Read (AsnType × Room)) (place : Place) → Alike Nest p q → Alike Nest (if b then error place too_deep else p) q
no_level true p q place a = record { related = tt }
no_level false p q place a = a

ended : (levels : ℕ) (p : Place) (r : Room) (q : Read (AsnType × Room)) → Alike Nest (end_at levels p r) q
unfolding end_at
ended levels p r q = no_level (levels == 0) _ q p (ahead Nest (take_part p r) _ q (λ s. end_nests (put end_text s) q))

full_by : (b c : Bool) → (c ≡ true → b ≡ true) → (levels : ℕ) (p : Place) (r s : Room) (x y : Read (AsnType × Room)) → Alike Nest x y
    → Alike Nest (if b then end_at levels p r else x) (if c then end_at levels p s else y)
full_by true c more levels p r s x y a = ended levels p r _
full_by false true more levels p r s x y a = absurd (let e : false ≡ true = more refl in cc)
full_by false false more levels p r s x y a = a

-- what is full at a nesting is full at a lesser one
still_full : (n m k : ℕ) → n ≤ m → nat_le m k ≡ true → nat_le n k ≡ true
still_full n m k less full = let h : m ≤ k = leb-true m k full in le-leb n k (omega arith)

-- ---- types that hold no other

module _ (ms : List Module) where
  single_of : (p : Place) (m : Meaning) (k : ℕ) (v : Tree) (r s : Room) → Alike Same (single_by ms p m k v r) (single_by ms p m k v s)
  single_of p m k (plain at b items cs) r s = leaf_type ms p m r s
  single_of p m k (named at name steps ps cs) r s = field_type ms (place_in k at) name steps ps (written k cs m.given) r s
  single_of p m k (selection at name v) r s = record { related = tt }
  single_of p m k (instance_of at class steps cs) r s = record { related = tt }
  single_of p m k (any_defined_by at name) r s = record { related = tt }
  single_of p m k v r s = record { related = tt }

  single : (p : Place) (m : Meaning) (r s : Room) → Alike Same (single_at ms p m r) (single_at ms p m s)
  unfolding single_at
  single p m r s = single_of p m m.of.«module» m.of.type r s

-- the same type, with none of its ends replaced
same_nests : (x y : AsnType × Room) → x.0 ≡ y.0 → Deeper x.0 y.0
same_nests x y same = subst (λ U. Deeper x.0 U) same (none_replaced x.0)

module _ (ms : List Module) (n m : ℕ) (less : n ≤ m) (levels : ℕ) (type type' : Types) (types : TypesNest type type')
    (roots roots' : Roots) (rest : RootsNest roots roots') where
  nested : (inside inside' : List Place → Room → Read (AsnType × Room)) (p : Place) (path : List Place) (r s : Room)
      → Alike Nest (inside (path ++ p ∷ []) r) (inside' (path ++ p ∷ []) s) → Alike Nest (nested_at n levels inside p path r) (nested_at m levels inside' p path s)
  unfolding nested_at
  nested inside inside' p path r s a =
      full_by (is_full n p path) (is_full m p path) (still_full n m (times p path) less) levels p r s _ _ a

  single_nests : (p : Place) (u : Meaning) (r s : Room) → Alike Nest (single_at ms p u r) (single_at ms p u s)
  single_nests p u r s = weaken Same Nest _ _ (single ms p u r s) same_nests

  meant : (path : List Place) (p : Place) (u : Meaning) (k : ℕ) (v : Tree) (r s : Room)
      → Alike Nest (meant_as ms n levels type roots path p u k v r) (meant_as ms m levels type' roots' path p u k v s)
  meant path p u k (structure at b es cs) r s =
      let w = written k cs u.given in
      nested (structure_at ms type roots (place_in k at) b es w) (structure_at ms type' roots' (place_in k at) b es w)
      (place_in k at) path r s (structure_nests ms type type' types roots roots' rest (place_in k at) b es w _ r s)
  meant path p u k (list_of at b sized size name item) r s =
      let w = written k size u.given in
      nested (list_at ms type (place_in k at) b sized item w) (list_at ms type' (place_in k at) b sized item w)
      (place_in k at) path r s (list_nests ms type type' types (place_in k at) b sized item w _ r s)
  meant path p u k (plain at b items cs) r s = single_nests p u r s
  meant path p u k (named at name steps ps cs) r s = single_nests p u r s
  meant path p u k (tagged at ts mode v) r s = single_nests p u r s
  meant path p u k (selection at name v) r s = single_nests p u r s
  meant path p u k (instance_of at class steps cs) r s = single_nests p u r s
  meant path p u k (any_defined_by at name) r s = single_nests p u r s

-- ---- all levels

module _ (ms : List Module) (n m : ℕ) (less : n ≤ m) where
  record Nests (levels : ℕ) : Type 0 where
    types : TypesNest (type_at ms n levels) (type_at ms m levels)
    roots : RootsNest (roots_at ms n levels) (roots_at ms m levels)

  none_types : TypesNest (type_at ms n zero) (type_at ms m zero)
  unfolding type_at
  none_types path t r s = record { related = tt }

  none_roots : RootsNest (roots_at ms n zero) (roots_at ms m zero)
  unfolding roots_at
  none_roots path any p t g h r s is = record { related = tt }

  more_types : (levels : ℕ) → Nests levels → TypesNest (type_at ms n (suc levels)) (type_at ms m (suc levels))
  unfolding type_at
  more_types levels l path t r s =
      once Nest (stands_for ms t) _ _ (λ u is. behind Nest (take_part (type_place u.of) r) (take_part (type_place u.of) s) _ _ (λ r' s'.
      meant ms n m less levels (type_at ms n levels) (type_at ms m levels) l.types (roots_at ms n levels) (roots_at ms m levels) l.roots
      path (type_place t) u u.of.«module» u.of.type r' s'))

  more_roots : (levels : ℕ) → Nests levels → RootsNest (roots_at ms n (suc levels)) (roots_at ms m (suc levels))
  unfolding roots_at
  more_roots levels l path any p t g h r s is =
      once Further (stands_for ms (type_in p.«module» t)) _ _ (λ u means. behind Further (take_part (type_place u.of) r) (take_part (type_place u.of) s) _ _ (λ r' s'.
      included_nests ms (type_at ms n levels) (type_at ms m levels) l.types (roots_at ms n levels) (roots_at ms m levels) l.roots
      p path any u.of.«module» (sequence_of u.of.type) g h r' s' is))

  all_levels : (levels : ℕ) → Nests levels
  all_levels zero = record { types = none_types; roots = none_roots }
  all_levels (suc levels) = record { types = more_types levels (all_levels levels); roots = more_roots levels (all_levels levels) }

  whole : (t : TypeIn) → Alike (λ x y. Deeper x.0 y.0) (typed ms n t) (typed ms m t)
  unfolding typed
  whole t = bind Nest (λ x y. Deeper x.0 y.0) _ _ _ _ ((all_levels 32).types [] t new new) (λ x y is. record { related = is })

-- ---- the laws

pub is_deeper : IsDeeper
is_deeper ms n m t x y less e f = given (λ a c. Deeper a.0 c.0) _ _ x y (whole ms n m less t) e f

pub encoded_by_both : EncodesAlike
encoded_by_both ms n m t x y less e f v b = encodes_alike x.0 y.0 (is_deeper ms n m t x y less e f) v b

pub canonical_by_both : CanonicalAlike
canonical_by_both ms n m t x y less e f meet v b = canonical_alike x.0 y.0 (is_deeper ms n m t x y less e f) meet v b

pub free_encodes : FreeEncodes
free_encodes ms n m t x y less e f v b free h =
    (encoded_by_both ms n m t x y less e f v b (free_meets_none x.0 v h.1 free)).0 h

pub free_canonical : FreeCanonical
free_canonical ms n m t x y less e f fit defaults v b free h =
    (canonical_by_both ms n m t x y less e f (free_defaults x.0 fit defaults) v b (free_meets_none x.0 v h.0 free)).0 h
