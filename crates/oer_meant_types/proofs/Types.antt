-- The type that is found for a type of a module is the one that it is: by induction on the levels.
use Rattle.std.proofs.Common.{◌≡◌, ◌∙◌, ◌≤◌, ◌<◌, inl, inr, ℕ, zero, suc, ◌==◌, List, [], ◌∷◌, ◌++◌, Bool, true, false, Option, Some, None, Ok, Err}
use Rattle.std.proofs.Common.{◌&&◌, ◌+◌, refl, sym, ap, subst, arith, slice_get}
use Rattle.std.proofs.lemmas.Bool.{leb-false, leb-true}
use Rattle.oer_model.specs.AsnType.{AsnType}
use Rattle.oer_module_defaults.specs.Components.{sequence_of as elements_in}
use Rattle.oer_module_leaves.specs.Leaves.{leaf_at}
use Rattle.oer_module_lexer.specs.Token.{Spot}
use Rattle.oer_module_limits.specs.Written.{Written, written}
use Rattle.oer_module_names.specs.declared.error.Place.{Place}
use Rattle.oer_module_syntax.specs.Modules.{none_left}
use Rattle.oer_module_syntax.specs.Tree.{Module, Tree, plain, named, tagged, structure, list_of, selection, instance_of, any_defined_by}
use Rattle.oer_module_syntax.specs.Tree.{Elements, no_elements, element, marker, group, components_of, component}
use Rattle.oer_module_syntax.specs.declared.word.Builtin.{Builtin}
use Rattle.oer_module_syntax.specs.declared.word.Builtin.TheVariants as bi
use Rattle.oer_module_parts.specs.Automatic.{are_untagged, marks_of}
use Rattle.oer_module_tags.specs.Alternatives.{alternative_tags, checked, own_tag, own_tags}
use Rattle.oer_module_tags.specs.Headers.{tags_automatically}
use Rattle.oer_module_tags.specs.Laws.{AlternativesAreSound}
use Rattle.oer_module_text.specs.Errors.{Read, place_in}
use Rattle.oer_module_text.specs.Room.{Room, new, take_part}
use Rattle.oer_module_types.specs.Fields.{field_at, field_of, if_open, open_at}
use Rattle.oer_module_types.specs.Gathered.{Gathered, choice_in, empty, sequence_in}
use Rattle.oer_module_types.specs.Levels.{end_at, end_type, is_full, times}
use Rattle.oer_module_types.specs.Types.{braces_at, closed, elements_at, first, included_at, inside_at, list_at, meant_as, nested_at, roots_at, single_at}
use Rattle.oer_module_types.specs.Types.{single_by, stands_for, structure_at, type_at, type_place, typed}
use Rattle.oer_module_values.specs.Looks.{place_of}
use Rattle.oer_module_values.proofs.References.{none_left-nil}
use Rattle.oer_module_values.specs.Laws.{TypesAreSound as MeaningsAreSound}
use Rattle.oer_module_values.specs.Types.{Given, Meaning, Means, TypeIn, meaning, type_in}
use Rattle.oer_units.specs.declared.tagging.Tag.{Tag}
use Rattle.oer_meant_leaves.proofs.Results.{text_told}
use Rattle.oer_meant_leaves.specs.Laws.{LeavesAreSound}
use Rattle.oer_meant_types.proofs.Elements.{Fits, Included, NoneIncluded, Roots, RootsSound, Types, TypesSound, parted, rooted_are}
use Rattle.oer_meant_types.proofs.Fields.{is_type_field}
use Rattle.oer_meant_types.proofs.Gathering.{choice_put, flagged, put_all, sequence_put}
use Rattle.oer_meant_types.proofs.Holding.{Holds, bind, choose, given, once, unknown, weaken}
use Rattle.oer_meant_types.specs.Laws.{TypesAreSound}
use Rattle.oer_meant_types.specs.Types.{AreTyped, HoldsOthers, HasTypeField, IsType, Typed, by_choice, by_end, by_field, by_leaf, by_list, by_sequence}
use Rattle.oer_meant_values.specs.Laws.{DefaultsAreSound}
use Rattle.oer_meant_values.specs.Parts.{AreParts, Part}

-- ---- alternatives: nothing is included among them

checked_none : (m : ℕ) (es : Elements) → Holds (λ u. NoneIncluded es) (checked m es)
checked_none m no_elements = record { told = tt }
checked_none m (element (marker at x) es) = checked_none m es
checked_none m (element (group at fs) es) = record { told = tt }
checked_none m (element (components_of at t) es) = record { told = tt }
checked_none m (element (component at w t need) es) = checked_none m es

module _ (ms : List Module) where
  tagged_none : (m : ℕ) (es : Elements) → Holds (λ gs. NoneIncluded es) (own_tags ms m es)
  tagged_none m no_elements = record { told = tt }
  tagged_none m (element (marker at x) es) = bind (λ gs. NoneIncluded es) _ (own_tags ms m es) _ (tagged_none m es) (λ gs n. record { told = n })
  tagged_none m (element (group at fs) es) = record { told = tt }
  tagged_none m (element (components_of at t) es) = record { told = tt }
  tagged_none m (element (component at w t need) es) =
      bind (λ g. Unit {0}) _ (own_tag ms m (component at w t need)) _ (unknown _) (λ g h.
      bind (λ gs. NoneIncluded es) _ (own_tags ms m es) _ (tagged_none m es) (λ gs n. record { told = n }))

  none_included : (m : ℕ) (es : Elements) → Holds (λ gs. NoneIncluded es) (alternative_tags ms m es)
  unfolding alternative_tags
  none_included m es = choose _ (tags_automatically ms m && are_untagged (marks_of es)) _ _
      (λ h. bind (λ u. NoneIncluded es) _ (checked m es) _ (checked_none m es) (λ u n. weaken (λ gs. Unit {0}) _ _ (unknown _) (λ gs h. n)))
      (λ h. tagged_none m es)

-- ---- what is meant

-- the SEQUENCE that a type is
abbrev IsSequenceOf : Tree → Option Elements → Type 0
IsSequenceOf t None = Unit {0}
IsSequenceOf t (Some es) = (at : ℕ) × (cs : List Spot) × (t ≡ structure at bi.Sequence es cs)

in_braces : (at : ℕ) (b : Builtin) (es : Elements) (cs : List Spot) → IsSequenceOf (structure at b es cs) (elements_in (structure at b es cs))
in_braces at bi.Sequence es cs = (at, cs, refl)
in_braces at b es cs = tt

elements_found : (t : Tree) → IsSequenceOf t (elements_in t)
elements_found (structure at b es cs) = in_braces at b es cs
elements_found (plain at b items cs) = tt
elements_found (named at w steps ps cs) = tt
elements_found (tagged at ts mode t) = tt
elements_found (list_of at b sized ss w t) = tt
elements_found (selection at w t) = tt
elements_found (instance_of at c steps cs) = tt
elements_found (any_defined_by at w) = tt

ended : (levels : ℕ) (p : Place) (r : Room) → Holds (λ x. x.0 ≡ end_type) (end_at levels p r)
unfolding end_at
ended levels p r = choose _ (levels == 0) _ _ (λ h. record { told = tt }) (λ h.
    bind (λ s. Unit {0}) _ (take_part p r) _ (unknown (take_part p r)) (λ s h. record { told = refl }))

module _ (leaves : LeavesAreSound) (defaults : DefaultsAreSound) (meanings : MeaningsAreSound) (tags_sound : AlternativesAreSound)
    (ms : List Module) (nesting : ℕ) where
  means : (t : TypeIn) (u : Meaning) → stands_for ms t ≡ Ok u → Means ms t.«module» t.type u.of u.given
  unfolding stands_for
  means t u is = meanings ms t.«module» t.type u.of u.given (text_told (meaning ms t) u is)

  -- ---- types that hold no other

  open_field : (m at : ℕ) (class : List ℕ) (w : Option (List ℕ))
      → Holds (λ o. o ≡ true → (v : List ℕ) × (w ≡ Some v) × HasTypeField ms m class v) (open_at ms m at class w)
  open_field m at class None = record { told = λ h. absurd (let e : false ≡ true = h in cc) }
  open_field m at class (Some v) = weaken _ _ _ (is_type_field ms m at class v) (λ o is h. (v, refl, is h))

  opened : (path : List Place) (t : TypeIn) (u : Meaning) (at : ℕ) (name : List ℕ) (steps cs : List Spot) (w : Written) (r : Room) (o : Bool)
      → Means ms t.«module» t.type (type_in u.of.«module» (named at name steps [] cs)) u.given
      → (o ≡ true → (v : List ℕ) × (field_of steps ≡ Some v) × HasTypeField ms u.of.«module» name v)
      → Holds (λ x. IsType ms nesting path t.«module» t.type x.0) (if_open (place_in u.of.«module» at) w r o)
  opened path t u at name steps cs w r true m is =
      let f = is refl in
      record { told = by_field path t.«module» u.of.«module» at t.type name f.0 steps cs u.given m f.1 f.2 }
  opened path t u at name steps cs w r false m is = record { told = tt }

  field_is : (path : List Place) (t : TypeIn) (u : Meaning) (at : ℕ) (name : List ℕ) (steps ps cs : List Spot) (w : Written) (r : Room)
      → Means ms t.«module» t.type (type_in u.of.«module» (named at name steps ps cs)) u.given
      → Holds (λ x. IsType ms nesting path t.«module» t.type x.0) (field_at ms (place_in u.of.«module» at) name steps ps w r)
  unfolding field_at
  field_is path t u at name steps ps cs w r m = choose _ (none_left ps) _ _
      (λ none. bind _ _ (open_at ms u.of.«module» at name (field_of steps)) _ (open_field u.of.«module» at name (field_of steps)) (λ o is.
      opened path t u at name steps cs w r o
      (subst (λ qs. Means ms t.«module» t.type (type_in u.of.«module» (named at name steps qs cs)) u.given) (none_left-nil ps none) m) is))
      (λ some. record { told = tt })

  leaf_is : (path : List Place) (t : TypeIn) (p : Place) (u : Meaning) (r : Room) → Means ms t.«module» t.type u.of u.given
      → Holds (λ x. IsType ms nesting path t.«module» t.type x.0) (leaf_at ms p u r)
  leaf_is path t p u r m = from (leaf_at ms p u r) (λ T s is. by_leaf path t.«module» t.type u.of u.given T m (leaves ms p u r s T is))
    where
      from : (q : Read (AsnType × Room)) → ((T : AsnType) (s : Room) → q ≡ Ok (T, s) → IsType ms nesting path t.«module» t.type T)
          → Holds (λ x. IsType ms nesting path t.«module» t.type x.0) q
      from (Ok x) k = record { told = k x.0 x.1 refl }
      from (Err e) k = record { told = tt }

  single_is : (path : List Place) (t : TypeIn) (p : Place) (u : Meaning) (v : Tree) (r : Room) → u.of.type ≡ v
      → Means ms t.«module» t.type u.of u.given
      → Holds (λ x. IsType ms nesting path t.«module» t.type x.0) (single_by ms p u u.of.«module» v r)
  single_is path t p u (plain at b items cs) r e m = leaf_is path t p u r m
  single_is path t p u (named at name steps ps cs) r e m =
      field_is path t u at name steps ps cs (written u.of.«module» cs u.given) r
      (subst (λ v. Means ms t.«module» t.type (type_in u.of.«module» v) u.given) e m)
  single_is path t p u (tagged at ts mode v) r e m = record { told = tt }
  single_is path t p u (structure at b es cs) r e m = record { told = tt }
  single_is path t p u (list_of at b sized ss name item) r e m = record { told = tt }
  single_is path t p u (selection at name v) r e m = record { told = tt }
  single_is path t p u (instance_of at class steps cs) r e m = record { told = tt }
  single_is path t p u (any_defined_by at name) r e m = record { told = tt }

  module _ (levels : ℕ) (type : Types) (types : TypesSound ms nesting type) (roots : Roots) (rooted : RootsSound ms nesting roots) where
    -- ---- types that hold others

    record Braced (path : List Place) (m : ℕ) (es : Elements) (tags : List Tag) (g : Gathered) : Type 0 where
      pub parts : List Part
      pub marked : Bool
      pub are : AreParts ms m es parts marked
      pub found : List Typed
      pub typed_are : AreTyped ms nesting path parts found
      pub put : g ≡ put_all found tags (flagged marked empty)

    braced : (p : Place) (tags : List Tag) (path : List Place) (es : Elements) (r : Room) → Fits tags es
        → Holds (λ x. Braced path p.«module» es tags x.0) (braces_at ms type roots p tags path es r)
    unfolding braces_at empty
    braced p tags path es r fits =
        bind _ _ (elements_at ms type roots p.«module» tags path (first false) es empty r) _
        (parted ms nesting defaults type types roots rooted p.«module» tags path (first false) es tags empty r fits refl refl
        (λ n. let e : 0 + n ≡ n = omega arith in ap (slice_get tags) e))
        (λ x h. bind (λ s. Unit {0}) _ (closed ms p x.0.marked x.2) _ (unknown _) (λ s k.
        record { told = record { parts = h.parts; marked = h.marked; are = h.are; found = h.found; typed_are = h.typed_are; put = h.put } }))

    module _ (path : List Place) (t : TypeIn) (n at : ℕ) (es : Elements) (cs : List Spot) (gs : List Given)
        (less : times (place_in n at) path < nesting) where
      sequence_is : (r : Room) → Means ms t.«module» t.type (type_in n (structure at bi.Sequence es cs)) gs
          → Holds (λ x. IsType ms nesting path t.«module» t.type x.0)
          (inside_at ms type roots (place_in n at) bi.Sequence es (path ++ place_in n at ∷ []) r)
      sequence_is r m =
          bind (λ x. Braced (path ++ place_in n at ∷ []) n es [] x.0) _ (braces_at ms type roots (place_in n at) [] (path ++ place_in n at ∷ []) es _) _
          (braced (place_in n at) [] (path ++ place_in n at ∷ []) es _ (inl refl)) (λ x h.
          record {
            told = subst (IsType ms nesting path t.«module» t.type) (sym (ap sequence_in h.put ∙ sequence_put h.marked h.found))
                (by_sequence path t.«module» n at t.type es cs gs h.parts h.marked h.found m less h.are h.typed_are);
          })

      choice_is : (r : Room) → Means ms t.«module» t.type (type_in n (structure at bi.Choice es cs)) gs
          → Holds (λ x. IsType ms nesting path t.«module» t.type x.0)
          (inside_at ms type roots (place_in n at) bi.Choice es (path ++ place_in n at ∷ []) r)
      choice_is r m =
          once _ (alternative_tags ms n es) _ (λ tags are.
          bind (λ x. Braced (path ++ place_in n at ∷ []) n es tags x.0) _ (braces_at ms type roots (place_in n at) tags (path ++ place_in n at ∷ []) es _) _
          (braced (place_in n at) tags (path ++ place_in n at ∷ []) es _ (inr (given (λ gs. NoneIncluded es) _ tags (none_included ms n es) are))) (λ x h.
          record {
            told = subst (IsType ms nesting path t.«module» t.type) (sym (ap choice_in h.put ∙ choice_put h.marked h.found tags))
                (by_choice path t.«module» n at t.type es cs gs h.parts h.marked h.found tags m less h.are (tags_sound ms n es tags are) h.typed_are);
          }))

      inside_is : (b : Builtin) (r : Room) → Means ms t.«module» t.type (type_in n (structure at b es cs)) gs
          → Holds (λ x. IsType ms nesting path t.«module» t.type x.0) (inside_at ms type roots (place_in n at) b es (path ++ place_in n at ∷ []) r)
      inside_is bi.Sequence r m = sequence_is r m
      inside_is bi.Choice r m = choice_is r m
      inside_is b r m = record { told = tt }

      structure_is : (b : Builtin) (w : Written) (r : Room) → Means ms t.«module» t.type (type_in n (structure at b es cs)) gs
          → Holds (λ x. IsType ms nesting path t.«module» t.type x.0) (structure_at ms type roots (place_in n at) b es w (path ++ place_in n at ∷ []) r)
      unfolding structure_at
      structure_is b w r m =
          bind (λ x. IsType ms nesting path t.«module» t.type x.0) _ (inside_at ms type roots (place_in n at) b es (path ++ place_in n at ∷ []) r) _
          (inside_is b r m) (λ x is. record { told = is })

    list_is : (path : List Place) (t : TypeIn) (n at : ℕ) (b : Builtin) (sized : Bool) (ss : List Spot) (name : Option (List ℕ)) (item : Tree)
        (gs : List Given) (w : Written) (r : Room) → times (place_in n at) path < nesting
        → Means ms t.«module» t.type (type_in n (list_of at b sized ss name item)) gs
        → Holds (λ x. IsType ms nesting path t.«module» t.type x.0) (list_at ms type (place_in n at) b sized item w (path ++ place_in n at ∷ []) r)
    list_is path t n at bi.Sequence sized ss name item gs w r less m =
        bind _ _ (type (path ++ place_in n at ∷ []) (type_in n item) _) _ (types (path ++ place_in n at ∷ []) (type_in n item) _) (λ x is.
        record { told = by_list path t.«module» n at t.type item sized ss name gs x.0 m less is })
    list_is path t n at b sized ss name item gs w r less m = record { told = tt }

    -- ---- ends

    nested_is : (inside : List Place → Room → Read (AsnType × Room)) (p : Place) (path : List Place) (t : TypeIn) (u : TypeIn) (gs : List Given) (r : Room)
        → Means ms t.«module» t.type u gs → HoldsOthers u.type → place_in u.«module» (place_of u.type) ≡ p
        → (times p path < nesting → Holds (λ x. IsType ms nesting path t.«module» t.type x.0) (inside (path ++ p ∷ []) r))
        → Holds (λ x. IsType ms nesting path t.«module» t.type x.0) (nested_at nesting levels inside p path r)
    unfolding nested_at
    nested_is inside p path t u gs r m holds e k = choose _ (is_full nesting p path) _ _
        (λ full. weaken _ _ _ (ended levels p r) (λ x is. subst (IsType ms nesting path t.«module» t.type) (sym is)
        (by_end path t.«module» t.type u gs m holds (subst (λ q. nesting ≤ times q path) (sym e) (leb-true nesting (times p path) full)))))
        (λ free. k (leb-false nesting (times p path) free))

    single_by_tree : (path : List Place) (t : TypeIn) (p : Place) (u : Meaning) (v : Tree) (r : Room) → u.of.type ≡ v
        → Means ms t.«module» t.type u.of u.given
        → Holds (λ x. IsType ms nesting path t.«module» t.type x.0) (single_at ms p u r)
    unfolding single_at
    single_by_tree path t p u v r e m = single_is path t p u u.of.type r refl m

    meant_is : (path : List Place) (t : TypeIn) (p : Place) (u : Meaning) (v : Tree) (r : Room) → u.of.type ≡ v
        → Means ms t.«module» t.type u.of u.given
        → Holds (λ x. IsType ms nesting path t.«module» t.type x.0) (meant_as ms nesting levels type roots path p u u.of.«module» v r)
    meant_is path t p u (structure at b es cs) r e m =
        let means_it = subst (λ v. Means ms t.«module» t.type (type_in u.of.«module» v) u.given) e m in
        nested_is _ (place_in u.of.«module» at) path t (type_in u.of.«module» (structure at b es cs)) u.given r means_it tt refl
        (λ less. structure_is path t u.of.«module» at es cs u.given less b (written u.of.«module» cs u.given) r means_it)
    meant_is path t p u (list_of at b sized ss name item) r e m =
        let means_it = subst (λ v. Means ms t.«module» t.type (type_in u.of.«module» v) u.given) e m in
        nested_is _ (place_in u.of.«module» at) path t (type_in u.of.«module» (list_of at b sized ss name item)) u.given r means_it tt refl
        (λ less. list_is path t u.of.«module» at b sized ss name item u.given (written u.of.«module» ss u.given) r less means_it)
    meant_is path t p u (plain at b items cs) r e m = single_by_tree path t p u (plain at b items cs) r e m
    meant_is path t p u (named at name steps ps cs) r e m = single_by_tree path t p u (named at name steps ps cs) r e m
    meant_is path t p u (tagged at ts mode v) r e m = single_by_tree path t p u (tagged at ts mode v) r e m
    meant_is path t p u (selection at name v) r e m = single_by_tree path t p u (selection at name v) r e m
    meant_is path t p u (instance_of at class steps cs) r e m = single_by_tree path t p u (instance_of at class steps cs) r e m
    meant_is path t p u (any_defined_by at name) r e m = single_by_tree path t p u (any_defined_by at name) r e m

    -- ---- COMPONENTS OF

    included_is : (p : Place) (path : List Place) (any : Bool) (t : Tree) (u : Meaning) (g : Gathered) (r : Room) (o : Option Elements)
        → Means ms p.«module» t u.of u.given → IsSequenceOf u.of.type o → g.marked ≡ false
        → Holds (Included ms nesting path p.«module» t g) (included_at ms type roots p path any u.of.«module» o g r)
    included_is p path any t u g r None m is k = record { told = tt }
    included_is p path any t u g r (Some es) m is k =
        weaken _ _ _ (rooted_are ms nesting defaults type types roots rooted u.of.«module» path (first any) es g r refl k) (λ x h.
        record {
          there = u.of.«module»;
          at = is.0;
          elements = es;
          constraints = is.1;
          given = u.given;
          means = subst (λ v. Means ms p.«module» t (type_in u.of.«module» v) u.given) is.2 m;
          parts = h.parts;
          root = h.root;
          found = h.found;
          are = h.typed_are;
          put = h.put;
        })

  -- ---- all levels

  record Sound (levels : ℕ) : Type 0 where
    types : TypesSound ms nesting (type_at ms nesting levels)
    roots : RootsSound ms nesting (roots_at ms nesting levels)

  no_types : TypesSound ms nesting (type_at ms nesting zero)
  unfolding type_at
  no_types path t r = record { told = tt }

  no_roots : RootsSound ms nesting (roots_at ms nesting zero)
  unfolding roots_at
  no_roots path any p t g r k = record { told = tt }

  more_types : (levels : ℕ) → Sound levels → TypesSound ms nesting (type_at ms nesting (suc levels))
  unfolding type_at
  more_types levels l path t r =
      once _ (stands_for ms t) _ (λ u is.
      bind (λ s. Unit {0}) _ (take_part (type_place u.of) r) _ (unknown (take_part (type_place u.of) r)) (λ s h.
      meant_is levels (type_at ms nesting levels) l.types (roots_at ms nesting levels) l.roots path t (type_place t) u u.of.type s refl (means t u is)))

  more_roots : (levels : ℕ) → Sound levels → RootsSound ms nesting (roots_at ms nesting (suc levels))
  unfolding roots_at
  more_roots levels l path any p t g r k =
      once _ (stands_for ms (type_in p.«module» t)) _ (λ u is.
      bind (λ s. Unit {0}) _ (take_part (type_place u.of) r) _ (unknown (take_part (type_place u.of) r)) (λ s h.
      included_is levels (type_at ms nesting levels) l.types (roots_at ms nesting levels) l.roots p path any t u g s (elements_in u.of.type)
      (means (type_in p.«module» t) u is) (elements_found u.of.type) k))

  all_levels : (levels : ℕ) → Sound levels
  all_levels zero = record { types = no_types; roots = no_roots }
  all_levels (suc levels) = record { types = more_types levels (all_levels levels); roots = more_roots levels (all_levels levels) }

  whole : (t : TypeIn) → Holds (λ x. IsType ms nesting [] t.«module» t.type x.0) (typed ms nesting t)
  unfolding typed
  whole t = bind _ _ (type_at ms nesting 32 [] t new) _ ((all_levels 32).types [] t new) (λ x is. record { told = is })

pub types_sound : LeavesAreSound → DefaultsAreSound → MeaningsAreSound → AlternativesAreSound → TypesAreSound
types_sound leaves defaults meanings alternatives ms nesting t T text is =
    given (λ x. IsType ms nesting [] t.«module» t.type x.0) _ (T, text) (whole leaves defaults meanings alternatives ms nesting t) is
