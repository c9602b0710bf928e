-- Components and alternatives have the types, needs and tags that they are found with, where types have.
use Rattle.std.proofs.Common.{◌≡◌, ◌∙◌, ◌≤◌, ◌⊎◌, inl, inr, ℕ, suc, ◌+◌, ◌-◌, List, [], ◌∷◌, ◌++◌, Bool, true, false, Option, Some, None, Ok}
use Rattle.std.proofs.Common.{if◌then◌else◌, refl, sym, ap, subst, arith, slice_get}
use Rattle.oer_model.specs.AsnType.{AsnType}
use Rattle.oer_model.specs.AsnType as asn
use Rattle.oer_module_lexer.specs.Token.{Spot}
use Rattle.oer_module_names.specs.declared.error.Place.{Place}
use Rattle.oer_module_syntax.specs.Tree.{Module, Tree, structure, Elements, no_elements, element, Element, marker, group, components_of, component, Need}
use Rattle.oer_module_syntax.specs.declared.word.Builtin.TheVariants as bi
use Rattle.oer_module_text.specs.Errors.{Read, place_in, ◌>>=◌}
use Rattle.oer_module_text.specs.Room.{Room}
use Rattle.oer_module_types.specs.Gathered.{Gathered, with_marker, with_part}
use Rattle.oer_module_types.specs.Types.{after, behind, component_at, components_of_at, element_at, elements_at, index_of, marker_at, name_at, need_at}
use Rattle.oer_module_types.specs.Types.{root_at, root_element_at, tag_at}
use Rattle.oer_module_types.specs.declared.element.After.{After}
use Rattle.oer_module_types.specs.declared.element.Before.{Before}
use Rattle.oer_module_values.specs.Types.{Given, Means, TypeIn, type_in}
use Rattle.oer_units.specs.declared.tagging.Tag.{Tag}
use Rattle.oer_meant_types.proofs.Gathering.{all_marked, first_of, flag_moves, flagged, one_marked, part_put, put_all, put_append, put_one, rest_of, typed}
use Rattle.oer_meant_types.proofs.Holding.{Holds, bind, choose, not_both, unknown, weaken}
use Rattle.oer_meant_types.proofs.Needs.{need_is}
use Rattle.oer_meant_types.specs.Types.{AreTyped, IsNeed, IsType, Typed, another_typed, none_typed}
use Rattle.oer_meant_values.specs.Laws.{DefaultsAreSound}
use Rattle.oer_meant_values.specs.Parts.{AreAdded, AreParts, IsRoot, Part, another, another_added, another_part, behind_marker, included, included_parts, no_more}
use Rattle.oer_meant_values.specs.Parts.{no_parts, none_added, part, up_to_marker}

abbrev pub Types : Type 0
Types = List Place → TypeIn → Room → Read (AsnType × Room)

abbrev pub Roots : Type 0
Roots = List Place → Bool → Place → Tree → Gathered → Room → Read (Bool × Gathered × Room)

-- ---- which tags come next

-- the tags from an element on are these
abbrev Follows : List Tag → Before → List Tag → Type 0
Follows tags b rest = (n : ℕ) → slice_get tags (index_of b + n) ≡ slice_get rest n

none_there : (n : ℕ) → slice_get {X = Tag} [] n ≡ None
none_there n = refl

front : (rest : List Tag) → slice_get rest 0 ≡ first_of rest
front [] = refl
front (t ∷ ts) = refl

next : (rest : List Tag) (n : ℕ) → slice_get rest (suc n) ≡ slice_get (rest_of rest) n
next [] n = refl
next (t ∷ ts) n = refl

tag_next : (tags : List Tag) (b : Before) (rest : List Tag) → Follows tags b rest → tag_at tags b ≡ first_of rest
tag_next tags b rest f =
    let same : index_of b ≡ index_of b + 0 = omega arith in
    ap (slice_get tags) same ∙ f 0 ∙ front rest

-- behind an element with a tag
one_on : (tags : List Tag) (b c : Before) (rest : List Tag) → index_of c ≡ suc (index_of b) → Follows tags b rest → Follows tags c (rest_of rest)
one_on tags b c rest e f = λ n.
    let same : index_of c + n ≡ index_of b + suc n = omega (arith, e) in
    ap (slice_get tags) same ∙ f (suc n) ∙ next rest n

-- behind the marker
as_far : (tags : List Tag) (b c : Before) (rest : List Tag) → index_of c ≡ index_of b → Follows tags b rest → Follows tags c rest
as_far tags b c rest e f = λ n. ap (λ i. slice_get tags (i + n)) e ∙ f n

-- without tags there are none
no_rest : (b : Before) (rest : List Tag) → Follows [] b rest → rest ≡ []
no_rest b [] f = refl
no_rest b (t ∷ ts) f = absurd (let e : ◌≡◌ {A = Option Tag} None (Some t) = sym (none_there (index_of b + 0)) ∙ f 0 in cc)

follows_none : (tags : List Tag) (b : Before) → tags ≡ [] → Follows tags b []
follows_none tags b e = λ n. ap (λ ts. slice_get ts (index_of b + n)) e

index_unmarked : (b : Before) → b.marked ≡ false → index_of b ≡ b.elements
index_unmarked b e = ap (λ m. if m then b.elements - 1 else b.elements) e

index_marked : (b : Before) → b.marked ≡ true → index_of b ≡ b.elements - 1
index_marked b e = ap (λ m. if m then b.elements - 1 else b.elements) e

-- ---- behind the marker there is no other, and no COMPONENTS OF

no_second : (m at : ℕ) (b : Before) (r : Room) → b.marked ≡ true → Holds (λ s. ⊥) (marker_at m at b r)
no_second m at b r e = choose _ b.marked _ _ (λ h. record { told = tt }) (λ h. absurd (not_both b.marked e h))

-- ---- COMPONENTS OF

abbrev pub NoneIncluded : Elements → Type 0
NoneIncluded no_elements = Unit {0}
NoneIncluded (element (components_of at t) es) = ⊥
NoneIncluded (element (marker at x) es) = NoneIncluded es
NoneIncluded (element (group at fs) es) = NoneIncluded es
NoneIncluded (element (component at w t need) es) = NoneIncluded es

-- alternatives have tags, and among them nothing is included
abbrev pub Fits : List Tag → Elements → Type 0
Fits tags es = (tags ≡ []) ⊎ NoneIncluded es

flags_move : (cs : List Typed) (ts : List Tag) (marked : Bool) (g : Gathered) → put_all cs ts (flagged marked g) ≡ flagged marked (put_all cs ts g)
flags_move [] ts marked g = refl
flags_move (c ∷ cs) ts marked g =
    ap (put_all cs (rest_of ts)) (flag_moves (first_of ts) c marked g) ∙ flags_move cs (rest_of ts) marked (put_one (first_of ts) c g)

module _ (ms : List Module) (nesting : ℕ) where
  abbrev pub TypesSound : Types → Type 0
  TypesSound f = (path : List Place) (t : TypeIn) (r : Room) → Holds (λ x. IsType ms nesting path t.«module» t.type x.0) (f path t r)

  -- what is gathered for COMPONENTS OF a type in a module
  pub record Included (path : List Place) (m : ℕ) (t : Tree) (g : Gathered) (x : Bool × Gathered × Room) : Type 0 where
    pub there : ℕ
    pub at : ℕ
    pub elements : Elements
    pub constraints : List Spot
    pub given : List Given
    pub means : Means ms m t (type_in there (structure at bi.Sequence elements constraints)) given
    pub parts : List Part
    pub root : IsRoot ms there elements parts
    pub found : List Typed
    pub are : AreTyped ms nesting path parts found
    pub put : x.1 ≡ put_all found [] g

  abbrev pub RootsSound : Roots → Type 0
  RootsSound f = (path : List Place) (any : Bool) (p : Place) (t : Tree) (g : Gathered) (r : Room) → g.marked ≡ false
      → Holds (Included path p.«module» t g) (f path any p t g r)

  both_typed : (path : List Place) (ps qs : List Part) (xs ys : List Typed) → AreTyped ms nesting path ps xs → AreTyped ms nesting path qs ys
      → AreTyped ms nesting path (ps ++ qs) (xs ++ ys)
  both_typed path _ qs _ ys (none_typed _) k = k
  both_typed path _ qs _ ys (another_typed _ p ps need T xs is needs h) k =
      another_typed path p (ps ++ qs) need T (xs ++ ys) is needs (both_typed path ps qs xs ys h k)

  module _ (defaults : DefaultsAreSound) (type : Types) (types : TypesSound type) where
    -- ---- one component or alternative

    record One (path : List Place) (m : ℕ) (is_added : Bool) (w : List ℕ) (t : Tree) (need : Need) (rest : List Tag) (g : Gathered)
        (x : After × Gathered × Room) : Type 0 where
      needed : asn.Need
      of : AsnType
      is : IsType ms nesting path m t of
      needs : IsNeed ms (part m is_added w t need) needed
      put : x.1 ≡ put_one (first_of rest) (typed is_added w needed of) g
      behind_it : x.0 ≡ after true is_added

    component_is : (m : ℕ) (tags : List Tag) (path : List Place) (b : Before) (at : ℕ) (w : List ℕ) (t : Tree) (need : Need) (rest : List Tag)
        (g : Gathered) (r : Room) → Follows tags b rest → g.marked ≡ b.marked
        → Holds (One path m b.marked w t need rest g) (component_at ms type m tags path b at w t need g r)
    component_is m tags path b at w t need rest g r f e =
        bind (λ x. IsType ms nesting path m t x.0) (One path m b.marked w t need rest g)
        (type path (type_in m t) (name_at (tag_at tags b) b w r)) _ (types path (type_in m t) (name_at (tag_at tags b) b w r)) (λ x is.
        bind (λ y. IsNeed ms (part m b.marked w t need) y.0) (One path m b.marked w t need rest g)
        (need_at ms b.marked m at t need x.1) _ (need_is defaults ms b.marked m at w t need x.1) (λ y needs.
        record {
          told = record {
            needed = y.0;
            of = x.0;
            is = is;
            needs = needs;
            put = ap (λ k. with_part k w y.0 x.0 g) (tag_next tags b rest f) ∙ part_put (first_of rest) b.marked w y.0 x.0 g e;
            behind_it = refl;
          };
        }))

    as_added : (path : List Place) (m : ℕ) (b c : Bool) (w : List ℕ) (t : Tree) (need : Need) (rest : List Tag) (g : Gathered)
        (x : After × Gathered × Room) → b ≡ c → One path m b w t need rest g x → One path m c w t need rest g x
    as_added path m b c w t need rest g x e one = subst (λ d. One path m d w t need rest g x) e one

    module _ (roots : Roots) (rooted : RootsSound roots) where
      -- ---- behind the marker

      record Added (path : List Place) (m : ℕ) (es : Elements) (rest : List Tag) (g : Gathered) (x : After × Gathered × Room) : Type 0 where
        parts : List Part
        are : AreAdded m es parts
        found : List Typed
        typed_are : AreTyped ms nesting path parts found
        put : x.1 ≡ put_all found rest g

      added_behind : (path : List Place) (m at : ℕ) (w : List ℕ) (t : Tree) (need : Need) (es : Elements) (rest : List Tag) (g : Gathered)
          (x y : After × Gathered × Room) → One path m true w t need rest g x → Added path m es (rest_of rest) x.1 y
          → Added path m (element (component at w t need) es) rest g y
      added_behind path m at w t need es rest g x y one more = record {
        parts = part m true w t need ∷ more.parts;
        are = another_added at w t need es more.parts more.are;
        found = typed true w one.needed one.of ∷ more.found;
        typed_are = another_typed path (part m true w t need) more.parts one.needed one.of more.found one.is one.needs more.typed_are;
        put = more.put ∙ ap (put_all more.found (rest_of rest)) one.put;
      }

      element_added : (m : ℕ) (tags : List Tag) (path : List Place) (b : Before) (e : Element) (g : Gathered) (r : Room) → b.marked ≡ true
          → ((at : ℕ) (w : List ℕ) (t : Tree) (need : Need) → e ≡ component at w t need → ⊥)
          → Holds (λ x. ⊥) (element_at ms type roots m tags path b e g r)
      element_added m tags path b (marker at x) g r e k = bind (λ s. ⊥) (λ x. ⊥) (marker_at m at b r) _ (no_second m at b r e) (λ s h. absurd h)
      element_added m tags path b (group at fs) g r e k = record { told = tt }
      element_added m tags path b (components_of at t) g r e k =
          choose _ b.marked _ _ (λ h. record { told = tt }) (λ h. absurd (not_both b.marked e h))
      element_added m tags path b (component at w t need) g r e k = absurd (k at w t need refl)

      component_added : (m : ℕ) (tags : List Tag) (path : List Place) (b : Before) (at : ℕ) (w : List ℕ) (t : Tree) (need : Need) (rest : List Tag)
          (g : Gathered) (r : Room) → b.marked ≡ true → g.marked ≡ true → Follows tags b rest
          → Holds (One path m true w t need rest g) (component_at ms type m tags path b at w t need g r)
      component_added m tags path b at w t need rest g r e k f =
          weaken _ _ _ (component_is m tags path b at w t need rest g r f (k ∙ sym e)) (λ x one. as_added path m b.marked true w t need rest g x e one)

      added_are : (m : ℕ) (tags : List Tag) (path : List Place) (b : Before) (es : Elements) (rest : List Tag) (g : Gathered) (r : Room)
          → b.marked ≡ true → 1 ≤ b.elements → g.marked ≡ true → Follows tags b rest
          → Holds (Added path m es rest g) (elements_at ms type roots m tags path b es g r)
      added_are m tags path b no_elements rest g r e l k f =
          record { told = record { parts = []; are = none_added; found = []; typed_are = none_typed path; put = refl } }
      added_are m tags path b (element (component at w t need) es) rest g r e l k f =
          bind (One path m true w t need rest g) _ (component_at ms type m tags path b at w t need g r) _
          (component_added m tags path b at w t need rest g r e k f) (λ x one.
          let marked : (behind b x.0).marked ≡ true = ap (λ a. a.marked) one.behind_it in
          let kept : x.1.marked ≡ true = ap (λ h. h.marked) one.put ∙ one_marked (first_of rest) (typed true w one.needed one.of) g ∙ k in
          let before : index_of b ≡ b.elements - 1 = index_marked b e in
          let later : index_of (behind b x.0) ≡ suc b.elements - 1 = index_marked (behind b x.0) marked in
          let on : index_of (behind b x.0) ≡ suc (index_of b) = omega (arith, before, later, l) in
          weaken _ _ _ (added_are m tags path (behind b x.0) es (rest_of rest) x.1 x.2 marked (omega arith) kept
          (one_on tags b (behind b x.0) rest on f))
          (λ y more. added_behind path m at w t need es rest g x y one more))
      added_are m tags path b (element (marker at x) es) rest g r e l k f =
          bind (λ x. ⊥) _ _ _ (element_added m tags path b (marker at x) g r e (λ at w t need same. cc)) (λ x h. absurd h)
      added_are m tags path b (element (group at fs) es) rest g r e l k f = record { told = tt }
      added_are m tags path b (element (components_of at t) es) rest g r e l k f =
          bind (λ x. ⊥) _ _ _ (element_added m tags path b (components_of at t) g r e (λ at w t need same. cc)) (λ x h. absurd h)

      -- ---- all of them

      pub record Parted (path : List Place) (m : ℕ) (es : Elements) (rest : List Tag) (g : Gathered) (x : After × Gathered × Room) : Type 0 where
        pub parts : List Part
        pub marked : Bool
        pub are : AreParts ms m es parts marked
        pub found : List Typed
        pub typed_are : AreTyped ms nesting path parts found
        pub put : x.1 ≡ put_all found rest (flagged marked g)

      behind_marker_are : (path : List Place) (m at : ℕ) (x : List Spot) (es : Elements) (rest : List Tag) (g : Gathered) (y : After × Gathered × Room)
          → Added path m es rest (with_marker g) y → Parted path m (element (marker at x) es) rest g y
      behind_marker_are path m at x es rest g y more = record {
        parts = more.parts;
        marked = true;
        are = behind_marker at x es more.parts more.are;
        found = more.found;
        typed_are = more.typed_are;
        put = more.put;
      }

      behind_one : (path : List Place) (m at : ℕ) (w : List ℕ) (t : Tree) (need : Need) (es : Elements) (rest : List Tag) (g : Gathered)
          (x y : After × Gathered × Room) → One path m false w t need rest g x → Parted path m es (rest_of rest) x.1 y
          → Parted path m (element (component at w t need) es) rest g y
      behind_one path m at w t need es rest g x y one more =
          let c = typed false w one.needed one.of in
          record {
            parts = part m false w t need ∷ more.parts;
            marked = more.marked;
            are = another_part at w t need es more.parts more.marked more.are;
            found = c ∷ more.found;
            typed_are = another_typed path (part m false w t need) more.parts one.needed one.of more.found one.is one.needs more.typed_are;
            put = more.put ∙ ap (λ h. put_all more.found (rest_of rest) (flagged more.marked h)) one.put
                ∙ ap (put_all more.found (rest_of rest)) (sym (flag_moves (first_of rest) c more.marked g));
          }

      behind_included : (path : List Place) (m at : ℕ) (t : Tree) (es : Elements) (g : Gathered) (x : Bool × Gathered × Room) (y : After × Gathered × Room)
          → Included path m t g x → Parted path m es [] x.1 y → Parted path m (element (components_of at t) es) [] g y
      behind_included path m at t es g x y i more = record {
        parts = i.parts ++ more.parts;
        marked = more.marked;
        are = included_parts at i.there i.at t i.elements es i.constraints i.given i.parts more.parts more.marked i.means i.root more.are;
        found = i.found ++ more.found;
        typed_are = both_typed path i.parts more.parts i.found more.found i.are more.typed_are;
        put = more.put ∙ ap (λ h. put_all more.found [] (flagged more.marked h)) i.put
            ∙ ap (put_all more.found []) (sym (flags_move i.found [] more.marked g)) ∙ sym (put_append i.found more.found (flagged more.marked g));
      }

      fits_rest : (tags : List Tag) (e : Element) (es : Elements) → Fits tags (element e es) → Fits tags es
      fits_rest tags e es (inl n) = inl n
      fits_rest tags (marker at x) es (inr n) = inr n
      fits_rest tags (group at fs) es (inr n) = inr n
      fits_rest tags (components_of at t) es (inr n) = absurd n
      fits_rest tags (component at w t need) es (inr n) = inr n

      none_in : (tags : List Tag) (at : ℕ) (t : Tree) (es : Elements) → Fits tags (element (components_of at t) es) → tags ≡ []
      none_in tags at t es (inl n) = n
      none_in tags at t es (inr n) = absurd n

      component_in_root : (m : ℕ) (tags : List Tag) (path : List Place) (b : Before) (at : ℕ) (w : List ℕ) (t : Tree) (need : Need) (rest : List Tag)
          (g : Gathered) (r : Room) → b.marked ≡ false → g.marked ≡ false → Follows tags b rest
          → Holds (One path m false w t need rest g) (component_at ms type m tags path b at w t need g r)
      component_in_root m tags path b at w t need rest g r e k f =
          weaken _ _ _ (component_is m tags path b at w t need rest g r f (k ∙ sym e)) (λ x one. as_added path m b.marked false w t need rest g x e one)

      -- what COMPONENTS OF gathers, and no marker is among it
      included_here : (m at : ℕ) (path : List Place) (b : Before) (t : Tree) (g : Gathered) (r : Room) → g.marked ≡ false
          → Holds (λ (x : After × Gathered × Room). (x.0.marked ≡ false) × Included path m t g (x.0.any, x.1, x.2)) (components_of_at roots (place_in m at) path b t g r)
      included_here m at path b t g r k =
          choose _ b.marked _ _ (λ h. record { told = tt }) (λ h.
          bind (Included path m t g) _ (roots path b.any (place_in m at) t g r) _ (rooted path b.any (place_in m at) t g r k)
          (λ x i. record { told = (refl, i) }))

      marker_here : (m at : ℕ) (b : Before) (g : Gathered) (r : Room)
          → Holds (λ (x : After × Gathered × Room). (x.0 ≡ after true true) × (x.1 ≡ with_marker g))
          (marker_at m at b r >>= λ s. Ok (after true true, with_marker g, s))
      marker_here m at b g r = bind (λ s. Unit {0}) _ (marker_at m at b r) _ (unknown (marker_at m at b r)) (λ s h. record { told = (refl, refl) })

      behind_the_marker : (m : ℕ) (tags : List Tag) (path : List Place) (b : Before) (at : ℕ) (x : List Spot) (es : Elements) (rest : List Tag)
          (g : Gathered) (y : After × Gathered × Room) → b.marked ≡ false → Follows tags b rest → y.0 ≡ after true true → y.1 ≡ with_marker g
          → Holds (Parted path m (element (marker at x) es) rest g) (elements_at ms type roots m tags path (behind b y.0) es y.1 y.2)
      unfolding with_marker
      behind_the_marker m tags path b at x es rest g y e f is here =
          let marked : (behind b y.0).marked ≡ true = ap (λ a. a.marked) is in
          let kept : y.1.marked ≡ true = ap (λ h. h.marked) here in
          let before : index_of b ≡ b.elements = index_unmarked b e in
          let later : index_of (behind b y.0) ≡ suc b.elements - 1 = index_marked (behind b y.0) marked in
          let on : index_of (behind b y.0) ≡ index_of b = omega (arith, before, later) in
          weaken _ _ _ (added_are m tags path (behind b y.0) es rest y.1 y.2 marked (omega arith) kept (as_far tags b (behind b y.0) rest on f))
          (λ z more. behind_marker_are path m at x es rest g z (subst (λ h. Added path m es rest h z) here more))

      one_behind : (tags : List Tag) (b : Before) (a : After) (rest : List Tag) → b.marked ≡ false → a.marked ≡ false → Follows tags b rest
          → Follows tags (behind b a) (rest_of rest)
      one_behind tags b a rest e h f =
          let before : index_of b ≡ b.elements = index_unmarked b e in
          let later : index_of (behind b a) ≡ suc b.elements = index_unmarked (behind b a) h in
          one_on tags b (behind b a) rest (omega (arith, before, later)) f

      pub parted : (m : ℕ) (tags : List Tag) (path : List Place) (b : Before) (es : Elements) (rest : List Tag) (g : Gathered) (r : Room)
          → Fits tags es → b.marked ≡ false → g.marked ≡ false → Follows tags b rest
          → Holds (Parted path m es rest g) (elements_at ms type roots m tags path b es g r)
      parted m tags path b no_elements rest g r fits e k f =
          record { told = record { parts = []; marked = false; are = no_parts; found = []; typed_are = none_typed path; put = refl } }
      parted m tags path b (element (marker at x) es) rest g r fits e k f =
          bind (λ (y : After × Gathered × Room). (y.0 ≡ after true true) × (y.1 ≡ with_marker g)) _ (element_at ms type roots m tags path b (marker at x) g r) _
          (marker_here m at b g r) (λ y h. behind_the_marker m tags path b at x es rest g y e f h.0 h.1)
      parted m tags path b (element (group at fs) es) rest g r fits e k f = record { told = tt }
      parted m tags path b (element (components_of at t) es) rest g r fits e k f =
          let none : tags ≡ [] = none_in tags at t es fits in
          let empty_rest : rest ≡ [] = no_rest b rest (subst (λ ts. Follows ts b rest) none f) in
          bind (λ (x : After × Gathered × Room). (x.0.marked ≡ false) × Included path m t g (x.0.any, x.1, x.2)) _ (components_of_at roots (place_in m at) path b t g r) _
          (included_here m at path b t g r k) (λ x i.
          let kept : x.1.marked ≡ false = ap (λ h. h.marked) i.1.put ∙ all_marked i.1.found [] g ∙ k in
          weaken _ _ _ (parted m tags path (behind b x.0) es [] x.1 x.2 (fits_rest tags (components_of at t) es fits) i.0 kept
          (follows_none tags (behind b x.0) none))
          (λ y more. subst (λ ts. Parted path m (element (components_of at t) es) ts g y) (sym empty_rest)
          (behind_included path m at t es g (x.0.any, x.1, x.2) y i.1 more)))
      parted m tags path b (element (component at w t need) es) rest g r fits e k f =
          bind (One path m false w t need rest g) _ (component_at ms type m tags path b at w t need g r) _
          (component_in_root m tags path b at w t need rest g r e k f) (λ x one.
          let unmarked : x.0.marked ≡ false = ap (λ a. a.marked) one.behind_it in
          let kept : x.1.marked ≡ false = ap (λ h. h.marked) one.put ∙ one_marked (first_of rest) (typed false w one.needed one.of) g ∙ k in
          weaken _ _ _ (parted m tags path (behind b x.0) es (rest_of rest) x.1 x.2 (fits_rest tags (component at w t need) es fits) unmarked kept
          (one_behind tags b x.0 rest e unmarked f))
          (λ y more. behind_one path m at w t need es rest g x y one more))

      -- ---- the root of a SEQUENCE for which COMPONENTS OF stands

      pub record Rooted (path : List Place) (m : ℕ) (es : Elements) (g : Gathered) (x : Bool × Gathered × Room) : Type 0 where
        pub parts : List Part
        pub root : IsRoot ms m es parts
        pub found : List Typed
        pub typed_are : AreTyped ms nesting path parts found
        pub put : x.1 ≡ put_all found [] g

      -- behind the marker nothing is gathered
      left_out : (m : ℕ) (path : List Place) (b : Before) (e : Element) (g : Gathered) (r : Room) → b.marked ≡ true
          → Holds (λ (x : After × Gathered × Room). (x.0.marked ≡ true) × (x.1 ≡ g)) (root_element_at ms type roots m [] path b e g r)
      left_out m path b (marker at x) g r e = choose _ b.marked _ _ (λ h. record { told = tt }) (λ h. absurd (not_both b.marked e h))
      left_out m path b (group at fs) g r e = choose _ b.marked _ _ (λ h. record { told = (refl, refl) }) (λ h. absurd (not_both b.marked e h))
      left_out m path b (components_of at t) g r e = choose _ b.marked _ _ (λ h. record { told = (refl, refl) }) (λ h. absurd (not_both b.marked e h))
      left_out m path b (component at w t need) g r e =
          choose _ b.marked _ _ (λ h. record { told = (refl, refl) }) (λ h. absurd (not_both b.marked e h))

      all_left_out : (m : ℕ) (path : List Place) (b : Before) (es : Elements) (g : Gathered) (r : Room) → b.marked ≡ true
          → Holds (λ (x : Bool × Gathered × Room). x.1 ≡ g) (root_at ms type roots m [] path b es g r)
      all_left_out m path b no_elements g r e = record { told = refl }
      all_left_out m path b (element d es) g r e =
          bind (λ (x : After × Gathered × Room). (x.0.marked ≡ true) × (x.1 ≡ g)) _ (root_element_at ms type roots m [] path b d g r) _ (left_out m path b d g r e) (λ x h.
          weaken _ _ _ (all_left_out m path (behind b x.0) es x.1 x.2 h.0) (λ y is. is ∙ h.1))

      root_marker : (m : ℕ) (path : List Place) (b : Before) (at : ℕ) (x : List Spot) (g : Gathered) (r : Room) → b.marked ≡ false
          → Holds (λ (y : After × Gathered × Room). (y.0.marked ≡ true) × (y.1 ≡ g)) (root_element_at ms type roots m [] path b (marker at x) g r)
      root_marker m path b at x g r e = choose _ b.marked _ _ (λ h. record { told = tt }) (λ h. record { told = (refl, refl) })

      -- before it an element is gathered as it is elsewhere
      root_one : (P : After × Gathered × Room → Type 0) (m : ℕ) (path : List Place) (b : Before) (p q : Read (After × Gathered × Room))
          → b.marked ≡ false → Holds P q → Holds P (if b.marked then p else q)
      root_one P m path b p q e h = choose P b.marked p q (λ f. absurd (not_both b.marked f e)) (λ f. h)

      root_behind_one : (path : List Place) (m at : ℕ) (w : List ℕ) (t : Tree) (need : Need) (es : Elements) (g : Gathered)
          (x : After × Gathered × Room) (y : Bool × Gathered × Room) → One path m false w t need [] g x → Rooted path m es x.1 y
          → Rooted path m (element (component at w t need) es) g y
      root_behind_one path m at w t need es g x y one more = record {
        parts = part m false w t need ∷ more.parts;
        root = another m at w t need es more.parts more.root;
        found = typed false w one.needed one.of ∷ more.found;
        typed_are = another_typed path (part m false w t need) more.parts one.needed one.of more.found one.is one.needs more.typed_are;
        put = more.put ∙ ap (put_all more.found []) one.put;
      }

      root_behind_included : (path : List Place) (m at : ℕ) (t : Tree) (es : Elements) (g : Gathered) (x y : Bool × Gathered × Room)
          → Included path m t g x → Rooted path m es x.1 y → Rooted path m (element (components_of at t) es) g y
      root_behind_included path m at t es g x y i more = record {
        parts = i.parts ++ more.parts;
        root = included m at i.there i.at t i.elements es i.constraints i.given i.parts more.parts i.means i.root more.root;
        found = i.found ++ more.found;
        typed_are = both_typed path i.parts more.parts i.found more.found i.are more.typed_are;
        put = more.put ∙ ap (put_all more.found []) i.put ∙ sym (put_append i.found more.found g);
      }

      pub rooted_are : (m : ℕ) (path : List Place) (b : Before) (es : Elements) (g : Gathered) (r : Room) → b.marked ≡ false → g.marked ≡ false
          → Holds (Rooted path m es g) (root_at ms type roots m [] path b es g r)
      rooted_are m path b no_elements g r e k =
          record { told = record { parts = []; root = no_more m; found = []; typed_are = none_typed path; put = refl } }
      rooted_are m path b (element (marker at x) es) g r e k =
          bind (λ (y : After × Gathered × Room). (y.0.marked ≡ true) × (y.1 ≡ g)) _ (root_element_at ms type roots m [] path b (marker at x) g r) _ (root_marker m path b at x g r e) (λ y h.
          weaken _ _ _ (all_left_out m path (behind b y.0) es y.1 y.2 h.0) (λ z is.
          record { parts = []; root = up_to_marker m at x es; found = []; typed_are = none_typed path; put = is ∙ h.1 }))
      rooted_are m path b (element (group at fs) es) g r e k =
          bind (λ x. ⊥) _ (root_element_at ms type roots m [] path b (group at fs) g r) _
          (root_one _ m path b _ (element_at ms type roots m [] path b (group at fs) g r) e (record { told = tt })) (λ x h. absurd h)
      rooted_are m path b (element (components_of at t) es) g r e k =
          bind (λ (x : After × Gathered × Room). (x.0.marked ≡ false) × Included path m t g (x.0.any, x.1, x.2)) _ (root_element_at ms type roots m [] path b (components_of at t) g r) _
          (root_one _ m path b _ (element_at ms type roots m [] path b (components_of at t) g r) e (included_here m at path b t g r k)) (λ x i.
          let kept : x.1.marked ≡ false = ap (λ h. h.marked) i.1.put ∙ all_marked i.1.found [] g ∙ k in
          weaken _ _ _ (rooted_are m path (behind b x.0) es x.1 x.2 i.0 kept) (λ y more.
          root_behind_included path m at t es g (x.0.any, x.1, x.2) y i.1 more))
      rooted_are m path b (element (component at w t need) es) g r e k =
          bind (One path m false w t need [] g) _ (root_element_at ms type roots m [] path b (component at w t need) g r) _
          (root_one _ m path b _ (element_at ms type roots m [] path b (component at w t need) g r) e
          (component_in_root m [] path b at w t need [] g r e k (λ n. refl))) (λ x one.
          let unmarked : x.0.marked ≡ false = ap (λ a. a.marked) one.behind_it in
          let kept : x.1.marked ≡ false = ap (λ h. h.marked) one.put ∙ one_marked None (typed false w one.needed one.of) g ∙ k in
          weaken _ _ _ (rooted_are m path (behind b x.0) es x.1 x.2 unmarked kept) (λ y more.
          root_behind_one path m at w t need es g x y one more))
