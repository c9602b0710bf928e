-- What stands between braces, as it is found.
use Rattle.std.proofs.Common.{◌≡◌, ℕ, zero, suc, List, [], ◌∷◌, ◌++◌, map, slice_get, Bool, true, false, cond, ◌||◌, Option, Some, None, Ok, refl, sym, ap, subst, ◌∙◌, append_assoc, append-nil}
use Rattle.std.proofs.lemmas.List.{map-append}
use Rattle.std.proofs.lemmas.Slice.Eq.{bytes_eq-Decides}
use Rattle.std.specs.Prelude.{option_map}
use Rattle.std.specs.Str.{bytes_eq}
use Rattle.oer_module_defaults.specs.Alternatives.{Alternative, alternative_at, alternative_by, alternative_in, index_of}
use Rattle.oer_module_defaults.specs.Components.{Component, components_at, elements_at, elements_of, included_by, inner_at, is_optional}
use Rattle.oer_module_defaults.specs.Components.{meant_at, root_of, roots_at, sequence_of, whole}
use Rattle.oer_module_defaults.specs.Governors.{Governor}
use Rattle.oer_module_defaults.specs.declared.component.Listing.{Listing}
use Rattle.oer_module_lexer.specs.Token.{Spot}
use Rattle.oer_module_names.specs.declared.error.Place.{Place}
use Rattle.oer_module_syntax.specs.Tree.{Module, Tree, structure, Elements, no_elements, element, marker, group, components_of, component, Need}
use Rattle.oer_module_syntax.specs.declared.word.Builtin.{Builtin}
use Rattle.oer_module_syntax.specs.declared.word.Builtin.TheVariants as bi
use Rattle.oer_module_tags.proofs.Choices.{are_tags}
use Rattle.oer_module_tags.specs.Alternatives.{AreTags, alternative_tags}
use Rattle.oer_module_text.specs.Errors.{Read, place_in, told_by}
use Rattle.oer_module_text.specs.Room.{Room, take_part}
use Rattle.oer_module_values.proofs.Walks.{found as is_found}
use Rattle.oer_module_values.specs.Types.{Given, Means, meaning, type_in}
use Rattle.oer_units.specs.declared.tagging.Tag.{Tag}
use Rattle.oer_meant_values.specs.Parts.{Part, part, AreAdded, none_added, another_added, IsRoot, no_more, up_to_marker, another, included, AreParts}
use Rattle.oer_meant_values.specs.Parts.{no_parts, behind_marker, another_part, included_parts}
use Rattle.oer_meant_values.specs.Values.{IsAlternative, this_part, another_part as another_alternative}
use Rattle.oer_meant_leaves.proofs.Results.{text_step, text_told}
use Rattle.oer_meant_values.proofs.Apart.{front_ok, same_ok}

-- a part as the code has it
abbrev pub seen : Part → Component
seen p = record { «module» = p.«module»; name = p.name; type = p.type; optional = p.added || is_optional p.need; added = p.added }

-- ---- lists

-- a list behind one, and one behind both
both_behind : (a b c : List Component) (qs ps : List Part) → b ≡ a ++ map seen qs → c ≡ b ++ map seen ps → c ≡ a ++ map seen (qs ++ ps)
both_behind a b c qs ps e f =
    f ∙ ap (λ l. l ++ map seen ps) e ∙ append_assoc a (map seen qs) (map seen ps) ∙ ap (λ l. a ++ l) (sym (map-append seen qs ps))

one_behind : (a b c : List Component) (p : Part) (ps : List Part) → b ≡ a ++ seen p ∷ [] → c ≡ b ++ map seen ps → c ≡ a ++ map seen (p ∷ ps)
one_behind a b c p ps e f = both_behind a b c (p ∷ []) ps e f

none_behind : (a b : List Component) → a ≡ b → b ≡ a ++ []
none_behind a b e = sym e ∙ sym (append-nil a)

-- ---- elements

-- those for which COMPONENTS OF a type in a module stands, behind others
record Includes (ms : List Module) (m : ℕ) (t : Tree) (before after : List Component) : Type 0 where
  pub there : ℕ
  pub at : ℕ
  pub elements : Elements
  pub constraints : List Spot
  pub given : List Given
  pub parts : List Part
  pub means : Means ms m t (type_in there (structure at bi.Sequence elements constraints)) given
  pub root : IsRoot ms there elements parts
  pub are : after ≡ before ++ map seen parts

record Roots (ms : List Module) (m : ℕ) (es : Elements) (before after : List Component) : Type 0 where
  pub parts : List Part
  pub root : IsRoot ms m es parts
  pub are : after ≡ before ++ map seen parts

record Adds (m : ℕ) (es : Elements) (before after : List Component) : Type 0 where
  pub parts : List Part
  pub added : AreAdded m es parts
  pub are : after ≡ before ++ map seen parts

pub record Has (ms : List Module) (m : ℕ) (es : Elements) (before after : List Component) : Type 0 where
  pub parts : List Part
  pub marked : Bool
  pub all : AreParts ms m es parts marked
  pub are : after ≡ before ++ map seen parts

abbrev Included : Type 0
Included = Place → Tree → List Component → Room → Read (List Component × Room)

abbrev IncludesThose : List Module → Included → Type 0
IncludesThose ms f = (p : Place) (t : Tree) (cs : List Component) (r : Room) (x : List Component × Room) → f p t cs r ≡ Ok x
    → Includes ms p.«module» t cs x.0

-- behind the marker of a root
abbrev past : ℕ → Listing
past m = record { «module» = m; root = true; marked = true }

-- behind a marker
abbrev additions : ℕ → Listing
additions m = record { «module» = m; root = false; marked = true }

module _ (ms : List Module) (f : Included) (f_includes : IncludesThose ms f) (m : ℕ) where
  -- one component takes a part
  listed : (l : Listing) (at : ℕ) (w : List ℕ) (t : Tree) (need : Need) (cs : List Component) (r : Room) (x : List Component × Room)
      → inner_at f l (component at w t need) cs r ≡ Ok x → x.0 ≡ cs ++ seen (part l.«module» l.marked w t need) ∷ []
  listed l at w t need cs r x h =
      let b = text_step (take_part (place_in l.«module» at) r) _ x h in sym (front_ok _ b.0 x b.2)

  none_past : (es : Elements) (cs : List Component) (r : Room) (x : List Component × Room) → elements_at f (past m) es cs r ≡ Ok x → cs ≡ x.0
  none_past no_elements cs r x h = front_ok cs r x h
  none_past (element (marker at ts) es) cs r x h = absurd (cc)
  none_past (element (group at gs) es) cs r x h = none_past es cs r x h
  none_past (element (components_of at t) es) cs r x h = none_past es cs r x h
  none_past (element (component at w t need) es) cs r x h = none_past es cs r x h

  roots : (es : Elements) (cs : List Component) (r : Room) (x : List Component × Room) → elements_at f (root_of m) es cs r ≡ Ok x
      → Roots ms m es cs x.0
  roots no_elements cs r x h = record { parts = []; root = no_more m; are = none_behind cs x.0 (front_ok cs r x h) }
  roots (element (marker at ts) es) cs r x h =
      record { parts = []; root = up_to_marker m at ts es; are = none_behind cs x.0 (none_past es cs r x h) }
  roots (element (group at gs) es) cs r x h = absurd (cc)
  roots (element (components_of at t) es) cs r x h =
      let b = text_step (f (place_in m at) t cs r) _ x h in
      let i = f_includes (place_in m at) t cs r b.0 b.1 in
      let more = roots es b.0.0 b.0.1 x b.2 in
      record {
        parts = i.parts ++ more.parts;
        root = included m at i.there i.at t i.elements es i.constraints i.given i.parts more.parts i.means i.root more.root;
        are = both_behind cs b.0.0 x.0 i.parts more.parts i.are more.are;
      }
  roots (element (component at w t need) es) cs r x h =
      let b = text_step (inner_at f (root_of m) (component at w t need) cs r) _ x h in
      let more = roots es b.0.0 b.0.1 x b.2 in
      record {
        parts = part m false w t need ∷ more.parts;
        root = another m at w t need es more.parts more.root;
        are = one_behind cs b.0.0 x.0 (part m false w t need) more.parts (listed (root_of m) at w t need cs r b.0 b.1) more.are;
      }

  adds : (es : Elements) (cs : List Component) (r : Room) (x : List Component × Room) → elements_at f (additions m) es cs r ≡ Ok x
      → Adds m es cs x.0
  adds no_elements cs r x h = record { parts = []; added = none_added; are = none_behind cs x.0 (front_ok cs r x h) }
  adds (element (marker at ts) es) cs r x h = absurd (cc)
  adds (element (group at gs) es) cs r x h = absurd (cc)
  adds (element (components_of at t) es) cs r x h = absurd (cc)
  adds (element (component at w t need) es) cs r x h =
      let b = text_step (inner_at f (additions m) (component at w t need) cs r) _ x h in
      let more = adds es b.0.0 b.0.1 x b.2 in
      record {
        parts = part m true w t need ∷ more.parts;
        added = another_added at w t need es more.parts more.added;
        are = one_behind cs b.0.0 x.0 (part m true w t need) more.parts (listed (additions m) at w t need cs r b.0 b.1) more.are;
      }

  has : (es : Elements) (cs : List Component) (r : Room) (x : List Component × Room) → elements_at f (whole m) es cs r ≡ Ok x
      → Has ms m es cs x.0
  has no_elements cs r x h = record { parts = []; marked = false; all = no_parts; are = none_behind cs x.0 (front_ok cs r x h) }
  has (element (marker at ts) es) cs r x h =
      let more = adds es cs r x h in
      record { parts = more.parts; marked = true; all = behind_marker at ts es more.parts more.added; are = more.are }
  has (element (group at gs) es) cs r x h = absurd (cc)
  has (element (components_of at t) es) cs r x h =
      let b = text_step (f (place_in m at) t cs r) _ x h in
      let i = f_includes (place_in m at) t cs r b.0 b.1 in
      let more = has es b.0.0 b.0.1 x b.2 in
      record {
        parts = i.parts ++ more.parts;
        marked = more.marked;
        all = included_parts at i.there i.at t i.elements es i.constraints i.given i.parts more.parts more.marked i.means i.root more.all;
        are = both_behind cs b.0.0 x.0 i.parts more.parts i.are more.are;
      }
  has (element (component at w t need) es) cs r x h =
      let b = text_step (inner_at f (whole m) (component at w t need) cs r) _ x h in
      let more = has es b.0.0 b.0.1 x b.2 in
      record {
        parts = part m false w t need ∷ more.parts;
        marked = more.marked;
        all = another_part at w t need es more.parts more.marked more.all;
        are = one_behind cs b.0.0 x.0 (part m false w t need) more.parts (listed (whole m) at w t need cs r b.0 b.1) more.are;
      }

-- ---- COMPONENTS OF

sequence_is : (p : Place) (v : Tree) (es : Elements) → included_by p (sequence_of v) ≡ Ok es
    → (at : ℕ) × (cs : List Spot) × (v ≡ structure at bi.Sequence es cs)
sequence_is p (structure at bi.Sequence fs cs) es h = (at, cs, ap (λ e. structure at bi.Sequence e cs) (same_ok fs es h))
sequence_is p v es h = absurd (cc)

module _ (ms : List Module) where
  meant_includes : (f : Included) → IncludesThose ms f → IncludesThose ms (meant_at ms f)
  meant_includes f f_includes p t cs r x h =
      let u = text_step (told_by (meaning ms (type_in p.«module» t))) _ x h in
      let s = text_step (take_part p r) _ x u.2 in
      let e = text_step (included_by p (sequence_of u.0.of.type)) _ x s.2 in
      let i = sequence_is p u.0.of.type e.0 e.1 in
      let n = is_found ms 255 (type_in p.«module» t) [] u.0 (text_told _ u.0 u.1) in
      let more = roots ms f f_includes u.0.of.«module» e.0 cs s.0 x e.2 in
      record {
        there = u.0.of.«module»;
        at = i.0;
        elements = e.0;
        constraints = i.1;
        given = n.0;
        parts = more.parts;
        means = subst (λ v. Means ms p.«module» t (type_in u.0.of.«module» v) n.0) i.2 n.2;
        root = more.root;
        are = more.are;
      }

  none_included : IncludesThose ms (roots_at ms zero)
  unfolding roots_at
  none_included p t cs r x h = absurd (cc)

  more_included : (levels : ℕ) → IncludesThose ms (roots_at ms levels) → IncludesThose ms (roots_at ms (suc levels))
  unfolding roots_at
  more_included levels f_includes p t cs r x h = meant_includes (roots_at ms levels) f_includes p t cs r x h

  all_included : (levels : ℕ) → IncludesThose ms (roots_at ms levels)
  all_included zero = none_included
  all_included (suc levels) = more_included levels (all_included levels)

  -- the components that are found of elements in a module are their parts
  pub components_are : (m : ℕ) (es : Elements) (r : Room) (x : List Component × Room) → components_at ms m es r ≡ Ok x → Has ms m es [] x.0
  unfolding components_at
  components_are m es r x h = has ms (roots_at ms 32) (all_included 32) m es [] r x h

-- ---- the elements of a type

pub elements_are : (p : Place) (t : Tree) (es : Elements) → elements_of p t ≡ Ok es
    → (at : ℕ) × (b : Builtin) × (cs : List Spot) × (t ≡ structure at b es cs)
elements_are p (structure at b fs cs) es h = (at, b, cs, ap (λ e. structure at b e cs) (same_ok fs es h))
elements_are p t es h = absurd (cc)

-- ---- alternatives

-- the one that is found, with its tag
record Chosen (w : List ℕ) (ps : List Part) (gs : List Tag) (a : Alternative) : Type 0 where
  pub one : Part
  pub is : IsAlternative w ps gs one a.tag
  pub of_it : a.of ≡ type_in one.«module» one.type

-- one further on
index_by : (i : ℕ) (b : Bool) (o p : Option ℕ) → p ≡ option_map suc o → cond b (Some (suc i)) p ≡ option_map suc (cond b (Some i) o)
index_by i true o p e = refl
index_by i false o p e = e

index_next : (i : ℕ) (w : List ℕ) (cs : List Component) → index_of (suc i) w cs ≡ option_map suc (index_of i w cs)
index_next i w [] = refl
index_next i w (c ∷ cs) = index_by i (bytes_eq c.name w) (index_of (suc i) w cs) (index_of (suc (suc i)) w cs) (index_next (suc i) w cs)

module _ (p : Place) (w : List ℕ) where
  tagless : (o : Option Component) (a : Alternative) → alternative_by p o None ≡ Ok a → ⊥
  tagless None a h = cc
  tagless (Some c) a h = cc

  untagged : (cs : List Component) (o : Option ℕ) (a : Alternative) → alternative_in p [] cs o ≡ Ok a → ⊥
  untagged cs None a h = cc
  untagged cs (Some i) a h = tagless (slice_get cs i) a h

  one_on : (g : Tag) (gs : List Tag) (c : Component) (cs : List Component) (o : Option ℕ)
      → alternative_in p (g ∷ gs) (c ∷ cs) (option_map suc o) ≡ alternative_in p gs cs o
  one_on g gs c cs None = refl
  one_on g gs c cs (Some i) = refl

  here_chosen : (q : Part) (ps : List Part) (gs : List Tag) (a : Alternative) → q.name ≡ w
      → alternative_by p (Some (seen q)) (slice_get gs zero) ≡ Ok a → Chosen w (q ∷ ps) gs a
  here_chosen q ps [] a same h = absurd (cc)
  here_chosen q ps (g ∷ gs) a same h =
      subst (Chosen w (q ∷ ps) (g ∷ gs)) (same_ok _ a h) (record { one = q; is = this_part q ps g gs same; of_it = refl })

  later_chosen : (q : Part) (ps : List Part) (gs : List Tag) (a : Alternative)
      → ((hs : List Tag) → alternative_in p hs (map seen ps) (index_of zero w (map seen ps)) ≡ Ok a → Chosen w ps hs a) → ¬ (q.name ≡ w)
      → alternative_in p gs (map seen (q ∷ ps)) (option_map suc (index_of zero w (map seen ps))) ≡ Ok a → Chosen w (q ∷ ps) gs a
  later_chosen q ps [] a more other h = absurd (untagged (map seen (q ∷ ps)) (option_map suc (index_of zero w (map seen ps))) a h)
  later_chosen q ps (g ∷ gs) a more other h =
      let c = more gs (sym (one_on g gs (seen q) (map seen ps) (index_of zero w (map seen ps))) ∙ h) in
      record { one = c.one; is = another_alternative c.one q ps a.tag g gs other c.is; of_it = c.of_it }

  chosen_by : (q : Part) (ps : List Part) (gs : List Tag) (a : Alternative) (b : Bool)
      → ((hs : List Tag) → alternative_in p hs (map seen ps) (index_of zero w (map seen ps)) ≡ Ok a → Chosen w ps hs a) → bytes_eq q.name w ≡ b
      → alternative_in p gs (map seen (q ∷ ps)) (cond b (Some zero) (index_of (suc zero) w (map seen ps))) ≡ Ok a → Chosen w (q ∷ ps) gs a
  chosen_by q ps gs a true more is h = here_chosen q ps gs a ((bytes_eq-Decides q.name w).0 is) h
  chosen_by q ps gs a false more is h =
      later_chosen q ps gs a more (λ e. let same = (bytes_eq-Decides q.name w).1 e in cc)
      (ap (alternative_in p gs (map seen (q ∷ ps))) (sym (index_next zero w (map seen ps))) ∙ h)

  chosen : (ps : List Part) (gs : List Tag) (a : Alternative) → alternative_in p gs (map seen ps) (index_of zero w (map seen ps)) ≡ Ok a
      → Chosen w ps gs a
  chosen [] gs a h = absurd (cc)
  chosen (q ∷ ps) gs a h = chosen_by q ps gs a (bytes_eq q.name w) (λ hs is. chosen ps hs a is) refl h

-- the alternative that is found for a name is the first of its name, of the parts of the type that governs
pub record Alternate (ms : List Module) (g : Governor) (w : List ℕ) (a : Alternative) : Type 0 where
  pub at : ℕ
  pub word : Builtin
  pub elements : Elements
  pub constraints : List Spot
  pub parts : List Part
  pub marked : Bool
  pub tags : List Tag
  pub one : Part
  pub is : g.type ≡ structure at word elements constraints
  pub all : AreParts ms g.«module» elements parts marked
  pub tagged_by : AreTags ms g.«module» elements tags
  pub first : IsAlternative w parts tags one a.tag
  pub of_it : a.of ≡ type_in one.«module» one.type

module _ (ms : List Module) where
  pub alternative_is : (p : Place) (g : Governor) (w : List ℕ) (r : Room) (x : Alternative × Room) → alternative_at ms p g w r ≡ Ok x
      → Alternate ms g w x.0
  unfolding alternative_at
  alternative_is p g w r x h =
      let e = text_step (elements_of p g.type) _ x h in
      let t = text_step (alternative_tags ms g.«module» e.0) _ x e.2 in
      let c = text_step (components_at ms g.«module» e.0 r) _ x t.2 in
      let a = text_step (alternative_in p t.0 c.0.0 (index_of 0 w c.0.0)) _ x c.2 in
      let i = elements_are p g.type e.0 e.1 in
      let all = components_are ms g.«module» e.0 r c.0 c.1 in
      let one = chosen p w all.parts t.0 a.0 (ap (λ cs. alternative_in p t.0 cs (index_of 0 w cs)) (sym all.are) ∙ a.1) in
      subst (Alternate ms g w) (front_ok a.0 c.0.1 x a.2) (record {
        at = i.0;
        word = i.1;
        elements = e.0;
        constraints = i.2;
        parts = all.parts;
        marked = all.marked;
        tags = t.0;
        one = one.one;
        is = i.3;
        all = all.all;
        tagged_by = are_tags ms g.«module» e.0 t.0 t.1;
        first = one.is;
        of_it = one.of_it;
      })
