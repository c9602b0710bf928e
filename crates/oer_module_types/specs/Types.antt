-- The type that stands in a module, and its text in our notation (docs/NOTATION.md, "Printing"), with the types in it.
use Rattle.std.specs.Prelude.{ℕ, zero, suc, ◌-◌, List, [], ◌∷◌, ◌++◌, Bool, true, false, not, ◌&&◌, Option, Some, None, Ok}
use Rattle.std.specs.Prelude.{codes, slice_get, if◌then◌else◌}
use Rattle.oer_model.specs.AsnType.{AsnType}
use Rattle.oer_model.specs.AsnType as asn
use Rattle.oer_model.specs.Constraints.{any_size}
use Rattle.oer_module_defaults.specs.Components.{sequence_of}
use Rattle.oer_module_defaults.specs.Defaults.{default_at}
use Rattle.oer_module_leaves.specs.Comments.{unchecked_at}
use Rattle.oer_module_leaves.specs.Leaves.{is_implied, leaf_at}
use Rattle.oer_module_leaves.specs.declared.comment.Checked.TheVariants.{Nothing}
use Rattle.oer_module_limits.specs.Written.{Written, written}
use Rattle.oer_module_names.specs.declared.error.Place.{Place}
use Rattle.oer_module_syntax.specs.Tree.{Module, Tree, plain, named, tagged, structure, list_of, selection, instance_of, any_defined_by}
use Rattle.oer_module_syntax.specs.Tree.{Elements, no_elements, element, Element, marker, group, components_of, component}
use Rattle.oer_module_syntax.specs.Tree.{Need, must, may, default}
use Rattle.oer_module_syntax.specs.declared.word.Builtin.{Builtin}
use Rattle.oer_module_syntax.specs.declared.word.Builtin.TheVariants as bi
use Rattle.oer_module_tags.specs.Alternatives.{alternative_tags}
use Rattle.oer_module_tags.specs.Written.{put_tag}
use Rattle.oer_module_text.specs.Errors.{Read, error, refused, ◌>>=◌, told_by, place_in, too_deep}
use Rattle.oer_module_text.specs.Room.{Room, new, put, take_part}
use Rattle.oer_module_text.specs.declared.error.Part.TheVariants as parts
use Rattle.oer_module_values.specs.Looks.{place_of}
use Rattle.oer_module_values.specs.Types.{TypeIn, type_in, Meaning, meaning}
use Rattle.oer_units.specs.declared.tagging.Tag.{Tag}
use Rattle.oer_module_types.specs.Fields.{field_at}
use Rattle.oer_module_types.specs.Gathered.{Gathered, choice_in, empty, sequence_in, with_marker, with_part}
use Rattle.oer_module_types.specs.Levels.{is_full, end_at}
use Rattle.oer_module_types.specs.declared.element.After.{After}
use Rattle.oer_module_types.specs.declared.element.Before.{Before}

abbrev pub type_place : TypeIn → Place
type_place t = place_in t.«module» (place_of t.type)

-- ---- elements: how many of a type stand before one, whether the text has some by then, and whether the marker is among them

abbrev pub first : Bool → Before
first any = record { elements = 0; any = any; marked = false }

abbrev pub after : Bool → Bool → After
after any marked = record { any = any; marked = marked }

abbrev pub behind : Before → After → Before
behind b a = record { elements = suc b.elements; any = a.any; marked = a.marked }

-- which of the components one is: all that stand before it are such but the marker
abbrev pub index_of : Before → ℕ
index_of b = if b.marked then b.elements - 1 else b.elements

-- the tag of an alternative; components of a SEQUENCE have none
abbrev pub tag_at : List Tag → Before → Option Tag
tag_at tags b = slice_get tags (index_of b)

-- a comma behind others
abbrev pub put_comma : Before → Room → Room
put_comma b r = if b.any then put (codes ", ") r else r

-- a tag and a space, if there is a tag
abbrev pub tag_if : Option Tag → Room → Room
tag_if None r = r
tag_if (Some t) r = put (codes " ") (put_tag t r)

unfoldable pub name_at : Option Tag → Before → List ℕ → Room → Room
name_at tag b name r = tag_if tag (put (codes " ") (put name (put_comma b r)))

abbrev pub marker_at : ℕ → ℕ → Before → Room → Read Room
marker_at m at b r = if b.marked then refused m at parts.SecondMarker else Ok (put (codes "...") (put_comma b r))

-- an addition may be absent in any case, and has no default
abbrev pub added_at : ℕ → ℕ → Need → Room → Read (asn.Need × Room)
added_at m at (default v) r = refused m at parts.AddedDefault
added_at m at must r = Ok (asn.may, r)
added_at m at may r = Ok (asn.may, r)

module _ (ms : List Module) where
  -- what a type stands for
  unfoldable pub stands_for : TypeIn → Read Meaning
  stands_for t = told_by (meaning ms t)

  -- OPTIONAL, or DEFAULT and a value of the type
  abbrev pub needed_at : ℕ → Tree → Need → Room → Read (asn.Need × Room)
  needed_at m t must r = Ok (asn.must, r)
  needed_at m t may r = Ok (asn.may, put (codes " OPTIONAL") r)
  needed_at m t (default v) r = default_at ms (type_in m t) m v (put (codes " DEFAULT ") r) >>= λ x. Ok (asn.default x.0, x.1)

  -- behind the type of a component, which may be an addition
  unfoldable pub need_at : Bool → ℕ → ℕ → Tree → Need → Room → Read (asn.Need × Room)
  need_at added m at t need r = if added then added_at m at need r else needed_at m t need r

  -- The closing brace. EXTENSIBILITY IMPLIED in the header would give a marker to what has none (X.680, 13.4).
  unfoldable pub closed : Place → Bool → Room → Read Room
  closed p marked r =
      if not marked && is_implied ms p.«module» then refused p.«module» p.at parts.Implied else Ok (put (codes "}") r)

-- COMPONENTS OF at a place, behind what stands before it; among additions it isn't taken
abbrev pub components_of_at : (List Place → Bool → Place → Tree → Gathered → Room → Read (Bool × Gathered × Room))
    → Place → List Place → Before → Tree → Gathered → Room → Read (After × Gathered × Room)
components_of_at roots p path b t g r =
    if b.marked then refused p.«module» p.at parts.ComponentsOf
    else (roots path b.any p t g r >>= λ x. Ok (after x.0 false, x.1, x.2))

-- what a type has in it, where each type behind a path is this, with its text
module _ (ms : List Module) (type : List Place → TypeIn → Room → Read (AsnType × Room)) where
  -- The sizes of a list are no part of the type, and of its text but for a comment, which stands where they would.
  abbrev pub list_at : Place → Builtin → Bool → Tree → Written → List Place → Room → Read (AsnType × Room)
  list_at p bi.Sequence sized t w path r =
      type path (type_in p.«module» t) (put (codes " OF ") (unchecked_at Nothing sized w (put (codes "SEQUENCE") r)))
      >>= λ x. Ok (asn.sequence_of any_size x.0, x.1)
  list_at p b sized t w path r = refused p.«module» p.at parts.SetOf

  -- a component or an alternative at a byte, behind what is gathered
  abbrev pub component_at : ℕ → List Tag → List Place → Before → ℕ → List ℕ → Tree → Need → Gathered → Room → Read (After × Gathered × Room)
  component_at m tags path b at name t need g r = do
    x ← type path (type_in m t) (name_at (tag_at tags b) b name r)
    y ← need_at ms b.marked m at t need x.1
    Ok (after true b.marked, with_part (tag_at tags b) name y.0 x.0 g, y.1)

  -- where so is that of COMPONENTS OF at a place, behind other elements or not, and whether there are elements by then
  module _ (roots : List Place → Bool → Place → Tree → Gathered → Room → Read (Bool × Gathered × Room)) where
    abbrev pub element_at : ℕ → List Tag → List Place → Before → Element → Gathered → Room → Read (After × Gathered × Room)
    element_at m tags path b (marker at x) g r = marker_at m at b r >>= λ s. Ok (after true true, with_marker g, s)
    element_at m tags path b (group at es) g r = refused m at parts.Group
    element_at m tags path b (components_of at t) g r = components_of_at roots (place_in m at) path b t g r
    element_at m tags path b (component at name t need) g r = component_at m tags path b at name t need g r

    -- elements behind others
    abbrev pub elements_at : ℕ → List Tag → List Place → Before → Elements → Gathered → Room → Read (After × Gathered × Room)
    elements_at m tags path b no_elements g r = Ok (after b.any b.marked, g, r)
    elements_at m tags path b (element e es) g r =
        element_at m tags path b e g r >>= λ x. elements_at m tags path (behind b x.0) es x.1 x.2

    -- one of a SEQUENCE for the root of which COMPONENTS OF stands: its marker and its additions are left out (X.680, 25.5)
    abbrev pub root_element_at : ℕ → List Tag → List Place → Before → Element → Gathered → Room → Read (After × Gathered × Room)
    root_element_at m tags path b (marker at x) g r =
        if b.marked then refused m at parts.SecondMarker else Ok (after b.any true, g, r)
    root_element_at m tags path b e g r = if b.marked then Ok (after b.any true, g, r) else element_at m tags path b e g r

    -- all of them, and whether there are elements by then
    abbrev pub root_at : ℕ → List Tag → List Place → Before → Elements → Gathered → Room → Read (Bool × Gathered × Room)
    root_at m tags path b no_elements g r = Ok (b.any, g, r)
    root_at m tags path b (element e es) g r =
        root_element_at m tags path b e g r >>= λ x. root_at m tags path (behind b x.0) es x.1 x.2

    -- those of a SEQUENCE for which COMPONENTS OF at a place stands
    abbrev pub included_at : Place → List Place → Bool → ℕ → Option Elements → Gathered → Room → Read (Bool × Gathered × Room)
    included_at p path any m None g r = refused p.«module» p.at parts.ComponentsOf
    included_at p path any m (Some es) g r = root_at m [] path (first any) es g r

    -- behind the opening brace
    unfoldable pub braces_at : Place → List Tag → List Place → Elements → Room → Read (Gathered × Room)
    braces_at p tags path es r = do
      x ← elements_at p.«module» tags path (first false) es empty r
      s ← closed ms p x.0.marked x.2
      Ok (x.1, s)

    abbrev pub inside_at : Place → Builtin → Elements → List Place → Room → Read (AsnType × Room)
    inside_at p bi.Sequence es path r = braces_at p [] path es (put (codes "SEQUENCE {") r) >>= λ x. Ok (sequence_in x.0, x.1)
    inside_at p bi.Choice es path r = do
      tags ← alternative_tags ms p.«module» es
      x ← braces_at p tags path es (put (codes "CHOICE {") r)
      Ok (choice_in x.0, x.1)
    inside_at p b es path r = refused p.«module» p.at parts.Set

    -- with a comment on its constraints
    unfoldable pub structure_at : Place → Builtin → Elements → Written → List Place → Room → Read (AsnType × Room)
    structure_at p b es w path r = inside_at p b es path r >>= λ x. Ok (x.0, unchecked_at Nothing false w x.1)

-- what is in a type at a place; its end, where the place stands on the path as often as types may nest
unfoldable pub nested_at : ℕ → ℕ → (List Place → Room → Read (AsnType × Room)) → Place → List Place → Room → Read (AsnType × Room)
nested_at nesting levels inside p path r =
    if is_full nesting p path then end_at levels p r else inside (path ++ p ∷ []) r

-- a type that holds no other, or that isn't taken
abbrev pub IsSingle : Tree → Type 0
IsSingle (tagged at ts mode t) = ⊥
IsSingle (structure at b es cs) = ⊥
IsSingle (list_of at b sized size name item) = ⊥
IsSingle _ = Unit {0}

module _ (ms : List Module) where
  abbrev pub single_by : Place → Meaning → ℕ → Tree → Room → Read (AsnType × Room)
  single_by p m k (plain at b items cs) r = leaf_at ms p m r
  single_by p m k (named at name steps ps cs) r = field_at ms (place_in k at) name steps ps (written k cs m.given) r
  single_by p m k (selection at name v) r = refused k at parts.Selection
  single_by p m k (instance_of at class steps cs) r = refused k at parts.InstanceOf
  single_by p m k (any_defined_by at name) r = refused k at parts.AnyDefinedBy
  single_by p m k v r = refused k (place_of v) parts.Word

  -- such a type, for which a type at a place stands
  unfoldable pub single_at : Place → Meaning → Room → Read (AsnType × Room)
  single_at p m r = single_by p m m.of.«module» m.of.type r

module _ (ms : List Module) (nesting : ℕ) where
  module _ (levels : ℕ) (type : List Place → TypeIn → Room → Read (AsnType × Room))
      (roots : List Place → Bool → Place → Tree → Gathered → Room → Read (Bool × Gathered × Room)) where
    abbrev pub meant_as : List Place → Place → Meaning → ℕ → Tree → Room → Read (AsnType × Room)
    meant_as path p m k (structure at b es cs) r =
        nested_at nesting levels (structure_at ms type roots (place_in k at) b es (written k cs m.given)) (place_in k at) path r
    meant_as path p m k (list_of at b sized size name item) r =
        nested_at nesting levels (list_at ms type (place_in k at) b sized item (written k size m.given)) (place_in k at) path r
    meant_as path p m k u r = single_at ms p m r

    -- What a type at a place stands for, in which so many levels of types may nest.
    abbrev pub meant_by : List Place → Place → Meaning → Room → Read (AsnType × Room)
    meant_by path p m r = meant_as path p m m.of.«module» m.of.type r

  -- The number is how many levels may nest, of types and of COMPONENTS OF.
  unfoldable mutual
    -- a type behind a path of the types that it stands in
    pub type_at : ℕ → List Place → TypeIn → Room → Read (AsnType × Room)
    type_at zero path t r = error (type_place t) too_deep
    type_at (suc levels) path t r = do
      m ← stands_for ms t
      s ← take_part (type_place m.of) r
      meant_by levels (type_at levels) (roots_at levels) path (type_place t) m s

    -- COMPONENTS OF a type: the root of the SEQUENCE that it stands for (X.680, 25.5), which takes a part
    pub roots_at : ℕ → List Place → Bool → Place → Tree → Gathered → Room → Read (Bool × Gathered × Room)
    roots_at zero path any p t g r = error p too_deep
    roots_at (suc levels) path any p t g r = do
      m ← stands_for ms (type_in p.«module» t)
      s ← take_part (type_place m.of) r
      included_at ms (type_at levels) (roots_at levels) p path any m.of.«module» (sequence_of m.of.type) g s

  -- a type that stands in none, and its text
  unfoldable pub typed : TypeIn → Read (AsnType × List ℕ)
  typed t = type_at 32 [] t new >>= λ x. Ok (x.0, x.1.text)
