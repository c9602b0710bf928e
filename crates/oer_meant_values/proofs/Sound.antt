-- What is found for a value after DEFAULT is the value that X.680 gives it.
use Rattle.std.proofs.Common.{◌≡◌, ℕ, zero, suc, List, [], ◌∷◌, ◌++◌, map, Bool, true, false, ◌||◌, Option, Some, None, Ok, codes, refl, sym, ap, subst, ◌∙◌, append_assoc, append-nil}
use Rattle.oer_model.specs.AsnValue.{AsnValue, chosen, items, seq}
use Rattle.oer_module_defaults.specs.Alternatives.{alternative_at}
use Rattle.oer_module_defaults.specs.Bits.{own_name}
use Rattle.oer_module_defaults.specs.Components.{components_at, elements_of, is_optional, item_in}
use Rattle.oer_module_defaults.specs.Defaults.{Target, choice_by, default_at, filled_at, found_at, governed_at, inner_at, item_by, items_at, kind_at}
use Rattle.oer_module_defaults.specs.Defaults.{list_at, list_by, has_any, literal_at, put_comma, put_name, sequence_at, sequence_by, slot_by, source_at, value_at}
use Rattle.oer_module_defaults.specs.Filled.{Filled, empty, sequence_in, with_value}
use Rattle.oer_module_defaults.specs.Governors.{Governor, governor_at, is_taken_by}
use Rattle.oer_module_defaults.specs.Slots.{Entry, Slot, entries_at, entry_at, entry_by, slots_in}
use Rattle.oer_module_defaults.specs.Atoms.{or_none_such}
use Rattle.oer_module_defaults.specs.Values.{begin_of, member_place, value_place}
use Rattle.oer_module_defaults.specs.Walks.{Literal, Source, name_in, reference_at, walk}
use Rattle.oer_module_defaults.specs.declared.governor.Kind.{Kind}
use Rattle.oer_module_defaults.specs.declared.governor.Kind.TheVariants.{Boolean, Null, Integer, Enumerated, Octets, Bits, Text, Arcs}
use Rattle.oer_module_defaults.specs.declared.governor.Kind.TheVariants.{Sequence, SequenceOf, Choice}
use Rattle.oer_module_lexer.specs.Token.{Spot}
use Rattle.oer_module_names.specs.declared.error.Place.{Place}
use Rattle.oer_module_syntax.specs.Tree as trees
use Rattle.oer_module_syntax.specs.Tree.{Module, Tree, Need, must, may, default}
use Rattle.oer_module_syntax.specs.declared.word.Builtin.{Builtin}
use Rattle.oer_module_terms.specs.Trees.{named, amount, Value, atom, choice, braces, Parts, no_parts, part, Members, no_members, member}
use Rattle.oer_module_text.specs.Errors.{Read}
use Rattle.oer_module_text.specs.Room.{Room, put, take_part}
use Rattle.oer_module_values.specs.Numbers.{place_of_first}
use Rattle.oer_module_values.specs.Types.{TypeIn, type_in}
use Rattle.oer_values.specs.ValueView.{places_from, values_from}
use Rattle.oer_meant_leaves.specs.Laws.{EnumerationsAreSound, RangesAreEffective}
use Rattle.oer_meant_values.specs.Laws.{DefaultsAreSound}
use Rattle.oer_meant_values.specs.Parts.{Part}
use Rattle.oer_meant_values.specs.Reaching.{Governs, Reaches}
use Rattle.oer_meant_values.specs.Values.{ArePlaces, no_more, in_root, in_additions, not_in_root, not_in_additions, AreValues, no_more_values, another_value}
use Rattle.oer_meant_values.specs.Values.{AreValue, IsNext, IsOf, IsValue, is_choice, is_list, is_sequence, is_value}
use Rattle.oer_meant_leaves.proofs.Results.{text_step}
use Rattle.oer_meant_values.proofs.Apart.{front_ok, same_ok, then_ok}
use Rattle.oer_meant_values.proofs.Leaves.{bit_string, boolean, characters, enumerated, integer, name_is, null, object_identifier, octet_string}
use Rattle.oer_meant_values.proofs.Parts.{alternative_is, components_are, elements_are, seen}
use Rattle.oer_meant_values.proofs.Reached.{Leads, governs, leads, walked}
use Rattle.oer_meant_values.proofs.Slots.{Give, StartWith, all_given, left_out, nothing as nothing_given, there as is_there}

-- ---- members that are named

-- each member is a name and a value
data AreEntries : Members → List Entry → Type 0 where
  no_entries : AreEntries no_members []
  another_entry : (at : ℕ) (w : List ℕ) (v : Value) (more : Members) (e : Entry) (es : List Entry) → w ≡ e.name → v ≡ e.value
      → AreEntries more es → AreEntries (member (part (atom at (amount (named w []))) (part v no_parts)) more) (e ∷ es)

-- a name and a value in parts
record IsEntry (vs : Parts) (e : Entry) : Type 0 where
  pub at : ℕ
  pub is : vs ≡ part (atom at (amount (named e.name []))) (part e.value no_parts)

entry_of : (u x : Value) (o : Option (List ℕ)) (e : Entry) → own_name (name_in u) ≡ o → entry_by (begin_of u) o x ≡ Some e
    → IsEntry (part u (part x no_parts)) e
entry_of u x None e is h = absurd (cc)
entry_of u x (Some w) e is h =
    let n = name_is u w is in
    let same : record { at = begin_of u; name = w; value = x } ≡ e = cc in
    subst (IsEntry (part u (part x no_parts))) same (record { at = n.0; is = ap (λ v. part v (part x no_parts)) n.1 })

entry_is : (p : Place) (vs : Parts) (e : Entry) → entry_at p vs ≡ Ok e → IsEntry vs e
entry_is p no_parts e h = absurd (cc)
entry_is p (part u no_parts) e h = absurd (cc)
entry_is p (part u (part x no_parts)) e h = by (entry_by (begin_of u) (own_name (name_in u)) x) refl h
  where
    by : (o : Option Entry) → entry_by (begin_of u) (own_name (name_in u)) x ≡ o → or_none_such (member_place p (part u (part x no_parts))) o ≡ Ok e
        → IsEntry (part u (part x no_parts)) e
    by None is h = absurd (cc)
    by (Some d) is h = entry_of u x (own_name (name_in u)) e refl (is ∙ ap Some (same_ok d e h))
entry_is p (part u (part x (part y vs))) e h = absurd (cc)

record Entries (more : Members) (before after : List Entry) : Type 0 where
  pub own : List Entry
  pub are : AreEntries more own
  pub is : after ≡ before ++ own

entries_are : (p : Place) (more : Members) (before after : List Entry) → entries_at p more before ≡ Ok after → Entries more before after
entries_are p no_members before after h =
    record { own = []; are = no_entries; is = sym (same_ok before after h) ∙ sym (append-nil before) }
entries_are p (member vs more) before after h =
    let e = text_step (entry_at p vs) _ after h in
    let i = entry_is p vs e.0 e.1 in
    let rest = entries_are p more (before ++ e.0 ∷ []) after e.2 in
    record {
      own = e.0 ∷ rest.own;
      are = subst (λ vs. AreEntries (member vs more) (e.0 ∷ rest.own)) (sym i.is)
          (another_entry i.at e.0.name e.0.value more e.0 rest.own refl refl rest.are);
      is = rest.is ∙ append_assoc before (e.0 ∷ []) rest.own;
    }

all_entries : (p : Place) (more : Members) (es : List Entry) → entries_at p more [] ≡ Ok es → AreEntries more es
all_entries p more es h = let e = entries_are p more [] es h in subst (AreEntries more) (sym e.is) e.are

-- the next entry has the name of the next member
next_starts : (w : List ℕ) (more : Members) (es : List Entry) → AreEntries more es → IsNext w more → StartWith w es
next_starts w _ _ no_entries n = n
next_starts w _ _ (another_entry at u v more e es is same are) n = sym is ∙ n

-- ---- values that hold others

abbrev Valued : Type 0
Valued = TypeIn → ℕ → Value → Room → Read (AsnValue × Room)

-- what is found for a value is that
abbrev ValuesAre : List Module → Valued → Type 0
ValuesAre ms f = (t : TypeIn) (m : ℕ) (v : Value) (r : Room) (x : AsnValue × Room) → f t m v r ≡ Ok x → IsValue ms t.«module» t.type m v x.0

-- what members give parts, behind what is filled by then
record IsFilled (ms : List Module) (k : ℕ) (more : Members) (ps : List Part) (before after : Filled) : Type 0 where
  pub root : List (Option AsnValue)
  pub added : List (Option AsnValue)
  pub are : ArePlaces ms k more ps (places_from root) (places_from added)
  pub root_is : after.root ≡ before.root ++ root
  pub added_is : after.added ≡ before.added ++ added

-- what need not be there is optional
not_needed : (n : Need) (added : Bool) → added ≡ false → added || is_optional n ≡ true → ¬ (n ≡ must)
not_needed n true e h = absurd (cc)
not_needed must false e h = absurd (cc)
not_needed may false e h = λ is. cc
not_needed (default ts) false e h = λ is. cc

module _ (ms : List Module) (k : ℕ) (q : Part) (ps : List Part) (f g : Filled) where
  none_here : (b : Bool) (more : Members) → q.added ≡ b → q.added || is_optional q.need ≡ true
      → ¬ IsNext q.name more → IsFilled ms k more ps (with_value b None f) g → IsFilled ms k more (q ∷ ps) f g
  unfolding with_value
  none_here true more is optional other i = record {
    root = i.root;
    added = None ∷ i.added;
    are = not_in_additions k more q ps (places_from i.root) (places_from i.added) is other i.are;
    root_is = i.root_is;
    added_is = i.added_is ∙ append_assoc f.added (None ∷ []) i.added;
  }
  none_here false more is optional other i = record {
    root = None ∷ i.root;
    added = i.added;
    are = not_in_root k more q ps (places_from i.root) (places_from i.added) is (not_needed q.need q.added is optional) other i.are;
    root_is = i.root_is ∙ append_assoc f.root (None ∷ []) i.root;
    added_is = i.added_is;
  }

  one_here : (b : Bool) (at : ℕ) (w : List ℕ) (v : Value) (more : Members) (x : AsnValue) → q.added ≡ b → w ≡ q.name
      → IsValue ms q.«module» q.type k v x → IsFilled ms k more ps (with_value b (Some x) f) g
      → IsFilled ms k (member (part (atom at (amount (named w []))) (part v no_parts)) more) (q ∷ ps) f g
  unfolding with_value
  one_here true at w v more x is same of_it i = record {
    root = i.root;
    added = Some x ∷ i.added;
    are = in_additions k at w v more q ps x (places_from i.root) (places_from i.added) same is of_it i.are;
    root_is = i.root_is;
    added_is = i.added_is ∙ append_assoc f.added (Some x ∷ []) i.added;
  }
  one_here false at w v more x is same of_it i = record {
    root = Some x ∷ i.root;
    added = i.added;
    are = in_root k at w v more q ps x (places_from i.root) (places_from i.added) same is of_it i.are;
    root_is = i.root_is ∙ append_assoc f.root (Some x ∷ []) i.root;
    added_is = i.added_is;
  }

module _ (ms : List Module) (value : Valued) (values_are : ValuesAre ms value) where
  inner : (t : TypeIn) (m : ℕ) (v : Value) (r : Room) (x : AsnValue × Room) → inner_at value t m v r ≡ Ok x
      → IsValue ms t.«module» t.type m v x.0
  inner t m v r x h = let s = text_step (take_part (value_place m v) r) _ x h in values_are t m v s.0 x s.2

  -- ---- SEQUENCE

  one_given : (k : ℕ) (q : Part) (v : Value) (f : Filled) (r : Room) (x : Filled × Room) → slot_by value k (seen q) (Some v) f r ≡ Ok x
      → (y : AsnValue) × IsValue ms q.«module» q.type k v y × (x.0 ≡ with_value q.added (Some y) f)
  one_given k q v f r x h =
      let b = text_step (inner_at value (type_in q.«module» q.type) k v (put_name f.any q.name r)) _ x h in
      (b.0.0, inner (type_in q.«module» q.type) k v (put_name f.any q.name r) b.0 b.1, sym (front_ok _ b.0.1 x b.2))

  filled : (k : ℕ) (ps : List Part) (more : Members) (es : List Entry) (ss : List Slot) (f : Filled) (r : Room) (x : Filled × Room)
      → Give es (map seen ps) ss → AreEntries more es → filled_at value k ss f r ≡ Ok x → IsFilled ms k more ps f x.0
  filled k [] _ _ _ f r x nothing_given no_entries h =
      let e = front_ok f r x h in
      record {
        root = [];
        added = [];
        are = no_more k;
        root_is = ap (λ g. g.root) (sym e) ∙ sym (append-nil f.root);
        added_is = ap (λ g. g.added) (sym e) ∙ sym (append-nil f.added);
      }
  filled k (q ∷ ps) _ _ _ f r x (is_there e es c cs ss named_it fills) (another_entry at w v more d ds w_is v_is are) h =
      let b = text_step (slot_by value k (seen q) (Some e.value) f r) _ x h in
      let one = one_given k q e.value f r b.0 b.1 in
      let rest = filled k ps more es ss b.0.0 b.0.1 x fills are b.2 in
      one_here ms k q ps f x.0 q.added at w v more one.0 refl (w_is ∙ named_it)
      (subst (λ u. IsValue ms q.«module» q.type k u one.0) (sym v_is) one.1) (subst (λ g. IsFilled ms k more ps g x.0) one.2 rest)
  filled k (q ∷ ps) more _ _ f r x (left_out es c cs ss optional other fills) are h =
      none_here ms k q ps f x.0 q.added more refl optional (λ n. other (next_starts q.name more es are n)) (filled k ps more es ss (with_value q.added None f) r x fills are h)

  -- what is put together of what parts are given
  put_together : (f : Filled) (root added : List (Option AsnValue)) (x : AsnValue × Room) (r : Room) → f.root ≡ root → f.added ≡ added
      → ◌≡◌ {A = Read (AsnValue × Room)} (Ok (sequence_in f, r)) (Ok x) → seq (places_from root) (places_from added) [] ≡ x.0
  unfolding sequence_in
  put_together f root added x r e d h =
      ap (λ l. seq (places_from l) (places_from added) []) (sym e) ∙ ap (λ l. seq (places_from f.root) (places_from l) []) (sym d)
      ∙ front_ok (sequence_in f) r x h

  in_sequence : (p : Place) (g : Governor) (at : ℕ) (more : Members) (r : Room) (x : AsnValue × Room) (m : ℕ) (t : Tree) (o : Governor)
      → g.kind ≡ Sequence → sequence_at value ms p g more r ≡ Ok x → IsOf ms m t o p.«module» g (braces at more) x.0
  unfolding empty
  in_sequence p g at more r x m t o kind h =
      let e = text_step (elements_of p g.type) _ x h in
      let c = text_step (components_at ms g.«module» e.0 r) _ x e.2 in
      let s = text_step (slots_in p c.0.0 more) _ x c.2 in
      let y = text_step (filled_at value p.«module» s.0 empty (put (codes "{") c.0.1)) _ x s.2 in
      let i = elements_are p g.type e.0 e.1 in
      let all = components_are ms g.«module» e.0 r c.0 c.1 in
      let d = text_step (entries_at p more []) _ s.0 s.1 in
      let given = subst (λ cs. Give d.0 cs s.0) {x = c.0.0} {y = map seen all.parts} all.are (all_given p d.0 c.0.0 s.0 d.2) in
      let places = filled p.«module» all.parts more d.0 s.0 empty (put (codes "{") c.0.1) y.0 given (all_entries p more d.0 d.1) y.1 in
      subst (IsOf ms m t o p.«module» g (braces at more)) {x = seq (places_from places.root) (places_from places.added) []}
      (put_together y.0.0 places.root places.added x (put (codes "}") y.0.1) places.root_is places.added_is y.2)
      (is_sequence m p.«module» at i.0 t o g i.1 e.0 i.2 all.parts all.marked more (places_from places.root) (places_from places.added) kind i.3 all.all places.are)

  sequence : (p : Place) (g : Governor) (v : Value) (r : Room) (x : AsnValue × Room) (m : ℕ) (t : Tree) (o : Governor)
      → g.kind ≡ Sequence → sequence_by value ms p g v r ≡ Ok x → IsOf ms m t o p.«module» g v x.0
  sequence p g (braces at more) r x m t o kind h = in_sequence p g at more r x m t o kind h
  sequence p g v r x m t o kind h = absurd (cc)

  -- ---- SEQUENCE OF

  record Listed (t : TypeIn) (k : ℕ) (more : Members) (before after : List AsnValue) : Type 0 where
    pub own : List AsnValue
    pub are : AreValues ms t.«module» t.type k more (values_from own)
    pub is : after ≡ before ++ own

  each_item : (p : Place) (t : TypeIn) (more : Members) (before : List AsnValue) (r : Room) (x : List AsnValue × Room)
      → items_at value p t more before r ≡ Ok x → Listed t p.«module» more before x.0
  each_item p t no_members before r x h =
      record { own = []; are = no_more_values t.«module» p.«module» t.type; is = sym (front_ok before r x h) ∙ sym (append-nil before) }
  each_item p t (member no_parts more) before r x h = absurd (cc)
  each_item p t (member (part v no_parts) more) before r x h =
      let b = text_step (item_by value p (member_place p (part v no_parts)) t (Some v) before r) _ x h in
      let y = text_step (inner_at value t p.«module» v (put_comma (has_any before) r)) _ b.0 b.1 in
      let rest = each_item p t more b.0.0 b.0.1 x b.2 in
      record {
        own = y.0.0 ∷ rest.own;
        are = another_value t.«module» p.«module» t.type v more y.0.0 (values_from rest.own) (inner t p.«module» v (put_comma (has_any before) r) y.0 y.1) rest.are;
        is = rest.is ∙ ap (λ l. l ++ rest.own) (sym (front_ok _ _ b.0 y.2)) ∙ append_assoc before (y.0.0 ∷ []) rest.own;
      }
  each_item p t (member (part v (part w vs)) more) before r x h = absurd (cc)

  in_list : (p : Place) (g : Governor) (at from : ℕ) (b : Builtin) (sized : Bool) (ss : List Spot) (w : Option (List ℕ)) (i : Tree) (more : Members)
      (r : Room) (x : AsnValue × Room) (m : ℕ) (t : Tree) (o : Governor) → g.kind ≡ SequenceOf → g.type ≡ trees.list_of from b sized ss w i
      → list_at value p (type_in g.«module» i) more r ≡ Ok x → IsOf ms m t o p.«module» g (braces at more) x.0
  in_list p g at from b sized ss w i more r x m t o kind is h =
      let y = text_step (items_at value p (type_in g.«module» i) more [] (put (codes "{") r)) _ x h in
      let l = each_item p (type_in g.«module» i) more [] (put (codes "{") r) y.0 y.1 in
      subst (IsOf ms m t o p.«module» g (braces at more)) (ap (λ l. items (values_from l)) (sym l.is) ∙ front_ok _ _ x y.2)
      (is_list m p.«module» at from t i o g b sized ss w more (values_from l.own) kind is l.are)

  list : (p : Place) (g : Governor) (u : Tree) (v : Value) (r : Room) (x : AsnValue × Room) (m : ℕ) (t : Tree) (o : Governor)
      → g.kind ≡ SequenceOf → g.type ≡ u → list_by value p g.«module» (item_in u) v r ≡ Ok x → IsOf ms m t o p.«module» g v x.0
  list p g (trees.list_of from b sized ss w i) (braces at more) r x m t o kind is h =
      in_list p g at from b sized ss w i more r x m t o kind is h
  list p g (trees.list_of from b sized ss w i) v r x m t o kind is h = absurd (cc)
  list p g u v r x m t o kind is h = absurd (cc)

  -- ---- CHOICE

  choice_is : (p : Place) (g : Governor) (v : Value) (r : Room) (x : AsnValue × Room) (m : ℕ) (t : Tree) (o : Governor)
      → g.kind ≡ Choice → choice_by value ms p g v r ≡ Ok x → IsOf ms m t o p.«module» g v x.0
  choice_is p g (choice at w v) r x m t o kind h =
      let b = text_step (alternative_at ms p g w r) _ x h in
      let a = alternative_is ms p g w r b.0 b.1 in
      let y = text_step (inner_at value b.0.0.of p.«module» v (put (codes " : ") (put w b.0.1))) _ x b.2 in
      let of_it = subst (λ (u : TypeIn). IsValue ms u.«module» u.type p.«module» v y.0.0) a.of_it (inner b.0.0.of p.«module» v (put (codes " : ") (put w b.0.1)) y.0 y.1) in
      subst (IsOf ms m t o p.«module» g (choice at w v)) (front_ok (chosen b.0.0.tag y.0.0) _ x y.2)
      (is_choice m p.«module» at a.at t o g a.word a.elements a.constraints a.parts a.marked a.tags w v a.one b.0.0.tag y.0.0 kind a.is a.all
      a.tagged_by a.first of_it)
  choice_is p g v r x m t o kind h = absurd (cc)

  -- ---- all kinds

  module _ (ranges : RangesAreEffective) (enumerations : EnumerationsAreSound) where
    of_kind : (k : Kind) (t : Target) (l : Literal) (r : Room) (x : AsnValue × Room) → l.governor.kind ≡ k → kind_at value ms k t l r ≡ Ok x
        → IsOf ms t.of.«module» t.of.type t.governor l.place.«module» l.governor l.value x.0
    of_kind Boolean t l r x k h = boolean ms t.of t.governor l.governor l.place r x l.value k h
    of_kind Null t l r x k h = null ms t.of t.governor l.governor l.place r x l.value k h
    of_kind Integer t l r x k h = integer ms t.of t.governor l.governor l.place r x l.value k h
    of_kind Enumerated t l r x k h = enumerated ms t.of t.governor l.governor l.place r x enumerations l.value k h
    of_kind Octets t l r x k h = octet_string ms t.of t.governor l.governor l.place r x l.value k h
    of_kind Bits t l r x k h = bit_string ms t.of t.governor l.governor l.place r x ranges l.value k h
    of_kind Text t l r x k h = characters ms t.of t.governor l.governor l.place r x l.value k h
    of_kind Arcs t l r x k h = object_identifier ms t.of t.governor l.governor l.place r x l.value k h
    of_kind Sequence t l r x k h = sequence l.place l.governor l.value r x t.of.«module» t.of.type t.governor k h
    of_kind SequenceOf t l r x k h = list l.place l.governor l.governor.type l.value r x t.of.«module» t.of.type t.governor k refl h
    of_kind Choice t l r x k h = choice_is l.place l.governor l.value r x t.of.«module» t.of.type t.governor k h

    -- one that is taken
    record IsTaken (t : Target) (l : Literal) (x : AsnValue) : Type 0 where
      pub taken : is_taken_by t.governor l.governor ≡ true
      pub of_it : IsOf ms t.of.«module» t.of.type t.governor l.place.«module» l.governor l.value x

    literal : (t : Target) (l : Literal) (r : Room) (x : AsnValue × Room) → literal_at value ms t l r ≡ Ok x → IsTaken t l x.0
    literal t l r x h =
        let e = then_ok (is_taken_by t.governor l.governor) (kind_at value ms l.governor.kind t l r) _ x h in
        record { taken = e.0; of_it = of_kind l.governor.kind t l r x refl e.1 }

    value_of : (t : TypeIn) (n : ℕ) (g : Governor) (v : Value) (l : Literal) (x : AsnValue) → Governs ms t.«module» t.type g
        → Reaches ms n g v l.place.«module» l.governor l.value → IsTaken (record { of = t; governor = g }) l x → IsValue ms t.«module» t.type n v x
    value_of t n g v l x governed reached taken =
        is_value t.«module» n l.place.«module» t.type g l.governor v l.value x governed reached taken.taken taken.of_it

    found : (t : TypeIn) (g : Governor) (p : Place) (v : Value) (o : Option Source) (r : Room) (x : AsnValue × Room)
        → Governs ms t.«module» t.type g → Leads ms p.«module» g v o → found_at value ms (record { of = t; governor = g }) p v o r ≡ Ok x
        → IsValue ms t.«module» t.type p.«module» v x.0
    found t g p v None r x governed on h =
        let l : Literal = record { place = p; governor = g; value = v } in
        value_of t p.«module» g v l x.0 governed on (literal (record { of = t; governor = g }) l r x h)
    found t g p v (Some u) r x governed on h =
        let l = text_step (walk ms 255 u) _ x h in
        let w = walked ms 255 u l.0 l.1 in
        value_of t p.«module» g v l.0 x.0 governed (on w.read l.0.value l.0.place.«module» l.0.governor w.written w.reaches)
        (literal (record { of = t; governor = g }) l.0 r x l.2)

    governed_value : (t : TypeIn) (p : Place) (v : Value) (r : Room) (x : AsnValue × Room) → governed_at value ms t p v r ≡ Ok x
        → IsValue ms t.«module» t.type p.«module» v x.0
    governed_value t p v r x h =
        let g = text_step (governor_at ms p t) _ x h in
        let o = text_step (reference_at ms p g.0 v) _ x g.2 in
        found t g.0 p v o.0 r x (governs ms p t.«module» t.type g.0 g.1) (leads ms p g.0 v o.0 o.1) o.2

    -- tokens in a module are a value of a type
    tokens : (t : TypeIn) (g : Governor) (m : ℕ) (ts : List Spot) (r : Room) (x : AsnValue × Room) → Governs ms t.«module» t.type g
        → source_at value ms (record { of = t; governor = g }) (record { «module» = m; governor = g; spots = ts }) r ≡ Ok x
        → AreValue ms t.«module» t.type m ts x.0
    tokens t g m ts r x governed h =
        let u : Source = record { «module» = m; governor = g; spots = ts } in
        let l = text_step (walk ms 255 u) _ x h in
        let w = walked ms 255 u l.0 l.1 in
        record {
          read = w.read;
          written = w.written;
          is = value_of t m g w.read l.0 x.0 governed w.reaches (literal (record { of = t; governor = g }) l.0 r x l.2);
        }

-- ---- all levels

module _ (ms : List Module) (ranges : RangesAreEffective) (enumerations : EnumerationsAreSound) where
  no_levels : ValuesAre ms (value_at ms zero)
  unfolding value_at
  no_levels t m v r x h = absurd (cc)

  more_levels : (levels : ℕ) → ValuesAre ms (value_at ms levels) → ValuesAre ms (value_at ms (suc levels))
  unfolding value_at
  more_levels levels values_are t m v r x h =
      governed_value ms (value_at ms levels) values_are ranges enumerations t (value_place m v) v r x h

  all_levels : (levels : ℕ) → ValuesAre ms (value_at ms levels)
  all_levels zero = no_levels
  all_levels (suc levels) = more_levels levels (all_levels levels)

  default_is : (t : TypeIn) (m : ℕ) (ts : List Spot) (r : Room) (x : AsnValue × Room) → default_at ms t m ts r ≡ Ok x
      → AreValue ms t.«module» t.type m ts x.0
  unfolding default_at
  default_is t m ts r x h =
      let g = text_step (governor_at ms (place_of_first m ts) t) _ x h in
      tokens ms (value_at ms 31) (all_levels 31) ranges enumerations t g.0 m ts r x
      (governs ms (place_of_first m ts) t.«module» t.type g.0 g.1) g.2

-- what is found is what X.680 gives, where ranges and the items of an ENUMERATED are
pub defaults_sound : RangesAreEffective → EnumerationsAreSound → DefaultsAreSound
defaults_sound ranges enumerations ms t m ts r s x h = default_is ms ranges enumerations t m ts r (x, s) h
