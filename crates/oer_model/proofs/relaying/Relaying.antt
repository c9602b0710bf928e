-- Unknown parts stand unchanged in the canonical octets.
use Rattle.std.proofs.Common.{◌≡◌, ◌⊎◌, inl, inr, ⊎_elim, ℕ, zero, suc, ◌+◌, ◌<◌, List, [], ◌∷◌, ◌++◌, Bool, true, false, eqb, if◌then◌else◌, Option, Some, None, refl, ap, ap₂, sym, ◌∙◌, subst, arith, eqb-true, eq-eqb}
use Rattle.oer_units.specs.declared.tagging.Tag.{Tag}
use Rattle.oer_model.proofs.canonical.Computed.{value_plain}
use Rattle.oer_model.proofs.paths.Finding.{led_to, same_found}
use Rattle.oer_model.proofs.paths.Pieces.{Child, KeptChild, Led, Piece, addition_pieces, alternative_pieces, child_in, child_kept, field_pieces, item_pieces, kept, led, nothing_there, piece, pieces, pieces_by_tag, raw, splits, typed, unknown_pieces, untyped}
use Rattle.oer_model.proofs.filling.Same.{same-true}
use Rattle.oer_model.proofs.canonical.StrictEnc.{strict_within}
use Rattle.oer_model.proofs.filling.Trimming.{trims_from_fills}
use Rattle.oer_model.specs.AsnType.{Additions, Alternatives, AsnType, Fields, Need, addition, alternative, choice, default, extensible_sequence, field, later, leaf, may, must, no_additions, no_alternatives, no_fields, sequence, sequence_of}
use Rattle.oer_model.specs.AsnValue.{AsnValue, Places, Unknown, Values, absent, chosen, foreign, items, no_places, no_values, present, seq, unknown, value}
use Rattle.oer_model.specs.Canonical.{same, trimmed, trimmed_additions, trimmed_alternative, trimmed_fields}
use Rattle.oer_model.specs.Constraints.{KeepsLimits, same_tag}
use Rattle.oer_model.specs.Encoding.{IsSpelling}
use Rattle.oer_model.specs.Filling.{filled, filled_by_tag, map_values}
use Rattle.oer_model.specs.Fits.{DefaultsFit}
use Rattle.oer_model.specs.Laws.{KeepsUnknown}
use Rattle.oer_model.specs.Parts.{EntersDefault, IsSplit, Part, Step, Within, found, lookup, need_at, need_of, no_such_step, same_step, to_addition, to_chosen, to_component, to_item}

-- by what a step leads to
abbrev ByChild : Child → (AsnType → AsnValue → Type 0) → (List ℕ → Type 0) → Type 0
ByChild (typed need T v) P Q = P T v
ByChild (untyped w) P Q = Q w
ByChild nothing_there P Q = ⊥

abbrev IsEnd : List Step → List ℕ → List ℕ → Type 0
IsEnd [] s w = s ≡ w
IsEnd (step ∷ path) s w = ⊥

-- the path leads in v to octets s of which no type is known
abbrev UnknownAt : AsnType → AsnValue → List Step → List ℕ → Type 0
UnknownAt T v [] s = ⊥
UnknownAt T v (step ∷ path) s = ByChild (child_in step (pieces T v)) (λ U x. UnknownAt U x path s) (IsEnd path s)

none_end : (path : List Step) (s w : List ℕ) → (Within None w path None s → IsEnd path s w) × (IsEnd path s w → Within None w path None s)
none_end [] s w = (λ e. e.1, λ e. (refl, e))
none_end (step ∷ path) s w = (λ e. e, λ e. e)

-- The octets say of unknown parts what the value says.
unknown_is : (path : List Step) (T : AsnType) → KeepsLimits T → DefaultsFit T → (v : AsnValue) (b : List ℕ) → IsSpelling T v b → (s : List ℕ) → (Within (Some T) b path None s → UnknownAt T v path s) × (UnknownAt T v path s → Within (Some T) b path None s)
unknown_is [] T w d v b x s = (λ e. absurd (apart e.0), λ e. absurd e)
  where
    apart : None ≡ Some T → ⊥
    apart e = cc
unknown_is (step ∷ path) T w d v b x s =
    let o = splits T v b x in
    by_child o.0 o.1 (unknown_is path) (child_in step (pieces T v)) (led (pieces T v) o.0 o.2 step) (child_kept step (pieces T v) (kept T w d v))
  where
    by_child : (parts : List Part) → IsSplit T parts b → ((T : AsnType) → KeepsLimits T → DefaultsFit T → (v : AsnValue) (b : List ℕ) → IsSpelling T v b → (s : List ℕ) → (Within (Some T) b path None s → UnknownAt T v path s) × (UnknownAt T v path s → Within (Some T) b path None s))
        → (c : Child) → Led c (λ o. lookup o step parts) → KeptChild c → (Within (Some T) b (step ∷ path) None s → ByChild c (λ U x. UnknownAt U x path s) (IsEnd path s)) × (ByChild c (λ U x. UnknownAt U x path s) (IsEnd path s) → Within (Some T) b (step ∷ path) None s)
    by_child parts t next (typed need U y) (c, e, z) k =
        let further = next U k.0 k.1 y c z s in (
          λ (V, c', l, r). (let both = same_found V (Some U) c' c (sym (led_to T w d b parts t step V c' l) ∙ e no_such_step) in further.0 (subst (λ c. Within (Some U) c path None s) both.1 (subst (λ V. Within V c' path None s) both.0 r))),
          λ u. (Some U, c, (parts, t, e no_such_step), further.1 u),
        )
    by_child parts t next (untyped u) e k = (
      λ (V, c', l, r). (let both = same_found V None c' u (sym (led_to T w d b parts t step V c' l) ∙ e no_such_step) in (none_end path s u).0 (subst (λ c. Within None c path None s) both.1 (subst (λ V. Within V c' path None s) both.0 r))),
      λ z. (None, u, (parts, t, e no_such_step), (none_end path s u).1 z),
    )
    by_child parts t next nothing_there e k = (λ (V, c', l, r). apart V c' (sym (e no_such_step) ∙ led_to T w d b parts t step V c' l), λ z. absurd z)
      where
        apart : (V : Option AsnType) (c : List ℕ) → no_such_step ≡ found V c → ⊥
        apart V c e = cc

-- what trimming leaves of a part
abbrev trim_child : Child → Child
trim_child (typed need T v) = typed need T (trimmed T v)
trim_child (untyped w) = untyped w
trim_child nothing_there = nothing_there

abbrev IsDefault : Child → Type 0
IsDefault (typed must T v) = ⊥
IsDefault (typed may T v) = ⊥
IsDefault (typed (default d) T v) = filled T v ≡ filled T d
IsDefault (untyped w) = ⊥
IsDefault nothing_there = ⊥

abbrev Follows : Child → Child → Type 0
Follows f g = (g ≡ trim_child f) ⊎ (IsDefault f × (g ≡ nothing_there))

step_is : (i : ℕ) (step : Step) → same_step (to_component i) step ≡ true → step ≡ to_component i
step_is i (to_component k) e = ap to_component (sym (eqb-true i k e))
step_is i (to_addition k) e = absurd (cc)
step_is i (to_item k) e = absurd (cc)
step_is i to_chosen e = absurd (cc)

eqb-less : (k j : ℕ) → k < j → eqb j k ≡ false
eqb-less k j l = by_test (eqb j k) refl
  where
    by_test : (t : Bool) → eqb j k ≡ t → eqb j k ≡ false
    by_test true e = absurd (let same : j ≡ k = eqb-true j k e in omega arith)
    by_test false e = e

-- components from j on aren't those before
none_before : (fs : Fields) (j : ℕ) (ps : Places) (k : ℕ) → k < j → child_in (to_component k) (field_pieces fs j ps) ≡ nothing_there
none_before no_fields j ps k l = refl
none_before (field name need T fs) j no_places k l = refl
none_before (field name need T fs) j (absent ps) k l = none_before fs (suc j) ps k (omega arith)
none_before (field name need T fs) j (present v ps) k l = ap (λ (t : Bool). if t then typed need T v else child_in (to_component k) (field_pieces fs (suc j) ps)) (eqb-less k j l) ∙ none_before fs (suc j) ps k (omega arith)

head_follows : (t : Bool) (need : Need) (T : AsnType) (v : AsnValue) (f g : Child) → Follows f g → Follows (if t then typed need T v else f) (if t then typed need T (trimmed T v) else g)
head_follows true need T v f g x = inl refl
head_follows false need T v f g x = x

default_follows : (d : AsnValue) (T : AsnType) (v : AsnValue) (fs : Fields) (i : ℕ) (name : List ℕ) (qs : Places) (step : Step) (f : Child) (c : Bool) → same (filled T v) (filled T d) ≡ c → Follows f (child_in step (field_pieces fs (suc i) qs))
    → Follows (if same_step (to_component i) step then typed (default d) T v else f) (child_in step (field_pieces (field name (default d) T fs) i (if c then absent qs else present (trimmed T v) qs)))
default_follows d T v fs i name qs step f false e x = head_follows (same_step (to_component i) step) (default d) T v f (child_in step (field_pieces fs (suc i) qs)) x
default_follows d T v fs i name qs step f true e x = by_step (same_step (to_component i) step) refl
  where
    by_step : (t : Bool) → same_step (to_component i) step ≡ t → Follows (if t then typed (default d) T v else f) (child_in step (field_pieces fs (suc i) qs))
    by_step true g = inr (same-true (filled T v) (filled T d) e, ap (λ s. child_in s (field_pieces fs (suc i) qs)) (step_is i step g) ∙ none_before fs (suc i) qs i (omega arith))
    by_step false g = x

fields_follow : (fs : Fields) (i : ℕ) (ps : Places) (step : Step) → Follows (child_in step (field_pieces fs i ps)) (child_in step (field_pieces fs i (trimmed_fields fs ps)))
fields_follow no_fields i ps step = inl refl
fields_follow (field name need T fs) i no_places step = inl refl
fields_follow (field name need T fs) i (absent ps) step = fields_follow fs (suc i) ps step
fields_follow (field name must T fs) i (present v ps) step = head_follows (same_step (to_component i) step) must T v _ _ (fields_follow fs (suc i) ps step)
fields_follow (field name may T fs) i (present v ps) step = head_follows (same_step (to_component i) step) may T v _ _ (fields_follow fs (suc i) ps step)
fields_follow (field name (default d) T fs) i (present v ps) step = default_follows d T v fs i name (trimmed_fields fs ps) step _ (same (filled T v) (filled T d)) refl (fields_follow fs (suc i) ps step)

head_trims : (t : Bool) (need : Need) (T : AsnType) (v : AsnValue) (f g : Child) → g ≡ trim_child f → (if t then typed need T (trimmed T v) else g) ≡ trim_child (if t then typed need T v else f)
head_trims true need T v f g e = refl
head_trims false need T v f g e = e

additions_trim : (more : Additions) (i : ℕ) (ps : Places) (step : Step) → child_in step (addition_pieces more i (trimmed_additions more ps)) ≡ trim_child (child_in step (addition_pieces more i ps))
additions_trim no_additions i ps step = refl
additions_trim (addition name T more) i no_places step = refl
additions_trim (addition name T more) i (absent ps) step = additions_trim more (suc i) ps step
additions_trim (addition name T more) i (present v ps) step = head_trims (same_step (to_addition i) step) must T v _ _ (additions_trim more (suc i) ps step)

raw_trims : (t : Bool) (w : List ℕ) (f : Child) → f ≡ trim_child f → (if t then untyped w else f) ≡ trim_child (if t then untyped w else f)
raw_trims true w f e = refl
raw_trims false w f e = e

unknown_trims : (us : List Unknown) (step : Step) → child_in step (unknown_pieces us) ≡ trim_child (child_in step (unknown_pieces us))
unknown_trims [] step = refl
unknown_trims (unknown place w ∷ us) step = raw_trims (same_step (to_addition place) step) w _ (unknown_trims us step)

items_trim : (T : AsnType) (i : ℕ) (vs : Values) (step : Step) → child_in step (item_pieces T i (map_values (trimmed T) vs)) ≡ trim_child (child_in step (item_pieces T i vs))
items_trim T i no_values step = refl
items_trim T i (value v vs) step = head_trims (same_step (to_item i) step) must T v _ _ (items_trim T (suc i) vs step)

tag_trims : (same : Bool) (T : AsnType) (f : AsnValue → List Piece) (g : AsnValue → AsnValue) (x : AsnValue) (step : Step) → child_in step (f (g x)) ≡ trim_child (child_in step (f x)) → child_in step (pieces_by_tag same T f (filled_by_tag same (trimmed T) g x)) ≡ trim_child (child_in step (pieces_by_tag same T f x))
tag_trims true T f g x step e = head_trims (same_step to_chosen step) must T x nothing_there nothing_there refl
tag_trims false T f g x step e = e

alternatives_trim : (more : Alternatives) (t : Tag) (x : AsnValue) (step : Step) → child_in step (alternative_pieces more t (trimmed_alternative more t x)) ≡ trim_child (child_in step (alternative_pieces more t x))
alternatives_trim no_alternatives t x step = refl
alternatives_trim (alternative name u T more) t x step = tag_trims (same_tag u t) T (alternative_pieces more t) (trimmed_alternative more t) x step (alternatives_trim more t x step)
alternatives_trim (later name u T more) t x step = tag_trims (same_tag u t) T (alternative_pieces more t) (trimmed_alternative more t) x step (alternatives_trim more t x step)

-- of joined pieces the first
abbrev or_else : Child → Child → Child
or_else (typed need T v) c = typed need T v
or_else (untyped w) c = untyped w
or_else nothing_there c = c

child_join : (ps qs : List Piece) (step : Step) → child_in step (ps ++ qs) ≡ or_else (child_in step ps) (child_in step qs)
child_join [] qs step = refl
child_join (piece other need T v ∷ ps) qs step = by_step (same_step other step) (child_join ps qs step)
  where
    by_step : (t : Bool) → child_in step (ps ++ qs) ≡ or_else (child_in step ps) (child_in step qs) → (if t then typed need T v else child_in step (ps ++ qs)) ≡ or_else (if t then typed need T v else child_in step ps) (child_in step qs)
    by_step true e = refl
    by_step false e = e
child_join (raw other w ∷ ps) qs step = by_step (same_step other step) (child_join ps qs step)
  where
    by_step : (t : Bool) → child_in step (ps ++ qs) ≡ or_else (child_in step ps) (child_in step qs) → (if t then untyped w else child_in step (ps ++ qs)) ≡ or_else (if t then untyped w else child_in step ps) (child_in step qs)
    by_step true e = refl
    by_step false e = e

or_nothing : (c : Child) → or_else c nothing_there ≡ c
or_nothing (typed need T v) = refl
or_nothing (untyped w) = refl
or_nothing nothing_there = refl

no_addition : (more : Additions) (i : ℕ) (ps : Places) (k : ℕ) → child_in (to_component k) (addition_pieces more i ps) ≡ nothing_there
no_addition no_additions i ps k = refl
no_addition (addition name T more) i no_places k = refl
no_addition (addition name T more) i (absent ps) k = no_addition more (suc i) ps k
no_addition (addition name T more) i (present v ps) k = no_addition more (suc i) ps k

no_unknown : (us : List Unknown) (k : ℕ) → child_in (to_component k) (unknown_pieces us) ≡ nothing_there
no_unknown [] k = refl
no_unknown (unknown place w ∷ us) k = no_unknown us k

abbrev IsElsewhere : Step → Type 0
IsElsewhere (to_component k) = ⊥
IsElsewhere _ = Unit {0}

no_component : (fs : Fields) (i : ℕ) (ps : Places) (step : Step) → IsElsewhere step → child_in step (field_pieces fs i ps) ≡ nothing_there
no_component no_fields i ps step e = refl
no_component (field name need T fs) i no_places step e = refl
no_component (field name need T fs) i (absent ps) step e = no_component fs (suc i) ps step e
no_component (field name need T fs) i (present v ps) (to_component k) e = absurd e
no_component (field name need T fs) i (present v ps) (to_addition k) e = no_component fs (suc i) ps (to_addition k) e
no_component (field name need T fs) i (present v ps) (to_item k) e = no_component fs (suc i) ps (to_item k) e
no_component (field name need T fs) i (present v ps) to_chosen e = no_component fs (suc i) ps to_chosen e

-- what is added to a root
abbrev added_pieces : Additions → Places → List Unknown → List Piece
added_pieces more added us = addition_pieces more 0 added ++ unknown_pieces us

in_root : (fs : Fields) (root : Places) (more : Additions) (added : Places) (us : List Unknown) (k : ℕ) → child_in (to_component k) (field_pieces fs 0 root ++ added_pieces more added us) ≡ child_in (to_component k) (field_pieces fs 0 root)
in_root fs root more added us k =
    child_join (field_pieces fs 0 root) (added_pieces more added us) (to_component k)
    ∙ ap (or_else (child_in (to_component k) (field_pieces fs 0 root))) (child_join (addition_pieces more 0 added) (unknown_pieces us) (to_component k) ∙ ap₂ or_else (no_addition more 0 added k) (no_unknown us k))
    ∙ or_nothing (child_in (to_component k) (field_pieces fs 0 root))

in_added : (fs : Fields) (root : Places) (more : Additions) (added : Places) (us : List Unknown) (step : Step) → IsElsewhere step → child_in step (field_pieces fs 0 root ++ added_pieces more added us) ≡ or_else (child_in step (addition_pieces more 0 added)) (child_in step (unknown_pieces us))
in_added fs root more added us step e = child_join (field_pieces fs 0 root) (added_pieces more added us) step ∙ ap (λ c. or_else c (child_in step (added_pieces more added us))) (no_component fs 0 root step e) ∙ child_join (addition_pieces more 0 added) (unknown_pieces us) step

or_trims : (f g : Child) → g ≡ trim_child g → or_else (trim_child f) g ≡ trim_child (or_else f g)
or_trims (typed need T v) g e = refl
or_trims (untyped w) g e = refl
or_trims nothing_there g e = e

added_follow : (fs : Fields) (more : Additions) (root added : Places) (us : List Unknown) (step : Step) → IsElsewhere step
    → Follows (child_in step (field_pieces fs 0 root ++ added_pieces more added us)) (child_in step (field_pieces fs 0 (trimmed_fields fs root) ++ added_pieces more (trimmed_additions more added) us))
added_follow fs more root added us step e = inl (
    in_added fs (trimmed_fields fs root) more (trimmed_additions more added) us step e ∙ ap (λ c. or_else c (child_in step (unknown_pieces us))) (additions_trim more 0 added step)
    ∙ or_trims (child_in step (addition_pieces more 0 added)) (child_in step (unknown_pieces us)) (unknown_trims us step) ∙ ap trim_child (sym (in_added fs root more added us step e)))

extended_follow : (fs : Fields) (more : Additions) (root added : Places) (us : List Unknown) (step : Step)
    → Follows (child_in step (field_pieces fs 0 root ++ added_pieces more added us)) (child_in step (field_pieces fs 0 (trimmed_fields fs root) ++ added_pieces more (trimmed_additions more added) us))
extended_follow fs more root added us (to_component k) = subst (λ f. Follows f (child_in (to_component k) (field_pieces fs 0 (trimmed_fields fs root) ++ added_pieces more (trimmed_additions more added) us))) (sym (in_root fs root more added us k))
    (subst (Follows (child_in (to_component k) (field_pieces fs 0 root))) (sym (in_root fs (trimmed_fields fs root) more (trimmed_additions more added) us k)) (fields_follow fs 0 root (to_component k)))
extended_follow fs more root added us (to_addition k) = added_follow fs more root added us (to_addition k) tt
extended_follow fs more root added us (to_item k) = added_follow fs more root added us (to_item k) tt
extended_follow fs more root added us to_chosen = added_follow fs more root added us to_chosen tt

follows : (T : AsnType) (v : AsnValue) (step : Step) → Follows (child_in step (pieces T v)) (child_in step (pieces T (trimmed T v)))
follows (sequence fs) (seq root added us) step = fields_follow fs 0 root step
follows (sequence fs) _ step = inl refl
follows (extensible_sequence fs more) (seq root added us) step = extended_follow fs more root added us step
follows (extensible_sequence fs more) _ step = inl refl
follows (sequence_of size T) (items vs) step = inl (items_trim T 0 vs step)
follows (sequence_of size T) _ step = inl refl
follows (choice extensible more) (chosen t x) step = inl (alternatives_trim more t x step)
follows (choice extensible more) (foreign t w) step = inl (raw_trims (same_step to_chosen step) w nothing_there refl)
follows (choice extensible more) _ step = inl refl
follows (leaf kind) v step = inl refl

child_down : (P P' : AsnType → AsnValue → Type 0) (Q : List ℕ → Type 0) → ((T : AsnType) (v : AsnValue) → P T (trimmed T v) → P' T v) → (f g : Child) → Follows f g → ByChild g P Q → ByChild f P' Q
child_down P P' Q next f g (inl e) x = by_child f (subst (λ g. ByChild g P Q) e x)
  where
    by_child : (f : Child) → ByChild (trim_child f) P Q → ByChild f P' Q
    by_child (typed need T v) x = next T v x
    by_child (untyped w) x = x
    by_child nothing_there x = x
child_down P P' Q next f g (inr (d, e)) x = absurd (subst (λ g. ByChild g P Q) e x)

-- what is unknown in the trimmed value is so in the value
unknown_down : (path : List Step) (T : AsnType) (v : AsnValue) (s : List ℕ) → UnknownAt T (trimmed T v) path s → UnknownAt T v path s
unknown_down [] T v s x = x
unknown_down (step ∷ path) T v s x = child_down (λ U x. UnknownAt U x path s) (λ U x. UnknownAt U x path s) (IsEnd path s) (λ U x. unknown_down path U x s) (child_in step (pieces T v)) (child_in step (pieces T (trimmed T v))) (follows T v step) x

-- the path enters a component that equals its default
abbrev DefaultAt : AsnType → AsnValue → List Step → Type 0
DefaultAt T v [] = ⊥
DefaultAt T v (step ∷ path) = IsDefault (child_in step (pieces T v)) ⊎ ByChild (child_in step (pieces T v)) (λ U x. DefaultAt U x path) (λ w. ⊥)

child_up : (P D : AsnType → AsnValue → Type 0) (Q : List ℕ → Type 0) → ((T : AsnType) (v : AsnValue) → P T v → P T (trimmed T v) ⊎ D T v) → (f g : Child) → Follows f g → ByChild f P Q → ByChild g P Q ⊎ (IsDefault f ⊎ ByChild f D (λ w. ⊥))
child_up P D Q next f g (inl e) x = ⊎_elim (λ y. inl (subst (λ g. ByChild g P Q) (sym e) y)) (λ y. inr (inr y)) (by_child f x)
  where
    by_child : (f : Child) → ByChild f P Q → ByChild (trim_child f) P Q ⊎ ByChild f D (λ w. ⊥)
    by_child (typed need T v) x = next T v x
    by_child (untyped w) x = inl x
    by_child nothing_there x = inl x
child_up P D Q next f g (inr (d, e)) x = inr (inl d)

unknown_up : (path : List Step) (T : AsnType) (v : AsnValue) (s : List ℕ) → UnknownAt T v path s → UnknownAt T (trimmed T v) path s ⊎ DefaultAt T v path
unknown_up [] T v s x = absurd x
unknown_up (step ∷ path) T v s x = child_up (λ U x. UnknownAt U x path s) (λ U x. DefaultAt U x path) (IsEnd path s) (λ U x. unknown_up path U x s) (child_in step (pieces T v)) (child_in step (pieces T (trimmed T v))) (follows T v step) x

-- the need of a component
abbrev NeedIs : Need → Child → Type 0
NeedIs need (typed other T v) = need ≡ other
NeedIs need (untyped w) = Unit {0}
NeedIs need nothing_there = Unit {0}

eqb-more : (i n : ℕ) → i < n → eqb i n ≡ false
eqb-more i n l = by_test (eqb i n) refl
  where
    by_test : (t : Bool) → eqb i n ≡ t → eqb i n ≡ false
    by_test true e = absurd (let same : i ≡ n = eqb-true i n e in omega arith)
    by_test false e = e

fields_need : (fs : Fields) (i : ℕ) (ps : Places) (k : ℕ) → NeedIs (need_of fs k) (child_in (to_component (i + k)) (field_pieces fs i ps))
fields_need no_fields i ps k = tt
fields_need (field name need T fs) i no_places k = tt
fields_need (field name need T fs) i (absent ps) zero = subst (NeedIs need) (sym (none_before fs (suc i) ps (i + 0) (omega arith))) tt
fields_need (field name need T fs) i (absent ps) (suc k) = subst (λ n. NeedIs (need_of fs k) (child_in (to_component n) (field_pieces fs (suc i) ps))) (let e : suc i + k ≡ i + suc k = omega arith in e) (fields_need fs (suc i) ps k)
fields_need (field name need T fs) i (present v ps) zero = subst (λ (t : Bool). NeedIs need (if t then typed need T v else child_in (to_component (i + 0)) (field_pieces fs (suc i) ps))) (sym (eq-eqb i (i + 0) (omega arith))) refl
fields_need (field name need T fs) i (present v ps) (suc k) = subst (λ (t : Bool). NeedIs (need_of fs k) (if t then typed need T v else child_in (to_component (i + suc k)) (field_pieces fs (suc i) ps))) (sym (eqb-more i (i + suc k) (omega arith)))
    (subst (λ n. NeedIs (need_of fs k) (child_in (to_component n) (field_pieces fs (suc i) ps))) (let e : suc i + k ≡ i + suc k = omega arith in e) (fields_need fs (suc i) ps k))

root_need : (fs : Fields) (ps : Places) (k : ℕ) → NeedIs (need_of fs k) (child_in (to_component k) (field_pieces fs 0 ps))
root_need fs ps k = subst (λ n. NeedIs (need_of fs k) (child_in (to_component n) (field_pieces fs 0 ps))) (let e : 0 + k ≡ k = omega arith in e) (fields_need fs 0 ps k)

head_need : (t : Bool) (T : AsnType) (v : AsnValue) (f : Child) → NeedIs must f → NeedIs must (if t then typed must T v else f)
head_need true T v f x = refl
head_need false T v f x = x

additions_must : (more : Additions) (i : ℕ) (ps : Places) (step : Step) → NeedIs must (child_in step (addition_pieces more i ps))
additions_must no_additions i ps step = tt
additions_must (addition name T more) i no_places step = tt
additions_must (addition name T more) i (absent ps) step = additions_must more (suc i) ps step
additions_must (addition name T more) i (present v ps) step = head_need (same_step (to_addition i) step) T v _ (additions_must more (suc i) ps step)

raw_must : (t : Bool) (w : List ℕ) (f : Child) → NeedIs must f → NeedIs must (if t then untyped w else f)
raw_must true w f x = tt
raw_must false w f x = x

unknown_must : (us : List Unknown) (step : Step) → NeedIs must (child_in step (unknown_pieces us))
unknown_must [] step = tt
unknown_must (unknown place w ∷ us) step = raw_must (same_step (to_addition place) step) w _ (unknown_must us step)

items_must : (T : AsnType) (i : ℕ) (vs : Values) (step : Step) → NeedIs must (child_in step (item_pieces T i vs))
items_must T i no_values step = tt
items_must T i (value v vs) step = head_need (same_step (to_item i) step) T v _ (items_must T (suc i) vs step)

tag_must : (same : Bool) (T : AsnType) (f : AsnValue → List Piece) (x : AsnValue) (step : Step) → NeedIs must (child_in step (f x)) → NeedIs must (child_in step (pieces_by_tag same T f x))
tag_must true T f x step e = head_need (same_step to_chosen step) T x nothing_there tt
tag_must false T f x step e = e

alternatives_must : (more : Alternatives) (t : Tag) (x : AsnValue) (step : Step) → NeedIs must (child_in step (alternative_pieces more t x))
alternatives_must no_alternatives t x step = tt
alternatives_must (alternative name u T more) t x step = tag_must (same_tag u t) T (alternative_pieces more t) x step (alternatives_must more t x step)
alternatives_must (later name u T more) t x step = tag_must (same_tag u t) T (alternative_pieces more t) x step (alternatives_must more t x step)

or_must : (f g : Child) → NeedIs must f → NeedIs must g → NeedIs must (or_else f g)
or_must (typed need T v) g x y = x
or_must (untyped w) g x y = tt
or_must nothing_there g x y = y

added_need : (fs : Fields) (more : Additions) (root added : Places) (us : List Unknown) (step : Step) → IsElsewhere step → NeedIs must (child_in step (field_pieces fs 0 root ++ added_pieces more added us))
added_need fs more root added us step e = subst (NeedIs must) (sym (in_added fs root more added us step e)) (or_must (child_in step (addition_pieces more 0 added)) (child_in step (unknown_pieces us)) (additions_must more 0 added step) (unknown_must us step))

nowhere_need : (fs : Fields) (root : Places) (step : Step) → IsElsewhere step → NeedIs must (child_in step (field_pieces fs 0 root))
nowhere_need fs root step e = subst (NeedIs must) (sym (no_component fs 0 root step e)) tt

need_is : (T : AsnType) (v : AsnValue) (step : Step) → NeedIs (need_at T step) (child_in step (pieces T v))
need_is (sequence fs) (seq root added us) (to_component k) = root_need fs root k
need_is (sequence fs) (seq root added us) (to_addition k) = nowhere_need fs root (to_addition k) tt
need_is (sequence fs) (seq root added us) (to_item k) = nowhere_need fs root (to_item k) tt
need_is (sequence fs) (seq root added us) to_chosen = nowhere_need fs root to_chosen tt
need_is (sequence fs) _ step = tt
need_is (extensible_sequence fs more) (seq root added us) (to_component k) = subst (NeedIs (need_of fs k)) (sym (in_root fs root more added us k)) (root_need fs root k)
need_is (extensible_sequence fs more) (seq root added us) (to_addition k) = added_need fs more root added us (to_addition k) tt
need_is (extensible_sequence fs more) (seq root added us) (to_item k) = added_need fs more root added us (to_item k) tt
need_is (extensible_sequence fs more) (seq root added us) to_chosen = added_need fs more root added us to_chosen tt
need_is (extensible_sequence fs more) _ step = tt
need_is (sequence_of size T) (items vs) step = items_must T 0 vs step
need_is (sequence_of size T) _ step = tt
need_is (choice extensible more) (chosen t x) step = alternatives_must more t x step
need_is (choice extensible more) (foreign t w) step = raw_must (same_step to_chosen step) w nothing_there tt
need_is (choice extensible more) _ step = tt
need_is (leaf kind) v step = tt

enters : (path : List Step) (T : AsnType) → KeepsLimits T → DefaultsFit T → (v : AsnValue) (b : List ℕ) → IsSpelling T v b → DefaultAt T v path → EntersDefault T b path
enters [] T w d v b x e = absurd e
enters (step ∷ path) T w d v b x e =
    let o = splits T v b x in
    by_child o.0 o.1 (enters path) (child_in step (pieces T v)) (led (pieces T v) o.0 o.2 step) (child_kept step (pieces T v) (kept T w d v)) (need_is T v step) e
  where
    by_child : (parts : List Part) → IsSplit T parts b → ((T : AsnType) → KeepsLimits T → DefaultsFit T → (v : AsnValue) (b : List ℕ) → IsSpelling T v b → DefaultAt T v path → EntersDefault T b path)
        → (c : Child) → Led c (λ o. lookup o step parts) → KeptChild c → NeedIs (need_at T step) c → IsDefault c ⊎ ByChild c (λ U x. DefaultAt U x path) (λ w. ⊥) → EntersDefault T b (step ∷ path)
    by_child parts t next (typed must U y) (c, l, z) k n (inl e) = absurd e
    by_child parts t next (typed may U y) (c, l, z) k n (inl e) = absurd e
    by_child parts t next (typed (default f) U y) (c, l, z) k n (inl e) = (U, c, (parts, t, l no_such_step), inl (f, y, n, z, e))
    by_child parts t next (untyped u) l k n (inl e) = absurd e
    by_child parts t next nothing_there l k n (inl e) = absurd e
    by_child parts t next (typed need U y) (c, l, z) k n (inr e) = (U, c, (parts, t, l no_such_step), inr (next U k.0 k.1 y c z e))
    by_child parts t next (untyped u) l k n (inr e) = absurd e
    by_child parts t next nothing_there l k n (inr e) = absurd e

pub keeps_unknown : KeepsUnknown
keeps_unknown T w d v b c x (f, z, same, (o, g, strict)) path s =
    let trims : z ≡ trimmed T v = sym (value_plain T z c strict).0 ∙ trims_from_fills T z v same in
    let spelt : IsSpelling T (trimmed T v) c = subst (λ z. IsSpelling T z c) trims (strict_within T z c strict) in
    let read = unknown_is path T w d v b x.2 s in
    let written = unknown_is path T w d (trimmed T v) c spelt s in (
      λ e. read.1 (unknown_down path T v s (written.0 e)),
      λ e. ⊎_elim (λ u. inl (written.1 u)) (λ u. inr (enters path T w d v b x.2 u)) (unknown_up path T v s (read.0 e)),
    )
