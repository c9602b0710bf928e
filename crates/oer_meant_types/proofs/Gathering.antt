-- What is gathered of components or alternatives, one behind the other, is the type of these.
use Rattle.std.proofs.Common.{◌≡◌, ◌∙◌, ℕ, List, [], ◌∷◌, ◌++◌, Bool, true, false, Option, Some, None, if◌then◌else◌, refl, sym, ap}
use Rattle.std.proofs.lemmas.List.{append_assoc, append-nil}
use Rattle.oer_model.specs.AsnType.{AsnType, Need, Alternatives, addition, alternative, choice, extensible_sequence, field, later}
use Rattle.oer_model.specs.AsnType.{no_alternatives, sequence}
use Rattle.oer_module_types.specs.Gathered.{Gathered, choice_in, empty, sequence_in, with_addition, with_alternative, with_component, with_field, with_later}
use Rattle.oer_module_types.specs.Gathered.{with_marker, with_part, with_root}
use Rattle.oer_units.specs.declared.tagging.Tag.{Tag}
use Rattle.oer_values.specs.ShapeView.{SeenAddition, SeenAlternative, SeenField, additions_from, fields_from, later_from, root_from}
use Rattle.oer_meant_types.specs.Types.{Typed, additions_of, choice_with, fields_of, later_of, root_of, sequence_with}

-- the first tag, and those behind it
abbrev pub first_of : List Tag → Option Tag
first_of [] = None
first_of (t ∷ ts) = Some t

abbrev pub rest_of : List Tag → List Tag
rest_of [] = []
rest_of (t ∷ ts) = ts

-- one more, where it is said of itself whether it stands behind the marker
abbrev pub put_one : Option Tag → Typed → Gathered → Gathered
put_one None c g =
    if c.added then with_addition (record { name = c.name; type = c.type }) g
    else with_field (record { name = c.name; need = c.need; type = c.type }) g
put_one (Some t) c g =
    if c.added then with_later (record { name = c.name; tag = t; type = c.type }) g
    else with_root (record { name = c.name; tag = t; type = c.type }) g

abbrev pub put_all : List Typed → List Tag → Gathered → Gathered
put_all [] ts g = g
put_all (c ∷ cs) ts g = put_all cs (rest_of ts) (put_one (first_of ts) c g)

abbrev pub flagged : Bool → Gathered → Gathered
flagged marked g = if marked then with_marker g else g

abbrev pub typed : Bool → List ℕ → Need → AsnType → Typed
typed added name need T = record { added = added; name = name; need = need; type = T }

pub part_put : (t : Option Tag) (added : Bool) (name : List ℕ) (need : Need) (T : AsnType) (g : Gathered) → g.marked ≡ added
    → with_part t name need T g ≡ put_one t (typed added name need T) g
unfolding with_part with_component with_alternative
part_put None added name need T g e = ap (λ b. if b then with_addition (record { name = name; type = T }) g
    else with_field (record { name = name; need = need; type = T }) g) e
part_put (Some t) added name need T g e = ap (λ b. if b then with_later (record { name = name; tag = t; type = T }) g
    else with_root (record { name = name; tag = t; type = T }) g) e

-- the marker is kept
by_added : (b : Bool) (g h k : Gathered) → h.marked ≡ k.marked → g.marked ≡ k.marked → (if b then g else h).marked ≡ k.marked
by_added true g h k e f = f
by_added false g h k e f = e

pub one_marked : (t : Option Tag) (c : Typed) (g : Gathered) → (put_one t c g).marked ≡ g.marked
one_marked None c g = by_added c.added _ _ g refl refl
one_marked (Some t) c g = by_added c.added _ _ g refl refl

flag_one : (b : Bool) (marked : Bool) (g h : Gathered → Gathered) (k : Gathered) → g (flagged marked k) ≡ flagged marked (g k)
    → h (flagged marked k) ≡ flagged marked (h k) → (if b then g (flagged marked k) else h (flagged marked k)) ≡ flagged marked (if b then g k else h k)
flag_one true marked g h k e f = e
flag_one false marked g h k e f = f

-- the marker may come before what is put in
pub flag_moves : (t : Option Tag) (c : Typed) (marked : Bool) (g : Gathered) → put_one t c (flagged marked g) ≡ flagged marked (put_one t c g)
unfolding with_marker
flag_moves None c true g = flag_one c.added true (with_addition _) (with_field _) g refl refl
flag_moves None c false g = refl
flag_moves (Some t) c true g = flag_one c.added true (with_later _) (with_root _) g refl refl
flag_moves (Some t) c false g = refl

pub all_marked : (cs : List Typed) (ts : List Tag) (g : Gathered) → (put_all cs ts g).marked ≡ g.marked
all_marked [] ts g = refl
all_marked (c ∷ cs) ts g = all_marked cs (rest_of ts) (put_one (first_of ts) c g) ∙ one_marked (first_of ts) c g

-- ---- components

abbrev seen_fields : List Typed → List SeenField
seen_fields [] = []
seen_fields (c ∷ cs) = if c.added then seen_fields cs else record { name = c.name; need = c.need; type = c.type } ∷ seen_fields cs

abbrev seen_additions : List Typed → List SeenAddition
seen_additions [] = []
seen_additions (c ∷ cs) = if c.added then record { name = c.name; type = c.type } ∷ seen_additions cs else seen_additions cs

fields_more : (added : Bool) (w : List ℕ) (need : Need) (T : AsnType) (cs : List Typed) (g : Gathered)
    → ((h : Gathered) → (put_all cs [] h).fields ≡ h.fields ++ seen_fields cs)
    → (put_all (typed added w need T ∷ cs) [] g).fields ≡ g.fields ++ seen_fields (typed added w need T ∷ cs)
fields_more true w need T cs g rest = rest (with_addition _ g)
fields_more false w need T cs g rest = rest (with_field _ g) ∙ append_assoc g.fields (record { name = w; need = need; type = T } ∷ []) (seen_fields cs)

fields_all : (cs : List Typed) (g : Gathered) → (put_all cs [] g).fields ≡ g.fields ++ seen_fields cs
fields_all [] g = sym (append-nil g.fields)
fields_all (c ∷ cs) g = fields_more c.added c.name c.need c.type cs g (fields_all cs)

additions_more : (added : Bool) (w : List ℕ) (need : Need) (T : AsnType) (cs : List Typed) (g : Gathered)
    → ((h : Gathered) → (put_all cs [] h).additions ≡ h.additions ++ seen_additions cs)
    → (put_all (typed added w need T ∷ cs) [] g).additions ≡ g.additions ++ seen_additions (typed added w need T ∷ cs)
additions_more true w need T cs g rest = rest (with_addition _ g) ∙ append_assoc g.additions (record { name = w; type = T } ∷ []) (seen_additions cs)
additions_more false w need T cs g rest = rest (with_field _ g)

additions_all : (cs : List Typed) (g : Gathered) → (put_all cs [] g).additions ≡ g.additions ++ seen_additions cs
additions_all [] g = sym (append-nil g.additions)
additions_all (c ∷ cs) g = additions_more c.added c.name c.need c.type cs g (additions_all cs)

field_same : (added : Bool) (w : List ℕ) (need : Need) (T : AsnType) (cs : List Typed) → fields_from (seen_fields cs) ≡ fields_of cs
    → fields_from (seen_fields (typed added w need T ∷ cs)) ≡ fields_of (typed added w need T ∷ cs)
field_same true w need T cs e = e
field_same false w need T cs e = ap (field w need T) e

fields_same : (cs : List Typed) → fields_from (seen_fields cs) ≡ fields_of cs
fields_same [] = refl
fields_same (c ∷ cs) = field_same c.added c.name c.need c.type cs (fields_same cs)

addition_same : (added : Bool) (w : List ℕ) (need : Need) (T : AsnType) (cs : List Typed) → additions_from (seen_additions cs) ≡ additions_of cs
    → additions_from (seen_additions (typed added w need T ∷ cs)) ≡ additions_of (typed added w need T ∷ cs)
addition_same true w need T cs e = ap (addition w T) e
addition_same false w need T cs e = e

additions_same : (cs : List Typed) → additions_from (seen_additions cs) ≡ additions_of cs
additions_same [] = refl
additions_same (c ∷ cs) = addition_same c.added c.name c.need c.type cs (additions_same cs)

sequence_by : (g : Gathered) (b : Bool) (fs : List SeenField) (more : List SeenAddition) → g.marked ≡ b → g.fields ≡ fs → g.additions ≡ more
    → sequence_in g ≡ (if b then extensible_sequence (fields_from fs) (additions_from more) else sequence (fields_from fs))
unfolding sequence_in
sequence_by g b fs more e f h = rw (e, f, h) refl

pub sequence_put : (marked : Bool) (cs : List Typed) → sequence_in (put_all cs [] (flagged marked empty)) ≡ sequence_with marked cs
unfolding with_marker empty
sequence_put true cs =
    sequence_by (put_all cs [] (flagged true empty)) true (seen_fields cs) (seen_additions cs) (all_marked cs [] (flagged true empty))
    (fields_all cs (flagged true empty)) (additions_all cs (flagged true empty))
    ∙ ap (λ fs. extensible_sequence fs (additions_from (seen_additions cs))) (fields_same cs) ∙ ap (extensible_sequence (fields_of cs)) (additions_same cs)
sequence_put false cs =
    sequence_by (put_all cs [] (flagged false empty)) false (seen_fields cs) (seen_additions cs) (all_marked cs [] (flagged false empty))
    (fields_all cs (flagged false empty)) (additions_all cs (flagged false empty)) ∙ ap sequence (fields_same cs)

-- ---- alternatives

abbrev seen_root : List Typed → List Tag → List SeenAlternative
seen_root (c ∷ cs) (t ∷ ts) = if c.added then seen_root cs ts else record { name = c.name; tag = t; type = c.type } ∷ seen_root cs ts
seen_root cs ts = []

abbrev seen_later : List Typed → List Tag → List SeenAlternative
seen_later (c ∷ cs) (t ∷ ts) = if c.added then record { name = c.name; tag = t; type = c.type } ∷ seen_later cs ts else seen_later cs ts
seen_later cs ts = []

-- without a tag there is no alternative
one_untagged : (added : Bool) (w : List ℕ) (need : Need) (T : AsnType) (g : Gathered)
    → ((put_one None (typed added w need T) g).alternatives ≡ g.alternatives) × ((put_one None (typed added w need T) g).later ≡ g.later)
one_untagged true w need T g = (refl, refl)
one_untagged false w need T g = (refl, refl)

none_tagged : (cs : List Typed) (g : Gathered) → ((put_all cs [] g).alternatives ≡ g.alternatives) × ((put_all cs [] g).later ≡ g.later)
none_tagged [] g = (refl, refl)
none_tagged (c ∷ cs) g =
    let here = one_untagged c.added c.name c.need c.type g in
    let rest = none_tagged cs (put_one None c g) in
    (rest.0 ∙ here.0, rest.1 ∙ here.1)

root_more : (added : Bool) (w : List ℕ) (need : Need) (T : AsnType) (t : Tag) (cs : List Typed) (ts : List Tag) (g : Gathered)
    → ((h : Gathered) → (put_all cs ts h).alternatives ≡ h.alternatives ++ seen_root cs ts)
    → (put_all (typed added w need T ∷ cs) (t ∷ ts) g).alternatives ≡ g.alternatives ++ seen_root (typed added w need T ∷ cs) (t ∷ ts)
root_more true w need T t cs ts g rest = rest (with_later _ g)
root_more false w need T t cs ts g rest =
    rest (with_root _ g) ∙ append_assoc g.alternatives (record { name = w; tag = t; type = T } ∷ []) (seen_root cs ts)

root_all : (cs : List Typed) (ts : List Tag) (g : Gathered) → (put_all cs ts g).alternatives ≡ g.alternatives ++ seen_root cs ts
root_all [] ts g = sym (append-nil g.alternatives)
root_all (c ∷ cs) [] g = (none_tagged (c ∷ cs) g).0 ∙ sym (append-nil g.alternatives)
root_all (c ∷ cs) (t ∷ ts) g = root_more c.added c.name c.need c.type t cs ts g (root_all cs ts)

later_more : (added : Bool) (w : List ℕ) (need : Need) (T : AsnType) (t : Tag) (cs : List Typed) (ts : List Tag) (g : Gathered)
    → ((h : Gathered) → (put_all cs ts h).later ≡ h.later ++ seen_later cs ts)
    → (put_all (typed added w need T ∷ cs) (t ∷ ts) g).later ≡ g.later ++ seen_later (typed added w need T ∷ cs) (t ∷ ts)
later_more true w need T t cs ts g rest = rest (with_later _ g) ∙ append_assoc g.later (record { name = w; tag = t; type = T } ∷ []) (seen_later cs ts)
later_more false w need T t cs ts g rest = rest (with_root _ g)

later_all : (cs : List Typed) (ts : List Tag) (g : Gathered) → (put_all cs ts g).later ≡ g.later ++ seen_later cs ts
later_all [] ts g = sym (append-nil g.later)
later_all (c ∷ cs) [] g = (none_tagged (c ∷ cs) g).1 ∙ sym (append-nil g.later)
later_all (c ∷ cs) (t ∷ ts) g = later_more c.added c.name c.need c.type t cs ts g (later_all cs ts)

one_root : (added : Bool) (w : List ℕ) (need : Need) (T : AsnType) (t : Tag) (cs : List Typed) (ts : List Tag) (more : Alternatives)
    → root_from (seen_root cs ts) more ≡ root_of cs ts more
    → root_from (seen_root (typed added w need T ∷ cs) (t ∷ ts)) more ≡ root_of (typed added w need T ∷ cs) (t ∷ ts) more
one_root true w need T t cs ts more e = e
one_root false w need T t cs ts more e = ap (alternative w t T) e

roots_same : (cs : List Typed) (ts : List Tag) (more : Alternatives) → root_from (seen_root cs ts) more ≡ root_of cs ts more
roots_same [] ts more = refl
roots_same (c ∷ cs) [] more = refl
roots_same (c ∷ cs) (t ∷ ts) more = one_root c.added c.name c.need c.type t cs ts more (roots_same cs ts more)

one_later : (added : Bool) (w : List ℕ) (need : Need) (T : AsnType) (t : Tag) (cs : List Typed) (ts : List Tag)
    → later_from (seen_later cs ts) ≡ later_of cs ts
    → later_from (seen_later (typed added w need T ∷ cs) (t ∷ ts)) ≡ later_of (typed added w need T ∷ cs) (t ∷ ts)
one_later true w need T t cs ts e = ap (later w t T) e
one_later false w need T t cs ts e = e

laters_same : (cs : List Typed) (ts : List Tag) → later_from (seen_later cs ts) ≡ later_of cs ts
laters_same [] ts = refl
laters_same (c ∷ cs) [] = refl
laters_same (c ∷ cs) (t ∷ ts) = one_later c.added c.name c.need c.type t cs ts (laters_same cs ts)

choice_by : (g : Gathered) (b : Bool) (root more : List SeenAlternative) → g.marked ≡ b → g.alternatives ≡ root → g.later ≡ more
    → choice_in g ≡ (if b then choice true (root_from root (later_from more)) else choice false (root_from root no_alternatives))
unfolding choice_in
choice_by g b root more e f h = rw (e, f, h) refl

pub choice_put : (marked : Bool) (cs : List Typed) (ts : List Tag) → choice_in (put_all cs ts (flagged marked empty)) ≡ choice_with marked cs ts
unfolding with_marker empty
choice_put true cs ts =
    choice_by (put_all cs ts (flagged true empty)) true (seen_root cs ts) (seen_later cs ts) (all_marked cs ts (flagged true empty))
    (root_all cs ts (flagged true empty)) (later_all cs ts (flagged true empty))
    ∙ ap (λ more. choice true (root_from (seen_root cs ts) more)) (laters_same cs ts) ∙ ap (choice true) (roots_same cs ts (later_of cs ts))
choice_put false cs ts =
    choice_by (put_all cs ts (flagged false empty)) false (seen_root cs ts) (seen_later cs ts) (all_marked cs ts (flagged false empty))
    (root_all cs ts (flagged false empty)) (later_all cs ts (flagged false empty)) ∙ ap (choice false) (roots_same cs ts no_alternatives)

-- those of a part and then those of others
pub put_append : (cs ds : List Typed) (g : Gathered) → put_all (cs ++ ds) [] g ≡ put_all ds [] (put_all cs [] g)
put_append [] ds g = refl
put_append (c ∷ cs) ds g = put_append cs ds (put_one None c g)
