-- Where the way ends, no part is rejected with the fault.
use Rattle.std.proofs.Common.{◌≡◌, ◌∙◌, ℕ, zero, suc, ◌<◌, ◌≤◌, ◌⊎◌, max, List, Bool, true, false, cond, Option, Some, None, Err, inl, inr, refl, sym, subst, ap, arith}
use Rattle.std.specs.Str.{bytes_eq}
use Rattle.serde_json.specs.Data as json
use Rattle.serde_json.specs.Data.{Data, Items, Members}
use Rattle.serde_json.specs.Find.{get_item, get_member}
use Rattle.oer_model.specs.AsnType.{Additions, Alternatives, AsnType, Fields, addition, alternative, choice, extensible_sequence, field, later, leaf, no_additions, no_alternatives, no_fields, sequence, sequence_of}
use Rattle.oer_model.specs.FitTest.{may_be_absent}
use Rattle.oer_model.specs.Limits.{max_depth}
use Rattle.oer_model.specs.WellFormed.{IsWellFormed, addition_names, additions_depth, alternatives_depth, depth, field_names, fields_depth}
use Rattle.oer_model.specs.declared.fault.SchemaFault.TheVariants.{TooDeep}
use Rattle.oer_json.specs.Keys.{is_among, keys_of}
use Rattle.oer_json.specs.Take.{is_key, one_member, taken}
use Rattle.oer_json.specs.declared.fault.JsonFault.{JsonFault}
use Rattle.oer_json.specs.declared.fault.JsonFault.TheVariants.{Memory, Kind, Name, Missing, Range, Misfit}
use Rattle.oer_json_places.specs.Laws.{PlacesAreInnermost}
use Rattle.oer_json_places.specs.Leads.{HasAddition, HasField, HasPart, IsOfElements, LeadsBy}
use Rattle.oer_json_places.specs.Next.{Hop, Next, Wrong, additions_next, alternative_named, by_alternative, by_key, element, fields_next, first_other, into, items_next, itself, key, missing_key, next, or_else, or_stop, place_next, stop, unknown_key}
use Rattle.oer_json_places.specs.Place.{Spot, down, onward, place_by}
use Rattle.oer_json_places.specs.Rejected.{fault_of, is_rejected, same_fault}
use Rattle.oer_json_places.proofs.Downward.{down_one}
use Rattle.oer_json_places.proofs.Nexts.{IsNext, additions_found, fields_found, is_next, items_found}

-- ---- what is rejected

same_itself : (f : JsonFault) → same_fault f f ≡ true
same_itself Memory = refl
same_itself Kind = refl
same_itself Name = refl
same_itself Missing = refl
same_itself Range = refl
same_itself Misfit = refl

rejects : (f : JsonFault) (T : AsnType) (j : Data) → taken T j ≡ Err f → is_rejected f T j ≡ true
unfolding is_rejected
rejects f T j h = rw h (same_itself f)

clash : (f : JsonFault) (T : AsnType) (j : Data) → is_rejected f T j ≡ false → taken T j ≡ Err f → ⊥
clash f T j e h = let g = rejects f T j h in absurd (cc)

-- ---- several parts

neither : {A : Type 0} (o p : Option A) → or_else o p ≡ None → (o ≡ None) × (p ≡ None)
neither None p h = (refl, h)
neither (Some x) p h = absurd (cc)

kept : (f : JsonFault) (name : List ℕ) (T : AsnType) (d : Data) (r : Bool) → cond r (Some (into (key name) T d)) None ≡ None → r ≡ false
kept f name T d true h = absurd (cc)
kept f name T d false h = refl

none_there : (f : JsonFault) (name : List ℕ) (optional : Bool) (T : AsnType) (o : Option Data) (d : Data)
    → place_next f name optional T o ≡ None → o ≡ Some d
    → is_rejected f T d ≡ false
none_there f name optional T None d h e = absurd (cc)
none_there f name optional T (Some j) d h e =
    let same : j ≡ d = cc in
    subst (λ i. is_rejected f T i ≡ false) same (kept f name T j (is_rejected f T j) h)

fields_none : (f : JsonFault) (ms : Members) (fs : Fields) (k : List ℕ) (U : AsnType) (d : Data) → fields_next f fs ms ≡ None
    → HasField fs k U
    → get_member k ms ≡ Some d → is_rejected f U d ≡ false
fields_none f ms no_fields k U d h part e = absurd part
fields_none f ms (field name need T fs) k U d h (inl p) e =
    let n = neither (place_next f name (may_be_absent need) T (get_member name ms)) (fields_next f fs ms) h in
    subst (λ V. is_rejected f V d ≡ false) p.1
    (none_there f name (may_be_absent need) T (get_member name ms) d n.0 (ap (λ m. get_member m ms) p.0 ∙ e))
fields_none f ms (field name need T fs) k U d h (inr p) e =
    let n = neither (place_next f name (may_be_absent need) T (get_member name ms)) (fields_next f fs ms) h in
    fields_none f ms fs k U d n.1 p e

additions_none : (f : JsonFault) (ms : Members) (more : Additions) (k : List ℕ) (U : AsnType) (d : Data) → additions_next f more ms ≡ None
    → HasAddition more k U → get_member k ms ≡ Some d → is_rejected f U d ≡ false
additions_none f ms no_additions k U d h part e = absurd part
additions_none f ms (addition name T more) k U d h (inl p) e =
    let n = neither (place_next f name true T (get_member name ms)) (additions_next f more ms) h in
    subst (λ V. is_rejected f V d ≡ false) p.1 (none_there f name true T (get_member name ms) d n.0 (ap (λ m. get_member m ms) p.0 ∙ e))
additions_none f ms (addition name T more) k U d h (inr p) e =
    let n = neither (place_next f name true T (get_member name ms)) (additions_next f more ms) h in
    additions_none f ms more k U d n.1 p e

passed : (f : JsonFault) (T : AsnType) (n : ℕ) (j : Data) (rest : Option Next) (r : Bool) → cond r (Some (into (element n) T j)) rest ≡ None
    → (r ≡ false) × (rest ≡ None)
passed f T n j rest true h = absurd (cc)
passed f T n j rest false h = (refl, h)

items_none : (f : JsonFault) (T : AsnType) (n : ℕ) (js : Items) (i : ℕ) (d : Data) → items_next f T n js ≡ None → get_item i js ≡ Some d
    → is_rejected f T d ≡ false
items_none f T n json.no_items i d h e = absurd (cc)
items_none f T n (json.item j js) zero d h e =
    let p = passed f T n j (items_next f T (suc n) js) (is_rejected f T j) h in
    let same : j ≡ d = cc in
    subst (λ k. is_rejected f T k ≡ false) same p.0
items_none f T n (json.item j js) (suc i) d h e =
    let p = passed f T n j (items_next f T (suc n) js) (is_rejected f T j) h in
    items_none f T (suc n) js i d p.1 e

-- ---- where the way stops

-- nothing was found
unfound : (o : Option Next) → ((x : Next) → o ≡ Some x → x ≡ stop itself → ⊥) → or_stop o ≡ stop itself → o ≡ None
unfound None never h = refl
unfound (Some x) never h = absurd (never x refl h)

stop_is : (v w : Wrong) → stop v ≡ stop w → v ≡ w
stop_is v w h = cc

no_key : (o : Option (List ℕ)) (found : Option Next) → by_key o found ≡ stop itself → or_stop found ≡ stop itself
no_key None found h = h
no_key (Some k) found h = absurd (differs k (stop_is (unknown_key k) itself h)) where
  differs : (k : List ℕ) → unknown_key k ≡ itself → ⊥
  differs k e = absurd (cc)

fields_never : (f : JsonFault) (ms : Members) (fs : Fields) (x : Next) → fields_next f fs ms ≡ Some x → x ≡ stop itself → ⊥
fields_never f ms fs x h e = elim (fields_found f ms fs x h) [
  | inl q ↦ missing q.0 (stop_is (missing_key q.0) itself (sym q.1 ∙ e))
  | inr q ↦ entered q.0 q.1 q.2 (sym q.3 ∙ e)
] where
  missing : (k : List ℕ) → missing_key k ≡ itself → ⊥
  missing k e = absurd (cc)

  entered : (k : List ℕ) (U : AsnType) (d : Data) → into (key k) U d ≡ stop itself → ⊥
  entered k U d e = absurd (cc)

entered_never : (hop : Hop) (U : AsnType) (d : Data) → into hop U d ≡ stop itself → ⊥
entered_never hop U d e = absurd (cc)

either_never : (f : JsonFault) (ms : Members) (fs : Fields) (more : Additions) (x : Next) → or_else (fields_next f fs ms)
    (additions_next f more ms) ≡ Some x
    → x ≡ stop itself → ⊥
either_never f ms fs more x h e = by_first (fields_next f fs ms) refl h where
  by_first : (o : Option Next) → fields_next f fs ms ≡ o → or_else o (additions_next f more ms) ≡ Some x → ⊥
  by_first None is g = let q = additions_found f ms more x g in entered_never (key q.0) q.1 q.2 (sym q.3 ∙ e)
  by_first (Some y) is g = let same : y ≡ x = cc in fields_never f ms fs x (is ∙ ap Some same) e

items_never : (f : JsonFault) (T : AsnType) (js : Items) (x : Next) → items_next f T 0 js ≡ Some x → x ≡ stop itself → ⊥
items_never f T js x h e = let q = items_found f T 0 js x h in entered_never _ _ _ (sym q.2 ∙ e)

sequence_rest : (f : JsonFault) (fs : Fields) (ms : Members) (k : List ℕ) (U : AsnType) (d : Data) → next f (sequence fs)
    (json.object ms) ≡ stop itself
    → HasField fs k U → get_member k ms ≡ Some d → is_rejected f U d ≡ false
sequence_rest f fs ms k U d h part e =
    let s = no_key (first_other (is_among (field_names fs)) (keys_of ms)) (fields_next f fs ms) h in
    fields_none f ms fs k U d (unfound (fields_next f fs ms) (fields_never f ms fs) s) part e

extensible_rest : (f : JsonFault) (fs : Fields) (more : Additions) (ms : Members) (k : List ℕ) (U : AsnType) (d : Data)
    → next f (extensible_sequence fs more) (json.object ms) ≡ stop itself → HasField fs k U ⊎ HasAddition more k U → get_member k ms
    ≡ Some d
    → is_rejected f U d ≡ false
extensible_rest f fs more ms k U d h part e =
    let all = or_else (fields_next f fs ms) (additions_next f more ms) in
    let s = no_key (first_other (is_key (field_names fs) (addition_names more)) (keys_of ms)) all h in
    let n = neither (fields_next f fs ms) (additions_next f more ms) (unfound all (either_never f ms fs more) s) in
    elim part [ inl p ↦ fields_none f ms fs k U d n.0 p e | inr p ↦ additions_none f ms more k U d n.1 p e ]

list_rest : (f : JsonFault) (size : _) (T : AsnType) (js : Items) (i : ℕ) (d : Data) → next f (sequence_of size T) (json.array js)
    ≡ stop itself
    → get_item i js ≡ Some d → is_rejected f T d ≡ false
list_rest f size T js i d h e = items_none f T 0 js i d (unfound (items_next f T 0 js) (items_never f T js) h) e

not_entered : (k : List ℕ) (U : AsnType) (d : Data) (r : Bool) → cond r (into (key k) U d) (stop itself) ≡ stop itself → r ≡ false
not_entered k U d true h = absurd (entered_never (key k) U d h)
not_entered k U d false h = refl

by_member : (f : JsonFault) (extensible : Bool) (more : Alternatives) (k : List ℕ) (d : Data)
    → next f (choice extensible more) (json.object (json.member k d json.no_members)) ≡ by_alternative f k (alternative_named more k) d
unfolding one_member
by_member f extensible more k d = refl

choice_rest : (f : JsonFault) (extensible : Bool) (more : Alternatives) (j : Data) (k : List ℕ) (U : AsnType) (d : Data)
    → next f (choice extensible more) j ≡ stop itself → alternative_named more k ≡ Some U → j ≡ json.object
    (json.member k d json.no_members)
    → is_rejected f U d ≡ false
choice_rest f extensible more j k U d h named only =
    let g = subst (λ i. next f (choice extensible more) i ≡ stop itself) only h in
    not_entered k U d (is_rejected f U d) (ap (λ o. by_alternative f k o d) (sym named) ∙ sym (by_member f extensible more k d) ∙ g)

-- no step leads on to a part that is rejected
at_rest : (f : JsonFault) (T : AsnType) (j : Data) (hop : Hop) (U : AsnType) (d : Data) → next f T j ≡ stop itself
    → LeadsBy hop T j U d → is_rejected f U d ≡ false
at_rest f (leaf kind) j (key k) U d h l = absurd l.0
at_rest f (leaf kind) j (element n) U d h l = absurd l.0
at_rest f (sequence fs) json.null (key k) U d h (part, e) = absurd (cc)
at_rest f (sequence fs) (json.boolean b) (key k) U d h (part, e) = absurd (cc)
at_rest f (sequence fs) (json.number n) (key k) U d h (part, e) = absurd (cc)
at_rest f (sequence fs) (json.string s) (key k) U d h (part, e) = absurd (cc)
at_rest f (sequence fs) (json.array js) (key k) U d h (part, e) = absurd (cc)
at_rest f (sequence fs) (json.object ms) (key k) U d h (part, e) = sequence_rest f fs ms k U d h part e
at_rest f (sequence fs) j (element n) U d h l = absurd l.0
at_rest f (extensible_sequence fs more) json.null (key k) U d h (part, e) = absurd (cc)
at_rest f (extensible_sequence fs more) (json.boolean b) (key k) U d h (part, e) = absurd (cc)
at_rest f (extensible_sequence fs more) (json.number n) (key k) U d h (part, e) = absurd (cc)
at_rest f (extensible_sequence fs more) (json.string s) (key k) U d h (part, e) = absurd (cc)
at_rest f (extensible_sequence fs more) (json.array js) (key k) U d h (part, e) = absurd (cc)
at_rest f (extensible_sequence fs more) (json.object ms) (key k) U d h (part, e) = extensible_rest f fs more ms k U d h part e
at_rest f (extensible_sequence fs more) j (element n) U d h l = absurd l.0
at_rest f (sequence_of size T) j (key k) U d h l = absurd l.0
at_rest f (sequence_of size T) json.null (element n) U d h (part, e) = absurd (cc)
at_rest f (sequence_of size T) (json.boolean b) (element n) U d h (part, e) = absurd (cc)
at_rest f (sequence_of size T) (json.number n) (element i) U d h (part, e) = absurd (cc)
at_rest f (sequence_of size T) (json.string s) (element n) U d h (part, e) = absurd (cc)
at_rest f (sequence_of size T) (json.array js) (element n) U d h (part, e) = subst (λ V. is_rejected f V d ≡ false) part
    (list_rest f size T js n d h e)
at_rest f (sequence_of size T) (json.object ms) (element n) U d h (part, e) = absurd (cc)
at_rest f (choice extensible more) j (key k) U d h (part, e) = choice_rest f extensible more j k U d h part e
at_rest f (choice extensible more) j (element n) U d h l = absurd l.0

-- ---- a part has fewer levels

first : (a b c : ℕ) → b ≡ a → a ≤ max b c
first a b c e = omega arith

second : (a b c : ℕ) → a ≤ c → a ≤ max b c
second a b c e = omega arith

field_depth : (fs : Fields) (k : List ℕ) (U : AsnType) → HasField fs k U → depth U ≤ fields_depth fs
field_depth no_fields k U h = absurd h
field_depth (field name need T fs) k U (inl p) = first (depth U) (depth T) (fields_depth fs) (ap depth p.1)
field_depth (field name need T fs) k U (inr p) = second (depth U) (depth T) (fields_depth fs) (field_depth fs k U p)

addition_depth : (more : Additions) (k : List ℕ) (U : AsnType) → HasAddition more k U → depth U ≤ additions_depth more
addition_depth no_additions k U h = absurd h
addition_depth (addition name T more) k U (inl p) = first (depth U) (depth T) (additions_depth more) (ap depth p.1)
addition_depth (addition name T more) k U (inr p) = second (depth U) (depth T) (additions_depth more) (addition_depth more k U p)

by_test : (b : Bool) (T U : AsnType) (o : Option AsnType) (n : ℕ) → cond b (Some T) o ≡ Some U → (o ≡ Some U → depth U ≤ n)
    → depth U ≤ max (depth T) n
by_test true T U o n h rest = let e : T ≡ U = cc in first (depth U) (depth T) n (ap depth e)
by_test false T U o n h rest = second (depth U) (depth T) n (rest h)

alternative_depth : (more : Alternatives) (k : List ℕ) (U : AsnType) → alternative_named more k ≡ Some U → depth U ≤ alternatives_depth more
alternative_depth no_alternatives k U h = absurd (cc)
alternative_depth (alternative name t T more) k U h = by_test (bytes_eq name k) T U (alternative_named more k)
    (alternatives_depth more) h (λ e. alternative_depth more k U e)
alternative_depth (later name t T more) k U h = by_test (bytes_eq name k) T U (alternative_named more k) (alternatives_depth more) h
    (λ e. alternative_depth more k U e)

deeper : (a b : ℕ) → a ≤ b → a < suc b
deeper a b h = omega arith

either_depth : (a b c : ℕ) → (a ≤ b) ⊎ (a ≤ c) → a < suc (max b c)
either_depth a b c (inl h) = omega arith
either_depth a b c (inr h) = omega arith

part_depth : (T : AsnType) (k : List ℕ) (U : AsnType) → HasPart T k U → depth U < depth T
part_depth (leaf kind) k U h = absurd h
part_depth (sequence fs) k U h = deeper (depth U) (fields_depth fs) (field_depth fs k U h)
part_depth (extensible_sequence fs more) k U (inl h) = either_depth (depth U) (fields_depth fs) (additions_depth more) (inl
    (field_depth fs k U h))
part_depth (extensible_sequence fs more) k U (inr h) = either_depth (depth U) (fields_depth fs) (additions_depth more) (inr
    (addition_depth more k U h))
part_depth (sequence_of size T) k U h = absurd h
part_depth (choice extensible more) k U h = deeper (depth U) (alternatives_depth more) (alternative_depth more k U h)

element_depth : (T U : AsnType) → IsOfElements T U → depth U < depth T
element_depth (leaf kind) U h = absurd h
element_depth (sequence fs) U h = absurd h
element_depth (extensible_sequence fs more) U h = absurd h
element_depth (sequence_of size T) U h = deeper (depth U) (depth T) (same (depth U) (depth T) (ap depth h)) where
  same : (a b : ℕ) → b ≡ a → a ≤ b
  same a b e = omega arith
element_depth (choice extensible more) U h = absurd h

step_depth : (hop : Hop) (T : AsnType) (j : Data) (U : AsnType) (d : Data) → LeadsBy hop T j U d → depth U < depth T
step_depth (key k) T j U d h = part_depth T k U h.0
step_depth (element n) T j U d h = element_depth T U h.0

positive : (n : ℕ) → 0 < suc n
positive n = omega arith

some_level : (T : AsnType) → 0 < depth T
some_level (leaf kind) = omega arith
some_level (sequence fs) = positive (fields_depth fs)
some_level (extensible_sequence fs more) = positive (max (fields_depth fs) (additions_depth more))
some_level (sequence_of size T) = positive (depth T)
some_level (choice extensible more) = positive (alternatives_depth more)

-- ---- the way ends where nothing comes next

abbrev IsOver : JsonFault → Spot → Type 0
IsOver f s = (next f s.type s.json ≡ stop s.wrong) × (s.fault ≡ f)

onward_over : (f : JsonFault) (T : AsnType) (j : Data) (go : AsnType → Data → Spot) → ((U : AsnType) (d : Data) → depth U < depth T
    → IsOver f (go U d))
    → (x : Next) → next f T j ≡ x → IsNext f T j x → IsOver f (onward f T j x go)
onward_over f T j go below (stop w) e is = (e, refl)
onward_over f T j go below (into hop U d) e is = below U d (step_depth hop T j U d is.0)

is_over : (n : ℕ) (f : JsonFault) (T : AsnType) (j : Data) → depth T ≤ n → IsOver f (down n f T j)
is_over zero f T j h = absurd (none (depth T) h (some_level T)) where
  none : (a : ℕ) → a ≤ 0 → 0 < a → ⊥
  none a h g = omega arith
is_over (suc n) f T j h =
    subst (IsOver f) (sym (down_one n f T j))
    (onward_over f T j (down n f) (λ U d g. is_over n f U d (less (depth U) (depth T) n g h)) (next f T j) refl (is_next f T j)) where
      less : (a b c : ℕ) → a < b → b ≤ suc c → a ≤ c
      less a b c g h = omega arith

shallow : (T : AsnType) → IsWellFormed T → depth T ≤ max_depth
shallow T w = within (depth T) (w.faultless TooDeep) where
  within : (a : ℕ) → (32 < a → ⊥) → a ≤ 32
  within a h = omega arith

by_fault : (T : AsnType) → IsWellFormed T → (j : Data) (o : Option JsonFault) (spot : Spot) → place_by o T j ≡ Some spot →
    (f : JsonFault) × IsOver f spot
by_fault T w j None spot h = absurd (cc)
by_fault T w j (Some f) spot h = let s : down max_depth f T j ≡ spot = cc in (f, subst (IsOver f) s (is_over max_depth f T j (shallow T w)))

pub innermost : PlacesAreInnermost
innermost T w j spot h itself_wrong hop U d leads rejected =
    let q = by_fault T w j (fault_of T j) spot h in
    let over = q.1.0 ∙ ap stop itself_wrong in
    clash q.0 U d (at_rest q.0 spot.type spot.json hop U d over leads) (rejected ∙ ap Err q.1.1)
