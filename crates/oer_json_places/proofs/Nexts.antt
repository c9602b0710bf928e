-- What comes next leads to a part that is rejected with the fault; or what is said to be wrong is true.
use Rattle.std.proofs.Common.{◌≡◌, ◌⊎◌, ℕ, suc, List, [], ◌∷◌, Bool, true, false, not, ◌&&◌, cond, Option, Some, None, Ok, Err, Result, inl, inr, refl, sym, subst, ap, ◌∙◌, ◌+◌, zero-add}
use Rattle.std.proofs.Math.Nat.{add-suc, add-zero, suc-add}
use Rattle.serde_json.specs.Data as json
use Rattle.serde_json.specs.Data.{Data, Items, Members}
use Rattle.serde_json.specs.Find.{get_item, get_member}
use Rattle.oer_model.specs.AsnType.{Additions, Alternatives, AsnType, Fields, addition, choice, extensible_sequence, field, leaf, no_additions, no_fields, sequence, sequence_of}
use Rattle.oer_model.specs.FitTest.{may_be_absent}
use Rattle.oer_model.specs.WellFormed.{AnyOf, addition_names, field_names}
use Rattle.oer_json.specs.Keys.{is_among, keys_of}
use Rattle.oer_json.specs.Take.{is_key, one_member, only_member, taken}
use Rattle.oer_json.specs.declared.fault.JsonFault.{JsonFault}
use Rattle.oer_json.specs.declared.fault.JsonFault.TheVariants.{Memory, Kind, Name, Missing, Range, Misfit}
use Rattle.oer_json_places.specs.Leads.{HasAddition, HasField, IsWrong, LeadsBy, MustHave}
use Rattle.oer_json_places.specs.Next.{Next, additions_next, alternative_named, by_alternative, by_key, element, fields_next, first_other, in_choice, into, is_missing, is_name, items_next, itself, key, missing_key, next, ok_of, or_else, or_stop, place_next, stop, unknown_key}
use Rattle.oer_json_places.specs.Rejected.{is_rejected}
use Rattle.oer_json_places.proofs.Rejecting.{of_rejected}

abbrev pub IsNext : JsonFault → AsnType → Data → Next → Type 0
IsNext f T j (into hop U d) = LeadsBy hop T j U d × (taken U d ≡ Err f)
IsNext f T j (stop w) = IsWrong f T j w

missing_is : (f : JsonFault) → is_missing f ≡ true → f ≡ Missing
missing_is Memory h = absurd (cc)
missing_is Kind h = absurd (cc)
missing_is Name h = absurd (cc)
missing_is Missing h = refl
missing_is Range h = absurd (cc)
missing_is Misfit h = absurd (cc)

-- ---- a component or an addition

-- a component that must be there isn't; or it is there, and is rejected
abbrev Found : JsonFault → List ℕ → Bool → AsnType → Option Data → Next → Type 0
Found f name optional T o x = ((o ≡ None) × (x ≡ stop (missing_key name)) × (optional ≡ false) × (f ≡ Missing))
    ⊎ ((j : Data) × (o ≡ Some j) × (x ≡ into (key name) T j) × (is_rejected f T j ≡ true))

absent : (f : JsonFault) (name : List ℕ) (optional : Bool) (T : AsnType) (x : Next) (m : Bool) → is_missing f ≡ m
    → cond (not optional && m) (Some (stop (missing_key name))) None ≡ Some x → Found f name optional T None x
absent f name true T x m e h = absurd (cc)
absent f name false T x true e h = let s : stop (missing_key name) ≡ x = cc in inl (refl, sym s, refl, missing_is f e)
absent f name false T x false e h = absurd (cc)

present : (f : JsonFault) (name : List ℕ) (optional : Bool) (T : AsnType) (j : Data) (x : Next) (r : Bool) → is_rejected f T j ≡ r
    → cond r (Some (into (key name) T j)) None ≡ Some x → Found f name optional T (Some j) x
present f name optional T j x true e h = let s : into (key name) T j ≡ x = cc in inr (j, refl, sym s, e)
present f name optional T j x false e h = absurd (cc)

found : (f : JsonFault) (name : List ℕ) (optional : Bool) (T : AsnType) (o : Option Data) (x : Next)
    → place_next f name optional T o ≡ Some x → Found f name optional T o x
found f name optional T None x h = absent f name optional T x (is_missing f) refl h
found f name optional T (Some j) x h = present f name optional T j x (is_rejected f T j) refl h

-- ---- several

abbrev pub FoundAmong : JsonFault → Members → (List ℕ → AsnType → Type 0) → (List ℕ → Type 0) → Next → Type 0
FoundAmong f ms Has Must x = ((name : List ℕ) × (x ≡ stop (missing_key name)) × (get_member name ms ≡ None) × Must name × (f ≡ Missing))
    ⊎ ((name : List ℕ) × (U : AsnType) × (d : Data) × (x ≡ into (key name) U d) × Has name U × (get_member name ms ≡ Some d) ×
    (is_rejected f U d ≡ true))

either : (o p : Option Next) (x : Next) → or_else o p ≡ Some x → (o ≡ Some x) ⊎ ((o ≡ None) × (p ≡ Some x))
either None p x h = inr (refl, h)
either (Some y) p x h = inl h

pub fields_found : (f : JsonFault) (ms : Members) (fs : Fields) (x : Next) → fields_next f fs ms ≡ Some x
    → FoundAmong f ms (HasField fs) (MustHave fs) x
fields_found f ms no_fields x h = absurd (cc)
fields_found f ms (field name need T fs) x h =
    elim (either (place_next f name (may_be_absent need) T (get_member name ms)) (fields_next f fs ms) x h) [
      | inl e ↦ elim (found f name (may_be_absent need) T (get_member name ms) x e) [
        | inl q ↦ inl (name, q.1, q.0, inl (refl, q.2), q.3)
        | inr q ↦ inr (name, T, q.0, q.2, inl (refl, refl), q.1, q.3)
      ]
      | inr e ↦ elim (fields_found f ms fs x e.1) [
        | inl q ↦ inl (q.0, q.1, q.2, inr q.3, q.4)
        | inr q ↦ inr (q.0, q.1, q.2, q.3, inr q.4, q.5, q.6)
      ]
    ]

pub additions_found : (f : JsonFault) (ms : Members) (more : Additions) (x : Next) → additions_next f more ms ≡ Some x
    → (name : List ℕ) × (U : AsnType) × (d : Data) × (x ≡ into (key name) U d) × HasAddition more name U × (get_member name ms
    ≡ Some d) × (is_rejected f U d ≡ true)
additions_found f ms no_additions x h = absurd (cc)
additions_found f ms (addition name T more) x h =
    elim (either (place_next f name true T (get_member name ms)) (additions_next f more ms) x h) [
      | inl e ↦ elim (found f name true T (get_member name ms) x e) [
        | inl q ↦ absurd (never q.2)
        | inr q ↦ (name, T, q.0, q.2, inl (refl, refl), q.1, q.3)
      ]
      | inr e ↦ let q = additions_found f ms more x e.1 in (q.0, q.1, q.2, q.3, inr q.4, q.5, q.6)
    ] where
      never : true ≡ false → ⊥
      never e = absurd (cc)

-- ---- keys

other_found : (test : List ℕ → Bool) (ks : List (List ℕ)) (k : List ℕ) → first_other test ks ≡ Some k → AnyOf (λ l. l ≡ k) ks
    × (test k ≡ false)
other_found test [] k h = absurd (cc)
other_found test (l ∷ ks) k h = by_test (test l) refl h (λ g. other_found test ks k g) where
  by_test : (b : Bool) → test l ≡ b → cond b (first_other test ks) (Some l) ≡ Some k
      → (first_other test ks ≡ Some k → AnyOf (λ m. m ≡ k) ks × (test k ≡ false)) → AnyOf (λ m. m ≡ k) (l ∷ ks) × (test k ≡ false)
  by_test true e g rest = let q = rest g in (inr q.0, q.1)
  by_test false e g rest = let s : l ≡ k = cc in (inl s, subst (λ m. test m ≡ false) s e)

-- ---- elements

pub items_found : (f : JsonFault) (T : AsnType) (n : ℕ) (js : Items) (x : Next) → items_next f T n js ≡ Some x
    → (i : ℕ) × (d : Data) × (x ≡ into (element (i + n)) T d) × (get_item i js ≡ Some d) × (is_rejected f T d ≡ true)
items_found f T n json.no_items x h = absurd (cc)
items_found f T n (json.item j js) x h = by_test (is_rejected f T j) refl h (λ g. items_found f T (suc n) js x g) where
  by_test : (b : Bool) → is_rejected f T j ≡ b → cond b (Some (into (element n) T j)) (items_next f T (suc n) js) ≡ Some x
      → (items_next f T (suc n) js ≡ Some x → (i : ℕ) × (d : Data) × (x ≡ into (element (i + suc n)) T d) × (get_item i js ≡ Some d) ×
      (is_rejected f T d ≡ true))
      → (i : ℕ) × (d : Data) × (x ≡ into (element (i + n)) T d) × (get_item i (json.item j js) ≡ Some d) × (is_rejected f T d ≡ true)
  by_test true e g rest = let s : into (element n) T j ≡ x = cc in (
    0,
    j,
    sym s ∙ ap (λ m. into (element m) T j) (sym
        (zero-add n)),
    refl,
    e,
  )
  by_test false e g rest =
      let q = rest g in
      (suc q.0, q.1, q.2 ∙ ap (λ m. into (element m) T q.1) (add-suc q.0 n ∙ sym (suc-add q.0 n)), q.3, q.4)

-- ---- kinds of types

sequence_next : (f : JsonFault) (fs : Fields) (ms : Members)
    → IsNext f (sequence fs) (json.object ms) (next f (sequence fs) (json.object ms))
sequence_next f fs ms = by_other (first_other (is_among (field_names fs)) (keys_of ms)) refl where
  by_found : (r : Option Next) → fields_next f fs ms ≡ r → IsNext f (sequence fs) (json.object ms) (or_stop r)
  by_found None e = tt
  by_found (Some x) e = elim (fields_found f ms fs x e) [
    | inl q ↦ subst (IsNext f (sequence fs) (json.object ms)) (sym q.1) (ms, refl, q.2, q.3, q.4)
    | inr q ↦ subst (IsNext f (sequence fs) (json.object ms)) (sym q.3) ((q.4, q.5), of_rejected f q.1 q.2 q.6)
  ]

  by_other : (o : Option (List ℕ)) → first_other (is_among (field_names fs)) (keys_of ms) ≡ o
      → IsNext f (sequence fs) (json.object ms) (by_key o (fields_next f fs ms))
  by_other None e = by_found (fields_next f fs ms) refl
  by_other (Some k) e = let q = other_found (is_among (field_names fs)) (keys_of ms) k e in (ms, refl, q.0, q.1)

extensible_next : (f : JsonFault) (fs : Fields) (more : Additions) (ms : Members)
    → IsNext f (extensible_sequence fs more) (json.object ms) (next f (extensible_sequence fs more) (json.object ms))
extensible_next f fs more ms = by_other (first_other (is_key (field_names fs) (addition_names more)) (keys_of ms)) refl where
  by_found : (r : Option Next) → or_else (fields_next f fs ms) (additions_next f more ms) ≡ r
      → IsNext f (extensible_sequence fs more) (json.object ms) (or_stop r)
  by_found None e = tt
  by_found (Some x) e = elim (either (fields_next f fs ms) (additions_next f more ms) x e) [
    | inl g ↦ elim (fields_found f ms fs x g) [
      | inl q ↦ subst (IsNext f (extensible_sequence fs more) (json.object ms)) (sym q.1) (ms, refl, q.2, q.3, q.4)
      | inr q ↦ subst (IsNext f (extensible_sequence fs more) (json.object ms)) (sym q.3) ((inl q.4, q.5), of_rejected f q.1 q.2 q.6)
    ]
    | inr g ↦ let q = additions_found f ms more x g.1 in
        subst (IsNext f (extensible_sequence fs more) (json.object ms)) (sym q.3) ((inr q.4, q.5), of_rejected f q.1 q.2 q.6)
  ]

  by_other : (o : Option (List ℕ)) → first_other (is_key (field_names fs) (addition_names more)) (keys_of ms) ≡ o
      → IsNext f (extensible_sequence fs more) (json.object ms) (by_key o (or_else (fields_next f fs ms) (additions_next f more ms)))
  by_other None e = by_found (or_else (fields_next f fs ms) (additions_next f more ms)) refl
  by_other (Some k) e = let q = other_found (is_key (field_names fs) (addition_names more)) (keys_of ms) k e in (ms, refl, q.0, q.1)

list_next : (f : JsonFault) (size : _) (T : AsnType) (js : Items)
    → IsNext f (sequence_of size T) (json.array js) (next f (sequence_of size T) (json.array js))
list_next f size T js = by_found (items_next f T 0 js) refl where
  by_found : (r : Option Next) → items_next f T 0 js ≡ r → IsNext f (sequence_of size T) (json.array js) (or_stop r)
  by_found None e = tt
  by_found (Some x) e = let q = items_found f T 0 js x e in
      subst (IsNext f (sequence_of size T) (json.array js)) (sym (q.2 ∙ ap (λ m. into (element m) T q.1) (add-zero q.0)))
      ((refl, q.3), of_rejected f T q.1 q.4)

-- ---- a CHOICE

-- the object with one member
only_one : (ms : Members) (m : List ℕ × Data) → only_member ms ≡ Ok m → ms ≡ json.member m.0 m.1 json.no_members
only_one json.no_members m h = absurd (cc)
only_one (json.member k d json.no_members) m h = let e : (k, d) ≡ m = cc in subst (λ (p : List ℕ
    × Data). json.member k d json.no_members ≡ json.member p.0 p.1 json.no_members) e refl
only_one (json.member k d (json.member l e ms)) m h = absurd (cc)

one_is : (j : Data) (m : List ℕ × Data) → one_member j ≡ Ok m → j ≡ json.object (json.member m.0 m.1 json.no_members)
unfolding one_member
one_is json.null m h = absurd (cc)
one_is (json.boolean b) m h = absurd (cc)
one_is (json.number n) m h = absurd (cc)
one_is (json.string s) m h = absurd (cc)
one_is (json.array js) m h = absurd (cc)
one_is (json.object ms) m h = ap json.object (only_one ms m h)

chosen_next : (f : JsonFault) (extensible : Bool) (more : Alternatives) (k : List ℕ) (d : Data)
    → IsNext f (choice extensible more) (json.object (json.member k d json.no_members)) (by_alternative f k (alternative_named more k) d)
chosen_next f extensible more k d = by_named (alternative_named more k) refl where
  unknown : (b : Bool) → alternative_named more k ≡ None
      → IsNext f (choice extensible more) (json.object (json.member k d json.no_members)) (cond b (stop (unknown_key k)) (stop itself))
  unknown true e = (json.member k d json.no_members, refl, inl refl, e)
  unknown false e = tt

  known : (U : AsnType) (b : Bool) → alternative_named more k ≡ Some U → is_rejected f U d ≡ b
      → IsNext f (choice extensible more) (json.object (json.member k d json.no_members)) (cond b (into (key k) U d) (stop itself))
  known U true e r = ((e, refl), of_rejected f U d r)
  known U false e r = tt

  by_named : (o : Option AsnType) → alternative_named more k ≡ o
      → IsNext f (choice extensible more) (json.object (json.member k d json.no_members)) (by_alternative f k o d)
  by_named None e = unknown (is_name f) e
  by_named (Some U) e = known U (is_rejected f U d) e refl

choice_next : (f : JsonFault) (extensible : Bool) (more : Alternatives) (j : Data)
    → IsNext f (choice extensible more) j (next f (choice extensible more) j)
choice_next f extensible more j = by_member (one_member j) refl where
  by_member : (r : Result (List ℕ × Data) JsonFault) → one_member j ≡ r → IsNext f (choice extensible more) j (in_choice f more (ok_of r))
  by_member (Err e) h = tt
  by_member (Ok m) h = subst (λ (i : Data). IsNext f (choice extensible more) i (by_alternative f m.0 (alternative_named more m.0) m.1))
      (sym (one_is j m h)) (chosen_next f extensible more m.0 m.1)

-- ---- each type

pub is_next : (f : JsonFault) (T : AsnType) (j : Data) → IsNext f T j (next f T j)
is_next f (leaf kind) j = tt
is_next f (sequence fs) json.null = tt
is_next f (sequence fs) (json.boolean b) = tt
is_next f (sequence fs) (json.number n) = tt
is_next f (sequence fs) (json.string s) = tt
is_next f (sequence fs) (json.array js) = tt
is_next f (sequence fs) (json.object ms) = sequence_next f fs ms
is_next f (extensible_sequence fs more) json.null = tt
is_next f (extensible_sequence fs more) (json.boolean b) = tt
is_next f (extensible_sequence fs more) (json.number n) = tt
is_next f (extensible_sequence fs more) (json.string s) = tt
is_next f (extensible_sequence fs more) (json.array js) = tt
is_next f (extensible_sequence fs more) (json.object ms) = extensible_next f fs more ms
is_next f (sequence_of size T) json.null = tt
is_next f (sequence_of size T) (json.boolean b) = tt
is_next f (sequence_of size T) (json.number n) = tt
is_next f (sequence_of size T) (json.string s) = tt
is_next f (sequence_of size T) (json.array js) = list_next f size T js
is_next f (sequence_of size T) (json.object ms) = tt
is_next f (choice extensible more) j = choice_next f extensible more j
