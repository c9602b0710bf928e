-- What is made of a value that fits stands for the value.
use Rattle.std.proofs.Common.{◌≡◌, ◌⊎◌, inl, inr, ℕ, suc, ◌^◌, ◌<◌, ◌&&◌, ltb, not, List, [], ◌∷◌, length, map, Bool, true, false, cond, None, refl, sym, subst, ◌∙◌, arith}
use Rattle.std.specs.Fmt.{decimal}
use Rattle.serde_json.specs.Data as json
use Rattle.serde_json.specs.Data.{Data, Items, Members}
use Rattle.serde_json.specs.Find.{get_member}
use Rattle.serde_json.proofs.Views.{get_member-put, get_member-put_other}
use Rattle.oer_units.specs.declared.tagging.Tag.{Tag}
use Rattle.oer_model.specs.LeafType.{LeafType, octet_string}
use Rattle.oer_model.specs.LeafValue.{LeafValue, enum, int, octets}
use Rattle.oer_model.specs.AsnType.{Additions, Alternatives, AsnType, Fields, addition, alternative, choice, extensible_sequence, field, later, leaf, no_additions, no_alternatives, no_fields, sequence, sequence_of}
use Rattle.oer_model.specs.AsnValue.{AsnValue, Places, Unknown, Values, absent, chosen, foreign, items, leaf_value, no_places, no_values, present, seq, unknown, value}
use Rattle.oer_model.specs.Constraints.{addition_count, has_tag, same_tag, size_fits}
use Rattle.oer_model.specs.FitTest.{additions_fit, all_below, all_fit, alternative_fits, fields_fit, is_fit, is_fit_leaf, is_without, may_be_absent, unknown_fit, values_length}
use Rattle.oer_model.specs.WellFormed.{Repeats, addition_names, field_names, is_identifier}
use Rattle.oer_model.proofs.fitting.FitTests.{both, fit_complete}
use Rattle.oer_model.proofs.filling.Same.{same_tag-true}
use Rattle.oer_json.specs.Denotes.{DenoteAdditions, DenoteFields, DenoteItems, DenoteUnknown, Denotes, DenotesAlternative, IsOneOf, IsPart, LeafDenotes, only, unknown_key}
use Rattle.oer_json.specs.Keys.{EachKey, place_key}
use Rattle.oer_json.specs.Laws.{MadeTaken}
use Rattle.oer_json.specs.Made.{made, made_alternative, made_items, made_leaf, made_octets, named_numbers, one_member, put_additions, put_fields, put_unknown}
use Rattle.oer_json.proofs.MadeLeaves.{each_put, integer_made, item_made, octets_made}
use Rattle.oer_json.proofs.Named.{AreNamedAdditions, AreNamedAlternatives, AreNamedFields, IsNamed, added_apart, added_names, both_apart, in_additions, in_choice, in_list, in_root, in_sequence, root_apart, root_names, sequence_apart, stands_again, well_named}
use Rattle.oer_json.proofs.PlaceKeys.{no_hash, one_place}
use Rattle.oer_json.proofs.Rising.{in_above}
use Rattle.oer_json.proofs.UnknownComplete.{first_fits, fit_rises, place_of_key}
use Rattle.oer_json.proofs.UnknownSound.{place_of_unknown}

-- ---- what is put

-- the keys are those of parts
module _ (P : List ℕ → Type 0) where
  fields_keys : (fs : Fields) (ps : Places) (ms : Members) → ((key : List ℕ) → IsOneOf (field_names fs) key → P key) → EachKey P ms → EachKey P (put_fields fs ps ms)
  fields_keys no_fields ps ms p h = h
  fields_keys (field name need T fs) no_places ms p h = h
  fields_keys (field name need T fs) (absent ps) ms p h = fields_keys fs ps ms (λ key i. p key (inr i)) h
  fields_keys (field name need T fs) (present v ps) ms p h = fields_keys fs ps (json.put name (made T v) ms) (λ key i. p key (inr i)) (each_put P name (made T v) ms (p name (inl refl)) h)

  additions_keys : (more : Additions) (ps : Places) (ms : Members) → ((key : List ℕ) → IsOneOf (addition_names more) key → P key) → EachKey P ms → EachKey P (put_additions more ps ms)
  additions_keys no_additions ps ms p h = h
  additions_keys (addition name T more) no_places ms p h = h
  additions_keys (addition name T more) (absent ps) ms p h = additions_keys more ps ms (λ key i. p key (inr i)) h
  additions_keys (addition name T more) (present v ps) ms p h = additions_keys more ps (json.put name (made T v) ms) (λ key i. p key (inr i)) (each_put P name (made T v) ms (p name (inl refl)) h)

  unknown_keys : (us : List Unknown) (ms : Members) → ((key : List ℕ) → IsOneOf (map unknown_key us) key → P key) → EachKey P ms → EachKey P (put_unknown us ms)
  unknown_keys [] ms p h = h
  unknown_keys (unknown n w ∷ us) ms p h = unknown_keys us (json.put (place_key n) (made_octets w) ms) (λ key i. p key (inr i)) (each_put P (place_key n) (made_octets w) ms (p (place_key n) (inl refl)) h)

-- other keys keep what they have
module _ (key : List ℕ) where
  fields_keep : (fs : Fields) (ps : Places) (ms : Members) → (IsOneOf (field_names fs) key → ⊥) → get_member key (put_fields fs ps ms) ≡ get_member key ms
  fields_keep no_fields ps ms h = refl
  fields_keep (field name need T fs) no_places ms h = refl
  fields_keep (field name need T fs) (absent ps) ms h = fields_keep fs ps ms (λ i. h (inr i))
  fields_keep (field name need T fs) (present v ps) ms h = fields_keep fs ps (json.put name (made T v) ms) (λ i. h (inr i)) ∙ get_member-put_other key name (made T v) ms (λ e. h (inl (sym e)))

  additions_keep : (more : Additions) (ps : Places) (ms : Members) → (IsOneOf (addition_names more) key → ⊥) → get_member key (put_additions more ps ms) ≡ get_member key ms
  additions_keep no_additions ps ms h = refl
  additions_keep (addition name T more) no_places ms h = refl
  additions_keep (addition name T more) (absent ps) ms h = additions_keep more ps ms (λ i. h (inr i))
  additions_keep (addition name T more) (present v ps) ms h = additions_keep more ps (json.put name (made T v) ms) (λ i. h (inr i)) ∙ get_member-put_other key name (made T v) ms (λ e. h (inl (sym e)))

  unknown_keep : (us : List Unknown) (ms : Members) → (IsOneOf (map unknown_key us) key → ⊥) → get_member key (put_unknown us ms) ≡ get_member key ms
  unknown_keep [] ms h = refl
  unknown_keep (unknown n w ∷ us) ms h = unknown_keep us (json.put (place_key n) (made_octets w) ms) (λ i. h (inr i)) ∙ get_member-put_other key (place_key n) (made_octets w) ms (λ e. h (inl (sym e)))

-- ms has none of the keys
abbrev Lacks : List (List ℕ) → Members → Type 0
Lacks ns ms = (key : List ℕ) → IsOneOf ns key → get_member key ms ≡ None

-- ns and os have the same at the keys
abbrev Agrees : List (List ℕ) → Members → Members → Type 0
Agrees ns ms os = (key : List ℕ) → IsOneOf ns key → get_member key ms ≡ get_member key os

still_lacks : (name : List ℕ) (ns : List (List ℕ)) (d : Data) (ms : Members) → (Repeats (name ∷ ns) → ⊥) → Lacks (name ∷ ns) ms → Lacks ns (json.put name d ms)
still_lacks name ns d ms apart h key i = get_member-put_other key name d ms (λ e. apart (stands_again name ns (subst (IsOneOf ns) e i))) ∙ h key (inr i)

-- ---- the unknown additions

later_places : (n : ℕ) (w : List ℕ) (us : List Unknown) → n < 2 ^ 16 → unknown_fit (suc n) us ≡ true → IsOneOf (map unknown_key us) (place_key n) → ⊥
later_places n w us small h i =
    let q = place_of_key (suc n) us (place_key n) h i in
    let e = one_place q.0 n q.1 small q.3 in
    let l = in_above (suc n) (map place_of_unknown us) q.0 (fit_rises (suc n) us h) q.2 in
    omega arith

unknown_at : (us : List Unknown) (lowest : ℕ) (ms os : Members) → unknown_fit lowest us ≡ true → Agrees (map unknown_key us) os (put_unknown us ms) → DenoteUnknown us os
unknown_at [] lowest ms os h a = tt
unknown_at (unknown n w ∷ us) lowest ms os h a =
    let p = first_fits lowest n w us h in
    let e = a (place_key n) (inl refl) ∙ unknown_keep (place_key n) us (json.put (place_key n) (made_octets w) ms) (later_places n w us p.1 p.3) ∙ get_member-put (place_key n) (made_octets w) ms in
    ((made_octets w, e, octets_made w p.2), unknown_at us (suc n) (json.put (place_key n) (made_octets w) ms) os p.3 (λ key i. a key (inr i)))

-- ---- every type

items_made : (f : AsnValue → Data) (P : AsnValue → Data → Type 0) (fit : AsnValue → Bool) → ((v : AsnValue) → fit v ≡ true → P v (f v)) → (vs : Values) → all_fit fit vs ≡ true → DenoteItems P vs (made_items f vs)
items_made f P fit s no_values h = tt
items_made f P fit s (value v vs) h = let p = both (fit v) (all_fit fit vs) h in (s v p.0, items_made f P fit s vs p.1)

-- what is made of an alternative
abbrev Stands : Alternatives → Tag → AsnValue → Data → Type 0
Stands more t v j = (key : List ℕ) × (d : Data) × (j ≡ only key d) × DenotesAlternative more key t v d

alternative_step : (name : List ℕ) (u t : Tag) (T : AsnType) (v : AsnValue) (fits : Bool) (more : Alternatives) → (is_fit T v ≡ true → Denotes T v (made T v)) → (fits ≡ true → Stands more t v (made_alternative more t v))
    → (b : Bool) → same_tag u t ≡ b → cond b (is_fit T v) fits ≡ true
    → (key : List ℕ) × (d : Data) × (cond b (one_member name (made T v)) (made_alternative more t v) ≡ only key d) × (((name ≡ key) × (u ≡ t) × Denotes T v d) ⊎ DenotesAlternative more key t v d)
alternative_step name u t T v fits more here there true e h = (name, made T v, refl, inl (refl, same_tag-true u t e, here h))
alternative_step name u t T v fits more here there false e h = let p = there h in (p.0, p.1, p.2, inr p.3)

octets_below : (kind : LeafType) (w : List ℕ) → is_fit_leaf kind (octets w) ≡ true → all_below 256 w ≡ true
octets_below (octet_string size) w h = (both (all_below 256 w) (size_fits size (length w)) h).0
octets_below kind w h = absurd (cc)

leaf_denotes : (kind : LeafType) (v : LeafValue) → is_fit_leaf kind v ≡ true → LeafDenotes (named_numbers (leaf kind)) v (made_leaf (named_numbers (leaf kind)) v)
leaf_denotes kind (int z) h = integer_made z
leaf_denotes kind (enum z) h = item_made (named_numbers (leaf kind)) z
leaf_denotes kind (octets w) h = octets_made w (octets_below kind w h)
leaf_denotes kind v h = refl

mutual
  pub made_denotes : (T : AsnType) → IsNamed T → (v : AsnValue) → is_fit T v ≡ true → Denotes T v (made T v)
  made_denotes (leaf kind) n (leaf_value v) h = leaf_denotes kind v h
  made_denotes (sequence fs) n (seq root added us) h =
      let p = both (is_without added us) (fields_fit fs root) h in (
        put_fields fs root json.no_members,
        refl,
        fields_keys (IsOneOf (field_names fs)) fs root json.no_members (λ key i. i) tt,
        fields_made fs (in_sequence fs n) (sequence_apart fs n) root p.1 json.no_members (put_fields fs root json.no_members) (λ key i. refl) (λ key i. refl),
      )
  made_denotes (extensible_sequence fs more) n (seq root added us) h =
      let p = both (fields_fit fs root) (additions_fit more added && unknown_fit (addition_count more) us) h in
      let q = both (additions_fit more added) (unknown_fit (addition_count more) us) p.1 in
      let first = put_fields fs root json.no_members in
      let second = put_additions more added first in
      let whole = put_unknown us second in
      let of_root : Lacks (addition_names more) first = λ key i. fields_keep key fs root json.no_members (λ k. both_apart fs more n key k i) in
      let place = λ (key : List ℕ) (good : is_identifier key ≡ true) (i : IsOneOf (map unknown_key us) key). (
      let r = place_of_key (addition_count more) us key q.1 i in
      no_hash key (decimal r.0) good (sym r.3)) in (
        whole,
        refl,
        unknown_keys (IsPart fs more us) us second (λ key i. inr (inr i))
            (additions_keys (IsPart fs more us) more added first (λ key i. inr (inl i)) (fields_keys (IsPart fs more us) fs root json.no_members (λ key i. inl i) tt)),
        fields_made fs (in_root fs more n) (root_apart fs more n) root p.0 json.no_members whole (λ key i. refl)
            (λ key i. unknown_keep key us second (place key (root_names fs more n key i)) ∙ additions_keep key more added first (λ k. both_apart fs more n key i k)),
        additions_made more (in_additions fs more n) (added_apart fs more n) added q.0 first whole of_root (λ key i. unknown_keep key us second (place key (added_names fs more n key i))),
        unknown_at us (addition_count more) second whole q.1 (λ key i. refl),
      )
  made_denotes (sequence_of size T) n (items vs) h =
      let p = both (size_fits size (values_length vs)) (all_fit (is_fit T) vs) h in
      (made_items (made T) vs, refl, items_made (made T) (Denotes T) (is_fit T) (λ v. made_denotes T (in_list size T n) v) vs p.1)
  made_denotes (choice e more) n (chosen t v) h = alternative_made more (in_choice e more n) t v h
  made_denotes (choice e more) n (foreign t w) h =
      let p = both e (not (has_tag t more) && (ltb t.number (2 ^ 32) && all_below 256 w)) h in
      let q = both (not (has_tag t more)) (ltb t.number (2 ^ 32) && all_below 256 w) p.1 in
      let r = both (ltb t.number (2 ^ 32)) (all_below 256 w) q.1 in
      (made_octets w, refl, octets_made w r.1)
  made_denotes T n v h = absurd (cc)

  fields_made : (fs : Fields) → AreNamedFields fs → (Repeats (field_names fs) → ⊥) → (ps : Places) → fields_fit fs ps ≡ true → (ms os : Members) → Lacks (field_names fs) ms → Agrees (field_names fs) os (put_fields fs ps ms) → DenoteFields fs ps os
  fields_made no_fields n apart no_places h ms os l a = refl
  fields_made no_fields n apart (absent ps) h ms os l a = absurd (cc)
  fields_made no_fields n apart (present v ps) h ms os l a = absurd (cc)
  fields_made (field name need T fs) n apart no_places h ms os l a = absurd (cc)
  fields_made (field name need T fs) n apart (absent ps) h ms os l a =
      let p = both (may_be_absent need) (fields_fit fs ps) h in
      let e = a name (inl refl) ∙ fields_keep name fs ps ms (λ i. apart (stands_again name (field_names fs) i)) ∙ l name (inl refl) in
      rw e (fields_made fs (λ s i. n s (inr i)) (λ r. apart (inr r)) ps p.1 ms os (λ key i. l key (inr i)) (λ key i. a key (inr i)))
  fields_made (field name need T fs) n apart (present v ps) h ms os l a =
      let p = both (is_fit T v) (fields_fit fs ps) h in
      let next = json.put name (made T v) ms in
      let e = a name (inl refl) ∙ fields_keep name fs ps next (λ i. apart (stands_again name (field_names fs) i)) ∙ get_member-put name (made T v) ms in
      rw e (made_denotes T (λ s i. n s (inl i)) v p.0, fields_made fs (λ s i. n s (inr i)) (λ r. apart (inr r)) ps p.1 next os (still_lacks name (field_names fs) (made T v) ms apart l) (λ key i. a key (inr i)))

  additions_made : (more : Additions) → AreNamedAdditions more → (Repeats (addition_names more) → ⊥) → (ps : Places) → additions_fit more ps ≡ true → (ms os : Members) → Lacks (addition_names more) ms → Agrees (addition_names more) os (put_additions more ps ms) → DenoteAdditions more ps os
  additions_made no_additions n apart no_places h ms os l a = refl
  additions_made no_additions n apart (absent ps) h ms os l a = absurd (cc)
  additions_made no_additions n apart (present v ps) h ms os l a = absurd (cc)
  additions_made (addition name T more) n apart no_places h ms os l a = absurd (cc)
  additions_made (addition name T more) n apart (absent ps) h ms os l a =
      let e = a name (inl refl) ∙ additions_keep name more ps ms (λ i. apart (stands_again name (addition_names more) i)) ∙ l name (inl refl) in
      rw e (additions_made more (λ s i. n s (inr i)) (λ r. apart (inr r)) ps h ms os (λ key i. l key (inr i)) (λ key i. a key (inr i)))
  additions_made (addition name T more) n apart (present v ps) h ms os l a =
      let p = both (is_fit T v) (additions_fit more ps) h in
      let next = json.put name (made T v) ms in
      let e = a name (inl refl) ∙ additions_keep name more ps next (λ i. apart (stands_again name (addition_names more) i)) ∙ get_member-put name (made T v) ms in
      rw e (made_denotes T (λ s i. n s (inl i)) v p.0, additions_made more (λ s i. n s (inr i)) (λ r. apart (inr r)) ps p.1 next os (still_lacks name (addition_names more) (made T v) ms apart l) (λ key i. a key (inr i)))

  alternative_made : (more : Alternatives) → AreNamedAlternatives more → (t : Tag) (v : AsnValue) → alternative_fits more t v ≡ true → Stands more t v (made_alternative more t v)
  alternative_made no_alternatives n t v h = absurd (cc)
  alternative_made (alternative name u T more) n t v h = alternative_step name u t T v (alternative_fits more t v) more (made_denotes T (λ s i. n s (inl i)) v) (alternative_made more (λ s i. n s (inr i)) t v) (same_tag u t) refl h
  alternative_made (later name u T more) n t v h = alternative_step name u t T v (alternative_fits more t v) more (made_denotes T (λ s i. n s (inl i)) v) (alternative_made more (λ s i. n s (inr i)) t v) (same_tag u t) refl h

pub made_taken : MadeTaken
made_taken T w v f = (made_denotes T (well_named T w) v (fit_complete T v f), f)
