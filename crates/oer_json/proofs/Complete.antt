-- A value that the JSON stands for, and that fits, is answered.
use Rattle.std.proofs.Common.{◌≡◌, ◌⊎◌, inl, inr, ℕ, ◌^◌, ◌&&◌, ◌||◌, ltb, not, List, [], ◌∷◌, Bool, true, false, cond, Option, Some, None, Result, Ok, Err, refl, sym, ap, ap₂, subst, ◌∙◌, arith}
use Rattle.std.specs.Fmt.{decimal}
use Rattle.std.specs.Str.{bytes_eq}
use Rattle.std.proofs.lemmas.Bool.{false_from_ne_true, ltb-true}
use Rattle.std.proofs.lemmas.Slice.Eq.{bytes_eq-Decides}
use Rattle.serde_json.specs.Data as json
use Rattle.serde_json.specs.Data.{Data, Items, Members}
use Rattle.serde_json.specs.Find.{get_member}
use Rattle.oer_units.specs.Reading.{is_int64}
use Rattle.oer_units.specs.declared.tagging.Tag.{Tag}
use Rattle.oer_model.specs.LeafType as kind
use Rattle.oer_model.specs.LeafType.{LeafType}
use Rattle.oer_model.specs.LeafValue.{LeafValue}
use Rattle.oer_model.specs.LeafValue as leaf_kind
use Rattle.oer_model.specs.AsnType.{Additions, Alternatives, AsnType, Fields, addition, alternative, boolean, choice, extensible_sequence, field, later, leaf, no_additions, no_alternatives, no_fields, null, sequence, sequence_of}
use Rattle.oer_model.specs.AsnValue.{AsnValue, Places, Unknown, Values, absent, bit_list, chosen, enum, foreign, int, items, leaf_value, no_places, no_values, octets, oid, present, seq, text, value}
use Rattle.oer_model.specs.Constraints.{addition_count, has_number, has_tag, same_tag, size_fits}
use Rattle.oer_values.specs.DefaultView.{place}
use Rattle.oer_model.specs.FitTest.{additions_fit, all_below, all_fit, alternative_fits, fields_fit, is_fit, is_fit_leaf, is_without, may_be_absent, unknown_fit, values_length}
use Rattle.oer_model.specs.WellFormed.{AnyOf, Repeats, alternative_names, alternative_tags, field_names}
use Rattle.oer_model.proofs.fitting.FitTests.{both, fit_complete}
use Rattle.oer_model.proofs.filling.Same.{same_tag-refl, same_tag-true}
use Rattle.oer_json.specs.Answer.{◌>>=◌, some_or}
use Rattle.oer_json.specs.Denotes.{DenoteAdditions, DenoteFields, DenoteItems, Denotes, DenotesAlternative, DenotesOctets, DenotesPlace, IsOneOf, LeafDenotes, only}
use Rattle.oer_json.specs.Keys.{class_letter, is_among, tag_digits, tag_key}
use Rattle.oer_json.specs.Laws.{OneTaken, TakenComplete}
use Rattle.oer_json.specs.Made.{named_numbers}
use Rattle.oer_json.specs.Take.{as_value, fitting, foreign_in, foreign_with, leaf_in, octets_in, one_member, sized, tag_of, take, take_additions, take_alternative, take_fields, take_foreign, take_items, take_place, take_unknown, taken}
use Rattle.oer_literals.specs.Numbers.{tag_number_of}
use Rattle.oer_json.specs.declared.fault.JsonFault.{JsonFault}
use Rattle.oer_json.specs.declared.fault.JsonFault.TheVariants.{Misfit, Name, Range}
use Rattle.oer_json.proofs.Answered.{ok_is}
use Rattle.oer_json.proofs.CompleteLeaves.{arcs_taken, bits_taken, fitting_is, integer_taken, item_taken, octets_taken, text_taken}
use Rattle.oer_json.proofs.KeysOf.{all_passed, each_by, is_among_them}
use Rattle.oer_json.proofs.Named.{AreNamedAdditions, AreNamedAlternatives, AreNamedFields, IsNamed, choice_apart, choice_names, choice_tags, in_additions, in_choice, in_list, in_root, in_sequence, items_apart, stands_again, well_named}
use Rattle.oer_json.proofs.PlaceKeys.{no_hash, tag_made, tag_number_made}
use Rattle.oer_json.proofs.UnknownComplete.{all_unknown_taken, keys_pass}

-- ---- steps

items_taken : (f : Data → Result AsnValue JsonFault) (P : AsnValue → Data → Type 0) (fit : AsnValue → Bool) → ((v : AsnValue) (j : Data) → P v j → fit v ≡ true → f j ≡ Ok v) → (vs : Values) (js : Items) → DenoteItems P vs js → all_fit fit vs ≡ true → take_items f js ≡ Ok vs
items_taken f P fit s no_values json.no_items d h = refl
items_taken f P fit s no_values (json.item j js) d h = absurd d
items_taken f P fit s (value v vs) json.no_items d h = absurd d
items_taken f P fit s (value v vs) (json.item j js) d h = let p = both (fit v) (all_fit fit vs) h in rw (s v j d.0 p.0, items_taken f P fit s vs js d.1 p.1) refl

-- a component and those after it
step : (r : Result (Option AsnValue) JsonFault) (s : Result Places JsonFault) (p : Option AsnValue) (ps : Places) → r ≡ Ok p → s ≡ Ok ps → (r >>= λ p. s >>= λ ps. Ok (place p ps)) ≡ Ok (place p ps)
step r s p ps e f = rw (e, f) refl

there_taken : (optional : Bool) (f : Data → Result AsnValue JsonFault) (j : Data) (v : AsnValue) → f j ≡ Ok v → take_place optional f (Some j) ≡ Ok (Some v)
there_taken optional f j v e = rw e refl

absent_taken : (optional : Bool) (f : Data → Result AsnValue JsonFault) → optional ≡ true → take_place optional f None ≡ Ok None
absent_taken optional f e = rw e refl

-- a component, from what is known of its place and of those after it
module _ (optional : Bool) (T : AsnType) (Rest : Places → Type 0) (fit : Places → Bool) (s : Result Places JsonFault) (here : (j : Data) (v : AsnValue) → Denotes T v j → is_fit T v ≡ true → take T j ≡ Ok v) (rest : (ps : Places) → Rest ps → fit ps ≡ true → s ≡ Ok ps) where
  place_taken : (o : Option Data) (ps : Places) → DenotesPlace (Denotes T) Rest o (absent ps) → (optional && fit ps) ≡ true → (take_place optional (take T) o >>= λ p. s >>= λ ps. Ok (place p ps)) ≡ Ok (absent ps)
  place_taken None ps d h = let p = both optional (fit ps) h in step (take_place optional (take T) None) s None ps (absent_taken optional (take T) p.0) (rest ps d p.1)
  place_taken (Some j) ps d h = absurd d

  value_taken : (o : Option Data) (v : AsnValue) (ps : Places) → DenotesPlace (Denotes T) Rest o (present v ps) → (is_fit T v && fit ps) ≡ true → (take_place optional (take T) o >>= λ p. s >>= λ ps. Ok (place p ps)) ≡ Ok (present v ps)
  value_taken None v ps d h = absurd d
  value_taken (Some j) v ps d h = let p = both (is_fit T v) (fit ps) h in step (take_place optional (take T) (Some j)) s (Some v) ps (there_taken optional (take T) j v (here j v d.0 p.0)) (rest ps d.1 p.1)

without : (ps : Places) (us : List Unknown) → is_without ps us ≡ true → (ps ≡ no_places) × (us ≡ [])
without no_places [] h = (refl, refl)
without no_places (u ∷ us) h = absurd (cc)
without (absent ps) us h = absurd (cc)
without (present v ps) us h = absurd (cc)

one_member_is : (key : List ℕ) (d j : Data) → j ≡ only key d → one_member j ≡ Ok (key, d)
unfolding one_member
one_member_is key d j e = ap one_member e

-- ---- alternatives

differs : (x y : List ℕ) → (x ≡ y → ⊥) → bytes_eq x y ≡ false
differs x y h = false_from_ne_true (bytes_eq x y) (λ e. h ((bytes_eq-Decides x y).0 e))

other_tag : (u t : Tag) → (u ≡ t → ⊥) → same_tag u t ≡ false
other_tag u t h = false_from_ne_true (same_tag u t) (λ e. h (same_tag-true u t e))

denoted_names : (more : Alternatives) (key : List ℕ) (t : Tag) (v : AsnValue) (d : Data) → DenotesAlternative more key t v d → IsOneOf (alternative_names more) key
denoted_names no_alternatives key t v d h = absurd h
denoted_names (alternative name u T more) key t v d (inl h) = inl h.0
denoted_names (alternative name u T more) key t v d (inr h) = inr (denoted_names more key t v d h)
denoted_names (later name u T more) key t v d (inl h) = inl h.0
denoted_names (later name u T more) key t v d (inr h) = inr (denoted_names more key t v d h)

denoted_tags : (more : Alternatives) (key : List ℕ) (t : Tag) (v : AsnValue) (d : Data) → DenotesAlternative more key t v d → AnyOf (λ u. u ≡ t) (alternative_tags more)
denoted_tags no_alternatives key t v d h = absurd h
denoted_tags (alternative name u T more) key t v d (inl h) = inl h.1
denoted_tags (alternative name u T more) key t v d (inr h) = inr (denoted_tags more key t v d h)
denoted_tags (later name u T more) key t v d (inl h) = inl h.1
denoted_tags (later name u T more) key t v d (inr h) = inr (denoted_tags more key t v d h)

again : (name key : List ℕ) (more : Alternatives) (t : Tag) (v : AsnValue) (d : Data) → name ≡ key → DenotesAlternative more key t v d → Repeats (name ∷ alternative_names more)
again name key more t v d e a = stands_again name (alternative_names more) (subst (IsOneOf (alternative_names more)) (sym e) (denoted_names more key t v d a))

tag_again : (u t : Tag) (key : List ℕ) (more : Alternatives) (v : AsnValue) (d : Data) → u ≡ t → DenotesAlternative more key t v d → Repeats (u ∷ alternative_tags more)
tag_again u t key more v d e a = stands_again u (alternative_tags more) (subst (λ t. AnyOf (λ u. u ≡ t) (alternative_tags more)) (sym e) (denoted_tags more key t v d a))

-- no alternative has the name
no_name : (otherwise : Result AsnValue JsonFault) (more : Alternatives) (key : List ℕ) (d : Data) → (IsOneOf (alternative_names more) key → ⊥) → take_alternative otherwise more key d ≡ otherwise
no_name otherwise no_alternatives key d h = refl
no_name otherwise (alternative name u T more) key d h = ap (λ b. cond b (take T d >>= λ v. Ok (chosen u v)) (take_alternative otherwise more key d)) (differs name key (λ e. h (inl e))) ∙ no_name otherwise more key d (λ i. h (inr i))
no_name otherwise (later name u T more) key d h = ap (λ b. cond b (take T d >>= λ v. Ok (chosen u v)) (take_alternative otherwise more key d)) (differs name key (λ e. h (inl e))) ∙ no_name otherwise more key d (λ i. h (inr i))

-- the alternative with the name and the tag, or a later one
alternative_step : (name key : List ℕ) (u t : Tag) (T : AsnType) (v : AsnValue) (d : Data) (fits : Bool) (Later : Type 0) (s : Result AsnValue JsonFault)
    → (Denotes T v d → is_fit T v ≡ true → take T d ≡ Ok v) → (Later → (name ≡ key → ⊥) × (u ≡ t → ⊥)) → (Later → fits ≡ true → s ≡ Ok (chosen t v))
    → ((name ≡ key) × (u ≡ t) × Denotes T v d) ⊎ Later → cond (same_tag u t) (is_fit T v) fits ≡ true → cond (bytes_eq name key) (take T d >>= λ v. Ok (chosen u v)) s ≡ Ok (chosen t v)
alternative_step name key u t T v d fits Later s here apart there (inl (e, f, h)) fit =
    let same : same_tag u t ≡ true = ap (same_tag u) (sym f) ∙ same_tag-refl u in
    let g = here h (rw same at fit) in
    ap (λ b. cond b (take T d >>= λ v. Ok (chosen u v)) s) ((bytes_eq-Decides name key).1 e) ∙ ap (λ r. r >>= λ v. Ok (chosen u v)) g ∙ ap (λ u. Ok (chosen u v)) f
alternative_step name key u t T v d fits Later s here apart there (inr h) fit =
    let other = apart h in
    let g = there h (rw (other_tag u t other.1) at fit) in
    ap (λ b. cond b (take T d >>= λ v. Ok (chosen u v)) s) (differs name key other.0) ∙ g

module _ (T : AsnType) (key : List ℕ) (d : Data) where
  foreign_taken : (t : Tag) (w : List ℕ) → key ≡ tag_key t → DenotesOctets w d → is_fit T (foreign t w) ≡ true → ltb t.number (2 ^ 32) ≡ true → foreign_in T key d ≡ Ok (foreign t w)
  unfolding foreign_in foreign_with
  foreign_taken t w e o h small =
      let l = ltb-true t.number (2 ^ 32) small in
      ap (λ o. some_or Name o >>= λ tag. octets_in d >>= λ w. some_or Range (tag_number_of tag.1) >>= λ n. fitting T (foreign (tag_of tag.0 n) w)) (ap tag_digits e ∙ tag_made t l)
      ∙ ap (λ r. r >>= λ w. some_or Range (tag_number_of (decimal t.number)) >>= λ n. fitting T (foreign (tag_of t.class n) w)) (octets_taken w d o)
      ∙ ap (λ o. some_or Range o >>= λ n. fitting T (foreign (tag_of t.class n) w)) (tag_number_made t.number l)
      ∙ ap (λ b. cond b (Ok (foreign t w)) (Err Misfit)) h

-- ---- every type

leaf_answered : (kind : LeafType) → IsNamed (leaf kind) → (j : Data) (v : LeafValue) → LeafDenotes (named_numbers (leaf kind)) v j → is_fit_leaf kind v ≡ true → leaf_in (leaf kind) j ≡ Ok (leaf_value v)
leaf_answered kind.boolean n j (leaf_kind.bool b) d h = ap (leaf_in boolean) d
leaf_answered kind.null n j leaf_kind.nothing d h = ap (leaf_in null) d
leaf_answered (kind.integer low high) n j (leaf_kind.int z) d h = ap (as_value int) (integer_taken low high z j d h)
leaf_answered (kind.enumerated numbers e) n j (leaf_kind.enum z) d h =
    ap (as_value enum) (item_taken numbers z j (items_apart numbers e n) d (both (is_int64 z) (e || has_number numbers z) h).0)
leaf_answered (kind.bit_string size) n j (leaf_kind.bit_list s) d h = ap (as_value bit_list) (bits_taken s j d)
leaf_answered (kind.octet_string size) n j (leaf_kind.octets w) d h = ap (as_value octets) (octets_taken w j d)
leaf_answered kind.object_id n j (leaf_kind.oid arcs) d h = ap (as_value oid) (arcs_taken arcs j d h)
leaf_answered (kind.restricted_string letters size) n j (leaf_kind.text w) d h = ap (as_value text) (text_taken w j d)
leaf_answered (kind.utf8_string size) n j (leaf_kind.text w) d h = ap (as_value text) (text_taken w j d)
leaf_answered _ n j v d h = absurd (cc)

mutual
  pub answered : (T : AsnType) → IsNamed T → (j : Data) (v : AsnValue) → Denotes T v j → is_fit T v ≡ true → take T j ≡ Ok v
  answered (leaf kind) n j (leaf_value v) d h = fitting_is (leaf kind) (leaf_in (leaf kind) j) (leaf_value v) (leaf_answered kind n j v d h) h
  answered (sequence fs) n j (seq root added us) (ms, e, keys, d) h =
      let p = both (is_without added us) (fields_fit fs root) h in
      let w = without added us p.0 in
      let k = all_passed (is_among (field_names fs)) ms (each_by (IsOneOf (field_names fs)) (λ key. is_among (field_names fs) key ≡ true) (is_among_them (field_names fs)) ms keys) in
      ap (take (sequence fs)) e
      ∙ ap (λ b. cond b (take_fields fs ms >>= λ root. Ok (seq root no_places [])) (Err Name)) k
      ∙ ap (λ r. r >>= λ root. Ok (seq root no_places [])) (fields_answered fs (in_sequence fs n) ms root d p.1)
      ∙ ap₂ (λ a u. Ok (seq root a u)) (sym w.0) (sym w.1)
  answered (extensible_sequence fs more) n j (seq root added us) (ms, e, keys, d, a, u) h =
      let p = both (fields_fit fs root) (additions_fit more added && unknown_fit (addition_count more) us) h in
      let q = both (additions_fit more added) (unknown_fit (addition_count more) us) p.1 in
      let k = keys_pass fs more us ms n (addition_count more) q.1 keys in
      ap (take (extensible_sequence fs more)) e
      ∙ ap (λ b. cond b (take_fields fs ms >>= λ root. take_additions more ms >>= λ added. take_unknown (addition_count more) ms >>= λ us. Ok (seq root added us)) (Err Name)) k
      ∙ ap (λ r. r >>= λ root. take_additions more ms >>= λ added. take_unknown (addition_count more) ms >>= λ us. Ok (seq root added us)) (fields_answered fs (in_root fs more n) ms root d p.0)
      ∙ ap (λ r. r >>= λ added. take_unknown (addition_count more) ms >>= λ us. Ok (seq root added us)) (additions_answered more (in_additions fs more n) ms added a q.0)
      ∙ ap (λ r. r >>= λ us. Ok (seq root added us)) (all_unknown_taken fs more us ms n (addition_count more) q.1 keys u (addition_count more) (omega arith))
  answered (sequence_of size T) n j (items vs) (js, e, d) h =
      let p = both (size_fits size (values_length vs)) (all_fit (is_fit T) vs) h in
      ap (take (sequence_of size T)) e
      ∙ ap (λ r. r >>= sized size) (items_taken (take T) (Denotes T) (is_fit T) (λ v j. answered T (in_list size T n) j v) vs js d p.1)
      ∙ ap (λ b. cond b (Ok (items vs)) (Err Misfit)) p.0
  answered (choice e more) n j (chosen t v) (key, d, is, a) h =
      ap (λ r. r >>= λ m. take_alternative (take_foreign (choice e more) e m.0 m.1) more m.0 m.1) (one_member_is key d j is)
      ∙ alternative_answered (take_foreign (choice e more) e key d) more (in_choice e more n) (choice_apart e more n) (choice_tags e more n) key d t v a h
  answered (choice e more) n j (foreign t w) (d, is, o) h =
      let p = both e (not (has_tag t more) && (ltb t.number (2 ^ 32) && all_below 256 w)) h in
      let q = both (not (has_tag t more)) (ltb t.number (2 ^ 32) && all_below 256 w) p.1 in
      let r = both (ltb t.number (2 ^ 32)) (all_below 256 w) q.1 in
      ap (λ r. r >>= λ m. take_alternative (take_foreign (choice e more) e m.0 m.1) more m.0 m.1) (one_member_is (tag_key t) d j is)
      ∙ no_name (take_foreign (choice e more) e (tag_key t) d) more (tag_key t) d (λ i. no_hash (tag_key t) (class_letter t.class ∷ decimal t.number) (choice_names e more n (tag_key t) i) refl)
      ∙ ap (λ e'. take_foreign (choice e more) e' (tag_key t) d) p.0
      ∙ foreign_taken (choice e more) (tag_key t) d t w refl o h r.0
  answered T n j v d h = absurd d

  fields_answered : (fs : Fields) → AreNamedFields fs → (ms : Members) (ps : Places) → DenoteFields fs ps ms → fields_fit fs ps ≡ true → take_fields fs ms ≡ Ok ps
  fields_answered no_fields n ms ps d h = ap Ok (sym d)
  fields_answered (field name need T fs) n ms no_places d h = absurd (cc)
  fields_answered (field name need T fs) n ms (absent ps) d h =
      place_taken (may_be_absent need) T (λ rest. DenoteFields fs rest ms) (fields_fit fs) (take_fields fs ms) (λ j v. answered T (λ s i. n s (inl i)) j v) (λ ps. fields_answered fs (λ s i. n s (inr i)) ms ps) (get_member name ms) ps d h
  fields_answered (field name need T fs) n ms (present v ps) d h =
      value_taken (may_be_absent need) T (λ rest. DenoteFields fs rest ms) (fields_fit fs) (take_fields fs ms) (λ j v. answered T (λ s i. n s (inl i)) j v) (λ ps. fields_answered fs (λ s i. n s (inr i)) ms ps) (get_member name ms) v ps d h

  additions_answered : (more : Additions) → AreNamedAdditions more → (ms : Members) (ps : Places) → DenoteAdditions more ps ms → additions_fit more ps ≡ true → take_additions more ms ≡ Ok ps
  additions_answered no_additions n ms ps d h = ap Ok (sym d)
  additions_answered (addition name T more) n ms no_places d h = absurd (cc)
  additions_answered (addition name T more) n ms (absent ps) d h =
      place_taken true T (λ rest. DenoteAdditions more rest ms) (additions_fit more) (take_additions more ms) (λ j v. answered T (λ s i. n s (inl i)) j v) (λ ps. additions_answered more (λ s i. n s (inr i)) ms ps) (get_member name ms) ps d h
  additions_answered (addition name T more) n ms (present v ps) d h =
      value_taken true T (λ rest. DenoteAdditions more rest ms) (additions_fit more) (take_additions more ms) (λ j v. answered T (λ s i. n s (inl i)) j v) (λ ps. additions_answered more (λ s i. n s (inr i)) ms ps) (get_member name ms) v ps d h

  alternative_answered : (otherwise : Result AsnValue JsonFault) (more : Alternatives) → AreNamedAlternatives more → (Repeats (alternative_names more) → ⊥) → (Repeats (alternative_tags more) → ⊥)
      → (key : List ℕ) (d : Data) (t : Tag) (v : AsnValue) → DenotesAlternative more key t v d → alternative_fits more t v ≡ true → take_alternative otherwise more key d ≡ Ok (chosen t v)
  alternative_answered otherwise no_alternatives n names tags key d t v a h = absurd a
  alternative_answered otherwise (alternative name u T more) n names tags key d t v a h =
      alternative_step name key u t T v d (alternative_fits more t v) (DenotesAlternative more key t v d) (take_alternative otherwise more key d) (λ a. answered T (λ s i. n s (inl i)) d v a)
      (λ a. (λ e. names (again name key more t v d e a), λ e. tags (tag_again u t key more v d e a)))
      (λ a. alternative_answered otherwise more (λ s i. n s (inr i)) (λ r. names (inr r)) (λ r. tags (inr r)) key d t v a) a h
  alternative_answered otherwise (later name u T more) n names tags key d t v a h =
      alternative_step name key u t T v d (alternative_fits more t v) (DenotesAlternative more key t v d) (take_alternative otherwise more key d) (λ a. answered T (λ s i. n s (inl i)) d v a)
      (λ a. (λ e. names (again name key more t v d e a), λ e. tags (tag_again u t key more v d e a)))
      (λ a. alternative_answered otherwise more (λ s i. n s (inr i)) (λ r. names (inr r)) (λ r. tags (inr r)) key d t v a) a h

taken_is : (T : AsnType) (j : Data) (v : AsnValue) → take T j ≡ Ok v → is_fit T v ≡ true → taken T j ≡ Ok v
unfolding taken
taken_is T j v e h = fitting_is T (take T j) v e h

pub taken_complete : TakenComplete
taken_complete T w j v (d, f) = let h = fit_complete T v f in taken_is T j v (answered T (well_named T w) j v d h) h

pub one_taken : OneTaken
one_taken T w j v x a b = ok_is v x (sym (taken_complete T w j v a) ∙ taken_complete T w j x b)
