-- A value that is answered is one that the JSON stands for.
use Rattle.std.proofs.Common.{◌≡◌, ◌⊎◌, inl, inr, ⊎_elim, ℕ, List, [], ◌∷◌, Bool, true, false, cond, Option, Some, None, Result, Ok, refl, sym, ap, subst, ◌∙◌}
use Rattle.std.specs.Str.{bytes_eq}
use Rattle.std.proofs.lemmas.Slice.Eq.{bytes_eq-Decides}
use Rattle.serde_json.specs.Data as json
use Rattle.serde_json.specs.Data.{Data, Items, Members}
use Rattle.serde_json.specs.Find.{as_bool, as_null, get_member}
use Rattle.oer_units.specs.declared.tagging.Tag.{Tag}
use Rattle.oer_model.specs.AsnType.{Additions, Alternatives, AsnType, Fields, addition, alternative, bit_string, boolean, choice, enumerated, extensible_sequence, field, integer, later, leaf, no_additions, no_alternatives, no_fields, null, object_id, octet_string, restricted_string, sequence, sequence_of, utf8_string}
use Rattle.oer_model.specs.AsnValue.{AsnValue, Places, Values, bit_list, bool, chosen, enum, foreign, int, items, no_places, no_values, nothing, octets, oid, seq, text, value}
use Rattle.oer_model.specs.Constraints.{addition_count, size_fits}
use Rattle.oer_values.specs.DefaultView.{place}
use Rattle.oer_model.specs.FitTest.{is_fit, may_be_absent, values_length}
use Rattle.oer_model.specs.WellFormed.{addition_names, field_names}
use Rattle.oer_model.proofs.fitting.FitTests.{fit_sound}
use Rattle.oer_json.specs.Answer.{◌>>=◌, some_or}
use Rattle.oer_json.specs.Denotes.{DenoteAdditions, DenoteFields, DenoteItems, Denotes, DenotesAlternative, DenotesOctets, DenotesPlace, IsOneOf, only}
use Rattle.oer_json.specs.Keys.{all_pass, class_letter, is_among, keys_of, tag_digits, tag_key}
use Rattle.oer_json.specs.Laws.{TakenSound}
use Rattle.oer_json.specs.Take.{arcs_in, bits_in, bool_in, foreign_in, foreign_with, integer_in, is_key, item_in, items_in, leaf_in, members_in, null_in, octets_in, one_member, sized, tag_of, take, take_additions, take_alternative, take_fields, take_foreign, take_items, take_place, take_unknown, taken, text_in}
use Rattle.oer_literals.specs.Numbers.{tag_number_of}
use Rattle.oer_json.specs.declared.fault.JsonFault.{JsonFault}
use Rattle.oer_json.specs.declared.fault.JsonFault.TheVariants.{Kind, Misfit, Missing, Name, Range}
use Rattle.oer_json.proofs.Answered.{bound_ok, given, if_ok, ok_is}
use Rattle.oer_json.proofs.KeysOf.{among_is, each_by, each_passed}
use Rattle.oer_json.proofs.PlaceKeys.{tag_number_read, tag_read}
use Rattle.oer_json.proofs.SoundLeaves.{arcs_denoted, bits_denoted, bool_is, fitting_ok, integer_denoted, item_denoted, items_is, members_is, null_is, octets_denoted, one_is, read_as, text_is}
use Rattle.oer_json.proofs.UnknownSound.{keys_denoted, unknown_taken}

items_denoted : (f : Data → Result AsnValue JsonFault) (P : AsnValue → Data → Type 0) → ((j : Data) (v : AsnValue) → f j ≡ Ok v → P v j) → (js : Items) (vs : Values) → take_items f js ≡ Ok vs → DenoteItems P vs js
items_denoted f P s json.no_items vs h = subst (λ vs. DenoteItems P vs json.no_items) (ok_is no_values vs h) tt
items_denoted f P s (json.item j js) vs h =
    let p = bound_ok (f j) _ vs h in
    let q = bound_ok (take_items f js) _ vs p.2 in
    subst (λ vs. DenoteItems P vs (json.item j js)) (ok_is (value p.0 q.0) vs q.2) (s j p.0 p.1, items_denoted f P s js q.0 q.1)

place_denoted : (optional : Bool) (f : Data → Result AsnValue JsonFault) (P : AsnValue → Data → Type 0) (Rest : Places → Type 0) (o : Option Data) (p : Option AsnValue) (ps : Places) → ((j : Data) (v : AsnValue) → f j ≡ Ok v → P v j)
    → take_place optional f o ≡ Ok p → Rest ps → DenotesPlace P Rest o (place p ps)
place_denoted optional f P Rest None p ps s h r = subst (λ p. DenotesPlace P Rest None (place p ps)) (ok_is None p (if_ok optional (Ok None) Missing p h).1) r
place_denoted optional f P Rest (Some j) p ps s h r = let q = bound_ok (f j) _ p h in subst (λ p. DenotesPlace P Rest (Some j) (place p ps)) (ok_is (Some q.0) p q.2) (s j q.0 q.1, r)

-- an alternative that the type doesn't know
abbrev IsForeign : List ℕ → Data → AsnValue → Type 0
IsForeign key d v = (t : Tag) × (w : List ℕ) × (foreign t w ≡ v) × (key ≡ tag_key t) × DenotesOctets w d

foreign_denoted : (T : AsnType) (key : List ℕ) (d : Data) (v : AsnValue) → foreign_in T key d ≡ Ok v → IsForeign key d v
unfolding foreign_in foreign_with
foreign_denoted T key d v h =
    let p = bound_ok (some_or Name (tag_digits key)) _ v h in
    let q = bound_ok (octets_in d) _ v p.2 in
    let r = bound_ok (some_or Range (tag_number_of p.0.1)) _ v q.2 in
    let f = if_ok (is_fit T (foreign (tag_of p.0.0 r.0) q.0)) (Ok (foreign (tag_of p.0.0 r.0) q.0)) Misfit v r.2 in
    let k = tag_read key p.0 (given Name (tag_digits key) p.0 p.1) in
    let n = tag_number_read p.0.1 r.0 k.1 (given Range (tag_number_of p.0.1) r.0 r.1) in
    (tag_of p.0.0 r.0, q.0, ok_is (foreign (tag_of p.0.0 r.0) q.0) v f.1, k.0 ∙ ap (λ w. 35 ∷ class_letter p.0.0 ∷ w) n, octets_denoted d q.0 q.1)

otherwise_denoted : (T : AsnType) (extensible : Bool) (key : List ℕ) (d : Data) (v : AsnValue) → take_foreign T extensible key d ≡ Ok v → IsForeign key d v
otherwise_denoted T true key d v h = foreign_denoted T key d v h
otherwise_denoted T false key d v h = absurd (cc)

-- one of the alternatives, or what is answered where none has the name
abbrev Either : Result AsnValue JsonFault → Alternatives → List ℕ → Data → AsnValue → Type 0
Either otherwise more key d v = ((t : Tag) × (x : AsnValue) × (chosen t x ≡ v) × DenotesAlternative more key t x d) ⊎ (otherwise ≡ Ok v)

-- one more alternative in front
either_more : (otherwise : Result AsnValue JsonFault) (more : Alternatives) (name key : List ℕ) (u : Tag) (T : AsnType) (d : Data) (v : AsnValue)
    → ((x : AsnValue) → take T d ≡ Ok x → Denotes T x d) → (take_alternative otherwise more key d ≡ Ok v → Either otherwise more key d v)
    → (b : Bool) → bytes_eq name key ≡ b → cond b (take T d >>= λ v. Ok (chosen u v)) (take_alternative otherwise more key d) ≡ Ok v
    → ((t : Tag) × (x : AsnValue) × (chosen t x ≡ v) × (((name ≡ key) × (u ≡ t) × Denotes T x d) ⊎ DenotesAlternative more key t x d)) ⊎ (otherwise ≡ Ok v)
either_more otherwise more name key u T d v here there true e h = let p = bound_ok (take T d) _ v h in inl (u, p.0, ok_is (chosen u p.0) v p.2, inl ((bytes_eq-Decides name key).0 e, refl, here p.0 p.1))
either_more otherwise more name key u T d v here there false e h = ⊎_elim (λ p. inl (p.0, p.1, p.2, inr p.3)) (λ o. inr o) (there h)

-- what is read of a type that holds no other
leaf_denoted : (T : AsnType) (j : Data) (v : AsnValue) → leaf_in T j ≡ Ok v → Denotes T v j
leaf_denoted boolean j v h = read_as (Denotes boolean) bool (bool_in j) j v h (λ x e. bool_is j x (given Kind (as_bool j) x e))
leaf_denoted null j v h = read_as (Denotes null) (λ _. nothing) (null_in j) j v h (λ x e. null_is j x (given Kind (as_null j) x e))
leaf_denoted (integer low high) j v h = read_as (Denotes (integer low high)) int (integer_in j) j v h (integer_denoted j)
leaf_denoted (enumerated numbers e) j v h = read_as (Denotes (enumerated numbers e)) enum (item_in numbers j) j v h (item_denoted numbers j)
leaf_denoted (bit_string size) j v h = read_as (Denotes (bit_string size)) bit_list (bits_in j) j v h (bits_denoted j)
leaf_denoted (octet_string size) j v h = read_as (Denotes (octet_string size)) octets (octets_in j) j v h (octets_denoted j)
leaf_denoted object_id j v h = read_as (Denotes object_id) oid (arcs_in j) j v h (arcs_denoted j)
leaf_denoted (restricted_string letters size) j v h = read_as (Denotes (restricted_string letters size)) text (text_in j) j v h (text_is j)
leaf_denoted (utf8_string size) j v h = read_as (Denotes (utf8_string size)) text (text_in j) j v h (text_is j)
leaf_denoted T j v h = absurd (cc)

mutual
  pub denoted : (T : AsnType) (j : Data) (v : AsnValue) → take T j ≡ Ok v → Denotes T v j
  denoted (leaf kind) j v h = let p = fitting_ok (leaf kind) (leaf_in (leaf kind) j) v h in leaf_denoted (leaf kind) j v p.0
  denoted (sequence fs) j v h =
      let p = bound_ok (members_in j) _ v h in
      let q = if_ok (all_pass (is_among (field_names fs)) (keys_of p.0)) (take_fields fs p.0 >>= λ root. Ok (seq root no_places [])) Name v p.2 in
      let r = bound_ok (take_fields fs p.0) _ v q.1 in
      let keys = each_by (λ key. is_among (field_names fs) key ≡ true) (IsOneOf (field_names fs)) (among_is (field_names fs)) p.0 (each_passed (is_among (field_names fs)) p.0 q.0) in
      subst (λ v. Denotes (sequence fs) v j) (ok_is (seq r.0 no_places []) v r.2) (p.0, members_is j p.0 p.1, keys, fields_denoted fs p.0 r.0 r.1)
  denoted (extensible_sequence fs more) j v h =
      let p = bound_ok (members_in j) _ v h in
      let q = if_ok (all_pass (is_key (field_names fs) (addition_names more)) (keys_of p.0)) (take_fields fs p.0 >>= λ root. take_additions more p.0 >>= λ added. take_unknown (addition_count more) p.0 >>= λ us. Ok (seq root added us)) Name v p.2 in
      let r = bound_ok (take_fields fs p.0) _ v q.1 in
      let a = bound_ok (take_additions more p.0) _ v r.2 in
      let u = bound_ok (take_unknown (addition_count more) p.0) _ v a.2 in
      let t = unknown_taken (addition_count more) p.0 u.0 u.1 in
      subst (λ v. Denotes (extensible_sequence fs more) v j) (ok_is (seq r.0 a.0 u.0) v u.2)
      (p.0, members_is j p.0 p.1, keys_denoted fs more p.0 u.0 t q.0, fields_denoted fs p.0 r.0 r.1, additions_denoted more p.0 a.0 a.1, t.denoted)
  denoted (sequence_of size T) j v h =
      let p = bound_ok (items_in j) _ v h in
      let q = bound_ok (take_items (take T) p.0) (sized size) v p.2 in
      let r = if_ok (size_fits size (values_length q.0)) (Ok (items q.0)) Misfit v q.2 in
      subst (λ v. Denotes (sequence_of size T) v j) (ok_is (items q.0) v r.1) (p.0, items_is j p.0 p.1, items_denoted (take T) (Denotes T) (λ j v. denoted T j v) p.0 q.0 q.1)
  denoted (choice e more) j v h =
      let p = bound_ok (one_member j) _ v h in
      let key = p.0.0 in
      let d = p.0.1 in
      let is = one_is j p.0 p.1 in
      ⊎_elim (λ q. subst (λ v. Denotes (choice e more) v j) q.2 (key, d, is, q.3))
      (λ o. (let q = otherwise_denoted (choice e more) e key d v o in subst (λ v. Denotes (choice e more) v j) q.2 (d, is ∙ ap (λ k. only k d) q.3, q.4)))
      (alternative_denoted (take_foreign (choice e more) e key d) more key d v p.2)

  fields_denoted : (fs : Fields) (ms : Members) (ps : Places) → take_fields fs ms ≡ Ok ps → DenoteFields fs ps ms
  fields_denoted no_fields ms ps h = sym (ok_is no_places ps h)
  fields_denoted (field name need T fs) ms ps h =
      let p = bound_ok (take_place (may_be_absent need) (take T) (get_member name ms)) _ ps h in
      let q = bound_ok (take_fields fs ms) _ ps p.2 in
      subst (λ ps. DenoteFields (field name need T fs) ps ms) (ok_is (place p.0 q.0) ps q.2)
      (place_denoted (may_be_absent need) (take T) (Denotes T) (λ rest. DenoteFields fs rest ms) (get_member name ms) p.0 q.0 (λ j v. denoted T j v) p.1 (fields_denoted fs ms q.0 q.1))

  additions_denoted : (more : Additions) (ms : Members) (ps : Places) → take_additions more ms ≡ Ok ps → DenoteAdditions more ps ms
  additions_denoted no_additions ms ps h = sym (ok_is no_places ps h)
  additions_denoted (addition name T more) ms ps h =
      let p = bound_ok (take_place true (take T) (get_member name ms)) _ ps h in
      let q = bound_ok (take_additions more ms) _ ps p.2 in
      subst (λ ps. DenoteAdditions (addition name T more) ps ms) (ok_is (place p.0 q.0) ps q.2)
      (place_denoted true (take T) (Denotes T) (λ rest. DenoteAdditions more rest ms) (get_member name ms) p.0 q.0 (λ j v. denoted T j v) p.1 (additions_denoted more ms q.0 q.1))

  alternative_denoted : (otherwise : Result AsnValue JsonFault) (more : Alternatives) (key : List ℕ) (d : Data) (v : AsnValue) → take_alternative otherwise more key d ≡ Ok v → Either otherwise more key d v
  alternative_denoted otherwise no_alternatives key d v h = inr h
  alternative_denoted otherwise (alternative name u T more) key d v h = either_more otherwise more name key u T d v (λ x. denoted T d x) (alternative_denoted otherwise more key d v) (bytes_eq name key) refl h
  alternative_denoted otherwise (later name u T more) key d v h = either_more otherwise more name key u T d v (λ x. denoted T d x) (alternative_denoted otherwise more key d v) (bytes_eq name key) refl h

pub taken_sound : TakenSound
unfolding taken
taken_sound T j v h =
    let p = fitting_ok T (take T j) v h in
    (denoted T j v p.0, fit_sound T v p.1)
