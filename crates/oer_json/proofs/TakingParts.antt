-- A SEQUENCE with an extension marker and a CHOICE, step by step.
use Rattle.std.proofs.Common.{◌≡◌, ℕ, List, true, false, Option, Some, None, Vec, Global, Result, Ok, Err, refl, ◌∙◌}
use Rattle.serde_json.specs.Data.{Data, Members}
use Rattle.oer_model.specs.AsnType.{Additions, Fields, extensible_sequence, no_alternatives}
use Rattle.oer_model.specs.AsnValue.{AsnValue, Places, Unknown, seq}
use Rattle.oer_model.specs.Constraints.{addition_count}
use Rattle.oer_values.specs.ShapeView.{choice_with, later_of, root_of}
use Rattle.oer_model.specs.WellFormed.{addition_names, field_names}
use Rattle.oer_values.specs.declared.shape.Alt.{Alt}
use Rattle.oer_json.specs.Keys.{all_pass, keys_of}
use Rattle.oer_json.specs.Take.{foreign_in, is_key, members_in, one_member, take, take_additions, take_alternative, take_fields, take_unknown}
use Rattle.oer_json.specs.declared.fault.JsonFault.{JsonFault}
use Rattle.oer_json.specs.declared.fault.JsonFault.TheVariants.{Name}
use Rattle.oer_json.proofs.Taking.{later_same, root_first}

module _ (fs : Fields) (more : Additions) (j : Data) (ms : Members) (is : members_in j ≡ Ok ms) where
  pub ext_name : all_pass (is_key (field_names fs) (addition_names more)) (keys_of ms) ≡ false → take (extensible_sequence fs more) j ≡ Err Name
  ext_name k = rw (is, k) refl

  pub ext_root : (e : JsonFault) → all_pass (is_key (field_names fs) (addition_names more)) (keys_of ms) ≡ true → take_fields fs ms ≡ Err e → take (extensible_sequence fs more) j ≡ Err e
  ext_root e k r = rw (is, k, r) refl

  pub ext_added : (e : JsonFault) (root : Places) → all_pass (is_key (field_names fs) (addition_names more)) (keys_of ms) ≡ true → take_fields fs ms ≡ Ok root → take_additions more ms ≡ Err e → take (extensible_sequence fs more) j ≡ Err e
  ext_added e root k r a = rw (is, k, r, a) refl

  pub ext_unknown : (e : JsonFault) (root added : Places) → all_pass (is_key (field_names fs) (addition_names more)) (keys_of ms) ≡ true → take_fields fs ms ≡ Ok root → take_additions more ms ≡ Ok added
      → take_unknown (addition_count more) ms ≡ Err e → take (extensible_sequence fs more) j ≡ Err e
  ext_unknown e root added k r a u = rw (is, k, r, a, u) refl

  pub ext_ok : (root added : Places) (us : List Unknown) → all_pass (is_key (field_names fs) (addition_names more)) (keys_of ms) ≡ true → take_fields fs ms ≡ Ok root → take_additions more ms ≡ Ok added
      → take_unknown (addition_count more) ms ≡ Ok us → take (extensible_sequence fs more) j ≡ Ok (seq root added us)
  ext_ok root added us k r a u = rw (is, k, r, a, u) refl

module _ (root : List Alt) (j : Data) (key : List ℕ) (d : Data) (is : one_member j ≡ Ok (key, d)) where
  -- where the root has an answer
  pub choice_found : (additions : Option (Vec Alt Global)) (r : Result AsnValue JsonFault) → ((o : Result AsnValue JsonFault) → take_alternative o (root_of root no_alternatives) key d ≡ r) → take (choice_with root additions) j ≡ r
  choice_found None r h = rw is (h _)
  choice_found (Some more) r h = rw is (root_first _ root (later_of more.items) key d ∙ h _)

  module _ (none : (o : Result AsnValue JsonFault) → take_alternative o (root_of root no_alternatives) key d ≡ o) where
    pub choice_nowhere : take (choice_with root None) j ≡ Err Name
    choice_nowhere = rw is (none _)

    pub choice_later : (more : Vec Alt Global) (r : Result AsnValue JsonFault) → ((o : Result AsnValue JsonFault) → take_alternative o (root_of more.items no_alternatives) key d ≡ r) → take (choice_with root (Some more)) j ≡ r
    choice_later more r h = rw is (root_first _ root (later_of more.items) key d ∙ none _ ∙ later_same _ more.items key d ∙ h _)

    pub choice_foreign : (more : Vec Alt Global) → ((o : Result AsnValue JsonFault) → take_alternative o (root_of more.items no_alternatives) key d ≡ o) → take (choice_with root (Some more)) j ≡ foreign_in (choice_with root (Some more)) key d
    choice_foreign more h = rw is (root_first _ root (later_of more.items) key d ∙ none _ ∙ later_same _ more.items key d ∙ h _)
