-- A field of a class that is found to be a type's is one.
use Rattle.std.proofs.Common.{◌≡◌, ◌∙◌, ℕ, List, true, Option, Some, None, Result, Ok, Err, codes, refl, ap, slice_get}
use Rattle.std.proofs.lemmas.Slice.Eq.{bytes_eq-Decides}
use Rattle.std.specs.Str.{bytes_eq}
use Rattle.oer_module_names.proofs.Stands.{finds_stands}
use Rattle.oer_module_names.specs.Finding.{Fault, find}
use Rattle.oer_module_names.specs.Tables.{assignments_in}
use Rattle.oer_module_names.specs.declared.error.Found.{Found}
use Rattle.oer_module_syntax.specs.Tree.{Assignment, Module}
use Rattle.oer_module_syntax.specs.Words.{is_useful_class}
use Rattle.oer_module_text.specs.Errors.{place_in, told_by}
use Rattle.oer_module_types.specs.Fields.{has_field, is_open, is_open_by}
use Rattle.oer_module_values.specs.Looks.{own}
use Rattle.oer_module_values.specs.Types.{Referent, answered, held, referred}
use Rattle.oer_meant_leaves.proofs.Results.{text_told}
use Rattle.oer_meant_types.proofs.Holding.{Holds, choose, once}
use Rattle.oer_meant_types.specs.Types.{HasTypeField, defined, useful}

module _ (ms : List Module) (m at : ℕ) (class w : List ℕ) where
  held_defined : (f : Found) (o : Option Assignment) (c : Referent) → find ms m class ≡ Ok f
      → slice_get (assignments_in ms f.«module») f.assignment ≡ o → held (place_in m at) class f.«module» o ≡ Ok (Some c)
      → has_field w c.assignment.body ≡ true → HasTypeField ms m class w
  held_defined f None c is there h has = absurd (cc)
  held_defined f (Some a) c is there h has =
      let e : record { «module» = f.«module»; assignment = a } ≡ c = cc in
      defined f c.assignment (finds_stands ms class m f is) (there ∙ ap (λ x. Some x.assignment) e) has

  found_defined : (o : Result Found Fault) (c : Referent) → find ms m class ≡ o → answered ms (place_in m at) class o ≡ Ok (Some c)
      → has_field w c.assignment.body ≡ true → HasTypeField ms m class w
  found_defined (Ok f) c is h has = held_defined f _ c is refl h has
  found_defined (Err e) c is h has = absurd (cc)

  by_assignment : (o : Option Referent) → referred ms (place_in m at) class own ≡ Ok o → is_open_by w o ≡ true → HasTypeField ms m class w
  by_assignment None is has = absurd (cc)
  by_assignment (Some c) is has = found_defined (find ms m class) c refl is has

  pub is_type_field : Holds (λ o. o ≡ true → HasTypeField ms m class w) (is_open ms m at class w)
  is_type_field = choose _ (is_useful_class class) _ _
      (λ known. record { told = λ same. useful known (equal same) })
      (λ other. once _ (told_by (referred ms (place_in m at) class own)) _ (λ c is.
      record { told = by_assignment c (text_told (referred ms (place_in m at) class own) c is) }))
    where
      equal : bytes_eq w (codes "&Type") ≡ true → w ≡ codes "&Type"
      equal same = (bytes_eq-Decides w (codes "&Type")).0 same
