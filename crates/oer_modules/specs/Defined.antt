-- The well-formed types that modules give their Names.
use Rattle.std.specs.Prelude.{◌≡◌, ◌↔◌, ℕ, false, List, [], ◌∷◌, ◌++◌, Option, Some, None, Result, Ok, Err}
use Rattle.oer_model.specs.AsnType.{AsnType}
use Rattle.oer_model.specs.FaultTest.{first_fault}
use Rattle.oer_model.specs.declared.fault.SchemaFault.{SchemaFault}
use Rattle.oer_module_syntax.specs.Tree.{Assignment, Body, Module, class_body, set_body, type_body, value_body}
use Rattle.oer_modules.specs.Asked.{is_qualified}
use Rattle.oer_modules.specs.Causes.{Cause}
use Rattle.oer_modules.specs.Modules.{of_texts}
use Rattle.oer_modules.specs.Named.{named_type}
use Rattle.oer_modules.specs.Nesting.{Typed}
use Rattle.oer_modules.specs.Refusals.{Refusal}
use Rattle.oer_modules.specs.Schemas.{schema_of_modules}
use Rattle.oer_modules.specs.Words.{Text}
use Rattle.oer_notation.specs.Reading.{Known, find}

-- with a Name whose type has this as its first fault; one that has a fault is left out
abbrev pub with_sound : List Known → Text → AsnType → Option SchemaFault → List Known
with_sound ks w T None = ks ++ record { name = w; type = T } ∷ []
with_sound ks w T (Some f) = ks

abbrev pub with_typed : List Known → Text → Result Typed Cause → List Known
with_typed ks w (Ok x) = with_sound ks w x.0 (first_fault x.0)
with_typed ks w (Err c) = ks

module _ (ms : List Module) (n : ℕ) where
  abbrev pub with_body : List Known → Text → Body → List Known
  with_body ks w (type_body t) = with_typed ks w (named_type ms w n)
  with_body ks w (class_body fields syntax) = ks
  with_body ks w (value_body governor value) = ks
  with_body ks w (set_body governor set) = ks

  -- with an assignment, if it is one of a well-formed type
  abbrev pub with_definition : List Known → Assignment → List Known
  with_definition ks a = with_body ks a.name a.body

  unfoldable pub with_definitions : List Known → List Assignment → List Known
  with_definitions ks [] = ks
  with_definitions ks (a ∷ rest) = with_definitions (with_definition ks a) rest

  -- with those of each module
  unfoldable pub with_each : List Known → List Module → List Known
  with_each ks [] = ks
  with_each ks (m ∷ rest) = with_each (with_definitions ks m.assignments) rest

unfoldable pub types_of_modules : List Text → ℕ → Result (List Known) Refusal
types_of_modules ts n = of_texts ts (λ l. Ok (with_each l.modules n [] l.modules))

-- A Name without a point has a type exactly where `schema_of_modules` gives it one, and it is that type.
abbrev pub GivesTypes : Type 0
GivesTypes = (ts : List Text) (n : ℕ) (ks : List Known) → types_of_modules ts n ≡ Ok ks
    → (w : Text) (T : AsnType) → is_qualified w ≡ false → (find ks w ≡ Some T) ↔ (schema_of_modules ts w n ≡ Ok T)
