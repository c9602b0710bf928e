-- A value after DEFAULT that says one of the notation is given that value.
use Rattle.std.proofs.Common.{◌≡◌, ◌<◌, List, length, Bool, true, Result, Ok, Err, refl, sym, ap, subst}
use Rattle.oer_lexer.specs.Token.{Token}
use Rattle.oer_model.specs.AsnType.{AsnType}
use Rattle.oer_model.specs.AsnType as model
use Rattle.oer_model.specs.AsnValue.{AsnValue}
use Rattle.oer_module_defaults.specs.Defaults.{default_at}
use Rattle.oer_module_defaults.specs.Governors.{governor_at}
use Rattle.oer_module_lexer.specs.Token.{Spot}
use Rattle.oer_module_syntax.specs.Tree.{Assignment, Module, Tree}
use Rattle.oer_module_text.specs.Errors.{unresolved}
use Rattle.oer_module_text.specs.Room.{Room}
use Rattle.oer_module_values.specs.Errors.{Error as ToldError}
use Rattle.oer_module_values.specs.Types.{Meaning, meaning, type_in}
use Rattle.oer_notation.specs.Grammar.{IsValue}
use Rattle.oer_notation.specs.Reading.{Known}
use Rattle.oer_same_defaults.specs.Laws.{SameDefault}
use Rattle.oer_same_defaults.specs.Tame.{AreTame, HasOrdinaryItems}
use Rattle.oer_same_items.proofs.Telling.{Gives, bind}
use Rattle.oer_same_items.specs.Told.{IsLimit}
use Rattle.oer_same_names.specs.Home.{IsFront, IsHome}
use Rattle.oer_same_names.specs.Laws.{TypesAreMeant}
use Rattle.oer_same_names.specs.Meant.{IsMeantBy, LeadsToType}
use Rattle.oer_same_trees.specs.Says.{Keeps, needed, optional, with_default}
use Rattle.oer_same_types.proofs.Elements.{DefaultsSay}
use Rattle.oer_same_types.proofs.Ordinary.{OrdinaryTree, few_steps, has_ordinary_items, standard_led}
use Rattle.oer_same_types.specs.Ordinary.{AllStandard}

-- what governs the value is standard, too
items_led : (ms : List Module) (found : List Assignment) (ks known : List Known) (T : AsnType) (t : Tree) (m : Meaning) → AllStandard ms found
    → IsMeantBy found ks known T t m → OrdinaryTree ms T t → HasOrdinaryItems ms T m.of
items_led ms found ks known T t m all y f =
    let is = y.meant in
    subst (HasOrdinaryItems ms T) (sym is.of) (has_ordinary_items ms T is.tree f.1 (standard_led ms found known is.says.known t is.tree all f.2 y.leads))

module _ (o : Bool) (same : SameDefault) (ms : List Module) (ks : List Known) (home : IsHome ms ks) (few : o ≡ true → length ks < 254)
    (standard : o ≡ true → AllStandard ms home.home.assignments) where
  -- the value is told, whatever its type stands for
  value_told : (known : List Known) (T : AsnType) (t : Tree) (v : AsnValue) (ts : List Token) (ss : List Spot) (r : Room) → IsFront known ks → IsValue T v ts
      → Keeps ts ss → (o ≡ true → OrdinaryTree ms T t) → (o ≡ true → AreTame ss)
      → (f : Result Meaning ToldError) → LeadsToType home.home.assignments ks known T t f → meaning ms (type_in 0 t) ≡ f
      → Gives o (λ (x : AsnValue × Room). x.0 ≡ v) (default_at ms (type_in 0 t) 0 ss r)
  unfolding default_at governor_at
  value_told known T t v ts ss r front is keeps fits tame (Ok m) meant e = record {
    given = same o ms ks T t m e meant.meant v ts ss r is keeps (λ on. items_led ms home.home.assignments ks known T t m (standard on) meant (fits on)) tame;
  }
  value_told known T t v ts ss r front is keeps fits tame (Err f) long e =
      rw e (record { given = subst (λ w. IsLimit o (unresolved w)) (sym long.0) (few_steps o ks known front few long.1) })

  pub defaults_said : TypesAreMeant → DefaultsSay o ms ks
  defaults_said means known T t need n r front says needed fits tame = record { given = refl }
  defaults_said means known T t need n r front says optional fits tame = record { given = refl }
  defaults_said means known T t need n r front says (with_default {v} {ts} {ss} is keeps) fits tame =
      bind (λ (x : AsnValue × Room). x.0 ≡ v) _ (default_at ms (type_in 0 t) 0 ss _) _
      (value_told known T t v ts ss _ front is keeps fits tame (meaning ms (type_in 0 t)) (means ms ks known T t home front says) refl)
      (λ x given. record { given = ap (λ d. model.default d) given })
