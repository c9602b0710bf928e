-- What is added, whatever the place is at which the JSON reader stopped.
use Rattle.std.proofs.Common.{◌≡◌, ◌∙◌, ℕ, List, [], Bool, true, false, Option, Some, None, Result, Ok, Err, IfOk, String, Global, refl, sym, ap, string_bytes}
use Rattle.std.specs.Prelude.{if◌then◌else◌}
use Rattle.oer_model.specs.AsnType.{AsnType}
use Rattle.oer_explain.specs.Json.{json_notes, type_json_notes, types_json_notes}
use Rattle.oer_explain.specs.Types.{defines, type_notes, types_notes}
use Rattle.oer_options.specs.Words.{texts_of}
use Rattle.oer_options.specs.declared.options.Options.{Options}
use Rattle.oer_explain_cmd.specs.Adding.{asks, is_silent, json_within, named_notes, notes_among, notes_by, notes_of, one_notes, or_else, own_notes, source_by}
use Rattle.oer_explain_cmd.specs.declared.adding.Command.{Command}

pub same_notes : {E : Type 0} (r : Result (String Global) E) (f g : ℕ → List ℕ) → ((x : ℕ) → f x ≡ g x)
    → IfOk r (λ s. (x : ℕ) × (string_bytes s ≡ f x)) → IfOk r (λ s. (x : ℕ) × (string_bytes s ≡ g x))
same_notes (Ok s) f g e (x, h) = (x, h ∙ e x)
same_notes (Err e) f g h k = tt

-- where the type is accepted, and JSON is given
pub one_json : (text json : List ℕ) (o : Options) → type_notes text ≡ [] → Some json ≡ json_within o → (x : ℕ)
    → type_json_notes x text json ≡ one_notes x text o
one_json text json o none given x =
    sym (ap (λ (l : List ℕ). or_else l (source_by (json_within o) (type_json_notes x text) o.task)) none
    ∙ ap (λ (j : Option (List ℕ)). source_by j (type_json_notes x text) o.task) (sym given))

pub named_json : (octets name json : List ℕ) (o : Options) → types_notes octets ≡ [] → defines octets name ≡ true → Some json
    ≡ json_within o
    → (x : ℕ) → types_json_notes x octets name json ≡ named_notes x octets name o
named_json octets name json o none found given x =
    let said : Bool → Option (List ℕ) → List ℕ = λ b j. if b then source_by j (types_json_notes x octets name) o.task else [] in
    sym (ap (λ (l : List ℕ). or_else l (said (defines octets name) (json_within o))) none
    ∙ ap (λ (b : Bool). said b (json_within o)) found ∙ ap (λ (j : Option (List ℕ)). said true j) (sym given))

-- by definitions, in the option or held
by_held : (x : ℕ) (one types name : Option (List ℕ)) (o : Options) (held : Option (List ℕ)) (n octets : List ℕ) (t : List ℕ) → one
    ≡ None → types ≡ Some t
    → name ≡ Some n → held ≡ Some octets → notes_among x one types name o held ≡ named_notes x octets n o
by_held x one types name o held n octets t e0 e1 e2 e3 = rw (e0, e1, e2, e3) refl

by_option : (x : ℕ) (one types name : Option (List ℕ)) (o : Options) (held : Option (List ℕ)) (n t : List ℕ) → one ≡ None → types ≡ Some t
    → name ≡ Some n → held ≡ None → notes_among x one types name o held ≡ named_notes x t n o
by_option x one types name o held n t e0 e1 e2 e3 = rw (e0, e1, e2, e3) refl

module _ (command : Command) (o : Options) (held : Option (List ℕ)) (n t : List ℕ) (said : is_silent command o held ≡ false) (no_one :
    (texts_of o).one ≡ None)
    (types : (texts_of o).types ≡ Some t) (name : (texts_of o).name ≡ Some n) where
  pub held_notes : (octets : List ℕ) → held ≡ Some octets → (x : ℕ) → named_notes x octets n o ≡ notes_of x command o held
  held_notes octets is x =
      sym (ap (λ (b : Bool). if b then [] else notes_by x (texts_of o) o held) said
      ∙ by_held x (texts_of o).one (texts_of o).types (texts_of o).name o held n octets t no_one types name is)

  pub option_notes : held ≡ None → (x : ℕ) → named_notes x t n o ≡ notes_of x command o held
  option_notes is x =
      sym (ap (λ (b : Bool). if b then [] else notes_by x (texts_of o) o held) said
      ∙ by_option x (texts_of o).one (texts_of o).types (texts_of o).name o held n t no_one types name is)

by_one : (x : ℕ) (one types name : Option (List ℕ)) (o : Options) (held : Option (List ℕ)) (t : List ℕ) → one ≡ Some t → types ≡ None
    → name ≡ None
    → notes_among x one types name o held ≡ one_notes x t o
by_one x one types name o held t e0 e1 e2 = rw (e0, e1, e2) refl

pub one_said : (command : Command) (o : Options) (held : Option (List ℕ)) (t : List ℕ) → is_silent command o held ≡ false →
    (texts_of o).one ≡ Some t
    → (texts_of o).types ≡ None → (texts_of o).name ≡ None → (x : ℕ) → one_notes x t o ≡ notes_of x command o held
one_said command o held t said one types name x =
    sym (ap (λ (b : Bool). if b then [] else notes_by x (texts_of o) o held) said
    ∙ by_one x (texts_of o).one (texts_of o).types (texts_of o).name o held t one types name)

-- by a type of modules
pub own_json : (command : Command) (T : AsnType) (json : List ℕ) (o : Options) → asks command o.task ≡ true → Some json ≡ json_within o
    → (x : ℕ) → json_notes x T json ≡ own_notes x command T o
own_json command T json o asked given x =
    sym (ap (λ (b : Bool). if b then source_by (json_within o) (json_notes x T) o.task else []) asked
    ∙ ap (λ (j : Option (List ℕ)). source_by j (json_notes x T) o.task) (sym given))
