-- What names lead to in a type.
use Rattle.std.specs.Prelude.{ℕ, suc, List, [], ◌∷◌, Option, Some, None, Result, Ok, Err, if◌then◌else◌}
use Rattle.std.specs.Str.{bytes_eq}
use Rattle.oer_model.specs.AsnType.{Additions, Alternatives, AsnType, Fields, addition, alternative, choice, extensible_sequence, field, later, leaf, no_additions, no_alternatives, no_fields, sequence, sequence_of}
use Rattle.oer_parts.specs.declared.step.Step.TheVariants as step
use Rattle.oer_at.specs.Names.{element_of}
use Rattle.oer_at.specs.declared.hop.Hop.{Hop}
use Rattle.oer_at.specs.declared.hop.Hop.TheVariants.{Part, Alternative}
use Rattle.oer_at.specs.declared.hop.NameFault.{NameFault}
use Rattle.oer_at.specs.declared.hop.Wanted.{Wanted}
use Rattle.oer_at.specs.declared.hop.Wanted.TheVariants as wanted

-- what a name leads to, and its type
abbrev pub Lead : Type 0
Lead = Hop × AsnType

abbrev pub or_else : {A : Type 0} → Option A → Option A → Option A
or_else None other = other
or_else (Some x) other = Some x

abbrev pub or_wanted : {A : Type 0} → Wanted → Option A → Result A Wanted
or_wanted w None = Err w
or_wanted w (Some x) = Ok x

abbrev pub result_map : {A B E : Type 0} → (A → B) → Result A E → Result B E
result_map f (Ok x) = Ok (f x)
result_map f (Err e) = Err e

-- the first root component with the name, from the one with the number i on
abbrev pub find_field : ℕ → Fields → List ℕ → Option Lead
find_field i no_fields name = None
find_field i (field n need T fs) name = if bytes_eq n name then Some (Part (step.Component i), T) else find_field (suc i) fs name

abbrev pub find_addition : ℕ → Additions → List ℕ → Option Lead
find_addition i no_additions name = None
find_addition i (addition n T more) name = if bytes_eq n name then Some (Part (step.Addition i), T) else find_addition (suc i) more name

abbrev pub find_alternative : Alternatives → List ℕ → Option Lead
find_alternative no_alternatives name = None
find_alternative (alternative n t T more) name = if bytes_eq n name then Some (Alternative t, T) else find_alternative more name
find_alternative (later n t T more) name = if bytes_eq n name then Some (Alternative t, T) else find_alternative more name

abbrev pub find_element : AsnType → Option ℕ → Option Lead
find_element T None = None
find_element T (Some i) = Some (Part (step.Item i), T)

-- what the name leads to in the type, or what it has to be
abbrev pub named : AsnType → List ℕ → Result Lead Wanted
named (sequence fs) name = or_wanted wanted.Component (find_field 0 fs name)
named (extensible_sequence fs more) name = or_wanted wanted.Component (or_else (find_field 0 fs name) (find_addition 0 more name))
named (sequence_of size T) name = or_wanted wanted.Element (find_element T (element_of name))
named (choice extensible more) name = or_wanted wanted.Alternative (find_alternative more name)
named (leaf kind) name = Err wanted.Nothing

-- this hop, and then those
abbrev pub before_hops : Hop → Result (List Hop) NameFault → Result (List Hop) NameFault
before_hops hop (Ok hops) = Ok (hop ∷ hops)
before_hops hop (Err fault) = Err fault

abbrev pub hops_by : ℕ → Result Lead Wanted → (AsnType → Result (List Hop) NameFault) → Result (List Hop) NameFault
hops_by i (Ok lead) next = before_hops lead.0 (next lead.1)
hops_by i (Err w) next = Err (record { before = i; wanted = w })

-- the hops of names that stand behind i others
abbrev pub hops_from : ℕ → AsnType → List (List ℕ) → Result (List Hop) NameFault
hops_from i T [] = Ok []
hops_from i T (name ∷ names) = hops_by i (named T name) (λ U. hops_from (suc i) U names)

-- What the names lead to in the type, one after another; or the first that leads nowhere.
abbrev pub hops_of : AsnType → List (List ℕ) → Result (List Hop) NameFault
hops_of T names = hops_from 0 T names
