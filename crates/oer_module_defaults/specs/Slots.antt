-- Which value each component of a SEQUENCE is given (X.680, 25): members of braces have a name and a value each, and stand
-- in the order of the components.
use Rattle.std.specs.Prelude.{◌≡◌, ℕ, suc, List, [], ◌∷◌, ◌++◌, true, Option, Some, None, is_some, slice_get, Ok, if◌then◌else◌}
use Rattle.std.specs.Str.{bytes_eq}
use Rattle.oer_module_names.specs.declared.error.Place.{Place}
use Rattle.oer_module_terms.specs.Trees.{Value, Parts, no_parts, part, Members, no_members, member}
use Rattle.oer_module_text.specs.Errors.{Read, place_in, ◌>>=◌}
use Rattle.oer_module_defaults.specs.Atoms.{none_such, or_none_such}
use Rattle.oer_module_defaults.specs.Bits.{own_name}
use Rattle.oer_module_defaults.specs.Components.{Component}
use Rattle.oer_module_defaults.specs.Values.{begin_of, member_place}
use Rattle.oer_module_defaults.specs.Walks.{name_in}

-- ---- members

-- a value behind a name, and the byte at which the name stands
pub record Entry : Type 0 where
  pub at : ℕ
  pub name : List ℕ
  pub value : Value

abbrev pub entry_by : ℕ → Option (List ℕ) → Value → Option Entry
entry_by at None v = None
entry_by at (Some w) v = Some (record { at = at; name = w; value = v })

abbrev pub entry_in : Parts → Option Entry
entry_in no_parts = None
entry_in (part v no_parts) = None
entry_in (part v (part x no_parts)) = entry_by (begin_of v) (own_name (name_in v)) x
entry_in (part v (part x (part y vs))) = None

-- of braces at a place
abbrev pub entry_at : Place → Parts → Read Entry
entry_at p vs = or_none_such (member_place p vs) (entry_in vs)

abbrev pub entries_at : Place → Members → List Entry → Read (List Entry)
entries_at p no_members found = Ok found
entries_at p (member vs more) found = entry_at p vs >>= λ e. entries_at p more (found ++ e ∷ [])

-- ---- components

-- a component and its value, if that is there
pub record Slot : Type 0 where
  pub component : Component
  pub value : Option Value

abbrev pub slot : Component → Option Value → Slot
slot c v = record { component = c; value = v }

-- Entries in the order of components: each component has the value of the next entry, which has its name; or none, if it may be
-- absent. None is left.
pub data Fills : List Entry → List Component → List Slot → Type 0 where
  nothing : Fills [] [] []
  there : (e : Entry) (es : List Entry) (c : Component) (cs : List Component) (ss : List Slot) → e.name ≡ c.name → Fills es cs ss
      → Fills (e ∷ es) (c ∷ cs) (slot c (Some e.value) ∷ ss)
  left_out : (es : List Entry) (c : Component) (cs : List Component) (ss : List Slot) → c.optional ≡ true → Fills es cs ss
      → Fills es (c ∷ cs) (slot c None ∷ ss)

-- ---- as the code has it

-- the value in the next entry, if that is the component's
abbrev pub value_for : Component → Option Entry → Option Value
value_for c None = None
value_for c (Some e) = if bytes_eq e.name c.name then Some e.value else None

-- where the next entry stands; the braces, where none is left
abbrev pub entry_place : Place → Option Entry → Place
entry_place p None = p
entry_place p (Some e) = place_in p.«module» e.at

abbrev pub slot_by : Place → Component → Option Value → Read Slot
slot_by p c None = if c.optional then Ok (slot c None) else none_such p
slot_by p c (Some v) = Ok (slot c (Some v))

abbrev pub slot_at : Place → Component → Option Entry → Read Slot
slot_at p c e = slot_by (entry_place p e) c (value_for c e)

-- how many entries are taken by then
abbrev pub taken_by : ℕ → Slot → ℕ
taken_by k s = if is_some s.value then suc k else k

-- none is left
abbrev pub ended : Place → Option Entry → List Slot → Read (List Slot)
ended p None found = Ok found
ended p (Some e) found = none_such (entry_place p (Some e))

-- those of components, where so many entries are taken, behind those found
abbrev pub slots_at : Place → List Entry → ℕ → List Component → List Slot → Read (List Slot)
slots_at p es k [] found = ended p (slice_get es k) found
slots_at p es k (c ∷ cs) found = slot_at p c (slice_get es k) >>= λ s. slots_at p es (taken_by k s) cs (found ++ s ∷ [])

-- what components are given by the members of braces at a place
abbrev pub slots_in : Place → List Component → Members → Read (List Slot)
slots_in p cs members = entries_at p members [] >>= λ es. slots_at p es 0 cs []
