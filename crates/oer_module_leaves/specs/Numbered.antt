-- The items of an ENUMERATED with their numbers (X.680, 20).
use Rattle.std.specs.Prelude.{ℕ, ℤ, List, [], ◌∷◌, length, map, Option, Some, None, option_map, slice_get, Result, Ok, Err}
use Rattle.oer_module_lexer.specs.Token.{Spot}
use Rattle.oer_module_names.specs.declared.error.Place.{Place}
use Rattle.oer_module_parts.specs.Kept.{kept}
use Rattle.oer_module_parts.specs.Numbering.{number_items}
use Rattle.oer_module_parts.specs.declared.numbering.NumberFault as raw_fault
use Rattle.oer_module_parts.specs.declared.numbering.NumberFault.TheVariants.{Memory, Repeated, NotAscending, TooLarge}
use Rattle.oer_module_syntax.specs.Tree.{Module, Tree, plain}
use Rattle.oer_module_syntax.specs.declared.word.Builtin.TheVariants as bi
use Rattle.oer_module_terms.specs.Items.{enumeration_at}
use Rattle.oer_module_terms.specs.Trees.{Item, Enumeration}
use Rattle.oer_module_text.specs.Errors.{Read, error, place_in, refused, misnumbered, in_module, told_by, ◌>>=◌}
use Rattle.oer_module_text.specs.declared.error.Part.TheVariants.{Word}
use Rattle.oer_module_values.specs.Looks.{place_of}
use Rattle.oer_module_values.specs.Numbers.{all_items, given_numbers, more_items}
use Rattle.oer_module_values.specs.Types.{TypeIn}
use Rattle.oer_module_leaves.specs.declared.numbered.Numbered.{Numbered as RawNumbered}
use Rattle.oer_module_leaves.specs.declared.numbered.NumberedItem.{NumberedItem as RawItem}

pub record NumberedItem : Type 0 where
  pub at : ℕ
  pub name : List ℕ
  pub number : ℤ

-- the items in the order written, and how many of them stand before the marker, if there is one
pub record Numbered : Type 0 where
  pub items : List NumberedItem
  pub marker : Option ℕ

abbrev pub item_of : RawItem → NumberedItem
item_of i = record { at = i.at; name = i.name.now; number = i.number }

abbrev pub numbered_of : RawNumbered → Numbered
numbered_of e = record { items = map item_of e.items.items; marker = e.marker }

-- what the braces of a type at a place hold
abbrev pub enumeration_in : Place → List Spot → Read Enumeration
enumeration_in p ts = in_module p.«module» (enumeration_at (kept ts p.at)) >>= λ e. Ok e.0

abbrev pub marker_of : Enumeration → Option ℕ
marker_of e = option_map (λ more. length e.root) e.more

-- the item that a fault is about
abbrev pub index_of : raw_fault.NumberFault → ℕ
index_of (Repeated i) = i
index_of (NotAscending i) = i
index_of (TooLarge i) = i
index_of Memory = 0

abbrev pub begin_of : Option Item → ℕ
begin_of None = 0
begin_of (Some i) = i.at

-- where an item of a module stands; there always is one
abbrev pub item_place : ℕ → List Item → ℕ → Place
item_place m is i = place_in m (begin_of (slice_get is i))

abbrev pub unless_misnumbered : ℕ → List Item → Result (List ℤ) raw_fault.NumberFault → Read (List ℤ)
unless_misnumbered m is (Ok ns) = Ok ns
unless_misnumbered m is (Err f) = error (item_place m is (index_of f)) misnumbered

-- the number of each item, where these are given
abbrev pub numbers_of : ℕ → List Item → List (Option ℤ) → List (Option ℤ) → Read (List ℤ)
numbers_of m is root more = unless_misnumbered m is (number_items root more)

abbrev pub with_numbers : List Item → List ℤ → List NumberedItem
with_numbers (i ∷ is) (n ∷ ns) = record { at = i.at; name = i.name; number = n } ∷ with_numbers is ns
with_numbers is ns = []

module _ (ms : List Module) where
  -- the items in braces of a type at a place
  unfoldable pub numbered_at : Place → List Spot → Read Numbered
  numbered_at p ts = do
    e ← enumeration_in p ts
    root ← told_by (given_numbers ms p.«module» e.root)
    more ← told_by (given_numbers ms p.«module» (more_items e.more))
    ns ← numbers_of p.«module» (all_items e) root more
    Ok (record { items = with_numbers (all_items e) ns; marker = marker_of e })

  abbrev pub enumeration_by : ℕ → Tree → Read Numbered
  enumeration_by m (plain at bi.Enumerated ts cs) = numbered_at (place_in m at) ts
  enumeration_by m t = refused m (place_of t) Word

  -- those of an ENUMERATED
  abbrev pub enumeration_numbers : TypeIn → Read Numbered
  enumeration_numbers t = enumeration_by t.«module» t.type

  abbrev pub numbered_items : TypeIn → Read (List NumberedItem)
  numbered_items t = enumeration_numbers t >>= λ e. Ok e.items
