-- The items of an ENUMERATED are rejected for other reasons alone.
use Rattle.std.proofs.Common.{ℤ, List, ℕ, Option, Some, None, Result, Ok, Err, Bool}
use Rattle.std.specs.Ordering.{int_eq}
use Rattle.oer_module_defaults.specs.Governors.{Governor}
use Rattle.oer_module_defaults.specs.Items.{agreed, item_number, number_by, number_in_both, number_named}
use Rattle.oer_module_leaves.specs.Numbered.{enumeration_by, enumeration_in, numbered_at, numbered_items, numbers_of, unless_misnumbered}
use Rattle.oer_module_leaves.specs.Shapes.{in_64_bits, is_signed_long}
use Rattle.oer_module_lexer.specs.Token.{Spot}
use Rattle.oer_module_names.specs.declared.error.Place.{Place}
use Rattle.oer_module_parts.specs.Kept.{kept}
use Rattle.oer_module_parts.specs.Numbering.{number_items}
use Rattle.oer_module_parts.specs.declared.numbering.NumberFault.{NumberFault}
use Rattle.oer_module_syntax.specs.Tree.{Module, Tree, plain}
use Rattle.oer_module_syntax.specs.declared.word.Builtin.TheVariants as bi
use Rattle.oer_module_terms.specs.Items.{enumeration_at}
use Rattle.oer_module_terms.specs.Trees.{Item}
use Rattle.oer_module_text.specs.Errors.{in_module, place_in, told_by}
use Rattle.oer_module_values.specs.Numbers.{all_items, given_numbers, more_items}
use Rattle.oer_module_values.specs.Types.{TypeIn, type_in}
use Rattle.oer_same_limits.proofs.Room.{Goes, read_in, told}
use Rattle.oer_same_limits.proofs.Telling.{bind, choose}

module _ (s : Bool) where
  enumeration_read : (p : Place) (ts : List Spot) → Goes s (enumeration_in p ts)
  enumeration_read p ts = bind _ _ (in_module p.«module» (enumeration_at (kept ts p.at))) _
      (read_in s p.«module» (enumeration_at (kept ts p.at))) (λ e u. record { given = tt })

  numbers_read : (m : ℕ) (is : List Item) (r : Result (List ℤ) NumberFault) → Goes s (unless_misnumbered m is r)
  numbers_read m is (Ok ns) = record { given = tt }
  numbers_read m is (Err f) = record { given = tt }

  pub wide_goes : (p : Place) (z : ℤ) → Goes s (in_64_bits p z)
  wide_goes p z = choose _ (is_signed_long z) _ _ (λ fits. record { given = tt }) (λ wide. record { given = tt })

  number_goes : (p : Place) (o : Option ℤ) → Goes s (number_by p o)
  number_goes p None = record { given = tt }
  number_goes p (Some z) = wide_goes p z

  agreed_goes : (p : Place) (y z : ℤ) → Goes s (agreed p y z)
  agreed_goes p y z = choose _ (int_eq y z) _ _ (λ same. record { given = tt }) (λ other. record { given = tt })

  module _ (ms : List Module) where
    pub numbered_goes : (p : Place) (ts : List Spot) → Goes s (numbered_at ms p ts)
    unfolding numbered_at
    numbered_goes p ts =
        bind _ _ (enumeration_in p ts) _ (enumeration_read p ts) (λ e u.
        bind _ _ (told_by (given_numbers ms p.«module» e.root)) _ (told s (given_numbers ms p.«module» e.root)) (λ root u.
        bind _ _ (told_by (given_numbers ms p.«module» (more_items e.more))) _ (told s (given_numbers ms p.«module» (more_items e.more))) (λ more u.
        bind _ _ (numbers_of p.«module» (all_items e) root more) _ (numbers_read p.«module» (all_items e) (number_items root more)) (λ ns u.
        record { given = tt }))))

    enumeration_goes : (m : ℕ) (t : Tree) → Goes s (enumeration_by ms m t)
    enumeration_goes m (plain at bi.Enumerated ts cs) = numbered_goes (place_in m at) ts
    enumeration_goes m t = record { given = tt }

    items_go : (t : TypeIn) → Goes s (numbered_items ms t)
    items_go t = bind _ _ (enumeration_by ms t.«module» t.type) _ (enumeration_goes t.«module» t.type) (λ e u. record { given = tt })

    item_goes : (g : Governor) (p : Place) (w : List ℕ) → Goes s (item_number ms g p w)
    unfolding item_number
    item_goes g p w = bind _ _ (numbered_items ms (type_in g.«module» g.type)) _ (items_go (type_in g.«module» g.type)) (λ is u.
        number_goes p (number_named w is))

    pub both_go : (g h : Governor) (p : Place) (w : List ℕ) → Goes s (number_in_both ms g h p w)
    unfolding number_in_both
    both_go g h p w =
        bind _ _ (item_number ms h p w) _ (item_goes h p w) (λ y u.
        bind _ _ (item_number ms g p w) _ (item_goes g p w) (λ z u. agreed_goes p y z))
