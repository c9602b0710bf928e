-- From the items that were read to their numbers.
use Rattle.std.proofs.Common.{◌≡◌, ◌+◌, ℤ, List, ◌++◌, length, map, Option, option_map, Ok, Err, refl, sym, ap, ap₂, ◌∙◌}
use Rattle.std.proofs.lemmas.List.{length-append, map-append}
use Rattle.oer_module_lexer.specs.Token.{Spot}
use Rattle.oer_module_names.specs.declared.error.Place.{Place}
use Rattle.oer_module_syntax.specs.Tree.{Module}
use Rattle.oer_module_terms.specs.Trees.{Enumeration, enumeration_of, item_of as written_of, more_of}
use Rattle.oer_module_terms.specs.declared.tree.Enumeration.{Enumeration as RawEnumeration}
use Rattle.oer_module_terms.specs.declared.tree.Item.{Item as RawWritten}
use Rattle.oer_module_text.specs.Errors.{Error, Read, ◌>>=◌}
use Rattle.oer_module_values.specs.Numbers.{all_items, given_numbers, more_items}
use Rattle.oer_module_leaves.specs.Numbered.{Numbered, enumeration_in, marker_of, numbered_at, numbers_of, with_numbers}
use Rattle.oer_module_leaves.proofs.Lengths.{given_of_items}

module _ (ms : List Module) (p : Place) (ts : List Spot) (e : Enumeration) (root more : List (Option ℤ)) (reads : enumeration_in p ts ≡ Ok e)
    (has_root : given_numbers ms p.«module» e.root ≡ Ok root) (has_more : given_numbers ms p.«module» (more_items e.more) ≡ Ok more) where
  behind_given : numbered_at ms p ts
      ≡ (numbers_of p.«module» (all_items e) root more >>= λ ns. Ok (record { items = with_numbers (all_items e) ns; marker = marker_of e }))
  unfolding numbered_at
  behind_given = rw (reads, has_root, has_more) refl

  numbers_err : (f : Error) → numbers_of p.«module» (all_items e) root more ≡ Err f → numbered_at ms p ts ≡ Err f
  numbers_err f h = behind_given ∙ ap (λ r. r >>= λ ns. Ok (record { items = with_numbers (all_items e) ns; marker = marker_of e })) h

  numbers_ok : (ns : List ℤ) → numbers_of p.«module» (all_items e) root more ≡ Ok ns
      → numbered_at ms p ts ≡ Ok (record { items = with_numbers (all_items e) ns; marker = marker_of e })
  numbers_ok ns h = behind_given ∙ ap (λ r. r >>= λ ns. Ok (record { items = with_numbers (all_items e) ns; marker = marker_of e })) h

-- the same of what the code has: an enumeration, what is behind its marker, and all its items
module _ (ms : List Module) (p : Place) (ts : List Spot) (e : RawEnumeration) (later items : List RawWritten) (root more : List (Option ℤ))
    (reads : enumeration_in p ts ≡ Ok (enumeration_of e)) (is_later : map written_of later ≡ more_items (option_map more_of e.more))
    (has_root : given_numbers ms p.«module» (map written_of e.root.items) ≡ Ok root)
    (has_more : given_numbers ms p.«module» (map written_of later) ≡ Ok more) (all : items ≡ e.root.items ++ later) where
  pub as_many : length items ≡ length root + length more
  as_many =
      ap length all ∙ length-append e.root.items later
      ∙ ap₂ (λ a b. a + b) (sym (given_of_items ms p.«module» e.root.items root has_root)) (sym (given_of_items ms p.«module» later more has_more))

  are_all : map written_of items ≡ all_items (enumeration_of e)
  are_all = ap (map written_of) all ∙ map-append written_of e.root.items later ∙ ap (λ xs. map written_of e.root.items ++ xs) is_later

  has_later : given_numbers ms p.«module» (more_items (option_map more_of e.more)) ≡ Ok more
  has_later = ap (given_numbers ms p.«module») (sym is_later) ∙ has_more

  pub numbered_err : (f : Error) → numbers_of p.«module» (map written_of items) root more ≡ Err f → numbered_at ms p ts ≡ Err f
  numbered_err f h =
      numbers_err ms p ts (enumeration_of e) root more reads has_root has_later f (ap (λ is. numbers_of p.«module» is root more) (sym are_all) ∙ h)

  pub numbered_ok : (ns : List ℤ) → numbers_of p.«module» (map written_of items) root more ≡ Ok ns
      → numbered_at ms p ts ≡ Ok (record { items = with_numbers (map written_of items) ns; marker = marker_of (enumeration_of e) })
  numbered_ok ns h =
      numbers_ok ms p ts (enumeration_of e) root more reads has_root has_later ns (ap (λ is. numbers_of p.«module» is root more) (sym are_all) ∙ h)
      ∙ ap (λ is. let r : Read Numbered = Ok (record { items = with_numbers is ns; marker = marker_of (enumeration_of e) }) in r) (sym are_all)
