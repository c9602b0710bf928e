-- Automatic tags (X.680, 25.3, 25.7 to 25.9, 29.2 and 29.3).
use Rattle.std.specs.Prelude.{◌≡◌, ℕ, zero, suc, ◌==◌, List, [], ◌∷◌, ◌++◌, length, Bool, true, false, not, if◌then◌else◌}
use Rattle.std.specs.List.{list_any}
use Rattle.oer_module_parts.specs.declared.automatic.Mark as raw_mark
use Rattle.oer_module_parts.specs.declared.automatic.Mark.TheVariants.{Component, ComponentsOf, Marker}
use Rattle.oer_module_parts.specs.declared.automatic.Place as raw_place
use Rattle.oer_module_parts.specs.declared.automatic.Place.TheVariants.{Root, Addition}
use Rattle.oer_module_syntax.specs.Tree.{Tree, tagged}
use Rattle.oer_module_syntax.specs.Tree.{Element, marker, group, components_of, component, Elements, no_elements, element}

-- ---- marks

-- the type has a tag where it is written
abbrev pub is_tagged : Tree → Bool
is_tagged (tagged at tag mode inner) = true
is_tagged _ = false

-- what stands between commas, with what stands in groups in its place
abbrev mutual
  pub marks_in : Element → List raw_mark.Mark
  marks_in (marker at exception) = Marker ∷ []
  marks_in (group at es) = marks_of es
  marks_in (components_of at from) = ComponentsOf ∷ []
  marks_in (component at name from need) = Component (is_tagged from) ∷ []

  pub marks_of : Elements → List raw_mark.Mark
  marks_of no_elements = []
  marks_of (element e es) = marks_in e ++ marks_of es

abbrev pub has_tag : raw_mark.Mark → Bool
has_tag (Component t) = t
has_tag ComponentsOf = false
has_tag Marker = false

-- None has a tag where it is written (25.3, 29.2); what COMPONENTS OF stands for isn't looked at (25.4).
abbrev pub are_untagged : List raw_mark.Mark → Bool
are_untagged ms = not (list_any has_tag ms)

-- ---- places

-- behind so many markers
abbrev pub place_behind : ℕ → raw_place.Place
place_behind k = if k == 1 then Addition else Root

-- the place of each component behind so many markers
abbrev pub places_of : ℕ → List raw_mark.Mark → List raw_place.Place
places_of k [] = []
places_of k (Component t ∷ ms) = place_behind k ∷ places_of k ms
places_of k (ComponentsOf ∷ ms) = places_of k ms
places_of k (Marker ∷ ms) = places_of (suc k) ms

-- ---- numbers

abbrev pub root_count : List raw_place.Place → ℕ
root_count [] = 0
root_count (Root ∷ ps) = suc (root_count ps)
root_count (Addition ∷ ps) = root_count ps

-- the numbers, where the next one of the root is r and the next one of an addition is a
abbrev pub numbers_from : ℕ → ℕ → List raw_place.Place → List ℕ
numbers_from r a [] = []
numbers_from r a (Root ∷ ps) = r ∷ numbers_from (suc r) a ps
numbers_from r a (Addition ∷ ps) = a ∷ numbers_from r (suc a) ps

abbrev pub automatic_numbers : List raw_place.Place → List ℕ
automatic_numbers ps = numbers_from 0 (root_count ps) ps

-- ---- the rule

-- the numbers of those that stand in the root, and of those that don't
abbrev pub in_root : List raw_place.Place → List ℕ → List ℕ
in_root (Root ∷ ps) (n ∷ ns) = n ∷ in_root ps ns
in_root (Addition ∷ ps) (n ∷ ns) = in_root ps ns
in_root _ _ = []

abbrev pub in_additions : List raw_place.Place → List ℕ → List ℕ
in_additions (Root ∷ ps) (n ∷ ns) = in_additions ps ns
in_additions (Addition ∷ ps) (n ∷ ns) = n ∷ in_additions ps ns
in_additions _ _ = []

-- so many numbers, one after another
abbrev pub counting_from : ℕ → ℕ → List ℕ
counting_from n zero = []
counting_from n (suc k) = n ∷ counting_from (suc n) k

-- Each component has a number; those of the root, and then those of the additions, are 0, 1, 2 and so on in order.
pub record AreAutomatic (places : List raw_place.Place) (numbers : List ℕ) : Type 0 where
  pub each : length numbers ≡ length places
  pub in_order : in_root places numbers ++ in_additions places numbers ≡ counting_from 0 (length places)
