-- What Names have as entries are added, and below which number it stays.
use Rattle.std.proofs.Common.{◌≡◌, ◌<◌, ◌≤◌, ◌+◌, ℕ, suc, Bool, true, false, cond, List, [], ◌∷◌, ◌++◌, length, nat_eq, Option, None, Some, slice_get, refl, arith}
use Rattle.std.proofs.lemmas.List.{length-map}
use Rattle.std.specs.Option.{option_map_or}
use Rattle.std.specs.Str.{bytes_eq}
use Rattle.oer_module_syntax.specs.Tree.{Import, Module}
use Rattle.oer_module_names.specs.Sole.{Entry, each, first_of, numbered, sole, sole_from, with_entry, with_number}
use Rattle.oer_module_names.specs.Tables.{assigned, assigned_in, assigner, assigners_from, assignment_names, assignments_in, imported, imported_in}
use Rattle.oer_module_names.specs.Tables.{identifiers, imports_from, imports_in, is_other, module_names, named, other, other_entries, other_in, others_from, source, source_in, source_names, symbol_names}
use Rattle.oer_module_names.specs.Views.{IsSoleBelow}
use Rattle.oer_module_names.specs.declared.index.Sole.{Sole}
use Rattle.oer_module_names.specs.declared.index.Sole.TheVariants.{Nothing, One, Two}

-- entries in two parts
pub sole_more : (s : Sole) (es fs : List Entry) (w : List ℕ) → sole_from s (es ++ fs) w ≡ sole_from (sole_from s es w) fs w
sole_more s [] fs w = refl
sole_more s (e ∷ es) fs w = sole_more (with_entry s e w) es fs w

-- ---- below a number

abbrev pub AllBelow : ℕ → List Entry → Type 0
AllBelow n [] = Unit {0}
AllBelow n (e ∷ es) = (e.number < n) × AllBelow n es

with_below : (n : ℕ) (s : Sole) (a : ℕ) → IsSoleBelow n s → a < n → IsSoleBelow n (with_number s a)
with_below n Nothing a h l = l
with_below n (One b) a h l = by (nat_eq b a)
  where
    by : (t : Bool) → IsSoleBelow n (cond t (One b) (Two b a))
    by true = h
    by false = (h, l)
with_below n (Two b c) a h l = h

from_below : (n : ℕ) (s : Sole) (es : List Entry) (w : List ℕ) → IsSoleBelow n s → AllBelow n es → IsSoleBelow n (sole_from s es w)
from_below n s [] w h k = h
from_below n s (e ∷ es) w h k = from_below n (with_entry s e w) es w (by (bytes_eq e.name w)) k.1
  where
    by : (t : Bool) → IsSoleBelow n (cond t (with_number s e.number) s)
    by true = with_below n s e.number h k.0
    by false = h

pub sole_below : (n : ℕ) (es : List Entry) (w : List ℕ) → AllBelow n es → IsSoleBelow n (sole es w)
unfolding sole
sole_below n es w k = from_below n Nothing es w tt k

numbered_below : (n m : ℕ) (ws : List (List ℕ)) → n + length ws ≤ m → AllBelow m (numbered n ws)
numbered_below n m [] h = tt
numbered_below n m (w ∷ ws) h = (omega (arith, h), numbered_below (suc n) m ws (omega (arith, h)))

each_below : (ws : List (List ℕ)) (n m : ℕ) → n < m → AllBelow m (each ws n)
each_below [] n m h = tt
each_below (w ∷ ws) n m h = (h, each_below ws n m h)

both_below : (m : ℕ) (es fs : List Entry) → AllBelow m es → AllBelow m fs → AllBelow m (es ++ fs)
both_below m [] fs h k = k
both_below m (e ∷ es) fs h k = (h.0, both_below m es fs h.1 k)

first_below : (m n : ℕ) (s : Sole) → IsSoleBelow m s → n < m → first_of s n < m
first_below m n Nothing h l = l
first_below m n (One a) h l = h
first_below m n (Two a b) h l = h.0

imports_below : (f : List ℕ → Sole) (m n : ℕ) (is : List Import) → ((w : List ℕ) → IsSoleBelow m (f w)) → n + length is ≤ m → AllBelow m (imports_from f n is)
imports_below f m n [] h k = tt
imports_below f m n (i ∷ is) h k =
    both_below m (each (symbol_names i.symbols) (first_of (f i.from) n)) (imports_from f (suc n) is)
    (each_below (symbol_names i.symbols) (first_of (f i.from) n) m (first_below m n (f i.from) (h i.from) (omega (arith, k)))) (imports_below f m (suc n) is h (omega (arith, k)))

assigners_below : (m n : ℕ) (ms : List Module) → n + length ms ≤ m → AllBelow m (assigners_from n ms)
assigners_below m n [] k = tt
assigners_below m n (x ∷ ms) k =
    let names = assignment_names x.assignments in
    both_below m (each names n) (assigners_from (suc n) ms) (each_below names n m (omega (arith, k))) (assigners_below m (suc n) ms (omega (arith, k)))

pub named_below : (ms : List Module) (f : List ℕ) → IsSoleBelow (length ms) (named ms f)
unfolding named
named_below ms f = sole_below (length ms) (numbered 0 (module_names ms)) f (numbered_below 0 (length ms) (module_names ms) (omega (arith, length-map ms (λ m. m.name))))

pub assigner_below : (ms : List Module) (w : List ℕ) → IsSoleBelow (length ms) (assigner ms w)
unfolding assigner
assigner_below ms w = sole_below (length ms) (assigners_from 0 ms) w (assigners_below (length ms) 0 ms (omega arith))

source_below : (is : List Import) (f : List ℕ) → IsSoleBelow (length is) (source is f)
source_below is f = sole_below (length is) (numbered 0 (source_names is)) f (numbered_below 0 (length is) (source_names is) (omega (arith, length-map is (λ i. i.from))))

pub assigned_below : (ms : List Module) (k : ℕ) (w : List ℕ) → IsSoleBelow (length (assignments_in ms k)) (assigned_in ms k w)
unfolding assigned_in assignments_in
assigned_below ms k w = by (slice_get ms k)
  where
    by : (o : Option Module) → IsSoleBelow (length (option_map_or (λ m. m.assignments) o [])) (option_map_or (λ m. assigned m w) o Nothing)
    by None = tt
    by (Some m) =
        let count = length m.assignments in
        let names = assignment_names m.assignments in
        sole_below count (numbered 0 names) w (numbered_below 0 count names (omega (arith, length-map m.assignments (λ a. a.name))))

pub source_in_below : (ms : List Module) (k : ℕ) (f : List ℕ) → IsSoleBelow (length (imports_in ms k)) (source_in ms k f)
unfolding source_in imports_in
source_in_below ms k f = by (slice_get ms k)
  where
    by : (o : Option Module) → IsSoleBelow (length (option_map_or (λ m. m.imports) o [])) (option_map_or (λ m. source m.imports f) o Nothing)
    by None = tt
    by (Some m) = source_below m.imports f

pub imported_below : (ms : List Module) (k : ℕ) (w : List ℕ) → IsSoleBelow (length (imports_in ms k)) (imported_in ms k w)
unfolding imported_in imports_in
imported_below ms k w = by (slice_get ms k)
  where
    by : (o : Option Module) → IsSoleBelow (length (option_map_or (λ m. m.imports) o [])) (option_map_or (λ m. imported m w) o Nothing)
    by None = tt
    by (Some m) = sole_below (length m.imports) (imports_from (source m.imports) 0 m.imports) w (imports_below (source m.imports) (length m.imports) 0 m.imports (source_below m.imports) (omega arith))

other_entry_below : (b : Bool) (f : List ℕ) (n m : ℕ) → n < m → AllBelow m (other_entries b f n)
other_entry_below true f n m l = (l, tt)
other_entry_below false f n m l = tt

others_below : (f : List ℕ → Sole) (ids : List (Option (List ℕ))) (m n : ℕ) (is : List Import) → n + length is ≤ m → AllBelow m (others_from f ids n is)
others_below f ids m n [] k = tt
others_below f ids m n (i ∷ is) k =
    both_below m (other_entries (is_other f ids i) i.from n) (others_from f ids (suc n) is) (other_entry_below (is_other f ids i) i.from n m (omega (arith, k)))
    (others_below f ids m (suc n) is (omega (arith, k)))

pub other_in_below : (ms : List Module) (k : ℕ) (f : List ℕ) → IsSoleBelow (length (imports_in ms k)) (other_in ms k f)
unfolding other_in imports_in
other_in_below ms k f = by (slice_get ms k)
  where
    by : (o : Option Module) → IsSoleBelow (length (option_map_or (λ m. m.imports) o [])) (option_map_or (λ m. other (named ms) (identifiers ms) m f) o Nothing)
    by None = tt
    by (Some m) = sole_below (length m.imports) (others_from (named ms) (identifiers ms) 0 m.imports) f (others_below (named ms) (identifiers ms) (length m.imports) 0 m.imports (omega arith))
