-- The places of the types around a tree are others than those in it, and so it isn't nested too deep.
use Rattle.std.proofs.Common.{◌≡◌, ◌⊎◌, ◌≤◌, ◌<◌, ◌==◌, ℕ, zero, suc, List, [], ◌∷◌, ◌++◌, length, nat_le, Bool, true, false, inl, inr, refl, sym, ap, subst, ◌∙◌, if◌then◌else◌, arith}
use Rattle.std.proofs.lemmas.Bool.{and_parts, eqb-true, leb-true}
use Rattle.oer_module_names.specs.Standing.{IsAt}
use Rattle.oer_module_names.specs.declared.error.Place.{Place}
use Rattle.oer_module_places.specs.Rising.{BodyLies, Lies, Rise}
use Rattle.oer_module_syntax.specs.Tree.{Assignment, Tree, plain, named, tagged, structure, list_of, selection, instance_of, any_defined_by}
use Rattle.oer_module_text.specs.Errors.{place_in}
use Rattle.oer_module_types.specs.Levels.{is_full, is_same, times}
use Rattle.oer_notation.specs.Reading.{Known}
use Rattle.oer_same_names.specs.Meant.{IsTreeBehind, LeadsTo, untagged}

-- each place of the path stands behind a floor, and before low or from high on
abbrev pub AreOff : ℕ → ℕ → ℕ → List Place → Type 0
AreOff floor low high [] = Unit {0}
AreOff floor low high (p ∷ path) = (floor ≤ p.at) × ((p.at < low) ⊎ (high ≤ p.at)) × AreOff floor low high path

-- What lies so is in the definition behind those known, and no place of the path is in it or in a definition before.
pub record IsClear (L : ℕ → ℕ → Type 0) (found : List Assignment) (known : List Known) (path : List Place) : Type 0 where
  pub here : Assignment
  pub is_here : IsAt found (length known) here
  pub low : ℕ
  pub high : ℕ
  pub above : here.at ≤ low
  pub lies : L low high
  pub off : AreOff here.at low high path

pub clear_of : (L M : ℕ → ℕ → Type 0) (found : List Assignment) (known : List Known) (path : List Place) → IsClear L found known path
    → ((low high : ℕ) → L low high → M low high) → IsClear M found known path
clear_of L M found known path c f = record {
  here = c.here;
  is_here = c.is_here;
  low = c.low;
  high = c.high;
  above = c.above;
  lies = f c.low c.high c.lies;
  off = c.off;
}

-- ---- one type further in

off_inside : (floor low high at : ℕ) (path : List Place) → floor ≤ low → low ≤ at → at < high → AreOff floor low high path
    → AreOff floor (suc at) high (path ++ place_in 0 at ∷ [])
off_inside floor low high at [] f l h off = (omega (arith, f, l), inl (omega arith), tt)
off_inside floor low high at (p ∷ path) f l h (above, apart, off) = (above, next apart, off_inside floor low high at path f l h off) where
  next : (p.at < low) ⊎ (high ≤ p.at) → (p.at < suc at) ⊎ (high ≤ p.at)
  next (inl less) = inl (omega (arith, less, l))
  next (inr more) = inr more

-- no place that is off is the place of what lies there
never_same : (floor low high at : ℕ) (path : List Place) → low ≤ at → at < high → AreOff floor low high path → times (place_in 0 at) path ≡ 0
never_same floor low high at [] l h off = refl
never_same floor low high at (p ∷ path) l h (above, apart, off) = by (never_same floor low high at path l h off) (is_same (place_in 0 at) p) refl where
  differs : (low ≤ at) → (at < high) → (p.at < low) ⊎ (high ≤ p.at) → at ≡ p.at → ⊥
  differs l h (inl less) e = omega (arith, less, l, e)
  differs l h (inr more) e = omega (arith, more, h, e)

  by : times (place_in 0 at) path ≡ 0 → (b : Bool) → is_same (place_in 0 at) p ≡ b
      → (if b then suc (times (place_in 0 at) path) else times (place_in 0 at) path) ≡ 0
  by rest true e = absurd (differs l h apart (eqb-true at p.at (and_parts (0 == p.«module») (at == p.at) e).1))
  by rest false e = rest

pub record Inside (M : ℕ → ℕ → Type 0) (found : List Assignment) (known : List Known) (nesting at : ℕ) (path : List Place) : Type 0 where
  pub room : is_full nesting (place_in 0 at) path ≡ false
  pub clear : IsClear M found known (path ++ place_in 0 at ∷ [])

pub inside : (L M : ℕ → ℕ → Type 0) (found : List Assignment) (known : List Known) (nesting at : ℕ) (path : List Place) → 1 ≤ nesting
    → ((low high : ℕ) → L low high → (low ≤ at) × (at < high) × M (suc at) high) → IsClear L found known path → Inside M found known nesting at path
inside L M found known nesting at path once f c =
    let l = f c.low c.high c.lies in record {
      room = ap (nat_le nesting) (never_same c.here.at c.low c.high at path l.0 l.1 c.off) ∙ none_full nesting once;
      clear = record {
        here = c.here;
        is_here = c.is_here;
        low = suc at;
        high = c.high;
        above = let a = c.above in let b = l.0 in omega (arith, a, b);
        lies = l.2;
        off = off_inside c.here.at c.low c.high at path c.above l.0 l.1 c.off;
      };
    } where
      none_full : (nesting : ℕ) → 1 ≤ nesting → nat_le nesting 0 ≡ false
      none_full n h = by (nat_le n 0) refl where
        by : (b : Bool) → nat_le n 0 ≡ b → b ≡ false
        by true e = let none = leb-true n 0 e in absurd (omega (arith, h, none))
        by false e = refl

-- ---- a definition before

-- an assignment ends before each behind it begins
record Interval (found : List Assignment) (i : ℕ) (low : ℕ) (a : Assignment) : Type 0 where
  end : ℕ
  from : low ≤ a.at
  rises : a.at ≤ end
  lies : BodyLies a.at end a.body
  before : (j : ℕ) (b : Assignment) → i < j → IsAt found j b → end ≤ b.at

-- all of these begin from a place on
begins : (found : List Assignment) (low j : ℕ) (b : Assignment) → Rise low found → IsAt found j b → low ≤ b.at
begins [] low j b rise is = absurd (cc)
begins (a ∷ found) low zero b (end, from, rises, lies, rest) is = let same : a ≡ b = cc in subst (λ (x : Assignment). low ≤ x.at) same from
begins (a ∷ found) low (suc j) b (end, from, rises, lies, rest) is =
    let more = begins found end j b rest is in omega (arith, from, rises, more)

interval : (found : List Assignment) (low i : ℕ) (a : Assignment) → Rise low found → IsAt found i a → Interval found i low a
interval [] low i a rise is = absurd (cc)
interval (b ∷ found) low zero a (end, from, rises, lies, rest) is =
    let same : b ≡ a = cc in subst (Interval (b ∷ found) 0 low) same
    (record { end = end; from = from; rises = rises; lies = lies; before = λ j c less at. later j c less at }) where
      later : (j : ℕ) (c : Assignment) → 0 < j → IsAt (b ∷ found) j c → end ≤ c.at
      later zero c less at = absurd (omega (arith, less))
      later (suc j) c less at = begins found end j c rest at
interval (b ∷ found) low (suc i) a (end, from, rises, lies, rest) is =
    let x = interval found end i a rest is in
    let xf = x.from in record {
      end = x.end;
      from = omega (arith, from, rises, xf);
      rises = x.rises;
      lies = x.lies;
      before = λ j c less at. later x j c less at;
    } where
      later : (x : Interval found i end a) (j : ℕ) (c : Assignment) → suc i < j → IsAt (b ∷ found) j c → x.end ≤ c.at
      later x zero c less at = absurd (omega (arith, less))
      later x (suc j) c less at = x.before j c (omega (arith, less)) at

-- a tree of a definition by itself
pub clear_alone : (found : List Assignment) (known : List Known) (t : Tree) → Rise 0 found → IsTreeBehind found known t
    → IsClear (λ low high. Lies low high t) found known []
clear_alone found known t rise there =
    let x = interval found 0 (length known) there.assignment rise there.is in record {
      here = there.assignment;
      is_here = there.is;
      low = there.assignment.at;
      high = x.end;
      above = omega arith;
      lies = subst (BodyLies there.assignment.at x.end) there.body_is x.lies;
      off = tt;
    }

off_before : (floor low high from end : ℕ) (path : List Place) → from ≤ end → end ≤ floor → AreOff floor low high path → AreOff from from end path
off_before floor low high from end [] f e off = tt
off_before floor low high from end (p ∷ path) f e (above, apart, off) =
    (omega (arith, f, e, above), inr (omega (arith, e, above)), off_before floor low high from end path f e off)

clear_before : (found : List Assignment) (known by : List Known) (L : ℕ → ℕ → Type 0) (u : Tree) (path : List Place) → Rise 0 found
    → IsClear L found known path → length by < length known → IsTreeBehind found by u → IsClear (λ low high. Lies low high u) found by path
clear_before found known by L u path rise c less there =
    let x = interval found 0 (length by) there.assignment rise there.is in record {
      here = there.assignment;
      is_here = there.is;
      low = there.assignment.at;
      high = x.end;
      above = omega arith;
      lies = subst (BodyLies there.assignment.at x.end) there.body_is x.lies;
      off = off_before c.here.at c.low c.high there.assignment.at x.end path x.rises (x.before (length known) c.here less c.is_here) c.off;
    }

lies_untagged : (low high : ℕ) (t : Tree) → Lies low high t → Lies low high (untagged t)
lies_untagged low high (plain at b items constraints) l = l
lies_untagged low high (named at name path parameters constraints) l = l
lies_untagged low high (tagged at tag mode t) l = l
lies_untagged low high (structure at b es constraints) l = l
lies_untagged low high (list_of at b sized size name t) l = l
lies_untagged low high (selection at name t) l = l
lies_untagged low high (instance_of at class path constraints) l = l
lies_untagged low high (any_defined_by at by) l = l

-- where the way leads, nothing stands around that stands in it
pub clear_led : (found : List Assignment) (known by : List Known) (t u : Tree) (path : List Place) → Rise 0 found
    → IsClear (λ low high. Lies low high t) found known path → LeadsTo found known t by u → IsClear (λ low high. Lies low high u) found by path
clear_led found known by t u path rise c (inl (same, is)) =
    subst (λ (l : List Known). IsClear (λ low high. Lies low high u) found l path) (sym same)
    (clear_of (λ low high. Lies low high t) (λ low high. Lies low high u) found known path c
    (λ low high l. subst (Lies low high) (sym is) (lies_untagged low high t l)))
clear_led found known by t u path rise c (inr (less, there)) =
    clear_before found known by (λ low high. Lies low high t) u path rise c less there
