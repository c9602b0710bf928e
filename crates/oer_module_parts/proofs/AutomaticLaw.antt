-- Automatic tags are in order.
use Rattle.std.proofs.Common.{◌≡◌, ℕ, zero, suc, ◌+◌, List, [], ◌∷◌, ◌++◌, length, refl, ap, ap₂, ◌∙◌, arith}
use Rattle.oer_module_parts.specs.Automatic.{AreAutomatic, automatic_numbers, counting_from, in_additions, in_root, numbers_from, root_count}
use Rattle.oer_module_parts.specs.declared.automatic.Place.{Place}
use Rattle.oer_module_parts.specs.declared.automatic.Place.TheVariants.{Root, Addition}

addition_count : List Place → ℕ
addition_count [] = 0
addition_count (Root ∷ ps) = addition_count ps
addition_count (Addition ∷ ps) = suc (addition_count ps)

counts : (ps : List Place) → root_count ps + addition_count ps ≡ length ps
unfolding addition_count
counts [] = refl
counts (Root ∷ ps) = let rest = counts ps in omega arith
counts (Addition ∷ ps) = let rest = counts ps in omega arith

each_has : (r a : ℕ) (ps : List Place) → length (numbers_from r a ps) ≡ length ps
each_has r a [] = refl
each_has r a (Root ∷ ps) = ap suc (each_has (suc r) a ps)
each_has r a (Addition ∷ ps) = ap suc (each_has r (suc a) ps)

root_is : (r a : ℕ) (ps : List Place) → in_root ps (numbers_from r a ps) ≡ counting_from r (root_count ps)
root_is r a [] = refl
root_is r a (Root ∷ ps) = ap (λ ns. r ∷ ns) (root_is (suc r) a ps)
root_is r a (Addition ∷ ps) = root_is r (suc a) ps

additions_are : (r a : ℕ) (ps : List Place) → in_additions ps (numbers_from r a ps) ≡ counting_from a (addition_count ps)
unfolding addition_count
additions_are r a [] = refl
additions_are r a (Root ∷ ps) = additions_are (suc r) a ps
additions_are r a (Addition ∷ ps) = ap (λ ns. a ∷ ns) (additions_are r (suc a) ps)

counted_on : (n j k : ℕ) → counting_from n j ++ counting_from (n + j) k ≡ counting_from n (j + k)
counted_on n zero k = ap₂ counting_from (let e : n + 0 ≡ n = omega arith in e) (let e : k ≡ 0 + k = omega arith in e)
counted_on n (suc j) k =
    ap (λ m. n ∷ (counting_from (suc n) j ++ counting_from m k)) (let e : n + suc j ≡ suc n + j = omega arith in e)
    ∙ ap (λ ns. n ∷ ns) (counted_on (suc n) j k)
    ∙ ap (counting_from n) (let e : suc (j + k) ≡ suc j + k = omega arith in e)

pub automatic_in_order : (ps : List Place) → AreAutomatic ps (automatic_numbers ps)
automatic_in_order ps = record {
  each = each_has 0 (root_count ps) ps;
  in_order =
      ap₂ (λ ms ns. ms ++ ns) (root_is 0 (root_count ps) ps) (additions_are 0 (root_count ps) ps)
      ∙ ap (λ r. counting_from 0 (root_count ps) ++ counting_from r (addition_count ps)) (let e : root_count ps ≡ 0 + root_count ps = omega arith in e)
      ∙ counted_on 0 (root_count ps) (addition_count ps) ∙ ap (counting_from 0) (counts ps);
}
