-- Alternatives have one list of tags.
use Rattle.std.proofs.Common.{◌≡◌, ◌∙◌, ℕ, suc, List, [], ◌∷◌, ◌++◌, length, map, Bool, true, false, refl, sym, ap, ap₂, arith}
use Rattle.oer_module_parts.specs.Automatic.{AreAutomatic, in_additions, in_root, marks_of, places_of, root_count}
use Rattle.oer_module_parts.specs.declared.automatic.Place.{Place}
use Rattle.oer_module_parts.specs.declared.automatic.Place.TheVariants.{Root, Addition}
use Rattle.oer_module_syntax.specs.Tree.{Module, Elements}
use Rattle.oer_module_tags.specs.Alternatives.{AreTags, HaveTags, another_tag, automatic, behind_marker, by_types, no_tags}
use Rattle.oer_module_tags.specs.Laws.{TagsAreSole}
use Rattle.oer_module_tags.specs.Outermost.{tag}
use Rattle.oer_units.specs.declared.tagging.Class.TheVariants.{Context}
use Rattle.oer_units.specs.declared.tagging.Tag.{Tag}

-- ---- automatic ones

root_counted : (ps : List Place) (ns : List ℕ) → length ns ≡ length ps → length (in_root ps ns) ≡ root_count ps
root_counted [] [] e = refl
root_counted [] (n ∷ ns) e = absurd (let h : suc (length ns) ≡ 0 = e in omega (arith, h))
root_counted (Root ∷ ps) [] e = absurd (let h : 0 ≡ suc (length ps) = e in omega (arith, h))
root_counted (Addition ∷ ps) [] e = absurd (let h : 0 ≡ suc (length ps) = e in omega (arith, h))
root_counted (Root ∷ ps) (n ∷ ns) e = let h : length ns ≡ length ps = omega (arith, e) in ap suc (root_counted ps ns h)
root_counted (Addition ∷ ps) (n ∷ ns) e = let h : length ns ≡ length ps = omega (arith, e) in root_counted ps ns h

-- two lists of one length, each before others
apart : (ins bs cs ds : List ℕ) → length ins ≡ length bs → ins ++ cs ≡ bs ++ ds → (ins ≡ bs) × (cs ≡ ds)
apart [] [] cs ds l e = (refl, e)
apart [] (b ∷ bs) cs ds l e = absurd (let h : 0 ≡ suc (length bs) = l in omega (arith, h))
apart (a ∷ ins) [] cs ds l e = absurd (let h : suc (length ins) ≡ 0 = l in omega (arith, h))
apart (a ∷ ins) (b ∷ bs) cs ds l e =
    let h : length ins ≡ length bs = omega (arith, l) in
    let same : a ≡ b = cc in
    let more : ins ++ cs ≡ bs ++ ds = cc in
    let rest = apart ins bs cs ds h more in
    (rw (same, rest.0) refl, rest.1)

put_together : (ps : List Place) (ms ns : List ℕ) → length ms ≡ length ps → length ns ≡ length ps → in_root ps ms ≡ in_root ps ns
    → in_additions ps ms ≡ in_additions ps ns → ms ≡ ns
put_together [] [] [] k l e f = refl
put_together [] (m ∷ ms) ns k l e f = absurd (let h : suc (length ms) ≡ 0 = k in omega (arith, h))
put_together [] [] (n ∷ ns) k l e f = absurd (let h : suc (length ns) ≡ 0 = l in omega (arith, h))
put_together (p ∷ ps) [] ns k l e f = absurd (let h : 0 ≡ suc (length ps) = k in omega (arith, h))
put_together (p ∷ ps) (m ∷ ms) [] k l e f = absurd (let h : 0 ≡ suc (length ps) = l in omega (arith, h))
put_together (Root ∷ ps) (m ∷ ms) (n ∷ ns) k l e f =
    let same : m ≡ n = cc in
    let more : in_root ps ms ≡ in_root ps ns = cc in
    let j : length ms ≡ length ps = omega (arith, k) in
    let i : length ns ≡ length ps = omega (arith, l) in
    rw (same, put_together ps ms ns j i more f) refl
put_together (Addition ∷ ps) (m ∷ ms) (n ∷ ns) k l e f =
    let same : m ≡ n = cc in
    let more : in_additions ps ms ≡ in_additions ps ns = cc in
    let j : length ms ≡ length ps = omega (arith, k) in
    let i : length ns ≡ length ps = omega (arith, l) in
    rw (same, put_together ps ms ns j i e more) refl

automatic_sole : (ps : List Place) (ms ns : List ℕ) → AreAutomatic ps ms → AreAutomatic ps ns → ms ≡ ns
automatic_sole ps ms ns a b =
    let counted : length (in_root ps ms) ≡ length (in_root ps ns) = root_counted ps ms a.each ∙ sym (root_counted ps ns b.each) in
    let both = apart (in_root ps ms) (in_root ps ns) (in_additions ps ms) (in_additions ps ns) counted (a.in_order ∙ sym b.in_order) in
    put_together ps ms ns a.each b.each both.0 both.1

-- ---- those of types

module _ (sole : TagsAreSole) (ms : List Module) (m : ℕ) where
  have_sole : (es : Elements) (gs hs : List Tag) → HaveTags ms m es gs → HaveTags ms m es hs → gs ≡ hs
  have_sole _ _ _ no_tags no_tags = refl
  have_sole _ _ _ (behind_marker at x es gs a) (behind_marker _ _ _ hs b) = have_sole es gs hs a b
  have_sole _ _ _ (another_tag at w t need g es gs i a) (another_tag _ _ _ _ h _ hs j b) =
      ap₂ (λ x l. x ∷ l) (sole ms m t g h i j) (have_sole es gs hs a b)

  not_both : (b : Bool) → b ≡ true → b ≡ false → ⊥
  not_both b e f = cc

  pub tags_sole : (es : Elements) (gs hs : List Tag) → AreTags ms m es gs → AreTags ms m es hs → gs ≡ hs
  tags_sole es gs hs (automatic ns a b c) (automatic ks d e f) =
      c ∙ ap (map (tag Context)) (automatic_sole (places_of 0 (marks_of es)) ns ks b e) ∙ sym f
  tags_sole es gs hs (automatic ns a b c) (by_types d e) = absurd (not_both _ a d)
  tags_sole es gs hs (by_types a b) (automatic ks d e f) = absurd (not_both _ d a)
  tags_sole es gs hs (by_types a b) (by_types d e) = have_sole es gs hs b e
