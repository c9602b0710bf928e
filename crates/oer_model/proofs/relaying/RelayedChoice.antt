-- What an older CHOICE relays is read by the newer one as the sender's value.
use Rattle.std.proofs.Common.{◌≡◌, ℕ, ◌⊎◌, inl, inr, ◌||◌, List, [], ◌++◌, Bool, true, false, refl, ap, sym, ◌∙◌, subst}
use Rattle.oer_units.specs.Spelling.{IsCounted, IsTag}
use Rattle.oer_units.specs.declared.tagging.Tag.{Tag}
use Rattle.oer_units.proofs.Closure.{is_one}
use Rattle.oer_model.proofs.reading.Main.{value_lawful, tag_known}
use Rattle.oer_model.proofs.relaying.Older.{none_older}
use Rattle.oer_model.proofs.canonical.StrictEnc.{HasCanonicalForm, strict_within}
use Rattle.oer_model.proofs.canonical.CanonicalForms.{form_of_canonical, canonical_octets_are, encodes_from}
use Rattle.oer_model.specs.Constraints.{KeepsLimits}
use Rattle.oer_model.specs.AsnType.{choice, Alternatives, no_alternatives, alternative, later}
use Rattle.oer_model.specs.AsnValue.{AsnValue, chosen, foreign}
use Rattle.oer_model.specs.Constraints.{has_tag, same_tag}
use Rattle.oer_model.specs.Encoding.{IsItself, ByTag, IsSpelling, SpellsAlternative}
use Rattle.oer_model.specs.Filling.{filled, filled_by_tag, filled_alternative}
use Rattle.oer_model.specs.Widths.{AreLater}
use Rattle.oer_model.specs.Laws.{with_alternatives, RelayedChoice}

-- counted content that may be counted anew
abbrev Anew : (List ℕ → Type 0) → List ℕ → Type 0
Anew P d = (w : List ℕ) × IsCounted IsItself w d × ((e : List ℕ) → IsCounted IsItself w e → P e)

counted_anew : (S : AsnValue → List ℕ → Type 0) (x : AsnValue) (d : List ℕ) → IsCounted S x d → Anew (IsCounted S x) d
counted_anew S x d (l, c, e, len, s) = (c, (l, c, e, len, refl), λ f (m, c', g, len', is). (m, c', g, len', subst (S x) (sym is) s))

by_tag_anew : (same : Bool) (S R : AsnValue → List ℕ → Type 0) (x : AsnValue) (d : List ℕ) → (S x d → Anew (S x) d) → (R x d → Anew (R x) d) → ByTag same S R x d → Anew (ByTag same S R x) d
by_tag_anew true S R x d f g p = f p
by_tag_anew false S R x d f g p = g p

further_anew : (extra : Alternatives) → AreLater extra → (t : Tag) (x : AsnValue) (d : List ℕ) → SpellsAlternative extra t x d → Anew (SpellsAlternative extra t x) d
further_anew no_alternatives l t x d p = absurd p
further_anew (alternative name u T extra) l t x d p = absurd l
further_anew (later name u T extra) l t x d p = by_tag_anew (same_tag u t) (IsCounted (IsSpelling T)) (SpellsAlternative extra t) x d (counted_anew (IsSpelling T) x d) (further_anew extra l t x d) p

-- a known alternative, or a further one
tag_either : (same other : Bool) (S R R' : AsnValue → List ℕ → Type 0) (x : AsnValue) (d : List ℕ) → (R' x d → R x d ⊎ ((other ≡ false) × Anew (R' x) d)) → ByTag same S R' x d → ByTag same S R x d ⊎ (((same || other) ≡ false) × Anew (ByTag same S R' x) d)
tag_either true other S R R' x d f p = inl p
tag_either false other S R R' x d f p = f p

either_alt : (more extra : Alternatives) → AreLater extra → (t : Tag) (x : AsnValue) (d : List ℕ) → SpellsAlternative (with_alternatives more extra) t x d → SpellsAlternative more t x d ⊎ ((has_tag t more ≡ false) × Anew (SpellsAlternative (with_alternatives more extra) t x) d)
either_alt no_alternatives extra l t x d p = inr (refl, further_anew extra l t x d p)
either_alt (alternative name u T more) extra l t x d p = tag_either (same_tag u t) (has_tag t more) (IsSpelling T) (SpellsAlternative more t) (SpellsAlternative (with_alternatives more extra) t) x d (either_alt more extra l t x d) p
either_alt (later name u T more) extra l t x d p = tag_either (same_tag u t) (has_tag t more) (IsCounted (IsSpelling T)) (SpellsAlternative more t) (SpellsAlternative (with_alternatives more extra) t) x d (either_alt more extra l t x d) p

tag_up : (same : Bool) (S R R' : AsnValue → List ℕ → Type 0) (x : AsnValue) (d : List ℕ) → (R x d → R' x d) → ByTag same S R x d → ByTag same S R' x d
tag_up true S R R' x d f p = p
tag_up false S R R' x d f p = f p

-- a known alternative is one of the newer type, and filled alike
alt_up : (more extra : Alternatives) (t : Tag) (x : AsnValue) (d : List ℕ) → SpellsAlternative more t x d → SpellsAlternative (with_alternatives more extra) t x d
alt_up no_alternatives extra t x d p = absurd p
alt_up (alternative name u T more) extra t x d p = tag_up (same_tag u t) (IsSpelling T) (SpellsAlternative more t) (SpellsAlternative (with_alternatives more extra) t) x d (alt_up more extra t x d) p
alt_up (later name u T more) extra t x d p = tag_up (same_tag u t) (IsCounted (IsSpelling T)) (SpellsAlternative more t) (SpellsAlternative (with_alternatives more extra) t) x d (alt_up more extra t x d) p

tag_fill : (same other : Bool) (f g h : AsnValue → AsnValue) (x : AsnValue) → (same || other) ≡ true → (other ≡ true → g x ≡ h x) → filled_by_tag same f g x ≡ filled_by_tag same f h x
tag_fill true other f g h x e i = refl
tag_fill false other f g h x e i = i e

fill_up : (more extra : Alternatives) (t : Tag) (x : AsnValue) → has_tag t more ≡ true → filled_alternative (with_alternatives more extra) t x ≡ filled_alternative more t x
fill_up no_alternatives extra t x e = absurd (cc)
fill_up (alternative name u T more) extra t x e = tag_fill (same_tag u t) (has_tag t more) (filled T) (filled_alternative (with_alternatives more extra) t) (filled_alternative more t) x e (fill_up more extra t x)
fill_up (later name u T more) extra t x e = tag_fill (same_tag u t) (has_tag t more) (filled T) (filled_alternative (with_alternatives more extra) t) (filled_alternative more t) x e (fill_up more extra t x)

module _ (more extra : Alternatives) (v : AsnValue) (c : List ℕ) where
  abbrev Back : Type 0
  Back = (z : AsnValue) × IsSpelling (choice true (with_alternatives more extra)) z c × (filled (choice true (with_alternatives more extra)) z ≡ filled (choice true (with_alternatives more extra)) v)

  back_known : (t : Tag) (x : AsnValue) → v ≡ chosen t x → has_tag t more ≡ true → (y : AsnValue) → IsSpelling (choice true more) y c → filled (choice true more) y ≡ chosen t (filled_alternative more t x) → Back
  back_known t x is known y (u, p, d, e, tag, inr (w, is', o, none, k)) same = absurd (apart (sym (ap (filled (choice true more)) is') ∙ same))
    where
      apart : foreign u w ≡ chosen t (filled_alternative more t x) → ⊥
      apart e = cc
  back_known t x is known y (u, p, d, e, tag, inl (x', is', k)) same =
      let both : chosen u (filled_alternative more u x') ≡ chosen t (filled_alternative more t x) = sym (ap (filled (choice true more)) is') ∙ same in
      let here = tag_known more u x' d k in (
        chosen u x',
        (u, p, d, e, tag, inl (x', refl, alt_up more extra u x' d k)),
        ap (chosen u) (fill_up more extra u x' here) ∙ both ∙ ap (chosen t) (sym (fill_up more extra t x known)) ∙ sym (ap (filled (choice true (with_alternatives more extra))) is),
      )

  back_foreign : (t : Tag) (w : List ℕ) → ((p d : List ℕ) → c ≡ p ++ d → IsTag t p → IsCounted IsItself w d → Back) → (y : AsnValue) → IsSpelling (choice true more) y c → filled (choice true more) y ≡ foreign t w → Back
  back_foreign t w f y (u, p, d, e, tag, inl (x', is', k)) same = absurd (apart (sym (ap (filled (choice true more)) is') ∙ same))
    where
      apart : chosen u (filled_alternative more u x') ≡ foreign t w → ⊥
      apart e = cc
  back_foreign t w f y (u, p, d, e, tag, inr (w', is', o, none, k)) same =
      let both : foreign u w' ≡ foreign t w = sym (ap (filled (choice true more)) is') ∙ same in
      let tags_same : u ≡ t = cc in
      let words : w' ≡ w = cc in
      f p d e (subst (λ t. IsTag t p) tags_same tag) (subst (λ w. IsCounted IsItself w d) words k)

choice_relayed : (more extra : Alternatives) → AreLater extra → KeepsLimits (choice true more) → (v w : AsnValue) (b c : List ℕ) → IsSpelling (choice true (with_alternatives more extra)) v b → IsSpelling (choice true more) w b → HasCanonicalForm (choice true more) w c → Back more extra v c
choice_relayed more extra l wf v w b c (t, p, d, e, tag, inr (x, is, o, none, k)) old (y, same, strict) =
    let mine : IsSpelling (choice true more) (foreign t x) b = (t, p, d, e, tag, inr (x, refl, refl, none_older more extra t none, k)) in
    let one = is_one (value_lawful (choice true more) wf) w (foreign t x) b b [] [] old mine refl in
    back_foreign more extra v c t x (λ q f g h i. (foreign t x, (t, q, f, g, h, inr (x, refl, refl, none, i)), sym (ap (filled (choice true (with_alternatives more extra))) is))) y (strict_within (choice true more) y c strict) (same ∙ ap (filled (choice true more)) one.0)
choice_relayed more extra l wf v w b c (t, p, d, e, tag, inl (x, is, k)) old (y, same, strict) = by_alt (either_alt more extra l t x d k)
  where
    by_alt : SpellsAlternative more t x d ⊎ ((has_tag t more ≡ false) × Anew (SpellsAlternative (with_alternatives more extra) t x) d) → Back more extra v c
    by_alt (inl here) =
        let mine : IsSpelling (choice true more) (chosen t x) b = (t, p, d, e, tag, inl (x, refl, here)) in
        let one = is_one (value_lawful (choice true more) wf) w (chosen t x) b b [] [] old mine refl in
        back_known more extra v c t x is (tag_known more t x d here) y (strict_within (choice true more) y c strict) (same ∙ ap (filled (choice true more)) one.0)
    by_alt (inr (none, (z, counts, anew))) =
        let mine : IsSpelling (choice true more) (foreign t z) b = (t, p, d, e, tag, inr (z, refl, refl, none, counts)) in
        let one = is_one (value_lawful (choice true more) wf) w (foreign t z) b b [] [] old mine refl in
        back_foreign more extra v c t z (λ q f g h i. (chosen t x, (t, q, f, g, h, inl (x, refl, anew f i)), sym (ap (filled (choice true (with_alternatives more extra))) is))) y (strict_within (choice true more) y c strict) (same ∙ ap (filled (choice true more)) one.0)

pub relayed_choice : RelayedChoice
relayed_choice more extra l wf wf' v w b c new old canonical =
    let o = choice_relayed more extra l wf v w b c new.2 old.2 (form_of_canonical (choice true more) w c canonical) in
    (o.0, encodes_from (choice true (with_alternatives more extra)) wf' o.0 c (canonical_octets_are (choice true more) w c canonical) o.1, o.2)
