-- Bit strings and character strings are read.
use Rattle.std.proofs.Common.{◌≡◌, ℕ, List, [], ◌++◌, length, Bool, true, refl, ap, sym, ◌∙◌, subst, append-nil, Option}
use Rattle.std.specs.Str.{is_utf8, chars}
use Rattle.oer_units.specs.Lawful.{Lawful}
use Rattle.oer_units.specs.Reader.{Reader, give, bind, guard}
use Rattle.oer_units.specs.Reading.{counted_octets}
use Rattle.oer_units.specs.Spelling.{IsCounted}
use Rattle.oer_units.specs.declared.fault.Why.{Why}
use Rattle.oer_units.specs.declared.fault.Why.TheVariants.{End, Character}
use Rattle.oer_units.proofs.Closure.{give_lawful, bind_lawful, same_spellings}
use Rattle.oer_units.proofs.Counted.{counted_octets_lawful}
use Rattle.oer_units.proofs.Units.{tested_lawful}
use Rattle.oer_model.proofs.reading.Parts.{OfSize, octets_lawful, size_goes_on}
use Rattle.oer_model.specs.Constraints.{HasSizeLimit, fixed, size_fits}
use Rattle.oer_model.specs.Contents.{Sized, read_octets, read_text, read_utf8}
use Rattle.oer_model.specs.Encoding.{IsItself}
use Rattle.oer_model.specs.declared.size.Size.{Size}
use Rattle.oer_units.specs.declared.fault.Why.TheVariants as reason

character_goes_on : Character ≡ End → ⊥
character_goes_on e = cc

-- character strings
kept_lawful : {A : Type 0} (test : A → Bool) (why : Why) (r : Reader A) (S : A → List ℕ → Type 0) → (why ≡ End → ⊥) → Lawful r S → Lawful (bind r (λ w. guard (test w) why (give w))) (λ w b. S w b × (test w ≡ true))
kept_lawful test why r S goes_on l = same_spellings
    (bind_lawful r (λ w. guard (test w) why (give w)) S (λ w x b. (test w ≡ true) × ((x ≡ w) × (b ≡ []))) l (λ w. tested_lawful (test w) why (give w) (λ x b. (x ≡ w) × (b ≡ [])) goes_on (give_lawful w)))
    (λ x b (w, b1, b2, s, (t, (is, none)), e).
    (let whole : b ≡ b1 = e ∙ ap (λ v. b1 ++ v) none ∙ append-nil b1 in
    (subst (λ y. S y b) (sym is) (subst (λ v. S w v) (sym whole) s), ap test is ∙ t)))
    (λ x b (s, t). (x, b, [], s, (t, (refl, refl)), sym (append-nil b)))

pub text_lawful : (test : List ℕ → Bool) (fix : Option ℕ) (z : Size) → fixed z ≡ fix → HasSizeLimit z → Lawful (read_text test fix z) (λ w b. Sized fix (OfSize z) w b × (test w ≡ true))
text_lawful test fix z one small = kept_lawful test Character (read_octets fix z) (Sized fix (OfSize z)) character_goes_on (octets_lawful fix z one small)

pub utf8_lawful : (z : Size) → Lawful (read_utf8 z) (λ w b. (is_utf8 w ≡ true) × (size_fits z (length (chars w)) ≡ true) × IsCounted IsItself w b)
utf8_lawful z = same_spellings
    (bind_lawful counted_octets (λ w. guard (is_utf8 w) Character (guard (size_fits z (length (chars w))) reason.Size (give w))) (IsCounted IsItself)
    (λ w x b. (is_utf8 w ≡ true) × ((size_fits z (length (chars w)) ≡ true) × ((x ≡ w) × (b ≡ []))))
    counted_octets_lawful
    (λ w. tested_lawful (is_utf8 w) Character _ (λ x b. (size_fits z (length (chars w)) ≡ true) × ((x ≡ w) × (b ≡ []))) character_goes_on
    (tested_lawful (size_fits z (length (chars w))) reason.Size (give w) (λ x b. (x ≡ w) × (b ≡ [])) size_goes_on (give_lawful w))))
    (λ x b (w, b1, b2, s, (t, (u, (is, none))), e).
    (let whole : b ≡ b1 = e ∙ ap (λ v. b1 ++ v) none ∙ append-nil b1 in
    (ap is_utf8 is ∙ t, ap (λ v. size_fits z (length (chars v))) is ∙ u, subst (λ y. IsCounted IsItself y b) (sym is) (subst (λ v. IsCounted IsItself w v) (sym whole) s))))
    (λ x b (t, u, s). (x, b, [], s, (t, (u, (refl, refl))), sym (append-nil b)))
