-- Which imports ask for another version, in the words of the relation.
use Rattle.std.proofs.Common.{◌≡◌, ◌+◌, ◌⊎◌, inl, inr, ℕ, zero, suc, Bool, true, false, not, List, [], ◌∷◌, Option, option_map, refl, sym, subst, ap, ◌∙◌, arith}
use Rattle.std.proofs.lemmas.Option.{slice_get-map}
use Rattle.oer_module_syntax.specs.Tree.{Import, Module}
use Rattle.oer_module_names.proofs.Allowed.{fits_tested}
use Rattle.oer_module_names.proofs.Among.{Gives, Tells, among_either, among_left, among_right, same_some, tells}
use Rattle.oer_module_names.proofs.Tellings.{only_is_one}
use Rattle.oer_module_names.specs.Identifiers.{arcs}
use Rattle.oer_module_names.specs.Sole.{Entry, sole}
use Rattle.oer_module_names.specs.Standing.{IsAmong, IsAt, IsOnlyAt, IsVersion}
use Rattle.oer_module_names.specs.Tables.{identifiers, is_other, is_other_than, module_names, named, other, other_by, other_entries, others_from}
use Rattle.oer_module_names.specs.Versions.{Fits, fits}
use Rattle.oer_module_names.specs.declared.index.Sole.{Sole}
use Rattle.oer_module_names.specs.declared.index.Sole.TheVariants.{Nothing, One, Two}

-- ---- what the entries are

entry_gives : (b : Bool) (v : List ℕ) (n : ℕ) → b ≡ true → Gives (other_entries b v n) v n
entry_gives true v n e = (zero, refl)
entry_gives false v n e = cc

entry_given : (b : Bool) (v : List ℕ) (n : ℕ) (w : List ℕ) (a : ℕ) → Gives (other_entries b v n) w a → (b ≡ true) × (v ≡ w)
entry_given true v n w a (zero, h) = let same = same_some (record { name = v; number = n }) (record { name = w; number = a }) h in (refl, ap (λ e. e.name) same)
entry_given true v n w a (suc i, h) = cc
entry_given false v n w a (i, h) = cc

module _ (f : List ℕ → Sole) (ids : List (Option (List ℕ))) where
  others_give : (n : ℕ) (is : List Import) (j : ℕ) (x : Import) → IsAt is j x → is_other f ids x ≡ true → Gives (others_from f ids n is) x.from (n + j)
  others_give n [] j x h o = cc
  others_give n (i ∷ is) zero x h o =
      let here : n ≡ n + 0 = omega arith in
      let same = same_some i x h in
      among_left (other_entries (is_other f ids i) i.from n) (others_from f ids (suc n) is) (record { name = x.from; number = n + 0 })
      (subst (λ d. Gives (other_entries (is_other f ids i) i.from n) x.from d) here
      (subst (λ y. Gives (other_entries (is_other f ids i) i.from n) y.from n) same (entry_gives (is_other f ids i) i.from n (ap (is_other f ids) same ∙ o))))
  others_give n (i ∷ is) (suc j) x h o =
      let next : suc n + j ≡ n + suc j = omega arith in
      among_right (other_entries (is_other f ids i) i.from n) (others_from f ids (suc n) is) (record { name = x.from; number = n + suc j })
      (subst (λ d. Gives (others_from f ids (suc n) is) x.from d) next (others_give (suc n) is j x h o))

  -- an import that asks for another version
  record IsOther (is : List Import) (w : List ℕ) : Type 0 where
    pub import : Import
    pub among : IsAmong is import
    pub from : import.from ≡ w
    pub asks : is_other f ids import ≡ true

  others_given : (n : ℕ) (is : List Import) (w : List ℕ) (a : ℕ) → Gives (others_from f ids n is) w a → IsOther is w
  others_given n [] w a (i, h) = cc
  others_given n (i ∷ is) w a g =
      by (among_either (other_entries (is_other f ids i) i.from n) (others_from f ids (suc n) is) (record { name = w; number = a }) g) (others_given (suc n) is w a)
    where
      by : Gives (other_entries (is_other f ids i) i.from n) w a ⊎ Gives (others_from f ids (suc n) is) w a → (Gives (others_from f ids (suc n) is) w a → IsOther is w) → IsOther (i ∷ is) w
      by (inl l) rest = let r = entry_given (is_other f ids i) i.from n w a l in record { import = i; among = (zero, refl); from = r.1; asks = r.0 }
      by (inr l) rest = let r = rest l in record { import = r.import; among = (suc r.among.0, r.among.1); from = r.from; asks = r.asks }

-- ---- module n is the only one that is named f

not_false : (b : Bool) → not b ≡ false → b ≡ true
not_false true h = refl
not_false false h = cc

module _ (ms : List Module) (f : List ℕ) (j : ℕ) (n : Module) (only : IsOnlyAt (module_names ms) j f) (there : IsAt ms j n) where
  abbrev others : List Import → List Entry
  others is = others_from (named ms) (identifiers ms) 0 is

  other_is : (i : Import) → i.from ≡ f → is_other (named ms) (identifiers ms) i ≡ not (fits i.versions (arcs i.id) (arcs n.id))
  unfolding named
  other_is i from =
      ap (is_other_than (identifiers ms) i) (ap (named ms) from ∙ only_is_one (module_names ms) f j only)
      ∙ ap (other_by i) (slice_get-map (λ m. arcs m.id) ms j ∙ ap (option_map (λ m. arcs m.id)) there)

  pub fit_where_none : (m : Module) → other (named ms) (identifiers ms) m f ≡ Nothing → IsVersion m f n
  fit_where_none m e i among from = by (is_other (named ms) (identifiers ms) i) refl
    where
      none : Tells (others m.imports) f Nothing
      none = subst (Tells (others m.imports) f) e (tells (others m.imports) f)

      by : (b : Bool) → is_other (named ms) (identifiers ms) i ≡ b → Fits i n
      by true o = absurd (none (0 + among.0) (subst (λ w. Gives (others m.imports) w (0 + among.0)) from (others_give (named ms) (identifiers ms) 0 m.imports among.0 i among.1 o)))
      by false o = (fits_tested i n).0 (not_false (fits i.versions (arcs i.id) (arcs n.id)) (sym (other_is i from) ∙ o))

  pub none_where_fit : (m : Module) → IsVersion m f n → other (named ms) (identifiers ms) m f ≡ Nothing
  none_where_fit m h = by (sole (others m.imports) f) (tells (others m.imports) f)
    where
      none : (b : ℕ) → Gives (others m.imports) f b → ⊥
      none b g =
          let r = others_given (named ms) (identifiers ms) 0 m.imports f b g in
          let fit : fits r.import.versions (arcs r.import.id) (arcs n.id) ≡ true = (fits_tested r.import n).1 (h r.import r.among r.from) in
          let no : is_other (named ms) (identifiers ms) r.import ≡ false = other_is r.import r.from ∙ ap not fit in
          let yes = r.asks in
          cc

      by : (s : Sole) → Tells (others m.imports) f s → s ≡ Nothing
      by Nothing t = refl
      by (One a) t = absurd (none a t.0)
      by (Two a b) t = absurd (none a t.0)
