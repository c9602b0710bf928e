-- The turns of the loops over items, components, alternatives and definitions.
use Rattle.std.proofs.Common.{◌≡◌, ℕ, zero, suc, ◌+◌, ◌-◌, ◌≤◌, ◌<◌, List, [], ◌∷◌, ◌++◌, length, Bool, true, false, ◌==◌, Ok, Err, refl, sym, arith, sub-one}
use Rattle.oer_lexer.specs.Token.{spots_of}
use Rattle.oer_lexer.specs.declared.token.Spot.{Spot as RawSpot}
use Rattle.oer_model.specs.AsnType.{AsnType, NamedNumber}
use Rattle.oer_values.specs.ShapeView.{SeenAlternative}
use Rattle.oer_lexer.specs.declared.token.Sign.TheVariants.{Comma}
use Rattle.oer_literals.proofs.Lists.{no_zero}
use Rattle.oer_notation.specs.Parsing.{entry_at, is_last, end_of, entries_more}
use Rattle.oer_value_notation.specs.State.{State, Read, bump, at_sign}
use Rattle.oer_notation.specs.Reading.{Known, NamedItems, Components, with_marker, Choices, with_alternative, with_choice_marker, past_marker, item_at, items_more, component_at, components_more, alternative_at, alternatives_more}
use Rattle.oer_value_notation.specs.declared.fault.TextFault.{TextFault}

pub items_err : (numbered : Bool) (n place : ℕ) (found : NamedItems) (s : State) (e : TextFault) → 0 < n → item_at numbered place s ≡ Err e → items_more numbered n place found s ≡ Err e
unfolding items_more
items_err numbered zero place found s e some h = absurd (omega arith)
items_err numbered (suc n) place found s e some h = rw h refl

pub items_step : (numbered : Bool) (n place : ℕ) (found : NamedItems) (s : State) (i : NamedNumber) (r : State) (seen : Bool) (r2 : State) → 0 < n → item_at numbered place s ≡ Ok (i, r) → past_marker found.1 r ≡ (seen, r2) → at_sign Comma r2 ≡ true
    → items_more numbered n place found s ≡ items_more numbered (n - 1) (place + 1) (found.0 ++ i ∷ [], seen) (bump r2)
unfolding items_more
items_step numbered zero place found s i r seen r2 some h m c = absurd (omega arith)
items_step numbered (suc n) place found s i r seen r2 some h m c = rw (h, m, c, sub-one) refl

pub items_end : (numbered : Bool) (n place : ℕ) (found : NamedItems) (s : State) (i : NamedNumber) (r : State) (seen : Bool) (r2 : State) → 0 < n → item_at numbered place s ≡ Ok (i, r) → past_marker found.1 r ≡ (seen, r2) → at_sign Comma r2 ≡ false
    → items_more numbered n place found s ≡ Ok ((found.0 ++ i ∷ [], seen), r2)
unfolding items_more
items_end numbered zero place found s i r seen r2 some h m c = absurd (omega arith)
items_end numbered (suc n) place found s i r seen r2 some h m c = rw (h, m, c) refl

pub items_over : (numbered : Bool) (n place : ℕ) (found : NamedItems) (s : State) → n ≤ 0 → items_more numbered n place found s ≡ Err s.stop
unfolding items_more
items_over numbered zero place found s none = refl
items_over numbered (suc n) place found s none = absurd (omega arith)

by_marker : (a : SeenAlternative) (c : Choices) (b : Bool) → c.extensible ≡ b → (with_alternative a c).extensible ≡ c.extensible
by_marker a c true h = rw h refl
by_marker a c false h = rw h refl

module _ (type : State → Read AsnType) where
  pub components_err : (n : ℕ) (found : Components) (s : State) (e : TextFault) → 0 < n → component_at type found s ≡ Err e → components_more type n found s ≡ Err e
  unfolding components_more
  components_err zero found s e some h = absurd (omega arith)
  components_err (suc n) found s e some h = rw h refl

  pub components_step : (n : ℕ) (found : Components) (s : State) (c : Components) (r : State) (seen : Bool) (r2 : State) → 0 < n → component_at type found s ≡ Ok (c, r) → past_marker c.extensible r ≡ (seen, r2) → at_sign Comma r2 ≡ true
      → components_more type n found s ≡ components_more type (n - 1) (with_marker seen c) (bump r2)
  unfolding components_more
  components_step zero found s c r seen r2 some h m g = absurd (omega arith)
  components_step (suc n) found s c r seen r2 some h m g = rw (h, m, g, sub-one) refl

  pub components_end : (n : ℕ) (found : Components) (s : State) (c : Components) (r : State) (seen : Bool) (r2 : State) → 0 < n → component_at type found s ≡ Ok (c, r) → past_marker c.extensible r ≡ (seen, r2) → at_sign Comma r2 ≡ false
      → components_more type n found s ≡ Ok (with_marker seen c, r2)
  unfolding components_more
  components_end zero found s c r seen r2 some h m g = absurd (omega arith)
  components_end (suc n) found s c r seen r2 some h m g = rw (h, m, g) refl

  pub components_over : (n : ℕ) (found : Components) (s : State) → n ≤ 0 → components_more type n found s ≡ Err s.stop
  unfolding components_more
  components_over zero found s none = refl
  components_over (suc n) found s none = absurd (omega arith)

  pub alternatives_err : (tagged : Bool) (n place : ℕ) (found : Choices) (s : State) (e : TextFault) → 0 < n → alternative_at type tagged place s ≡ Err e → alternatives_more type tagged n place found s ≡ Err e
  unfolding alternatives_more
  alternatives_err tagged zero place found s e some h = absurd (omega arith)
  alternatives_err tagged (suc n) place found s e some h = rw h refl

  pub alternatives_step : (tagged : Bool) (n place : ℕ) (found : Choices) (s : State) (a : SeenAlternative) (r : State) (seen : Bool) (r2 : State) → 0 < n → alternative_at type tagged place s ≡ Ok (a, r) → past_marker found.extensible r ≡ (seen, r2) → at_sign Comma r2 ≡ true
      → alternatives_more type tagged n place found s ≡ alternatives_more type tagged (n - 1) (place + 1) (with_choice_marker seen (with_alternative a found)) (bump r2)
  unfolding alternatives_more
  alternatives_step tagged zero place found s a r seen r2 some h m g = absurd (omega arith)
  alternatives_step tagged (suc n) place found s a r seen r2 some h m g = rw (h, m, g, sub-one) refl

  pub alternatives_end : (tagged : Bool) (n place : ℕ) (found : Choices) (s : State) (a : SeenAlternative) (r : State) (seen : Bool) (r2 : State) → 0 < n → alternative_at type tagged place s ≡ Ok (a, r) → past_marker found.extensible r ≡ (seen, r2) → at_sign Comma r2 ≡ false
      → alternatives_more type tagged n place found s ≡ Ok (with_choice_marker seen (with_alternative a found), r2)
  unfolding alternatives_more
  alternatives_end tagged zero place found s a r seen r2 some h m g = absurd (omega arith)
  alternatives_end tagged (suc n) place found s a r seen r2 some h m g = rw (h, m, g) refl

  pub alternatives_over : (tagged : Bool) (n place : ℕ) (found : Choices) (s : State) → n ≤ 0 → alternatives_more type tagged n place found s ≡ Err s.stop
  unfolding alternatives_more
  alternatives_over tagged zero place found s none = refl
  alternatives_over tagged (suc n) place found s none = absurd (omega arith)

pub same_marker : (a : SeenAlternative) (c : Choices) → (with_alternative a c).extensible ≡ c.extensible
same_marker a c = by_marker a c c.extensible refl

-- ---- definitions

pub entries_err : (n : ℕ) (known : List Known) (s : State) (e : TextFault) → 0 < n → entry_at known s ≡ Err e → entries_more n known s ≡ Err e
unfolding entries_more
entries_err zero known s e some h = absurd (omega arith)
entries_err (suc n) known s e some h = rw h refl

pub entries_step : (n : ℕ) (known : List Known) (s : State) (k : Known) (r : State) → 0 < n → entry_at known s ≡ Ok (k, r) → is_last r.left ≡ false → entries_more n known s ≡ entries_more (n - 1) (known ++ k ∷ []) r
unfolding entries_more
entries_step zero known s k r some h l = absurd (omega arith)
entries_step (suc n) known s k r some h l = rw (h, l, sub-one) refl

pub entries_end : (n : ℕ) (known : List Known) (s : State) (k : Known) (r : State) (u : Unit {0}) → 0 < n → entry_at known s ≡ Ok (k, r) → is_last r.left ≡ true → end_of r ≡ Ok u → entries_more n known s ≡ Ok (known ++ k ∷ [])
unfolding entries_more
entries_end zero known s k r u some h l e = absurd (omega arith)
entries_end (suc n) known s k r u some h l e = rw (h, l, e) refl

pub entries_stop : (n : ℕ) (known : List Known) (s : State) (k : Known) (r : State) (f : TextFault) → 0 < n → entry_at known s ≡ Ok (k, r) → is_last r.left ≡ true → end_of r ≡ Err f → entries_more n known s ≡ Err f
unfolding entries_more
entries_stop zero known s k r f some h l e = absurd (omega arith)
entries_stop (suc n) known s k r f some h l e = rw (h, l, e) refl

pub entries_over : (n : ℕ) (known : List Known) (s : State) → n ≤ 0 → entries_more n known s ≡ Err s.stop
unfolding entries_more
entries_over zero known s h = refl
entries_over (suc n) known s h = absurd (omega arith)

pub last_spots : (ss : List RawSpot) → is_last (spots_of ss) ≡ (length ss == 0)
last_spots [] = refl
last_spots (s ∷ ss) = sym (no_zero (length ss))
