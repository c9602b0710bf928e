-- The range of a type whose own constraint is one range.
use Rattle.std.proofs.Common.{◌≡◌, ℕ, List, [], ◌∷◌, map, get_or, Bool, true, false, ℤ, pos, Option, Some, None, Ok, Err, refl, sym, ap, subst}
use Rattle.std.proofs.lemmas.Bool.{and_parts, eq-eqb}
use Rattle.oer_module_bounds.specs.Hull.{effective}
use Rattle.oer_module_bounds.specs.Loose.{loose_effective}
use Rattle.oer_module_bounds.specs.Sets.{Span, Constraint, crossed}
use Rattle.oer_module_bounds.proofs.Plainness.{plain_is_effective}
use Rattle.oer_module_lexer.specs.Token.{Spot}
use Rattle.oer_module_limits.specs.Limits.{range_of, judged, same_form, same_sizes, same_octets, is_fixed, is_from, unsigned_octets, signed_octets}
use Rattle.oer_module_limits.specs.Sets as limits
use Rattle.oer_module_limits.specs.Sets.{Measure, number, size, row_read}
use Rattle.oer_module_limits.specs.Errors.{Error, Read, empty}
use Rattle.oer_module_limits.specs.Written.{all_given_none}
use Rattle.oer_module_names.specs.declared.error.Place.{Place}
use Rattle.oer_module_syntax.specs.Modules.{many, none_left}
use Rattle.oer_module_syntax.specs.Tree.{Module, Tree}
use Rattle.oer_module_terms.specs.Trees as terms
use Rattle.oer_module_values.specs.Types.{Given, constraints, set, type_in}
use Rattle.oer_same_bounds.specs.Bounds.{standing}
use Rattle.oer_same_bounds.proofs.Ranges.{Reads, one, reads_this, rejects}
use Rattle.oer_same_bounds.proofs.Rows.{placed}

-- ---- a range gives values the octets that it gives them

same_form_by : (r : Span) (b : Bool) → is_from (pos 0) r.low ≡ b → same_form r r ≡ true
same_form_by r true e = let same = eq-eqb (unsigned_octets r.high) (unsigned_octets r.high) refl in rw (e, same) refl
same_form_by r false e = let same = eq-eqb (signed_octets r.low r.high) (signed_octets r.low r.high) refl in rw (e, same) refl

same_sizes_by : (r : Span) (b : Bool) → is_fixed r.low r.high ≡ b → same_sizes r r ≡ true
same_sizes_by r true e = rw e refl
same_sizes_by r false e = rw e refl

same_itself : (k : Measure) (r : Span) → same_octets k r r ≡ true
same_itself (number g) r = same_form_by r (is_from (pos 0) r.low) refl
same_itself size r = same_sizes_by r (is_fixed r.low r.high) refl

-- ---- a range alone in a row

loose_is : (low high : Option ℤ) → crossed low high ≡ false → loose_effective (one low high ∷ []) ≡ Some (record { low = low; high = high })
loose_is low high h = rw (h, h) refl

loose_none : (low high : Option ℤ) → crossed low high ≡ true → loose_effective (one low high ∷ []) ≡ None
loose_none low high h = rw h refl

effective_is : (low high : Option ℤ) → effective (one low high ∷ []) ≡ loose_effective (one low high ∷ [])
effective_is low high = sym (plain_is_effective (one low high ∷ []) refl)

abbrev of_one : Measure → Place → Option ℤ → Option ℤ → Read Span
of_one k p low high = judged (same_octets k) p (effective (one low high ∷ [])) (loose_effective (one low high ∷ []))

judged_by : (k : Measure) (p : Place) (low high : Option ℤ) (b : Bool) → crossed low high ≡ b
    → Reads low high (record { low = low; high = high }) (of_one k p low high)
judged_by k p low high false h =
    reads_this low high _ _ (rw (effective_is low high, loose_is low high h, same_itself k (record { low = low; high = high })) refl)
judged_by k p low high true h =
    rejects low high _ _ (record { place = p; why = empty }) (rw (effective_is low high, loose_none low high h) refl) h

-- what is given without constraints
nothing_read : (m : ℕ) (ts : List Spot) → none_left ts ≡ true → row_read m ts ≡ Ok []
unfolding row_read many
nothing_read m [] h = refl
nothing_read m (t ∷ ts) h = absurd (cc)

nothing_given : (ms : List Module) (k : Measure) (gs : List Given) → all_given_none gs ≡ true → limits.given_rows (limits.set_at ms 255) k gs ≡ Ok []
unfolding limits.row
nothing_given ms k [] h = refl
nothing_given ms k (constraints m ts ∷ gs) h =
    let p = and_parts (none_left ts) (all_given_none gs) h in
    rw (nothing_read m ts p.0, nothing_given ms k gs p.1) refl
nothing_given ms k (set m ts ∷ gs) h = absurd (cc)

-- a type for which another stands, and what is measured by its own constraints
module _ (ms : List Module) (p : Place) (k own_k : Measure) (m : ℕ) (t : Tree) (cs : List Spot) (gs : List Given)
    (own : limits.own k (type_in m t) ≡ Ok (own_k, cs)) (none : all_given_none gs ≡ true) where
  from_row : (c : terms.Constraint) (x : Constraint) → row_read m cs ≡ Ok (c ∷ []) → limits.constraint (limits.set_at ms 255) own_k m c ≡ Ok x
      → range_of ms k p (standing m t gs) ≡ judged (same_octets k) p (effective (x ∷ [])) (loose_effective (x ∷ []))
  unfolding range_of limits.rows limits.own_rows limits.row
  from_row c x h e = rw (own, h, e, nothing_given ms (limits.measure_of k (type_in m t)) gs none) refl

  row_fails : (c : terms.Constraint) (f : Error) → row_read m cs ≡ Ok (c ∷ []) → limits.constraint (limits.set_at ms 255) own_k m c ≡ Err f
      → range_of ms k p (standing m t gs) ≡ Err f
  unfolding range_of limits.rows limits.own_rows limits.row
  row_fails c f h e = rw (own, h, e) refl

  from_one : (c : terms.Constraint) (x : Constraint) (low high : Option ℤ) → row_read m cs ≡ Ok (c ∷ [])
      → limits.constraint (limits.set_at ms 255) own_k m c ≡ Ok x → x ≡ one low high → range_of ms k p (standing m t gs) ≡ of_one k p low high
  from_one c x low high h e is =
      subst (λ (v : Constraint). range_of ms k p (standing m t gs) ≡ judged (same_octets k) p (effective (v ∷ [])) (loose_effective (v ∷ []))) is (from_row c x h e)

  judged_from : (c : terms.Constraint) (low high : Option ℤ) → row_read m cs ≡ Ok (c ∷ []) → (x : Read Constraint) → Reads low high (one low high) x
      → limits.constraint (limits.set_at ms 255) own_k m c ≡ x → Reads low high (record { low = low; high = high }) (range_of ms k p (standing m t gs))
  judged_from c low high h (Ok x) same e =
      subst (λ r. Reads low high (record { low = low; high = high }) r) (sym (from_one c x low high h e same)) (judged_by k p low high (crossed low high) refl)
  judged_from c low high h (Err f) rejected e = rejects low high _ _ f (row_fails c f h e) rejected

  pub one_judged : (c : terms.Constraint) (low high : Option ℤ) → row_read m cs ≡ Ok (c ∷ [])
      → Reads low high (one low high) (limits.constraint (limits.set_at ms 255) own_k m c)
      → Reads low high (record { low = low; high = high }) (range_of ms k p (standing m t gs))
  one_judged c low high h reads = judged_from c low high h (limits.constraint (limits.set_at ms 255) own_k m c) reads refl

  none_is : row_read m cs ≡ Ok [] → range_of ms k p (standing m t gs) ≡ Ok (record { low = None; high = None })
  unfolding range_of limits.rows limits.own_rows limits.row
  none_is h = rw (own, h, nothing_given ms (limits.measure_of k (type_in m t)) gs none, same_itself k (record { low = None; high = None })) refl

  pub none_judged : row_read m cs ≡ Ok [] → Reads None None (record { low = None; high = None }) (range_of ms k p (standing m t gs))
  none_judged h = reads_this None None _ _ (none_is h)

-- ---- places

pub place_among : List Spot → ℕ → ℕ
place_among ss i = get_or (map (λ s. s.at) ss) i 0

-- tokens that have places
pub are_placed : (ss : List Spot) → ss ≡ placed (place_among ss) (map (λ s. s.token) ss)
unfolding placed place_among
are_placed [] = refl
are_placed (s ∷ ss) = ap (λ l. s ∷ l) (are_placed ss)
