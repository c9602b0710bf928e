-- What the value of a default is found to be, once it is known which value its tokens are.
use Rattle.std.proofs.Common.{◌≡◌, List, false, None, Ok, refl, ap, ◌∙◌}
use Rattle.oer_module_defaults.specs.Defaults.{Target, default_at, kind_at, literal_at, source_at, value_at as inner_at}
use Rattle.oer_module_defaults.specs.Governors.{Governor, governor_at, holds_others}
use Rattle.oer_module_defaults.specs.Values.{alone, value_in}
use Rattle.oer_module_defaults.specs.Walks.{Literal, Source, after, outcome_by, reference_at, step, walk}
use Rattle.oer_module_defaults.specs.declared.governor.Kind.{Kind}
use Rattle.oer_module_lexer.specs.Token.{Spot}
use Rattle.oer_module_names.specs.declared.error.Place.{Place}
use Rattle.oer_module_syntax.specs.Tree.{Module}
use Rattle.oer_module_terms.specs.Trees.{Value}
use Rattle.oer_module_text.specs.Errors.{in_module, ◌>>=◌}
use Rattle.oer_module_text.specs.Room.{Room}
use Rattle.oer_module_values.specs.Numbers.{place_of_first}
use Rattle.oer_module_values.specs.Types.{TypeIn}
use Rattle.oer_same_defaults.proofs.Tokens.{Reads}

value_read : (ss : List Spot) (v : Value) → Reads ss v → value_in 0 ss ≡ Ok v
unfolding value_in
value_read ss v h = ap (λ r. in_module 0 r >>= alone (place_of_first 0 ss)) h

module _ (ms : List Module) (t : TypeIn) (g : Governor) (ss : List Spot) (v : Value) where
  abbrev source : Source
  source = record { «module» = 0; governor = g; spots = ss }

  abbrev target : Target
  target = record { of = t; governor = g }

  abbrev literal : Literal
  literal = record { place = place_of_first 0 ss; governor = g; value = v }

  -- it is no reference
  abbrev pub IsLiteral : Type 0
  IsLiteral = reference_at ms (place_of_first 0 ss) g v ≡ Ok None

  reached : value_in 0 ss ≡ Ok v → IsLiteral → walk ms 255 source ≡ Ok literal
  unfolding walk step
  reached h n =
      ap (λ r. (r >>= λ v. reference_at ms (place_of_first 0 ss) g v >>= λ o. Ok (outcome_by v o)) >>= after (walk ms 254) source) h
      ∙ ap (λ r. (r >>= λ o. Ok (outcome_by v o)) >>= after (walk ms 254) source) n

  taken : (r : Room) → holds_others g.kind ≡ false → literal_at (inner_at ms 31) ms target literal r ≡ kind_at (inner_at ms 31) ms g.kind target literal r
  taken r h = rw h refl

  pub settled : (r : Room) → ((p : Place) → governor_at ms p t ≡ Ok g) → Reads ss v → IsLiteral
      → (k : Kind) → g.kind ≡ k → holds_others k ≡ false
      → default_at ms t 0 ss r ≡ kind_at (inner_at ms 31) ms k (record { of = t; governor = g })
      (record { place = place_of_first 0 ss; governor = g; value = v }) r
  unfolding default_at
  settled r e h n k is others =
      ap (λ x. x >>= λ g. source_at (inner_at ms 31) ms (record { of = t; governor = g }) (record { «module» = 0; governor = g; spots = ss }) r) (e (place_of_first 0 ss))
      ∙ ap (λ x. x >>= λ l. literal_at (inner_at ms 31) ms target l r) (reached (value_read ss v h) n)
      ∙ taken r (ap holds_others is ∙ others) ∙ ap (λ k. kind_at (inner_at ms 31) ms k target literal r) is
