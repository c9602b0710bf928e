-- The tags of alternatives are found, where there are no more alternatives than a well-formed type may have. They are theirs.
use Rattle.std.proofs.Common.{◌≡◌, ◌∙◌, ◌≤◌, ◌^◌, ◌+◌, ◌<◌, ℕ, zero, suc, pos, List, [], ◌∷◌, Bool, true, false, Some, Ok, Err, refl, sym, ap, subst, arith}
use Rattle.std.specs.Prelude.{length, nat_lt, slice_get}
use Rattle.std.specs.List.{list_any}
use Rattle.std.proofs.lemmas.Bool.{ltb-false}
use Rattle.oer_model.specs.AsnType.{Alternatives, alternative, later, no_alternatives}
use Rattle.oer_model.specs.Nodes.{alternatives_nodes}
use Rattle.oer_model.specs.Widths.{AlternativesHaveWidths}
use Rattle.oer_model.proofs.fitting.Leaves.{some_node}
use Rattle.oer_module_names.specs.Finding.{module_place}
use Rattle.oer_module_names.specs.declared.error.Place.{Place}
use Rattle.oer_module_parts.specs.Automatic.{automatic_numbers, has_tag, marks_of, numbers_from, places_of, root_count}
use Rattle.oer_module_parts.specs.declared.automatic.Place as automatic
use Rattle.oer_module_parts.specs.declared.automatic.Place.TheVariants.{Root, Addition}
use Rattle.oer_module_syntax.specs.Tree.{Elements, Module}
use Rattle.oer_module_tags.specs.Alternatives.{alternative_tags, context_tag, context_tags}
use Rattle.oer_module_tags.specs.Outermost.{fitting}
use Rattle.oer_module_text.specs.Errors.{Read}
use Rattle.oer_notation.specs.Reading.{Known}
use Rattle.oer_same_names.proofs.Tags.{all_checked, by_place, by_types, none_tagged, own, untagged}
use Rattle.oer_same_names.specs.Home.{IsHome}
use Rattle.oer_same_names.specs.Laws.{TagsAreTheirs}
use Rattle.oer_same_names.specs.Meant.{AreTagsOf, tags_of}
use Rattle.oer_same_trees.specs.Says.{SaysAlternatives, SaysLater, says_alternative, says_alternatives_marker, says_later, says_none_later, says_none_left}
use Rattle.oer_units.specs.declared.tagging.Tag.{Tag}
use Rattle.oer_same_limits.proofs.Room.{Goes, Stays}
use Rattle.oer_same_limits.proofs.Telling.{bind, choose}

-- ---- tags by place

module _ (s : Bool) where
  number_goes : (p : Place) (n : ℕ) → n ≤ 8192 → Goes s (context_tag p n)
  number_goes p n few =
      bind (λ (k : ℕ). Unit {0}) _ (fitting p (pos n)) _ (choose _ (nat_lt n (2 ^ 32)) _ _ (λ fits. record { given = tt }) (λ over.
      let large = ltb-false n (2 ^ 32) over in absurd (omega (arith, large, few)))) (λ k u. record { given = tt })

  first_goes : (p : Place) (n : ℕ) (ns : List ℕ) → n ≤ 8192 → Goes s (context_tags p ns) → Goes s (context_tags p (n ∷ ns))
  first_goes p n ns few h = bind _ _ (context_tag p n) _ (number_goes p n few) (λ g u. bind _ _ (context_tags p ns) _ h (λ gs u. record { given = tt }))

  numbers_go : (p : Place) (r a : ℕ) (ps : List automatic.Place) → r + length ps ≤ 8192 → a + length ps ≤ 8192 → Goes s (context_tags p (numbers_from r a ps))
  numbers_go p r a [] few more = record { given = tt }
  numbers_go p r a (Root ∷ ps) few more =
      first_goes p r (numbers_from (suc r) a ps) (omega (arith, few)) (numbers_go p (suc r) a ps (omega (arith, few)) (omega (arith, more)))
  numbers_go p r a (Addition ∷ ps) few more =
      first_goes p a (numbers_from r (suc a) ps) (omega (arith, more)) (numbers_go p r (suc a) ps (omega (arith, few)) (omega (arith, more)))

roots_few : (ps : List automatic.Place) → root_count ps ≤ length ps
roots_few [] = omega arith
roots_few (Root ∷ ps) = let few = roots_few ps in omega (arith, few)
roots_few (Addition ∷ ps) = let few = roots_few ps in omega (arith, few)

-- each place is that of an alternative
later_places : {known : List Known} {is_tagged : Bool} {place : ℕ} {more : Alternatives} {es : Elements} → SaysLater known is_tagged place more es
    → length (places_of 1 (marks_of es)) ≤ alternatives_nodes more
later_places says_none_later = omega arith
later_places (says_later {T} is s rest) = let few = later_places rest in let some = some_node T in omega (arith, few, some)

places_few : {known : List Known} {is_tagged : Bool} {place : ℕ} {more : Alternatives} {marker : Bool} {es : Elements}
    → SaysAlternatives known is_tagged place more marker es → length (places_of 0 (marks_of es)) ≤ alternatives_nodes more
places_few says_none_left = omega arith
places_few (says_alternative {T} is s rest) = let few = places_few rest in let some = some_node T in omega (arith, few, some)
places_few (says_alternatives_marker rest) = later_places rest

-- ---- both

module _ (s : Bool) (ms : List Module) (ks : List Known) (home : IsHome ms ks) where
  own_go : {known : List Known} {more : Alternatives} {marker : Bool} {es : Elements} (b : Bool) → list_any has_tag (marks_of es) ≡ b
      → SaysAlternatives known true 0 more marker es → Goes s (alternative_tags ms 0 es)
  own_go {more = more} {es = es} true is says =
      let all : alternative_tags ms 0 es ≡ Ok (tags_of more) = by_types ms ks home es is ∙ own ms ks home says in
      subst (λ r. Goes s r) (sym all) (record { given = tt })
  own_go {es = es} false is says =
      let nothing : alternative_tags ms 0 es ≡ Ok [] =
      by_place ms ks home es is (all_checked says) ∙ ap (λ ps. context_tags (module_place ms 0) (automatic_numbers ps)) (none_tagged says is).1 in
      subst (λ r. Goes s r) (sym nothing) (record { given = tt })

  pub tags_go : (known : List Known) (is_tagged : Bool) (more : Alternatives) (marker : Bool) (es : Elements)
      → SaysAlternatives known is_tagged 0 more marker es → alternatives_nodes more ≤ 4096 → Goes s (alternative_tags ms 0 es)
  tags_go known true more marked es says few = own_go (list_any has_tag (marks_of es)) refl says
  tags_go known false more marked es says few =
      let places = places_few says in
      let roots = roots_few (places_of 0 (marks_of es)) in
      subst (λ r. Goes s r) (sym (by_place ms ks home es (untagged says) (all_checked says)))
      (numbers_go s (module_place ms 0) 0 (root_count (places_of 0 (marks_of es))) (places_of 0 (marks_of es)) (omega (arith, places, few))
      (omega (arith, places, few, roots)))

  -- what is found, whatever it is
  theirs : (own : List Tag) (p : Read (List Tag)) → Goes s p → AreTagsOf own p → Stays s (λ (gs : List Tag). gs ≡ own) p
  theirs own (Ok gs) goes is = record { given = is }
  theirs own (Err e) goes is = record { given = goes.given }

  pub tags_found : TagsAreTheirs → (known : List Known) (is_tagged : Bool) (more : Alternatives) (marker : Bool) (es : Elements)
      → SaysAlternatives known is_tagged 0 more marker es → alternatives_nodes more ≤ 4096
      → Stays s (λ (gs : List Tag). gs ≡ tags_of more) (alternative_tags ms 0 es)
  tags_found tags known is_tagged more marker es says few =
      theirs (tags_of more) (alternative_tags ms 0 es) (tags_go known is_tagged more marker es says few) (tags ms ks known is_tagged more marker es home says)

-- the number of each has 32 bits
pub tag_fits : (more : Alternatives) → AlternativesHaveWidths more → (i : ℕ) (t : Tag) → slice_get (tags_of more) i ≡ Some t → t.number < 2 ^ 32
tag_fits no_alternatives h i t e = absurd (cc)
tag_fits (alternative w g T more) h zero t e = let same : g ≡ t = cc in subst (λ (t : Tag). t.number < 2 ^ 32) same h.0
tag_fits (alternative w g T more) h (suc i) t e = tag_fits more h.2 i t e
tag_fits (later w g T more) h zero t e = let same : g ≡ t = cc in subst (λ (t : Tag). t.number < 2 ^ 32) same h.0
tag_fits (later w g T more) h (suc i) t e = tag_fits more h.2 i t e
