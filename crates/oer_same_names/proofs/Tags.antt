-- The tags that are found for alternatives.
use Rattle.std.proofs.Common.{◌≡◌, ℕ, suc, ◌+◌, ◌^◌, List, [], ◌∷◌, Bool, true, false, Some, slice_get, Ok, Err, refl, sym, ap, subst, ◌∙◌, if◌then◌else◌, arith}
use Rattle.std.specs.Prelude.{nat_lt}
use Rattle.std.specs.List.{list_any}
use Rattle.std.specs.Option.{option_map_or}
use Rattle.oer_model.specs.AsnType.{Alternatives, AsnType}
use Rattle.oer_module_lexer.specs.Token.{Spot}
use Rattle.oer_module_names.specs.Finding.{module_place}
use Rattle.oer_module_names.specs.declared.error.Place.{Place}
use Rattle.oer_module_parts.specs.Automatic.{automatic_numbers, has_tag, is_tagged, marks_of, numbers_from, places_of, root_count}
use Rattle.oer_module_syntax.specs.Tree.{Module, Tree, Elements, tagged}
use Rattle.oer_module_syntax.specs.declared.tree.Mode.{Mode}
use Rattle.oer_module_syntax.specs.declared.tree.Mode.TheVariants.{Unsaid}
use Rattle.oer_module_tags.specs.Alternatives.{alternative_tags, automatic_tags, checked, context_tags, own_tags}
use Rattle.oer_module_tags.specs.Headers.{are_for_tags, has_tags_in_brackets, is_automatic, tags_automatically}
use Rattle.oer_module_tags.specs.Outermost.{outermost_tag, step, tag, tag_within, written_tag}
use Rattle.oer_module_text.specs.Errors.{Read, error, tag_number, ◌>>=◌}
use Rattle.oer_module_values.specs.Types.{type_in}
use Rattle.oer_notation.specs.Grammar.{IsTag, tag_by_place}
use Rattle.oer_notation.specs.Reading.{Known}
use Rattle.oer_same_names.proofs.Written.{written_is}
use Rattle.oer_same_names.specs.Home.{IsHome}
use Rattle.oer_same_names.specs.Meant.{AreTagsOf, tags_of}
use Rattle.oer_same_trees.specs.Says.{Says, SaysAlternatives, SaysLater, SaysTagged, says_leaf, says_name, says_sequence, says_extensible_sequence, says_sequence_of, says_choice}
use Rattle.oer_same_trees.specs.Says.{says_none_left, says_alternative, says_alternatives_marker, says_none_later, says_later, says_own_tag, says_tag_by_place}
use Rattle.oer_units.specs.declared.tagging.Class.TheVariants.{Context}
use Rattle.oer_units.specs.declared.tagging.Tag.{Tag}

-- ---- the header

module _ (ms : List Module) (ks : List Known) (h : IsHome ms ks) where
  first_is : slice_get ms 0 ≡ Some h.home
  first_is = ap (λ l. slice_get l 0) h.alone

  automatic : tags_automatically ms 0 ≡ true
  unfolding tags_automatically
  automatic = ap (λ o. option_map_or (λ m. is_automatic m.tags) o false) first_is ∙ ap is_automatic h.plain.automatic

  pub in_brackets : has_tags_in_brackets ms 0 ≡ true
  unfolding has_tags_in_brackets
  in_brackets = ap (λ o. option_map_or (λ m. are_for_tags m.instructions) o false) first_is ∙ ap are_for_tags h.plain.no_instructions

-- ---- whether a type has a tag where it is written

says_untagged : {known : List Known} {T : AsnType} {t : Tree} → Says known T t → is_tagged t ≡ false
says_untagged (says_leaf k l i c) = refl
says_untagged (says_name n d) = refl
says_untagged (says_sequence s) = refl
says_untagged (says_extensible_sequence s) = refl
says_untagged (says_sequence_of z s) = refl
says_untagged (says_choice s) = refl

tree_untagged : {known : List Known} {place : ℕ} {g : Tag} {T : AsnType} {t : Tree} → SaysTagged known false place g T t → is_tagged t ≡ false
tree_untagged (says_tag_by_place tag says) = says_untagged says

tree_tagged : {known : List Known} {place : ℕ} {g : Tag} {T : AsnType} {t : Tree} → SaysTagged known true place g T t → is_tagged t ≡ true
tree_tagged (says_own_tag tag keeps says) = refl

later_untagged : {known : List Known} {place : ℕ} {more : Alternatives} {es : Elements} → SaysLater known false place more es
    → list_any has_tag (marks_of es) ≡ false
later_untagged says_none_later = refl
later_untagged (says_later id s rest) = rw (tree_untagged s) (later_untagged rest)

pub untagged : {known : List Known} {place : ℕ} {more : Alternatives} {marker : Bool} {es : Elements}
    → SaysAlternatives known false place more marker es → list_any has_tag (marks_of es) ≡ false
untagged says_none_left = refl
untagged (says_alternative id s rest) = rw (tree_untagged s) (untagged rest)
untagged (says_alternatives_marker rest) = later_untagged rest

-- no alternatives, so no tags and no places
abbrev AreNone : Alternatives → Elements → Type 0
AreNone more es = (tags_of more ≡ []) × (places_of 0 (marks_of es) ≡ [])

later_none : {known : List Known} {place : ℕ} {more : Alternatives} {es : Elements} → SaysLater known true place more es
    → list_any has_tag (marks_of es) ≡ false → (tags_of more ≡ []) × (places_of 1 (marks_of es) ≡ [])
later_none says_none_later e = (refl, refl)
later_none (says_later id s rest) e = let tag = tree_tagged s in let no = rw tag at e in absurd (cc)

pub none_tagged : {known : List Known} {place : ℕ} {more : Alternatives} {marker : Bool} {es : Elements}
    → SaysAlternatives known true place more marker es → list_any has_tag (marks_of es) ≡ false → AreNone more es
none_tagged says_none_left e = (refl, refl)
none_tagged (says_alternative id s rest) e = let tag = tree_tagged s in let no = rw tag at e in absurd (cc)
none_tagged (says_alternatives_marker rest) e = later_none rest e

-- ---- tags by place

tag_is : {place : ℕ} {g : Tag} → IsTag false place g [] → g ≡ tag Context place
tag_is tag_by_place = refl

place_tag : {known : List Known} {place : ℕ} {g : Tag} {T : AsnType} {t : Tree} → SaysTagged known false place g T t → g ≡ tag Context place
place_tag (says_tag_by_place t says) = tag_is t

module _ (p : Place) where
  -- the tag of the first number, and those of the others
  first_by : (b : Bool) (n : ℕ) (own : List Tag) (r : Read (List Tag)) → AreTagsOf own r
      → AreTagsOf (tag Context n ∷ own) ((if b then Ok n else error p tag_number) >>= (λ k. Ok (tag Context k)) >>= λ g. r >>= λ more. Ok (g ∷ more))
  first_by true n own (Ok more) is = ap (λ gs. tag Context n ∷ gs) is
  first_by true n own (Err e) is = is
  first_by false n own r is = refl

  first_tag : (n : ℕ) (ns : List ℕ) (own : List Tag) → AreTagsOf own (context_tags p ns) → AreTagsOf (tag Context n ∷ own) (context_tags p (n ∷ ns))
  first_tag n ns own is = first_by (nat_lt n (2 ^ 32)) n own (context_tags p ns) is

  with_first : (g : Tag) (n : ℕ) (own : List Tag) (r : Read (List Tag)) → g ≡ tag Context n → AreTagsOf (tag Context n ∷ own) r → AreTagsOf (g ∷ own) r
  with_first g n own r e is = subst (λ f. AreTagsOf (f ∷ own) r) (sym e) is

  -- behind the marker
  later_numbers : {known : List Known} {place : ℕ} {more : Alternatives} {es : Elements} (r n : ℕ) → n ≡ place → SaysLater known false place more es
      → AreTagsOf (tags_of more) (context_tags p (numbers_from r n (places_of 1 (marks_of es))))
  later_numbers r n e says_none_later = refl
  later_numbers r n e (says_later {place = place} {t = g} {more = more} {es = es} id s rest) =
      let next : suc n ≡ place + 1 = omega arith in
      with_first g n (tags_of more) _ (place_tag s ∙ ap (tag Context) (sym e))
      (first_tag n (numbers_from r (suc n) (places_of 1 (marks_of es))) (tags_of more) (later_numbers r (suc n) next rest))

  no_root : {known : List Known} {place : ℕ} {more : Alternatives} {es : Elements} → SaysLater known false place more es
      → root_count (places_of 1 (marks_of es)) ≡ 0
  no_root says_none_later = refl
  no_root (says_later id s rest) = no_root rest

  numbers : {known : List Known} {place : ℕ} {more : Alternatives} {marker : Bool} {es : Elements} (r n : ℕ) → r ≡ place
      → n ≡ place + root_count (places_of 0 (marks_of es)) → SaysAlternatives known false place more marker es
      → AreTagsOf (tags_of more) (context_tags p (numbers_from r n (places_of 0 (marks_of es))))
  numbers r n e a says_none_left = refl
  numbers r n e a (says_alternative {place = place} {t = g} {more = more} {es = es} id s rest) =
      let next : suc r ≡ place + 1 = omega arith in
      let count : n ≡ place + 1 + root_count (places_of 0 (marks_of es)) = omega arith in
      with_first g r (tags_of more) _ (place_tag s ∙ ap (tag Context) (sym e))
      (first_tag r (numbers_from (suc r) n (places_of 0 (marks_of es))) (tags_of more) (numbers (suc r) n next count rest))
  numbers r n e a (says_alternatives_marker {place = place} {es = es} rest) =
      let none : root_count (places_of 1 (marks_of es)) ≡ 0 = no_root rest in
      let count : n ≡ place = omega arith in later_numbers r n count rest

-- ---- tags in brackets

module _ (ms : List Module) (ks : List Known) (h : IsHome ms ks) where
  -- what is found for a type with a tag is this tag
  tagged_found : (k at : ℕ) (ss : List Spot) (mode : Mode) (t : Tree) (g : Tag) → written_tag ms 0 at ss ≡ Ok g
      → tag_within ms (suc k) (type_in 0 (tagged at ss mode t)) ≡ Ok g
  unfolding tag_within step
  tagged_found k at ss mode t g is = rw is refl

  own_is : {known : List Known} {place : ℕ} {g : Tag} {T : AsnType} {t : Tree} → SaysTagged known true place g T t → outermost_tag ms (type_in 0 t) ≡ Ok g
  own_is (says_own_tag {at = at} {t = g} {ss = ss} {tree = t} tag keeps says) =
      tagged_found 254 at ss Unsaid t g (written_is ms (in_brackets ms ks h) at ss tag keeps)

  later_own : {known : List Known} {place : ℕ} {more : Alternatives} {es : Elements} → SaysLater known true place more es → own_tags ms 0 es ≡ Ok (tags_of more)
  later_own says_none_later = refl
  later_own (says_later id s rest) = rw (own_is s, later_own rest) refl

  pub own : {known : List Known} {place : ℕ} {more : Alternatives} {marker : Bool} {es : Elements} → SaysAlternatives known true place more marker es
      → own_tags ms 0 es ≡ Ok (tags_of more)
  own says_none_left = refl
  own (says_alternative id s rest) = rw (own_is s, own rest) refl
  own (says_alternatives_marker rest) = rw (later_own rest) refl

-- ---- both

-- no element is of another kind
later_checked : {known : List Known} {tagged : Bool} {place : ℕ} {more : Alternatives} {es : Elements} → SaysLater known tagged place more es → checked 0 es ≡ Ok tt
later_checked says_none_later = refl
later_checked (says_later id s rest) = later_checked rest

pub all_checked : {known : List Known} {tagged : Bool} {place : ℕ} {more : Alternatives} {marker : Bool} {es : Elements}
    → SaysAlternatives known tagged place more marker es → checked 0 es ≡ Ok tt
all_checked says_none_left = refl
all_checked (says_alternative id s rest) = all_checked rest
all_checked (says_alternatives_marker rest) = later_checked rest

module _ (ms : List Module) (ks : List Known) (h : IsHome ms ks) where
  -- what is found where no alternative has a tag, and where one has
  pub by_place : (es : Elements) → list_any has_tag (marks_of es) ≡ false → checked 0 es ≡ Ok tt
      → alternative_tags ms 0 es ≡ automatic_tags (module_place ms 0) (marks_of es)
  unfolding alternative_tags
  by_place es none all = rw (automatic ms ks h, none, all) refl

  pub by_types : (es : Elements) → list_any has_tag (marks_of es) ≡ true → alternative_tags ms 0 es ≡ own_tags ms 0 es
  unfolding alternative_tags
  by_types es some = rw (automatic ms ks h, some) refl

  tagged_by : {known : List Known} {more : Alternatives} {marker : Bool} {es : Elements} (b : Bool) → list_any has_tag (marks_of es) ≡ b
      → SaysAlternatives known true 0 more marker es → AreTagsOf (tags_of more) (alternative_tags ms 0 es)
  tagged_by {more = more} {es = es} true is says =
      subst (AreTagsOf (tags_of more)) (sym (by_types es is ∙ own ms ks h says)) refl
  tagged_by {more = more} {es = es} false is says =
      let none = none_tagged says is in
      let nothing : alternative_tags ms 0 es ≡ Ok [] =
      by_place es is (all_checked says) ∙ ap (λ ps. context_tags (module_place ms 0) (automatic_numbers ps)) none.1 in
      subst (AreTagsOf (tags_of more)) (sym nothing) (sym none.0)

  pub tags_are : (known : List Known) (is_tagged : Bool) (more : Alternatives) (marker : Bool) (es : Elements)
      → SaysAlternatives known is_tagged 0 more marker es → AreTagsOf (tags_of more) (alternative_tags ms 0 es)
  tags_are known true more with_marker es says = tagged_by (list_any has_tag (marks_of es)) refl says
  tags_are known false more with_marker es says =
      let count : root_count (places_of 0 (marks_of es)) ≡ 0 + root_count (places_of 0 (marks_of es)) = omega arith in
      subst (AreTagsOf (tags_of more)) (sym (by_place es (untagged says) (all_checked says)))
      (numbers (module_place ms 0) 0 (root_count (places_of 0 (marks_of es))) refl count says)
