-- A tree that says a type of the notation takes as many parts as the type has, and is written with few octets: by induction on the levels.
use Rattle.std.proofs.Common.{◌≡◌, ◌∙◌, ◌≤◌, ◌-◌, ℕ, zero, suc, ◌+◌, ◌*◌, List, [], ◌∷◌, ◌++◌, Bool, true, false, not, ◌&&◌, Option, None, Result, Ok, Err, arith, refl, sym, subst}
use Rattle.std.specs.Prelude.{codes, length}
use Rattle.oer_model.specs.AsnType.{Additions, Alternatives, AsnType, Fields, leaf}
use Rattle.oer_model.specs.LeafType.{LeafType}
use Rattle.oer_model.specs.Nodes.{alternatives_nodes, fields_nodes, leaf_nodes, type_nodes}
use Rattle.oer_model.specs.WellFormed.{alternatives_depth, depth, fields_depth}
use Rattle.oer_model.specs.Widths.{AlternativesHaveWidths, FieldsHaveWidths, HasWidths}
use Rattle.oer_model.proofs.fitting.Leaves.{some_depth, some_node}
use Rattle.oer_module_leaves.specs.Comments.{is_quiet, unchecked_at}
use Rattle.oer_module_leaves.specs.Leaves.{is_implied}
use Rattle.oer_module_leaves.specs.declared.comment.Checked.TheVariants.{Nothing}
use Rattle.oer_module_limits.specs.Written.{Written, written}
use Rattle.oer_module_names.specs.declared.error.Place.{Place}
use Rattle.oer_module_places.specs.Rising.{AllLie, Lies, Rise}
use Rattle.oer_module_lexer.specs.Token.{Spot}
use Rattle.oer_module_syntax.specs.Tree.{Assignment, Elements, Module, Tree, list_of, plain, structure}
use Rattle.oer_module_syntax.specs.declared.word.Builtin.{Builtin}
use Rattle.oer_module_syntax.specs.declared.word.Builtin.TheVariants as bi
use Rattle.oer_module_tags.specs.Alternatives.{alternative_tags}
use Rattle.oer_module_text.specs.Errors.{Read, place_in, told_by, ◌>>=◌}
use Rattle.oer_module_text.specs.Room.{Room, put, take_part}
use Rattle.oer_module_types.specs.Gathered.{Gathered, empty}
use Rattle.oer_module_types.specs.Levels.{is_full}
use Rattle.oer_module_types.specs.Types.{braces_at, closed, elements_at, first, list_at, meant_as, meant_by, nested_at, roots_at, single_at, single_by, stands_for, structure_at, type_at, type_place}
use Rattle.oer_module_values.specs.Errors.{Error as ToldError}
use Rattle.oer_module_values.specs.Types.{Meaning, TypeIn, meaning, type_in}
use Rattle.oer_notation.specs.Reading.{Known}
use Rattle.oer_same_bounds.specs.Laws.{SameRange, SameSizes}
use Rattle.oer_same_items.specs.Laws.{HasItem, SameEnumerated, SameItems}
use Rattle.oer_same_names.specs.Home.{IsBare, IsFront, IsHome}
use Rattle.oer_same_names.specs.Laws.{AlternativesAreMeant, TagsAreTheirs, TypesAreMeant}
use Rattle.oer_same_names.specs.Meant.{IsBuilt, IsMeantBy, LeadsToType, tags_of}
use Rattle.oer_same_trees.specs.Says.{Says, SaysAlternatives, SaysComponents, says_choice, says_extensible_sequence, says_leaf, says_name, says_sequence, says_sequence_of}
use Rattle.oer_same_types.proofs.Clear.{Inside, clear_alone, clear_led, inside}
use Rattle.oer_same_types.proofs.Elements.{AreApart, IsApart, Roots, Types}
use Rattle.oer_same_types.proofs.Leaves.{leaves_said}
use Rattle.oer_same_types.proofs.Ordinary.{AdditionWidths}
use Rattle.oer_same_types.proofs.Types.{LeavesSay, none_implied}
use Rattle.oer_units.specs.declared.tagging.Tag.{Tag}
use Rattle.oer_same_limits.proofs.Defaults.{DefaultsKeep, defaults_keep}
use Rattle.oer_same_limits.proofs.Elements.{AlternativesTake, IsFit, LeftBehind, TypesTake, alternatives_take, components_take, rest_depth, rest_nodes}
use Rattle.oer_same_limits.proofs.Leaves.{leaf_takes, quiet_same}
use Rattle.oer_same_limits.proofs.Quiet.{braces_quiet}
use Rattle.oer_same_limits.proofs.Room.{Adds, Fills, Leaves, Stays, adds_held, adds_then, comment_adds, held, part_taken, put_adds}
use Rattle.oer_same_limits.proofs.Short.{short_behind, short_led}
use Rattle.oer_same_limits.proofs.Tags.{tag_fits, tags_found}
use Rattle.oer_same_limits.proofs.Telling.{bind, choose, weaken}
use Rattle.oer_same_limits.specs.Laws.{TakesItsParts}
use Rattle.oer_same_limits.specs.Short.{AllShort, AreShort, IsShort}
use Rattle.oer_same_limits.specs.Takes.{Takes}

-- ---- what is found by other laws

meaning_stays : (s : Bool) (found : List Assignment) (ks known : List Known) (T : AsnType) (t : Tree) (f : Result Meaning ToldError) → LeadsToType found ks known T t f
    → Stays s (IsMeantBy found ks known T t) (told_by f)
meaning_stays s found ks known T t (Ok m) h = record { given = h }
meaning_stays s found ks known T t (Err e) h = record { given = tt }

closed_adds : (s : Bool) (ms : List Module) (p : Place) (marked : Bool) (r : Room) → Stays s (λ (x : Room). Adds 1 r x) (closed ms p marked r)
unfolding closed
closed_adds s ms p marked r = choose _ (not marked && is_implied ms p.«module») _ _ (λ lacks. record { given = tt }) (λ has. record { given = put_adds (codes "}") r })

-- what stands no deeper than types may nest isn't ended
nested_takes : (s : Bool) (nesting levels : ℕ) (within : List Place → Room → Read (AsnType × Room)) (p : Place) (path : List Place) (r : Room) (n k : ℕ)
    → is_full nesting p path ≡ false → Fills s n k r (within (path ++ p ∷ []) r) → Fills s n k r (nested_at nesting levels within p path r)
unfolding nested_at
nested_takes s nesting levels within p path r n k room h = choose _ (is_full nesting p path) _ _ (λ full. absurd (cc (full, room))) (λ off. h)

-- ---- braces

module _ (s : Bool) (ms : List Module) (type : Types) (roots : Roots) (at : ℕ) where
  braces_take : (gs : List Tag) (path : List Place) (es : Elements) (r : Room) (n : ℕ)
      → Stays s (LeftBehind s n 5 r) (elements_at ms type roots 0 gs path (first false) es empty r) → Fills s n 6 r (braces_at ms type roots (place_in 0 at) gs path es r)
  unfolding braces_at
  braces_take gs path es r n h =
      bind (LeftBehind s n 5 r) (λ (x : Gathered × Room). (x.1.parts ≡ n) × (s ≡ true → held x.1 ≤ held r + 6)) _ _ h (λ x is.
      bind (λ (y : Room). Adds 1 x.2 y) (λ (x : Gathered × Room). (x.1.parts ≡ n) × (s ≡ true → held x.1 ≤ held r + 6)) (closed ms (place_in 0 at) x.0.marked x.2) _
      (closed_adds s ms (place_in 0 at) x.0.marked x.2) (λ y adds.
      let all = adds_held 1 x.2 y adds in
      record { given = (adds.0 ∙ is.0, λ on. let few = is.1 on in omega (arith, few, all)) }))

  -- behind an opening brace, with no comment
  opened : {A : Type 0} (w : List ℕ) (r : Room) (n k : ℕ) (p : Read (A × Room)) → length w ≤ k → Fills s n 6 (put w r) p → Fills s n (k + 6) r p
  opened {A} w r n k p few h =
      let all = adds_held (length w) r (put w r) (put_adds w r) in
      weaken (λ (x : A × Room). (x.1.parts ≡ n) × (s ≡ true → held x.1 ≤ held (put w r) + 6)) _ p h (λ x is.
      (is.0, λ on. let less = is.1 on in omega (arith, less, all, few)))

  -- the braces say all
  uncommented : (w : Written) (n k : ℕ) (r : Room) (p : Read (AsnType × Room)) → is_quiet Nothing w ≡ true → Fills s n k r p
      → Fills s n k r (p >>= λ x. Ok (x.0, unchecked_at Nothing false w x.1))
  uncommented w n k r p quiet h =
      bind (λ (y : AsnType × Room). (y.1.parts ≡ n) × (s ≡ true → held y.1 ≤ held r + k)) (λ (y : AsnType × Room). (y.1.parts ≡ n) × (s ≡ true → held y.1 ≤ held r + k)) p _ h (λ y is.
      record { given = subst (λ (x : Room). (x.parts ≡ n) × (s ≡ true → held x ≤ held r + k)) (sym (quiet_same s Nothing w y.1 quiet)) is })

  sequence_takes : (w : Written) (path : List Place) (es : Elements) (r : Room) (n : ℕ) → is_quiet Nothing w ≡ true
      → Fills s n 6 (put (codes "SEQUENCE {") r) (braces_at ms type roots (place_in 0 at) [] path es (put (codes "SEQUENCE {") r))
      → Fills s n 16 r (structure_at ms type roots (place_in 0 at) bi.Sequence es w path r)
  unfolding structure_at
  sequence_takes w path es r n quiet h =
      uncommented w n 16 r _ quiet
      (bind (λ (x : Gathered × Room). (x.1.parts ≡ n) × (s ≡ true → held x.1 ≤ held r + 16))
      (λ (y : AsnType × Room). (y.1.parts ≡ n) × (s ≡ true → held y.1 ≤ held r + 16)) _ _
      (opened (codes "SEQUENCE {") r n 10 (braces_at ms type roots (place_in 0 at) [] path es (put (codes "SEQUENCE {") r)) (omega arith) h) (λ x is. record { given = is }))

  choice_takes : (w : Written) (path : List Place) (es : Elements) (r : Room) (n : ℕ) (own : List Tag) → is_quiet Nothing w ≡ true
      → Stays s (λ (gs : List Tag). gs ≡ own) (alternative_tags ms 0 es)
      → Fills s n 6 (put (codes "CHOICE {") r) (braces_at ms type roots (place_in 0 at) own path es (put (codes "CHOICE {") r))
      → Fills s n 14 r (structure_at ms type roots (place_in 0 at) bi.Choice es w path r)
  unfolding structure_at
  choice_takes w path es r n own quiet tags h =
      uncommented w n 14 r _ quiet
      (bind (λ (gs : List Tag). gs ≡ own) (λ (y : AsnType × Room). (y.1.parts ≡ n) × (s ≡ true → held y.1 ≤ held r + 14)) (alternative_tags ms 0 es) _ tags (λ gs are.
      bind (λ (x : Gathered × Room). (x.1.parts ≡ n) × (s ≡ true → held x.1 ≤ held r + 14))
      (λ (y : AsnType × Room). (y.1.parts ≡ n) × (s ≡ true → held y.1 ≤ held r + 14)) _ _
      (subst (λ (gs : List Tag). Fills s n 14 r (braces_at ms type roots (place_in 0 at) gs path es (put (codes "CHOICE {") r))) (sym are)
      (opened (codes "CHOICE {") r n 8 (braces_at ms type roots (place_in 0 at) own path es (put (codes "CHOICE {") r)) (omega arith) h)) (λ x is. record { given = is })))

-- ---- one level

-- The same behind the part of the type itself.
abbrev IsFitInside : AsnType → Tree → Room → Type 0
IsFitInside T t r = HasWidths T × IsShort t × (held r ≤ 1048576)

module _ (s : Bool) (ms : List Module) (ks : List Known) (same_items : SameItems) (say : LeavesSay false ms ks) (tags : TagsAreTheirs) (defaults : DefaultsKeep s ms ks)
    (home : IsHome ms ks) (levels : ℕ) (type : Types) (types : TypesTake s home.home.assignments ks levels type)
    (alternatives : AlternativesTake s home.home.assignments ks levels type) (roots : Roots) (nesting : ℕ) (once_at_least : 1 ≤ nesting) where
  abbrev found : List Assignment
  found = home.home.assignments

  -- what stands in a type in braces, and in a list
  in_braces : (known : List Known) (at : ℕ) (b : Builtin) (es : Elements) (constraints : List Spot) (path : List Place)
      → IsApart found known (structure at b es constraints) path → Inside (λ low high. AllLie low high es) found known nesting at path
  in_braces known at b es constraints path apart =
      inside (λ low high. Lies low high (structure at b es constraints)) (λ low high. AllLie low high es) found known nesting at path once_at_least
      (λ low high l. l) apart

  in_list : (known : List Known) (at : ℕ) (b : Builtin) (sized : Bool) (ss : List Spot) (t : Tree) (path : List Place)
      → IsApart found known (list_of at b sized ss None t) path → Inside (λ low high. Lies low high t) found known nesting at path
  in_list known at b sized ss t path apart =
      inside (λ low high. Lies low high (list_of at b sized ss None t)) (λ low high. Lies low high t) found known nesting at path once_at_least
      (λ low high l. l) apart

  fields_take : {known : List Known} {fs : Fields} {more : Option Additions} {es : Elements} → SaysComponents known fs more es → IsFront known ks
      → (at : ℕ) (w : Written) (path : List Place) → AreApart found known es path → (r : Room) (n : ℕ) → fields_depth fs ≤ levels → rest_depth more ≤ levels → r.parts ≤ 4096
      → r.parts ≡ n + (fields_nodes fs + rest_nodes more) → is_quiet Nothing w ≡ true
      → (s ≡ true → FieldsHaveWidths fs × AdditionWidths more × AreShort es × (held r ≤ 1048576))
      → Fills s n 16 r (structure_at ms type roots (place_in 0 at) bi.Sequence es w path r)
  fields_take {es} says front at w path apart r n deep more_deep few room quiet short =
      let all : held (put (codes "SEQUENCE {") r) ≤ held r + 10 = adds_held 10 r (put (codes "SEQUENCE {") r) (put_adds (codes "SEQUENCE {") r) in
      sequence_takes s ms type roots at w path es r n quiet (braces_take s ms type roots at [] path es (put (codes "SEQUENCE {") r) n
      (components_take s ms found ks levels type types defaults roots says front path apart (first false) empty (put (codes "SEQUENCE {") r) n deep more_deep few room
      (λ on. let c = (short on).3 in ((short on).0, (short on).1, (short on).2, omega (arith, c, all)))))

  choices_take : {known : List Known} {is_tagged : Bool} {more : Alternatives} {marker : Bool} {es : Elements} → SaysAlternatives known is_tagged 0 more marker es
      → IsFront known ks → (at : ℕ) (w : Written) (path : List Place) → AreApart found known es path → (r : Room) (n : ℕ) → alternatives_depth more ≤ levels → r.parts ≤ 4096
      → r.parts ≡ n + alternatives_nodes more → is_quiet Nothing w ≡ true → (s ≡ true → AlternativesHaveWidths more × AreShort es × (held r ≤ 1048576))
      → Fills s n 14 r (structure_at ms type roots (place_in 0 at) bi.Choice es w path r)
  choices_take {known} {is_tagged} {more} {marker} {es} says front at w path apart r n deep few room quiet short =
      let all : held (put (codes "CHOICE {") r) ≤ held r + 8 = adds_held 8 r (put (codes "CHOICE {") r) (put_adds (codes "CHOICE {") r) in
      choice_takes s ms type roots at w path es r n (tags_of more) quiet
      (tags_found s ms ks home tags known is_tagged more marker es says (omega (arith, room, few)))
      (braces_take s ms type roots at (tags_of more) path es (put (codes "CHOICE {") r) n
      (alternatives_take s ms found ks levels type alternatives roots (tags_of more) (λ on. tag_fits more (short on).0) says front path apart (first false) empty
      (put (codes "CHOICE {") r) n deep few room (λ on. let c = (short on).2 in ((short on).0, (short on).1, omega (arith, c, all)))))

  list_takes : {known : List Known} {T : AsnType} {t : Tree} → Says known T t → IsFront known ks → (at : ℕ) (sized : Bool) (w : Written) (path : List Place)
      → IsApart found known t path → (r : Room) (n : ℕ) → depth T ≤ levels → r.parts ≤ 4096 → r.parts ≡ n + type_nodes T → (s ≡ true → IsFitInside T t r)
      → Fills s n 0 r (list_at ms type (place_in 0 at) bi.Sequence sized t w path r)
  list_takes {known} {T} {t} says front at sized w path apart r n deep few room short =
      let worded : Room = put (codes "SEQUENCE") r in
      let commented : Room = unchecked_at Nothing sized w worded in
      let x0 : Room = put (codes " OF ") commented in
      let two = adds_then 8 109 r worded commented (put_adds (codes "SEQUENCE") r) (comment_adds Nothing sized w worded) in
      let all = adds_then (8 + 109) 4 r commented x0 two (put_adds (codes " OF ") commented) in
      let more = adds_held (8 + 109 + 4) r x0 all in
      let same : x0.parts ≡ r.parts = all.0 in
      bind (λ (x : AsnType × Room). (x.1.parts ≡ n) × (s ≡ true → held x.1 + 132 ≤ held x0)) (λ (x : AsnType × Room). (x.1.parts ≡ n) × (s ≡ true → held x.1 ≤ held r + 0)) _ _
      (types known T t path x0 n front says apart deep (omega (arith, same, few)) (same ∙ room) (λ on. let c = (short on).2 in ((short on).0, (short on).1, omega (arith, c, more)))) (λ x is.
      record { given = (is.0, λ on. let less = is.1 on in omega (arith, less, more)) })

  -- a type that holds no other
  single_takes : {known : List Known} {L : LeafType} {at : ℕ} {b : Builtin} {items constraints : List Spot} → IsFront known ks
      → Says known (leaf L) (plain at b items constraints) → (p : Place) (m : Meaning) (r : Room) (n : ℕ) → m.of ≡ type_in 0 (plain at b items constraints) → IsBare m.given
      → suc r.parts ≡ n + leaf_nodes L → (s ≡ true → IsFitInside (leaf L) (plain at b items constraints) r) → Fills s n 124 r (single_at ms p m r)
  unfolding single_at
  single_takes front says p m r n of bare room short =
      subst (λ (o : TypeIn). Fills s n 124 r (single_by ms p m o.«module» o.type r)) (sym of)
      (leaf_takes s same_items ms ks say front says tt p m r n of bare room (λ on. let c = (short on).2 in omega (arith, c)) (λ on. ((short on).1, (short on).0)))

  -- at most so many octets more are held
  looser : (n j : ℕ) (r : Room) (p : Read (AsnType × Room)) → j ≤ 124 → Fills s n j r p → Fills s n 124 r p
  looser n j r p few h = weaken (λ (x : AsnType × Room). (x.1.parts ≡ n) × (s ≡ true → held x.1 ≤ held r + j)) _ p h (λ x is.
      (is.0, λ on. let less = is.1 on in omega (arith, less, few)))

  -- behind the part of the type itself
  meant_takes : {known : List Known} {T : AsnType} {t : Tree} → Says known T t → IsFront known ks → IsBuilt t → (path : List Place) → IsApart found known t path
      → (p : Place) (m : Meaning) (r : Room) (n : ℕ) → m.of ≡ type_in 0 t → IsBare m.given → depth T ≤ suc levels → r.parts ≤ 4096 → suc r.parts ≡ n + type_nodes T
      → (s ≡ true → IsFitInside T t r) → Fills s n 124 r (meant_as ms nesting levels type roots path p m 0 t r)
  meant_takes {known} (says_leaf {at} k {L} {ts} {items} {constraints} is a c) front built path apart p m r n of bare deep few room short =
      single_takes {known = known} front (says_leaf {at = at} k {L = L} {ts = ts} {items = items} {constraints = constraints} is a c) p m r n of bare room short
  meant_takes (says_name is defined) front built path apart p m r n of bare deep few room short = absurd built
  meant_takes {known} (says_sequence {at} {fs} {es} says) front built path apart p m r n of bare deep few room short =
      let within = in_braces known at bi.Sequence es [] path apart in
      looser n 16 r _ (omega arith) (nested_takes s nesting levels (structure_at ms type roots (place_in 0 at) bi.Sequence es (written 0 [] m.given)) (place_in 0 at) path r n 16
      within.room (fields_take says front at (written 0 [] m.given) _ within.clear r n (omega (arith, deep)) (omega arith) few (omega (arith, room)) (braces_quiet m.given bare)
      (λ on. ((short on).0, tt, (short on).1, (short on).2))))
  meant_takes {known} (says_extensible_sequence {at} {fs} {more} {es} says) front built path apart p m r n of bare deep few room short =
      let within = in_braces known at bi.Sequence es [] path apart in
      looser n 16 r _ (omega arith) (nested_takes s nesting levels (structure_at ms type roots (place_in 0 at) bi.Sequence es (written 0 [] m.given)) (place_in 0 at) path r n 16
      within.room (fields_take says front at (written 0 [] m.given) _ within.clear r n (omega (arith, deep)) (omega (arith, deep)) few (omega (arith, room)) (braces_quiet m.given bare)
      (λ on. ((short on).0.0, (short on).0.1, (short on).1, (short on).2))))
  meant_takes {known} (says_sequence_of {at} {size} {T} {sized} {ss} {t} sizes says) front built path apart p m r n of bare deep few room short =
      let within = in_list known at bi.Sequence sized ss t path apart in
      looser n 0 r _ (omega arith) (nested_takes s nesting levels (list_at ms type (place_in 0 at) bi.Sequence sized t (written 0 ss m.given)) (place_in 0 at) path r n 0
      within.room (list_takes says front at sized (written 0 ss m.given) _ within.clear r n (omega (arith, deep)) few (omega (arith, room))
      (λ on. ((short on).0.1, (short on).1, (short on).2))))
  meant_takes {known} (says_choice {at} {tagged} {marker} {w} {t} {T} {more} {es} says) front built path apart p m r n of bare deep few room short =
      let within = in_braces known at bi.Choice es [] path apart in
      looser n 14 r _ (omega arith) (nested_takes s nesting levels (structure_at ms type roots (place_in 0 at) bi.Choice es (written 0 [] m.given)) (place_in 0 at) path r n 14
      within.room (choices_take says front at (written 0 [] m.given) _ within.clear r n (omega (arith, deep)) few (omega (arith, room)) (braces_quiet m.given bare)
      (λ on. ((short on).0.1, (short on).1, (short on).2))))

  found_takes : (known : List Known) (T : AsnType) (t : Tree) (path : List Place) (p : Place) (m : Meaning) (r : Room) (n : ℕ) → Rise 0 found
      → (s ≡ true → AllShort found) → IsApart found known t path → IsMeantBy found ks known T t m → depth T ≤ suc levels → r.parts ≤ 4096 → suc r.parts ≡ n + type_nodes T
      → (s ≡ true → IsFitInside T t r) → Fills s n 124 r (meant_by ms nesting levels type roots path p m r)
  found_takes known T t path p m r n rise all apart y deep few room short =
      let is = y.meant in
      subst (λ (o : TypeIn). Fills s n 124 r (meant_as ms nesting levels type roots path p m o.«module» o.type r)) (sym is.of)
      (meant_takes is.says.says is.says.front is.built path (clear_led found known is.says.known t is.tree path rise apart y.leads) p m r n is.of is.bare deep few room
      (λ on. ((short on).0, short_led found known is.says.known t is.tree (all on) (short on).1 y.leads, (short on).2)))

-- ---- all levels

module _ (s : Bool) (ms : List Module) (ks : List Known) (same_items : SameItems) (say : LeavesSay false ms ks) (there : HasItem) (means : TypesAreMeant)
    (choices : AlternativesAreMeant) (tags : TagsAreTheirs) (home : IsHome ms ks) (rise : Rise 0 home.home.assignments) (all : s ≡ true → AllShort home.home.assignments)
    (nesting : ℕ) (once_at_least : 1 ≤ nesting) where
  record All_take (levels : ℕ) : Type 0 where
    types : TypesTake s home.home.assignments ks levels (type_at ms nesting levels)
    alternatives : AlternativesTake s home.home.assignments ks levels (type_at ms nesting levels)

  no_level : {X : Type 0} (T : AsnType) → depth T ≤ 0 → X
  no_level T deep = let some = some_depth T in absurd (omega (arith, deep, some))

  -- by what a tree stands for
  standing : (levels : ℕ) → All_take levels → (known : List Known) (T : AsnType) (t : Tree) (path : List Place) (r : Room) (n : ℕ)
      → IsApart home.home.assignments known t path → depth T ≤ suc levels → r.parts ≤ 4096 → r.parts ≡ n + type_nodes T
      → LeadsToType home.home.assignments ks known T t (meaning ms (type_in 0 t)) → (s ≡ true → IsFit T t r)
      → Leaves s n r (type_at ms nesting (suc levels) path (type_in 0 t) r)
  unfolding type_at stands_for
  standing levels l known T t path r n apart deep few room is_meant short =
      let some = some_node T in
      let has : r.parts ≡ suc (r.parts - 1) = omega (arith, room, some) in
      bind (IsMeantBy home.home.assignments ks known T t) _ (told_by (meaning ms (type_in 0 t))) _
      (meaning_stays s home.home.assignments ks known T t (meaning ms (type_in 0 t)) is_meant) (λ m meant.
      bind (λ (x : Room). (x.parts ≡ r.parts - 1) × (s ≡ true → held x + 256 ≤ held r)) _ (take_part (type_place m.of) r) _
      (part_taken s (type_place m.of) r (r.parts - 1) has (λ on. (short on).2)) (λ x one.
      let left = one.0 in
      let less : suc x.parts ≡ n + type_nodes T = omega (arith, left, has, room) in
      weaken (λ (y : AsnType × Room). (y.1.parts ≡ n) × (s ≡ true → held y.1 ≤ held x + 124)) _
      (meant_by ms nesting levels (type_at ms nesting levels) (roots_at ms nesting levels) path (type_place (type_in 0 t)) m x)
      (found_takes s ms ks same_items say tags (defaults_keep s there means ms ks home) home levels (type_at ms nesting levels) l.types l.alternatives (roots_at ms nesting levels)
      nesting once_at_least known T t path (type_place (type_in 0 t)) m x n rise all apart meant deep (omega (arith, left, few)) less
      (λ on. let a = one.1 on in let c = (short on).2 in ((short on).0, (short on).1, omega (arith, a, c)))) (λ y is.
      (is.0, λ on. let a = one.1 on in let b = is.1 on in omega (arith, a, b)))))

  all_levels : (levels : ℕ) → All_take levels
  all_levels zero = record {
    types = λ known T t path r n front says apart deep few room short. no_level T deep;
    alternatives = λ known is_tagged place tag T t path r n front says apart deep few room short. no_level T deep;
  }
  all_levels (suc levels) = record {
    types = λ known T t path r n front says apart deep few room short. standing levels (all_levels levels) known T t path r n apart deep few room
        (means ms ks known T t home front says) short;
    alternatives = λ known is_tagged place tag T t path r n front says apart deep few room short. standing levels (all_levels levels) known T t path r n apart deep few room
        (choices ms ks known is_tagged place tag T t home front says) short;
  }

-- with so many parts left, so many are taken
taken : (s : Bool) (n k : ℕ) (r : Room) (p : Read (AsnType × Room)) → r.parts ≡ n + k → Leaves s n r p → Takes s k r p
taken s n k r (Ok x) e h = let is = h.given.0 in omega (arith, is, e)
taken s n k r (Err x) e h = h.given

pub types_take : TypesAreMeant → AlternativesAreMeant → TagsAreTheirs → SameItems → HasItem → SameRange → SameSizes → SameEnumerated → TakesItsParts
types_take means choices tags same_items there same_range same_sizes same_enumerated s ms ks known T t nesting levels r home rise front behind says once deep room few short =
    let has : r.parts ≡ (r.parts - type_nodes T) + type_nodes T = omega (arith, room) in
    let say = leaves_said false same_range same_sizes same_enumerated ms (none_implied ms ks home) ks in
    taken s (r.parts - type_nodes T) (type_nodes T) r (type_at ms nesting levels [] (type_in 0 t) r) has
    ((all_levels s ms ks same_items say there means choices tags home rise (λ on. (short on).0) nesting once levels).types known T t [] r (r.parts - type_nodes T) front says
    (clear_alone home.home.assignments known t rise behind) deep few has
    (λ on. let most : length r.text + 256 * r.parts ≤ 1048576 = (short on).2 in
    ((short on).1, short_behind home.home.assignments known t (short on).0 behind, omega (arith, most))))
