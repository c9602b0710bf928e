-- What hops find in an encoding, and what they reach there.
use Rattle.std.proofs.Common.{◌≡◌, ◌+◌, ℕ, List, [], ◌∷◌, length, Bool, true, false, Option, Some, None, refl, sym, ap, ap₂, ◌∙◌, subst, length-append}
use Rattle.oer_units.specs.Reader.{Outcome, at, got, refused}
use Rattle.oer_units.specs.Reading.{tag}
use Rattle.oer_units.specs.declared.tagging.Tag.{Tag}
use Rattle.oer_units.proofs.TagReaders.{tag_lawful}
use Rattle.oer_model.specs.AsnType.{AsnType}
use Rattle.oer_model.specs.Parts.{Answer, LeadsTo, Step, absent_part, find_part, found, go_on, lookup, no_such_step, to_chosen}
use Rattle.oer_model.specs.Parts as plain
use Rattle.oer_model.proofs.paths.Finding.{Whole, found_is, one_split, same_found}
use Rattle.oer_model.proofs.paths.Pieces.{Child, KeptChild, Led, child_in, child_kept, kept, led, nothing_there, pieces, splits, typed, untyped}
use Rattle.oer_parts.specs.Walk.{step_of}
use Rattle.oer_at.specs.Finding.{find_at, if_chosen, is_chosen, is_tag, take_hop, take_step}
use Rattle.oer_at.specs.Laws.{FindsReached}
use Rattle.oer_at.specs.Meaning.{BeginsWith, Hops, Reaches}
use Rattle.oer_at.specs.declared.hop.Hop.{Hop}
use Rattle.oer_at.specs.declared.hop.Hop.TheVariants.{Alternative, Part}

-- ---- the tag

begins : (t : Tag) (b : List ℕ) (o : Outcome Tag) → tag (at b (length b)) ≡ o → is_tag t o ≡ true → BeginsWith t b
begins t b (got u q) e h = let s = tag_lawful.sound (at b (length b)) u q e in (u, s.0, q.input, h, s.2, s.1)
begins t b (refused why rest) e h = absurd (cc)

begins_with : (t : Tag) (b : List ℕ) → is_chosen t b ≡ true → BeginsWith t b
unfolding is_chosen
begins_with t b h = begins t b (tag (at b (length b))) refl h

is_begun : (t : Tag) (b : List ℕ) → BeginsWith t b → is_chosen t b ≡ true
unfolding is_chosen
is_begun t b (u, p, c, same, split, spelt) =
    let size : length b ≡ length p + length c = ap length split ∙ length-append p c in
    ap (is_tag t) (ap₂ (λ (l : List ℕ) (n : ℕ). tag (at l n)) split size ∙ tag_lawful.complete u p c (length c) spelt) ∙ same

-- ---- one hop

-- what a step leads to is an encoding, where its type is known
leads_whole : (T : AsnType) (b : List ℕ) → Whole (Some T) b → (step : Step) (V : Option AsnType) (c : List ℕ) → LeadsTo T b step V c → Whole V c
leads_whole T b ((w, d), (v, s)) step V c (parts, split, look) =
    let o = splits T v b s in
    by_child o.0 (ap (lookup no_such_step step) (one_split T w d b o.0 parts o.1 split) ∙ look)
    (child_in step (pieces T v)) (led (pieces T v) o.0 o.2 step) (child_kept step (pieces T v) (kept T w d v))
  where
    by_child : (own : List plain.Part) → lookup no_such_step step own ≡ found V c → (x : Child) → Led x (λ a. lookup a step own) → KeptChild x → Whole V c
    by_child own here (typed need U y) (c', e, spelt) k =
        let both = same_found (Some U) V c' c (sym (e no_such_step) ∙ here) in
        subst (λ (W : Option AsnType). Whole W c) both.0 (subst (λ (l : List ℕ). Whole (Some U) l) both.1 (k, (y, spelt)))
    by_child own here (untyped u) e k =
        let both = same_found None V u c (sym (e no_such_step) ∙ here) in
        subst (λ (W : Option AsnType). Whole W c) both.0 tt
    by_child own here nothing_there e k = let none : no_such_step ≡ found V c = sym (e no_such_step) ∙ here in absurd (cc)

step_leads : (T : AsnType) (b : List ℕ) → Whole (Some T) b → (step : Step) (V : Option AsnType) (c : List ℕ) → take_step step (Some T) b ≡ found V c → LeadsTo T b step V c
step_leads T b w step V c e =
    let (U, s, l, (kind, same)) = (found_is (step ∷ []) (Some T) b w V c).0 e in
    subst (λ (W : Option AsnType). LeadsTo T b step W c) (sym kind) (subst (λ (x : List ℕ). LeadsTo T b step U x) (sym same) l)

leads_step : (T : AsnType) (b : List ℕ) → Whole (Some T) b → (step : Step) (V : Option AsnType) (c : List ℕ) → LeadsTo T b step V c → take_step step (Some T) b ≡ found V c
leads_step T b w step V c l = (found_is (step ∷ []) (Some T) b w V c).1 (V, c, l, (refl, refl))

by_chosen : (T : AsnType) (b : List ℕ) (t : Tag) → Whole (Some T) b → (V : Option AsnType) (c : List ℕ) (x : Bool) → is_chosen t b ≡ x
    → if_chosen x (take_step to_chosen (Some T) b) ≡ found V c → Hops T b (Alternative t) V c
by_chosen T b t w V c true is e = (begins_with t b is, step_leads T b w to_chosen V c e)
by_chosen T b t w V c false is e = absurd (cc)

hop_leads : (T : AsnType) (b : List ℕ) → Whole (Some T) b → (hop : Hop) (V : Option AsnType) (c : List ℕ) → take_hop hop (Some T) b ≡ found V c → Hops T b hop V c
hop_leads T b w (Part step) V c e = step_leads T b w (step_of step) V c e
hop_leads T b w (Alternative t) V c e = by_chosen T b t w V c (is_chosen t b) refl e

leads_hop : (T : AsnType) (b : List ℕ) → Whole (Some T) b → (hop : Hop) (V : Option AsnType) (c : List ℕ) → Hops T b hop V c → take_hop hop (Some T) b ≡ found V c
leads_hop T b w (Part step) V c l = leads_step T b w (step_of step) V c l
leads_hop T b w (Alternative t) V c (first, l) = ap (λ x. if_chosen x (take_step to_chosen (Some T) b)) (is_begun t b first) ∙ leads_step T b w to_chosen V c l

hop_whole : (T : AsnType) (b : List ℕ) → Whole (Some T) b → (hop : Hop) (V : Option AsnType) (c : List ℕ) → Hops T b hop V c → Whole V c
hop_whole T b w (Part step) V c l = leads_whole T b w (step_of step) V c l
hop_whole T b w (Alternative t) V c (first, l) = leads_whole T b w to_chosen V c l

-- ---- one after another

nowhere : (hop : Hop) (b : List ℕ) (V : Option AsnType) (c : List ℕ) → take_hop hop None b ≡ found V c → ⊥
nowhere (Part step) b V c e = cc
nowhere (Alternative t) b V c e = by (is_chosen t b) e where
  by : (x : Bool) → if_chosen x no_such_step ≡ found V c → ⊥
  by true e = cc
  by false e = cc

-- something was found on the way
found_first : (a : Answer) (next : Option AsnType → List ℕ → Answer) (U : Option AsnType) (s : List ℕ) → go_on a next ≡ found U s
    → (V : Option AsnType) × (c : List ℕ) × (a ≡ found V c) × (next V c ≡ found U s)
found_first (found V c) next U s e = (V, c, refl, e)
found_first absent_part next U s e = absurd (cc)
found_first no_such_step next U s e = absurd (cc)

pub reached : (hops : List Hop) (V : Option AsnType) (b : List ℕ) → Whole V b → (U : Option AsnType) (s : List ℕ) → find_at V b hops ≡ found U s → Reaches V b hops U s
reached [] V b w U s e = let both = same_found V U b s e in (sym both.0, sym both.1)
reached (hop ∷ hops) None b w U s e =
    let (V, c, first, rest) = found_first (take_hop hop None b) (λ V c. find_at V c hops) U s e in
    absurd (nowhere hop b V c first)
reached (hop ∷ hops) (Some T) b w U s e =
    let (V, c, first, rest) = found_first (take_hop hop (Some T) b) (λ V c. find_at V c hops) U s e in
    let l = hop_leads T b w hop V c first in
    (V, c, l, reached hops V c (hop_whole T b w hop V c l) U s rest)

pub finds : (hops : List Hop) (V : Option AsnType) (b : List ℕ) → Whole V b → (U : Option AsnType) (s : List ℕ) → Reaches V b hops U s → find_at V b hops ≡ found U s
finds [] V b w U s (kind, same) = ap₂ (λ (X : Option AsnType) (l : List ℕ). found X l) (sym kind) (sym same)
finds (hop ∷ hops) None b w U s r = absurd r
finds (hop ∷ hops) (Some T) b w U s (V, c, l, more) =
    ap (λ a. go_on a (λ X d. find_at X d hops)) (leads_hop T b w hop V c l) ∙ finds hops V c (hop_whole T b w hop V c l) U s more

pub finds_reached : FindsReached
finds_reached T w d v b encoded hops U s = (
  λ e. reached hops (Some T) b ((w, d), (v, encoded.2)) U s e,
  λ r. finds hops (Some T) b ((w, d), (v, encoded.2)) U s r,
)
