-- Components that equal their default, and alternatives, recoded.
use Rattle.std.proofs.Common.{◌≡◌, ◌↔◌, ℕ, ◌^◌, ◌<◌, Bool, true, false, not, List, [], ◌++◌, length, drop, take, IsTrue, Option, Some, None, is_some, Result, Ok, Err, Vec, Global, refl, sym, ap, ◌∙◌, subst, append_assoc, append-nil}
use Rattle.std.proofs.lemmas.Bool.{false≢true}
use Rattle.oer_units.specs.Least.{counted, tag_octets}
use Rattle.oer_units.specs.Reader.{Reader}
use Rattle.oer_units.specs.Reading.{counted_octets, open_type, tag}
use Rattle.oer_units.specs.Reads.{place, Reads, State}
use Rattle.oer_units.specs.declared.tagging.Tag.{Tag}
use Rattle.oer_units.proofs.ReadSteps.{got_named, Reads-map, Reads-memory_after}
use Rattle.oer_units.specs.declared.fault.ReadFault.{ReadFault}
use Rattle.oer_model.specs.AsnType.{AsnType, choice, default, Need}
use Rattle.oer_model.specs.AsnValue.{AsnValue, chosen, foreign}
use Rattle.oer_model.specs.Canonical.{canonical_octets, same}
use Rattle.oer_model.specs.Constraints.{KeepsLimits}
use Rattle.oer_model.specs.Encoding.{IsSpelling}
use Rattle.oer_model.specs.Filling.{filled}
use Rattle.oer_model.specs.Fits.{Fits}
use Rattle.oer_model.specs.Reading.{read_value}
use Rattle.oer_model.specs.Strict.{IsCanonical}
use Rattle.oer_model.proofs.canonical.Again.{canonical_tells}
use Rattle.oer_model.proofs.canonical.CanonicalForms.{encodes_from}
use Rattle.oer_model.proofs.canonical.Given.{canon_given}
use Rattle.oer_model.proofs.filling.Same.{same-refl, same-true}
use Rattle.oer_model.proofs.reading.Main.{value_lawful}
use Rattle.oer_values.proofs.Shapes.{type_of-Choice}
use Rattle.oer_values.specs.Lookup.{first_with}
use Rattle.oer_values.specs.ShapeView.{later_of, root_of, type_of}
use Rattle.oer_values.specs.declared.shape.Alt.{Alt}
use Rattle.oer_values.specs.declared.shape.Shape.{Choice, Shape}
use Rattle.oer_leaves.specs.Parts.{counted_place, is_kept, kept_place, place_octets_of}
use Rattle.oer_leaves.proofs.Components.{at_later, at_root}
use Rattle.oer_leaves.proofs.Components.{later_found as later_octets}
use Rattle.oer_decoder.specs.Choices.{later_at}
use Rattle.oer_decoder.specs.Places.{place_by}
use Rattle.oer_decoder.specs.Recoding.{after_tag, Grows, IsTagged, ReadsOne, Recodes, RecodesValue}
use Rattle.oer_decoder.specs.declared.stop.Stop.{Stop}
use Rattle.oer_decoder.proofs.FrontProof.{octets_taken, same_front}
use Rattle.oer_decoder.proofs.Recoded.{cut}
use Rattle.oer_decoder.proofs.Picks.{choice_found, choice_later, choice_with-is, chosen_stop, chosen_then, has_marker, later_foreign, later_found, more_of}
use Rattle.oer_decoder.proofs.Loops.{place_then}

-- ---- a component that equals its default

-- what was read fits the type
pub read_fits : (T : AsnType) → KeepsLimits T → (s s' : State) (v : AsnValue) → Reads (read_value T) s (Ok v) s' → Fits T v
read_fits T wf s s' v h =
    let t = h.made.0 in
    let e = got_named s.bound.inside (read_value T (place (t ++ []) s.bound)) v (place [] s'.bound) (h.made.3 []) in
    let a = (value_lawful T wf).sound (place (t ++ []) s.bound) v (place [] s'.bound) e in
    let whole : t ≡ a.0 = same_front t a.0 [] a.2 in
    (encodes_from T wf v t (octets_taken t h.made.1) (subst (λ (l : List ℕ). IsSpelling T v l) (sym whole) a.1)).1

-- It has the canonical octets of its default exactly where it equals it after filling.
pub default_told : (T : AsnType) → KeepsLimits T → (d v : AsnValue) (octets : List ℕ) (told : Bool) → Fits T d → Fits T v → octets ≡ canonical_octets T v → length octets < 2 ^ 64
    → (IsTrue told ↔ IsCanonical T d octets) → same (filled T v) (filled T d) ≡ told
default_told T wf d v octets told fd fv is few tells = by told (same (filled T v) (filled T d)) refl refl where
  mine : IsCanonical T v octets
  mine = rw is (canon_given T wf v fv (rw is at few))

  by : (a b : Bool) → told ≡ a → same (filled T v) (filled T d) ≡ b → b ≡ a
  by true true e f = refl
  by false false e f = refl
  by true false e f =
      let equal : filled T v ≡ filled T d = (canonical_tells T wf v d octets fv fd mine).0 (tells.0 (rw e refl)) in
      absurd (false≢true (sym f ∙ ap (λ w. same w (filled T d)) equal ∙ same-refl (filled T d)))
  by false true e f =
      let equal : filled T v ≡ filled T d = same-true (filled T v) (filled T d) f in
      absurd (false≢true (subst IsTrue e (tells.1 ((canonical_tells T wf v d octets fv fd mine).1 equal))))

-- whether what was appended is kept, by whether the octets from its place on are those of its default
pub told_kept : (T : AsnType) → KeepsLimits T → (d v : AsnValue) (at : ℕ) (old mid octets : List ℕ) (told : Bool) → Fits T d → Fits T v → at ≡ length old → mid ≡ old ++ canonical_octets T v
    → octets ≡ drop at mid → length octets < 2 ^ 64 → (IsTrue told ↔ IsCanonical T d octets)
    → is_kept (default d) T v ≡ not told
told_kept T wf d v at old mid octets told fd fv is m o few tells = ap not (default_told T wf d v octets told fd fv (o ∙ (cut at old (canonical_octets T v) mid is m).1) few tells)

pub kept_yes : (need : Need) (T : AsnType) (v : AsnValue) (old new : List ℕ) → is_kept need T v ≡ true → new ≡ old ++ canonical_octets T v
    → (true ≡ is_kept need T v) × (new ≡ old ++ place_octets_of T (kept_place need T (Some v)))
kept_yes need T v old new is g = (sym is, rw is g)

pub kept_no : (need : Need) (T : AsnType) (v : AsnValue) (old new : List ℕ) → is_kept need T v ≡ false → new ≡ old
    → (false ≡ is_kept need T v) × (new ≡ old ++ place_octets_of T (kept_place need T (Some v)))
kept_no need T v old new is g = (sym is, rw is (g ∙ sym (append-nil old)))

some_kept : (need : Need) (T : AsnType) (v : AsnValue) (b : Bool) → is_kept need T v ≡ b → is_some (kept_place need T (Some v)) ≡ b
some_kept need T v true e = rw e refl
some_kept need T v false e = rw e refl

pub kept_some : (need : Need) (T : AsnType) (v : AsnValue) (b : Bool) → b ≡ is_kept need T v → b ≡ is_some (kept_place need T (Some v))
kept_some need T v b e = sym (some_kept need T v b (sym e))

-- what was appended is dropped again
pub dropped : (T : AsnType) (v : AsnValue) (at : ℕ) (old mid new : List ℕ) → at ≡ length old → mid ≡ old ++ canonical_octets T v → new ≡ take at mid → new ≡ old
dropped T v at old mid new is m e = e ∙ (cut at old (canonical_octets T v) mid is m).0

-- a component or an addition that is there
pub place_present : (need : Need) (T : AsnType) (b : Bool) (s s' : State) (old new : List ℕ) (result : Result Bool Stop) → b ≡ true
    → ReadsOne (read_value T) s result s' (λ kept v. (kept ≡ is_kept need T v) × (new ≡ old ++ place_octets_of T (kept_place need T (Some v))))
    → ReadsOne (place_by b (read_value T)) s result s' (λ kept o. (kept ≡ is_some (kept_place need T o)) × (new ≡ old ++ place_octets_of T (kept_place need T o)))
place_present need T b s s' old new (Ok kept) is (v, h, (k, g)) = (Some v, place_then b (read_value T) s s' (Ok v) is h, (kept_some need T v kept k, g))
place_present need T b s s' old new (Err e) is h = place_then b (read_value T) s s' (Err _) is h

pub addition_present : (T : AsnType) (b : Bool) (s s' : State) (old new : List ℕ) (result : Result (Unit {0}) Stop) → b ≡ true
    → Recodes (open_type (read_value T)) (λ v. counted (canonical_octets T v)) s old result new s'
    → ReadsOne (place_by b (open_type (read_value T))) s result s' (λ _ o. (b ≡ is_some o) × (new ≡ old ++ counted_place T o))
addition_present T b s s' old new (Ok x) is (v, h, g) = (Some v, place_then b (open_type (read_value T)) s s' (Ok v) is h, (is, g))
addition_present T b s s' old new (Err e) is h = place_then b (open_type (read_value T)) s s' (Err _) is h

-- ---- the alternatives of a root

by_type : (shape : Shape) (root : Vec Alt Global) (additions : Option (Vec Alt Global)) → shape ≡ Choice root additions
    → type_of shape ≡ choice (has_marker additions) (root_of root.items (later_of (more_of additions)))
by_type shape root additions e = ap type_of e ∙ type_of-Choice root additions ∙ choice_with-is root.items additions

pub root_recoded : {B : Type 0} (shape : Shape) (root : Vec Alt Global) (additions : Option (Vec Alt Global)) (xs : List Alt) (t : Tag) (a : Alt) (s s' s'' : State) (old mid new : List ℕ)
    (result : Result B Stop) → shape ≡ Choice root additions → xs ≡ root.items → Reads tag s (Ok t) s'
    → Some a ≡ first_with t xs → mid ≡ old ++ tag_octets t → RecodesValue (type_of a.shape) s' mid result new s'' → RecodesValue (type_of shape) s old result new s''
root_recoded shape root additions xs t a s s' s'' old mid new (Ok x) e is h found m (v, k, g) =
    let T = by_type shape root additions e in (
      chosen t v,
      rw T (choice_found (has_marker additions) root.items (later_of (more_of additions)) s s' s'' t a (Ok (chosen t v)) h (rw is at found) (chosen_then t (read_value (type_of a.shape)) s' s'' v k)),
      g ∙ ap (λ l. l ++ canonical_octets (type_of a.shape) v) m ∙ append_assoc old (tag_octets t) (canonical_octets (type_of a.shape) v)
          ∙ ap (λ l. old ++ l) (sym (at_root shape root additions t xs a v e is found)),
    )
root_recoded shape root additions xs t a s s' s'' old mid new (Err x) e is h found m k =
    rw (by_type shape root additions e) (choice_found (has_marker additions) root.items (later_of (more_of additions)) s s' s'' t a (Err _) h (rw is at found)
    (chosen_stop t (read_value (type_of a.shape)) s' s'' _ k))

-- ---- the others

tagged : (shape : Shape) (root more : Vec Alt Global) (t : Tag) (xs ys : List Alt) (v : AsnValue) → shape ≡ Choice root (Some more) → xs ≡ root.items → ys ≡ more.items → None ≡ first_with t xs
    → IsTagged t v → canonical_octets (type_of shape) v ≡ tag_octets t ++ after_tag (later_of ys) v
tagged shape root more t xs ys (chosen u v) e is js none same = rw same (at_later shape root more t xs ys v e is js none)
tagged shape root more t xs ys (foreign u w) e is js none same = rw (by_type shape root (Some more) e, same) refl
tagged shape root more t xs ys _ e is js none same = absurd same

pub later_recoded : {B : Type 0} (shape : Shape) (root more : Vec Alt Global) (xs ys : List Alt) (t : Tag) (s s' s'' : State) (old mid new : List ℕ) (result : Result B Stop)
    → shape ≡ Choice root (Some more) → xs ≡ root.items → ys ≡ more.items → Reads tag s (Ok t) s'
    → None ≡ first_with t xs → mid ≡ old ++ tag_octets t → ReadsOne (later_at (later_of ys) t) s' result s'' (λ _ v. IsTagged t v × (new ≡ mid ++ after_tag (later_of ys) v))
    → RecodesValue (type_of shape) s old result new s''
later_recoded shape root more xs ys t s s' s'' old mid new (Ok x) e is js h none m (v, k, (of_tag, g)) = (
  v,
  rw (by_type shape root (Some more) e) (choice_later root.items more.items s s' s'' t (Ok v) h (rw is at none) (rw js at k)),
  g ∙ ap (λ l. l ++ after_tag (later_of ys) v) m ∙ append_assoc old (tag_octets t) (after_tag (later_of ys) v) ∙ ap (λ l. old ++ l) (sym (tagged shape root more t xs ys v e is js none of_tag)),
)
later_recoded shape root more xs ys t s s' s'' old mid new (Err x) e is js h none m k =
    rw (by_type shape root (Some more) e) (choice_later root.items more.items s s' s'' t (Err _) h (rw is at none) (rw js at k))

-- one after the extension marker, and one that the type doesn't know
pub known_recoded : {B : Type 0} (ys : List Alt) (t : Tag) (a : Alt) (s s' : State) (old new : List ℕ) (result : Result B Stop) → Some a ≡ first_with t ys
    → Recodes (open_type (read_value (type_of a.shape))) (λ v. counted (canonical_octets (type_of a.shape) v)) s old result new s'
    → ReadsOne (later_at (later_of ys) t) s result s' (λ _ v. IsTagged t v × (new ≡ old ++ after_tag (later_of ys) v))
known_recoded ys t a s s' old new (Ok x) is (v, h, g) =
    (chosen t v, later_found ys t s s' a (Ok (chosen t v)) is (chosen_then t (open_type (read_value (type_of a.shape))) s s' v h), (refl, g ∙ ap (λ l. old ++ l) (sym (later_octets ys a t v is))))
known_recoded ys t a s s' old new (Err e) is h = later_found ys t s s' a (Err _) is (chosen_stop t (open_type (read_value (type_of a.shape))) s s' _ h)

pub foreign_recoded : {B : Type 0} (ys : List Alt) (t : Tag) (w : List ℕ) (s s' : State) (old new : List ℕ) (result : Result B Stop) → None ≡ first_with t ys → Reads counted_octets s (Ok w) s'
    → Grows (counted w) old result new
    → ReadsOne (later_at (later_of ys) t) s result s' (λ _ v. IsTagged t v × (new ≡ old ++ after_tag (later_of ys) v))
foreign_recoded ys t w s s' old new (Ok x) none h g = (foreign t w, later_foreign ys t s s' (Ok (foreign t w)) none (Reads-map counted_octets (λ l. foreign t l) s s' (Ok w) h), (refl, g))
foreign_recoded ys t w s s' old new (Err e) none h g = Reads-memory_after counted_octets (later_at (later_of ys) t) s s' w (record { taken = s'.bound.taken; why = e.why }) h g refl
