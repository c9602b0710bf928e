-- What is said of the last part of a way, by some tags.
use Rattle.std.proofs.Common.{◌≡◌, ◌∙◌, ℕ, List, [], ◌∷◌, ◌++◌, map, drop, Option, Some, None, IfSome, Result, Ok, Err, Bor, option_map, string_bytes, refl, sym, ap, ap₂, subst, append_assoc, append-nil}
use Rattle.oer_units.specs.declared.tagging.Tag.{Tag}
use Rattle.oer_model.specs.AsnType.{AsnType}
use Rattle.oer_model.specs.Parts as plain
use Rattle.oer_parts.specs.Walk.{step_of}
use Rattle.oer_parts.specs.declared.step.Step.{Step}
use Rattle.oer_values.specs.ShapeView.{type_of}
use Rattle.std.specs.Result.{is_err}
use Rattle.oer_units.specs.declared.fault.ReadFault.{ReadFault}
use Rattle.oer_checker.specs.Check.{Answers}
use Rattle.oer_checker.specs.declared.verdict.Verdict.{Verdict}
use Rattle.oer_entries.specs.Places.{IsPlace, is_refused, is_rejected}
use Rattle.oer_entries.specs.Frames.{Seen}
use Rattle.oer_entries.specs.Known.{Known}
use Rattle.oer_entries.specs.Makes.{Tagged, path_steps, step_list, taken}
use Rattle.oer_entries.specs.Trails.{AreParts, Follow, IsWay, last_type, names_in, names_to, parts_of, path_in, path_to}
use Rattle.oer_entries.specs.Ways.{names_text, path_text, type_on}
use Rattle.oer_entries.specs.declared.entry.Place.{Place}
use Rattle.oer_entries.specs.declared.way.Way.{Way}
use Rattle.oer_entries.proofs.Tags.{texts_are, type_is}

-- the steps to parts
abbrev steps_in : List Seen → List plain.Step
steps_in [] = []
steps_in (g ∷ gs) = step_list (taken g) ++ steps_in gs

step_taken : (f g : Seen) (p n : List ℕ) (gs : List Seen) (h : Follow f p n (g ∷ gs)) → taken g ≡ Some (step_of h.0.by)
step_taken f g p n gs h = ap (option_map step_of) h.0.step

follow_steps : (f : Seen) (p n : List ℕ) (gs : List Seen) → Follow f p n gs → map taken gs ≡ path_steps (steps_in gs)
follow_steps f p n [] h = refl
follow_steps f p n (g ∷ gs) h =
    let e = step_taken f g p n gs h in
    ap₂ (λ (o : Option plain.Step) (l : List (Option plain.Step)). o ∷ l) e (follow_steps g (path_to p g) (names_to n g) gs h.1)
    ∙ sym (ap (λ o. path_steps (step_list o ++ steps_in gs)) e)

-- the tag of the part to which a path leads, so many steps long
abbrev tags_of : List Seen → List plain.Step → Option Tag
tags_of [] q = None
tags_of (f ∷ fs) [] = f.tag
tags_of (f ∷ fs) (s ∷ q) = tags_of fs q

tagged_by : (tags : List plain.Step → Option Tag) (front : List plain.Step) (f : Seen) (gs : List Seen) (p n : List ℕ) → Follow f p n gs
    → ((q : List plain.Step) → tags ((front ++ step_list (taken f)) ++ q) ≡ tags_of (f ∷ gs) q) → Tagged tags front (f ∷ gs)
tagged_by tags front f [] p n h all = (sym (sym (ap tags (append-nil (front ++ step_list (taken f)))) ∙ all []), tt)
tagged_by tags front f (g ∷ gs) p n h all =
    let Q = front ++ step_list (taken f) in
    let s = step_of h.0.by in
    let e = step_taken f g p n gs h in (
      sym (sym (ap tags (append-nil Q)) ∙ all []),
      tagged_by tags Q g gs (path_to p g) (names_to n g) h.1
          (λ q. ap (λ t. tags ((Q ++ step_list t) ++ q)) e ∙ ap tags (append_assoc Q (s ∷ []) q) ∙ all (s ∷ q)),
    )

-- what the last of parts is called, and its type
record IsLast (T : AsnType) (fs : List Seen) : Type 0 where
  steps : List plain.Step
  tags : List plain.Step → Option Tag
  path : path_in fs ≡ path_text steps
  names : names_in fs ≡ names_text T tags steps
  type : last_type fs ≡ type_on tags (Some T) [] steps

last_is : (T : AsnType) (fs : List Seen) → AreParts T fs → IsLast T fs
last_is T [] h = absurd h
last_is T (f ∷ gs) (whole, more) =
    let path = steps_in gs in
    let tags = tags_of (f ∷ gs) in
    let here : step_list (taken f) ≡ [] = ap (λ o. step_list (option_map step_of o)) whole.step in
    let is = follow_steps f [] [] gs more in
    let tagged : Tagged tags [] (f ∷ gs) = tagged_by tags [] f gs [] [] more (λ q. ap (λ l. tags (l ++ q)) here) in
    let texts = texts_are T tags path (f ∷ gs) (whole, more) is tagged in
    record {
      steps = path;
      tags = tags;
      path = texts.0;
      names = texts.1;
      type = type_is tags [] f gs path [] [] more refl (subst (λ l. Tagged tags l gs) here tagged.1) is
          ∙ ap (λ (k : Known). type_on tags k.type [] path) whole.is;
    }

-- a place that has the texts and the type of a way
pub place_is : (T : AsnType) (way : Way) (place : Place) → IsWay T way → string_bytes place.path ≡ string_bytes way.path
    → string_bytes place.names ≡ string_bytes way.names → option_map (λ s. type_of s.now) place.shape ≡ last_type (parts_of way) → IsPlace T place
place_is T way place h path names shape =
    let x = last_is T (parts_of way) h.parts in
    record {
      steps = x.steps;
      tags = x.tags;
      path = path ∙ h.path ∙ x.path;
      names = names ∙ h.names ∙ x.names;
      shape = shape ∙ x.type;
    }

-- octets are rejected where the checker rejects them
pub refused_is : (T : AsnType) (octets : List ℕ) (verdict : Result Verdict ReadFault) → Answers T octets verdict → is_err verdict ≡ is_rejected T octets
refused_is T octets (Ok v) h = sym (ap is_refused h)
refused_is T octets (Err e) h = sym (ap is_refused h)
