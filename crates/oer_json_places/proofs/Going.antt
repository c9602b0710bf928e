-- A loop that goes down.
use Rattle.std.proofs.Common.{◌≡◌, ◌∙◌, ℕ, suc, List, [], ◌∷◌, ◌++◌, Option, IfSome, inl, inr, refl, sym, subst, ap, append_assoc, append-nil}
use Rattle.serde_json.specs.Data.{Data}
use Rattle.oer_model.specs.AsnType.{Additions, AsnType, Fields, addition, choice, extensible_sequence, field, leaf, no_additions, no_fields, sequence, sequence_of}
use Rattle.oer_json.specs.declared.fault.JsonFault.{JsonFault}
use Rattle.oer_json_places.specs.Faultless.{AdditionsAreFaultless, FieldsAreFaultless, IsFaultless}
use Rattle.oer_json_places.specs.Leads.{HasAddition, HasField, HasPart, IsOfElements, LeadsBy}
use Rattle.oer_json_places.specs.Next.{Hop, Wrong, element, into, itself, key, next, stop}
use Rattle.oer_json_places.specs.Place.{Spot, behind, down, here, onward}
use Rattle.oer_json_places.proofs.Faultless.{of_additions, of_choice, of_item, of_named, of_root, of_sequence}
use Rattle.oer_json_places.proofs.Nexts.{IsNext, is_next}

abbrev pub spot : List Hop → JsonFault → AsnType → Data → Wrong → Spot
spot hops f T j w = record { path = hops; fault = f; type = T; json = j; wrong = w }

at : (hops : List Hop) (f : JsonFault) (T : AsnType) (j : Data) (w : Wrong) → spot hops f T j w ≡ behind hops (here f T j w)
at hops f T j w = ap (λ p. spot p f T j w) (sym (append-nil hops))

one_more : (hops : List Hop) (hop : Hop) (s : Spot) → behind hops (behind (hop ∷ []) s) ≡ behind (hops ++ hop ∷ []) s
one_more hops hop s = ap (λ p. spot p s.fault s.type s.json s.wrong) (sym (append_assoc hops (hop ∷ []) s.path))

pub begins : (s : Spot) → s ≡ behind [] s
begins s = refl

-- no fault holds of a part of a type of which none holds
of_field : (fs : Fields) (name : List ℕ) (U : AsnType) → FieldsAreFaultless fs → HasField fs name U → IsFaultless U
of_field no_fields name U w h = absurd h
of_field (field n need T fs) name U w (inl e) = subst IsFaultless e.1 w.0
of_field (field n need T fs) name U w (inr h) = of_field fs name U w.1 h

of_addition : (more : Additions) (name : List ℕ) (U : AsnType) → AdditionsAreFaultless more → HasAddition more name U → IsFaultless U
of_addition no_additions name U w h = absurd h
of_addition (addition n T more) name U w (inl e) = subst IsFaultless e.1 w.0
of_addition (addition n T more) name U w (inr h) = of_addition more name U w.1 h

of_part : (T : AsnType) (name : List ℕ) (U : AsnType) → IsFaultless T → HasPart T name U → IsFaultless U
of_part (leaf kind) name U w h = absurd h
of_part (sequence fs) name U w h = of_field fs name U (of_sequence fs w) h
of_part (extensible_sequence fs more) name U w (inl h) = of_field fs name U (of_root fs more w) h
of_part (extensible_sequence fs more) name U w (inr h) = of_addition more name U (of_additions fs more w) h
of_part (sequence_of size T) name U w h = absurd h
of_part (choice extensible more) name U w h = subst (λ (o : Option AsnType). IfSome o IsFaultless) h (of_named more name
    (of_choice extensible more w))

of_element : (T U : AsnType) → IsFaultless T → IsOfElements T U → IsFaultless U
of_element (leaf kind) U w h = absurd h
of_element (sequence fs) U w h = absurd h
of_element (extensible_sequence fs more) U w h = absurd h
of_element (sequence_of size T) U w h = subst IsFaultless h (of_item size T w)
of_element (choice extensible more) U w h = absurd h

of_step : (hop : Hop) (T : AsnType) (j : Data) (U : AsnType) (d : Data) → IsFaultless T → LeadsBy hop T j U d → IsFaultless U
of_step (key k) T j U d w h = of_part T k U w h.0
of_step (element n) T j U d w h = of_element T U w h.0

pub of_next : (f : JsonFault) (T : AsnType) (j : Data) (hop : Hop) (U : AsnType) (d : Data) → IsFaultless T → next f T j ≡ into hop U d
    → IsFaultless U
of_next f T j hop U d w e = of_step hop T j U d w (subst (IsNext f T j) e (is_next f T j)).0

module _ (whole : Spot) (hops : List Hop) (n m : ℕ) (f : JsonFault) (T : AsnType) (j : Data) (left : n ≡ suc m) (h : whole ≡ behind hops
    (down n f T j)) where
  pub went : (hop : Hop) (U : AsnType) (d : Data) → next f T j ≡ into hop U d → whole ≡ behind (hops ++ hop ∷ []) (down m f U d)
  unfolding down
  went hop U d is = h ∙ ap (λ k. behind hops (down k f T j)) left ∙ ap (λ x. behind hops (onward f T j x (down m f))) is
      ∙ one_more hops hop (down m f U d)

  pub stopped : (w : Wrong) → next f T j ≡ stop w → spot hops f T j w ≡ whole
  unfolding down
  stopped w is = at hops f T j w ∙ sym (h ∙ ap (λ k. behind hops (down k f T j)) left ∙ ap (λ x. behind hops (onward f T j x
      (down m f))) is)

pub ended : (whole : Spot) (hops : List Hop) (n : ℕ) (f : JsonFault) (T : AsnType) (j : Data) → n ≡ 0
    → whole ≡ behind hops (down n f T j) → spot hops f T j itself ≡ whole
unfolding down
ended whole hops n f T j over h = at hops f T j itself ∙ sym (h ∙ ap (λ k. behind hops (down k f T j)) over)
