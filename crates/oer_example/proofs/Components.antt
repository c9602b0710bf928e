-- A component put among others, in the list that the code has.
use Rattle.std.proofs.Common.{◌≡◌, ◌≤◌, ◌<◌, ℕ, zero, suc, List, [], ◌∷◌, length, set, Option, Some, None, refl, ap, sym, ◌∙◌, arith, Vec, Global, map}
use Rattle.std.specs.Prelude.{option_map}
use Rattle.std.specs.Vec.{with_item}
use Rattle.oer_model.specs.AsnValue.{AsnValue, Places, absent, present, seq}
use Rattle.oer_values.specs.ValueView.{value_of, places_of, unknown_of}
use Rattle.oer_values.specs.declared.value.Unknown as rust_unknown
use Rattle.oer_values.specs.declared.value.Value.{Value, Seq}
use Rattle.oer_values.proofs.Values.{value_of-Seq}
use Rattle.oer_example.specs.Renewed.{put_at, with_component}

there : (i : ℕ) (x : Value) (ps : List (Option Value)) → i < length ps → put_at i (value_of x) (places_of ps) ≡ Some (places_of (set ps i (Some x)))
there i x [] less = absurd (omega (arith, less))
there zero x (None ∷ ps) less = refl
there zero x (Some v ∷ ps) less = refl
there (suc i) x (None ∷ ps) less = ap (option_map absent) (there i x ps (omega (arith, less)))
there (suc i) x (Some v ∷ ps) less = ap (option_map (present (value_of v))) (there i x ps (omega (arith, less)))

past : (i : ℕ) (x : AsnValue) (ps : List (Option Value)) → length ps ≤ i → put_at i x (places_of ps) ≡ None
past i x [] more = refl
past zero x (p ∷ ps) more = absurd (omega (arith, more))
past (suc i) x (None ∷ ps) more = ap (option_map absent) (past i x ps (omega (arith, more)))
past (suc i) x (Some v ∷ ps) more = ap (option_map (present (value_of v))) (past i x ps (omega (arith, more)))

-- the component is put where there is its place
pub put : (i : ℕ) (v : Value) (x : Value) (root added : Vec (Option Value) Global) (more : Vec rust_unknown.Unknown Global) → v ≡ Seq root added more → i < length root.items
    → Some (value_of (Seq (with_item root i (Some x)) added more)) ≡ with_component i (value_of x) (value_of v)
put i v x root added more is less =
    rw (is, value_of-Seq (with_item root i (Some x)) added more, value_of-Seq root added more, there i x root.items less) refl

-- and elsewhere there is none
pub no_place : (i : ℕ) (v : Value) (x : AsnValue) (root added : Vec (Option Value) Global) (more : Vec rust_unknown.Unknown Global) → v ≡ Seq root added more → length root.items ≤ i
    → None ≡ with_component i x (value_of v)
no_place i v x root added more is past_end = rw (is, value_of-Seq root added more, past i x root.items past_end) refl
