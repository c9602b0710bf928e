-- The new octets, and why there are none.
use Rattle.std.proofs.Common.{◌≡◌, ℕ, List, Option, Some, None, Ok, ap, refl, pos, ◌∙◌, subst, sym}
use Rattle.std.specs.Prelude.{◌↔◌, Bool, true, false, IsTrue, option_map}
use Rattle.hex.specs.Hex.{decode_of}
use Rattle.oer_model.specs.AsnType.{AsnType}
use Rattle.oer_model.specs.AsnValue.{AsnValue, int}
use Rattle.oer_model.specs.Encoding.{Encodes}
use Rattle.oer_model.specs.Fits.{Fits}
use Rattle.oer_model.specs.Strict.{IsCanonical}
use Rattle.oer_example.specs.Renewed.{IsEncoding, IsPart, IsRenewed, signed_path, with_component}

-- the part that is signed is the one that was taken
abbrev pub IsOnlyPart : AsnType → List ℕ → List ℕ → Type 0
IsOnlyPart T octets part = (s : List ℕ) → IsPart T octets signed_path s → part ≡ s

-- it is an encoding of this value alone
abbrev pub IsOnlyValue : AsnType → List ℕ → AsnValue → Type 0
IsOnlyValue U part v = (w : AsnValue) → Encodes U w part → w ≡ v

encoded : (T U : AsnType) (octets part : List ℕ) (series : ℕ) (new : List ℕ) → IsOnlyPart T octets part → (h : IsRenewed T U octets series new) → Encodes U h.value part
encoded T U octets part series new only h = subst (Encodes U h.value) (sym (only h.signed h.part)) h.encodes

pub no_value : (T U : AsnType) (octets part : List ℕ) (series : ℕ) (new : List ℕ) → IsOnlyPart T octets part → ((v : AsnValue) → Encodes U v part → ⊥) → IsRenewed T U octets series new → ⊥
no_value T U octets part series new only none h = none h.value (encoded T U octets part series new only h)

-- what the change makes of the value that was read
changed : (T U : AsnType) (octets part : List ℕ) (series : ℕ) (new : List ℕ) (v : AsnValue) → IsOnlyPart T octets part → IsOnlyValue U part v → (h : IsRenewed T U octets series new) → with_component 2 (int (pos series)) v ≡ Some h.changed
changed T U octets part series new v only one h = ap (with_component 2 (int (pos series))) (sym (one h.value (encoded T U octets part series new only h))) ∙ h.change

pub no_place : (T U : AsnType) (octets part : List ℕ) (series : ℕ) (new : List ℕ) (v : AsnValue) → IsOnlyPart T octets part → IsOnlyValue U part v → None ≡ with_component 2 (int (pos series)) v → IsRenewed T U octets series new → ⊥
no_place T U octets part series new v only one none h = let both = none ∙ changed T U octets part series new v only one h in cc

pub no_fit : (T U : AsnType) (octets part : List ℕ) (series : ℕ) (new : List ℕ) (v w : AsnValue) → IsOnlyPart T octets part → IsOnlyValue U part v → Some w ≡ with_component 2 (int (pos series)) v → (Fits U w → ⊥) → IsRenewed T U octets series new → ⊥
no_fit T U octets part series new v w only one is misfit h =
    let both : Some w ≡ Some h.changed = is ∙ changed T U octets part series new v only one h in
    let same : h.changed ≡ w = cc in
    misfit (subst (Fits U) same h.canonical.0)

pub made : (T U : AsnType) (octets part : List ℕ) (series : ℕ) (v w : AsnValue) → IsEncoding T octets → IsPart T octets signed_path part → Encodes U v part → Some w ≡ with_component 2 (int (pos series)) v → (new : List ℕ) → IsCanonical U w new → IsRenewed T U octets series new
made T U octets part series v w all is_part enc is new canonical = record {
  whole = all;
  signed = part;
  part = is_part;
  value = v;
  encodes = enc;
  changed = w;
  change = sym is;
  canonical = canonical;
}

-- what a function on values answers, seen as what they stand for
pub nothing_seen : {A B : Type 0} (f : A → B) (r : Option A) (y : Option B) → option_map f r ≡ y → ((x : A) → r ≡ Some x → ⊥) → None ≡ y
nothing_seen f None y is none = is
nothing_seen f (Some x) y is none = absurd (none x refl)

pub something_seen : {A B : Type 0} (f : A → B) (r : Option A) (y : Option B) (x : A) → option_map f r ≡ y → r ≡ Some x → Some (f x) ≡ y
something_seen f r y x is some = ap (option_map f) (sym some) ∙ is

pub unfit : (P : Type 0) (r : Bool) → IsTrue r ↔ P → r ≡ false → P → ⊥
unfit P r same is p = let both : false ≡ true = sym is ∙ same.1 p in cc

-- digits spell one list of octets
pub same_octets : (b c s : List ℕ) (digits : List ℕ) → decode_of digits ≡ Ok b → decode_of digits ≡ Ok c → s ≡ c → b ≡ s
same_octets b c s digits p q same = let both = sym p ∙ q in cc
