-- Words of the notation, as the reader of modules takes them.
use Rattle.std.proofs.Common.{◌≡◌, ℕ, List, [], ◌∷◌, Bool, true, false, not, ◌&&◌, ◌||◌, true≢false, Option, Some, None, is_some, refl, sym, ap, ◌∙◌, arith}
use Rattle.std.specs.Char.{is_ascii_lowercase, is_ascii_uppercase}
use Rattle.std.specs.List.{list_all}
use Rattle.std.specs.Str.{bytes_eq}
use Rattle.std.proofs.lemmas.Bool.{and_parts}
use Rattle.std.proofs.lemmas.Slice.Eq.{bytes_eq-Decides}
use Rattle.oer_module_syntax.specs.Ranges.{is_reserved_value, is_value_word}
use Rattle.oer_module_syntax.specs.Words.{builtin_among, builtin_first, builtin_of, builtins, is_identifier, is_reserved, keyword_among, keyword_of, keyword_text, keywords}
use Rattle.oer_module_syntax.specs.declared.word.Builtin.{Builtin}
use Rattle.oer_module_syntax.specs.declared.word.Keyword.{Keyword}
use Rattle.oer_module_syntax.specs.declared.word.Keyword.TheVariants as kw
use Rattle.oer_model.specs.AsnType.{AsnType}
use Rattle.oer_notation.specs.Grammar.{IsId, IsName, a_name, an_id, IsDefined, this_definition, later_definition}
use Rattle.oer_notation.specs.Reading.{Known}
use Rattle.oer_same_trees.specs.Defining.{AreUnreserved}

-- ---- Booleans

pub and_false : (b c : Bool) → c ≡ false → b && c ≡ false
and_false true c h = h
and_false false c h = refl

pub and_two : (a b c : Bool) → b && c ≡ false → (a && b) && c ≡ false
and_two true b c h = h
and_two false b c h = refl

pub neither : (b c : Bool) → b || c ≡ false → (b ≡ false) × (c ≡ false)
neither true c h = absurd (cc)
neither false c h = (refl, h)

pub both_false : (b c : Bool) → b ≡ false → c ≡ false → b || c ≡ false
both_false true c h g = absurd (cc)
both_false false c h g = g

none_of : {A : Type 0} (o : Option A) → is_some o ≡ false → o ≡ None
none_of None h = refl
none_of (Some a) h = absurd (cc)

-- ---- small and capital letters

pub capital : (c : ℕ) → is_ascii_uppercase c ≡ true → is_ascii_lowercase c ≡ false
capital c h = grind arith

pub id_small : {w : List ℕ} → IsId w → is_identifier w ≡ true
id_small (an_id h) = h

pub name_capital : {w : List ℕ} → IsName w → is_identifier w ≡ false
name_capital (a_name {c} h n) = capital c h

-- a small letter and none
pub differ : (w v : List ℕ) → is_identifier w ≡ true → is_identifier v ≡ false → bytes_eq w v ≡ false
differ w v h g = other (bytes_eq w v) refl
  where
    other : (b : Bool) → bytes_eq w v ≡ b → b ≡ false
    other true e = absurd (true≢false (sym h ∙ ap is_identifier ((bytes_eq-Decides w v).0 e) ∙ g))
    other false e = refl

-- ---- words with a small letter are none of those that are reserved

big_keyword : Keyword → Bool
big_keyword k = not (is_identifier (keyword_text k))

big_builtin : Builtin → Bool
big_builtin k = not (is_identifier (builtin_first k))

off : (b : Bool) → not b ≡ true → b ≡ false
off true h = absurd (cc)
off false h = refl

no_keyword : (w : List ℕ) (ks : List Keyword) → is_identifier w ≡ true → list_all big_keyword ks ≡ true → keyword_among w ks ≡ None
unfolding big_keyword
no_keyword w [] h a = refl
no_keyword w (k ∷ ks) h a =
    let p = and_parts (big_keyword k) (list_all big_keyword ks) a in
    rw (differ w (keyword_text k) h (off (is_identifier (keyword_text k)) p.0)) (no_keyword w ks h p.1)

no_builtin : (w : List ℕ) (ks : List Builtin) → is_identifier w ≡ true → list_all big_builtin ks ≡ true → builtin_among w ks ≡ None
unfolding big_builtin
no_builtin w [] h a = refl
no_builtin w (k ∷ ks) h a =
    let p = and_parts (big_builtin k) (list_all big_builtin ks) a in
    rw (differ w (builtin_first k) h (off (is_identifier (builtin_first k)) p.0)) (no_builtin w ks h p.1)

pub small_unreserved : (w : List ℕ) → is_identifier w ≡ true → is_reserved w ≡ false
unfolding keyword_of builtin_of big_keyword big_builtin
small_unreserved w h = both_false (is_some (keyword_of w)) (is_some (builtin_of w)) (ap is_some (no_keyword w keywords h refl)) (ap is_some (no_builtin w builtins h refl))

pub small_value : (w : List ℕ) → is_identifier w ≡ true → is_value_word w ≡ true
small_value w h = rw (small_unreserved w h) refl

or_true : (b c : Bool) → c ≡ true → b || c ≡ true
or_true true c h = refl
or_true false c h = h

pub value_word : (w : List ℕ) → is_reserved_value w ≡ true → is_value_word w ≡ true
value_word w h = or_true (not (is_reserved w)) (is_reserved_value w) h

-- ---- words that aren't reserved

pub unlike : (w v : List ℕ) → is_reserved w ≡ false → is_reserved v ≡ true → bytes_eq w v ≡ false
unlike w v h g = other (bytes_eq w v) refl
  where
    other : (b : Bool) → bytes_eq w v ≡ b → b ≡ false
    other true e = absurd (true≢false (sym g ∙ ap is_reserved (sym ((bytes_eq-Decides w v).0 e)) ∙ h))
    other false e = refl

-- what a word is not that isn't reserved
pub record IsFree (w : List ℕ) : Type 0 where
  pub no_type : builtin_of w ≡ None
  pub no_class : bytes_eq w (keyword_text kw.Class) ≡ false
  pub no_control : bytes_eq w (keyword_text kw.EncodingControl) ≡ false
  pub no_end : bytes_eq w (keyword_text kw.End) ≡ false
  pub no_exports : bytes_eq w (keyword_text kw.Exports) ≡ false
  pub no_imports : bytes_eq w (keyword_text kw.Imports) ≡ false
  pub no_instance : bytes_eq w (keyword_text kw.Instance) ≡ false

pub free : (w : List ℕ) → is_reserved w ≡ false → IsFree w
unfolding keyword_of builtin_of
free w h = record {
  no_type = none_of (builtin_of w) (neither (is_some (keyword_of w)) (is_some (builtin_of w)) h).1;
  no_class = unlike w (keyword_text kw.Class) h refl;
  no_control = unlike w (keyword_text kw.EncodingControl) h refl;
  no_end = unlike w (keyword_text kw.End) h refl;
  no_exports = unlike w (keyword_text kw.Exports) h refl;
  no_imports = unlike w (keyword_text kw.Imports) h refl;
  no_instance = unlike w (keyword_text kw.Instance) h refl;
}

-- a Name that has a definition
pub defined_unreserved : {w : List ℕ} {T : AsnType} {ks : List Known} → IsDefined w T ks → AreUnreserved ks → is_reserved w ≡ false
defined_unreserved (this_definition e) u = ap is_reserved (sym e) ∙ u.0
defined_unreserved (later_definition n d) u = defined_unreserved d u.1
