-- What is found for a type is its outermost tag.
use Rattle.std.proofs.Common.{◌≡◌, ◌<◌, ℕ, zero, suc, ◌^◌, ℤ, pos, negsuc, nat_lt, List, [], ◌∷◌, Option, Some, None, Result, Ok, Err, inl, inr}
use Rattle.std.proofs.Common.{refl, ap, subst, Bool, true, false, if◌then◌else◌}
use Rattle.std.proofs.lemmas.Bool.{ltb-true}
use Rattle.oer_module_lexer.specs.Token.{Spot}
use Rattle.oer_module_names.specs.declared.error.Place.{Place}
use Rattle.oer_module_parts.specs.Kept.{kept}
use Rattle.oer_module_parts.specs.Tags.{tag_at}
use Rattle.oer_module_parts.specs.Tags as written
use Rattle.oer_module_parts.specs.Universal.{universal_number}
use Rattle.oer_module_syntax.specs.State.{State}
use Rattle.oer_module_syntax.specs.Tree.{Module}
use Rattle.oer_module_syntax.specs.Tree.{Tree, plain, named, tagged, structure, list_of, selection, instance_of, any_defined_by}
use Rattle.oer_module_syntax.specs.declared.fault.Fault.{Fault}
use Rattle.oer_module_syntax.specs.declared.tree.Mode.{Mode}
use Rattle.oer_module_syntax.specs.declared.word.Builtin.{Builtin}
use Rattle.oer_module_text.specs.Errors.{Read, error, refused, place_in, told_by, in_module, tag_number, ◌>>=◌}
use Rattle.oer_module_text.specs.declared.error.Part.TheVariants as part
use Rattle.oer_module_values.proofs.Denoted.{counted}
use Rattle.oer_module_values.specs.Errors.{Error as ToldError}
use Rattle.oer_module_values.specs.Looks.{path_of}
use Rattle.oer_module_values.specs.Numbers.{bare, Denotes, integer_at}
use Rattle.oer_module_values.specs.Types.{TypeIn, Step, follow}
use Rattle.oer_units.specs.declared.tagging.Class.TheVariants.{Universal}
use Rattle.oer_units.specs.declared.tagging.Tag.{Tag}
use Rattle.oer_module_tags.proofs.Followed.{Leads, leads}
use Rattle.oer_module_tags.specs.Headers.{has_tags_in_brackets}
use Rattle.oer_module_tags.specs.Outermost.{tag, Writes, HasTag, by_tag, by_word, by_structure, by_list, by_type, by_set}
use Rattle.oer_module_tags.specs.Outermost.{fitting, tag_in, numbered, Outcome, found, next, after, led_to}
use Rattle.oer_module_tags.specs.Outermost.{written_tag, referred, step_by, step, tag_within}

-- ---- tags that are written

fits_by : (p : Place) (k n : ℕ) (b : Bool) → nat_lt k (2 ^ 32) ≡ b → (if b then Ok k else error p tag_number) ≡ Ok n → (k ≡ n) × (n < 2 ^ 32)
fits_by p k n true e h = let same : k ≡ n = cc in (same, subst (λ x. x < 2 ^ 32) same (ltb-true k (2 ^ 32) e))
fits_by p k n false e h = absurd (cc)

pub fits : (p : Place) (z : ℤ) (n : ℕ) → fitting p z ≡ Ok n → (z ≡ pos n) × (n < 2 ^ 32)
fits p (pos k) n h = let q = fits_by p k n (nat_lt k (2 ^ 32)) refl h in (ap pos q.0, q.1)
fits p (negsuc k) n h = absurd (cc)

module _ (ms : List Module) (m at : ℕ) (ts : List Spot) (g : Tag) where
  number_writes : (t : written.Tag) (s : State) (z : ℤ) (r : Read ℕ) → tag_at (kept ts at) ≡ Ok (t, s)
      → Denotes ms m (bare m) t.number z → fitting (place_in m at) z ≡ r → (r >>= λ n. Ok (tag t.class n)) ≡ Ok g → Writes ms m at ts g
  number_writes t s z (Err e) is d f h = absurd (cc)
  number_writes t s z (Ok n) is d f h =
      let same : tag t.class n ≡ g = cc in
      let p = fits (place_in m at) z n f in
      subst (Writes ms m at ts) same (record {
        read = t;
        rest = s;
        is = is;
        class = refl;
        number = subst (Denotes ms m (bare m) t.number) p.0 d;
        fits = p.1;
      })

  amount_writes : (t : written.Tag) (s : State) (r : Result ℤ ToldError) → tag_at (kept ts at) ≡ Ok (t, s)
      → integer_at ms (place_in m at) t.number ≡ r
      → (told_by r >>= λ z. fitting (place_in m at) z >>= λ n. Ok (tag t.class n)) ≡ Ok g → Writes ms m at ts g
  amount_writes t s (Err e) is i h = absurd (cc)
  amount_writes t s (Ok z) is i h =
      number_writes t s z (fitting (place_in m at) z) is
      (counted ms (record { place = place_in m at; governor = bare m; amount = t.number }) z i) refl h

  -- what the code does with a tag that is read
  abbrev Goes : written.Tag → Read Tag
  Goes t = told_by (integer_at ms (place_in m at) t.number) >>= λ z. fitting (place_in m at) z >>= λ n. Ok (tag t.class n)

  read_writes : (r : Result (written.Tag × State) Fault) → tag_at (kept ts at) ≡ r → ((in_module m r >>= λ t. Ok t.0) >>= Goes) ≡ Ok g
      → Writes ms m at ts g
  read_writes (Err e) is h = absurd (cc)
  read_writes (Ok (t, s)) is h = amount_writes t s (integer_at ms (place_in m at) t.number) is refl h

  bracket_writes : (b : Bool) → (if b then tag_in m at ts >>= Goes else refused m at part.Instructions) ≡ Ok g → Writes ms m at ts g
  bracket_writes true h = read_writes (tag_at (kept ts at)) refl h
  bracket_writes false h = absurd (cc)

  writes : written_tag ms m at ts ≡ Ok g → Writes ms m at ts g
  unfolding written_tag
  writes h = bracket_writes (has_tags_in_brackets ms m) h

-- ---- what one step says

module _ (ms : List Module) where
  -- the tag, or that it is the tag of another type
  abbrev pub IsStep : ℕ → Tree → Outcome → Type 0
  IsStep m t (found g) = HasTag ms m t g
  IsStep m t (next u) = (g : Tag) → HasTag ms u.«module» u.type g → HasTag ms m t g

  tagged_step : (m at : ℕ) (ts : List Spot) (mode : Mode) (t : Tree) (o : Outcome) (r : Read Tag) → written_tag ms m at ts ≡ r
      → (r >>= λ g. Ok (found g)) ≡ Ok o → IsStep m (tagged at ts mode t) o
  tagged_step m at ts mode t o (Err e) is h = absurd (cc)
  tagged_step m at ts mode t o (Ok g) is h =
      let same : found g ≡ o = cc in
      subst (IsStep m (tagged at ts mode t)) same (by_tag m at ts mode t g (writes ms m at ts g is))

  word_step : (m at : ℕ) (b : Builtin) (t : Tree) (o : Outcome) (k : Option ℕ) → universal_number b ≡ k
      → ((n : ℕ) → universal_number b ≡ Some n → HasTag ms m t (tag Universal n))
      → (numbered m at k >>= λ g. Ok (found g)) ≡ Ok o → IsStep m t o
  word_step m at b t o None is has h = absurd (cc)
  word_step m at b t o (Some n) is has h = let same : found (tag Universal n) ≡ o = cc in subst (IsStep m t) same (has n is)

  leading_step : (m at : ℕ) (w : List ℕ) (steps cs : List Spot) (u : TypeIn) → Leads ms m w steps u → IsStep m (named at w steps [] cs) (next u)
  leading_step m at w steps cs u (inl r) = λ g h. by_type m at w steps cs u.«module» u.type g r h
  leading_step m at w steps cs u (inr r) = λ g h. by_set m at w steps cs r.0 u.«module» u.type g r.1 h

  followed_step : (m at : ℕ) (w : List ℕ) (steps cs : List Spot) (o : Outcome) (r : Result Step ToldError)
      → follow ms (place_in m at) w (path_of steps) cs [] ≡ r
      → ((told_by r >>= led_to (place_in m at)) >>= λ t. Ok (next t)) ≡ Ok o → IsStep m (named at w steps [] cs) o
  followed_step m at w steps cs o (Err e) is h = absurd (cc)
  followed_step m at w steps cs o (Ok (None, gs)) is h = absurd (cc)
  followed_step m at w steps cs o (Ok (Some u, gs)) is h =
      let same : next u ≡ o = cc in
      subst (IsStep m (named at w steps [] cs)) same (leading_step m at w steps cs u (leads ms m at w steps cs u [] gs is))

  named_step : (m at : ℕ) (w : List ℕ) (steps ps cs : List Spot) (o : Outcome) → step_by ms m (named at w steps ps cs) ≡ Ok o
      → IsStep m (named at w steps ps cs) o
  unfolding referred
  named_step m at w steps [] cs o h = followed_step m at w steps cs o _ refl h
  named_step m at w steps (p ∷ ps) cs o h = absurd (cc)

  any_step : (m : ℕ) (t : Tree) (o : Outcome) → step_by ms m t ≡ Ok o → IsStep m t o
  any_step m (tagged at ts mode t) o h = tagged_step m at ts mode t o (written_tag ms m at ts) refl h
  any_step m (named at w steps ps cs) o h = named_step m at w steps ps cs o h
  any_step m (plain at b is cs) o h = word_step m at b (plain at b is cs) o (universal_number b) refl (λ n e. by_word m at b is cs n e) h
  any_step m (structure at b es cs) o h =
      word_step m at b (structure at b es cs) o (universal_number b) refl (λ n e. by_structure m at b es cs n e) h
  any_step m (list_of at b z ss w t) o h =
      word_step m at b (list_of at b z ss w t) o (universal_number b) refl (λ n e. by_list m at b z ss w t n e) h
  any_step m (selection at w t) o h = absurd (cc)
  any_step m (instance_of at c p cs) o h = absurd (cc)
  any_step m (any_defined_by at w) o h = absurd (cc)

  -- ---- the whole way

  sound_by : (k : ℕ) (t : TypeIn) (g : Tag) (r : Read Outcome) → ((u : TypeIn) → tag_within ms k u ≡ Ok g → HasTag ms u.«module» u.type g)
      → step ms t ≡ r → (r >>= after (tag_within ms k)) ≡ Ok g → HasTag ms t.«module» t.type g
  unfolding step
  sound_by k t g (Err e) on is h = absurd (cc)
  sound_by k t g (Ok (found f)) on is h =
      let same : f ≡ g = cc in
      subst (HasTag ms t.«module» t.type) same (any_step t.«module» t.type (found f) is)
  sound_by k t g (Ok (next u)) on is h = any_step t.«module» t.type (next u) is g (on u h)

  pub sound : (k : ℕ) (t : TypeIn) (g : Tag) → tag_within ms k t ≡ Ok g → HasTag ms t.«module» t.type g
  unfolding tag_within
  sound zero t g h = absurd (cc)
  sound (suc k) t g h = sound_by k t g (step ms t) (λ u. sound k u g) refl h
