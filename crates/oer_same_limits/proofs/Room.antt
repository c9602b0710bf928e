-- What takes no part and adds little text, and what is rejected for other reasons alone.
use Rattle.std.proofs.Common.{◌≡◌, ◌∙◌, ◌==◌, ◌-◌, ◌+◌, ◌*◌, ◌≤◌, ◌<◌, ℕ, suc, List, [], ◌∷◌, ◌++◌, Bool, true, false, Option, Some, None, Result, Ok, Err, if◌then◌else◌, refl, arith}
use Rattle.std.specs.Prelude.{codes, length, nat_lt}
use Rattle.std.proofs.lemmas.Bool.{eqb-true, ltb-true}
use Rattle.std.proofs.lemmas.List.{length-append}
use Rattle.oer_module_leaves.specs.Comments.{Found, all_kinds, end_comment, is_quiet, is_unchecked, kind_text, kinds_at, opening_text, terms_in, unchecked_at, words_from, words_of}
use Rattle.oer_module_leaves.specs.declared.comment.Checked.{Checked}
use Rattle.oer_module_limits.specs.Errors as limits
use Rattle.oer_module_limits.specs.Written.{Written, constraints_in, has_set}
use Rattle.oer_module_limits.specs.declared.kinds.Kind.{Kind}
use Rattle.oer_module_names.specs.declared.error.Place.{Place}
use Rattle.oer_module_syntax.specs.declared.fault.Fault.{Fault}
use Rattle.oer_module_terms.specs.Trees.{Constraint}
use Rattle.oer_module_text.specs.Errors.{Read, from_limits, in_module, limited_by, told_by}
use Rattle.oer_module_text.specs.Room.{Room, put, take_part}
use Rattle.oer_module_values.specs.Errors as values
use Rattle.oer_same_items.proofs.Telling.{unless}
use Rattle.oer_same_limits.proofs.Telling.{Gives, choose}
use Rattle.oer_same_limits.specs.Takes.{IsOther}

-- it is rejected for another reason, if it is rejected; and what it is, if it isn't
abbrev pub Stays : {A : Type 0} → Bool → (A → Type 0) → Read A → Type 0
Stays s P p = Gives (IsOther s) P p

abbrev pub Goes : {A : Type 0} → Bool → Read A → Type 0
Goes {A} s p = Gives (IsOther s) (λ (x : A). Unit {0}) p

-- the octets of the text, and 256 for each part that is left
abbrev pub held : Room → ℕ
held r = length r.text + 256 * r.parts

-- no part is taken, and at most so many octets are written
abbrev pub Adds : ℕ → Room → Room → Type 0
Adds k r x = (x.parts ≡ r.parts) × (length x.text ≤ length r.text + k)

-- so many parts are left behind it, and of short definitions at most so many octets more are held
abbrev pub Fills : {A : Type 0} → Bool → ℕ → ℕ → Room → Read (A × Room) → Type 0
Fills {A} s n k r p = Gives (IsOther s) (λ (x : A × Room). (x.1.parts ≡ n) × (s ≡ true → held x.1 ≤ held r + k)) p

-- The same of a type: so many octets fewer are held, as are for what stands around it.
abbrev pub Leaves : {A : Type 0} → Bool → ℕ → Room → Read (A × Room) → Type 0
Leaves {A} s n r p = Gives (IsOther s) (λ (x : A × Room). (x.1.parts ≡ n) × (s ≡ true → held x.1 + 132 ≤ held r)) p

-- ---- text

pub put_adds : (w : List ℕ) (r : Room) → Adds (length w) r (put w r)
put_adds w r = (refl, let long = length-append r.text w in omega (arith, long))

pub adds_then : (j k : ℕ) (r x y : Room) → Adds j r x → Adds k x y → Adds (j + k) r y
adds_then j k r x y h g = (g.0 ∙ h.0, let a = h.1 in let b = g.1 in omega (arith, a, b))

pub adds_less : (j k : ℕ) (r x : Room) → j ≤ k → Adds j r x → Adds k r x
adds_less j k r x less h = (h.0, let a = h.1 in omega (arith, a, less))

-- what is added is held
pub adds_held : (k : ℕ) (r x : Room) → Adds k r x → held x ≤ held r + k
adds_held k r x h = let same = h.0 in let few = h.1 in omega (arith, same, few)

-- ---- what is told

pub told : {A : Type 0} (s : Bool) (r : Result A values.Error) → Goes s (told_by r)
told s (Ok x) = record { given = tt }
told s (Err e) = record { given = tt }

pub read_in : {A : Type 0} (s : Bool) (m : ℕ) (r : Result A Fault) → Goes s (in_module m r)
read_in s m (Ok x) = record { given = tt }
read_in s m (Err e) = record { given = tt }

other_limit : (s : Bool) (w : limits.Why) → IsOther s (from_limits w)
other_limit s (limits.unresolved w) = tt
other_limit s w = tt

pub limited : {A : Type 0} (s : Bool) (r : Result A limits.Error) → Goes s (limited_by r)
limited s (Ok x) = record { given = tt }
limited s (Err e) = record { given = other_limit s e.why }

-- ---- a part

-- There is room for it as long as 256 octets are left for each.
pub part_taken : (s : Bool) (p : Place) (r : Room) (n : ℕ) → r.parts ≡ suc n → (s ≡ true → held r ≤ 1048832)
    → Stays s (λ (x : Room). (x.parts ≡ n) × (s ≡ true → held x + 256 ≤ held r)) (take_part p r)
unfolding take_part
part_taken s p r n e few = choose _ (r.parts == 0) _ _ (λ none. absurd (some (eqb-true r.parts 0 none))) (λ has.
    choose _ (nat_lt 1048576 (length r.text)) _ _ (λ long. record { given = unless s (λ on. not_long on (ltb-true 1048576 (length r.text) long)) })
    (λ short. record { given = (less, λ on. fewer) })) where
      some : r.parts ≡ 0 → ⊥
      some none = omega (arith, none, e)

      not_long : s ≡ true → 1048576 < length r.text → ⊥
      not_long on long = let most : length r.text + 256 * r.parts ≤ 1048832 = few on in omega (arith, most, long, e)

      less : r.parts - 1 ≡ n
      less = omega (arith, e)

      fewer : length r.text + 256 * (r.parts - 1) + 256 ≤ length r.text + 256 * r.parts
      fewer = omega (arith, e)

-- ---- comments

-- the octets of the words for kinds, each behind a comma and a space
abbrev kinds_len : List Kind → ℕ
kinds_len [] = 0
kinds_len (k ∷ ks) = 2 + length (kind_text k) + kinds_len ks

-- what opens the comment, unless it is open
abbrev opening_len : Bool → List ℕ → ℕ
opening_len true opening = 0
opening_len false opening = length opening

either : (b : Bool) (x y : Bool × Room) (k : ℕ) (r : Room) → Adds k r x.1 → Adds k r y.1 → Adds k r (if b then x else y).1
either true x y k r h g = h
either false x y k r h g = g

-- a word, and what comes behind it
word_adds : (some : Bool) (opening w : List ℕ) (n : ℕ) (r y : Room) → Adds n (put w (put (opening_text some opening) r)) y
    → Adds (opening_len some opening + (2 + length w + n)) r y
word_adds true opening w n r y more =
    let both = adds_then 2 (length w) r (put (codes ", ") r) (put w (put (codes ", ") r)) (put_adds (codes ", ") r) (put_adds w (put (codes ", ") r)) in
    adds_less (2 + length w + n) _ r y (omega arith) (adds_then (2 + length w) n r (put w (put (codes ", ") r)) y both more)
word_adds false opening w n r y more =
    let both = adds_then (length opening) (length w) r (put opening r) (put w (put opening r)) (put_adds opening r) (put_adds w (put opening r)) in
    adds_less (length opening + length w + n) _ r y (omega arith) (adds_then (length opening + length w) n r (put w (put opening r)) y both more)

words_add : (f : Found) (opening : List ℕ) (some : Bool) (ks : List Kind) (r : Room)
    → Adds (opening_len some opening + kinds_len ks) r (words_from f opening some ks r).1
unfolding words_from
words_add f opening some [] r = (refl, omega arith)
words_add f opening some (k ∷ ks) r =
    let s : Room = put (kind_text k) (put (opening_text some opening) r) in
    either (is_unchecked f k) (words_from f opening true ks s) (words_from f opening some ks r) _ r
    (word_adds some opening (kind_text k) (kinds_len ks) r (words_from f opening true ks s).1
    (adds_less (0 + kinds_len ks) (kinds_len ks) s (words_from f opening true ks s).1 (omega arith) (words_add f opening true ks s)))
    (adds_less (opening_len some opening + kinds_len ks) _ r (words_from f opening some ks r).1 (omega arith) (words_add f opening some ks r))

said_add : (checked : Checked) (sized valued : Bool) (opening : List ℕ) (o : Option (List Constraint)) (r : Room)
    → Adds (length opening + 89) r (words_of checked sized valued opening o r).1
said_add checked sized valued opening None r =
    let both = adds_then (length opening) 11 r (put opening r) (put (codes "constraints") (put opening r)) (put_adds opening r) (put_adds (codes "constraints") (put opening r)) in
    adds_less (length opening + 11) _ r _ (omega arith) both
said_add checked sized valued opening (Some cs) r =
    words_add (record { checked = checked; sized = sized; valued = valued; constraints = cs }) opening false all_kinds r

kinds_add : (checked : Checked) (sized : Bool) (w : Written) (opening : List ℕ) (r : Room) → Adds (length opening + 89) r (kinds_at checked sized w opening r).1
unfolding kinds_at
kinds_add checked sized w opening r = said_add checked sized (has_set w.given) opening (terms_in (constraints_in w)) r

comment_by : (b : Bool) (x : Bool × Room) (r : Room) → Adds 106 r x.1 → Adds 109 r (if b then r else end_comment x)
comment_by true x r h = (refl, omega arith)
comment_by false (true, s) r h = adds_then 106 3 r s (put (codes " */") s) h (put_adds (codes " */") s)
comment_by false (false, s) r h = adds_less 106 109 r s (omega arith) h

pub comment_adds : (checked : Checked) (sized : Bool) (w : Written) (r : Room) → Adds 109 r (unchecked_at checked sized w r)
unfolding unchecked_at
comment_adds checked sized w r =
    comment_by (is_quiet checked w) (kinds_at checked sized w (codes " /* not checked: ") r) r (kinds_add checked sized w (codes " /* not checked: ") r)
