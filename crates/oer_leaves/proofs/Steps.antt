-- Octets that are written one after another.
use Rattle.std.proofs.Common.{◌≡◌, ℕ, ◌+◌, ◌≤◌, ◌^◌, List, [], ◌++◌, length, take, Option, Some, None, Result, Ok, Err, arith, refl, sym, ap, ◌∙◌, inl, inr, append_assoc, append-nil, subst, length-append}
use Rattle.std.proofs.lemmas.List.{take-append-le}
use Rattle.std.proofs.Math.Seq.{take-append-add}
use Rattle.std.specs.Result.{IsErrAnd, result_ok}
use Rattle.std.proofs.lemmas.Result.{err_from_is_err_and}
use Rattle.std.specs.Io.KnownBytes.{Appends}
use Rattle.oer_units.specs.Least.{counted, length_octets}
use Rattle.oer_units.specs.Stream.{one_more}
use Rattle.oer_units.specs.declared.fault.SinkFault.{SinkFault}
use Rattle.oer_leaves.specs.Wrote.{Stopped, Wrote, Measures, Ahead}

pub appends_both : (a b c : Option (List ℕ)) (xs ys : List ℕ) → Appends a b xs → Appends b c ys → Appends a c (xs ++ ys)
appends_both None b c xs ys p q = tt
appends_both (Some a) None c xs ys p q = absurd p
appends_both (Some a) (Some b) None xs ys p q = absurd q
appends_both (Some a) (Some b) (Some c) xs ys p q = q ∙ ap (λ (l : List ℕ). l ++ ys) p ∙ append_assoc a xs ys

appends_none : (a : Option (List ℕ)) → Appends a a []
appends_none None = tt
appends_none (Some a) = sym (append-nil a)

-- what was written, and how many octets are done
abbrev pub AllOf : ℕ → List ℕ → Option (List ℕ) → ℕ → ℕ → Option (List ℕ) → ℕ → Type 0
AllOf done octets old failed n new failed' = (n ≡ done + length octets) × Appends old new octets × (failed' ≡ failed)

pub stopped_more : (e : SinkFault) (done : ℕ) (a b whole : List ℕ) (old new : Option (List ℕ)) (f f' : ℕ) → whole ≡ a ++ b → Stopped done a old f e new f' → Stopped done whole old f e new f'
stopped_more x done a b whole old new f f' e (inl (j, is, less, app, count)) =
    inl (j, is, omega (arith, ap length e, length-append a b), subst (λ l. Appends old new l) (sym (ap (take j) e ∙ take-append-le j a b (omega arith))) app, count)
stopped_more x done a b whole old new f f' e (inr h) = inr (omega (arith, ap length e, length-append a b))

pub stopped_then : (e : SinkFault) (done mid : ℕ) (a b whole : List ℕ) (old now new : Option (List ℕ)) (f f' f'' : ℕ) → whole ≡ a ++ b → AllOf done a old f mid now f' → Stopped mid b now f' e new f'' → Stopped done whole old f e new f''
stopped_then x done mid a b whole old now new f f' f'' e (n, app, same) (inl (j, is, less, app', count)) =
    inl (length a + j, omega arith, omega (arith, ap length e, length-append a b), subst (λ l. Appends old new l) (sym (ap (take (length a + j)) e ∙ take-append-add a b j)) (appends_both old now new a (take j b) app app'), count ∙ ap one_more same)
stopped_then x done mid a b whole old now new f f' f'' e (n, app, same) (inr h) = inr (omega (arith, ap length e, length-append a b))

-- a first call that was Ok, and a second
pub wrote_then : (r : Result ℕ SinkFault) (done mid : ℕ) (a b whole : List ℕ) (old now new : Option (List ℕ)) (f f' f'' : ℕ) → whole ≡ a ++ b → AllOf done a old f mid now f' → Wrote mid b now f' r new f'' → Wrote done whole old f r new f''
wrote_then (Ok n) done mid a b whole old now new f f' f'' e (m, app, same) (m', app', same') =
    (omega (arith, ap length e, length-append a b), subst (λ l. Appends old new l) (sym e) (appends_both old now new a b app app'), same' ∙ same)
wrote_then (Err x) done mid a b whole old now new f f' f'' e one two = stopped_then x done mid a b whole old now new f f' f'' e one two

-- nothing was to be written
pub nothing_wrote : (done : ℕ) (o : List ℕ) (old : Option (List ℕ)) (f : ℕ) → o ≡ [] → Wrote done o old f (Ok done) old f
nothing_wrote done o old f e = (omega (arith, ap length e), subst (λ l. Appends old old l) (sym e) (appends_none old), refl)

pub same_wrote : (r : Result ℕ SinkFault) (done : ℕ) (a whole : List ℕ) (old new : Option (List ℕ)) (f f' : ℕ) → whole ≡ a → Wrote done a old f r new f' → Wrote done whole old f r new f'
same_wrote r done a whole old new f f' e h = subst (λ l. Wrote done l old f r new f') (sym e) h

-- the exit of a `?`
pub passed : (r : Result ℕ SinkFault) (e : SinkFault) (done : ℕ) (a b whole : List ℕ) (old new : Option (List ℕ)) (f f' : ℕ) → whole ≡ a ++ b → IsErrAnd r (λ y. y ≡ e) → Stopped done a old f e new f' → Wrote done whole old f r new f'
passed r e done a b whole old new f f' is exit h =
    let p = err_from_is_err_and r exit in
    subst (λ x. Wrote done whole old f x new f') (sym (p.1 ∙ ap (λ (y : SinkFault). Err y) p.2)) (stopped_more e done a b whole old new f f' is h)

pub passed_then : (r : Result ℕ SinkFault) (e : SinkFault) (done mid : ℕ) (a b d whole : List ℕ) (old now new : Option (List ℕ)) (f f' f'' : ℕ) → whole ≡ a ++ (b ++ d) → IsErrAnd r (λ y. y ≡ e) → AllOf done a old f mid now f' → Stopped mid b now f' e new f'' → Wrote done whole old f r new f''
passed_then r e done mid a b d whole old now new f f' f'' is exit one h =
    passed r e done (a ++ b) d whole old new f f'' (is ∙ sym (append_assoc a b d)) exit (stopped_then e done mid a b (a ++ b) old now new f f' f'' refl one h)

-- ---- through a loop

pub ahead_start : (start : ℕ) (octets rest : List ℕ) (old : Option (List ℕ)) (f : ℕ) → octets ≡ rest → Ahead start octets old f start old f rest
ahead_start start octets rest old f e = record { front = []; is = e; count = omega arith; appended = appends_none old; same = refl }

pub ahead_all : (done n : ℕ) (a b whole : List ℕ) (old new : Option (List ℕ)) (f f' : ℕ) → whole ≡ a ++ b → AllOf done a old f n new f' → Ahead done whole old f n new f' b
ahead_all done n a b whole old new f f' e (m, app, same) = record { front = a; is = e; count = m; appended = app; same = same }

pub ahead_then : (start mid n : ℕ) (octets part rest : List ℕ) (old now new : Option (List ℕ)) (f f' f'' : ℕ) → Ahead start octets old f mid now f' part → Ahead mid part now f' n new f'' rest → Ahead start octets old f n new f'' rest
ahead_then start mid n octets part rest old now new f f' f'' p q = record {
  front = p.front ++ q.front;
  is = p.is ∙ ap (λ (l : List ℕ). p.front ++ l) q.is ∙ sym (append_assoc p.front q.front rest);
  count = omega (arith, p.count, q.count, length-append p.front q.front);
  appended = appends_both old now new p.front q.front p.appended q.appended;
  same = q.same ∙ p.same;
}

-- one step more, of the octets a
pub ahead_more : (start mid n : ℕ) (octets part a rest : List ℕ) (old now new : Option (List ℕ)) (f f' f'' : ℕ) → Ahead start octets old f mid now f' part → part ≡ a ++ rest → AllOf mid a now f' n new f'' → Ahead start octets old f n new f'' rest
ahead_more start mid n octets part a rest old now new f f' f'' p e one = ahead_then start mid n octets part rest old now new f f' f'' p (ahead_all mid n a rest part now new f' f'' e one)

pub ahead_stopped : (e : SinkFault) (start mid : ℕ) (octets part : List ℕ) (old now new : Option (List ℕ)) (f f' f'' : ℕ) → Ahead start octets old f mid now f' part → Stopped mid part now f' e new f'' → Stopped start octets old f e new f''
ahead_stopped e start mid octets part old now new f f' f'' p h = stopped_then e start mid p.front part octets old now new f f' f'' p.is (p.count, p.appended, p.same) h

-- the step of the octets a failed
pub ahead_failed : (r : Result ℕ SinkFault) (e : SinkFault) (start mid : ℕ) (octets part a rest : List ℕ) (old now new : Option (List ℕ)) (f f' f'' : ℕ) → Ahead start octets old f mid now f' part → part ≡ a ++ rest → IsErrAnd r (λ y. y ≡ e) → Stopped mid a now f' e new f'' → Wrote start octets old f r new f''
ahead_failed r e start mid octets part a rest old now new f f' f'' p is exit h =
    passed_then r e start mid p.front a rest octets old now new f f' f'' (p.is ∙ ap (λ (l : List ℕ). p.front ++ l) is) exit (p.count, p.appended, p.same) h

-- a last call
pub ahead_last : (r : Result ℕ SinkFault) (start mid : ℕ) (octets part : List ℕ) (old now new : Option (List ℕ)) (f f' f'' : ℕ) → Ahead start octets old f mid now f' part → Wrote mid part now f' r new f'' → Wrote start octets old f r new f''
ahead_last r start mid octets part old now new f f' f'' p h = wrote_then r start mid p.front part octets old now new f f' f'' p.is (p.count, p.appended, p.same) h

pub ahead_done : (start n : ℕ) (octets rest : List ℕ) (old new : Option (List ℕ)) (f f' : ℕ) → Ahead start octets old f n new f' rest → rest ≡ [] → AllOf start octets old f n new f'
ahead_done start n octets rest old new f f' p e =
    let is : octets ≡ p.front = p.is ∙ ap (λ (l : List ℕ). p.front ++ l) e ∙ append-nil p.front in
    (p.count ∙ ap (λ (l : List ℕ). start + length l) (sym is), subst (λ l. Appends old new l) (sym is) p.appended, p.same)

-- ---- with no sink

-- the number done, where nothing can fail
pub nowhere : (r : Result ℕ SinkFault) (o : Option ℕ) (done : ℕ) (octets : List ℕ) (new : Option (List ℕ)) → o ≡ result_ok r → Wrote done octets None 0 r new 0 → Measures done octets o
nowhere (Ok n) o done octets new e h = subst (λ x. Measures done octets x) (sym e) h.0
nowhere (Err x) o done octets new e (inl (j, is, less, app, count)) = absurd (omega (arith, count))
nowhere (Err x) o done octets new e (inr h) = subst (λ x. Measures done octets x) (sym e) h

-- ---- lengths

pub some_is : (o : Option ℕ) (done n : ℕ) (a : List ℕ) → o ≡ Some n → Measures done a o → n ≡ done + length a
some_is o done n a e h = subst (λ x. Measures done a x) e h

pub none_is : (o : Option ℕ) (done : ℕ) (a : List ℕ) → o ≡ None → Measures done a o → 2 ^ 64 ≤ done + length a
none_is o done a e h = subst (λ x. Measures done a x) e h

-- the octets a after those up to mid are the last of the whole
pub measured_last : (o : Option ℕ) (done mid : ℕ) (a whole : List ℕ) → mid + length a ≡ done + length whole → Measures mid a o → Measures done whole o
measured_last (Some n) done mid a whole e h = omega (arith, h)
measured_last None done mid a whole e h = omega (arith, h)

-- they are among the first
pub measured_none : (o : Option ℕ) (done n : ℕ) (whole : List ℕ) → o ≡ None → 2 ^ 64 ≤ n → n ≤ done + length whole → Measures done whole o
measured_none o done n whole e many le = subst (λ x. Measures done whole x) (sym e) (omega (arith, many, le))

-- ---- several calls that were Ok

pub all_then : (done mid n : ℕ) (a b : List ℕ) (old now new : Option (List ℕ)) (f f' f'' : ℕ) → AllOf done a old f mid now f' → AllOf mid b now f' n new f'' → AllOf done (a ++ b) old f n new f''
all_then done mid n a b old now new f f' f'' (e, app, same) (e', app', same') = (omega (arith, length-append a b), appends_both old now new a b app app', same' ∙ same)

pub all_same : (done n : ℕ) (a whole : List ℕ) (old new : Option (List ℕ)) (f f' : ℕ) → whole ≡ a → AllOf done a old f n new f' → AllOf done whole old f n new f'
all_same done n a whole old new f f' e h = subst (λ l. AllOf done l old f n new f') (sym e) h

-- an open type

pub head_then : (r : Result ℕ SinkFault) (done mid : ℕ) (o : List ℕ) (old now new : Option (List ℕ)) (f f' f'' : ℕ) → AllOf done (length_octets (length o)) old f mid now f' → Wrote mid o now f' r new f'' → Wrote done (counted o) old f r new f''
head_then r done mid o old now new f f' f'' one two = wrote_then r done mid (length_octets (length o)) o (counted o) old now new f f' f'' refl one two

-- from a moment when the sink was the same
pub from_start : (r : Result ℕ SinkFault) (done : ℕ) (o : List ℕ) (start old new : Option (List ℕ)) (f₀ f f' : ℕ) → old ≡ start → f ≡ f₀ → Wrote done o old f r new f' → Wrote done o start f₀ r new f'
from_start r done o start old new f₀ f f' e g h = subst (λ x. Wrote done o start x r new f') g (subst (λ x. Wrote done o x f r new f') e h)
