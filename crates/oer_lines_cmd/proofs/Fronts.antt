-- What writers got, one text after another.
use Rattle.std.proofs.Common.{◌∙◌, ℕ, ◌+◌, Option, None, Some, List, [], ◌∷◌, ◌++◌, length, take, refl, sym, ap, subst, arith, append_assoc, append-nil, length-append, take_all}
use Rattle.std.proofs.Math.Seq.{take-append-add}
use Rattle.std.proofs.lemmas.List.{take-append-le}
use Rattle.std.specs.Io.KnownBytes.{Appends, Keeps}
use Rattle.clap.specs.Words.{Text}
use Rattle.oer_cmd.specs.Faults.{AppendsFront}
use Rattle.oer_lines_cmd.specs.Answers.{AppendsFronts, AreFronts}

pub keeps_same : (a : Option (List ℕ)) → Keeps a a
keeps_same None = tt
keeps_same (Some xs) = refl

pub appends_nothing : (a b : Option (List ℕ)) → Keeps a b → Appends a b []
appends_nothing None b h = tt
appends_nothing (Some xs) None h = absurd h
appends_nothing (Some xs) (Some ys) h = h ∙ sym (append-nil xs)

pub appends_both : (a b c : Option (List ℕ)) (s t : Text) → Appends a b s → Appends b c t → Appends a c (s ++ t)
appends_both None b c s t h k = tt
appends_both (Some xs) None c s t h k = absurd h
appends_both (Some xs) (Some ys) None s t h k = absurd k
appends_both (Some xs) (Some ys) (Some zs) s t h k = k ∙ ap (λ l. l ++ t) h ∙ append_assoc xs s t

pub keeps_both : (a b c : Option (List ℕ)) → Keeps a b → Keeps b c → Keeps a c
keeps_both None b c h k = tt
keeps_both (Some xs) None c h k = absurd h
keeps_both (Some xs) (Some ys) None h k = absurd k
keeps_both (Some xs) (Some ys) (Some zs) h k = k ∙ h

-- nothing is a front
pub no_front : (a b : Option (List ℕ)) (t : Text) → Keeps a b → AppendsFront a b t
no_front a b t h = (0, omega arith, appends_nothing a b h)

pub whole_front : (a b : Option (List ℕ)) (t : Text) → Appends a b t → AppendsFront a b t
whole_front a b t h = (length t, omega arith, subst (Appends a b) (sym (take_all (length t) t (omega arith))) h)

-- the front of a text is one of a longer text
pub longer_front : (a b : Option (List ℕ)) (s t : Text) → AppendsFront a b s → AppendsFront a b (s ++ t)
longer_front a b s t (n, within, h) = (n, omega (arith, within, length-append s t), subst (Appends a b) (sym (take-append-le n s t within)) h)

-- a text, and a front of the next
pub front_after : (a b c : Option (List ℕ)) (s t : Text) → Appends a b s → AppendsFront b c t → AppendsFront a c (s ++ t)
front_after a b c s t h (n, within, k) =
    (length s + n, omega (arith, within, length-append s t), subst (Appends a c) (sym (take-append-add s t n)) (appends_both a b c s (take n t) h k))

pub no_fronts : (a b : Option (List ℕ)) → Keeps a b → AppendsFronts a b []
no_fronts a b h = ([], refl, appends_nothing a b h)

pub one_front : (a b : Option (List ℕ)) (t : Text) → AppendsFront a b t → AppendsFronts a b (t ∷ [])
one_front a b t (n, within, h) = (take n t, (n, [], within, sym (append-nil (take n t)), refl), h)

fronts_both : (ls ms : List Text) (s t : Text) → AreFronts ls s → AreFronts ms t → AreFronts (ls ++ ms) (s ++ t)
fronts_both [] ms s t h k = subst (λ l. AreFronts ms (l ++ t)) (sym h) k
fronts_both (l ∷ ls) ms s t (n, rest, within, is, h) k =
    (n, rest ++ t, within, ap (λ x. x ++ t) is ∙ append_assoc (take n l) rest t, fronts_both ls ms rest t h k)

pub fronts_after : (a b c : Option (List ℕ)) (ls ms : List Text) → AppendsFronts a b ls → AppendsFronts b c ms → AppendsFronts a c (ls ++ ms)
fronts_after a b c ls ms (s, are, h) (t, are', k) = (s ++ t, fronts_both ls ms s t are are', appends_both a b c s t h k)

pub fronts_kept : (a b c : Option (List ℕ)) (ls : List Text) → AppendsFronts a b ls → Keeps b c → AppendsFronts a c ls
fronts_kept a b c ls (s, are, h) kept = (s, are, subst (Appends a c) (append-nil s) (appends_both a b c s [] h (appends_nothing b c kept)))
