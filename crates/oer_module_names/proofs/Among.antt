-- What stands among others, and what entries tell of a Name.
use Rattle.std.proofs.Common.{◌≡◌, ◌≢◌, ◌⊎◌, inl, inr, ℕ, zero, suc, Bool, true, false, cond, List, [], ◌∷◌, ◌++◌}
use Rattle.std.proofs.Common.{append_assoc, append-nil, nat_eq, eqb-true, Some, unwrap_or, refl, sym, subst, ap, ◌∙◌, arith}
use Rattle.std.proofs.lemmas.Slice.Eq.{bytes_eq-Decides}
use Rattle.std.specs.Str.{bytes_eq}
use Rattle.oer_module_names.specs.Sole.{Entry, sole, sole_from, with_entry, with_number}
use Rattle.oer_module_names.specs.Standing.{IsAmong}
use Rattle.oer_module_names.specs.declared.index.Sole.{Sole}
use Rattle.oer_module_names.specs.declared.index.Sole.TheVariants.{Nothing, One, Two}

pub among_left : {A : Type 0} (xs ys : List A) (x : A) → IsAmong xs x → IsAmong (xs ++ ys) x
among_left [] ys x (i, h) = cc
among_left (y ∷ xs) ys x (zero, h) = (zero, h)
among_left (y ∷ xs) ys x (suc i, h) = let r = among_left xs ys x (i, h) in (suc r.0, r.1)

pub among_right : {A : Type 0} (xs ys : List A) (x : A) → IsAmong ys x → IsAmong (xs ++ ys) x
among_right [] ys x h = h
among_right (y ∷ xs) ys x h = let r = among_right xs ys x h in (suc r.0, r.1)

pub among_either : {A : Type 0} (xs ys : List A) (x : A) → IsAmong (xs ++ ys) x → IsAmong xs x ⊎ IsAmong ys x
among_either [] ys x h = inr h
among_either (y ∷ xs) ys x (zero, h) = inl (zero, h)
among_either (y ∷ xs) ys x (suc i, h) = elim (among_either xs ys x (i, h)) [ inl l ↦ inl (suc l.0, l.1) | inr r ↦ inr r ]

pub same_some : {A : Type 0} (x y : A) → Some x ≡ Some y → x ≡ y
same_some x y h = ap (λ o. unwrap_or o x) h

among_one : {A : Type 0} (x y : A) → IsAmong (x ∷ []) y → x ≡ y
among_one x y (zero, h) = same_some x y h
among_one x y (suc i, h) = cc

-- ---- what entries tell

-- w has the number a
abbrev pub Gives : List Entry → List ℕ → ℕ → Type 0
Gives es w a = IsAmong es (record { name = w; number = a })

abbrev pub Tells : List Entry → List ℕ → Sole → Type 0
Tells es w Nothing = (b : ℕ) → Gives es w b → ⊥
Tells es w (One a) = Gives es w a × ((b : ℕ) → Gives es w b → b ≡ a)
Tells es w (Two a b) = Gives es w a × Gives es w b × (a ≢ b)

gives_either : (es : List Entry) (e : Entry) (w : List ℕ) (b : ℕ) → Gives (es ++ e ∷ []) w b → Gives es w b ⊎ ((e.name ≡ w) × (e.number ≡ b))
gives_either es e w b h = elim (among_either es (e ∷ []) (record { name = w; number = b }) h) [
  | inl l ↦ inl l
  | inr r ↦ let same = among_one e (record { name = w; number = b }) r in inr (ap (λ x. x.name) same, ap (λ x. x.number) same)
]

gives_left : (es : List Entry) (e : Entry) (w : List ℕ) (b : ℕ) → Gives es w b → Gives (es ++ e ∷ []) w b
gives_left es e w b h = among_left es (e ∷ []) (record { name = w; number = b }) h

-- an entry of another Name
tells_other : (es : List Entry) (e : Entry) (w : List ℕ) (s : Sole) → (e.name ≡ w → ⊥) → Tells es w s → Tells (es ++ e ∷ []) w s
tells_other es e w Nothing other h = λ b g. elim (gives_either es e w b g) [ inl l ↦ h b l | inr r ↦ other r.0 ]
tells_other es e w (One a) other h = (gives_left es e w a h.0, λ b g. elim (gives_either es e w b g) [ inl l ↦ h.1 b l | inr r ↦ absurd (other r.0) ])
tells_other es e w (Two a b) other h = (gives_left es e w a h.0, gives_left es e w b h.1, h.2)

-- an entry of this Name
tells_this : (es : List Entry) (e : Entry) (w : List ℕ) (s : Sole) → e.name ≡ w → Tells es w s → Tells (es ++ e ∷ []) w (with_number s e.number)
tells_this es e w s named h = by s h
  where
    here : Gives (es ++ e ∷ []) w e.number
    here = among_right es (e ∷ []) (record { name = w; number = e.number }) (zero, ap (λ v. Some (record { name = v; number = e.number })) named)

    by : (s : Sole) → Tells es w s → Tells (es ++ e ∷ []) w (with_number s e.number)
    by Nothing h = (here, λ b g. elim (gives_either es e w b g) [ inl l ↦ absurd (h b l) | inr r ↦ sym r.1 ])
    by (One a) h = test (nat_eq a e.number) refl
      where
        test : (t : Bool) → nat_eq a e.number ≡ t → Tells (es ++ e ∷ []) w (cond t (One a) (Two a e.number))
        test true same = (gives_left es e w a h.0, λ b g. elim (gives_either es e w b g) [ inl l ↦ h.1 b l | inr r ↦ sym r.1 ∙ sym (eqb-true a e.number same) ])
        test false apart = (gives_left es e w a h.0, here, λ same. grind (arith, apart, same))
    by (Two a b) h = (gives_left es e w a h.0, gives_left es e w b h.1, h.2)

tells_from : (ds es : List Entry) (w : List ℕ) (s : Sole) → Tells ds w s → Tells (ds ++ es) w (sole_from s es w)
tells_from ds [] w s h = subst (λ l. Tells l w s) (sym (append-nil ds)) h
tells_from ds (e ∷ es) w s h =
    subst (λ l. Tells l w (sole_from (with_entry s e w) es w)) (append_assoc ds (e ∷ []) es) (tells_from (ds ++ e ∷ []) es w (with_entry s e w) (by (bytes_eq e.name w) refl))
  where
    by : (t : Bool) → bytes_eq e.name w ≡ t → Tells (ds ++ e ∷ []) w (cond t (with_number s e.number) s)
    by true same = tells_this ds e w s ((bytes_eq-Decides e.name w).0 same) h
    by false apart = tells_other ds e w s (λ same. let equal : bytes_eq e.name w ≡ true = (bytes_eq-Decides e.name w).1 same in cc) h

pub tells : (es : List Entry) (w : List ℕ) → Tells es w (sole es w)
unfolding sole
tells es w = tells_from [] es w Nothing (λ b g. cc)
