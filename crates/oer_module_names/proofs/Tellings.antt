-- What the indexes of modules tell, in the words of the relation.
use Rattle.std.proofs.Common.{◌≡◌, ◌+◌, ◌⊎◌, inl, inr, ℕ, zero, suc, true, List, [], ◌∷◌, Option, None, Some, slice_get, option_map, refl, sym, subst, ap, ◌∙◌, arith}
use Rattle.std.proofs.lemmas.Option.{slice_get-map}
use Rattle.oer_module_syntax.specs.Tree.{Exports, Import, Module, all, these}
use Rattle.oer_module_names.proofs.Among.{Gives, Tells, among_either, among_left, among_right, same_some, tells}
use Rattle.oer_module_names.specs.Sole.{Entry, each, first_of, is_there, numbered, sole}
use Rattle.oer_module_names.specs.Standing.{Has, ImportsFrom, IsAmong, IsAt, IsOnlyAt, MayLeave}
use Rattle.oer_module_names.specs.Tables.{imported, imports_from, is_exported, source, source_names, symbol_names}
use Rattle.oer_module_names.specs.declared.index.Sole.{Sole}
use Rattle.oer_module_names.specs.declared.index.Sole.TheVariants.{Nothing, One, Two}

-- ---- Names with their places

numbered_gives : (n : ℕ) (ws : List (List ℕ)) (w : List ℕ) (i : ℕ) → IsAt ws i w → Gives (numbered n ws) w (n + i)
numbered_gives n [] w i h = cc
numbered_gives n (v ∷ ws) w zero h = (0, let here : n ≡ n + 0 = omega arith in ap Some (ap (λ x. record { name = x; number = n }) (same_some v w h) ∙ ap (λ j. record { name = w; number = j }) here))
numbered_gives n (v ∷ ws) w (suc i) h =
    let r = numbered_gives (suc n) ws w i h in
    let next : suc n + i ≡ n + suc i = omega arith in
    (suc r.0, r.1 ∙ ap (λ j. Some (record { name = w; number = j })) next)

numbered_given : (n : ℕ) (ws : List (List ℕ)) (w : List ℕ) (b : ℕ) → Gives (numbered n ws) w b → (i : ℕ) × IsAt ws i w × (b ≡ n + i)
numbered_given n [] w b (i, h) = cc
numbered_given n (v ∷ ws) w b (zero, h) =
    let same = same_some (record { name = v; number = n }) (record { name = w; number = b }) h in
    (0, ap (λ e. Some e.name) same, let r = ap (λ e. e.number) same in omega (arith, r))
numbered_given n (v ∷ ws) w b (suc i, h) = let r = numbered_given (suc n) ws w b (i, h) in (suc r.0, r.1, let e = r.2 in omega (arith, e))

given_at : (ws : List (List ℕ)) (w : List ℕ) (b : ℕ) → Gives (numbered 0 ws) w b → IsAt ws b w
given_at ws w b h =
    let r = numbered_given 0 ws w b h in
    let same : r.0 ≡ b = let e = r.2 in omega (arith, e) in
    subst (λ i. IsAt ws i w) same r.1

gives_at : (ws : List (List ℕ)) (w : List ℕ) (b : ℕ) → IsAt ws b w → Gives (numbered 0 ws) w b
gives_at ws w b h = let same : 0 + b ≡ b = omega arith in subst (λ j. Gives (numbered 0 ws) w j) same (numbered_gives 0 ws w b h)

module _ (ws : List (List ℕ)) (w : List ℕ) where
  pub one_is_only : (a : ℕ) → sole (numbered 0 ws) w ≡ One a → IsOnlyAt ws a w
  one_is_only a e =
      let t : Tells (numbered 0 ws) w (One a) = subst (Tells (numbered 0 ws) w) e (tells (numbered 0 ws) w) in
      record { here = given_at ws w a t.0; only = λ j h. t.1 j (gives_at ws w j h) }

  pub nothing_is_absent : sole (numbered 0 ws) w ≡ Nothing → ¬ IsAmong ws w
  nothing_is_absent e h =
      let t : Tells (numbered 0 ws) w Nothing = subst (Tells (numbered 0 ws) w) e (tells (numbered 0 ws) w) in
      t h.0 (gives_at ws w h.0 h.1)

  pub only_is_one : (a : ℕ) → IsOnlyAt ws a w → sole (numbered 0 ws) w ≡ One a
  only_is_one a h = by (sole (numbered 0 ws) w) (tells (numbered 0 ws) w)
    where
      by : (s : Sole) → Tells (numbered 0 ws) w s → s ≡ One a
      by Nothing t = absurd (t a (gives_at ws w a h.here))
      by (One b) t = ap One (h.only b (given_at ws w b t.0))
      by (Two b c) t = absurd (t.2 (h.only b (given_at ws w b t.0) ∙ sym (h.only c (given_at ws w c t.1))))

  pub absent_is_nothing : ¬ IsAmong ws w → sole (numbered 0 ws) w ≡ Nothing
  absent_is_nothing h = by (sole (numbered 0 ws) w) (tells (numbered 0 ws) w)
    where
      by : (s : Sole) → Tells (numbered 0 ws) w s → s ≡ Nothing
      by Nothing t = refl
      by (One b) t = absurd (h (b, given_at ws w b t.0))
      by (Two b c) t = absurd (h (b, given_at ws w b t.0))

  pub there_is_among : is_there (sole (numbered 0 ws) w) ≡ true → IsAmong ws w
  there_is_among e = by (sole (numbered 0 ws) w) (tells (numbered 0 ws) w) e
    where
      by : (s : Sole) → Tells (numbered 0 ws) w s → is_there s ≡ true → IsAmong ws w
      by Nothing t e = cc
      by (One b) t e = (b, given_at ws w b t.0)
      by (Two b c) t e = (b, given_at ws w b t.0)

  pub among_is_there : IsAmong ws w → is_there (sole (numbered 0 ws) w) ≡ true
  among_is_there h = by (sole (numbered 0 ws) w) (tells (numbered 0 ws) w)
    where
      by : (s : Sole) → Tells (numbered 0 ws) w s → is_there s ≡ true
      by Nothing t = absurd (t h.0 (gives_at ws w h.0 h.1))
      by (One b) t = refl
      by (Two b c) t = refl

  -- its first place, whatever stands for none
  pub first_at : (d : ℕ) → IsAmong ws w → IsAt ws (first_of (sole (numbered 0 ws) w) d) w
  first_at d h = by (sole (numbered 0 ws) w) (tells (numbered 0 ws) w)
    where
      by : (s : Sole) → Tells (numbered 0 ws) w s → IsAt ws (first_of s d) w
      by Nothing t = absurd (t h.0 (gives_at ws w h.0 h.1))
      by (One b) t = given_at ws w b t.0
      by (Two b c) t = given_at ws w b t.0

  pub first_alike : (d e : ℕ) → IsAmong ws w → first_of (sole (numbered 0 ws) w) d ≡ first_of (sole (numbered 0 ws) w) e
  first_alike d e h = by (sole (numbered 0 ws) w) (tells (numbered 0 ws) w)
    where
      by : (s : Sole) → Tells (numbered 0 ws) w s → first_of s d ≡ first_of s e
      by Nothing t = absurd (t h.0 (gives_at ws w h.0 h.1))
      by (One b) t = refl
      by (Two b c) t = refl

pub leaves_may : (e : Exports) (w : List ℕ) → is_exported e w ≡ true → MayLeave e w
leaves_may all w h = tt
leaves_may (these ss) w h = there_is_among (symbol_names ss) w h

pub may_leave : (e : Exports) (w : List ℕ) → MayLeave e w → is_exported e w ≡ true
may_leave all w h = refl
may_leave (these ss) w h = among_is_there (symbol_names ss) w h

-- ---- Names with one number

pub each_gives : (ws : List (List ℕ)) (w : List ℕ) (n : ℕ) → IsAmong ws w → Gives (each ws n) w n
each_gives [] w n (i, h) = cc
each_gives (v ∷ ws) w n (zero, h) = (0, ap (λ x. Some (record { name = x; number = n })) (same_some v w h))
each_gives (v ∷ ws) w n (suc i, h) = let r = each_gives ws w n (i, h) in (suc r.0, r.1)

pub each_given : (ws : List (List ℕ)) (w : List ℕ) (n b : ℕ) → Gives (each ws n) w b → IsAmong ws w × (b ≡ n)
each_given [] w n b (i, h) = cc
each_given (v ∷ ws) w n b (zero, h) =
    let same = same_some (record { name = v; number = n }) (record { name = w; number = b }) h in
    ((0, ap (λ e. Some e.name) same), sym (ap (λ e. e.number) same))
each_given (v ∷ ws) w n b (suc i, h) = let r = each_given ws w n b (i, h) in ((suc r.0.0, r.0.1), r.1)

-- ---- imports

imports_give : (f : List ℕ → Sole) (n : ℕ) (is : List Import) (w : List ℕ) (j : ℕ) (x : Import) → IsAt is j x → Has x w → Gives (imports_from f n is) w (first_of (f x.from) (n + j))
imports_give f n [] w j x h has = cc
imports_give f n (i ∷ is) w zero x h has =
    let here : n ≡ n + 0 = omega arith in
    subst (λ y. Gives (imports_from f n (i ∷ is)) w (first_of (f y.from) (n + 0))) (same_some i x h)
    (among_left (each (symbol_names i.symbols) (first_of (f i.from) n)) (imports_from f (suc n) is) (record { name = w; number = first_of (f i.from) (n + 0) })
    (subst (λ d. Gives (each (symbol_names i.symbols) (first_of (f i.from) n)) w (first_of (f i.from) d)) here
    (each_gives (symbol_names i.symbols) w (first_of (f i.from) n) (subst (λ y. Has y w) (sym (same_some i x h)) has))))
imports_give f n (i ∷ is) w (suc j) x h has =
    let next : suc n + j ≡ n + suc j = omega arith in
    among_right (each (symbol_names i.symbols) (first_of (f i.from) n)) (imports_from f (suc n) is) (record { name = w; number = first_of (f x.from) (n + suc j) })
    (subst (λ d. Gives (imports_from f (suc n) is) w (first_of (f x.from) d)) next (imports_give f (suc n) is w j x h has))

-- what import j gives
record IsGiven (f : List ℕ → Sole) (n : ℕ) (is : List Import) (w : List ℕ) (b : ℕ) : Type 0 where
  pub place : ℕ
  pub import : Import
  pub at : IsAt is place import
  pub has : Has import w
  pub number : b ≡ first_of (f import.from) (n + place)

imports_given : (f : List ℕ → Sole) (n : ℕ) (is : List Import) (w : List ℕ) (b : ℕ) → Gives (imports_from f n is) w b → IsGiven f n is w b
imports_given f n [] w b (i, h) = cc
imports_given f n (i ∷ is) w b g =
    by (among_either (each (symbol_names i.symbols) (first_of (f i.from) n)) (imports_from f (suc n) is) (record { name = w; number = b }) g) (imports_given f (suc n) is w b)
  where
    by : Gives (each (symbol_names i.symbols) (first_of (f i.from) n)) w b ⊎ Gives (imports_from f (suc n) is) w b
        → (Gives (imports_from f (suc n) is) w b → IsGiven f (suc n) is w b) → IsGiven f n (i ∷ is) w b
    by (inl l) rest =
        let r = each_given (symbol_names i.symbols) w (first_of (f i.from) n) b l in
        let here : n ≡ n + 0 = omega arith in
        record { place = 0; import = i; at = refl; has = r.0; number = r.1 ∙ ap (first_of (f i.from)) here }
    by (inr l) rest =
        let r = rest l in
        let next : suc n + r.place ≡ n + suc r.place = omega arith in
        record { place = suc r.place; import = r.import; at = r.at; has = r.has; number = r.number ∙ ap (first_of (f r.import.from)) next }

-- import a of a module, from which it has a Name
pub record IsSource (m : Module) (w : List ℕ) (a : ℕ) : Type 0 where
  pub import : Import
  pub at : IsAt m.imports a import
  pub from : ImportsFrom m w import.from

module _ (m : Module) (w : List ℕ) where
  pub from_at : (j : ℕ) (x : Import) → IsAt m.imports j x → IsAt (source_names m.imports) j x.from
  from_at j x h = slice_get-map (λ i. i.from) m.imports j ∙ ap (option_map (λ i. i.from)) h

  pub at_from : (j : ℕ) (f : List ℕ) → IsAt (source_names m.imports) j f → (x : Import) × IsAt m.imports j x × (x.from ≡ f)
  at_from j f h = by (slice_get m.imports j) refl (sym (slice_get-map (λ i. i.from) m.imports j) ∙ h)
    where
      by : (o : Option Import) → slice_get m.imports j ≡ o → option_map (λ i. i.from) o ≡ Some f → (x : Import) × IsAt m.imports j x × (x.from ≡ f)
      by None e g = cc
      by (Some x) e g = (x, e, same_some x.from f g)

  -- the place that an import gives is one of an import from the same module
  at_first : (j : ℕ) (x : Import) (d : ℕ) → IsAt m.imports j x → IsAt (source_names m.imports) (first_of (source m.imports x.from) d) x.from
  at_first j x d h = first_at (source_names m.imports) x.from d (j, from_at j x h)

  pub one_is_source : (a : ℕ) → imported m w ≡ One a → IsSource m w a
  one_is_source a e =
      let es = imports_from (source m.imports) 0 m.imports in
      let t : Tells es w (One a) = subst (Tells es w) e (tells es w) in
      let g = imports_given (source m.imports) 0 m.imports w a t.0 in
      let here : IsAt (source_names m.imports) a g.import.from =
      subst (λ b. IsAt (source_names m.imports) b g.import.from) (sym g.number) (at_first g.place g.import (0 + g.place) g.at) in
      let x = at_from a g.import.from here in
      record {
        import = x.0;
        at = x.1;
        from = record {
          some = (g.import, (g.place, g.at), g.has, sym x.2);
          only = λ i among has.
              let b = first_of (source m.imports i.from) (0 + among.0) in
              let same : b ≡ a = t.1 b (imports_give (source m.imports) 0 m.imports w among.0 i among.1 has) in
              let there : IsAt (source_names m.imports) a i.from = subst (λ b. IsAt (source_names m.imports) b i.from) same (at_first among.0 i (0 + among.0) among.1) in
              same_some i.from x.0.from (sym there ∙ here ∙ ap Some (sym x.2));
        };
      }

  pub source_is_one : (f : List ℕ) → ImportsFrom m w f → (a : ℕ) × (x : Import) × (imported m w ≡ One a) × IsAt m.imports a x × (x.from ≡ f)
  source_is_one f h = by (imported m w) refl (tells es w)
    where
      es : List Entry
      es = imports_from (source m.imports) 0 m.imports

      number : (b : ℕ) → Gives es w b → b ≡ first_of (source m.imports f) 0
      number b g =
          let r = imports_given (source m.imports) 0 m.imports w b g in
          let same : r.import.from ≡ f = h.only r.import (r.place, r.at) r.has in
          let among : IsAmong (source_names m.imports) f = subst (IsAmong (source_names m.imports)) same (r.place, from_at r.place r.import r.at) in
          r.number ∙ ap (λ v. first_of (source m.imports v) (0 + r.place)) same ∙ first_alike (source_names m.imports) f (0 + r.place) 0 among

      by : (s : Sole) → imported m w ≡ s → Tells es w s → (a : ℕ) × (x : Import) × (imported m w ≡ One a) × IsAt m.imports a x × (x.from ≡ f)
      by Nothing e t = absurd (t (first_of (source m.imports h.some.0.from) (0 + h.some.1.0)) (imports_give (source m.imports) 0 m.imports w h.some.1.0 h.some.0 h.some.1.1 h.some.2))
      by (One a) e t =
          let s = one_is_source a e in
          (a, s.import, e, s.at, sym (s.from.only h.some.0 h.some.1 h.some.2) ∙ h.some.3)
      by (Two a b) e t = absurd (t.2 (number a t.0 ∙ sym (number b t.1)))
