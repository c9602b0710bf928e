-- Parts of a way as it is entered, left and gone on.
use Rattle.std.proofs.Common.{◌≡◌, ◌≤◌, ℕ, zero, suc, Bool, true, false, if◌then◌else◌, List, [], ◌∷◌, ◌++◌, length, map, take, drop, Option, Some, refl, sym, ap, ◌∙◌, arith}
use Rattle.oer_model.specs.AsnType.{AsnType}
use Rattle.oer_parts.specs.declared.step.Step.{Step}
use Rattle.oer_rows.specs.declared.row.Role.{Role}
use Rattle.oer_rows.specs.declared.row.Role.TheVariants.{Preamble, Bitmap, Quantity, Tag as TagRole, Length, Contents, Unknown}
use Rattle.oer_entries.specs.Frames.{Seen, noted}
use Rattle.oer_entries.specs.Known.{Known}
use Rattle.oer_entries.specs.Next.{gone, gone_from, gone_on, is_through, next_at, next_in, open_parts, unless_through}
use Rattle.oer_entries.specs.Trails.{AreParts, Follow, Follows, entered, entered_from, grown_from, inner_of, known_from, last_by, names_in, names_to, path_in, path_to, text_to}
use Rattle.oer_entries.specs.Ways.{joined, pointed, step_text}
use Rattle.oer_entries.proofs.Texts.{names_of, steps_of}

-- ---- left

pub follow_take : (f : Seen) (gs : List Seen) (p n : List ℕ) (k : ℕ) → Follow f p n gs → Follow f p n (take k gs)
follow_take f gs p n zero h = tt
follow_take f [] p n (suc k) h = tt
follow_take f (g ∷ gs) p n (suc k) (h, more) = (h, follow_take g gs (path_to p g) (names_to n g) k more)

pub parts_take : (T : AsnType) (fs : List Seen) (k : ℕ) → 1 ≤ k → AreParts T fs → AreParts T (take k fs)
parts_take T fs zero le h = absurd (omega arith)
parts_take T [] (suc k) le h = h
parts_take T (f ∷ fs) (suc k) le (whole, more) = (whole, follow_take f fs [] [] k more)

-- ---- entered

-- parts, the first of which stands where the texts end
abbrev Chain : List ℕ → List ℕ → List Seen → Type 0
Chain p n [] = Unit {0}
Chain p n (f ∷ fs) = Follow f p n fs

with_last : (f g : Seen) (p n : List ℕ) (s : Option Step) → Follows f p n g → Follows f p n (record g { last = s })
with_last f g p n s h = record { by = h.by; step = h.step; is = h.is; path_end = h.path_end; names_end = h.names_end }

inner_follows : (f : Seen) (p n : List ℕ) (s : Step) → Follow (record f { last = Some s }) p n (inner_of f p n s ∷ [])
inner_follows f p n s = (record { by = s; step = refl; is = refl; path_end = refl; names_end = refl }, tt)

chain_entered : (s : Step) (p n : List ℕ) (fs : List Seen) → Chain p n fs → Chain p n (entered_from s p n fs)
chain_entered s p n [] h = tt
chain_entered s p n (f ∷ []) h = inner_follows f p n s
chain_entered s p n (f ∷ g ∷ []) (h, more) = (with_last f g p n (Some s) h, inner_follows g (path_to p g) (names_to n g) s)
chain_entered s p n (f ∷ g ∷ k ∷ gs) (h, more) = (h, chain_entered s (path_to p g) (names_to n g) (g ∷ k ∷ gs) more)

pub parts_entered : (T : AsnType) (s : Step) (fs : List Seen) → AreParts T fs → AreParts T (entered s fs)
parts_entered T s [] h = h
parts_entered T s (f ∷ []) (whole, more) =
    (record { step = whole.step; is = whole.is; path_end = whole.path_end; names_end = whole.names_end }, inner_follows f [] [] s)
parts_entered T s (f ∷ g ∷ gs) (whole, more) = (whole, chain_entered s [] [] (f ∷ g ∷ gs) more)

-- the parts after the whole, and the last of which one is left
abbrev rest_of : List Seen → List Seen
rest_of fs = drop 1 fs

path_snoc_from : (s : Step) (p n : List ℕ) (front : List Seen) (x : Seen) → joined p (steps_of (rest_of (entered_from s p n (front ++ x ∷ []))))
    ≡ pointed (joined p (steps_of (rest_of (front ++ x ∷ [])))) ++ step_text s
path_snoc_from s p n [] x = refl
path_snoc_from s p n (f ∷ []) x = refl
path_snoc_from s p n (f ∷ g ∷ []) x = refl
path_snoc_from s p n (f ∷ g ∷ k ∷ gs) x = path_snoc_from s (path_to p g) (names_to n g) (g ∷ k ∷ gs) x

names_snoc_from : (s : Step) (p n : List ℕ) (front : List Seen) (x : Seen) → joined n (names_of (rest_of (entered_from s p n (front ++ x ∷ []))))
    ≡ pointed (joined n (names_of (rest_of (front ++ x ∷ [])))) ++ (known_from x s).name
names_snoc_from s p n [] x = refl
names_snoc_from s p n (f ∷ []) x = refl
names_snoc_from s p n (f ∷ g ∷ []) x = refl
names_snoc_from s p n (f ∷ g ∷ k ∷ gs) x = names_snoc_from s (path_to p g) (names_to n g) (g ∷ k ∷ gs) x

pub path_snoc : (s : Step) (front : List Seen) (x : Seen) → path_in (entered s (front ++ x ∷ [])) ≡ pointed (path_in (front ++ x ∷ [])) ++ step_text s
path_snoc s front x = path_snoc_from s [] [] front x

pub names_snoc : (s : Step) (front : List Seen) (x : Seen) → names_in (entered s (front ++ x ∷ [])) ≡ pointed (names_in (front ++ x ∷ [])) ++ (known_from x s).name
names_snoc s front x = names_snoc_from s [] [] front x

-- entered at its end
entered_snoc_from : (s : Step) (p n : List ℕ) (front : List Seen) (x : Seen) → entered_from s p n (front ++ x ∷ [])
    ≡ front ++ (record x { last = Some s } ∷ inner_of x (joined p (steps_of (rest_of (front ++ x ∷ [])))) (joined n (names_of (rest_of (front ++ x ∷ [])))) s ∷ [])
entered_snoc_from s p n [] x = refl
entered_snoc_from s p n (f ∷ []) x = refl
entered_snoc_from s p n (f ∷ g ∷ gs) x = ap (λ (l : List Seen). f ∷ l) (entered_snoc_from s (path_to p g) (names_to n g) (g ∷ gs) x)

pub entered_snoc : (s : Step) (front : List Seen) (x : Seen) → entered s (front ++ x ∷ [])
    ≡ front ++ (record x { last = Some s } ∷ inner_of x (path_in (front ++ x ∷ [])) (names_in (front ++ x ∷ [])) s ∷ [])
entered_snoc s front x = entered_snoc_from s [] [] front x

-- ---- grown

grown_none : (p n : List ℕ) (fs : List Seen) → grown_from [] p n fs ≡ fs
grown_none p n [] = refl
grown_none p n (f ∷ []) = refl
grown_none p n (f ∷ g ∷ gs) = ap (λ (l : List Seen). f ∷ l) (grown_none (path_to p g) (names_to n g) (g ∷ gs))

grown_more : (s : Step) (steps : List Step) (p n : List ℕ) (fs : List Seen) → grown_from (s ∷ steps) p n fs ≡ grown_from steps p n (entered_from s p n fs)
grown_more s steps p n [] = refl
grown_more s [] p n (f ∷ []) = refl
grown_more s (t ∷ steps) p n (f ∷ []) = refl
grown_more s steps p n (f ∷ g ∷ []) = ap (λ (l : List Seen). f ∷ l) (grown_more s steps (path_to p g) (names_to n g) (g ∷ []))
grown_more s steps p n (f ∷ g ∷ k ∷ gs) = ap (λ (l : List Seen). f ∷ l) (grown_more s steps (path_to p g) (names_to n g) (g ∷ k ∷ gs))

pub grown_whole : (fs : List Seen) → grown_from [] [] [] fs ≡ fs
grown_whole fs = grown_none [] [] fs

pub grown_step : (s : Step) (steps : List Step) (fs : List Seen) → grown_from (s ∷ steps) [] [] fs ≡ grown_from steps [] [] (entered s fs)
grown_step s steps fs = grown_more s steps [] [] fs

-- ---- gone on

next_snoc : (front : List Seen) (x : Seen) → next_at (front ++ x ∷ []) ≡ next_in x
next_snoc [] x = refl
next_snoc (f ∷ []) x = refl
next_snoc (f ∷ g ∷ gs) x = next_snoc (g ∷ gs) x

unless_none : (read : ℕ) (f x : Seen) (gs : List Seen) → unless_through read f (gs ++ x ∷ []) ≡ f ∷ (gs ++ x ∷ [])
unless_none read f x [] = refl
unless_none read f x (g ∷ gs) = refl

open_snoc : (read : ℕ) (front : List Seen) (x : Seen) → is_through read x ≡ false → open_parts read (front ++ x ∷ []) ≡ front ++ x ∷ []
open_snoc read [] x e = ap (λ (b : Bool). if b then [] else x ∷ []) e
open_snoc read (f ∷ front) x e = ap (unless_through read f) (open_snoc read front x e) ∙ unless_none read f x front

through_snoc : (read : ℕ) (front : List Seen) (x : Seen) → is_through read x ≡ true → open_parts read (front ++ x ∷ []) ≡ open_parts read front
through_snoc read [] x e = ap (λ (b : Bool). if b then [] else x ∷ []) e
through_snoc read (f ∷ front) x e = ap (unless_through read f) (through_snoc read front x e)

gone_snoc : (front : List Seen) (x : Seen) (parts : List Seen) → gone_from (front ++ x ∷ []) parts ≡ gone (next_in x) (front ++ x ∷ [])
gone_snoc [] x parts = refl
gone_snoc (f ∷ front) x parts = ap (λ m. gone m (f ∷ (front ++ x ∷ []))) (next_snoc (f ∷ front) x)

-- the last part isn't through
pub gone_here : (read : ℕ) (front : List Seen) (x : Seen) → is_through read x ≡ false → gone_on read (front ++ x ∷ []) ≡ gone (next_in x) (front ++ x ∷ [])
gone_here read front x e =
    ap (λ (l : List Seen). gone_from l (front ++ x ∷ [])) (open_snoc read front x e) ∙ gone_snoc front x (front ++ x ∷ [])

-- it is, and there are others
gone_less : (fs gs : List Seen) (f x : Seen) → gone_from fs (f ∷ (gs ++ x ∷ [])) ≡ gone_from fs (f ∷ gs)
gone_less [] gs f x = refl
gone_less (h ∷ hs) gs f x = refl

pub gone_back : (read : ℕ) (f : Seen) (front : List Seen) (x : Seen) → is_through read x ≡ true → gone_on read (f ∷ (front ++ x ∷ [])) ≡ gone_on read (f ∷ front)
gone_back read f front x e =
    ap (λ (l : List Seen). gone_from l (f ∷ (front ++ x ∷ []))) (through_snoc read (f ∷ front) x e)
    ∙ gone_less (open_parts read (f ∷ front)) front f x

-- it is, and it is the whole
pub gone_whole : (read : ℕ) (x : Seen) → is_through read x ≡ true → gone_on read (x ∷ []) ≡ x ∷ []
gone_whole read x e = ap (λ (b : Bool). gone_from (if b then [] else x ∷ []) (x ∷ [])) e

-- ---- read

-- a change that leaves a part where it is
pub record Stays (g : Seen → Seen) (f : Seen) : Type 0 where
  pub step : (g f).step ≡ f.step
  pub is : (g f).is ≡ f.is
  pub path_end : (g f).path_end ≡ f.path_end
  pub names_end : (g f).names_end ≡ f.names_end

follows_by : (g : Seen → Seen) (f h : Seen) (p n : List ℕ) → Stays g h → Follows f p n h → Follows f p n (g h)
follows_by g f h p n s x = record {
  by = x.by;
  step = s.step ∙ x.step;
  is = s.is ∙ x.is;
  path_end = s.path_end ∙ x.path_end ∙ ap (λ t. length (pointed p ++ text_to t)) (sym s.step);
  names_end = s.names_end ∙ x.names_end ∙ ap (λ (k : Known). length (pointed n ++ k.name)) (sym s.is);
}

chain_last : (g : Seen → Seen) (p n : List ℕ) (fs : List Seen) → ((f : Seen) → Stays g f) → Chain p n fs → Chain p n (last_by g fs)
chain_last g p n [] s h = tt
chain_last g p n (f ∷ []) s h = tt
chain_last g p n (f ∷ h ∷ []) s (x, more) = (follows_by g f h p n (s h) x, tt)
chain_last g p n (f ∷ h ∷ k ∷ fs) s (x, more) = (x, chain_last g (path_to p h) (names_to n h) (h ∷ k ∷ fs) s more)

pub parts_last : (T : AsnType) (g : Seen → Seen) (fs : List Seen) → ((f : Seen) → Stays g f) → AreParts T fs → AreParts T (last_by g fs)
parts_last T g [] s h = h
parts_last T g (f ∷ []) s (w, more) = let x = s f in
    (record { step = x.step ∙ w.step; is = x.is ∙ w.is; path_end = x.path_end ∙ w.path_end; names_end = x.names_end ∙ w.names_end }, tt)
parts_last T g (f ∷ h ∷ fs) s (w, more) = (w, chain_last g [] [] (f ∷ h ∷ fs) s more)

rest_last : (B : Type 0) (view : Seen → B) (g : Seen → Seen) (fs : List Seen) → ((f : Seen) → view (g f) ≡ view f) → map view (last_by g fs) ≡ map view fs
rest_last B view g [] s = refl
rest_last B view g (f ∷ []) s = ap (λ x. x ∷ []) (s f)
rest_last B view g (f ∷ h ∷ fs) s = ap (λ xs. view f ∷ xs) (rest_last B view g (h ∷ fs) s)

later_last : (B : Type 0) (view : Seen → B) (g : Seen → Seen) (fs : List Seen) → ((f : Seen) → view (g f) ≡ view f) → map view (rest_of (last_by g fs)) ≡ map view (rest_of fs)
later_last B view g [] s = refl
later_last B view g (f ∷ []) s = refl
later_last B view g (f ∷ h ∷ fs) s = rest_last B view g (h ∷ fs) s

pub path_last : (g : Seen → Seen) (fs : List Seen) → ((f : Seen) → Stays g f) → path_in (last_by g fs) ≡ path_in fs
path_last g fs s = ap (joined []) (later_last (List ℕ) (λ (f : Seen). text_to f.step) g fs (λ f. let x = s f in ap text_to x.step))

pub names_last : (g : Seen → Seen) (fs : List Seen) → ((f : Seen) → Stays g f) → names_in (last_by g fs) ≡ names_in fs
names_last g fs s = ap (joined []) (later_last (List ℕ) (λ (f : Seen). f.is.name) g fs (λ f. let x = s f in ap (λ (k : Known). k.name) x.is))

pub last_by_snoc : (g : Seen → Seen) (front : List Seen) (x : Seen) → last_by g (front ++ x ∷ []) ≡ front ++ g x ∷ []
last_by_snoc g [] x = refl
last_by_snoc g (f ∷ []) x = refl
last_by_snoc g (f ∷ h ∷ fs) x = ap (λ (l : List Seen). f ∷ l) (last_by_snoc g (h ∷ fs) x)

pub noted_stays : (role : Role) (offset : ℕ) (b : List ℕ) (f : Seen) → Stays (noted role offset b) f
noted_stays Preamble offset b f = record { step = refl; is = refl; path_end = refl; names_end = refl }
noted_stays Bitmap offset b f = record { step = refl; is = refl; path_end = refl; names_end = refl }
noted_stays Quantity offset b f = record { step = refl; is = refl; path_end = refl; names_end = refl }
noted_stays TagRole offset b f = record { step = refl; is = refl; path_end = refl; names_end = refl }
noted_stays Length offset b f = record { step = refl; is = refl; path_end = refl; names_end = refl }
noted_stays Contents offset b f = record { step = refl; is = refl; path_end = refl; names_end = refl }
noted_stays Unknown offset b f = record { step = refl; is = refl; path_end = refl; names_end = refl }
