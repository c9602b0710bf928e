-- The steps and the tags of a way, row by row.
use Rattle.std.proofs.Common.{◌≡◌, ℕ, suc, Bool, true, false, eqb, ◌&&◌, if◌then◌else◌, List, [], ◌∷◌, ◌++◌, map, take, drop, Option, Some, None, option_map, string_bytes, refl, sym, ap, ap₂, subst, ◌∙◌, append_assoc, append-nil}
use Rattle.std.proofs.lemmas.Bool.{eqb-true, eq-eqb}
use Rattle.std.proofs.lemmas.List.{drop-map}
use Rattle.oer_units.specs.declared.tagging.Tag.{Tag}
use Rattle.oer_model.specs.AsnType.{AsnType}
use Rattle.oer_model.specs.Parts as plain
use Rattle.oer_model.specs.Parts.{same_step, to_addition, to_chosen, to_component, to_item}
use Rattle.oer_parts.specs.Walk.{step_of}
use Rattle.oer_parts.specs.declared.step.Step.{Step}
use Rattle.oer_rows.specs.Naming.{starts_with}
use Rattle.oer_rows.specs.Rows.{Line, line}
use Rattle.oer_rows.specs.declared.row.Role.{Role}
use Rattle.oer_rows.specs.declared.row.Role.TheVariants.{Preamble, Bitmap, Quantity, Tag as TagRole, Length, Contents, Unknown}
use Rattle.oer_entries.specs.Entries.{tag_at, tag_by}
use Rattle.oer_entries.specs.Frames.{Seen, fresh, noted}
use Rattle.oer_entries.specs.Known.{Known, part_in, plainly}
use Rattle.oer_entries.specs.Makes.{Stands, Tagged, last_path, path_steps, step_list, taken}
use Rattle.oer_entries.specs.Trails.{AreParts, Follow, IsWay, common, grown, grown_from, inner_of, known_from, last_by, last_type, leads_to}
use Rattle.oer_entries.specs.Trails.{names_in, names_to, parts_of, path_in, path_to, reached, text_to}
use Rattle.oer_entries.specs.Kinds.{kind_text}
use Rattle.oer_entries.specs.Ways.{joined, kind_at, letter_text, names_on, names_text, path_text, pointed, step_text, type_on}
use Rattle.oer_entries.specs.declared.way.Way.{Way}
use Rattle.oer_entries.proofs.Texts.{names_of, steps_of}

same_is : (x y : plain.Step) → same_step x y ≡ true → x ≡ y
same_is (to_component i) (to_component j) e = ap to_component (eqb-true i j e)
same_is (to_addition i) (to_addition j) e = ap to_addition (eqb-true i j e)
same_is (to_item i) (to_item j) e = ap to_item (eqb-true i j e)
same_is to_chosen to_chosen e = refl
same_is _ _ e = absurd (cc)

same_self : (x : plain.Step) → same_step x x ≡ true
same_self (to_component i) = eq-eqb i i refl
same_self (to_addition i) = eq-eqb i i refl
same_self (to_item i) = eq-eqb i i refl
same_self to_chosen = refl

-- ---- the steps of a way that reached a path

grown_steps : (path : List Step) (p n : List ℕ) (f : Seen) → map taken (grown path p n f) ≡ taken f ∷ path_steps (map step_of path)
grown_steps [] p n f = refl
grown_steps (s ∷ path) p n f =
    ap (λ l. taken f ∷ l) (grown_steps path (pointed p ++ step_text s) (pointed n ++ (known_from f s).name) (inner_of f p n s))

step_is : (s : Step) (o : Option Step) → leads_to s o ≡ true → option_map step_of o ≡ Some (step_of s)
step_is s None e = absurd (cc)
step_is s (Some t) e = ap Some (same_is (step_of t) (step_of s) e)

reached_if : (b : Bool) (s : Step) (path : List Step) (p n : List ℕ) (f g : Seen) (gs : List Seen) → leads_to s g.step ≡ b
    → map taken (grown_from (drop (common gs path) path) (path_to p g) (names_to n g) (take (suc (common gs path)) (g ∷ gs))) ≡ taken g ∷ path_steps (map step_of path)
    → map taken (grown_from (drop (if b then suc (common gs path) else 0) (s ∷ path)) p n (take (suc (if b then suc (common gs path) else 0)) (f ∷ g ∷ gs)))
    ≡ taken f ∷ path_steps (map step_of (s ∷ path))
reached_if true s path p n f g gs e h = ap (λ l. taken f ∷ l) (h ∙ ap (λ o. o ∷ path_steps (map step_of path)) (step_is s g.step e))
reached_if false s path p n f g gs e h = grown_steps (s ∷ path) p n f

pub reached_steps : (path : List Step) (p n : List ℕ) (f : Seen) (gs : List Seen)
    → map taken (grown_from (drop (common gs path) path) p n (take (suc (common gs path)) (f ∷ gs))) ≡ taken f ∷ path_steps (map step_of path)
reached_steps path p n f [] = grown_steps path p n f
reached_steps [] p n f (g ∷ gs) = refl
reached_steps (s ∷ path) p n f (g ∷ gs) =
    reached_if (leads_to s g.step) s path p n f g gs refl (reached_steps path (path_to p g) (names_to n g) g gs)

-- ---- paths that begin alike

goes_past : (path xs ys : List plain.Step) → starts_with (path ++ xs) (path ++ ys) ≡ starts_with xs ys
goes_past [] xs ys = refl
goes_past (x ∷ path) xs ys = ap (λ b. b && starts_with (path ++ xs) (path ++ ys)) (same_self x) ∙ goes_past path xs ys

goes_here : (path ys : List plain.Step) → starts_with path (path ++ ys) ≡ true
goes_here [] ys = refl
goes_here (x ∷ path) ys = ap (λ b. b && starts_with path (path ++ ys)) (same_self x) ∙ goes_here path ys

and_no : (a : Bool) → (a && false) ≡ false
and_no true = refl
and_no false = refl

goes_back : (path : List plain.Step) (x : plain.Step) (xs : List plain.Step) → starts_with (path ++ (x ∷ xs)) path ≡ false
goes_back [] x xs = refl
goes_back (y ∷ path) x xs = ap (λ b. same_step y y && b) (goes_back path x xs) ∙ and_no (same_step y y)

-- ---- tags

-- there is no tag past a step of the path
abbrev Nones : (List plain.Step → Option Tag) → List plain.Step → List Step → Type 0
Nones tags front [] = Unit {0}
Nones tags front (s ∷ path) = (q : List plain.Step) → tags (front ++ step_of s ∷ q) ≡ None

nones_on : (tags : List plain.Step → Option Tag) (front : List plain.Step) (s : Step) (path : List Step) → Nones tags front (s ∷ path) → Nones tags (front ++ step_of s ∷ []) path
nones_on tags front s [] h = tt
nones_on tags front s (t ∷ path) h = λ q. ap tags (append_assoc front (step_of s ∷ []) (step_of t ∷ q)) ∙ h (step_of t ∷ q)

grown_tags : (tags : List plain.Step → Option Tag) (front : List plain.Step) (path : List Step) (p n : List ℕ) (f : Seen) → f.tag ≡ tags (front ++ step_list (taken f))
    → Nones tags (front ++ step_list (taken f)) path → Tagged tags front (grown path p n f)
grown_tags tags front [] p n f e none = (e, tt)
grown_tags tags front (s ∷ path) p n f e none = (
  e,
  grown_tags tags (front ++ step_list (taken f)) path (pointed p ++ step_text s) (pointed n ++ (known_from f s).name) (inner_of f p n s) (sym (none [])) (nones_on tags
      (front ++ step_list (taken f)) s path none),
)

pub Beyond : (List plain.Step → Option Tag) → List plain.Step → Type 0
Beyond tags path = (q : List plain.Step) → starts_with q path ≡ false → tags q ≡ None

past_end : (tags : List plain.Step → Option Tag) (front : List plain.Step) (path : List Step) → Beyond tags (front ++ []) → Nones tags front path
unfolding Beyond
past_end tags front [] h = tt
past_end tags front (s ∷ path) h = λ q. h (front ++ step_of s ∷ q) (goes_past front (step_of s ∷ q) [])

other_way : (tags : List plain.Step → Option Tag) (front : List plain.Step) (s : Step) (o : plain.Step) (old : List plain.Step) (path : List Step)
    → same_step (step_of s) o ≡ false → Beyond tags (front ++ o ∷ old) → Nones tags front (s ∷ path)
unfolding Beyond
other_way tags front s o old path e h = λ q. h (front ++ step_of s ∷ q) (goes_past front (step_of s ∷ q) (o ∷ old) ∙ ap (λ b. b && starts_with q old) e)

pub head_is : {A : Type 0} (x y : A) (xs ys : List A) → x ∷ xs ≡ y ∷ ys → x ≡ y
head_is x y xs ys e = ap (first x) e where
  first : {A : Type 0} → A → List A → A
  first d [] = d
  first d (z ∷ zs) = z

pub tail_is : {A : Type 0} (x y : A) (xs ys : List A) → x ∷ xs ≡ y ∷ ys → xs ≡ ys
tail_is x y xs ys e = ap (λ l. drop 1 l) e

some_is : (x y : plain.Step) → ◌≡◌ {A = Option plain.Step} (Some x) (Some y) → x ≡ y
some_is x y e = ap (value_or x) e where
  value_or : plain.Step → Option plain.Step → plain.Step
  value_or d None = d
  value_or d (Some z) = z

equal_if : (b c : Bool) → (b ≡ true → c ≡ true) → (c ≡ true → b ≡ true) → b ≡ c
equal_if true true f g = refl
equal_if true false f g = sym (f refl)
equal_if false true f g = g refl
equal_if false false f g = refl

number_other : (i j : ℕ) → eqb i j ≡ eqb j i
number_other i j = equal_if (eqb i j) (eqb j i) (λ e. eq-eqb j i (sym (eqb-true i j e))) (λ e. eq-eqb i j (sym (eqb-true j i e)))

same_other : (x y : plain.Step) → same_step x y ≡ same_step y x
same_other (to_component i) (to_component j) = number_other i j
same_other (to_addition i) (to_addition j) = number_other i j
same_other (to_item i) (to_item j) = number_other i j
same_other to_chosen to_chosen = refl
same_other (to_component i) (to_addition j) = refl
same_other (to_component i) (to_item j) = refl
same_other (to_component i) to_chosen = refl
same_other (to_addition i) (to_component j) = refl
same_other (to_addition i) (to_item j) = refl
same_other (to_addition i) to_chosen = refl
same_other (to_item i) (to_component j) = refl
same_other (to_item i) (to_addition j) = refl
same_other (to_item i) to_chosen = refl
same_other to_chosen (to_component j) = refl
same_other to_chosen (to_addition j) = refl
same_other to_chosen (to_item j) = refl

leads_other : (s : Step) (step : Option Step) (o : plain.Step) → option_map step_of step ≡ Some o → leads_to s step ≡ false → same_step (step_of s) o ≡ false
leads_other s None o e h = absurd (cc)
leads_other s (Some t) o e h = same_other (step_of s) o ∙ ap (λ x. same_step x (step_of s)) (sym (some_is (step_of t) o e)) ∙ h

reached_if_tags : (b : Bool) (tags : List plain.Step → Option Tag) (front : List plain.Step) (s : Step) (path : List Step) (p n : List ℕ) (f g : Seen) (gs : List Seen)
    → f.tag ≡ tags (front ++ step_list (taken f)) → (b ≡ false → Nones tags (front ++ step_list (taken f)) (s ∷ path))
    → Tagged tags (front ++ step_list (taken f)) (grown_from (drop (common gs path) path) (path_to p g) (names_to n g) (take (suc (common gs path)) (g ∷ gs)))
    → Tagged tags front (grown_from (drop (if b then suc (common gs path) else 0) (s ∷ path)) p n (take (suc (if b then suc (common gs path) else 0)) (f ∷ g ∷ gs)))
reached_if_tags true tags front s path p n f g gs e none more = (e, more)
reached_if_tags false tags front s path p n f g gs e none more = grown_tags tags front (s ∷ path) p n f e (none refl)

pub reached_tags : (tags : List plain.Step → Option Tag) (front : List plain.Step) (path : List Step) (p n : List ℕ) (f : Seen) (gs : List Seen) (old : List plain.Step)
    → Tagged tags front (f ∷ gs) → map taken gs ≡ path_steps old → Beyond tags ((front ++ step_list (taken f)) ++ old)
    → Tagged tags front (grown_from (drop (common gs path) path) p n (take (suc (common gs path)) (f ∷ gs)))
reached_tags tags front path p n f [] [] (e, more) is beyond = grown_tags tags front path p n f e (past_end tags (front ++ step_list (taken f)) path beyond)
reached_tags tags front path p n f [] (o ∷ old) h is beyond = absurd (cc)
reached_tags tags front path p n f (g ∷ gs) [] h is beyond = absurd (cc)
reached_tags tags front [] p n f (g ∷ gs) (o ∷ old) (e, more) is beyond = (e, tt)
reached_tags tags front (s ∷ path) p n f (g ∷ gs) (o ∷ old) (e, more) is beyond =
    let here : taken g ≡ Some o = head_is (taken g) (Some o) (map taken gs) (path_steps old) is in
    let rest : map taken gs ≡ path_steps old = tail_is (taken g) (Some o) (map taken gs) (path_steps old) is in
    let Q = front ++ step_list (taken f) in
    let on : (Q ++ step_list (taken g)) ++ old ≡ Q ++ o ∷ old = ap (λ t. (Q ++ step_list t) ++ old) here ∙ append_assoc Q (o ∷ []) old in
    reached_if_tags (leads_to s g.step) tags front s path p n f g gs e
    (λ off. other_way tags Q s o old path (leads_other s g.step o here off) beyond)
    (reached_tags tags Q path (path_to p g) (names_to n g) g gs old more rest (subst (Beyond tags) (sym on) beyond))

-- ---- the texts of a way

pub path_is : (gs : List Seen) (path : List plain.Step) → map taken gs ≡ path_steps path → steps_of gs ≡ map letter_text path
path_is [] [] is = refl
path_is [] (s ∷ path) is = absurd (cc)
path_is (g ∷ gs) [] is = absurd (cc)
path_is (g ∷ gs) (s ∷ path) is =
    ap₂ (λ (t : List ℕ) (ts : List (List ℕ)). t ∷ ts) (letters g.step s (head_is (taken g) (Some s) (map taken gs) (path_steps path) is))
    (path_is gs path (tail_is (taken g) (Some s) (map taken gs) (path_steps path) is))
  where
    letters : (o : Option Step) (s : plain.Step) → option_map step_of o ≡ Some s → text_to o ≡ letter_text s
    letters None s e = absurd (cc)
    letters (Some t) s e = ap letter_text (some_is (step_of t) s e)

pub names_are : (tags : List plain.Step → Option Tag) (F : List plain.Step) (f : Seen) (gs : List Seen) (path : List plain.Step) (p n : List ℕ)
    → Follow f p n gs → f.tag ≡ tags F → Tagged tags F gs → map taken gs ≡ path_steps path → names_of gs ≡ names_on tags f.is.type F path
names_are tags F f [] [] p n h e t is = refl
names_are tags F f [] (s ∷ path) p n h e t is = absurd (cc)
names_are tags F f (g ∷ gs) [] p n h e t is = absurd (cc)
names_are tags F f (g ∷ gs) (s ∷ path) p n (h, more) e (own, later) is =
    let here : taken g ≡ Some s = head_is (taken g) (Some s) (map taken gs) (path_steps path) is in
    let rest : map taken gs ≡ path_steps path = tail_is (taken g) (Some s) (map taken gs) (path_steps path) is in
    let by : step_of h.by ≡ s = some_is (step_of h.by) s (sym (ap (option_map step_of) h.step) ∙ here) in
    let part : g.is ≡ part_in f.is.type (tags F) s = h.is ∙ ap₂ (part_in f.is.type) e by in
    let on : F ++ step_list (taken g) ≡ F ++ s ∷ [] = ap (λ t. F ++ step_list t) here in
    ap₂ (λ (x : List ℕ) (xs : List (List ℕ)). x ∷ xs) (ap (λ (k : Known). k.name) part)
    (names_are tags (F ++ step_list (taken g)) g gs path (path_to p g) (names_to n g) more own later rest
    ∙ ap₂ (λ (k : Known) (l : List plain.Step). names_on tags k.type l path) part on)

pub type_is : (tags : List plain.Step → Option Tag) (F : List plain.Step) (f : Seen) (gs : List Seen) (path : List plain.Step) (p n : List ℕ)
    → Follow f p n gs → f.tag ≡ tags F → Tagged tags F gs → map taken gs ≡ path_steps path → last_type (f ∷ gs) ≡ type_on tags f.is.type F path
type_is tags F f [] [] p n h e t is = refl
type_is tags F f [] (s ∷ path) p n h e t is = absurd (cc)
type_is tags F f (g ∷ gs) [] p n h e t is = absurd (cc)
type_is tags F f (g ∷ gs) (s ∷ path) p n (h, more) e (own, later) is =
    let here : taken g ≡ Some s = head_is (taken g) (Some s) (map taken gs) (path_steps path) is in
    let rest : map taken gs ≡ path_steps path = tail_is (taken g) (Some s) (map taken gs) (path_steps path) is in
    let by : step_of h.by ≡ s = some_is (step_of h.by) s (sym (ap (option_map step_of) h.step) ∙ here) in
    let part : g.is ≡ part_in f.is.type (tags F) s = h.is ∙ ap₂ (part_in f.is.type) e by in
    let on : F ++ step_list (taken g) ≡ F ++ s ∷ [] = ap (λ t. F ++ step_list t) here in
    type_is tags (F ++ step_list (taken g)) g gs path (path_to p g) (names_to n g) more own later rest
    ∙ ap₂ (λ (k : Known) (l : List plain.Step). type_on tags k.type l path) part on

-- ---- a row is read

after_row : (role : Role) (offset : ℕ) (b : List ℕ) (f : Seen) (t : Option Tag) → f.tag ≡ t → (noted role offset b f).tag ≡ tag_by true role b t
after_row Preamble offset b f t e = e
after_row Bitmap offset b f t e = e
after_row Quantity offset b f t e = e
after_row TagRole offset b f t e = refl
after_row Length offset b f t e = e
after_row Contents offset b f t e = e
after_row Unknown offset b f t e = e

noted_step : (role : Role) (offset : ℕ) (b : List ℕ) (f : Seen) → taken (noted role offset b f) ≡ taken f
noted_step Preamble offset b f = refl
noted_step Bitmap offset b f = refl
noted_step Quantity offset b f = refl
noted_step TagRole offset b f = refl
noted_step Length offset b f = refl
noted_step Contents offset b f = refl
noted_step Unknown offset b f = refl

tag_here : (before : List Line) (offset : ℕ) (path : List plain.Step) (role : Role) (b : List ℕ) → tag_by true role b (tag_at before path) ≡ tag_at (line offset path role b ∷ before) path
tag_here before offset path role b =
    let same : starts_with path path ≡ true = ap (starts_with path) (sym (append-nil path)) ∙ goes_here path [] in
    sym (ap₂ (λ x y. if x then tag_by y role b (tag_at before path) else None) same same)

tag_over : (before : List Line) (offset : ℕ) (q : List plain.Step) (x : plain.Step) (xs : List plain.Step) (role : Role) (b : List ℕ)
    → tag_at before q ≡ tag_at (line offset (q ++ x ∷ xs) role b ∷ before) q
tag_over before offset q x xs role b =
    sym (ap₂ (λ y z. if y then tag_by z role b (tag_at before q) else None) (goes_here q (x ∷ xs)) (goes_back q x xs))

pub noted_tags : (before : List Line) (offset : ℕ) (path : List plain.Step) (role : Role) (b : List ℕ) (front : List plain.Step) (f : Seen) (fs : List Seen) (r : List plain.Step)
    → Tagged (tag_at before) front (f ∷ fs) → map taken fs ≡ path_steps r → path ≡ (front ++ step_list (taken f)) ++ r
    → Tagged (tag_at (line offset path role b ∷ before)) front (last_by (noted role offset b) (f ∷ fs))
noted_tags before offset path role b front f [] [] (e, more) is at =
    let Q = front ++ step_list (taken f) in
    let here : Q ≡ path = sym (at ∙ append-nil Q) in (
      after_row role offset b f (tag_at before path) (e ∙ ap (tag_at before) here) ∙ tag_here before offset path role b
          ∙ ap (tag_at (line offset path role b ∷ before)) (sym (ap (λ t. front ++ step_list t) (noted_step role offset b f) ∙ here)),
      tt,
    )
noted_tags before offset path role b front f [] (s ∷ r) h is at = absurd (cc)
noted_tags before offset path role b front f (g ∷ gs) [] h is at = absurd (cc)
noted_tags before offset path role b front f (g ∷ gs) (s ∷ r) (e, more) is at =
    let Q = front ++ step_list (taken f) in
    let here : taken g ≡ Some s = head_is (taken g) (Some s) (map taken gs) (path_steps r) is in
    let rest : map taken gs ≡ path_steps r = tail_is (taken g) (Some s) (map taken gs) (path_steps r) is in
    let next : path ≡ (Q ++ step_list (taken g)) ++ r = at ∙ sym (append_assoc Q (s ∷ []) r) ∙ ap (λ t. (Q ++ step_list t) ++ r) (sym here) in (
      e ∙ tag_over before offset Q s r role b ∙ ap (λ l. tag_at (line offset l role b ∷ before) Q) (sym at),
      noted_tags before offset path role b Q g gs r more rest next,
    )

taken_last : (role : Role) (offset : ℕ) (b : List ℕ) (fs : List Seen) → map taken (last_by (noted role offset b) fs) ≡ map taken fs
taken_last role offset b [] = refl
taken_last role offset b (f ∷ []) = ap (λ o. o ∷ []) (noted_step role offset b f)
taken_last role offset b (f ∷ g ∷ fs) = ap (λ l. taken f ∷ l) (taken_last role offset b (g ∷ fs))

-- ---- ways

abbrev pub Texts : AsnType → (List plain.Step → Option Tag) → List plain.Step → List Seen → Type 0
Texts T tags path fs = (path_in fs ≡ path_text path) × (names_in fs ≡ names_text T tags path) × (kind_text (last_type fs) ≡ kind_at T tags path)

pub texts_are : (T : AsnType) (tags : List plain.Step → Option Tag) (path : List plain.Step) (fs : List Seen) → AreParts T fs → map taken (drop 1 fs) ≡ path_steps path
    → Tagged tags [] fs → Texts T tags path fs
texts_are T tags path [] h is t = absurd h
texts_are T tags path (f ∷ gs) (whole, more) is (own, later) =
    let here : step_list (taken f) ≡ [] = ap (λ o. step_list (option_map step_of o)) whole.step in
    let tag : f.tag ≡ tags [] = own ∙ ap tags here in
    let tagged : Tagged tags [] gs = subst (λ l. Tagged tags l gs) here later in (
      ap (joined []) (path_is gs path is),
      ap (joined []) (names_are tags [] f gs path [] [] more tag tagged is ∙ ap (λ (k : Known). names_on tags k.type [] path) whole.is),
      ap kind_text (type_is tags [] f gs path [] [] more tag tagged is ∙ ap (λ (k : Known). type_on tags k.type [] path) whole.is),
    )

-- the texts of a way that stands at a path, and the kind of its last part
pub placed : (T : AsnType) (octets : List ℕ) (before : List Line) (path : List plain.Step) (w : Way) → Stands T octets before path w
    → (string_bytes w.path ≡ path_text path) × (string_bytes w.names ≡ names_text T (tag_at before) path)
    × (kind_text (last_type (parts_of w)) ≡ kind_at T (tag_at before) path)
placed T octets before path w h =
    let x = texts_are T (tag_at before) path (parts_of w) h.leads.parts h.steps h.tags in
    (h.leads.path ∙ x.0, h.leads.names ∙ x.1, x.2)

no_tag : (before : List Line) → Beyond (tag_at before) (last_path before)
unfolding Beyond
no_tag [] = λ q e. refl
no_tag (line n at role b ∷ before) = λ q e. ap (λ x. if x then tag_by (starts_with at q) role b (tag_at before q) else None) e

reached_parts : (T : AsnType) (tags : List plain.Step → Option Tag) (old : List plain.Step) (path : List Step) (fs : List Seen) → AreParts T fs
    → map taken (drop 1 fs) ≡ path_steps old → Tagged tags [] fs → Beyond tags old
    → (map taken (drop 1 (reached path fs)) ≡ path_steps (map step_of path)) × Tagged tags [] (reached path fs)
reached_parts T tags old path [] h is t beyond = absurd h
reached_parts T tags old path (f ∷ gs) (whole, more) is t beyond =
    let here : step_list (taken f) ≡ [] = ap (λ o. step_list (option_map step_of o)) whole.step in
    let all = reached_steps path [] [] f gs in (
      sym (drop-map taken 1 (reached path (f ∷ gs))) ∙ ap (λ l. drop 1 l) all,
      reached_tags tags [] path [] [] f gs old t is (subst (λ l. Beyond tags (l ++ old)) (sym here) beyond),
    )

-- a way that goes on to the path of a row
pub reached_stands : (T : AsnType) (octets : List ℕ) (before : List Line) (v w : Way) (path : List Step) → Stands T octets before (last_path before) v → IsWay T w
    → parts_of w ≡ reached path (parts_of v) → w.octets.now ≡ v.octets.now → Stands T octets before (map step_of path) w
reached_stands T octets before v w path h leads parts same =
    let x = reached_parts T (tag_at before) (last_path before) path (parts_of v) h.leads.parts h.steps h.tags (no_tag before) in
    record {
      leads = leads;
      reads = same ∙ h.reads;
      steps = ap (λ fs. map taken (drop 1 fs)) parts ∙ x.0;
      tags = subst (Tagged (tag_at before) []) (sym parts) x.1;
    }

noted_all : (T : AsnType) (before : List Line) (offset : ℕ) (path : List plain.Step) (role : Role) (b : List ℕ) (fs : List Seen) → AreParts T fs → map taken (drop 1 fs) ≡ path_steps path
    → Tagged (tag_at before) [] fs → Tagged (tag_at (line offset path role b ∷ before)) [] (last_by (noted role offset b) fs)
noted_all T before offset path role b [] h is t = absurd h
noted_all T before offset path role b (f ∷ fs) (whole, more) is t =
    let here : step_list (taken f) ≡ [] = ap (λ o. step_list (option_map step_of o)) whole.step in
    noted_tags before offset path role b [] f fs path t is (ap (λ l. l ++ path) (sym here))

-- a way on which a row was noted
pub noted_stands : (T : AsnType) (octets : List ℕ) (before : List Line) (offset : ℕ) (path : List plain.Step) (role : Role) (b : List ℕ) (v w : Way)
    → Stands T octets before path v → IsWay T w
    → parts_of w ≡ last_by (noted role offset b) (parts_of v) → w.octets.now ≡ v.octets.now → Stands T octets (line offset path role b ∷ before) path w
noted_stands T octets before offset path role b v w h leads parts same = record {
  leads = leads;
  reads = same ∙ h.reads;
  steps = ap (λ fs. map taken (drop 1 fs)) parts ∙ sym (drop-map taken 1 (last_by (noted role offset b) (parts_of v)))
      ∙ ap (λ l. drop 1 l) (taken_last role offset b (parts_of v)) ∙ drop-map taken 1 (parts_of v) ∙ h.steps;
  tags = subst (Tagged (tag_at (line offset path role b ∷ before)) []) (sym parts) (noted_all T before offset path role b (parts_of v) h.leads.parts h.steps h.tags);
}

-- the way before any row
pub start_stands : (T : AsnType) (octets : List ℕ) (w : Way) → IsWay T w → parts_of w ≡ fresh None (plainly [] T) 0 0 ∷ [] → w.octets.now ≡ octets → Stands T octets [] [] w
start_stands T octets w leads parts same = record {
  leads = leads;
  reads = same;
  steps = ap (λ fs. map taken (drop 1 fs)) parts;
  tags = subst (Tagged (tag_at []) []) (sym parts) (refl, tt);
}
