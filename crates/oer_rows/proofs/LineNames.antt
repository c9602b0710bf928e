-- Rows name parts: a path that leads to a part has lines, and the path of a line leads to a part.
use Rattle.std.proofs.Common.{◌≡◌, inl, inr, ⊎_elim, ℕ, ◌+◌, Bool, true, false, List, [], ◌∷◌, ◌++◌, length, Option, Some, None, if◌then◌else◌, arith, refl, sym, ap, ◌∙◌, subst, append_assoc, append-nil}
use Rattle.std.proofs.lemmas.List.Elements.{All-contains, All-from_recursion}
use Rattle.oer_model.specs.AsnType.{AsnType, choice, extensible_sequence, leaf, sequence, sequence_of}
use Rattle.oer_model.specs.Parts.{LeadsTo, Part, Step, Within, found, lookup, no_such_step, part, same_step}
use Rattle.oer_model.proofs.paths.Finding.{led_to, same_found}
use Rattle.oer_rows.specs.Lines.{AreLines}
use Rattle.oer_rows.specs.Naming.{ArePart, Names, NamesParts, lines_of_part, octets_of_lines}
use Rattle.oer_rows.specs.Rows.{Line, line}
use Rattle.oer_rows.specs.declared.row.Role.{Role}
use Rattle.oer_rows.specs.declared.row.Role.TheVariants.{Contents, Preamble, Quantity, Tag as TagRole, Unknown}
use Rattle.oer_rows.proofs.Distinct.{Distinct, Fresh, fresh_lookup, split_distinct}
use Rattle.oer_rows.proofs.LineParts.{part_fine}
use Rattle.oer_rows.proofs.LinePaths.{Every, IsIn, IsOut, IsOwn, counted_both, every_both, every_map, front_out, inner_at, next_is, not_longer, other_out, own_out, path_at, picked, same_is, same_self, step_on}
use Rattle.oer_rows.proofs.LineSplits.{Groups, IsOutside, Kept, value_sorted}

other_way : (x y : Step) → same_step x y ≡ false → same_step y x ≡ false
other_way x y e = by (same_step y x) refl
  where
    by : (b : Bool) → same_step y x ≡ b → b ≡ false
    by true is = let same : same_step x x ≡ false = ap (same_step x) (sym (same_is y x is)) ∙ e in sym (same_self x) ∙ same
    by false is = refl

-- ---- a path that leads to a part has its lines

-- among the lines, from n on, those of the part at the path stand together, from m on
abbrev Stands : List Step → Option AsnType → List ℕ → ℕ → List Line → Type 0
Stands path U w n ls = (front : List Line) × (mine : List Line) × (after : List Line) × (m : ℕ) × (ls ≡ front ++ (mine ++ after))
    × (m ≡ n + length (octets_of_lines front)) × ArePart U path m mine w × Every (IsOut path) front × Every (IsOut path) after

outside_out : (path : List Step) (step other : Step) (rest : List Step) (l : Line) → IsOutside path step l → IsOut (path ++ (other ∷ rest)) l
outside_out path step other rest l (inl own) = own_out path other rest l own
outside_out path step other rest l (inr front) = front_out path step other rest l front

-- the lines of a part that another step leads to
others_out : (path : List Step) (step other : Step) (rest : List Step) (V : Option AsnType) (m : ℕ) (mine : List Line) (c : List ℕ) → same_step other step ≡ false → ArePart V (path ++ (step ∷ [])) m mine c → Every (IsOut (path ++ (other ∷ rest))) mine
others_out path step other rest V m mine c e a =
    every_map (IsIn (path ++ (step ∷ []))) (IsOut (path ++ (other ∷ rest))) mine
    (λ l x. (let h = inner_at path step l x in other_out path step other rest h.0 l h.1 e)) (part_fine V (path ++ (step ∷ [])) m mine c a).1

groups_out : (path : List Step) (n : ℕ) (parts : List Part) (ls : List Line) (other : Step) (rest : List Step) → Groups path n parts ls → Fresh other parts → Every (IsOut (path ++ (other ∷ rest))) ls
groups_out path n [] ls other rest g h = every_map (IsOwn path) (IsOut (path ++ (other ∷ rest))) ls (own_out path other rest) g
groups_out path n (part step V c ∷ parts) ls other rest (front, mine, after, m, e, f, is, k, a, g) h =
    subst (Every (IsOut (path ++ (other ∷ rest)))) (sym e)
    (every_both (IsOut (path ++ (other ∷ rest))) front (mine ++ after) (every_map (IsOutside path step) (IsOut (path ++ (other ∷ rest))) front (outside_out path step other rest) f)
    (every_both (IsOut (path ++ (other ∷ rest))) mine after (others_out path step other rest V m mine c (other_way step other h.0) a) (groups_out path (m + length c) parts after other rest g h.1)))

find_group : (path : List Step) (n : ℕ) (parts : List Part) (ls : List Line) (step : Step) (V : Option AsnType) (c : List ℕ) → Groups path n parts ls → Distinct parts → lookup no_such_step step parts ≡ found V c → (rest : List Step) (U : Option AsnType) (w : List ℕ)
    → ((m : ℕ) (mine : List Line) → Kept V → ArePart V (path ++ (step ∷ [])) m mine c → Stands (path ++ (step ∷ rest)) U w m mine) → Stands (path ++ (step ∷ rest)) U w n ls
find_group path n [] ls step V c g h look rest U w next = absurd (cc)
find_group path n (part t W x ∷ parts) ls step V c (front, mine, after, m, e, f, is, k, a, g) (fresh, h) look rest U w next =
    by (same_step t step) refl (λ later. find_group path (m + length x) parts after step V c g h later rest U w next)
  where
    q : List Step
    q = path ++ (step ∷ rest)

    outer : Every (IsOut q) front
    outer = every_map (IsOutside path t) (IsOut q) front (outside_out path t step rest) f

    here : t ≡ step → found W x ≡ found V c → Stands q U w n ls
    here is_it same =
        let both = same_found W V x c same in
        let (f2, mine2, a2, m2, e2, is2, b, o, p) = next m mine (subst Kept both.0 k) (subst (λ s. ArePart V (path ++ (s ∷ [])) m mine c) is_it (subst (λ u. ArePart V (path ++ (t ∷ [])) m mine u) both.1 (subst (λ u. ArePart u (path ++ (t ∷ [])) m mine x) both.0 a))) in (
          front ++ f2,
          mine2,
          a2 ++ after,
          m2,
          e ∙ ap (λ (l : List Line). front ++ (l ++ after)) e2 ∙ ap (λ (l : List Line). front ++ l) (append_assoc f2 (mine2 ++ a2) after ∙ ap (λ (l : List Line). f2 ++ l) (append_assoc mine2 a2 after)) ∙ sym (append_assoc front f2 (mine2 ++ (a2 ++ after))),
          omega (arith, is, is2, counted_both front f2),
          b,
          every_both (IsOut q) front f2 outer o,
          every_both (IsOut q) a2 after p (groups_out path (m + length x) parts after step rest g (subst (λ s. Fresh s parts) is_it fresh)),
        )

    beyond : same_step t step ≡ false → Stands q U w (m + length x) after → Stands q U w n ls
    beyond other (f2, mine2, a2, m2, e2, is2, b, o, p) = (
      front ++ (mine ++ f2),
      mine2,
      a2,
      m2,
      e ∙ ap (λ (l : List Line). front ++ (mine ++ l)) e2 ∙ ap (λ (l : List Line). front ++ l) (sym (append_assoc mine f2 (mine2 ++ a2))) ∙ sym (append_assoc front (mine ++ f2) (mine2 ++ a2)),
      omega (arith, is, is2, counted_both front (mine ++ f2), counted_both mine f2, ap length (part_fine W (path ++ (t ∷ [])) m mine x a).0),
      b,
      every_both (IsOut q) front (mine ++ f2) outer (every_both (IsOut q) mine f2 (others_out path t step rest W m mine x (other_way t step other) a) o),
      p,
    )

    by : (b : Bool) → same_step t step ≡ b → (lookup no_such_step step parts ≡ found V c → Stands q U w (m + length x) after) → Stands q U w n ls
    by true it onward = here (same_is t step it) (sym (ap (λ (b : Bool). if b then found W x else lookup no_such_step step parts) it) ∙ look)
    by false it onward = beyond it (onward (sym (ap (λ (b : Bool). if b then found W x else lookup no_such_step step parts) it) ∙ look))

names_at : (rest : List Step) (V : Option AsnType) (path : List Step) (n : ℕ) (ls : List Line) (b : List ℕ) → Kept V → ArePart V path n ls b → (U : Option AsnType) (w : List ℕ) → Within V b rest U w → Stands (path ++ rest) U w n ls
names_at [] V path n ls b k a U w (u, e) =
    ([], ls, [], n, sym (append-nil ls), omega arith, subst (λ (p : List Step). ArePart U p n ls w) (sym (append-nil path)) (subst (λ (W : Option AsnType). ArePart W path n ls w) (sym u) (subst (λ (x : List ℕ). ArePart V path n ls x) (sym e) a)), tt, tt)
names_at (step ∷ rest) None path n ls b k a U w within = absurd within
names_at (step ∷ rest) (Some T) path n ls b (wf, d) a U w (V, c, leads, within) =
    let (v, parts, s, q, g) = value_sorted T wf d path n ls b a in
    find_group path n parts ls step V c g (split_distinct T parts b q) (led_to T wf d b parts q step V c leads) rest U w
    (λ m mine k x. subst (λ (p : List Step). Stands p U w m mine) (step_on path step rest) (names_at rest V (path ++ (step ∷ [])) m mine c k x U w within))

abbrev First : List Step → ℕ → List Line → Type 0
First path n ls = (role : Role) × (c : List ℕ) × (more : List Line) × (ls ≡ line n path role c ∷ more)

value_first : (T : AsnType) (path : List Step) (n : ℕ) (ls : List Line) (b : List ℕ) → AreLines T path n ls b → First path n ls
value_first (sequence fs) path n ls b (x, c, d, ms, e, is, s, r) = (Preamble, c, ms, is)
value_first (extensible_sequence fs more) path n ls b (x, c, d, ms, e, is, s, r) = (Preamble, c, ms, is)
value_first (sequence_of size T) path n ls b (x, c, d, ms, e, is, s, r) = (Quantity, c, ms, is)
value_first (choice extensible more) path n ls b (x, c, d, ms, e, is, s, r) = (TagRole, c, ms, is)
value_first (leaf kind) path n ls b (is, s) = (Contents, b, [], is)

part_first : (V : Option AsnType) (path : List Step) (n : ℕ) (ls : List Line) (b : List ℕ) → ArePart V path n ls b → First path n ls
part_first None path n ls b is = (Unknown, b, [], is)
part_first (Some T) path n ls b a = value_first T path n ls b a

named : (path : List Step) (U : Option AsnType) (w : List ℕ) (ls : List Line) → Stands path U w 0 ls → Names ls path U w
named path U w ls (front, mine, after, m, e, is, a, f, p) =
    let fine = part_fine U path m mine w a in
    let same : lines_of_part path ls ≡ mine = ap (lines_of_part path) e ∙ picked path front mine after f fine.1 p in
    let at : m ≡ length (octets_of_lines front) = omega (arith, is) in
    let (role, c, more, first) = part_first U path m mine w a in (
      front,
      after,
      role,
      c,
      more,
      e ∙ ap (λ (l : List Line). front ++ (l ++ after)) (sym same),
      ap octets_of_lines same ∙ fine.0,
      same ∙ first ∙ ap (λ (i : ℕ). line i path role c ∷ more) at,
      subst (λ (i : ℕ). ArePart U path i (lines_of_part path ls) w) at (subst (λ (l : List Line). ArePart U path m l w) (sym same) a),
    )

-- ---- the path of a line leads to a part

abbrev Somewhere : Option AsnType → List ℕ → List Step → Type 0
Somewhere V b path = (U : Option AsnType) × (w : List ℕ) × Within V b path U w

-- if the rest is where the line's path goes on, it leads to a part
abbrev Leads : Option AsnType → List ℕ → List Step → List Step → Line → Type 0
Leads V b path rest l = path_at l ≡ path ++ rest → Somewhere V b rest

every_of : {A : Type 0} (P : A → Type 0) (xs : List A) → ((x : A) → P x) → Every P xs
every_of P [] f = tt
every_of P (x ∷ xs) f = (f x, every_of P xs f)

own_leads : (V : Option AsnType) (b : List ℕ) (path : List Step) (step : Step) (rest : List Step) (l : Line) → IsOwn path l → Leads V b path (step ∷ rest) l
own_leads V b path step rest l own e = absurd (not_longer path step rest (sym own.0 ∙ e))

at_end : (T : AsnType) (b : List ℕ) (step : Step) (rest : List Step) (V : Option AsnType) (c : List ℕ) → [] ≡ rest → LeadsTo T b step V c → Somewhere (Some T) b (step ∷ rest)
at_end T b step [] V c e leads = (V, c, (V, c, leads, (refl, refl)))
at_end T b step (x ∷ rest) V c e leads = absurd (cc)

differs : (x y : Step) → same_step x y ≡ false → x ≡ y → ⊥
differs x y e is = let no : true ≡ false = sym (same_self x) ∙ ap (same_step x) is ∙ e in cc

groups_lead : (T : AsnType) (b : List ℕ) (path : List Step) (step : Step) (rest : List Step) (n : ℕ) (parts : List Part) (ls : List Line) → Groups path n parts ls → Distinct parts → ((V : Option AsnType) (c : List ℕ) → lookup no_such_step step parts ≡ found V c → LeadsTo T b step V c)
    → ((V : Option AsnType) (c : List ℕ) (m : ℕ) (mine : List Line) → Kept V → ArePart V (path ++ (step ∷ [])) m mine c → Every (Leads V c (path ++ (step ∷ [])) rest) mine) → Every (Leads (Some T) b path (step ∷ rest)) ls
groups_lead T b path step rest n [] ls g h lead next = every_map (IsOwn path) (Leads (Some T) b path (step ∷ rest)) ls (own_leads (Some T) b path step rest) g
groups_lead T b path step rest n (part t W x ∷ parts) ls (front, mine, after, m, e, f, is, k, a, g) (fresh, h) lead next =
    subst (Every P) (sym e) (by (same_step t step) refl (λ more. groups_lead T b path step rest (m + length x) parts after g h more next))
  where
    P : Line → Type 0
    P l = Leads (Some T) b path (step ∷ rest) l

    here : same_step t step ≡ true → Every P (front ++ mine)
    here it =
        let is_it = same_is t step it in
        let leads = lead W x (ap (λ (b : Bool). if b then found W x else lookup no_such_step step parts) it) in
        every_both P front mine
        (every_map (IsOutside path t) P front (λ l. ⊎_elim (own_leads (Some T) b path step rest l) (λ at goes. at_end T b step rest W x (next_is path t step [] rest (sym at.0 ∙ goes)).1 leads)) f)
        (every_map (Leads W x (path ++ (step ∷ [])) rest) P mine (λ l inner goes. (let (U, w, within) = inner (goes ∙ sym (step_on path step rest)) in (U, w, (W, x, leads, within))))
        (next W x m mine k (subst (λ (s : Step). ArePart W (path ++ (s ∷ [])) m mine x) is_it a)))

    beyond : same_step t step ≡ false → Every P (front ++ mine)
    beyond it =
        every_both P front mine
        (every_map (IsOutside path t) P front (λ l. ⊎_elim (own_leads (Some T) b path step rest l) (λ at goes. absurd (differs t step it (next_is path t step [] rest (sym at.0 ∙ goes)).0))) f)
        (every_map (IsIn (path ++ (t ∷ []))) P mine (λ l inner goes. (let r = inner_at path t l inner in absurd (differs t step it (next_is path t step r.0 rest (sym r.1 ∙ goes)).0))) (part_fine W (path ++ (t ∷ [])) m mine x a).1)

    joined : Every P (front ++ mine) → Every P after → Every P (front ++ (mine ++ after))
    joined p q = subst (Every P) (append_assoc front mine after) (every_both P (front ++ mine) after p q)

    missed : t ≡ step → (V : Option AsnType) (c : List ℕ) → lookup no_such_step step parts ≡ found V c → ⊥
    missed is_it V c look = let no : no_such_step ≡ found V c = sym (fresh_lookup no_such_step step parts (subst (λ (s : Step). Fresh s parts) is_it fresh)) ∙ look in cc

    by : (b' : Bool) → same_step t step ≡ b' → (((V : Option AsnType) (c : List ℕ) → lookup no_such_step step parts ≡ found V c → LeadsTo T b step V c) → Every P after) → Every P (front ++ (mine ++ after))
    by true it onward = joined (here it) (onward (λ V c look. absurd (missed (same_is t step it) V c look)))
    by false it onward = joined (beyond it) (onward (λ V c look. lead V c (ap (λ (b : Bool). if b then found W x else lookup no_such_step step parts) it ∙ look)))

leads_at : (rest : List Step) (V : Option AsnType) (path : List Step) (n : ℕ) (ls : List Line) (b : List ℕ) → Kept V → ArePart V path n ls b → Every (Leads V b path rest) ls
leads_at [] V path n ls b k a = every_of (Leads V b path []) ls (λ l e. (V, b, (refl, refl)))
leads_at (step ∷ rest) None path n ls b k a = subst (Every (Leads None b path (step ∷ rest))) (sym a) ((λ e. absurd (not_longer path step rest e)), tt)
leads_at (step ∷ rest) (Some T) path n ls b (wf, d) a =
    let (v, parts, s, q, g) = value_sorted T wf d path n ls b a in
    groups_lead T b path step rest n parts ls g (split_distinct T parts b q) (λ V c look. (parts, q, look)) (λ V c m mine k x. leads_at rest V (path ++ (step ∷ [])) m mine c k x)

pub naming_parts : NamesParts
naming_parts T wf d ls b h = (
  (let s = value_sorted T wf d [] 0 ls b h in (s.0, s.2)),
  (λ path U w within. named path U w ls (names_at path (Some T) [] 0 ls b (wf, d) h U w within)),
  (λ n path role c at. All-contains (Leads (Some T) b [] path) ls (line n path role c) (All-from_recursion (Leads (Some T) b [] path) ls (leads_at path (Some T) [] 0 ls b (wf, d) h)) at refl),
)
