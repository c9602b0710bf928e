-- Parts that were found, as the calls for C answer them.
use Rattle.std.proofs.Common.{◌≡◌, ◌∙◌, ◌++◌, ℕ, true, false, List, [], ◌∷◌, length, map, take, Option, None, Some, Result, Ok, Err, inl, inr, refl, sym, ap, subst}
use Rattle.std.proofs.Math.Seq.{take-append_seam}
use Rattle.std.specs.declared.ops.Range.{Range}
use Rattle.oer_model.specs.AsnType.{AsnType}
use Rattle.oer_model.specs.Parts.{Step, StopsAt, Within, absent_part, found, no_such_step}
use Rattle.oer_checker.specs.Check.{Tells}
use Rattle.oer_checker.specs.Check.{Finds as Checks}
use Rattle.oer_checker.specs.declared.verdict.Verdict.{Verdict}
use Rattle.oer_parts.specs.Handing.{Begins, Hands}
use Rattle.oer_parts.specs.Offsets.{StandsAt}
use Rattle.oer_parts.specs.Path.{SpellsPath}
use Rattle.oer_parts.specs.Ranges.{Lies, octets_in_range}
use Rattle.oer_parts.specs.declared.fault.PartFault.{PartFault}
use Rattle.oer_parts.specs.declared.fault.PartFault.TheVariants.{Absent, NoSuchStep}
use Rattle.oer_at.specs.Hops.{hops_of}
use Rattle.oer_at.specs.Meaning.{step_behind}
use Rattle.oer_at.specs.Names.{names_in}
use Rattle.oer_at.specs.declared.hop.Hop.{Hop}
use Rattle.oer_c.specs.Buffers.{IsUndone, only_written, wrote}
use Rattle.oer_c.specs.Found.{AreNames, AreSteps, Finds, Puts, place_of}
use Rattle.oer_c.specs.Parts.{BeginsWith, Copies, IsNoPart, IsNoPartByNames, IsPart, IsPartAt, IsPartByNamesAt, Locates, are_words, find_by}
use Rattle.oer_c.specs.declared.buffer.Written.{Written}
use Rattle.oer_c.specs.declared.find.Found.{Found}
use Rattle.oer_c.specs.declared.part_at.Located.{Located}

-- ---- what is answered

-- What was found is put into the buffer.
pub copies : (T : AsnType) (octets : List ℕ) (P : List ℕ → List ℕ → Type 0) (P' : List ℕ → List ℕ → ℕ → Type 0) (Q : Written → Type 0)
    → ((b s : List ℕ) (n : ℕ) → P' b s n → P b s) → (r : Result Found Written) (old new : List ℕ) (a : Written)
    → Finds T octets P' Q r → Puts r old new a → Copies T octets P Q old new a
copies T octets P P' Q less (Ok f) old new a h put =
    inl (f.part.now, f.taken, (h.0, h.1, h.2, h.3, (h.4.0, less h.0 f.part.now f.at h.4.1)), put)
copies T octets P P' Q less (Err e) old new a h put = inr (put.0, subst (λ (w : Written). Q w) (sym put.1) h)

pub undone : (r : Result Found Written) (old new : List ℕ) (a : Written) (status : ℕ) → r ≡ Err (only_written status) → Puts r old new a
    → IsUndone old new a status
undone r old new a status is put =
    let h : Puts (Err (only_written status)) old new a = subst (λ (q : Result Found Written). Puts q old new a) is put in
    (h.1, h.0)

-- It is said where it lies.
locates_found : (T : AsnType) (octets : List ℕ) (P : List ℕ → List ℕ → ℕ → Type 0) (Q : Written → Type 0) (r : Result Found Written)
    → Finds T octets P Q r → Locates T octets P Q (place_of r)
locates_found T octets P Q (Ok f) h = inl (f.part.now, f.taken, f.at, h, refl)
locates_found T octets P Q (Err e) h = inr (e, refl, h)

pub locates : (T : AsnType) (octets : List ℕ) (P : List ℕ → List ℕ → ℕ → Type 0) (Q : Written → Type 0) (r : Result Found Written)
    (a : Located) → a ≡ place_of r → Finds T octets P Q r → Locates T octets P Q a
locates T octets P Q r a is h = subst (λ (l : Located). Locates T octets P Q l) (sym is) (locates_found T octets P Q r h)

-- Where a part stands, the path leads to it.
leads : (T : Option AsnType) (b : List ℕ) (steps : List Step) (U : Option AsnType) (s : List ℕ) (n : ℕ) → StandsAt T b steps U s n
    → Within T b steps U s
leads T b [] U s n h = (h.0, h.1)
leads None b (step ∷ steps) U s n h = h
leads (Some T) b (step ∷ steps) U s n h = (h.0, h.2, h.6, leads h.0 h.2 steps U s h.4 h.9)

pub is_part : (T : AsnType) (path b s : List ℕ) (n : ℕ) → IsPartAt T path b s n → IsPart T path b s
is_part T path b s n h = (h.0, h.1, (h.2.0, leads (Some T) b h.0 h.2.0 s n h.2.1))

-- ---- what is found

-- a path that isn't read
pub unread : (T : AsnType) (octets path : List ℕ) (status : ℕ) → AreSteps path (Err status) → IsNoPart T octets path (only_written status)
unread T octets path status (inl e) = inl (ap only_written e)
unread T octets path status (inr (e, none)) = inr (inl (ap only_written e, none))

-- names that aren't read
pub no_names : (T : AsnType) (octets names : List ℕ) (status : ℕ) → AreNames names (Err status)
    → IsNoPartByNames T octets names (only_written status)
no_names T octets names status (inl e) = inl (ap only_written e)
no_names T octets names status (inr (e, none)) = inr (inl (ap only_written e, none))

-- What holds of a part holds of what was found, which is that.
module _ (T : AsnType) (octets : List ℕ) (P : List ℕ → List ℕ → ℕ → Type 0) (f : Found) (s : List ℕ) (n m : ℕ) where
  pub placed : f.part.now ≡ s → f.at ≡ n → f.taken ≡ m → BeginsWith T octets m (λ b. P b s n)
      → BeginsWith T octets f.taken (λ b. P b f.part.now f.at)
  placed part at taken h =
      let counted = subst (λ (k : ℕ). BeginsWith T octets k (λ b. P b s n)) (sym taken) h in
      let there = subst (λ (k : ℕ). BeginsWith T octets f.taken (λ b. P b s k)) (sym at) counted in
      subst (λ (l : List ℕ). BeginsWith T octets f.taken (λ b. P b l f.at)) (sym part) there

front : (octets b rest : List ℕ) (n : ℕ) → octets ≡ b ++ rest → n ≡ length b → take n octets ≡ b
front octets b rest n split is = rw (split, is) (take-append_seam b rest)

-- What begins the octets has the length that the verdict on them says. The type and the octets are those of the encoding that was found.
module _ (T U : AsnType) (octets xs : List ℕ) (v : Verdict) (type : U ≡ T) (is : xs ≡ octets) (finds : Checks T octets (Ok v)) where
  with_length : (P : AsnType → List ℕ → Type 0) → Begins U xs (P U) → BeginsWith T octets v.octets (P T)
  with_length P h =
      let begins : Begins T octets (P T) = subst (λ (ys : List ℕ). Begins T ys (P T)) is (subst (λ (V : AsnType). Begins V xs (P V)) type h) in
      (begins.0, begins.1, begins.2, begins.3, (finds begins.3.0 begins.0 begins.1 begins.2 begins.3.1, begins.4))

  module _ (path : List ℕ) (steps : List Step) (spelt : SpellsPath path steps) where
    -- a range where the part lies
    pub lies_there : (r : Range ℕ) → Lies U xs steps r
        → BeginsWith T octets v.octets (λ b. IsPartAt T path b (octets_in_range octets r) r.start)
    lies_there r lies =
        let s = octets_in_range xs r in
        let h = with_length (λ W b. (V : Option AsnType) × StandsAt (Some W) b steps V s r.start) lies.2 in
        let stands = subst (λ (ys : List ℕ). StandsAt (Some T) h.0 steps h.4.1.0 (octets_in_range ys r) r.start) is h.4.1.1 in
        (h.0, h.1, h.2, h.3, (h.4.0, (steps, spelt, (h.4.1.0, stands))))

    -- a path that leads nowhere
    pub no_step : {A : Type 0} (f : A → List ℕ) (fault : PartFault) (a : Written) → fault ≡ NoSuchStep → a ≡ wrote 7 v.octets 0
        → Hands f U xs steps (Err fault) → IsNoPart T octets path a
    no_step f fault a is answer told =
        let begins : Begins U xs (λ b. StopsAt (Some U) b steps false) = subst (λ (p : PartFault). Hands f U xs steps (Err p)) is told in
        inr (inr (inr (steps, spelt, inl (v.octets, answer, with_length (λ W b. StopsAt (Some W) b steps false) begins))))

    pub absent : {A : Type 0} (f : A → List ℕ) (fault : PartFault) (a : Written) → fault ≡ Absent → a ≡ wrote 8 v.octets 0
        → Hands f U xs steps (Err fault) → IsNoPart T octets path a
    absent f fault a is answer told =
        let begins : Begins U xs (λ b. StopsAt (Some U) b steps true) = subst (λ (p : PartFault). Hands f U xs steps (Err p)) is told in
        inr (inr (inr (steps, spelt, inr (v.octets, answer, with_length (λ W b. StopsAt (Some W) b steps true) begins))))

-- The same by names, which a text has.
module _ (T : AsnType) (octets xs : List ℕ) (v : Verdict) (is : xs ≡ octets) (told : Tells T octets (Ok v)) (finds : Checks T octets (Ok v))
    (text : List ℕ) (names : List (List ℕ)) (spelt : names ≡ names_in text) (words : are_words (names_in text) ≡ true) where
  -- what holds of the octets of the encoding
  at_front : (P : List ℕ → Type 0) → P (take v.octets xs) → BeginsWith T octets v.octets P
  at_front P h =
      let same = ap (take v.octets) is ∙ front octets told.0 told.1 v.octets told.2 told.3 in
      (told.0, told.1, told.2, told.4, (told.3, subst (λ (b : List ℕ). P b) same h))

  -- a range where the part lies
  pub named_there : (r : Range ℕ)
      → ((V : Option AsnType) × (find_by (hops_of T names) T (take v.octets xs) ≡ found V (octets_in_range xs r)))
      → ((hops : List Hop) × (hops_of T names ≡ Ok hops) × Lies T xs (map step_behind hops) r)
      → BeginsWith T octets v.octets (λ b. IsPartByNamesAt T text b (octets_in_range octets r) r.start)
  named_there r part lies =
      let steps = map step_behind lies.0 in
      let s = octets_in_range xs r in
      let h = with_length T T octets xs v refl is finds (λ W b. (V : Option AsnType) × StandsAt (Some W) b steps V s r.start) lies.2.2 in
      let stands = subst (λ (ys : List ℕ). StandsAt (Some T) h.0 steps h.4.1.0 (octets_in_range ys r) r.start) is h.4.1.1 in
      let same = ap (take v.octets) is ∙ front octets h.0 h.1 v.octets h.2 h.4.0 in
      let here = subst (λ (b : List ℕ). find_by (hops_of T names) T b ≡ found part.0 s) same part.1 in
      let there = subst (λ (ys : List ℕ). find_by (hops_of T names) T h.0 ≡ found part.0 (octets_in_range ys r)) is here in
      let part_there = subst (λ (l : List (List ℕ)). find_by (hops_of T l) T h.0 ≡ found part.0 (octets_in_range octets r)) spelt there in
      let hops = subst (λ (l : List (List ℕ)). hops_of T l ≡ Ok lies.0) spelt lies.1 in
      (h.0, h.1, h.2, h.3, (h.4.0, ((part.0, part_there), (lies.0, hops, (h.4.1.0, stands)))))

  -- names that lead nowhere
  pub no_name : (a : Written) → a ≡ wrote 7 v.octets 0 → find_by (hops_of T names) T (take v.octets xs) ≡ no_such_step
      → IsNoPartByNames T octets text a
  no_name a answer none =
      let h = subst (λ (l : List (List ℕ)). find_by (hops_of T l) T (take v.octets xs) ≡ no_such_step) spelt none in
      inr (inr (words, inr (inl (v.octets, answer, at_front (λ b. find_by (hops_of T (names_in text)) T b ≡ no_such_step) h))))

  pub absent_name : (a : Written) → a ≡ wrote 8 v.octets 0 → find_by (hops_of T names) T (take v.octets xs) ≡ absent_part
      → IsNoPartByNames T octets text a
  absent_name a answer none =
      let h = subst (λ (l : List (List ℕ)). find_by (hops_of T l) T (take v.octets xs) ≡ absent_part) spelt none in
      inr (inr (words, inr (inr (v.octets, answer, at_front (λ b. find_by (hops_of T (names_in text)) T b ≡ absent_part) h))))
