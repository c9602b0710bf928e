-- From what is read and what is written to what the caller of `rewrite` learns.
use Rattle.std.proofs.Common.{◌≡◌, ℕ, ◌+◌, ◌-◌, List, ◌++◌, length, Option, Some, None, Ok, Err, arith, refl, sym, ap, ◌∙◌, subst}
use Rattle.std.specs.Io.KnownBytes.{Appends, Consumes}
use Rattle.oer_units.specs.declared.fault.ReadFault.{ReadFault}
use Rattle.oer_units.specs.Reader.{at, got, Place}
use Rattle.oer_model.specs.AsnType.{AsnType}
use Rattle.oer_model.specs.AsnValue.{AsnValue}
use Rattle.oer_model.specs.Constraints.{KeepsLimits}
use Rattle.oer_model.specs.Encoding.{Encodes}
use Rattle.oer_model.specs.Reading.{read_value}
use Rattle.oer_model.specs.Strict.{IsCanonical}
use Rattle.oer_model.proofs.canonical.Again.{canonical_encodes}
use Rattle.oer_model.proofs.canonical.Canonical.{canon_one}
use Rattle.oer_model.proofs.reading.Theorems.{reads_each}
use Rattle.oer_writer.specs.declared.fault.WriteFault.{WriteFault}
use Rattle.oer_writer.specs.Write.{StopsWriting}
use Rattle.oer_decoder.specs.Front.{IsFound, ReadsAndCounts}
use Rattle.oer_decoder.specs.Rewriting.{BecomesCanonical, IsRefused, IsRewritten, KeepsCanonical, Puts, RewritesWhatComes}
use Rattle.oer_decoder.specs.declared.fault.RewriteFault.TheVariants.{Read, Write}
use Rattle.oer_decoder.proofs.FrontProof.{comes_of, same_front, takes}

pub rewritten : (T : AsnType) → KeepsLimits T → (n failed failed' : ℕ) (known known' : Option (List ℕ)) (v : AsnValue) (m : ℕ) (old new : Option (List ℕ)) (j : ℕ) → ReadsAndCounts (read_value T) n known failed (Ok (v, m)) known' failed' → Puts T v old new j → IsRewritten T n known known' old new (m, j)
rewritten T wf n failed failed' known known' v m old new j h p =
    let all = takes T wf n failed failed' known known' v m h in
    (v, all.0, (all.1, all.2, all.3), all.4, p)

pub stopped : (T : AsnType) → KeepsLimits T → (n failed failed' : ℕ) (known known' : Option (List ℕ)) (v : AsnValue) (m : ℕ) (old new : Option (List ℕ)) (e : WriteFault) → ReadsAndCounts (read_value T) n known failed (Ok (v, m)) known' failed' → StopsWriting T v old e new → IsRefused T n known known' old (Write e) new
stopped T wf n failed failed' known known' v m old new e h p =
    let all = takes T wf n failed failed' known known' v m h in
    (v, all.0, (all.1, all.2, all.3), p)

-- ---- an encoding that comes next

-- it is what was taken, and what follows it is left
next_taken : (T : AsnType) (known known' : Option (List ℕ)) (v w : AsnValue) (b rest t : List ℕ) → known ≡ Some (b ++ rest) → Consumes known known' t → IsFound v rest known' (Ok w) → (known' ≡ Some rest) × (w ≡ v) × (t ≡ b)
next_taken T None known' v w b rest t is c f = absurd cc
next_taken T (Some xs) None v w b rest t is c f = absurd f
next_taken T (Some xs) (Some ys) v w b rest t is c f =
    let whole : xs ≡ b ++ rest = cc in
    let same : t ++ ys ≡ b ++ ys = sym c ∙ whole ∙ ap (λ (l : List ℕ). b ++ l) (sym f.1) in
    (ap (λ (l : List ℕ). Some l) f.1, f.0, same_front t b ys same)

pub comes_written : (T : AsnType) → KeepsLimits T → (n failed failed' : ℕ) (known known' : Option (List ℕ)) (w : AsnValue) (m : ℕ) (old new : Option (List ℕ)) (j : ℕ) → ReadsAndCounts (read_value T) n known failed (Ok (w, m)) known' failed' → Puts T w old new j → RewritesWhatComes T n known known' old new (Ok (m, j))
comes_written T wf n failed failed' known known' w m old new j h p v b rest is s le =
    let all = takes T wf n failed failed' known known' w m h in
    let found = comes_of T wf n failed failed' known known' (Ok (w, m)) h v b rest is s le in
    let here = next_taken T known known' v w b rest all.0 is all.1 found in
    (here.0, all.4 ∙ ap (λ (l : List ℕ). length l) here.2, subst (λ (x : AsnValue). Puts T x old new j) here.1 p)

pub comes_stopped : (T : AsnType) → KeepsLimits T → (n failed failed' : ℕ) (known known' : Option (List ℕ)) (w : AsnValue) (m : ℕ) (old new : Option (List ℕ)) (e : WriteFault) → ReadsAndCounts (read_value T) n known failed (Ok (w, m)) known' failed' → RewritesWhatComes T n known known' old new (Err (Write e))
comes_stopped T wf n failed failed' known known' w m old new e h v b rest is s le =
    let all = takes T wf n failed failed' known known' w m h in
    let found = comes_of T wf n failed failed' known known' (Ok (w, m)) h v b rest is s le in
    (next_taken T known known' v w b rest all.0 is all.1 found).0

not_read : (v : AsnValue) (rest : List ℕ) (known' : Option (List ℕ)) (old new : Option (List ℕ)) (T : AsnType) (b : List ℕ) (e : ReadFault) → IsFound v rest known' (Err e) → BecomesCanonical T v b rest known' old new (Err (Read e))
not_read v rest None old new T b e f = absurd f
not_read v rest (Some ys) old new T b e f = f

pub comes_refused : (T : AsnType) → KeepsLimits T → (n failed failed' : ℕ) (known known' : Option (List ℕ)) (old new : Option (List ℕ)) (e : ReadFault) → ReadsAndCounts (read_value T) n known failed (Err e) known' failed' → RewritesWhatComes T n known known' old new (Err (Read e))
comes_refused T wf n failed failed' known known' old new e h v b rest is s le =
    not_read v rest known' old new T b e (comes_of T wf n failed failed' known known' (Err e) h v b rest is s le)

-- ---- canonical octets

-- two encodings at the front of one input are one
pub one_front : (T : AsnType) → KeepsLimits T → (v w : AsnValue) (b t rest ys : List ℕ) → Encodes T v b → Encodes T w t → b ++ rest ≡ t ++ ys → (v ≡ w) × (rest ≡ ys) × (t ≡ b)
one_front T wf v w b t rest ys s u e =
    let n = length b + length t in
    let first : read_value T (at (b ++ rest) n) ≡ got v (at rest (n - length b)) = reads_each T wf v b rest n s (omega arith) in
    let second : read_value T (at (t ++ ys) n) ≡ got w (at ys (n - length t)) = reads_each T wf w t ys n u (omega arith) in
    let both : got v (at rest (n - length b)) ≡ got w (at ys (n - length t)) = sym first ∙ ap (λ (l : List ℕ). read_value T (at l n)) e ∙ second in
    let value : v ≡ w = cc in
    let place : at rest (n - length b) ≡ at ys (n - length t) = cc in
    let left : rest ≡ ys = ap (λ (p : Place). p.input) place in
    (value, left, same_front t b ys (sym e ∙ ap (λ (l : List ℕ). b ++ l) left))

kept : (T : AsnType) → KeepsLimits T → (known known' : Option (List ℕ)) (w : AsnValue) (t : List ℕ) (m : ℕ) (old new : Option (List ℕ)) (j : ℕ) → Consumes known known' t → Encodes T w t → m ≡ length t → Puts T w old new j → KeepsCanonical T known known' old new (Ok (m, j))
kept T wf None known' w t m old new j c u count p v b rest is canonical = absurd cc
kept T wf (Some xs) None w t m old new j c u count p v b rest is canonical = absurd c
kept T wf (Some xs) (Some ys) w t m old new j c u count p v b rest is canonical =
    let x = canonical_encodes T v b canonical in
    let whole : xs ≡ b ++ rest = cc in
    let one = one_front T wf x.0 w b t rest ys x.1 u (sym whole ∙ c) in
    let mine : IsCanonical T w b = subst (λ (y : AsnValue). IsCanonical T y b) one.0 x.2 in
    let same : p.0 ≡ b = canon_one T w p.0 b p.1 mine in
    let taken : m ≡ length b = count ∙ ap (λ (l : List ℕ). length l) one.2 in
    let written : j ≡ length b = p.2 ∙ ap (λ (l : List ℕ). length l) same in
    (rw (taken, written) refl, ap (λ (l : List ℕ). Some l) (sym one.1), subst (λ (l : List ℕ). Appends old new l) same p.3)

pub stays : (T : AsnType) → KeepsLimits T → (n failed failed' : ℕ) (known known' : Option (List ℕ)) (w : AsnValue) (m : ℕ) (old new : Option (List ℕ)) (j : ℕ) → ReadsAndCounts (read_value T) n known failed (Ok (w, m)) known' failed' → Puts T w old new j → KeepsCanonical T known known' old new (Ok (m, j))
stays T wf n failed failed' known known' w m old new j h p =
    let all = takes T wf n failed failed' known known' w m h in
    kept T wf known known' w all.0 m old new j all.1 all.3 all.4 p
