-- What is spelt in base64 is read.
use Rattle.std.proofs.Common.{◌≡◌, ℕ, suc, ◌+◌, ◌*◌, ◌/◌, ◌%◌, ◌<◌, List, [], ◌∷◌, ◌++◌, Bool, true, false, cond, Some, Ok, inl, inr, refl, sym, ap, ◌∙◌, append_assoc, arith}
use Rattle.std.proofs.lemmas.List.{append-nil}
use Rattle.oer_input.specs.Base64.{MayBe, SpellsBase64, base64_from, base64_of, by_step, ended, is_space, nothing_left, one_octet, padding_at, sextet_at, sextet_of, step_at, three_octets, two_octets, without_space}
use Rattle.oer_input.specs.Faults.{Read}
use Rattle.oer_input.specs.declared.group.Next.{Next}
use Rattle.oer_input.specs.declared.group.Next.TheVariants as expects
use Rattle.oer_input.specs.declared.group.Step.{Step}
use Rattle.oer_input.specs.declared.group.Step.TheVariants as does
use Rattle.oer_input.proofs.Characters.{sextet_below, sextet_no_padding, sextet_no_space}

abbrev okay : List ℕ → Read
okay os = Ok os

space_step : (s : Next) (n c : ℕ) → is_space c ≡ true → step_at s n c ≡ does.To s
unfolding step_at
space_step s n c e = rw e refl

sextet_step : (s : Next) (n p k : ℕ) → sextet_of p ≡ Some k → step_at s n p ≡ sextet_at s n k
unfolding step_at
sextet_step s n p k e = rw (sextet_no_space p k e, sextet_no_padding p k e, e) refl

padding_step : (s : Next) (n : ℕ) → step_at s n 61 ≡ padding_at s n
unfolding step_at
padding_step s n = refl

-- White space is passed over, up to this character and what follows it.
abbrev Comes : List ℕ → ℕ → List ℕ → ℕ → Next → List ℕ → Type 0
Comes t p ps n s done = (rest : List ℕ) × (m : ℕ) × (without_space rest ≡ ps) × (base64_from t n s done ≡ by_step (step_at s m p) (base64_from rest (suc m)) done)

comes_by : (b : Bool) (c : ℕ) (cs : List ℕ) (p : ℕ) (ps : List ℕ) (n : ℕ) (s : Next) (done : List ℕ) → is_space c ≡ b
    → cond b (without_space cs) (c ∷ without_space cs) ≡ p ∷ ps → (without_space cs ≡ p ∷ ps → Comes cs p ps (suc n) s done) → Comes (c ∷ cs) p ps n s done
comes_by true c cs p ps n s done e h more =
    let r = more h in (r.0, r.1, r.2, ap (λ (x : Step). by_step x (base64_from cs (suc n)) done) (space_step s n c e) ∙ r.3)
comes_by false c cs p ps n s done e h more =
    let is : c ≡ p = cc in
    let left : without_space cs ≡ ps = cc in
    (cs, n, left, ap (λ x. by_step (step_at s n x) (base64_from cs (suc n)) done) is)

comes : (t : List ℕ) (p : ℕ) (ps : List ℕ) (n : ℕ) (s : Next) (done : List ℕ) → without_space t ≡ p ∷ ps → Comes t p ps n s done
comes [] p ps n s done e = absurd (cc)
comes (c ∷ cs) p ps n s done e = comes_by (is_space c) c cs p ps n s done refl e (λ f. comes cs p ps (suc n) s done f)

ends_by : (b : Bool) (c : ℕ) (cs : List ℕ) (n : ℕ) (s : Next) (done : List ℕ) → is_space c ≡ b → cond b (without_space cs) (c ∷ without_space cs) ≡ []
    → (without_space cs ≡ [] → (m : ℕ) × (base64_from cs (suc n) s done ≡ ended s m done)) → (m : ℕ) × (base64_from (c ∷ cs) n s done ≡ ended s m done)
ends_by true c cs n s done e h more =
    let r = more h in (r.0, ap (λ (x : Step). by_step x (base64_from cs (suc n)) done) (space_step s n c e) ∙ r.1)
ends_by false c cs n s done e h more = absurd (cc)

ends : (t : List ℕ) (n : ℕ) (s : Next) (done : List ℕ) → without_space t ≡ [] → (m : ℕ) × (base64_from t n s done ≡ ended s m done)
ends [] n s done e = (n, refl)
ends (c ∷ cs) n s done e = ends_by (is_space c) c cs n s done refl e (λ f. ends cs (suc n) s done f)

-- the same at a character of the alphabet
abbrev Goes : List ℕ → ℕ → List ℕ → ℕ → Next → List ℕ → Type 0
Goes t k ps n s done = (rest : List ℕ) × (m : ℕ) × (without_space rest ≡ ps) × (base64_from t n s done ≡ by_step (sextet_at s m k) (base64_from rest (suc m)) done)

goes : (t : List ℕ) (p k : ℕ) (ps : List ℕ) (n : ℕ) (s : Next) (done : List ℕ) → without_space t ≡ p ∷ ps → sextet_of p ≡ Some k → Goes t k ps n s done
goes t p k ps n s done e f =
    let r = comes t p ps n s done e in
    (r.0, r.1, r.2, r.3 ∙ ap (λ (x : Step). by_step x (base64_from r.0 (suc r.1)) done) (sextet_step s r.1 p k f))

-- at a `=`
padded : (t ps : List ℕ) (n : ℕ) (s to : Next) (done : List ℕ) → without_space t ≡ 61 ∷ ps → ((m : ℕ) → padding_at s m ≡ does.To to)
    → (rest : List ℕ) × (m : ℕ) × (without_space rest ≡ ps) × (base64_from t n s done ≡ base64_from rest (suc m) to done)
padded t ps n s to done e f =
    let r = comes t 61 ps n s done e in
    (r.0, r.1, r.2, r.3 ∙ ap (λ (x : Step). by_step x (base64_from r.0 (suc r.1)) done) (padding_step s r.1 ∙ f r.1))

-- ---- the end of the last group

fourth_done : (left last n : ℕ) (done : List ℕ) → left ≡ 0 → ended (expects.Fourth left last) n done ≡ okay done
fourth_done left last n done e = rw e refl

third_done : (left last n : ℕ) (done : List ℕ) → left ≡ 0 → ended (expects.Third left last) n done ≡ okay done
third_done left last n done e = rw e refl

fourth_padding : (left last n : ℕ) → left ≡ 0 → padding_at (expects.Fourth left last) n ≡ does.To expects.End
fourth_padding left last n e = rw e refl

third_padding : (left last n : ℕ) → left ≡ 0 → padding_at (expects.Third left last) n ≡ does.To expects.Padding
third_padding left last n e = rw e refl

fourth_ends : (t cs : List ℕ) (n left last : ℕ) (done : List ℕ) → without_space t ≡ cs → left ≡ 0 → MayBe (61 ∷ []) cs
    → base64_from t n (expects.Fourth left last) done ≡ okay done
fourth_ends t cs n left last done e none (inl f) =
    let r = ends t n (expects.Fourth left last) done (e ∙ f) in r.1 ∙ fourth_done left last r.0 done none
fourth_ends t cs n left last done e none (inr f) =
    let r = padded t [] n (expects.Fourth left last) expects.End done (e ∙ f) (λ m. fourth_padding left last m none) in
    let q = ends r.0 (suc r.1) expects.End done r.2 in r.3 ∙ q.1

third_ends : (t cs : List ℕ) (n left last : ℕ) (done : List ℕ) → without_space t ≡ cs → left ≡ 0 → MayBe (61 ∷ 61 ∷ []) cs
    → base64_from t n (expects.Third left last) done ≡ okay done
third_ends t cs n left last done e none (inl f) =
    let r = ends t n (expects.Third left last) done (e ∙ f) in r.1 ∙ third_done left last r.0 done none
third_ends t cs n left last done e none (inr f) =
    let r = padded t (61 ∷ []) n (expects.Third left last) expects.Padding done (e ∙ f) (λ m. third_padding left last m none) in
    let q = padded r.0 [] (suc r.1) expects.Padding expects.End done r.2 (λ m. refl) in
    let z = ends q.0 (suc q.1) expects.End done q.2 in r.3 ∙ q.3 ∙ z.1

-- ---- what the bits say of the octets

first_of_three : (k l m n a b c : ℕ) → k < 64 → l < 64 → m < 64 → n < 64 → a < 256 → b < 256 → c < 256
    → ((k * 64 + l) * 64 + m) * 64 + n ≡ (a * 256 + b) * 256 + c → k * 4 + l / 16 ≡ a
first_of_three k l m n a b c h1 h2 h3 h4 h5 h6 h7 e = omega arith

second_of_three : (k l m n a b c : ℕ) → k < 64 → l < 64 → m < 64 → n < 64 → a < 256 → b < 256 → c < 256
    → ((k * 64 + l) * 64 + m) * 64 + n ≡ (a * 256 + b) * 256 + c → l % 16 * 16 + m / 4 ≡ b
second_of_three k l m n a b c h1 h2 h3 h4 h5 h6 h7 e = omega arith

third_of_three : (k l m n a b c : ℕ) → k < 64 → l < 64 → m < 64 → n < 64 → a < 256 → b < 256 → c < 256
    → ((k * 64 + l) * 64 + m) * 64 + n ≡ (a * 256 + b) * 256 + c → m % 4 * 64 + n ≡ c
third_of_three k l m n a b c h1 h2 h3 h4 h5 h6 h7 e = omega arith

grouped : (done os : List ℕ) (a b c : ℕ) → ((done ++ a ∷ []) ++ b ∷ []) ++ c ∷ [] ++ os ≡ done ++ a ∷ b ∷ c ∷ os
grouped done os a b c = simp append_assoc

-- ---- what is spelt is read

one_read : (t : List ℕ) (p q k l a : ℕ) (cs : List ℕ) (n : ℕ) (done : List ℕ) → without_space t ≡ p ∷ q ∷ cs → sextet_of p ≡ Some k → sextet_of q ≡ Some l
    → a < 256 → k * 64 + l ≡ a * 16 → MayBe (61 ∷ 61 ∷ []) cs → base64_from t n expects.First done ≡ okay (done ++ a ∷ [])
one_read t p q k l a cs n done e f g octet bits pad =
    let kb = sextet_below p k f in let lb = sextet_below q l g in
    let r = goes t p k (q ∷ cs) n expects.First done e f in
    let s = goes r.0 q l cs (suc r.1) (expects.Second k) done r.2 g in
    let is : k * 4 + l / 16 ≡ a = omega arith in
    let none : l % 16 ≡ 0 = omega arith in
    r.3 ∙ s.3 ∙ third_ends s.0 cs (suc s.1) (l % 16) s.1 (done ++ (k * 4 + l / 16) ∷ []) s.2 none pad ∙ ap (λ x. okay (done ++ x ∷ [])) is

two_read : (t : List ℕ) (p q r k l m a b : ℕ) (cs : List ℕ) (n : ℕ) (done : List ℕ) → without_space t ≡ p ∷ q ∷ r ∷ cs
    → sextet_of p ≡ Some k → sextet_of q ≡ Some l → sextet_of r ≡ Some m → a < 256 → b < 256 → (k * 64 + l) * 64 + m ≡ (a * 256 + b) * 4
    → MayBe (61 ∷ []) cs → base64_from t n expects.First done ≡ okay (done ++ a ∷ b ∷ [])
two_read t p q r k l m a b cs n done e f g h octet_a octet_b bits pad =
    let kb = sextet_below p k f in let lb = sextet_below q l g in let mb = sextet_below r m h in
    let x = goes t p k (q ∷ r ∷ cs) n expects.First done e f in
    let y = goes x.0 q l (r ∷ cs) (suc x.1) (expects.Second k) done x.2 g in
    let z = goes y.0 r m cs (suc y.1) (expects.Third (l % 16) y.1) (done ++ (k * 4 + l / 16) ∷ []) y.2 h in
    let is_a : k * 4 + l / 16 ≡ a = omega arith in
    let is_b : l % 16 * 16 + m / 4 ≡ b = omega arith in
    let none : m % 4 ≡ 0 = omega arith in
    x.3 ∙ y.3 ∙ z.3
    ∙ fourth_ends z.0 cs (suc z.1) (m % 4) z.1 ((done ++ (k * 4 + l / 16) ∷ []) ++ (l % 16 * 16 + m / 4) ∷ []) z.2 none pad
    ∙ ap (λ v. okay ((done ++ v ∷ []) ++ (l % 16 * 16 + m / 4) ∷ [])) is_a
    ∙ ap (λ v. okay ((done ++ a ∷ []) ++ v ∷ [])) is_b ∙ ap okay (append_assoc done (a ∷ []) (b ∷ []))

three_read : (t : List ℕ) (p q r s k l m o a b c : ℕ) (cs os : List ℕ) (n : ℕ) (done : List ℕ) → without_space t ≡ p ∷ q ∷ r ∷ s ∷ cs
    → sextet_of p ≡ Some k → sextet_of q ≡ Some l → sextet_of r ≡ Some m → sextet_of s ≡ Some o
    → k * 4 + l / 16 ≡ a → l % 16 * 16 + m / 4 ≡ b → m % 4 * 64 + o ≡ c
    → ((rest : List ℕ) (i : ℕ) (ds : List ℕ) → without_space rest ≡ cs → base64_from rest i expects.First ds ≡ okay (ds ++ os))
    → base64_from t n expects.First done ≡ okay (done ++ a ∷ b ∷ c ∷ os)
three_read t p q r s k l m o a b c cs os n done e f g h i is_a is_b is_c more =
    let x = goes t p k (q ∷ r ∷ s ∷ cs) n expects.First done e f in
    let y = goes x.0 q l (r ∷ s ∷ cs) (suc x.1) (expects.Second k) done x.2 g in
    let z = goes y.0 r m (s ∷ cs) (suc y.1) (expects.Third (l % 16) y.1) (done ++ (k * 4 + l / 16) ∷ []) y.2 h in
    let w = goes z.0 s o cs (suc z.1) (expects.Fourth (m % 4) z.1) ((done ++ (k * 4 + l / 16) ∷ []) ++ (l % 16 * 16 + m / 4) ∷ []) z.2 i in
    x.3 ∙ y.3 ∙ z.3 ∙ w.3
    ∙ more w.0 (suc w.1) (((done ++ (k * 4 + l / 16) ∷ []) ++ (l % 16 * 16 + m / 4) ∷ []) ++ (m % 4 * 64 + o) ∷ []) w.2
    ∙ ap okay (grouped done os (k * 4 + l / 16) (l % 16 * 16 + m / 4) (m % 4 * 64 + o))
    ∙ ap (λ v. okay (done ++ v ∷ (l % 16 * 16 + m / 4) ∷ (m % 4 * 64 + o) ∷ os)) is_a
    ∙ ap (λ v. okay (done ++ a ∷ v ∷ (m % 4 * 64 + o) ∷ os)) is_b
    ∙ ap (λ v. okay (done ++ a ∷ b ∷ v ∷ os)) is_c

reads : {xs os : List ℕ} → SpellsBase64 xs os → (t : List ℕ) (n : ℕ) (done : List ℕ) → without_space t ≡ xs → base64_from t n expects.First done ≡ okay (done ++ os)
reads nothing_left t n done e = let r = ends t n expects.First done e in r.1 ∙ ap okay (sym (append-nil done))
reads (three_octets {p} {q} {r} {s} {k} {l} {m} {n = o} {a} {b} {c} {cs} {os} f g h i x y z bits d) t n done e =
    let kb = sextet_below p k f in let lb = sextet_below q l g in let mb = sextet_below r m h in let ob = sextet_below s o i in
    three_read t p q r s k l m o a b c cs os n done e f g h i
    (first_of_three k l m o a b c kb lb mb ob x y z bits) (second_of_three k l m o a b c kb lb mb ob x y z bits) (third_of_three k l m o a b c kb lb mb ob x y z bits)
    (λ rest j ds h2. reads d rest j ds h2)
reads (two_octets {p} {q} {r} {k} {l} {m} {a} {b} {cs} f g h x y bits pad) t n done e = two_read t p q r k l m a b cs n done e f g h x y bits pad
reads (one_octet {p} {q} {k} {l} {a} {cs} f g x bits pad) t n done e = one_read t p q k l a cs n done e f g x bits pad

pub base64_complete : (t os : List ℕ) → SpellsBase64 (without_space t) os → base64_of t ≡ Ok os
base64_complete t os d = reads d t 0 [] refl
