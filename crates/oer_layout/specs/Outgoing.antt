-- Text on its way out.
use Rattle.std.specs.Prelude.{◌≡◌, ℕ, List, [], Option, string_bytes}
use Rattle.std.specs.Borrow.{GName, MutBor}
use Rattle.std.specs.Io.KnownBytes.{Appends, append_known}
use Rattle.oer_layout.specs.Text.{Text}
use Rattle.oer_layout.specs.declared.outgoing.Outgoing.{Outgoing}

-- what the output will have once what is kept is written, where that is known
abbrev pub held : {W : Type 0} → (W → Option (List ℕ)) → Outgoing W → Option (List ℕ)
held contents out = append_known (contents out.output.now) (string_bytes out.text)

-- the name of the loan of the output
abbrev pub loan_of : {W : Type 0} → Outgoing W → GName
loan_of out = out.output.ghost_name

-- From s to t this text was added.
pub record Grows {W : Type 0} (contents : W → Option (List ℕ)) (s : Outgoing W) (text : Text) (t : Outgoing W) : Type 0 where
  pub loan : loan_of t ≡ loan_of s
  pub adds : Appends (held contents s) (held contents t) text

-- All that was kept is written.
pub record Sends {W : Type 0} (contents : W → Option (List ℕ)) (s t : Outgoing W) : Type 0 where
  pub loan : loan_of t ≡ loan_of s
  pub empty : string_bytes t.text ≡ []
  pub sent : Appends (held contents s) (contents t.output.now) []

-- With this text in front, nothing of it written yet.
pub record Begins {W : Type 0} (contents : W → Option (List ℕ)) (front : Text) (output : MutBor W) (out : Outgoing W) : Type 0 where
  pub loan : loan_of out ≡ output.ghost_name
  pub unchanged : out.output.now ≡ output.now
  pub text : string_bytes out.text ≡ front
