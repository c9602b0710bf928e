-- The type that the texts of the options name.
use Rattle.std.proofs.Common.{◌≡◌, List, ℕ, Option, Some, None, refl}
use Rattle.oer_notation.specs.Parsing.{parse}
use Rattle.oer_explain_cmd.specs.Found.{ok_in, type_among, type_in}

pub by_one : (one types name held : Option (List ℕ)) (t : List ℕ) → one ≡ Some t → types ≡ None → name ≡ None
    → ok_in (parse t) ≡ type_among one types name held
by_one one types name held t e0 e1 e2 = rw (e0, e1, e2) refl

pub by_held : (one types name held : Option (List ℕ)) (t n octets : List ℕ) → one ≡ None → types ≡ Some t → name ≡ Some n → held ≡ Some octets
    → type_in octets n ≡ type_among one types name held
by_held one types name held t n octets e0 e1 e2 e3 = rw (e0, e1, e2, e3) refl

pub by_option : (one types name held : Option (List ℕ)) (t n : List ℕ) → one ≡ None → types ≡ Some t → name ≡ Some n → held ≡ None
    → type_in t n ≡ type_among one types name held
by_option one types name held t n e0 e1 e2 e3 = rw (e0, e1, e2, e3) refl
