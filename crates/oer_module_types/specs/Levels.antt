-- Where types nest too deep, and what stands where one would stand in itself too often.
use Rattle.std.specs.Prelude.{ℕ, suc, ◌==◌, nat_le, List, [], ◌∷◌, Bool, false, ◌&&◌, Ok, codes, if◌then◌else◌}
use Rattle.oer_model.specs.AsnType.{AsnType, alternative, choice, no_alternatives, null}
use Rattle.oer_module_names.specs.declared.error.Place.{Place}
use Rattle.oer_module_text.specs.Errors.{Read, error, ◌>>=◌, too_deep}
use Rattle.oer_module_text.specs.Room.{Room, put, take_part}
use Rattle.oer_units.specs.declared.tagging.Class.TheVariants.{Private}
use Rattle.oer_units.specs.declared.tagging.Tag.{Tag}

abbrev pub is_same : Place → Place → Bool
is_same p q = p.«module» == q.«module» && p.at == q.at

-- how often a place stands on a path
abbrev pub times : Place → List Place → ℕ
times p [] = 0
times p (q ∷ qs) = if is_same p q then suc (times p qs) else times p qs

abbrev pub is_full : ℕ → Place → List Place → Bool
is_full nesting p path = nat_le nesting (times p path)

abbrev pub end_text : List ℕ
end_text = codes "CHOICE {too-deep [PRIVATE 4294967295] NULL} /* nesting ends */"

abbrev pub end_tag : Tag
end_tag = record { class = Private; number = 4294967295 }

abbrev pub end_type : AsnType
end_type = choice false (alternative (codes "too-deep") end_tag null no_alternatives)

-- The end, if its NULL has a level left, and a part.
unfoldable pub end_at : ℕ → Place → Room → Read (AsnType × Room)
end_at levels p r = if levels == 0 then error p too_deep else (take_part p r >>= λ s. Ok (end_type, put end_text s))
