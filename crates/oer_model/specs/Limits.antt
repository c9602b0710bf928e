-- The limits of types, and of the places of additions.
use Rattle.std.specs.Prelude.{ℕ, suc}

-- how many levels of types a type may have
abbrev pub max_depth : ℕ
max_depth = 32

-- how many parts it may have
abbrev pub max_parts : ℕ
max_parts = 4096

-- the last place of an addition; the first is 0
abbrev pub last_place : ℕ
last_place = 65535

-- how many places there are
abbrev pub addition_places : ℕ
addition_places = suc last_place
