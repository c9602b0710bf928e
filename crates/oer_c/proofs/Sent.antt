-- A handle says the same to every thread.
use Rattle.std.specs.Prelude.{Option, None, Some}
use mir.Raw.{raw}
use base.Fraction.{full_share}
use base.Shift.{Keyless}
use denote.Exit.{Exit, unchanged, leaves, hidden, under}
use denote.Memory.{lone}
use denote.RawPtr.{Ptr, block_ptr, null_ptr}
use denote.Struct.Struct.{exits_of}
use denote.Struct.Owning.{shape, fields, to}
use denote.Param.Send.{IsSend, IsSync, AllSend, Quiet, owning_send, part_keyless, struct_send, sendable}
use Rattle.std.proofs.Crossing.{frees}
use Rattle.oer_c.specs.Held.{heap, holds}
use Rattle.oer_c.specs.contracts.shared.Shared as known
use Rattle.oer_c.specs.declared.shared.Shared.{Shared}
use Rattle.oer_c.specs.contracts.held.Held as held
use Rattle.std.proofs.Crossing.{crosses}
use Rattle.std.proofs.MapsCrossing as maps
use Rattle.oer_values.proofs.shape.Shape.TheLaws.TheKnot as shape
use Rattle.oer_values.proofs.value.Value.TheLaws.TheKnot as value
use Rattle.oer_types.specs.contracts.schema.Schema as schema
use Rattle.oer_notation.specs.contracts.types.Types as named

-- a type
schema_send : IsSend schema.the_row
schema_send = search (crosses, shape.crosses, value.crosses, sendable) depth 60 fits 20000

schema_sync : IsSync schema.the_row
schema_sync = search (crosses, shape.crosses, value.crosses, sendable) depth 60 fits 20000

-- definitions: Names in a map and in a list, and types
named_send : IsSend named.the_row
named_send = search (maps.crosses, schema_send, schema_sync, crosses, sendable) depth 60 fits 20000

named_sync : IsSync named.the_row
named_sync = search (maps.crosses, schema_send, schema_sync, crosses, sendable) depth 60 fits 20000

types_send : IsSend known.the_row
types_send = search (named_send, named_sync, maps.crosses, crosses, sendable) depth 60 fits 20000

quiet : {D X : Type 0} (to : D → X) (e : Exit X) → Quiet e → Quiet (hidden (under to e))
quiet to unchanged q = λ x w. tt
quiet to (leaves L l S s r₀) q = λ d. q (to d)

held_keyless : (p : Ptr) (shared : Option Shared) → Keyless (holds p shared)
held_keyless p None = tt
held_keyless (block_ptr b o) (Some x) = (part_keyless known.the_row types_send full_share x b o, frees.frees heap (raw (lone known.the_row.mir)) (block_ptr b o))
held_keyless null_ptr (Some x) = (tt, frees.frees heap (raw (lone known.the_row.mir)) null_ptr)

pub held_send : IsSend held.the_row
held_send =
    let O = held.the_type in let all : AllSend (fields O) = (search sendable, tt) in
    owning_send O all (λ d. held_keyless d.at d.shared) (λ k. quiet (to O) (exits_of k (fields O)) ((struct_send (shape O) all).leaving k))
