-- A `&` to a `KnownPrefix` holds what it knows, which can be had twice. Assumes `Logic`.
use base.Logic.{snd∗}
use base.Before.{before}
use types.Logic.{sem}
use denote.RattleType.{RattleType}
use denote.Param.Laws.{Laws}
use denote.Param.Shared.{copy_shared}
use denote.Struct.Laws.{field_copy}
use denote.Struct.Lending.{of_Lends}
use Rattle.asm_row.specs.KnownPrefix.{all_noted}
use Rattle.std.specs.contracts.marker.PhantomData as P
use Rattle.asm_row.specs.contracts.known_prefix.KnownPrefix as C
use Rattle.asm_row.proofs.Notes.{lends_twice, all_twice}
use Rattle.asm_row.proofs.known_prefix.KnownPrefix.TheLaw.Statement.{statement}

pub shares : (T : RattleType) (L : Laws T) → statement T L
shares T L = of_Lends (C.struct T) (C.the_codes T.Denot T.coded (P.the_row T).coded) (C.the_heap T) (C.the_lent T)
    (λ d p. record { contraction = λ M 𝓤 𝓛 κ. all_twice 𝓛 T d.row d.seen; mono = λ M 𝓤 𝓛 κ' κ. snd∗ 𝓤 (sem 𝓛 (before κ' κ)) (sem 𝓛 (all_noted T d.row d.seen)) })
    (copy_shared (P.the_field T) (field_copy (P.the_type T) tt), tt)
    (λ M 𝓤 𝓛 d p. lends_twice 𝓛 (all_noted T d.row d.seen) (all_twice 𝓛 T d.row d.seen) (C.the_row T).lives)
