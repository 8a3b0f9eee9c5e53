use denote.RattleType.{RattleType}
use denote.Param.Send.{IsSend}
use Rattle.asm_row.specs.contracts.known_prefix.KnownPrefix.{the_row}
use Rattle.asm_row.proofs.Notes.{all_keyless}

pub send : (T : RattleType) → IsSend (the_row T)
send T = record { owned = λ d vs. ((λ vss. (tt, ((λ uss. (tt, tt)), tt))), all_keyless T d.row d.seen); leaving = λ k f vs. tt }
