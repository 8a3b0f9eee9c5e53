-- A read of declared reads, of which none is stale.
use Rattle.std.proofs.Common.{◌≡◌, ℕ, List, None, length, map, take, ap, sym, ◌∙◌, subst}
use Rattle.asm_element.specs.Place.{Place}
use Rattle.asm_state.specs.declared.named.Named.{Named}
use Rattle.asm_update.specs.Aggregator.{Meaning}
use Rattle.asm_update.specs.Move.{Move}
use Rattle.asm_storage.specs.declared.call.Call.TheVariants as call
use Rattle.asm_storage.specs.declared.part.AgentPart.{AgentPart}
use Rattle.asm_storage.specs.declared.receipt.Receipt.{Receipt}
use Rattle.asm_storage.specs.declared.reading.NamedReading.TheVariants.{Read}
use Rattle.asm_storage.specs.Agents.{moves_seen}
use Rattle.asm_storage.specs.Calls.{receipt_at, read_answer, IsOwnRead, IsRead, IsStaleRead, ReadingView}
use Rattle.asm_storage.specs.Machine.{Machine, reply_to}
use Rattle.asm_storage.specs.NamedRead.{IsNamedRead}
use Rattle.asm_storage.specs.Part.{agent_of, HasPolledRow}
use Rattle.asm_storage.specs.Storage.{AgentAt, StorageView, has_polled, machine_of, with_receipt}
use Rattle.asm_storage.proofs.AgentInvariant.{take_seen}

-- an agent that has polled, whose state has followed all that it has then seen, reads from that state
pub read_fresh : {A : Type 0} (meaning : A → Meaning) (s : StorageView A) (old mid new : AgentPart) (reads : List Named)
    (r : ReadingView) → HasPolledRow meaning s old mid → mid.state.number ≡ length mid.progress.seen →
    IsStaleRead meaning (agent_of s mid) reads None →
    IsOwnRead meaning (agent_of s mid) (agent_of s new) (map (λ (x : Named). x.at) reads) r →
    IsNamedRead meaning (agent_of s old) (agent_of s new) reads (Read r)
read_fresh {A} meaning s old mid new reads r polls level fresh recall =
    let m : Machine = machine_of meaning s in
    let places : List Place = map (λ (x : Named). x.at) reads in
    let seen = mid.progress.seen in
    let receipt : ℕ → Receipt = λ n. receipt_at n (call.Read places) (read_answer r) in
    let number : r.number ≡ length seen = recall.peek.number ∙ level in
    let all : take r.number (moves_seen seen) ≡ moves_seen seen = ap (λ n. take n (moves_seen seen)) number ∙ take_seen seen in
    let after : AgentAt A = with_receipt (agent_of s mid) (receipt r.number) in
    let polled : AgentAt A = has_polled (agent_of s old) seen mid.progress.misses mid.state.number in
    let read : IsRead meaning (agent_of s old) after places r = record {
      reply = recall.peek.reply ∙ ap (λ (q : List Move). reply_to m q (call.Read places)) all;
      begins = polls.seen;
      locations = recall.peek.locations;
      agent = ap (λ (a : AgentAt A). with_receipt a (receipt r.number)) polls.agent ∙ ap (λ n. with_receipt polled (receipt n)) number;
      level = level;
    } in
    subst (λ (a : AgentAt A). IsNamedRead meaning (agent_of s old) a reads (Read r)) (sym recall.agent) (fresh, read)
