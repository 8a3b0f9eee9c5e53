-- What was counted so far, and the state then.
use Rattle.std.proofs.Common.{◌≡◌, ◌≤◌, ◌<◌, ◌⊎◌, ℕ, List, [], ◌∷◌, Option, Some, None, refl, sym, subst, ◌∙◌, inl, inr}
use Rattle.std.proofs.lemmas.Bool.{cases_lt}
use Rattle.asm_update.specs.Fire.{Part}
use Rattle.asm_update.specs.State.{State}
use Rattle.asm_storage.specs.declared.history.History.{History}
use Rattle.asm_audit.specs.declared.part_auditor.PartAuditor.{PartAuditor}
use Rattle.asm_audit.specs.declared.progress.Counts.{Counts}
use Rattle.asm_audit.specs.declared.progress.Progress.{Progress}
use Rattle.asm_audit.specs.Text.{HasJournals}
use Rattle.asm_audit.specs.Audited.{IsAudited}
use Rattle.asm_audit.specs.Fed.{IsFed}
use Rattle.asm_audit.specs.Step.{whole_with, HasValues}
use Rattle.asm_audit.specs.SoFar.{IsSoFar, HasCounts, HasState, AreSoFar, IsStateSoFar, HasEnded, AreFedSoFar, IsFedStateSoFar}
use Rattle.asm_audit.proofs.Chains.{some_push}
use Rattle.asm_audit.proofs.Chains.{chain_leaves}
use Rattle.asm_audit.proofs.Steps.{IsBetween, read_whole, read_of, with_read, read_calls, read_moves, read_legal, read_last, left_is}

-- ---- the numbers

-- between two parts they are those of complete ones
pub counts_between : (part : Part) (text : List ℕ) (w : Counts) (o : Option PartAuditor) → IsBetween part text w o →
    HasCounts part text w
counts_between part text w o b = record {
  first = b.first;
  whole = b.all;
  all = b.all;
  so_far = record { rest = []; has = b.has; onward = inl (refl, refl) };
  calls = b.counts.0;
  moves = b.counts.1;
  parts = b.counts.2;
}

module _ (part : Part) (text : List ℕ) (w : Counts) (o : PartAuditor)
    (audited : IsAudited part text (record { before = w; current = Some o })) where
  -- a part has begun that lacks an event
  pub begun_so_far : o.taken < o.limits.events → IsSoFar part text audited.first audited.before (with_read part text w o audited)
  begun_so_far less = record {
    rest = audited.rest;
    has = audited.has;
    onward = inr (
      o.limits.version,
      o.limits.events,
      read_of part text w o audited,
      audited.next.going,
      subst (λ n. n < o.limits.events) audited.next.taken less,
      refl,
    );
  }

  pub counts_within : o.taken < o.limits.events →
      HasCounts part text (record { calls = (whole_with w o).calls; moves = (whole_with w o).moves; parts = w.parts })
  counts_within less = record {
    first = audited.first;
    whole = audited.before;
    all = with_read part text w o audited;
    so_far = begun_so_far less;
    calls = read_calls part text w o audited;
    moves = read_moves part text w o audited;
    parts = audited.counts.2;
  }

  -- ---- the state

  pub some_so_far : (whole : List History) × IsSoFar part text audited.first whole (with_read part text w o audited)
  some_so_far = by_order (cases_lt o.taken o.limits.events) where
    by_order : (o.taken < o.limits.events) ⊎ (o.limits.events ≤ o.taken) →
        (whole : List History) × IsSoFar part text audited.first whole (with_read part text w o audited)
    by_order (inl less) = (audited.before, begun_so_far less)
    by_order (inr all) = (
      with_read part text w o audited,
      record { rest = []; has = read_whole part text w o all audited; onward = inl (refl, refl) },
    )

  pub state_left : (s : State) → HasValues o.state s → HasState part text (Some s)
  state_left s has = record {
    first = audited.first;
    whole = some_so_far.0;
    all = with_read part text w o audited;
    so_far = some_so_far.1;
    some = some_push audited.before (read_of part text w o audited);
    left = left_is part _ o (read_last part text w o audited) s has
        ∙ sym (chain_leaves part audited.first (with_read part text w o audited) (read_legal part text w o audited));
  }

-- nothing was read
pub none_read : (part : Part) (text : List ℕ) (w : Counts) → IsAudited part text (record { before = w; current = None }) →
    text ≡ []
none_read part text w audited = nothing audited.before audited.next.0 audited.has.journals where
  nothing : (hs : List History) → hs ≡ [] → HasJournals hs text audited.rest → text ≡ []
  nothing [] none has = has ∙ audited.next.1
  nothing (h ∷ hs) none has = absurd cc

-- ---- the ended lines of what was fed

pub fed_ended : (part : Part) (text : List ℕ) (p : Progress) (line : List ℕ) (fed : IsFed part text p line) →
    HasEnded text fed.ended
fed_ended part text p line fed = (line, fed.all, fed.short, fed.open_line.0)

pub fed_counts : (part : Part) (p : Progress) (line : List ℕ) (w : Counts) → AreSoFar part p w → AreFedSoFar part p line w
fed_counts part p line w are =
    λ text fed. (fed.ended, fed_ended part text p line fed, are fed.ended fed.audited)

pub fed_state : (part : Part) (p : Progress) (line : List ℕ) (s : Option State) → IsStateSoFar part p s →
    IsFedStateSoFar part p line s
fed_state part p line s is =
    λ text fed. (fed.ended, fed_ended part text p line fed, is fed.ended fed.audited)
