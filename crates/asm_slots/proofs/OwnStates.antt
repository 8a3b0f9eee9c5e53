-- What an agent's own state has: what the first moves leave that the agent has seen.
use Rattle.std.proofs.Common.{◌≡◌, ℕ, List, Option, Some, take, ap, inl, inr, subst, sym, ◌∙◌}
use Rattle.serde_json.specs.Written.{compact_text}
use Rattle.asm_element.specs.Place.{Place}
use Rattle.asm_update.specs.Fire.{Old}
use Rattle.asm_update.specs.State.{State, IsProper, val}
use Rattle.asm_state.proofs.Judged.{same_old}
use Rattle.asm_state.specs.Plain.{value_of_name}
use Rattle.asm_state.specs.View.{StateView, value_at}
use Rattle.asm_storage.specs.Agents.{moves_seen}
use Rattle.asm_storage.specs.Part.{IsFollowing}
use Rattle.asm_storage.specs.Storage.{AgentAt, machine_of}
use Rattle.asm_journal.specs.Text.{state_json_of}
use Rattle.asm_slots.specs.Answers.{IsMemory}
use Rattle.asm_slots.specs.Kinds.{bytes_of}
use Rattle.asm_slots.specs.OwnState.{HasBytesAt, IsOwnOfName, IsOwnState, IsPeek, of_name, state_at, values_text}
use Rattle.asm_slots.specs.Standard.{Standard, meaning, part}
use Rattle.asm_slots.specs.Slots.{Holds, a_location, an_agent}
use Rattle.asm_slots.specs.StepAnswers.{DoesNotPeekAt}
use Rattle.asm_slots.specs.WrittenText.{HasNoText}
use Rattle.asm_slots.specs.declared.codes.Code.{Code}
use Rattle.asm_slots.specs.declared.content.Content.{Content}
use Rattle.asm_slots.specs.declared.content.Content.TheVariants as content

-- the state is the agent's own
abbrev pub IsOwn : AgentAt Standard → StateView → Type 0
IsOwn a s = IsFollowing (machine_of meaning a.storage) a.account.seen s

-- what it has
pub own_values : (a : AgentAt Standard) (s : StateView) → IsOwn a s → value_at s ≡ val (state_at a s.number)
own_values a s own = same_old part a.storage.init (take s.number (moves_seen a.account.seen)) s own.stands

pub own_peek : (a : AgentAt Standard) (s : StateView) (n : ℕ) (text : List ℕ) (locations : List Place) → IsOwn a s →
    s.number ≡ a.number → n ≡ s.number → text ≡ values_text n (value_at s) locations → IsPeek locations a text
own_peek a s n text locations own stands same is = (
  s.number,
  (stands, own.within),
  is ∙ ap (λ (k : ℕ). values_text k (value_at s) locations) same
      ∙ ap (λ (o : Old). values_text s.number o locations) (own_values a s own),
)

pub own_bytes : (at agent : Option Content) (l : Place) (a : AgentAt Standard) (s : StateView) (out after : List ℕ) (n : ℕ) (c : Code) →
    at ≡ Some (content.Location l) → agent ≡ Some (content.Agent a) → IsOwn a s → s.number ≡ a.number →
    HasNoText (λ bytes. bytes ≡ bytes_of (value_at s l)) IsMemory out after n c → DoesNotPeekAt at agent out after n c
own_bytes at agent l a s out after n c is so own stands (kept, inr (zero, none)) = (kept, inr (zero, inr none))
own_bytes at agent l a s out after n c is so own stands (kept, inl (small, (bytes, same, long))) =
    let has : HasBytesAt l a bytes =
    (s.number, (stands, own.within), same ∙ ap (λ (o : Old). bytes_of (o l)) (own_values a s own)) in (
      kept,
      inl (
        small,
        (
          bytes,
          subst (λ (x : Option Content). Holds a_location x (λ k. Holds an_agent agent (λ b. HasBytesAt k b bytes))) (sym is)
              (subst (λ (x : Option Content). Holds an_agent x (λ b. HasBytesAt l b bytes)) (sym so) has),
          long,
        ),
      ),
    )

pub own_state : (a : AgentAt Standard) (s : StateView) (S : State) (n : ℕ) (text : List ℕ) → IsOwn a s →
    s.number ≡ a.number → n ≡ s.number → IsProper S → ((l : Place) → val S l ≡ value_at s l) → text ≡ compact_text (state_json_of S) → IsOwnState a n text
own_state a s S n text own stands same proper values is =
    subst (λ (k : ℕ). IsOwnState a k text) (sym same)
    ((stands, own.within), (S, proper, (λ l. values l ∙ ap (λ (o : Old). o l) (own_values a s own)), is))

pub own_of_name : (a : AgentAt Standard) (s : StateView) (S : State) (name : List ℕ) (n : ℕ) (text : List ℕ) → IsOwn a s →
    s.number ≡ a.number → n ≡ s.number → IsProper S → ((l : Place) → val S l ≡ value_of_name s name l) → text ≡ compact_text (state_json_of S) →
    IsOwnOfName name a n text
own_of_name a s S name n text own stands same proper values is =
    subst (λ (k : ℕ). IsOwnOfName name a k text) (sym same)
    ((stands, own.within), (S, proper, (λ l. values l ∙ ap (λ (o : Old). of_name name o l) (own_values a s own)), is))
