-- What a transaction shows of the state at its version, and how it grows.
use Rattle.std.proofs.Common.{◌≡◌, ◌≤◌, ◌∙◌, ℕ, List, [], ◌∷◌, ◌++◌, cond, length, map, unwrap_or, Bool, true, false, Option, Some, None, refl, ap, arith, subst, sym}
use Rattle.std.specs.Prelude.{MatchOption}
use Rattle.asm_element.specs.Place.{Place}
use Rattle.asm_element.specs.declared.value.Value.{Value}
use Rattle.asm_update.specs.Aggregator.{Meaning}
use Rattle.asm_update.specs.Fire.{Part, Old}
use Rattle.asm_update.specs.Move.{Move}
use Rattle.asm_update.specs.State.{State, val}
use Rattle.asm_overlay.proofs.FrameLemmas.{val-under}
use Rattle.asm_overlay.specs.Frames.{OverView, seen_through, topmost, under}
use Rattle.asm_element.specs.Value.{undef}
use Rattle.asm_state.specs.Listed.{IsListOf, IsListing}
use Rattle.asm_state.specs.Plain.{value_of_name}
use Rattle.asm_state.specs.Scans.{has_name}
use Rattle.asm_state.proofs.Judged.{same_old}
use Rattle.asm_state.specs.View.{StateView, value_at}
use Rattle.asm_storage.specs.Part.{IsFollowing}
use Rattle.asm_storage.specs.Storage.{AgentAt, machine_of}
use Rattle.asm_step.proofs.Layered.{fires_all}
use Rattle.asm_step.specs.Layers.{Layer, AreLayers, IsStepOf, frames_of, scanned}
use Rattle.asm_transaction.specs.Reading.{IsOf, IsShown, IsUnread, IsUnseen, IsUntracked, Shows, state_at}
use Rattle.asm_transaction.specs.Scanning.{IsScan}
use Rattle.asm_transaction.specs.View.{TransactionView, new_transaction, pushed}
use Rattle.asm_transaction.specs.declared.error.TransactionError.{TransactionError}
use Rattle.asm_transaction.specs.declared.error.TransactionError.TheVariants as transaction_error

-- a new transaction is one of its agent
pub begun : {A : Type 0} (meaning : A → Meaning) (a : AgentAt A) (n : ℕ) → n ≤ length a.account.seen → IsOf meaning a (new_transaction n)
begun meaning a n le = record { reached = le; step = tt }

-- the layers tell which moves they are of
groups_from : (part : Part) (old : Old) (before : List Move) (groups : List (List Move)) (s : List Layer) →
    AreLayers part old before groups s → map (λ y. y.moves) s ≡ groups
groups_from part old before [] [] h = refl
groups_from part old before (group ∷ groups) (y ∷ s) h =
    ap (λ (g : List Move). g ∷ map (λ y. y.moves) s) h.0
    ∙ ap (λ (gs : List (List Move)). group ∷ gs) (groups_from part old (before ++ group) groups s h.2)
groups_from part old before [] (y ∷ s) h = absurd h
groups_from part old before (group ∷ groups) [] h = absurd h

pub groups_are : (part : Part) (old : Old) (groups : List (List Move)) (s : List Layer) → IsStepOf part old s groups →
    map (λ y. y.moves) s ≡ groups
groups_are part old groups s h = groups_from part old [] groups s h

-- the agent's own state has what is below a transaction at its version
own_values : {A : Type 0} (meaning : A → Meaning) (a : AgentAt A) (s : StateView) →
    IsFollowing (machine_of meaning a.storage) a.account.seen s → value_at s ≡ val (state_at meaning a s.number)
own_values meaning a s own = same_old (meaning a.storage.agg).part a.storage.init _ s own.stands

pub below_is : {A : Type 0} (meaning : A → Meaning) (a : AgentAt A) (s : StateView) (t : TransactionView) →
    IsFollowing (machine_of meaning a.storage) a.account.seen s → s.number ≡ t.number →
    value_at s ≡ val (state_at meaning a t.number)
below_is meaning a s t own same = own_values meaning a s own ∙ ap (λ n. val (state_at meaning a n)) same

-- what is looked up through the moves is what they leave
pub is_shown : {A : Type 0} (meaning : A → Meaning) (a : AgentAt A) (s : StateView) (t inside : TransactionView) (l : Place) (v : Value) →
    inside ≡ t → IsFollowing (machine_of meaning a.storage) a.account.seen s → s.number ≡ inside.number →
    ((B : State) → val B l ≡ value_at s l → v ≡ val (under B (frames_of inside.layers)) l) →
    IsOf meaning a t → IsShown meaning a t l v
is_shown {A} meaning a s t inside l v view own same looked is =
    subst (λ (x : TransactionView). IsOf meaning a x → IsShown meaning a x l v) view shown is where
      at : value_at s ≡ val (state_at meaning a inside.number)
      at = below_is meaning a s inside own same

      shown : IsOf meaning a inside → IsShown meaning a inside l v
      shown is = (
        under (state_at meaning a inside.number) (frames_of inside.layers),
        fires_all (meaning a.storage.agg).part (val (state_at meaning a inside.number)) inside.layers (pushed inside)
            (state_at meaning a inside.number) is.step (λ k there. refl),
        looked (state_at meaning a inside.number) (sym (ap (λ (o : Old). o l) at)),
      )

-- all that is looked up over the agent's own state is shown
pub shows_all : {A : Type 0} (meaning : A → Meaning) (a : AgentAt A) (s : StateView) (t inside : TransactionView) (o : OverView StateView) →
    inside ≡ t → o ≡ record { frames = frames_of inside.layers; below = s } →
    IsFollowing (machine_of meaning a.storage) a.account.seen s → s.number ≡ inside.number → IsOf meaning a t →
    Shows meaning a t (seen_through o.frames (value_at o.below))
shows_all meaning a s t inside o view over own same is l =
    is_shown meaning a s t inside l (seen_through o.frames (value_at o.below) l) view own same
    (λ B there. ap (λ (x : OverView StateView). seen_through x.frames (value_at x.below) l) over
    ∙ ap (λ (v : Value). unwrap_or (topmost (frames_of inside.layers) l) v) (sym there)
    ∙ sym (val-under B (frames_of inside.layers) l)) is

-- the moves grow by one: pushed, or extending the last
pub is_grown : {A : Type 0} (meaning : A → Meaning) (a : AgentAt A) (agg : A) (s : StateView) (t inside : TransactionView)
    (ls : List Layer) (grow : List (List Move) → List (List Move)) →
    agg ≡ a.storage.agg → inside ≡ t → IsFollowing (machine_of meaning a.storage) a.account.seen s → s.number ≡ inside.number →
    ((groups : List (List Move)) → IsStepOf (meaning agg).part (value_at s) inside.layers groups →
    IsStepOf (meaning agg).part (value_at s) ls (grow groups)) →
    IsOf meaning a t →
    IsOf meaning a (record inside { layers = ls }) × (pushed (record inside { layers = ls }) ≡ grow (pushed t))
is_grown {A} meaning a agg s t inside ls grow same view own at grown is =
    subst (λ (x : TransactionView). IsOf meaning a x → IsOf meaning a (record inside { layers = ls }) × (pushed (record inside { layers = ls }) ≡ grow (pushed x))) view here is where
      below : value_at s ≡ val (state_at meaning a inside.number)
      below = below_is meaning a s inside own at

      step : IsStepOf (meaning a.storage.agg).part (val (state_at meaning a inside.number)) inside.layers (pushed inside) →
          IsStepOf (meaning a.storage.agg).part (val (state_at meaning a inside.number)) ls (grow (pushed inside))
      step h =
          subst (λ (o : Old). IsStepOf (meaning a.storage.agg).part o ls (grow (pushed inside))) below
          (subst (λ (g : A). IsStepOf (meaning g).part (value_at s) ls (grow (pushed inside))) same
          (grown (pushed inside)
          (subst (λ (g : A). IsStepOf (meaning g).part (value_at s) inside.layers (pushed inside)) (sym same)
          (subst (λ (o : Old). IsStepOf (meaning a.storage.agg).part o inside.layers (pushed inside)) (sym below) h))))

      here : IsOf meaning a inside → IsOf meaning a (record inside { layers = ls }) × (pushed (record inside { layers = ls }) ≡ grow (pushed inside))
      here h =
          let grew = step h.step in
          let groups = groups_are (meaning a.storage.agg).part (val (state_at meaning a inside.number)) (grow (pushed inside)) ls grew in (
            record {
              reached = h.reached;
              step = subst (λ (gs : List (List Move)). IsStepOf (meaning a.storage.agg).part (val (state_at meaning a inside.number)) ls gs) (sym groups) grew;
            },
            groups,
          )

-- the values that a scan returns
pub is_scan : {A : Type 0} (meaning : A → Meaning) (a : AgentAt A) (s : StateView) (t inside : TransactionView) (name : List ℕ)
    (below P : State) → inside ≡ t → IsFollowing (machine_of meaning a.storage) a.account.seen s → s.number ≡ inside.number →
    ((l : Place) → val below l ≡ value_of_name s name l) → ((l : Place) → val P l ≡ scanned (frames_of inside.layers) (val below) name l) →
    IsOf meaning a t → IsScan meaning a t name P
is_scan {A} meaning a s t inside name below P view own same there found is =
    subst (λ (x : TransactionView). IsOf meaning a x → IsScan meaning a x name P) view scan is where
      at : value_at s ≡ val (state_at meaning a inside.number)
      at = below_is meaning a s inside own same

      one : (l : Place) → val P l ≡ cond (has_name name l) (val (under (state_at meaning a inside.number) (frames_of inside.layers)) l) undef
      one l = by_test (has_name name l) (there l) (found l) where
        by_test : (b : Bool) → val below l ≡ cond b (value_at s l) undef →
            val P l ≡ cond b (seen_through (frames_of inside.layers) (val below) l) (val below l) →
            val P l ≡ cond b (val (under (state_at meaning a inside.number) (frames_of inside.layers)) l) undef
        by_test true here seen =
            seen ∙ ap (λ (v : Value). unwrap_or (topmost (frames_of inside.layers) l) v) (here ∙ ap (λ (o : Old). o l) at)
            ∙ sym (val-under (state_at meaning a inside.number) (frames_of inside.layers) l)
        by_test false here seen = seen ∙ here

      scan : IsOf meaning a inside → IsScan meaning a inside name P
      scan is = (
        under (state_at meaning a inside.number) (frames_of inside.layers),
        fires_all (meaning a.storage.agg).part (val (state_at meaning a inside.number)) inside.layers (pushed inside)
            (state_at meaning a inside.number) is.step (λ k there. refl),
        one,
      )

-- where no move is pushed, all is seen as it is below
unpushed : (layers : List Layer) → length layers ≡ 0 → (P : State) (name : List ℕ) (l : Place) →
    val P l ≡ scanned (frames_of layers) (val P) name l
unpushed [] none P name l = by_test (has_name name l) where
  by_test : (b : Bool) → val P l ≡ cond b (val P l) (val P l)
  by_test true = refl
  by_test false = refl
unpushed (y ∷ layers) none P name l = absurd (omega (arith, none))

pub found_weaker : {X : Type 0} {N M : Type 0} (P Q : X → Type 0) → (N → M) → ((x : X) → P x → Q x) → (found : Option X) →
    MatchOption found N P → MatchOption found M Q
found_weaker P Q none some (Some x) h = some x h
found_weaker P Q none some None h = none h

-- the list that a scan has where no move is pushed
pub is_scan_list : {A : Type 0} (meaning : A → Meaning) (s : StateView) (t inside : TransactionView) (name : List ℕ)
    (list : List (Place × Value)) → inside ≡ t → s.number ≡ inside.number → length inside.layers ≡ 0 →
    IsListing (value_of_name s name) list →
    IsListOf (λ P. (a : AgentAt A) → IsFollowing (machine_of meaning a.storage) a.account.seen s → IsOf meaning a t → IsScan meaning a t name P) list
is_scan_list meaning s t inside name list view same none listing = (
  listing.0,
  listing.1,
  (λ a own is. is_scan meaning a s t inside name listing.0 listing.0 view own same listing.2 (unpushed inside.layers none listing.0 name) is),
  listing.3,
)

-- why a location isn't read
pub unread_unseen : (l : Place) (n : ℕ) (t : TransactionView) (e : TransactionError) → IsUnseen n t e → IsUnread l n t e
unread_unseen l n t transaction_error.Moved why = why
unread_unseen l n t transaction_error.ManyReads why = absurd why
unread_unseen l n t transaction_error.Memory why = tt

pub unread_untracked : (l : Place) (n : ℕ) (t : TransactionView) (e : TransactionError) → IsUntracked (l ∷ []) t e → IsUnread l n t e
unread_untracked l n t transaction_error.Moved why = absurd why
unread_untracked l n t transaction_error.ManyReads why = why
unread_untracked l n t transaction_error.Memory why = tt
