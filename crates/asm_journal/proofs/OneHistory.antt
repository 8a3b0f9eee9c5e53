-- A text reads as at most one history.
use Rattle.std.proofs.Common.{◌≡◌, ◌≢◌, ℕ, List, [], ◌∷◌, ◌++◌, length, refl, sym, ap, subst, ◌∙◌}
use Rattle.std.specs.List.{AllByRecursion}
use Rattle.std.proofs.lemmas.List.Elements.{recursion_from_All}
use Rattle.std.proofs.lemmas.Option.{same_Some}
use Rattle.serde_json.specs.Data.{Data}
use Rattle.serde_json.specs.Read.{read}
use Rattle.asm_update.specs.State as state
use Rattle.asm_update.specs.State.{State, write_all}
use Rattle.asm_storage.specs.declared.history.Event.{Event}
use Rattle.asm_storage.specs.declared.history.History.{History}
use Rattle.asm_journal.specs.Shape.{number_json_of}
use Rattle.asm_journal.specs.Value.{IsPairForm, IsStateForm}
use Rattle.asm_journal.specs.Event.{IsEventForm}
use Rattle.asm_journal.specs.Text.{header_with}
use Rattle.asm_journal.specs.Reading.{HasLine, IsHeader, HasEvents, ReadsAs}
use Rattle.asm_journal.proofs.Arrays.{IsOnce, same_number, list_once}
use Rattle.asm_journal.proofs.Values.{pair_once}
use Rattle.asm_journal.proofs.Events.{event_once}

-- ---- lines

abbrev pub NoFeed : List ℕ → Type 0
NoFeed xs = AllByRecursion (λ b. b ≢ 10) xs

-- the first line feed is at one place
pub same_split : (a b r s : List ℕ) → NoFeed a → NoFeed b → a ++ 10 ∷ r ≡ b ++ 10 ∷ s → (a ≡ b) × (r ≡ s)
same_split [] [] r s h k e = (refl, cc)
same_split [] (y ∷ b) r s h k e = absurd (k.0 (cc))
same_split (x ∷ a) [] r s h k e = absurd (h.0 (cc))
same_split (x ∷ a) (y ∷ b) r s h k e = let rest = same_split a b r s h.1 k.1 (cc) in (cc, rest.1)

pub line_once : (text : List ℕ) (c d : Data) (r s : List ℕ) → HasLine text c r → HasLine text d s → (c ≡ d) × (r ≡ s)
line_once text c d r s h k =
    let parts = same_split h.0 k.0 r s (recursion_from_All (λ b. b ≢ 10) h.0 h.1.1) (recursion_from_All (λ b. b ≢ 10) k.0 k.1.1) (sym h.1.0 ∙ k.1.0) in
    (same_Some c d (sym h.2.1 ∙ ap read parts.0 ∙ k.2.1), parts.1)

-- ---- headers

state_once : IsOnce IsStateForm
state_once A B d h k = h.2.1 ∙ ap (write_all state.empty) (list_once IsPairForm pair_once h.0 k.0 d h.1 k.1) ∙ sym k.2.1

pub header_parts : (a c n i v b d m j w : Data) → header_with a c n i v ≡ header_with b d m j w → (a ≡ b) × (c ≡ d) × (n ≡ m) × (i ≡ j) × (v ≡ w)
header_parts a c n i v b d m j w e = (cc, cc, cc, cc, cc)

numbers_same : (m n : ℕ) (a b : Data) → a ≡ number_json_of m → b ≡ number_json_of n → a ≡ b → m ≡ n
numbers_same m n a b h k e = same_number m n (sym h ∙ e ∙ k)

pub header_once : (v a c m w b e n : ℕ) (A B : State) (d : Data) → IsHeader v a c m A d → IsHeader w b e n B d
    → (a ≡ b) × (c ≡ e) × (m ≡ n) × (A ≡ B) × (v ≡ w)
header_once v a c m w b e n A B d h k =
    let parts = header_parts _ _ _ _ _ _ _ _ _ _ (sym h.5 ∙ k.5) in (
      numbers_same a b _ _ h.6.0 k.6.0 parts.0,
      numbers_same c e _ _ h.6.1 k.6.1 parts.1,
      numbers_same m n _ _ h.6.2 k.6.2 parts.2,
      state_once A B k.3 (subst (IsStateForm A) parts.3 h.7) k.7,
      numbers_same v w _ _ h.6.3 k.6.3 parts.4,
    )

-- ---- events

events_once : (v agents : ℕ) (text : List ℕ) (es fs : List Event) → length es ≡ length fs → HasEvents v agents text es [] → HasEvents v agents text fs [] → es ≡ fs
events_once v agents text [] [] e h k = refl
events_once v agents text [] (f ∷ fs) e h k = absurd (cc)
events_once v agents text (x ∷ es) [] e h k = absurd (cc)
events_once v agents text (x ∷ es) (y ∷ fs) e h k =
    let same = line_once text h.0 k.0 h.1 k.1 h.2 k.2 in
    let first : x ≡ y = event_once x y k.0 (subst (IsEventForm x) same.0 h.3.0) k.3.0 in
    let rest : es ≡ fs = events_once v agents k.1 es fs (cc) (subst (λ t. HasEvents v agents t es []) same.1 h.4) k.4 in
    cc

abbrev history : State → ℕ → ℕ → List Event → History
history A c a es = record { init = A; capacity = c; agents = a; events = es }

pub history_once : (text : List ℕ) (g h : History) → ReadsAs text g → ReadsAs text h → g ≡ h
history_once text g h p q =
    let same = line_once text p.0 q.0 p.1 q.1 p.3 q.3 in
    let parts = header_once _ _ _ _ _ _ _ _ g.init h.init q.0
    (subst (IsHeader p.2 g.agents g.capacity (length g.events) g.init) same.0 p.4) q.4 in
    let rest = subst (λ t. HasEvents p.2 g.agents t g.events []) same.1 p.5 in
    let behind = subst (λ a. HasEvents p.2 a q.1 g.events []) parts.0 rest in
    let found = subst (λ v. HasEvents v h.agents q.1 g.events []) parts.4 behind in
    let events = events_once q.2 h.agents q.1 g.events h.events parts.2 found q.5 in
    ap (λ A. history A g.capacity g.agents g.events) parts.3 ∙ ap (λ c. history h.init c g.agents g.events) parts.1
    ∙ ap (λ a. history h.init h.capacity a g.events) parts.0 ∙ ap (history h.init h.capacity h.agents) events
