-- The events of a play are those of the script's agents.
use Rattle.std.proofs.Common.{◌≡◌, ℕ, ◌<◌, ◌≤◌, Bool, true, false, cond, nat_eq, nat_lt, eq-eqb, List, [], ◌∷◌, length}
use Rattle.std.proofs.Common.{All, refl, sym, ◌∙◌}
use Rattle.std.proofs.lemmas.Bool.{ltb-true, ltb-false}
use Rattle.std.proofs.lemmas.List.Elements.{All-nil, All-cons}
use Rattle.asm_storage.specs.History.{events_of}
use Rattle.asm_storage.specs.declared.history.Event.{Event}
use Rattle.asm_script.specs.Plan.{Plan}
use Rattle.asm_play.specs.Play.{IsPlayOf}
use Rattle.asm_play.specs.declared.outcome.Played.{Played}

-- an agent without events has none at the front, and none behind
apart : (e : Event) (h : List Event) (i : ℕ) (b : Bool) → nat_eq e.agent i ≡ b →
    cond b (e ∷ events_of h i) (events_of h i) ≡ [] → (nat_eq e.agent i ≡ false) × (events_of h i ≡ [])
apart e h i true is none = absurd (cc none)
apart e h i false is none = (is, none)

below : (a n : ℕ) (b : Bool) → nat_lt a n ≡ b → (n ≤ a → ⊥) → a < n
below a n true is refuted = ltb-true a n is
below a n false is refuted = absurd (refuted (ltb-false a n is))

-- where no agent from n on has events, each event is of an agent below n
each_below : (n : ℕ) (h : List Event) → ((i : ℕ) → n ≤ i → events_of h i ≡ []) → All (λ e. e.agent < n) h
each_below n [] none = All-nil (λ (e : Event). e.agent < n)
each_below n (e ∷ h) none =
    let here : (i : ℕ) → n ≤ i → (nat_eq e.agent i ≡ false) × (events_of h i ≡ []) =
    λ i le. apart e h i (nat_eq e.agent i) refl (none i le) in
    let less : e.agent < n = below e.agent n (nat_lt e.agent n) refl
    (λ le. let other : true ≡ false = sym (eq-eqb e.agent e.agent refl) ∙ (here e.agent le).0 in absurd (cc other)) in
    All-cons (λ (f : Event). f.agent < n) e h less (each_below n h (λ i le. (here i le).1))

pub agents_below : (plan : Plan) (capacity : ℕ) (p : Played) → IsPlayOf plan capacity p →
    All (λ e. e.agent < length plan.agents) p.history.events
agents_below plan capacity p is = each_below (length plan.agents) p.history.events is.others
