-- Calls, answers and events: JSON is the form of at most one, and what reading finds.
use Rattle.std.proofs.Common.{codes, ◌≡◌, ℕ, zero, suc, List, [], ◌∷◌, Option, Some, None, refl, sym, ap, ap₂, subst, ◌∙◌, arith}
use Rattle.std.specs.Prelude.{option_map, if◌then◌else◌}
use Rattle.std.specs.Str.{bytes_eq}
use Rattle.serde_json.specs.Data.{Data, string, Items}
use Rattle.serde_json.specs.View.{items_of}
use Rattle.asm_element.specs.Place.{Place}
use Rattle.asm_element.specs.declared.value.Value.{Value}
use Rattle.asm_update.specs.Action.{amount_of, content_of}
use Rattle.asm_update.specs.Move.{Move}
use Rattle.asm_update.specs.declared.action.Action.{Action}
use Rattle.asm_update.specs.declared.action.Action.TheVariants.{Regular, SetAdd, SetRemove, BagAdd, BagRemove, Increment}
use Rattle.asm_update.specs.declared.action.Instruction.{Instruction}
use Rattle.asm_update.specs.declared.clash.Cause.{Cause}
use Rattle.asm_update.specs.declared.clash.Cause.TheVariants as cause
use Rattle.asm_update.specs.declared.clash.Clash.{Clash}
use Rattle.asm_state.specs.declared.named.Named.{Named}
use Rattle.asm_storage.specs.declared.call.Call.{Call}
use Rattle.asm_storage.specs.declared.call.Call.TheVariants as call
use Rattle.asm_storage.specs.declared.call.Reply.{Reply}
use Rattle.asm_storage.specs.declared.call.Reply.TheVariants as reply
use Rattle.asm_storage.specs.declared.call.Answer.{Answer}
use Rattle.asm_storage.specs.declared.call.Answer.TheVariants as answer
use Rattle.asm_storage.specs.declared.history.Event.{Event}
use Rattle.asm_journal.specs.Shape.{IsParsed, IsOnly, one_of, two_of, three_of, IsNumberForm, IsListForm}
use Rattle.asm_journal.specs.Element.{IsIntegerForm, IsElementForm, IsLocationForm}
use Rattle.asm_journal.specs.Value.{IsValueForm}
use Rattle.asm_journal.specs.Instruction.{AreOperands, IsActionForm, instruction_of, IsInstructionForm}
use Rattle.asm_journal.specs.Event.{word_of_cause, IsNamedForm, IsMoveForm, IsCallForm, IsCauseForm, IsClashForm, IsReplyForm, IsAnswerForm, IsEventForm}
use Rattle.asm_journal.proofs.Words.{measure}
use Rattle.asm_journal.proofs.Arrays.{IsOnce, same_text, same_pair, same_one, same_key, same_number, list_once}
use Rattle.asm_journal.proofs.Elements.{integer_once, element_once, location_once, counted_once}
use Rattle.asm_journal.proofs.Values.{value_once}
use Rattle.asm_journal.proofs.Actions.{kind_of_word, action_from, made_by}

-- ---- shapes

pub same_two : (k l : List ℕ) (a b x y : Data) → two_of k a l b ≡ two_of k x l y → (a ≡ x) × (b ≡ y)
same_two k l a b x y e = (cc, cc)

pub same_three : (k l m : List ℕ) (a b c x y z : Data) → three_of k a l b m c ≡ three_of k x l y m z → (a ≡ x) × (b ≡ y) × (c ≡ z)
same_three k l m a b c x y z e = (cc, cc, cc)

pub one_not_two : (k l m : List ℕ) (a b c : Data) → one_of k a ≡ two_of l b m c → ⊥
one_not_two k l m a b c e = absurd cc

pub text_not_two : (s k l : List ℕ) (a b : Data) → string s ≡ two_of k a l b → ⊥
text_not_two s k l a b e = absurd cc

text_not_one : (s k : List ℕ) (a : Data) → string s ≡ one_of k a → ⊥
text_not_one s k a e = absurd cc

-- ---- instructions

same_only : (a b : Data) → items_of (a ∷ []) ≡ items_of (b ∷ []) → a ≡ b
same_only a b e = cc

only_once : {X : Type 0} (F : X → Data → Type 0) → IsOnce F → IsOnce (IsOnly F)
only_once F once x y ds h k = once x y k.0 (subst (F x) (same_only _ _ (sym h.1 ∙ k.1)) h.2) k.2

operands_once : (kind n m : ℕ) (v w : Value) (ds : Items) → AreOperands (action_from kind n v) ds → AreOperands (action_from kind m w) ds → action_from kind n v ≡ action_from kind m w
operands_once zero n m v w ds h k = ap Regular (only_once IsValueForm value_once _ _ ds h k)
operands_once (suc zero) n m v w ds h k = ap SetAdd (only_once IsElementForm element_once _ _ ds h k)
operands_once (suc (suc zero)) n m v w ds h k = ap SetRemove (only_once IsElementForm element_once _ _ ds h k)
operands_once (suc (suc (suc zero))) n m v w ds h k = ap (λ p. BagAdd p.0 p.1) (counted_once _ _ ds h k)
operands_once (suc (suc (suc (suc zero)))) n m v w ds h k = ap (λ p. BagRemove p.0 p.1) (counted_once _ _ ds h k)
operands_once (suc (suc (suc (suc (suc _))))) n m v w ds h k = ap Increment (only_once IsIntegerForm integer_once _ _ ds h k)

action_once : (word : List ℕ) → IsOnce (IsActionForm word)
action_once word a b ds h k =
    let first = made_by word a h.0 in
    let second = made_by word b k.0 in
    first ∙ operands_once (kind_of_word word) (amount_of a) (amount_of b) (content_of a) (content_of b) ds (subst (λ x. AreOperands x ds) first h.1) (subst (λ x. AreOperands x ds) second k.1) ∙ sym second

instruction_parts : (v w : List ℕ) (a b : Data) (ds es : Items) → instruction_of v a ds ≡ instruction_of w b es → (v ≡ w) × (a ≡ b) × (ds ≡ es)
instruction_parts v w a b ds es e = (cc, cc, cc)

abbrev instruction : Place → Action → Instruction
instruction l a = record { at = l; action = a }

pub instruction_once : IsOnce IsInstructionForm
instruction_once i j d h k =
    let parts = instruction_parts _ _ _ _ _ _ (sym h.3 ∙ k.3) in
    let at = location_once i.at j.at k.1 (subst (IsLocationForm i.at) parts.1 h.4) k.4 in
    let named = subst (λ w. IsActionForm w i.action h.2) parts.0 h.5 in
    let action = action_once k.0 i.action j.action k.2 (subst (IsActionForm k.0 i.action) parts.2 named) k.5 in
    ap₂ instruction at action

pub move_once : IsOnce IsMoveForm
move_once M N d h k = h.2.0 ∙ list_once IsInstructionForm instruction_once h.0 k.0 d h.1 k.1 ∙ sym k.2.0

-- ---- calls

abbrev named : Place → ℕ → Named
named l n = record { at = l; number = n }

number_once : IsOnce IsNumberForm
number_once m n d h k = same_number m n (sym h.1 ∙ k.1)

named_once : IsOnce IsNamedForm
named_once r s d h k =
    let parts = same_pair _ _ _ _ (sym h.2 ∙ k.2) in
    let at = location_once r.at s.at k.0 (subst (IsLocationForm r.at) parts.0 h.3) k.3 in
    let count = number_once r.number s.number k.1 (subst (IsNumberForm r.number) parts.1 h.4) k.4 in
    ap₂ named at count

call_once : IsOnce IsCallForm
call_once (call.Read ps) (call.Read qs) d h k =
    ap call.Read (list_once IsLocationForm location_once ps qs k.0 (subst (IsListForm IsLocationForm ps) (same_one _ _ _ (sym h.1 ∙ k.1)) h.2) k.2)
call_once (call.Read ps) (call.Fire rs M) d h k = absurd (one_not_two _ _ _ _ _ _ (sym h.1 ∙ k.2))
call_once (call.Fire rs M) (call.Read ps) d h k = absurd (one_not_two _ _ _ _ _ _ (sym k.1 ∙ h.2))
call_once (call.Fire rs M) (call.Fire ss N) d h k =
    let parts = same_two _ _ _ _ _ _ (sym h.2 ∙ k.2) in
    let move = move_once M N k.0 (subst (IsMoveForm M) parts.0 h.3) k.3 in
    let reads = list_once IsNamedForm named_once rs ss k.1 (subst (IsListForm IsNamedForm rs) parts.1 h.4) k.4 in
    ap₂ call.Fire reads move

-- ---- answers

-- the cause that a word names, which tells the words apart
abbrev cause_of_word : List ℕ → Cause
cause_of_word word =
    if bytes_eq word (codes "Two") then cause.Two
    else if bytes_eq word (codes "Mixed") then cause.Mixed
    else if bytes_eq word (codes "Kind") then cause.Kind
    else if bytes_eq word (codes "Both") then cause.Both
    else if bytes_eq word (codes "Against") then cause.Against
    else if bytes_eq word (codes "Short") then cause.Short
    else cause.Large

cause_of_word-word : (c : Cause) → cause_of_word (word_of_cause c) ≡ c
cause_of_word-word cause.Two = refl
cause_of_word-word cause.Mixed = refl
cause_of_word-word cause.Kind = refl
cause_of_word-word cause.Both = refl
cause_of_word-word cause.Against = refl
cause_of_word-word cause.Short = refl
cause_of_word-word cause.Large = refl

cause_once : IsOnce IsCauseForm
cause_once c e d h k = sym (cause_of_word-word c) ∙ ap cause_of_word (same_text _ _ (sym h ∙ k)) ∙ cause_of_word-word e

abbrev clash : Place → Cause → Clash
clash l c = record { at = l; cause = c }

clash_once : IsOnce IsClashForm
clash_once x y d h k =
    let parts = same_pair _ _ _ _ (sym h.2 ∙ k.2) in
    let at = location_once x.at y.at k.0 (subst (IsLocationForm x.at) parts.0 h.3) k.3 in
    let why = cause_once x.cause y.cause k.1 (subst (IsCauseForm x.cause) parts.1 h.4) k.4 in
    ap₂ clash at why

-- the keys of replies differ
fired_not_stale : (a b : Data) → one_of (codes "fired") a ≡ one_of (codes "stale") b → ⊥
unfolding measure
fired_not_stale a b e = absurd (omega (arith, ap measure (same_key _ _ _ _ e)))

fired_not_clash : (a b : Data) → one_of (codes "fired") a ≡ one_of (codes "clash") b → ⊥
unfolding measure
fired_not_clash a b e = absurd (omega (arith, ap measure (same_key _ _ _ _ e)))

stale_not_clash : (a b : Data) → one_of (codes "stale") a ≡ one_of (codes "clash") b → ⊥
unfolding measure
stale_not_clash a b e = absurd (omega (arith, ap measure (same_key _ _ _ _ e)))

reply_once : IsOnce IsReplyForm
reply_once (reply.Fired m) (reply.Fired n) d h k = ap reply.Fired (number_once m n k.0 (subst (IsNumberForm m) (same_one _ _ _ (sym h.1 ∙ k.1)) h.2) k.2)
reply_once (reply.Fired m) (reply.Stale l) d h k = absurd (fired_not_stale _ _ (sym h.1 ∙ k.1))
reply_once (reply.Fired m) (reply.Clash c) d h k = absurd (fired_not_clash _ _ (sym h.1 ∙ k.1))
reply_once (reply.Fired m) reply.Full d h k = absurd (text_not_one _ _ _ (sym k ∙ h.1))
reply_once (reply.Stale l) (reply.Fired n) d h k = absurd (fired_not_stale _ _ (sym k.1 ∙ h.1))
reply_once (reply.Stale l) (reply.Stale m) d h k = ap reply.Stale (location_once l m k.0 (subst (IsLocationForm l) (same_one _ _ _ (sym h.1 ∙ k.1)) h.2) k.2)
reply_once (reply.Stale l) (reply.Clash c) d h k = absurd (stale_not_clash _ _ (sym h.1 ∙ k.1))
reply_once (reply.Stale l) reply.Full d h k = absurd (text_not_one _ _ _ (sym k ∙ h.1))
reply_once (reply.Clash c) (reply.Fired n) d h k = absurd (fired_not_clash _ _ (sym k.1 ∙ h.1))
reply_once (reply.Clash c) (reply.Stale m) d h k = absurd (stale_not_clash _ _ (sym k.1 ∙ h.1))
reply_once (reply.Clash c) (reply.Clash e) d h k = ap reply.Clash (clash_once c e k.0 (subst (IsClashForm c) (same_one _ _ _ (sym h.1 ∙ k.1)) h.2) k.2)
reply_once (reply.Clash c) reply.Full d h k = absurd (text_not_one _ _ _ (sym k ∙ h.1))
reply_once reply.Full (reply.Fired n) d h k = absurd (text_not_one _ _ _ (sym h ∙ k.1))
reply_once reply.Full (reply.Stale m) d h k = absurd (text_not_one _ _ _ (sym h ∙ k.1))
reply_once reply.Full (reply.Clash e) d h k = absurd (text_not_one _ _ _ (sym h ∙ k.1))
reply_once reply.Full reply.Full d h k = refl

-- the values of a read are no reply to a fire
pub no_reply : (r : Reply) (k l : List ℕ) (a b : Data) → IsReplyForm r (two_of k a l b) → ⊥
no_reply (reply.Fired n) k l a b h = one_not_two _ _ _ _ _ _ (sym h.1)
no_reply (reply.Stale m) k l a b h = one_not_two _ _ _ _ _ _ (sym h.1)
no_reply (reply.Clash c) k l a b h = one_not_two _ _ _ _ _ _ (sym h.1)
no_reply reply.Full k l a b h = text_not_two _ _ _ _ _ (sym h)

answer_once : IsOnce IsAnswerForm
answer_once (answer.Read m vs) (answer.Read n ws) d h k =
    let parts = same_two _ _ _ _ _ _ (sym h.2 ∙ k.2) in
    let count = number_once m n k.0 (subst (IsNumberForm m) parts.0 h.3) k.3 in
    let values = list_once IsValueForm value_once vs ws k.1 (subst (IsListForm IsValueForm vs) parts.1 h.4) k.4 in
    ap₂ answer.Read count values
answer_once (answer.Read m vs) (answer.Fire r) d h k = absurd (no_reply r _ _ _ _ (subst (IsReplyForm r) h.2 k))
answer_once (answer.Fire r) (answer.Read n ws) d h k = absurd (no_reply r _ _ _ _ (subst (IsReplyForm r) k.2 h))
answer_once (answer.Fire r) (answer.Fire s) d h k = ap answer.Fire (reply_once r s d h k)

-- ---- events

abbrev event : ℕ → Call → Answer → Event
event i c a = record { agent = i; call = c; answer = a }

event_same : (d e : Event) → d.agent ≡ e.agent → d.call ≡ e.call → d.answer ≡ e.answer → d ≡ e
event_same d e p q r = ap (λ i. event i d.call d.answer) p ∙ ap (λ c. event e.agent c d.answer) q ∙ ap (event e.agent e.call) r

pub event_once : IsOnce IsEventForm
event_once x y d h k =
    let same = same_three _ _ _ _ _ _ _ _ _ (sym h.3 ∙ k.3) in
    let agent = number_once x.agent y.agent k.0 (subst (IsNumberForm x.agent) same.0 h.4) k.4 in
    let asked = call_once x.call y.call k.1 (subst (IsCallForm x.call) same.1 h.5) k.5 in
    let reported = answer_once x.answer y.answer k.2 (subst (IsAnswerForm x.answer) same.2 h.6) k.6 in
    event_same x y agent asked reported

-- ---- reading

pub clash_read : (d e : Data) (o : Option Clash) → d ≡ one_of (codes "clash") e → IsParsed IsClashForm e o → IsParsed IsReplyForm d (option_map reply.Clash o)
clash_read d e (Some c) is h = (e, is, h)
clash_read d e None is h = none where
  none : (r : Reply) → IsReplyForm r d → ⊥
  none (reply.Fired n) k = fired_not_clash _ _ (sym k.1 ∙ is)
  none (reply.Stale l) k = stale_not_clash _ _ (sym k.1 ∙ is)
  none (reply.Clash c) k = h c (subst (IsClashForm c) (same_one _ _ _ (sym k.1 ∙ is)) k.2)
  none reply.Full k = text_not_one _ _ _ (sym k ∙ is)

pub no_read : (d : Data) → ((ps : List Place) → IsListForm IsLocationForm ps d → ⊥) → (c : Call) → IsCallForm c (one_of (codes "read") d) → ⊥
no_read d h (call.Read ps) k = h ps (subst (IsListForm IsLocationForm ps) (sym (same_one _ _ _ k.1)) k.2)
no_read d h (call.Fire rs M) k = one_not_two _ _ _ _ _ _ k.2

pub no_values : (n d : Data) → ((vs : List Value) → IsListForm IsValueForm vs d → ⊥) → (a : Answer) → IsAnswerForm a (two_of (codes "number") n (codes "values") d) → ⊥
no_values n d h (answer.Read m vs) k = h vs (subst (IsListForm IsValueForm vs) (sym (same_two _ _ _ _ _ _ k.2).1) k.4)
no_values n d h (answer.Fire r) k = no_reply r _ _ _ _ k

pub no_move : (m n : Data) → ((M : Move) → IsMoveForm M m → ⊥) → (c : Call) → IsCallForm c (two_of (codes "fire") m (codes "reads") n) → ⊥
no_move m n h (call.Read ps) k = one_not_two _ _ _ _ _ _ (sym k.1)
no_move m n h (call.Fire rs M) k = h M (subst (IsMoveForm M) (sym (same_two _ _ _ _ _ _ k.2).0) k.3)

pub no_reads : (m n : Data) → ((rs : List Named) → IsListForm IsNamedForm rs n → ⊥) → (c : Call) → IsCallForm c (two_of (codes "fire") m (codes "reads") n) → ⊥
no_reads m n h (call.Read ps) k = one_not_two _ _ _ _ _ _ (sym k.1)
no_reads m n h (call.Fire rs M) k = h rs (subst (IsListForm IsNamedForm rs) (sym (same_two _ _ _ _ _ _ k.2).1) k.4)
