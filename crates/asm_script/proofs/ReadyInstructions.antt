-- Instructions whose terms are written out: what they are in each state, and what they are written as.
use Rattle.std.proofs.Common.{◌≡◌, ◌+◌, ℕ, Bool, true, false, [], ◌∷◌, ◌++◌, map, Option, Some, None, Ok, refl, sym, ap}
use Rattle.std.proofs.Common.{◌∙◌, subst, append_assoc}
use Rattle.std.proofs.lemmas.List.{map-append}
use Rattle.std.specs.Prelude.{◌&&◌}
use Rattle.std.specs.List.{list_all}
use Rattle.std.specs.Option.{option_map}
use Rattle.asm_element.specs.declared.element.Element.{Element}
use Rattle.asm_element.specs.declared.value.Value.{Value}
use Rattle.asm_element.specs.declared.value.Value.TheVariants.{Plain, Set, Bag}
use Rattle.asm_update.specs.Fire.{Old}
use Rattle.asm_update.specs.Move.{Move}
use Rattle.asm_update.specs.declared.action.Action.{Action}
use Rattle.asm_update.specs.declared.action.Action.TheVariants as action
use Rattle.asm_update.specs.declared.action.Instruction.{Instruction}
use Rattle.asm_script.specs.Terms.{given_element, made_of}
use Rattle.asm_script.specs.Ready.{written_value, ready_action, ready_instruction, is_ready, as_written, written}
use Rattle.asm_script.specs.Ready.{written_form}
use Rattle.asm_script.specs.Blocks.{action_in, instruction_in, in_front, move_from, move_in, IsReady}
use Rattle.asm_script.specs.StepReads.{places_in, taken}
use Rattle.asm_script.specs.declared.block.Block.{Block}
use Rattle.asm_script.specs.declared.block.Form.{Form}
use Rattle.asm_script.specs.declared.block.Form.TheVariants.{Terms, Ready}
use Rattle.asm_script.specs.declared.block.TermAction.{TermAction}
use Rattle.asm_script.specs.declared.block.TermAction.TheVariants.{Put, Add, Remove, BagAdd, BagRemove, Increment}
use Rattle.asm_script.specs.declared.block.TermInstruction.{TermInstruction}
use Rattle.asm_script.specs.declared.term.Term.{Term}
use Rattle.asm_script.specs.declared.term.Term.TheVariants as term
use Rattle.asm_script.specs.declared.term.Term.TheVariants.{Val, Sum'}

-- ---- what is written out is the same in each state

action_gives : (old : Old) (a : Action) → action_in old (as_written a) ≡ Ok a
action_gives old (action.Regular v) = refl
action_gives old (action.SetAdd e) = refl
action_gives old (action.SetRemove e) = refl
action_gives old (action.BagAdd e n) = refl
action_gives old (action.BagRemove e n) = refl
action_gives old (action.Increment n) = refl

instruction_gives : (old : Old) (i : Instruction) → instruction_in old (written i) ≡ Ok i
instruction_gives old i = ap (made_of (λ a. record { at = i.at; action = a })) (action_gives old i.action)

move_gives : (old : Old) (n : ℕ) (M : Move) → move_from old n (map written M) ≡ Ok M
move_gives old n [] = refl
move_gives old n (i ∷ M) =
    let one = instruction_gives old i in let others = move_gives old (n + 1) M in λ x. in_front n (one x) (others x)

pub form_gives : (form : Form) (b : Block) → written_form form ≡ b → IsReady form b
form_gives (Terms terms) b is = tt
form_gives (Ready M) b is = λ old. ap (move_in old) (sym is) ∙ move_gives old 0 M

pub ready_gives : (old : Old) (form : Form) (b : Block) (M N : Move) → IsReady form b → form ≡ Ready M → N ≡ M →
    move_in old b ≡ Ok N
ready_gives old form b M N ready is same = subst (λ f. IsReady f b) is ready old ∙ ap Ok (sym same)

-- ---- what is ready is written as it was

value_back : (t : Term) (v : Value) → written_value t ≡ Some v → term.Value v ≡ t
value_back (term.Value w) v h = let e : w ≡ v = cc h in ap term.Value (sym e)
value_back (Val l) v h = absurd (cc h)
value_back (Sum' p x q y) v h = absurd (cc h)

plain_back : (t : Term) (o : Option Value) (e : Element) → written_value t ≡ o → given_element o ≡ Some e →
    term.Value (Plain e) ≡ t
plain_back t None e is h = absurd (cc h)
plain_back t (Some (Plain f)) e is h =
    let same : f ≡ e = cc h in value_back t (Plain e) (is ∙ ap (λ x. Some (Plain x)) same)
plain_back t (Some (Set s)) e is h = absurd (cc h)
plain_back t (Some (Bag b)) e is h = absurd (cc h)

-- where what is mapped is something, it was mapped from something
mapped : {X Y P : Type 0} (f : X → Y) (o : Option X) (y : Y) → option_map f o ≡ Some y →
    ((x : X) → o ≡ Some x → f x ≡ y → P) → P
mapped f None y h next = absurd (cc h)
mapped f (Some x) y h next = next x refl (cc h)

-- an action of an element, where the element is written out
of_element : (f : Element → Action) (g : Term → TermAction) → ((e : Element) → as_written (f e) ≡ g (term.Value (Plain e))) →
    (t : Term) (b : Action) → option_map f (given_element (written_value t)) ≡ Some b → as_written b ≡ g t
of_element f g same t b h =
    mapped f (given_element (written_value t)) b h
    (λ e is to. ap as_written (sym to) ∙ (same e ∙ ap g (plain_back t (written_value t) e refl is)))

action_back : (a : TermAction) (b : Action) → ready_action a ≡ Some b → as_written b ≡ a
action_back (Put t) b h =
    mapped action.Regular (written_value t) b h (λ v is to. ap as_written (sym to) ∙ ap Put (value_back t v is))
action_back (Add t) b h = of_element action.SetAdd Add (λ e. refl) t b h
action_back (Remove t) b h = of_element action.SetRemove Remove (λ e. refl) t b h
action_back (BagAdd t n) b h = of_element (λ e. action.BagAdd e n) (λ u. BagAdd u n) (λ e. refl) t b h
action_back (BagRemove t n) b h = of_element (λ e. action.BagRemove e n) (λ u. BagRemove u n) (λ e. refl) t b h
action_back (Increment n) b h = let e : action.Increment n ≡ b = cc h in ap as_written (sym e)

instruction_back : (i : TermInstruction) (j : Instruction) → ready_instruction i ≡ Some j → written j ≡ i
instruction_back i j h =
    mapped (λ a. record { at = i.at; action = a }) (ready_action i.action) j h
    (λ b is to. ap written (sym to) ∙ ap (λ a. record { at = i.at; action = a }) (action_back i.action b is))

-- ---- a list of them, one by one

both : (a b : Bool) → (a && b) ≡ true → (a ≡ true) × (b ≡ true)
both true b h = (refl, h)
both false b h = absurd (cc h)

-- what is made, in front of what is left, is all, and what is left is ready
pub record IsMadeReady (all : Block) (made : Move) (left : Block) : Type 0 where
  pub whole : map written made ++ left ≡ all
  pub rest : list_all is_ready left ≡ true

pub one_made : (all : Block) (made made' : Move) (i : TermInstruction) (j : Instruction) (left left' : Block) →
    IsMadeReady all made left → left ≡ i ∷ left' → ready_instruction i ≡ Some j → made' ≡ made ++ j ∷ [] →
    IsMadeReady all made' left'
one_made all made made' i j left left' h next is push = record {
  whole =
      ap (λ M. map written M ++ left') push
      ∙ (ap (λ (b : Block). b ++ left') (map-append written made (j ∷ []))
      ∙ (append_assoc (map written made) (written j ∷ []) left'
      ∙ (ap (λ k. map written made ++ (k ∷ left')) (instruction_back i j is)
      ∙ (ap (λ b. map written made ++ b) (sym next) ∙ h.whole))));
  rest = (both (is_ready i) (list_all is_ready left') (ap (list_all is_ready) (sym next) ∙ h.rest)).1;
}

-- ---- what is written out takes no location

no_places : (a : Action) → places_in (as_written a) ≡ []
no_places (action.Regular v) = refl
no_places (action.SetAdd e) = refl
no_places (action.SetRemove e) = refl
no_places (action.BagAdd e n) = refl
no_places (action.BagRemove e n) = refl
no_places (action.Increment n) = refl

pub none_taken : (M : Move) → taken (map written M) ≡ []
none_taken [] = refl
none_taken (i ∷ M) = ap (λ ls. ls ++ taken (map written M)) (no_places i.action) ∙ none_taken M
