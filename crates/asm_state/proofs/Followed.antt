-- A state that followed a move stands for one move more.
use Rattle.std.proofs.Common.{◌≡◌, ℕ, ◌+◌, cond, ◌&&◌, List, [], ◌∷◌, ◌++◌, length, Option, Some, None, Ok, Err, Result, is_ok, is_some, unwrap_or, length-append, refl, sym, ap, ◌∙◌, subst, arith}
use Rattle.std.specs.FinMap as map
use Rattle.asm_element.specs.Place.{Place, location_cmp_total, location_cmp-IsAntisymmetric}
use Rattle.asm_element.specs.declared.value.Value.{Value}
use Rattle.asm_update.specs.Move.{Move, writes}
use Rattle.asm_update.specs.State.{State, Updates, val, overwrite}
use Rattle.asm_update.specs.Fire.{Part, Old, aggregated, overwritten, fire, state_or, state_of, IsUpdateSet, IsLeastClash}
use Rattle.asm_update.specs.declared.clash.Clash.{Clash}
use Rattle.asm_update.proofs.FireLemmas.{aggregated-update_set, aggregated-clash, val-overwrite, stored_reads, has_updated}
use Rattle.asm_state.specs.declared.entries.WrittenValue.{WrittenValue}
use Rattle.asm_state.specs.View.{StateView, value_over, writer_of, value_at, writer_at}
use Rattle.asm_state.specs.FollowsFrom.{FollowsFrom, overwrites, writer}
use Rattle.asm_state.specs.Follow.{entry_after, IsFollowed}
use Rattle.asm_state.proofs.Writers.{state_of-push, writer_from-push}

value_after : (n : ℕ) (v : Value) (u : Option Value) (x : Option WrittenValue) → value_over v (entry_after n u x) ≡ unwrap_or u (value_over v x)
value_after n v (Some w) x = stored_reads w
value_after n v None x = refl

writer_after : (n : ℕ) (u : Option Value) (x : Option WrittenValue) → writer_of (entry_after n u x) ≡ cond (is_some u) n (writer_of x)
writer_after n (Some v) x = refl
writer_after n None x = refl

module _ (part : Part) (init : State) (q : List Move) (old new : StateView) (M : Move) (stands : FollowsFrom part init old q) (followed : IsFollowed part old M new) where
  A : State
  A = state_of part init q

  same : value_at old ≡ val (state_of part init q)
  same = λ i l. stands.values l i

  number_more : new.number ≡ length (q ++ M ∷ [])
  number_more = omega (arith, followed.number, stands.number, length-append q (M ∷ []))

  fires_is : (U : Updates) → aggregated part (value_at old) M ≡ Ok U → fire part (state_of part init q) M ≡ Ok (overwrite (state_of part init q) U)
  fires_is U e = ap (λ (o : Old). overwritten (state_of part init q) (aggregated part o M)) (sym same) ∙ ap (overwritten (state_of part init q)) e

  clashes_is : (c : Clash) → aggregated part (value_at old) M ≡ Err c → fire part (state_of part init q) M ≡ Err c
  clashes_is c e = ap (λ (o : Old). overwritten (state_of part init q) (aggregated part o M)) (sym same) ∙ ap (overwritten (state_of part init q)) e

  writer_more : (l : Place) → writer part init (q ++ M ∷ []) l ≡ cond (overwrites part (state_of part init q) M l) (old.number + 1) (writer part init q l)
  writer_more l =
      let count : 0 + length q + 1 ≡ old.number + 1 = omega (arith, stands.number) in
      writer_from-push part init 0 q l 0 M ∙ ap (λ k. cond (overwrites part (state_of part init q) M l) k (writer part init q l)) count

  after_fired : (U : Updates) → aggregated part (value_at old) M ≡ Ok U → FollowsFrom part init new (q ++ M ∷ [])
  after_fired U e =
      let fired = fires_is U e in
      let updates = (aggregated-update_set part (value_at old) M U).0 e in
      record {
        number = number_more;
        values = λ l.
            ap (λ (B : State). value_over (val B l) (map.get new.entries l)) followed.base ∙ ap (value_over (val old.base l)) (followed.fired U e l)
            ∙ value_after (old.number + 1) (val old.base l) (map.get U l) (map.get old.entries l)
            ∙ ap (unwrap_or (map.get U l)) (stands.values l) ∙ sym (val-overwrite (state_of part init q) U l)
            ∙ ap (λ r. val (state_or (state_of part init q) r) l) (sym fired) ∙ ap (λ (B : State). val B l) (sym (state_of-push part init q M));
        writers = λ l.
            ap writer_of (followed.fired U e l) ∙ writer_after (old.number + 1) (map.get U l) (map.get old.entries l)
            ∙ ap (λ b. cond b (old.number + 1) (writer_at old l)) (has_updated part (value_at old) M U updates l)
            ∙ ap (cond (writes M l) (old.number + 1)) (stands.writers l)
            ∙ ap (λ (r : Result State Clash). cond (is_ok r && writes M l) (old.number + 1) (writer part init q l)) (sym fired)
            ∙ sym (writer_more l);
      }

  after_clashed : (c : Clash) → aggregated part (value_at old) M ≡ Err c → FollowsFrom part init new (q ++ M ∷ [])
  after_clashed c e =
      let clashed = clashes_is c e in
      let entries = followed.clashed c e in
      record {
        number = number_more;
        values = λ l.
            ap (λ (B : State). value_over (val B l) (map.get new.entries l)) followed.base
            ∙ ap (λ (m : map.FinMap _ WrittenValue). value_over (val old.base l) (map.get m l)) entries ∙ stands.values l
            ∙ ap (λ r. val (state_or (state_of part init q) r) l) (sym clashed) ∙ ap (λ (B : State). val B l) (sym (state_of-push part init q M));
        writers = λ l.
            ap (λ (m : map.FinMap _ WrittenValue). writer_of (map.get m l)) entries ∙ stands.writers l
            ∙ ap (λ (r : Result State Clash). cond (is_ok r && writes M l) (old.number + 1) (writer part init q l)) (sym clashed)
            ∙ sym (writer_more l);
      }

  pub stands_more : FollowsFrom part init new (q ++ M ∷ [])
  stands_more = by_answer (aggregated part (value_at old) M) refl where
    by_answer : (r : Result Updates Clash) → aggregated part (value_at old) M ≡ r → FollowsFrom part init new (q ++ M ∷ [])
    by_answer (Ok U) e = after_fired U e
    by_answer (Err c) e = after_clashed c e

module _ (part : Part) (old new : StateView) (M : Move) where
  -- from an update set whose locations were written
  pub followed_fired : (U : Updates) → IsUpdateSet part (value_at old) M U → new.number ≡ old.number + 1 → new.base ≡ old.base → ((l : Place) → map.get new.entries l ≡ entry_after (old.number + 1) (map.get U l) (map.get old.entries l)) → IsFollowed part old M new
  followed_fired U is number base written =
      let has = (aggregated-update_set part (value_at old) M U).1 is in
      record {
        number = number;
        base = base;
        fired = λ V e. let same : U ≡ V = cc (sym has ∙ e) in subst (λ (W : Updates). (l : Place) → map.get new.entries l ≡ entry_after (old.number + 1) (map.get W l) (map.get old.entries l)) same written;
        clashed = λ c e. absurd (let no : Ok U ≡ Err c = sym has ∙ e in cc);
      }

  pub followed_clashed : (c : Clash) → IsLeastClash part (value_at old) M c → new.number ≡ old.number + 1 → new.base ≡ old.base → new.entries ≡ old.entries → IsFollowed part old M new
  followed_clashed c is number base same =
      let has = (aggregated-clash part (value_at old) M c).1 is in
      record {
        number = number;
        base = base;
        fired = λ V e. absurd (let no : Ok V ≡ Err c = sym e ∙ has in cc);
        clashed = λ d e. same;
      }

  -- it pins the state: a move that is followed in another way leaves the same one
  pub followed_alike : (other : StateView) → IsFollowed part old M new → IsFollowed part old M other → new ≡ other
  followed_alike other one two = by_answer (aggregated part (value_at old) M) refl where
    number : new.number ≡ other.number
    number = one.number ∙ sym two.number

    base : new.base ≡ other.base
    base = one.base ∙ sym two.base

    whole : new.entries ≡ other.entries → new ≡ other
    whole entries i = record { number = number i; base = base i; entries = entries i }

    by_answer : (r : Result Updates Clash) → aggregated part (value_at old) M ≡ r → new ≡ other
    by_answer (Ok U) e =
        whole (map.same_map location_cmp_total location_cmp-IsAntisymmetric new.entries other.entries
        (λ l. one.fired U e l ∙ sym (two.fired U e l)))
    by_answer (Err c) e = whole (one.clashed c e ∙ sym (two.clashed c e))
