-- What reading a part says of it, behind a step of the fault's path.
use Rattle.std.proofs.Common.{◌≡◌, Result, Ok, Err, sym, subst}
use Rattle.std.specs.Prelude.{IsErrAnd}
use Rattle.asm_journal.specs.declared.form.fault.FormError.{FormError}
use Rattle.asm_journal.specs.Form.{IsFault, IsRead, IsCarried}

ok_is : {X E : Type 0} (x y : X) → ◌≡◌ {A = Result X E} (Ok x) (Ok y) → x ≡ y
ok_is x y e = cc

pub carried_ok : {X J : Type 0} (F : X → J → Type 0) (d : J) (r : Result X FormError) (x : X) → IsRead F d r → IsCarried r (Ok x) → F x d
carried_ok F d (Ok y) x read is = subst (λ z. F z d) (ok_is y x (sym is)) read
carried_ok F d (Err e) x read is = absurd is

pub carried_err : {X J : Type 0} (F : X → J → Type 0) (d : J) (r : Result X FormError) (e : FormError) → IsRead F d r → IsCarried r (Err e) → IsFault e → (x : X) → F x d → ⊥
carried_err F d (Ok y) e read is = absurd cc
carried_err F d (Err e) f read is = λ fault. read (is fault)

-- what `?` returns of an error
pub refused : {X J : Type 0} (F : X → J → Type 0) (d : J) (r : Result X FormError) (e : FormError) → IsErrAnd r (λ f. f ≡ e) → (IsFault e → (x : X) → F x d → ⊥) → IsRead F d r
refused F d (Ok x) e is none = absurd is
refused F d (Err f) e is none = subst (λ g. IsFault g → (x : _) → F x d → ⊥) (sym is) none

-- what was read of a part is read with the longer path, too
pub carried : {X J : Type 0} (F : X → J → Type 0) (d : J) (r s : Result X FormError) → IsRead F d r → IsCarried r s → IsRead F d s
carried F d (Ok y) s read is = subst (λ q. IsRead F d q) (sym is) read
carried F d (Err e) (Ok x) read is = absurd is
carried F d (Err e) (Err f) read is = λ fault. read (is fault)
