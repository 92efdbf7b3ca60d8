-- A refusal that is passed on.
use Rattle.std.proofs.Common.{◌≡◌, ◌≢◌, subst, sym, Result, Err, IfErr}
use Rattle.std.proofs.lemmas.Result.{err_from_is_err_and}
use Rattle.std.specs.Result.{IsErrAnd}
use Rattle.capnp_device.specs.declared.error.Error.{Error}
use Rattle.capnp_device.specs.declared.error.ErrorKind.TheVariants.{OutOfMemory}
use Rattle.capnp_request.specs.Steps.Done.{IsWorkDone, IsSaid}
use Rattle.capnp_request.specs.Terms.{Said}
use Rattle.capnp_request.specs.Work.{Named, Work}

pub err_if : {B : Type 0} (P : Error → Type 0) (r : Result B Error) (e : Error) → IsErrAnd r (λ y. y ≡ e) → P e → IfErr r P
err_if P r e h p =
    let q = err_from_is_err_and r h in
    subst (λ x. IfErr x P) (sym q.1) (subst P (sym q.2) p)

pub err_done : {A B : Type 0} (seen : B → A) (w : Work A) (s t : Named) (r : Result B Error) (e : Error) → IsErrAnd r (λ y. y ≡ e) → (e.kind ≢ OutOfMemory → w s ≡ Err e.kind) → IsWorkDone seen w s t r
err_done seen w s t r e h f =
    let q = err_from_is_err_and r h in
    subst (IsWorkDone seen w s t) (sym q.1) (subst (λ (z : Error). z.kind ≢ OutOfMemory → w s ≡ Err z.kind) (sym q.2) f)

pub err_said : {A B : Type 0} (seen : B → A) (d : Said A) (r : Result B Error) (e : Error) → IsErrAnd r (λ y. y ≡ e) → (e.kind ≢ OutOfMemory → d ≡ Err e.kind) → IsSaid seen d r
err_said seen d r e h f =
    let q = err_from_is_err_and r h in
    subst (IsSaid seen d) (sym q.1) (subst (λ (z : Error). z.kind ≢ OutOfMemory → d ≡ Err z.kind) (sym q.2) f)
