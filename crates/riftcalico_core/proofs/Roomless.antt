-- A copy is refused as it was, and for want of memory only where the limit is the cause.
use Rattle.std.proofs.Common.{◌≡◌, ◌≢◌, inl, inr, Bool, true, false, List, ℕ, true≢false, refl, sym, ap, ◌∙◌, subst}
use Rattle.capnp_call.proofs.Behind.{is_memory, memory_is}
use Rattle.capnp_device.specs.declared.error.ErrorKind.{ErrorKind}
use Rattle.capnp_device.specs.declared.error.ErrorKind.TheVariants.{OutOfMemory}
use Rattle.capnp_patch.specs.Patches.{IsUnread}
use Rattle.riftcalico_core.specs.Answers.{IsUnpatched}
use Rattle.riftcalico_core.specs.Room.{IsPastLimit}

pub unpatched : (limit : ℕ) (bytes : List ℕ) (kind told : ErrorKind) → (kind ≢ OutOfMemory → IsUnread bytes kind) → (kind ≢ OutOfMemory → told ≡ kind)
    → (kind ≡ OutOfMemory → told ≢ OutOfMemory → IsPastLimit limit told) → told ≢ OutOfMemory → IsUnpatched limit bytes told
unpatched limit bytes kind told unread same past other = go (is_memory kind) refl
  where
    go : (q : Bool) → is_memory kind ≡ q → IsUnpatched limit bytes told
    go true h = inr (past (memory_is kind h) other)
    go false h =
        let no : kind ≢ OutOfMemory = λ e. true≢false (sym (ap is_memory e) ∙ h) in
        inl (subst (λ (k : ErrorKind). IsUnread bytes k) (sym (same no)) (unread no))
