-- Refusals by their kinds: for want of memory, by a device, or else.
use Rattle.std.proofs.Common.{◌≡◌, ◌≢◌, ◌⊎◌, inl, inr, refl}
use Rattle.capnp_device.specs.declared.error.ErrorKind.{ErrorKind}
use Rattle.capnp_device.specs.declared.error.ErrorKind.TheVariants.{OutOfMemory, ReadFailed, WriteFailed}

pub by_memory : {A : Type 0} (kind : ErrorKind) → (kind ≢ OutOfMemory → A) → (kind ≡ OutOfMemory) ⊎ A
by_memory OutOfMemory h = inl refl
by_memory kind h = inr (h (λ e. cc))

pub by_read : {A : Type 0} (kind : ErrorKind) → (kind ≢ ReadFailed → kind ≡ OutOfMemory) → (kind ≡ ReadFailed → A) → ((kind ≡ ReadFailed) × A) ⊎ (kind ≡ OutOfMemory)
by_read ReadFailed h a = inl (refl, a refl)
by_read kind h a = inr (h (λ e. cc))

pub by_file : {A B : Type 0} (kind : ErrorKind) → (kind ≢ ReadFailed → kind ≡ OutOfMemory) → (kind ≡ ReadFailed → A) → B → ((kind ≡ ReadFailed) × A) ⊎ ((kind ≡ OutOfMemory) × B)
by_file ReadFailed h a b = inl (refl, a refl)
by_file kind h a b = inr (h (λ e. cc), b)

pub by_write : {A B : Type 0} (kind : ErrorKind) → (kind ≢ OutOfMemory → kind ≡ WriteFailed) → (kind ≡ WriteFailed → A) → (kind ≢ WriteFailed → B) →
    ((kind ≡ WriteFailed) × A) ⊎ ((kind ≡ OutOfMemory) × B)
by_write OutOfMemory h a b = inr (refl, b (λ e. cc))
by_write kind h a b = let w = h (λ e. cc) in inl (w, a w)
