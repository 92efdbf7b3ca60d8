-- What a root's record is refused for, said of the bytes; and that it isn't for a limit.
use Rattle.std.proofs.Common.{◌≡◌, ◌≢◌, ◌≤◌, ◌<◌, ◌∙◌, ap, arith, subst, sym, List, ℕ, Ok, Err, Result, IfErr, IfOk}
use Rattle.std.proofs.lemmas.Bool.{true≢false}
use Rattle.capnp_device.specs.declared.error.Error.{Error}
use Rattle.capnp_device.specs.declared.error.ErrorKind.{ErrorKind}
use Rattle.capnp_device.specs.declared.error.ErrorKind.TheVariants.{OutOfMemory, TooLarge}
use Rattle.capnp_wire.specs.Stream.{message_tree_of}
use Rattle.capnp_wire.specs.Tree.{StructTree, Tree}
use Rattle.capnp_wire.specs.Unfolded.{unfolded}
use Rattle.capnp_dynamic_readers.specs.Seen.{record_seen}
use Rattle.capnp_dynamic_readers.specs.declared.dynamic_struct.Reader.{Reader as StructHandle}
use Rattle.capnp_records.specs.Record.{Record}
use Rattle.capnp_sets.proofs.Caused.{IsSetKind}
use Rattle.capnp_sets.proofs.MessageKinds.{message_kind}
use Rattle.capnp_sets.specs.Facts.RootRead.{IsRoot, lists_refused}
use Rattle.capnp_sets.specs.Lists.{has_cause}
use Rattle.capnp_sets.specs.Message.{HasLargeMessage, IsLargeRoot, IsMessageRefusal, root_record}
use Rattle.capnp_sets.specs.Steps.MessageCauses.{IsMessageCause, IsRootCause}
use Rattle.capnp_sets.specs.Refusals.{is_set_kind}

pub lists_caused : {A : Type 0} (made : Result A Error) (bytes : List ℕ) (s : StructTree) (h : StructHandle) → IsRoot bytes s → record_seen h ≡ root_record s →
    IfErr made (λ e. e.kind ≢ OutOfMemory → has_cause (record_seen h) e.kind) → IfErr made (λ e. e.kind ≢ OutOfMemory → e.kind ≢ TooLarge → IsMessageCause bytes e.kind)
lists_caused (Ok a) bytes s h root seen f = tt
lists_caused (Err error) bytes s h root seen f = λ m n. subst (λ (r : Result StructTree ErrorKind). IsRootCause r error.kind) root (subst (λ (r : Record). has_cause r error.kind) seen (f m))

-- a kind of a set is not that of a limit
pub never_large : (kind : ErrorKind) → IsSetKind kind → kind ≡ TooLarge → ⊥
never_large kind h e = true≢false (sym h ∙ ap is_set_kind e)

refused_large : (P : Type 0) (bytes : List ℕ) (e : Error) → (e.kind ≢ OutOfMemory → IsMessageRefusal bytes e) → e.kind ≡ TooLarge → P
refused_large P bytes e f is = absurd (never_large e.kind (message_kind bytes e (f (λ m. cc))) is)

pub lists_never_large : (A P : Type 0) (made : Result A Error) (bytes : List ℕ) (s : StructTree) (h : StructHandle) → IsRoot bytes s → record_seen h ≡ root_record s →
    IfErr made (λ e. e.kind ≢ OutOfMemory → has_cause (record_seen h) e.kind) → IfErr made (λ e. e.kind ≡ TooLarge → P)
lists_never_large A P (Ok a) bytes s h root seen f = tt
lists_never_large A P (Err error) bytes s h root seen f = refused_large P bytes error (lists_refused {A = A} (Err error) bytes s h root seen f)

-- what the root leads to is within a limit
pub never_past : (bytes : List ℕ) (root x : Tree) (limit size : ℕ) → Ok root ≡ message_tree_of bytes → x ≡ root → size ≡ unfolded x → size ≤ limit → HasLargeMessage limit bytes → ⊥
never_past bytes root x limit size whole tree_is is within large =
    let past : limit < unfolded root = subst (λ (r : Result Tree ErrorKind). IsLargeRoot limit r) (sym whole) large in
    let same = ap unfolded tree_is in
    absurd (omega (arith, past, same, is, within))

pub all_fit : {A : Type 0} (made : Result A Error) (P : Type 0) → P → IfOk made (λ a. P)
all_fit (Ok a) P p = p
all_fit (Err e) P p = tt
