-- Who is refused where bytes are read as a message, and its root as a struct, by what is asked of each refusal.
use Rattle.std.specs.Prelude.{ℕ, ◌+◌, ◌≡◌, Bool, true, false, cond, nat_lt, length, take, List, Result, Ok, Err, ⊤}
use Rattle.std.proofs.Common.{◌∙◌, ap, subst, sym}
use Rattle.capnp_device.specs.declared.error.ErrorKind.{ErrorKind}
use Rattle.capnp_device.specs.declared.error.ErrorKind.TheVariants.{BadPointer, CapabilityPointer, TooDeep, TooManySegments, Truncated, WrongPointerKind}
use Rattle.capnp_wire.specs.Locate.{Segments}
use Rattle.capnp_wire.specs.Reading.{as_struct}
use Rattle.capnp_wire.specs.Slot.{little_endian}
use Rattle.capnp_wire.specs.Stream.{header_bytes, message_tree_of, root_read, segments_of}
use Rattle.capnp_wire.specs.Tree as tree
use Rattle.capnp_wire.specs.Tree.{StructTree, Tree}
use Rattle.capnp_wire.specs.declared.fault.Fault.TheVariants as fault

-- a reading that is refused so, if it is
abbrev pub RefusesAs : (P : ErrorKind → Type 0) {A : Type 0} → Result A ErrorKind → Type 0
RefusesAs P (Ok a) = ⊤
RefusesAs P (Err kind) = P kind

either_as : (P : ErrorKind → Type 0) {A : Type 0} (q : Bool) (r s : Result A ErrorKind) → RefusesAs P r → RefusesAs P s → RefusesAs P (cond q r s)
either_as P true r s h k = h
either_as P false r s h k = k

-- ---- the stream ----

module _ (P : ErrorKind → Type 0) (short : P Truncated) (many : P TooManySegments) where
  segments_as : (bytes : List ℕ) → RefusesAs P (segments_of bytes)
  segments_as bytes =
      either_as P (nat_lt (length bytes) 4) _ _ short
      (either_as P (nat_lt 512 (little_endian (take 4 bytes) + 1)) _ _ many
      (either_as P (nat_lt (length bytes) (header_bytes (little_endian (take 4 bytes) + 1))) _ _ short
      (either_as P (nat_lt (length bytes) _) _ _ short tt)))

  root_as : (r : Result Segments ErrorKind) → RefusesAs P r → RefusesAs P (root_read r)
  root_as (Ok segments) h = tt
  root_as (Err kind) h = h

  pub message_as : (bytes : List ℕ) → RefusesAs P (message_tree_of bytes)
  message_as bytes = root_as (segments_of bytes) (segments_as bytes)

  pub message_refused : (bytes : List ℕ) (kind : ErrorKind) → Err kind ≡ message_tree_of bytes → P kind
  message_refused bytes kind e = subst (λ (r : Result Tree ErrorKind). RefusesAs P r) (sym e) (message_as bytes)

-- ---- the root ----

module _ (P : ErrorKind → Type 0) (wrong : P WrongPointerKind) (bad : P BadPointer) (deep : P TooDeep) (capability : P CapabilityPointer) where
  pub struct_as : (x : Tree) → RefusesAs P (as_struct x 64)
  struct_as tree.Null = tt
  struct_as (tree.Struct bytes ps) = tt
  struct_as (tree.Voids n) = wrong
  struct_as (tree.Bits bs) = wrong
  struct_as (tree.Numbers w bytes) = wrong
  struct_as (tree.Pointers ps) = wrong
  struct_as (tree.Composite d p es) = wrong
  struct_as (tree.FaultLeaf fault.BadPointer) = bad
  struct_as (tree.FaultLeaf fault.TooDeep) = deep
  struct_as (tree.FaultLeaf fault.CapabilityPointer) = capability

  pub struct_refused : (x : Tree) (n : ℕ) (kind : ErrorKind) → n ≡ 64 → Err kind ≡ as_struct x n → P kind
  struct_refused x n kind levels e = subst (λ (r : Result StructTree ErrorKind). RefusesAs P r) (sym (e ∙ ap (as_struct x) levels)) (struct_as x)
