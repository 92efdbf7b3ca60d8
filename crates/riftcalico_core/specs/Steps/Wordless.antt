-- Why changes have no lines, step by step.
use Rattle.std.specs.Prelude.{ℕ, ⊤, ◌<◌, ◌≡◌, ◌≢◌, ◌⊎◌, List, length, string_bytes}
use Rattle.capnp_device.specs.declared.error.ErrorKind.{ErrorKind}
use Rattle.capnp_device.specs.declared.error.ErrorKind.TheVariants as kind
use Rattle.capnp_call.specs.declared.calls.Op.{Op}
use Rattle.capnp_diffs.specs.declared.change.Change.{Change as FoundChange}
use Rattle.capnp_dynamic_readers.specs.declared.dynamic_value.Reader.{Reader as DynamicValue}
use Rattle.capnp_dynamic_readers.specs.declared.dynamic_value.Reader.TheVariants as dynamic
use Rattle.capnp_json.specs.declared.error.JsonError.TheVariants.{OutOfMemory, Read, TooLarge}
use Rattle.capnp_records.specs.Call.{PathStep}
use Rattle.capnp_schema.specs.declared.schema.structs.StructSchema.{StructSchema}
use Rattle.riftcalico_core.specs.Diffs.{IsLine, IsLineless, IsOpLong, IsOpWordless, IsUntoldLine}
use Rattle.riftcalico_core.specs.Lines.{IsFirstOf}
use Rattle.riftcalico_core.specs.declared.change_line.NoWord.{NoWord}
use Rattle.riftcalico_core.specs.declared.change_line.NoWord.TheVariants as none
use Rattle.riftcalico_core.specs.declared.diff.NoLines.{NoLines}
use Rattle.riftcalico_core.specs.declared.diff.NoLines.TheVariants as lines
use Rattle.riftcalico_core.specs.declared.fault.Blamed.TheVariants as blamed

-- the refusal of a text as a cause
abbrev pub cause_of : ErrorKind → NoWord
cause_of kind.OutOfMemory = none.Refused OutOfMemory
cause_of kind.TooLarge = none.Refused TooLarge
cause_of k = none.Refused (Read k)

-- values without parts
abbrev pub IsLeaf : DynamicValue → Type 0
IsLeaf (dynamic.Struct s) = ⊥
IsLeaf (dynamic.List l) = ⊥
IsLeaf (dynamic.AnyPointer p) = ⊥
IsLeaf v = ⊤

-- structs and lists
abbrev pub IsWhole : DynamicValue → Type 0
IsWhole (dynamic.Struct s) = ⊤
IsWhole (dynamic.List l) = ⊤
IsWhole v = ⊥

-- a line has not so many bytes, or there is no memory for it
abbrev pub IsLineCut : (left : ℕ) → (line : List ℕ) → NoWord → Type 0
IsLineCut left line why = (why ≡ none.Refused OutOfMemory) ⊎ ((why ≡ none.Refused TooLarge) × (left < length line))

-- along a path there is no line, for this cause
abbrev pub HasNoLine : (left : ℕ) → StructSchema → List PathStep → Op → NoWord → Type 0
HasNoLine left s path op (none.Refused OutOfMemory) = ⊤
HasNoLine left s path op (none.Refused TooLarge) = IsOpLong left s path op
HasNoLine left s path op why = IsOpWordless left s path op why

-- a change has none
abbrev pub IsWithoutLine : (left : ℕ) → StructSchema → FoundChange → NoLines → Type 0
IsWithoutLine left s c (lines.Refused f) = (f.blamed ≡ blamed.Calls) × (f.error.kind ≢ kind.OutOfMemory → IsLineless left s c f)
IsWithoutLine left s c (lines.Told told) = (why : NoWord) × IsUntoldLine left s c why (string_bytes told)

-- of several the first that has none
abbrev pub AreWithoutLines : (limit : ℕ) → StructSchema → List FoundChange → NoLines → Type 0
AreWithoutLines limit s cs (lines.Refused f) =
    (f.blamed ≡ blamed.Calls) × (f.error.kind ≢ kind.OutOfMemory → IsFirstOf (IsLine s) (λ left c. IsLineless left s c f) limit cs)
AreWithoutLines limit s cs (lines.Told told) =
    (why : NoWord) × IsFirstOf (IsLine s) (λ left c. IsUntoldLine left s c why (string_bytes told)) limit cs
