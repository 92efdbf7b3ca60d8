-- Why one change has no line, as why several have none.
use Rattle.std.proofs.Common.{ℕ, ◌<◌, List, drop, get_or, length, string_bytes, ◌≡◌}
use Rattle.capnp_diffs.specs.declared.change.Change.{Change as FoundChange}
use Rattle.capnp_schema.specs.declared.schema.structs.StructSchema.{StructSchema}
use Rattle.riftcalico_core.specs.Diffs.{IsLine, IsLineless, IsUntoldLine}
use Rattle.riftcalico_core.specs.Steps.Wordless.{AreWithoutLines, IsWithoutLine}
use Rattle.riftcalico_core.specs.declared.change_line.NoWord.{NoWord}
use Rattle.riftcalico_core.specs.declared.diff.NoLines.{NoLines}
use Rattle.riftcalico_core.specs.declared.diff.NoLines.TheVariants as lines
use Rattle.riftcalico_core.specs.declared.fault.Fault.{Fault}
use Rattle.riftcalico_core.proofs.ChangesLined.{Refuses, refused_at}

abbrev pub lineless : StructSchema → Fault → ℕ → FoundChange → Type 0
lineless s f left c = IsLineless left s c f

abbrev pub untold : StructSchema → NoWord × List ℕ → ℕ → FoundChange → Type 0
untold s w left c = IsUntoldLine left s c w.0 w.1

pub first_without : (s : StructSchema) (limit left : ℕ) (xs : List FoundChange) (i : ℕ) (x : FoundChange) (why : NoLines) → i < length xs → x ≡ get_or xs i x →
    Refuses (IsLine s) xs (lineless s) limit left (drop i xs) × Refuses (IsLine s) xs (untold s) limit left (drop i xs) → IsWithoutLine left s x why → AreWithoutLines limit s xs why
first_without s limit left xs i x (lines.Refused f) inside at refuses h =
    (h.0, λ memory. refused_at (IsLine s) xs (lineless s) limit left xs i x f inside at refuses.0 (h.1 memory))
first_without s limit left xs i x (lines.Told told) inside at refuses h =
    (h.0, refused_at (IsLine s) xs (untold s) limit left xs i x (h.0, string_bytes told) inside at refuses.1 h.1)
