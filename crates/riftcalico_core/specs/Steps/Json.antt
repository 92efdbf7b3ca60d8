-- Refusals of JSON before it is said of which message they are.
use Rattle.std.specs.Prelude.{ℕ, ◌≡◌, ◌≢◌, List, [], true, Bool, string_bytes}
use Rattle.capnp_device.specs.declared.error.ErrorKind.TheVariants as kind
use Rattle.capnp_json.specs.declared.error.JsonError.{JsonError}
use Rattle.capnp_json.specs.declared.error.JsonError.TheVariants.{OutOfMemory, Read, TextNotUtf8, TooLarge, UntypedHasNoJson}
use Rattle.capnp_records.specs.Call.{PathStep}
use Rattle.riftcalico_core.specs.Json.{IsFirstUnfit, IsFirstWithout, IsOfJson, IsUnfit, IsWithoutJson, json_refusal_line}
use Rattle.riftcalico_core.specs.Queries.{Query}
use Rattle.riftcalico_core.specs.declared.answer.Answer.{Answer}
use Rattle.riftcalico_core.specs.declared.answer.Output.TheVariants as output
use Rattle.riftcalico_core.specs.declared.fault.Blamed.TheVariants as blamed
use Rattle.riftcalico_core.specs.declared.fault.Fault.{Fault}
use Rattle.riftcalico_core.specs.declared.job.JsonJob.{JsonJob}
use Rattle.riftcalico_core.specs.declared.json.NoLine.{NoLine}
use Rattle.riftcalico_core.specs.declared.json.NoLine.TheVariants as why

pub record IsToldRefusal (e : JsonError) (a : Answer) : Type 0 where
  pub told : string_bytes a.lines ≡ json_refusal_line e
  pub refused : a.refused ≡ true
  pub output : a.output ≡ output.Nothing

-- the others, with their numbers
abbrev pub IsUntold : JsonError → Fault → Type 0
IsUntold (Read k) f = f.error.kind ≡ k
IsUntold TooLarge f = f.error.kind ≡ kind.TooLarge
IsUntold OutOfMemory f = f.error.kind ≡ kind.OutOfMemory
IsUntold UntypedHasNoJson f = ⊥
IsUntold TextNotUtf8 f = ⊥

pub record IsUntoldRefusal (e : JsonError) (f : Fault) : Type 0 where
  pub kind : IsUntold e f
  pub note : string_bytes f.note ≡ []
  pub blamed : f.blamed ≡ blamed.Input

-- a refusal of JSON as the reason that a query has none
abbrev pub IsReason : JsonError → NoLine → Type 0
IsReason e (why.Refused f) = IsUntoldRefusal e f
IsReason e (why.Unfit x) = (x ≡ e) × IsOfJson e

-- a query has no line, for a refusal or for one that no message has
abbrev pub IsFaultFor : Fault → (so : Type 0) → Type 0
IsFaultFor f so = (f.blamed ≡ blamed.Input) × (f.error.kind ≢ kind.OutOfMemory → so)

abbrev pub HasNoLine : (counts : Bool) → (left : ℕ) → JsonJob → (bytes : List ℕ) → List PathStep → NoLine → Type 0
HasNoLine counts left j bytes path (why.Refused f) = IsFaultFor f (IsWithoutJson counts left j bytes path f)
HasNoLine counts left j bytes path (why.Unfit e) = IsUnfit counts j bytes path e

-- one of several has none
abbrev pub HaveNoLines : JsonJob → (bytes : List ℕ) → List Query → NoLine → Type 0
HaveNoLines j bytes qs (why.Refused f) = IsFaultFor f (IsFirstWithout j bytes qs f)
HaveNoLines j bytes qs (why.Unfit e) = IsFirstUnfit j bytes qs e
