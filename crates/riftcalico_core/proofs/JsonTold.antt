-- Why a query has no JSON, by why its value has none.
use Rattle.std.proofs.Common.{ℕ, ◌<◌, List, false, get_or, length, Err, ap, inl, inr, subst, sym, ◌≡◌, ◌≢◌, ◌∙◌}
use Rattle.capnp_device.specs.declared.error.ErrorKind.{ErrorKind}
use Rattle.capnp_device.specs.declared.error.ErrorKind.TheVariants as kind
use Rattle.capnp_json.specs.Written.{IsRefused}
use Rattle.capnp_json.specs.declared.error.JsonError.{JsonError}
use Rattle.capnp_json.specs.declared.error.JsonError.TheVariants.{OutOfMemory, Read, TextNotUtf8, TooLarge, UntypedHasNoJson}
use Rattle.capnp_records.specs.Call.{PathStep}
use Rattle.riftcalico_core.specs.Json.{HasNoJson, IsOfJson, IsQueryJson, IsUnfit, IsWithoutJson, path_json}
use Rattle.riftcalico_core.specs.Queries.{Query}
use Rattle.riftcalico_core.specs.QueriesSeen.{asked_seen}
use Rattle.riftcalico_core.specs.Steps.Json.{HasNoLine, HaveNoLines, IsReason, IsUntoldRefusal}
use Rattle.riftcalico_core.specs.declared.fault.Fault.{Fault}
use Rattle.riftcalico_core.specs.declared.job.JsonJob.{JsonJob}
use Rattle.riftcalico_core.specs.declared.json.NoLine.{NoLine}
use Rattle.riftcalico_core.specs.declared.json.NoLine.TheVariants as why
use Rattle.riftcalico_core.specs.declared.queries.AskedQuery.{AskedQuery}
use Rattle.riftcalico_core.proofs.LinesGot.{Refuses, left_of, refused_at}

module _ (j : JsonJob) (bytes : List ℕ) (path : List PathStep) (limit : ℕ) where
  no_value : (e : JsonError) (f : Fault) → f.error.kind ≢ kind.OutOfMemory → IsRefused limit (path_json j bytes path) e → IsUntoldRefusal e f → HasNoJson limit j bytes path f
  no_value (Read k) f memory is untold = record { cause = inl (is ∙ ap (λ (x : ErrorKind). Err (Read x)) (sym untold.kind)); note = untold.note }
  no_value TooLarge f memory is untold = record { cause = inr (untold.kind, is); note = untold.note }
  no_value OutOfMemory f memory is untold = absurd (memory untold.kind)
  no_value UntypedHasNoJson f memory is untold = absurd untold.kind
  no_value TextNotUtf8 f memory is untold = absurd untold.kind

  unfit : (e : JsonError) → IsOfJson e → IsRefused limit (path_json j bytes path) e → IsUnfit false j bytes path e
  unfit UntypedHasNoJson of is = (of, is)
  unfit TextNotUtf8 of is = (of, is)
  unfit (Read kind) of is = absurd of
  unfit OutOfMemory of is = absurd of
  unfit TooLarge of is = absurd of

  pub without_value : (e : JsonError) (w : NoLine) → IsRefused limit (path_json j bytes path) e → IsReason e w → HasNoLine false limit j bytes path w
  without_value e (why.Refused f) is untold = (untold.blamed, λ memory. inr (no_value e f memory is untold))
  without_value e (why.Unfit x) is reason = subst (IsUnfit false j bytes path) (sym reason.0) (unfit e reason.1 is)

-- and why all have no lines, by the first that has none
module _ (j : JsonJob) (bytes : List ℕ) (all : List Query) where
  abbrev Without : (limit left : ℕ) → List Query → Type 0
  Without limit left qs = Refuses (IsQueryJson j bytes) all (λ f n q. IsWithoutJson q.counts n j bytes q.path f) limit left qs

  abbrev Unfit : (limit left : ℕ) → List Query → Type 0
  Unfit limit left qs = Refuses (IsQueryJson j bytes) all (λ e n q. IsUnfit q.counts j bytes q.path e) limit left qs

  pub first_without : (left : ℕ) (xs : List AskedQuery) (i : ℕ) (x : AskedQuery) (w : NoLine) → i < length xs → x ≡ get_or xs i x →
      Without j.limit left (left_of xs i) × Unfit j.limit left (left_of xs i) → HasNoLine (asked_seen x).counts left j bytes (asked_seen x).path w → HaveNoLines j bytes all w
  first_without left xs i x (why.Refused f) inside at refuses h =
      (h.0, λ memory. refused_at (IsQueryJson j bytes) all (λ f n q. IsWithoutJson q.counts n j bytes q.path f) j.limit left xs i x f inside at refuses.0 (h.1 memory))
  first_without left xs i x (why.Unfit e) inside at refuses h = refused_at (IsQueryJson j bytes) all (λ e n q. IsUnfit q.counts j bytes q.path e) j.limit left xs i x e inside at refuses.1 h
