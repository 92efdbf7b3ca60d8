-- A plan under its set: the struct of its root, and the values of its calls.
use Rattle.std.specs.Prelude.{ℕ, ◌+◌, ◌-◌, ◌*◌, ◌^◌, ◌≡◌, ◌≤◌, ◌⊎◌, ⊤, List, [], get_or, length, map, min, Bool, true, false, Option, Some, None, Ok, Err, string_bytes}
use Rattle.std.specs.Option.{option_map}
use Rattle.capnp_device.specs.declared.error.Error.{Error}
use Rattle.capnp_device.specs.declared.error.ErrorKind.TheVariants.{NameNotFound, TooLarge}
use Rattle.capnp_call.specs.Seen.{path_seen}
use Rattle.capnp_queries.specs.Floats.{floats_at}
use Rattle.capnp_records.specs.Run.{root_type}
use Rattle.capnp_schema.specs.Accepted.{IsAccepted}
use Rattle.capnp_schema.specs.Builtin.{builtin}
use Rattle.capnp_schema.specs.ByName.{brand_asked}
use Rattle.capnp_schema.specs.Entries.{lists_seen}
use Rattle.capnp_schema.specs.Schema.{Schemas}
use Rattle.capnp_schema.specs.StructHandles.{IsStruct, number_of, set_of}
use Rattle.capnp_schema.specs.declared.schema.structs.StructSchema.{StructSchema}
use Rattle.capnp_sets.specs.Message.{HasLargeMessage, IsMessageRefusal, IsPastLimit, message_set}
use Rattle.capnp_sets.specs.Unfolded.{values_size}
use Rattle.riftcalico_core.specs.Calls.{IsCallRead, given_type}
use Rattle.riftcalico_core.specs.CallsSeen.{read_act_seen}
use Rattle.riftcalico_core.specs.Plans.{CallsPlan, CheckPlan, ComparePlan, DiffPlan, FromJsonPlan, GetPlan, JsonPlan, Plan, check_plan, compatible_plan, convert_plan, diff_plan, fields_plan, from_json_plan, get_plan, help_plan, json_plan, new_plan, patch_plan, structs_plan, version_plan}
use Rattle.riftcalico_core.specs.Gets.{queries_of}
use Rattle.riftcalico_core.specs.Json.{json_queries}
use Rattle.riftcalico_core.specs.Reads.{AreRead, value_line_at}
use Rattle.riftcalico_core.specs.Wanted.{wanted_note}
use Rattle.riftcalico_core.specs.Notes.{name_note}
use Rattle.riftcalico_core.specs.declared.fault.Blamed.TheVariants as blamed
use Rattle.riftcalico_core.specs.declared.fault.Fault.{Fault}
use Rattle.riftcalico_core.specs.declared.job.CallsJob.{CallsJob}
use Rattle.riftcalico_core.specs.declared.job.CheckJob.{CheckJob}
use Rattle.riftcalico_core.specs.declared.job.CompareJob.{CompareJob}
use Rattle.riftcalico_core.specs.declared.job.DiffJob.{DiffJob}
use Rattle.riftcalico_core.specs.declared.job.FromJsonJob.{FromJsonJob}
use Rattle.riftcalico_core.specs.declared.job.GetJob.{GetJob}
use Rattle.riftcalico_core.specs.declared.job.JsonJob.{JsonJob}
use Rattle.riftcalico_core.specs.declared.job.Job.{Job}
use Rattle.riftcalico_core.specs.declared.job.Job.TheVariants as job
use Rattle.capnp_words.specs.Calls.{CallText}
use Rattle.capnp_words.specs.Targets.{type_along}

-- ---- the set ----

-- How much there may be of what pointers lead to in a set of so many bytes: what a limit allows, and what a set without shared
-- targets has.
abbrev pub set_room : (limit count : ℕ) → ℕ
set_room limit count = min (limit + 8 * count) (2 ^ 64 - 1)

-- there is more in the message of a set, or in its values, than there may be
abbrev pub IsSetPast : (limit : ℕ) → (bytes : List ℕ) → Error → Type 0
IsSetPast limit bytes e = (e.kind ≡ TooLarge) × IsPastLimit (set_room limit (length bytes)) bytes

-- the set of these bytes, which is accepted, and of which there is no more than there may be
pub record IsSetIn (limit : ℕ) (bytes : List ℕ) (set : Schemas) : Type 0 where
  pub read : message_set bytes ≡ Some set
  pub accepted : IsAccepted set
  pub message : HasLargeMessage (set_room limit (length bytes)) bytes → ⊥
  pub values : values_size set ≤ set_room limit (length bytes)

-- the built-in one where no file is named; else that of the message in these bytes
abbrev pub IsSetOfFile : (limit : ℕ) → (file : Option (List ℕ)) → (bytes : List ℕ) → Schemas → Type 0
IsSetOfFile limit None bytes set = set ≡ builtin
IsSetOfFile limit (Some path) bytes set = IsSetIn limit bytes set

-- these bytes give no set within a limit
abbrev pub IsNoSetIn : (limit : ℕ) → (bytes : List ℕ) → Error → Type 0
IsNoSetIn limit bytes e = IsMessageRefusal bytes e ⊎ IsSetPast limit bytes e

abbrev pub IsNoSetOf : (limit : ℕ) → (file : Option (List ℕ)) → (bytes : List ℕ) → Error → Type 0
IsNoSetOf limit None bytes e = ⊥
IsNoSetOf limit (Some path) bytes e = IsNoSetIn limit bytes e

-- ---- the struct of the root, and what is done ----

-- the struct that the set has under a name
pub record IsNamedStruct (set : Schemas) (name : List ℕ) (s : StructSchema) : Type 0 where
  pub stands : IsStruct s
  pub of_set : set_of s ≡ set
  pub named : brand_asked set name ≡ Some (number_of s)

-- it has none, and that is the refusal, which tells the names that may have been meant
pub record IsNotNamed (set : Schemas) (name : List ℕ) (f : Fault) : Type 0 where
  pub kind : f.error.kind ≡ NameNotFound
  pub blamed : f.blamed ≡ blamed.Name
  pub missing : brand_asked set name ≡ None
  pub meant : string_bytes f.note ≡ name_note set name

pub record IsGetJob (p : GetPlan) (set : Schemas) (j : GetJob) : Type 0 where
  pub schema : IsNamedStruct set p.root.name j.schema
  pub queries : queries_of j ≡ p.queries
  pub raw : j.raw ≡ p.raw
  pub with_paths : j.with_paths ≡ p.with_paths
  pub indented : j.indented ≡ p.indented
  pub packed : j.packed ≡ p.packed
  pub limit : j.limit ≡ p.limit

pub record IsJsonJob (p : JsonPlan) (set : Schemas) (j : JsonJob) : Type 0 where
  pub schema : IsNamedStruct set p.root.name j.schema
  pub queries : json_queries j ≡ p.queries
  pub indented : j.indented ≡ p.indented
  pub packed : j.packed ≡ p.packed
  pub limit : j.limit ≡ p.limit

pub record IsFromJsonJob (p : FromJsonPlan) (set : Schemas) (j : FromJsonJob) : Type 0 where
  pub schema : IsNamedStruct set p.root.name j.schema
  pub strict : j.strict ≡ p.strict
  pub packed : j.packed ≡ p.packed
  pub limit : j.limit ≡ p.limit

pub record IsCheckJob (p : CheckPlan) (set : Schemas) (j : CheckJob) : Type 0 where
  pub schema : IsNamedStruct set p.root.name j.schema
  pub path : path_seen j.steps.items ≡ p.path
  pub all : j.all ≡ p.all
  pub packed : j.packed ≡ p.packed
  pub limit : j.limit ≡ p.limit

pub record IsCallsJob (p : CallsPlan) (set : Schemas) (j : CallsJob) : Type 0 where
  pub schema : IsNamedStruct set p.root.name j.schema
  pub read : AreRead (IsCallRead set (root_type set (number_of j.schema))) 0 p.texts (Ok (map read_act_seen j.calls.items))
  pub words : map (λ w. w.now) j.words.now ≡ p.words
  pub keep_going : j.keep_going ≡ p.keep_going
  pub packed : j.packed ≡ p.packed
  pub limit : j.limit ≡ p.limit

-- what stands for the value of a call or an edit of a root
abbrev pub wanted_of : Schemas → (brand : ℕ) → CallText → List ℕ
wanted_of set b c = wanted_note set (floats_at set b c.path) (given_type c.op (type_along set (root_type set b) c.path))

-- the value of a call can't be read under the root's struct, and the line tells which, and what stands for one of its type
pub record IsValueUnread (p : CallsPlan) (set : Schemas) (line : List ℕ) : Type 0 where
  pub brand : ℕ
  pub named : brand_asked set p.root.name ≡ Some brand
  pub at : ℕ × ℕ
  pub unread : AreRead (IsCallRead set (root_type set brand)) 0 p.texts (Err at)
  pub told : line ≡ value_line_at p.words at (get_or (map (wanted_of set brand) p.texts) at.0 [])

pub record IsCompareJob (p : ComparePlan) (set : Schemas) (j : CompareJob) : Type 0 where
  pub schemas : lists_seen j.schemas.now ≡ set
  pub name : option_map (λ w. w.now) j.name ≡ p.name
  pub newer : j.newer.now ≡ p.newer
  pub quiet : j.quiet ≡ p.quiet
  pub breaking_only : j.breaking_only ≡ p.breaking_only
  pub both : j.both ≡ p.both
  pub limit : j.limit ≡ p.limit

pub record IsDiffJob (p : DiffPlan) (set : Schemas) (j : DiffJob) : Type 0 where
  pub schema : IsNamedStruct set p.root.name j.schema
  pub newer : j.newer.now ≡ p.newer
  pub packed : j.packed ≡ p.packed
  pub limit : j.limit ≡ p.limit

abbrev pub IsJob : Plan → Schemas → Job → Type 0
IsJob (get_plan p) set (job.Get j) = IsGetJob p set j
IsJob (json_plan p) set (job.Json j) = IsJsonJob p set j
IsJob (from_json_plan p) set (job.FromJson j) = IsFromJsonJob p set j
IsJob (check_plan p) set (job.Check j) = IsCheckJob p set j
IsJob (patch_plan p) set (job.Patch j) = IsCallsJob p set j
IsJob (new_plan p) set (job.New j) = IsCallsJob p set j
IsJob (structs_plan file limit) set (job.Structs schemas most) = (lists_seen schemas.now ≡ set) × (most ≡ limit)
IsJob (fields_plan r limit) set (job.Fields s most) = IsNamedStruct set r.name s × (most ≡ limit)
IsJob (convert_plan strict limit) set (job.Convert given most) = (given ≡ strict) × (most ≡ limit)
IsJob (compatible_plan p) set (job.Compatible j) = IsCompareJob p set j
IsJob (diff_plan p) set (job.Diff j) = IsDiffJob p set j
IsJob (help_plan v) set (job.Help given) = given ≡ v
IsJob version_plan set job.Version = ⊤
IsJob p set j = ⊥

-- a line tells which value can't be read
abbrev pub IsLineOfPlan : Plan → Schemas → (line : List ℕ) → Type 0
IsLineOfPlan (patch_plan p) set line = IsValueUnread p set line
IsLineOfPlan (new_plan p) set line = IsValueUnread p set line
IsLineOfPlan p set line = ⊥

-- the name of a plan's root
abbrev pub root_name : Plan → Option (List ℕ)
root_name (get_plan p) = Some p.root.name
root_name (json_plan p) = Some p.root.name
root_name (from_json_plan p) = Some p.root.name
root_name (check_plan p) = Some p.root.name
root_name (patch_plan p) = Some p.root.name
root_name (new_plan p) = Some p.root.name
root_name (fields_plan r limit) = Some r.name
root_name (diff_plan p) = Some p.root.name
root_name p = None

-- no struct of the set has it
abbrev pub IsNoneNamed : Schemas → Option (List ℕ) → Fault → Type 0
IsNoneNamed set None f = ⊥
IsNoneNamed set (Some name) f = IsNotNamed set name f

abbrev pub IsRootUnnamed : Plan → Schemas → Fault → Type 0
IsRootUnnamed p set f = IsNoneNamed set (root_name p) f

-- whether a message is read
abbrev pub wants_input : Job → Bool
wants_input (job.Get j) = true
wants_input (job.Json j) = true
wants_input (job.FromJson j) = true
wants_input (job.Check j) = true
wants_input (job.Patch j) = true
wants_input (job.New j) = false
wants_input (job.Structs schemas limit) = false
wants_input (job.Fields s limit) = false
wants_input (job.Convert strict limit) = true
wants_input (job.Compatible j) = false
wants_input (job.Diff j) = true
wants_input (job.Help v) = false
wants_input job.Version = false

-- whether it is a text, of which several stand each on a line
abbrev pub reads_texts : Job → Bool
reads_texts (job.FromJson j) = true
reads_texts j = false

-- whether it comes packed
abbrev pub is_packed : Job → Bool
is_packed (job.Get j) = j.packed
is_packed (job.Json j) = j.packed
is_packed (job.FromJson j) = false
is_packed (job.Check j) = j.packed
is_packed (job.Patch j) = j.packed
is_packed (job.New j) = false
is_packed (job.Structs schemas limit) = false
is_packed (job.Fields s limit) = false
is_packed (job.Convert strict limit) = false
is_packed (job.Compatible j) = false
is_packed (job.Diff j) = j.packed
is_packed (job.Help v) = false
is_packed job.Version = false
