-- The first acts of a run: how they are made, and what that leaves.
use Rattle.std.specs.Prelude.{ℕ, ◌<◌, ◌≤◌, ◌≡◌, ◌≢◌, ◌⊎◌, List, ◌++◌, length, replicate, take}
use Rattle.capnp_wire.specs.Tree.{StructTree}
use Rattle.capnp_schema.specs.declared.schema.structs.StructSchema.{StructSchema}
use Rattle.capnp_records.specs.Call.{Done, PathStep, Reply as ReplySeen, Source}
use Rattle.capnp_call.specs.declared.calls.Reply.{Reply}
use Rattle.capnp_call.specs.declared.calls.Reply.TheVariants as reply
use Rattle.capnp_edits.specs.Changes.{Append}
use Rattle.capnp_edit_calls.specs.ActsMade.{ActsMade, AreAppends}
use Rattle.capnp_edit_calls.specs.EditsMade.{EditsTo}
use Rattle.capnp_edit_calls.specs.declared.acts.Act.{Act}
use Rattle.capnp_edit_calls.specs.declared.runs.Joined.{Joined}
use Rattle.capnp_edit_calls.specs.declared.runs.Joined.TheVariants as joined

-- values were appended at once, or not
abbrev pub IsAppendedAs : StructSchema → StructTree → List PathStep → List Source → Joined → StructTree → Type 0
IsAppendedAs schema s path ss (joined.All n) s' = (n ≡ length ss) × EditsTo schema s path (Append ss) Done s'
IsAppendedAs schema s path ss (joined.Apart n) s' = (n ≡ length ss) × (r : ReplySeen) × (r ≢ Done) × EditsTo schema s path (Append ss) r s'

-- nothing was made of these acts, or the values of the first ones were tried to be appended at once
abbrev pub IsTried : StructSchema → StructTree → List Act → StructTree → Type 0
IsTried schema s acts s' =
    (s' ≡ s) ⊎ ((path : List PathStep) × (ss : List Source) × (n : ℕ) × (r : ReplySeen) × (0 < n) × (n ≤ length acts) × AreAppends path ss (take n acts) × (r ≢ Done) × EditsTo schema s path (Append ss) r s')

-- the first of these acts were made as one, or nothing was made of them yet
abbrev pub IsJoinedAs : StructSchema → StructTree → List Act → Joined → StructTree → Type 0
IsJoinedAs schema s acts (joined.All n) s' = (0 < n) × (n ≤ length acts) × ActsMade schema s (take n acts) (replicate n reply.Done) s'
IsJoinedAs schema s acts (joined.Apart n) s' = (0 < n) × IsTried schema s acts s'

-- the first of these acts were made, and their replies put behind others
pub record IsNextOf (schema : StructSchema) (s : StructTree) (acts : List Act) (count : ℕ) (before after : List Reply) (s' : StructTree) : Type 0 where
  pub some : 0 < count
  pub few : count ≤ length acts
  pub replies : List Reply
  pub appended : after ≡ before ++ replies
  pub made : ActsMade schema s (take count acts) replies s'
