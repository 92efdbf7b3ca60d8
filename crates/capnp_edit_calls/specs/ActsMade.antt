-- What calls and edits do one after another, one reply to each.
use Rattle.std.specs.Prelude.{◌<◌, ◌≡◌, ◌≢◌, ⊤, List, [], ◌∷◌, ◌++◌, length, replicate}
use Rattle.capnp_wire.specs.Tree.{StructTree}
use Rattle.capnp_schema.specs.StructHandles.{number_of, set_of}
use Rattle.capnp_schema.specs.declared.schema.structs.StructSchema.{StructSchema}
use Rattle.capnp_records.specs.Call.{Done, PathStep, Reply as ReplySeen, Source}
use Rattle.capnp_call.specs.Runs.{IsCallMade}
use Rattle.capnp_call.specs.Seen.{path_seen, reply_seen}
use Rattle.capnp_call.specs.declared.calls.Call.{Call}
use Rattle.capnp_call.specs.declared.calls.Reply.{Reply}
use Rattle.capnp_call.specs.declared.calls.Reply.TheVariants as reply
use Rattle.capnp_edits.specs.Changes.{Append}
use Rattle.capnp_edit_calls.specs.ChangesSeen.{change_seen}
use Rattle.capnp_edit_calls.specs.Copies.{CopiesTo}
use Rattle.capnp_edit_calls.specs.EditsMade.{EditsTo}
use Rattle.capnp_edit_calls.specs.declared.copy.PathCopy.{PathCopy}
use Rattle.capnp_edit_calls.specs.declared.acts.Act.{Act}
use Rattle.capnp_edit_calls.specs.declared.acts.Act.TheVariants as act
use Rattle.capnp_edit_calls.specs.declared.edit.ListEdit.{ListEdit}

-- ---- appends to one list ----

-- an act appends one value to the list at a path
abbrev pub IsAppendTo : List PathStep → Source → Act → Type 0
IsAppendTo path s (act.Call c) = ⊥
IsAppendTo path s (act.Copy c) = ⊥
IsAppendTo path s (act.Edit e) = (path_seen e.path.now ≡ path) × (change_seen e.change ≡ Append (s ∷ []))

-- each of these acts appends its value
abbrev pub AreAppends : List PathStep → List Source → List Act → Type 0
AreAppends path [] [] = ⊤
AreAppends path (s ∷ ss) (a ∷ acts) = IsAppendTo path s a × AreAppends path ss acts
AreAppends path [] (a ∷ acts) = ⊥
AreAppends path (s ∷ ss) [] = ⊥

-- ---- acts ----

abbrev pub edit_to : StructSchema → StructTree → ListEdit → Reply → StructTree → Type 0
edit_to schema s e r s' = EditsTo schema s (path_seen e.path.now) (change_seen e.change) (reply_seen r) s'

-- Acts lead from a struct to another, one reply to each: a call as the machine makes it, an edit and a copy as they are made. Appends of
-- values to one list are one edit, which appends them all. Where that is tried in front of appends and refused, it has no reply, and they are made after it.
pub data ActsMade (schema : StructSchema) : StructTree → List Act → List Reply → StructTree → Type 0 where
  nothing : (s : StructTree) → ActsMade schema s [] [] s
  called : (c : Call) (r : Reply) (s s' : StructTree) → IsCallMade (set_of schema) (number_of schema) s c r s' → ActsMade schema s (act.Call c ∷ []) (r ∷ []) s'
  edited : (e : ListEdit) (r : Reply) (s s' : StructTree) → edit_to schema s e r s' → ActsMade schema s (act.Edit e ∷ []) (r ∷ []) s'
  copied : (c : PathCopy) (r : Reply) (s s' : StructTree) → CopiesTo schema s (path_seen c.path.now) (path_seen c.from.now) (reply_seen r) s' → ActsMade schema s (act.Copy c ∷ []) (r ∷ []) s'
  together : (path : List PathStep) (ss : List Source) (acts : List Act) (s s' : StructTree) → 0 < length acts → AreAppends path ss acts → EditsTo schema s path (Append ss) Done s' → ActsMade schema s acts (replicate (length acts) reply.Done) s'
  tried : (path : List PathStep) (ss : List Source) (a : Act) (xs more : List Act) (r : ReplySeen) (rs : List Reply) (s t u : StructTree) → AreAppends path ss (a ∷ more) → r ≢ Done → EditsTo schema s path (Append ss) r t → ActsMade schema t (a ∷ xs) rs u → ActsMade schema s (a ∷ xs) rs u
  both : (xs ys : List Act) (rs us : List Reply) (s t u : StructTree) → ActsMade schema s xs rs t → ActsMade schema t ys us u → ActsMade schema s (xs ++ ys) (rs ++ us) u
