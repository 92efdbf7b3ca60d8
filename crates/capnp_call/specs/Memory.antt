-- Calls that take no memory.
use Rattle.std.specs.Prelude.{◌≡◌, ◌≢◌, ℕ, ⊤, Bool, true, false, List, [], ◌∷◌, Ok, Err}
use Rattle.capnp_device.specs.declared.error.ErrorKind.TheVariants.{OutOfMemory, SizePastFormat}
use Rattle.capnp_wire.specs.Tree.{StructTree}
use Rattle.capnp_schema.specs.Schema.{Schemas}
use Rattle.capnp_schema.specs.StructHandles.{number_of, set_of}
use Rattle.capnp_schema.specs.Types.{SchemaType, StructType}
use Rattle.capnp_schema.specs.declared.schema.structs.StructSchema.{StructSchema}
use Rattle.capnp_records.specs.Call.{Clear, Get, Has, Init, Initn, Op, PathStep, Refused, Reply, Set, Which}
use Rattle.capnp_records.specs.Given.{Copies, CopiesGroup, Fails, Given, Gives, given_part}
use Rattle.capnp_records.specs.Operation.{takes_memory}
use Rattle.capnp_records.specs.Run.{root_type}
use Rattle.capnp_records.specs.Step.{Found, StepTarget, step_target, walked_target}
use Rattle.capnp_records.specs.Writes.Stand.{OnStruct, Stand, StepRests, entered_stand, seen_stand}
use Rattle.capnp_records.specs.Writes.TreeEnds.{TreeStep}
use Rattle.capnp_call.specs.Seen.{call_seen, op_seen, path_seen, step_seen}
use Rattle.capnp_call.specs.declared.calls.Call.{Call as CallOf}
use Rattle.capnp_call.specs.declared.calls.Ending.{Ending}
use Rattle.capnp_call.specs.declared.calls.Step.{Step}

-- what is given is no copy
abbrev pub IsNoCopy : Given → Type 0
IsNoCopy (Gives v) = ⊤
IsNoCopy (Fails kind) = ⊤
IsNoCopy (Copies source past v) = ⊥
IsNoCopy (CopiesGroup l s b) = ⊥

-- a struct's slot is made anew; a group is the same struct
abbrev pub is_made : (is_group : Bool) → SchemaType → Bool
is_made false (StructType b g) = true
is_made is_group t = false

-- what an operation does to a field or element takes no memory: a read but of a text or data, a set of what no pointer stands
-- for, an init but of a struct's slot, and a has, a which and a clear of whatever it is
abbrev pub NeedsNone : Schemas → Op → StepTarget → Type 0
NeedsNone set Get x = takes_memory x.type ≡ false
NeedsNone set Has x = ⊤
NeedsNone set Which x = ⊤
NeedsNone set (Set s) x = IsNoCopy (given_part set x s)
NeedsNone set Init x = is_made x.is_group x.type ≡ false
NeedsNone set (Initn n) x = ⊥
NeedsNone set Clear x = ⊤

abbrev pub EndRests : Schemas → Op → Found → Type 0
EndRests set op (Err kind) = ⊤
EndRests set op (Ok x) = NeedsNone set op x

-- a step that leads on rests, and so does the rest of the call
abbrev pub NextRests : Found → Type 0 → (SchemaType → Type 0) → Type 0
NextRests (Err kind) rests next = ⊤
NextRests (Ok x) rests next = rests × next x.type

-- A call takes no memory: where its path leads on, nothing has to be filled or extended behind any of its steps, and the
-- operation at its end takes none.
abbrev pub CallRests : Schemas → PathStep → Op → List PathStep → SchemaType → Stand → Type 0
CallRests set last op [] t old = EndRests set op (step_target set t (seen_stand set t old) last)
CallRests set last op (step ∷ path) t old = NextRests (walked_target set t (seen_stand set t old) step) (StepRests set t old step) (λ u. CallRests set last op path u (entered_stand set t old step))

-- so it is refused neither for the want of it, nor because the format has no room
pub record IsNotForRoom (reply : Reply) : Type 0 where
  pub memory : reply ≢ Refused OutOfMemory
  pub format : reply ≢ Refused SizePastFormat

-- ---- a call as the code has it ----

-- a call along a path from a struct of a schema takes no memory
abbrev pub PathRests : StructSchema → List Step → Ending → StructTree → Type 0
PathRests schema path end s = CallRests (set_of schema) (step_seen end.call.now.last) (op_seen end.call.now.op) (path_seen path) (root_type (set_of schema) (number_of schema)) (OnStruct s)

-- ---- lists of calls ----

-- a call takes no memory on a struct of a brand
abbrev pub RestsOn : Schemas → ℕ → CallOf → StructTree → Type 0
RestsOn set b call s = CallRests set (step_seen call.last) (op_seen call.op) (path_seen call.path.now) (root_type set b) (OnStruct s)

-- no call of a list takes memory, each on whatever the one before it may leave
abbrev pub RunRests : StructSchema → StructTree → List CallOf → Type 0
RunRests schema s [] = ⊤
RunRests schema s (call ∷ calls) =
    RestsOn (set_of schema) (number_of schema) call s
    × ((reply : Reply) (s' : StructTree) → TreeStep (set_of schema) (number_of schema) s (call_seen call) reply s' → RunRests schema s' calls)
