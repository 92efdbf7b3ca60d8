-- What a list of calls does to the tree of a struct, one reply to each.
use Rattle.std.specs.Prelude.{All, ℕ, ◌≡◌, List, [], ◌∷◌, map}
use Rattle.capnp_wire.specs.Tree.{StructTree}
use Rattle.capnp_schema.specs.Schema.{Schemas}
use Rattle.capnp_schema.specs.StructHandles.{number_of, set_of}
use Rattle.capnp_schema.specs.declared.schema.structs.StructSchema.{StructSchema}
use Rattle.capnp_records.specs.Reading.{reads}
use Rattle.capnp_records.specs.Record.{Record}
use Rattle.capnp_records.specs.Run.{Run}
use Rattle.capnp_records.specs.Writes.TreeEnds.{TreeStep}
use Rattle.capnp_call.specs.Memory.{IsNotForRoom, RestsOn, RunRests}
use Rattle.capnp_call.specs.Seen.{call_seen, reply_seen}
use Rattle.capnp_call.specs.declared.calls.Call.{Call}
use Rattle.capnp_call.specs.declared.calls.Reply.{Reply}

-- one call is made: a step on trees, with a reply that is no refusal for room where the call takes no memory
pub record IsCallMade (set : Schemas) (b : ℕ) (old : StructTree) (call : Call) (reply : Reply) (new : StructTree) : Type 0 where
  pub step : TreeStep set b old (call_seen call) (reply_seen reply) new
  pub rests : RestsOn set b call old → IsNotForRoom (reply_seen reply)

-- a run on trees, of calls and replies as the code has them
unfoldable pub MakesCalls : Schemas → ℕ → StructTree → List Call → List Reply → StructTree → Type 0
MakesCalls set b old [] [] new = new ≡ old
MakesCalls set b old (call ∷ calls) (reply ∷ replies) new = (mid : StructTree) × IsCallMade set b old call reply mid × MakesCalls set b mid calls replies new
MakesCalls set b old [] (reply ∷ replies) new = ⊥
MakesCalls set b old (call ∷ calls) [] new = ⊥

-- the record of a struct that is built
abbrev pub record_under_schema : StructSchema → StructTree → Record
record_under_schema schema s = reads (set_of schema) s (number_of schema)

-- calls with their replies take a record to another, as the machine of records says, and the record of one struct to that of
-- another
abbrev pub IsRunFrom : StructSchema → Record → List Call → List Reply → Record → Type 0
IsRunFrom schema r calls replies r' = Run (set_of schema) (number_of schema) r (map call_seen calls) (map reply_seen replies) r'

abbrev pub RunsTo : StructSchema → StructTree → List Call → List Reply → StructTree → Type 0
RunsTo schema s calls replies s' = IsRunFrom schema (record_under_schema schema s) calls replies (record_under_schema schema s')

-- where no call takes memory, no reply is a refusal for room
abbrev pub RestsWhole : StructSchema → StructTree → List Call → List Reply → Type 0
RestsWhole schema s calls replies = RunRests schema s calls → All (λ (r : Reply). IsNotForRoom (reply_seen r)) replies
