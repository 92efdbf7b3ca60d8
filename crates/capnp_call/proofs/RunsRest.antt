-- A list of calls that take no memory is not refused for room.
use Rattle.std.specs.List.{AllByRecursion}
use Rattle.std.specs.Prelude.{List, [], ◌∷◌}
use Rattle.std.proofs.lemmas.List.Elements.{All-from_recursion}
use Rattle.capnp_wire.specs.Tree.{StructTree}
use Rattle.capnp_schema.specs.StructHandles.{number_of, set_of}
use Rattle.capnp_schema.specs.declared.schema.structs.StructSchema.{StructSchema}
use Rattle.capnp_call.specs.Memory.{IsNotForRoom, RunRests}
use Rattle.capnp_call.specs.Seen.{reply_seen}
use Rattle.capnp_call.specs.declared.calls.Call.{Call}
use Rattle.capnp_call.specs.declared.calls.Reply.{Reply}
use Rattle.capnp_call.specs.Runs.{MakesCalls, RestsWhole}

made_rests : (schema : StructSchema) (old new : StructTree) (calls : List Call) (replies : List Reply) → MakesCalls (set_of schema) (number_of schema) old calls replies new → RunRests schema old calls →
    AllByRecursion (λ (r : Reply). IsNotForRoom (reply_seen r)) replies
unfolding MakesCalls
made_rests schema old new [] [] made rests = tt
made_rests schema old new [] (r ∷ rs) made rests = absurd made
made_rests schema old new (call ∷ calls) [] made rests = absurd made
made_rests schema old new (call ∷ calls) (r ∷ rs) made rests = (made.1.rests rests.0, made_rests schema made.0 new calls rs made.2 (rests.1 (reply_seen r) made.0 made.1.step))

pub run_rests : (schema : StructSchema) (old new : StructTree) (calls : List Call) (replies : List Reply) → MakesCalls (set_of schema) (number_of schema) old calls replies new → RestsWhole schema old calls replies
run_rests schema old new calls replies made = λ rests. All-from_recursion (λ (r : Reply). IsNotForRoom (reply_seen r)) replies (made_rests schema old new calls replies made rests)
