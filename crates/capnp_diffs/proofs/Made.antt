-- The calls of changes that are ready make them.
use Rattle.std.proofs.Common.{refl, List, [], ◌∷◌, map, subst}
use Rattle.capnp_schema.specs.Schema.{Schemas}
use Rattle.capnp_call.specs.Seen.{op_seen}
use Rattle.capnp_call.specs.declared.calls.Op.{Op}
use Rattle.capnp_call.specs.declared.calls.Op.TheVariants as op
use Rattle.capnp_diffs.specs.Found.{AreReady, IsReady, change_call, changes_seen, goal_seen}
use Rattle.capnp_diffs.specs.Laws.{AreCallsOf, Reaches}
use Rattle.capnp_diffs.specs.Made.{FoundCallsMakeNew}
use Rattle.capnp_diffs.specs.declared.change.Change.{Change as FoundChange}
use Rattle.capnp_diffs.proofs.Steps.{calls_make_new}

reaches : (set : Schemas) (o : Op) → IsReady set o → Reaches set (op_seen o) (goal_seen o)
reaches set (op.Set v) ready = ready
reaches set op.Init ready = tt
reaches set op.Clear ready = tt
reaches set op.Get ready = absurd ready
reaches set op.Has ready = absurd ready
reaches set op.Which ready = absurd ready
reaches set (op.Initn n) ready = absurd ready

are_calls : (set : Schemas) (changes : List FoundChange) → AreReady set changes → AreCallsOf set (map change_call changes) (changes_seen changes)
are_calls set [] ready = tt
are_calls set (c ∷ changes) ready = (record { path = refl; last = refl; op = reaches set c.op ready.0 }, are_calls set changes ready.1)

pub found_calls_make_new : FoundCallsMakeNew
found_calls_make_new set b old new changes found told ready replies left run room =
    calls_make_new set b old new told (map change_call changes) (subst (AreCallsOf set (map change_call changes)) found (are_calls set changes ready)) replies left run room
