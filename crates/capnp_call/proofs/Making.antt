-- Calls one after another.
use Rattle.std.proofs.Common.{ℕ, ◌≡◌, refl, List, [], ◌∷◌, ◌++◌, map, subst}
use Rattle.capnp_wire.specs.Tree.{StructTree}
use Rattle.capnp_schema.specs.Schema.{Schemas, brand_at}
use Rattle.capnp_schema.specs.StructHandles.{IsStruct, number_of, set_of}
use Rattle.capnp_schema.specs.Types.{StructType}
use Rattle.capnp_schema.specs.Ranges.{HasRanges}
use Rattle.capnp_schema.specs.declared.schema.structs.StructSchema.{StructSchema}
use Rattle.capnp_records.specs.Laws.{OverlayLaw}
use Rattle.capnp_records.specs.Reading.{reads}
use Rattle.capnp_records.specs.Run.{Run}
use Rattle.capnp_records.specs.Writes.Slots.{Fits}
use Rattle.capnp_records.specs.Writes.Stand.{OnStruct}
use Rattle.capnp_records.specs.Writes.TreeEnds.{TreeEnds, TreeRun, TreeStep}
use Rattle.capnp_records.specs.Writes.TreeRun.{TreeWalks}
use Rattle.capnp_call.specs.Runs.{IsCallMade, MakesCalls}
use Rattle.capnp_call.specs.Seen.{call_seen, op_seen, path_seen, reply_seen, step_seen}
use Rattle.capnp_call.specs.Ends.{AsStruct}
use Rattle.capnp_call.specs.Walks.{StructWalks}
use Rattle.capnp_call.specs.declared.calls.Call.{Call}
use Rattle.capnp_call.specs.declared.calls.Ending.{Ending}
use Rattle.capnp_call.specs.declared.calls.Reply.{Reply}

pub makes_none : (set : Schemas) (b : ℕ) (s : StructTree) → MakesCalls set b s [] [] s
unfolding MakesCalls
makes_none set b s = refl

pub makes_more : (set : Schemas) (b : ℕ) (old mid new : StructTree) (calls : List Call) (replies : List Reply) (call : Call) (reply : Reply) →
    MakesCalls set b old calls replies mid → IsCallMade set b mid call reply new → MakesCalls set b old (calls ++ call ∷ []) (replies ++ reply ∷ []) new
unfolding MakesCalls
makes_more set b old mid new [] [] call reply h c = (new, subst (λ (x : StructTree). IsCallMade set b x call reply new) h c, refl)
makes_more set b old mid new [] (r ∷ rs) call reply h c = absurd h
makes_more set b old mid new (k ∷ ks) [] call reply h c = absurd h
makes_more set b old mid new (k ∷ ks) (r ∷ rs) call reply h c = (h.0, h.1, makes_more set b h.0 mid new ks rs call reply h.2 c)

tree_run : (set : Schemas) (b : ℕ) (old new : StructTree) (calls : List Call) (replies : List Reply) → MakesCalls set b old calls replies new → TreeRun set b old (map call_seen calls) (map reply_seen replies) new
unfolding MakesCalls
tree_run set b old new [] [] h = h
tree_run set b old new [] (r ∷ rs) h = absurd h
tree_run set b old new (k ∷ ks) [] h = absurd h
tree_run set b old new (k ∷ ks) (r ∷ rs) h = (h.0, h.1.step, tree_run set b h.0 new ks rs h.2)

pub machine_runs : (schema : StructSchema) (old new : StructTree) (calls : List Call) (replies : List Reply) → IsStruct schema → HasRanges (set_of schema) → OverlayLaw → Fits (set_of schema) (number_of schema) old →
    MakesCalls (set_of schema) (number_of schema) old calls replies new →
    Run (set_of schema) (number_of schema) (reads (set_of schema) old (number_of schema)) (map call_seen calls) (map reply_seen replies) (reads (set_of schema) new (number_of schema))
machine_runs schema old new calls replies stands ranges law fits made =
    law (set_of schema) stands.accepted ranges (number_of schema) stands.number old (map call_seen calls) (map reply_seen replies) new fits
    (tree_run (set_of schema) (number_of schema) old new calls replies made)

-- one call, by the walk of its path
pub call_made : (set : Schemas) (b : ℕ) (call : Call) (end : Ending) (s : StructTree) (r : Reply) (s' : StructTree) → end.call.now ≡ call → StructWalks set b call.path.now end s r s' →
    TreeStep set b s (call_seen call) (reply_seen r) s'
unfolding StructWalks
call_made set b call end s r s' same walks =
    subst (λ (c : Call). TreeWalks set (TreeEnds set (step_seen c.last) (op_seen c.op)) (path_seen call.path.now) (StructType b (brand_at set b).node) (OnStruct s) (reply_seen r) (OnStruct s')) same
    (walks AsStruct (brand_at set b).node)
