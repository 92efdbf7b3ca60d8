-- Calls and edits in a row are a run of the machine.
use Rattle.std.proofs.Common.{ℕ, refl, List, [], ◌∷◌, ◌++◌, inl, inr, subst}
use Rattle.capnp_wire.specs.Tree.{StructTree}
use Rattle.capnp_schema.specs.Schema.{Schemas}
use Rattle.capnp_schema.specs.StructHandles.{number_of, set_of}
use Rattle.capnp_schema.specs.declared.schema.structs.StructSchema.{StructSchema}
use Rattle.capnp_records.specs.Call.{Call, PathStep, Reply as ReplySeen, Set}
use Rattle.capnp_records.specs.Laws.{OverlayLaw}
use Rattle.capnp_records.specs.Writes.TreeEnds.{TreeRun}
use Rattle.capnp_call.specs.Seen.{call_seen, reply_seen}
use Rattle.capnp_call.specs.declared.calls.Reply.{Reply}
use Rattle.capnp_edits.specs.Changes.{Edit}
use Rattle.capnp_edit_calls.specs.ActsMade.{ActsMade, both, called, copied, edited, nothing, together, tried}
use Rattle.capnp_edit_calls.specs.Copies.{CopiesTo}
use Rattle.capnp_edit_calls.specs.EditsMade.{EditsTo, call_along, set_list}
use Rattle.capnp_edit_calls.specs.Laws.{ActsLaw}
use Rattle.capnp_edit_calls.specs.declared.acts.Act.{Act}

runs_append : (set : Schemas) (b : ℕ) (s t u : StructTree) (cs ds : List Call) (rs us : List ReplySeen) → TreeRun set b s cs rs t → TreeRun set b t ds us u → TreeRun set b s (cs ++ ds) (rs ++ us) u
runs_append set b s t u [] ds [] us h k = subst (λ (x : StructTree). TreeRun set b x ds us u) h k
runs_append set b s t u [] ds (r ∷ rs) us h k = absurd h
runs_append set b s t u (c ∷ cs) ds [] us h k = absurd h
runs_append set b s t u (c ∷ cs) ds (r ∷ rs) us h k = (h.0, h.1, runs_append set b h.0 t u cs ds rs us h.2 k)

module _ (schema : StructSchema) where
  abbrev IsRun : StructTree → StructTree → Type 0
  IsRun s t = (calls : List Call) × (answers : List ReplySeen) × TreeRun (set_of schema) (number_of schema) s calls answers t

  edit_run : (s s' : StructTree) (path : List PathStep) (edit : Edit) (r : ReplySeen) → EditsTo schema s path edit r s' → IsRun s s'
  edit_run s s' path edit r (inl h) = ([], [], h.1)
  edit_run s s' path edit r (inr made) = (set_list path made.levels made.element made.changed ∷ [], r ∷ [], (s', made.set, refl))

  copy_run : (s s' : StructTree) (path from : List PathStep) (r : ReplySeen) → CopiesTo schema s path from r s' → IsRun s s'
  copy_run s s' path from r (inl h) = ([], [], h.1)
  copy_run s s' path from r (inr made) = (call_along path (Set made.copy) ∷ [], r ∷ [], (s', made.set, refl))

  both_run : (s t u : StructTree) → IsRun s t → IsRun t u → IsRun s u
  both_run s t u a b = (a.0 ++ b.0, a.1 ++ b.1, runs_append (set_of schema) (number_of schema) s t u a.0 b.0 a.1 b.1 a.2 b.2)

  acts_tree_run : (s s' : StructTree) (acts : List Act) (replies : List Reply) → ActsMade schema s acts replies s' → IsRun s s'
  acts_tree_run _ _ _ _ (nothing s) = ([], [], refl)
  acts_tree_run _ _ _ _ (called c r s s' made) = (call_seen c ∷ [], reply_seen r ∷ [], (s', made.step, refl))
  acts_tree_run _ _ _ _ (edited e r s s' h) = edit_run s s' _ _ _ h
  acts_tree_run _ _ _ _ (copied c r s s' h) = copy_run s s' _ _ _ h
  acts_tree_run _ _ _ _ (together path ss acts s s' some appends h) = edit_run s s' _ _ _ h
  acts_tree_run _ _ _ _ (tried path ss a xs more r rs s t u appends other h made) = both_run s t u (edit_run s t _ _ _ h) (acts_tree_run t u (a ∷ xs) rs made)
  acts_tree_run _ _ _ _ (both xs ys rs us s t u a b) = both_run s t u (acts_tree_run s t xs rs a) (acts_tree_run t u ys us b)

pub acts_run : OverlayLaw → ActsLaw
acts_run overlay schema old new acts replies stands ranges room made =
    let run = acts_tree_run schema old new acts replies made in
    (run.0, run.1, overlay (set_of schema) stands.accepted ranges (number_of schema) stands.number old run.0 run.1 new room run.2)
