-- What acts leave of a root, by what they do to its struct.
use Rattle.std.proofs.Common.{◌≡◌, List, [], ◌∷◌, map, ap, subst, sym, ◌∙◌}
use Rattle.capnp_wire.specs.Edits.{struct_in}
use Rattle.capnp_wire.specs.Tree.{StructTree, Tree}
use Rattle.capnp_schema.specs.Ranges.{HasRanges}
use Rattle.capnp_schema.specs.StructHandles.{IsStruct, number_of, set_of}
use Rattle.capnp_schema.specs.declared.schema.structs.StructSchema.{StructSchema}
use Rattle.capnp_records.specs.Laws.{OverlayLaw}
use Rattle.capnp_records.specs.Record.{Record}
use Rattle.capnp_records.specs.Run.{Run}
use Rattle.capnp_slots.specs.Standing.{IsUnder}
use Rattle.capnp_call.specs.Messages.{IsRoot, LeavesRun}
use Rattle.capnp_call.specs.Runs.{MakesCalls, record_under_schema}
use Rattle.capnp_call.specs.Seen.{reply_seen}
use Rattle.capnp_call.specs.declared.calls.Call.{Call}
use Rattle.capnp_call.specs.declared.calls.Reply.{Reply}
use Rattle.capnp_call.proofs.Making.{machine_runs}
use Rattle.capnp_call.proofs.RunsRest.{run_rests}
use Rattle.capnp_call.proofs.Starts.{stands_here}
use Rattle.capnp_patch.specs.Patches.{IsLeft}
use Rattle.capnp_edit_calls.specs.ActsLeft.{IsActsLeft}
use Rattle.capnp_edit_calls.specs.ActsMade.{ActsMade}
use Rattle.capnp_edit_calls.specs.Laws.{ActsLaw}
use Rattle.capnp_edit_calls.specs.declared.acts.Act.{Act}
use Rattle.capnp_edit_calls.specs.declared.acts.Act.TheVariants as act
use Rattle.capnp_edit_calls.proofs.PlainActs.{plain_made}
use Rattle.capnp_edit_calls.proofs.Roots.{start_is}

module _ (schema : StructSchema) (stands : IsStruct schema) (ranges : HasRanges (set_of schema)) (overlay : OverlayLaw) (law : ActsLaw) (start : StructTree) (room : IsUnder schema start) where
  -- calls alone
  plain_left : (t : Tree) (acts : List Act) (replies : List Reply) → IsRoot schema t → ActsMade schema start acts replies (struct_in t) → (calls : List Call) → acts ≡ map act.Call calls → IsLeft schema (record_under_schema schema start) start calls replies t
  plain_left t acts replies root made calls e =
      let makes = plain_made schema start (struct_in t) acts calls replies e made in
      record {
        run = record {
          root = stands_here t root.here;
          formed = root.formed;
          runs = machine_runs schema start (struct_in t) calls replies stands ranges overlay room makes;
        };
        made = makes;
        rests = run_rests schema start (struct_in t) calls replies makes;
      }

  pub acts_left : (r : Record) (t : Tree) (acts : List Act) (replies : List Reply) → record_under_schema schema start ≡ r → IsRoot schema t → ActsMade schema start acts replies (struct_in t) → IsActsLeft schema r start (λ calls rs x. IsLeft schema r start calls rs x) acts replies t
  acts_left r t acts replies reads root made =
      subst (λ (x : Record). IsActsLeft schema x start (λ calls rs y. IsLeft schema x start calls rs y) acts replies t) reads (record {
        root = stands_here t root.here;
        formed = root.formed;
        made = made;
        run = law schema start (struct_in t) acts replies stands ranges room made;
        plain = plain_left t acts replies root made;
      })

-- the record of the root that a run without calls leaves
nothing_run : (schema : StructSchema) (r now : Record) (replies : List Reply) → Run (set_of schema) (number_of schema) r [] (map reply_seen replies) now → now ≡ r
nothing_run schema r now [] h = h
nothing_run schema r now (x ∷ replies) h = absurd h

pub start_reads : (schema : StructSchema) (start : StructTree) (r : Record) (replies : List Reply) (t : Tree) → LeavesRun schema r [] replies t → MakesCalls (set_of schema) (number_of schema) start [] replies (struct_in t) → record_under_schema schema start ≡ r
start_reads schema start r replies t left made =
    ap (record_under_schema schema) (sym (start_is schema start replies t made)) ∙ nothing_run schema r (record_under_schema schema (struct_in t)) replies left.runs
