-- The walk keeps that all types before the index name entries; the first that does not breaks the whole list.
use Rattle.std.proofs.Common.{false, map, refl, arith}
use Rattle.std.proofs.lemmas.List.{length-map}
use Rattle.std.proofs.lemmas.Bool.Decides.{not_from_Decides}
use Rattle.capnp_schema.specs.Types.{seen_type}
use Rattle.capnp_schema.specs.Accepted.{NamesEntries}
use Rattle.capnp_schema.specs.Entries.{lists_seen}
use Rattle.capnp_schema.proofs.EntryWalk.{one_stands, all_stand, seen_at}
use Rattle.capnp_schema.proofs.Checking.Types.{not_all, all_hold}
use Rattle.capnp_schema.proofs.check.types.all_named.Goals as goal

pub returns-then-not-names_entry : goal.returns-then-not-names_entry
returns-then-not-names_entry c = not_all (map seen_type c.args.types.now) (NamesEntries (lists_seen c.args.lists.now)) c.loop-i.i (seen_type c.in-Some.of.now) (seen_at seen_type c.args.types.now c.loop-i.i c.in-Some.of.now c.in-Some.ensures)
    (not_from_Decides false c.if-not-names_entry.ensures refl)

pub loop-i-preserved : goal.loop-i-preserved
loop-i-preserved c = one_stands (map seen_type c.args.types.now) (NamesEntries (lists_seen c.args.lists.now)) c.loop-i.i (seen_type c.in-Some.of.now) (seen_at seen_type c.args.types.now c.loop-i.i c.in-Some.of.now c.in-Some.ensures)
    (c.if-not-names_entry.ensures.0 refl) c.loop-i.invariant

pub returns : goal.returns
returns c = all_hold (map seen_type c.args.types.now) (NamesEntries (lists_seen c.args.lists.now))
    (all_stand (map seen_type c.args.types.now) (NamesEntries (lists_seen c.args.lists.now)) c.loop-i.i c.loop-i.invariant (omega (arith, length-map c.args.types.now seen_type)))
