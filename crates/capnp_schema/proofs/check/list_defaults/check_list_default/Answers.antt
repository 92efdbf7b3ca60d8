-- A field is inside its brand, so its index fits 16 bits.
-- Whether its kind is read by its type decides between rule 6 and its being so here.
use Rattle.std.proofs.Common.{arith, sym}
use Rattle.capnp_schema.specs.Entries.{lists_seen}
use Rattle.capnp_schema.specs.Steps.Entries.{seen_typed}
use Rattle.capnp_schema.specs.Schema.{fields_of}
use Rattle.capnp_schema.specs.Accepted.{ReadsDefault}
use Rattle.capnp_schema.proofs.EntryWalk.{is_so_here}
use Rattle.capnp_schema.proofs.FieldCounts.{index_fits}
use Rattle.capnp_schema.proofs.Checking.ReadDefaults.{field_inside, unread_at}
use Rattle.capnp_schema.proofs.Checking.FieldWalk.{refused}
use Rattle.capnp_schema.proofs.check.list_defaults.check_list_default.Goals as goal

pub overflow_cast-field : goal.overflow_cast-field
overflow_cast-field c =
    let inside = field_inside (lists_seen c.args.lists.now) c.args.brand c.args.field (seen_typed c.in-Some.typed) (sym c.in-Some.ensures) in
    let fits = index_fits (lists_seen c.args.lists.now) c.args.brand c.args.field c.requires inside in
    omega arith

pub returns-then-not-kind_reads : goal.returns-then-not-kind_reads
returns-then-not-kind_reads c = refused _ _ _ _ _ _ c.refusal.ensures
    (unread_at (lists_seen c.args.lists.now) c.args.brand c.args.field (seen_typed c.in-Some.typed) (sym c.in-Some.ensures) (λ reads. let t = c.kind_reads.ensures.1 reads in cc))

pub returns : goal.returns
returns c = is_so_here (fields_of (lists_seen c.args.lists.now) c.args.brand) ReadsDefault c.args.field (seen_typed c.in-Some.typed) c.in-Some.ensures (c.kind_reads.ensures.0 c.if-not-kind_reads.false)
