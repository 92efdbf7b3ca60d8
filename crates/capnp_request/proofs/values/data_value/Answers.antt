-- The member decides the width, and the number read there is what the record says of it.
-- A member that is none of these lies past all kinds of values.
use Rattle.std.proofs.Common.{ap, arith, rules, ◌∙◌, Err, sym}
use Rattle.capnp_request.specs.Steps.Seen.{record_seen}
use Rattle.capnp_request.specs.Values.{value_stated}
use Rattle.capnp_request.proofs.ValuesRead.{said_by, said_so, value_past}
use Rattle.capnp_request.proofs.values.data_value.Goals as goal

pub returns-in-0-clause-read : goal.returns-in-0-clause-read
returns-in-0-clause-read c = ap value_stated (said_so (record_seen c.args.reader) c.args.member 0 c.requires.active c.in-0.is)

pub returns-in-1-clause-read : goal.returns-in-1-clause-read
returns-in-1-clause-read c = ap value_stated (said_by (record_seen c.args.reader) c.args.member 1 _ c.requires.active c.in-1.is c.bool_at.ensures)

pub returns-in-2-clause-read : goal.returns-in-2-clause-read
returns-in-2-clause-read c = ap value_stated (said_by (record_seen c.args.reader) c.args.member 2 _ c.requires.active c.in-2.is c.i8_at.ensures) ∙ search rules

pub returns-in-3-clause-read : goal.returns-in-3-clause-read
returns-in-3-clause-read c = ap value_stated (said_by (record_seen c.args.reader) c.args.member 3 _ c.requires.active c.in-3.is c.i16_at.ensures) ∙ search rules

pub returns-in-4-clause-read : goal.returns-in-4-clause-read
returns-in-4-clause-read c = ap value_stated (said_by (record_seen c.args.reader) c.args.member 4 _ c.requires.active c.in-4.is c.i32_at.ensures) ∙ search rules

pub returns-in-5-clause-read : goal.returns-in-5-clause-read
returns-in-5-clause-read c = ap value_stated (said_by (record_seen c.args.reader) c.args.member 5 _ c.requires.active c.in-5.is c.i64_at.ensures) ∙ search rules

pub returns-in-6-clause-read : goal.returns-in-6-clause-read
returns-in-6-clause-read c = ap value_stated (said_by (record_seen c.args.reader) c.args.member 6 _ c.requires.active c.in-6.is c.u8_at.ensures)

pub returns-in-7-clause-read : goal.returns-in-7-clause-read
returns-in-7-clause-read c = ap value_stated (said_by (record_seen c.args.reader) c.args.member 7 _ c.requires.active c.in-7.is c.u16_at.ensures)

pub returns-in-8-clause-read : goal.returns-in-8-clause-read
returns-in-8-clause-read c = ap value_stated (said_by (record_seen c.args.reader) c.args.member 8 _ c.requires.active c.in-8.is c.u32_at.ensures)

pub returns-in-9-clause-read : goal.returns-in-9-clause-read
returns-in-9-clause-read c = ap value_stated (said_by (record_seen c.args.reader) c.args.member 9 _ c.requires.active c.in-9.is c.u64_at.ensures)

pub returns-in-10-clause-read : goal.returns-in-10-clause-read
returns-in-10-clause-read c = ap value_stated (said_by (record_seen c.args.reader) c.args.member 10 _ c.requires.active c.in-10.is c.u32_at-in-10.ensures)

pub returns-in-11-clause-read : goal.returns-in-11-clause-read
returns-in-11-clause-read c = ap value_stated (said_by (record_seen c.args.reader) c.args.member 11 _ c.requires.active c.in-11.is c.u64_at-in-11.ensures)

pub returns-in-15-clause-read : goal.returns-in-15-clause-read
returns-in-15-clause-read c = ap value_stated (said_by (record_seen c.args.reader) c.args.member 15 _ c.requires.active c.in-15.is c.u16_at-in-15.ensures)

pub returns-in_default-clause-refused : goal.returns-in_default-clause-refused
returns-in_default-clause-refused c = λ n.
    value_past (record_seen c.args.reader) c.args.member c.requires.active
    (omega (arith, c.requires.data.text, c.requires.data.blob, c.requires.data.list, c.requires.data.inner, c.requires.data.interface, c.requires.data.untyped))
    ∙ ap (λ k. Err k) (sym c.from.ensures)
