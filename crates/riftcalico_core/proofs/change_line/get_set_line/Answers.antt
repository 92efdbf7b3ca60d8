-- Why the value has no word is why the line isn't there.
use Rattle.std.proofs.Common.{ℕ, ◌-◌, ◌≡◌, arith, length, subst}
use Rattle.capnp_call.specs.Seen.{path_seen}
use Rattle.capnp_queries.specs.Floats.{form_at}
use Rattle.capnp_records.specs.Run.{root_type}
use Rattle.capnp_schema.specs.StructHandles.{number_of, set_of}
use Rattle.riftcalico_core.specs.ChangeLines.{IsWordless}
use Rattle.riftcalico_core.specs.Replies.{types_along}
use Rattle.riftcalico_core.proofs.WordlessLines.{put_without}
use Rattle.riftcalico_core.proofs.change_line.get_set_line.Goals as goal

pub returns-in-Err-get_value_word-clause-refused : goal.returns-in-Err-get_value_word-clause-refused
returns-in-Err-get_value_word-clause-refused c =
    let s = c.args.schema in
    let path = path_seen c.args.path.now in
    let long : c.len-length.result ≡ length c.in-Ok.start.items = omega (arith, c.len-length.ensures) in
    put_without c.args.limit s path c.args.value c.in-Err-get_value_word.why c.in-Ok.start.items c.in-Ok.ensures.start (omega (arith, long, c.if-length-limit.false))
    (subst (λ (n : ℕ). IsWordless (c.args.limit - n) (set_of s) (form_at (set_of s) (number_of s) path) (types_along (set_of s) (root_type (set_of s) (number_of s)) path) c.args.value c.in-Err-get_value_word.why) long c.in-Err-get_value_word.ensures.refused)
