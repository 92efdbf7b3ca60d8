-- At least two are made as one.
use Rattle.std.proofs.Common.{List, arith, inl, refl, subst, sym, take, ◌≡◌, ◌∙◌, length, vec_len}
use Rattle.std.proofs.lemmas.List.{length-map}
use Rattle.capnp_arena.specs.Built.{built_at}
use Rattle.capnp_call.specs.Seen.{path_seen}
use Rattle.capnp_dynamic_readers.specs.declared.dynamic_value.Reader.{Reader as DynamicValue}
use Rattle.capnp_slots.specs.SetValues.{source_of}
use Rattle.capnp_edit_calls.specs.ActsMade.{AreAppends}
use Rattle.capnp_edit_calls.specs.ChangesSeen.{sources_of}
use Rattle.capnp_edit_calls.proofs.Acting.{joined_as}
use Rattle.capnp_edit_calls.proofs.runs.join_appends.Goals as goal

pub returns-then-len-lt2-clause-joined : goal.returns-then-len-lt2-clause-joined
returns-then-len-lt2-clause-joined c = (omega arith, inl refl)

pub returns-in-Call-clause-joined : goal.returns-in-Call-clause-joined
returns-in-Call-clause-joined c = (omega arith, inl refl)

pub returns-in-Copy-clause-joined : goal.returns-in-Copy-clause-joined
returns-in-Copy-clause-joined c = (omega arith, inl refl)

pub returns-in-Err-clause-joined : goal.returns-in-Err-clause-joined
returns-in-Err-clause-joined c = (omega arith, inl refl)

pub returns-else-len-lt2-clause-joined : goal.returns-else-len-lt2-clause-joined
returns-else-len-lt2-clause-joined c =
    let n = vec_len c.in-Ok.values in
    let values = c.as_slice.result.now in
    let path = path_seen c.in-Edit.first.path.now in
    let count : length (sources_of values) ≡ n = length-map values source_of ∙ c.as_slice.ensures.len in
    let appends : AreAppends path (sources_of values) (take n c.args.acts.now) = subst (λ (vs : List DynamicValue). AreAppends path (sources_of vs) (take n c.args.acts.now)) (sym c.as_slice.ensures.value) c.in-Ok.ensures.appends in
    joined_as c.args.schema (built_at c.args.arena.now c.args.place) (built_at c.append_values.new.arena c.args.place) c.args.acts.now path (sources_of values) n c.append_values.result count (omega (arith, c.if-len-lt2.false, c.len.ensures)) c.in-Ok.ensures.few appends c.append_values.ensures.joined
