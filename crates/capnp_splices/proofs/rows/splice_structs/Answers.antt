-- Struct after struct is a copy of the element that comes there, whole.
use Rattle.std.proofs.Common.{arith, false, subst, ◌∙◌, ap, ◌≡◌, ℕ, ◌+◌, ◌*◌, ◌<◌, Ok, Result}
use Rattle.capnp_device.specs.declared.error.ErrorKind.{ErrorKind}
use Rattle.capnp_wire.specs.Locate.{words_past_format}
use Rattle.capnp_wire.specs.Reading.{element_struct, with_level}
use Rattle.capnp_wire.specs.Tree.{StructTree}
use Rattle.capnp_wire.specs.WellFormed.{IsWellFormed}
use Rattle.capnp_wire.specs.declared.list_reader.ListReader.{ListReader}
use Rattle.capnp_wire.specs.declared.size.StructSize.{StructSize}
use Rattle.capnp_wire.specs.declared.struct_reader.StructReader.{StructReader}
use Rattle.std.proofs.lemmas.Result.{err_from_is_err_and}
use Rattle.capnp_wire.specs.Standing.{list_levels, list_of, struct_of, struct_read}
use Rattle.capnp_splices.specs.Picks.{picked_element, splice_seen}
use Rattle.capnp_splices.specs.Splices.{Splice, is_past_format, spliced_count, spliced_structs}
use Rattle.capnp_splices.proofs.Plain.{picked_room}
use Rattle.capnp_splices.proofs.Room.{made_within, structs_refused, structs_within}
use Rattle.capnp_splices.proofs.SoFar.{struct_fault, struct_there, structs_end, structs_next, structs_past, structs_sound, structs_start}
use Rattle.capnp_splices.proofs.rows.splice_structs.Goals as goal

-- the element that was read
element_read : (list from : ListReader) (v : StructReader) (i : ℕ) → list_of list ≡ list_of from → list_levels list ≡ 1 → struct_read (Ok v) ≡ with_level (list_levels list) (Ok (element_struct (list_of list) i)) → struct_of v ≡ element_struct (list_of from) i
element_read list from v i same levels is =
    ok_same (is ∙ (ap (λ l. with_level l (Ok (element_struct (list_of list) i))) levels ∙ ap (λ t. Ok (element_struct t i)) same))
  where
    answer : StructTree → Result StructTree ErrorKind
    answer x = Ok x

    ok_same : {x y : StructTree} → answer x ≡ answer y → x ≡ y
    ok_same e = cc

-- the list is within the format
within_at : (size : StructSize) (s : Splice) (n : ℕ) → n ≡ spliced_count s → n < words_past_format → n * (size.data_words + size.pointers) < words_past_format → is_past_format (spliced_structs size s) ≡ false
within_at size s n e h k =
    structs_within (spliced_structs size s) (spliced_count s) (spliced_count s * (size.data_words + size.pointers)) (structs_past size s) (omega (arith, h, e))
    (subst (λ m. m * (size.data_words + size.pointers) < words_past_format) e k)

pub returns-in_err-init_struct_list-clause-cause : goal.returns-in_err-init_struct_list-clause-cause
returns-in_err-init_struct_list-clause-cause c =
    let p = err_from_is_err_and c.from_residual.result c.from_residual.ensures.1 in
    rw (p.1, p.2) (structs_refused (spliced_structs c.args.size (splice_seen c.args.splice)) _ _ c.in_err-init_struct_list.field-0.0 (rw c.count_spliced-count.ensures (structs_past c.args.size (splice_seen c.args.splice))) c.in_err-init_struct_list.ensures.cause)

pub loop-index-init : goal.loop-index-init
loop-index-init c = structs_start c.init_struct_list.new.self c.args.size (splice_seen c.args.splice) c.count_spliced-count.result c.count_spliced-count.ensures c.in_ok-init_struct_list.ensures.forest c.in_ok-init_struct_list.ensures.tree

pub put_struct-requires-clause-there : goal.put_struct-requires-clause-there
put_struct-requires-clause-there c = struct_there c.loop-index.arena c.args.size (splice_seen c.args.splice) c.loop-index.index c.loop-index.invariant (omega (arith, c.loop-index-test.true, c.count_spliced-count.ensures))

pub returns-in_err-put_struct-clause-cause : goal.returns-in_err-put_struct-clause-cause
returns-in_err-put_struct-clause-cause c =
    let p = err_from_is_err_and c.from_residual-in_err-put_struct.result c.from_residual-in_err-put_struct.ensures.1 in
    let s = splice_seen c.args.splice in
    let inside : c.loop-index.index < spliced_count s = omega (arith, c.loop-index-test.true, c.count_spliced-count.ensures) in
    rw (p.1, p.2) (λ other.
    made_within (spliced_structs c.args.size s) (within_at c.args.size s c.count_spliced-count.result c.count_spliced-count.ensures c.in_ok-init_struct_list.ensures.within.0 c.in_ok-init_struct_list.ensures.within.1)
    ∙ struct_fault c.loop-index.arena c.args.size s c.loop-index.index (struct_of c.in-Ok.element) (picked_element c.pick-picked.result) _ c.loop-index.invariant inside
    (element_read c.with_a_level-list.result c.pick-picked.result.list c.in-Ok.element c.pick-picked.result.index c.with_a_level-list.ensures.list c.with_a_level-list.ensures.levels c.in-Ok.ensures.read)
    c.pick-picked.ensures (c.in_err-put_struct.ensures.cause other))

pub loop-index-preserved : goal.loop-index-preserved
loop-index-preserved c =
    let s = splice_seen c.args.splice in
    let inside : c.loop-index.index < spliced_count s = omega (arith, c.loop-index-test.true, c.count_spliced-count.ensures) in
    structs_next c.loop-index.arena c.put_struct.new.arena c.args.size s c.loop-index.index (struct_of c.in-Ok.element) (picked_element c.pick-picked.result) c.loop-index.invariant inside
    (element_read c.with_a_level-list.result c.pick-picked.result.list c.in-Ok.element c.pick-picked.result.index c.with_a_level-list.ensures.list c.with_a_level-list.ensures.levels c.in-Ok.ensures.read)
    c.pick-picked.ensures
    (subst IsWellFormed c.with_a_level-list.ensures.list c.list_is_well_formed.ensures)
    (picked_room c.args.size s c.loop-index.index (picked_element c.pick-picked.result) c.requires.within inside c.requires.old c.requires.added c.pick-picked.ensures)
    (record { message = c.in_ok-put_struct.ensures.message; tree = c.in_ok-put_struct.ensures.tree; sound = c.in_ok-put_struct.ensures.sound })

pub returns-clause-tree : goal.returns-clause-tree
returns-clause-tree c = structs_end c.loop-index.arena c.args.size (splice_seen c.args.splice) c.loop-index.index c.loop-index.invariant (omega (arith, c.loop-index-test.false, c.loop-index.auto.index-end, c.count_spliced-count.ensures))

pub returns-clause-sound : goal.returns-clause-sound
returns-clause-sound c =
    made_within (spliced_structs c.args.size (splice_seen c.args.splice)) (within_at c.args.size (splice_seen c.args.splice) c.count_spliced-count.result c.count_spliced-count.ensures c.in_ok-init_struct_list.ensures.within.0 c.in_ok-init_struct_list.ensures.within.1)
    ∙ structs_sound c.loop-index.arena c.args.size (splice_seen c.args.splice) c.loop-index.index c.loop-index.invariant (omega (arith, c.loop-index-test.false, c.loop-index.auto.index-end, c.count_spliced-count.ensures))
