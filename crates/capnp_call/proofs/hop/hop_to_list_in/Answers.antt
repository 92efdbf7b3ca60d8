-- The list of an element, filled, or what it is refused with.
use Rattle.std.proofs.Common.{None, refl, subst, sym, ◌≡◌}
use Rattle.std.proofs.lemmas.Bool.{true≢false}
use Rattle.capnp_wire.specs.Edits.{IsDueRefusal}
use Rattle.capnp_wire.specs.Facts.Parts.{IsWellFormed_element_pointer}
use Rattle.capnp_wire.specs.Tree.{Tree}
use Rattle.capnp_wire.specs.Words.{first_fault}
use Rattle.capnp_arena.specs.Forest.{tree}
use Rattle.capnp_arena.specs.Segment.{segment}
use Rattle.capnp_schema.specs.Entries.{lists_seen}
use Rattle.capnp_schema.specs.Schema.{VoidValue, brand_at}
use Rattle.capnp_schema.specs.Types.{ListType, seen_type}
use Rattle.capnp_records.specs.Writes.Fill.{IsAtRest}
use Rattle.capnp_slots.specs.Fills.{fill_due}
use Rattle.capnp_call.proofs.Hopping.{element_stays, list_in_leads}
use Rattle.capnp_call.proofs.ListWalks.{element_list_stops, has_pointer}
use Rattle.capnp_call.proofs.Parts.{inner_stands}
use Rattle.capnp_call.specs.declared.hop.At.TheVariants as at
use Rattle.capnp_call.proofs.hop.hop_to_list_in.Goals as goal

pub get_pointer_element-pointer-requires-clause-pointer : goal.get_pointer_element-pointer-requires-clause-pointer
get_pointer_element-pointer-requires-clause-pointer c = has_pointer (lists_seen c.args.schemas.now) (seen_type c.args.inner) (tree (segment c.args.arena.now) c.args.word) c.args.index c.requires.list c.requires.inside

pub returns-in-Err : goal.returns-in-Err
returns-in-Err c = λ rest end.
    let set = lists_seen c.args.schemas.now in
    let e = seen_type c.args.inner in
    let x = tree (segment c.args.arena.now) c.args.word in
    let i = c.args.index in
    let now = c.get_pointer_element-pointer.ensures.tree in
    element_stays c.args.word set (ListType e) i rest end (segment c.args.arena.now) (segment c.fill_list.new.arena) c.in-Err.error.kind c.requires.forest c.in-Err.ensures.refused
    (element_list_stops set x i rest end c.requires.inside e c.in-Err.error x refl
    (λ b. ((c.numbers_fit.ensures.nodes (brand_at set b).node).data_words, (c.numbers_fit.ensures.nodes (brand_at set b).node).pointers))
    (IsWellFormed_element_pointer x i 1 c.requires.list.formed)
    (subst (λ (y : Tree). first_fault y ≡ None) now c.tree_is_sound.ensures.whole)
    (subst (λ (y : Tree). IsDueRefusal c.in-Err.error (fill_due set VoidValue (ListType e) y)) now c.in-Err.ensures.cause)
    (λ at. true≢false (sym (c.in-Err.ensures.rests (subst (IsAtRest set VoidValue (ListType e)) (sym now) at)))))

pub returns : goal.returns
returns c =
    let set = lists_seen c.args.schemas.now in
    let e = seen_type c.args.inner in
    let old = segment c.args.arena.now in
    let m = segment c.fill_list.new.arena in
    let p = c.get_pointer_element-pointer.result in
    list_in_leads c.args.word set e c.args.index old m p c.requires.inside (has_pointer set e (tree old c.args.word) c.args.index c.requires.list c.requires.inside)
    (record {
      here = c.get_pointer_element-pointer.ensures.tree;
      within = c.in_default.ensures.within;
      whole = c.tree_is_sound.ensures.whole;
      filled = c.in_default.ensures.filled;
      changes = c.in_default.ensures.frame.changes;
      leaves = c.get_pointer_element-pointer.ensures.leaves;
    })
    (record {
      forest = c.in_default.ensures.frame.forest;
      entries = c.requires.entries;
      list = inner_stands set e (tree old p) (tree m p) c.in_default.ensures.filled c.in_default.ensures.within c.tree_is_sound.ensures.whole c.tree_is_sound-2.ensures.formed;
    })
    (at.List p c.args.schemas c.args.inner) (λ bytes h. h) (λ old path end k new h. h)
