-- Each pointer or element has a smaller tree than what holds it.
-- The sum so far is that of all before; the first fault, or the first sum too large, ends it.
use Rattle.std.proofs.Common.{rules, arith, ◌≡◌, ◌≤◌, ◌<◌, ap, refl, sym}
use Rattle.std.proofs.lemmas.Result.{err_from_is_err_and}
use Rattle.capnp_wire.specs.Tree.{StructTree, nth_struct, nth_tree, struct_count, tree_count}
use Rattle.capnp_wire.specs.Found.{element_structs, parts_tree, pointer_tree, pointer_trees}
use Rattle.capnp_wire.specs.Words.{first_fault, words_of}
use Rattle.capnp_wire.specs.Backing.{segment_list}
use Rattle.capnp_wire.proofs.NullWords.{null_below}
use Rattle.capnp_wire.specs.Facts.Indexed.{length_bits_from}
use Rattle.capnp_wire.specs.Facts.TreeSizes.{nth_struct_smaller, nth_tree_smaller, tree_size, trees_size}
use Rattle.capnp_wire.proofs.Sums.{none_summed, all_summed, one_stops, one_sum_stops, one_summed, no_elements_summed, all_elements_summed, element_stops, element_sum_stops, element_summed}
use Rattle.capnp_wire.proofs.total.+total.Goals as goal

pub total_word-returns-then-is_null_word : goal.total_word-returns-then-is_null_word
total_word-returns-then-is_null_word t c =
    let null = null_below c.args.depth (segment_list c.args.segments) c.args.segment.now c.args.index (c.if-is_null_word.ensures refl) in
    (ap first_fault null, sym (ap words_of null))

pub total_each-total_pointer-requires : goal.total_each-total_pointer-requires
total_each-total_pointer-requires t c =
    let here : c.loop-i.i < tree_count (pointer_trees c.args.pointers) = omega arith in
    let below = nth_tree_smaller c.loop-i.i (pointer_trees c.args.pointers) here in
    let at : tree_size (pointer_tree c.get_pointer.result) ≡ tree_size (nth_tree (pointer_trees c.args.pointers) c.loop-i.i) = ap tree_size c.get_pointer.ensures in
    search (rules, arith, below, at)

pub total_each-loop-i-init : goal.total_each-loop-i-init
total_each-loop-i-init t c = none_summed _

pub total_each-returns-in_err-words : goal.total_each-returns-in_err-words
total_each-returns-in_err-words t c =
    let here : c.loop-i.i < tree_count (pointer_trees c.args.pointers) = omega arith in
    let p = err_from_is_err_and c.from_residual.result c.from_residual.ensures.1 in
    rw (p.1, p.2) (one_stops _ _ _ _ c.loop-i.invariant here (sym c.get_pointer.ensures) _ c.in_err-words.ensures)

pub total_each-returns-in_err-sum : goal.total_each-returns-in_err-sum
total_each-returns-in_err-sum t c =
    let here : c.loop-i.i < tree_count (pointer_trees c.args.pointers) = omega arith in
    let p = err_from_is_err_and c.from_residual-in_err-sum.result c.from_residual-in_err-sum.ensures.1 in
    rw (p.1, p.2) (one_sum_stops _ _ _ _ c.loop-i.invariant here (sym c.get_pointer.ensures) _ _ c.in_ok-words.ensures.1 c.in_err-sum.ensures)

pub total_each-loop-i-preserved : goal.total_each-loop-i-preserved
total_each-loop-i-preserved t c =
    let here : c.loop-i.i < tree_count (pointer_trees c.args.pointers) = omega arith in
    let h = c.in_ok-words.ensures in
    one_summed _ _ _ _ c.loop-i.invariant here (sym c.get_pointer.ensures) _ _ _ h.0 h.1 c.in_ok-sum.ensures.1 refl

pub total_each-returns : goal.total_each-returns
total_each-returns t c =
    let all : tree_count (pointer_trees c.args.pointers) ≤ c.loop-i.i = omega arith in
    all_summed _ _ _ c.loop-i.invariant all

pub total_elements-returns-then-have_no_pointers :
    goal.total_elements-returns-then-have_no_pointers
total_elements-returns-then-have_no_pointers t c =
    (sym (c.if-have_no_pointers.ensures.faults refl), c.if-have_no_pointers.ensures.words refl)

pub total_elements-total_each-requires : goal.total_elements-total_each-requires
total_elements-total_each-requires t c =
    let here : c.loop-i.i < struct_count (element_structs c.args.size.data_words c.args.size.pointers c.args.elements) = omega arith in
    let below = nth_struct_smaller c.loop-i.i (element_structs c.args.size.data_words c.args.size.pointers c.args.elements) here in
    let at : trees_size (parts_tree c.get_element.result).pointers ≡ trees_size (nth_struct (element_structs c.args.size.data_words c.args.size.pointers c.args.elements) c.loop-i.i).pointers = ap (λ (x : StructTree). trees_size x.pointers) c.get_element.ensures in
    search (rules, arith, below, at)

pub total_elements-loop-i-init : goal.total_elements-loop-i-init
total_elements-loop-i-init t c = no_elements_summed _

pub total_elements-returns-in_err-words : goal.total_elements-returns-in_err-words
total_elements-returns-in_err-words t c =
    let here : c.loop-i.i < struct_count (element_structs c.args.size.data_words c.args.size.pointers c.args.elements) = omega arith in
    let p = err_from_is_err_and c.from_residual.result c.from_residual.ensures.1 in
    rw (p.1, p.2) (element_stops _ _ _ _ c.loop-i.invariant here (sym c.get_element.ensures) _ c.in_err-words.ensures)

pub total_elements-returns-in_err-sum : goal.total_elements-returns-in_err-sum
total_elements-returns-in_err-sum t c =
    let here : c.loop-i.i < struct_count (element_structs c.args.size.data_words c.args.size.pointers c.args.elements) = omega arith in
    let p = err_from_is_err_and c.from_residual-in_err-sum.result c.from_residual-in_err-sum.ensures.1 in
    rw (p.1, p.2) (element_sum_stops _ _ _ _ c.loop-i.invariant here (sym c.get_element.ensures) _ _ c.in_ok-words.ensures.1 c.in_err-sum.ensures)

pub total_elements-loop-i-preserved : goal.total_elements-loop-i-preserved
total_elements-loop-i-preserved t c =
    let here : c.loop-i.i < struct_count (element_structs c.args.size.data_words c.args.size.pointers c.args.elements) = omega arith in
    let h = c.in_ok-words.ensures in
    element_summed _ _ _ _ c.loop-i.invariant here (sym c.get_element.ensures) _ _ _ h.0 h.1 c.in_ok-sum.ensures.1 refl

pub total_elements-returns : goal.total_elements-returns
total_elements-returns t c =
    let all : struct_count (element_structs c.args.size.data_words c.args.size.pointers c.args.elements) ≤ c.loop-i.i = omega arith in
    all_elements_summed _ _ _ c.loop-i.invariant all

pub total_found-returns-in-Bits : goal.total_found-returns-in-Bits
total_found-returns-in-Bits t c = rw (c.in-Bits.is, length_bits_from) (refl, omega arith)
