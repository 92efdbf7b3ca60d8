-- Each recursion is into a pointer or an element, whose tree is lower. Lists are the same where their counts and all entries are.
use Rattle.std.proofs.Common.{ap, arith, refl, sym, ◌∙◌}
use Rattle.capnp_wire.specs.Found.{element_structs, pointer_trees}
use Rattle.capnp_wire.proofs.SameTrees.{height, heights, nth_element_height, nth_height, same_counts, same_structs, same_trees}
use Rattle.capnp_wire.proofs.equal.+equal.Goals as goal

pub are_pointers_same-is_pointer_same-requires : goal.are_pointers_same-is_pointer_same-requires
are_pointers_same-is_pointer_same-requires t c =
    let low = nth_height (pointer_trees c.args.one) c.loop-i.i in
    let at = ap height c.get_pointer.ensures in
    (omega (arith, low, at, c.decreases), tt)

pub are_elements_same-returns-in-Some-count_empty_structs :
    goal.are_elements_same-returns-in-Some-count_empty_structs
are_elements_same-returns-in-Some-count_empty_structs t c = same_counts _ _ _ _ c.in-Some.ensures.structs.2 c.in-Some-count_empty_structs.ensures.structs.2

pub are_elements_same-are_parts_same-requires : goal.are_elements_same-are_parts_same-requires
are_elements_same-are_parts_same-requires t c =
    let low = nth_element_height (element_structs c.args.size.data_words c.args.size.pointers c.args.one) c.loop-i.i in
    let at = ap (λ s. heights s.pointers) c.get_element.ensures in
    (omega (arith, low, at, c.decreases), tt)

pub are_pointers_same-returns : goal.are_pointers_same-returns
are_pointers_same-returns t c =
    (λ yes. same_trees (pointer_trees c.args.one) (pointer_trees c.args.other) (sym c.count_pointers-count.ensures ∙ c.if-count-count_pointers.false ∙ c.count_pointers.ensures) (λ k below. c.loop-i.invariant k (omega (arith, below, c.loop-i-test.false, c.count_pointers-count.ensures))), λ same. refl)

pub are_elements_same-returns : goal.are_elements_same-returns
are_elements_same-returns t c =
    let es = element_structs c.args.size.data_words c.args.size.pointers c.args.one in
    let fs = element_structs c.args.size.data_words c.args.size.pointers c.args.other in
    (λ yes. same_structs es fs (sym c.count_elements-count.ensures ∙ c.if-count-count_elements.false ∙ c.count_elements.ensures) (λ k below. c.loop-i.invariant k (omega (arith, below, c.loop-i-test.false, c.count_elements-count.ensures))), λ same. refl)
