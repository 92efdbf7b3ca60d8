-- Structs without pointers lead to nothing.
use Rattle.std.proofs.Common.{None, ◌≡◌, ℕ, zero, suc, refl, sym, ap, ◌∙◌, subst, arith}
use Rattle.capnp_wire.specs.Found.{element_structs, struct_of_elements}
use Rattle.capnp_wire.specs.Tree.{NoTrees, StructTree, structs_from}
use Rattle.capnp_wire.specs.Words.{first_fault_of_all, first_fault_of_elements, first_of, words_below_all, words_of_all}
use Rattle.capnp_wire.specs.declared.parts.row.Elements.{Elements}

no_words : (f : ℕ → StructTree) (first count : ℕ) → ((i : ℕ) → (f i).pointers ≡ NoTrees) → words_below_all (structs_from f first count) ≡ 0
no_words f first zero h = refl
no_words f first (suc count) h =
    let here : words_of_all (f first).pointers ≡ 0 = ap words_of_all (h first) in
    omega (arith, here, no_words f (suc first) count h)

no_faults : (f : ℕ → StructTree) (first count : ℕ) → ((i : ℕ) → (f i).pointers ≡ NoTrees) → first_fault_of_elements (structs_from f first count) ≡ None
no_faults f first zero h = refl
no_faults f first (suc count) h = ap (λ ps. first_of (first_fault_of_all ps) (first_fault_of_elements (structs_from f (suc first) count))) (h first) ∙ no_faults f (suc first) count h

pub no_words_below : (d p : ℕ) (es : Elements) → p ≡ 0 → words_below_all (element_structs d p es) ≡ 0
no_words_below d p es e = subst (λ q. words_below_all (element_structs d q es) ≡ 0) (sym e) (no_words (struct_of_elements d 0 es) 0 es.count (λ i. refl))

pub no_faults_below : (d p : ℕ) (es : Elements) → p ≡ 0 → first_fault_of_elements (element_structs d p es) ≡ None
no_faults_below d p es e = subst (λ q. first_fault_of_elements (element_structs d q es) ≡ None) (sym e) (no_faults (struct_of_elements d 0 es) 0 es.count (λ i. refl))
