-- What is appended, before the name of the bytes from here on, is the whole.
-- A dot puts the bindings of its part before itself; any other byte stands as it is.
use Rattle.std.proofs.Common.{[], ◌∷◌, ◌++◌, ◌∙◌, ap, arith, get_or}
use Rattle.std.proofs.lemmas.Bool.{eq-eqb, ne_eqb}
use Rattle.std.proofs.lemmas.Result.{err_from_is_err_and}
use Rattle.capnp_request.specs.Steps.NamesMade.{struct_names, texts}
use Rattle.capnp_request.proofs.NamesJoined.{byte_appended, dot_appended, dot_pushed, part_long}
use Rattle.capnp_request.proofs.names.append_dotted.Goals as goal
use Rattle.capnp_request.proofs.names.append_dotted.Goals.{else-byte-eq46, then-byte-eq46+in_ok-append_part_bindings}

pub returns-in_err-append_part_bindings-clause-refused : goal.returns-in_err-append_part_bindings-clause-refused
returns-in_err-append_part_bindings-clause-refused c =
    let p = err_from_is_err_and c.from_residual.result c.from_residual.ensures.1 in
    rw (p.1, p.2) (part_long (struct_names c.args.named.structs.now) (texts c.args.named.enums.now) c.args.scopes.now c.dots_in-dots.result c.loop-byte.part c.args.dotted.now c.loop-byte.byte-index c.loop-byte-test.true _ _ c.loop-byte.invariant.1 _ (eq-eqb _ _ c.if-byte-eq46.true) c.in_err-append_part_bindings.ensures.refused)

pub returns-in_err-push-clause-refused : goal.returns-in_err-push-clause-refused
returns-in_err-push-clause-refused c =
    let p = err_from_is_err_and c.from_residual-in_err-push.result c.from_residual-in_err-push.ensures.1 in
    rw p.1 (record { too_long = λ is. absurd (is p.2) })

pub loop-byte-preserved : goal.loop-byte-preserved
loop-byte-preserved c =
    elim c.if-byte-eq46.branch [
      | then-byte-eq46+in_ok-append_part_bindings w ↦
          (omega arith, rw w.part-is (dot_appended (struct_names c.args.named.structs.now) (texts c.args.named.enums.now) c.args.scopes.now c.dots_in-dots.result c.loop-byte.part c.args.dotted.now c.loop-byte.byte-index c.loop-byte-test.true _ _ c.loop-byte.invariant.1 w.append_part_bindings.new.name.items _ (eq-eqb _ _ w.if-byte-eq46.true) w.in_ok-append_part_bindings.ensures.appended (dot_pushed _ _ _ _ (ap (λ n. n.items) w.name-is) c.in_ok-push.ensures.items w.if-byte-eq46.true)))
      | else-byte-eq46 w ↦
          (omega arith, rw w.part-is (byte_appended (struct_names c.args.named.structs.now) (texts c.args.named.enums.now) c.args.scopes.now c.dots_in-dots.result c.loop-byte.part c.args.dotted.now c.loop-byte.byte-index c.loop-byte-test.true _ _ c.loop-byte.invariant.1 _ (ne_eqb _ _ w.if-byte-eq46.false) (c.in_ok-push.ensures.items ∙ ap (λ n. n.items ++ get_or c.args.dotted.now c.loop-byte.byte-index 0 ∷ []) w.name-is)))
    ]
