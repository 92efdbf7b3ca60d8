-- Naming the enums from this number on, behind the names so far, is naming all that waited. Past the last enum none is left.
use Rattle.std.proofs.Common.{◌≡◌, ◌+◌, ◌∙◌, ap, arith, drop, length, length-append, rules, slice_get, string_bytes, sym, None, Some}
use Rattle.std.proofs.lemmas.Result.{err_from_is_err_and}
use Rattle.capnp_request.specs.Steps.NamesMade.{texts}
use Rattle.capnp_request.specs.Steps.Nodes.{nodes_of}
use Rattle.capnp_request.specs.Steps.Numbers.{numbered_entries}
use Rattle.capnp_request.specs.Order.{enum_names}
use Rattle.capnp_request.proofs.Numbering.{map_more}
use Rattle.capnp_request.proofs.OrderMade.{names_end, names_more, names_refused}
use Rattle.capnp_request.proofs.conversion.Progress.name_enums.Goals as goal

pub returns-in_err-named-clause-said : goal.returns-in_err-named-clause-said
returns-in_err-named-clause-said c =
    let here : slice_get (numbered_entries c.args.entries.now).enums c.loop-number.number ≡ Some c.in-Some.id = search rules in
    let p = err_from_is_err_and c.from_residual.result c.from_residual.ensures.1 in
    rw (p.1, p.2) (λ is. sym c.loop-number.invariant.left ∙ names_refused (nodes_of c.args.context.nodes.now) (numbered_entries c.args.entries.now).enums c.loop-number.number c.in-Some.id (texts c.loop-number.self.enum_names.items) here _ (c.in_err-named.ensures.said is))

pub loop-number-preserved : goal.loop-number-preserved
loop-number-preserved c =
    let here : slice_get (numbered_entries c.args.entries.now).enums c.loop-number.number ≡ Some c.in-Some.id = search rules in
    record {
      same = c.loop-number.invariant.same;
      names = c.loop-number.invariant.names;
      count = omega (arith, ap length c.in_ok-push.ensures.items, c.loop-number.invariant.count, length-append c.loop-number.self.enum_names.items);
      left = ap (λ xs. enum_names (nodes_of c.args.context.nodes.now) (drop (c.loop-number.number + 1) (numbered_entries c.args.entries.now).enums) xs) (map_more string_bytes c.loop-number.self.enum_names.items _ _ _ c.in_ok-push.ensures.items (search rules))
          ∙ (sym (names_more (nodes_of c.args.context.nodes.now) (numbered_entries c.args.entries.now).enums c.loop-number.number c.in-Some.id (texts c.loop-number.self.enum_names.items) here _ _ c.in_ok-named.ensures.said) ∙ c.loop-number.invariant.left);
    }

pub returns-in_default-clause-said : goal.returns-in_default-clause-said
returns-in_default-clause-said c =
    let none : slice_get (numbered_entries c.args.entries.now).enums c.loop-number.number ≡ None = search rules in
    sym c.loop-number.invariant.left ∙ names_end (nodes_of c.args.context.nodes.now) (numbered_entries c.args.entries.now).enums c.loop-number.number (texts c.loop-number.self.enum_names.items) none
