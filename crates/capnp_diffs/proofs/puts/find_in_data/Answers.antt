use Rattle.std.proofs.Common.{sym, ◌∙◌}
use Rattle.capnp_diffs.proofs.Whole.{data_other, ok_map}
use Rattle.std.proofs.lemmas.Result.{err_from_is_err_and}
use Rattle.capnp_wire.specs.Standing.{levels_of, tree_of}
use Rattle.capnp_schema.specs.Types.{DataType}
use Rattle.capnp_diffs.proofs.Refused.{err_map, memory_where, new_unread, old_unread}
use Rattle.capnp_diffs.proofs.puts.find_in_data.Goals as goal

pub returns-clause-found : goal.returns-clause-found
returns-clause-found c = ok_map c.put_data.result
    (λ adds set. data_other set c.args.step c.args.path.now c.args.out.now.items c.put_data.new.out.items _ _ c.in_ok-source.source c.in_ok-target.target (c.in_ok-source.ensures.value set) (c.in_ok-target.ensures.value set) (sym c.is_same_blob.ensures ∙ c.if-is_same_blob.false) (adds set))
    c.put_data.ensures.added

pub returns-in_err-source-clause-refused : goal.returns-in_err-source-clause-refused
returns-in_err-source-clause-refused c =
    let p = err_from_is_err_and c.from_residual.result c.from_residual.ensures.1 in
    rw (p.1, p.2) (old_unread DataType (tree_of c.args.old.now) (levels_of c.args.old.now) (tree_of c.args.new.now) (levels_of c.args.new.now) _ c.in_err-source.ensures.unread)

pub returns-in_err-target-clause-refused : goal.returns-in_err-target-clause-refused
returns-in_err-target-clause-refused c =
    let p = err_from_is_err_and c.from_residual-in_err-target.result c.from_residual-in_err-target.ensures.1 in
    rw (p.1, p.2) (new_unread DataType (tree_of c.args.old.now) (levels_of c.args.old.now) (tree_of c.args.new.now) (levels_of c.args.new.now) _ c.in_err-target.ensures.unread)

pub returns-clause-refused : goal.returns-clause-refused
returns-clause-refused c = err_map c.put_data.result (λ e. memory_where _ e.kind) c.put_data.ensures.cause
