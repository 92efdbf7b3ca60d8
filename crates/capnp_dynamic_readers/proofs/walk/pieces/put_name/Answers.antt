-- A separator, the name and an equals sign, put in turn, are the name's text; a stop in one of the three is a stop in it.
use Rattle.std.proofs.Common.{codes, ap, subst, ◌∙◌, List, ℕ}
use Rattle.capnp_schema.specs.FieldLists.{typed_of}
use Rattle.capnp_schema.specs.Schema.{Field as FieldRecord}
use Rattle.capnp_records.specs.Text.{said_text, separator}
use Rattle.capnp_dynamic_readers.specs.Steps.Pieces.{IsPut, IsStopped}
use Rattle.capnp_dynamic_readers.proofs.Steps.{err_map, ok_map}
use Rattle.capnp_dynamic_readers.proofs.Streams.{first_of_three, handed_on, second_of_three, third_of_three, three_put}
use Rattle.capnp_dynamic_readers.proofs.walk.pieces.put_name.Goals as goal

pub returns-clause-put : goal.returns-clause-put
returns-clause-put g c =
    let name = c.as_str.ensures.value ∙ ap (λ (x : FieldRecord). x.name) c.get_proto.ensures in
    ok_map c.put-2.result
    (three_put (g.O.Out.text c.args.out.now) (g.O.Out.text c.put_separator.new.out) (g.O.Out.text c.put.new.self) (g.O.Out.text c.put-2.new.self) (separator c.args.at c.args.first) (typed_of c.args.field).field.name (codes " = ")
    c.in_ok-put_separator.ensures.put (subst (λ (z : List ℕ). IsPut (g.O.Out.text c.put_separator.new.out) (said_text z) (g.O.Out.text c.put.new.self)) name c.in_ok-put.ensures.put))
    c.put-2.ensures.put

pub returns-in_err-put_separator-clause-stopped : goal.returns-in_err-put_separator-clause-stopped
returns-in_err-put_separator-clause-stopped g c =
    let old = g.O.Out.text c.args.out.now in
    let stop = c.in_err-put_separator.field-0.0 in
    handed_on c.from_residual.result _ stop c.from_residual.ensures.1
    (first_of_three old old old (separator c.args.at c.args.first) (typed_of c.args.field).field.name (codes " = ") stop c.in_err-put_separator.ensures.stopped)

pub returns-in_err-put-clause-stopped : goal.returns-in_err-put-clause-stopped
returns-in_err-put-clause-stopped g c =
    let name = c.as_str.ensures.value ∙ ap (λ (x : FieldRecord). x.name) c.get_proto.ensures in
    let mid = g.O.Out.text c.put_separator.new.out in
    let stop = c.in_err-put.field-0.0 in
    handed_on c.from_residual-in_err-put.result _ stop c.from_residual-in_err-put.ensures.1
    (second_of_three (g.O.Out.text c.args.out.now) mid mid (separator c.args.at c.args.first) (typed_of c.args.field).field.name (codes " = ") stop c.in_ok-put_separator.ensures.put
    (subst (λ (z : List ℕ). IsStopped mid (said_text z) stop) name c.in_err-put.ensures.stopped))

pub returns-clause-stopped : goal.returns-clause-stopped
returns-clause-stopped g c =
    let name = c.as_str.ensures.value ∙ ap (λ (x : FieldRecord). x.name) c.get_proto.ensures in
    err_map c.put-2.result
    (λ stop. third_of_three (g.O.Out.text c.args.out.now) (g.O.Out.text c.put_separator.new.out) (g.O.Out.text c.put.new.self) (separator c.args.at c.args.first) (typed_of c.args.field).field.name (codes " = ") stop
    c.in_ok-put_separator.ensures.put (subst (λ (z : List ℕ). IsPut (g.O.Out.text c.put_separator.new.out) (said_text z) (g.O.Out.text c.put.new.self)) name c.in_ok-put.ensures.put))
    c.put-2.ensures.stopped
