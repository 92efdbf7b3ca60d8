-- The struct's annotations, the lines of fields, and behind them those of enums; and what stops one of them.
use Rattle.std.proofs.Common.{ℕ, List, [], string_bytes, subst}
use Rattle.capnp_schema.specs.Schema.{Schemas}
use Rattle.capnp_schema.specs.StructHandles.{number_of, set_of}
use Rattle.capnp_dynamic_readers.specs.Pieces.{IsAppended}
use Rattle.capnp_structs.specs.Enums.{enum_lines}
use Rattle.capnp_structs.specs.Fields.{head_line, lines_text, lines_within}
use Rattle.capnp_structs.proofs.FieldsWhole.{enums_counted, enums_part, groups_are, head_begun, head_part, lines_counted, lines_part, of_enums, of_lines, whole_put}
use Rattle.capnp_structs.proofs.Stopped.{handed_on, stopped_whole}
use Rattle.capnp_structs.proofs.fields.get_fields_within.Goals as goal

pub returns-in_err-put_head_line-clause-stopped : goal.returns-in_err-put_head_line-clause-stopped
returns-in_err-put_head_line-clause-stopped c =
    let set : Schemas = set_of c.args.schema in
    let b : ℕ = number_of c.args.schema in
    handed_on c.from_residual.result _ c.args.limit [] _ c.from_residual.ensures.1
    (head_part set b c.args.limit _ (head_begun set b c.args.limit _ _ c.new-lines.ensures.bytes c.in_err-put_head_line.ensures.stopped))

pub returns-in_err-put_fields-clause-stopped : goal.returns-in_err-put_fields-clause-stopped
returns-in_err-put_fields-clause-stopped c =
    let set : Schemas = set_of c.args.schema in
    let b : ℕ = number_of c.args.schema in
    let first : List ℕ = string_bytes c.put_head_line.new.out in
    handed_on c.from_residual-in_err-put_fields.result _ c.args.limit [] _ c.from_residual-in_err-put_fields.ensures.1
    (lines_part set b c.args.limit first _ (subst (λ (old : List ℕ). IsAppended old (head_line set b) first) c.new-lines.ensures.bytes c.in_ok-put_head_line.ensures.put)
    (lines_counted set b c.args.limit first _ _ (groups_are c.brands-groups.result.now _ set c.brands-groups.ensures c.get_set.ensures) c.in_err-put_fields.ensures.stopped))

pub returns-in_err-put_enum_lines-clause-stopped : goal.returns-in_err-put_enum_lines-clause-stopped
returns-in_err-put_enum_lines-clause-stopped c =
    let set : Schemas = set_of c.args.schema in
    let b : ℕ = number_of c.args.schema in
    let first : List ℕ = string_bytes c.put_head_line.new.out in
    let mid : List ℕ = string_bytes c.put_fields.new.out in
    let count = groups_are c.brands-groups.result.now _ set c.brands-groups.ensures c.get_set.ensures in
    handed_on c.from_residual-in_err-put_enum_lines.result _ c.args.limit [] _ c.from_residual-in_err-put_enum_lines.ensures.1
    (enums_part set b c.args.limit first mid _ (subst (λ (old : List ℕ). IsAppended old (head_line set b) first) c.new-lines.ensures.bytes c.in_ok-put_head_line.ensures.put)
    (of_lines set b (λ (n : ℕ). IsAppended first (lines_text set (lines_within set n [] b)) mid) _ count c.in_ok-put_fields.ensures.put)
    (enums_counted set b c.args.limit mid _ _ _ _ _ _ c.get_set-2.ensures count c.new-enums.ensures.items c.in_ok-put_fields.ensures.added c.as_slice.ensures.value
    c.in_err-put_enum_lines.ensures.stopped))

pub returns-in_err-check_length-clause-stopped : goal.returns-in_err-check_length-clause-stopped
returns-in_err-check_length-clause-stopped c =
    let set : Schemas = set_of c.args.schema in
    let b : ℕ = number_of c.args.schema in
    let first : List ℕ = string_bytes c.put_head_line.new.out in
    let mid : List ℕ = string_bytes c.put_fields.new.out in
    let new : List ℕ = string_bytes c.put_enum_lines.new.out in
    let count = groups_are c.brands-groups.result.now _ set c.brands-groups.ensures c.get_set.ensures in
    handed_on c.from_residual-in_err-check_length.result _ c.args.limit [] _ c.from_residual-in_err-check_length.ensures.1
    (stopped_whole c.args.limit [] new _ _
    (whole_put set b first mid new (subst (λ (old : List ℕ). IsAppended old (head_line set b) first) c.new-lines.ensures.bytes c.in_ok-put_head_line.ensures.put)
    (of_lines set b (λ (n : ℕ). IsAppended first (lines_text set (lines_within set n [] b)) mid) _ count c.in_ok-put_fields.ensures.put)
    (of_enums set b (λ (z : Schemas) (es : List ℕ). IsAppended mid (enum_lines z [] es) new) _ _ _ _ _ c.get_set-2.ensures count c.new-enums.ensures.items c.in_ok-put_fields.ensures.added c.as_slice.ensures.value c.in_ok-put_enum_lines.ensures.put))
    c.in_err-check_length.ensures.too_long)

pub returns-clause-text : goal.returns-clause-text
returns-clause-text c =
    let set : Schemas = set_of c.args.schema in
    let b : ℕ = number_of c.args.schema in
    let first : List ℕ = string_bytes c.put_head_line.new.out in
    let mid : List ℕ = string_bytes c.put_fields.new.out in
    let new : List ℕ = string_bytes c.put_enum_lines.new.out in
    let count = groups_are c.brands-groups.result.now _ set c.brands-groups.ensures c.get_set.ensures in
    whole_put set b first mid new (subst (λ (old : List ℕ). IsAppended old (head_line set b) first) c.new-lines.ensures.bytes c.in_ok-put_head_line.ensures.put)
    (of_lines set b (λ (n : ℕ). IsAppended first (lines_text set (lines_within set n [] b)) mid) _ count c.in_ok-put_fields.ensures.put)
    (of_enums set b (λ (z : Schemas) (es : List ℕ). IsAppended mid (enum_lines z [] es) new) _ _ _ _ _ c.get_set-2.ensures count c.new-enums.ensures.items c.in_ok-put_fields.ensures.added c.as_slice.ensures.value c.in_ok-put_enum_lines.ensures.put)
