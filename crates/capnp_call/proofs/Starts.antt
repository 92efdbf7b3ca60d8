-- The root that a run starts from, and what a run leaves there.
use Rattle.std.proofs.Common.{ℕ, suc, ◌^◌, ◌<◌, ◌≡◌, ◌≢◌, refl, List, ◌++◌, Bool, true, false, cond, ◌==◌, IsTrue, Option, Some, None, option_map, Result, Ok, Err, ap, sym, subst, ◌∙◌}
use Rattle.std.specs.Result.{is_ok}
use Rattle.std.proofs.lemmas.Bool.{true≢false}
use Rattle.capnp_device.specs.declared.error.Error.{Error}
use Rattle.capnp_device.specs.declared.error.ErrorKind.{ErrorKind}
use Rattle.capnp_device.specs.declared.error.ErrorKind.TheVariants.{OutOfMemory, TooDeep}
use Rattle.capnp_wire.specs.Depth.{IsShallow}
use Rattle.capnp_wire.specs.Encoding.{message_of}
use Rattle.capnp_wire.specs.Reading.{as_struct, refusal}
use Rattle.capnp_wire.specs.Standing.{tree_of}
use Rattle.capnp_wire.specs.Stream.{message_tree_of}
use Rattle.capnp_wire.specs.Tree as tree
use Rattle.capnp_wire.specs.declared.pointer_reader.PointerReader.{PointerReader}
use Rattle.capnp_schema.specs.Schema.{Schemas}
use Rattle.capnp_schema.specs.Types.{StructType}
use Rattle.capnp_records.specs.Laws.{GroupPrintLaw, PrintLaw}
use Rattle.capnp_records.specs.Reading.{reads, struct_record}
use Rattle.capnp_records.specs.Text.{Out, Pieces, text_of}
use Rattle.capnp_dynamic_readers.specs.Pieces.{IsAppended}
use Rattle.capnp_wire.specs.Edits.{HasAtLeast, IsCopyRefusal, IsStructRefusal, extended_struct, is_struct, struct_in, struct_refusal, zero_struct}
use Rattle.capnp_wire.specs.Facts.Lengths.{HasAtLeast_zero_struct}
use Rattle.capnp_wire.specs.Facts.Structs.{IsWellFormed_extended, IsWellFormed_struct_in, IsWellFormed_zero_struct}
use Rattle.capnp_wire.specs.Place.{struct_tree}
use Rattle.capnp_wire.specs.Tree.{StructTree, Tree}
use Rattle.capnp_wire.specs.WellFormed.{IsWellFormed}
use Rattle.capnp_wire.specs.Words.{first_fault, words_of}
use Rattle.capnp_wire.specs.declared.fault.Fault.{Fault}
use Rattle.capnp_wire.specs.declared.size.StructSize.{StructSize}
use Rattle.capnp_schema.specs.StructHandles.{number_of, set_of}
use Rattle.capnp_schema.specs.declared.schema.structs.StructSchema.{StructSchema}
use Rattle.capnp_records.specs.Facts.Extension.{fits_extended, reads_extended, reads_zero_struct}
use Rattle.capnp_records.specs.Record.{Levels, Record}
use Rattle.capnp_records.specs.Writes.Slots.{Fits}
use Rattle.capnp_schema.specs.Plan.{brand_size}
use Rattle.capnp_call.specs.Messages.{HasRoot, IsWhole, IsWholeRefusal, LeavesRun, fault_or, new_record, new_root, record_left, root_refusal, root_value, record_text, copied_root as copied_root_of}
use Rattle.capnp_call.specs.Steps.Messages.{RunsOn}
use Rattle.capnp_call.specs.Runs.{IsCallMade, IsRunFrom, MakesCalls, record_under_schema}
use Rattle.capnp_call.specs.declared.calls.Call.{Call}
use Rattle.capnp_call.specs.declared.calls.Reply.{Reply}

-- a struct as a root
root_of_struct : (schema : StructSchema) (s : StructTree) (r : Record) (t : Tree) → t ≡ struct_tree s → Fits (set_of schema) (number_of schema) s → IsWellFormed (struct_tree s) → record_under_schema schema s ≡ r → HasRoot schema r t
root_of_struct schema s r t e fits formed reads =
    subst (HasRoot schema r) (sym e) (record { root = record { here = refl; room = fits; formed = formed }; reads_as = reads })

-- an empty one
pub empty_root : (schema : StructSchema) (size : StructSize) (s : StructTree) (t : Tree) → size ≡ brand_size (set_of schema) (number_of schema) → s ≡ zero_struct size → t ≡ struct_tree s → size.data_words < 2 ^ 16 → size.pointers < 2 ^ 16 →
    HasRoot schema (new_record schema) t
empty_root schema size s t is zero root few words =
    root_of_struct schema s _ t root
    (subst (HasAtLeast (brand_size (set_of schema) (number_of schema))) (sym (zero ∙ ap zero_struct is)) (HasAtLeast_zero_struct (brand_size (set_of schema) (number_of schema))))
    (subst (λ (x : StructTree). IsWellFormed (struct_tree x)) (sym zero) (IsWellFormed_zero_struct size few words))
    (ap (record_under_schema schema) zero ∙ reads_zero_struct (set_of schema) size (number_of schema))

-- a copy, with at least the schema's sections
pub copied_root : (schema : StructSchema) (size : StructSize) (s : StructTree) (source t : Tree) → size ≡ brand_size (set_of schema) (number_of schema) → s ≡ extended_struct size (struct_in source) → t ≡ struct_tree s → size.data_words < 2 ^ 16 → size.pointers < 2 ^ 16 →
    IsWellFormed source → HasRoot schema (record_under_schema schema (struct_in source)) t
copied_root schema size s source t is whole root few words formed =
    root_of_struct schema s _ t root
    (subst (Fits (set_of schema) (number_of schema)) (sym (whole ∙ ap (λ (z : StructSize). extended_struct z (struct_in source)) is)) (fits_extended (set_of schema) (number_of schema) (struct_in source)))
    (subst (λ (x : StructTree). IsWellFormed (struct_tree x)) (sym whole) (IsWellFormed_extended size (struct_in source) few words (IsWellFormed_struct_in source formed)))
    (ap (record_under_schema schema) whole ∙ reads_extended (set_of schema) size (struct_in source) (number_of schema))

-- why there is none: the copy was refused, or a list was copied
pub copy_stops : (e : Error) (t : Tree) → IsCopyRefusal e (first_fault t) → e.kind ≢ OutOfMemory → root_refusal t ≡ Some e.kind
copy_stops e t h other = go (first_fault t) (h other)
  where
    none_some : None ≡ Some e.kind → ⊥
    none_some e = cc

    go : (f : Option Fault) → option_map refusal f ≡ Some e.kind → fault_or f (struct_refusal t) ≡ Some e.kind
    go None h = absurd (none_some h)
    go (Some fault) h = h

pub refused_whole : (t t' : Tree) (o : Option ErrorKind) → first_fault t ≡ None → t' ≡ t → struct_refusal t' ≡ o → root_refusal t ≡ o
refused_whole t t' o whole same h = ap (λ (f : Option Fault). fault_or f (struct_refusal t)) whole ∙ (ap struct_refusal (sym same) ∙ h)

pub stopped_whole : (e : Error) (t t' : Tree) → first_fault t ≡ None → t' ≡ t → IsStructRefusal e t' → e.kind ≢ OutOfMemory → root_refusal t ≡ Some e.kind
stopped_whole e t t' whole same h other = refused_whole t t' (Some e.kind) whole same (h.0 other)

-- a call that was made on a struct that stands at a pointer
pub is_made_here : (set : Schemas) (b : ℕ) (old t : Tree) (s s' : StructTree) (call : Call) (reply : Reply) → s ≡ struct_in old → t ≡ struct_tree s' → IsCallMade set b s call reply s' → IsCallMade set b (struct_in old) call reply (struct_in t)
is_made_here set b old t s s' call reply e is made =
    subst (λ (x : StructTree). IsCallMade set b x call reply (struct_in t)) e (subst (λ (y : StructTree). IsCallMade set b s call reply y) (sym (ap struct_in is)) made)

-- a root that is a struct
pub is_struct_root : (t : Tree) (s : StructTree) → t ≡ struct_tree s → IsTrue (is_struct t)
is_struct_root t s is = subst (λ (x : Tree). IsTrue (is_struct x)) (sym is) refl

pub stands_here : (t : Tree) → IsTrue (is_struct t) → t ≡ struct_tree (struct_in t)
stands_here (tree.Struct bytes ps) here = refl
stands_here tree.Null here = absurd (true≢false (sym here))
stands_here (tree.Voids k) here = absurd (true≢false (sym here))
stands_here (tree.Bits bs) here = absurd (true≢false (sym here))
stands_here (tree.Numbers w bytes) here = absurd (true≢false (sym here))
stands_here (tree.Pointers ps) here = absurd (true≢false (sym here))
stands_here (tree.Composite d p es) here = absurd (true≢false (sym here))
stands_here (tree.FaultLeaf k) here = absurd (true≢false (sym here))

-- what a run leaves at the root
pub leaves_root : (schema : StructSchema) (old t : Tree) (calls : List Call) (replies : List Reply) → IsTrue (is_struct t) → IsWellFormed t →
    IsRunFrom schema (record_under_schema schema (struct_in old)) calls replies (record_under_schema schema (struct_in t)) → RunsOn schema old calls replies t
leaves_root schema old t calls replies here formed runs = record { root = stands_here t here; formed = formed; runs = runs }

pub makes_from : (set : Schemas) (b : ℕ) (s old new : StructTree) (calls : List Call) (replies : List Reply) → old ≡ s → MakesCalls set b old calls replies new → MakesCalls set b s calls replies new
makes_from set b s old new calls replies e made = subst (λ (x : StructTree). MakesCalls set b x calls replies new) e made

-- the root is the struct that was made
pub root_made : (schema : StructSchema) (size : StructSize) (s : StructTree) (t : Tree) → size ≡ brand_size (set_of schema) (number_of schema) → s ≡ zero_struct size → t ≡ struct_tree s → struct_in t ≡ new_root schema
root_made schema size s t is zero root = ap struct_in root ∙ (zero ∙ ap zero_struct is)

pub root_copied : (schema : StructSchema) (size : StructSize) (s : StructTree) (source : PointerReader) (t : Tree) → size ≡ brand_size (set_of schema) (number_of schema) → s ≡ extended_struct size (struct_in (tree_of source)) → t ≡ struct_tree s →
    struct_in t ≡ copied_root_of schema source
root_copied schema size s source t is whole root = ap struct_in root ∙ (whole ∙ ap (λ (z : StructSize). extended_struct z (struct_in (tree_of source))) is)

-- and of a root that reads as a record
pub leaves_run : (schema : StructSchema) (r : Record) (t t' : Tree) (calls : List Call) (replies : List Reply) → HasRoot schema r t → RunsOn schema t calls replies t' → LeavesRun schema r calls replies t'
leaves_run schema r t t' calls replies root run = subst (λ (y : Record). LeavesRun schema y calls replies t') root.reads_as run

-- ---- what is printed ----

module _ (law : PrintLaw) (groups : GroupPrintLaw) (set : Schemas) (indented : Bool) (b g : ℕ) (s : StructTree) (l : Levels) where
  text_same : (q : Bool) (pieces : Pieces) → text_of set indented (StructType b g) (root_value q (struct_record set l s b)) ≡ Ok pieces → text_of set indented (StructType b g) (root_value q (reads set s b)) ≡ Ok pieces
  text_same true pieces h = groups set l indented b g s pieces h
  text_same false pieces h = law set l indented b g s pieces h

  pub appended : (q : Bool) (old new : List ℕ) → IsAppended old (text_of set indented (StructType b g) (root_value q (struct_record set l s b))) new → IsAppended old (text_of set indented (StructType b g) (root_value q (reads set s b))) new
  appended q old new h = go (text_of set indented (StructType b g) (root_value q (struct_record set l s b))) refl h
    where
      go : (o : Out) → text_of set indented (StructType b g) (root_value q (struct_record set l s b)) ≡ o → IsAppended old o new → IsAppended old (text_of set indented (StructType b g) (root_value q (reads set s b))) new
      go (Ok pieces) e k = subst (λ (o : Out). IsAppended old o new) (sym (text_same q pieces e)) k
      go (Err kind) e (bytes, k, f) = absurd k

abbrev ok_struct : StructTree → Result StructTree ErrorKind → StructTree
ok_struct other (Ok s) = s
ok_struct other (Err kind) = other

-- what was read as a struct is the one that stands there
pub struct_answered : (t : Tree) (n : ℕ) (x : StructTree) → IsTrue (is_struct t) → as_struct t n ≡ Ok x → x ≡ struct_in t
struct_answered (tree.Struct bytes ps) n x here h = go (n == 0) h
  where
    go : (q : Bool) → cond q (Err TooDeep) (Ok (record { bytes = bytes; pointers = ps })) ≡ Ok x → x ≡ record { bytes = bytes; pointers = ps }
    go true h = absurd (true≢false (sym (ap is_ok h)))
    go false h = sym (ap (ok_struct x) h)
struct_answered tree.Null n x here h = absurd (true≢false (sym here))
struct_answered (tree.Voids k) n x here h = absurd (true≢false (sym here))
struct_answered (tree.Bits bs) n x here h = absurd (true≢false (sym here))
struct_answered (tree.Numbers w bytes) n x here h = absurd (true≢false (sym here))
struct_answered (tree.Pointers ps) n x here h = absurd (true≢false (sym here))
struct_answered (tree.Composite d p es) n x here h = absurd (true≢false (sym here))
struct_answered (tree.FaultLeaf k) n x here h = absurd (true≢false (sym here))

-- and a struct is read as one where a level is left
pub struct_reads : (t : Tree) (n : ℕ) (kind : ErrorKind) → IsTrue (is_struct t) → n ≡ 64 → Err kind ≡ as_struct t n → ⊥
struct_reads (tree.Struct bytes ps) n kind here levels h = true≢false (sym (ap is_ok (h ∙ ap (as_struct (tree.Struct bytes ps)) levels)))
struct_reads tree.Null n kind here levels h = true≢false (sym here)
struct_reads (tree.Voids k) n kind here levels h = true≢false (sym here)
struct_reads (tree.Bits bs) n kind here levels h = true≢false (sym here)
struct_reads (tree.Numbers w bytes) n kind here levels h = true≢false (sym here)
struct_reads (tree.Pointers ps) n kind here levels h = true≢false (sym here)
struct_reads (tree.Composite d p es) n kind here levels h = true≢false (sym here)
struct_reads (tree.FaultLeaf k) n kind here levels h = true≢false (sym here)

-- ---- the whole ----

pub whole : (schema : StructSchema) (r : Record) (t : Tree) (calls : List Call) (replies : List Reply) (bytes : List ℕ) (indented : Bool) (old new : List ℕ) → LeavesRun schema r calls replies t →
    (start : StructTree) → MakesCalls (set_of schema) (number_of schema) start calls replies (struct_in t) → suc (words_of t) < 2 ^ 29 → bytes ≡ message_of t → (IsShallow t → (rest : List ℕ) → message_tree_of (bytes ++ rest) ≡ Ok t) → IsAppended old (record_text schema indented (record_under_schema schema (struct_in t))) new →
    IsWhole schema r start calls replies bytes indented old new
whole schema r t calls replies bytes indented old new leaves start makes fits written read printed = record {
  root = struct_in t;
  runs = leaves.runs;
  made = makes;
  fits = subst (λ (y : Tree). suc (words_of y) < 2 ^ 29) leaves.root fits;
  written = written ∙ ap message_of leaves.root;
  read_back = subst (λ (y : Tree). IsShallow y → (rest : List ℕ) → message_tree_of (bytes ++ rest) ≡ Ok y) leaves.root read;
  printed = printed;
}

pub is_root : (schema : StructSchema) (r : Record) (t : Tree) (calls : List Call) (replies : List Reply) → LeavesRun schema r calls replies t → IsTrue (is_struct t)
is_root schema r t calls replies leaves = subst (λ (y : Tree). IsTrue (is_struct y)) (sym leaves.root) refl

-- why a root was not printed
module _ (schema : StructSchema) (r : Record) (t : Tree) (calls : List Call) (replies : List Reply) (leaves : LeavesRun schema r calls replies t) (indented : Bool) (kind : ErrorKind) where
  pub not_printed : suc (words_of t) < 2 ^ 29 → (kind ≢ OutOfMemory → record_text schema indented (record_left schema (struct_in t)) ≡ Err kind) → kind ≢ OutOfMemory → IsWholeRefusal schema r calls indented kind
  not_printed fits refused other = record {
    root = struct_in t;
    replies = replies;
    runs = leaves.runs;
    fits = subst (λ (y : Tree). suc (words_of y) < 2 ^ 29) leaves.root fits;
    cause = refused other;
  }
