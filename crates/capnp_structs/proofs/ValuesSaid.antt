-- Values that are read and printed, and their words in the place of a refusal.
use Rattle.std.proofs.Common.{ℕ, List, ◌++◌, Bool, true, false, codes, ◌≡◌, ◌∙◌, Ok, Err, ap, ap₂, refl, subst, sym}
use Rattle.std.specs.Str.{is_utf8}
use Rattle.capnp_device.specs.declared.error.ErrorKind.{ErrorKind}
use Rattle.capnp_wire.specs.Depth.{message_levels}
use Rattle.capnp_wire.specs.Standing.{levels_of, tree_of}
use Rattle.capnp_wire.specs.Tree.{Tree}
use Rattle.capnp_wire.specs.declared.pointer_reader.PointerReader.{PointerReader}
use Rattle.capnp_schema.specs.Accepted.{words_root}
use Rattle.capnp_schema.specs.Schema.{Schemas, VoidValue, StructValue, ListValue, node_of, Value as SchemaValue}
use Rattle.capnp_schema.specs.StructHandles.{number_of, set_of}
use Rattle.capnp_schema.specs.Types.{SchemaType, ListType, StructType}
use Rattle.capnp_schema.specs.declared.value.Value.{Value as View}
use Rattle.capnp_schema.specs.declared.value.Value.TheVariants as view
use Rattle.capnp_records.specs.Default.{read_of}
use Rattle.capnp_records.specs.Reading.{value_of}
use Rattle.capnp_records.specs.Record as value
use Rattle.capnp_records.specs.Record.{Left, Value}
use Rattle.capnp_records.specs.Text.{Out, debug_pieces, decimals, quoted_text, said_text, text_of}
use Rattle.capnp_dynamic_readers.specs.Annotated.{stored_read}
use Rattle.capnp_dynamic_readers.specs.Facts.Appended.{nothing}
use Rattle.capnp_dynamic_readers.specs.Handles.{schema_of}
use Rattle.capnp_dynamic_readers.specs.Pieces.{IsAppended}
use Rattle.capnp_dynamic_readers.specs.Seen.{record_seen, value_seen}
use Rattle.capnp_dynamic_readers.specs.Shown.{struct_printed}
use Rattle.capnp_dynamic_readers.specs.Steps.Leaf.{IsLeaf}
use Rattle.capnp_dynamic_readers.specs.Typed.{IsOf, struct_type}
use Rattle.capnp_dynamic_readers.specs.Viewed.{view_read}
use Rattle.capnp_dynamic_readers.specs.declared.dynamic_struct.Reader.{Reader as StructHandle}
use Rattle.capnp_dynamic_readers.specs.declared.dynamic_value.Reader.{Reader as DynamicValue}
use Rattle.capnp_dynamic_readers.specs.declared.dynamic_value.Reader.TheVariants as dynamic
use Rattle.capnp_float_texts.specs.Texts.{float_text_of}
use Rattle.capnp_structs.specs.declared.values.Numbers.{Numbers}
use Rattle.capnp_structs.specs.declared.values.Numbers.TheVariants.{Integers, Floats}
use Rattle.capnp_structs.specs.Limits.{IsFault, IsRefused, IsStopped}
use Rattle.capnp_structs.specs.Steps.Values.{shown_text}
use Rattle.capnp_structs.specs.Values.{as_printed, default_text, is_told, numbers_text, or_words, read_text, stored_text, struct_or_group, told_default, words_text}
use Rattle.capnp_structs.proofs.Appended.{led}
use Rattle.capnp_structs.proofs.Stopped.{stopped_led}

-- ---- a text, or the words ----

pub spoken : (o : Out) (words old new : List ℕ) → IsAppended old o new → IsAppended old (or_words o words) new
spoken (Ok pieces) words old new put = put
spoken (Err kind) words old new (bytes, none, e) = absurd none

pub unspoken : (o : Out) (kind : ErrorKind) (words old mid new : List ℕ) → o ≡ Err kind → mid ≡ old → IsAppended mid (said_text (words_text words)) new → IsAppended old (or_words o words) new
unspoken o kind words old mid new refused same put =
    subst (λ (p : Out). IsAppended old (or_words p words) new) (sym refused) (subst (λ (xs : List ℕ). IsAppended xs (said_text (words_text words)) new) same put)

-- ---- a value that was read ----

group_is : (q : Bool) (s : StructHandle) → struct_printed q s ≡ struct_or_group q (record_seen s)
group_is true s = refl
group_is false s = refl

-- what a value of the type prints as is the text of what it was read as
integers_are : (set : Schemas) (t : SchemaType) (v : DynamicValue) → IsOf set t v → shown_text Integers v ≡ numbers_text Integers set t (as_printed set t (value_seen v))
integers_are set t dynamic.Void is = refl
integers_are set t (dynamic.Bool b) is = refl
integers_are set t (dynamic.Int8 x) is = refl
integers_are set t (dynamic.Int16 x) is = refl
integers_are set t (dynamic.Int32 x) is = refl
integers_are set t (dynamic.Int64 x) is = refl
integers_are set t (dynamic.UInt8 x) is = refl
integers_are set t (dynamic.UInt16 x) is = refl
integers_are set t (dynamic.UInt32 x) is = refl
integers_are set t (dynamic.UInt64 x) is = refl
integers_are set t (dynamic.Enum e) is = ap₂ (λ (z : Schemas) (u : SchemaType). text_of z false u (value_seen (dynamic.Enum e))) is.1 is.2
integers_are set t (dynamic.Text x) is = refl
integers_are set t (dynamic.«Data» bytes) is = refl
integers_are set t (dynamic.Struct s) is =
    ap (text_of (set_of (schema_of s)) false (struct_type (schema_of s))) (group_is (node_of (set_of (schema_of s)) (number_of (schema_of s))).is_group s)
    ∙ ap₂ (λ (z : Schemas) (u : SchemaType). text_of z false u (as_printed z u (value.Struct (record_seen s)))) is.1 is.2
integers_are set t (dynamic.List l) is = ap₂ (λ (z : Schemas) (u : SchemaType). text_of z false u (value_seen (dynamic.List l))) is.0 is.1
integers_are set t (dynamic.AnyPointer p) is = refl

floats_are : (own : Bool) (set : Schemas) (t : SchemaType) (v : DynamicValue) → IsOf set t v → shown_text (Floats own) v ≡ numbers_text (Floats own) set t (as_printed set t (value_seen v))
floats_are own set t dynamic.Void is = refl
floats_are own set t (dynamic.Bool b) is = refl
floats_are own set t (dynamic.Int8 x) is = ap (λ (u : SchemaType). float_text_of set own false u (value_seen (dynamic.Int8 x))) is
floats_are own set t (dynamic.Int16 x) is = ap (λ (u : SchemaType). float_text_of set own false u (value_seen (dynamic.Int16 x))) is
floats_are own set t (dynamic.Int32 x) is = ap (λ (u : SchemaType). float_text_of set own false u (value_seen (dynamic.Int32 x))) is
floats_are own set t (dynamic.Int64 x) is = ap (λ (u : SchemaType). float_text_of set own false u (value_seen (dynamic.Int64 x))) is
floats_are own set t (dynamic.UInt8 x) is = ap (λ (u : SchemaType). float_text_of set own false u (value_seen (dynamic.UInt8 x))) is
floats_are own set t (dynamic.UInt16 x) is = ap (λ (u : SchemaType). float_text_of set own false u (value_seen (dynamic.UInt16 x))) is
floats_are own set t (dynamic.UInt32 x) is = ap (λ (u : SchemaType). float_text_of set own false u (value_seen (dynamic.UInt32 x))) is
floats_are own set t (dynamic.UInt64 x) is = ap (λ (u : SchemaType). float_text_of set own false u (value_seen (dynamic.UInt64 x))) is
floats_are own set t (dynamic.Enum e) is = ap₂ (λ (z : Schemas) (u : SchemaType). float_text_of z own false u (value_seen (dynamic.Enum e))) is.1 is.2
floats_are own set t (dynamic.Text x) is = refl
floats_are own set t (dynamic.«Data» bytes) is = refl
floats_are own set t (dynamic.Struct s) is =
    ap (float_text_of (set_of (schema_of s)) own false (struct_type (schema_of s))) (group_is (node_of (set_of (schema_of s)) (number_of (schema_of s))).is_group s)
    ∙ ap₂ (λ (z : Schemas) (u : SchemaType). float_text_of z own false u (as_printed z u (value.Struct (record_seen s)))) is.1 is.2
floats_are own set t (dynamic.List l) is = ap₂ (λ (z : Schemas) (u : SchemaType). float_text_of z own false u (value_seen (dynamic.List l))) is.0 is.1
floats_are own set t (dynamic.AnyPointer p) is = refl

printed_is : (numbers : Numbers) (set : Schemas) (t : SchemaType) (v : DynamicValue) → IsOf set t v → shown_text numbers v ≡ read_text numbers set t (value_seen v)
unfolding read_text
printed_is Integers set t v is = integers_are set t v is
printed_is (Floats own) set t v is = floats_are own set t v is

pub read_put : (numbers : Numbers) (set : Schemas) (t u : SchemaType) (w : View) (v : DynamicValue) (words old new : List ℕ) → u ≡ t → value_seen v ≡ view_read set w t → IsOf set u v → IsAppended old (or_words (shown_text numbers v) words) new →
    IsAppended old (or_words (read_text numbers set t (view_read set w t)) words) new
read_put numbers set t u w v words old new same seen is put =
    subst (λ (o : Out). IsAppended old (or_words o words) new) (printed_is numbers set t v (subst (λ (x : SchemaType). IsOf set x v) same is) ∙ ap (read_text numbers set t) seen) put

pub read_stopped : (limit : ℕ) (numbers : Numbers) (set : Schemas) (t u : SchemaType) (w : View) (v : DynamicValue) (words old : List ℕ) (kind : ErrorKind) → u ≡ t → value_seen v ≡ view_read set w t → IsOf set u v →
    IsStopped limit old (or_words (shown_text numbers v) words) (IsFault (shown_text numbers v)) kind →
    IsStopped limit old (or_words (read_text numbers set t (view_read set w t)) words) (IsFault (read_text numbers set t (view_read set w t))) kind
read_stopped limit numbers set t u w v words old kind same seen is h =
    subst (λ (o : Out). IsStopped limit old (or_words o words) (IsFault o) kind) (printed_is numbers set t v (subst (λ (x : SchemaType). IsOf set x v) same is) ∙ ap (read_text numbers set t) seen) h

-- a refused read has no text
fault_is : (numbers : Numbers) (set : Schemas) (t : SchemaType) (kind : ErrorKind) → read_text numbers set t (value.Fault kind) ≡ Err kind
unfolding read_text
fault_is Integers set t kind = refl
fault_is (Floats own) set t kind = refl

pub unread_put : (numbers : Numbers) (set : Schemas) (t : SchemaType) (w : View) (kind : ErrorKind) (words old new : List ℕ) → value.Fault kind ≡ view_read set w t → IsAppended old (said_text (words_text words)) new →
    IsAppended old (or_words (read_text numbers set t (view_read set w t)) words) new
unread_put numbers set t w kind words old new refused put =
    unspoken (read_text numbers set t (view_read set w t)) kind words old old new (ap (read_text numbers set t) (sym refused) ∙ fault_is numbers set t kind) refl put

-- ---- a value that is no struct and no list ----

abbrev quoted_by : List ℕ → Bool → Out
quoted_by bs q = elim q [ true ↦ Ok (debug_pieces bs) | false ↦ said_text (codes "<invalid utf-8: [" ++ decimals bs ++ codes "]>") ]

quoted_there : (bs : List ℕ) (kind : ErrorKind) → quoted_text bs ≡ Err kind → ⊥
quoted_there bs kind = go (is_utf8 bs)
  where
    go : (q : Bool) → quoted_by bs q ≡ Err kind → ⊥
    go true e = cc
    go false e = cc

-- it always has a text
integers_there : (v : DynamicValue) (kind : ErrorKind) → IsLeaf v → shown_text Integers v ≡ Err kind → ⊥
integers_there dynamic.Void kind leaf e = cc
integers_there (dynamic.Bool b) kind leaf e = cc
integers_there (dynamic.Int8 x) kind leaf e = cc
integers_there (dynamic.Int16 x) kind leaf e = cc
integers_there (dynamic.Int32 x) kind leaf e = cc
integers_there (dynamic.Int64 x) kind leaf e = cc
integers_there (dynamic.UInt8 x) kind leaf e = cc
integers_there (dynamic.UInt16 x) kind leaf e = cc
integers_there (dynamic.UInt32 x) kind leaf e = cc
integers_there (dynamic.UInt64 x) kind leaf e = cc
integers_there (dynamic.Enum x) kind leaf e = cc
integers_there (dynamic.Text x) kind leaf e = quoted_there x.0.now kind e
integers_there (dynamic.«Data» bytes) kind leaf e = cc
integers_there (dynamic.AnyPointer p) kind leaf e = cc
integers_there (dynamic.Struct s) kind leaf e = leaf
integers_there (dynamic.List l) kind leaf e = leaf

floats_there : (own : Bool) (v : DynamicValue) (kind : ErrorKind) → IsLeaf v → shown_text (Floats own) v ≡ Err kind → ⊥
floats_there own dynamic.Void kind leaf e = cc
floats_there own (dynamic.Bool b) kind leaf e = cc
floats_there own (dynamic.Int8 x) kind leaf e = cc
floats_there own (dynamic.Int16 x) kind leaf e = cc
floats_there own (dynamic.Int32 x) kind leaf e = cc
floats_there own (dynamic.Int64 x) kind leaf e = cc
floats_there own (dynamic.UInt8 x) kind leaf e = cc
floats_there own (dynamic.UInt16 x) kind leaf e = cc
floats_there own (dynamic.UInt32 x) kind leaf e = cc
floats_there own (dynamic.UInt64 x) kind leaf e = cc
floats_there own (dynamic.Enum x) kind leaf e = cc
floats_there own (dynamic.Text x) kind leaf e = quoted_there x.0.now kind e
floats_there own (dynamic.«Data» bytes) kind leaf e = cc
floats_there own (dynamic.AnyPointer p) kind leaf e = cc
floats_there own (dynamic.Struct s) kind leaf e = leaf
floats_there own (dynamic.List l) kind leaf e = leaf

pub leaf_there : (numbers : Numbers) (v : DynamicValue) (kind : ErrorKind) → IsLeaf v → shown_text numbers v ≡ Err kind → ⊥
leaf_there Integers v kind leaf e = integers_there v kind leaf e
leaf_there (Floats own) v kind leaf e = floats_there own v kind leaf e

-- ---- a struct or list by its words ----

words_is : (set : Schemas) (words : List ℕ) (p : PointerReader) (t : SchemaType) → tree_of p ≡ words_root words → levels_of p ≡ message_levels →
    read_of set VoidValue t (value_of set (tree_of p) (Left (levels_of p)) t) ≡ read_of set VoidValue t (value_of set (words_root words) (Left message_levels) t)
words_is set words p t tree levels = ap₂ (λ (x : Tree) (n : ℕ). read_of set VoidValue t (value_of set x (Left n) t)) tree levels

struct_is : (set : Schemas) (t : SchemaType) (words : List ℕ) (p : PointerReader) → tree_of p ≡ words_root words → levels_of p ≡ message_levels → view_read set (view.Struct p) t ≡ stored_read set (StructValue words) t
struct_is set (StructType b g) words p tree levels = words_is set words p (StructType b g) tree levels
struct_is set t words p tree levels = refl

list_is : (set : Schemas) (t : SchemaType) (words : List ℕ) (p : PointerReader) → tree_of p ≡ words_root words → levels_of p ≡ message_levels → view_read set (view.List p) t ≡ stored_read set (ListValue words) t
list_is set (ListType element) words p tree levels = words_is set words p (ListType element) tree levels
list_is set t words p tree levels = refl

pub struct_put : (numbers : Numbers) (set : Schemas) (t : SchemaType) (words : List ℕ) (p : PointerReader) (old new : List ℕ) → tree_of p ≡ words_root words → levels_of p ≡ message_levels →
    IsAppended old (or_words (read_text numbers set t (view_read set (view.Struct p) t)) words) new → IsAppended old (stored_text numbers set t (StructValue words)) new
struct_put numbers set t words p old new tree levels put = subst (λ (v : Value). IsAppended old (or_words (read_text numbers set t v) words) new) (struct_is set t words p tree levels) put

pub list_put : (numbers : Numbers) (set : Schemas) (t : SchemaType) (words : List ℕ) (p : PointerReader) (old new : List ℕ) → tree_of p ≡ words_root words → levels_of p ≡ message_levels →
    IsAppended old (or_words (read_text numbers set t (view_read set (view.List p) t)) words) new → IsAppended old (stored_text numbers set t (ListValue words)) new
list_put numbers set t words p old new tree levels put = subst (λ (v : Value). IsAppended old (or_words (read_text numbers set t v) words) new) (list_is set t words p tree levels) put

pub struct_stopped : (limit : ℕ) (numbers : Numbers) (set : Schemas) (t : SchemaType) (words : List ℕ) (p : PointerReader) (old : List ℕ) (kind : ErrorKind) → tree_of p ≡ words_root words → levels_of p ≡ message_levels →
    IsStopped limit old (or_words (read_text numbers set t (view_read set (view.Struct p) t)) words) (IsFault (read_text numbers set t (view_read set (view.Struct p) t))) kind →
    IsStopped limit old (stored_text numbers set t (StructValue words)) (IsRefused numbers set t (StructValue words)) kind
struct_stopped limit numbers set t words p old kind tree levels h =
    subst (λ (v : Value). IsStopped limit old (or_words (read_text numbers set t v) words) (IsFault (read_text numbers set t v)) kind) (struct_is set t words p tree levels) h

pub list_stopped : (limit : ℕ) (numbers : Numbers) (set : Schemas) (t : SchemaType) (words : List ℕ) (p : PointerReader) (old : List ℕ) (kind : ErrorKind) → tree_of p ≡ words_root words → levels_of p ≡ message_levels →
    IsStopped limit old (or_words (read_text numbers set t (view_read set (view.List p) t)) words) (IsFault (read_text numbers set t (view_read set (view.List p) t))) kind →
    IsStopped limit old (stored_text numbers set t (ListValue words)) (IsRefused numbers set t (ListValue words)) kind
list_stopped limit numbers set t words p old kind tree levels h =
    subst (λ (v : Value). IsStopped limit old (or_words (read_text numbers set t v) words) (IsFault (read_text numbers set t v)) kind) (list_is set t words p tree levels) h

-- ---- a default ----

pub untold : (q : Bool) (set : Schemas) (t : SchemaType) (v : SchemaValue) (old : List ℕ) → is_told v ≡ false → IsAppended old (default_text q set t v) old
untold q set t v old none = subst (λ (p : Bool). IsAppended old (told_default p (stored_text (Floats q) set t v)) old) (sym none) (nothing old)

pub told : (q : Bool) (set : Schemas) (t : SchemaType) (v : SchemaValue) (old mid new : List ℕ) → is_told v ≡ true → mid ≡ old ++ codes ", default " → IsAppended mid (stored_text (Floats q) set t v) new → IsAppended old (default_text q set t v) new
told q set t v old mid new some head put = subst (λ (p : Bool). IsAppended old (told_default p (stored_text (Floats q) set t v)) new) (sym some) (led (codes ", default ") (stored_text (Floats q) set t v) old mid new head put)

pub told_stopped : (limit : ℕ) (q : Bool) (set : Schemas) (t : SchemaType) (v : SchemaValue) (old mid : List ℕ) (kind : ErrorKind) → is_told v ≡ true → mid ≡ old ++ codes ", default " →
    IsStopped limit mid (stored_text (Floats q) set t v) (IsRefused (Floats q) set t v) kind → IsStopped limit old (default_text q set t v) (IsRefused (Floats q) set t v) kind
told_stopped limit q set t v old mid kind some head h =
    subst (λ (p : Bool). IsStopped limit old (told_default p (stored_text (Floats q) set t v)) (IsRefused (Floats q) set t v) kind) (sym some)
    (stopped_led limit (codes ", default ") (stored_text (Floats q) set t v) old mid kind head (λ r. r) h)
