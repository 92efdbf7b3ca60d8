-- Calls and edits as words, and words as these.
use Rattle.std.specs.Prelude.{ℕ, ◌+◌, List, [], ◌∷◌, ◌++◌, cond, nat_lt, length, drop, codes, decimal, Option, Some, None, Ok, Err}
use Rattle.std.specs.List.{position_or_len, before_first, after_first}
use Rattle.capnp_records.specs.Call.{ElementAt, FieldNamed, FieldNumber, PathStep}
use Rattle.capnp_words.specs.Reads.{Read, read_as, read_then, stands_or}
use Rattle.capnp_words.specs.Numbers.{decimal_at}
use Rattle.capnp_words.specs.Words.{begins_with_one}
use Rattle.capnp_words.specs.Paths.{is_space, path_at, steps_at, words_of_path}
use Rattle.capnp_words.specs.declared.call.Head.{Head}
use Rattle.capnp_words.specs.declared.call.Head.TheVariants as head

-- What is done at the end of a path; a value is the bytes that stand for it, with their place in the word. The path of an edit is
-- that of the list, without the index of the element.
pub data CallOp : Type 0 where
  Get : CallOp
  Has : CallOp
  Which : CallOp
  Set : (value : List ℕ) → (place : ℕ) → CallOp
  Init : CallOp
  Initn : (size : ℕ) → CallOp
  Clear : CallOp
  Append : (value : List ℕ) → (place : ℕ) → CallOp
  Insert : (index : ℕ) → (value : List ℕ) → (place : ℕ) → CallOp
  Remove : (index : ℕ) → CallOp
  Resize : (count : ℕ) → CallOp
  Copy : (from : List PathStep) → CallOp

pub record CallText : Type 0 where
  pub path : List PathStep
  pub op : CallOp

-- ---- how a call is written ----

-- the path of an element of the list at the end of a path
abbrev pub element_path : List PathStep → (index : ℕ) → List PathStep
element_path path i = path ++ ElementAt i ∷ []

abbrev pub op_word : List PathStep → CallOp → List ℕ
op_word path Get = codes "get " ++ words_of_path path
op_word path Has = codes "has " ++ words_of_path path
op_word path Which = codes "which " ++ words_of_path path
op_word path (Set value place) = codes "set " ++ (words_of_path path ++ 32 ∷ value)
op_word path Init = codes "init " ++ words_of_path path
op_word path (Initn size) = codes "initn " ++ (words_of_path path ++ 32 ∷ decimal size)
op_word path Clear = codes "clear " ++ words_of_path path
op_word path (Append value place) = codes "append " ++ (words_of_path path ++ 32 ∷ value)
op_word path (Insert i value place) = codes "insert " ++ (words_of_path (element_path path i) ++ 32 ∷ value)
op_word path (Remove i) = codes "remove " ++ words_of_path (element_path path i)
op_word path (Resize count) = codes "resize " ++ (words_of_path path ++ 32 ∷ decimal count)
op_word path (Copy from) = codes "copy " ++ (words_of_path path ++ 32 ∷ words_of_path from)

abbrev pub call_word : CallText → List ℕ
call_word c = op_word c.path c.op

-- ---- how a word is read ----

-- what an edit begins with, and what a call or an edit does
abbrev pub edit_heads : List (List ℕ × Head)
edit_heads =
    (codes "append ", head.Append) ∷ (codes "insert ", head.Insert) ∷ (codes "remove ", head.Remove) ∷ (codes "resize ", head.Resize)
    ∷ (codes "copy ", head.Copy) ∷ []

abbrev pub heads : List (List ℕ × Head)
heads =
    (codes "set ", head.Set) ∷ (codes "init ", head.Init) ∷ (codes "initn ", head.Initn) ∷ (codes "clear ", head.Clear)
    ∷ (codes "get ", head.Get) ∷ (codes "has ", head.Has) ∷ (codes "which ", head.Which) ∷ edit_heads

abbrev pub call_of : CallOp → List PathStep → CallText
call_of op path = record { path = path; op = op }

-- a path that is not empty, to the end of the word
abbrev pub to_part : CallOp → (place : ℕ) → List ℕ → Read CallText
to_part op place bs = read_as (call_of op) (steps_at place bs)

-- what stands behind the first space
abbrev pub argument_at : (ℕ → List ℕ → Read CallOp) → (place : ℕ) → List ℕ → Read CallOp
argument_at argument place bs =
    cond (nat_lt (position_or_len is_space bs) (length bs)) (argument (place + (position_or_len is_space bs + 1)) (after_first is_space bs)) (Err (place + length bs))

-- a path that is not empty, a space, and what is given to the call
abbrev pub with_argument : (ℕ → List ℕ → Read CallOp) → (place : ℕ) → List ℕ → Read CallText
with_argument argument place bs =
    read_then (steps_at place (before_first is_space bs)) (λ path. read_as (λ op. call_of op path) (argument_at argument place bs))

-- the bytes of a value are all that follow
abbrev pub value_given : (place : ℕ) → List ℕ → Read CallOp
value_given place bs = Ok (Set bs place)

abbrev pub size_given : (place : ℕ) → List ℕ → Read CallOp
size_given place bs = read_as Initn (decimal_at 4294967295 place bs)

abbrev pub append_given : (place : ℕ) → List ℕ → Read CallOp
append_given place bs = Ok (Append bs place)

abbrev pub count_given : (place : ℕ) → List ℕ → Read CallOp
count_given place bs = read_as Resize (decimal_at 4294967295 place bs)

abbrev pub from_given : (place : ℕ) → List ℕ → Read CallOp
from_given place bs = read_as Copy (path_at place bs)

-- a path whose last step is an index, and this; else something is missing where the path ends
abbrev pub step_index : PathStep → Option ℕ
step_index (ElementAt i) = Some i
step_index (FieldNumber i) = None
step_index (FieldNamed name) = None

abbrev pub with_front : PathStep → List PathStep × ℕ → List PathStep × ℕ
with_front s e = (s ∷ e.0, e.1)

abbrev pub indexed : (end : ℕ) → List PathStep → Read (List PathStep × ℕ)
indexed end [] = Err end
indexed end (s ∷ []) = stands_or (step_index s) end (λ i. Ok ([], i))
indexed end (s ∷ t ∷ ss) = read_as (with_front s) (indexed end (t ∷ ss))

abbrev pub element_at : (place : ℕ) → List ℕ → Read (List PathStep × ℕ)
element_at place bs = read_then (steps_at place bs) (indexed (place + length bs))

-- the path of an element, a space, and what is given to the edit
abbrev pub with_element : (ℕ → ℕ → List ℕ → Read CallOp) → (place : ℕ) → List ℕ → Read CallText
with_element argument place bs =
    read_then (element_at place (before_first is_space bs)) (λ e. read_as (λ op. call_of op e.0) (argument_at (argument e.1) place bs))

abbrev pub insert_given : (index : ℕ) → (place : ℕ) → List ℕ → Read CallOp
insert_given i place bs = Ok (Insert i bs place)

abbrev pub after_head : Head → (place : ℕ) → List ℕ → Read CallText
after_head head.Set place bs = with_argument value_given place bs
after_head head.Init place bs = to_part Init place bs
after_head head.Initn place bs = with_argument size_given place bs
after_head head.Clear place bs = to_part Clear place bs
after_head head.Get place bs = to_part Get place bs
after_head head.Has place bs = to_part Has place bs
after_head head.Which place bs = read_as (call_of Which) (path_at place bs)
after_head head.Append place bs = with_argument append_given place bs
after_head head.Insert place bs = with_element insert_given place bs
after_head head.Remove place bs = read_as (λ e. call_of (Remove e.1) e.0) (element_at place bs)
after_head head.Resize place bs = with_argument count_given place bs
after_head head.Copy place bs = with_argument from_given place bs

abbrev pub call_at : List ℕ → Read CallText
call_at bs = read_then (begins_with_one heads 0 bs) (λ h. after_head h.0 h.1 (drop h.1 bs))
