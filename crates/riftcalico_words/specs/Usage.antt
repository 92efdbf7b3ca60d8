-- What the program tells of itself, and of words that ask for nothing.
use Rattle.std.specs.Prelude.{ℕ, List, [], ◌∷◌, ◌++◌, Option, Some, None, codes}
use Rattle.riftcalico_words.specs.Requests.{WordFault, no_bytes, no_verb, other_words, unknown_option, unknown_verb}
use Rattle.riftcalico_words.specs.declared.request.Verb.{Verb}
use Rattle.riftcalico_words.specs.declared.request.Verb.TheVariants as verb

-- how the program is called
abbrev pub usage_lines : List ℕ
usage_lines =
    codes "usage: riftcalico show [--set FILE] [--packed] [--limit BYTES] [--each [--keep-going]] NAME [--indent]\n"
    ++ codes "       riftcalico get [--set FILE] [--packed] [--limit BYTES] [--raw] [--paths] [--json] [--each [--keep-going]] NAME PATH.. [--indent]\n"
    ++ codes "       riftcalico json [--set FILE] [--packed] [--limit BYTES] [--each [--keep-going]] NAME [PATH..] [--indent]\n"
    ++ codes "       riftcalico from-json [--set FILE] [--strict] [--packed] [--limit BYTES] [--each [--keep-going]] NAME\n"
    ++ codes "       riftcalico check [--set FILE] [--packed] [--limit PARTS] [--all] [--each [--keep-going]] NAME [PATH]\n"
    ++ codes "       riftcalico patch [--set FILE] [--calls FILE] [--keep-going] [--packed] [--limit BYTES] [--each] [--in-place FILE] NAME CALL..\n"
    ++ codes "       riftcalico new [--set FILE] [--calls FILE] [--keep-going] [--packed] [--limit BYTES] NAME CALL..\n"
    ++ codes "       riftcalico structs [--set FILE] [--limit BYTES] [NAME]\n"
    ++ codes "       riftcalico schemas [--strict] [--limit BYTES]\n"
    ++ codes "       riftcalico compatible [--quiet] [--breaking-only] [--both] [--limit BYTES] OLD NEW [NAME]\n"
    ++ codes "       riftcalico diff [--set FILE] [--packed] [--limit BYTES] NAME OLD NEW\n"

-- how a verb is
abbrev pub verb_usage : Verb → List ℕ
verb_usage verb.Show = codes "usage: riftcalico show [--set FILE] [--packed] [--limit BYTES] [--each [--keep-going]] NAME [--indent]\n"
verb_usage verb.Get = codes "usage: riftcalico get [--set FILE] [--packed] [--limit BYTES] [--raw] [--paths] [--json] [--each [--keep-going]] NAME PATH.. [--indent]\n"
verb_usage verb.Json = codes "usage: riftcalico json [--set FILE] [--packed] [--limit BYTES] [--each [--keep-going]] NAME [PATH..] [--indent]\n"
verb_usage verb.FromJson = codes "usage: riftcalico from-json [--set FILE] [--strict] [--packed] [--limit BYTES] [--each [--keep-going]] NAME\n"
verb_usage verb.Check = codes "usage: riftcalico check [--set FILE] [--packed] [--limit PARTS] [--all] [--each [--keep-going]] NAME [PATH]\n"
verb_usage verb.Patch = codes "usage: riftcalico patch [--set FILE] [--calls FILE] [--keep-going] [--packed] [--limit BYTES] [--each] [--in-place FILE] NAME CALL..\n"
verb_usage verb.New = codes "usage: riftcalico new [--set FILE] [--calls FILE] [--keep-going] [--packed] [--limit BYTES] NAME CALL..\n"
verb_usage verb.Structs = codes "usage: riftcalico structs [--set FILE] [--limit BYTES] [NAME]\n"
verb_usage verb.Schemas = codes "usage: riftcalico schemas [--strict] [--limit BYTES]\n"
verb_usage verb.Compatible = codes "usage: riftcalico compatible [--quiet] [--breaking-only] [--both] [--limit BYTES] OLD NEW [NAME]\n"
verb_usage verb.Diff = codes "usage: riftcalico diff [--set FILE] [--packed] [--limit BYTES] NAME OLD NEW\n"

-- what a verb does
abbrev pub verb_help : Verb → List ℕ
verb_help verb.Show =
    codes "usage: riftcalico show [--set FILE] [--packed] [--limit BYTES] [--each [--keep-going]] NAME [--indent]\n"
    ++ codes "\n"
    ++ codes "Prints the root of the first message as a struct NAME, on one line, or with --indent on several. With --packed the\n"
    ++ codes "message is read packed. No text is printed of more bytes than --limit, or else 1 GiB.\n"
    ++ codes "With --each all messages of the input are taken, one after another, and what is told names the message by number.\n"
    ++ codes "With --keep-going one that is refused is told and passed over.\n"
    ++ codes "NAME is a struct of the set in FILE, as 'riftcalico schemas' writes it, or else of the built-in set.\n"
verb_help verb.Get =
    codes "usage: riftcalico get [--set FILE] [--packed] [--limit BYTES] [--raw] [--paths] [--json] [--each [--keep-going]] NAME PATH.. [--indent]\n"
    ++ codes "\n"
    ++ codes "Prints what stands at each PATH of the first message's root, a struct NAME, a line each. PATH has steps joined by '.': a\n"
    ++ codes "field's name, #3, a field by its number, or 4, an element of a list; a last # is the length of a list. '.' alone is the\n"
    ++ codes "root. A step '*' is each element of a list or each field of a struct, a line each. With --paths lines begin with their\n"
    ++ codes "paths. With --raw texts and data are printed as their bytes, with --json all as 'riftcalico json' does. With --packed the\n"
    ++ codes "message is read packed. The texts have no more bytes together than --limit, or else 1 GiB.\n"
    ++ codes "With --each all messages of the input are taken, one after another, and what is told names the message by number.\n"
    ++ codes "With --keep-going one that is refused is told and passed over.\n"
    ++ codes "NAME is a struct of the set in FILE, as 'riftcalico schemas' writes it, or else of the built-in set.\n"
verb_help verb.Json =
    codes "usage: riftcalico json [--set FILE] [--packed] [--limit BYTES] [--each [--keep-going]] NAME [PATH..] [--indent]\n"
    ++ codes "\n"
    ++ codes "Prints the root of the first message, a struct NAME, or what stands at each PATH of it, as JSON, as the public library's\n"
    ++ codes "codec does, each on one line, or with --indent on several. PATH is as 'riftcalico get' takes it. Numbers of 64 bits are\n"
    ++ codes "strings. With --packed the message is read packed. The JSON has no more bytes together than --limit, or else 1 GiB.\n"
    ++ codes "With --each all messages of the input are taken, one after another, and what is told names the message by number.\n"
    ++ codes "With --keep-going one that is refused is told and passed over.\n"
    ++ codes "NAME is a struct of the set in FILE, as 'riftcalico schemas' writes it, or else of the built-in set.\n"
verb_help verb.FromJson =
    codes "usage: riftcalico from-json [--set FILE] [--strict] [--packed] [--limit BYTES] [--each [--keep-going]] NAME\n"
    ++ codes "\n"
    ++ codes "Reads the input as one JSON text, an object with fields of a struct NAME, and writes the message that it stands for.\n"
    ++ codes "Fields that are not named have their defaults. What can't be read is told with its place, counted in bytes from 0. With\n"
    ++ codes "--strict a name that its struct lacks is refused; else it is passed over. With --packed the message is written packed.\n"
    ++ codes "No message is made of more bytes than --limit, or else 1 GiB.\n"
    ++ codes "With --each each line of the input that is not blank is a text, and what is told names its message by number.\n"
    ++ codes "With --keep-going one that is refused is told and passed over.\n"
    ++ codes "NAME is a struct of the set in FILE, as 'riftcalico schemas' writes it, or else of the built-in set.\n"
verb_help verb.Check =
    codes "usage: riftcalico check [--set FILE] [--packed] [--limit PARTS] [--all] [--each [--keep-going]] NAME [PATH]\n"
    ++ codes "\n"
    ++ codes "Reads the first message's root, a struct NAME, or what stands at PATH of it, and tells the first value that can't be\n"
    ++ codes "read, if one can't, or with --all each. Nothing is printed. With --packed the message is read packed. No more fields and\n"
    ++ codes "elements are looked at than --limit, or else 2^30.\n"
    ++ codes "With --each all messages of the input are taken, one after another, and what is told names the message by number.\n"
    ++ codes "With --keep-going one that is refused is told and passed over.\n"
    ++ codes "NAME is a struct of the set in FILE, as 'riftcalico schemas' writes it, or else of the built-in set.\n"
verb_help verb.Patch =
    codes "usage: riftcalico patch [--set FILE] [--calls FILE] [--keep-going] [--packed] [--limit BYTES] [--each] [--in-place FILE] NAME CALL..\n"
    ++ codes "\n"
    ++ codes "Makes calls on a copy of the first message's root, a struct NAME, and writes the message that they leave.\n"
    ++ codes "A CALL is one word: 'set PATH VALUE', 'init PATH', 'initn PATH N', 'clear PATH', 'get PATH', 'has PATH', 'which PATH',\n"
    ++ codes "'append PATH VALUE', 'insert PATH.I VALUE', 'remove PATH.I', 'resize PATH N' or 'copy PATH FROM'. With --calls they are\n"
    ++ codes "the lines of FILE, but empty ones and those that begin with '#'. With --keep-going the message is written also where a\n"
    ++ codes "call is refused. With --packed messages are read and written packed.\n"
    ++ codes "No message is made of more bytes than --limit, or else 1 GiB.\n"
    ++ codes "With --each all messages of the input are taken, one after another, and what is told names the message by number.\n"
    ++ codes "With --keep-going one that is refused is told and passed over too.\n"
    ++ codes "With --in-place the messages are those of FILE, and what is made of them takes their place where nothing was refused.\n"
    ++ codes "NAME is a struct of the set in FILE, as 'riftcalico schemas' writes it, or else of the built-in set.\n"
verb_help verb.New =
    codes "usage: riftcalico new [--set FILE] [--calls FILE] [--keep-going] [--packed] [--limit BYTES] NAME CALL..\n"
    ++ codes "\n"
    ++ codes "Makes calls on an empty struct NAME, and writes the message that they leave.\n"
    ++ codes "A CALL is one word: 'set PATH VALUE', 'init PATH', 'initn PATH N', 'clear PATH', 'get PATH', 'has PATH', 'which PATH',\n"
    ++ codes "'append PATH VALUE', 'insert PATH.I VALUE', 'remove PATH.I', 'resize PATH N' or 'copy PATH FROM'. With --calls they are\n"
    ++ codes "the lines of FILE, but empty ones and those that begin with '#'. With --keep-going the message is written also where a\n"
    ++ codes "call is refused. With --packed it is written packed.\n"
    ++ codes "No message is made of more bytes than --limit, or else 1 GiB.\n"
    ++ codes "NAME is a struct of the set in FILE, as 'riftcalico schemas' writes it, or else of the built-in set.\n"
verb_help verb.Structs =
    codes "usage: riftcalico structs [--set FILE] [--limit BYTES] [NAME]\n"
    ++ codes "\n"
    ++ codes "Lists the structs of a set, or the fields of the struct NAME. No text is printed of more bytes than --limit, or else 1 GiB.\n"
    ++ codes "The set is that of FILE, as 'riftcalico schemas' writes it, or else the built-in one.\n"
verb_help verb.Schemas =
    codes "usage: riftcalico schemas [--strict] [--limit BYTES]\n"
    ++ codes "\n"
    ++ codes "Reads a request of the public compiler, as 'capnp compile -o- FILE..' writes it, and writes its set of schemas.\n"
    ++ codes "With --strict floats and interfaces are refused. No set is made of more bytes than --limit, or else 1 GiB.\n"
verb_help verb.Compatible =
    codes "usage: riftcalico compatible [--quiet] [--breaking-only] [--both] [--limit BYTES] OLD NEW [NAME]\n"
    ++ codes "\n"
    ++ codes "Tells what differs between the struct NAME of the set in the file OLD and that of the set in NEW, so that a program that\n"
    ++ codes "knows one can't read messages of the other: a line for each difference. The status is 0 where there is none, as the newer\n"
    ++ codes "struct follows the older one, and else 1. With --quiet nothing is printed. Sets are as 'riftcalico schemas' writes them.\n"
    ++ codes "Behind the differences a line that begins with 'note:' tells each field and enumerant that came or has another name, and\n"
    ++ codes "each list whose elements became structs, unless --breaking-only stands there.\n"
    ++ codes "Without NAME all structs are compared whose names stand in both sets. Notes tell those that went or came, too, and the\n"
    ++ codes "last line how many structs are compatible and how many not. The status is 0 where all are.\n"
    ++ codes "With --both the sets are compared a second time as if OLD were the newer one, and a line stands before each direction. The\n"
    ++ codes "status is 0 where both are compatible. No text is printed of more bytes than --limit, or else 1 GiB.\n"
verb_help verb.Diff =
    codes "usage: riftcalico diff [--set FILE] [--packed] [--limit BYTES] NAME OLD NEW\n"
    ++ codes "\n"
    ++ codes "Prints the calls that make the first message of the file OLD into that of NEW, both of a struct NAME: a line each, as\n"
    ++ codes "'riftcalico patch --calls' reads them. Nothing is printed where the two are equal. A struct or list that is put whole is\n"
    ++ codes "told as its JSON. With --packed both messages are read packed. The lines have no more bytes together than --limit, or\n"
    ++ codes "else 1 GiB.\n"
    ++ codes "NAME is a struct of the set in FILE, as 'riftcalico schemas' writes it, or else of the built-in set.\n"

-- what the program does, or one verb
abbrev pub program_help : List ℕ
program_help =
    codes "Shows, makes and patches Cap'n Proto messages under schemas that are known at run time. Messages are read from standard\n"
    ++ codes "input and written to standard output.\n"
    ++ codes "\n"
    ++ codes "usage: riftcalico show [--set FILE] [--packed] [--limit BYTES] [--each [--keep-going]] NAME [--indent]\n"
    ++ codes "       riftcalico get [--set FILE] [--packed] [--limit BYTES] [--raw] [--paths] [--json] [--each [--keep-going]] NAME PATH.. [--indent]\n"
    ++ codes "       riftcalico json [--set FILE] [--packed] [--limit BYTES] [--each [--keep-going]] NAME [PATH..] [--indent]\n"
    ++ codes "       riftcalico from-json [--set FILE] [--strict] [--packed] [--limit BYTES] [--each [--keep-going]] NAME\n"
    ++ codes "       riftcalico check [--set FILE] [--packed] [--limit PARTS] [--all] [--each [--keep-going]] NAME [PATH]\n"
    ++ codes "       riftcalico patch [--set FILE] [--calls FILE] [--keep-going] [--packed] [--limit BYTES] [--each] [--in-place FILE] NAME CALL..\n"
    ++ codes "       riftcalico new [--set FILE] [--calls FILE] [--keep-going] [--packed] [--limit BYTES] NAME CALL..\n"
    ++ codes "       riftcalico structs [--set FILE] [--limit BYTES] [NAME]\n"
    ++ codes "       riftcalico schemas [--strict] [--limit BYTES]\n"
    ++ codes "       riftcalico compatible [--quiet] [--breaking-only] [--both] [--limit BYTES] OLD NEW [NAME]\n"
    ++ codes "       riftcalico diff [--set FILE] [--packed] [--limit BYTES] NAME OLD NEW\n"
    ++ codes "\n"
    ++ codes "More of a verb is told by 'riftcalico VERB --help', the version by 'riftcalico --version'.\n"

abbrev pub help_text : Option Verb → List ℕ
help_text (Some v) = verb_help v
help_text None = program_help

abbrev pub version_line : List ℕ
version_line = codes "riftcalico 0.1.0\n"

-- a word, and what it is
abbrev pub word_line : (noun word : List ℕ) → List ℕ
word_line noun word = noun ++ codes ": " ++ word ++ 10 ∷ []

abbrev pub fault_text : WordFault → List ℕ
fault_text no_verb = usage_lines
fault_text (unknown_verb word) = word_line (codes "unknown verb") word ++ usage_lines
fault_text (unknown_option v word) = word_line (codes "unknown option") word ++ verb_usage v
fault_text (no_bytes v word) = word_line (codes "no number of bytes") word ++ verb_usage v
fault_text (other_words v) = verb_usage v
