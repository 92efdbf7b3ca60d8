-- the number and the name of each refusal
use Rattle.std.specs.Prelude.{ℕ, ◌+◌, ◌-◌, ◌^◌, min, List, codes}
use Rattle.capnp_device.specs.declared.error.ErrorKind.{ErrorKind}
use Rattle.capnp_device.specs.declared.error.ErrorKind.TheVariants.{OutOfMemory, Truncated, TooManySegments, BadPointer, WrongPointerKind, WrongElementSize, TextNotTerminated, TooDeep, CapabilityPointer, SizePastFormat, TooLarge, ReadFailed, WriteFailed, FieldNotFound, TypeMismatch, NotAStruct, ExpectedAListOrBlob, ListAnyPointerNotSupported, InitIsOnlyValidForStructAndAnyPointerFields, InitnIsOnlyValidForListTextOrDataFields, CannotSetAnyPointerFieldToAPrimitiveValue, InactiveMember, UntypedStep, NoSuchElement, NotAContainer, Schema, FloatType, InterfaceType, UnknownKind, NameNotUtf8, NameNotFound, NodeNotFound, TooManyTypes}

-- the number that stands for a kind; a broken rule k is 40 + k, as far as a u32 goes
abbrev pub error_number : ErrorKind → ℕ
error_number OutOfMemory = 1
error_number Truncated = 2
error_number TooManySegments = 3
error_number BadPointer = 4
error_number WrongPointerKind = 5
error_number WrongElementSize = 6
error_number TextNotTerminated = 7
error_number TooDeep = 8
error_number CapabilityPointer = 9
error_number SizePastFormat = 10
error_number TooLarge = 11
error_number ReadFailed = 12
error_number WriteFailed = 13
error_number FieldNotFound = 20
error_number TypeMismatch = 21
error_number NotAStruct = 22
error_number ExpectedAListOrBlob = 23
error_number ListAnyPointerNotSupported = 24
error_number InitIsOnlyValidForStructAndAnyPointerFields = 25
error_number InitnIsOnlyValidForListTextOrDataFields = 26
error_number CannotSetAnyPointerFieldToAPrimitiveValue = 27
error_number InactiveMember = 30
error_number UntypedStep = 31
error_number NoSuchElement = 32
error_number NotAContainer = 33
error_number (Schema table field rule entry) = min (rule + 40) (2 ^ 32 - 1)
error_number FloatType = 60
error_number InterfaceType = 61
error_number UnknownKind = 62
error_number NameNotUtf8 = 63
error_number NameNotFound = 64
error_number NodeNotFound = 65
error_number TooManyTypes = 66

-- the name of a kind, in ASCII
abbrev pub error_name : ErrorKind → List ℕ
error_name OutOfMemory = codes "OutOfMemory"
error_name Truncated = codes "Truncated"
error_name TooManySegments = codes "TooManySegments"
error_name BadPointer = codes "BadPointer"
error_name WrongPointerKind = codes "WrongPointerKind"
error_name WrongElementSize = codes "WrongElementSize"
error_name TextNotTerminated = codes "TextNotTerminated"
error_name TooDeep = codes "TooDeep"
error_name CapabilityPointer = codes "CapabilityPointer"
error_name SizePastFormat = codes "SizePastFormat"
error_name TooLarge = codes "TooLarge"
error_name ReadFailed = codes "ReadFailed"
error_name WriteFailed = codes "WriteFailed"
error_name FieldNotFound = codes "FieldNotFound"
error_name TypeMismatch = codes "TypeMismatch"
error_name NotAStruct = codes "NotAStruct"
error_name ExpectedAListOrBlob = codes "ExpectedAListOrBlob"
error_name ListAnyPointerNotSupported = codes "ListAnyPointerNotSupported"
error_name InitIsOnlyValidForStructAndAnyPointerFields = codes "InitIsOnlyValidForStructAndAnyPointerFields"
error_name InitnIsOnlyValidForListTextOrDataFields = codes "InitnIsOnlyValidForListTextOrDataFields"
error_name CannotSetAnyPointerFieldToAPrimitiveValue = codes "CannotSetAnyPointerFieldToAPrimitiveValue"
error_name InactiveMember = codes "InactiveMember"
error_name UntypedStep = codes "UntypedStep"
error_name NoSuchElement = codes "NoSuchElement"
error_name NotAContainer = codes "NotAContainer"
error_name (Schema table field rule entry) = codes "Schema"
error_name FloatType = codes "FloatType"
error_name InterfaceType = codes "InterfaceType"
error_name UnknownKind = codes "UnknownKind"
error_name NameNotUtf8 = codes "NameNotUtf8"
error_name NameNotFound = codes "NameNotFound"
error_name NodeNotFound = codes "NodeNotFound"
error_name TooManyTypes = codes "TooManyTypes"
