-- The line of each outcome on the error stream.
use Rattle.std.specs.Prelude.{ℕ, List, [], ◌++◌, decimal, codes}
use Rattle.lara_base.specs.declared.file_name.FileName.{FileName}
use Rattle.lara_base.specs.declared.file_name.FileName.TheVariants.{Catalog, Cells}
use Rattle.lara_data.specs.declared.refusal.Kind.{Kind}
use Rattle.lara_data.specs.declared.refusal.Kind.TheVariants as kind
use Rattle.lara.specs.declared.outcome.TripleKind.{TripleKind}
use Rattle.lara.specs.declared.outcome.TripleKind.TheVariants as triple
use Rattle.lara.specs.declared.outcome.Room.{Room}
use Rattle.lara.specs.declared.outcome.Room.TheVariants as room
use Rattle.lara.specs.declared.outcome.Outcome.{Outcome}
use Rattle.lara.specs.declared.outcome.Outcome.TheVariants.{Done, Usage, Script, Triples, Choice, Range, Damaged, DepotFault, SourceFault, SinkFault, Full, Memory}

-- the name of a kind of refusal
abbrev pub kind_text : Kind → List ℕ
kind_text kind.BadByte = codes "BadByte"
kind_text kind.BadNumber = codes "BadNumber"
kind_text kind.BadText = codes "BadText"
kind_text kind.Unexpected = codes "Unexpected"
kind_text kind.TooLong = codes "TooLong"
kind_text kind.TooMany = codes "TooMany"
kind_text kind.NoTable = codes "NoTable"
kind_text kind.NoName = codes "NoName"
kind_text kind.NameTwice = codes "NameTwice"
kind_text kind.TooManyColumns = codes "TooManyColumns"
kind_text kind.NotInRange = codes "NotInRange"
kind_text kind.TypesDiffer = codes "TypesDiffer"
kind_text kind.NoCommonValue = codes "NoCommonValue"
kind_text kind.NotAKey = codes "NotAKey"
kind_text kind.NotAnOrder = codes "NotAnOrder"
kind_text kind.NoPlugin = codes "NoPlugin"
kind_text kind.PluginRefuses = codes "PluginRefuses"

-- the name of what is wrong with a record
abbrev pub triple_text : TripleKind → List ℕ
triple_text triple.TooLong = codes "TooLong"
triple_text triple.FieldCount = codes "FieldCount"
triple_text triple.BadNumber = codes "BadNumber"
triple_text triple.BadFlag = codes "BadFlag"
triple_text triple.NotInRange = codes "NotInRange"

-- what has no room, in a word
abbrev pub room_text : Room → List ℕ
room_text room.Generation = codes "generation"
room_text room.Tables = codes "tables"
room_text room.Tablets = codes "tablets"

-- the name of a file
abbrev pub file_text : FileName → List ℕ
file_text Catalog = codes "catalog"
file_text (Cells generation number) = codes "cells-" ++ decimal generation ++ codes "-" ++ decimal number

-- the line of an outcome, with its line feed; Done has none
abbrev pub line_of : Outcome → List ℕ
line_of Done = []
line_of (Usage at) = codes "lara: word " ++ decimal at ++ codes " is not understood\n"
line_of (Script at kind) = codes "lara: script byte " ++ decimal at ++ codes ": " ++ kind_text kind ++ codes "\n"
line_of (Triples row kind) = codes "lara: row " ++ decimal row ++ codes ": " ++ triple_text kind ++ codes "\n"
line_of (Choice index) = codes "lara: choice " ++ decimal index ++ codes " does not apply\n"
line_of (Range statement) = codes "lara: statement " ++ decimal statement ++ codes " is out of range\n"
line_of (Damaged file at) = codes "lara: file " ++ file_text file ++ codes " is damaged at " ++ decimal at ++ codes "\n"
line_of DepotFault = codes "lara: the depot failed\n"
line_of SourceFault = codes "lara: the input failed\n"
line_of SinkFault = codes "lara: the output failed\n"
line_of (Full what) = codes "lara: no room: " ++ room_text what ++ codes "\n"
line_of Memory = codes "lara: out of memory\n"
