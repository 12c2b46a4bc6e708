-- The line and the status of each outcome, to the byte, where a number stands in decimal.
use Rattle.std.specs.Prelude.{ℕ, List, [], ◌∷◌, ◌++◌, map, codes, decimal}
use Rattle.std.proofs.Common.{◌≡◌, refl}
use Rattle.lara_base.specs.declared.file_name.FileName.TheVariants.{Catalog, Cells}
use Rattle.lara_data.specs.declared.refusal.Kind.{Kind}
use Rattle.lara_data.specs.declared.refusal.Kind.TheVariants as kind
use Rattle.lara.specs.declared.outcome.TripleKind.TheVariants as triple
use Rattle.lara.specs.declared.outcome.Room.TheVariants as room
use Rattle.lara.specs.declared.outcome.Outcome.{Outcome}
use Rattle.lara.specs.declared.outcome.Outcome.TheVariants.{Done, Usage, Script, Triples, Choice, Range, Damaged, DepotFault, SourceFault, SinkFault, Full, Memory}
use Rattle.lara.specs.Lines.{kind_text, triple_text, room_text, file_text, line_of}
use Rattle.lara.specs.Statuses.{status_of}

-- one outcome of each variant, in the order of their statuses
abbrev each_outcome : List Outcome
each_outcome =
    Done ∷ Usage 3 ∷ Script 1048576 kind.TooLong ∷ Triples 12 triple.FieldCount ∷ Choice 0 ∷ Range 256 ∷ Damaged (Cells 7 65536) 90 ∷ DepotFault
    ∷ SourceFault ∷ SinkFault ∷ Full room.Tables ∷ Memory ∷ []

statuses : map status_of each_outcome ≡ 0 ∷ 1 ∷ 2 ∷ 3 ∷ 4 ∷ 5 ∷ 6 ∷ 7 ∷ 8 ∷ 9 ∷ 10 ∷ 11 ∷ []
statuses = refl

done_line : line_of Done ≡ []
done_line = refl

usage_line : line_of (Usage 3) ≡ codes "lara: word " ++ decimal 3 ++ codes " is not understood\n"
usage_line = refl

script_line : line_of (Script 1048576 kind.TooLong) ≡ codes "lara: script byte " ++ decimal 1048576 ++ codes ": " ++ codes "TooLong" ++ codes "\n"
script_line = refl

triples_line : line_of (Triples 12 triple.FieldCount) ≡ codes "lara: row " ++ decimal 12 ++ codes ": " ++ codes "FieldCount" ++ codes "\n"
triples_line = refl

choice_line : line_of (Choice 0) ≡ codes "lara: choice " ++ decimal 0 ++ codes " does not apply\n"
choice_line = refl

range_line : line_of (Range 256) ≡ codes "lara: statement " ++ decimal 256 ++ codes " is out of range\n"
range_line = refl

depot_line : line_of DepotFault ≡ codes "lara: the depot failed\n"
depot_line = refl

source_line : line_of SourceFault ≡ codes "lara: the input failed\n"
source_line = refl

sink_line : line_of SinkFault ≡ codes "lara: the output failed\n"
sink_line = refl

full_line : line_of (Full room.Tables) ≡ codes "lara: no room: tables\n"
full_line = refl

memory_line : line_of Memory ≡ codes "lara: out of memory\n"
memory_line = refl

file_line : line_of (Damaged (Cells 7 65536) 90) ≡ codes "lara: file " ++ file_text (Cells 7 65536) ++ codes " is damaged at " ++ decimal 90 ++ codes "\n"
file_line = refl

file_name : file_text (Cells 7 65536) ≡ codes "cells-" ++ decimal 7 ++ codes "-" ++ decimal 65536
file_name = refl

catalog_line : line_of (Damaged Catalog 0) ≡ codes "lara: file catalog is damaged at " ++ decimal 0 ++ codes "\n"
catalog_line = refl

kinds :
    map kind_text (kind.BadByte ∷ kind.BadNumber ∷ kind.BadText ∷ kind.Unexpected ∷ kind.TooLong ∷ kind.TooMany ∷ kind.NoTable ∷ kind.NoName ∷ kind.NameTwice ∷ [])
    ≡ codes "BadByte" ∷ codes "BadNumber" ∷ codes "BadText" ∷ codes "Unexpected" ∷ codes "TooLong" ∷ codes "TooMany" ∷ codes "NoTable" ∷ codes "NoName" ∷ codes "NameTwice" ∷ []
kinds = refl

other_kinds :
    map kind_text (kind.TooManyColumns ∷ kind.NotInRange ∷ kind.TypesDiffer ∷ kind.NoCommonValue ∷ kind.NotAKey ∷ kind.NotAnOrder ∷ kind.NoPlugin ∷ kind.PluginRefuses ∷ [])
    ≡ codes "TooManyColumns" ∷ codes "NotInRange" ∷ codes "TypesDiffer" ∷ codes "NoCommonValue" ∷ codes "NotAKey" ∷ codes "NotAnOrder" ∷ codes "NoPlugin" ∷ codes "PluginRefuses" ∷ []
other_kinds = refl

triples :
    map triple_text (triple.TooLong ∷ triple.FieldCount ∷ triple.BadNumber ∷ triple.BadFlag ∷ triple.NotInRange ∷ [])
    ≡ codes "TooLong" ∷ codes "FieldCount" ∷ codes "BadNumber" ∷ codes "BadFlag" ∷ codes "NotInRange" ∷ []
triples = refl

rooms : map room_text (room.Generation ∷ room.Tables ∷ room.Tablets ∷ []) ≡ codes "generation" ∷ codes "tables" ∷ codes "tablets" ∷ []
rooms = refl
