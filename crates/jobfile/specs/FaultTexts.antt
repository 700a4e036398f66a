-- What is printed of a file that is refused: the fault's number, and what it tells.
use Rattle.std.specs.Prelude.{ℕ, List, ◌++◌, Some, None, codes, decimal, Option}
use Rattle.jobfile.specs.Causes.{cause_text}
use Rattle.jobfile.specs.declared.faults.BadReading.{BadReading}
use Rattle.jobfile.specs.declared.faults.BadRow.{BadRow}
use Rattle.jobfile.specs.declared.faults.SectionFault.{SectionFault}
use Rattle.jobfile.specs.declared.faults.SectionFault.TheVariants.{Reading, Row}
use Rattle.jobfile.specs.declared.faults.FileFault.{FileFault}
use Rattle.jobfile.specs.declared.faults.FileFault.TheVariants.{Form, Numbers, Layout, Section, Room, Memory}

-- the number 31, the cause, the record's index, and the place of its first byte
abbrev pub bad_reading_text : BadReading → List ℕ
bad_reading_text x = codes "fault 31 " ++ (cause_text x.cause ++ (codes " " ++ (decimal x.index ++ (codes " " ++ decimal x.byte))))

-- the number 35, the row's index, and the place of its first byte
abbrev pub bad_row_text : BadRow → List ℕ
bad_row_text x = codes "fault 35 row " ++ (decimal x.index ++ (codes " " ++ decimal x.byte))

-- what is wrong in a section
abbrev pub section_fault_text : SectionFault → List ℕ
section_fault_text (Reading x) = bad_reading_text x
section_fault_text (Row x) = bad_row_text x

-- any fault of a file; want of memory has no number
abbrev pub file_fault_text : FileFault → List ℕ
file_fault_text Form = codes "fault 32"
file_fault_text Numbers = codes "fault 33"
file_fault_text Layout = codes "fault 34"
file_fault_text (Section x) = section_fault_text x
file_fault_text Room = codes "fault 36"
file_fault_text Memory = codes "out of memory"

-- a fault's number; want of memory has none
abbrev pub fault_number : FileFault → Option ℕ
fault_number Form = Some 32
fault_number Numbers = Some 33
fault_number Layout = Some 34
fault_number (Section (Reading x)) = Some 31
fault_number (Section (Row x)) = Some 35
fault_number Room = Some 36
fault_number Memory = None
