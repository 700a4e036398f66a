-- What is printed of a fault.
use Rattle.std.specs.Prelude.{ℕ, List, codes}
use Rattle.jobfile.specs.declared.records.ReadingFault.{ReadingFault}
use Rattle.jobfile.specs.declared.records.ReadingFault.TheVariants.{Kind, Spare, Level}

abbrev pub cause_text : ReadingFault → List ℕ
cause_text Kind = codes "kind"
cause_text Spare = codes "spare"
cause_text Level = codes "level"
