-- What a fault says: its number, and the place or row that it tells.
use Rattle.std.specs.Prelude.{◌≡◌, ℕ, List, ◌++◌, Some, None, Ok, Err, codes, decimal, Option, Result}
use Rattle.std.specs.Option.{option_map}
use Rattle.frames.specs.declared.faults.Fault.{Fault}
use Rattle.frames.specs.declared.faults.Fault.TheVariants.{Length, Level, TooManyRows, Mark, RowMark, Cap, Field, Memory}

-- a refusal, by its number, and the place or row that it tells if it tells one
pub record Refusal : Type 0 where
  pub number : ℕ
  pub tells : Option ℕ

-- a refusal that tells nothing else
abbrev pub plain : ℕ → Refusal
plain n = record { number = n; tells = None }

-- a refusal that tells a place or a row
abbrev pub telling : ℕ → ℕ → Refusal
telling n k = record { number = n; tells = Some k }

-- the refusal that a fault stands for; want of memory is none
abbrev pub refusal : Fault → Option Refusal
refusal Length = Some (plain 1)
refusal (Level place) = Some (telling 2 place)
refusal TooManyRows = Some (plain 3)
refusal Mark = Some (plain 4)
refusal (RowMark row) = Some (telling 4 row)
refusal Cap = Some (plain 9)
refusal Field = Some (plain 10)
refusal Memory = None

-- what a call answers, by the meaning of what it gives or by its refusal; nothing for want of memory
abbrev pub answer : {X A : Type 0} → (X → A) → Result X Fault → Option (Result A Refusal)
answer meaning (Ok x) = Some (Ok (meaning x))
answer meaning (Err fault) = option_map Err (refusal fault)

-- the refusal of an expected answer, if it is one
abbrev pub refused : {A : Type 0} → Result A Refusal → Option Refusal
refused (Ok a) = None
refused (Err q) = Some q

-- a call that may want memory gives the expected answer, or lacked memory where that is no refusal
abbrev pub Answers : {X A : Type 0} → (X → A) → Result X Fault → Result A Refusal → Type 0
Answers meaning (Ok x) expected = Ok (meaning x) ≡ expected
Answers meaning (Err fault) expected = refusal fault ≡ refused expected

-- what is printed of a fault
abbrev pub fault_text : Fault → List ℕ
fault_text Length = codes "fault 1"
fault_text (Level place) = codes "fault 2 level " ++ decimal place
fault_text TooManyRows = codes "fault 3"
fault_text Mark = codes "fault 4"
fault_text (RowMark row) = codes "fault 4 row " ++ decimal row
fault_text Cap = codes "fault 9"
fault_text Field = codes "fault 10"
fault_text Memory = codes "out of memory"
