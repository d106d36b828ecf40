-- The numbers and lines of refused books.
use Rattle.std.specs.Prelude.{ℕ, Ok, Err, Result}
use Rattle.book.specs.declared.fault.At.{At}
use Rattle.book.specs.declared.fault.LoadFault.{LoadFault}
use Rattle.book.specs.declared.fault.LoadFault.TheVariants.{TooLong, Form, Turn}

abbrev pub number_of : LoadFault → ℕ
number_of TooLong = 15
number_of (Form at) = 16
number_of (Turn at) = 17

-- the line at fault, from 1; 0 where the book is too long
abbrev pub line_of : LoadFault → ℕ
line_of TooLong = 0
line_of (Form at) = at.line
line_of (Turn at) = at.line

-- the same answer, with the line at its fault
abbrev pub at_line : {T F : Type 0} → ℕ → Result T F → Result T (At F)
at_line line (Ok x) = Ok x
at_line line (Err fault) = Err (record { line = line; fault = fault })
