-- The numbers of the refusals.
use Rattle.std.specs.Prelude.{ℕ}
use Rattle.message.specs.declared.fault.HeaderFault.{HeaderFault}
use Rattle.message.specs.declared.fault.HeaderFault.TheVariants.{ShortMessage, BadFixedPart, BadField, NotACall}

abbrev pub fault_number : HeaderFault → ℕ
fault_number ShortMessage = 9
fault_number BadFixedPart = 10
fault_number (BadField place) = 11
fault_number NotACall = 12
