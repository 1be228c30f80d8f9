-- How it is printed what a line would place, or why it cannot be placed.
use Rattle.std.specs.Prelude.{◌++◌, codes, decimal}
use Rattle.names.specs.Names.{Bytes}
use Rattle.names.specs.Printed.{invalid_text}
use Rattle.plan.specs.declared.Fault.{Fault}
use Rattle.plan.specs.declared.Fault.TheVariants as fault
use Rattle.plan.specs.declared.Limit.{Limit}
use Rattle.plan.specs.declared.Limit.TheVariants as limit
use Rattle.plan.specs.declared.What.{What}
use Rattle.plan.specs.declared.What.TheVariants as what

abbrev pub limit_text : Limit → Bytes
limit_text limit.Bytes = codes "a node's path has at most 255 bytes"
limit_text limit.Elements = codes "a node's path has at most 16 elements"
limit_text limit.Element = codes "an element of a node's path has at most 63 bytes"

-- which part of the line it is, the place, and what is wrong there
abbrev pub fault_text : Fault → Bytes
fault_text (fault.Path i) = codes "path, " ++ invalid_text i
fault_text (fault.Limit place l) = codes "path, byte " ++ (decimal place ++ (codes ": " ++ limit_text l))
fault_text (fault.Interface i) = codes "interface, " ++ invalid_text i

abbrev pub what_text : What → Bytes
what_text what.Delay = codes "a Delay"
what_text what.Tuner = codes "a Tuner"
what_text (what.Standard k) = codes "a standard interface"
what_text what.Own = codes "an own interface"
