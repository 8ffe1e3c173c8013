-- Pages whose usages are numbered without end, and have their names by a rule.
use Rattle.std.specs.Prelude.{ℕ, ◌==◌, ◌&&◌, nat_le, nat_lt, if◌then◌else◌, List, ◌++◌, codes}
use Rattle.std.specs.Prelude.{decimal}
use Rattle.std.specs.Prelude.{Option, Some, None}
use Rattle.hidreport_usages.specs.Digits.{four_digits}
use Rattle.hidreport_usages.specs.declared.family.Family.{Family}
use Rattle.hidreport_usages.specs.declared.family.Family.TheVariants.{Button, Instance, CodeUnit}
use Rattle.hidreport_usages.specs.declared.family.Family.TheVariants.{Enumerated, Vendor}

-- the family of a page, if it has one
abbrev pub family_of : ℕ → Option Family
family_of page =
    if page == 0x09 then Some Button
    else (if page == 0x0a then Some Instance
    else (if page == 0x10 then Some CodeUnit
    else (if page == 0x81 then Some Enumerated
    else (if nat_le 0xff00 page && nat_lt page 0x1_0000 then Some Vendor else None))))

-- a name with a number from 1 on, and another for 0
abbrev pub counted : Option (List ℕ) → List ℕ → ℕ → Option (List ℕ)
counted zeroth prefix id = if id == 0 then zeroth else Some (prefix ++ decimal id)

-- the name of a usage of a family
abbrev pub numbered_name : Family → ℕ → Option (List ℕ)
numbered_name Button id = counted (Some (codes "No Button Pressed")) (codes "Button ") id
numbered_name Instance id = counted None (codes "Instance ") id
numbered_name CodeUnit id = Some (codes "U+" ++ four_digits id)
numbered_name Enumerated id = counted None (codes "Enum ") id
numbered_name Vendor id = Some (codes "Vendor Usage " ++ four_digits id)
