-- The names of usage pages and usages (HID 1.11, Sections 5.5 and 6.2.2.7; HID Usage Tables 1.5).
use Rattle.std.specs.Prelude.{ℕ, Bool, ◌+◌, ◌*◌, ◌/◌, ◌%◌, ◌&&◌, nat_le, nat_lt, if◌then◌else◌}
use Rattle.std.specs.Prelude.{List, ◌++◌}
use Rattle.std.specs.Prelude.{codes, decimal, Option, Some, None}
use Rattle.hidreport_usages.specs.Digits.{four_digits}
use Rattle.hidreport_usages.specs.Families.{family_of, numbered_name}
use Rattle.hidreport_usages.specs.PageRows.{page_rows}
use Rattle.hidreport_usages.specs.Rows.{name_in}
use Rattle.hidreport_usages.specs.UsageRows.{usage_rows}
use Rattle.hidreport_usages.specs.declared.family.Family.{Family}
use Rattle.hidreport_usages.specs.declared.usage.UsageName.{UsageName}
use Rattle.hidreport_usages.specs.declared.usage.UsageName.TheVariants.{Listed, Button, Instance}
use Rattle.hidreport_usages.specs.declared.usage.UsageName.TheVariants.{CodeUnit, Enumerated}
use Rattle.hidreport_usages.specs.declared.usage.UsageName.TheVariants.{Vendor}
use Rattle.hidreport_usages.specs.declared.page.PageName.{PageName}
use Rattle.hidreport_usages.specs.declared.page.PageName.TheVariants.{Listed as ListedPage}
use Rattle.hidreport_usages.specs.declared.page.PageName.TheVariants.{Vendor as VendorPage}

-- pages FF00 to FFFF are for vendors
abbrev pub is_vendor_page : ℕ → Bool
is_vendor_page page = nat_le 0xff00 page && nat_lt page 0x1_0000

-- the name of a vendor's page: of page ff00 `Vendor-defined FF00`
abbrev pub vendor_name : ℕ → Option (List ℕ)
vendor_name page =
    if is_vendor_page page then Some (codes "Vendor-defined " ++ four_digits page) else None

-- all other pages have the names of the table, if any
abbrev pub page_name : ℕ → Option (List ℕ)
page_name page = if is_vendor_page page then vendor_name page else name_in page_rows page

-- a page of a family has names by its rule; all others have those of the table, if any
abbrev pub name_by : Option Family → ℕ → ℕ → Option (List ℕ)
name_by (Some family) page id = numbered_name family id
name_by None page id = name_in usage_rows (page * 65536 + id)

-- the name of a usage on a page
abbrev pub name_on : ℕ → ℕ → Option (List ℕ)
name_on page id = name_by (family_of page) page id

-- the name of a usage as one number, with its page in the upper half
abbrev pub name_of_number : ℕ → Option (List ℕ)
name_of_number number = name_on (number / 65536) (number % 65536)

-- the name of a number by the families alone
abbrev pub numbered_by : Option Family → ℕ → Option (List ℕ)
numbered_by (Some family) id = numbered_name family id
numbered_by None id = None

-- the name of a usage on a page that numbers its usages: `Button 3`
abbrev pub numbered_text : ℕ → Option (List ℕ)
numbered_text number = numbered_by (family_of (number / 65536)) (number % 65536)

-- the lower of two numbers, or the one that there is
abbrev pub lower : Option ℕ → Option ℕ → Option ℕ
lower None other = other
lower (Some number) None = Some number
lower (Some number) (Some other) = Some (if nat_le number other then number else other)

-- what is written for the name of a usage
abbrev pub name_text : UsageName → List ℕ
name_text (Listed name) = name.now
name_text (Button number) = codes "Button " ++ decimal number
name_text (Instance number) = codes "Instance " ++ decimal number
name_text (CodeUnit number) = codes "U+" ++ four_digits number
name_text (Enumerated number) = codes "Enum " ++ decimal number
name_text (Vendor number) = codes "Vendor Usage " ++ four_digits number

-- what is written for the name of a page
abbrev pub page_text : PageName → List ℕ
page_text (ListedPage name) = name.now
page_text (VendorPage page) = codes "Vendor-defined " ++ four_digits page
